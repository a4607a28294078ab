-- Queries that mean nothing: they ask for no key, no vector satisfies one, and their judge says so.
use Rattle.std.proofs.Common.{◌≡◌, false, [], refl}
use Rattle.ts_base.specs.declared.Tri.TheVariants.{False, True}
use Rattle.gin_opclass.specs.Class.{Meaning, meaning, JudgeIsSound}

abbrev pub no_query : Meaning (Unit {0})
no_query = meaning (λ q. []) (λ q. false) (λ q v. ⊥) (λ q values. False)

not_yes : False ≡ True → ⊥
not_yes e = cc

pub no_is_sound : JudgeIsSound no_query
no_is_sound = record {
  yes = λ q v values fits is. not_yes is;
  no = λ q v values fits is held. held;
  whole = λ q is. absurd (is refl);
}
