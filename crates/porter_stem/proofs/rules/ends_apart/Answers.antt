use Rattle.std.proofs.Common.{◌≡◌, ◌≢◌, inl, inr, ℕ, true, false, not, nat_eq, sym}
use Rattle.std.specs.Prelude.{IsTrue}
use Rattle.std.proofs.lemmas.Bool.Decides.{eqb_tells}
use Rattle.porter_stem.proofs.Ends.{apart}
use Rattle.porter_stem.proofs.rules.ends_apart.Goals as goal

other : (a b : ℕ) → IsTrue (not (nat_eq a b)) → a ≢ b
other a b t = elim (eqb_tells a b) [
  | inl e ↦ absurd (let z : false ≡ true = rw e.0 at t in cc)
  | inr n ↦ n.1
]

pub returns-in-Some-Some : goal.returns-in-Some-Some
returns-in-Some-Some c = λ t.
    apart c.args.suffix.now c.args.word.now c.in-Some-Some.letter.now c.in-Some-Some.end.now
    (sym c.in-Some-Some.ensures.value) (sym c.in-Some-Some.ensures'.value)
    (other c.in-Some-Some.letter.now c.in-Some-Some.end.now t)
