-- Where no thesaurus is listed, each token is a part by itself.
use Rattle.std.proofs.Common.{◌≡◌, ◌≢◌, ◌⊎◌, inl, inr, ℕ, List, [], ◌∷◌, map, Bool, true, false, refl, sym, ◌∙◌, ap}
use Rattle.std.proofs.Common.{subst}
use Rattle.std.specs.Prelude.{All, Option, Some, None, nat_lt, slice_get, if◌then◌else◌}
use Rattle.std.proofs.lemmas.Bool.{true≢false}
use Rattle.std.proofs.lemmas.List.Elements.{All-nil, All-head, All-tail}
use Rattle.ts_base.specs.Dictionary.{WordAnswer, unknown_word, stop_word, word_lexemes}
use Rattle.ts_base.specs.declared.TheConstants.{LONGEST_LEXEME}
use Rattle.ts_parser.specs.declared.iter.Token.{Token}
use Rattle.ts_config.specs.Rules.{Rules, simple_rules, synonym_rules, porter_rules, thesaurus_rules, answer_by}
use Rattle.ts_config.specs.Rules.{is_thesaurus}
use Rattle.ts_config.specs.Mappings.{Mapping, list_for}
use Rattle.ts_config.specs.Known.{NamedRules, Known}
use Rattle.ts_config.specs.Answers.{word_of, asked_for, answer_of, answer_at, or_answer, first_answer, token_answer}
use Rattle.ts_config.specs.Parts.{GivesBy, GivesAny, Decides, AreParts, no_part, part, IsWordWise, HasNoThesaurus}
use Rattle.ts_config.specs.Parts.{TokensAreParts}

or_known : (a b : WordAnswer) → a ≢ unknown_word → or_answer a b ≡ a
or_known unknown_word b n = absurd (n refl)
or_known stop_word b n = refl
or_known (word_lexemes found) b n = refl

abbrev Plain : Known → ℕ → Type 0
Plain known p = IsWordWise (slice_get known.dictionaries p)

module _ (known : Known) (m : Mapping) (text : List ℕ) where
  given_plain : (o : Option NamedRules) (p : ℕ) (t : Token) (ts : List Token) (a : WordAnswer) (r : List Token)
      → IsWordWise o → GivesAny known m text o p t ts a r
      → (a ≡ answer_of o (word_of text t)) × (r ≡ ts)
  given_plain None p t ts a r w h = h
  given_plain (Some d) p t ts a r w h = by d.rules w h
    where
      by : (rules : Rules) → is_thesaurus rules ≡ false → GivesBy known m text rules p t ts a r
          → (a ≡ answer_by rules (word_of text t)) × (r ≡ ts)
      by (simple_rules stops accept) e k = k
      by (synonym_rules kept) e k = k
      by (porter_rules stops) e k = k
      by (thesaurus_rules rules sub) e k = absurd (true≢false e)

  plain_given : (o : Option NamedRules) (p : ℕ) (t : Token) (ts : List Token) → IsWordWise o
      → GivesAny known m text o p t ts (answer_of o (word_of text t)) ts
  plain_given None p t ts w = (refl, refl)
  plain_given (Some d) p t ts w = by d.rules w
    where
      by : (rules : Rules) → is_thesaurus rules ≡ false
          → GivesBy known m text rules p t ts (answer_by rules (word_of text t)) ts
      by (simple_rules stops accept) e = (refl, refl)
      by (synonym_rules kept) e = (refl, refl)
      by (porter_rules stops) e = (refl, refl)
      by (thesaurus_rules rules sub) e = absurd (true≢false e)

  decided_plain : (t : Token) (ts : List Token) (ps : List ℕ) (a : WordAnswer) (r : List Token) → All (Plain known) ps
      → Decides known m text t ts ps a r
      → (a ≡ first_answer known ps (word_of text t)) × (r ≡ ts)
  decided_plain t ts [] a r w h = h
  decided_plain t ts (p ∷ ps) a r w (inl (x, n)) =
      let k = given_plain (slice_get known.dictionaries p) p t ts a r (All-head (Plain known) p ps w) x in (
        k.0 ∙ sym (or_known (answer_at known p (word_of text t)) (first_answer known ps (word_of text t))
            (λ e. n (k.0 ∙ e))),
        k.1,
      )
  decided_plain t ts (p ∷ ps) a r w (inr (x, h)) =
      let k = given_plain (slice_get known.dictionaries p) p t ts unknown_word ts (All-head (Plain known) p ps w) x in
      let l = decided_plain t ts ps a r (All-tail (Plain known) p ps w) h in
      (l.0 ∙ ap (λ q. or_answer q (first_answer known ps (word_of text t))) k.0, l.1)

  plain_decided : (t : Token) (ts : List Token) (ps : List ℕ) → All (Plain known) ps
      → Decides known m text t ts ps (first_answer known ps (word_of text t)) ts
  plain_decided t ts [] w = (refl, refl)
  plain_decided t ts (p ∷ ps) w =
      by (answer_at known p (word_of text t)) (plain_given (slice_get known.dictionaries p) p t ts
      (All-head (Plain known) p ps w)) (plain_decided t ts ps (All-tail (Plain known) p ps w))
    where
      Given : WordAnswer → Type 0
      Given a = GivesAny known m text (slice_get known.dictionaries p) p t ts a ts

      by : (a : WordAnswer) → Given a → Decides known m text t ts ps (first_answer known ps (word_of text t)) ts
          → (Given (or_answer a (first_answer known ps (word_of text t)))
          × (or_answer a (first_answer known ps (word_of text t)) ≢ unknown_word))
          ⊎ (Given unknown_word
          × Decides known m text t ts ps (or_answer a (first_answer known ps (word_of text t))) ts)
      by unknown_word h k = inr (h, k)
      by stop_word h k = inl (h, λ e. let z : ⊥ = cc in z)
      by (word_lexemes found) h k = inl (h, λ e. let z : ⊥ = cc in z)

  asked_plain : HasNoThesaurus known m → (t : Token) → All (Plain known) (asked_for m t)
  asked_plain none t = by (nat_lt LONGEST_LEXEME t.length)
    where
      by : (b : Bool) → All (Plain known) (if b then [] else list_for m t.kind)
      by true = All-nil (Plain known)
      by false = none t.kind

  parts_plain : HasNoThesaurus known m → (ts : List Token) (answers : List WordAnswer)
      → AreParts known m text ts answers → answers ≡ map (token_answer known m text) ts
  parts_plain none _ _ no_part = refl
  parts_plain none _ _ (part t ts r a more d h) =
      let k = decided_plain t ts (asked_for m t) a r (asked_plain none t) d in
      let rest : more ≡ map (token_answer known m text) ts =
      parts_plain none r more h ∙ ap (map (token_answer known m text)) k.1 in
      (λ i. k.0 i ∷ rest i)

  plain_parts : HasNoThesaurus known m → (ts : List Token)
      → AreParts known m text ts (map (token_answer known m text) ts)
  plain_parts none [] = no_part
  plain_parts none (t ∷ ts) =
      part t ts ts (token_answer known m text t) (map (token_answer known m text) ts)
      (plain_decided t ts (asked_for m t) (asked_plain none t)) (plain_parts none ts)

pub tokens_alone : TokensAreParts
tokens_alone known m text ts answers none = (
  λ h. parts_plain known m text none ts answers h,
  λ e. subst (AreParts known m text ts) (sym e) (plain_parts known m text none ts),
)
