-- Lines have one reading.
use Rattle.std.proofs.Common.{◌≡◌, ℕ, List, Bool, refl, sym, ◌∙◌, ap, Option, Some, None}
use Rattle.ts_base.specs.declared.Found.{Found}
use Rattle.ts_base.proofs.FirstLines.{first_is_one, no_first}
use Rattle.ts_synonym.specs.Synonyms.{cased, IsBadLine, Synonyms, given_for, given_answer, IsSynonymList}
use Rattle.ts_synonym.specs.Synonyms.{LinesHaveOneReading}

same_given : (sensitive : Bool) (lines : List (List ℕ)) (a b : Synonyms) → IsSynonymList sensitive lines a
    → IsSynonymList sensitive lines b → (word : List ℕ) → given_for a word ≡ given_for b word
same_given sensitive lines a b h k word = by (given_for a word) refl (given_for b word) refl
  where
    by : (o : Option Found) → given_for a word ≡ o → (p : Option Found) → given_for b word ≡ p
        → given_for a word ≡ given_for b word
    by None e None f = e ∙ sym f
    by None e (Some y) f = (h.each word y).1 ((k.each word y).0 f) ∙ sym f
    by (Some x) e p f = e ∙ sym ((k.each word x).1 ((h.each word x).0 e))

pub one_reading : LinesHaveOneReading
one_reading = record {
  answers = λ sensitive lines a b h k word.
      let casing = h.casing ∙ sym k.casing in
      ap (λ s. given_answer (given_for a (cased s word))) casing
      ∙ ap given_answer (same_given sensitive lines a b h k (cased b.sensitive word));
  first = λ lines m n f g. first_is_one IsBadLine lines m n f g;
  refused = λ sensitive lines a n h f. no_first IsBadLine lines n h.fit f;
}
