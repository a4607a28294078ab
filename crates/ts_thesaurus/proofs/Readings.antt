-- One list of samples of each length fits, and lines have one reading.
use Rattle.std.proofs.Common.{◌≡◌, inl, inr, ℕ, List, [], ◌∷◌, refl, sym, ◌∙◌, ap, arith, Some}
use Rattle.ts_base.specs.Dictionary.{WordAnswer, unknown_word, stop_word, word_lexemes}
use Rattle.ts_base.proofs.FirstLines.{first_is_one, no_first}
use Rattle.ts_thesaurus.specs.Rules.{SampleWord, any_stop, with_lexemes, Rule, Fits}
use Rattle.ts_thesaurus.specs.Lines.{indexed_words, sample_words, GivesRule, IsRefused, AreRules}
use Rattle.ts_thesaurus.specs.Laws.{OneFits, LinesHaveOneReading}
use Rattle.ts_thesaurus.proofs.Sides.{one_sides}
use Rattle.ts_thesaurus.proofs.Progress.{none_refused}

pub one_sample : (answer : WordAnswer) (a b : SampleWord) → Fits a answer → Fits b answer → a ≡ b
one_sample unknown_word any_stop b f g = absurd f
one_sample unknown_word (with_lexemes l) b f g = absurd f
one_sample stop_word any_stop any_stop f g = refl
one_sample stop_word any_stop (with_lexemes m) f g = absurd g
one_sample stop_word (with_lexemes l) b f g = absurd f
one_sample (word_lexemes found) any_stop b f g = absurd f
one_sample (word_lexemes found) (with_lexemes l) any_stop f g = absurd g
one_sample (word_lexemes found) (with_lexemes l) (with_lexemes m) f g = ap with_lexemes (f ∙ sym g)

pub one_fits : OneFits
one_fits answers [] [] f g e = refl
one_fits answers [] (y ∷ b) f g e = absurd (omega arith)
one_fits answers (x ∷ a) [] f g e = absurd (omega arith)
one_fits [] (x ∷ a) (y ∷ b) f g e = absurd f
one_fits (w ∷ answers) (x ∷ a) (y ∷ b) f g e =
    let head : x ≡ y = one_sample w x y f.0 g.0 in
    let tail : a ≡ b = one_fits answers a b f.1 g.1 (omega arith) in
    ap (λ z. z ∷ a) head ∙ ap (λ z. y ∷ z) tail

one_rule : (answer : List ℕ → WordAnswer) (line : List ℕ) (a b : Rule) → GivesRule answer line a
    → GivesRule answer line b → a ≡ b
one_rule answer line a b g h =
    let same = one_sides line g.sample g.read.indexed h.sample h.read.indexed g.read.sides h.read.sides in
    let some : Some a.samples ≡ Some b.samples = sym g.samples ∙ ap (sample_words answer) same.0 ∙ h.samples in
    let given : Some a.words ≡ Some b.words = sym g.read.given ∙ ap (indexed_words answer) same.1 ∙ h.read.given in
    let samples : a.samples ≡ b.samples = cc in
    let words : a.words ≡ b.words = cc in
    λ i. record { samples = samples i; words = words i }

one_list : (answer : List ℕ → WordAnswer) (lines : List (List ℕ)) (a b : List Rule) → AreRules answer lines a
    → AreRules answer lines b → a ≡ b
one_list answer [] a b h k = h ∙ sym k
one_list answer (l ∷ lines) a b (inl h) (inl k) = one_list answer lines a b h.1 k.1
one_list answer (l ∷ lines) a b (inl h) (inr k) = absurd (k.3.read.counts h.0)
one_list answer (l ∷ lines) a b (inr h) (inl k) = absurd (h.3.read.counts k.0)
one_list answer (l ∷ lines) a b (inr h) (inr k) =
    let rule : h.0 ≡ k.0 = one_rule answer l h.0 k.0 h.3 k.3 in
    let rest : h.1 ≡ k.1 = one_list answer lines h.1 k.1 h.4 k.4 in
    h.2 ∙ ap (λ z. z ∷ h.1) rule ∙ ap (λ z. k.0 ∷ z) rest ∙ sym k.2

pub one_reading : LinesHaveOneReading
one_reading = record {
  rules = one_list;
  first = λ answer lines m n f g. first_is_one (IsRefused answer) lines m n f g;
  refused = λ answer lines a n h f. no_first (IsRefused answer) lines n (none_refused answer lines a h) f;
}
