-- Samples and answers, one after another.
use Rattle.std.proofs.Common.{◌≡◌, ℕ, ◌+◌, ◌<◌, ◌≤◌, List, [], ◌∷◌, length, get_or, drop, map, sym, ◌∙◌, ap, subst}
use Rattle.std.proofs.Common.{add-one}
use Rattle.std.specs.Prelude.{◌↔◌}
use Rattle.std.proofs.Math.Seq.{drop-cons}
use Rattle.std.proofs.lemmas.List.{drop_all}
use Rattle.ts_base.specs.declared.Answer.{Answer}
use Rattle.ts_base.specs.Dictionary.{answer_value}
use Rattle.ts_thesaurus.specs.declared.rule.Sample.{Sample}
use Rattle.ts_thesaurus.specs.Rules.{SampleWord, Fits, FitsFirst, FitsAll}
use Rattle.ts_thesaurus.specs.Views.{sample_value}

-- the samples from the place on fit the answers from there on just where all fit all
abbrev pub FirstFrom : List Sample → List Answer → ℕ → Type 0
FirstFrom samples answers i = FitsFirst (map sample_value samples) (map answer_value answers)
    ↔ FitsFirst (map sample_value (drop i samples)) (map answer_value (drop i answers))

abbrev pub AllFrom : List Sample → List Answer → ℕ → Type 0
AllFrom samples answers i = FitsAll (map sample_value samples) (map answer_value answers)
    ↔ FitsAll (map sample_value (drop i samples)) (map answer_value (drop i answers))

drop-next : {A : Type 0} (xs : List A) (i : ℕ) (d : A) → i < length xs → drop i xs ≡ get_or xs i d ∷ drop (i + 1) xs
drop-next xs i d h = drop-cons xs i d h ∙ ap (λ n. get_or xs i d ∷ drop n xs) (sym (add-one i))

module _ (samples : List Sample) (answers : List Answer) (i : ℕ) (s : Sample) (a : Answer) (h : i < length samples)
    (k : i < length answers) where
  abbrev FirstParts : Type 0
  FirstParts = FirstFrom samples answers i → FitsFirst (map sample_value samples) (map answer_value answers)
      ↔ (Fits (sample_value (get_or samples i s)) (answer_value (get_or answers i a))
      × FitsFirst (map sample_value (drop (i + 1) samples)) (map answer_value (drop (i + 1) answers)))

  first_parts : FirstParts
  first_parts f =
      let e = drop-next samples i s h in
      let d = drop-next answers i a k in
      let F : List Sample → List Answer → Type 0 = λ x y. FitsFirst (map sample_value x) (map answer_value y) in (
        (λ w. subst (λ y. F (get_or samples i s ∷ drop (i + 1) samples) y) d
            (subst (λ x. F x (drop i answers)) e (f.0 w))),
        (λ w. f.1 (subst (λ x. F x (drop i answers)) (sym e)
            (subst (λ y. F (get_or samples i s ∷ drop (i + 1) samples) y) (sym d) w))),
      )

  pub first_more : FirstFrom samples answers i
      → Fits (sample_value (get_or samples i s)) (answer_value (get_or answers i a)) → FirstFrom samples answers (i + 1)
  first_more f fit = let p = first_parts f in ((λ w. (p.0 w).1), (λ w. p.1 (fit, w)))

  pub first_not : FirstFrom samples answers i → ¬ Fits (sample_value (get_or samples i s)) (answer_value
      (get_or answers i a)) → ¬ FitsFirst (map sample_value samples) (map answer_value answers)
  first_not f no_fit w = no_fit ((first_parts f).0 w).0

  all_parts : AllFrom samples answers i → FitsAll (map sample_value samples) (map answer_value answers)
      ↔ (Fits (sample_value (get_or samples i s)) (answer_value (get_or answers i a))
      × FitsAll (map sample_value (drop (i + 1) samples)) (map answer_value (drop (i + 1) answers)))
  all_parts f =
      let e = drop-next samples i s h in
      let d = drop-next answers i a k in
      let F : List Sample → List Answer → Type 0 = λ x y. FitsAll (map sample_value x) (map answer_value y) in (
        (λ w. subst (λ y. F (get_or samples i s ∷ drop (i + 1) samples) y) d
            (subst (λ x. F x (drop i answers)) e (f.0 w))),
        (λ w. f.1 (subst (λ x. F x (drop i answers)) (sym e)
            (subst (λ y. F (get_or samples i s ∷ drop (i + 1) samples) y) (sym d) w))),
      )

  pub all_more : AllFrom samples answers i
      → Fits (sample_value (get_or samples i s)) (answer_value (get_or answers i a)) → AllFrom samples answers (i + 1)
  all_more f fit = let p = all_parts f in ((λ w. (p.0 w).1), (λ w. p.1 (fit, w)))

  pub all_not : AllFrom samples answers i → ¬ Fits (sample_value (get_or samples i s)) (answer_value
      (get_or answers i a)) → ¬ FitsAll (map sample_value samples) (map answer_value answers)
  all_not f no_fit w = no_fit ((all_parts f).0 w).0

-- no answer is left for a sample
pub first_short : (samples : List Sample) (answers : List Answer) (i : ℕ) (s : Sample)
    → i < length samples → length answers ≤ i → FirstFrom samples answers i
    → ¬ FitsFirst (map sample_value samples) (map answer_value answers)
first_short samples answers i s h k f w =
    let F : List Sample → List Answer → Type 0 = λ x y. FitsFirst (map sample_value x) (map answer_value y) in
    subst (λ y. F (get_or samples i s ∷ drop (i + 1) samples) y) (drop_all i answers k)
    (subst (λ x. F x (drop i answers)) (drop-next samples i s h) (f.0 w))

-- no sample is left for an answer
pub all_short : (samples : List Sample) (answers : List Answer) (i : ℕ) (a : Answer) → i < length answers
    → length samples ≤ i → AllFrom samples answers i → ¬ FitsAll (map sample_value samples) (map answer_value answers)
all_short samples answers i a h k f w =
    let F : List Sample → List Answer → Type 0 = λ x y. FitsAll (map sample_value x) (map answer_value y) in
    subst (λ x. F x (get_or answers i a ∷ drop (i + 1) answers)) (drop_all i samples k)
    (subst (λ y. F (drop i samples) y) (drop-next answers i a h) (f.0 w))

pub first_over : (samples : List Sample) (answers : List Answer) (i : ℕ) → length samples ≤ i
    → FirstFrom samples answers i → FitsFirst (map sample_value samples) (map answer_value answers)
first_over samples answers i h f = f.1
    (subst (λ x. FitsFirst (map sample_value x) (map answer_value (drop i answers))) (sym (drop_all i samples h)) tt)

all_none : (samples : List SampleWord) → FitsAll samples []
all_none [] = tt
all_none (s ∷ samples) = tt

pub all_over : (samples : List Sample) (answers : List Answer) (i : ℕ) → length answers ≤ i → AllFrom samples answers i
    → FitsAll (map sample_value samples) (map answer_value answers)
all_over samples answers i h f = f.1 (subst (λ y. FitsAll (map sample_value (drop i samples)) (map answer_value y))
    (sym (drop_all i answers h)) (all_none (map sample_value (drop i samples))))
