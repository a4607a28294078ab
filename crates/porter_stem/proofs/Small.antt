-- Stems of small letters are of small letters.
use Rattle.std.proofs.Common.{◌≡◌, ℕ, zero, suc, ◌-◌, List, [], ◌∷◌, ◌++◌, length, take, refl, ap, ◌∙◌, Bool, true}
use Rattle.std.proofs.Common.{◌&&◌, codes}
use Rattle.std.specs.List.{list_all}
use Rattle.std.proofs.lemmas.List.Folds.{list_all-append}
use Rattle.porter_stem.specs.Tables.{Rule, before, step, rules_1a, rules_1b, rules_1c, rules_2, rules_3, rules_4}
use Rattle.porter_stem.specs.Tables.{rules_5a}
use Rattle.porter_stem.specs.Stem.{step_1b, step_5b, stemmed, stem, is_small}
use Rattle.porter_stem.proofs.Longest.{passes}
use Rattle.porter_stem.proofs.StepCases.{IsApplied, step_case, step_1b_case, if_case, left_true, right_true}
use Rattle.porter_stem.proofs.StepCases.{mended_case, step_5b_case, stemmed_keeps}

abbrev pub IsSmall : List ℕ → Type 0
IsSmall word = list_all is_small word ≡ true

both : (a b : Bool) → a ≡ true → b ≡ true → (a && b) ≡ true
both a b e f = ap (λ (x : Bool). x && b) e ∙ f

small_take : (n : ℕ) (word : List ℕ) → IsSmall word → IsSmall (take n word)
small_take zero word h = refl
small_take (suc n) [] h = refl
small_take (suc n) (c ∷ word) h = both _ _ (left_true _ _ h) (small_take n word (right_true _ _ h))

small_append : (u v : List ℕ) → IsSmall u → IsSmall v → IsSmall (u ++ v)
small_append u v h k = list_all-append is_small u v ∙ both _ _ h k

abbrev pub gives_small : Rule → Bool
gives_small r = list_all is_small r.given

changed_small : (rules : List Rule) (word : List ℕ) → list_all gives_small rules ≡ true → IsSmall word → (r : Rule)
    → IsApplied rules word r → IsSmall (before r.suffix word ++ r.given)
changed_small rules word a h r k = small_append (before r.suffix word) r.given
    (small_take (length word - length r.suffix) word h) (passes gives_small rules r a k.among)

step_small : (rules : List Rule) (word : List ℕ) → list_all gives_small rules ≡ true → IsSmall word
    → IsSmall (step rules word)
step_small rules word a h = step_case IsSmall rules word h (changed_small rules word a h)

step_1b_small : (word : List ℕ) → IsSmall word → IsSmall (step_1b word)
step_1b_small word h = step_1b_case IsSmall rules_1b word h
    (λ r k z. let u = before r.suffix word ++ r.given in let s : IsSmall u = changed_small rules_1b word refl h r k in
    mended_case IsSmall u s (small_append u (codes "e") s refl) (λ d. small_take (length u - 1) u s))
    (changed_small rules_1b word refl h)

step_5b_small : (word : List ℕ) → IsSmall word → IsSmall (step_5b word)
step_5b_small word h = step_5b_case IsSmall word h (λ d. small_take (length word - 1) word h)

stemmed_small : (word : List ℕ) → IsSmall word → IsSmall (stemmed word)
stemmed_small word h = stemmed_keeps IsSmall word (step_small rules_1a word refl h) step_1b_small
    (λ w k. step_small rules_1c w refl k) (λ w k. step_small rules_2 w refl k)
    (λ w k. step_small rules_3 w refl k) (λ w k. step_small rules_4 w refl k)
    (λ w k. step_small rules_5a w refl k) step_5b_small

pub stem_small : (word : List ℕ) → IsSmall word → IsSmall (stem word)
stem_small word h = if_case IsSmall _ word (stemmed word) h (stemmed_small word h)
