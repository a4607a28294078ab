-- How long stems are.
use Rattle.std.proofs.Common.{◌≡◌, ℕ, ◌+◌, ◌-◌, ◌<◌, ◌≤◌, List, ◌++◌, length, refl, ap, ◌∙◌, arith, Bool, true, false}
use Rattle.std.proofs.Common.{not, nat_lt, nat_le, ◌&&◌, ◌||◌, ◌==◌, length-append, length-take, codes}
use Rattle.std.specs.List.{list_all}
use Rattle.porter_stem.specs.Tables.{Rule, ends_in, before, step, rules_1a, rules_1b, rules_1c, rules_2, rules_3}
use Rattle.porter_stem.specs.Tables.{rules_4, rules_5a}
use Rattle.porter_stem.specs.Stem.{mended, without_last, step_1b, step_5b, stemmed, stem}
use Rattle.porter_stem.proofs.Longest.{passes}
use Rattle.porter_stem.proofs.StepCases.{step_case, step_1b_case, if_case, left_true, right_true, mended_case}
use Rattle.porter_stem.proofs.StepCases.{step_5b_case, stemmed_keeps}

-- what a rule gives is not longer than its suffix, and shorter by one where it is mended
abbrev pub is_no_longer : Rule → Bool
is_no_longer r = nat_le (length r.given) (length r.suffix)

abbrev pub is_shorter : Rule → Bool
is_shorter r = nat_le (length r.given) (length r.suffix) && (not (length r.given == 0) || nat_lt 0 (length r.suffix))

not_lt : (m n : ℕ) → not (nat_lt m n) ≡ true → n ≤ m
not_lt m n e = grind arith

is_le : (m n : ℕ) → nat_le m n ≡ true → m ≤ n
is_le m n e = grind arith

pub suffix_fits : (s word : List ℕ) → ends_in s word ≡ true → length s ≤ length word
suffix_fits s word e = not_lt _ _ (left_true _ _ e)

pub length_changed : (s g word : List ℕ) → length s ≤ length word
    → length (before s word ++ g) ≡ (length word - length s) + length g
length_changed s g word h =
    length-append (before s word) g ∙ ap (λ (n : ℕ). n + length g) (simp length-take (omega arith))

pub step_length : (rules : List Rule) (word : List ℕ) → list_all is_no_longer rules ≡ true
    → length (step rules word) ≤ length word
step_length rules word a = step_case (λ (w : List ℕ). length w ≤ length word) rules word (omega arith)
    (λ r h. let fits : length r.suffix ≤ length word = suffix_fits r.suffix word h.ends in
    let short : length r.given ≤ length r.suffix = is_le _ _ (passes is_no_longer rules r a h.among) in
    let e : length (before r.suffix word ++ r.given) ≡ (length word - length r.suffix) + length r.given =
    length_changed r.suffix r.given word fits in omega (arith, e))

length_without_last : (word : List ℕ) → length (without_last word) ≤ length word
length_without_last word = simp length-take (omega arith)

mended_length : (word : List ℕ) (n : ℕ) → length word + 1 ≤ n → length (mended word) ≤ n
mended_length word n h = mended_case (λ (w : List ℕ). length w ≤ n) word (omega arith)
    (let e : length (word ++ codes "e") ≡ length word + length (codes "e") = length-append word (codes "e") in omega
    (arith, e)) (λ d. let e : length (without_last word) ≤ length word = length_without_last word in omega arith)

none_given : (n : ℕ) → (n == 0) ≡ true → n ≡ 0
none_given n e = grind arith

some_suffix : (b c : Bool) → b ≡ true → (not b || c) ≡ true → c ≡ true
some_suffix true c e h = h
some_suffix false c e h = cc

is_lt : (m n : ℕ) → nat_lt m n ≡ true → m < n
is_lt m n e = grind arith

pub step_1b_length : (word : List ℕ) → length (step_1b word) ≤ length word
step_1b_length word = step_1b_case (λ (w : List ℕ). length w ≤ length word) rules_1b word (omega arith)
    (λ r h z. let fits : length r.suffix ≤ length word = suffix_fits r.suffix word h.ends in
    let none : length r.given ≡ 0 = none_given (length r.given) z in
    let some : 0 < length r.suffix =
    is_lt _ _ (some_suffix _ _ z (right_true _ _ (passes is_shorter rules_1b r refl h.among))) in
    let e : length (before r.suffix word ++ r.given) ≡ (length word - length r.suffix) + length r.given = length_changed
    r.suffix r.given word fits in mended_length (before r.suffix word ++ r.given) (length word) (omega (arith, e)))
    (λ r h. let fits : length r.suffix ≤ length word = suffix_fits r.suffix word h.ends in let short : length r.given
    ≤ length r.suffix = is_le _ _ (left_true _ _ (passes is_shorter rules_1b r refl h.among)) in
    let e : length (before r.suffix word ++ r.given) ≡ (length word - length r.suffix) + length r.given =
    length_changed r.suffix r.given word fits in omega (arith, e))

step_5b_length : (word : List ℕ) → length (step_5b word) ≤ length word
step_5b_length word =
    step_5b_case (λ (w : List ℕ). length w ≤ length word) word (omega arith) (λ d. length_without_last word)

le_trans : (a b c : ℕ) → a ≤ b → b ≤ c → a ≤ c
le_trans a b c h k = omega arith

stemmed_length : (word : List ℕ) → length (stemmed word) ≤ length word
stemmed_length word = stemmed_keeps (λ (w : List ℕ). length w ≤ length word) word (step_length rules_1a word refl)
    (λ w h. le_trans _ _ _ (step_1b_length w) h) (λ w h. le_trans _ _ _ (step_length rules_1c w refl) h)
    (λ w h. le_trans _ _ _ (step_length rules_2 w refl) h)
    (λ w h. le_trans _ _ _ (step_length rules_3 w refl) h) (λ w h. le_trans _ _ _ (step_length rules_4 w refl) h)
    (λ w h. le_trans _ _ _ (step_length rules_5a w refl) h)
    (λ w h. le_trans _ _ _ (step_5b_length w) h)

pub stem_length : (word : List ℕ) → length (stem word) ≤ length word
stem_length word =
    if_case (λ (w : List ℕ). length w ≤ length word) _ word (stemmed word) (omega arith) (stemmed_length word)
