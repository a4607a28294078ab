-- A word that is not empty has a stem that is not empty.
use Rattle.std.proofs.Common.{◌≡◌, ℕ, ◌+◌, ◌-◌, ◌<◌, ◌≤◌, List, [], ◌∷◌, ◌++◌, length, refl, sym, subst, Some, None}
use Rattle.std.proofs.Common.{arith, Bool, true, false, not, nat_lt, nat_eq, ◌&&◌, ◌||◌, ◌==◌, if◌then◌else◌}
use Rattle.std.proofs.Common.{length-append, length-take, codes, bytes_eq}
use Rattle.std.specs.List.{list_all}
use Rattle.porter_stem.specs.declared.rule.Condition.{Condition}
use Rattle.porter_stem.specs.declared.rule.Condition.TheVariants.{Always, HasVowel, MeasureAbove, IonBehind, FinalE}
use Rattle.porter_stem.specs.Letters.{ends_double}
use Rattle.porter_stem.specs.Tables.{Rule, rule, before, holds, changed, if_holds, step, rules_1a, rules_1b, rules_1c}
use Rattle.porter_stem.specs.Tables.{rules_2, rules_3, rules_4, rules_5a}
use Rattle.porter_stem.specs.Stem.{without_last, step_1b, step_5b, stemmed, stem, is_small}
use Rattle.porter_stem.proofs.Longest.{passes}
use Rattle.porter_stem.proofs.Lengths.{suffix_fits, length_changed}
use Rattle.porter_stem.proofs.StepCases.{IsApplied, step_case, step_1b_case, mended_case, step_5b_case, stemmed_keeps}

abbrev pub IsSome : List ℕ → Type 0
IsSome word = 0 < length word

abbrev pub asks : Condition → Bool
asks Always = false
asks _ = true

abbrev pub rule_asks : Rule → Bool
rule_asks r = asks r.condition

no_less : (n : ℕ) → nat_lt n 0 ≡ true → ⊥
no_less n e = grind arith

-- what asks something of a stem asks that there is one
met_some : (c : Condition) (stem : List ℕ) → asks c ≡ true → holds c stem ≡ true → IsSome stem
met_some c (x ∷ stem) a h = omega arith
met_some Always [] a h = cc
met_some HasVowel [] a h = cc
met_some (MeasureAbove n) [] a h = absurd (no_less n h)
met_some IonBehind [] a h = cc
met_some FinalE [] a h = cc

some_append : (u v : List ℕ) → IsSome u → IsSome (u ++ v)
some_append u v h = let e : length (u ++ v) ≡ length u + length v = length-append u v in omega (arith, e)

changed_some : (rules : List Rule) (word : List ℕ) → list_all rule_asks rules ≡ true → (r : Rule)
    → IsApplied rules word r → IsSome (before r.suffix word ++ r.given)
changed_some rules word a r k = some_append (before r.suffix word) r.given
    (met_some r.condition (before r.suffix word) (passes rule_asks rules r a k.among) k.met)

step_some : (rules : List Rule) (word : List ℕ) → list_all rule_asks rules ≡ true → IsSome word
    → IsSome (step rules word)
step_some rules word a h = step_case IsSome rules word h (changed_some rules word a)

double_is_two : (word : List ℕ) → ends_double word ≡ true → IsSome (without_last word)
double_is_two [] e = cc
double_is_two (c ∷ []) e = cc
double_is_two (c ∷ d ∷ word) e = simp length-take (omega arith)

step_1b_some : (word : List ℕ) → IsSome word → IsSome (step_1b word)
step_1b_some word h = step_1b_case IsSome rules_1b word h
    (λ r k z. let u = before r.suffix word ++ r.given in let s : IsSome u = changed_some rules_1b word refl r k in
    mended_case IsSome u s (some_append u (codes "e") s) (double_is_two u))
    (changed_some rules_1b word refl)

step_5b_some : (word : List ℕ) → IsSome word → IsSome (step_5b word)
step_5b_some word h = step_5b_case IsSome word h (double_is_two word)

same_byte : (a b : ℕ) → nat_eq a b ≡ true → nat_eq b a ≡ false → ⊥
same_byte a b e f = grind arith

left_false : (a : Bool) → (a && true) ≡ false → a ≡ false
left_false true e = e
left_false false e = refl

right_false : (a b : Bool) → (a || b) ≡ false → b ≡ false
right_false true b e = cc
right_false false b e = e

if_else : {A : Type 0} (Q : A → Type 0) (b : Bool) (x y : A) → Q x → (b ≡ false → Q y) → Q (if b then x else y)
if_else Q true x y p q = p
if_else Q false x y p q = q refl

-- a rule of step 1a gives something, or takes one letter off
abbrev pub takes_one : Rule → Bool
takes_one r = nat_lt 0 (length r.given) || (length r.suffix == 1)

one_or_some : (m n k : ℕ) → (nat_lt 0 m || (n == 1)) ≡ true → 2 ≤ k → n ≤ k → 0 < (k - n) + m
one_or_some m n k e h f = grind arith

-- step 1a empties the word `s` alone
one_letter : (c : ℕ) (b : Bool) → nat_eq 115 c ≡ b → bytes_eq (c ∷ []) (codes "s") ≡ false
    → IsSome (step rules_1a (c ∷ []))
one_letter c true e h = absurd (same_byte 115 c e (left_false (nat_eq c 115) h))
one_letter c false e h = subst (λ (x : Bool). IsSome (changed
    (if_holds (c ∷ []) (if x && true then Some (rule Always (codes "s") []) else None)) (c ∷ []))) (sym e) (omega arith)

step_1a_some : (word : List ℕ) → IsSome word → bytes_eq word (codes "s") ≡ false → IsSome (step rules_1a word)
step_1a_some [] h n = h
step_1a_some (c ∷ []) h n = one_letter c (nat_eq 115 c) refl n
step_1a_some (c ∷ d ∷ word) h n = step_case IsSome rules_1a (c ∷ d ∷ word) h
    (λ r k. let fits : length r.suffix ≤ length (c ∷ d ∷ word) = suffix_fits r.suffix (c ∷ d ∷ word) k.ends in
    subst (λ (n : ℕ). 0 < n) (sym (length_changed r.suffix r.given (c ∷ d ∷ word) fits))
    (one_or_some (length r.given) (length r.suffix) (length (c ∷ d ∷ word)) (passes takes_one rules_1a r refl k.among)
    (omega arith) fits))

stemmed_some : (word : List ℕ) → IsSome word → bytes_eq word (codes "s") ≡ false → IsSome (stemmed word)
stemmed_some word h n = stemmed_keeps IsSome word (step_1a_some word h n) step_1b_some
    (λ w k. step_some rules_1c w refl k) (λ w k. step_some rules_2 w refl k)
    (λ w k. step_some rules_3 w refl k) (λ w k. step_some rules_4 w refl k)
    (λ w k. step_some rules_5a w refl k) step_5b_some

pub stem_some : (word : List ℕ) → IsSome word → IsSome (stem word)
stem_some word h = if_else IsSome _ word (stemmed word) h
    (λ e. stemmed_some word h (right_false (not (list_all is_small word)) (bytes_eq word (codes "s")) e))
