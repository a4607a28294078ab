-- What a step keeps.
use Rattle.std.proofs.Common.{◌≡◌, ℕ, List, ◌++◌, length, refl, Bool, true, false, if◌then◌else◌, ◌&&◌, ◌==◌, IfSome}
use Rattle.std.proofs.Common.{Option, Some, None, codes}
use Rattle.porter_stem.specs.Letters.{ends_double}
use Rattle.porter_stem.specs.Tables.{Rule, ends_in, before, holds, longest, if_holds, applied, changed, step, rules_1a}
use Rattle.porter_stem.specs.Tables.{rules_1c, rules_2, rules_3, rules_4, rules_5a}
use Rattle.porter_stem.specs.Stem.{mended, mended_behind, without_last, step_1b, step_5b, stemmed}
use Rattle.porter_stem.specs.Laws.{IsOneOf}
use Rattle.porter_stem.proofs.Longest.{from_keeps}

-- a rule of the table whose suffix the word has and whose condition holds of the stem
pub record IsApplied (rules : List Rule) (word : List ℕ) (r : Rule) : Type 0 where
  pub among : IsOneOf r rules
  pub ends : ends_in r.suffix word ≡ true
  pub met : holds r.condition (before r.suffix word) ≡ true

if_met : (rules : List Rule) (word : List ℕ) (o : Option Rule) → IfSome o (λ (r : Rule). IsOneOf r rules
    × (ends_in r.suffix word ≡ true)) → IfSome (if_holds word o) (IsApplied rules word)
if_met rules word None h = tt
if_met rules word (Some r) h = at_test (holds r.condition (before r.suffix word)) refl
  where
    at_test : (b : Bool) → holds r.condition (before r.suffix word) ≡ b
        → IfSome (if b then Some r else None) (IsApplied rules word)
    at_test true e = record { among = h.0; ends = h.1; met = e }
    at_test false e = tt

pub applied_is : (rules : List Rule) (word : List ℕ) → IfSome (applied rules word) (IsApplied rules word)
applied_is rules word = if_met rules word (longest rules word) (from_keeps _ word None rules tt (λ r m e. (m, e)))

-- by the cases of a step
change_case : (Q : List ℕ → Type 0) (rules : List Rule) (word : List ℕ) (o : Option Rule)
    → IfSome o (IsApplied rules word) → Q word
    → ((r : Rule) → IsApplied rules word r → Q (before r.suffix word ++ r.given)) → Q (changed o word)
change_case Q rules word None h q k = q
change_case Q rules word (Some r) h q k = k r h

pub step_case : (Q : List ℕ → Type 0) (rules : List Rule) (word : List ℕ) → Q word
    → ((r : Rule) → IsApplied rules word r → Q (before r.suffix word ++ r.given)) → Q (step rules word)
step_case Q rules word q k = change_case Q rules word (applied rules word) (applied_is rules word) q k

mend_case : (Q : List ℕ → Type 0) (rules : List Rule) (word : List ℕ) (o : Option Rule)
    → IfSome o (IsApplied rules word) → Q word
    → ((r : Rule) → IsApplied rules word r → (length r.given == 0) ≡ true
    → Q (mended (before r.suffix word ++ r.given)))
    → ((r : Rule) → IsApplied rules word r → Q (before r.suffix word ++ r.given))
    → Q (mended_behind o (changed o word))
mend_case Q rules word None h q m k = q
mend_case Q rules word (Some r) h q m k = at_test (length r.given == 0) refl
  where
    at_test : (b : Bool) → (length r.given == 0) ≡ b
        → Q (if b then mended (before r.suffix word ++ r.given) else before r.suffix word ++ r.given)
    at_test true e = m r h e
    at_test false e = k r h

pub step_1b_case : (Q : List ℕ → Type 0) (rules : List Rule) (word : List ℕ) → Q word
    → ((r : Rule) → IsApplied rules word r → (length r.given == 0) ≡ true
    → Q (mended (before r.suffix word ++ r.given)))
    → ((r : Rule) → IsApplied rules word r → Q (before r.suffix word ++ r.given))
    → Q (mended_behind (applied rules word) (step rules word))
step_1b_case Q rules word q m k = mend_case Q rules word (applied rules word) (applied_is rules word) q m k

-- by the cases of what mends a word
pub if_case : {A : Type 0} (Q : A → Type 0) (b : Bool) (x y : A) → Q x → Q y → Q (if b then x else y)
if_case Q true x y p q = p
if_case Q false x y p q = q

pub if_case_where : {A : Type 0} (Q : A → Type 0) (b : Bool) (x y : A) → (b ≡ true → Q x) → Q y → Q (if b then x else y)
if_case_where Q true x y p q = p refl
if_case_where Q false x y p q = q

pub left_true : (a b : Bool) → (a && b) ≡ true → a ≡ true
left_true true b e = refl
left_true false b e = cc

pub right_true : (a b : Bool) → (a && b) ≡ true → b ≡ true
right_true true b e = e
right_true false b e = cc

pub mended_case : (Q : List ℕ → Type 0) (word : List ℕ) → Q word → Q (word ++ codes "e")
    → (ends_double word ≡ true → Q (without_last word)) → Q (mended word)
mended_case Q word same more less =
    if_case Q _ (word ++ codes "e") _ more
    (if_case_where Q _ (without_last word) _ (λ e. less (left_true _ _ e))
    (if_case Q _ (word ++ codes "e") word more same))

pub step_5b_case : (Q : List ℕ → Type 0) (word : List ℕ) → Q word → (ends_double word ≡ true → Q (without_last word))
    → Q (step_5b word)
step_5b_case Q word same less =
    if_case_where Q _ (without_last word) word (λ e. less (left_true _ _ (right_true _ _ e))) same

-- what each step keeps, all of them do
pub stemmed_keeps : (Q : List ℕ → Type 0) (word : List ℕ) → Q (step rules_1a word)
    → ((w : List ℕ) → Q w → Q (step_1b w)) → ((w : List ℕ) → Q w → Q (step rules_1c w))
    → ((w : List ℕ) → Q w → Q (step rules_2 w)) → ((w : List ℕ) → Q w → Q (step rules_3 w))
    → ((w : List ℕ) → Q w → Q (step rules_4 w))
    → ((w : List ℕ) → Q w → Q (step rules_5a w)) → ((w : List ℕ) → Q w → Q (step_5b w)) → Q (stemmed word)
stemmed_keeps Q word q k1 k2 k3 k4 k5 k6 k7 =
    let a = step rules_1a word in let b = step_1b a in let c = step rules_1c b in
    let d = step rules_2 c in let e = step rules_3 d in let f = step rules_4 e in let g = step rules_5a f in
    k7 g (k6 f (k5 e (k4 d (k3 c (k2 b (k1 a q))))))
