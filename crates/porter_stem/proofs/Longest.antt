-- The rule with the longest suffix.
use Rattle.std.proofs.Common.{◌≡◌, inl, inr, ℕ, ◌≤◌, List, [], ◌∷◌, length, refl, ap, ◌∙◌, arith, Bool, true, false}
use Rattle.std.proofs.Common.{nat_lt, if◌then◌else◌, ◌&&◌, IfSome, Option, Some, None}
use Rattle.std.specs.List.{list_all}
use Rattle.porter_stem.specs.Tables.{Rule, ends_in, longer, longest_from, longest}
use Rattle.porter_stem.specs.Laws.{Each, IsOneOf, IsNoLongerThan, IsRuleOf, IsLongest}

-- the one is there where the other is, and not shorter
abbrev pub IsUpTo : Option Rule → Option Rule → Type 0
IsUpTo None o = Unit {0}
IsUpTo (Some r) None = ⊥
IsUpTo (Some r) (Some s) = length r.suffix ≤ length s.suffix

up_to_same : (o : Option Rule) → IsUpTo o o
up_to_same None = tt
up_to_same (Some r) = omega arith

up_to_trans : (o p q : Option Rule) → IsUpTo o p → IsUpTo p q → IsUpTo o q
up_to_trans None p q a b = tt
up_to_trans (Some r) None q a b = absurd a
up_to_trans (Some r) (Some s) None a b = absurd b
up_to_trans (Some r) (Some s) (Some t) a b = omega arith

pick : (P : Option Rule → Type 0) (b : Bool) (x y : Option Rule) → (b ≡ true → P x) → (b ≡ false → P y)
    → P (if b then x else y)
pick P true x y h k = h refl
pick P false x y h k = k refl

both_true : (a b : Bool) → (a && b) ≡ true → (a ≡ true) × (b ≡ true)
both_true true b e = (refl, e)
both_true false b e = cc

lt_of : (m n : ℕ) → nat_lt m n ≡ true → m ≤ n
lt_of m n e = grind arith

le_of : (m n : ℕ) → nat_lt m n ≡ false → n ≤ m
le_of m n e = grind arith

one_false : (a b : Bool) → (a && b) ≡ false → a ≡ true → b ≡ false
one_false true b e h = e
one_false false b e h = cc

longer_up_to : (w : List ℕ) (o : Option Rule) (r : Rule) → IsUpTo o (longer w o r)
longer_up_to w None r = tt
longer_up_to w (Some s) r =
    pick (IsUpTo (Some s)) (ends_in r.suffix w && nat_lt (length s.suffix) (length r.suffix)) (Some r) (Some s)
    (λ e. lt_of _ _ ((both_true _ _ e).1)) (λ e. omega arith)

longer_no_shorter : (w : List ℕ) (o : Option Rule) (r : Rule) → IsNoLongerThan w (longer w o r) r
longer_no_shorter w None r =
    pick (λ (o : Option Rule). IsNoLongerThan w o r) (ends_in r.suffix w) (Some r) None (λ e h. omega arith) (λ e. e)
longer_no_shorter w (Some s) r = pick (λ (o : Option Rule). IsNoLongerThan w o r)
    (ends_in r.suffix w && nat_lt (length s.suffix) (length r.suffix)) (Some r) (Some s)
    (λ e h. omega arith) (λ e h. le_of _ _ (one_false _ _ e h))

from_up_to : (w : List ℕ) (o : Option Rule) (rs : List Rule) → IsUpTo o (longest_from w o rs)
from_up_to w o [] = up_to_same o
from_up_to w o (r ∷ rs) = up_to_trans o (longer w o r) _ (longer_up_to w o r) (from_up_to w (longer w o r) rs)

above : (w : List ℕ) (o p : Option Rule) (r : Rule) → IsUpTo o p → IsNoLongerThan w o r → IsNoLongerThan w p r
above w None None r u h = h
above w None (Some s) r u h = λ e. absurd (let x : ⊥ = cc in x)
above w (Some s) None r u h = absurd u
above w (Some s) (Some t) r u h = λ e. let k = h e in omega arith

from_above : (w : List ℕ) (o : Option Rule) (rs : List Rule) → Each (IsNoLongerThan w (longest_from w o rs)) rs
from_above w o [] = tt
from_above w o (r ∷ rs) = (
  above w (longer w o r) _ r (from_up_to w (longer w o r) rs) (longer_no_shorter w o r),
  from_above w (longer w o r) rs,
)

-- what holds of the rule so far, and of each rule whose suffix the word has, holds of the one that is found
pub from_keeps : (P : Rule → Type 0) (w : List ℕ) (o : Option Rule) (rs : List Rule) → IfSome o P
    → ((r : Rule) → IsOneOf r rs → ends_in r.suffix w ≡ true → P r) → IfSome (longest_from w o rs) P
from_keeps P w o [] h k = h
from_keeps P w None (r ∷ rs) h k = from_keeps P w (longer w None r) rs
    (pick (λ (o : Option Rule). IfSome o P) (ends_in r.suffix w) (Some r) None (λ e. k r (inl refl) e) (λ e. tt))
    (λ s m e. k s (inr m) e)
from_keeps P w (Some s) (r ∷ rs) h k = from_keeps P w (longer w (Some s) r) rs
    (pick (λ (o : Option Rule). IfSome o P) (ends_in r.suffix w && nat_lt (length s.suffix) (length r.suffix)) (Some r)
    (Some s) (λ e. k r (inl refl) ((both_true _ _ e).0)) (λ e. h))
    (λ s m e. k s (inr m) e)

pub longest_is_longest : (rules : List Rule) (word : List ℕ) → IsLongest rules word (longest rules word)
longest_is_longest rules word = record {
  rule = from_keeps (IsRuleOf rules word) word None rules tt (λ r m e. (m, e));
  longest = from_above word None rules;
}

-- a test that all rules of a table pass holds of each of them
pub passes : (p : Rule → Bool) (rules : List Rule) (r : Rule) → list_all p rules ≡ true → IsOneOf r rules → p r ≡ true
passes p [] r h m = absurd m
passes p (s ∷ rules) r h (inl e) = ap p e ∙ (both_true _ _ h).0
passes p (s ∷ rules) r h (inr m) = passes p rules r ((both_true _ _ h).1) m
