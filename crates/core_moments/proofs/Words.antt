-- Bounds that a key is up to, and words that begin with another.
use Rattle.std.proofs.Common.{◌≡◌, ◌≢◌, ◌⊎◌, ℕ, Bool, true, false, ◌&&◌, nat_eq, List, [], ◌∷◌, ◌++◌, refl, sym, ap}
use Rattle.std.proofs.Common.{subst, ap₂, ◌∙◌, inl, inr, zero, suc, arith, nat_cmp, Ordering, Less, Equal, Greater}
use Rattle.std.proofs.Common.{is_le}
use Rattle.std.specs.Prelude.{Contains, ◌↔◌}
use Rattle.std.specs.Cmp.Lexicographic.{slice_cmp}
use Rattle.std.specs.FinMap.{slice_cmp-IsAntisymmetric, nat_cmp-IsAntisymmetric}
use Rattle.std.proofs.lemmas.Cmp.{nat_list_cmp_total, tied_itself}
use Rattle.std.specs.Ordering.{ordering_then, ordering_reverse}
use Rattle.ts_base.specs.Keys.{Key}
use Rattle.page_types.specs.Keys.{KeyLess}
use Rattle.core_state.specs.Log.{In}
use Rattle.core_state.specs.Changes.{KeyAtMost, UpTo}
use Rattle.core_state.specs.Trees.Nodes.{AtMost}
use Rattle.core_state.specs.Trees.Ext.{Ext, ext_less}
use Rattle.core_state.specs.Trees.Ext.Ext.{least, at, greatest}
use Rattle.core_state.specs.Trees.TreeNodes.{bound}
use Rattle.core_state.proofs.Trees.Orders.{ext_order, key_order}
use Rattle.core_moments.specs.Walk.{begins, up_to}

-- x may be where this is the bound
abbrev pub upto : Ext Key → Ext Key → Bool
upto x greatest = true
upto least (at b) = true
upto (at k) (at b) = is_le (slice_cmp nat_cmp k b)
upto greatest (at b) = false
upto least least = true
upto (at k) least = false
upto greatest least = false

pub upto_bound : (k b : Key) → upto (at k) (bound b) ≡ up_to k b
upto_bound k [] = refl
upto_bound k (c ∷ cs) = refl

-- the test of a bound says what may be under it
pub up_to_tells : (k b : Key) → (up_to k b ≡ true) ↔ UpTo k b
up_to_tells k [] = (λ e. inl refl, λ u. refl)
up_to_tells k (c ∷ cs) = (λ e. inr (on (slice_cmp nat_cmp k (c ∷ cs)) refl e), back)
  where
    on : (r : Ordering) → slice_cmp nat_cmp k (c ∷ cs) ≡ r → is_le r ≡ true → KeyAtMost k (c ∷ cs)
    on Less f g = inl f
    on Equal f g = inr (slice_cmp-IsAntisymmetric nat_cmp-IsAntisymmetric k (c ∷ cs) f)
    on Greater f g = cc

    back : UpTo k (c ∷ cs) → up_to k (c ∷ cs) ≡ true
    back (inl e) = cc
    back (inr (inl l)) = ap is_le l
    back (inr (inr e)) = subst (λ (b : Key). is_le (slice_cmp nat_cmp k b) ≡ true) e
        (ap is_le (tied_itself nat_list_cmp_total k))

pub is_upto : (k b : Ext Key) → upto k b ≡ true → AtMost (ext_order key_order) greatest k b
is_upto least greatest e = inl tt
is_upto (at k) greatest e = inl tt
is_upto greatest greatest e = inr refl
is_upto least (at b) e = inl tt
is_upto (at k) (at b) e = go (slice_cmp nat_cmp k b) refl e
  where
    go : (r : Ordering) → slice_cmp nat_cmp k b ≡ r → is_le r ≡ true
        → AtMost (ext_order key_order) greatest (at k) (at b)
    go Less f g = inl f
    go Equal f g = inr (ap at (slice_cmp-IsAntisymmetric nat_cmp-IsAntisymmetric k b f))
    go Greater f g = cc
is_upto greatest (at b) e = cc
is_upto least least e = inr refl
is_upto (at k) least e = cc
is_upto greatest least e = cc

pub not_upto : (k b : Ext Key) → upto k b ≡ false → ext_less KeyLess b k
not_upto least greatest e = cc
not_upto (at k) greatest e = cc
not_upto greatest greatest e = cc
not_upto least (at b) e = cc
not_upto (at k) (at b) e = go (slice_cmp nat_cmp k b) refl e
  where
    go : (r : Ordering) → slice_cmp nat_cmp k b ≡ r → is_le r ≡ false → KeyLess b k
    go Less f g = cc
    go Equal f g = cc
    go Greater f g = nat_list_cmp_total.antisymm b k ∙ ap ordering_reverse f
not_upto greatest (at b) e = tt
not_upto least least e = cc
not_upto (at k) least e = tt
not_upto greatest least e = tt

pub and_true : (a b : Bool) → (a && b) ≡ true → (a ≡ true) × (b ≡ true)
and_true true b e = (refl, e)
and_true false b e = cc

pub same_number : (a b : ℕ) → nat_eq a b ≡ true → a ≡ b
same_number a b e = grind (arith, e)

pub number_itself : (a : ℕ) → nat_eq a a ≡ true
number_itself a = grind arith

cmp_itself : (a : ℕ) → nat_cmp a a ≡ Equal
cmp_itself a = grind arith

-- what begins with a word is not below it
pub begins_at_most : (p x : Key) → begins p x ≡ true → KeyLess p x ⊎ (p ≡ x)
begins_at_most [] [] e = inr refl
begins_at_most [] (b ∷ x) e = inl refl
begins_at_most (a ∷ p) [] e = cc
begins_at_most (a ∷ p) (b ∷ x) e =
    let both = and_true (nat_eq a b) (begins p x) e in
    let same : a ≡ b = same_number a b both.0 in
    elim (begins_at_most p x both.1) [
      | inl l ↦ inl (subst (λ (c : ℕ). slice_cmp nat_cmp (a ∷ p) (c ∷ x) ≡ Less) same
          (ap (λ (r : Ordering). ordering_then r (slice_cmp nat_cmp p x)) (cmp_itself a) ∙ l))
      | inr f ↦ inr (ap₂ (λ (c : ℕ) (d : Key). c ∷ d) same f)
    ]

pub begins_both : (p x : Key) → begins p x ≡ true → begins x p ≡ true → p ≡ x
begins_both [] [] e f = refl
begins_both [] (b ∷ x) e f = cc
begins_both (a ∷ p) [] e f = cc
begins_both (a ∷ p) (b ∷ x) e f =
    let both = and_true (nat_eq a b) (begins p x) e in
    let back = and_true (nat_eq b a) (begins x p) f in
    ap₂ (λ (c : ℕ) (d : Key). c ∷ d) (same_number a b both.0) (begins_both p x both.1 back.1)

pub begins_itself : (p : Key) → begins p p ≡ true
begins_itself [] = refl
begins_itself (a ∷ p) = ap₂ (λ (b c : Bool). b && c) (number_itself a) (begins_itself p)

pub begins_append : (p rest : Key) → begins p (p ++ rest) ≡ true
begins_append [] rest = refl
begins_append (a ∷ p) rest = ap₂ (λ (b c : Bool). b && c) (number_itself a) (begins_append p rest)

pub append_of_begins : (p x : Key) → begins p x ≡ true → (rest : Key) × (x ≡ p ++ rest)
append_of_begins [] x e = (x, refl)
append_of_begins (a ∷ p) [] e = cc
append_of_begins (a ∷ p) (b ∷ x) e =
    let both = and_true (nat_eq a b) (begins p x) e in
    let rest = append_of_begins p x both.1 in
    (rest.0, ap₂ (λ (c : ℕ) (d : Key). c ∷ d) (sym (same_number a b both.0)) rest.1)

-- what lies between a word and one that begins with it begins with it
pub begins_between : (p h x : Key) → begins p x ≡ true → (slice_cmp nat_cmp p h ≢ Greater)
    → slice_cmp nat_cmp h x ≡ Less → begins p h ≡ true
begins_between [] h x e l m = refl
begins_between (a ∷ p) h [] e l m = cc
begins_between (a ∷ p) [] (b ∷ x) e l m = absurd (l refl)
begins_between (a ∷ p) (c ∷ h) (b ∷ x) e l m =
    let both = and_true (nat_eq a b) (begins p x) e in
    let same : a ≡ b = same_number a b both.0 in
    let up : nat_cmp a c ≢ Greater = λ f. l (ap (λ (r : Ordering). ordering_then r (slice_cmp nat_cmp p h)) f) in
    let down : nat_cmp c b ≢ Greater = λ f. clash
    (sym (ap (λ (r : Ordering). ordering_then r (slice_cmp nat_cmp h x)) f) ∙ m) in
    let middle : a ≡ c = squeezed a b c same up down in
    let eq_c : nat_cmp a c ≡ Equal = subst (λ (z : ℕ). nat_cmp a z ≡ Equal) middle (cmp_itself a) in
    let eq_b : nat_cmp c b ≡ Equal = subst (λ (z : ℕ). nat_cmp z b ≡ Equal) (sym same ∙ middle) (cmp_itself b) in
    let l' : slice_cmp nat_cmp p h ≢ Greater = λ f. l
    (ap (λ (r : Ordering). ordering_then r (slice_cmp nat_cmp p h)) eq_c ∙ f) in
    let m' : slice_cmp nat_cmp h x ≡ Less = sym (ap (λ (r : Ordering). ordering_then r (slice_cmp nat_cmp h x)) eq_b)
    ∙ m in
    ap₂ (λ (u w : Bool). u && w) (subst (λ (z : ℕ). nat_eq a z ≡ true) middle (number_itself a))
    (begins_between p h x both.1 l' m')
  where
    clash : Greater ≡ Less → ⊥
    clash f = cc

    squeezed : (a b c : ℕ) → a ≡ b → nat_cmp a c ≢ Greater → nat_cmp c b ≢ Greater → a ≡ c
    squeezed a b c e f g = grind (arith, e, f, g)

-- the two words for an element are one
pub contained : {A : Type 0} (x : A) (xs : List A) → Contains xs x → In x xs
contained x [] (k, lt, e) = absurd (omega (arith, lt))
contained x (y ∷ ys) (zero, lt, e) = inl (sym e)
contained x (y ∷ ys) (suc k, lt, e) = inr (contained x ys (k, omega (arith, lt), e))

pub contains : {A : Type 0} (x : A) (xs : List A) → In x xs → Contains xs x
contains x [] i = absurd i
contains x (y ∷ ys) (inl e) = (0, omega arith, sym e)
contains x (y ∷ ys) (inr i) = let there = contains x ys i in (suc there.0, omega (arith, there.1), there.2)
