-- The orders of keys and of items, with a least and a greatest one.
use Rattle.std.proofs.Common.{◌≡◌, ◌≢◌, ◌⊎◌, ◌<◌, ℕ, ◌==◌, cond, Bool, false, [], ◌∷◌, refl, sym, ap, subst, ◌∙◌, inl}
use Rattle.std.proofs.Common.{inr, arith, nat_cmp, Ordering, Less, Equal, Greater}
use Rattle.std.specs.Cmp.Lexicographic.{slice_cmp}
use Rattle.std.specs.FinMap.{slice_cmp-IsAntisymmetric, nat_cmp-IsAntisymmetric}
use Rattle.std.proofs.lemmas.Cmp.{nat_list_cmp_total, tied_itself}
use Rattle.std.specs.Ordering.{ordering_reverse}
use Rattle.ts_base.specs.Keys.{Key}
use Rattle.page_types.specs.Keys.{KeyLess}
use Rattle.page_types.specs.Numbers.{no_bound}
use Rattle.core_state.specs.Changes.{UpTo}
use Rattle.core_state.specs.Trees.Nodes.{Order, AtMost}
use Rattle.core_state.specs.Trees.Ext.{Ext, ext_less}
use Rattle.core_state.specs.Trees.Ext.Ext.{least, at, greatest}
use Rattle.core_state.specs.Trees.TreeNodes.{bound, high_bound, child_bound}
use Rattle.core_state.proofs.PageLists.{same_or_not}

module _ {E : Type 0} (o : Order E) where
  pub ext_trans : (a b c : Ext E) → ext_less o.less a b → ext_less o.less b c → ext_less o.less a c
  ext_trans a b least l m = absurd m
  ext_trans a least (at z) l m = absurd l
  ext_trans least (at y) (at z) l m = tt
  ext_trans (at x) (at y) (at z) l m = o.trans x y z l m
  ext_trans greatest (at y) (at z) l m = absurd l
  ext_trans a greatest (at z) l m = absurd m
  ext_trans least b greatest l m = tt
  ext_trans (at x) b greatest l m = tt
  ext_trans greatest least greatest l m = absurd l
  ext_trans greatest (at y) greatest l m = absurd l
  ext_trans greatest greatest greatest l m = absurd l

  pub ext_irrefl : (a : Ext E) → ext_less o.less a a → ⊥
  ext_irrefl least l = l
  ext_irrefl (at x) l = o.irrefl x l
  ext_irrefl greatest l = l

  pub ext_total : (a b : Ext E) → ext_less o.less a b ⊎ ((a ≡ b) ⊎ ext_less o.less b a)
  ext_total least least = inr (inl refl)
  ext_total least (at y) = inl tt
  ext_total least greatest = inl tt
  ext_total (at x) least = inr (inr tt)
  ext_total (at x) (at y) =
      elim (o.total x y) [ inl l ↦ inl l | inr (inl e) ↦ inr (inl (ap at e)) | inr (inr l) ↦ inr (inr l) ]
  ext_total (at x) greatest = inl tt
  ext_total greatest least = inr (inr tt)
  ext_total greatest (at y) = inr (inr tt)
  ext_total greatest greatest = inr (inl refl)

  abbrev pub ext_order : Order (Ext E)
  ext_order = record { less = ext_less o.less; trans = ext_trans; irrefl = ext_irrefl; total = ext_total }

  pub ext_top : (x : Ext E) → AtMost ext_order greatest x greatest
  ext_top least = inl tt
  ext_top (at x) = inl tt
  ext_top greatest = inr refl

  -- what is below something is not the greatest
  pub below_top : (x y : Ext E) → ext_less o.less x y → ext_less o.less x greatest
  below_top least y l = tt
  below_top (at x) y l = tt
  below_top greatest least l = l
  below_top greatest (at y) l = l
  below_top greatest greatest l = l

pub nat_trans : (a b c : ℕ) → a < b → b < c → a < c
nat_trans a b c l m = omega (arith, l, m)

pub nat_irrefl : (a : ℕ) → a < a → ⊥
nat_irrefl a l = omega (arith, l)

pub nat_three : (a b : ℕ) → (a < b) ⊎ ((a ≡ b) ⊎ (b < a))
nat_three a b = grind arith

abbrev pub nat_order : Order ℕ
nat_order = record { less = λ a b. a < b; trans = nat_trans; irrefl = nat_irrefl; total = nat_three }

pub key_irrefl : (a : Key) → KeyLess a a → ⊥
key_irrefl a l = clash (sym l ∙ tied_itself nat_list_cmp_total a)
  where
    clash : Less ≡ Equal → ⊥
    clash e = cc

pub key_total : (a b : Key) → KeyLess a b ⊎ ((a ≡ b) ⊎ KeyLess b a)
key_total a b = go (slice_cmp nat_cmp a b) refl
  where
    go : (r : Ordering) → slice_cmp nat_cmp a b ≡ r → KeyLess a b ⊎ ((a ≡ b) ⊎ KeyLess b a)
    go Less e = inl e
    go Equal e = inr (inl (slice_cmp-IsAntisymmetric nat_cmp-IsAntisymmetric a b e))
    go Greater e = inr (inr (nat_list_cmp_total.antisymm b a ∙ ap ordering_reverse e))

abbrev pub key_order : Order Key
key_order = record { less = KeyLess; trans = nat_list_cmp_total.trans; irrefl = key_irrefl; total = key_total }

-- the orders of the two trees
abbrev pub keys : Order (Ext Key)
keys = ext_order key_order

abbrev pub items : Order (Ext ℕ)
items = ext_order nat_order

-- a key is no bound where it has bytes
pub bound_at : (k : Key) → k ≢ [] → bound k ≡ at k
bound_at [] n = absurd (n refl)
bound_at (b ∷ bs) n = refl

-- what may be under a bound is at most the bound
pub up_to_bound : (k high : Key) → UpTo k high → AtMost keys greatest (at k) (bound high)
up_to_bound k [] u = inl tt
up_to_bound k (b ∷ bs) (inl e) = absurd (cc)
up_to_bound k (b ∷ bs) (inr (inl l)) = inl l
up_to_bound k (b ∷ bs) (inr (inr e)) = inr (ap at e)

-- a bound that is below some key's place and not the greatest is below the key
pub bound_less : (b k : Key) → ext_less KeyLess (bound b) greatest → KeyLess b k → ext_less KeyLess (bound b) (at k)
bound_less [] k l m = absurd l
bound_less (c ∷ cs) k l m = m

-- a high item is none or a bound, and so is a child's
pub high_bound_is : (n : ℕ) → ((n ≡ 0) × (high_bound n ≡ greatest)) ⊎ ((n ≢ 0) × (high_bound n ≡ at n))
high_bound_is n = elim (same_or_not 0 n) [
  | inl e ↦ inl (e, subst (λ (m : ℕ). high_bound m ≡ greatest) (sym e) refl)
  | inr d ↦ inr (d, ap (λ (c : Bool). cond c greatest (at n)) (not_same n 0 d))
]
  where
    not_same : (n m : ℕ) → n ≢ m → (n == m) ≡ false
    not_same n m h = grind (arith, h)

pub child_bound_is : (n : ℕ) → ((n ≡ no_bound) × (child_bound n ≡ greatest)) ⊎ ((n ≢ no_bound) × (child_bound n ≡ at n))
child_bound_is n = elim (same_or_not no_bound n) [
  | inl e ↦ inl (e, subst (λ (m : ℕ). child_bound m ≡ greatest) (sym e) refl)
  | inr d ↦ inr (d, ap (λ (c : Bool). cond c greatest (at n)) (not_same n no_bound d))
]
  where
    not_same : (n m : ℕ) → n ≢ m → (n == m) ≡ false
    not_same n m h = grind (arith, h)
