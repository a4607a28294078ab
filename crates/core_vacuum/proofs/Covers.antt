-- Leaves in order cover what is on them.
use Rattle.std.proofs.Common.{◌≡◌, ◌≢◌, ◌⊎◌, ℕ, List, [], ◌∷◌, refl, sym, subst, ◌∙◌, inl, inr, arith}
use Rattle.ts_base.specs.Keys.{Key}
use Rattle.page_types.specs.Keys.{KeyLess}
use Rattle.page_types.specs.Pages.{IsPage, IsBody, IsHighKey}
use Rattle.page_types.specs.declared.page.Entry.{Entry}
use Rattle.page_types.specs.declared.page.Body.TheVariants as body
use Rattle.core_state.specs.Log.{Pages}
use Rattle.core_state.specs.Changes.{UpTo, ItemUpTo}
use Rattle.core_state.specs.PagesTold.{LeavesInOrder, IsEntryLeaf, UpEntryLeaf, IsPostLeaf, UpPostLeaf}
use Rattle.core_state.proofs.Trees.Orders.{key_total, key_irrefl, key_order}
use Rattle.core_vacuum.specs.Leaves.{IsFirst, LeavesCover}

module _ {K : Type 0} (P : Pages) (IsLeaf : ℕ → Type 0) (On Up : ℕ → K → Type 0) (o : LeavesInOrder P IsLeaf On Up)
    (not_zero : IsLeaf 0 → ⊥) (up_or_not : (p : ℕ) (k : K) → IsLeaf p → Up p k ⊎ (Up p k → ⊥))
    (last : (p : ℕ) (k : K) → IsLeaf p → (P p).right ≡ 0 → Up p k) where
  one : (x y : ℕ) (k : K) → IsLeaf x → IsLeaf y → On x k → On y k → x ≡ y
  one x y k lx ly ox oy = elim (o.before x lx) [
    | inl e ↦ e ∙ sym ((o.on_first y k ly oy).1 ((o.on_first x k lx ox).0 e))
    | inr q ↦
        let some : (P q.0).right ≢ 0 = λ z. not_zero (subst IsLeaf (sym q.2 ∙ z) lx) in
        let up = (o.on_next q.0 x k q.1 some lx ox).0 (sym q.2) in
        sym q.2 ∙ sym ((o.on_next q.0 y k q.1 some ly oy).1 up)
  ]

  first : (p x : ℕ) (k : K) → IsLeaf p → IsFirst P IsLeaf p → IsLeaf x → On x k → Up p k → x ≡ p
  first p x k lp none lx ox up = elim (o.before p lp) [
    | inl e ↦ (o.on_first x k lx ox).1 (subst (λ (z : ℕ). Up z k) e up) ∙ sym e
    | inr q ↦ absurd (none q.0 q.1 q.2)
  ]

  next : (p x : ℕ) (k : K) → IsLeaf p → (P p).right ≢ 0 → IsLeaf x → On x k → Up (P p).right k
      → Up p k ⊎ (x ≡ (P p).right)
  next p x k lp some lx ox up = elim (up_or_not p k lp) [
    | inl u ↦ inl u
    | inr off ↦ inr ((o.on_next p x k lp some lx ox).1 (off, up))
  ]

  pub cover : LeavesCover P IsLeaf On Up
  cover = record { not_zero = not_zero; one = one; first = first; next = next; last = last }

-- a key is up to a high key, or isn't; and an item to a high item
key_above : (k high : Key) → high ≢ [] → KeyLess high k → UpTo k high → ⊥
key_above k high some above (inl none) = some none
key_above k high some above (inr (inl l)) = key_irrefl k (key_order.trans k high k l above)
key_above k high some above (inr (inr e)) = key_irrefl k (subst (λ (z : Key). KeyLess z k) (sym e) above)

pub up_to_or_not : (k high : Key) → UpTo k high ⊎ (UpTo k high → ⊥)
up_to_or_not k [] = inl (inl refl)
up_to_or_not k (b ∷ bs) = elim (key_total k (b ∷ bs)) [
  | inl l ↦ inl (inr (inl l))
  | inr (inl e) ↦ inl (inr (inr e))
  | inr (inr l) ↦ inr (key_above k (b ∷ bs) (λ e. cc) l)
]

pub item_up_to_or_not : (i high : ℕ) → ItemUpTo i high ⊎ (ItemUpTo i high → ⊥)
item_up_to_or_not i high = grind arith

-- leaves have one high key, and one high item
same_high : (a b : Key) (es fs : List Entry) → body.EntryLeaf a es ≡ body.EntryLeaf b fs → a ≡ b
same_high a b es fs e = cc

same_high_item : (a b : ℕ) (is js : List ℕ) → body.PostLeaf a is ≡ body.PostLeaf b js → a ≡ b
same_high_item a b is js e = cc

module _ (P : Pages) where
  pub entry_up_or_not : (p : ℕ) (k : Key) → IsEntryLeaf P p → UpEntryLeaf P p k ⊎ (UpEntryLeaf P p k → ⊥)
  entry_up_or_not p k l = elim (up_to_or_not k l.0) [
    | inl u ↦ inl (l.0, l.1, l.2, u)
    | inr off ↦ inr (λ u. off (subst (UpTo k) (same_high u.0 l.0 u.1 l.1 (sym u.2 ∙ l.2)) u.3))
  ]

  pub post_up_or_not : (root p i : ℕ) → IsPostLeaf P root p → UpPostLeaf P p i ⊎ (UpPostLeaf P p i → ⊥)
  post_up_or_not root p i l = elim (item_up_to_or_not i l.1.0) [
    | inl u ↦ inl (l.1.0, l.1.1, l.1.2, u)
    | inr off ↦ inr (λ u. off (subst (ItemUpTo i) (same_high_item u.0 l.1.0 u.1 l.1.1 (sym u.2 ∙ l.1.2)) u.3))
  ]

  -- the last leaf has no high key
  module _ (each : (p : ℕ) → IsPage (P p)) where
    pub entry_last : (p : ℕ) (k : Key) → IsEntryLeaf P p → (P p).right ≡ 0 → UpEntryLeaf P p k
    entry_last p k l z =
        let b : IsBody (P p).right (P p).stamp (body.EntryLeaf l.0 l.1) =
        subst (IsBody (P p).right (P p).stamp) l.2 (each p).body in
        (l.0, l.1, l.2, inl (no_high (P p).right l.0 z b.0))
      where
        no_high : (right : ℕ) (high : Key) → right ≡ 0 → IsHighKey right high → high ≡ []
        no_high right high z (inl h) = h.1
        no_high right high z (inr h) = absurd (h.0 z)

    pub post_last : (root p i : ℕ) → IsPostLeaf P root p → (P p).right ≡ 0 → UpPostLeaf P p i
    post_last root p i l z =
        let b : IsBody (P p).right (P p).stamp (body.PostLeaf l.1.0 l.1.1) =
        subst (IsBody (P p).right (P p).stamp) l.1.2 (each p).body in
        (l.1.0, l.1.1, l.1.2, inl (b.0.none z))
