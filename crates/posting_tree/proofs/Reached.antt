-- What a search on a page has found, and the bound of its last child.
use Rattle.std.proofs.Common.{◌≡◌, ℕ, zero, suc, ◌-◌, ◌<◌, ◌≤◌, ltb, List, ◌∷◌, length, get_or, take, drop, refl, []}
use Rattle.std.proofs.Common.{sym, ap, inl, inr, arith, ltb-true}
use Rattle.std.specs.Prelude.{Some, true, false}
use Rattle.std.specs.List.{AllByRecursion, slice_get}
use Rattle.std.specs.List.Sorted.{IsNonDecreasingBy, IsPartitionPoint, IsPartitionedBy}
use Rattle.std.proofs.lemmas.Bool.{ltb-false}
use Rattle.std.proofs.lemmas.List.Sorted.{IsPartitionedBy-ltb}
use Rattle.std.proofs.lemmas.Option.{same_Some, slice_get_within, get_or_from_slice_get}
use Rattle.page_types.specs.ItemReading.{last_or}
use Rattle.page_types.specs.Keys.{Rising}
use Rattle.page_types.specs.declared.page.PostChild.{PostChild}
use Rattle.page_types.specs.declared.page.Body.TheVariants as body
use Rattle.core_state.specs.Changes.{ItemUpTo}
use Rattle.posting_tree.specs.declared.finding.Found.TheVariants as found
use Rattle.posting_tree.specs.Reading.{bounds_of}
use Rattle.posting_tree.specs.Finding.{IsFoundIn}
use Rattle.posting_tree.specs.Inner.Searching.{Below, IsDividedAt}
use Rattle.posting_tree.proofs.Lists.{around, in_front, in_place}

pub past_high : (item high : ℕ) → (high ≡ 0 → ⊥) → high < item → ItemUpTo item high → ⊥
past_high item high some lt (inl none) = some none
past_high item high some lt (inr le) = absurd (omega (arith, le, lt))

rising_bounds : (children : List PostChild) → Rising Below children
    → IsNonDecreasingBy (λ (c : PostChild). c.bound) children
rising_bounds [] h i j d le lt = absurd (omega (arith, lt))
rising_bounds (c ∷ children) h zero zero d le lt = omega arith
rising_bounds (c ∷ children) h (suc i) zero d le lt = absurd (omega (arith, le))
rising_bounds (c ∷ children) h zero (suc j) d le lt = later children j h.0 (omega (arith, lt))
  where
    later : (children : List PostChild) (j : ℕ) → AllByRecursion (Below c) children → j < length children
        → c.bound ≤ (get_or children j d).bound
    later [] j h lt = absurd (omega (arith, lt))
    later (b ∷ children) zero h lt = omega (arith, h.0)
    later (b ∷ children) (suc j) h lt = later children j h.1 (omega (arith, lt))
rising_bounds (c ∷ children) h (suc i) (suc j) d le lt =
    rising_bounds children h.1 i j d (omega (arith, le)) (omega (arith, lt))

-- so those below an item come first
pub parted : (children : List PostChild) (item : ℕ) → Rising Below children
    → IsPartitionedBy (λ (c : PostChild). ltb c.bound item) children
parted children item h = IsPartitionedBy-ltb (λ (c : PostChild). c.bound) children item (rising_bounds children h)

pub divided_at : (children : List PostChild) (item place : ℕ)
    → IsPartitionPoint (λ (c : PostChild). ltb c.bound item ≡ true) (λ (c : PostChild). ltb c.bound item ≡ false)
    children place → IsDividedAt children item place
divided_at children item place p = (
  λ k d from lt. ltb-true (get_or children k d).bound item (p.0 k d from lt),
  λ k d from lt. ltb-false (get_or children k d).bound item (p.1 k d from lt),
)

below_at : (children : List PostChild) (item place j : ℕ) (c : PostChild) → IsDividedAt children item place
    → slice_get children j ≡ Some c → j < place → c.bound < item
below_at children item place j c parts at lt =
    let less = parts.0 j c (omega arith) lt in
    omega (arith, less, ap (λ (b : PostChild). b.bound) (get_or_from_slice_get children j c c at))

pub found_down : (right : ℕ) (children : List PostChild) (item place : ℕ) (c : PostChild)
    → IsDividedAt children item place → slice_get children place ≡ Some c
    → IsFoundIn right (body.PostInner children) item (found.Down c.page)
found_down right children item place c parts at =
    IsFoundIn.down (take place children) (drop (suc place) children) c
    (ap body.PostInner (sym (around children place c at)))
    (λ b on. let r = in_front place children b on in
    below_at children item place r.0 b parts r.2 r.1)
    (let more = parts.1 place c (omega arith) (slice_get_within children place c at) in
    omega (arith, more, ap (λ (b : PostChild). b.bound) (get_or_from_slice_get children place c c at)))

pub found_past : (right : ℕ) (children : List PostChild) (item place : ℕ) → IsDividedAt children item place
    → length children ≤ place → IsFoundIn right (body.PostInner children) item (found.Right right)
found_past right children item place parts le =
    IsFoundIn.past_inner children refl
    (λ b on. let r = in_place children b on in
    below_at children item place r.0 b parts r.1 (omega (arith, slice_get_within children r.0 b r.1, le)))

-- ---- the last child

last_at : (first : ℕ) (children : List PostChild) (k : ℕ) (c : PostChild) → length children ≡ suc k
    → slice_get children k ≡ Some c → last_or first (bounds_of children) ≡ c.bound
last_at first [] k c size at = absurd cc
last_at first (d ∷ []) zero c size at = ap (λ (x : PostChild). x.bound) (same_Some d c at)
last_at first (d ∷ []) (suc k) c size at = absurd (omega (arith, size))
last_at first (d ∷ e ∷ children) zero c size at = absurd (omega (arith, size))
last_at first (d ∷ e ∷ children) (suc k) c size at = last_at d.bound (e ∷ children) k c (omega (arith, size)) at

pub last_is : (children : List PostChild) (c : PostChild) → slice_get children (length children - 1) ≡ Some c
    → last_or 0 (bounds_of children) ≡ c.bound
last_is children c at =
    let within = slice_get_within children (length children - 1) c at in
    last_at 0 children (length children - 1) c (omega (arith, within)) at
