-- How many pages a scan holds while it goes through the tree.
use Rattle.std.proofs.Common.{◌≡◌, ℕ, suc, ◌+◌, ◌-◌, ◌*◌, ◌≤◌, length, Some, refl, sym, ap, subst, ◌∙◌, inl, inr, arith}
use Rattle.std.proofs.Common.{slice_get, length-append, mul-le-mul_right}
use Rattle.std.proofs.Math.Nat.{mul-le-mul_left}
use Rattle.std.proofs.lemmas.List.{length-map}
use Rattle.std.specs.Prelude.{Vec}
use Rattle.std.specs.declared.alloc.Global.{Global}
use Rattle.page_types.specs.Views.{entries_of}
use Rattle.page_types.specs.declared.page.Page.{Page}
use Rattle.core_moments.specs.Walk.{Sought, beyond}
use Rattle.core_moments.specs.OpenWalk.{trees_on}
use Rattle.gin_hits.specs.Trees.{named_by}
use Rattle.gin_hits.specs.declared.entries.TreeRoot.{TreeRoot}
use Rattle.gin_scan.specs.Inner.Ways.{NotesLeaf, GoesOn, GoesToTree}
use Rattle.gin_scan.specs.Counting.{IsBounded, CountsOn, most_on_ways}
use Rattle.gin_scan.specs.Scanning.{sought_in, trees_in}
use Rattle.gin_scan.specs.declared.scan_core.ScanCore.{ScanCore}
use Rattle.gin_scan.specs.declared.stage.Stage.{Stage}
use Rattle.gin_scan.specs.declared.stage.Stage.TheVariants as stage
use Rattle.gin_scan.proofs.Counted.{counts_by}
use Rattle.gin_scan.proofs.TreeSteps.{goes_as}

-- the bound while a walk with this number is read, after so many posting trees
abbrev pub BoundOnWay : ℕ → ℕ → ℕ → ℕ → ℕ → ℕ → Type 0
BoundOnWay before extent trees holds key left =
    holds + left ≤ before + suc extent + (suc key * extent + trees * extent)

-- the first walk begins
pub tree_counted : (s new : ScanCore) (page left holds holds' : ℕ) → s.stage ≡ stage.Pending page left
    → new ≡ record s { stage = stage.Down 0 1 s.extent } → holds' ≡ holds → CountsOn s holds new holds'
tree_counted s new page left holds holds' at same one =
    counts_by s new holds holds' (λ before had. omega (arith, had, one, ap (λ (z : ScanCore). z.pages_read) same))
    (λ before had.
    let were : holds + left ≤ before + suc s.extent = subst (IsBounded before s holds) at had in
    let trees = length s.roots.items * s.extent in
    let are : holds' + s.extent ≤ before + suc s.extent + (suc 0 * s.extent + trees) = omega (arith, were, one) in
    subst (λ (z : ScanCore). IsBounded before z holds' z.stage) (sym same) are)

-- the next one begins
pub next_counted : (s new : ScanCore) (z : Stage) (key left holds holds' : ℕ) → s.stage ≡ z
    → ((before : ℕ) → IsBounded before s holds z
    → BoundOnWay before s.extent (length s.roots.items) holds key left)
    → new ≡ record s { stage = stage.Down (suc key) 1 s.extent } → holds' ≡ holds → CountsOn s holds new holds'
next_counted s new z key left holds holds' at bound same one =
    counts_by s new holds holds' (λ before had. omega (arith, had, one, ap (λ (y : ScanCore). y.pages_read) same))
    (λ before had.
    let trees = length s.roots.items * s.extent in
    let were : holds + left ≤ before + suc s.extent + (suc key * s.extent + trees) =
    bound before (subst (IsBounded before s holds) at had) in
    let are : holds' + s.extent ≤ before + suc s.extent + (suc (suc key) * s.extent + trees) =
    omega (arith, were, one) in
    subst (λ (y : ScanCore). IsBounded before y holds' y.stage) (sym same) are)

-- pages go further
further_bound : (before extent trees more holds holds' key : ℕ) → holds' ≡ holds
    → BoundOnWay before extent trees holds key 0 → BoundOnWay before (extent + more) trees holds' key more
further_bound before extent trees more holds holds' key one were =
    let wider : suc key * extent ≤ suc key * (extent + more) = mul-le-mul_left (suc key) (omega arith) in
    let also : trees * extent ≤ trees * (extent + more) = mul-le-mul_left trees (omega arith) in
    let w : holds + 0 ≤ before + suc extent + (suc key * extent + trees * extent) = were in
    omega (arith, w, one, wider, also)

pub way_further_counted : (s new : ScanCore) (key page more holds holds' : ℕ) → s.stage ≡ stage.Down key page 0
    → new ≡ record s { stage = stage.Down key page more; extent = s.extent + more } → holds' ≡ holds
    → CountsOn s holds new holds'
way_further_counted s new key page more holds holds' at same one =
    counts_by s new holds holds' (λ before had. omega (arith, had, one, ap (λ (z : ScanCore). z.pages_read) same))
    (λ before had.
    subst (λ (z : ScanCore). IsBounded before z holds' z.stage) (sym same)
    (further_bound before s.extent (length s.roots.items) more holds holds' key one
    (subst (IsBounded before s holds) at had)))

pub leaves_further_counted : (s new : ScanCore) (key page more holds holds' : ℕ) → s.stage ≡ stage.Leaf key page 0
    → new ≡ record s { stage = stage.Leaf key page more; extent = s.extent + more } → holds' ≡ holds
    → CountsOn s holds new holds'
leaves_further_counted s new key page more holds holds' at same one =
    counts_by s new holds holds' (λ before had. omega (arith, had, one, ap (λ (z : ScanCore). z.pages_read) same))
    (λ before had.
    subst (λ (z : ScanCore). IsBounded before z holds' z.stage) (sym same)
    (further_bound before s.extent (length s.roots.items) more holds holds' key one
    (subst (IsBounded before s holds) at had)))

-- a page more of a walk was read
way_counted : (before extent extent' trees trees' holds holds' key left : ℕ) → extent' ≡ extent → trees' ≡ trees
    → (left ≡ 0 → ⊥) → holds' ≤ suc holds → BoundOnWay before extent trees holds key left
    → BoundOnWay before extent' trees' holds' key (left - 1)
way_counted before extent extent' trees trees' holds holds' key left same has some one were =
    let w : holds + left ≤ before + suc extent + (suc key * extent + trees * extent) = were in
    subst (λ (n : ℕ). BoundOnWay before n trees' holds' key (left - 1)) (sym same)
    (subst (λ (n : ℕ). BoundOnWay before extent n holds' key (left - 1)) (sym has)
    (let are : holds' + (left - 1) ≤ before + suc extent + (suc key * extent + trees * extent) =
    omega (arith, w, one, some) in are))

-- and then a posting tree comes, or a leaf
after_counted : (before extent trees at holds holds' key left : ℕ) → (left ≡ 0 → ⊥) → holds' ≤ suc holds
    → BoundOnWay before extent trees holds key left → trees ≤ at
    → (holds' + extent + (extent - (extent - (left - 1)))
    ≤ before + suc extent + (suc key * extent + suc trees * extent))
    × (holds' + (extent - (extent - (left - 1))) ≤ before + suc extent + (suc key * extent + at * extent))
after_counted before extent trees at holds holds' key left some one were le =
    let w : holds + left ≤ before + suc extent + (suc key * extent + trees * extent) = were in
    let wider : trees * extent ≤ at * extent = mul-le-mul_right extent le in
    (omega (arith, w, one, some), omega (arith, w, one, some, wider))

pub trees_counted : (s new : ScanCore) (key left next holds holds' : ℕ) (z z' : Stage) → s.stage ≡ z
    → ((before : ℕ) → IsBounded before s holds z
    → BoundOnWay before s.extent (length s.roots.items) holds key left) → new.extent ≡ s.extent → (left ≡ 0 → ⊥)
    → holds' ≤ suc holds → length s.roots.items ≤ length new.roots.items
    → GoesToTree new key (length s.roots.items) next (s.extent - (left - 1)) z' → (before : ℕ)
    → IsBounded before s holds s.stage → IsBounded before new holds' z'
trees_counted s new key left next holds holds' z z' is bound extent some one grow (inl g) before had =
    let n = length s.roots.items in
    let both = after_counted before s.extent n n holds holds' key left some one
    (bound before (subst (IsBounded before s holds) is had)) (omega arith) in
    subst (IsBounded before new holds') (sym g.2)
    (subst (λ (e : ℕ). holds' + e + (e - (s.extent - (left - 1))) ≤ before + suc e + (suc key * e + suc n * e))
    (sym extent) both.0)
trees_counted s new key left next holds holds' z z' is bound extent some one grow (inr g) before had =
    let n = length s.roots.items in
    let both = after_counted before s.extent n (length new.roots.items) holds holds' key left some one
    (bound before (subst (IsBounded before s holds) is had)) grow in
    subst (IsBounded before new holds') (sym g.1)
    (subst (λ (e : ℕ). holds' + (e - (s.extent - (left - 1)))
    ≤ before + suc e + (suc key * e + length new.roots.items * e)) (sym extent) both.1)

-- trees are noted, and none is forgotten
pub roots_grow : (s mid : ScanCore) (key : ℕ) (w : Sought) (c : Page) → slice_get (sought_in s) key ≡ Some w
    → NotesLeaf s key c mid → length s.roots.items ≤ length mid.roots.items
roots_grow s mid key w c here notes =
    omega (
      arith,
      ap length (notes w here).1,
      length-append (trees_in s) (trees_on w (entries_of c)),
      length-map s.roots.items named_by,
      length-map mid.roots.items named_by,
    )

pub goes_counted : (s new mid : ScanCore) (key page left holds holds' : ℕ) (w : Sought) (c : Page) (z : Stage)
    → slice_get (sought_in s) key ≡ Some w → s.stage ≡ stage.Down key page left → new.extent ≡ s.extent
    → new.roots ≡ mid.roots → mid.extent ≡ s.extent → (left ≡ 0 → ⊥) → holds' ≤ suc holds
    → GoesOn s key (left - 1) w c mid z → (before : ℕ) → IsBounded before s holds s.stage
    → IsBounded before new holds' z
goes_counted s new mid key page left holds holds' w c z here at extent roots same some one (inl g) before had =
    subst (IsBounded before new holds') (sym g.0)
    (way_counted before s.extent new.extent (length s.roots.items) (length new.roots.items) holds holds' key left extent
    (ap (λ (ts : Vec TreeRoot Global). length ts.items) roots ∙ ap (λ (y : ScanCore). length y.roots.items) g.2)
    some one (subst (IsBounded before s holds) at had))
goes_counted s new mid key page left holds holds' w c z here at extent roots same some one (inr g) before had =
    trees_counted s new key left (beyond w c) holds holds' (stage.Down key page left) z at (λ b h. h) extent some one
    (subst (λ (ts : Vec TreeRoot Global). length s.roots.items ≤ length ts.items) (sym roots)
    (roots_grow s mid key w c here g.1))
    (goes_as mid new key (length s.roots.items) (beyond w c) (s.extent - (left - 1)) z roots (extent ∙ sym same) g.2)
    before had

-- all was judged
pub judged_counted : (s new : ScanCore) (page left holds : ℕ) → s.stage ≡ stage.Down (length (sought_in s)) page left
    → left ≡ s.extent → new.extent ≡ s.extent → most_on_ways new ≡ most_on_ways s → (before : ℕ)
    → IsBounded before s holds s.stage → IsBounded before new holds (stage.Heads 0)
judged_counted s new page left holds at all extent ways before had =
    let trees = length s.roots.items * s.extent in
    let were : holds + left ≤ before + suc s.extent + (suc (length (sought_in s)) * s.extent + trees) =
    subst (IsBounded before s holds) at had in
    let most : most_on_ways s ≡ length (sought_in s) * s.extent + trees = refl in
    let are : holds ≤ before + suc new.extent + most_on_ways new + 0 = omega (arith, were, all, extent, ways, most) in
    are
