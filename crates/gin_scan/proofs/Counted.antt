-- How many pages a scan holds.
use Rattle.std.proofs.Common.{◌≡◌, ℕ, suc, ◌+◌, ◌-◌, ◌*◌, ◌<◌, ◌≤◌, Bool, true, false, length, sym, ap, subst, ◌∙◌}
use Rattle.std.proofs.Common.{arith}
use Rattle.ts_base.specs.Vectors.{Vector}
use Rattle.buffer_frames.specs.Passes.{holds_after}
use Rattle.gin_scan.specs.Counting.{IsBounded, CountsOn, most_on_ways}
use Rattle.gin_scan.specs.Inner.Parts.{BeginsLong, AddedIf, AddsIfTold}
use Rattle.gin_scan.specs.declared.scan_core.ScanCore.{ScanCore}
use Rattle.gin_scan.specs.declared.stage.LongVector.{LongVector}
use Rattle.gin_scan.specs.declared.stage.Stage.TheVariants as stage

-- what was held and what was read go on together
pub counts_by : (s new : ScanCore) (holds holds' : ℕ)
    → ((before : ℕ) → holds ≤ before + s.pages_read → holds' ≤ before + new.pages_read)
    → ((before : ℕ) → IsBounded before s holds s.stage → IsBounded before new holds' new.stage)
    → CountsOn s holds new holds'
counts_by s new holds holds' own bounded = λ before had. (own before had.0, bounded before had.1)

-- one page more is held, and read
pub one_read : (pages pages' holds holds' : ℕ) → pages' ≡ holds_after pages → holds' ≡ holds_after holds
    → (before : ℕ) → holds ≤ before + pages → holds' ≤ before + pages'
one_read pages pages' holds holds' read held before had = omega (arith, read, held, had)

-- and no more than one
pub one_page : (pages pages' : ℕ) → pages' ≡ holds_after pages → pages' ≤ suc pages
one_page pages pages' read = omega (arith, read)

-- the metapage was read
pub meta_counted : (s new : ScanCore) (page holds holds' : ℕ) → s.stage ≡ stage.Meta → new.extent ≡ s.extent
    → holds' ≤ suc holds → (before : ℕ) → IsBounded before s holds s.stage
    → IsBounded before new holds' (stage.Pending page s.extent)
meta_counted s new page holds holds' at extent one before had =
    let were : holds ≤ before = subst (IsBounded before s holds) at had in
    let are : holds' + s.extent ≤ before + suc new.extent = omega (arith, were, one, extent) in
    are

-- a page of the list was read
pub list_counted : (s new : ScanCore) (page next left holds holds' : ℕ) → s.stage ≡ stage.Pending page left
    → new.extent ≡ s.extent → (left ≡ 0 → ⊥) → holds' ≤ suc holds → (before : ℕ)
    → IsBounded before s holds s.stage → IsBounded before new holds' (stage.Pending next (left - 1))
list_counted s new page next left holds holds' at extent some one before had =
    let were : holds + left ≤ before + suc s.extent = subst (IsBounded before s holds) at had in
    let are : holds' + (left - 1) ≤ before + suc new.extent = omega (arith, were, one, extent, some) in
    are

-- pages go further
pub further_counted : (s new : ScanCore) (page extent holds holds' : ℕ) → s.stage ≡ stage.Pending page 0
    → s.extent < extent
    → new ≡ record s { stage = stage.Pending page (extent - s.extent); extent = extent } → holds' ≡ holds
    → CountsOn s holds new holds'
further_counted s new page extent holds holds' at more same one =
    counts_by s new holds holds' (λ before had. omega (arith, had, one, ap (λ (z : ScanCore). z.pages_read) same))
    (λ before had.
    let were : holds + 0 ≤ before + suc s.extent = subst (IsBounded before s holds) at had in
    let are : holds' + (extent - s.extent) ≤ before + suc extent = omega (arith, were, one, more) in
    subst (λ (z : ScanCore). IsBounded before z holds' z.stage) (sym same) are)

-- a page of heads was read
pub heads_counted : (s new : ScanCore) (at end holds holds' : ℕ) → s.stage ≡ stage.Heads at
    → new.extent ≡ s.extent → most_on_ways new ≡ most_on_ways s → at < end → holds' ≤ suc holds → (before : ℕ)
    → IsBounded before s holds s.stage → IsBounded before new holds' (stage.Heads end)
heads_counted s new at end holds holds' is extent ways less one before had =
    let were : holds ≤ before + suc s.extent + most_on_ways s + at = subst (IsBounded before s holds) is had in
    let are : holds' ≤ before + suc new.extent + most_on_ways new + end = omega (
      arith,
      were,
      one,
      extent,
      ways,
      less,
    ) in
    are

-- a vector is next, or none is left
pub long_counted : (s new : ScanCore) (at holds before : ℕ) → BeginsLong s at new → at ≤ length s.long.items
    → holds ≤ before + suc s.extent + most_on_ways s + length s.kept.items + at * s.extent
    → IsBounded before new holds new.stage
long_counted s new at holds before begins within were = elim begins [
  | BeginsLong.next l there below empty same ↦
      let are : holds + s.extent ≤ before + suc s.extent + most_on_ways s + length s.kept.items + suc at * s.extent =
      omega (arith, were) in
      subst (λ (z : ScanCore). IsBounded before z holds z.stage) (sym same) are
  | BeginsLong.end all moved ordered same ↦
      let one : at ≡ length s.long.items = omega (arith, all, within) in
      let are : holds ≤ before + suc s.extent + most_on_ways s + length s.kept.items + length s.long.items * s.extent =
      subst (λ (n : ℕ). holds ≤ before + suc s.extent + most_on_ways s + length s.kept.items + n * s.extent) one were in
      subst (λ (z : ScanCore). IsBounded before z holds z.stage) (sym same) are
]

begun_pages : (s new : ScanCore) (at : ℕ) → BeginsLong s at new → new.pages_read ≡ s.pages_read
begun_pages s new at (BeginsLong.next l there below empty same) = ap (λ (z : ScanCore). z.pages_read) same
begun_pages s new at (BeginsLong.end all moved ordered same) = ap (λ (z : ScanCore). z.pages_read) same

-- the heads end
pub ended_counted : (s new : ScanCore) (at holds : ℕ) → s.stage ≡ stage.Heads at → at ≤ length s.kept.items
    → BeginsLong s 0 new → CountsOn s holds new holds
ended_counted s new at holds is within begins =
    counts_by s new holds holds (λ before had. omega (arith, had, begun_pages s new 0 begins)) (λ before had.
    let were : holds ≤ before + suc s.extent + most_on_ways s + at = subst (IsBounded before s holds) is had in
    let are : holds ≤ before + suc s.extent + most_on_ways s + length s.kept.items + 0 * s.extent =
    omega (arith, were, within) in
    long_counted s new 0 holds before begins (omega arith) are)

-- a part of a vector was read
pub part_counted : (s new : ScanCore) (at page next left holds holds' : ℕ)
    → s.stage ≡ stage.Parts at page left → new.extent ≡ s.extent → most_on_ways new ≡ most_on_ways s
    → new.kept ≡ s.kept → (left ≡ 0 → ⊥)
    → holds' ≤ suc holds → (before : ℕ) → IsBounded before s holds s.stage
    → IsBounded before new holds' (stage.Parts at next (left - 1))
part_counted s new at page next left holds holds' is extent ways kept some one before had =
    let were : holds + left ≤ before + suc s.extent + most_on_ways s + length s.kept.items + suc at * s.extent =
    subst (IsBounded before s holds) is had in
    let count : length new.kept.items ≡ length s.kept.items = ap (λ ks. length ks.items) kept in
    let chains : suc at * new.extent ≡ suc at * s.extent = ap (λ (n : ℕ). suc at * n) extent in
    let are : holds' + (left - 1)
    ≤ before + suc new.extent + most_on_ways new + length new.kept.items + suc at * new.extent =
    omega (arith, were, one, some, extent, ways, count, chains) in
    are

-- a vector was matched
same_names : (s mid : ScanCore) (l : LongVector) (b : Bool) → AddedIf s l b mid
    → mid ≡ record s { names = mid.names }
same_names s mid l true added = added.1
same_names s mid l false added = added ∙ ap (λ (z : ScanCore). record s { names = z.names }) (sym added)

pub match_counted : (P : Vector → Type 0) (s mid new : ScanCore) (at next page left holds : ℕ)
    → s.stage ≡ stage.Parts at page left → next ≡ suc at → at < length s.long.items → AddsIfTold P s at mid
    → BeginsLong mid next new → CountsOn s holds new holds
match_counted P s mid new at next page left holds is after within adds begins =
    let old = ap (λ (z : ScanCore). z.pages_read) (same_names s mid adds.waits adds.answer adds.added) in
    counts_by s new holds holds (λ before had. omega (arith, had, old, begun_pages mid new next begins)) (λ before had.
    let were : holds + left ≤ before + suc s.extent + most_on_ways s + length s.kept.items + suc at * s.extent =
    subst (IsBounded before s holds) is had in
    let are : holds ≤ before + suc s.extent + most_on_ways s + length s.kept.items + suc at * s.extent = omega
    (arith, were) in
    let same = same_names s mid adds.waits adds.answer adds.added in
    let r : (suc at ≤ length mid.long.items)
    × (holds ≤ before + suc mid.extent + most_on_ways mid + length mid.kept.items + suc at * mid.extent) =
    subst (λ (z : ScanCore). (suc at ≤ length z.long.items)
    × (holds ≤ before + suc z.extent + most_on_ways z + length z.kept.items + suc at * z.extent)) (sym same)
    (within, are) in
    let start = subst (λ (n : ℕ). BeginsLong mid n new) after begins in
    long_counted mid new (suc at) holds before start r.0 r.1)
