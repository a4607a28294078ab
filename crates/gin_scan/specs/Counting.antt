-- How many pages a scan holds, on every device.
use Rattle.std.specs.Prelude.{ℕ, suc, ◌+◌, ◌-◌, ◌*◌, ◌≤◌, length}
use Rattle.gin_scan.specs.Scanning.{sought_in}
use Rattle.gin_scan.specs.declared.scan_core.ScanCore.{ScanCore}
use Rattle.gin_scan.specs.declared.stage.Stage.{Stage}
use Rattle.gin_scan.specs.declared.stage.Stage.TheVariants as stage

-- the pages that so many of its walks may have read, and so many posting trees
abbrev pub most_on : ScanCore → ℕ → ℕ → ℕ
most_on s walks trees = walks * s.extent + trees * s.extent

-- those of all of them
abbrev pub most_on_ways : ScanCore → ℕ
most_on_ways s = most_on s (length (sought_in s)) (length s.roots.items)

-- So many pages were held before the scan, and it has held at most these: the metapage, as many pages of the
-- list as there are pages, as many for each walk through the tree and for each posting tree, one for each kept
-- item whose head was read, and as many as there are pages for each vector that waited. While a chain or a walk
-- is read, what may still be read of it is counted with what was held.
abbrev pub IsBounded : ℕ → ScanCore → ℕ → Stage → Type 0
IsBounded before s holds stage.Meta = holds ≤ before
IsBounded before s holds (stage.Pending page left) = holds + left ≤ before + suc s.extent
IsBounded before s holds (stage.Down key page left) =
    holds + left ≤ before + suc s.extent + most_on s (suc key) (length s.roots.items)
IsBounded before s holds (stage.Leaf key page left) =
    holds + left ≤ before + suc s.extent + most_on s (suc key) (length s.roots.items)
IsBounded before s holds (stage.Posting key at page left next read) =
    holds + left + (s.extent - read) ≤ before + suc s.extent + most_on s (suc key) (suc at)
IsBounded before s holds (stage.Heads at) = holds ≤ before + suc s.extent + most_on_ways s + at
IsBounded before s holds (stage.Parts at page left) =
    holds + left ≤ before + suc s.extent + most_on_ways s + length s.kept.items + suc at * s.extent
IsBounded before s holds stage.Done =
    holds ≤ before + suc s.extent + most_on_ways s + length s.kept.items + length s.long.items * s.extent

-- it has held no more pages than it has read, and no more than those
abbrev pub IsCounted : ℕ → ScanCore → ℕ → Type 0
IsCounted before s holds = (holds ≤ before + s.pages_read) × IsBounded before s holds s.stage

-- the count is kept from one state of a scan to another
abbrev pub CountsOn : ScanCore → ℕ → ScanCore → ℕ → Type 0
CountsOn old holds new holds' = (before : ℕ) → IsCounted before old holds → IsCounted before new holds'
