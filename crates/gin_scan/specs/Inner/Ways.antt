-- What a page more of a walk through the tree adds.
use Rattle.std.specs.Prelude.{◌≡◌, ◌≢◌, ◌⊎◌, ℕ, suc, ◌-◌, ◌<◌, ◌≤◌, List, [], ◌∷◌, ◌++◌, length, Some}
use Rattle.std.specs.List.{slice_get}
use Rattle.page_types.specs.Views.{entries_of}
use Rattle.page_types.specs.declared.page.Page.{Page}
use Rattle.page_types.specs.declared.page.Entry.{Entry}
use Rattle.gin_opclass.specs.Class.{Asked}
use Rattle.core_moments.specs.Walk.{Sought, fits, first_key, toward, beyond}
use Rattle.entry_tree.specs.Adding.{list_entry}
use Rattle.core_moments.specs.OpenWalk.{NamedTree, trees_on}
use Rattle.gin_hits.specs.Entries.{AreNotedUnder, entries_with, posting_list_in}
use Rattle.gin_hits.specs.declared.hits.Hits.{Hits}
use Rattle.gin_scan.specs.Scanning.{asked_in, sought_in, trees_in}
use Rattle.gin_scan.specs.declared.scan_core.ScanCore.{ScanCore}
use Rattle.gin_scan.specs.declared.stage.Stage.{Stage}
use Rattle.gin_scan.specs.declared.stage.Stage.TheVariants as stage

-- the entries of a leaf that fit what is sought are noted too
abbrev pub NotesEntries : List Asked → Sought → Page → Hits → Hits → Type 0
NotesEntries asked w c old new =
    (es : List Entry) → AreNotedUnder asked es old
    → AreNotedUnder asked (es ++ entries_with (fits w) (entries_of c)) new

-- the posting trees that such entries name come after these
abbrev pub NamesTrees : Sought → Page → List NamedTree → List NamedTree → Type 0
NamesTrees w c old new = new ≡ old ++ trees_on w (entries_of c)

-- what the walk with this number looks for
abbrev pub NotesLeaf : ScanCore → ℕ → Page → ScanCore → Type 0
NotesLeaf old key c new =
    (w : Sought) → slice_get (sought_in old) key ≡ Some w
    → NotesEntries (asked_in old) w c old.main new.main × NamesTrees w c (trees_in old) (trees_in new)

-- the items of a page of the posting tree with this number are noted too
abbrev pub NotesPosting : ScanCore → ℕ → Page → ScanCore → Type 0
NotesPosting old at c new =
    (t : NamedTree) (es : List Entry) → slice_get (trees_in old) at ≡ Some t
    → AreNotedUnder (asked_in old) es old.main
    → AreNotedUnder (asked_in old) (es ++ list_entry t.key (posting_list_in c.body) ∷ []) new.main

-- what comes after a leaf or a posting tree, where so many pages of the walk were read: the tree with this number, or
-- where there is none the leaf that is next
abbrev pub GoesToTree : ScanCore → ℕ → ℕ → ℕ → ℕ → Stage → Type 0
GoesToTree s key at next read z =
    ((t : NamedTree) × (slice_get (trees_in s) at ≡ Some t)
    × (z ≡ stage.Posting key at t.root s.extent next read))
    ⊎ ((length s.roots.items ≤ at) × (z ≡ stage.Leaf key next (s.extent - read)))

-- The page leads on towards the leaf of the key, and nothing is noted; or it is that leaf, which is noted, and then the
-- posting trees that its entries name come, and the leaf where more keys may fit.
abbrev pub GoesOn : ScanCore → ℕ → ℕ → Sought → Page → ScanCore → Stage → Type 0
GoesOn old key left w c new next =
    ((next ≡ stage.Down key (toward (first_key w) c) left) × (toward (first_key w) c ≢ 0) × (new ≡ old))
    ⊎ ((toward (first_key w) c ≡ 0) × NotesLeaf old key c new
    × GoesToTree new key (length old.roots.items) (beyond w c) (old.extent - left) next)

-- the stage is one of the walk with this number, of which so many pages may still be read
abbrev pub IsOnWalk : ℕ → ℕ → Stage → Type 0
IsOnWalk key left s =
    (page : ℕ) × ((s ≡ stage.Down key page left) ⊎ ((page ≢ 0) × (s ≡ stage.Leaf key page left)))

-- No page more may be read of the chain that is read, and this is read after it: the first walk after the list, the
-- next walk, or what comes after a posting tree.
pub data EndsAs (s : ScanCore) (z : Stage) : Type 0 where
  list : (page : ℕ) → page ≢ 0 → s.stage ≡ stage.Pending page 0 → z ≡ stage.Down 0 1 s.extent → EndsAs s z
  walk : (key : ℕ) → key < length (sought_in s) → IsOnWalk key 0 s.stage → z ≡ stage.Down (suc key) 1 s.extent
      → EndsAs s z
  tree : (key at page next read : ℕ) → page ≢ 0 → s.stage ≡ stage.Posting key at page 0 next read
      → GoesToTree s key (suc at) next read z → EndsAs s z

-- a stage with so many pages left
abbrev pub stage_with : Stage → ℕ → Stage
stage_with (stage.Pending page n) left = stage.Pending page left
stage_with (stage.Down key page n) left = stage.Down key page left
stage_with (stage.Leaf key page n) left = stage.Leaf key page left
stage_with (stage.Posting key at page n next read) left = stage.Posting key at page left next read
stage_with (stage.Parts at page n) left = stage.Parts at page left
stage_with s left = s
