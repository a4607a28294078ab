-- What a scan has read: a walk that is open at its end, and parts of a long vector.
use Rattle.std.specs.Prelude.{◌≡◌, ℕ, suc, ◌+◌, ◌≤◌, Bool, true, false, List, [], ◌∷◌, None, length}
use Rattle.std.specs.List.{All, flat_map}
use Rattle.page_types.specs.Views.{first_of, part_of}
use Rattle.core_state.specs.Log.{Log}
use Rattle.core_state.specs.Readings.{Read, AreReads}
use Rattle.gin_opclass.specs.Class.{Asked}
use Rattle.core_moments.specs.Walk.{Sought, KeyWalk, Walk, rightward, reads_of}
use Rattle.core_moments.specs.Law.{path_of}
use Rattle.core_moments.specs.OpenWalk as open_walk
use Rattle.gin_hits.specs.Rows.{lists_of, rows_read, first_read, AreNoted}
use Rattle.gin_hits.specs.Entries.{entries_read, AreNotedUnder}
use Rattle.gin_hits.specs.declared.hits.Hits.{Hits}
use Rattle.gin_scan.specs.Ways.{AreWalks}
use Rattle.gin_scan.specs.declared.scan_core.ScanCore.{ScanCore}
use Rattle.gin_scan.specs.declared.stage.LongVector.{LongVector}

-- the reads begin at page p and follow right links, and q is the page that is next: 0, or one to be
-- read
abbrev pub LeadOn : ℕ → List Read → ℕ → Type 0
LeadOn p xs q = open_walk.LeadOn rightward p xs q

-- no item is noted
pub record IsNoHit (h : Hits) : Type 0 where
  pub any : h.any.items ≡ []
  pub by_key : All (λ (items : List ℕ). items ≡ []) (lists_of h)

-- nothing is judged yet
pub record IsUnjudged (s : ScanCore) : Type 0 where
  pub kept : s.kept.items ≡ []
  pub long : s.long.items ≡ []
  pub names : s.names.items ≡ []
  pub heads_read : s.heads_read ≡ 0

-- nothing is read yet
pub record IsUnread (s : ScanCore) : Type 0 where
  pub pending : IsNoHit s.pending
  pub main : IsNoHit s.main
  pub not_begun : s.has_begun ≡ false
  pub first : s.first_item ≡ None
  pub unjudged : IsUnjudged s
  pub pages_read : s.pages_read ≡ 0

-- whether a page was read
abbrev pub has_read : List Read → Bool
has_read [] = false
has_read (x ∷ xs) = true

-- The metapage and pages of the list were read so, up to this page; so many may still be read. What the scan
-- keeps is computed from them.
pub record ReadsListBy (WereRead : List Read → Type 0) (asked : List Asked) (s : ScanCore) (page left : ℕ)
    : Type 0 where
  pub meta : Read
  pub pending : List Read
  pub meta_page : meta.page ≡ 0
  pub leads : LeadOn (first_of meta.content) pending page
  pub reads : WereRead (meta ∷ pending)
  pub noted : AreNoted asked (rows_read pending) s.pending
  pub begun : s.has_begun ≡ has_read pending
  pub first : s.first_item ≡ first_read pending
  pub main : IsNoHit s.main
  pub unjudged : IsUnjudged s
  pub left_is : left + length pending ≡ s.extent
  pub pages_read : s.pages_read ≤ suc (length pending)

-- The metapage, pages of the list and of the tree were read so: those of this walk, which is open at its end. What the
-- scan keeps is computed from them.
pub record ReadsWalkBy (WereRead : Walk → Type 0) (asked : List Asked) (s : ScanCore) (w : Walk) : Type 0 where
  pub meta_page : w.meta.page ≡ 0
  pub reads : WereRead w
  pub noted : AreNoted asked (rows_read w.pending) s.pending
  pub first : s.first_item ≡ first_read w.pending
  pub noted_tree : AreNotedUnder asked (entries_read w.keys) s.main
  pub unjudged : IsUnjudged s
  pub pages_read : s.pages_read ≤ length (reads_of w)

-- Of the walks that look for these the first so many are over, and the next one is open as this says; so many pages may
-- still be read of it.
pub record ReadsKeysBy (WereRead : Walk → Type 0) (IsOver : KeyWalk → Type 0) (asked : List Asked)
    (sought : List Sought) (s : ScanCore) (key left : ℕ) (Open : Sought → List KeyWalk → Type 0) : Type 0 where
  pub walk : Walk
  pub so_far : ReadsWalkBy WereRead asked s walk
  pub keys : AreWalks IsOver sought key Open walk.keys
  pub left_is : left + length (flat_map path_of keys.last) ≡ s.extent

-- at lengths of the log from this one on; the list was read to its end
pub record WereReadOn (R : Log) (from : ℕ) (w : Walk) : Type 0 where
  pub reads : AreReads R from (reads_of w)
  pub list : LeadOn (first_of w.meta.content) w.pending 0

-- at lengths of the log from this one on
abbrev pub ReadsList : Log → ℕ → List Asked → ScanCore → ℕ → ℕ → Type 0
ReadsList R from = ReadsListBy (AreReads R from)

-- the parts on these pages, one after another
abbrev pub parts_read : List Read → List ℕ
parts_read xs = flat_map (λ (x : Read). part_of x.content) xs

-- The first parts of a long vector were read, up to this page; so many may still be read.
pub record ReadsParts (R : Log) (from : ℕ) (s : ScanCore) (l : LongVector) (page left : ℕ)
    : Type 0 where
  pub pages : List Read
  pub leads : LeadOn l.first pages page
  pub reads : AreReads R from pages
  pub bytes : s.bytes.items ≡ parts_read pages
  pub left_is : left + length pages ≡ s.extent
