-- What is noted of a page, and the stage that follows.
use Rattle.std.specs.Prelude.{◌≡◌, ℕ, true, cond, List, ◌++◌, length, Some}
use Rattle.std.specs.List.{slice_get}
use Rattle.page_types.specs.Views.{kept_rows_of}
use Rattle.page_types.specs.declared.page.Page.{Page}
use Rattle.page_types.specs.declared.page.Row.{Row}
use Rattle.core_moments.specs.Walk.{Sought, rightward, along, beyond}
use Rattle.core_moments.specs.OpenLaws.{IsLeaf, IsPostingPage}
use Rattle.gin_hits.specs.Rows.{AreNoted, first_of_rows}
use Rattle.gin_scan.specs.Causes.{HasRows, HasWay}
use Rattle.gin_scan.specs.Scanning.{asked_in, sought_in}
use Rattle.gin_scan.specs.Inner.Ways.{NotesLeaf, NotesPosting, GoesOn, GoesToTree}
use Rattle.gin_scan.specs.declared.scan_core.ScanCore.{ScanCore}
use Rattle.gin_scan.specs.declared.stage.Stage.{Stage}
use Rattle.gin_scan.specs.declared.stage.Stage.TheVariants as stage

-- the rows on a page of the list, of which so many may be read after it
pub record NotesRows (old : ScanCore) (c : Page) (left : ℕ) (new : ScanCore) (z : Stage) : Type 0 where
  pub has : HasRows c
  pub next : z ≡ stage.Pending (rightward c) left
  pub noted : (rows : List Row) → AreNoted (asked_in old) rows old.pending
      → AreNoted (asked_in old) (rows ++ kept_rows_of c) new.pending
  pub first : new.first_item ≡ cond old.has_begun old.first_item (first_of_rows (kept_rows_of c))
  pub rest : new ≡ record old { pending = new.pending; has_begun = true; first_item = new.first_item }
  pub lists : length new.pending.by_key.items ≡ length old.pending.by_key.items

-- nothing but what is noted of the main part changes
pub record NotesMain (old new : ScanCore) : Type 0 where
  pub rest : new ≡ record old { main = new.main; roots = new.roots }
  pub lists : length new.main.by_key.items ≡ length old.main.by_key.items

-- a leaf, where so many pages of the walk with this number were read
pub record PassesLeaf (old : ScanCore) (key : ℕ) (c : Page) (read : ℕ) (new : ScanCore) (z : Stage) : Type 0 where
  pub leaf : IsLeaf c
  pub noted : NotesLeaf old key c new
  pub next : (w : Sought) → slice_get (sought_in old) key ≡ Some w
      → GoesToTree new key (length old.roots.items) (beyond w c) read z
  pub main : NotesMain old new

-- a page on the way of a key, of which so many may be read after it
pub record NotesWay (old : ScanCore) (key left : ℕ) (c : Page) (new : ScanCore) (z : Stage) : Type 0 where
  pub next : (w : Sought) → slice_get (sought_in old) key ≡ Some w
      → HasWay w c × GoesOn old key left w c new z
  pub main : NotesMain old new

-- a page of the posting tree with this number, of which so many may be read after it
pub record NotesTree (old : ScanCore) (key at left then read : ℕ) (c : Page) (new : ScanCore) (z : Stage) : Type 0 where
  pub has : IsPostingPage c
  pub next : z ≡ stage.Posting key at (along c) left then read
  pub noted : NotesPosting old at c new
  pub rest : new ≡ record old { main = new.main }
  pub lists : length new.main.by_key.items ≡ length old.main.by_key.items
