-- Where the pending list grows, each row that comes is of an item that had no linked row.
use Rattle.std.specs.Prelude.{◌≢◌, ℕ, List, []}
use Rattle.page_types.specs.Views.{rows_of}
use Rattle.page_types.specs.declared.page.Row.{Row}
use Rattle.core_state.specs.Log.{Log, Pages, In, Shows}
use Rattle.core_state.specs.Index.{Line, HasRow}
use Rattle.core_state.specs.PagesTold.{IsLastOf}
use Rattle.core_state.specs.Allowed.{View, IsAllowed}
use Rattle.core_maintenance.specs.Right.{HasRight}
use Rattle.core_maintenance.specs.Keeping.{OnlyAdd, HoldsAfter, ListGrows}

-- Neither the rows after those of a page nor the rows on the pages after these are of an item that had
-- a linked row. The last of these pages alone gets rows, and none of an item of the pages after it.
pub record AreFresh (P Q : Pages) (qs : List ℕ) (g : ListGrows P Q qs) : Type 0 where
  pub extra : (q : ℕ) (i : In q qs) (w : Row) → In w (g.rows q i).0 → HasRow P w.item → ⊥
  pub more : (q : ℕ) → In q g.more → (w : Row) → In w (rows_of (Q q)) → HasRow P w.item → ⊥
  pub last : (q : ℕ) (i : In q qs) → (g.rows q i).0 ≢ [] → IsLastOf qs q
  pub apart : (q p : ℕ) (i : In q qs) (w v : Row) → In w (g.rows q i).0 → In p g.more
      → In v (rows_of (Q p)) → w.item ≢ v.item

abbrev pub RowsAreFresh : Pages → Pages → Type 0
RowsAreFresh P Q = (qs : List ℕ) → Line P qs → (g : ListGrows P Q qs) → AreFresh P Q qs g

-- so it is over records that only add
abbrev pub FreshHolds : Type 0
FreshHolds = HoldsAfter OnlyAdd RowsAreFresh

-- and in each log that is allowed to a session with the right of maintenance
abbrev pub RightKeepsFresh : Type 0
RightKeepsFresh =
    (v : View) (R : Log) (a : IsAllowed v R) (P : Pages) → HasRight v → Shows v.seen P
    → RowsAreFresh P a.pages
