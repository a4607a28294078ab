-- What records by which rows move to the trees leave as it is: pairs, the history, and the pending list
-- but for its first page.
use Rattle.std.specs.Prelude.{◌≡◌, ◌≢◌, ◌⊎◌, ℕ, ◌<◌, ◌≤◌, List, [], ◌∷◌, ◌++◌}
use Rattle.ts_base.specs.Keys.{Key}
use Rattle.page_types.specs.Records.{kind_number}
use Rattle.page_types.specs.Views.{rows_of}
use Rattle.page_types.specs.declared.page.Row.{Row}
use Rattle.page_types.specs.declared.record.Record.{Record}
use Rattle.page_types.specs.declared.record.Kind.{Kind}
use Rattle.page_types.specs.declared.record.Kind.TheVariants as kind
use Rattle.core_state.specs.Log.{Log, Pages, In, Shows}
use Rattle.core_state.specs.History.{History, IsHistory}
use Rattle.core_state.specs.Index.{Line, IsLinked, Pending, Main}
use Rattle.core_state.specs.Legal.{IsLegal}
use Rattle.core_state.specs.Steady.{IsIndexWork}
use Rattle.core_state.specs.RecordKeeps.{SameHeads, SameMain, TreesStay, PlacingKeeps}
use Rattle.core_state.specs.Allowed.{View, IsAllowed}
use Rattle.core_maintenance.specs.Right.{HasRight}
use Rattle.core_maintenance.specs.MovingSteps.{IsAllMain}

-- the kinds 13 to 17, by which items come into the trees
abbrev pub IsPlacing : Kind → Type 0
IsPlacing k = (13 ≤ kind_number k) × (kind_number k ≤ 17)

-- these records take no row off the pending list and no item out of the trees: they are of none of the
-- kinds 12 and 18 to 21
abbrev pub OnlyAdd : List Record → Type 0
OnlyAdd later = (r : Record) → In r later → (kind_number r.kind < 12) ⊎ IsPlacing r.kind

-- linked rows stay linked, pairs of the main part stay, and so do documents with all their keys there
pub record PairsStay (P Q : Pages) : Type 0 where
  pub rows : (w : Row) → IsLinked P w → IsLinked Q w
  pub pending : (k : Key) (i : ℕ) → Pending P k i → Pending Q k i
  pub main : (k : Key) (i : ℕ) → Main P k i → Main Q k i
  pub all_main : (i : ℕ) → IsAllMain P i → IsAllMain Q i

-- what holds of the pages P of a legal log that isn't empty, and of the pages Q of a legal one that
-- goes on after it by such records
abbrev pub HoldsAfter : (List Record → Type 0) → (Pages → Pages → Type 0) → Type 0
HoldsAfter Are Holds =
    (R later R' : Log) (P Q : Pages) → R' ≡ later ++ R → R ≢ [] → IsLegal R'
    → Shows R P → Shows R' Q → Are later → Holds P Q

-- records that only add keep the pairs
abbrev pub PairsHold : Type 0
PairsHold = HoldsAfter OnlyAdd PairsStay

-- the pending list is the same, and its pages are
abbrev pub ListStays : Pages → Pages → Type 0
ListStays P Q = (qs : List ℕ) → Line P qs → Line Q qs × ((q : ℕ) → In q qs → Q q ≡ P q)

-- records of the kinds 13 to 17 keep heads and rows, and the pairs of the main part; and the pending
-- list
abbrev pub ArePlacing : List Record → Type 0
ArePlacing later = (r : Record) → In r later → IsPlacing r.kind

abbrev pub PlacingHolds : Type 0
PlacingHolds = HoldsAfter ArePlacing PlacingKeeps

abbrev pub PlacingKeepsList : Type 0
PlacingKeepsList = HoldsAfter ArePlacing ListStays

-- records of the kinds 12 to 21 keep the history
abbrev pub HistoryHolds : Type 0
HistoryHolds =
    (R later : Log) (H : History) → ((r : Record) → In r later → IsIndexWork r.kind)
    → IsHistory R H → IsHistory (later ++ R) H

-- The pending list loses its first page: its pages are the others, which are as they were. A row that
-- was linked is so still, or was on that page, and no row comes; heads, the main part and the trees
-- are the same.
pub record ShiftKeeps (P Q : Pages) : Type 0 where
  pub page : ℕ
  pub rest : List ℕ
  pub line : Line P (page ∷ rest)
  pub line_then : Line Q rest
  pub same : (q : ℕ) → In q rest → Q q ≡ P q
  pub rows : (w : Row) → IsLinked P w → IsLinked Q w ⊎ In w (rows_of (P page))
  pub no_more : (w : Row) → IsLinked Q w → IsLinked P w
  pub heads : SameHeads P Q
  pub main : SameMain P Q
  pub trees : TreesStay P Q

-- so it is after a Shift
abbrev pub ShiftHolds : Type 0
ShiftHolds =
    (R : Log) (r : Record) (P Q : Pages) → IsLegal (r ∷ R) → Shows R P → Shows (r ∷ R) Q
    → r.kind ≡ kind.Shift → ShiftKeeps P Q

-- A pending list grows at its end alone: by pages after these, and each of these by rows after its own.
pub record ListGrows (P Q : Pages) (qs : List ℕ) : Type 0 where
  pub more : List ℕ
  pub line : Line Q (qs ++ more)
  pub rows : (q : ℕ) → In q qs → (extra : List Row) × (rows_of (Q q) ≡ rows_of (P q) ++ extra)

abbrev pub LineGrows : Pages → Pages → Type 0
LineGrows P Q = (qs : List ℕ) → Line P qs → ListGrows P Q qs

-- so does that of a log by records that only add
abbrev pub LineHolds : Type 0
LineHolds = HoldsAfter OnlyAdd LineGrows

-- and so it does in each log that is allowed to a session with the right of maintenance
abbrev pub RightKeepsLine : Type 0
RightKeepsLine =
    (v : View) (R : Log) (a : IsAllowed v R) (P : Pages) → HasRight v → Shows v.seen P
    → LineGrows P a.pages
