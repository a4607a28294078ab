-- What becomes of what a cleanup has gathered: from the beginning on, where others log and items come into
-- the trees, where it reads a page, where a batch ends, and where it shifts one.
use Rattle.std.specs.Prelude.{◌≡◌, ◌≢◌, ◌⊎◌, ℕ, suc, ◌<◌, ◌≤◌, List, [], ◌∷◌, ◌++◌, length}
use Rattle.ts_base.specs.Keys.{Key}
use Rattle.page_types.specs.Views.{rows_of}
use Rattle.page_types.specs.declared.page.Row.{Row}
use Rattle.core_state.specs.Log.{Log, Pages, In, Shows}
use Rattle.core_state.specs.Index.{Line, Main}
use Rattle.core_state.specs.Legal.{IsLegal}
use Rattle.core_maintenance.specs.MovingSteps.{IsAllMain}
use Rattle.core_maintenance.specs.Keeping.{PairsStay, LineGrows, ShiftKeeps}
use Rattle.core_maintenance.specs.FreshRows.{RowsAreFresh}
use Rattle.gin_cleanup.specs.Gathering.{Wait, wait, IsGathered, IsBatch}

-- at the beginning all pages of the list are left, and none was read
abbrev pub BatchBegins : Type 0
BatchBegins = (P : Pages) (qs : List ℕ) → Line P qs → IsGathered P (length qs) [] []

-- records that only add leave what was gathered, and a batch
pub record BatchGrows : Type 0 where
  pub gathered : (P Q : Pages) (left : ℕ) (ns : List ℕ) (W : List Wait) → IsGathered P left ns W
      → LineGrows P Q → RowsAreFresh P Q → PairsStay P Q → IsGathered Q left ns W
  pub batch : (P Q : Pages) (left : ℕ) (ns : List ℕ) (W : List Wait) → IsBatch P left ns W
      → LineGrows P Q → RowsAreFresh P Q → PairsStay P Q → IsBatch Q left ns W

-- the next page is read: all its rows are noted, and their pairs wait
abbrev pub PageIsRead : Type 0
PageIsRead =
    (P : Pages) (left : ℕ) (ns : List ℕ) (W V : List Wait) (x : IsGathered P left ns W)
    (front rest : List ℕ) (q : ℕ) → x.line ≡ front ++ q ∷ rest → length front ≡ length ns
    → length ns < left → ((x : Wait) → In x W → In x V)
    → ((w : Row) → In w (rows_of (P q)) → (k : Key) → In k w.keys → In (wait k w.item) V)
    → IsGathered P left (ns ++ length (rows_of (P q)) ∷ []) V

-- pairs that are in the main part need not wait
abbrev pub PlacedNeedNotWait : Type 0
PlacedNeedNotWait =
    (P : Pages) (left : ℕ) (ns : List ℕ) (W V : List Wait) → IsBatch P left ns W
    → ((x : Wait) → In x W → Main P x.key x.item ⊎ In x V) → IsBatch P left ns V

-- a batch ends with the last page that was there at the beginning
abbrev pub EndsWithAll : Type 0
EndsWithAll =
    (P : Pages) (left : ℕ) (ns : List ℕ) (W : List Wait) → IsGathered P left ns W
    → length ns ≡ left → IsBatch P left ns W

-- or before a page whose first row is of no item on the page before it
abbrev pub EndsBefore : Type 0
EndsBefore =
    (R : Log) (P : Pages) → IsLegal R → Shows R P → (left : ℕ) (ns : List ℕ)
    (W : List Wait) (x : IsGathered P left ns W) (front rest : List ℕ) (p q : ℕ)
    → x.line ≡ front ++ p ∷ q ∷ rest → suc (length front) ≡ length ns
    → ((w v : Row) (vs : List Row) → In w (rows_of (P p)) → rows_of (P q) ≡ v ∷ vs
    → w.item ≢ v.item)
    → IsBatch P left ns W

-- where nothing waits and the first page has no more rows than were noted, each row on it is of a document
-- with all its keys in the main part
abbrev pub PageMayGo : Type 0
PageMayGo =
    (R : Log) (P : Pages) → IsLegal R → Shows R P → (left n q : ℕ) (ns rest : List ℕ)
    (b : IsBatch P left (n ∷ ns) []) → b.gathered.line ≡ q ∷ rest
    → length (rows_of (P q)) ≤ n → (w : Row) → In w (rows_of (P q)) → IsAllMain P w.item

-- once it is shifted, what stays is a batch
abbrev pub PageGoes : Type 0
PageGoes =
    (P Q : Pages) (left n : ℕ) (ns : List ℕ) (W : List Wait)
    → IsBatch P (suc left) (n ∷ ns) W → ShiftKeeps P Q → IsBatch Q left ns W
