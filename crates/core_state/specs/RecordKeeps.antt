-- What one record more leaves as it is: rows, pairs, trees and heads.
use Rattle.std.specs.Prelude.{◌≡◌, ◌≢◌, ◌⊎◌, ◌↔◌, ℕ, ◌≤◌, [], ◌∷◌, None}
use Rattle.ts_base.specs.Keys.{Key}
use Rattle.page_types.specs.Records.{kind_number}
use Rattle.page_types.specs.declared.page.Head.{Head}
use Rattle.page_types.specs.declared.page.Row.{Row}
use Rattle.page_types.specs.declared.record.Record.{Record}
use Rattle.page_types.specs.declared.record.Kind.TheVariants as kind
use Rattle.core_state.specs.Log.{Log, Pages, In, Shows, changed}
use Rattle.core_state.specs.Documents.{Doc, Has, placed, page_of, head_of}
use Rattle.core_state.specs.Index.{IsLinked, Main, Below}
use Rattle.core_state.specs.TreeRules.{IsRoot}
use Rattle.core_state.specs.VacuumRules.{IsRemoveItems}
use Rattle.core_state.specs.Legal.{IsLegal}

-- the row is of a document that has its slot, and that transaction x placed
pub record IsOwnRow (R : Log) (P : Pages) (x : ℕ) (w : Row) : Type 0 where
  pub doc : Doc
  pub head : Head
  pub item : doc.item ≡ w.item
  pub has : Has P doc head
  pub placed_by : In doc (placed R x)

-- the heads are the same; the linked rows; the main part; the pages of trees
abbrev pub SameHeads : Pages → Pages → Type 0
SameHeads P Q = (i : ℕ) → head_of Q i ≡ head_of P i

abbrev pub SameRows : Pages → Pages → Type 0
SameRows P Q = (w : Row) → IsLinked P w ↔ IsLinked Q w

abbrev pub SameMain : Pages → Pages → Type 0
SameMain P Q = (k : Key) (i : ℕ) → Main P k i ↔ Main Q k i

pub record TreesStay (P Q : Pages) : Type 0 where
  pub pages : (root p : ℕ) → IsRoot P root → Below P root p → Q p ≡ P p
  pub no_more : (root p : ℕ) → IsRoot Q root → Below Q root p → IsRoot P root × Below P root p

-- the kinds 13 to 17, by which items come into the trees: rows and heads are the same, and no pair
-- leaves
pub record PlacingKeeps (P Q : Pages) : Type 0 where
  pub heads : SameHeads P Q
  pub rows : SameRows P Q
  pub main : (k : Key) (i : ℕ) → Main P k i → Main Q k i

-- 18: rows and heads are the same; of the main part goes what is removed, and nothing comes
pub record RemovingKeeps (R : Log) (P Q : Pages) (r : Record) : Type 0 where
  pub heads : SameHeads P Q
  pub rows : SameRows P Q
  pub main : (floor : ℕ) (x : IsRemoveItems R P Q r floor) (k : Key) (i : ℕ) → Main P k i
      → Main Q k i ⊎ In i x.here.removed
  pub no_more : (k : Key) (i : ℕ) → Main Q k i → Main P k i

-- 19: rows, heads and the main part are the same
pub record DeletingKeeps (P Q : Pages) : Type 0 where
  pub heads : SameHeads P Q
  pub rows : SameRows P Q
  pub main : SameMain P Q

-- 20: rows, the main part and the trees are the same, and each head but that of the record's item
pub record DroppingKeeps (P Q : Pages) (item : ℕ) : Type 0 where
  pub heads : (i : ℕ) → i ≢ item → head_of Q i ≡ head_of P i
  pub rows : SameRows P Q
  pub main : SameMain P Q
  pub trees : TreesStay P Q

-- 21: rows, the main part and the trees are the same, and each head but those on the record's page
-- that become free
pub record FreeingKeeps (P Q : Pages) (r : Record) : Type 0 where
  pub heads : (i : ℕ) → (head_of Q i ≡ head_of P i)
      ⊎ (In (page_of i) (changed r) × (head_of Q i ≡ None))
  pub rows : SameRows P Q
  pub main : SameMain P Q
  pub trees : TreesStay P Q

-- A row that a record links was linked, or is of a document that the record's own transaction placed;
-- what the kinds from 13 on leave as it is.
pub record RecordKeeps (R : Log) (P Q : Pages) (r : Record) : Type 0 where
  pub own_rows : (w : Row) → IsLinked Q w → IsLinked P w ⊎ IsOwnRow R P r.xid w
  pub placing : 13 ≤ kind_number r.kind → kind_number r.kind ≤ 17 → PlacingKeeps P Q
  pub removing : r.kind ≡ kind.RemoveItems → RemovingKeeps R P Q r
  pub deleting : r.kind ≡ kind.DeletePost → DeletingKeeps P Q
  pub dropping : (item serial : ℕ) → r.kind ≡ kind.DropPage item serial → DroppingKeeps P Q item
  pub freeing : r.kind ≡ kind.FreeSlots → FreeingKeeps P Q r

-- it holds of each record after a log that isn't empty, where the log with it is legal
abbrev pub RecordsKeep : Type 0
RecordsKeep =
    (R : Log) (r : Record) (P Q : Pages) → R ≢ [] → IsLegal (r ∷ R) → Shows R P → Shows (r ∷ R) Q
    → RecordKeeps R P Q r
