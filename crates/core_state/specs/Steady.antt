-- What later records leave as it is.
use Rattle.std.specs.Prelude.{◌≡◌, ◌≢◌, ◌⊎◌, ◌↔◌, ℕ, ◌≤◌, List, [], ◌++◌, length, Option, ⊤}
use Rattle.ts_base.specs.Vectors.{Vector}
use Rattle.ts_base.specs.Keys.{Key}
use Rattle.page_types.specs.Records.{kind_number}
use Rattle.page_types.specs.Views.{free_page}
use Rattle.page_types.specs.declared.page.Head.{Head}
use Rattle.page_types.specs.declared.page.Row.{Row}
use Rattle.page_types.specs.declared.page.Body.TheVariants as body
use Rattle.page_types.specs.declared.page.Gone.TheVariants as gone
use Rattle.page_types.specs.declared.record.Record.{Record}
use Rattle.page_types.specs.declared.record.Kind.{Kind}
use Rattle.page_types.specs.declared.record.Kind.TheVariants as kind
use Rattle.core_state.specs.Log.{Log, Pages, In, Shows, changed, commits, fate}
use Rattle.core_state.specs.Documents.{Doc, IsChain, Has, IsWhole, HasVector, IsDead, placed}
use Rattle.core_state.specs.History.{Document, IsStored}
use Rattle.core_state.specs.Index.{Line, HasRow, IsLinked, Main, IsIndexed, Below}
use Rattle.core_state.specs.TreeRules.{IsRoot}
use Rattle.core_state.specs.Legal.{IsLegal, Pin, Keeps}
use Rattle.core_state.specs.Readings.{Read, AreReads}
use Rattle.core_state.specs.declared.answers.Fate.TheVariants.{Running, Aborted, Committed}

-- the kinds 12 to 21, which move rows to the trees and remove what is dead
abbrev pub IsIndexWork : Kind → Type 0
IsIndexWork k = (12 ≤ kind_number k) × (kind_number k ≤ 21)

-- the kinds that only the one maintenance run makes: Create, Checkpoint and 12 to 21
abbrev pub IsMaintenance : Kind → Type 0
IsMaintenance kind.Create = ⊤
IsMaintenance (kind.Checkpoint redo) = ⊤
IsMaintenance k = IsIndexWork k

-- none of these records is of transaction x, or ends every running one
abbrev pub LeavesXid : ℕ → List Record → Type 0
LeavesXid x later = (r : Record) → In r later → (r.xid ≢ x) × (r.kind ≡ kind.Abort → r.xid ≢ 0)

-- none of these records is of the kinds 12 to 21
abbrev pub LeavesIndex : List Record → Type 0
LeavesIndex later = (r : Record) → In r later → IsIndexWork r.kind → ⊥

-- the chain from p on is the same, and so are its pages
abbrev pub SameChain : Pages → Pages → ℕ → Type 0
SameChain P P' p =
    (qs : List ℕ) → IsChain P p qs → IsChain P' p qs × ((q : ℕ) → In q qs → P' q ≡ P q)

-- the document has the same head, the same chains and the same vector
pub record KeepsHead (P P' : Pages) (d : Doc) (h : Head) : Type 0 where
  pub head : Has P' d h
  pub overflow : SameChain P P' h.overflow
  pub private : SameChain P P' h.private
  pub vector : (v : Vector) → IsWhole P h v → IsWhole P' h v

-- a transaction that runs and of which no later record is runs on, and its documents stay as they
-- are
pub record RunsOn (R R' : Log) (P P' : Pages) (x : ℕ) : Type 0 where
  pub runs : fate R' x ≡ Running
  pub heads : (d : Doc) → In d (placed R x) → (h : Head) × Has P d h × KeepsHead P P' d h
  pub no_row : (d : Doc) → In d (placed R x) → (HasRow P d.item → ⊥) → HasRow P' d.item → ⊥
  pub indexed : (d : Doc) → In d (placed R x) → IsIndexed P d → IsIndexed P' d

-- what is committed, aborted or dead stays so
pub record EndsStay (R R' : Log) : Type 0 where
  pub committed_stays : (x n : ℕ) → fate R x ≡ Committed n → fate R' x ≡ Committed n
  pub aborted_stays : (x : ℕ) → fate R x ≡ Aborted → fate R' x ≡ Aborted
  pub dead_stays : (d : Doc) (floor : ℕ) → IsDead R floor d → IsDead R' floor d

-- Without later records of the kinds 12 to 21 the main part and the pages of trees are the same,
-- and no page comes into a tree; linked rows stay linked, whole documents keep their vectors, and
-- dead ones their chains and rows and get no more.
pub record IndexStays (R R' : Log) (P P' : Pages) : Type 0 where
  pub main : (k : Key) (i : ℕ) → Main P k i ↔ Main P' k i
  pub trees : (root p : ℕ) → IsRoot P root → Below P root p → P' p ≡ P p
  pub no_more_trees : (root p : ℕ) → IsRoot P' root → Below P' root p
      → IsRoot P root × Below P root p
  pub rows : (w : Row) → IsLinked P w → IsLinked P' w
  pub whole : (d : Doc) (v : Vector) → HasVector P d v → HasVector P' d v
  pub dead : (d : Doc) (h : Head) (floor : ℕ) → IsDead R floor d → Has P d h → KeepsHead P P' d h
  pub dead_rows : (d : Doc) (h : Head) (floor : ℕ) → IsDead R floor d → Has P d h → (w : Row)
      → w.item ≡ d.item → IsLinked P' w → IsLinked P w

-- a page that is shown as free was changed by no record
abbrev pub FreeIsUntouched : Log → Pages → Type 0
FreeIsUntouched R P = (p : ℕ) → P p ≡ free_page → (r : Record) → In r R → In p (changed r) → ⊥

-- a document that is in the pages P, and isn't dead in the later log by this floor, is in its
-- pages P', in the same slot and with the same content
abbrev pub LiveStay : Log → Pages → Pages → ℕ → Type 0
LiveStay R' P P' floor =
    (D : Document) (s : IsStored P D) → (IsDead R' floor s.doc → ⊥) → IsStored P' D

-- a document that was dead, and has its slot still, has got no more linked rows
abbrev pub DeadGetNoRow : Log → Pages → Pages → Type 0
DeadGetNoRow R P P' =
    (d : Doc) (h : Head) (floor : ℕ) → IsDead R floor d → Has P' d h → (w : Row)
    → w.item ≡ d.item → IsLinked P' w → IsLinked P w

-- pages of the entry tree and of the heap stay there, and a root stays one
pub record PlacesStay (P P' : Pages) : Type 0 where
  pub entry_tree : (p : ℕ) → Below P 1 p → Below P' 1 p
  pub roots : (root : ℕ) → IsRoot P root → IsRoot P' root
  pub heap : (p : ℕ) (slots : List (Option Head)) → (P p).body ≡ body.Heap slots
      → (slots' : List (Option Head)) × ((P' p).body ≡ body.Heap slots')

-- A page of a posting tree stays in it, or is a leaf that was deleted empty; and a page of the pending
-- list stays there, or was deleted with its rows.
pub record PinnedPlacesStay (P P' : Pages) : Type 0 where
  pub posting_tree : (root p : ℕ) → IsRoot P root → root ≢ 1 → Below P root p
      → Below P' root p ⊎ ((high : ℕ) × ((P' p).body ≡ body.Deleted (gone.PostLeaf high [])))
  pub line : (p : ℕ) → (qs : List ℕ) × Line P qs × In p qs
      → ((qs : List ℕ) × Line P' qs × In p qs)
      ⊎ ((rows : List Row) × ((P' p).body ≡ body.Deleted (gone.Pending rows)))

-- what was read is a reading of the later log too
abbrev pub ReadingsStay : Log → Log → Type 0
ReadingsStay R R' = (from : ℕ) (xs : List Read) → AreReads R from xs → AreReads R' from xs

-- the facts of a log and one that goes on after it by the records `later`
pub record SteadyFacts (R later R' : Log) (P P' : Pages) : Type 0 where
  pub runs_on : (x : ℕ) → fate R x ≡ Running → LeavesXid x later → RunsOn R R' P P' x
  pub ends_stay : EndsStay R R'
  pub index_stays : LeavesIndex later → IndexStays R R' P P'
  pub free : FreeIsUntouched R P
  pub live_stay : LiveStay R' P P' (commits R')
  pub live_stay_under : (pin : Pin) → Keeps R' pin → LiveStay R' P P' pin.commits
  pub dead_rows : DeadGetNoRow R P P'
  pub readings_stay : ReadingsStay R R'
  pub places : PlacesStay P P'
  pub places_under : (pin : Pin) → Keeps R' pin → pin.length ≤ length R → PinnedPlacesStay P P'

-- they hold of any two legal logs of which the first isn't empty and begins the second
abbrev pub SteadyHold : Type 0
SteadyHold =
    (R later R' : Log) (P P' : Pages) → R' ≡ later ++ R → R ≢ [] → IsLegal R → IsLegal R'
    → Shows R P → Shows R' P' → SteadyFacts R later R' P P'
