-- Where the documents of a legal log are, and what their heads say of it.
use Rattle.std.specs.Prelude.{◌≡◌, ◌≢◌, ◌⊎◌, ◌↔◌, ℕ, ◌≤◌, ◌∷◌, ◌++◌, length, take, Some}
use Rattle.ts_base.specs.Vectors.{Vector}
use Rattle.page_types.specs.declared.page.Head.{Head}
use Rattle.page_types.specs.declared.page.Name.{Name}
use Rattle.page_types.specs.declared.record.Record.{Record}
use Rattle.page_types.specs.declared.record.Kind.TheVariants as kind
use Rattle.core_state.specs.Log.{Log, Pages, In, Shows, fate, commits, cut}
use Rattle.core_state.specs.Documents.{Doc, HasVector, IsDead, name_of, placed, marked, head_of, doc_at}
use Rattle.core_state.specs.History.{Document, History, IsHistory, IsStored, docs}
use Rattle.core_state.specs.Index.{IsIndexed}
use Rattle.core_state.specs.Changes.{IsDeadHead}
use Rattle.core_state.specs.Legal.{IsLegal, Pin, Keeps}
use Rattle.core_state.specs.declared.answers.Fate.{Fate}
use Rattle.core_state.specs.declared.answers.Fate.TheVariants.{Running, Aborted, Committed}

-- a transaction that placed the document has committed, and the document isn't dead by this floor
pub record IsThere (R : Log) (floor : ℕ) (d : Doc) : Type 0 where
  pub xid : ℕ
  pub number : ℕ
  pub placed_by : In d (placed R xid)
  pub committed : fate R xid ≡ Committed number
  pub alive : IsDead R floor d → ⊥

-- Each commit of the log found the documents of its transaction indexed.
abbrev pub CommitsIndexed : Log → Type 0
CommitsIndexed R =
    (later earlier : Log) (r : Record) (number : ℕ) (P : Pages) → R ≡ later ++ r ∷ earlier
    → r.kind ≡ kind.Commit number → Shows earlier P
    → (d : Doc) → In d (placed earlier r.xid) → IsIndexed P d

-- it is so of every legal log
abbrev pub CommitsHold : Type 0
CommitsHold = (R : Log) → IsLegal R → CommitsIndexed R

-- Documents that are there have their slots and are whole, each in a slot of its own.
pub record AreThere (R : Log) (P : Pages) (floor : ℕ) : Type 0 where
  pub whole : (d : Doc) → IsThere R floor d → (v : Vector) × HasVector P d v
  pub apart : (d e : Doc) → IsThere R floor d → IsThere R floor e → d.item ≡ e.item → d ≡ e

-- each document that is there after n first commits is in the pages, where n is this floor or
-- more
abbrev pub HistoryStands : Log → Pages → ℕ → Type 0
HistoryStands R P floor =
    (H : History) (n : ℕ) (D : Document) → IsHistory R H → floor ≤ n → In D (docs (take n H))
    → IsStored P D

-- each document of the pin's snapshot is in the pages of every length from the pin's on
abbrev pub SnapshotStays : Log → Pin → Type 0
SnapshotStays R pin =
    (H : History) (D : Document) (at : ℕ) (P : Pages) → IsHistory R H
    → In D (docs (take pin.commits H)) → pin.length ≤ at → at ≤ length R → Shows (cut at R) P
    → IsStored P D

-- a snapshot of n first commits sees the head: its inserting xid is among them, and its deleting one
-- isn't
pub record Sees (fates : ℕ → Fate) (n : ℕ) (h : Head) : Type 0 where
  pub number : ℕ
  pub inserted : fates h.inserted_by ≡ Committed number
  pub within : number ≤ n
  pub not_deleted : (m : ℕ) → fates h.deleted_by ≡ Committed m → m ≤ n → ⊥

-- the document of this name is there after n first commits
abbrev pub IsInSnapshot : History → ℕ → Name → Type 0
IsInSnapshot H n name = (D : Document) × In D (docs (take n H)) × (D.name ≡ name)

-- They do by all commits of the log, and by those of each pin that it keeps. A head names the
-- transaction that placed its document, and 0 or one that marked it deleted; who else marked it has
-- aborted. So the head says whether its document is dead, by any floor. What a running transaction
-- placed isn't dead. The documents of the history are in the pages with their vectors, and those of
-- a pin's snapshot are there at each length past it. A head says whether a snapshot has its
-- document.
pub record DocumentsStand (R : Log) (P : Pages) : Type 0 where
  pub there : AreThere R P (commits R)
  pub there_under : (pin : Pin) → Keeps R pin → AreThere R P pin.commits
  pub inserted : (item : ℕ) (h : Head) → head_of P item ≡ Some h
      → In (doc_at item h.serial) (placed R h.inserted_by)
  pub deleted : (item : ℕ) (h : Head) → head_of P item ≡ Some h
      → (h.deleted_by ≡ 0) ⊎ In (doc_at item h.serial) (marked R h.deleted_by)
  pub others_aborted : (item : ℕ) (h : Head) (x : ℕ) → head_of P item ≡ Some h
      → In (doc_at item h.serial) (marked R x) → x ≢ h.deleted_by → fate R x ≡ Aborted
  pub dead : (item : ℕ) (h : Head) (floor : ℕ) → head_of P item ≡ Some h
      → IsDead R floor (doc_at item h.serial) ↔ IsDeadHead (fate R) floor h
  pub running : (x : ℕ) (d : Doc) (floor : ℕ) → fate R x ≡ Running → In d (placed R x)
      → IsDead R floor d → ⊥
  pub history : HistoryStands R P (commits R)
  pub history_under : (pin : Pin) → Keeps R pin → HistoryStands R P pin.commits
  pub snapshot_stays : (pin : Pin) → Keeps R pin → SnapshotStays R pin
  pub seen : (item : ℕ) (h : Head) (H : History) (n : ℕ) → head_of P item ≡ Some h → IsHistory R H
      → IsInSnapshot H n (name_of (doc_at item h.serial)) ↔ Sees (fate R) n h

-- it holds in every legal log
abbrev pub DocumentsHold : Type 0
DocumentsHold = (R : Log) (P : Pages) → IsLegal R → Shows R P → DocumentsStand R P
