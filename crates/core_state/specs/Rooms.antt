-- What the program holds of a log: its state, and how much more it has room for without more
-- memory.
use Rattle.std.specs.Prelude.{◌≡◌, ℕ, suc, None, ◌+◌, ◌<◌, ◌≤◌, ⊤, length, All, IfSome}
use Rattle.page_types.specs.Numbers.{page_limit}
use Rattle.page_types.specs.declared.record.Change.{Change}
use Rattle.page_types.specs.declared.record.Record.{Record}
use Rattle.page_types.specs.declared.record.Kind.{Kind}
use Rattle.page_types.specs.declared.record.Kind.TheVariants as kind
use Rattle.core_state.specs.States.{StateValue, transaction}
use Rattle.core_state.specs.declared.transactions.Transaction.{Transaction}

-- How much has room: the uses of the pages below `pages`; so many fates, freed pages, and names of
-- one running transaction, those that are there included; and so many more running transactions,
-- documents, and commits, with so many more names that they delete or insert.
pub record Room : Type 0 where
  pub pages : ℕ
  pub fates : ℕ
  pub running : ℕ
  pub freed : ℕ
  pub names : ℕ
  pub serials : ℕ
  pub deletes : ℕ
  pub deleted : ℕ
  pub inserts : ℕ
  pub inserted : ℕ

-- a state and its room
pub record InMemory : Type 0 where
  pub value : StateValue
  pub room : Room

-- the transaction's commit has room
pub record FitsCommit (m : Room) (t : Transaction) : Type 0 where
  pub deletes : 0 < m.deletes
  pub deleted : length t.deleted ≤ m.deleted
  pub inserts : 0 < m.inserts
  pub inserted : length t.inserted ≤ m.inserted

-- one name more that the transaction places has room
pub record FitsPlaced (m : Room) (t : Transaction) : Type 0 where
  pub names : length t.inserted < m.names
  pub serials : 0 < m.serials

-- one name more that the transaction marks has room
abbrev pub FitsMarked : Room → Transaction → Type 0
FitsMarked m t = length t.deleted < m.names

-- what a record of this kind and xid, with so many changes, adds beside the uses of pages has room
abbrev pub HasRoomFor : Kind → ℕ → ℕ → InMemory → Type 0
HasRoomFor kind.Begin x n h = (length h.value.fates < h.room.fates) × (0 < h.room.running)
HasRoomFor (kind.Commit number) x n h = IfSome (transaction x h.value.running) (FitsCommit h.room)
HasRoomFor (kind.PlaceHead item serial) x n h =
    IfSome (transaction x h.value.running) (FitsPlaced h.room)
HasRoomFor (kind.MarkDeleted item serial) x n h =
    IfSome (transaction x h.value.running) (FitsMarked h.room)
HasRoomFor kind.FreeSlots x n h = length h.value.freed + n ≤ h.room.freed
HasRoomFor _ x n h = ⊤

-- the step by this record takes no more memory
pub record HasRoom (h : InMemory) (r : Record) : Type 0 where
  pub pages : All (λ (c : Change). c.page < page_limit → c.page < h.room.pages) r.changes
  pub rest : HasRoomFor r.kind r.xid (length r.changes) h

-- the uses of the pages that the record changes take no more memory
abbrev pub HasRoomForPages : ℕ → Record → Type 0
HasRoomForPages pages r = All (λ (c : Change). c.page < page_limit → c.page < pages) r.changes

-- Beside the uses of pages, a transaction that begins next, places one document and commits takes no
-- more memory. None of its xid runs.
pub record HasRoomToInsert (h : InMemory) : Type 0 where
  pub fresh : transaction (suc (length h.value.fates)) h.value.running ≡ None
  pub fates : length h.value.fates < h.room.fates
  pub running : 0 < h.room.running
  pub names : 0 < h.room.names
  pub serials : 0 < h.room.serials
  pub deletes : 0 < h.room.deletes
  pub inserts : 0 < h.room.inserts
  pub inserted : 0 < h.room.inserted

-- the room for commits stays
pub record KeepsLists (old new : Room) : Type 0 where
  pub deletes : new.deletes ≡ old.deletes
  pub deleted : new.deleted ≡ old.deleted
  pub inserts : new.inserts ≡ old.inserts
  pub inserted : new.inserted ≡ old.inserted

-- what a record of this kind and xid leaves of the room, beside that of pages
abbrev pub LeavesRoom : Kind → ℕ → Room → Room → Type 0
LeavesRoom kind.Begin x old new =
    KeepsLists old new × (new.names ≡ old.names) × (new.serials ≡ old.serials)
LeavesRoom (kind.PlaceHead item serial) x old new = KeepsLists old new
LeavesRoom kind.Abort x old new =
    x ≡ 0 → KeepsLists old new × (new.names ≡ old.names) × (new.fates ≡ old.fates)
    × (old.running ≤ new.running) × (new.serials ≡ old.serials) × (new.freed ≡ old.freed)
LeavesRoom _ x old new = ⊤
