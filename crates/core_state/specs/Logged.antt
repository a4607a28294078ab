-- What a step that is logged keeps: the log stays legal, keeps each pin, and is allowed to each
-- other session.
use Rattle.std.specs.Prelude.{◌≡◌, ◌≢◌, ℕ, ◌<◌, ◌≤◌, [], ◌∷◌, length, Some, IfSome}
use Rattle.page_types.specs.Encoding.{page_bytes}
use Rattle.page_types.specs.Edits.{CanEdit}
use Rattle.page_types.specs.Records.{IsRecord}
use Rattle.page_types.specs.declared.record.Change.{Change}
use Rattle.page_types.specs.declared.record.Record.{Record}
use Rattle.page_types.specs.declared.record.Kind.TheVariants as kind
use Rattle.core_state.specs.Log.{Log, Pages, In, Shows, commits, next_xid, replay}
use Rattle.core_state.specs.Legal.{IsLegal, ImagesFrom, Pin, Keeps}
use Rattle.core_state.specs.Allowed.{Sheet, View, IsOthers, AreHeld, IsAllowed, Step, IsDrawn, Leaves, MayLog, Owes}
use Rattle.core_state.specs.Allowed.{sheet_pages, made_by}

-- The record is made of the step after this log: it is drawn, it has an encoding, its changes can
-- be made and give the bytes of the pages that it leaves, and the first change of each page is an
-- image.
pub record IsRecordOf (R : Log) (s : Step) (r : Record) : Type 0 where
  pub drawn : IsDrawn R s r
  pub is_record : IsRecord r
  pub can_edit : (c : Change) → In c r.changes → CanEdit c.edit (replay R c.page)
  pub bytes : (x : Sheet) → In x s.after
      → replay (r ∷ R) x.page ≡ page_bytes (made_by r x.content)
  pub images : ImagesFrom 1 (r ∷ R)
  pub redo_images : (x : Record) (redo : ℕ) → In x (r ∷ R) → x.kind ≡ kind.Checkpoint redo
      → ImagesFrom redo (r ∷ R)

-- the pin that a statement would take now: all flushed commits, and the log's length
abbrev pub pin_now : ℕ → Log → Pin
pin_now flushed R = record { commits = flushed; length = length R }

-- a legal log keeps it where all its commits are flushed
abbrev pub LegalKeepsNow : Type 0
LegalKeepsNow = (R : Log) → IsLegal R → Keeps R (pin_now (commits R) R)

-- and a log that keeps it does so once more are
abbrev pub FlushKeepsNow : Type 0
FlushKeepsNow =
    (R : Log) (flushed flushed' : ℕ) → flushed ≤ flushed' → flushed' ≤ commits R
    → Keeps R (pin_now flushed R) → Keeps R (pin_now flushed' R)

-- a session that takes a pin has read nothing since
abbrev pub pinned : View → Pin → View
pinned v pin = record v { pin = Some pin; from = pin.length; readings = [] }

-- a log that is allowed to a session, and keeps a pin, is allowed to it once it has taken that pin
abbrev pub PinIsTaken : Type 0
PinIsTaken =
    (v : View) (pin : Pin) (R : Log) → IsAllowed v R → Keeps R pin → IsAllowed (pinned v pin) R

-- the session's floor and since aren't above the pin's numbers
pub record FloorAllows (v : View) (pin : Pin) : Type 0 where
  pub floor : v.floor ≤ pin.commits
  pub since : v.since ≤ pin.length

-- Session w is beside v: each of its xids was drawn and is none of v's; it holds no page that v
-- holds; one of both has the right of maintenance at most; and v's floor allows its pin.
pub record IsBeside (R : Log) (v w : View) : Type 0 where
  pub xids : (x : ℕ) → In x w.xids → (0 < x) × (x < next_xid R) × (In x v.xids → ⊥)
  pub held : (p : ℕ) → In p (sheet_pages v.held) → In p (sheet_pages w.held) → ⊥
  pub work : (a b : ℕ) → v.work ≡ Some a → w.work ≡ Some b → ⊥
  pub pin : IfSome w.pin (FloorAllows v)

-- The log with the record shows the pages that the step leaves, where P were those before; it is
-- legal, keeps each pin that the session's floor allows, and the one that a statement would take
-- now. To each session beside it, it is a record of another, and the log with it is allowed; as it
-- is to the session itself, once it has seen the record.
pub record StaysLegal (v : View) (s : Step) (R : Log) (P : Pages) (r : Record)
    (flushed : ℕ) : Type 0 where
  pub pages : Pages
  pub shown : Shows (r ∷ R) pages
  pub leaves : Leaves P pages r s
  pub legal : IsLegal (r ∷ R)
  pub keeps : (pin : Pin) → FloorAllows v pin → Keeps R pin → Keeps (r ∷ R) pin
  pub now : Keeps (r ∷ R) (pin_now flushed (r ∷ R))
  pub own : (w : View) → w.seen ≡ r ∷ R → w.pin ≡ v.pin → w.from ≡ v.from
      → w.readings ≡ v.readings → IfSome v.pin (FloorAllows v) → AreHeld pages w.held
      → IsAllowed w (r ∷ R)
  pub others : (w : View) → IsAllowed w R → IsBeside R v w
      → IsOthers w r × IsAllowed w (r ∷ R)

-- it holds of each step that a session may log and of which it shows what it owes, after a log
-- that is allowed to it
abbrev pub LoggedStepsHold : Type 0
LoggedStepsHold =
    (v : View) (s : Step) (R : Log) (r : Record) (flushed : ℕ) (a : IsAllowed v R) → MayLog v s
    → Owes v s → IsRecordOf R s r → Keeps R (pin_now flushed R) → FloorAllows v (pin_now flushed R)
    → StaysLegal v s R a.pages r flushed

-- the abort of all that run
abbrev pub abort_all : Step
abort_all = record { kind = kind.Abort; xid = 0; after = [] }

-- A session that has begun no transaction since the opening may first log the abort of all that
-- run, where no other has begun one: the log stays legal, keeps each pin, and is allowed to every
-- such session.
abbrev pub AbortOfAllHolds : Type 0
AbortOfAllHolds =
    (R : Log) (r : Record) (flushed : ℕ) → R ≢ [] → IsLegal R → IsRecordOf R abort_all r
    → Keeps R (pin_now flushed R)
    → IsLegal (r ∷ R) × ((pin : Pin) → Keeps R pin → Keeps (r ∷ R) pin)
    × Keeps (r ∷ R) (pin_now flushed (r ∷ R))
    × ((w : View) → IsAllowed w R → w.begun ≡ [] → (In 0 w.xids → ⊥) → IsAllowed w (r ∷ R))
