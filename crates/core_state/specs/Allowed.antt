-- What a session knows of the log, the logs that may be the store's as far as it knows, and what it
-- may log.
use Rattle.std.specs.Prelude.{◌≡◌, ◌≢◌, ◌⊎◌, ℕ, zero, suc, ◌<◌, List, [], ◌∷◌, ◌++◌, length, map, Option, Some, None}
use Rattle.std.specs.Prelude.{IfSome, ⊤}
use Rattle.page_types.specs.Keys.{Rising}
use Rattle.page_types.specs.Pages.{IsPage}
use Rattle.page_types.specs.declared.page.Page.{Page}
use Rattle.page_types.specs.declared.page.Head.{Head}
use Rattle.page_types.specs.declared.page.Body.{Body}
use Rattle.page_types.specs.declared.page.Body.TheVariants as body
use Rattle.page_types.specs.declared.record.Record.{Record}
use Rattle.page_types.specs.declared.record.Kind.{Kind}
use Rattle.page_types.specs.declared.record.Kind.TheVariants as kind
use Rattle.core_state.specs.Log.{Log, Pages, In, Shows, changed, commits, next_xid, next_serial, xid_bound}
use Rattle.core_state.specs.Documents.{slot_of}
use Rattle.core_state.specs.Legal.{RuleHolds, IsLegal, Pin, Keeps}
use Rattle.core_state.specs.Steady.{IsMaintenance}
use Rattle.core_state.specs.Readings.{Read, AreReads}

-- a page as a session holds it, or will leave it
pub record Sheet : Type 0 where
  pub page : ℕ
  pub content : Page

-- What a session knows: the log that it has seen; its pin, floor and since; the log's length at its
-- last pin, and what it read since; the pages that it holds; its xids, and those of them that were
-- begun since the opening; and the log's length when it got the right of maintenance, if it has it.
pub record View : Type 0 where
  pub seen : Log
  pub pin : Option Pin
  pub floor : ℕ
  pub since : ℕ
  pub from : ℕ
  pub readings : List Read
  pub held : List Sheet
  pub xids : List ℕ
  pub begun : List ℕ
  pub work : Option ℕ

-- another session may have logged the record: it isn't of an own xid, ends no own transaction that
-- was begun since the opening, and is no maintenance since the session has the right of it
pub record IsOthers (v : View) (r : Record) : Type 0 where
  pub not_own : In r.xid v.xids → ⊥
  pub not_all : v.begun ≢ [] → r.kind ≡ kind.Abort → r.xid ≢ 0
  pub not_work : (at : ℕ) → v.work ≡ Some at → at < r.number → IsMaintenance r.kind → ⊥

-- other sessions may have logged these records
abbrev pub AreOthers : View → Log → Type 0
AreOthers v [] = ⊤
AreOthers v (r ∷ rs) = IsOthers v r × AreOthers v rs

-- the pages show these contents
abbrev pub AreHeld : Pages → List Sheet → Type 0
AreHeld P [] = ⊤
AreHeld P (s ∷ ss) = (P s.page ≡ s.content) × AreHeld P ss

-- The log may be the store's: it is legal, keeps the session's pin, goes on after what it has seen
-- by records of others, shows the pages that it holds, and has its readings.
pub record IsAllowed (v : View) (R : Log) : Type 0 where
  pub later : Log
  pub goes_on : R ≡ later ++ v.seen
  pub others : AreOthers v later
  pub legal : IsLegal R
  pub keeps : IfSome v.pin (Keeps R)
  pub pages : Pages
  pub shown : Shows R pages
  pub held : AreHeld pages v.held
  pub read : AreReads R v.from v.readings

-- What is to be logged: its kind, its xid and the pages that it leaves. Its numbers, the stamps of
-- its pages and a new head's serial are drawn when it is.
pub record Step : Type 0 where
  pub kind : Kind
  pub xid : ℕ
  pub after : List Sheet

-- the pages of these sheets
abbrev pub sheet_pages : List Sheet → List ℕ
sheet_pages ss = map (λ (s : Sheet). s.page) ss

-- a step's kind with the commit number or the serial that it draws after this log
abbrev pub drawn_kind : Log → Kind → Kind
drawn_kind R (kind.Commit n) = kind.Commit (suc (commits R))
drawn_kind R (kind.PlaceHead item serial) = kind.PlaceHead item (next_serial R)
drawn_kind R k = k

-- the xid of a step of this kind, which a Begin draws
abbrev pub drawn_xid : Log → Kind → ℕ → ℕ
drawn_xid R kind.Begin xid = next_xid R
drawn_xid R k xid = xid

-- the record is the step after this log; that an xid which is drawn is below its bound the call
-- tests
pub record IsDrawn (R : Log) (s : Step) (r : Record) : Type 0 where
  pub number : r.number ≡ suc (length R)
  pub fits : s.kind ≡ kind.Begin → r.xid < xid_bound
  pub xid : r.xid ≡ drawn_xid R s.kind s.xid
  pub kind : r.kind ≡ drawn_kind R s.kind
  pub pages : changed r ≡ sheet_pages s.after

-- a slot's head with this serial
abbrev pub with_serial : Option Head → ℕ → Option Head
with_serial None serial = None
with_serial (Some h) serial = Some (record h { serial = serial })

-- the slots, where the head in slot k has this serial
abbrev pub numbered : List (Option Head) → ℕ → ℕ → List (Option Head)
numbered [] k serial = []
numbered (h ∷ hs) zero serial = with_serial h serial ∷ hs
numbered (h ∷ hs) (suc k) serial = h ∷ numbered hs k serial

-- a page's content as a record of this kind leaves it
abbrev pub drawn_body : Kind → Body → Body
drawn_body (kind.PlaceHead item serial) (body.Heap slots) =
    body.Heap (numbered slots (slot_of item) serial)
drawn_body k content = content

-- the page as the record makes it: its stamp is the record's number
abbrev pub made_by : Record → Page → Page
made_by r c = record { right = c.right; stamp = r.number; body = drawn_body r.kind c.body }

-- the pages show these sheets as the record makes them
abbrev pub AreMade : Pages → Record → List Sheet → Type 0
AreMade Q r [] = ⊤
AreMade Q r (s ∷ ss) = (Q s.page ≡ made_by r s.content) × AreMade Q r ss

-- Q are the pages P with those that the step leaves
pub record Leaves (P Q : Pages) (r : Record) (s : Step) : Type 0 where
  pub here : AreMade Q r s.after
  pub elsewhere : (p : ℕ) → (In p (sheet_pages s.after) → ⊥) → Q p ≡ P p

-- the step is valid after each log that is allowed to the session
abbrev pub MayLog : View → Step → Type 0
MayLog v s =
    (R : Log) (a : IsAllowed v R) (r : Record) (Q : Pages) → IsDrawn R s r → Leaves a.pages Q r s
    → RuleHolds R a.pages Q r v.floor v.since

-- What a session owes of a step besides: the log isn't empty, or the step makes the store; it holds
-- the pages that the step leaves, each once, and each has an encoding; the xid is 0, drawn or its
-- own; maintenance needs the right; and it doesn't end every running transaction. Of a checkpoint's
-- redo number nothing is asked yet: no session logs one.
pub record Owes (v : View) (s : Step) : Type 0 where
  pub started : (v.seen ≢ []) ⊎ (s.kind ≡ kind.Create)
  pub pages : (p : ℕ) → In p (sheet_pages s.after) → In p (sheet_pages v.held)
  pub once : Rising (λ (p q : ℕ). p ≢ q) (sheet_pages s.after)
  pub fits : (x : Sheet) → In x s.after → IsPage x.content
  pub xid : (s.xid ≡ 0) ⊎ ((s.kind ≡ kind.Begin) ⊎ In s.xid v.xids)
  pub work : IsMaintenance s.kind → (at : ℕ) × (v.work ≡ Some at)
  pub not_all : s.kind ≡ kind.Abort → s.xid ≢ 0
