-- The log, the pages that it leaves, and what became of each transaction. The newest record is
-- first.
use Rattle.std.specs.Prelude.{◌≡◌, ◌⊎◌, ℕ, suc, ◌-◌, ◌^◌, ◌==◌, cond, List, [], ◌∷◌, length, drop, map}
use Rattle.page_types.specs.Numbers.{zeros, page_size}
use Rattle.page_types.specs.Encoding.{page_bytes}
use Rattle.page_types.specs.Pages.{IsPage}
use Rattle.page_types.specs.Edits.{edited}
use Rattle.page_types.specs.declared.page.Page.{Page}
use Rattle.page_types.specs.declared.record.Change.{Change}
use Rattle.page_types.specs.declared.record.Record.{Record}
use Rattle.page_types.specs.declared.record.Kind.{Kind}
use Rattle.page_types.specs.declared.record.Kind.TheVariants as kind
use Rattle.core_state.specs.declared.answers.Fate.{Fate}
use Rattle.core_state.specs.declared.answers.Fate.TheVariants.{Unused, Running, Aborted, Committed}

-- a log is a list of records, the newest first
abbrev pub Log : Type 0
Log = List Record

-- pages by their numbers
abbrev pub Pages : Type 0
Pages = ℕ → Page

-- x is in the list
abbrev pub In : {A : Type 0} → A → List A → Type 0
In x [] = ⊥
In x (y ∷ ys) = (x ≡ y) ⊎ In x ys

-- the log as it was when it had n records
abbrev pub cut : ℕ → Log → Log
cut n R = drop (length R - n) R

-- the pages of changes, in their order
abbrev pub pages_of : List Change → List ℕ
pages_of cs = map (λ (c : Change). c.page) cs

-- the pages that a record changes, in its order
abbrev pub changed : Record → List ℕ
changed r = pages_of r.changes

-- the bytes of page p after these changes in their order, where they were `old`
abbrev pub after_changes : ℕ → List Change → ℕ → List ℕ → List ℕ
after_changes number [] p old = old
after_changes number (c ∷ cs) p old =
    after_changes number cs p (cond (c.page == p) (edited number c.edit old) old)

-- the bytes of each page after all changes of the log in order, starting from zeros
unfoldable pub replay : Log → ℕ → List ℕ
replay [] p = zeros page_size
replay (r ∷ R) p = after_changes r.number r.changes p (replay R p)

-- each of these pages is a page, and its bytes are the replay
abbrev pub Shows : Log → Pages → Type 0
Shows R P = (p : ℕ) → IsPage (P p) × (page_bytes (P p) ≡ replay R p)

-- one commit more for a record of that kind
abbrev pub commits_with : Kind → ℕ → ℕ
commits_with (kind.Commit n) c = suc c
commits_with _ c = c

-- how many commits the log has
abbrev pub commits : Log → ℕ
commits [] = 0
commits (r ∷ R) = commits_with r.kind (commits R)

-- xids are below this
abbrev pub xid_bound : ℕ
xid_bound = 2 ^ 24

-- a record of kind Begin draws an xid
abbrev pub xid_behind : Kind → ℕ → ℕ
xid_behind kind.Begin x = suc x
xid_behind _ x = x

-- the xid that the next transaction gets; the first is 1
abbrev pub next_xid : Log → ℕ
next_xid [] = 1
next_xid (r ∷ R) = xid_behind r.kind (next_xid R)

-- a record of kind PlaceHead draws a serial
abbrev pub serial_behind : Kind → ℕ → ℕ
serial_behind (kind.PlaceHead item serial) s = suc s
serial_behind _ s = s

-- the serial that the next document gets; the first is 1
abbrev pub next_serial : Log → ℕ
next_serial [] = 1
next_serial (r ∷ R) = serial_behind r.kind (next_serial R)

-- what becomes of a transaction where all that run are ended
abbrev pub ended : Fate → Fate
ended Running = Aborted
ended f = f

-- what becomes of transaction x, which had this fate, by a record of this kind and xid; Abort with
-- xid 0 ends all that run
abbrev pub fate_with : Kind → ℕ → ℕ → Fate → Fate
fate_with kind.Begin xid x f = cond (xid == x) Running f
fate_with (kind.Commit n) xid x f = cond (xid == x) (Committed n) f
fate_with kind.Abort xid x f = cond (xid == 0) (ended f) (cond (xid == x) Aborted f)
fate_with _ xid x f = f

-- what became of transaction x
abbrev pub fate : Log → ℕ → Fate
fate [] x = Unused
fate (r ∷ R) x = fate_with r.kind r.xid x (fate R x)

-- a checkpoint has its own redo number
abbrev pub redo_with : Kind → ℕ → ℕ
redo_with (kind.Checkpoint redo) n = redo
redo_with _ n = n

-- the redo number of the log's last checkpoint, 1 where there is none
abbrev pub redo_of : Log → ℕ
redo_of [] = 1
redo_of (r ∷ R) = redo_with r.kind (redo_of R)
