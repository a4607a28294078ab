-- What the rules of several kinds ask of pages before and after a record.
use Rattle.std.specs.Prelude.{◌≡◌, ◌≢◌, ◌⊎◌, ℕ, suc, ◌<◌, ◌≤◌, List, [], length, max, map, Option, Some}
use Rattle.page_types.specs.Keys.{KeyLess}
use Rattle.page_types.specs.Views.{slot_at}
use Rattle.page_types.specs.declared.page.Page.{Page}
use Rattle.page_types.specs.declared.page.Head.{Head}
use Rattle.page_types.specs.declared.page.Body.{Body}
use Rattle.page_types.specs.declared.page.Body.TheVariants as body
use Rattle.page_types.specs.declared.record.Record.{Record}
use Rattle.ts_base.specs.Keys.{Key}
use Rattle.core_state.specs.Log.{Log, Pages, changed}
use Rattle.core_state.specs.Documents.{Doc, slot_of}
use Rattle.core_state.specs.Known.{Known, known}
use Rattle.core_state.specs.declared.answers.Fate.{Fate}
use Rattle.core_state.specs.declared.answers.Fate.TheVariants.{Running, Aborted, Committed}
use Rattle.core_state.specs.declared.answers.PageUse.{PageUse}
use Rattle.core_state.specs.declared.answers.PageUse.TheVariants as usage

-- a rule's part that speaks of the changed pages alone, at a log with its pages P and the pages Q
-- after the record
abbrev pub Here : (Known → Record → List Page → List Page → Type 0) → Log → Pages → Pages → Record
    → Type 0
Here Part R P Q r = Part (known R P) r (map P (changed r)) (map Q (changed r))

-- the page that a record leaves with this right link and this content; its stamp is the record's
-- number
abbrev pub made_with : Record → ℕ → Body → Page
made_with r right content = record { right = right; stamp = r.number; body = content }

-- A page that the record of number `since`, or one before it, deleted may be taken again. A new page
-- is the lowest unused one, or one that was so deleted.
pub data IsNew (uses : ℕ → PageUse) (since p : ℕ) : Type 0 where
  unused : uses p ≡ usage.Unused → ((q : ℕ) → q < p → uses q ≢ usage.Unused) → IsNew uses since p
  deleted : (stamp : ℕ) → uses p ≡ usage.Deleted stamp → stamp ≤ since → IsNew uses since p

-- slot k becomes h, and the others stay
pub record PutsSlot (slots : List (Option Head)) (k : ℕ) (h : Option Head)
    (new : List (Option Head)) : Type 0 where
  pub put : slot_at new k ≡ h
  pub others : (j : ℕ) → j ≢ k → slot_at new j ≡ slot_at slots j
  pub size : length new ≡ max (length slots) (suc k)

-- the head of the document, which has its slot on this page, changes, and nothing else of the page
-- but its stamp
pub record IsHeadChange (r : Record) (d : Doc) (old : Page) (h h' : Head)
    (new : Page) : Type 0 where
  pub slots : List (Option Head)
  pub new_slots : List (Option Head)
  pub before : old.body ≡ body.Heap slots
  pub head : slot_at slots (slot_of d.item) ≡ Some h
  pub serial : h.serial ≡ d.serial
  pub put : PutsSlot slots (slot_of d.item) (Some h') new_slots
  pub after : new ≡ made_with r old.right (body.Heap new_slots)

-- the record's transaction placed the head and runs
pub record IsOwn (k : Known) (r : Record) (h : Head) : Type 0 where
  pub by : h.inserted_by ≡ r.xid
  pub runs : k.fates r.xid ≡ Running

-- a document is dead as its head says: its insert was aborted, or its delete is among the first
-- `floor` commits
pub data IsDeadHead (fates : ℕ → Fate) (floor : ℕ) (h : Head) : Type 0 where
  insert_aborted : fates h.inserted_by ≡ Aborted → IsDeadHead fates floor h
  delete_counted : (n : ℕ) → fates h.deleted_by ≡ Committed n → n ≤ floor → IsDeadHead fates floor h

-- a key is at most another
abbrev pub KeyAtMost : Key → Key → Type 0
KeyAtMost a b = KeyLess a b ⊎ (a ≡ b)

-- a key may be where this is the bound; no bytes: there is no bound
abbrev pub UpTo : Key → Key → Type 0
UpTo k bound = (bound ≡ []) ⊎ KeyAtMost k bound

-- an item may be where this is the high item; 0: there is none
abbrev pub ItemUpTo : ℕ → ℕ → Type 0
ItemUpTo i high = (high ≡ 0) ⊎ (i ≤ high)
