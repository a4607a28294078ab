-- What the program keeps of a log, and how it follows each record.
use Rattle.std.specs.Prelude.{◌≡◌, ◌≢◌, ◌↔◌, ◌<◌, ℕ, zero, suc, ◌-◌, ◌^◌, ◌&&◌, ◌==◌, not, nat_lt, cond}
use Rattle.std.specs.Prelude.{if◌then◌else◌, max, min, ◌+◌, List, [], ◌∷◌, ◌++◌, length, get_or, set, map, replicate}
use Rattle.std.specs.Prelude.{Option, Some, None}
use Rattle.std.specs.List.{filter}
use Rattle.page_types.specs.Numbers.{page_limit}
use Rattle.page_types.specs.Encoding.{body_bytes}
use Rattle.page_types.specs.Edits.{used_in}
use Rattle.page_types.specs.Keys.{Rising}
use Rattle.page_types.specs.declared.page.Name.{Name}
use Rattle.page_types.specs.declared.record.Change.{Change}
use Rattle.page_types.specs.declared.record.Edit.{Edit}
use Rattle.page_types.specs.declared.record.Edit.TheVariants.{Image, Delta}
use Rattle.page_types.specs.declared.record.Record.{Record}
use Rattle.page_types.specs.declared.record.Kind.{Kind}
use Rattle.page_types.specs.declared.record.Kind.TheVariants as kind
use Rattle.core_state.specs.Log.{Log, Pages, In, Shows, changed, xid_bound, commits, next_xid, next_serial, fate}
use Rattle.core_state.specs.Log.{redo_of}
use Rattle.core_state.specs.Documents.{Doc, page_of, name_of, placed, marked}
use Rattle.core_state.specs.History.{Document, Commit, History, IsHistory}
use Rattle.core_state.specs.Known.{Known, use_in}
use Rattle.core_state.specs.Lives.{IsLife, IsHeapPage, placer, with_ends, life_in}
use Rattle.core_state.specs.Legal.{IsLegal}
use Rattle.core_state.specs.declared.transactions.Transaction.{Transaction}
use Rattle.core_state.specs.declared.lives.Placed.{Placed}
use Rattle.core_state.specs.declared.lives.Life.{Life}
use Rattle.core_state.specs.declared.answers.Fate.{Fate}
use Rattle.core_state.specs.declared.answers.Fate.TheVariants.{Unused, Running, Aborted, Committed}
use Rattle.core_state.specs.declared.answers.PageUse.{PageUse}
use Rattle.core_state.specs.declared.answers.PageUse.TheVariants as usage

-- What is kept: how many pages a store may have, and where its xids end; the number of the last
-- record; the fates of the xids 1, 2 and so on; the uses of the pages 0, 1 and so on, and the lengths
-- of their bodies; the next serial; the last redo number; the names that each commit deleted, and
-- those that it inserted; the documents that were placed, with the serials 1, 2 and so on, and the
-- commits that deleted them, 0 where none did; the running transactions; the page of the last placed
-- head, or that with which the run began; the highest heap page; the heap pages, on which a head was
-- placed, in rising order; and those where this run freed a slot, in rising order.
pub record StateValue : Type 0 where
  pub pages : ℕ
  pub xid_limit : ℕ
  pub records : ℕ
  pub fates : List Fate
  pub uses : List PageUse
  pub sizes : List ℕ
  pub next_serial : ℕ
  pub redo : ℕ
  pub deleted : List (List Name)
  pub inserted : List (List Name)
  pub placed : List Placed
  pub ends : List ℕ
  pub running : List Transaction
  pub current : Option ℕ
  pub highest : Option ℕ
  pub heaps : List ℕ
  pub freed : List ℕ

-- the state of an empty log
abbrev pub empty_state : ℕ → ℕ → StateValue
empty_state pages xid_limit = record {
  pages = pages;
  xid_limit = xid_limit;
  records = 0;
  fates = [];
  uses = [];
  sizes = [];
  next_serial = 1;
  redo = 1;
  deleted = [];
  inserted = [];
  placed = [];
  ends = [];
  running = [];
  current = None;
  highest = None;
  heaps = [];
  freed = [];
}

-- the fate of an xid, where these are the fates of the xids 1, 2 and so on; those that haven't
-- begun are unused
abbrev pub fate_at : List Fate → ℕ → Fate
fate_at fs zero = Unused
fate_at fs (suc k) = get_or fs k Unused

-- the fate of an xid
abbrev pub fate_of : StateValue → ℕ → Fate
fate_of s x = fate_at s.fates x

-- the use of a page
abbrev pub use_of : StateValue → ℕ → PageUse
use_of s p = get_or s.uses p usage.Unused

-- the length of a page's body
abbrev pub size_of : StateValue → ℕ → ℕ
size_of s p = get_or s.sizes p 0

-- the commits that inserted and deleted the document of this name; none where no commit inserted it
abbrev pub life_of : StateValue → Name → Option Life
life_of s n = life_in (fate_of s) s.ends n (placer s.placed n)

-- what a state knows of its log and of the pages
abbrev pub known_by : StateValue → Known
known_by s = record {
  records = s.records;
  commits = length s.deleted;
  fates = fate_of s;
  next_xid = suc (length s.fates);
  next_serial = s.next_serial;
  redo = s.redo;
  uses = use_of s;
}

-- the byte 0 of what an edit leaves: the kind of the page
abbrev pub kind_byte : Edit → ℕ
kind_byte (Image bytes) = get_or bytes 0 0
kind_byte (Delta front start cut bytes) = get_or front 0 0

-- the use of a page that is edited by the record of this number
abbrev pub edited_use : ℕ → Edit → PageUse
edited_use number e = cond (kind_byte e == 9) (usage.Deleted number) usage.Used

-- a list with x at place p; places before it that it hasn't yet get `none`
abbrev pub put_at : {A : Type 0} → A → ℕ → A → List A → List A
put_at none p x xs = set (xs ++ replicate (suc p - length xs) none) p x

-- a list with this use at place p; places before it that it hasn't yet are unused
abbrev pub with_use : ℕ → PageUse → List PageUse → List PageUse
with_use p u us = put_at usage.Unused p u us

-- the uses after changes; a page that has no number is left out
abbrev pub uses_after : ℕ → List Change → List PageUse → List PageUse
uses_after number [] us = us
uses_after number (c ∷ cs) us =
    uses_after number cs
    (if nat_lt c.page page_limit then with_use c.page (edited_use number c.edit) us else us)

-- the length of the body that an edit leaves, where it was `old`; it is kept up to 65535, which no
-- page reaches
abbrev pub edited_size : Edit → ℕ → ℕ
edited_size (Image bytes) old = used_in bytes
edited_size (Delta front start cut bytes) old = min 65535 (old - cut + length bytes)

-- the lengths of bodies after changes; a page that has no number is left out
abbrev pub sizes_after : List Change → List ℕ → List ℕ
sizes_after [] ns = ns
sizes_after (c ∷ cs) ns =
    sizes_after cs
    (if nat_lt c.page page_limit then put_at 0 c.page (edited_size c.edit (get_or ns c.page 0)) ns
    else ns)

-- the running transaction of an xid
abbrev pub transaction : ℕ → List Transaction → Option Transaction
transaction x [] = None
transaction x (t ∷ ts) = cond (t.xid == x) (Some t) (transaction x ts)

-- the others
abbrev pub without : ℕ → List Transaction → List Transaction
without x ts = filter (λ (t : Transaction). not (t.xid == x)) ts

-- the transactions, with this one in place of that of its xid
abbrev pub replaced : Transaction → List Transaction → List Transaction
replaced t [] = []
replaced t (u ∷ us) = cond (u.xid == t.xid) (t ∷ us) (u ∷ replaced t us)

-- a transaction with one name more that it has placed
abbrev pub with_placed : Name → Transaction → Transaction
with_placed n t = record t { inserted = t.inserted ++ n ∷ [] }

-- a transaction with one name more that it has marked
abbrev pub with_marked : Name → Transaction → Transaction
with_marked n t = record t { deleted = t.deleted ++ n ∷ [] }

-- the fates with that of an xid
abbrev pub with_fate : ℕ → Fate → List Fate → List Fate
with_fate zero f fs = fs
with_fate (suc k) f fs = set fs k f

-- the fates after these transactions are ended
abbrev pub all_ended : List Transaction → List Fate → List Fate
all_ended [] fs = fs
all_ended (t ∷ ts) fs = all_ended ts (with_fate t.xid Aborted fs)

-- a page in a rising list, once
abbrev pub with_page : ℕ → List ℕ → List ℕ
with_page p [] = p ∷ []
with_page p (q ∷ qs) =
    if nat_lt p q then p ∷ q ∷ qs else (if nat_lt q p then q ∷ with_page p qs else q ∷ qs)

-- pages in a rising list; a number that no page has is left out
abbrev pub with_pages : List ℕ → List ℕ → List ℕ
with_pages [] qs = qs
with_pages (p ∷ ps) qs = with_pages ps (if nat_lt p page_limit then with_page p qs else qs)

-- the greater of a page and the highest so far
abbrev pub higher : ℕ → Option ℕ → Option ℕ
higher p None = Some p
higher p (Some q) = Some (max p q)

-- the next xid begins
abbrev pub begun : ℕ → StateValue → StateValue
begun x s = if (x == suc (length s.fates)) && nat_lt x xid_bound
    then record s {
      fates = s.fates ++ Running ∷ [];
      running = s.running ++ record { xid = x; deleted = []; inserted = [] } ∷ [];
    }
    else s

-- transaction x commits with this number, if it runs and the number is the next
abbrev pub committed : ℕ → ℕ → Option Transaction → StateValue → StateValue
committed n x None s = s
committed n x (Some t) s = if n == suc (length s.deleted)
    then record s {
      fates = with_fate x (Committed n) s.fates;
      deleted = s.deleted ++ t.deleted ∷ [];
      inserted = s.inserted ++ t.inserted ∷ [];
      ends = with_ends n s.placed t.deleted s.ends;
      running = without x s.running;
    }
    else s

-- transaction x is aborted, if it runs
abbrev pub aborted : ℕ → Option Transaction → StateValue → StateValue
aborted x None s = s
aborted x (Some t) s =
    record s { fates = with_fate x Aborted s.fates; running = without x s.running }

-- every running transaction is aborted
abbrev pub ended_all : StateValue → StateValue
ended_all s = record s { fates = all_ended s.running s.fates; running = [] }

-- the greatest serial that may be drawn
abbrev pub last_serial : ℕ
last_serial = 2 ^ 64 - 2

-- the transaction places a document's head, if it runs and the serial is the next
abbrev pub placed_head : Option Transaction → Doc → StateValue → StateValue
placed_head None d s = s
placed_head (Some t) d s = if (d.serial == s.next_serial) && nat_lt d.serial (suc last_serial)
    then record s {
      next_serial = suc d.serial;
      placed = s.placed ++ record { item = d.item; xid = t.xid } ∷ [];
      ends = s.ends ++ 0 ∷ [];
      running = replaced (with_placed (name_of d) t) s.running;
      current = Some (page_of d.item);
      highest = higher (page_of d.item) s.highest;
      heaps = with_page (page_of d.item) s.heaps;
    }
    else s

-- the transaction marks a document, if it runs
abbrev pub marked_head : Option Transaction → Doc → StateValue → StateValue
marked_head None d s = s
marked_head (Some t) d s = record s { running = replaced (with_marked (name_of d) t) s.running }

-- what a record of this kind and xid, which changes these pages, makes of a state
abbrev pub stepped : Kind → ℕ → List ℕ → StateValue → StateValue
stepped kind.Begin x ps s = begun x s
stepped (kind.Commit n) x ps s = committed n x (transaction x s.running) s
stepped kind.Abort x ps s = cond (x == 0) (ended_all s) (aborted x (transaction x s.running) s)
stepped (kind.Checkpoint redo) x ps s = record s { redo = redo }
stepped (kind.PlaceHead item serial) x ps s =
    placed_head (transaction x s.running) (record { item = item; serial = serial }) s
stepped (kind.MarkDeleted item serial) x ps s =
    marked_head (transaction x s.running) (record { item = item; serial = serial }) s
stepped kind.FreeSlots x ps s = record s { freed = with_pages ps s.freed }
stepped _ x ps s = s

-- a state with the number and the pages of a record
abbrev pub noted : Record → StateValue → StateValue
noted r s = record s {
  records = r.number;
  uses = uses_after r.number r.changes s.uses;
  sizes = sizes_after r.changes s.sizes;
}

-- The state after a record, valid or not. An xid or a number that isn't the next, and an xid that
-- doesn't run, change the number, the uses and the lengths of bodies alone; a checkpoint's redo number
-- and the pages of freed slots are taken as they come.
abbrev pub step_of : Record → StateValue → StateValue
step_of r s = stepped r.kind r.xid (changed r) (noted r s)

-- the state that follows a log
abbrev pub state_of : ℕ → ℕ → Log → StateValue
state_of pages xid_limit [] = empty_state pages xid_limit
state_of pages xid_limit (r ∷ R) = step_of r (state_of pages xid_limit R)

-- a run begins: the highest heap page comes first, and no slot was freed
abbrev pub run_started : StateValue → StateValue
run_started s = record s { current = s.highest; freed = [] }

-- a page in front, if there is one
abbrev pub with_first : Option ℕ → List ℕ → List ℕ
with_first None ps = ps
with_first (Some p) ps = p ∷ ps

-- the old heap pages that a head is tried on, in order
abbrev pub heap_pages : StateValue → List ℕ
heap_pages s = with_first s.current s.freed

-- the names of documents
abbrev pub names : List Document → List Name
names ds = map (λ (d : Document). d.name) ds

-- what transaction x has done so far
abbrev pub done_by : Log → ℕ → Transaction
done_by R x = record {
  xid = x;
  deleted = map name_of (marked R x);
  inserted = map name_of (placed R x);
}

-- the serials of the names rise
abbrev pub RiseBySerial : List Name → Type 0
RiseBySerial ns = Rising (λ (m n : Name). m.serial < n.serial) ns

-- what the state of a log says of it
pub record StateTells (R : Log) (s : StateValue) : Type 0 where
  pub records : s.records ≡ length R
  pub fates : (x : ℕ) → fate_of s x ≡ fate R x
  pub next_xid : suc (length s.fates) ≡ next_xid R
  pub next_serial : s.next_serial ≡ next_serial R
  pub redo : s.redo ≡ redo_of R
  pub commits : length s.deleted ≡ commits R
  pub deleted : (H : History) → IsHistory R H → s.deleted ≡ map (λ (c : Commit). c.deleted) H
  pub inserted : (H : History) → IsHistory R H
      → s.inserted ≡ map (λ (c : Commit). names c.inserted) H
  pub heaps : (p : ℕ) → In p s.heaps ↔ IsHeapPage R p
  pub lives : (n : Name) → IsLife R n (life_of s n)
  pub running : (x : ℕ) → fate R x ≡ Running → transaction x s.running ≡ Some (done_by R x)
  pub not_running : (x : ℕ) → fate R x ≢ Running → transaction x s.running ≡ None
  pub placed_rise : (x : ℕ) → RiseBySerial (done_by R x).inserted
  pub uses : (P : Pages) → Shows R P → (p : ℕ) → use_of s p ≡ use_in P p
  pub sizes : (P : Pages) → Shows R P → (p : ℕ) → size_of s p ≡ length (body_bytes (P p).body)

-- the state of a legal log says of it
abbrev pub StateFollows : Type 0
StateFollows =
    (pages xid_limit : ℕ) (R : Log) → IsLegal R → StateTells R (state_of pages xid_limit R)
