-- Where pages lie, and which are sought for a document.
use Rattle.std.specs.Prelude.{◌≡◌, ◌≢◌, ℕ, List, [], length, nat_le, if◌then◌else◌}
use Rattle.page_types.specs.Numbers.{most_short}
use Rattle.page_types.specs.declared.page.Page.{Page}
use Rattle.page_types.specs.declared.page.Head.{Head}
use Rattle.page_types.specs.declared.page.Body.TheVariants as body
use Rattle.ts_base.specs.Keys.{Key}
use Rattle.core_state.specs.Log.{In}
use Rattle.core_state.specs.States.{heap_pages}
use Rattle.snap_pins.specs.Taken.{IsLeast}
use Rattle.snap_pins.specs.declared.Pin.{Pin}
use Rattle.buffer_frames.specs.Frames as frames
use Rattle.doc_heap.specs.HeapPages.{HasNoRoom}
use Rattle.pending_list.specs.Adding as rows
use Rattle.engine.specs.Db.{DbValue, state_of}

-- the page lies in memory under this number, and nobody holds it
abbrev pub Lies : {D : Type 0} → DbValue D → ℕ → Page → Type 0
Lies s p c = frames.Lies s.frames p c

-- The number up to which deleted pages may be taken again: none of the snapshots in use is at a
-- smaller length of the log.
abbrev pub IsSince : {D : Type 0} → DbValue D → ℕ → Type 0
IsSince s since = IsLeast s.frames.pins (λ (p : Pin). p.length) (state_of s).records since

-- the bytes of a vector that are in its head
abbrev pub bytes_in_head : List ℕ → List ℕ
bytes_in_head bytes = if nat_le (length bytes) most_short then bytes else []

-- the head of a new document of transaction x with a vector of these bytes; its serial is drawn when
-- it is logged
abbrev pub head_for : ℕ → List ℕ → Head
head_for x bytes = record {
  serial = 0;
  inserted_by = x;
  deleted_by = 0;
  overflow = 0;
  private = 0;
  bytes = length bytes;
  vector = bytes_in_head bytes;
}

-- each heap page that a head is tried on lies in memory, and has no room for this one
abbrev pub NoHeapPageHasRoom : {D : Type 0} → DbValue D → Head → Type 0
NoHeapPageHasRoom s h = (p : ℕ) → In p (heap_pages (state_of s)) → (c : Page) × Lies s p c × HasNoRoom c h

-- by the pages that lie in memory the pending list has no last page, or that has no room for a row of this item with
-- these keys
pub data HasNoRoomOnList {D : Type 0} (s : DbValue D) (item : ℕ) (keys : List Key) : Type 0 where
  none : (meta : Page) (first pages : ℕ) → Lies s 0 meta → meta.body ≡ body.Meta first 0 pages
      → HasNoRoomOnList s item keys
  full : (meta last : Page) (first p pages : ℕ) → Lies s 0 meta → meta.body ≡ body.Meta first p pages
      → p ≢ 0 → Lies s p last → rows.HasNoRoom last item keys → HasNoRoomOnList s item keys
