-- A pass of a table, and what it may claim.
use Rattle.std.specs.Prelude.{◌≡◌, ℕ, ◌+◌, ◌-◌, ◌<◌, false, [], length, Some, None}
use Rattle.std.specs.declared.snapshot.Snapshot.{Snapshot}
use Rattle.core_state.specs.Log.{In}
use Rattle.atomic_table.specs.Seated.{TableId}
use Rattle.latch_table.specs.declared.pass.Pass.{Pass}
use Rattle.latch_table.specs.declared.states.PassState.{PassState}
use Rattle.latch_table.specs.Held.{numbers, frames_of, carried, journal_if}

-- what the pass knows
abbrev pub state : {F J : Type 0} → Pass F J → PassState J
state p = p.seat.me.0

-- The pass is one of this table, no spent one, and has seen the log. It holds what it notes: frames
-- of the table, in their order, and the journal on top.
pub record IsPassOf {F J : Type 0} (z : TableId) (p : Pass F J) : Type 0 where
  pub table : p.seat.table_id ≡ z
  pub start : (key : Snapshot J) × ((state p).start ≡ Some key)
  pub seen : (state p).fresh ≡ false
  pub held : numbers p.held ≡ frames_of (state p).frames
  pub within : (k : ℕ) → In k (numbers p.held) → k + 2 < z.slots
  pub out : p.seat.me.1 ≡ journal_if (z.slots - 2) (state p).journal (carried (state p).frames)
  pub room : 0 < (state p).room

-- the frame is one of the table's, and the pass may hold one more: it holds fewer than four, and
-- not the journal
pub record MayClaim {J : Type 0} (z : TableId) (frame : ℕ) (v : PassState J) : Type 0 where
  pub frame_is : frame + 2 < z.slots
  pub no_journal : v.journal ≡ None
  pub few : length v.frames < 4

-- the pass holds nothing, and has no pin
pub record IsIdle {J : Type 0} (v : PassState J) : Type 0 where
  pub frames : v.frames ≡ []
  pub journal_is : v.journal ≡ None
  pub work : v.work ≡ None
  pub pin : v.pin ≡ None
