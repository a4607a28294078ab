-- Passes that hold nothing, or frames alone.
use Rattle.std.specs.Prelude.{◌≡◌, None}
use Rattle.atomic_table.specs.Seated.{TableId}
use Rattle.latch_table.specs.declared.pass.Pass.{Pass}
use Rattle.latch_table.specs.declared.states.PassState.{PassState}
use Rattle.latch_table.specs.Passes.{state, IsIdle, IsPassOf}
use Rattle.latch_bench.specs.declared.slots.Leaf.{Leaf}
use Rattle.latch_bench.specs.declared.slots.Tally.{Tally}
use Rattle.latch_bench.specs.declared.workers.Worker.{Worker}

-- a pass of the table that holds nothing
pub record IsFree (z : TableId) (p : Pass Leaf Tally) : Type 0 where
  pub of_table : IsPassOf z p
  pub idle : IsIdle (state p)

-- a pass of the table that holds frames alone
pub record IsHolding (z : TableId) (p : Pass Leaf Tally) : Type 0 where
  pub of_table : IsPassOf z p
  pub journal_is : (state p).journal ≡ None
  pub work : (state p).work ≡ None
  pub pin : (state p).pin ≡ None

-- the pass holds the same frames, and not the journal; all else that it holds is the same
pub record HoldsAlike (old new : PassState Tally) : Type 0 where
  pub frames : new.frames ≡ old.frames
  pub journal_is : new.journal ≡ None
  pub work : new.work ≡ old.work
  pub pin : new.pin ≡ old.pin
  pub room : new.room ≡ old.room

-- a worker's pass holds nothing, and has a room of 1
pub record IsReady (z : TableId) (w : Worker) : Type 0 where
  pub free : IsFree z w.hand
  pub room : (state w.hand).room ≡ 1
