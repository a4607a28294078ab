-- The record that a turn logs.
use Rattle.std.specs.Prelude.{suc, [], length}
use Rattle.page_types.specs.declared.record.Kind.TheVariants as kind
use Rattle.core_state.specs.Logged.{abort_all}
use Rattle.latch_table.specs.declared.states.PassState.{PassState}
use Rattle.latch_table.specs.Giving.{Entry, Given}
use Rattle.latch_table.specs.Appending.{logged}
use Rattle.latch_bench.specs.declared.slots.Tally.{Tally}

-- the next record, which changes no page
abbrev pub next : PassState Tally → Entry
next v = record {
  step = abort_all;
  logged = record { number = suc (length v.seen); xid = 0; kind = kind.Abort; changes = [] };
}

abbrev pub added_to : PassState Tally → Given
added_to v = logged (next v) v
