use Rattle.std.proofs.Common.{◌≡◌, drop}
use Rattle.core_state.specs.States.{all_ended}
use Rattle.core_state.specs.Inner.Begun.{running_of}
use Rattle.core_state.proofs.running.abort_running.Given as goal

abbrev pub invariant-loop-b : goal.invariant-loop-b
invariant-loop-b l =
    all_ended (running_of (drop l.b-index l.begun)) l.fates
    ≡ all_ended (running_of l.begun) l.initial.fates
