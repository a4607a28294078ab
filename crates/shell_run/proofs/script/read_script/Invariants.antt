use Rattle.std.proofs.Common.{◌≡◌, ℕ, ◌+◌, ◌-◌, ◌^◌, ◌≤◌, length, vec_len, List}
use Rattle.std.specs.Prelude.{Option}
use Rattle.std.specs.Io.KnownBytes.{Consumes}
use Rattle.shell_run.proofs.script.read_script.Given as goal

pub record SoFar {S : Type 0} (left : S → Option (List ℕ)) (faults : S → ℕ) (old new : S) (text : List ℕ) : Type 0 where
  pub read : Consumes (left old) (left new) text
  pub later : faults old ≤ faults new
  pub short : length text ≤ 2 ^ 30 + 1

abbrev pub invariant-loop-text : goal.invariant-loop-text
invariant-loop-text g l =
    SoFar g.S.Source.left g.S.Source.fault_count l.fn.script l.script l.text.items × (vec_len l.chunk ≡ 65536)

abbrev pub decreases-loop-text : goal.decreases-loop-text
decreases-loop-text g l = 2 ^ 30 + 1 - vec_len l.text
