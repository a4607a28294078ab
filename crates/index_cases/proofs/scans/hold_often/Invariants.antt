use Rattle.std.proofs.Common.{◌≡◌, []}
use Rattle.buffer_frames.specs.Passes.{IsPassOf, IsHolding}
use Rattle.index_cases.proofs.scans.hold_often.Given as goal

abbrev pub invariant-loop : goal.invariant-loop
invariant-loop g l = record {
  pass : IsPassOf l.frames l.pass;
  held : l.pass.held ≡ 0;
  idle : IsHolding g.D.Disk l.frames l.pass [];
}
