use Rattle.std.proofs.Common.{◌≡◌, []}
use Rattle.buffer_frames.specs.Passes.{IsPassOf, IsHolding}
use Rattle.index_cases.proofs.cleaning.walk.Given as goal

abbrev pub invariant-loop-pages : goal.invariant-loop-pages
invariant-loop-pages g l = record {
  pass : IsPassOf l.frames l.pass;
  held : l.pass.held ≡ 0;
  idle : IsHolding g.D.Disk l.frames l.pass [];
}
