use Rattle.std.proofs.Common.{◌≡◌, ℕ, List}
use Rattle.core_state.specs.Log.{Log}
use Rattle.buffer_frames.specs.Frames.{Behind}
use Rattle.buffer_frames.specs.Passes.{IsPassOf}
use Rattle.gin_place.specs.Going.{WorksOn}
use Rattle.gin_place.specs.Faults.{MetNoFault}
use Rattle.gin_place.specs.Placing.{HasRight, ArePending, ArePlaced, IsPlacing}
use Rattle.gin_place.proofs.Resting.{IsAtRest}
use Rattle.gin_place.proofs.placing.place.Given as goal

abbrev pub invariant-loop : goal.invariant-loop
invariant-loop g l = record {
  works : (kinds : List ℕ) × WorksOn g.D.Disk l.fn.frames l.fn.pass l.frames l.pass kinds;
  none_held : l.pass.held ≡ 0;
  is_pass : IsPassOf l.frames l.pass;
  right : HasRight l.pass;
  rows : ArePending g.D.Disk l.frames l.pass l.key l.items;
  fine : MetNoFault g.D.Disk l.fn.frames l.frames;
  placing : IsPlacing g.D.Disk l.frames l.pass l.key l.items l.placing;
  standing : ArePlaced g.D.Disk l.fn.frames l.fn.pass l.key l.items
      → Behind g.D.Disk l.fn.frames (λ (R : Log). IsAtRest g.D.Disk l.fn.frames l.fn.pass l.frames l.pass l.placing);
}
