use Rattle.std.proofs.Common.{[], ◌∷◌, sym}
use Rattle.gin_place.proofs.Carrying.{reads_in_turn, right_on}
use Rattle.gin_place.proofs.Faults.{calm_then}
use Rattle.gin_vacuum.proofs.freeing.give_back.Goals as goal

pub release-requires : goal.release-requires
release-requires g c = record {
  pass = c.requires.pass;
  right = c.requires.right;
  holding = (c.args.both.heap ∷ [], c.requires.holding);
}

pub release-requires-2 : goal.release-requires-2
release-requires-2 g c =
    let works = c.release.ensures.reads.works in
    record {
      pass = works.is_pass;
      right = right_on g.D.Disk c.args.frames.now c.release.new.frames c.args.pass.now c.release.new.pass []
          c.requires.right works;
      holding = ([], c.release.ensures.holding (c.args.both.heap ∷ []) c.requires.holding);
    }

pub returns : goal.returns
returns g c =
    let first = c.release in
    let last = c.release-2 in
    record {
      reads = reads_in_turn g.D.Disk c.args.frames.now first.new.frames last.new.frames c.args.pass.now first.new.pass
          last.new.pass first.ensures.reads last.ensures.reads;
      none_held = sym (last.ensures.holding [] (first.ensures.holding (c.args.both.heap ∷ []) c.requires.holding)).all;
      calm = calm_then g.D.Disk c.args.frames.now first.new.frames last.new.frames first.ensures.calm
          last.ensures.calm;
    }
