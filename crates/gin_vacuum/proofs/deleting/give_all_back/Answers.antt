use Rattle.std.proofs.Common.{[], ◌∷◌}
use Rattle.gin_place.proofs.Carrying.{reads_in_turn, right_on}
use Rattle.gin_place.proofs.Faults.{calm_then}
use Rattle.gin_vacuum.specs.Inner.Deleting.{with_before}
use Rattle.gin_vacuum.proofs.deleting.give_all_back.Goals as goal

pub release-requires : goal.release-requires
release-requires g c = record {
  pass = c.requires.pass;
  right = c.requires.right;
  holding = (with_before c.args.around.before (c.args.around.parent ∷ []), c.requires.holding);
}

pub give_back-requires : goal.give_back-requires
give_back-requires g c =
    let a = c.args.around in
    let works = c.release.ensures.reads.works in
    record {
      pass = works.is_pass;
      right = right_on g.D.Disk c.args.frames.now c.release.new.frames c.args.pass.now c.release.new.pass []
          c.requires.right works;
      holding = c.release.ensures.holding (with_before a.before (a.parent ∷ [])) c.requires.holding;
    }

pub returns : goal.returns
returns g c =
    let first = c.release in
    let last = c.give_back in
    record {
      reads = reads_in_turn g.D.Disk c.args.frames.now first.new.frames last.new.frames c.args.pass.now first.new.pass
          last.new.pass first.ensures.reads last.ensures.reads;
      none_held = last.ensures.none_held;
      calm = calm_then g.D.Disk c.args.frames.now first.new.frames last.new.frames first.ensures.calm
          last.ensures.calm;
    }
