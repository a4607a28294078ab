use Rattle.std.proofs.Common.{[], ◌∷◌, sym, arith}
use Rattle.gin_place.proofs.Carrying.{reads_in_turn, right_on}
use Rattle.gin_place.proofs.Faults.{rests_then, calm_then}
use Rattle.gin_place.proofs.logging.give_back.Goals as goal

pub release-requires : goal.release-requires
release-requires g c = record {
  pass = c.requires.pass;
  right = c.requires.right;
  holding = (c.args.three.page ∷ c.args.three.parent ∷ [], c.requires.holding);
}

pub release-requires-2 : goal.release-requires-2
release-requires-2 g c =
    let works = c.release.ensures.reads.works in
    record {
      pass = works.is_pass;
      right = right_on g.D.Disk c.args.frames.now c.release.new.frames c.args.pass.now c.release.new.pass []
          c.requires.right works;
      holding = (
        c.args.three.parent ∷ [],
        c.release.ensures.holding (c.args.three.page ∷ c.args.three.parent ∷ []) c.requires.holding,
      );
    }

pub release-requires-3 : goal.release-requires-3
release-requires-3 g c =
    let r2 = reads_in_turn g.D.Disk c.args.frames.now c.release.new.frames c.release-2.new.frames c.args.pass.now
    c.release.new.pass c.release-2.new.pass c.release.ensures.reads c.release-2.ensures.reads in
    record {
      pass = r2.works.is_pass;
      right = right_on g.D.Disk c.args.frames.now c.release-2.new.frames c.args.pass.now c.release-2.new.pass []
          c.requires.right r2.works;
      holding = (
        [],
        c.release-2.ensures.holding (c.args.three.parent ∷ [])
            (c.release.ensures.holding (c.args.three.page ∷ c.args.three.parent ∷ []) c.requires.holding),
      );
    }

pub returns : goal.returns
returns g c =
    let f = c.args.frames.now in
    let one = c.release in
    let two = c.release-2 in
    let last = c.release-3 in
    let r2 = reads_in_turn g.D.Disk f one.new.frames two.new.frames c.args.pass.now one.new.pass two.new.pass
    one.ensures.reads two.ensures.reads in
    record {
      reads = reads_in_turn g.D.Disk f two.new.frames last.new.frames c.args.pass.now two.new.pass last.new.pass r2
          last.ensures.reads;
      none_held = sym (last.ensures.holding [] (two.ensures.holding (c.args.three.parent ∷ [])
          (one.ensures.holding (c.args.three.page ∷ c.args.three.parent ∷ []) c.requires.holding))).all;
      faults = omega (arith, one.ensures.faults, two.ensures.faults, last.ensures.faults);
      calm = calm_then g.D.Disk f one.new.frames last.new.frames one.ensures.calm
          (calm_then g.D.Disk one.new.frames two.new.frames last.new.frames two.ensures.calm last.ensures.calm);
      at_rest = rests_then g.D.Disk f one.new.frames last.new.frames one.ensures.calm one.ensures.at_rest
          (rests_then g.D.Disk one.new.frames two.new.frames last.new.frames two.ensures.calm two.ensures.at_rest
          last.ensures.at_rest);
    }
