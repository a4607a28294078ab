use Rattle.std.proofs.Common.{[], ◌∷◌, sym}
use Rattle.gin_place.proofs.Carrying.{reads_in_turn, right_on}
use Rattle.gin_place.proofs.Faults.{calm_then, rests_then}
use Rattle.gin_cleanup.proofs.first_page.give_back.Goals as goal

pub release-requires : goal.release-requires
release-requires g c = record {
  pass = c.requires.pass;
  right = c.requires.right;
  holding = (c.args.first.meta ∷ [], c.requires.holding);
}

pub release-requires-2 : goal.release-requires-2
release-requires-2 g c =
    let works = c.release.ensures.reads.works in
    record {
      pass = works.is_pass;
      right = right_on g.D.Disk c.args.frames.now c.release.new.frames c.args.pass.now c.release.new.pass []
          c.requires.right works;
      holding = ([], c.release.ensures.holding (c.args.first.meta ∷ []) c.requires.holding);
    }

pub returns : goal.returns
returns g c =
    let f = c.args.frames.now in
    let m = c.release.new.frames in
    let last = c.release-2.new.frames in
    let x = c.release.ensures in
    let y = c.release-2.ensures in
    record {
      reads = reads_in_turn g.D.Disk f m last c.args.pass.now c.release.new.pass c.release-2.new.pass x.reads y.reads;
      none_held = sym (y.holding [] (x.holding (c.args.first.meta ∷ []) c.requires.holding)).all;
      calm = calm_then g.D.Disk f m last x.calm y.calm;
      at_rest = rests_then g.D.Disk f m last x.calm x.at_rest y.at_rest;
    }
