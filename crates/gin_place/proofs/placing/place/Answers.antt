use Rattle.std.proofs.Common.{[], ◌++◌, sym, ap, subst, rules}
use Rattle.std.proofs.lemmas.Result.{err_from_is_err_and}
use Rattle.gin_place.specs.Placing.{ArePlaced, IsAt, IsPlacing}
use Rattle.gin_place.specs.Causes.{Meets, IsBad, IsBadIn, IsWhy}
use Rattle.gin_place.proofs.Carrying.{reads_still, same_added, works_in_turn, right_on}
use Rattle.gin_place.proofs.Exits.{no_ok}
use Rattle.gin_place.proofs.Causing.{at_exit, meets_after, meets_as, meets_found, why_as}
use Rattle.gin_place.specs.declared.placing.Placing.{Placing}
use Rattle.gin_place.proofs.Resting.{rests_first, rests_on, nothing_logged}
use Rattle.gin_place.proofs.Kept.{begins_placing}
use Rattle.gin_place.specs.Faults.{MetNoFault, FaultBy}
use Rattle.gin_place.proofs.Faults.{fine_still, fine_then, told_then}
use Rattle.gin_place.proofs.placing.place.Goals as goal

pub loop-init : goal.loop-init
loop-init g c =
    record {
      works = (
        [],
        (reads_still g.D.Disk c.args.frames.now c.args.pass.now c.requires.pass
            (same_added g.D.Disk c.args.frames.now)).works,
      );
      none_held = c.requires.none;
      is_pass = c.requires.pass;
      right = c.requires.right;
      rows = c.requires.rows;
      fine = fine_still g.D.Disk c.args.frames.now;
      placing = subst (IsPlacing g.D.Disk c.args.frames.now c.args.pass.now c.args.key.now c.args.items.now)
          (sym c.begin-placing.ensures)
          (begins_placing g.D.Disk c.args.frames.now c.args.pass.now c.args.key.now c.args.items.now);
      standing = rests_first g.D.Disk c.args.frames.now c.args.pass.now c.args.key.now c.args.items.now c.requires.pass
          c.begin-placing.result (ap (λ (s : Placing). s.making_room) c.begin-placing.ensures);
    }

pub loop-preserved : goal.loop-preserved
loop-preserved g c =
    let was = c.loop.invariant in
    let e = c.in_ok-more.ensures in
    let all = works_in_turn g.D.Disk c.args.frames.now c.loop.frames c.step.new.frames c.args.pass.now c.loop.pass
    c.step.new.pass was.works.0 e.works.0 was.works.1 e.works.2 in
    record {
      works = (was.works.0 ++ e.works.0, all);
      none_held = e.none_held;
      is_pass = all.is_pass;
      right = right_on g.D.Disk c.loop.frames c.step.new.frames c.loop.pass c.step.new.pass e.works.0 was.right
          e.works.2;
      rows = λ i on. e.works.2.pairs.pending c.args.key.now i (was.rows i on);
      fine = fine_then g.D.Disk c.args.frames.now c.loop.frames c.step.new.frames was.fine e.fine;
      placing = e.placing;
      standing = rests_on g.D.Disk c.args.frames.now c.args.pass.now c.args.key.now c.args.items.now c.loop.frames
          c.step.new.frames c.loop.pass c.step.new.pass c.loop.placing c.step.new.self was.standing
          c.in_ok-more.more e;
    }

pub returns-then-not-more : goal.returns-then-not-more
returns-then-not-more g c =
    let was = c.loop.invariant in
    let e = c.in_ok-more.ensures in
    let all = works_in_turn g.D.Disk c.args.frames.now c.loop.frames c.step.new.frames c.args.pass.now c.loop.pass
    c.step.new.pass was.works.0 e.works.0 was.works.1 e.works.2 in
    record {
      placed = subst (IsAt g.D.Disk c.step.new.frames c.step.new.pass c.args.key.now c.args.items.now
          c.step.new.self.from) (e.done.0 (search rules)) e.placing.0;
      none_held = e.none_held;
      works = (was.works.0 ++ e.works.0, all);
      standing = nothing_logged g.D.Disk c.args.frames.now c.args.pass.now c.args.key.now c.args.items.now c.loop.frames
          c.step.new.frames c.loop.pass c.step.new.pass c.loop.placing c.step.new.self was.standing c.step.result
          c.step.ensures;
      cause = tt;
      fine = fine_then g.D.Disk c.args.frames.now c.loop.frames c.step.new.frames was.fine e.fine;
      fault = tt;
    }

pub returns-in_err-more : goal.returns-in_err-more
returns-in_err-more g c =
    let was = c.loop.invariant in
    let e = c.in_err-more.ensures in
    let p = err_from_is_err_and c.from_residual.result c.from_residual.ensures.1 in
    let w = c.in_err-more.field-0.0 in
    let all = works_in_turn g.D.Disk c.args.frames.now c.loop.frames c.step.new.frames c.args.pass.now c.loop.pass
    c.step.new.pass was.works.0 e.works.0 was.works.1 e.works.2 in
    record {
      placed = no_ok c.from_residual.result p.0 (ArePlaced g.D.Disk c.step.new.frames c.step.new.pass c.args.key.now
          c.args.items.now) p.1;
      none_held = e.none_held;
      works = (was.works.0 ++ e.works.0, all);
      standing = nothing_logged g.D.Disk c.args.frames.now c.args.pass.now c.args.key.now c.args.items.now c.loop.frames
          c.step.new.frames c.loop.pass c.step.new.pass c.loop.placing c.step.new.self was.standing c.step.result
          c.step.ensures;
      cause = at_exit (λ x. Meets g.D.Disk c.args.frames.now c.args.pass.now (IsWhy g.D.Disk
          (IsBadIn g.D.Disk c.args.key.now) c.step.new.frames x)) c.from_residual.result p.0 w p.1 p.2
          (meets_after g.D.Disk c.args.frames.now c.loop.frames c.args.pass.now c.loop.pass was.works.0
          (IsWhy g.D.Disk (IsBadIn g.D.Disk c.args.key.now) c.step.new.frames w) was.works.1
          (meets_as g.D.Disk c.loop.frames c.loop.pass
          (IsWhy g.D.Disk (IsBad g.D.Disk c.args.key.now c.loop.placing) c.step.new.frames w)
          (IsWhy g.D.Disk (IsBadIn g.D.Disk c.args.key.now) c.step.new.frames w)
          (λ f q why. why_as g.D.Disk (IsBad g.D.Disk c.args.key.now c.loop.placing)
          (IsBadIn g.D.Disk c.args.key.now) c.step.new.frames w f q (λ n bad. (c.loop.placing, bad)) why)
          (meets_found g.D.Disk c.loop.frames c.loop.pass (IsWhy g.D.Disk
          (IsBad g.D.Disk c.args.key.now c.loop.placing) c.step.new.frames w) e.cause)));
      fine = no_ok c.from_residual.result p.0 (MetNoFault g.D.Disk c.args.frames.now c.step.new.frames) p.1;
      fault = at_exit (λ x. FaultBy g.D.Disk c.args.frames.now c.step.new.frames x) c.from_residual.result p.0 w p.1
          p.2 (told_then g.D.Disk c.args.frames.now c.loop.frames c.step.new.frames w was.fine e.fault);
    }

pub returns : goal.returns
returns g c =
    let was = c.loop.invariant in
    record {
      placed = tt;
      none_held = was.none_held;
      works = was.works;
      standing = λ placed t up R stands legal. (was.standing placed t up R stands legal).works;
      cause = (c.loop.frames, c.loop.pass, was.works.0, was.works.1, tt);
      fine = tt;
      fault = was.fine;
    }
