use Rattle.std.proofs.Common.{[], ◌∷◌, refl, sym, arith}
use Rattle.gin_place.proofs.Carrying.{reads_in_turn, right_on}
use Rattle.gin_place.proofs.Causing.{Later, finds_after}
use Rattle.gin_place.proofs.Faults.{fine_then, told_then, told_back}
use Rattle.gin_vacuum.specs.Stepping.{IsCause}
use Rattle.gin_vacuum.specs.Inner.Deleting.{with_before, IsBadAround}
use Rattle.gin_vacuum.proofs.AroundHeld.{few_before, found_on, found_later}
use Rattle.gin_vacuum.proofs.NeverAround.{never_empty, never_before}
use Rattle.gin_vacuum.proofs.deleting.hold_around.Goals as goal

pub hold_before-requires : goal.hold_before-requires
hold_before-requires g c = record {
  pass = c.requires.pass;
  right = c.requires.right;
  few = omega (arith, c.requires.holding.all);
  holding = (c.args.parent ∷ [], c.requires.holding);
  lawful = never_before g.D.Disk c.args.frames.now c.args.pass.now (c.args.parent ∷ []) c.requires.holding
      c.requires.pass c.requires.right c.args.empty c.requires.found;
}

-- ── the leaf before it is not held ──

pub release-requires : goal.release-requires
release-requires g c =
    let works = c.hold_before.ensures.reads.works in
    record {
      pass = works.is_pass;
      right = right_on g.D.Disk c.args.frames.now c.hold_before.new.frames c.args.pass.now c.hold_before.new.pass []
          c.requires.right works;
      holding = ([], c.in-Err.ensures.still.holding (c.args.parent ∷ []) c.requires.holding);
    }

pub returns-in-Err : goal.returns-in-Err
returns-in-Err g c =
    let f = c.args.frames.now in
    let l = c.hold_before.new.frames in
    let m = c.release.new.frames in
    let e = c.in-Err.ensures in
    let back = c.release.ensures in
    record {
      reads = reads_in_turn g.D.Disk f l m c.args.pass.now c.hold_before.new.pass c.release.new.pass
          c.hold_before.ensures.reads back.reads;
      holding = tt;
      around = tt;
      still = sym (back.holding [] (e.still.holding (c.args.parent ∷ []) c.requires.holding)).all;
      cause = found_later g.D.Disk (IsBadAround g.D.Disk c.args.empty) f l m c.args.pass.now c.in-Err.error
          back.faults e.cause;
      fine = tt;
      fault = told_back g.D.Disk f l m c.in-Err.error e.fault back.calm back.at_rest;
    }

-- ── it is ──

pub hold_empty-requires : goal.hold_empty-requires
hold_empty-requires g c =
    let f = c.args.frames.now in
    let p = c.args.pass.now in
    let l = c.hold_before.new.frames in
    let q = c.hold_before.new.pass in
    let held = with_before c.in-Ok.before (c.args.parent ∷ []) in
    let h = c.in-Ok.ensures.holding (c.args.parent ∷ []) c.requires.holding in
    let works = c.hold_before.ensures.reads.works in
    let right = right_on g.D.Disk f l p q [] c.requires.right works in
    record {
      pass = works.is_pass;
      right = right;
      few = few_before c.in-Ok.before c.args.parent q.held h.all;
      holding = (held, h);
      lawful = never_empty g.D.Disk l q held h works.is_pass right c.args.empty
          (found_on g.D.Disk f l p q c.requires.right c.requires.pass works (c.args.parent ∷ []) c.requires.holding
          c.args.empty c.requires.found);
    }

pub returns-in-Ok-hold_empty : goal.returns-in-Ok-hold_empty
returns-in-Ok-hold_empty g c =
    let f = c.args.frames.now in
    let l = c.hold_before.new.frames in
    let m = c.hold_empty.new.frames in
    let e = c.in-Ok-hold_empty.ensures in
    record {
      reads = reads_in_turn g.D.Disk f l m c.args.pass.now c.hold_before.new.pass c.hold_empty.new.pass
          c.hold_before.ensures.reads c.hold_empty.ensures.reads;
      holding = e.holding (with_before c.in-Ok.before (c.args.parent ∷ []))
          (c.in-Ok.ensures.holding (c.args.parent ∷ []) c.requires.holding);
      around = record {
        parent_is = refl;
        leaf_is = e.leaf.0;
        leaf = e.leaf.1;
        before = c.in-Ok.ensures.before;
      };
      still = tt;
      cause = tt;
      fine = fine_then g.D.Disk f l m c.in-Ok.ensures.fine e.fine;
      fault = tt;
    }

-- ── the leaf itself is not held ──

pub give_back-requires : goal.give_back-requires
give_back-requires g c =
    let q = c.hold_before.new.pass in
    let works = c.hold_empty.ensures.reads.works in
    let right = right_on g.D.Disk c.args.frames.now c.hold_before.new.frames c.args.pass.now q [] c.requires.right
    c.hold_before.ensures.reads.works in
    record {
      pass = works.is_pass;
      right = right_on g.D.Disk c.hold_before.new.frames c.hold_empty.new.frames q c.hold_empty.new.pass [] right works;
      holding = c.in-Err-hold_empty.ensures.still.holding (with_before c.in-Ok.before (c.args.parent ∷ []))
          (c.in-Ok.ensures.holding (c.args.parent ∷ []) c.requires.holding);
    }

pub returns-in-Err-hold_empty : goal.returns-in-Err-hold_empty
returns-in-Err-hold_empty g c =
    let f = c.args.frames.now in
    let p = c.args.pass.now in
    let l = c.hold_before.new.frames in
    let q = c.hold_before.new.pass in
    let m = c.hold_empty.new.frames in
    let r = c.hold_empty.new.pass in
    let last = c.give_back.new.frames in
    let w = c.in-Err-hold_empty.error in
    let e = c.in-Err-hold_empty.ensures in
    let back = c.give_back.ensures in
    let bad = IsBadAround g.D.Disk c.args.empty in
    let later : Later g.D.Disk m last = back.calm.later in
    record {
      reads = reads_in_turn g.D.Disk f m last p r c.give_back.new.pass
          (reads_in_turn g.D.Disk f l m p q r c.hold_before.ensures.reads c.hold_empty.ensures.reads) back.reads;
      holding = tt;
      around = tt;
      still = back.none_held;
      cause = finds_after g.D.Disk f l p q (IsCause g.D.Disk bad last w) c.hold_before.ensures.reads.works
          c.in-Ok.ensures.fine (found_later g.D.Disk bad l m last q w later e.cause);
      fine = tt;
      fault = told_back g.D.Disk f m last w (told_then g.D.Disk f l m w c.in-Ok.ensures.fine e.fault) back.calm
          back.at_rest;
    }
