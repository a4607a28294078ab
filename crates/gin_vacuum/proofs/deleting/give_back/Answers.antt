use Rattle.std.proofs.Common.{[], ◌∷◌, sym, subst}
use Rattle.std.specs.Prelude.{Option}
use Rattle.core_state.specs.Allowed.{Sheet}
use Rattle.buffer_frames.specs.Passes.{IsHolding}
use Rattle.gin_place.proofs.Carrying.{reads_in_turn, right_on}
use Rattle.gin_place.proofs.Faults.{calm_then, rests_then}
use Rattle.gin_vacuum.specs.Inner.Deleting.{with_before}
use Rattle.gin_vacuum.proofs.deleting.give_back.Goals as goal

-- ── a leaf is before it ──

pub release-requires : goal.release-requires
release-requires g c = record {
  pass = c.requires.pass;
  right = c.requires.right;
  holding = (
    c.args.parent ∷ [],
    subst (λ (o : Option Sheet). IsHolding g.D.Disk c.args.frames.now c.args.pass.now
        (with_before o (c.args.parent ∷ []))) c.in-Some.is c.requires.holding,
  );
}

pub release-requires-in-Some : goal.release-requires-in-Some
release-requires-in-Some g c =
    let h = subst (λ (o : Option Sheet). IsHolding g.D.Disk c.args.frames.now c.args.pass.now
    (with_before o (c.args.parent ∷ []))) c.in-Some.is c.requires.holding in
    let works = c.release.ensures.reads.works in
    record {
      pass = works.is_pass;
      right = right_on g.D.Disk c.args.frames.now c.release.new.frames c.args.pass.now c.release.new.pass []
          c.requires.right works;
      holding = ([], c.release.ensures.holding (c.args.parent ∷ []) h);
    }

pub returns-in-Some : goal.returns-in-Some
returns-in-Some g c =
    let h = subst (λ (o : Option Sheet). IsHolding g.D.Disk c.args.frames.now c.args.pass.now
    (with_before o (c.args.parent ∷ []))) c.in-Some.is c.requires.holding in
    let f = c.args.frames.now in
    let first = c.release in
    let last = c.release-in-Some in
    record {
      reads = reads_in_turn g.D.Disk f first.new.frames last.new.frames c.args.pass.now first.new.pass last.new.pass
          first.ensures.reads last.ensures.reads;
      none_held = sym (last.ensures.holding [] (first.ensures.holding (c.args.parent ∷ []) h)).all;
      calm = calm_then g.D.Disk f first.new.frames last.new.frames first.ensures.calm last.ensures.calm;
      at_rest = rests_then g.D.Disk f first.new.frames last.new.frames first.ensures.calm first.ensures.at_rest
          last.ensures.at_rest;
    }

-- ── none is ──

pub release-requires-in-None : goal.release-requires-in-None
release-requires-in-None g c = record {
  pass = c.requires.pass;
  right = c.requires.right;
  holding = (
    [],
    subst (λ (o : Option Sheet). IsHolding g.D.Disk c.args.frames.now c.args.pass.now
        (with_before o (c.args.parent ∷ []))) c.in-None.is c.requires.holding,
  );
}

pub returns-in-None : goal.returns-in-None
returns-in-None g c =
    let h = subst (λ (o : Option Sheet). IsHolding g.D.Disk c.args.frames.now c.args.pass.now
    (with_before o (c.args.parent ∷ []))) c.in-None.is c.requires.holding in
    let e = c.release-in-None.ensures in
    record { reads = e.reads; none_held = sym (e.holding [] h).all; calm = e.calm; at_rest = e.at_rest }
