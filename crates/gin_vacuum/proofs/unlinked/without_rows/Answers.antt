use Rattle.std.proofs.Common.{◌≡◌, ◌⊎◌, [], sym, subst₂, ◌∙◌, inl, inr, arith, refl}
use Rattle.std.proofs.lemmas.Result.{err_from_is_err_and}
use Rattle.core_state.proofs.LawsHold.{steady}
use Rattle.gin_place.specs.Causes.{Finds, NoBadPage}
use Rattle.gin_place.specs.Faults.{FaultBy, MetNoFault}
use Rattle.gin_place.specs.declared.error.PlaceError.TheVariants.{OutOfMemory}
use Rattle.gin_place.proofs.Carrying.{reads_in_turn, reads_still, right_on, same_added}
use Rattle.gin_place.proofs.Causing.{at_exit, finds_now, finds_after}
use Rattle.gin_place.proofs.Faults.{fine_still, fine_then, told_then}
use Rattle.gin_place.proofs.Exits.{no_ok, none_ok}
use Rattle.gin_vacuum.specs.Unlinked.{AreUnlinked, CannotList}
use Rattle.gin_vacuum.proofs.ListCauses.{lawful_list}
use Rattle.gin_vacuum.proofs.WalkCode.{empty_is, not_empty}
use Rattle.gin_vacuum.proofs.WalkRead.{unlinked, none_unlinked}
use Rattle.gin_vacuum.proofs.WalkStill.{heads_still}
use Rattle.gin_vacuum.proofs.unlinked.without_rows.Goals as goal
use Rattle.gin_vacuum.proofs.unlinked.without_rows.Goals.{then-loop-walk-test+else-walk-ne0, else-loop-walk-test}

pub loop-walk-init : goal.loop-walk-init
loop-walk-init g c =
    record {
      reads = c.begin.ensures.reads;
      none_held = c.begin.ensures.none_held;
      fine = c.in_ok-walk.ensures.fine;
      walk = c.in_ok-walk.ensures.walk c.args.dead.now c.requires.dead;
    }

pub read-requires-clause-pass : goal.read-requires-clause-pass
read-requires-clause-pass g c =
    c.loop-walk.invariant.reads.works.is_pass

pub read-requires-clause-right : goal.read-requires-clause-right
read-requires-clause-right g c =
    right_on g.D.Disk c.args.frames.now c.loop-walk.frames c.args.pass.now c.loop-walk.pass [] c.requires.right
    c.loop-walk.invariant.reads.works

pub read-requires-clause-none : goal.read-requires-clause-none
read-requires-clause-none g c =
    c.loop-walk.invariant.none_held

pub read-requires-clause-walk : goal.read-requires-clause-walk
read-requires-clause-walk g c =
    (c.args.pass.now.seen, c.args.pass.now.floor, c.loop-walk.invariant.walk)

pub loop-walk-preserved : goal.loop-walk-preserved
loop-walk-preserved g c =
    let was = c.loop-walk.invariant in
    let e = c.in_ok-read.ensures in
    record {
      reads =
          reads_in_turn g.D.Disk c.args.frames.now c.loop-walk.frames c.read.new.frames c.args.pass.now c.loop-walk.pass
          c.read.new.pass was.reads c.read.ensures.reads;
      none_held = c.read.ensures.none_held;
      fine = fine_then g.D.Disk c.args.frames.now c.loop-walk.frames c.read.new.frames was.fine e.fine;
      walk = e.walk c.args.pass.now.seen c.args.pass.now.floor was.walk;
    }

pub loop-walk-smaller : goal.loop-walk-smaller
loop-walk-smaller g c =
    omega (arith, c.in_ok-read.ensures.lower)

pub returns : goal.returns
returns g c = record {
  unlinked = let w = c.loop-walk.walk in
      let x = c.loop-walk.invariant in
      let end : (w.page ≡ 0) ⊎ (w.left ≡ 0) = elim c.loop-walk-test.branch [
        | then-loop-walk-test+else-walk-ne0 b ↦ inl b.if-walk-ne0.false
        | else-loop-walk-test b ↦ inr (omega (arith, b.loop-walk-test.false))
      ] in
      unlinked g.D.Disk steady c.loop-walk.frames c.loop-walk.pass x.reads.works.is_pass
      c.args.pass.now.seen c.args.pass.now.floor c.args.dead.now w.page w.left w.met.items c.in_ok-left_out.field-0 end
      c.in_ok-left_out.ensures x.walk;
  dead = heads_still g.D.Disk steady c.args.frames.now c.loop-walk.frames c.args.pass.now c.loop-walk.pass
      c.requires.pass c.requires.right c.requires.none c.loop-walk.invariant.reads c.args.dead.now c.requires.dead;
  nothing = λ none.
      absurd (not_empty c.items.result.now c.is_empty.result c.is_empty.ensures c.if-is_empty.false
      (c.items.ensures.items ∙ none));
  reads = c.loop-walk.invariant.reads;
  none_held = c.loop-walk.invariant.none_held;
  cause = tt;
  lawful = tt;
  fine = c.loop-walk.invariant.fine;
  fault = tt;
}

pub returns-in_err-walk : goal.returns-in_err-walk
returns-in_err-walk g c =
    let out = c.from_residual.result in
    let why = err_from_is_err_and out c.from_residual.ensures.1 in
    record {
      unlinked =
          none_ok out why.0 (AreUnlinked g.D.Disk c.begin.new.frames c.begin.new.pass c.args.pass.now.seen
          c.args.dead.now) why.1;
      dead = heads_still g.D.Disk steady c.args.frames.now c.begin.new.frames c.args.pass.now c.begin.new.pass
          c.requires.pass c.requires.right c.requires.none c.begin.ensures.reads c.args.dead.now c.requires.dead;
      nothing = λ none.
          absurd (not_empty c.items.result.now c.is_empty.result c.is_empty.ensures c.if-is_empty.false
          (c.items.ensures.items ∙ none));
      reads = c.begin.ensures.reads;
      none_held = c.begin.ensures.none_held;
      cause = at_exit (λ x. Finds g.D.Disk c.args.frames.now c.args.pass.now (CannotList g.D.Disk c.begin.new.frames x))
          out why.0 c.in_err-walk.field-0.0 why.1 why.2 c.in_err-walk.ensures.cause;
      lawful = let w = c.in_err-walk.field-0.0 in
          at_exit (NoBadPage g.D.Disk c.args.frames.now) out why.0 w why.1 why.2
          (lawful_list g.D.Disk c.begin.new.frames w c.args.frames.now c.args.pass.now c.in_err-walk.ensures.cause);
      fine =
          no_ok out why.0 (MetNoFault g.D.Disk c.args.frames.now c.begin.new.frames) why.1;
      fault = at_exit (λ x. FaultBy g.D.Disk c.args.frames.now c.begin.new.frames x) out why.0
          c.in_err-walk.field-0.0 why.1 why.2 c.in_err-walk.ensures.fault;
    }

pub returns-in_err-read : goal.returns-in_err-read
returns-in_err-read g c =
    let out = c.from_residual-in_err-read.result in
    let why = err_from_is_err_and out c.from_residual-in_err-read.ensures.1 in
    record {
      unlinked =
          none_ok out why.0 (AreUnlinked g.D.Disk c.read.new.frames c.read.new.pass c.args.pass.now.seen
          c.args.dead.now) why.1;
      dead = heads_still g.D.Disk steady c.args.frames.now c.read.new.frames c.args.pass.now c.read.new.pass
          c.requires.pass c.requires.right c.requires.none
          (reads_in_turn g.D.Disk c.args.frames.now c.loop-walk.frames c.read.new.frames c.args.pass.now
          c.loop-walk.pass
          c.read.new.pass c.loop-walk.invariant.reads c.read.ensures.reads) c.args.dead.now c.requires.dead;
      nothing = λ none.
          absurd (not_empty c.items.result.now c.is_empty.result c.is_empty.ensures c.if-is_empty.false
          (c.items.ensures.items ∙ none));
      reads = reads_in_turn g.D.Disk c.args.frames.now c.loop-walk.frames c.read.new.frames c.args.pass.now
          c.loop-walk.pass
          c.read.new.pass c.loop-walk.invariant.reads c.read.ensures.reads;
      none_held = c.read.ensures.none_held;
      cause = let w = c.in_err-read.field-0.0 in
          at_exit (λ x. Finds g.D.Disk c.args.frames.now c.args.pass.now (CannotList g.D.Disk c.read.new.frames x))
          out why.0 w why.1 why.2
          (finds_after g.D.Disk c.args.frames.now c.loop-walk.frames c.args.pass.now c.loop-walk.pass
          (CannotList g.D.Disk c.read.new.frames w) c.loop-walk.invariant.reads.works c.loop-walk.invariant.fine
          c.in_err-read.ensures.cause);
      lawful = let w = c.in_err-read.field-0.0 in
          at_exit (NoBadPage g.D.Disk c.args.frames.now) out why.0 w why.1 why.2
          (lawful_list g.D.Disk c.read.new.frames w c.args.frames.now c.args.pass.now
          (finds_after g.D.Disk c.args.frames.now c.loop-walk.frames c.args.pass.now c.loop-walk.pass
          (CannotList g.D.Disk c.read.new.frames w) c.loop-walk.invariant.reads.works c.loop-walk.invariant.fine
          c.in_err-read.ensures.cause));
      fine =
          no_ok out why.0 (MetNoFault g.D.Disk c.args.frames.now c.read.new.frames) why.1;
      fault = let w = c.in_err-read.field-0.0 in
          at_exit (λ x. FaultBy g.D.Disk c.args.frames.now c.read.new.frames x) out why.0 w why.1
          why.2
          (told_then g.D.Disk c.args.frames.now c.loop-walk.frames c.read.new.frames w c.loop-walk.invariant.fine
          c.in_err-read.ensures.fault);
    }

pub returns-in_err-left_out : goal.returns-in_err-left_out
returns-in_err-left_out g c =
    let out = c.from_residual-in_err-left_out.result in
    let why = err_from_is_err_and out c.from_residual-in_err-left_out.ensures.1 in
    record {
      unlinked =
          none_ok out why.0 (AreUnlinked g.D.Disk c.loop-walk.frames c.loop-walk.pass c.args.pass.now.seen
          c.args.dead.now) why.1;
      dead = heads_still g.D.Disk steady c.args.frames.now c.loop-walk.frames c.args.pass.now c.loop-walk.pass
          c.requires.pass c.requires.right c.requires.none c.loop-walk.invariant.reads c.args.dead.now c.requires.dead;
      nothing = λ none.
          absurd (not_empty c.items.result.now c.is_empty.result c.is_empty.ensures c.if-is_empty.false
          (c.items.ensures.items ∙ none));
      reads = c.loop-walk.invariant.reads;
      none_held = c.loop-walk.invariant.none_held;
      cause = at_exit (λ x. Finds g.D.Disk c.args.frames.now c.args.pass.now (CannotList g.D.Disk c.loop-walk.frames x))
          out why.0 OutOfMemory why.1 why.2
          (finds_now g.D.Disk c.args.frames.now c.args.pass.now (CannotList g.D.Disk c.loop-walk.frames OutOfMemory)
          c.requires.pass tt);
      lawful = at_exit (NoBadPage g.D.Disk c.args.frames.now) out why.0 OutOfMemory why.1 why.2 tt;
      fine =
          no_ok out why.0 (MetNoFault g.D.Disk c.args.frames.now c.loop-walk.frames) why.1;
      fault = at_exit (λ x. FaultBy g.D.Disk c.args.frames.now c.loop-walk.frames x) out why.0
          OutOfMemory why.1 why.2 c.loop-walk.invariant.fine;
    }

pub returns-then-is_empty : goal.returns-then-is_empty
returns-then-is_empty g c = record {
  unlinked = let none : c.args.dead.now
      ≡ [] =
      sym c.items.ensures.items ∙ empty_is c.items.result.now c.is_empty.result c.is_empty.ensures c.if-is_empty.true in
      subst₂ (AreUnlinked g.D.Disk c.args.frames.now c.args.pass.now c.args.pass.now.seen) (sym none)
      (sym (c.new-then-is_empty.ensures ∙ c.new.ensures.items))
      (none_unlinked g.D.Disk c.args.frames.now c.args.pass.now c.args.pass.now.seen);
  dead = c.requires.dead;
  nothing = λ none. (refl, refl);
  reads = reads_still g.D.Disk c.args.frames.now c.args.pass.now c.requires.pass (same_added g.D.Disk
      c.args.frames.now);
  none_held = c.requires.none;
  cause = tt;
  lawful = tt;
  fine = fine_still g.D.Disk c.args.frames.now;
  fault = tt;
}
