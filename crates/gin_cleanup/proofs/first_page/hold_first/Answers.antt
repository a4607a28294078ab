use Rattle.std.proofs.Common.{[], ◌∷◌, sym, subst, arith}
use Rattle.std.proofs.lemmas.Result.{err_from_is_err_and}
use Rattle.page_types.specs.Pages.{IsPage}
use Rattle.buffer_frames.proofs.Exits.{on_refusal}
use Rattle.gin_place.specs.Causes.{Finds, CannotUse}
use Rattle.gin_place.specs.Faults.{MetNoFault, FaultBy}
use Rattle.gin_place.proofs.Carrying.{reads_in_turn, right_on}
use Rattle.gin_place.proofs.Causing.{at_exit}
use Rattle.gin_place.proofs.Exits.{no_ok, none_ok}
use Rattle.gin_place.proofs.Faults.{fine_then, told_then, told_back}
use Rattle.gin_cleanup.specs.Going.{IsRowPage, IsBadList, IsCause}
use Rattle.gin_cleanup.specs.Inner.Shifting.{HoldsFirst}
use Rattle.gin_cleanup.proofs.FirstHeld.{first_bad, both_seen}
use Rattle.gin_cleanup.proofs.ShiftCauses.{first_cause}
use Rattle.gin_cleanup.proofs.first_page.hold_first.Goals as goal

pub returns-in_err-meta : goal.returns-in_err-meta
returns-in_err-meta g c =
    let f = c.args.frames.now in
    let last = c.hold_meta.new.frames in
    let pass = c.hold_meta.new.pass in
    let r = c.from_residual.result in
    let p = err_from_is_err_and r c.from_residual.ensures.1 in
    let w = c.in_err-meta.field-0.0 in
    let e = c.in_err-meta.ensures in
    record {
      reads = c.hold_meta.ensures.reads;
      holds = none_ok r p.0 (HoldsFirst g.D.Disk last pass) p.1;
      bad = none_ok r p.0 (λ t. IsPage t.page.content → (IsRowPage t.page.content → ⊥)
          → Finds g.D.Disk f c.args.pass.now (λ k s. IsBadList g.D.Disk k s t.page.page)) p.1;
      still = on_refusal _ r e.still;
      cause = at_exit (λ x. Finds g.D.Disk f c.args.pass.now (IsCause g.D.Disk last x)) r p.0 w p.1 p.2 e.cause;
      fine = no_ok r p.0 (MetNoFault g.D.Disk f last) p.1;
      fault = at_exit (λ x. FaultBy g.D.Disk f last x) r p.0 w p.1 p.2 e.fault;
    }

pub hold_page-requires : goal.hold_page-requires
hold_page-requires g c =
    let works = c.hold_meta.ensures.reads.works in
    record {
      pass = works.is_pass;
      right = right_on g.D.Disk c.args.frames.now c.hold_meta.new.frames c.args.pass.now c.hold_meta.new.pass []
          c.requires.right works;
      few = omega (arith, c.in_ok-meta.ensures.holding.all);
    }

pub returns-in-Ok : goal.returns-in-Ok
returns-in-Ok g c =
    let f = c.args.frames.now in
    let p = c.args.pass.now in
    let at = c.hold_meta.new.frames in
    let by = c.hold_meta.new.pass in
    let m = c.in_ok-meta in
    let e = c.in-Ok.ensures in
    let works = c.hold_meta.ensures.reads.works in
    let both = e.holding (m.meta ∷ []) m.ensures.holding in
    record {
      reads = reads_in_turn g.D.Disk f at c.hold_page.new.frames p by c.hold_page.new.pass c.hold_meta.ensures.reads
          c.hold_page.ensures.reads;
      holds = record {
        holding = both;
        meta_page = m.ensures.number;
        page_is = e.number;
        names = m.ensures.names;
        seen = both_seen g.D.Disk at c.hold_page.new.frames by c.hold_page.new.pass c.in-Ok.page m.meta works.is_pass
            m.ensures.told c.hold_page.ensures.reads.works both m.ensures.number;
      };
      bad = λ fits off. (
        at,
        by,
        works,
        m.ensures.fine,
        subst (IsBadList g.D.Disk at by) (sym e.number)
            (first_bad g.D.Disk f at p by c.requires.pass c.requires.right c.requires.none works c.requires.some m.meta
            m.names.first m.names.last m.names.pages m.ensures.number m.ensures.names m.ensures.holding m.ensures.seen
            (CannotUse.other c.in-Ok.page.content fits e.lies off)),
      );
      still = tt;
      cause = tt;
      fine = fine_then g.D.Disk f at c.hold_page.new.frames m.ensures.fine e.fine;
      fault = tt;
    }

pub release-requires : goal.release-requires
release-requires g c =
    let r = reads_in_turn g.D.Disk c.args.frames.now c.hold_meta.new.frames c.hold_page.new.frames c.args.pass.now
    c.hold_meta.new.pass c.hold_page.new.pass c.hold_meta.ensures.reads c.hold_page.ensures.reads in
    record {
      pass = r.works.is_pass;
      right = right_on g.D.Disk c.args.frames.now c.hold_page.new.frames c.args.pass.now c.hold_page.new.pass []
          c.requires.right r.works;
      holding = ([], c.in-Err.ensures.still.holding (c.in_ok-meta.meta ∷ []) c.in_ok-meta.ensures.holding);
    }

pub returns-in-Err : goal.returns-in-Err
returns-in-Err g c =
    let f = c.args.frames.now in
    let p = c.args.pass.now in
    let at = c.hold_meta.new.frames in
    let by = c.hold_meta.new.pass in
    let m = c.in_ok-meta in
    let e = c.in-Err.ensures in
    let b = c.release.ensures in
    let last = c.release.new.frames in
    let works = c.hold_meta.ensures.reads.works in
    let r = reads_in_turn g.D.Disk f at c.hold_page.new.frames p by c.hold_page.new.pass c.hold_meta.ensures.reads
    c.hold_page.ensures.reads in
    record {
      reads = reads_in_turn g.D.Disk f c.hold_page.new.frames last p c.hold_page.new.pass c.release.new.pass r b.reads;
      holds = tt;
      bad = tt;
      still = sym (b.holding [] (e.still.holding (m.meta ∷ []) m.ensures.holding)).all;
      cause = (
        at,
        by,
        works,
        m.ensures.fine,
        first_cause g.D.Disk at by m.names.first
            (first_bad g.D.Disk f at p by c.requires.pass c.requires.right c.requires.none works c.requires.some m.meta
            m.names.first m.names.last m.names.pages m.ensures.number m.ensures.names m.ensures.holding m.ensures.seen)
            c.hold_page.new.frames last c.in-Err.error b.faults e.cause,
      );
      fine = tt;
      fault = told_then g.D.Disk f at last c.in-Err.error m.ensures.fine
          (told_back g.D.Disk at c.hold_page.new.frames last c.in-Err.error e.fault b.calm b.at_rest);
    }
