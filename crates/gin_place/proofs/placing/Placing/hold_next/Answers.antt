use Rattle.std.proofs.Common.{◌≡◌, ◌<◌, ◌≤◌, ℕ, List, Err, [], ◌∷◌, sym, ap, subst, ◌∙◌, arith, rules}
use Rattle.std.proofs.lemmas.Result.{err_from_is_err_and}
use Rattle.wal.specs.Waiting.{down_of}
use Rattle.core_maintenance.proofs.Found.{right_keeps_found}
use Rattle.core_maintenance.proofs.WaysLead.{ways_hold}
use Rattle.buffer_frames.specs.Frames.{Lies}
use Rattle.buffer_frames.specs.Passes.{IsHolding, Seen}
use Rattle.buffer_frames.proofs.Exits.{on_refusal}
use Rattle.gin_place.specs.Causes.{IsBad, NoBadPage, IsWhy, Finds}
use Rattle.gin_place.specs.Faults.{MetNoFault, FaultBy}
use Rattle.gin_place.specs.Placing.{IsLeft, IsPlacing}
use Rattle.gin_place.specs.Stepping.{reads_left}
use Rattle.gin_place.specs.declared.placing.Stage.TheVariants as stage
use Rattle.gin_place.specs.declared.sought.Sought.{Sought}
use Rattle.gin_place.proofs.Carrying.{reads_in_turn, right_on}
use Rattle.gin_place.proofs.Causing.{at_exit, none_before}
use Rattle.gin_place.proofs.Exits.{no_ok, none_ok}
use Rattle.gin_place.proofs.Faults.{calm_fine, fine_then}
use Rattle.gin_place.proofs.HeldNext as held
use Rattle.gin_place.proofs.Lawful.{never_spent}
use Rattle.gin_place.proofs.placing.Placing.hold_next.Goals as goal

pub hold_seen-requires : goal.hold_seen-requires
hold_seen-requires g c = record { pass = c.requires.pass; right = c.requires.right; none = c.requires.none }

pub returns-in_err-held : goal.returns-in_err-held
returns-in_err-held g c =
    let way = c.requires.way in
    let r = c.from_residual.result in
    let p = err_from_is_err_and r c.from_residual.ensures.1 in
    let w = c.in_err-held.field-0.0 in
    let e = c.in_err-held.ensures in
    let f = c.args.frames.now in
    let was = c.args.pass.now in
    let s = c.args.self.now in
    let last = c.hold_seen.new.frames in
    let pass = c.hold_seen.new.pass in
    record {
      reads = c.hold_seen.ensures.reads;
      number = none_ok r p.0 (λ x. (x.0).page ≡ c.args.page) p.1;
      holding = none_ok r p.0 (λ x. IsHolding g.D.Disk last pass (x.0 ∷ [])) p.1;
      seen = none_ok r p.0 (λ x. Seen g.D.Disk last pass (λ S P. P (x.0).page ≡ (x.0).content)) p.1;
      left = none_ok r p.0 (λ x. (0 < x.1) × (x.1 ≤ reads_left s.left)) p.1;
      enough = none_ok r p.0 (λ x. (key items : List ℕ) (t : Sought) (parent : ℕ)
          → IsPlacing g.D.Disk f was key items s → s.stage ≡ stage.At t parent c.args.page
          → IsLeft g.D.Disk last pass key t c.args.page x.1) p.1;
      lies = none_ok r p.0 (λ x. Lies f c.args.page (x.0).content) p.1;
      down = no_ok r p.0 (down_of last.journal.wal ≡ down_of f.journal.wal) p.1;
      still = on_refusal _ r e.still;
      cause = λ key items are placing. at_exit (λ x. Finds g.D.Disk f was
          (IsWhy g.D.Disk (IsBad g.D.Disk key s) last x)) r p.0 w p.1 p.2
          (held.read_why g.D.Disk f was key items s way.4 way.5 c.args.page way.6 are placing right_keeps_found
          ways_hold c.requires.pass c.requires.right c.requires.none last w e.cause
          (λ n is. c.hold_seen.ensures.bad n (c.in_err-held.was ∙ ap Err is)));
      lawful = at_exit (NoBadPage g.D.Disk f) r p.0 w p.1 p.2
          (held.read_lawful g.D.Disk f was way.0 way.1 s way.4 way.5 c.args.page way.6 way.2 way.3 right_keeps_found
          ways_hold c.requires.pass c.requires.right c.requires.none w
          (λ n is. c.hold_seen.ensures.bad n (c.in_err-held.was ∙ ap Err is)));
      fine = no_ok r p.0 (MetNoFault g.D.Disk f last) p.1;
      fault = at_exit (λ x. FaultBy g.D.Disk f last x) r p.0 w p.1 p.2 e.fault;
    }

-- ── the page is held ──

pub returns : goal.returns
returns g c =
    let e = c.in_ok-held.ensures in
    record {
      reads = c.hold_seen.ensures.reads;
      number = e.number;
      holding = e.holding;
      seen = e.seen;
      left = (
        omega (arith, c.if-left-eq0.false),
        held.most_left c.args.self.now.left c.in_ok-held.extent c.unwrap_or-left.result c.unwrap_or-left.ensures
            (search rules),
      );
      enough = λ key items t parent was at.
          subst (λ (n : ℕ). IsLeft g.D.Disk c.hold_seen.new.frames c.hold_seen.new.pass key t c.args.page n)
          (sym c.unwrap_or-left.ensures)
          (held.enough_at g.D.Disk c.args.frames.now c.hold_seen.new.frames c.args.pass.now c.hold_seen.new.pass key
          items c.args.self.now t parent c.args.page c.in_ok-held.extent (c.in_ok-held.held ∷ []) at was
          c.hold_seen.ensures.reads ways_hold e.holding e.told e.extent);
      lies = e.lies;
      down = e.down;
      still = tt;
      cause = λ key items are was. tt;
      lawful = tt;
      fine = e.fine;
      fault = tt;
    }

-- ── it is one too many ──

pub release-requires : goal.release-requires
release-requires g c =
    let works = c.hold_seen.ensures.reads.works in
    record {
      pass = works.is_pass;
      right = right_on g.D.Disk c.args.frames.now c.hold_seen.new.frames c.args.pass.now c.hold_seen.new.pass []
          c.requires.right works;
      holding = ([], c.in_ok-held.ensures.holding);
    }

pub returns-then-left-eq0 : goal.returns-then-left-eq0
returns-then-left-eq0 g c =
    let way = c.requires.way in
    let e = c.in_ok-held.ensures in
    let f = c.args.frames.now in
    let s = c.args.self.now in
    let at = c.hold_seen.new.frames in
    let pass = c.hold_seen.new.pass in
    let reads = c.hold_seen.ensures.reads in
    let none = sym c.unwrap_or-left.ensures ∙ c.if-left-eq0.true in
    record {
      reads = reads_in_turn g.D.Disk f at c.release.new.frames c.args.pass.now pass c.release.new.pass reads
          c.release.ensures.reads;
      number = tt;
      holding = tt;
      seen = tt;
      left = tt;
      enough = tt;
      lies = tt;
      down = tt;
      still = sym (c.release.ensures.holding [] e.holding).all;
      cause = λ key items are was.
          let enough = held.enough_at g.D.Disk f at c.args.pass.now pass key items s way.4 way.5 c.args.page
          c.in_ok-held.extent (c.in_ok-held.held ∷ []) way.6 was reads ways_hold e.holding e.told e.extent in (
            at,
            pass,
            reads.works,
            e.fine,
            IsBad.far way.4 way.5 way.6 (held.spent s at c.in_ok-held.extent e.extent none)
                (never_spent g.D.Disk at pass (c.in_ok-held.held ∷ []) e.holding reads.works.is_pass key way.4
                c.args.page _ enough none),
          );
      lawful =
          let enough = held.enough_at g.D.Disk f at c.args.pass.now pass way.0 way.1 s way.4 way.5 c.args.page
          c.in_ok-held.extent (c.in_ok-held.held ∷ []) way.6 way.3 reads ways_hold e.holding e.told e.extent in
          none_before g.D.Disk f at c.args.pass.now pass reads.works e.fine
          (λ few. never_spent g.D.Disk at pass (c.in_ok-held.held ∷ []) e.holding reads.works.is_pass way.0 way.4
          c.args.page _ enough none);
      fine = tt;
      fault = fine_then g.D.Disk f at c.release.new.frames e.fine
          (calm_fine g.D.Disk at c.release.new.frames c.release.ensures.calm);
    }
