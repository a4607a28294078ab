use Rattle.std.proofs.Common.{◌≡◌, [], refl, sym, subst, arith}
use Rattle.std.specs.Prelude.{Some}
use Rattle.page_types.specs.Pages.{IsPage}
use Rattle.page_types.specs.declared.page.Page.{Page}
use Rattle.core_state.specs.States.{StateTells}
use Rattle.core_maintenance.proofs.WaysLead.{ways_hold}
use Rattle.posting_tree.specs.Finding.{IsFound}
use Rattle.posting_tree.specs.declared.finding.Found.TheVariants as found
use Rattle.gin_place.proofs.Faults.{calm_fine, fine_then}
use Rattle.gin_vacuum.specs.Sweeping.{IsAt, HasHigh}
use Rattle.gin_vacuum.specs.declared.sweeping.Stage.TheVariants as stage
use Rattle.gin_vacuum.proofs.GoneDown.{gone_on, right_then, swept_at}
use Rattle.gin_vacuum.proofs.NotHeld.{misplaced}
use Rattle.gin_vacuum.proofs.ParentHeld.{no_some, way_lower, high_same}
use Rattle.gin_vacuum.proofs.ParentSteps.{at_next}
use Rattle.gin_vacuum.proofs.SweptAfter.{swept_after}
use Rattle.gin_vacuum.proofs.sweeping.Sweeping.seek_parent.Goals as goal

pub child_toward-requires : goal.child_toward-requires
child_toward-requires g c = record {
  page = c.page.ensures.is_page;
  above = (subst HasHigh c.requires.held.2 c.requires.held.3.sweeping.high).0;
  below = (subst HasHigh c.requires.held.2 c.requires.held.3.sweeping.high).1;
}

pub release-requires : goal.release-requires
release-requires g c =
    let w = c.requires.held.3 in
    record {
      pass = w.reads.works.is_pass;
      right = right_then g.D.Disk w.frames c.args.frames.now w.pass c.args.pass.now w.right w.is_pass w.none w.reads
          c.requires.held.0 c.args.self.now w.sweeping;
      holding = ([], w.holding);
    }

pub release-requires-then-child-empty : goal.release-requires-then-child-empty
release-requires-then-child-empty g c =
    let w = c.requires.held.3 in
    record {
      pass = w.reads.works.is_pass;
      right = right_then g.D.Disk w.frames c.args.frames.now w.pass c.args.pass.now w.right w.is_pass w.none w.reads
          c.requires.held.0 c.args.self.now w.sweeping;
      holding = ([], w.holding);
    }

pub returns-in_default : goal.returns-in_default
returns-in_default g c = record {
  swept = λ dead before is w.
      let b = c.release.ensures in
      let none = no_some c.child_toward.result _ c.in_default.not-Some c.child_toward.ensures.none in
      misplaced g.D.Disk ways_hold c.args.frames.now c.args.pass.now dead c.args.self.now c.args.page before
      c.args.held c.args.left w (stage.Parent c.args.empty c.args.page before) is refl c.release.new.frames
      c.release.new.pass b.reads (sym (b.holding [] w.holding).all) b.calm
      (subst IsPage c.page.ensures.value c.page.ensures.is_page)
      (λ at.
      none at.0 (subst (λ (d : Page). IsFound d c.args.empty.high (found.Down at.0)) (sym c.page.ensures.value) at.1));
  lower = tt;
}

pub returns-then-child-empty : goal.returns-then-child-empty
returns-then-child-empty g c = record {
  swept = λ dead before is w.
      let h = c.args.held in
      let f1 = c.args.frames.now in
      let f2 = c.release-then-child-empty.new.frames in
      let b = c.release-then-child-empty.ensures in
      gone_on g.D.Disk w.frames f1 w.pass c.args.pass.now w.right w.is_pass w.none w.reads dead c.args.self.now
      w.sweeping f2 c.release-then-child-empty.new.pass h w.holding b.reads (sym (b.holding [] w.holding).all) _ tt
      (fine_then g.D.Disk w.frames f1 f2 w.fine (calm_fine g.D.Disk f1 f2 b.calm))
      (λ S P. (P h.page ≡ h.content) × StateTells S f1.journal.state)
      (λ S P some legal shown at x.
      at_next S P some legal shown ways_hold f1.journal.state x.1 w.more.0 c.args.left w.more.1 dead
      c.args.self.now c.args.empty c.args.page before h.content (subst (λ n. P n ≡ h.content) w.number x.0)
      (subst (IsAt P dead c.args.self.now) is at) w.more.2 c.in-Some.child
      (subst (λ (d : Page). IsFound d c.args.empty.high (found.Down c.in-Some.child)) c.page.ensures.value
      c.in-Some.ensures.some) c.if-child-empty.true)
      (λ t up R stands legal P shown.
      (w.seen t up R stands legal P shown, w.told t up R stands legal P shown))
      (high_same c.args.self.now c.args.empty c.args.page c.in-Some.child before (Some c.args.left) is w.sweeping.high);
  lower = way_lower c.args.self.now c.args.empty c.args.page c.in-Some.child c.args.left c.requires.held.1
      c.requires.held.2
      c.requires.held.3.lower;
}

pub leave_or_delete-requires : goal.leave_or_delete-requires
leave_or_delete-requires g c = record {
  pass = c.requires.held.3.reads.works.is_pass;
  right = let w = c.requires.held.3 in
      right_then g.D.Disk w.frames c.args.frames.now w.pass c.args.pass.now w.right w.is_pass w.none w.reads
      c.requires.held.0 c.args.self.now w.sweeping;
  holding = c.requires.held.3.holding;
  stage = (c.args.page, c.requires.held.1, c.requires.held.2, omega (arith, c.requires.held.3.lower));
  sweeping = let w = c.requires.held.3 in (
    c.requires.held.0,
    swept_at g.D.Disk w.frames c.args.frames.now w.pass c.args.pass.now w.right w.is_pass w.none w.reads
        c.requires.held.0 c.args.self.now w.sweeping,
  );
}

pub returns : goal.returns
returns g c = record {
  swept = λ dead before is w.
      let then = swept_at g.D.Disk w.frames c.args.frames.now w.pass c.args.pass.now w.right w.is_pass w.none w.reads
      dead c.args.self.now w.sweeping in
      swept_after g.D.Disk w.frames c.args.frames.now c.leave_or_delete.new.frames w.pass c.args.pass.now
      c.leave_or_delete.new.pass w.reads.works w.fine dead c.args.self.now c.leave_or_delete.new.self
      c.leave_or_delete.result (c.leave_or_delete.ensures.swept dead then);
  lower = c.leave_or_delete.ensures.lower;
}
