-- A page is held, or the number is no page's.
use Rattle.std.proofs.Common.{refl, []}
use Rattle.buffer_frames.proofs.AtHand.{none_held}
use Rattle.gin_scan.specs.Causes.{CannotUse}
use Rattle.gin_scan.proofs.PinCalls.{keeps_work}
use Rattle.gin_scan.proofs.ReadCalls.{still_reads, still_calm, calm_cause, hold_once, adds_once, hold_told}
use Rattle.gin_scan.proofs.ReadCalls.{hold_refused, hold_why, one_more}
use Rattle.gin_scan.proofs.scan_core.hold_page.Goals as goal

pub returns-then-page-ge-PAGE_LIMIT : goal.returns-then-page-ge-PAGE_LIMIT
returns-then-page-ge-PAGE_LIMIT g c = record {
  held = tt;
  fault = calm_cause g.D.Disk _ _ _ (still_calm g.D.Disk _) (λ e. let z : ⊥ = cc in z);
  refused = still_reads g.D.Disk c.args.frames.now c.args.pass.now c.requires.pass c.requires.none;
  cause = (refl, CannotUse.past c.if-page-ge-PAGE_LIMIT.true);
}

pub returns : goal.returns
returns g c =
    let a = c.args.frames.now in
    let b = c.hold.new.self in
    let p = c.args.pass.now in
    let q = c.hold.new.pass in
    let e = c.hold.ensures in
    let none = none_held g.D.Disk a p c.requires.pass c.requires.none in
    let adds =
    adds_once g.D.Disk a b (hold_once g.D.Disk a b c.hold.result e.added e.state e.runs_on e.begins e.cause e.pins) in
    let keeps = keeps_work p q e.same.2 e.same.1 e.right.0 e.rises in record {
      held = hold_told g.D.Disk a b p q c.args.page c.hold.result e.pass e.number e.holds e.lies e.others
          (e.holding [] none) adds keeps e.same.0 e.pins e.cause;
      fault = e.cause;
      refused = hold_refused g.D.Disk a b p q c.hold.result e.pass c.requires.none adds keeps e.same.0 e.pins e.held
          e.unmoved (one_more g.D.Disk p.holds q.holds c.hold.result e.holds e.holds_still);
      cause = hold_why g.D.Disk a c.args.page c.hold.result e.is_down e.bad;
    }
