-- What stays of items of dead documents while others log.
use Rattle.core_state.specs.Log.{Log, Pages}
use Rattle.core_state.specs.Steady.{EndsStay, IndexStays}
use Rattle.core_state.proofs.LawsHold.{steady}
use Rattle.core_state.proofs.Steps.Seen.{steady_facts}
use Rattle.core_maintenance.proofs.Right.{index_stays}
use Rattle.core_vacuum.specs.Staying.{OutStays, OutHolds, RightKeepsOut}
use Rattle.core_vacuum.proofs.Out.{leave_kept, swept_kept}

out_stays : (R R' : Log) (P Q : Pages) → IndexStays R R' P Q → EndsStay R R' → OutStays R R' P Q
out_stays R R' P Q stay ends = record {
  leave = leave_kept R R' P Q stay ends;
  swept = swept_kept R R' P Q stay;
  out = λ floor i o. record {
    may = leave_kept R R' P Q stay ends floor i o.may;
    swept = swept_kept R R' P Q stay i o.swept;
  };
}

pub out_holds : OutHolds
out_holds R later R' P Q on some legal legal' shown shown' quiet =
    let facts = steady R later R' P Q on some legal legal' shown shown' in
    out_stays R R' P Q (facts.index_stays quiet) facts.ends_stay

pub right_keeps_out : RightKeepsOut
right_keeps_out v R a P h shown =
    out_stays v.seen R P a.pages (index_stays v R a P shown h)
    (steady_facts v R a P shown h.started).ends_stay
