use Rattle.gin_vacuum.proofs.DeleteMade.{delete_made}
use Rattle.gin_vacuum.proofs.deleting.delete_step.Goals as goal

pub returns : goal.returns
returns c = record {
  step = delete_made c.args.empty c.args.around.now c.args.without c.new-step.result c.leave_leaves.new.step
      c.leave.new.step c.new-step.ensures c.in-Ok.ensures.left c.in_ok-leave.ensures.left
      c.leave_leaves.ensures.gone c.requires.fits c.in-Ok.ensures.is_page c.leave_leaves.ensures.low
      c.in-Ok.ensures.before_low c.leave.ensures.low;
}
