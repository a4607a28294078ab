-- The pass keeps its right where the cleanup begins.
use Rattle.std.proofs.Common.{◌∙◌}
use Rattle.index_cases.proofs.Rights.{right_stays}
use Rattle.index_cases.proofs.cleaning.clean.Goals as goal

pub step_all-done-requires-clause-working : goal.step_all-done-requires-clause-working
step_all-done-requires-clause-working g c =
    let works = c.begin.ensures.reads.works in
    record {
      is_pass = works.is_pass;
      right = right_stays c.args.pass.now c.begin.new.pass c.requires.working.right works.work works.rises.seen;
      none = c.begin.ensures.none_held;
      room_is = works.room ∙ c.requires.working.room_is;
    }

pub step_all-done-requires-clause-cleaning : goal.step_all-done-requires-clause-cleaning
step_all-done-requires-clause-cleaning g c = (c.in_ok-cleanup.ensures.cleaning.0, c.in_ok-cleanup.ensures.cleaning.2)
