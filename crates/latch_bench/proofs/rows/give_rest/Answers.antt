use Rattle.std.proofs.Common.{arith, ap, ◌∙◌}
use mathlib.Core.Logic.{dite}
use native.Mathlib.Decide.{ℕ_discrete}
use lib.ListN.{get_elem?}
use Rattle.latch_bench.proofs.Lending.{none_lent}
use Rattle.latch_bench.proofs.rows.give_rest.Goals as goal

pub loop-place-preserved : goal.loop-place-preserved
loop-place-preserved c =
    let now = c.loop-place.invariant in
    let gave = c.give_at.ensures in (
      gave.holding,
      gave.lent,
      gave.room ∙ now.2,
      λ k lt. dite (ℕ_discrete k c.loop-place.place) (λ e. ap (get_elem? c.give_at.new.row) e ∙ gave.here)
          (λ ne. gave.others k ne ∙ now.3 k (omega arith)),
    )

pub returns-clause-free : goal.returns-clause-free
returns-clause-free c =
    let now = c.loop-place.invariant in record {
      of_table = now.0.of_table;
      idle = record {
        frames = none_lent _ _ _ now.1 (λ k lt. now.3 k (omega arith));
        journal_is = now.0.journal_is;
        work = now.0.work;
        pin = now.0.pin;
      };
    }
