-- What holds in every legal log, from the step over one record.
use Rattle.core_state.specs.Bullets.{BulletsHold}
use Rattle.core_state.proofs.Law.Steps.{StepHolds}
use Rattle.core_state.proofs.Law.SteadyLogs.{all_owned, all_indexed, indexed_under, deleted_stays_under}
use Rattle.core_state.proofs.Law.TreeRuns.{trees_hold, deleted_lead}

pub bullets_hold_by : StepHolds → BulletsHold
bullets_hold_by step R P legal shown =
    let trees = trees_hold step R legal.valid P shown in
    record {
      owned = all_owned step R P legal shown;
      indexed = all_indexed step R P legal shown;
      indexed_under = indexed_under step R P legal shown;
      named = trees.named;
      bounded = trees.bounded;
      lead = trees.lead;
      deleted_lead = λ pin keeps. deleted_lead step pin R keeps.each keeps.within P shown;
      one_place = trees.one_place;
      deleted_stays = deleted_stays_under step R P legal shown;
    }
