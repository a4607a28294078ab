-- What the pages of a legal log say of each other.
use Rattle.core_state.specs.Log.{commits}
use Rattle.std.specs.Prelude.{length}
use Rattle.core_state.specs.PagesTold.{PagesHold}
use Rattle.core_state.proofs.Law.Steps.{StepHolds}
use Rattle.core_state.proofs.Law.Runs.{plain_run}
use Rattle.core_state.proofs.Law.RowsIndexed.{rows_indexed}
use Rattle.core_state.proofs.Law.ListStands.{list_stands}
use Rattle.core_state.proofs.Law.KindsStand.{kinds_stand}
use Rattle.core_state.proofs.Law.BoundsStand.{bounds_stand}
use Rattle.core_state.proofs.Law.StampsStand.{stamps_stand}

pub pages_hold : StepHolds → PagesHold
pages_hold step R P legal shown =
    let h = plain_run step R legal.valid P shown in
    record {
      list = list_stands (commits R) (length R) R P h.0 h.1 (rows_indexed step R legal.valid P shown);
      kinds = kinds_stand (commits R) (length R) R P h.0 h.1 legal.valid shown;
      bounds = bounds_stand (commits R) (length R) R P h.0 h.1 shown;
      stamps = stamps_stand R P legal.valid shown;
    }
