-- The documents that the state of a lawful store lists are those of its history's snapshot.
use Rattle.std.proofs.Common.{subst}
use Rattle.disk_trait.specs.declared.device.Disk.{Ghosts as Disk}
use Rattle.core_state.specs.History.{History}
use Rattle.core_state.specs.Logged.{pin_now}
use Rattle.buffer_frames.proofs.FirstLogs.{shown_by}
use Rattle.engine.specs.Finding.{Name, IsInSnapshot}
use Rattle.engine.specs.Standing.{StandsFor}
use Rattle.engine.specs.Causes.{IsListed, IsListedIn}
use Rattle.engine.specs.Db.{DbValue, state_of, flushed_of, IsUp}
use Rattle.engine.proofs.Growing.{state_says}
use Rattle.engine.proofs.SnapshotNames.{listed_there, there_listed}

module _ {D : Type 0} (device : Disk D) (tells : device.tells) (found H : History) (s : DbValue D)
    (f : StandsFor device found s H) (up : IsUp s) where
  pub listed_is_there : (n : Name) → IsListed s n → IsInSnapshot H (flushed_of s) n
  listed_is_there n l =
      let legal = f.begins.log_of.legal in
      let shown = shown_by f.log legal.valid in
      listed_there f.log shown.0 H (state_of s) (pin_now (flushed_of s) f.log) legal shown.1 f.begins.log_of.history
      (state_says device found H s f) (f.stands.pins tells up legal).now n l

  pub there_is_listed : (n : Name) → IsInSnapshot H (flushed_of s) n → IsListed s n
  there_is_listed n there =
      let legal = f.begins.log_of.legal in
      let shown = shown_by f.log legal.valid in
      subst (IsListedIn (state_of s) (flushed_of s)) there.2
      (there_listed f.log shown.0 H (state_of s) (pin_now (flushed_of s) f.log) legal shown.1 f.begins.log_of.history
      (state_says device found H s f) (f.stands.pins tells up legal).now there.0 there.1)
