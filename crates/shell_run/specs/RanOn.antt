-- A run over a device, and what the device counted in it.
use Rattle.std.specs.Prelude.{◌≡◌, ◌+◌, ◌≤◌, List, [], ◌∷◌, take, IfSome}
use Rattle.disk_trait.specs.declared.device.Disk.{Ghosts as Disk}
use Rattle.engine.specs.Db.{DbValue, disk_of, IsUp}
use Rattle.engine.specs.Finding.{History}
use Rattle.engine.specs.Opened.{Settings, HasLimitsOf}
use Rattle.engine.specs.Standing.{StandsFor}
use Rattle.shell_run.specs.Run.{Exchange, Counts, Run, AreTimed, AreNoted, IsOkOfStore}
use Rattle.shell_run.specs.Caused.{AreCaused}
use Rattle.shell_run.specs.Crash.{StartedFrom, Means}

-- of a device on entry, just after the opening, and at the end
abbrev pub counts_over : {D : Type 0} → Disk D → D → D → D → Counts
counts_over device first opened new = record {
  faults = device.fault_count first;
  faults_opened = device.fault_count opened;
  faults_after = device.fault_count new;
  writes = device.write_fault_count first;
  writes_after = device.write_fault_count new;
}

module _ {D : Type 0} (device : Disk D) (history commits : History) where
  -- The store as a statement found it stands for the commits that it saw; where it answered Ok, its commit
  -- is there too as it left it.
  pub record IsSeenIn (exchange : Exchange) (before after : DbValue D) : Type 0 where
    pub saw : StandsFor device history before (take exchange.note.snapshot commits)
    pub stored : IsOkOfStore exchange.reply → IfSome exchange.note.commit
        (λ p. StandsFor device history after (take (p + 1) commits))

  -- so it is with each statement of a chain
  abbrev pub AreSeenIn : (exchanges : List Exchange) (old new : DbValue D)
      → AreCaused device exchanges old new → Type 0
  AreSeenIn [] old new chain = Unit {0}
  AreSeenIn (x ∷ xs) old new chain = IsSeenIn x old chain.0 × AreSeenIn xs chain.0 new chain.3

  -- The run of a lawful device that had this history, and has these commits at its end.
  pub record IsLawfulRun (counts : Counts) (first new : D) (exchanges : List Exchange) (opened last : DbValue D)
      (chain : AreCaused device exchanges opened last) : Type 0 where
    pub run : Run counts history commits exchanges
    pub stood_for : StandsFor device history opened history
    pub seen : AreSeenIn exchanges opened last chain
    pub stands_for : StandsFor device history last commits
    pub means : Means device counts first new history commits exchanges

-- The exchanges of a run over a store, from a device on entry to one at its end. What isn't told, or may be
-- no store of a run, has still its refusals' causes, its clocks and its counts.
pub record RanOn {D : Type 0} (device : Disk D) (settings : Settings) (first new : D)
    (exchanges : List Exchange) : Type 0 where
  -- the store just after the opening, and as the last statement left it, whose closing gives the device
  pub opened : DbValue D
  pub last : DbValue D
  pub closed : new ≡ disk_of last
  pub up : IsUp opened
  pub limits : HasLimitsOf settings opened
  -- on every device
  pub began : device.clock first ≤ device.clock (disk_of opened)
  pub caused : AreCaused device exchanges opened last
  pub timed : AreTimed (device.clock (disk_of opened)) (device.clock new) exchanges
  pub noted : AreNoted (counts_over device first (disk_of opened) new) exchanges
  -- of a device from which a run may start
  pub lawful : device.tells → StartedFrom device first → (history : History) × (commits : History)
      × IsLawfulRun device history commits (counts_over device first (disk_of opened) new) first new exchanges
      opened last caused
