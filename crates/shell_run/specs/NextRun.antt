-- That the next run goes on with what a run, or a crash in it, has left.
use Rattle.std.specs.Prelude.{◌≡◌, ◌⊎◌, ℕ, ◌<◌, ◌≤◌, List, [], ◌∷◌, length, get_or}
use Rattle.std.specs.List.{All}
use Rattle.disk_trait.specs.Files.{Files}
use Rattle.disk_trait.specs.declared.device.Disk.{Ghosts as Disk}
use Rattle.engine.specs.Opening.{IsNoStore}
use Rattle.engine.specs.Finding.{History, Begins}
use Rattle.shell_run.specs.Run.{Exchange, Counts, IsOkOfStore}
use Rattle.shell_run.specs.Crash.{OpensTo, StartedFrom, OpensAsBefore, IsKnownBy, Means}

-- files, of bytes, that open to a history are not refused as no store
abbrev pub OpensIsNoRefusal : Type 0
OpensIsNoRefusal =
    (files : Files) (H : History) → ((i : ℕ) → get_or files.log i 0 < 256) → OpensTo files H
    → IsNoStore files → ⊥

-- a run may start from a device whose files are empty, and of which a crash leaves empty files
module _ {D : Type 0} (device : Disk D) where
  abbrev pub EmptyMayStart : Type 0
  EmptyMayStart =
      (d : D) → device.seen d ≡ record { log = []; pages = [] }
      → ((c : Files) → device.image d (device.clock d) c → c ≡ record { log = []; pages = [] })
      → StartedFrom device d

-- an opening that was refused, over a device on entry and as it was left, and the moment of its stop
pub record Refused (E : Type 0) : Type 0 where
  pub entry : E
  pub last : E
  pub moment : ℕ

module _ {E : Type 0} (next : Disk E) where
  -- It began with files that were left, and a crash of its device left no others.
  pub record IsRefusedOver (left : Files → Type 0) (r : Refused E) : Type 0 where
    pub began : left (next.seen r.entry)
    pub images : (c : Files) → next.image r.entry (next.clock r.entry) c → left c
    pub as_before : StartedFrom next r.entry → OpensAsBefore next r.entry r.last
    pub within : (next.clock r.entry ≤ r.moment) × (r.moment ≤ next.clock r.last)

  -- these files are left after openings that were refused, one after another
  abbrev pub IsLeft : (Files → Type 0) → List (Refused E) → Files → Type 0
  IsLeft left [] c = left c
  IsLeft left (r ∷ rs) c = IsRefusedOver left r × IsLeft (next.image r.last r.moment) rs c

-- A run went from the device `old` to `new`, and at the moment m of it a stop left files. After any
-- number of openings that were refused another device, `entry`, has what is left.
module _ {D E : Type 0} (device : Disk D) (next : Disk E) where
  -- the next run may start from it, where a crash of it leaves no other files than that stop did
  abbrev pub NextMayStart : Type 0
  NextMayStart =
      (counts : Counts) (old new : D) (first commits : History) (exchanges : List Exchange) (m : ℕ)
      (between : List (Refused E)) (entry : E)
      → StartedFrom device old → Means device counts old new first commits exchanges
      → device.clock old ≤ m → m ≤ device.clock new
      → IsLeft next (device.image new m) between (next.seen entry)
      → ((c : Files) → next.image entry (next.clock entry) c
      → IsLeft next (device.image new m) between c)
      → StartedFrom next entry

  -- The history `found` with which the next run begins has each commit that a statement answered Ok
  -- by the moment m has made or seen. It is a beginning of the run's commits that goes on from
  -- `first`, but where the stop left what it could leave before the run.
  abbrev pub NextHasAll : Type 0
  NextHasAll =
      (counts counts' : Counts) (old new : D) (first commits : History) (exchanges : List Exchange) (m : ℕ)
      (between : List (Refused E)) (entry end : E) (found commits' : History) (exchanges' : List Exchange)
      → Means device counts old new first commits exchanges
      → Means next counts' entry end found commits' exchanges'
      → device.clock old ≤ m → m ≤ device.clock new
      → IsLeft next (device.image new m) between (next.seen entry)
      → All (λ (r : Exchange). IsOkOfStore r.reply → IsKnownBy m (length found) r) exchanges
      × ((Begins first found × Begins found commits)
      ⊎ IsLeft next (device.image old (device.clock old)) between (next.seen entry))
