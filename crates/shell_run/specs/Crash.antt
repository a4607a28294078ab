-- What a stop of the device leaves of a run.
use Rattle.std.specs.Prelude.{◌≡◌, ℕ, ◌<◌, ◌≤◌, List, ◌++◌, length}
use Rattle.std.specs.Prelude.{IfSome}
use Rattle.std.specs.List.{All}
use Rattle.disk_trait.specs.Files.{Files}
use Rattle.disk_trait.specs.declared.device.Disk.{Ghosts as Disk}
use Rattle.engine.specs.Finding.{History, Begins}
pub use Rattle.engine.specs.Opening.{OpensTo, StartedFrom, OpensAsBefore, HasSamePages}
use Rattle.shell_run.specs.Run.{Exchange, Counts, Before, IsOkOfStore}

-- at a moment not before its answer, what the statement saw and what it committed are there
abbrev pub IsKnownBy : ℕ → ℕ → Exchange → Type 0
IsKnownBy m reached exchange = exchange.note.clock ≤ m
    → (exchange.note.snapshot ≤ reached) × IfSome exchange.note.commit (λ p. p < reached)

-- by this moment each statement was answered that ended before one whose commit is among so many
abbrev pub AreAnsweredBy : ℕ → ℕ → List Exchange → Type 0
AreAnsweredBy m reached exchanges =
    All (λ (b : Exchange). IfSome b.note.commit (λ p. p < reached
    → All (λ (a : Exchange). Before a b → a.note.clock ≤ m) exchanges)) exchanges

-- these files open to a beginning of the commits that reaches what each statement answered Ok by
-- this moment has committed or seen, and has no commit of one that began after this moment
pub record Reaches (files : Files) (m : ℕ) (first commits : History)
    (exchanges : List Exchange) : Type 0 where
  pub kept : History
  pub opens : OpensTo files kept
  pub begins : Begins kept commits
  pub since : Begins first kept
  pub known : All (λ (r : Exchange). IsOkOfStore r.reply → IsKnownBy m (length kept) r) exchanges
  pub answered : AreAnsweredBy m (length kept) exchanges

-- The images of a device over a run: before c0 those of its entry, and from then on beginnings of
-- the history.
pub record CrashSafe {D : Type 0} (device : Disk D) (old new : D) (first commits : History)
    (exchanges : List Exchange) : Type 0 where
  pub c0 : ℕ
  pub began : (device.clock old ≤ c0) × (c0 ≤ device.clock new)
  pub clocks : All (λ (r : Exchange). IsOkOfStore r.reply
      → (c0 ≤ r.note.clock) × (r.note.clock ≤ device.clock new)) exchanges
  pub early : (m : ℕ) (c : Files) → device.clock old ≤ m → m < c0 → device.image new m c
      → device.image old (device.clock old) c
  pub late : (m : ℕ) (c : Files) → c0 ≤ m → m ≤ device.clock new → device.image new m c
      → Reaches c m first commits exchanges
  -- until pages are written to the page file
  pub pages : (m : ℕ) (c : Files) → c0 ≤ m → m ≤ device.clock new → device.image new m c
      → c.pages ≡ (device.seen old).pages

-- Of a device that says what it holds, and from which a run may start. `more` are the commits that
-- a fault left in doubt, of statements that say so.
pub record Means {D : Type 0} (device : Disk D) (counts : Counts) (old new : D)
    (first commits : History) (exchanges : List Exchange) : Type 0 where
  pub is_first : OpensTo (device.seen old) first
  pub last : History
  pub more : History
  pub all : last ++ more ≡ commits
  pub is_last : OpensTo (device.seen new) last
  pub in_doubt : 0 < length more → counts.faults < counts.faults_after
  pub crash : CrashSafe device old new first commits exchanges
