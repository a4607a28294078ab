-- The contract of a run, by what its source, its sink and its device say.
use Rattle.std.specs.Prelude.{◌≡◌, ◌≢◌, ◌⊎◌, ◌↔◌, ℕ, ◌<◌, ◌≤◌, List, length, IfSome, String}
use Rattle.std.specs.Io.KnownBytes.{IsAtEnd}
use Rattle.std.specs.declared.alloc.Global.{Global}
use Rattle.disk_trait.specs.Device.{Rose}
use Rattle.disk_trait.specs.declared.device.Disk.{Ghosts as Disk}
use Rattle.disk_trait.specs.declared.stream.Source.{Ghosts as Source}
use Rattle.disk_trait.specs.declared.stream.Sink.{Ghosts as Sink}
use Rattle.shell_run.specs.HasRead.{HasRead}
use Rattle.engine.specs.Opened.{Settings}
use Rattle.shell_script.specs.declared.command_words.Options.{Options}
use Rattle.shell_run.specs.Words.{IsForm, IsEnding, settings_for}
use Rattle.shell_run.specs.Outcomes.{NotRun, Answered}
use Rattle.shell_run.specs.Run.{Exchange}
use Rattle.shell_run.specs.Crash.{StartedFrom, OpensAsBefore, HasSamePages}
use Rattle.engine.specs.Opening.{IsOnlyRead, IsNoStore, IsUnmade}
use Rattle.shell_run.specs.RanOn.{RanOn}
use Rattle.shell_run.specs.declared.script.TheConstants.{SCRIPT_LIMIT}
use Rattle.shell_run.specs.declared.top.Outcome.{Outcome}

module _ {K D : Type 0} (sink : Sink K) (device : Disk D) where
  -- The causes of the statuses 3, 4 and 7.
  pub record HasCauses (status : ℕ) (out out' : K) (disk disk' : D) : Type 0 where
    -- 4: the files are no store
    pub status_4 : device.tells → status ≡ 4 → IsNoStore (device.seen disk)
    pub no_store : device.tells → IsNoStore (device.seen disk)
        → (status ≢ 0) × (status ≢ 1) × (status ≢ 7)
    pub keeps_4 : status ≡ 4 → IsOnlyRead device disk disk'
    -- files that are no store are only read, whatever the status
    pub keeps_no_store : device.tells → IsNoStore (device.seen disk) → IsOnlyRead device disk disk'
    -- 7: the sink failed
    pub status_7 : status ≡ 7 → Rose (sink.fault_count out) (sink.fault_count out')
    -- 3: the device failed
    pub status_3 : IsEnding status
        → ((status ≡ 3) ↔ Rose (device.fault_count disk) (device.fault_count disk'))
    -- whatever the status
    pub pages : device.tells → HasSamePages device disk disk'

  -- Nothing was run: the store was not opened, or that was not tried.
  pub record HasNotRun (status : ℕ) (out out' : K) (disk disk' : D) : Type 0 where
    pub nothing : NotRun status (sink.taken out) (sink.taken out')
    pub as_before : device.tells → StartedFrom device disk → OpensAsBefore device disk disk'
    -- only the files of a store whose making was not begun, or was cut short, may be written to
    pub only_read : device.tells → (IsUnmade (device.seen disk) → ⊥) → IsOnlyRead device disk disk'
    -- where memory ran out, no write and no sync had failed
    pub memory : status ≡ 5 → device.write_fault_count disk' ≡ device.write_fault_count disk

  -- The text's statements were run, over a store with these settings.
  pub record HasRun (settings : Settings) (text : List ℕ) (status : ℕ) (out out' : K) (disk disk' : D) : Type 0 where
    pub a_store : device.tells → IsNoStore (device.seen disk) → ⊥
    pub exchanges : List Exchange
    pub answered : Answered text status (sink.taken out) (sink.taken out') exchanges
    pub ran : RanOn device settings disk disk' exchanges

module _ {S K D : Type 0} (source : Source S) (sink : Sink K) (device : Disk D) where
  -- Nothing was run, or a script was read to its end and answered, with the options that the words set.
  abbrev pub Headline : List (String Global) → S → K → D → Outcome S K D → Type 0
  Headline words script out disk r =
      HasNotRun sink device r.status out r.out disk r.store
      ⊎ ((options : Options) × (text : List ℕ) × IsForm words options
      × HasRead (source.left script) (source.left r.script) text × IsAtEnd (source.left r.script)
      × HasRun sink device (settings_for options) text r.status out r.out disk r.store)

  -- What a run over a script, a sink and a device leaves, whatever the words.
  pub record RunMeets (words : List (String Global)) (script : S) (out : K) (disk : D)
      (r : Outcome S K D) : Type 0 where
    pub range : r.status ≤ 8
    -- 2: the words are of no form, and nothing was done
    pub status_2 : (r.status ≡ 2) ↔ ((options : Options) → IsForm words options → ⊥)
    pub nothing_2 : r.status ≡ 2 → (r.script ≡ script) × (r.out ≡ out) × (r.store ≡ disk)
    -- 6 and 8: the source failed, or has too many bytes, and nothing was run
    pub status_6 : r.status ≡ 6 → Rose (source.fault_count script) (source.fault_count r.script)
    pub status_8 : r.status ≡ 8 → IfSome (source.left script) (λ bytes. SCRIPT_LIMIT < length bytes)
    pub too_long : r.status ≢ 2 → r.status ≢ 5 → r.status ≢ 6
        → IfSome (source.left script) (λ bytes. SCRIPT_LIMIT < length bytes → r.status ≡ 8)
    pub nothing_run : (r.status ≡ 6) ⊎ (r.status ≡ 8) → (r.out ≡ out) × (r.store ≡ disk)
    pub causes : HasCauses sink device r.status out r.out disk r.store
    -- the script is read to its end before the device is called
    pub read : ((r.status ≢ 2) × (r.status ≢ 5) × (r.status ≢ 6) × (r.status ≢ 8))
        ⊎ (device.clock disk < device.clock r.store) → IsAtEnd (source.left r.script)
    pub headline : Headline words script out disk r
