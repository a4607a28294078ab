-- What a step does to the documents and to the text on its way.
use Rattle.std.specs.Prelude.{◌≡◌, ◌≢◌, ◌⊎◌, ◌<◌, ◌≤◌, ℕ, List, [], ◌++◌, length, Bool, true, false, ◌||◌}
use Rattle.std.specs.Prelude.{Option, Result, IfOk, is_ok}
use Rattle.disk_trait.specs.declared.device.Disk.{Ghosts as Disk}
use Rattle.shell_script.specs.Grammar.{Statement}
use Rattle.shell_script.specs.Steps.{Step}
use Rattle.shell_script.specs.Says.{Says, line_of}
use Rattle.shell_script.specs.Replies.{Reply}
use Rattle.shell_script.specs.Texts.{said}
use Rattle.shell_run.specs.Inner.Sending.{Sends}
use Rattle.shell_run.specs.Inner.Answering.{HasAnswered}
use Rattle.shell_run.specs.Defining.{Becomes}
use Rattle.shell_run.specs.Outcomes.{HasPrinted, is_refusal, some_refused}
use Rattle.engine.specs.Answers.{Pass}
use Rattle.shell_run.specs.Crash.{HasSamePages}
use Rattle.engine.specs.Db.{DbValue}
use Rattle.shell_run.specs.Run.{Exchange}
use Rattle.shell_run.specs.declared.sending.TheConstants.{PIECE_BYTES}
use Rattle.shell_run.specs.RanOn.{RanOn}
use Rattle.shell_run.specs.RunMeets.{HasCauses, HasNotRun, HasRun}
use Rattle.engine.specs.Opened.{Settings, OpenedAt}
use Rattle.disk_trait.specs.declared.stream.Sink.{Ghosts as Sink}
use Rattle.shell_run.specs.declared.serving.RunState.{RunState}

-- what a step says is answered, and what is defined then
pub record HasTurned {D : Type 0} (device : Disk D) (step : Step) (old new : RunState D)
    (session : ℕ) (reply : Reply) : Type 0 where
  pub statement : Statement
  pub says : Says step session statement
  pub answered : HasAnswered device old.store new.store old.pass new.pass old.configs (line_of step).number
      statement reply
  pub becomes : Becomes old.configs statement reply new.configs

-- the step was answered, and its reply's text is on its way
pub record Served {D : Type 0} (device : Disk D) (step : Step) (old new : RunState D)
    (before after : Option (List ℕ)) (well : Bool) : Type 0 where
  pub session : ℕ
  pub reply : Reply
  pub turned : HasTurned device step old new session reply
  pub text : Sends before after (old.waiting.items ++ said session reply) new.waiting.items well
  pub few : well ≡ true → length new.waiting.items < PIECE_BYTES
  pub flag : new.refused ≡ (old.refused || is_refusal reply)

-- nothing was done, since memory ran out
pub record Passed {D : Type 0} (old new : RunState D) (before after : Option (List ℕ))
    (well : Bool) : Type 0 where
  pub short : well ≡ false
  pub same : (new.store ≡ old.store) × (new.pass ≡ old.pass) × (new.configs ≡ old.configs)
      × (new.refused ≡ old.refused)
  pub text : Sends before after old.waiting.items new.waiting.items well

-- The exchanges are those of a first part of the steps. Where this went well, they are those of all, and
-- the sink took all of their text.
pub record Ran (text : List ℕ) (before after : Option (List ℕ)) (exchanges : List Exchange)
    (well : Bool) : Type 0 where
  pub so_far : HasPrinted text before after exchanges
  pub whole : well ≡ true → (so_far.left ≡ []) × (so_far.unsent ≡ [])

-- The steps of a text were run over a store just after its opening; the device is as it is left.
pub record HasRunSteps {D E : Type 0} (device : Disk D) (text : List ℕ) (before after : Option (List ℕ))
    (opened : DbValue D) (pass : Pass) (disk : D) (result : Result Bool E) : Type 0 where
  pub exchanges : List Exchange
  pub ran : Ran text before after exchanges (is_ok result)
  pub flag : IfOk result (λ refused. refused ≡ some_refused exchanges)
  pub over : (settings : Settings) (first : D) (c0 : ℕ) → OpenedAt device settings first c0 opened pass
      → RanOn device settings first disk exchanges × (device.tells → HasSamePages device first disk)

-- What a text is answered, where the words are right and the text is a whole script.
pub record ServeMeets {K D : Type 0} (sink : Sink K) (device : Disk D) (settings : Settings) (text : List ℕ)
    (status : ℕ) (out out' : K) (disk disk' : D) : Type 0 where
  pub range : (status ≤ 7) × (status ≢ 2) × (status ≢ 6)
  pub causes : HasCauses sink device status out out' disk disk'
  pub headline : HasNotRun sink device status out out' disk disk'
      ⊎ HasRun sink device settings text status out out' disk disk'
