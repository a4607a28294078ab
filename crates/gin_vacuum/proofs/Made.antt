-- A step that was made, if any was, is logged on pages that are held.
use Rattle.std.proofs.Common.{◌≡◌, Result, Ok, Err, List, sym, subst}
use Rattle.std.specs.Prelude.{IfOk, OnOk}
use Rattle.std.specs.declared.alloc.AllocError.{AllocError}
use Rattle.disk_trait.specs.declared.device.Disk.{Ghosts as Disk}
use Rattle.core_state.specs.Allowed.{Sheet, Step}
use Rattle.buffer_frames.specs.Frames.{FramesValue}
use Rattle.buffer_frames.specs.declared.pass.Pass.{Pass}
use Rattle.gin_vacuum.specs.Inner.Logging.{MayLogStep, MayLogMade, LogsStep, LogsMade}

-- what holds of an answer
pub in_ok : {T E : Type 0} (r : Result T E) (x : T) (P : T → Type 0) → r ≡ Ok x → IfOk r P → P x
in_ok r x P is p = subst (λ (a : Result _ _). IfOk a P) is p

pub on_made : {T E : Type 0} (r : Result T E) (x : T) (P : Type 0) → r ≡ Ok x → OnOk r P → P
on_made r x P is p = subst (λ (a : Result _ _). OnOk a P) is p

module _ {D : Type 0} (device : Disk D) (f : FramesValue D) (p : Pass) (held pages : List Sheet)
    (made : Result Step AllocError) (step : Step) (is : made ≡ Ok step) (all : pages ≡ held) where
  -- the pages are those that were put in one list
  pub may_made : MayLogMade device f p held made → MayLogStep device f p pages step
  may_made may = subst (λ (l : List Sheet). MayLogStep device f p l step) (sym all) (may.may step is)

  pub logs_made : {T E : Type 0} (r : Result T E) (h : FramesValue D) (q : Pass)
      → OnOk r (LogsStep device f p pages step h q) → OnOk r (LogsMade device f p held made h q)
  logs_made (Ok x) h q logs = record {
    step = step;
    made_is = is;
    logged = subst (λ (l : List Sheet). LogsStep device f p l step h q) all logs;
  }
  logs_made (Err e) h q logs = tt
