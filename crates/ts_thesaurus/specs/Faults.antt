-- Why lines are refused. Want of memory needs no cause.
use Rattle.std.specs.Prelude.{ℕ, List}
use Rattle.ts_base.specs.Dictionary.{WordAnswer}
use Rattle.ts_base.specs.declared.line_error.LineError.{LineError}
use Rattle.ts_base.specs.declared.line_error.LineError.TheVariants.{Bad, StopInSample, UnknownInSample, Memory}
use Rattle.ts_base.specs.declared.line_error.LinesError.{LinesError}
use Rattle.ts_base.specs.declared.line_error.LinesError.TheVariants.{BadLine, SampleStop, SampleUnknown, OutOfMemory}
use Rattle.ts_thesaurus.specs.Lines.{IsBadLine, HasStopSample, HasUnknownSample, IsFirstFault}

-- why a line is refused
abbrev pub IsFault : (List ℕ → WordAnswer) → List ℕ → LineError → Type 0
IsFault answer line Bad = IsBadLine answer line
IsFault answer line StopInSample = HasStopSample answer line
IsFault answer line UnknownInSample = HasUnknownSample answer line
IsFault answer line Memory = Unit {0}

-- why a text of lines is refused
abbrev pub IsRefusal : (List ℕ → WordAnswer) → List (List ℕ) → LinesError → Type 0
IsRefusal answer lines (BadLine n) = IsFirstFault answer (IsBadLine answer) lines n
IsRefusal answer lines (SampleStop n) = IsFirstFault answer (HasStopSample answer) lines n
IsRefusal answer lines (SampleUnknown n) = IsFirstFault answer (HasUnknownSample answer) lines n
IsRefusal answer lines OutOfMemory = Unit {0}
