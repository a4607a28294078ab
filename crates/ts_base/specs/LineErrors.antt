-- Why a dictionary refuses a line, or lines. Want of memory needs no cause.
use Rattle.std.specs.Prelude.{ℕ, List}
use Rattle.ts_base.specs.FirstLine.{IsFirstLine}
use Rattle.ts_base.specs.declared.line_error.LineError.{LineError}
use Rattle.ts_base.specs.declared.line_error.LineError.TheVariants.{Bad, StopInSample, UnknownInSample, Memory}
use Rattle.ts_base.specs.declared.line_error.LinesError.{LinesError}
use Rattle.ts_base.specs.declared.line_error.LinesError.TheVariants.{BadLine, SampleStop, SampleUnknown, OutOfMemory}

-- the error of lines whose line of this number is refused for this
abbrev pub error_at : LineError → ℕ → LinesError
error_at Bad n = BadLine n
error_at StopInSample n = SampleStop n
error_at UnknownInSample n = SampleUnknown n
error_at Memory n = OutOfMemory

-- why a line is refused that can only be bad
abbrev pub IsBadFault : (List ℕ → Type 0) → List ℕ → LineError → Type 0
IsBadFault IsBad line Bad = IsBad line
IsBadFault IsBad line StopInSample = ⊥
IsBadFault IsBad line UnknownInSample = ⊥
IsBadFault IsBad line Memory = Unit {0}

-- why lines are refused that can only be bad: the first bad one counts
abbrev pub IsBadRefusal : (List ℕ → Type 0) → List (List ℕ) → LinesError → Type 0
IsBadRefusal IsBad lines (BadLine n) = IsFirstLine IsBad lines n
IsBadRefusal IsBad lines (SampleStop n) = ⊥
IsBadRefusal IsBad lines (SampleUnknown n) = ⊥
IsBadRefusal IsBad lines OutOfMemory = Unit {0}
