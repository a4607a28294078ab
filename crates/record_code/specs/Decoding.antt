-- What decoding answers.
use Rattle.std.specs.Prelude.{◌≡◌, ℕ, Result, Ok, Err, ⊤}
use Rattle.page_types.specs.declared.record.Record.{Record}
use Rattle.record_code.specs.declared.error.RecordError.{RecordError}
use Rattle.record_code.specs.declared.error.RecordError.TheVariants.{BadRecord, OutOfMemory}

-- the record and its length, or the place of the fault, unless memory runs out
abbrev pub Answers : Result (Record × ℕ) RecordError → Result (Record × ℕ) ℕ → Type 0
Answers (Ok x) read = read ≡ Ok x
Answers (Err (BadRecord at)) read = read ≡ Err at
Answers (Err OutOfMemory) read = ⊤
