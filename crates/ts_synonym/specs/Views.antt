-- What is kept in memory, as contracts see it.
use Rattle.std.specs.Prelude.{ℕ, List, String, string_bytes}
use Rattle.std.specs.declared.alloc.Global.{Global}
use Rattle.ts_base.specs.declared.Found.{Found}

-- a word's bytes, and what stands for it
abbrev pub pair : String Global × Found → List ℕ × Found
pair entry = (string_bytes entry.0, entry.1)
