use Rattle.std.proofs.Common.{ℕ, take, drop}
use Rattle.ts_vector.specs.Text.{FirstLong, AllShort}
use Rattle.ts_vector.proofs.written_lexemes.WrittenLexemes.first_long.Given as goal

abbrev pub invariant-loop-k : goal.invariant-loop-k
invariant-loop-k l = record {
  fit : AllShort (take l.k l.self);
  first : (n : ℕ) → FirstLong (drop l.k l.self) n → FirstLong l.self n;
}
