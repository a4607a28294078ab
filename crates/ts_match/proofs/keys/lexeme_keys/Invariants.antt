use Rattle.std.proofs.Common.{◌≡◌, ℕ, Global, Vec, map, take}
use Rattle.ts_base.specs.Vectors.{Entry}
use Rattle.ts_base.specs.Keys.{lexeme_key}
use Rattle.ts_match.proofs.keys.lexeme_keys.Given as goal

abbrev pub invariant-loop-k : goal.invariant-loop-k
invariant-loop-k l =
    map (λ (key : Vec ℕ Global). key.items) l.keys.items ≡ map (λ (e : Entry). lexeme_key e.lexeme) (take l.k l.vector)
