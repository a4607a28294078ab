use Rattle.std.proofs.Common.{◌≡◌, ℕ, Bool, Global, Vec, map, take}
use Rattle.std.specs.Prelude.{All}
use Rattle.ts_base.specs.Keys.{IsKey}
use Rattle.gin_opclass.specs.Class.{Asked}
use Rattle.ts_match.specs.Class.{asked_by}
use Rattle.ts_match.proofs.keys.operand_keys.Given as goal

abbrev pub seen : Vec ℕ Global × Bool → Asked
seen key = record { key = key.0.items; prefix = key.1 }

abbrev pub HasKey : Vec ℕ Global × Bool → Type 0
HasKey key = IsKey key.0.items

pub record SoFar (l : goal.Live-loop-operand) : Type 0 where
  pub keys : map seen l.keys.items ≡ map asked_by (take l.operand-index l.operands)
  pub valid : All HasKey l.keys.items

abbrev pub invariant-loop-operand : goal.invariant-loop-operand
invariant-loop-operand l = SoFar l
