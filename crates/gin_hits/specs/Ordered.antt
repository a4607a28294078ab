-- The order of the keys that a query asks for.
use Rattle.std.specs.Prelude.{◌≡◌, ◌⊎◌, ◌↔◌, ℕ, Bool, true, false, List, [], map, get_or, Vec}
use Rattle.std.specs.List.{AllPairs}
use Rattle.std.specs.declared.alloc.Global.{Global}
use Rattle.page_types.specs.Keys.{KeyLess}
use Rattle.core_state.specs.Log.{In}
use Rattle.gin_opclass.specs.Class.{Asked}
use Rattle.gin_hits.specs.Rows.{asked_by, asked_for}

-- the key with this number, no bytes where there is none
abbrev pub asked_at : List (Vec ℕ Global × Bool) → ℕ → Asked
asked_at keys k = get_or (map asked_by keys) k (asked_for [] false)

-- in key order, a key before its prefix twin
abbrev pub AskedLess : Asked → Asked → Type 0
AskedLess a b = KeyLess a.key b.key ⊎ ((a.key ≡ b.key) × (a.prefix ≡ false) × (b.prefix ≡ true))

-- the keys that are asked, each once, in their order
pub record AreOrdered (asked order : List Asked) : Type 0 where
  pub rising : AllPairs AskedLess order
  pub just : (a : Asked) → In a order ↔ In a asked
