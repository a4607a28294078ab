-- The values of frames in a row, by their places.
use Rattle.std.specs.Prelude.{◌≡◌, ℕ, suc, ◌+◌, List, [], ◌∷◌, length, Option, Some, None}
use mathlib.Core.Option.{some}
use lib.ListN.{get_elem?}
use Rattle.core_state.specs.Log.{In}
use Rattle.latch_table.specs.declared.states.Note.{Note}
use Rattle.latch_bench.specs.declared.slots.Leaf.{Leaf}

-- the frame is noted, with this value
abbrev pub IsLent : List Note → ℕ → Leaf → Type 0
IsLent notes frame leaf =
    (note : Note) × In note notes × (note.frame ≡ frame) × (leaf.page ≡ note.page)
    × (note.bytes ≡ [])

-- how many places have a value
abbrev pub taken : List (Option Leaf) → ℕ
taken [] = 0
taken (None ∷ xs) = taken xs
taken (Some x ∷ xs) = suc (taken xs)

-- the values are those of frames from `base` on, which are all that are noted
pub record AreLent (notes : List Note) (base : ℕ) (leaves : List (Option Leaf)) : Type 0 where
  pub four : length leaves ≡ 4
  pub each : (k : ℕ) (x : Leaf) → get_elem? leaves k ≡ some (Some x) → IsLent notes (base + k) x
  pub many : length notes ≡ taken leaves
