-- The rule of the table: what holds between any two steps, however threads fall.
use Rattle.std.specs.Prelude.{◌≡◌, ℕ}
use mathlib.Core.Option.{some}
use lib.ListN.{get_elem?}
use Rattle.atomic_table.specs.Table.{State}
use Rattle.latch_table.specs.declared.slots.Framed.{Ghosts as Framed}
use Rattle.latch_table.specs.declared.slots.Journaled.{Ghosts as Journaled}
use Rattle.latch_table.specs.declared.slots.Slot.{Slot}
use Rattle.latch_table.specs.declared.states.PassState.{PassState}
use Rattle.latch_table.specs.Shapes.{Shape}
use Rattle.latch_table.specs.Lines.{Words, Homes, IsStore, ArePlaced, ArePinned, AreNoted, AddUp, Knows}

module _ {F J : Type 0} (frame : Framed F) (journal : Journaled J) where
  -- `start` is the journal at the opening
  pub record Kept (start : J) (s : State (Slot F J) (PassState J)) : Type 0 where
    pub shape : Shape J
    pub words : Words shape s
    pub homes : Homes frame journal start shape s
    pub noted : AreNoted shape s.views
    pub store : IsStore journal start shape
    pub placed : ArePlaced journal shape
    pub pinned : ArePinned journal start shape s.views
    pub sums : AddUp journal start shape s.views
    pub knows : (j : ℕ) (v : PassState J) → get_elem? s.views j ≡ some v
        → Knows journal start shape j v
