-- What one slot becomes that is made free.
use Rattle.std.specs.Prelude.{◌≡◌, ℕ, List, Option, Some, None, slice_set, Bool, true, false}
use Rattle.page_types.specs.Views.{slot_at}
use Rattle.page_types.specs.declared.page.Head.{Head}
use Rattle.core_state.specs.Documents.{slot_of}

-- the slot of an item was used and becomes free, or was free and stays so
pub data FreesOne (item : ℕ) (slots new : List (Option Head)) (used : Bool) : Type 0 where
  freed : (h : Head) → slot_at slots (slot_of item) ≡ Some h → new ≡ slice_set slots (slot_of item) None
      → used ≡ true → FreesOne item slots new used
  same : slot_at slots (slot_of item) ≡ None → new ≡ slots → used ≡ false → FreesOne item slots new used
