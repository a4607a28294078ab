-- Where bytes are no item list.
use Rattle.std.specs.Prelude.{ℕ, ◌-◌, List, length, Option, Some, None, Result, Ok, Err}
use Rattle.page_types.specs.ItemReading.{items_read}
use Rattle.posting_code.specs.declared.error.ListError.{ListError}
use Rattle.posting_code.specs.declared.error.ListError.TheVariants.{BadList}

abbrev pub place_of : ListError → ℕ
place_of (BadList at) = at

abbrev pub fault_in : ℕ → Result (List ℕ) ℕ → Option ℕ
fault_in size (Ok items) = None
fault_in size (Err left) = Some (size - left)

-- the first byte of the first field that is refused, or the length where the bytes end within it
abbrev pub list_fault : List ℕ → Option ℕ
list_fault bytes = fault_in (length bytes) (items_read bytes)
