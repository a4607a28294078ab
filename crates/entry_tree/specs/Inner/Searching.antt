-- How far a search has come among keys or bounds that rise.
use Rattle.std.specs.Prelude.{ℕ, ◌<◌, ◌≤◌, List, [], length, get_or, map}
use Rattle.page_types.specs.declared.page.Entry.{Entry}
use Rattle.page_types.specs.declared.page.EntryChild.{EntryChild}
use Rattle.entry_tree.specs.declared.searching.Marks.{Marks}
use Rattle.entry_tree.specs.declared.searching.Marks.TheVariants as marks
use Rattle.entry_tree.specs.Finding.{IsBelow}

abbrev pub keys_of : List Entry → List (List ℕ)
keys_of entries = map (λ (e : Entry). e.key) entries

abbrev pub bounds_of : List EntryChild → List (List ℕ)
bounds_of children = map (λ (c : EntryChild). c.bound) children

-- the keys of entries, or the bounds of children
abbrev pub marks_shown : Marks → List (List ℕ)
marks_shown (marks.Keys entries) = keys_of entries.now
marks_shown (marks.Bounds children) = bounds_of children.now

-- those before one number are below the key, those from another number on are not
pub record IsBetween (key : List ℕ) (all : List (List ℕ)) (low high : ℕ) : Type 0 where
  pub ordered : low ≤ high
  pub within : high ≤ length all
  pub below : (j : ℕ) → j < low → IsBelow (get_or all j []) key
  pub above : (j : ℕ) → high ≤ j → j < length all → IsBelow (get_or all j []) key → ⊥
