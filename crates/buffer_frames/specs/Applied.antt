-- The bytes of pages after the changes of a log, over those of a page file.
use Rattle.std.specs.Prelude.{ℕ, ◌-◌, List, [], ◌∷◌, ◌++◌, ⊤, length}
use Rattle.page_types.specs.Numbers.{zeros, page_size}
use Rattle.page_types.specs.Edits.{CanEdit}
use Rattle.page_types.specs.declared.record.Change.{Change}
use Rattle.core_state.specs.Log.{Log, In, after_changes}
use Rattle.core_state.specs.Stores.{page_in}

-- page p as it is in a page file; past the file's end are zeros
unfoldable pub page_or_zeros : List ℕ → ℕ → List ℕ
page_or_zeros file p = page_in file p ++ zeros (page_size - length (page_in file p))

-- the bytes of each page after all changes of the log in order, where the pages were in this file
unfoldable pub applied : List ℕ → Log → ℕ → List ℕ
applied file [] p = page_or_zeros file p
applied file (r ∷ R) p = after_changes r.number r.changes p (applied file R p)

-- each change of the log can be made
abbrev pub CanApply : List ℕ → Log → Type 0
CanApply file [] = ⊤
CanApply file (r ∷ R) =
    CanApply file R × ((c : Change) → In c r.changes → CanEdit c.edit (applied file R c.page))
