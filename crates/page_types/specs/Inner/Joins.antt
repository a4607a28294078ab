-- Values that lie in two lists of one length, the parts of each at the same place.
use Rattle.std.specs.Prelude.{ℕ, List, [], ◌∷◌, Option, Some, None}
use Rattle.page_types.specs.declared.page.Head.{Head}
use Rattle.page_types.specs.declared.page.Row.{Row}
use Rattle.page_types.specs.declared.page.Entry.{Entry}
use Rattle.page_types.specs.declared.page.EntryChild.{EntryChild}
use Rattle.page_types.specs.declared.page.Postings.{Postings}
use Rattle.page_types.specs.declared.page.Postings.TheVariants.{Inline, Root}
use Rattle.page_types.specs.declared.slots.HeadFields.{HeadFields}
use Rattle.page_types.specs.Parts.{head_with}

-- what f makes of the parts at each place
abbrev pub joined : {A B C : Type 0} → (A → B → C) → List A → List B → List C
joined f [] ys = []
joined f (x ∷ xs) [] = []
joined f (x ∷ xs) (y ∷ ys) = f x y ∷ joined f xs ys

abbrev pub slot_with : Option HeadFields → List ℕ → Option Head
slot_with None vector = None
slot_with (Some fields) vector = Some (head_with fields vector)

abbrev pub row_with : ℕ → List (List ℕ) → Row
row_with item keys = record { item = item; keys = keys }

-- an entry without a root has its list
abbrev pub postings_with : Option ℕ → List ℕ → Postings
postings_with None items = Inline items
postings_with (Some root) items = Root root

abbrev pub entry_with : List ℕ → Postings → Entry
entry_with key postings = record { key = key; postings = postings }

abbrev pub child_with : ℕ → List ℕ → EntryChild
child_with page bound = record { page = page; bound = bound }
