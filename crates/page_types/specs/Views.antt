-- What a page shows of each kind of content. Each view is empty at a page of another kind.
use Rattle.std.specs.Prelude.{ℕ, zero, suc, Bool, true, false, List, [], ◌∷◌, Option, Some, None}
use Rattle.page_types.specs.declared.page.Page.{Page}
use Rattle.page_types.specs.declared.page.Row.{Row}
use Rattle.page_types.specs.declared.page.Head.{Head}
use Rattle.page_types.specs.declared.page.Entry.{Entry}
use Rattle.page_types.specs.declared.page.Postings.{Postings}
use Rattle.page_types.specs.declared.page.Postings.TheVariants.{Inline, Root}
use Rattle.page_types.specs.declared.page.EntryChild.{EntryChild}
use Rattle.page_types.specs.declared.page.PostChild.{PostChild}
use Rattle.page_types.specs.declared.page.Body.{Body}
use Rattle.page_types.specs.declared.page.Body.TheVariants.{Free, Meta, Heap, Overflow, Pending, EntryLeaf, EntryInner}
use Rattle.page_types.specs.declared.page.Body.TheVariants.{PostLeaf, PostInner, Deleted}
use Rattle.page_types.specs.declared.page.Gone.TheVariants as gone
use Rattle.page_types.specs.Items.{items_of}

-- a page that no record has changed
abbrev pub free_page : Page
free_page = record { right = 0; stamp = 0; body = Free }

-- the rows of the page, of a live one alone
abbrev pub rows_in : Body → List Row
rows_in (Pending rows) = rows
rows_in _ = []

abbrev pub rows_of : Page → List Row
rows_of p = rows_in p.body

-- the rows that a walk reads, from a deleted page too
abbrev pub kept_rows_in : Body → List Row
kept_rows_in (Pending rows) = rows
kept_rows_in (Deleted (gone.Pending rows)) = rows
kept_rows_in _ = []

abbrev pub kept_rows_of : Page → List Row
kept_rows_of p = kept_rows_in p.body

abbrev pub slots_in : Body → List (Option Head)
slots_in (Heap slots) = slots
slots_in _ = []

abbrev pub slots_of : Page → List (Option Head)
slots_of p = slots_in p.body

-- the head in a slot, none where the slot is free or absent
abbrev pub slot_at : List (Option Head) → ℕ → Option Head
slot_at [] k = None
slot_at (h ∷ hs) zero = h
slot_at (h ∷ hs) (suc k) = slot_at hs k

-- the bytes of the vector in a slot, none where it is free
abbrev pub vector_in : Option Head → List ℕ
vector_in None = []
vector_in (Some h) = h.vector

-- the part of a vector that an overflow page holds
abbrev pub part_in : Body → List ℕ
part_in (Overflow bytes) = bytes
part_in _ = []

abbrev pub part_of : Page → List ℕ
part_of p = part_in p.body

abbrev pub entries_in : Body → List Entry
entries_in (EntryLeaf high entries) = entries
entries_in _ = []

abbrev pub entries_of : Page → List Entry
entries_of p = entries_in p.body

-- the item list that is in an entry, none where its items are in a posting tree
abbrev pub list_in : Postings → List ℕ
list_in (Inline items) = items
list_in (Root root) = []

-- the entries, one of them with other items
abbrev pub with_postings : List Entry → ℕ → Postings → List Entry
with_postings [] k postings = []
with_postings (e ∷ es) zero postings = record { key = e.key; postings = postings } ∷ es
with_postings (e ∷ es) (suc k) postings = e ∷ with_postings es k postings

abbrev pub entry_children_in : Body → List EntryChild
entry_children_in (EntryInner children) = children
entry_children_in _ = []

abbrev pub post_children_in : Body → List PostChild
post_children_in (PostInner children) = children
post_children_in _ = []

-- the items of a live leaf of a posting tree
abbrev pub posting_items_in : Body → List ℕ
posting_items_in (PostLeaf high items) = items_of items
posting_items_in _ = []

abbrev pub first_in : Body → ℕ
first_in (Meta first last pages) = first
first_in _ = 0

-- the first pending page that the metapage names
abbrev pub first_of : Page → ℕ
first_of p = first_in p.body

abbrev pub deleted_in : Body → Bool
deleted_in (Deleted g) = true
deleted_in _ = false

abbrev pub is_deleted : Page → Bool
is_deleted p = deleted_in p.body
