-- The bytes of a page.
use Rattle.std.specs.Prelude.{ℕ, ◌-◌, List, [], ◌∷◌, ◌++◌, length, Option, Some, None}
use Rattle.std.specs.List.{flat_map}
use Rattle.page_types.specs.Numbers.{u16_bytes, u32_bytes, u64_bytes, zeros, most_body}
use Rattle.page_types.specs.Items.{items_of}
use Rattle.page_types.specs.declared.page.Page.{Page}
use Rattle.page_types.specs.declared.page.Head.{Head}
use Rattle.page_types.specs.declared.page.Row.{Row}
use Rattle.page_types.specs.declared.page.Entry.{Entry}
use Rattle.page_types.specs.declared.page.Postings.{Postings}
use Rattle.page_types.specs.declared.page.Postings.TheVariants.{Inline, Root}
use Rattle.page_types.specs.declared.page.EntryChild.{EntryChild}
use Rattle.page_types.specs.declared.page.PostChild.{PostChild}
use Rattle.page_types.specs.declared.page.Body.{Body}
use Rattle.page_types.specs.declared.page.Body.TheVariants.{Free, Meta, Heap, Overflow, Pending, EntryLeaf, EntryInner}
use Rattle.page_types.specs.declared.page.Body.TheVariants.{PostLeaf, PostInner, Deleted}
use Rattle.page_types.specs.declared.page.Gone.{Gone}
use Rattle.page_types.specs.declared.page.Gone.TheVariants as gone

-- a key field: its length, and the bytes
unfoldable pub key_field : List ℕ → List ℕ
key_field key = u16_bytes (length key) ++ key

unfoldable pub head_bytes : Head → List ℕ
head_bytes h = u64_bytes h.serial ++ (u32_bytes h.inserted_by ++ (u32_bytes h.deleted_by
    ++ (u32_bytes h.overflow ++ (u32_bytes h.private ++ (u32_bytes h.bytes ++ h.vector)))))

-- a slot is the byte 0, free, or the byte 1 and a head
abbrev pub slot_bytes : Option Head → List ℕ
slot_bytes None = 0 ∷ []
slot_bytes (Some h) = 1 ∷ head_bytes h

unfoldable pub row_bytes : Row → List ℕ
row_bytes r = u32_bytes r.item ++ (u16_bytes (length r.keys) ++ flat_map key_field r.keys)

-- the byte 0 and an item list, or the byte 1 and a root
abbrev pub postings_bytes : Postings → List ℕ
postings_bytes (Inline items) = 0 ∷ (u16_bytes (length items) ++ items)
postings_bytes (Root root) = 1 ∷ u32_bytes root

unfoldable pub entry_bytes : Entry → List ℕ
entry_bytes e = key_field e.key ++ postings_bytes e.postings

unfoldable pub entry_child_bytes : EntryChild → List ℕ
entry_child_bytes c = u32_bytes c.page ++ key_field c.bound

unfoldable pub post_child_bytes : PostChild → List ℕ
post_child_bytes c = u32_bytes c.page ++ u32_bytes c.bound

-- the high key of a leaf, none where it has no right link
abbrev pub high_key_bytes : List ℕ → List ℕ
high_key_bytes [] = []
high_key_bytes (b ∷ bs) = key_field (b ∷ bs)

abbrev pub gone_bytes : Gone → List ℕ
gone_bytes (gone.Overflow bytes) = bytes
gone_bytes (gone.Pending rows) = flat_map row_bytes rows
gone_bytes (gone.PostLeaf high items) = u32_bytes high ++ items

-- the bytes that are on a page
abbrev pub body_bytes : Body → List ℕ
body_bytes Free = []
body_bytes (Meta first last pages) = u32_bytes first ++ (u32_bytes last ++ u32_bytes pages)
body_bytes (Heap slots) = flat_map slot_bytes slots
body_bytes (Overflow bytes) = bytes
body_bytes (Pending rows) = flat_map row_bytes rows
body_bytes (EntryLeaf high entries) = high_key_bytes high ++ flat_map entry_bytes entries
body_bytes (EntryInner children) = flat_map entry_child_bytes children
body_bytes (PostLeaf high items) = u32_bytes high ++ items
body_bytes (PostInner children) = flat_map post_child_bytes children
body_bytes (Deleted g) = gone_bytes g

abbrev pub kind_of : Body → ℕ
kind_of Free = 0
kind_of (Meta first last pages) = 1
kind_of (Heap slots) = 2
kind_of (Overflow bytes) = 3
kind_of (Pending rows) = 4
kind_of (EntryLeaf high entries) = 5
kind_of (EntryInner children) = 6
kind_of (PostLeaf high items) = 7
kind_of (PostInner children) = 8
kind_of (Deleted g) = 9

abbrev pub gone_kind : Gone → ℕ
gone_kind (gone.Overflow bytes) = 3
gone_kind (gone.Pending rows) = 4
gone_kind (gone.PostLeaf high items) = 7

-- the kind before deletion
abbrev pub was_of : Body → ℕ
was_of (Deleted g) = gone_kind g
was_of _ = 0

abbrev pub gone_count : Gone → ℕ
gone_count (gone.Overflow bytes) = 0
gone_count (gone.Pending rows) = length rows
gone_count (gone.PostLeaf high items) = length (items_of items)

-- how many slots, rows, entries, children or items are on a page
abbrev pub count_of : Body → ℕ
count_of Free = 0
count_of (Meta first last pages) = 0
count_of (Heap slots) = length slots
count_of (Overflow bytes) = 0
count_of (Pending rows) = length rows
count_of (EntryLeaf high entries) = length entries
count_of (EntryInner children) = length children
count_of (PostLeaf high items) = length (items_of items)
count_of (PostInner children) = length children
count_of (Deleted g) = gone_count g

-- the bytes 0 to 7: kind, was, count and right link
unfoldable pub front_bytes : Page → List ℕ
front_bytes p = kind_of p.body ∷ was_of p.body ∷ (u16_bytes (count_of p.body) ++ u32_bytes p.right)

-- a page with these bytes 0 to 7, this stamp and this body
unfoldable pub framed : List ℕ → ℕ → List ℕ → List ℕ
framed front stamp body =
    front ++ (u64_bytes stamp ++ (u16_bytes (length body) ++ (zeros 6 ++ (body ++ zeros (most_body - length body)))))

unfoldable pub page_bytes : Page → List ℕ
page_bytes p = framed (front_bytes p) p.stamp (body_bytes p.body)
