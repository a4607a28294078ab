-- The bodies of pages, read from left to right.
use Rattle.std.specs.Prelude.{ℕ, zero, suc, ◌+◌, ◌-◌, Bool, ◌&&◌, ◌||◌, List, [], ◌∷◌, length, take, Option, Some, None}
use Rattle.std.specs.Prelude.{Result, Ok, Err, nat_lt, nat_le, ◌==◌, if◌then◌else◌}
use Rattle.page_types.specs.Numbers.{page_limit, item_limit, most_short, most_inline, no_bound}
use Rattle.page_types.specs.Fields.{◌>>=◌, number_at, bytes_at, tested}
use Rattle.page_types.specs.declared.page.Head.{Head}
use Rattle.page_types.specs.declared.page.Row.{Row}
use Rattle.page_types.specs.declared.page.Entry.{Entry}
use Rattle.page_types.specs.declared.page.Postings.{Postings}
use Rattle.page_types.specs.declared.page.Postings.TheVariants.{Inline, Root}
use Rattle.page_types.specs.declared.page.EntryChild.{EntryChild}
use Rattle.page_types.specs.declared.page.PostChild.{PostChild}
use Rattle.page_types.specs.declared.page.Body.{Body}
use Rattle.page_types.specs.declared.page.Body.TheVariants as body
use Rattle.page_types.specs.declared.page.Gone.TheVariants as gone
use Rattle.page_code.specs.declared.form.Form.{Form}
use Rattle.page_code.specs.declared.form.Form.TheVariants as form
use Rattle.page_code.specs.Fields.{Read, below_at, key_at, bound_at, each_at}
use Rattle.page_code.specs.Items.{items_at, list_at}

unfoldable pub meta_at : List ℕ → Read Body
meta_at bytes = do
  first ← below_at page_limit bytes
  last ← below_at page_limit first.1
  pages ← number_at 4 last.1
  Ok (body.Meta first.0 last.0 pages.0, pages.1)

-- a vector of this many bytes, where it is in its head
abbrev pub vector_at : ℕ → List ℕ → Read (List ℕ)
vector_at size bytes = if nat_le size most_short then bytes_at size bytes else Ok ([], bytes)

unfoldable pub head_at : List ℕ → Read Head
head_at bytes = do
  serial ← number_at 8 bytes
  inserted_by ← number_at 4 serial.1
  deleted_by ← number_at 4 inserted_by.1
  overflow ← below_at page_limit deleted_by.1
  private ← below_at page_limit overflow.1
  size ← number_at 4 private.1
  vector ← vector_at size.0 size.1
  Ok (
    record {
      serial = serial.0;
      inserted_by = inserted_by.0;
      deleted_by = deleted_by.0;
      overflow = overflow.0;
      private = private.0;
      bytes = size.0;
      vector = vector.0;
    },
    vector.1,
  )

-- a used slot after the byte 1
unfoldable pub used_slot_at : List ℕ → Read (Option Head)
used_slot_at bytes = do
  head ← head_at bytes
  Ok (Some head.0, head.1)

abbrev pub heap_slot_at : List ℕ → Read (Option Head)
heap_slot_at [] = Err 0
heap_slot_at (zero ∷ rest) = Ok (None, rest)
heap_slot_at (suc zero ∷ rest) = used_slot_at rest
heap_slot_at (suc (suc b) ∷ rest) = Err (suc (length rest))

abbrev pub slots_at : ℕ → List ℕ → Read (List (Option Head))
slots_at count bytes = each_at {M = ℕ} (λ _ _ rest. heap_slot_at rest) (λ _. 0) 0 count [] bytes

-- so many keys, each above the last
abbrev pub keys_at : ℕ → List ℕ → Read (List (List ℕ))
keys_at count bytes = each_at (λ last _ rest. key_at last rest) (λ key. key) [] count [] bytes

-- how many keys a row has, at least one
unfoldable pub some_at : List ℕ → Read ℕ
some_at bytes = do
  n ← number_at 2 bytes
  tested (nat_lt 0 n.0) bytes n

unfoldable pub row_at : List ℕ → Read Row
row_at bytes = do
  item ← below_at item_limit bytes
  count ← some_at item.1
  keys ← keys_at count.0 count.1
  Ok (record { item = item.0; keys = keys.0 }, keys.1)

abbrev pub rows_at : ℕ → List ℕ → Read (List Row)
rows_at count bytes = each_at {M = ℕ} (λ _ _ rest. row_at rest) (λ _. 0) 0 count [] bytes

-- what is read in a part that the whole begins with: a fault is at the same place in both
abbrev pub in_part : {A : Type 0} → List ℕ → List ℕ → Result A ℕ → Result A ℕ
in_part whole part (Ok x) = Ok x
in_part whole part (Err left) = Err (length whole - (length part - left))

-- the length of an inline item list
unfoldable pub inline_size_at : List ℕ → Read ℕ
inline_size_at bytes = do
  n ← number_at 2 bytes
  tested (nat_le n.0 most_inline) bytes n

-- an inline item list after the byte 0, read within its length
unfoldable pub inline_at : List ℕ → Read Postings
inline_at bytes = do
  size ← inline_size_at bytes
  items ← bytes_at size.0 size.1
  rest ← in_part size.1 items.0 (list_at items.0)
  Ok (Inline items.0, items.1)

-- the root of a posting tree after the byte 1
unfoldable pub root_at : List ℕ → Read Postings
root_at bytes = do
  root ← below_at page_limit bytes
  Ok (Root root.0, root.1)

abbrev pub postings_at : List ℕ → Read Postings
postings_at [] = Err 0
postings_at (zero ∷ rest) = inline_at rest
postings_at (suc zero ∷ rest) = root_at rest
postings_at (suc (suc b) ∷ rest) = Err (suc (length rest))

-- an entry whose key is above the last
unfoldable pub entry_at : List ℕ → List ℕ → Read Entry
entry_at last bytes = do
  key ← key_at last bytes
  postings ← postings_at key.1
  Ok (record { key = key.0; postings = postings.0 }, postings.1)

abbrev pub entries_at : ℕ → List ℕ → Read (List Entry)
entries_at count bytes = each_at (λ last _ rest. entry_at last rest) (λ e. e.key) [] count [] bytes

-- the high key of a leaf with a right link
abbrev pub high_key_at : ℕ → List ℕ → Read (List ℕ)
high_key_at right bytes = if right == 0 then Ok ([], bytes) else key_at [] bytes

unfoldable pub entry_leaf_at : ℕ → ℕ → List ℕ → Read Body
entry_leaf_at right count bytes = do
  high ← high_key_at right bytes
  entries ← entries_at count high.1
  Ok (body.EntryLeaf high.0 entries.0, entries.1)

-- only the last child of a page without right link may have no bound
abbrev pub may_lack_bound : ℕ → ℕ → Bool
may_lack_bound right behind = (right == 0) && (behind == 0)

-- a child whose bound is above the last
unfoldable pub entry_child_at : ℕ → List ℕ → ℕ → List ℕ → Read EntryChild
entry_child_at right last behind bytes = do
  page ← below_at page_limit bytes
  bound ← bound_at (may_lack_bound right behind) last page.1
  Ok (record { page = page.0; bound = bound.0 }, bound.1)

abbrev pub entry_children_at : ℕ → ℕ → List ℕ → Read (List EntryChild)
entry_children_at right count bytes =
    each_at (λ last behind rest. entry_child_at right last behind rest) (λ c. c.bound) [] count [] bytes

-- a bound that is at least so great
unfoldable pub item_bound_at : Bool → ℕ → List ℕ → Read ℕ
item_bound_at may_lack least bytes = do
  n ← number_at 4 bytes
  tested ((nat_le least n.0 && nat_lt n.0 item_limit) || (may_lack && (n.0 == no_bound))) bytes n

unfoldable pub post_child_at : ℕ → ℕ → ℕ → List ℕ → Read PostChild
post_child_at right least behind bytes = do
  page ← below_at page_limit bytes
  bound ← item_bound_at (may_lack_bound right behind) least page.1
  Ok (record { page = page.0; bound = bound.0 }, bound.1)

abbrev pub post_children_at : ℕ → ℕ → List ℕ → Read (List PostChild)
post_children_at right count bytes =
    each_at (λ least behind rest. post_child_at right least behind rest) (λ c. c.bound + 1) 0 count [] bytes

-- a high item, which is 0 exactly where there is no right link
abbrev pub is_high_item : ℕ → ℕ → Bool
is_high_item right high = if right == 0 then high == 0 else nat_lt 0 high && nat_lt high item_limit

unfoldable pub high_item_at : ℕ → List ℕ → Read ℕ
high_item_at right bytes = do
  n ← number_at 4 bytes
  tested (is_high_item right n.0) bytes n

-- the bytes that are before the rest
abbrev pub front_of : List ℕ → List ℕ → List ℕ
front_of bytes rest = take (length bytes - length rest) bytes

-- a high item and a list of so many items
unfoldable pub posting_at : ℕ → ℕ → List ℕ → Read (ℕ × List ℕ)
posting_at right count bytes = do
  high ← high_item_at right bytes
  rest ← items_at count high.1
  Ok ((high.0, front_of high.1 rest), rest)

-- what is on a page of this form
unfoldable pub body_at : Form → ℕ → ℕ → List ℕ → Read Body
body_at form.Free right count bytes = Ok (body.Free, bytes)
body_at form.Meta right count bytes = meta_at bytes
body_at form.Heap right count bytes = do
  slots ← slots_at count bytes
  Ok (body.Heap slots.0, slots.1)
body_at form.Overflow right count bytes = Ok (body.Overflow bytes, [])
body_at form.Pending right count bytes = do
  rows ← rows_at count bytes
  Ok (body.Pending rows.0, rows.1)
body_at form.EntryLeaf right count bytes = entry_leaf_at right count bytes
body_at form.EntryInner right count bytes = do
  children ← entry_children_at right count bytes
  Ok (body.EntryInner children.0, children.1)
body_at form.PostLeaf right count bytes = do
  leaf ← posting_at right count bytes
  Ok (body.PostLeaf leaf.0.0 leaf.0.1, leaf.1)
body_at form.PostInner right count bytes = do
  children ← post_children_at right count bytes
  Ok (body.PostInner children.0, children.1)
body_at form.GoneOverflow right count bytes = Ok (body.Deleted (gone.Overflow bytes), [])
body_at form.GonePending right count bytes = do
  rows ← rows_at count bytes
  Ok (body.Deleted (gone.Pending rows.0), rows.1)
body_at form.GonePostLeaf right count bytes = do
  leaf ← posting_at right count bytes
  Ok (body.Deleted (gone.PostLeaf leaf.0.0 leaf.0.1), leaf.1)

-- all of the bytes: surplus bytes are refused
unfoldable pub whole_body_at : Form → ℕ → ℕ → List ℕ → Result Body ℕ
whole_body_at form right count bytes = do
  b ← body_at form right count bytes
  if length b.1 == 0 then Ok b.0 else Err (length b.1)
