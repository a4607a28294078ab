-- The definitions at pages and records whose bytes were worked out apart from them.
use Rattle.std.proofs.Common.{◌≡◌, ℕ, List, [], ◌∷◌, ◌++◌, replicate, Some, None, refl}
use Rattle.page_types.specs.Numbers.{u16_bytes, u32_bytes, u64_bytes, zeros}
use Rattle.page_types.specs.Items.{items_of, item_list, varbyte}
use Rattle.page_types.specs.Encoding.{page_bytes, front_bytes, framed, key_field, head_bytes, row_bytes, entry_bytes}
use Rattle.page_types.specs.Encoding.{entry_child_bytes, post_child_bytes}
use Rattle.page_types.specs.Records.{record_bytes, record_rest, change_bytes}
use Rattle.page_types.specs.Edits.{edited, body_in, used_in}
use Rattle.page_types.specs.declared.page.Page.{Page}
use Rattle.page_types.specs.declared.page.Head.{Head}
use Rattle.page_types.specs.declared.page.Row.{Row}
use Rattle.page_types.specs.declared.page.Entry.{Entry}
use Rattle.page_types.specs.declared.page.EntryChild.{EntryChild}
use Rattle.page_types.specs.declared.page.PostChild.{PostChild}
use Rattle.page_types.specs.declared.page.Postings.TheVariants.{Inline, Root}
use Rattle.page_types.specs.declared.page.Body.{Body}
use Rattle.page_types.specs.declared.page.Body.TheVariants.{Free, Meta, Heap, Overflow, Pending, EntryLeaf, EntryInner}
use Rattle.page_types.specs.declared.page.Body.TheVariants.{PostLeaf, PostInner, Deleted}
use Rattle.page_types.specs.declared.page.Gone.TheVariants as gone
use Rattle.page_types.specs.declared.record.Record.{Record}
use Rattle.page_types.specs.declared.record.Change.{Change}
use Rattle.page_types.specs.declared.record.Edit.TheVariants.{Delta}
use Rattle.page_types.specs.declared.record.Kind.{Kind}
use Rattle.page_types.specs.declared.record.Kind.TheVariants as kind

items : items_of (1 ∷ 127 ∷ 128 ∷ 1 ∷ 128 ∷ 128 ∷ 1 ∷ []) ≡ 1 ∷ 128 ∷ 256 ∷ 16640 ∷ []
unfolding items_of
items = refl

list : item_list (1 ∷ 128 ∷ 256 ∷ 16640 ∷ []) ≡ 1 ∷ 127 ∷ 128 ∷ 1 ∷ 128 ∷ 128 ∷ 1 ∷ []
unfolding varbyte
list = refl

greatest : item_list (2147483647 ∷ []) ≡ 255 ∷ 255 ∷ 255 ∷ 255 ∷ 7 ∷ []
unfolding varbyte
greatest = refl

page_of : ℕ → ℕ → Body → Page
page_of right stamp body = record { right = right; stamp = stamp; body = body }

head : ℕ → ℕ → ℕ → ℕ → ℕ → ℕ → List ℕ → Head
head serial inserted_by deleted_by overflow private bytes vector = record {
  serial = serial;
  inserted_by = inserted_by;
  deleted_by = deleted_by;
  overflow = overflow;
  private = private;
  bytes = bytes;
  vector = vector;
}

row : ℕ → List (List ℕ) → Row
row item keys = record { item = item; keys = keys }

entry : List ℕ → List ℕ → Entry
entry key items = record { key = key; postings = Inline items }

tree : List ℕ → ℕ → Entry
tree key root = record { key = key; postings = Root root }

child : ℕ → List ℕ → EntryChild
child page bound = record { page = page; bound = bound }

leaf : ℕ → ℕ → PostChild
leaf page bound = record { page = page; bound = bound }

record_of : ℕ → ℕ → Kind → List Change → Record
record_of number xid kind changes = record { number = number; xid = xid; kind = kind; changes = changes }

delta : ℕ → List ℕ → ℕ → ℕ → List ℕ → Change
delta page front start cut bytes = record { page = page; edit = Delta front start cut bytes }

free_page : page_bytes (page_of 0 0 Free) ≡ (0 ∷ 0 ∷ 0 ∷ 0 ∷ 0 ∷ 0 ∷ 0 ∷ 0 ∷ 0 ∷ 0 ∷ 0 ∷ 0 ∷ 0 ∷ 0 ∷ 0 ∷ 0 ∷ 0 ∷ 0 ∷ 0
    ∷ 0 ∷ 0 ∷ 0 ∷ 0 ∷ 0 ∷ []) ++ replicate 8168 0
unfolding page_bytes front_bytes framed u16_bytes u32_bytes u64_bytes zeros key_field head_bytes row_bytes entry_bytes
    entry_child_bytes post_child_bytes items_of page_of head row entry tree child leaf
free_page = refl

meta_page : page_bytes (page_of 0 12 (Meta 7 9 3)) ≡ (1 ∷ 0 ∷ 0 ∷ 0 ∷ 0 ∷ 0 ∷ 0 ∷ 0 ∷ 12 ∷ 0 ∷ 0 ∷ 0 ∷ 0 ∷ 0 ∷ 0 ∷ 0
    ∷ 12 ∷ 0 ∷ 0 ∷ 0 ∷ 0 ∷ 0 ∷ 0 ∷ 0 ∷ 7 ∷ 0 ∷ 0 ∷ 0 ∷ 9 ∷ 0 ∷ 0 ∷ 0 ∷ 3 ∷ 0 ∷ 0 ∷ 0 ∷ []) ++ replicate 8156 0
unfolding page_bytes front_bytes framed u16_bytes u32_bytes u64_bytes zeros key_field head_bytes row_bytes entry_bytes
    entry_child_bytes post_child_bytes items_of page_of head row entry tree child leaf
meta_page = refl

heap_page : page_bytes (page_of 0 13 (Heap (Some (head 1 1 3 0 0 22 (2 ∷ 0 ∷ 0 ∷ 0 ∷ 3 ∷ 0 ∷ 99 ∷ 97 ∷ 116 ∷ 1
    ∷ 0 ∷ 1 ∷ 0 ∷ 3 ∷ 0 ∷ 102 ∷ 97 ∷ 116 ∷ 1 ∷ 0 ∷ 2 ∷ 0 ∷ [])) ∷ None ∷ Some (head 2 2 0 5 8 20044 []) ∷ [])))
    ≡ (2 ∷ 0 ∷ 3 ∷ 0 ∷ 0 ∷ 0 ∷ 0 ∷ 0 ∷ 13 ∷ 0 ∷ 0 ∷ 0 ∷ 0 ∷ 0 ∷ 0 ∷ 0 ∷ 81 ∷ 0 ∷ 0 ∷ 0 ∷ 0 ∷ 0 ∷ 0 ∷ 0 ∷ 1 ∷ 1 ∷ 0 ∷ 0
    ∷ 0 ∷ 0 ∷ 0 ∷ 0 ∷ 0 ∷ 1 ∷ 0 ∷ 0 ∷ 0 ∷ 3 ∷ 0 ∷ 0 ∷ 0 ∷ 0 ∷ 0 ∷ 0 ∷ 0 ∷ 0 ∷ 0 ∷ 0 ∷ 0 ∷ 22 ∷ 0 ∷ 0 ∷ 0 ∷ 2 ∷ 0 ∷ 0 ∷ 0
    ∷ 3 ∷ 0 ∷ 99 ∷ 97 ∷ 116 ∷ 1 ∷ 0 ∷ 1 ∷ 0 ∷ 3 ∷ 0 ∷ 102 ∷ 97 ∷ 116 ∷ 1 ∷ 0 ∷ 2 ∷ 0 ∷ 0 ∷ 1 ∷ 2 ∷ 0 ∷ 0 ∷ 0 ∷ 0 ∷ 0 ∷ 0
    ∷ 0 ∷ 2 ∷ 0 ∷ 0 ∷ 0 ∷ 0 ∷ 0 ∷ 0 ∷ 0 ∷ 5 ∷ 0 ∷ 0 ∷ 0 ∷ 8 ∷ 0 ∷ 0 ∷ 0 ∷ 76 ∷ 78 ∷ 0 ∷ 0 ∷ []) ++ replicate 8087 0
unfolding page_bytes front_bytes framed u16_bytes u32_bytes u64_bytes zeros key_field head_bytes row_bytes entry_bytes
    entry_child_bytes post_child_bytes items_of page_of head row entry tree child leaf
heap_page = refl

overflow_page : page_bytes (page_of 4 14 (Overflow (97 ∷ 98 ∷ 99 ∷ 100 ∷ 101 ∷ 102 ∷ [])))
    ≡ (3 ∷ 0 ∷ 0 ∷ 0 ∷ 4 ∷ 0 ∷ 0 ∷ 0 ∷ 14 ∷ 0 ∷ 0 ∷ 0 ∷ 0 ∷ 0 ∷ 0 ∷ 0 ∷ 6 ∷ 0 ∷ 0 ∷ 0 ∷ 0 ∷ 0 ∷ 0 ∷ 0 ∷ 97 ∷ 98 ∷ 99
    ∷ 100 ∷ 101 ∷ 102 ∷ []) ++ replicate 8162 0
unfolding page_bytes front_bytes framed u16_bytes u32_bytes u64_bytes zeros key_field head_bytes row_bytes entry_bytes
    entry_child_bytes post_child_bytes items_of page_of head row entry tree child leaf
overflow_page = refl

pending_page : page_bytes (page_of 9 15
    (Pending (row 4096 ((0 ∷ 97 ∷ []) ∷ (0 ∷ 97 ∷ 98 ∷ []) ∷ (0 ∷ 98 ∷ []) ∷ []) ∷ row 4097 ((1 ∷ []) ∷ []) ∷ [])))
    ≡ (4 ∷ 0 ∷ 2 ∷ 0 ∷ 9 ∷ 0 ∷ 0 ∷ 0 ∷ 15 ∷ 0 ∷ 0 ∷ 0 ∷ 0 ∷ 0 ∷ 0 ∷ 0 ∷ 28 ∷ 0 ∷ 0 ∷ 0 ∷ 0 ∷ 0 ∷ 0 ∷ 0 ∷ 0 ∷ 16 ∷ 0
    ∷ 0 ∷ 3 ∷ 0 ∷ 2 ∷ 0 ∷ 0 ∷ 97 ∷ 3 ∷ 0 ∷ 0 ∷ 97 ∷ 98 ∷ 2 ∷ 0 ∷ 0 ∷ 98 ∷ 1 ∷ 16 ∷ 0 ∷ 0 ∷ 1 ∷ 0 ∷ 1 ∷ 0 ∷ 1 ∷ [])
    ++ replicate 8140 0
unfolding page_bytes front_bytes framed u16_bytes u32_bytes u64_bytes zeros key_field head_bytes row_bytes entry_bytes
    entry_child_bytes post_child_bytes items_of page_of head row entry tree child leaf
pending_page = refl

entry_leaf_page : page_bytes (page_of 12 16 (EntryLeaf (0 ∷ 109 ∷ []) (entry (0 ∷ 97 ∷ [])
    (1 ∷ 127 ∷ 128 ∷ 1 ∷ 128 ∷ 128 ∷ 1 ∷ []) ∷ entry (0 ∷ 99 ∷ 97 ∷ 116 ∷ []) [] ∷ tree (0 ∷ 109 ∷ []) 11 ∷ [])))
    ≡ (5 ∷ 0 ∷ 3 ∷ 0 ∷ 12 ∷ 0 ∷ 0 ∷ 0 ∷ 16 ∷ 0 ∷ 0 ∷ 0 ∷ 0 ∷ 0 ∷ 0 ∷ 0 ∷ 36 ∷ 0 ∷ 0 ∷ 0 ∷ 0 ∷ 0 ∷ 0 ∷ 0 ∷ 2 ∷ 0 ∷ 0
    ∷ 109 ∷ 2 ∷ 0 ∷ 0 ∷ 97 ∷ 0 ∷ 7 ∷ 0 ∷ 1 ∷ 127 ∷ 128 ∷ 1 ∷ 128 ∷ 128 ∷ 1 ∷ 4 ∷ 0 ∷ 0 ∷ 99 ∷ 97 ∷ 116 ∷ 0 ∷ 0 ∷ 0 ∷ 2
    ∷ 0 ∷ 0 ∷ 109 ∷ 1 ∷ 11 ∷ 0 ∷ 0 ∷ 0 ∷ []) ++ replicate 8132 0
unfolding page_bytes front_bytes framed u16_bytes u32_bytes u64_bytes zeros key_field head_bytes row_bytes entry_bytes
    entry_child_bytes post_child_bytes items_of page_of head row entry tree child leaf
entry_leaf_page = refl

entry_leaf_last_page : page_bytes (page_of 0 17 (EntryLeaf [] (entry (1 ∷ []) (129 ∷ 32 ∷ []) ∷ [])))
    ≡ (5 ∷ 0 ∷ 1 ∷ 0 ∷ 0 ∷ 0 ∷ 0 ∷ 0 ∷ 17 ∷ 0 ∷ 0 ∷ 0 ∷ 0 ∷ 0 ∷ 0 ∷ 0 ∷ 8 ∷ 0 ∷ 0 ∷ 0 ∷ 0 ∷ 0 ∷ 0 ∷ 0 ∷ 1 ∷ 0 ∷ 1 ∷ 0
    ∷ 2 ∷ 0 ∷ 129 ∷ 32 ∷ []) ++ replicate 8160 0
unfolding page_bytes front_bytes framed u16_bytes u32_bytes u64_bytes zeros key_field head_bytes row_bytes entry_bytes
    entry_child_bytes post_child_bytes items_of page_of head row entry tree child leaf
entry_leaf_last_page = refl

entry_inner_page : page_bytes
    (page_of 0 18 (EntryInner (child 20 (0 ∷ 102 ∷ []) ∷ child 21 (0 ∷ 109 ∷ []) ∷ child 22 [] ∷ [])))
    ≡ (6 ∷ 0 ∷ 3 ∷ 0 ∷ 0 ∷ 0 ∷ 0 ∷ 0 ∷ 18 ∷ 0 ∷ 0 ∷ 0 ∷ 0 ∷ 0 ∷ 0 ∷ 0 ∷ 22 ∷ 0 ∷ 0 ∷ 0 ∷ 0 ∷ 0 ∷ 0 ∷ 0 ∷ 20 ∷ 0 ∷ 0 ∷ 0
    ∷ 2 ∷ 0 ∷ 0 ∷ 102 ∷ 21 ∷ 0 ∷ 0 ∷ 0 ∷ 2 ∷ 0 ∷ 0 ∷ 109 ∷ 22 ∷ 0 ∷ 0 ∷ 0 ∷ 0 ∷ 0 ∷ []) ++ replicate 8146 0
unfolding page_bytes front_bytes framed u16_bytes u32_bytes u64_bytes zeros key_field head_bytes row_bytes entry_bytes
    entry_child_bytes post_child_bytes items_of page_of head row entry tree child leaf
entry_inner_page = refl

post_leaf_page : page_bytes (page_of 23 19 (PostLeaf 16640 (1 ∷ 127 ∷ 128 ∷ 1 ∷ 128 ∷ 128 ∷ 1 ∷ [])))
    ≡ (7 ∷ 0 ∷ 4 ∷ 0 ∷ 23 ∷ 0 ∷ 0 ∷ 0 ∷ 19 ∷ 0 ∷ 0 ∷ 0 ∷ 0 ∷ 0 ∷ 0 ∷ 0 ∷ 11 ∷ 0 ∷ 0 ∷ 0 ∷ 0 ∷ 0 ∷ 0 ∷ 0 ∷ 0 ∷ 65 ∷ 0 ∷ 0
    ∷ 1 ∷ 127 ∷ 128 ∷ 1 ∷ 128 ∷ 128 ∷ 1 ∷ []) ++ replicate 8157 0
unfolding page_bytes front_bytes framed u16_bytes u32_bytes u64_bytes zeros key_field head_bytes row_bytes entry_bytes
    entry_child_bytes post_child_bytes items_of page_of head row entry tree child leaf
post_leaf_page = refl

post_leaf_last_page : page_bytes (page_of 0 20 (PostLeaf 0 [])) ≡ (7 ∷ 0 ∷ 0 ∷ 0 ∷ 0 ∷ 0 ∷ 0 ∷ 0 ∷ 20 ∷ 0 ∷ 0 ∷ 0 ∷ 0
    ∷ 0 ∷ 0 ∷ 0 ∷ 4 ∷ 0 ∷ 0 ∷ 0 ∷ 0 ∷ 0 ∷ 0 ∷ 0 ∷ 0 ∷ 0 ∷ 0 ∷ 0 ∷ []) ++ replicate 8164 0
unfolding page_bytes front_bytes framed u16_bytes u32_bytes u64_bytes zeros key_field head_bytes row_bytes entry_bytes
    entry_child_bytes post_child_bytes items_of page_of head row entry tree child leaf
post_leaf_last_page = refl

post_inner_page : page_bytes (page_of 0 21 (PostInner (leaf 24 256 ∷ leaf 25 4294967295 ∷ [])))
    ≡ (8 ∷ 0 ∷ 2 ∷ 0 ∷ 0 ∷ 0 ∷ 0 ∷ 0 ∷ 21 ∷ 0 ∷ 0 ∷ 0 ∷ 0 ∷ 0 ∷ 0 ∷ 0 ∷ 16 ∷ 0 ∷ 0 ∷ 0 ∷ 0 ∷ 0 ∷ 0 ∷ 0 ∷ 24 ∷ 0 ∷ 0 ∷ 0
    ∷ 0 ∷ 1 ∷ 0 ∷ 0 ∷ 25 ∷ 0 ∷ 0 ∷ 0 ∷ 255 ∷ 255 ∷ 255 ∷ 255 ∷ []) ++ replicate 8152 0
unfolding page_bytes front_bytes framed u16_bytes u32_bytes u64_bytes zeros key_field head_bytes row_bytes entry_bytes
    entry_child_bytes post_child_bytes items_of page_of head row entry tree child leaf
post_inner_page = refl

deleted_pending_page : page_bytes (page_of 9 22 (Deleted (gone.Pending (row 4096 ((0 ∷ 97 ∷ []) ∷ []) ∷ []))))
    ≡ (9 ∷ 4 ∷ 1 ∷ 0 ∷ 9 ∷ 0 ∷ 0 ∷ 0 ∷ 22 ∷ 0 ∷ 0 ∷ 0 ∷ 0 ∷ 0 ∷ 0 ∷ 0 ∷ 10 ∷ 0 ∷ 0 ∷ 0 ∷ 0 ∷ 0 ∷ 0 ∷ 0 ∷ 0 ∷ 16 ∷ 0 ∷ 0
    ∷ 1 ∷ 0 ∷ 2 ∷ 0 ∷ 0 ∷ 97 ∷ []) ++ replicate 8158 0
unfolding page_bytes front_bytes framed u16_bytes u32_bytes u64_bytes zeros key_field head_bytes row_bytes entry_bytes
    entry_child_bytes post_child_bytes items_of page_of head row entry tree child leaf
deleted_pending_page = refl

deleted_post_leaf_page : page_bytes (page_of 23 23 (Deleted (gone.PostLeaf 16640 []))) ≡ (9 ∷ 7 ∷ 0 ∷ 0 ∷ 23 ∷ 0 ∷ 0 ∷ 0
    ∷ 23 ∷ 0 ∷ 0 ∷ 0 ∷ 0 ∷ 0 ∷ 0 ∷ 0 ∷ 4 ∷ 0 ∷ 0 ∷ 0 ∷ 0 ∷ 0 ∷ 0 ∷ 0 ∷ 0 ∷ 65 ∷ 0 ∷ 0 ∷ []) ++ replicate 8164 0
unfolding page_bytes front_bytes framed u16_bytes u32_bytes u64_bytes zeros key_field head_bytes row_bytes entry_bytes
    entry_child_bytes post_child_bytes items_of page_of head row entry tree child leaf
deleted_post_leaf_page = refl

deleted_overflow_page : page_bytes (page_of 0 24 (Deleted (gone.Overflow (120 ∷ 121 ∷ 122 ∷ []))))
    ≡ (9 ∷ 3 ∷ 0 ∷ 0 ∷ 0 ∷ 0 ∷ 0 ∷ 0 ∷ 24 ∷ 0 ∷ 0 ∷ 0 ∷ 0 ∷ 0 ∷ 0 ∷ 0 ∷ 3 ∷ 0 ∷ 0 ∷ 0 ∷ 0 ∷ 0 ∷ 0 ∷ 0 ∷ 120 ∷ 121 ∷ 122
    ∷ []) ++ replicate 8165 0
unfolding page_bytes front_bytes framed u16_bytes u32_bytes u64_bytes zeros key_field head_bytes row_bytes entry_bytes
    entry_child_bytes post_child_bytes items_of page_of head row entry tree child leaf
deleted_overflow_page = refl

create_record : record_bytes (record_of 7 0 kind.Create [])
    ≡ 14 ∷ 0 ∷ 0 ∷ 0 ∷ 1 ∷ 0 ∷ 0 ∷ 0 ∷ 0 ∷ 7 ∷ 0 ∷ 0 ∷ 0 ∷ 0 ∷ 0 ∷ 0 ∷ 0 ∷ 0 ∷ []
unfolding record_bytes record_rest change_bytes u16_bytes u32_bytes u64_bytes record_of delta
create_record = refl

begin_record : record_bytes (record_of 7 5 kind.Begin [])
    ≡ 14 ∷ 0 ∷ 0 ∷ 0 ∷ 2 ∷ 5 ∷ 0 ∷ 0 ∷ 0 ∷ 7 ∷ 0 ∷ 0 ∷ 0 ∷ 0 ∷ 0 ∷ 0 ∷ 0 ∷ 0 ∷ []
unfolding record_bytes record_rest change_bytes u16_bytes u32_bytes u64_bytes record_of delta
begin_record = refl

commit_record : record_bytes (record_of 7 5 (kind.Commit 9) [])
    ≡ 18 ∷ 0 ∷ 0 ∷ 0 ∷ 3 ∷ 5 ∷ 0 ∷ 0 ∷ 0 ∷ 7 ∷ 0 ∷ 0 ∷ 0 ∷ 0 ∷ 0 ∷ 0 ∷ 0 ∷ 9 ∷ 0 ∷ 0 ∷ 0 ∷ 0 ∷ []
unfolding record_bytes record_rest change_bytes u16_bytes u32_bytes u64_bytes record_of delta
commit_record = refl

abort_record : record_bytes (record_of 7 5 kind.Abort [])
    ≡ 14 ∷ 0 ∷ 0 ∷ 0 ∷ 4 ∷ 5 ∷ 0 ∷ 0 ∷ 0 ∷ 7 ∷ 0 ∷ 0 ∷ 0 ∷ 0 ∷ 0 ∷ 0 ∷ 0 ∷ 0 ∷ []
unfolding record_bytes record_rest change_bytes u16_bytes u32_bytes u64_bytes record_of delta
abort_record = refl

checkpoint_record : record_bytes (record_of 7 0 (kind.Checkpoint 6) [])
    ≡ 22 ∷ 0 ∷ 0 ∷ 0 ∷ 5 ∷ 0 ∷ 0 ∷ 0 ∷ 0 ∷ 7 ∷ 0 ∷ 0 ∷ 0 ∷ 0 ∷ 0 ∷ 0 ∷ 0 ∷ 6 ∷ 0 ∷ 0 ∷ 0 ∷ 0 ∷ 0 ∷ 0 ∷ 0 ∷ 0 ∷ []
unfolding record_bytes record_rest change_bytes u16_bytes u32_bytes u64_bytes record_of delta
checkpoint_record = refl

place_head_record : record_bytes (record_of 7 5 (kind.PlaceHead 4097 11) []) ≡ 26 ∷ 0 ∷ 0 ∷ 0 ∷ 6 ∷ 5 ∷ 0 ∷ 0 ∷ 0 ∷ 7
    ∷ 0 ∷ 0 ∷ 0 ∷ 0 ∷ 0 ∷ 0 ∷ 0 ∷ 1 ∷ 16 ∷ 0 ∷ 0 ∷ 11 ∷ 0 ∷ 0 ∷ 0 ∷ 0 ∷ 0 ∷ 0 ∷ 0 ∷ 0 ∷ []
unfolding record_bytes record_rest change_bytes u16_bytes u32_bytes u64_bytes record_of delta
place_head_record = refl

put_overflow_record : record_bytes (record_of 7 5 (kind.PutOverflow 4097 11) (delta 2 (2 ∷ 0 ∷ 1 ∷ 0 ∷ 0 ∷ 0 ∷ 0 ∷ 0
    ∷ []) 29 3 (120 ∷ 121 ∷ 122 ∷ []) ∷ delta 3 (2 ∷ 0 ∷ 1 ∷ 0 ∷ 0 ∷ 0 ∷ 0 ∷ 0 ∷ []) 29 3 (120 ∷ 121 ∷ 122 ∷ []) ∷ []))
    ≡ 70 ∷ 0 ∷ 0 ∷ 0 ∷ 7 ∷ 5 ∷ 0 ∷ 0 ∷ 0 ∷ 7 ∷ 0 ∷ 0 ∷ 0 ∷ 0 ∷ 0 ∷ 0 ∷ 0 ∷ 1 ∷ 16 ∷ 0 ∷ 0 ∷ 11 ∷ 0 ∷ 0 ∷ 0 ∷ 0 ∷ 0 ∷ 0
    ∷ 0 ∷ 2 ∷ 2 ∷ 0 ∷ 0 ∷ 0 ∷ 1 ∷ 2 ∷ 0 ∷ 1 ∷ 0 ∷ 0 ∷ 0 ∷ 0 ∷ 0 ∷ 29 ∷ 0 ∷ 3 ∷ 0 ∷ 3 ∷ 0 ∷ 120 ∷ 121 ∷ 122 ∷ 3 ∷ 0 ∷ 0
    ∷ 0 ∷ 1 ∷ 2 ∷ 0 ∷ 1 ∷ 0 ∷ 0 ∷ 0 ∷ 0 ∷ 0 ∷ 29 ∷ 0 ∷ 3 ∷ 0 ∷ 3 ∷ 0 ∷ 120 ∷ 121 ∷ 122 ∷ []
unfolding record_bytes record_rest change_bytes u16_bytes u32_bytes u64_bytes record_of delta
put_overflow_record = refl

mark_deleted_record : record_bytes (record_of 7 5 (kind.MarkDeleted 4097 11)
    (delta 2 (2 ∷ 0 ∷ 1 ∷ 0 ∷ 0 ∷ 0 ∷ 0 ∷ 0 ∷ []) 29 3 (120 ∷ 121 ∷ 122 ∷ []) ∷ []))
    ≡ 48 ∷ 0 ∷ 0 ∷ 0 ∷ 8 ∷ 5 ∷ 0 ∷ 0 ∷ 0 ∷ 7 ∷ 0 ∷ 0 ∷ 0 ∷ 0 ∷ 0 ∷ 0 ∷ 0 ∷ 1 ∷ 16 ∷ 0 ∷ 0 ∷ 11 ∷ 0 ∷ 0 ∷ 0 ∷ 0 ∷ 0 ∷ 0
    ∷ 0 ∷ 1 ∷ 2 ∷ 0 ∷ 0 ∷ 0 ∷ 1 ∷ 2 ∷ 0 ∷ 1 ∷ 0 ∷ 0 ∷ 0 ∷ 0 ∷ 0 ∷ 29 ∷ 0 ∷ 3 ∷ 0 ∷ 3 ∷ 0 ∷ 120 ∷ 121 ∷ 122 ∷ []
unfolding record_bytes record_rest change_bytes u16_bytes u32_bytes u64_bytes record_of delta
mark_deleted_record = refl

put_pending_record : record_bytes (record_of 7 5 (kind.PutPending 4097 11) []) ≡ 26 ∷ 0 ∷ 0 ∷ 0 ∷ 9 ∷ 5 ∷ 0 ∷ 0 ∷ 0 ∷ 7
    ∷ 0 ∷ 0 ∷ 0 ∷ 0 ∷ 0 ∷ 0 ∷ 0 ∷ 1 ∷ 16 ∷ 0 ∷ 0 ∷ 11 ∷ 0 ∷ 0 ∷ 0 ∷ 0 ∷ 0 ∷ 0 ∷ 0 ∷ 0 ∷ []
unfolding record_bytes record_rest change_bytes u16_bytes u32_bytes u64_bytes record_of delta
put_pending_record = refl

add_row_record : record_bytes (record_of 7 5 (kind.AddRow 4097 11) []) ≡ 26 ∷ 0 ∷ 0 ∷ 0 ∷ 10 ∷ 5 ∷ 0 ∷ 0 ∷ 0 ∷ 7 ∷ 0 ∷ 0
    ∷ 0 ∷ 0 ∷ 0 ∷ 0 ∷ 0 ∷ 1 ∷ 16 ∷ 0 ∷ 0 ∷ 11 ∷ 0 ∷ 0 ∷ 0 ∷ 0 ∷ 0 ∷ 0 ∷ 0 ∷ 0 ∷ []
unfolding record_bytes record_rest change_bytes u16_bytes u32_bytes u64_bytes record_of delta
add_row_record = refl

link_pending_record : record_bytes (record_of 7 5 (kind.LinkPending 4097 11) []) ≡ 26 ∷ 0 ∷ 0 ∷ 0 ∷ 11 ∷ 5 ∷ 0 ∷ 0 ∷ 0
    ∷ 7 ∷ 0 ∷ 0 ∷ 0 ∷ 0 ∷ 0 ∷ 0 ∷ 0 ∷ 1 ∷ 16 ∷ 0 ∷ 0 ∷ 11 ∷ 0 ∷ 0 ∷ 0 ∷ 0 ∷ 0 ∷ 0 ∷ 0 ∷ 0 ∷ []
unfolding record_bytes record_rest change_bytes u16_bytes u32_bytes u64_bytes record_of delta
link_pending_record = refl

shift_record : record_bytes (record_of 7 0 kind.Shift [])
    ≡ 14 ∷ 0 ∷ 0 ∷ 0 ∷ 12 ∷ 0 ∷ 0 ∷ 0 ∷ 0 ∷ 7 ∷ 0 ∷ 0 ∷ 0 ∷ 0 ∷ 0 ∷ 0 ∷ 0 ∷ 0 ∷ []
unfolding record_bytes record_rest change_bytes u16_bytes u32_bytes u64_bytes record_of delta
shift_record = refl

add_items_record : record_bytes
    (record_of 7 0 kind.AddItems (delta 2 (2 ∷ 0 ∷ 1 ∷ 0 ∷ 0 ∷ 0 ∷ 0 ∷ 0 ∷ []) 29 3 (120 ∷ 121 ∷ 122 ∷ []) ∷ []))
    ≡ 36 ∷ 0 ∷ 0 ∷ 0 ∷ 13 ∷ 0 ∷ 0 ∷ 0 ∷ 0 ∷ 7 ∷ 0 ∷ 0 ∷ 0 ∷ 0 ∷ 0 ∷ 0 ∷ 0 ∷ 1 ∷ 2 ∷ 0 ∷ 0 ∷ 0 ∷ 1 ∷ 2 ∷ 0 ∷ 1 ∷ 0 ∷ 0
    ∷ 0 ∷ 0 ∷ 0 ∷ 29 ∷ 0 ∷ 3 ∷ 0 ∷ 3 ∷ 0 ∷ 120 ∷ 121 ∷ 122 ∷ []
unfolding record_bytes record_rest change_bytes u16_bytes u32_bytes u64_bytes record_of delta
add_items_record = refl

make_tree_record : record_bytes (record_of 7 0 kind.MakeTree [])
    ≡ 14 ∷ 0 ∷ 0 ∷ 0 ∷ 14 ∷ 0 ∷ 0 ∷ 0 ∷ 0 ∷ 7 ∷ 0 ∷ 0 ∷ 0 ∷ 0 ∷ 0 ∷ 0 ∷ 0 ∷ 0 ∷ []
unfolding record_bytes record_rest change_bytes u16_bytes u32_bytes u64_bytes record_of delta
make_tree_record = refl

add_postings_record : record_bytes (record_of 7 0 kind.AddPostings [])
    ≡ 14 ∷ 0 ∷ 0 ∷ 0 ∷ 15 ∷ 0 ∷ 0 ∷ 0 ∷ 0 ∷ 7 ∷ 0 ∷ 0 ∷ 0 ∷ 0 ∷ 0 ∷ 0 ∷ 0 ∷ 0 ∷ []
unfolding record_bytes record_rest change_bytes u16_bytes u32_bytes u64_bytes record_of delta
add_postings_record = refl

grow_root_record : record_bytes (record_of 7 0 kind.GrowRoot [])
    ≡ 14 ∷ 0 ∷ 0 ∷ 0 ∷ 16 ∷ 0 ∷ 0 ∷ 0 ∷ 0 ∷ 7 ∷ 0 ∷ 0 ∷ 0 ∷ 0 ∷ 0 ∷ 0 ∷ 0 ∷ 0 ∷ []
unfolding record_bytes record_rest change_bytes u16_bytes u32_bytes u64_bytes record_of delta
grow_root_record = refl

split_record : record_bytes (record_of 7 0 kind.Split (delta 2 (2 ∷ 0 ∷ 1 ∷ 0 ∷ 0 ∷ 0 ∷ 0 ∷ 0 ∷ []) 29 3
    (120 ∷ 121 ∷ 122 ∷ []) ∷ delta 3 (2 ∷ 0 ∷ 1 ∷ 0 ∷ 0 ∷ 0 ∷ 0 ∷ 0 ∷ []) 29 3 (120 ∷ 121 ∷ 122 ∷ [])
    ∷ delta 4 (2 ∷ 0 ∷ 1 ∷ 0 ∷ 0 ∷ 0 ∷ 0 ∷ 0 ∷ []) 29 3 (120 ∷ 121 ∷ 122 ∷ []) ∷ [])) ≡ 80 ∷ 0 ∷ 0 ∷ 0 ∷ 17 ∷ 0 ∷ 0 ∷ 0
    ∷ 0 ∷ 7 ∷ 0 ∷ 0 ∷ 0 ∷ 0 ∷ 0 ∷ 0 ∷ 0 ∷ 3 ∷ 2 ∷ 0 ∷ 0 ∷ 0 ∷ 1 ∷ 2 ∷ 0 ∷ 1 ∷ 0 ∷ 0 ∷ 0 ∷ 0 ∷ 0 ∷ 29 ∷ 0 ∷ 3 ∷ 0 ∷ 3 ∷ 0
    ∷ 120 ∷ 121 ∷ 122 ∷ 3 ∷ 0 ∷ 0 ∷ 0 ∷ 1 ∷ 2 ∷ 0 ∷ 1 ∷ 0 ∷ 0 ∷ 0 ∷ 0 ∷ 0 ∷ 29 ∷ 0 ∷ 3 ∷ 0 ∷ 3 ∷ 0 ∷ 120 ∷ 121 ∷ 122 ∷ 4
    ∷ 0 ∷ 0 ∷ 0 ∷ 1 ∷ 2 ∷ 0 ∷ 1 ∷ 0 ∷ 0 ∷ 0 ∷ 0 ∷ 0 ∷ 29 ∷ 0 ∷ 3 ∷ 0 ∷ 3 ∷ 0 ∷ 120 ∷ 121 ∷ 122 ∷ []
unfolding record_bytes record_rest change_bytes u16_bytes u32_bytes u64_bytes record_of delta
split_record = refl

remove_items_record : record_bytes (record_of 7 0 kind.RemoveItems [])
    ≡ 14 ∷ 0 ∷ 0 ∷ 0 ∷ 18 ∷ 0 ∷ 0 ∷ 0 ∷ 0 ∷ 7 ∷ 0 ∷ 0 ∷ 0 ∷ 0 ∷ 0 ∷ 0 ∷ 0 ∷ 0 ∷ []
unfolding record_bytes record_rest change_bytes u16_bytes u32_bytes u64_bytes record_of delta
remove_items_record = refl

delete_post_record : record_bytes (record_of 7 0 kind.DeletePost [])
    ≡ 14 ∷ 0 ∷ 0 ∷ 0 ∷ 19 ∷ 0 ∷ 0 ∷ 0 ∷ 0 ∷ 7 ∷ 0 ∷ 0 ∷ 0 ∷ 0 ∷ 0 ∷ 0 ∷ 0 ∷ 0 ∷ []
unfolding record_bytes record_rest change_bytes u16_bytes u32_bytes u64_bytes record_of delta
delete_post_record = refl

drop_page_record : record_bytes (record_of 7 0 (kind.DropPage 4097 11) []) ≡ 26 ∷ 0 ∷ 0 ∷ 0 ∷ 20 ∷ 0 ∷ 0 ∷ 0 ∷ 0 ∷ 7 ∷ 0
    ∷ 0 ∷ 0 ∷ 0 ∷ 0 ∷ 0 ∷ 0 ∷ 1 ∷ 16 ∷ 0 ∷ 0 ∷ 11 ∷ 0 ∷ 0 ∷ 0 ∷ 0 ∷ 0 ∷ 0 ∷ 0 ∷ 0 ∷ []
unfolding record_bytes record_rest change_bytes u16_bytes u32_bytes u64_bytes record_of delta
drop_page_record = refl

free_slots_record : record_bytes (record_of 7 0 kind.FreeSlots [])
    ≡ 14 ∷ 0 ∷ 0 ∷ 0 ∷ 21 ∷ 0 ∷ 0 ∷ 0 ∷ 0 ∷ 7 ∷ 0 ∷ 0 ∷ 0 ∷ 0 ∷ 0 ∷ 0 ∷ 0 ∷ 0 ∷ []
unfolding record_bytes record_rest change_bytes u16_bytes u32_bytes u64_bytes record_of delta
free_slots_record = refl

-- of the bytes abcdef the two after a are replaced by xyz
overflow_edited : edited 99 (Delta (3 ∷ 0 ∷ 0 ∷ 0 ∷ 5 ∷ 0 ∷ 0 ∷ 0 ∷ []) 1 2 (120 ∷ 121 ∷ 122 ∷ []))
    ((3 ∷ 0 ∷ 0 ∷ 0 ∷ 4 ∷ 0 ∷ 0 ∷ 0 ∷ 14 ∷ 0 ∷ 0 ∷ 0 ∷ 0 ∷ 0 ∷ 0 ∷ 0 ∷ 6 ∷ 0 ∷ 0 ∷ 0 ∷ 0 ∷ 0 ∷ 0 ∷ 0 ∷ 97 ∷ 98 ∷ 99
    ∷ 100 ∷ 101 ∷ 102 ∷ []) ++ replicate 8162 0) ≡ (3 ∷ 0 ∷ 0 ∷ 0 ∷ 5 ∷ 0 ∷ 0 ∷ 0 ∷ 99 ∷ 0 ∷ 0 ∷ 0 ∷ 0 ∷ 0 ∷ 0 ∷ 0 ∷ 7
    ∷ 0 ∷ 0 ∷ 0 ∷ 0 ∷ 0 ∷ 0 ∷ 0 ∷ 97 ∷ 120 ∷ 121 ∷ 122 ∷ 100 ∷ 101 ∷ 102 ∷ []) ++ replicate 8161 0
unfolding edited framed body_in used_in u16_bytes u64_bytes zeros
overflow_edited = refl
