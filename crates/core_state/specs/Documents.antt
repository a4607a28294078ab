-- Documents: their names, heads and chains, the vectors that are there, and who is dead.
use Rattle.std.specs.Prelude.{◌≡◌, ◌≢◌, ℕ, ◌+◌, ◌*◌, ◌/◌, ◌%◌, ◌<◌, ◌≤◌, ◌==◌, cond, List, [], ◌∷◌, ◌++◌, length}
use Rattle.std.specs.Prelude.{Option, Some}
use Rattle.ts_base.specs.Vectors.{Vector}
use Rattle.ts_base.specs.Encoding.{IsEncoding}
use Rattle.page_types.specs.Numbers.{most_slots, most_short}
use Rattle.page_types.specs.Views.{slots_of, slot_at, part_of}
use Rattle.page_types.specs.declared.page.Head.{Head}
use Rattle.page_types.specs.declared.page.Name.{Name}
use Rattle.page_types.specs.declared.record.Kind.{Kind}
use Rattle.page_types.specs.declared.record.Kind.TheVariants as kind
use Rattle.core_state.specs.Log.{Log, Pages, In, fate}
use Rattle.core_state.specs.declared.answers.Fate.TheVariants.{Aborted, Committed}

-- a document as a record names it: its item and its serial
pub record Doc : Type 0 where
  pub item : ℕ
  pub serial : ℕ

-- the document with this item and this serial
abbrev pub doc_at : ℕ → ℕ → Doc
doc_at item serial = record { item = item; serial = serial }

-- the heap page of an item
abbrev pub page_of : ℕ → ℕ
page_of item = item / most_slots

-- the slot of an item on its page
abbrev pub slot_of : ℕ → ℕ
slot_of item = item % most_slots

-- the item of a slot of a page
abbrev pub item_at : ℕ → ℕ → ℕ
item_at page slot = page * most_slots + slot

-- the name of a document
abbrev pub name_of : Doc → Name
name_of d = record { page = page_of d.item; slot = slot_of d.item; serial = d.serial }

-- the head in the item's slot, none where the slot is free or absent
abbrev pub head_of : Pages → ℕ → Option Head
head_of P item = slot_at (slots_of (P (page_of item))) (slot_of item)

-- the document has its slot, with this head
pub record Has (P : Pages) (d : Doc) (h : Head) : Type 0 where
  pub at : head_of P d.item ≡ Some h
  pub serial : h.serial ≡ d.serial

-- these are the pages from p on along right links, up to a link of 0
abbrev pub IsChain : Pages → ℕ → List ℕ → Type 0
IsChain P p [] = p ≡ 0
IsChain P p (q ∷ qs) = (p ≡ q) × (q ≢ 0) × IsChain P (P q).right qs

-- the parts of a vector that are on these pages, one after another
abbrev pub parts : Pages → List ℕ → List ℕ
parts P [] = []
parts P (q ∷ qs) = part_of (P q) ++ parts P qs

-- these bytes are in the head, or on its overflow chain
pub data HasBytes (P : Pages) (h : Head) : List ℕ → Type 0 where
  short : h.bytes ≤ most_short → HasBytes P h h.vector
  long : most_short < h.bytes → (qs : List ℕ) → IsChain P h.overflow qs → HasBytes P h (parts P qs)

-- exactly the head's length of bytes is there, and they are the encoding of v
pub record IsWhole (P : Pages) (h : Head) (v : Vector) : Type 0 where
  pub bytes : List ℕ
  pub there : HasBytes P h bytes
  pub size : length bytes ≡ h.bytes
  pub encodes : IsEncoding bytes v

-- the document has its slot and is whole, with this vector
abbrev pub HasVector : Pages → Doc → Vector → Type 0
HasVector P d v = (h : Head) × Has P d h × IsWhole P h v

-- the documents that transaction x placed, by a record of this kind and xid more
abbrev pub placed_with : Kind → ℕ → ℕ → List Doc → List Doc
placed_with (kind.PlaceHead item serial) xid x ds =
    cond (xid == x) (ds ++ record { item = item; serial = serial } ∷ []) ds
placed_with _ xid x ds = ds

-- the documents that transaction x placed, in order
abbrev pub placed : Log → ℕ → List Doc
placed [] x = []
placed (r ∷ R) x = placed_with r.kind r.xid x (placed R x)

-- the documents that transaction x marked deleted, by a record of this kind and xid more
abbrev pub marked_with : Kind → ℕ → ℕ → List Doc → List Doc
marked_with (kind.MarkDeleted item serial) xid x ds =
    cond (xid == x) (ds ++ record { item = item; serial = serial } ∷ []) ds
marked_with _ xid x ds = ds

-- the documents that transaction x marked deleted, in order
abbrev pub marked : Log → ℕ → List Doc
marked [] x = []
marked (r ∷ R) x = marked_with r.kind r.xid x (marked R x)

-- The `floor` is the number of commits by which a document is dead: where the transaction that
-- placed it was aborted, or one that marked it is among the first `floor` commits. The log alone says
-- so, so that what is dead stays dead when its slot is free or used again.
pub data IsDead (R : Log) (floor : ℕ) (d : Doc) : Type 0 where
  insert_aborted : (x : ℕ) → fate R x ≡ Aborted → In d (placed R x) → IsDead R floor d
  delete_counted : (x n : ℕ) → fate R x ≡ Committed n → n ≤ floor → In d (marked R x)
      → IsDead R floor d
