-- What references to parts of a page show.
use Rattle.std.specs.Prelude.{ℕ, ◌-◌, List, take, drop}
use Rattle.page_types.specs.declared.page.Head.{Head}
use Rattle.page_types.specs.declared.page.Row.{Row}
use Rattle.page_types.specs.declared.page.Entry.{Entry}
use Rattle.page_types.specs.declared.page.EntryChild.{EntryChild}
use Rattle.page_types.specs.declared.page.Postings.{Postings}
use Rattle.page_types.specs.declared.page.Postings.TheVariants.{Inline, Root}
use Rattle.page_types.specs.declared.slots.HeadFields.{HeadFields}
use Rattle.page_types.specs.declared.slots.HeadRef.{HeadRef}
use Rattle.page_types.specs.declared.pieces.PiecesRef.{PiecesRef}
use Rattle.page_types.specs.declared.rows.RowRef.{RowRef}
use Rattle.page_types.specs.declared.entries.EntryRef.{EntryRef}
use Rattle.page_types.specs.declared.entries.PostingsRef.{PostingsRef}
use Rattle.page_types.specs.declared.entries.PostingsRef.TheVariants as by_ref
use Rattle.page_types.specs.declared.inners.EntryChildRef.{EntryChildRef}

-- the head with these fields and this vector
abbrev pub head_with : HeadFields → List ℕ → Head
head_with f vector = record {
  serial = f.serial;
  inserted_by = f.inserted_by;
  deleted_by = f.deleted_by;
  overflow = f.overflow;
  private = f.private;
  bytes = f.bytes;
  vector = vector;
}

abbrev pub head_shown : HeadRef → Head
head_shown r = head_with r.fields r.vector.now

abbrev pub pieces_shown : PiecesRef → List (List ℕ)
pieces_shown r = take (r.to - r.from) (drop r.from r.all.now)

abbrev pub row_shown : RowRef → Row
row_shown r = record { item = r.item; keys = pieces_shown r.keys }

abbrev pub postings_shown : PostingsRef → Postings
postings_shown (by_ref.Inline items) = Inline items.now
postings_shown (by_ref.Root root) = Root root

abbrev pub entry_shown : EntryRef → Entry
entry_shown r = record { key = r.key.now; postings = postings_shown r.postings }

abbrev pub child_shown : EntryChildRef → EntryChild
child_shown r = record { page = r.page; bound = r.bound.now }
