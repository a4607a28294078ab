-- When a record of the kinds 9 to 12 may come next: rows of documents are put and linked, and leave
-- the pending list.
use Rattle.std.specs.Prelude.{◌≡◌, ◌≢◌, ℕ, suc, ◌+◌, List, [], ◌∷◌, ◌++◌, length}
use Rattle.ts_base.specs.Vectors.{Vector}
use Rattle.ts_base.specs.Keys.{Key, keys_of}
use Rattle.page_types.specs.Keys.{KeyLess, Rising}
use Rattle.page_types.specs.declared.page.Page.{Page}
use Rattle.page_types.specs.declared.page.Head.{Head}
use Rattle.page_types.specs.declared.page.Row.{Row}
use Rattle.page_types.specs.declared.page.Body.TheVariants as body
use Rattle.page_types.specs.declared.page.Gone.TheVariants as gone
use Rattle.page_types.specs.declared.record.Record.{Record}
use Rattle.page_types.specs.declared.record.Kind.TheVariants as kind
use Rattle.core_state.specs.Log.{Log, Pages, In, changed}
use Rattle.core_state.specs.Documents.{Doc, Has, IsChain, IsWhole, HasVector, page_of}
use Rattle.core_state.specs.Index.{Line, rows_on, keys_on, InRows, HasRow, AllMain}
use Rattle.core_state.specs.Known.{Known}
use Rattle.core_state.specs.Changes.{Here, made_with, IsNew, IsHeadChange, IsOwn}
use Rattle.core_state.specs.declared.answers.Fate.TheVariants.{Running}

-- The transaction placed the head and runs; the new page has one row or more, each with the
-- document's item, whose keys rise from row to row, and leads to the head's first private page; it
-- becomes the first.
pub record IsPutPendingHere (since : ℕ) (k : Known) (r : Record)
    (before after : List Page) : Type 0 where
  pub doc : Doc
  pub head : Head
  pub new : ℕ
  pub rows : List Row
  pub old : Page
  pub was : Page
  pub heap_then : Page
  pub kind_is : r.kind ≡ kind.PutPending doc.item doc.serial
  pub pages : changed r ≡ page_of doc.item ∷ new ∷ []
  pub own : IsOwn k r head
  pub is_new : IsNew k.uses since new
  pub some_row : rows ≢ []
  pub items : (w : Row) → In w rows → w.item ≡ doc.item
  pub rising : Rising KeyLess (keys_on rows)
  pub before_is : before ≡ old ∷ was ∷ []
  pub head_after : IsHeadChange r doc old head (record head { private = new }) heap_then
  pub after_is : after ≡ heap_then ∷ made_with r head.private (body.Pending rows) ∷ []

-- The document is whole with this vector, no row of it is linked, and the rows have keys of it
-- alone, which come in key order, each once, before those of the head's private chain.
pub record IsPutPendingRest (P : Pages) (doc : Doc) (head : Head) (rows : List Row) : Type 0 where
  pub vector : Vector
  pub whole : IsWhole P head vector
  pub no_row : HasRow P doc.item → ⊥
  pub keys : (k : Key) → In k (keys_on rows) → In k (keys_of vector)
  pub chain : List ℕ
  pub is_chain : IsChain P head.private chain
  pub rising : Rising KeyLess (keys_on (rows ++ rows_on P chain))

-- 9 PutPending: its pages, and what they lack of the document and its rows
pub record IsPutPending (R : Log) (P Q : Pages) (r : Record) (since : ℕ) : Type 0 where
  pub here : Here (IsPutPendingHere since) R P Q r
  pub rest : IsPutPendingRest P here.doc here.head here.rows

-- the transaction runs, and a row with the item comes after the page's rows
pub record IsAddRowHere (k : Known) (r : Record) (before after : List Page) : Type 0 where
  pub doc : Doc
  pub last : ℕ
  pub rows : List Row
  pub row : Row
  pub old : Page
  pub kind_is : r.kind ≡ kind.AddRow doc.item doc.serial
  pub pages : changed r ≡ last ∷ []
  pub runs : k.fates r.xid ≡ Running
  pub item : row.item ≡ doc.item
  pub before_is : before ≡ old ∷ []
  pub was : old.body ≡ body.Pending rows
  pub after_is : after ≡ made_with r old.right (body.Pending (rows ++ row ∷ [])) ∷ []

-- The transaction placed the document's head; it is whole, and no row of it is linked; the row has
-- exactly its keys; the page is the last of the pending list.
pub record IsAddRowRest (P : Pages) (xid : ℕ) (doc : Doc) (row : Row) (last : ℕ) : Type 0 where
  pub head : Head
  pub has : Has P doc head
  pub by : head.inserted_by ≡ xid
  pub vector : Vector
  pub whole : IsWhole P head vector
  pub no_row : HasRow P row.item → ⊥
  pub keys : row.keys ≡ keys_of vector
  pub front : List ℕ
  pub is_last : Line P (front ++ last ∷ [])

-- 10 AddRow: its page, and what it lacks of the document and of the pending list
pub record IsAddRow (R : Log) (P Q : Pages) (r : Record) : Type 0 where
  pub here : Here IsAddRowHere R P Q r
  pub rest : IsAddRowRest P r.xid here.doc here.row here.last

-- Pages `added`, of which the first is `to` and the last `end`, come after the last page: Meta's
-- last becomes `end` and its number rises; where there is no last page Meta's first becomes `to`,
-- else the last page's right link does. The changed pages after the heap page, before and after.
pub data IsLinkHere (r : Record) (to end added : ℕ) : List ℕ → List Page → List Page → Type 0 where
  empty : (meta : Page) (count : ℕ) → meta.body ≡ body.Meta 0 0 count
      → IsLinkHere r to end added (0 ∷ []) (meta ∷ [])
      (made_with r meta.right (body.Meta to end (count + added)) ∷ [])
  behind : (meta page : Page) (first last count : ℕ) (rows : List Row)
      → meta.body ≡ body.Meta first last count → first ≢ 0
      → page.body ≡ body.Pending rows
      → IsLinkHere r to end added (0 ∷ last ∷ []) (meta ∷ page ∷ [])
      (made_with r meta.right (body.Meta first end (count + added))
      ∷ made_with r to (body.Pending rows) ∷ [])

-- the transaction placed the head and runs; its private chain, which has a page or more, comes
-- after the last page, and the head has none then
pub record IsLinkPendingHere (k : Known) (r : Record) (before after : List Page) : Type 0 where
  pub doc : Doc
  pub head : Head
  pub end : ℕ
  pub added : ℕ
  pub old : Page
  pub heap_then : Page
  pub others : List ℕ
  pub others_before : List Page
  pub others_after : List Page
  pub kind_is : r.kind ≡ kind.LinkPending doc.item doc.serial
  pub pages : changed r ≡ page_of doc.item ∷ others
  pub own : IsOwn k r head
  pub some_page : head.private ≢ 0
  pub some_added : added ≢ 0
  pub linked : IsLinkHere r head.private end added others others_before others_after
  pub before_is : before ≡ old ∷ others_before
  pub head_after : IsHeadChange r doc old head (record head { private = 0 }) heap_then
  pub after_is : after ≡ heap_then ∷ others_after

-- The document is whole with this vector, and no row of it is linked; its private chain has `added`
-- pages, of which `end` is the last, and their rows have all its keys; where another page is
-- changed it is the last of the pending list.
pub record IsLinkPendingRest (P : Pages) (doc : Doc) (head : Head) (end added : ℕ)
    (others : List ℕ) : Type 0 where
  pub vector : Vector
  pub whole : IsWhole P head vector
  pub no_row : HasRow P doc.item → ⊥
  pub front : List ℕ
  pub is_chain : IsChain P head.private (front ++ end ∷ [])
  pub pages : added ≡ length (front ++ end ∷ [])
  pub all_keys : (k : Key) → In k (keys_of vector)
      → InRows (rows_on P (front ++ end ∷ [])) k doc.item
  pub is_last : (last : ℕ) → others ≡ 0 ∷ last ∷ [] → (line : List ℕ) × Line P (line ++ last ∷ [])

-- 11 LinkPending: its pages, and what they lack of the document and of both lists
pub record IsLinkPending (R : Log) (P Q : Pages) (r : Record) : Type 0 where
  pub here : Here IsLinkPendingHere R P Q r
  pub rest : IsLinkPendingRest P here.doc here.head here.end here.added here.others

-- the page is the last of the pending list, which has none then, or another is, which stays the
-- last
pub data IsLastAfter (right last : ℕ) : ℕ → Type 0 where
  none : right ≡ 0 → IsLastAfter right last 0
  same : right ≢ 0 → IsLastAfter right last last

-- the first page of the pending list is deleted and keeps its rows; Meta's first becomes its right
-- link
pub record IsShiftHere (k : Known) (r : Record) (before after : List Page) : Type 0 where
  pub page : ℕ
  pub last : ℕ
  pub count : ℕ
  pub new_last : ℕ
  pub rows : List Row
  pub meta : Page
  pub old : Page
  pub kind_is : r.kind ≡ kind.Shift
  pub pages : changed r ≡ 0 ∷ page ∷ []
  pub before_is : before ≡ meta ∷ old ∷ []
  pub first : meta.body ≡ body.Meta page last (suc count)
  pub was : old.body ≡ body.Pending rows
  pub last_is : IsLastAfter old.right last new_last
  pub after_is : after
      ≡ made_with r meta.right (body.Meta old.right new_last count)
      ∷ made_with r old.right (body.Deleted (gone.Pending rows)) ∷ []

-- 12 Shift: the document of each row on the page has all its keys in the main part
pub record IsShift (R : Log) (P Q : Pages) (r : Record) : Type 0 where
  pub here : Here IsShiftHere R P Q r
  pub rest : (w : Row) → In w here.rows
      → (d : Doc) × (v : Vector) × (d.item ≡ w.item) × HasVector P d v × AllMain P w.item v
