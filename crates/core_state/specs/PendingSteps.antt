-- What a session shows before it logs rows of an own document: it puts them on a page of their own,
-- adds one to the pending list, or links those that it put. And what holds then.
use Rattle.std.specs.Prelude.{◌≡◌, ◌≢◌, ◌⊎◌, ℕ, ◌+◌, ◌<◌, List, [], ◌∷◌, ◌++◌, length}
use Rattle.ts_base.specs.Vectors.{Vector}
use Rattle.ts_base.specs.Keys.{Key, keys_of}
use Rattle.page_types.specs.Keys.{KeyLess, Rising}
use Rattle.page_types.specs.Records.{kind_number}
use Rattle.page_types.specs.declared.page.Page.{Page}
use Rattle.page_types.specs.declared.page.Head.{Head}
use Rattle.page_types.specs.declared.page.Row.{Row}
use Rattle.page_types.specs.declared.page.Body.TheVariants as body
use Rattle.page_types.specs.declared.record.Record.{Record}
use Rattle.page_types.specs.declared.record.Kind.TheVariants as kind
use Rattle.core_state.specs.Log.{Log, Pages, In, Shows, changed}
use Rattle.core_state.specs.Documents.{Doc, Has, IsChain, IsWhole, page_of}
use Rattle.core_state.specs.Index.{rows_on, keys_on, InRows, HasRow, IsIndexed}
use Rattle.core_state.specs.Legal.{IsLegal}
use Rattle.core_state.specs.RecordKeeps.{SameRows}
use Rattle.core_state.specs.Allowed.{Sheet, View, Step}
use Rattle.core_state.specs.Steps.{sheet, RunsOwn, IsNewSheet, ChangesHead}

-- A page with rows of a document, whose head an own transaction placed, is put in front of those
-- that the head leads to. The document is whole, and no row of it is linked; the rows have keys of it
-- alone, in key order, each once, before those that are on the head's private chain.
pub record CanPutPending (v : View) (P : Pages) (s : Step) : Type 0 where
  pub doc : Doc
  pub head : Head
  pub vector : Vector
  pub new : ℕ
  pub rows : List Row
  pub chain : List ℕ
  pub old : Page
  pub old_rows : Page
  pub heap : Page
  pub put : Page
  pub kind_is : s.kind ≡ kind.PutPending doc.item doc.serial
  pub after_is : s.after ≡ sheet (page_of doc.item) heap ∷ sheet new put ∷ []
  pub own : RunsOwn v s.xid
  pub placed_by : head.inserted_by ≡ s.xid
  pub held : In (sheet (page_of doc.item) old) v.held
  pub held_rows : In (sheet new old_rows) v.held
  pub is_new : IsNewSheet P v.since new old_rows
  pub whole : IsWhole P head vector
  pub no_row : HasRow P doc.item → ⊥
  pub some_row : rows ≢ []
  pub items : (w : Row) → In w rows → w.item ≡ doc.item
  pub keys : (k : Key) → In k (keys_on rows) → In k (keys_of vector)
  pub is_chain : IsChain P head.private chain
  pub rising : Rising KeyLess (keys_on (rows ++ rows_on P chain))
  pub head_after : ChangesHead doc old head (record head { private = new }) heap
  pub right : put.right ≡ head.private
  pub content : put.body ≡ body.Pending rows

-- A row with all keys of a document, whose head an own transaction placed, comes after those of the
-- page that the metapage names last. The document is whole, and no row of it is linked.
pub record CanAddRow (v : View) (P : Pages) (s : Step) : Type 0 where
  pub doc : Doc
  pub head : Head
  pub vector : Vector
  pub first : ℕ
  pub last : ℕ
  pub count : ℕ
  pub rows : List Row
  pub row : Row
  pub meta : Page
  pub old : Page
  pub new : Page
  pub kind_is : s.kind ≡ kind.AddRow doc.item doc.serial
  pub after_is : s.after ≡ sheet last new ∷ []
  pub own : RunsOwn v s.xid
  pub has : Has P doc head
  pub placed_by : head.inserted_by ≡ s.xid
  pub whole : IsWhole P head vector
  pub no_row : HasRow P doc.item → ⊥
  pub held_meta : In (sheet 0 meta) v.held
  pub held : In (sheet last old) v.held
  pub meta_is : meta.body ≡ body.Meta first last count
  pub some_last : last ≢ 0
  pub was : old.body ≡ body.Pending rows
  pub item : row.item ≡ doc.item
  pub keys : row.keys ≡ keys_of vector
  pub right : new.right ≡ old.right
  pub content : new.body ≡ body.Pending (rows ++ row ∷ [])

-- Pages `added`, of which the first is `to` and the last `end`, come after the page that the metapage
-- names last, as the session holds both; where it names none they are the list. The pages of the
-- list that are left so.
pub data LinksAtEnd (v : View) (to end added : ℕ) : List Sheet → Type 0 where
  empty : (first count : ℕ) (meta meta_then : Page) → In (sheet 0 meta) v.held
      → meta.body ≡ body.Meta first 0 count → meta_then.right ≡ meta.right
      → meta_then.body ≡ body.Meta to end (count + added)
      → LinksAtEnd v to end added (sheet 0 meta_then ∷ [])
  behind : (first last count : ℕ) (rows : List Row) (meta page meta_then page_then : Page)
      → In (sheet 0 meta) v.held → In (sheet last page) v.held
      → meta.body ≡ body.Meta first last count → last ≢ 0 → page.body ≡ body.Pending rows
      → meta_then.right ≡ meta.right → meta_then.body ≡ body.Meta first end (count + added)
      → page_then.right ≡ to → page_then.body ≡ body.Pending rows
      → LinksAtEnd v to end added (sheet 0 meta_then ∷ sheet last page_then ∷ [])

-- The private chain of a document, whose head an own transaction placed, comes to the pending list,
-- and the head has none then. The document is whole, no row of it is linked, and the chain's rows
-- have all its keys.
pub record CanLinkPending (v : View) (P : Pages) (s : Step) : Type 0 where
  pub doc : Doc
  pub head : Head
  pub vector : Vector
  pub front : List ℕ
  pub end : ℕ
  pub old : Page
  pub heap : Page
  pub list : List Sheet
  pub kind_is : s.kind ≡ kind.LinkPending doc.item doc.serial
  pub after_is : s.after ≡ sheet (page_of doc.item) heap ∷ list
  pub own : RunsOwn v s.xid
  pub placed_by : head.inserted_by ≡ s.xid
  pub held : In (sheet (page_of doc.item) old) v.held
  pub whole : IsWhole P head vector
  pub no_row : HasRow P doc.item → ⊥
  pub is_chain : IsChain P head.private (front ++ end ∷ [])
  pub all_keys : (k : Key) → In k (keys_of vector)
      → InRows (rows_on P (front ++ end ∷ [])) k doc.item
  pub links : LinksAtEnd v head.private end (length (front ++ end ∷ [])) list
  pub head_after : ChangesHead doc old head (record head { private = 0 }) heap

-- where the newest record of a legal log is an AddRow or a LinkPending, its document is indexed
abbrev pub LinkedIsIndexed : Type 0
LinkedIsIndexed =
    (R : Log) (r : Record) (Q : Pages) (d : Doc) → IsLegal (r ∷ R) → Shows (r ∷ R) Q
    → (r.kind ≡ kind.AddRow d.item d.serial) ⊎ (r.kind ≡ kind.LinkPending d.item d.serial)
    → IsIndexed Q d

-- A page of rows came in front of those that a head led to: the document's head leads to it, and it
-- to the others, which are as they were. The document is whole as it was, and no row of it is linked
-- where none was.
pub record RowsInFront (P Q : Pages) (d : Doc) (h : Head) (chain : List ℕ) (new : ℕ) : Type 0 where
  pub has : Has Q d (record h { private = new })
  pub is_chain : IsChain Q new (new ∷ chain)
  pub same : (q : ℕ) → In q chain → Q q ≡ P q
  pub whole : (w : Vector) → IsWhole P h w → IsWhole Q (record h { private = new }) w
  pub no_row : (HasRow P d.item → ⊥) → HasRow Q d.item → ⊥

-- so it is where the newest record of a legal log is a PutPending
abbrev pub PutIsInFront : Type 0
PutIsInFront =
    (R : Log) (r : Record) (P Q : Pages) (d : Doc) (h : Head) (chain : List ℕ) (new : ℕ)
    → IsLegal (r ∷ R) → Shows R P → Shows (r ∷ R) Q → r.kind ≡ kind.PutPending d.item d.serial
    → changed r ≡ page_of d.item ∷ new ∷ [] → Has P d h → IsChain P h.private chain
    → RowsInFront P Q d h chain new

-- a record of none of the kinds 10 to 12, after a log that isn't empty, links no row and unlinks none
abbrev pub OthersKeepRows : Type 0
OthersKeepRows =
    (R : Log) (r : Record) (P Q : Pages) → R ≢ [] → IsLegal (r ∷ R) → Shows R P → Shows (r ∷ R) Q
    → (kind_number r.kind < 10) ⊎ (12 < kind_number r.kind) → SameRows P Q
