-- The pages that are made here are what the records of their kinds ask of pages.
use Rattle.std.specs.Prelude.{◌≡◌, ℕ, List, [], ◌∷◌, ◌++◌}
use Rattle.std.specs.List.{flat_map}
use Rattle.page_types.specs.Keys.{KeyLess, Rising}
use Rattle.page_types.specs.Views.{rows_of}
use Rattle.page_types.specs.declared.page.Page.{Page}
use Rattle.page_types.specs.declared.page.Head.{Head}
use Rattle.page_types.specs.declared.record.Record.{Record}
use Rattle.page_types.specs.declared.record.Kind.TheVariants as kind
use Rattle.core_state.specs.Log.{In, changed}
use Rattle.core_state.specs.Documents.{Doc, page_of}
use Rattle.core_state.specs.Index.{keys_on, InRows}
use Rattle.core_state.specs.Known.{Known}
use Rattle.core_state.specs.Changes.{made_with, IsNew, IsHeadChange, IsOwn}
use Rattle.core_state.specs.PendingRules.{IsPutPendingHere, IsAddRowHere}
use Rattle.core_state.specs.declared.answers.Fate.TheVariants.{Running}
use Rattle.pending_list.specs.Packing.{AreKeys, ArePacked}
use Rattle.pending_list.specs.Adding.{IsPendingPage, with_row}

-- a pending page with a row of the document more is what an AddRow asks of its page
abbrev pub AddedRowIsLogged : Type 0
AddedRowIsLogged =
    (k : Known) (r : Record) (d : Doc) (p : ℕ) (old : Page) (keys : List (List ℕ))
    → IsPendingPage old → r.kind ≡ kind.AddRow d.item d.serial → changed r ≡ p ∷ []
    → k.fates r.xid ≡ Running
    → IsAddRowHere k r (old ∷ []) (made_with r old.right (with_row old d.item keys) ∷ [])

-- A page of the document's packing is what a PutPending asks of its new page, once it leads to the
-- head's first private page. What it asks of the heap page is given.
abbrev pub PackedPageIsLogged : Type 0
PackedPageIsLogged =
    (k : Known) (r : Record) (since : ℕ) (d : Doc) (h : Head) (new : ℕ) (old was heap_then page : Page)
    (keys : List (List ℕ)) (pages : List Page)
    → ArePacked d.item keys pages → AreKeys keys → In page pages
    → r.kind ≡ kind.PutPending d.item d.serial → changed r ≡ page_of d.item ∷ new ∷ []
    → IsOwn k r h → IsNew k.uses since new
    → IsHeadChange r d old h (record h { private = new }) heap_then
    → IsPutPendingHere since k r (old ∷ was ∷ []) (heap_then ∷ made_with r h.private page.body ∷ [])

-- the rows of all pages of a packing have just the keys, in their order, and each key is in a row of
-- the item
pub record HaveAll (item : ℕ) (keys : List (List ℕ)) (pages : List Page) : Type 0 where
  pub keys_are : keys_on (flat_map rows_of pages) ≡ keys
  pub each : (k : List ℕ) → In k keys → InRows (flat_map rows_of pages) k item

abbrev pub PackedRowsHaveAll : Type 0
PackedRowsHaveAll =
    (item : ℕ) (keys : List (List ℕ)) (pages : List Page)
    → ArePacked item keys pages → HaveAll item keys pages

-- the keys of a page of a packing are of the document, and come before those of the pages after it
pub record ComesBefore (keys : List (List ℕ)) (page : Page) (back : List Page) : Type 0 where
  pub of_document : (k : List ℕ) → In k (keys_on (rows_of page)) → In k keys
  pub rising : Rising KeyLess (keys_on (rows_of page ++ flat_map rows_of back))

abbrev pub PackedPagesFollow : Type 0
PackedPagesFollow =
    (item : ℕ) (keys : List (List ℕ)) (front : List Page) (page : Page) (back : List Page)
    → ArePacked item keys (front ++ page ∷ back) → AreKeys keys → ComesBefore keys page back
