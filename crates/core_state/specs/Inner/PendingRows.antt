-- Rows that a record puts, adds or links, and what it leaves of their pages.
use Rattle.std.specs.Prelude.{◌≡◌, ◌≢◌, ℕ, ◌+◌, List, [], ◌∷◌, ◌++◌}
use Rattle.ts_base.specs.Keys.{Key}
use Rattle.page_types.specs.Keys.{KeyLess, Rising}
use Rattle.page_types.specs.declared.page.Page.{Page}
use Rattle.page_types.specs.declared.page.Row.{Row}
use Rattle.page_types.specs.declared.page.Body.TheVariants as body
use Rattle.page_types.specs.declared.record.Record.{Record}
use Rattle.core_state.specs.Log.{In, changed}
use Rattle.core_state.specs.Index.{keys_on}
use Rattle.core_state.specs.Changes.{made_with}
use Rattle.core_state.specs.PendingRules.{IsLinkHere}
use Rattle.core_state.specs.declared.answers.Fate.{Fate}
use Rattle.core_state.specs.declared.answers.Fate.TheVariants.{Running}

-- the first of these keys is above the last of those before, where there are both
abbrev pub Follow : List Key → List Key → Type 0
Follow before keys =
    (front : List Key) (low high : Key) (back : List Key) → before ≡ front ++ low ∷ []
    → keys ≡ high ∷ back → KeyLess low high

-- a row or more, each of the item, whose keys rise from row to row
pub record AreRowsOf (item : ℕ) (rows : List Row) : Type 0 where
  pub some_row : rows ≢ []
  pub items : (w : Row) → In w rows → w.item ≡ item
  pub rising : Rising KeyLess (keys_on rows)

-- rows begin with others
abbrev pub BeginWith : List Row → List Row → Type 0
BeginWith rows front = (back : List Row) × (rows ≡ front ++ back)

-- the transaction placed the head, and runs
pub record IsPlacedBy (fates : ℕ → Fate) (xid inserted_by : ℕ) : Type 0 where
  pub by : inserted_by ≡ xid
  pub runs : fates xid ≡ Running

-- a record leaves rows of the item on this page, in front of the page `first`
pub record LeavesRows (r : Record) (item first : ℕ) (new : Page) : Type 0 where
  pub rows : List Row
  pub are : AreRowsOf item rows
  pub after : new ≡ made_with r first (body.Pending rows)

-- a record leaves the page with a row of the item after those that it had
pub record AddsRow (r : Record) (item : ℕ) (old new : Page) : Type 0 where
  pub rows : List Row
  pub row : Row
  pub item_is : row.item ≡ item
  pub was : old.body ≡ body.Pending rows
  pub after : new ≡ made_with r old.right (body.Pending (rows ++ row ∷ []))

-- a record leaves the metapage with this first page and a greater number of pages
pub record MetaGrows (r : Record) (first : ℕ) (old new : Page) : Type 0 where
  pub named : ℕ
  pub last : ℕ
  pub count : ℕ
  pub end : ℕ
  pub added : ℕ
  pub was : old.body ≡ body.Meta named last count
  pub some_added : added ≢ 0
  pub after : new ≡ made_with r old.right (body.Meta first end (count + added))

-- a record leaves a pending page with its rows, in front of the page `to`
pub record LeadsOn (r : Record) (to : ℕ) (old new : Page) : Type 0 where
  pub rows : List Row
  pub was : old.body ≡ body.Pending rows
  pub after : new ≡ made_with r to (body.Pending rows)

-- a record leaves pages, of which the first is `to`, behind the pending list, after this heap page
pub record LinksList (r : Record) (heap to : ℕ) (before after : List Page) : Type 0 where
  pub end : ℕ
  pub added : ℕ
  pub old : Page
  pub heap_then : Page
  pub others : List ℕ
  pub others_before : List Page
  pub others_after : List Page
  pub pages : changed r ≡ heap ∷ others
  pub some_added : added ≢ 0
  pub linked : IsLinkHere r to end added others others_before others_after
  pub before_is : before ≡ old ∷ others_before
  pub after_is : after ≡ heap_then ∷ others_after
