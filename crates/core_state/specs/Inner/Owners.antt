-- Rows and pairs belong to documents; posting trees to entries.
use Rattle.std.specs.Prelude.{◌≡◌, ◌≢◌, ◌⊎◌, ℕ, List, [], Some}
use Rattle.ts_base.specs.Vectors.{Vector}
use Rattle.ts_base.specs.Keys.{Key, keys_of}
use Rattle.page_types.specs.Items.{items_of}
use Rattle.page_types.specs.Views.{rows_of, entries_of, posting_items_in}
use Rattle.page_types.specs.declared.page.Head.{Head}
use Rattle.page_types.specs.declared.page.Row.{Row}
use Rattle.page_types.specs.declared.page.Entry.{Entry}
use Rattle.page_types.specs.declared.page.Postings.TheVariants.{Inline, Root}
use Rattle.core_state.specs.Log.{Log, Pages, In}
use Rattle.core_state.specs.Documents.{Doc, Has, IsWhole, IsDead, head_of, doc_at}
use Rattle.core_state.specs.Bullets.{Owned}
use Rattle.core_state.specs.Inner.Ghosts.{Ghost}
use Rattle.core_state.specs.Inner.Ghosts.Place.{line, post, private_of}

-- some document has the row's item and is whole, and the row's keys are its vector's
pub record RowOwned (P : Pages) (w : Row) : Type 0 where
  pub doc : Doc
  pub head : Head
  pub vector : Vector
  pub item : doc.item ≡ w.item
  pub has : Has P doc head
  pub whole : IsWhole P head vector
  pub keys : (k : Key) → In k w.keys → In k (keys_of vector)

-- Each row of the pending list is owned. A page of an item's private chain has a row and rows of
-- this item alone, which are owned as long as the document isn't dead.
pub record RowsOwned (n : ℕ) (R : Log) (P : Pages) (g : Ghost) : Type 0 where
  pub on_line : (q : ℕ) (w : Row) → g.place q ≡ line → In w (rows_of (P q)) → RowOwned P w
  pub private_row : (q i : ℕ) → g.place q ≡ private_of i → rows_of (P q) ≢ []
  pub private_item : (q i : ℕ) (w : Row) → g.place q ≡ private_of i → In w (rows_of (P q))
      → w.item ≡ i
  pub on_private : (q i : ℕ) (w : Row) (h : Head) → g.place q ≡ private_of i
      → In w (rows_of (P q)) → head_of P i ≡ Some h
      → IsDead R n (doc_at i h.serial) ⊎ RowOwned P w

-- each item in an entry's list, and each on a leaf of a posting tree, is owned with the key
pub record ItemsOwned (P : Pages) (g : Ghost) : Type 0 where
  pub inline : (q i : ℕ) (e : Entry) (bytes : List ℕ) → In e (entries_of (P q))
      → e.postings ≡ Inline bytes → In i (items_of bytes) → Owned P e.key i
  pub posted : (q r i : ℕ) → g.place q ≡ post r 0 → In i (posting_items_in (P q).body)
      → Owned P (g.key_of r) i

-- what an entry names as root is one, of its key, and each root is named by an entry
pub record TreesNamed (P : Pages) (g : Ghost) : Type 0 where
  pub is_root : (q r : ℕ) (e : Entry) → In e (entries_of (P q)) → e.postings ≡ Root r
      → (h : ℕ) × (g.place r ≡ post r h)
  pub key : (q r : ℕ) (e : Entry) → In e (entries_of (P q)) → e.postings ≡ Root r
      → g.key_of r ≡ e.key
  pub named : (r h : ℕ) → g.place r ≡ post r h
      → (q : ℕ) × (e : Entry) × In e (entries_of (P q)) × (e.postings ≡ Root r)
