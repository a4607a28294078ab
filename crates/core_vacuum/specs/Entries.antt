-- What an entry has of its key's pairs.
use Rattle.std.specs.Prelude.{◌≡◌, ◌≢◌, ℕ, List, []}
use Rattle.ts_base.specs.Keys.{Key}
use Rattle.page_types.specs.Items.{items_of}
use Rattle.page_types.specs.Views.{entries_of}
use Rattle.page_types.specs.declared.page.Entry.{Entry}
use Rattle.page_types.specs.declared.page.Postings.TheVariants.{Inline}
use Rattle.core_state.specs.Log.{Log, Pages, In, Shows}
use Rattle.core_state.specs.Index.{Main, IsNamed}
use Rattle.core_state.specs.PagesTold.{IsEntryLeaf, IsPostLeaf, OnPostLeaf}
use Rattle.core_state.specs.Legal.{IsLegal}

-- Entries are on leaves of the entry tree. Two of one key are one, on one leaf; so each item of a key's
-- pairs in the main part is in its entry's list, or on a leaf of the tree that it names. What these have
-- is such a pair.
pub record EntriesStand (P : Pages) : Type 0 where
  pub leaf : (p : ℕ) (e : Entry) → In e (entries_of (P p)) → IsEntryLeaf P p
  pub one : (p q : ℕ) (d e : Entry) → In d (entries_of (P p)) → In e (entries_of (P q))
      → d.key ≡ e.key → (p ≡ q) × (d ≡ e)
  pub listed : (k : Key) (i p : ℕ) (e : Entry) (list : List ℕ) → Main P k i
      → In e (entries_of (P p)) → e.key ≡ k → e.postings ≡ Inline list → In i (items_of list)
  pub posted : (k : Key) (i root : ℕ) → Main P k i → IsNamed P k root
      → (q : ℕ) × IsPostLeaf P root q × OnPostLeaf P q i
  pub post_pair : (k : Key) (i root q : ℕ) → IsNamed P k root → IsPostLeaf P root q
      → OnPostLeaf P q i → Main P k i

-- so they do in every legal log
abbrev pub EntriesHold : Type 0
EntriesHold = (R : Log) (P : Pages) → R ≢ [] → IsLegal R → Shows R P → EntriesStand P
