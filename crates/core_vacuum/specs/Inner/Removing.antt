-- What a record RemoveItems leaves of its page.
use Rattle.std.specs.Prelude.{◌≡◌, ◌≢◌, ℕ, List, length, Some}
use Rattle.std.specs.List.{slice_get}
use Rattle.ts_base.specs.Keys.{Key}
use Rattle.page_types.specs.Items.{items_of}
use Rattle.page_types.specs.declared.page.Page.{Page}
use Rattle.page_types.specs.declared.page.Entry.{Entry}
use Rattle.page_types.specs.declared.page.Postings.TheVariants.{Inline}
use Rattle.page_types.specs.declared.page.Body.TheVariants as body
use Rattle.page_types.specs.declared.record.Record.{Record}
use Rattle.core_state.specs.Log.{In}
use Rattle.core_state.specs.Changes.{made_with}

-- the items of a list are among those of another
pub record AreAmong (new old : List ℕ) : Type 0 where
  pub each : (i : ℕ) → In i (items_of new) → In i (items_of old)

-- the entry stays as it is, or its list is one with fewer items
pub data EntryGoes (old new : Entry) : Type 0 where
  same : old ≡ new → EntryGoes old new
  less : (a b : List ℕ) → old.key ≡ new.key → old.postings ≡ Inline a → new.postings ≡ Inline b → AreAmong b a
      → EntryGoes old new

-- so do all entries, and one at least doesn't stay
pub record EntriesGo (old new : List Entry) : Type 0 where
  pub same_length : length new ≡ length old
  pub each : (k : ℕ) (e f : Entry) → slice_get old k ≡ Some e → slice_get new k ≡ Some f → EntryGoes e f
  pub some : new ≢ old

-- a record leaves a leaf of the entry tree so, and all else of it as it was
pub record EntriesLeft (r : Record) (old new : Page) : Type 0 where
  pub high : Key
  pub entries : List Entry
  pub left : List Entry
  pub was : old.body ≡ body.EntryLeaf high entries
  pub go : EntriesGo entries left
  pub after : new ≡ made_with r old.right (body.EntryLeaf high left)

-- a record leaves a leaf of a posting tree with another list, whose items it had
pub record ListLeft (r : Record) (old new : Page) : Type 0 where
  pub high : ℕ
  pub items : List ℕ
  pub left : List ℕ
  pub was : old.body ≡ body.PostLeaf high items
  pub go : AreAmong left items
  pub some : left ≢ items
  pub after : new ≡ made_with r old.right (body.PostLeaf high left)
