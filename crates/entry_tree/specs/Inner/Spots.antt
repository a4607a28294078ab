-- A key's place among the entries of a leaf.
use Rattle.std.specs.Prelude.{◌≡◌, ℕ, suc, ◌<◌, ◌≤◌, Bool, true, false, List, [], ◌∷◌, ◌++◌, length, take, drop, Some}
use Rattle.std.specs.List.{slice_get, insert}
use Rattle.page_types.specs.Keys.{KeyLess}
use Rattle.page_types.specs.Views.{entries_in, with_postings}
use Rattle.page_types.specs.declared.page.Entry.{Entry}
use Rattle.page_types.specs.declared.page.Body.{Body}
use Rattle.page_types.specs.declared.page.Body.TheVariants as body
use Rattle.core_state.specs.Log.{In}
use Rattle.entry_tree.specs.Reading.{upper_in}
use Rattle.entry_tree.specs.Adding.{list_entry}

-- the entries after a place, or after the entry that is there
abbrev pub entries_after : List Entry → ℕ → Bool → List Entry
entries_after entries place true = drop (suc place) entries
entries_after entries place false = drop place entries

-- all entries before the place are below the key, and all after it above
pub record AreAround (entries : List Entry) (key : List ℕ) (place : ℕ) (there : Bool) : Type 0 where
  pub above : (e : Entry) → In e (take place entries) → KeyLess e.key key
  pub below : (e : Entry) → In e (entries_after entries place there) → KeyLess key e.key

-- the key's entry is at the place, with this list; or it belongs there, and there is no list yet
pub data IsSpot (entries : List Entry) (key : List ℕ) (place : ℕ) : Bool → List ℕ → Type 0 where
  here : (list : List ℕ) → slice_get entries place ≡ Some (list_entry key list)
      → AreAround entries key place true → IsSpot entries key place true list
  absent : place ≤ length entries → AreAround entries key place false → IsSpot entries key place false []

-- the entries with this list of the key at its place
abbrev pub entries_with : List Entry → List ℕ → ℕ → Bool → List ℕ → List Entry
entries_with entries key place there list =
    take place entries ++ list_entry key list ∷ entries_after entries place there

-- the leaf with them
abbrev pub leaf_at : Body → List ℕ → ℕ → Bool → List ℕ → Body
leaf_at content key place there list =
    body.EntryLeaf (upper_in content) (entries_with (entries_in content) key place there list)

-- an entry is at the place, or may come there
abbrev pub IsPlace : List Entry → ℕ → Bool → Type 0
IsPlace entries place true = place < length entries
IsPlace entries place false = place ≤ length entries

-- the entry at the place has this one's postings, or this one comes there
abbrev pub entries_put : List Entry → ℕ → Bool → Entry → List Entry
entries_put entries place true e = with_postings entries place e.postings
entries_put entries place false e = insert entries place e

-- the leaf with it
abbrev pub leaf_put : Body → ℕ → Bool → Entry → Body
leaf_put content place there e = body.EntryLeaf (upper_in content) (entries_put (entries_in content) place there e)
