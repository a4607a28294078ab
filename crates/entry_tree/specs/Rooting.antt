-- A leaf of the entry tree with an entry that leads to a posting tree.
use Rattle.std.specs.Prelude.{◌≡◌, ℕ, List, Some}
use Rattle.std.specs.List.{slice_get}
use Rattle.page_types.specs.Views.{entries_in, with_postings}
use Rattle.page_types.specs.declared.page.Postings.TheVariants.{Root}
use Rattle.page_types.specs.declared.page.Body.{Body}
use Rattle.page_types.specs.declared.page.Body.TheVariants as body
use Rattle.entry_tree.specs.Reading.{upper_in}
use Rattle.entry_tree.specs.Adding.{list_entry}

-- the entry with this number has its items in a list
pub record HasListAt (content : Body) (place : ℕ) : Type 0 where
  pub key : List ℕ
  pub list : List ℕ
  pub there : slice_get (entries_in content) place ≡ Some (list_entry key list)

-- the leaf whose entry with this number leads to the posting tree with this root
abbrev pub rooted : Body → ℕ → ℕ → Body
rooted content place root = body.EntryLeaf (upper_in content) (with_postings (entries_in content) place (Root root))
