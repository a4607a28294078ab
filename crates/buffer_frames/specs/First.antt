-- The record that makes a store.
use Rattle.std.specs.Prelude.{ℕ, List, [], ◌∷◌}
use Rattle.page_types.specs.Encoding.{page_bytes}
use Rattle.page_types.specs.declared.page.Page.{Page}
use Rattle.page_types.specs.declared.page.Body.{Body}
use Rattle.page_types.specs.declared.page.Body.TheVariants as body
use Rattle.page_types.specs.declared.record.Change.{Change}
use Rattle.page_types.specs.declared.record.Edit.TheVariants.{Image}
use Rattle.page_types.specs.declared.record.Kind.TheVariants as kind
use Rattle.page_types.specs.declared.record.Record.{Record}
use Rattle.core_state.specs.Allowed.{Sheet}

-- the page is changed by its image
abbrev pub imaged : ℕ → Page → Change
imaged page content = record { page = page; edit = Image (page_bytes content) }

-- a page as the first record leaves it
abbrev pub first_page : Body → Page
first_page content = record { right = 0; stamp = 1; body = content }

-- the pages that the first record leaves
abbrev pub first_sheets : List Sheet
first_sheets =
    record { page = 0; content = first_page (body.Meta 0 0 0) }
    ∷ record { page = 1; content = first_page (body.EntryLeaf [] []) }
    ∷ []

-- an empty metapage and an empty leaf of the entry tree are made
abbrev pub first_record : Record
first_record = record {
  number = 1;
  xid = 0;
  kind = kind.Create;
  changes =
      imaged 0 (first_page (body.Meta 0 0 0))
      ∷ imaged 1 (first_page (body.EntryLeaf [] []))
      ∷ [];
}
