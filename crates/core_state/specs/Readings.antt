-- Pages as they were read, at rising moments of a log.
use Rattle.std.specs.Prelude.{◌≡◌, ℕ, ◌≤◌, List, [], ◌∷◌, length, ⊤}
use Rattle.page_types.specs.declared.page.Page.{Page}
use Rattle.core_state.specs.Log.{Log, Pages, Shows, cut}

-- a page as it was when the log had this length
pub record Read : Type 0 where
  pub length : ℕ
  pub page : ℕ
  pub content : Page

-- the page's content in the pages of the first so many records
abbrev pub WasShown : Log → Read → Type 0
WasShown R x = (P : Pages) × Shows (cut x.length R) P × (P x.page ≡ x.content)

-- these pages were read, the oldest read first, at lengths of the log that don't fall, from `from`
-- on
abbrev pub AreReads : Log → ℕ → List Read → Type 0
AreReads R from [] = ⊤
AreReads R from (x ∷ xs) =
    (from ≤ x.length) × (x.length ≤ length R) × WasShown R x × AreReads R x.length xs
