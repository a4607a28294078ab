-- Lists of names that lie one after the other.
use Rattle.std.specs.Prelude.{ℕ, List}
use Rattle.page_types.specs.declared.page.Name.{Name}

-- the lists, and how many lists and names more have room
pub record Listed : Type 0 where
  pub lists : List (List Name)
  pub lists_left : ℕ
  pub names_left : ℕ
