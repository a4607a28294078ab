-- A leaf that lacks some items is what a RemoveItems asks of its page.
use Rattle.std.specs.Prelude.{◌≢◌, ℕ, List}
use Rattle.std.specs.List.{Contains}
use Rattle.page_types.specs.declared.page.Body.{Body}
use Rattle.core_state.specs.Log.{In}
use Rattle.core_state.specs.VacuumRules.{ListsLose, ItemGoes}
use Rattle.posting_tree.specs.Removing.{IsLeafLeft, IsListed}

-- the items that go from the lists of a leaf, one at least and all of them among these, as the record asks
pub record Removes (gone : List ℕ) (old new : Body) : Type 0 where
  pub removed : List ℕ
  pub lists : ListsLose removed old new
  pub went : (i : ℕ) → In i removed → ItemGoes i old new
  pub some : new ≢ old
  pub among : (i : ℕ) → In i removed → Contains gone i

-- so it is of a leaf that lacks some items where it had one of them
abbrev pub LeftLeafIsLogged : Type 0
LeftLeafIsLogged =
    (gone : List ℕ) (old new : Body) → IsLeafLeft gone old new
    → (((i : ℕ) → IsListed old i → Contains gone i → ⊥) → ⊥) → Removes gone old new
