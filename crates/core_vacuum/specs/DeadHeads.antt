-- Dead documents that have their slots.
use Rattle.std.specs.Prelude.{◌≡◌, ◌≢◌, ℕ, ◌<◌, ◌≤◌, List, [], ◌++◌}
use Rattle.page_types.specs.Records.{kind_number}
use Rattle.page_types.specs.declared.page.Head.{Head}
use Rattle.page_types.specs.declared.record.Record.{Record}
use Rattle.core_state.specs.Log.{Log, Pages, In, Shows}
use Rattle.core_state.specs.Documents.{Doc, Has, IsDead}
use Rattle.core_state.specs.Legal.{IsLegal}
use Rattle.core_state.specs.Allowed.{View, IsAllowed}
use Rattle.core_maintenance.specs.Right.{HasRight}

-- the item's document has its slot, and is dead
pub record HasDeadHead (R : Log) (P : Pages) (floor i : ℕ) : Type 0 where
  pub doc : Doc
  pub head : Head
  pub item : doc.item ≡ i
  pub has : Has P doc head
  pub dead : IsDead R floor doc

-- these records take no page off a chain, and free no slot
abbrev pub LeavesHeads : List Record → Type 0
LeavesHeads later = (r : Record) → In r later → kind_number r.kind < 20

-- a dead document that has its slot has it after such records too
abbrev pub DeadHeadsHold : Type 0
DeadHeadsHold =
    (R later R' : Log) (P Q : Pages) → R' ≡ later ++ R → R ≢ [] → IsLegal R' → Shows R P → Shows R' Q
    → LeavesHeads later → (floor i : ℕ) → HasDeadHead R P floor i → HasDeadHead R' Q floor i

-- and in each log that is allowed to a session with the right of maintenance
abbrev pub RightKeepsDeadHeads : Type 0
RightKeepsDeadHeads =
    (v : View) (R : Log) (a : IsAllowed v R) (P : Pages) → HasRight v → Shows v.seen P
    → (floor i : ℕ) → HasDeadHead v.seen P floor i → HasDeadHead R a.pages floor i

-- what is dead by some commits is so by more
abbrev pub MoreAreDead : Type 0
MoreAreDead = (R : Log) (m n : ℕ) (d : Doc) → m ≤ n → IsDead R m d → IsDead R n d
