-- What is asked of the state of a log.
use Rattle.std.specs.Prelude.{◌≡◌, ◌↔◌, ℕ, suc, ◌*◌, ◌<◌, ◌≤◌, List, length, Option, Some, ⊤, Result, Ok, Err}
use Rattle.std.specs.declared.alloc.AllocError.{AllocError}
use Rattle.page_types.specs.Items.{AreItemsFrom}
use Rattle.page_types.specs.Numbers.{most_slots}
use Rattle.page_types.specs.Views.{slots_of, slot_at}
use Rattle.page_types.specs.declared.page.Head.{Head}
use Rattle.core_state.specs.Log.{In}
use Rattle.core_state.specs.Changes.{IsDeadHead}
use Rattle.core_state.specs.Documents.{item_at}
use Rattle.core_state.specs.PageChoice.{IsLeastIfAny}
use Rattle.core_state.specs.States.{StateValue, fate_of}
use Rattle.core_state.specs.declared.answers.Fate.{Fate}
use Rattle.gin_vacuum.specs.declared.asks.HeapFrom.{HeapFrom}
use Rattle.gin_vacuum.specs.declared.asks.DeadOn.{DeadOn}
use Rattle.gin_vacuum.specs.declared.asks.Dead.{Dead}

-- the slot is one of the first k, and its head says that its document is dead
pub record IsDeadSlot (fates : ℕ → Fate) (floor page : ℕ) (slots : List (Option Head)) (k i : ℕ) : Type 0 where
  pub slot : ℕ
  pub head : Head
  pub below : slot < k
  pub item : i ≡ item_at page slot
  pub at : slot_at slots slot ≡ Some head
  pub dead : IsDeadHead fates floor head

-- these are the items of those of the first k slots of the page whose documents are dead, in their order
pub record AreDeadTo (fates : ℕ → Fate) (floor page : ℕ) (slots : List (Option Head)) (k : ℕ) (items : List ℕ)
    : Type 0 where
  pub each : (i : ℕ) → In i items ↔ IsDeadSlot fates floor page slots k i
  pub rise : (last : ℕ) → last < page * most_slots → AreItemsFrom last items

-- the first heap page that is not below this one
abbrev pub IsHeapFrom : ℕ → StateValue → Option ℕ → Type 0
IsHeapFrom page s next = IsLeastIfAny (λ p. (page ≤ p) × In p s.heaps) next

abbrev pub heap_answer : HeapFrom → StateValue → ℕ → ℕ → Option ℕ → Type 0
heap_answer ask s floor since next = IsHeapFrom ask.page s next

abbrev pub dead_answer : DeadOn → StateValue → ℕ → ℕ → Result Dead AllocError → Type 0
dead_answer ask s floor since (Ok dead) =
    AreDeadTo (fate_of s) floor ask.held.now.page (slots_of ask.held.now.content)
    (length (slots_of ask.held.now.content)) dead.items.items
    × IsHeapFrom (suc ask.held.now.page) s dead.next
dead_answer ask s floor since (Err e) = ⊤
