-- Which heads a snapshot sees, and what is asked of the state of a log.
use Rattle.std.specs.Prelude.{◌≡◌, ◌↔◌, ℕ, ⊤, Bool, IsTrue, List, [], ◌∷◌, Some, Result, Ok, Err, Vec}
use Rattle.std.specs.declared.alloc.Global.{Global}
use Rattle.std.specs.declared.alloc.AllocError.{AllocError}
use Rattle.page_types.specs.declared.page.Page.{Page}
use Rattle.page_types.specs.declared.page.Head.{Head}
use Rattle.core_state.specs.Documents.{slot_of}
use Rattle.core_state.specs.Standing.{Sees}
use Rattle.core_state.specs.States.{StateValue, fate_of}
use Rattle.core_state.specs.PageChoice.{IsLeast, AreBelow}
use Rattle.core_state.specs.declared.answers.Fate.{Fate}
use Rattle.doc_heap.specs.HeapPages.{head_on}
use Rattle.gin_scan.specs.declared.asks.Extent.{Extent}
use Rattle.gin_scan.specs.declared.asks.SeenHeads.{SeenHeads}

-- a snapshot of n first commits sees the head in the item's slot of its heap page
pub record IsSeen (fates : ℕ → Fate) (n : ℕ) (p : Page) (i : ℕ) : Type 0 where
  pub head : Head
  pub at : head_on p (slot_of i) ≡ Some head
  pub sees : Sees fates n head

-- an answer for each item, in their order: whether it has such a head
abbrev pub AreSeen : (ℕ → Fate) → ℕ → Page → List (ℕ × Bool) → List Bool → Type 0
AreSeen fates n p [] [] = ⊤
AreSeen fates n p [] (b ∷ bs) = ⊥
AreSeen fates n p (k ∷ ks) [] = ⊥
AreSeen fates n p (k ∷ ks) (b ∷ bs) = (IsTrue b ↔ IsSeen fates n p k.0) × AreSeen fates n p ks bs

abbrev pub extent_answer : Extent → StateValue → ℕ → ℕ → ℕ → Type 0
extent_answer ask s floor since n = IsLeast (AreBelow s) n

abbrev pub heads_answer : SeenHeads → StateValue → ℕ → ℕ → Result (Vec Bool Global) AllocError → Type 0
heads_answer ask s floor since (Ok seen) =
    AreSeen (fate_of s) ask.commits ask.page.now ask.items.now seen.items
heads_answer ask s floor since (Err e) = ⊤
