-- Which items a vacuum takes out, in what its pass has seen.
use Rattle.std.specs.Prelude.{◌≡◌, ℕ, List}
use Rattle.disk_trait.specs.declared.device.Disk.{Ghosts as Disk}
use Rattle.page_types.specs.declared.page.Head.{Head}
use Rattle.core_state.specs.Log.{Log, Pages, In, Shows, cut}
use Rattle.core_state.specs.Documents.{Doc, Has, IsDead}
use Rattle.core_state.specs.VacuumRules.{MayLeave}
use Rattle.core_vacuum.specs.Leaving.{IsSwept, IsOut}
use Rattle.buffer_frames.specs.Frames.{FramesValue, Behind}
use Rattle.buffer_frames.specs.Passes.{Seen}
use Rattle.buffer_frames.specs.declared.pass.Pass.{Pass}

-- the item's document has its slot, and is dead
pub record HasDeadHead (S : Log) (P : Pages) (floor i : ℕ) : Type 0 where
  pub doc : Doc
  pub head : Head
  pub item : doc.item ≡ i
  pub has : Has P doc head
  pub dead : IsDead S floor doc

-- no document that had one of the items in the pages P has its slot in the pages Q
abbrev pub AreFreed : Pages → Pages → List ℕ → Type 0
AreFreed P Q items = (d : Doc) (h h' : Head) → In d.item items → Has P d h → Has Q d h' → ⊥

-- the same of the log that had so many records, and of each log at hand
abbrev pub AreFreedSince : {D : Type 0} → Disk D → ℕ → List ℕ → FramesValue D → Type 0
AreFreedSince device began items f =
    Behind device f (λ (R : Log). (P Q : Pages) → Shows (cut began R) P → Shows R Q → AreFreed P Q items)

module _ {D : Type 0} (device : Disk D) (f : FramesValue D) (pass : Pass) (items : List ℕ) where
  -- the document of each item has its slot and is dead by the pass's floor
  abbrev pub HaveDeadHeads : Type 0
  HaveDeadHeads = Seen device f pass (λ S P. (i : ℕ) → In i items → HasDeadHead S P pass.floor i)

  -- and no linked row has it
  abbrev pub AreDead : Type 0
  AreDead = Seen device f pass (λ S P. (i : ℕ) → In i items → MayLeave S P pass.floor i)

  -- no pair of the main part has one of the items
  abbrev pub AreSwept : Type 0
  AreSwept = Seen device f pass (λ S P. (i : ℕ) → In i items → IsSwept P i)

  -- both
  abbrev pub AreOut : Type 0
  AreOut = Seen device f pass (λ S P. (i : ℕ) → In i items → IsOut S P pass.floor i)
