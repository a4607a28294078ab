-- Why the page that is read next is refused, by what is read.
use Rattle.std.proofs.Common.{◌≡◌, ◌≢◌, ◌⊎◌, ℕ, Bool, List, inl, inr}
use Rattle.std.specs.Prelude.{Result, Ok, Err, IfErr, Some}
use Rattle.std.specs.List.{slice_get}
use Rattle.disk_trait.specs.declared.device.Disk.{Ghosts as Disk}
use Rattle.wal.specs.Waiting.{down_of}
use Rattle.page_types.specs.Pages.{IsPage}
use Rattle.page_types.specs.declared.page.Page.{Page}
use Rattle.core_state.specs.Documents.{page_of}
use Rattle.gin_opclass.specs.Class.{Meaning, JudgeIsSound}
use Rattle.buffer_frames.specs.Frames.{FramesValue, Lies}
use Rattle.buffer_frames.specs.declared.frame_error.FrameError.{FrameError}
use Rattle.buffer_frames.specs.declared.frame_error.FrameError.TheVariants.{DiskFault, BadPage, OutOfMemory}
use Rattle.buffer_frames.specs.declared.pass.Pass.{Pass}
use Rattle.core_moments.specs.Walk.{Sought, first_key, toward}
use Rattle.core_moments.specs.OpenLaws.{IsLeaf, IsPostingPage}
use Rattle.gin_scan.specs.Causes.{HasMeta, HasRows, HasWay, HasPart, HasSlots, CannotRead, CannotStep, IsLawfulRefusal}
use Rattle.gin_scan.specs.Scanning.{sought_in}
use Rattle.gin_scan.specs.Inner.Steps.{MayStep}
use Rattle.gin_scan.specs.declared.scan_core.ScanCore.{ScanCore}
use Rattle.gin_scan.specs.declared.stage.Stage.{Stage}
use Rattle.gin_scan.specs.declared.stage.Stage.TheVariants as stage
use Rattle.gin_scan.proofs.HeadsCalls.{heads_cause, heads_lawful}
use Rattle.gin_scan.proofs.ListCauses.{meta_lawful, page_lawful, step_cause}
use Rattle.gin_scan.proofs.PartsCalls.{parts_lawful}
use Rattle.gin_scan.proofs.PostingCauses.{posting_cause, posting_lawful}
use Rattle.gin_scan.proofs.Refused.{RefusesPage, page_cause, page_calm}
use Rattle.gin_scan.proofs.TreeSteps.{has_way}
use Rattle.gin_scan.proofs.TreeCauses.{way_cause, way_lawful, leaf_cause, leaf_lawful, bad_for}

module _ {D Q : Type 0} (device : Disk D) (M : Meaning Q) (q : Q) (f : FramesValue D) (pass : Pass) (s : ScanCore)
    (may : MayStep device M q f pass s) where
  pub meta_refused : s.stage ≡ stage.Meta → (e : FrameError) → CannotRead f HasMeta 0 e
      → CannotStep f s s.stage e × IsLawfulRefusal device f e
  meta_refused at e why = (step_cause f s stage.Meta e at why, meta_lawful device M q f pass s may e why)

  pub list_refused : (page left : ℕ) → s.stage ≡ stage.Pending page left → page ≢ 0 → (e : FrameError)
      → CannotRead f HasRows page e → CannotStep f s s.stage e × IsLawfulRefusal device f e
  list_refused page left at some e why = (
    step_cause f s (stage.Pending page left) e at (why, λ z. absurd (some z)),
    page_lawful device M q f pass s may page left at some e why,
  )

  pub part_refused : (at page left : ℕ) → s.stage ≡ stage.Parts at page left → page ≢ 0 → (e : FrameError)
      → CannotRead f HasPart page e → CannotStep f s s.stage e × IsLawfulRefusal device f e
  part_refused at page left is some e why = (
    step_cause f s (stage.Parts at page left) e is (why, λ z. absurd (some z)),
    parts_lawful device M q f pass s may at page left is some e why,
  )

  module _ (key page left : ℕ) (w : Sought) (here : slice_get (sought_in s) key ≡ Some w) where
    pub way_refused : s.stage ≡ stage.Down key page left → (e : FrameError) → CannotRead f (HasWay w) page e
        → CannotStep f s s.stage e × IsLawfulRefusal device f e
    way_refused at e why = (
      way_cause f s key page left w e at here why,
      way_lawful device M q f pass s may key page left w here at e why,
    )

    pub leaf_refused : s.stage ≡ stage.Leaf key page left → page ≢ 0 → (e : FrameError) → CannotRead f IsLeaf page e
        → CannotStep f s s.stage e × IsLawfulRefusal device f e
    leaf_refused at some e why = (
      leaf_cause f s key page left e at some why,
      leaf_lawful device M q f pass s may key page left w here at some e why,
    )

    pub tree_refused : (at next read : ℕ) → s.stage ≡ stage.Posting key at page left next read → page ≢ 0
        → (e : FrameError) → CannotRead f IsPostingPage page e
        → CannotStep f s s.stage e × IsLawfulRefusal device f e
    tree_refused at next read is some e why = (
      posting_cause f s key at page left next read e is some why,
      posting_lawful device M q f pass s may key at page left next read w here is some e why,
    )

  module _ (sound : JudgeIsSound M) (at number : ℕ) (is : s.stage ≡ stage.Heads at) (k : ℕ × Bool)
      (there : slice_get s.kept.items at ≡ Some k) (same : number ≡ page_of k.0) where
    pub heads_refused : (e : FrameError) → CannotRead f HasSlots number e
        → CannotStep f s s.stage e × IsLawfulRefusal device f e
    heads_refused e why = (
      heads_cause f s at number k e is there same why,
      heads_lawful device M sound q f pass s may at is number k e there same why,
    )

    -- the page was held, and is refused
    pub heads_off : (b : FramesValue D) (next : Result Stage FrameError) (c : Page) → IsPage c → Lies f number c
        → down_of b.journal.wal ≡ down_of f.journal.wal → IfErr next (RefusesPage b HasSlots number c)
        → IfErr next (λ (e : FrameError). (e ≢ DiskFault) × CannotStep f s s.stage e × IsLawfulRefusal device f e)
    heads_off b (Ok z) c page lies down bad = tt
    heads_off b (Err e) c page lies down bad =
        let z = heads_refused e (page_cause f b HasSlots number c e page lies down bad) in
        (page_calm b HasSlots number c e bad, z.0, z.1)

-- a page that is no metapage has not what it has to have
pub meta_off : (next : Result Stage FrameError) (p : ℕ) (c : Page)
    → IfErr next (λ (e : FrameError). (e ≡ BadPage p) × (HasMeta c → ⊥))
    → IfErr next (λ (e : FrameError). (e ≡ OutOfMemory) ⊎ ((e ≡ BadPage p) × (HasMeta c → ⊥)))
meta_off (Ok z) p c bad = tt
meta_off (Err e) p c bad = inr bad

-- so is one that is on the way of no key with this number
pub way_off : (next : Result Stage FrameError) (sought : List Sought) (key p : ℕ) (c : Page) (w : Sought)
    → slice_get sought key ≡ Some w
    → IfErr next (λ (e : FrameError). (e ≡ OutOfMemory)
    ⊎ ((e ≡ BadPage p) × ((u : Sought) → slice_get sought key ≡ Some u → HasWay u c → ⊥)))
    → IfErr next (λ (e : FrameError). (e ≡ OutOfMemory) ⊎ ((e ≡ BadPage p) × (HasWay w c → ⊥)))
way_off (Ok z) sought key p c w here bad = tt
way_off (Err e) sought key p c w here bad = bad_for sought key HasWay e p c w here bad

-- a page on the way of a key that leads no further, and is no leaf
pub way_off_leaf : (sought : List Sought) (key : ℕ) (c : Page) (p : ℕ) (next : Result Stage FrameError)
    → ((w : Sought) → slice_get sought key ≡ Some w → toward (first_key w) c ≡ 0)
    → IfErr next (λ (e : FrameError). (e ≡ OutOfMemory) ⊎ ((e ≡ BadPage p) × (IsLeaf c → ⊥)))
    → IfErr next (λ (e : FrameError). (e ≡ OutOfMemory)
    ⊎ ((e ≡ BadPage p) × ((w : Sought) → slice_get sought key ≡ Some w → HasWay w c → ⊥)))
way_off_leaf sought key c p (Ok z) ended bad = tt
way_off_leaf sought key c p (Err e) ended (inl none) = inl none
way_off_leaf sought key c p (Err e) ended (inr bad) =
    inr (bad.0, λ w here way. bad.1 (has_way w c way (ended w here)))
