-- Why a step of a scan is refused.
use Rattle.std.proofs.Common.{◌≡◌, ◌≢◌, ◌⊎◌, ℕ, refl, sym, subst, ◌∙◌, inl, inr}
use Rattle.std.specs.Prelude.{Result, Ok, Err, Some, IfErr, OnErr, ⊤}
use Rattle.disk_trait.specs.declared.device.Disk.{Ghosts as Disk}
use Rattle.wal.specs.Waiting.{down_of}
use Rattle.page_types.specs.Pages.{IsPage}
use Rattle.page_types.specs.declared.page.Page.{Page}
use Rattle.page_types.specs.declared.page.Body.{Body}
use Rattle.page_types.specs.declared.page.Body.TheVariants as body
use Rattle.core_state.specs.Log.{Log}
use Rattle.core_state.specs.Legal.{Pin}
use Rattle.gin_opclass.specs.Class.{Meaning}
use Rattle.buffer_frames.specs.Frames.{FramesValue, Lies}
use Rattle.buffer_frames.specs.declared.frame_error.FrameError.{FrameError}
use Rattle.buffer_frames.specs.declared.frame_error.FrameError.TheVariants.{DiskFault, Down, BadPage, OutOfMemory}
use Rattle.buffer_frames.specs.declared.pass.Pass.{Pass}
use Rattle.gin_scan.specs.Causes.{CannotUse, CannotRead, HasSlots, HasPart, IsLawfulRefusal}
use Rattle.gin_scan.specs.Scanning.{IsScanning, IsScanOf, Scanning}
use Rattle.gin_scan.specs.declared.scan_core.ScanCore.{ScanCore}
use Rattle.gin_scan.proofs.GoingOn.{kept_pin}
use Rattle.gin_scan.proofs.NoBadPage.{usable}
use Rattle.gin_scan.proofs.StepsTaken.{Known}
use Rattle.buffer_frames.proofs.FirstLogs.{shown_by}
use Rattle.core_state.specs.Log.{Pages, Shows}

-- a page that can't be held can't be used as one that has to have something
pub weaker_use : {D : Type 0} (f : FramesValue D) (Is : Page → Type 0) (p : ℕ) → CannotUse f (λ (c : Page). ⊤) p
    → CannotUse f Is p
weaker_use f Is p (CannotUse.past high) = CannotUse.past high
weaker_use f Is p (CannotUse.bytes none) = CannotUse.bytes none
weaker_use f Is p (CannotUse.other c is lies off) = absurd (off tt)

pub weaker_read : {D : Type 0} (f : FramesValue D) (Is : Page → Type 0) (p : ℕ) (e : FrameError)
    → CannotRead f (λ (c : Page). ⊤) p e → CannotRead f Is p e
weaker_read f Is p DiskFault c = tt
weaker_read f Is p (Down fault) c = c
weaker_read f Is p (BadPage bad) c = (c.0, weaker_use f Is p c.1)
weaker_read f Is p OutOfMemory c = tt

-- a page that lies there has not what it has to have
pub other_page : {D : Type 0} (f : FramesValue D) (Is : Page → Type 0) (p : ℕ) (c : Page) (e : FrameError) → IsPage c
    → Lies f p c → (e ≡ OutOfMemory) ⊎ ((e ≡ BadPage p) × (Is c → ⊥)) → CannotRead f Is p e
other_page f Is p c e is lies (inl none) = subst (CannotRead f Is p) (sym none) tt
other_page f Is p c e is lies (inr bad) =
    subst (CannotRead f Is p) (sym bad.0) (refl, CannotUse.other c is lies bad.1)

-- no bad page is met where each legal log has one that is so
pub never_bad : {D Q : Type 0} (device : Disk D) (M : Meaning Q) (q : Q) (f : FramesValue D) (pass : Pass)
    (s : ScanCore)
    (Is : Page → Type 0) (p : ℕ) (e : FrameError) → IsScanning f pass s → Scanning device M q f pass s
    → ((b : Body) → (c : Page) → c.body ≡ b → Is c → b ≢ body.Free)
    → ((R : Log) (pin : Pin) (P : Pages) → Known device f R pin → Shows R P → IsScanOf M q R pin s → Is (P p))
    → CannotRead f Is p e → IsLawfulRefusal device f e
never_bad device M q f pass s Is p (BadPage bad) scanning scan used so cannot = λ told up R stands legal.
    let keeps = kept_pin device f pass R scanning.pin scanning.is_pass told up stands legal scanning.pinned in
    let known : Known device f R scanning.pin = record {
      told = told;
      up = up;
      stands = stands;
      legal = legal;
      keeps = keeps;
    } in
    let P = shown_by R legal.valid in
    let o = scan told up R stands legal scanning.pin scanning.pinned in
    let is : Is (P.0 p) = so R scanning.pin P.0 known P.1 o in
    usable device f R told up stands legal P.0 P.1 Is p is (used (P.0 p).body (P.0 p) refl is) cannot.1
never_bad device M q f pass s Is p DiskFault scanning scan used so cannot = tt
never_bad device M q f pass s Is p (Down fault) scanning scan used so cannot = tt
never_bad device M q f pass s Is p OutOfMemory scanning scan used so cannot = tt

-- a heap page's head, and a part, aren't free
pub heap_used : (b : Body) (c : Page) → c.body ≡ b → HasSlots c → b ≢ body.Free
heap_used b c e is free = let z : body.Free ≡ body.Heap is.0 = sym free ∙ sym e ∙ is.1 in let y : ⊥ = cc in y

pub part_used : (b : Body) (c : Page) → c.body ≡ b → HasPart c → b ≢ body.Free
part_used b c e is free = let z : body.Free ≡ body.Overflow is.0 = sym free ∙ sym e ∙ is.1 in let y : ⊥ = cc in y

-- ── what a read that is refused returns ──

-- the error at the exit of a call
pub at_exit : {T : Type 0} (P : FrameError → Type 0) (r : Result T FrameError) (y e : FrameError) → r ≡ Err y → y ≡ e
    → P e → IfErr r P
at_exit {T} P r y e is same p = subst (λ (z : Result T FrameError). IfErr z P) (sym is) (subst P (sym same) p)

-- why what is asked of a page that is held is refused
abbrev pub RefusesPage : {D : Type 0} → FramesValue D → (Page → Type 0) → ℕ → Page → FrameError → Type 0
RefusesPage f Is p c e =
    (e ≡ OutOfMemory) ⊎ (((e ≡ BadPage p) × (Is c → ⊥)) ⊎ ((x : ℕ) × (e ≡ Down x) × (down_of f.journal.wal ≡ Some x)))

pub page_cause : {D : Type 0} (a b : FramesValue D) (Is : Page → Type 0) (p : ℕ) (c : Page) (e : FrameError) → IsPage c
    → Lies a p c → down_of b.journal.wal ≡ down_of a.journal.wal → RefusesPage b Is p c e → CannotRead a Is p e
page_cause a b Is p c e is lies same (inl none) = other_page a Is p c e is lies (inl none)
page_cause a b Is p c e is lies same (inr (inl bad)) = other_page a Is p c e is lies (inr bad)
page_cause a b Is p c e is lies same (inr (inr down)) =
    subst (CannotRead a Is p) (sym down.1) (sym same ∙ down.2)

-- it isn't a fault of the device
pub page_calm : {D : Type 0} (b : FramesValue D) (Is : Page → Type 0) (p : ℕ) (c : Page) (e : FrameError)
    → RefusesPage b Is p c e → e ≢ DiskFault
page_calm b Is p c e (inl none) z = let y : OutOfMemory ≡ DiskFault = sym none ∙ z in let x : ⊥ = cc in x
page_calm b Is p c e (inr (inl bad)) z = let y : BadPage p ≡ DiskFault = sym bad.0 ∙ z in let x : ⊥ = cc in x
page_calm b Is p c e (inr (inr down)) z = let y : Down down.0 ≡ DiskFault = sym down.1 ∙ z in let x : ⊥ = cc in x

pub other_calm : (Is : Page → Type 0) (p : ℕ) (c : Page) (e : FrameError)
    → (e ≡ OutOfMemory) ⊎ ((e ≡ BadPage p) × (Is c → ⊥)) → e ≢ DiskFault
other_calm Is p c e (inl none) z = let y : OutOfMemory ≡ DiskFault = sym none ∙ z in let x : ⊥ = cc in x
other_calm Is p c e (inr bad) z = let y : BadPage p ≡ DiskFault = sym bad.0 ∙ z in let x : ⊥ = cc in x

pub down_calm : (e : FrameError) (f : ℕ) → e ≡ Down f → e ≢ DiskFault
down_calm e f down z = let y : Down f ≡ DiskFault = sym down ∙ z in let x : ⊥ = cc in x

pub err_or_not : {T E : Type 0} (P : Type 0) (r : Result T E) → P → OnErr r P
err_or_not P (Ok x) p = tt
err_or_not P (Err e) p = p
