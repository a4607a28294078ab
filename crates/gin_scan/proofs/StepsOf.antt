-- What a step of a scan returns.
use Rattle.std.proofs.Common.{◌≡◌, ◌≢◌, Bool, false, IsTrue, refl, sym, ap, subst, ◌∙◌}
use Rattle.std.proofs.lemmas.Bool.{false≢true}
use Rattle.std.specs.Prelude.{◌⊎◌, ℕ, ⊤, Result, Ok, Err, OnOk, IfOk, IfErr}
use Rattle.disk_trait.specs.declared.device.Disk.{Ghosts as Disk}
use Rattle.gin_opclass.specs.Class.{Meaning}
use Rattle.page_types.specs.Pages.{IsPage}
use Rattle.page_types.specs.declared.page.Page.{Page}
use Rattle.core_state.specs.Allowed.{Sheet}
use Rattle.buffer_frames.specs.Frames.{FramesValue, Lies}
use Rattle.buffer_frames.specs.Passes.{holds_after}
use Rattle.buffer_frames.specs.LogCauses.{IsCalm, HoldHasCause}
use Rattle.buffer_frames.specs.declared.frame_error.FrameError.{FrameError}
use Rattle.buffer_frames.specs.declared.frame_error.FrameError.TheVariants.{DiskFault, BadPage, OutOfMemory}
use Rattle.buffer_frames.specs.declared.pass.Pass.{Pass}
use Rattle.gin_scan.specs.Calls.{ReadsOn}
use Rattle.gin_scan.specs.Causes.{CannotRead, CannotStep, IsLawfulRefusal}
use Rattle.gin_scan.specs.Inner.Holds.{HasReadOne, TurnsBy}
use Rattle.gin_scan.specs.Inner.Steps.{HasStepped, IsStepOf}
use Rattle.gin_scan.specs.declared.scan_core.ScanCore.{ScanCore}
use Rattle.gin_scan.specs.declared.stage.Stage.{Stage}
use Rattle.gin_scan.proofs.ReadCalls.{ok_cause, err_cause, exit_cause}
use Rattle.gin_scan.proofs.Refused.{at_exit, other_calm, other_page, weaker_read}

-- what is tested is not so
pub no_true : (b : Bool) → b ≡ false → IsTrue b → ⊥
no_true b off is = false≢true (sym off ∙ is)

module _ {D Q : Type 0} (device : Disk D) (M : Meaning Q) (q : Q) (f : FramesValue D) (pass : Pass) (s : ScanCore)
    (f' : FramesValue D) (pass' : Pass) (s' : ScanCore) where
  -- it was taken
  pub goes : {T : Type 0} (x : T) → s'.took_pin ≡ s.took_pin → HasStepped device M q f pass s f' pass' s'
      → ReadsOn device f pass f' pass' → IsCalm device f.journal f'.journal
      → IsStepOf device M q f pass s f' pass' s' (Ok x)
  goes x took stepped reads calm = record {
    took = took;
    stepped = stepped;
    reads = reads;
    fault = ok_cause device f.journal f'.journal (Ok x) x refl calm;
    cause = tt;
    lawful = tt;
  }

  -- a call in it was refused, and it returns the same error
  pub refused : {T U : Type 0} (r : Result T FrameError) (u : Result U FrameError) (e y : FrameError) → r ≡ Err e
      → u ≡ Err y → y ≡ e → s'.took_pin ≡ s.took_pin → ReadsOn device f pass f' pass'
      → HoldHasCause device f.journal f'.journal r → CannotStep f s s.stage e → IsLawfulRefusal device f e
      → IsStepOf device M q f pass s f' pass' s' u
  refused {T} {U} r u e y is was same took reads fault cause lawful = record {
    took = took;
    stepped = subst (λ (z : Result U FrameError). OnOk z (HasStepped device M q f pass s f' pass' s')) (sym was) tt;
    reads = reads;
    fault = exit_cause device f.journal f'.journal r u e y is was same fault;
    cause = at_exit (CannotStep f s s.stage) u y e was same cause;
    lawful = at_exit (IsLawfulRefusal device f) u y e was same lawful;
  }

  -- it returns an error that is no fault of the device
  pub fails : {U : Type 0} (u : Result U FrameError) (e y : FrameError) → u ≡ Err y → y ≡ e → e ≢ DiskFault
      → s'.took_pin ≡ s.took_pin → ReadsOn device f pass f' pass' → IsCalm device f.journal f'.journal
      → CannotStep f s s.stage e → IsLawfulRefusal device f e → IsStepOf device M q f pass s f' pass' s' u
  fails u e y was same off took reads calm cause lawful =
      refused u u y y was was refl took reads
      (err_cause device f.journal f'.journal u y was (λ z. off (sym same ∙ z)) calm)
      (subst (CannotStep f s s.stage) (sym same) cause) (subst (IsLawfulRefusal device f) (sym same) lawful)

  -- a page was not held that is read next
  pub unheld : {U : Type 0} (r : Result Sheet FrameError) (u : Result U FrameError) (e y : FrameError)
      (Is : Page → Type 0) (p : ℕ) → r ≡ Err e → u ≡ Err y → y ≡ e → s'.took_pin ≡ s.took_pin
      → ReadsOn device f pass f' pass' → HoldHasCause device f.journal f'.journal r
      → CannotRead f (λ (c : Page). ⊤) p e
      → ((x : FrameError) → CannotRead f Is p x → CannotStep f s s.stage x × IsLawfulRefusal device f x)
      → IsStepOf device M q f pass s f' pass' s' u
  unheld r u e y Is p is was same took reads fault cannot both =
      let z = both e (weaker_read f Is p e cannot) in refused r u e y is was same took reads fault z.0 z.1

  -- memory has run out
  pub lacks : {U : Type 0} (u : Result U FrameError) (y : FrameError) → u ≡ Err y → y ≡ OutOfMemory
      → s'.took_pin ≡ s.took_pin → ReadsOn device f pass f' pass' → IsCalm device f.journal f'.journal
      → CannotStep f s s.stage OutOfMemory → IsStepOf device M q f pass s f' pass' s' u
  lacks u y was same took reads calm cause =
      fails u OutOfMemory y was same (λ z. let n : ⊥ = cc in n) took reads calm cause tt

  -- ── a page is read ──

  -- what was found is read next, where a page more was read
  abbrev pub StepsTo : ScanCore → Stage → Type 0
  StepsTo n z =
      s' ≡ record n { stage = z; pages_read = holds_after n.pages_read } → HasStepped device M q f pass s f' pass' s'

  -- a page was read, and what was found of it is read next, or is refused
  pub turns : (next : Result Stage FrameError) (n : ScanCore) (r : Result ⊤ FrameError) → TurnsBy next n s' r
      → n.took_pin ≡ s.took_pin → HasReadOne device f pass f' pass'
      → IfErr next (λ (e : FrameError). (e ≢ DiskFault) × CannotStep f s s.stage e × IsLawfulRefusal device f e)
      → IfOk next (StepsTo n) → IsStepOf device M q f pass s f' pass' s' r
  turns (Ok z) n r t took one why steps =
      subst (IsStepOf device M q f pass s f' pass' s') (sym t.0)
      (goes tt (ap (λ (y : ScanCore). y.took_pin) t.1 ∙ took) (steps t.1) one.reads one.calm)
  turns (Err e) n r t took one why steps =
      fails r e e t.0 refl why.0 (t.1 ∙ took) one.reads one.calm why.1 why.2

-- a page is refused that has not what it has to have
pub off_page : {D : Type 0} (device : Disk D) (f : FramesValue D) (s : ScanCore) (next : Result Stage FrameError)
    (Is : Page → Type 0) (p : ℕ) (c : Page) → IsPage c → Lies f p c
    → ((e : FrameError) → CannotRead f Is p e → CannotStep f s s.stage e × IsLawfulRefusal device f e)
    → IfErr next (λ (e : FrameError). (e ≡ OutOfMemory) ⊎ ((e ≡ BadPage p) × (Is c → ⊥)))
    → IfErr next (λ (e : FrameError). (e ≢ DiskFault) × CannotStep f s s.stage e × IsLawfulRefusal device f e)
off_page device f s (Ok z) Is p c is lies both bad = tt
off_page device f s (Err e) Is p c is lies both bad =
    let z = both e (other_page f Is p c e is lies bad) in (other_calm Is p c e bad, z.0, z.1)
