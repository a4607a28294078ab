-- A heap page is read, or refused.
use Rattle.std.proofs.Common.{◌≡◌, ℕ, suc, ◌+◌, ◌-◌, ◌*◌, ◌^◌, ◌<◌, ◌≤◌, Bool, List, length, refl, sym, ap}
use Rattle.std.proofs.Common.{subst, ◌∙◌, inr, arith}
use Rattle.std.proofs.Common.{get_or, slice_get}
use Rattle.std.specs.Prelude.{Result, Ok, Err, OnOk, Some, slice_range}
use Rattle.std.proofs.lemmas.Option.{slice_get-get_or}
use Rattle.disk_trait.specs.declared.device.Disk.{Ghosts as Disk}
use Rattle.page_types.specs.Pages.{IsPage}
use Rattle.page_types.specs.declared.page.Page.{Page}
use Rattle.core_state.specs.Log.{Pages}
use Rattle.core_state.specs.Documents.{page_of}
use Rattle.core_state.specs.States.{fate_of}
use Rattle.gin_opclass.specs.Class.{Meaning, JudgeIsSound}
use Rattle.buffer_frames.specs.Frames.{FramesValue, Lies}
use Rattle.buffer_frames.specs.declared.frame_error.FrameError.{FrameError}
use Rattle.buffer_frames.specs.declared.pass.Pass.{Pass}
use Rattle.buffer_frames.proofs.FirstLogs.{shown_by}
use Rattle.core_state.proofs.Showing.{shown_one}
use Rattle.gin_scan.specs.Calls.{ReadsOn}
use Rattle.gin_scan.specs.Counting.{CountsOn}
use Rattle.gin_scan.specs.Causes.{CannotRead, CannotStep, HasSlots, IsLawfulRefusal}
use Rattle.gin_scan.specs.Reaching.{IsReached}
use Rattle.gin_scan.specs.Scanning.{IsScan, HasRead, sought_in, stages_left, steps_of, steps_left}
use Rattle.gin_scan.specs.Seen.{AreSeen}
use Rattle.gin_scan.specs.Inner.Heads.{KeepsRest, TakesDocuments}
use Rattle.gin_scan.specs.Inner.Steps.{MayStep, HasStepped}
use Rattle.gin_scan.specs.declared.scan_core.ScanCore.{ScanCore}
use Rattle.gin_scan.specs.declared.stage.Stage.{Stage}
use Rattle.gin_scan.specs.declared.stage.Stage.TheVariants as stage
use Rattle.gin_scan.proofs.BegunScans.{step_passed}
use Rattle.gin_scan.proofs.HeadsRead.{heads_read, heap_of_kept}
use Rattle.gin_scan.proofs.PageTaken.{element_in}
use Rattle.gin_scan.proofs.PinLaws.{pin_laws}
use Rattle.gin_scan.proofs.Reached.{heads_reached, reached_still, met_as, long_as}
use Rattle.gin_scan.proofs.Refused.{never_bad, heap_used}
use Rattle.gin_scan.proofs.StepsTaken.{stepped_by, own_pin}

-- names and long vectors were added to a scan that has counted heads, and nothing else
pub rest_read : (s new : ScanCore) (n : ℕ) → KeepsRest (record s { heads_read = n }) new
    → new ≡ record s { names = new.names; long = new.long; heads_read = new.heads_read }
rest_read s new n rest =
    rest
    ∙ ap (λ (k : ℕ). record s { names = new.names; long = new.long; heads_read = k })
    (sym (ap (λ (z : ScanCore). z.heads_read) rest))

-- what indexing returned is there
pub got : {A : Type 0} (xs : List A) (k : ℕ) (x : A) → k < length xs → x ≡ get_or xs k x → slice_get xs k ≡ Some x
got xs k x l e = slice_get-get_or xs k x l ∙ ap Some (sym e)

-- the cause, by the number of the item's page
pub heads_cause : {D : Type 0} (f : FramesValue D) (s : ScanCore) (at number : ℕ) (k : ℕ × Bool) (e : FrameError)
    → s.stage ≡ stage.Heads at → slice_get s.kept.items at ≡ Some k → number ≡ page_of k.0
    → CannotRead f HasSlots number e → CannotStep f s s.stage e
heads_cause f s at number k e is there same cannot =
    subst (λ (z : Stage). CannotStep f s z e) (sym is)
    (inr (k.0, k.1, there, subst (λ (n : ℕ). CannotRead f HasSlots n e) same cannot))

module _ {Q D : Type 0} (device : Disk D) (M : Meaning Q) (sound : JudgeIsSound M) (q : Q) (f : FramesValue D)
    (pass : Pass) (s : ScanCore) (may : MayStep device M q f pass s) (at : ℕ) (is : s.stage ≡ stage.Heads at) where
  pub heads_lawful : (number : ℕ) (k : ℕ × Bool) (e : FrameError) → slice_get s.kept.items at ≡ Some k
      → number ≡ page_of k.0 → CannotRead f HasSlots number e → IsLawfulRefusal device f e
  heads_lawful number k e there same cannot =
      never_bad device M q f pass s HasSlots number e may.scanning may.walk heap_used
      (λ R pin P known shown o.
      let had = subst (HasRead M q R pin o.from s) is o.read in
      let own = shown_by R known.legal.valid in
      subst (λ (n : ℕ). HasSlots (P n)) (sym same)
      (subst (λ (X : Pages). HasSlots (X (page_of k.0))) (shown_one R own.0 P own.1 shown)
      (heap_of_kept M sound q device f R pin known
      (λ H h. (pin_laws R pin H known.legal known.keeps h).one_serial) s o.from had.0 k
      (element_in k s.kept.items at there)))) cannot

  -- what was read of it
  pub record HasReadPage (f' : FramesValue D) (new : ScanCore) (end number : ℕ) (c : Page) : Type 0 where
    pub first : ℕ × Bool
    pub there : slice_get s.kept.items at ≡ Some first
    pub first_here : page_of first.0 ≡ number
    pub ordered : at < end
    pub within : end ≤ length s.kept.items
    pub next : (k : ℕ × Bool) → slice_get s.kept.items end ≡ Some k → page_of k.0 ≡ number → ⊥
    pub here : (k item : ℕ) (sure : Bool) → at ≤ k → k < end → slice_get s.kept.items k ≡ Some (item, sure)
        → page_of item ≡ number
    pub is_page : IsPage c
    pub lies : Lies f number c
    pub state : f'.journal.state ≡ f.journal.state
    pub seen : List Bool
    pub are_seen : AreSeen (fate_of f'.journal.state) s.snapshot c (slice_range s.kept.items at end) seen
    pub takes : TakesDocuments (M.satisfies q) c at seen (record s { heads_read = new.heads_read }) new
    pub counted : new.heads_read + at ≤ s.heads_read + end
    pub rest : new ≡ record s { names = new.names; long = new.long; heads_read = new.heads_read }

  -- so where it was not refused
  pub page_was_read : {T : Type 0} (r : Result T FrameError) (f' : FramesValue D) (new : ScanCore) (end number : ℕ)
      (c : Page) (first : ℕ × Bool) → slice_get s.kept.items at ≡ Some first → page_of first.0 ≡ number → at < end
      → end ≤ length s.kept.items
      → ((k : ℕ × Bool) → slice_get s.kept.items end ≡ Some k → page_of k.0 ≡ number → ⊥)
      → ((k item : ℕ) (sure : Bool) → at ≤ k → k < end → slice_get s.kept.items k ≡ Some (item, sure)
      → page_of item ≡ number)
      → IsPage c → Lies f number c → f'.journal.state ≡ f.journal.state
      → OnOk r ((seen : List Bool)
      × AreSeen (fate_of f'.journal.state) s.snapshot c (slice_range s.kept.items at end) seen
      × TakesDocuments (M.satisfies q) c at seen (record s { heads_read = new.heads_read }) new)
      → OnOk r (new.heads_read + at ≤ s.heads_read + end)
      → OnOk r (new ≡ record s { names = new.names; long = new.long; heads_read = new.heads_read })
      → OnOk r (HasReadPage f' new end number c)
  page_was_read (Err e) f' new end number c first there here less within next all page lies state taken count rest = tt
  page_was_read (Ok x) f' new end number c first there here less within next all page lies state taken count rest =
      record {
        first = first;
        there = there;
        first_here = here;
        ordered = less;
        within = within;
        next = next;
        here = all;
        is_page = page;
        lies = lies;
        state = state;
        seen = taken.0;
        are_seen = taken.1;
        takes = taken.2;
        counted = count;
        rest = rest;
      }

  fewer : (s' : ScanCore) (end : ℕ) → at < end → end ≤ length s.kept.items → s'.stage ≡ stage.Heads end
      → s'.kept ≡ s.kept → steps_left s' < steps_left s
  fewer s' end less within then kept =
      let big = 2 ^ 200 in
      let new : steps_left s' ≡ 2 * big + (length s.kept.items - end) =
      ap (λ (z : Stage). stages_left z * big + steps_of s' z) then
      ∙ ap (λ ks. 2 * big + (length ks.items - end)) kept in
      let old : steps_left s ≡ 2 * big + (length s.kept.items - at) =
      ap (λ (z : Stage). stages_left z * big + steps_of s z) is in
      subst (λ (n : ℕ). n < steps_left s) (sym new)
      (subst (λ (n : ℕ). 2 * big + (length s.kept.items - end) < n) (sym old)
      (step_passed 2 (length s.kept.items - at) (length s.kept.items - end) big (omega (arith, less, within))))

  pub heads_stepped : (f' f'' : FramesValue D) (pass'' : Pass) (new s' : ScanCore) (end number pages : ℕ) (c : Page)
      → HasReadPage f' new end number c → ReadsOn device f pass f'' pass'' → pages ≤ suc s.pages_read
      → s' ≡ record new { stage = stage.Heads end; pages_read = pages } → CountsOn s pass.holds s' pass''.holds
      → HasStepped device M q f pass s f'' pass'' s'
  heads_stepped f' f'' pass'' new s' end number pages c r reads one same counted =
      let e : s' ≡ record s {
        names = new.names;
        long = new.long;
        heads_read = new.heads_read;
        stage = stage.Heads end;
        pages_read = pages;
      } = same ∙ ap (λ (x : ScanCore). record x { stage = stage.Heads end; pages_read = pages }) r.rest in
      let was = may.scanning.is_scan in
      stepped_by device M q f f'' pass pass'' s s' may reads
      (subst IsScan (sym e)
      (record { ordered = was.ordered; pending = was.pending; main = was.main; within = r.within }))
      (ap (λ (z : ScanCore). z.keys) e) (ap (λ (z : ScanCore). z.snapshot) e)
      (fewer s' end r.ordered r.within (ap (λ (z : ScanCore). z.stage) e) (ap (λ (z : ScanCore). z.kept) e))
      (λ R pin known p o. heads_read M sound q device f R pin known
      (λ H h. (pin_laws R pin H known.legal known.keeps h).one_serial) s new at end number c (record {
        first = r.first;
        there = r.there;
        first_here = r.first_here;
        ordered = r.ordered;
        within = r.within;
        next = r.next;
        here = r.here;
        is_page = r.is_page;
        lies = r.lies;
        seen = r.seen;
        are_seen = subst (λ st. AreSeen (fate_of st) s.snapshot c (slice_range s.kept.items at end) r.seen) r.state
            r.are_seen;
        takes = r.takes;
        counted = r.counted;
        rest = r.rest;
      }) (own_pin f pass s pin may.scanning p) s' pages same one is o)
      (λ z.
      let y = subst (IsReached M q f s) is z in
      let kept = ap (λ (x : ScanCore). x.kept.items) r.rest in
      let h = heads_reached M q f s new at end number c (fate_of f'.journal.state) r.seen (omega (arith, r.ordered))
      r.within r.here r.is_page r.lies r.are_seen r.takes kept (ap sought_in r.rest) y.0 y.1 in
      let last : ScanCore = record new { stage = stage.Heads end; pages_read = pages } in
      subst (λ (x : ScanCore). IsReached M q f'' x x.stage) (sym same)
      (reached_still f f'' reads.lying M q last (stage.Heads end)
      (met_as M q f new last refl refl h.0, long_as M q f new last refl refl h.1))) counted
