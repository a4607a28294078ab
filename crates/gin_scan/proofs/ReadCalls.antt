-- Calls that log nothing, one after another.
use Rattle.std.proofs.Common.{◌≤◌, suc, ◌≡◌, ◌≢◌, ℕ, [], ◌∷◌, refl, sym, ap, subst, ◌∙◌, inl, inr, arith}
use Rattle.std.specs.Prelude.{Result, Ok, Err, IsErrOf, IfOk, IfErr, OnOk, OnErr, Option, Some, None, ◌↔◌, ⊤}
use Rattle.wal.specs.Waiting.{down_of}
use Rattle.disk_trait.specs.declared.device.Disk.{Ghosts as Disk}
use Rattle.page_types.specs.declared.page.Page.{Page}
use Rattle.page_types.proofs.PageLaws.{page_told}
use Rattle.core_state.specs.Log.{In}
use Rattle.core_state.specs.Allowed.{Sheet}
use Rattle.core_state.proofs.RunningOnes.{same_or_other}
use Rattle.snap_pins.specs.Taken.{IsPinned}
use Rattle.buffer_frames.specs.Beginnings.{BeginsOn}
use Rattle.buffer_frames.specs.Frames.{FramesValue, RunsOn, KeepsState, KeepsOthers, Lies}
use Rattle.buffer_frames.specs.Homes.{home_at, LiesAs, IsNoPage, BadPageWhere}
use Rattle.buffer_frames.specs.Journals.{JournalValue}
use Rattle.buffer_frames.specs.LogCauses.{IsCalm, HoldHasCause}
use Rattle.buffer_frames.specs.Passes.{IsPassOf, IsHolding, HasAdded, PassRises, holds_after}
use Rattle.buffer_frames.specs.declared.home.Home.{Home}
use Rattle.buffer_frames.specs.declared.home.Home.TheVariants.{Free, Bytes, Content, Away}
use Rattle.buffer_frames.specs.declared.frame_error.FrameError.{FrameError}
use Rattle.buffer_frames.specs.declared.frame_error.FrameError.TheVariants.{DiskFault, Down, BadPage, OutOfMemory}
use Rattle.buffer_frames.specs.declared.pass.Pass.{Pass}
use Rattle.buffer_frames.proofs.Added.{added_in_turn, on_by_none}
use Rattle.gin_scan.specs.Calls.{PinsRise, AddsOnce, AddsNothing, KeepsWork, LieStill, ReadsOn}
use Rattle.gin_scan.specs.Causes.{CannotUse, CannotRead}
use Rattle.gin_scan.specs.Inner.Looks.{LooksOn}
use Rattle.gin_scan.specs.Inner.Holds.{HoldsOne, GivesBack, TurnsBy}
use Rattle.gin_scan.specs.declared.scan_core.ScanCore.{ScanCore}
use Rattle.gin_scan.specs.declared.stage.Stage.{Stage}

only : (p q : ℕ) → p ≢ q → In p (q ∷ []) → ⊥
only p q off (inl e) = off e
only p q off (inr none) = none

-- a home has one page
lies_same : (h : Home) (c d : Page) → LiesAs h c → LiesAs h d → c ≡ d
lies_same Free c d a b = a ∙ sym b
lies_same (Bytes bytes) c d a b = page_told c d a.0 b.0 (sym a.1 ∙ b.1)
lies_same (Content e) c d a b = a ∙ sym b
lies_same Away c d a b = absurd a

module _ {D : Type 0} (device : Disk D) where
  pins_same : (a b : FramesValue D) → b.pins ≡ a.pins → PinsRise a b
  pins_same a b same place p is = inl (subst (λ ps. IsPinned ps place p) same is)

  -- one call on frames that are up or down as they were
  pub calm_once : (a b : FramesValue D) → HasAdded device a b [] → KeepsState a b → RunsOn device a b
      → BeginsOn device a.journal b.journal → IsCalm device a.journal b.journal → b.pins ≡ a.pins → AddsOnce device a b
  calm_once a b added state runs begins calm pins = record {
    added = added;
    state = state;
    runs_on = runs;
    begins = begins;
    time = calm.time;
    faults = calm.later;
    writes = omega (arith, calm.no_write);
    pins = pins_same a b pins;
  }

  pub hold_once : {T : Type 0} (a b : FramesValue D) (r : Result T FrameError) → HasAdded device a b []
      → KeepsState a b → RunsOn device a b → BeginsOn device a.journal b.journal
      → HoldHasCause device a.journal b.journal r → b.pins ≡ a.pins → AddsOnce device a b
  hold_once a b r added state runs begins cause pins = record {
    added = added;
    state = state;
    runs_on = runs;
    begins = begins;
    time = elim cause.either [ inl c ↦ (c.0).time | inr c ↦ (c.1).time ];
    faults = elim cause.either [ inl c ↦ (c.0).later | inr c ↦ ((c.1).later).0 ];
    writes = elim cause.either [ inl c ↦ omega (arith, (c.0).no_write) | inr c ↦ ((c.1).later).1 ];
    pins = pins_same a b pins;
  }

  pub adds_once : (a b : FramesValue D) → AddsOnce device a b → AddsNothing device a b
  adds_once a b o = AddsNothing.then AddsNothing.stays o

  pub adds_then : {a b c : FramesValue D} → AddsNothing device a b → AddsNothing device b c → AddsNothing device a c
  adds_then x AddsNothing.stays = x
  adds_then x (AddsNothing.then y o) = AddsNothing.then (adds_then x y) o

  pub none_yet : (a : FramesValue D) → HasAdded device a a []
  none_yet a = record {
    on = λ R s. (R, s, on_by_none a.journal.owes R);
    back = λ t up R s. (R, s, on_by_none a.journal.owes R);
    was_up = λ up. up;
    owes = refl;
    longer = omega arith;
  }

  -- nothing is added then
  pub none_added : (a b : FramesValue D) → AddsNothing device a b → HasAdded device a b []
  none_added a b AddsNothing.stays = none_yet a
  none_added a b (AddsNothing.then {mid} y o) =
      added_in_turn device a mid b [] [] (none_added a mid y) o.added

  -- the state is the same, and so is what is down
  pub state_same : (a b : FramesValue D) → AddsNothing device a b → b.journal.state ≡ a.journal.state
  state_same a b AddsNothing.stays = refl
  state_same a b (AddsNothing.then {mid} y o) = o.state.state ∙ state_same a mid y

  pub still_works : (p : Pass) → KeepsWork p p
  still_works p = record {
    xid = refl;
    room = refl;
    work = refl;
    rises = record { seen = omega arith; shown = omega arith; floor = omega arith; since = omega arith };
  }

  -- nothing is read
  pub still_reads : (a : FramesValue D) (p : Pass) → IsPassOf a p → p.held ≡ 0 → ReadsOn device a p a p
  still_reads a p of none = record {
    is_pass = of;
    held = none;
    adds = AddsNothing.stays;
    lying = λ n c l. l;
    keeps = still_works p;
    one_page = omega arith;
    pin = refl;
    pins = refl;
  }

  -- ── a hold ──

  pub still_calm : (j : JournalValue D) → IsCalm device j j
  still_calm j = record { down = refl; time = omega arith; later = omega arith; no_write = refl }

  pub calm_then : (i j k : JournalValue D) → IsCalm device i j → IsCalm device j k → IsCalm device i k
  calm_then i j k x y = record {
    down = y.down ∙ x.down;
    time = omega (arith, x.time, y.time);
    later = omega (arith, x.later, y.later);
    no_write = y.no_write ∙ x.no_write;
  }

  -- no fault is met
  pub calm_cause : {T : Type 0} (j k : JournalValue D) (r : Result T FrameError) → IsCalm device j k
      → (IsErrOf r DiskFault → ⊥) → HoldHasCause device j k r
  calm_cause j k r calm off = record { fault = λ e. absurd (off e); either = inl (calm, off) }

  -- a hold with its cause, and calls that meet no fault
  pub cause_then : {T U : Type 0} (i j k : JournalValue D) (r : Result T FrameError) (u : Result U FrameError)
      → HoldHasCause device i j r → (IsErrOf r DiskFault → ⊥) → IsCalm device j k → (IsErrOf u DiskFault → ⊥)
      → HoldHasCause device i k u
  cause_then i j k r u cause fine calm off = elim cause.either [
    | inl c ↦ calm_cause i k u (calm_then i j k c.0 calm) off
    | inr c ↦ absurd (fine c.0)
  ]

  -- the same refusal, by another name
  pub cause_as : {T U : Type 0} (i j : JournalValue D) (r : Result T FrameError) (u : Result U FrameError)
      → HoldHasCause device i j r → (IsErrOf u DiskFault → IsErrOf r DiskFault)
      → (IsErrOf r DiskFault → IsErrOf u DiskFault) → HoldHasCause device i j u
  cause_as i j r u cause back on = record {
    fault = λ e. cause.fault (back e);
    either = elim cause.either [
      | inl c ↦ inl (c.0, λ e. c.1 (back e))
      | inr c ↦ inr (on c.0, c.1)
    ];
  }

  -- one page more, or none
  pub one_more : {T : Type 0} (m n : ℕ) (r : Result T FrameError) → OnOk r (n ≡ holds_after m) → OnErr r (n ≡ m)
      → n ≤ suc m
  one_more m n (Ok x) more still = omega (arith, more)
  one_more m n (Err e) more still = omega (arith, still)

  -- a refused hold leaves all as it was
  pub hold_refused : {T : Type 0} (a b : FramesValue D) (p q : Pass) (r : Result T FrameError) → IsPassOf b q
      → p.held ≡ 0 → AddsNothing device a b → KeepsWork p q → q.pin ≡ p.pin → b.pins ≡ a.pins
      → OnErr r (q.held ≡ p.held) → OnErr r (KeepsOthers a b []) → q.holds ≤ suc p.holds
      → OnErr r (ReadsOn device a p b q)
  hold_refused a b p q (Ok x) of none adds works pin pins held unmoved holds = tt
  hold_refused a b p q (Err e) of none adds works pin pins held unmoved holds = record {
    is_pass = of;
    held = held ∙ none;
    adds = adds;
    lying = λ n c lies. subst (λ (h : Home). LiesAs h c) (sym (unmoved n (λ z. z))) lies;
    keeps = works;
    one_page = holds;
    pin = pin;
    pins = pins;
  }

  -- why it is refused
  pub hold_why : {T : Type 0} (a : FramesValue D) (p : ℕ) (r : Result T FrameError)
      → ((x : ℕ) → (r ≡ Err (Down x)) ↔ (down_of a.journal.wal ≡ Some x))
      → (down_of a.journal.wal ≡ None → BadPageWhere (IsNoPage a.homes p) p r) → IfErr r (CannotRead a (λ c. ⊤) p)
  hold_why a p (Ok x) down bad = tt
  hold_why a p (Err DiskFault) down bad = tt
  hold_why a p (Err (Down x)) down bad = (down x).0 refl
  hold_why a p (Err OutOfMemory) down bad = tt
  hold_why a p (Err (BadPage n)) down bad =
      let z = by (down_of a.journal.wal) refl in (z.0, CannotUse.bytes z.1)
    where
      by : (o : Option ℕ) → down_of a.journal.wal ≡ o → (n ≡ p) × IsNoPage a.homes p
      by None e = bad e
      by (Some x) e = absurd (let f = (down x).1 e in let z : ⊥ = cc in z)

  pub works_then : (p q r : Pass) → KeepsWork p q → KeepsWork q r → KeepsWork p r
  works_then p q r x y = record {
    xid = y.xid ∙ x.xid;
    room = y.room ∙ x.room;
    work = y.work ∙ x.work;
    rises = record {
      seen = omega (arith, x.rises.seen, y.rises.seen);
      shown = omega (arith, x.rises.shown, y.rises.shown);
      floor = omega (arith, x.rises.floor, y.rises.floor);
      since = omega (arith, x.rises.since, y.rises.since);
    };
  }

  -- a page is held, something is read, and it is given back
  pub held_back_by : (a b c : FramesValue D) (p q r : Pass) (x : Sheet) → AddsNothing device a b → KeepsWork p q
      → q.pin ≡ p.pin → b.pins ≡ a.pins → ((n : ℕ) (d : Page) → n ≢ x.page → Lies a n d → Lies b n d)
      → Lies a x.page x.content → IsPassOf c r → IsHolding device c r [] → HasAdded device b c []
      → PassRises q r → (r.pin ≡ q.pin) × (r.room ≡ q.room) × (r.xid ≡ q.xid) → r.work ≡ q.work → RunsOn device b c
      → KeepsState b c → Lies c x.page x.content → KeepsOthers b c (x.page ∷ [])
      → IsCalm device b.journal c.journal → BeginsOn device b.journal c.journal → c.pins ≡ b.pins
      → q.holds ≤ suc p.holds → r.holds ≡ q.holds → ReadsOn device a p c r
  held_back_by a b c p q r x adds works pin pins taken was of holding added rises same right runs state is others calm
      begins pins' holds holds' = record {
        is_pass = of;
        held = sym holding.all;
        adds = AddsNothing.then adds (calm_once b c added state runs begins calm pins');
        lying = still;
        keeps = works_then p q r works (record { xid = same.2; room = same.1; work = right; rises = rises });
        one_page = omega (arith, holds, holds');
        pin = same.0 ∙ pin;
        pins = pins' ∙ pins;
      }
    where
      still : LieStill a c
      still n d lies = elim (same_or_other n x.page) [
        | inl e ↦
            let here : Lies a x.page d = subst (λ (k : ℕ). Lies a k d) e lies in
            let one : x.content ≡ d = lies_same (home_at a.homes x.page) x.content d was here in
            subst (λ (k : ℕ). Lies c k d) (sym e) (subst (Lies c x.page) one is)
        | inr off ↦
            subst (λ (h : Home). LiesAs h d) (sym (others n (only n x.page off))) (taken n d off lies)
      ]

  -- a hold that isn't refused meets no fault
  pub held_calm : {T : Type 0} (i j : JournalValue D) (r : Result T FrameError) (x : T) → r ≡ Ok x
      → HoldHasCause device i j r → IsCalm device i j
  held_calm i j r x is cause = elim cause.either [
    | inl c ↦ c.0
    | inr c ↦ absurd (let e : r ≡ Err DiskFault = c.0 in let z : ⊥ = cc in z)
  ]

  -- no fault is met where a call ends well, or is refused for another reason
  pub ok_cause : {T : Type 0} (i j : JournalValue D) (r : Result T FrameError) (x : T) → r ≡ Ok x
      → IsCalm device i j → HoldHasCause device i j r
  ok_cause i j r x is calm = calm_cause i j r calm (λ e. let z : ⊥ = cc in z)

  pub err_cause : {T : Type 0} (i j : JournalValue D) (r : Result T FrameError) (y : FrameError) → r ≡ Err y
      → y ≢ DiskFault → IsCalm device i j → HoldHasCause device i j r
  err_cause i j r y is off calm = calm_cause i j r calm (λ e. off (let z : y ≡ DiskFault = cc in z))

  -- the exit of a hold that is refused
  pub exit_cause : {T U : Type 0} (i j : JournalValue D) (r : Result T FrameError) (u : Result U FrameError)
      (e y : FrameError) → r ≡ Err e → u ≡ Err y → y ≡ e → HoldHasCause device i j r → HoldHasCause device i j u
  exit_cause i j r u e y is was same cause =
      cause_as i j r u cause
      (λ f. let z : r ≡ Err DiskFault = cc in z)
      (λ f. let z : u ≡ Err DiskFault = cc in z)

  -- the page is held
  pub hold_told : (a b : FramesValue D) (p q : Pass) (n : ℕ) (r : Result Sheet FrameError) → IsPassOf b q
      → IfOk r (λ (x : Sheet). x.page ≡ n) → OnOk r (q.holds ≡ holds_after p.holds)
      → IfOk r (λ (x : Sheet). Lies a n x.content) → OnOk r (KeepsOthers a b (n ∷ []))
      → IfOk r (λ (x : Sheet). IsHolding device b q (x ∷ [])) → AddsNothing device a b → KeepsWork p q
      → q.pin ≡ p.pin → b.pins ≡ a.pins → HoldHasCause device a.journal b.journal r
      → IfOk r (HoldsOne device a p n b q)
  hold_told a b p q n (Err e) of number holds lies others holding adds keeps pin pins cause = tt
  hold_told a b p q n (Ok x) of number holds lies others holding adds keeps pin pins cause = record {
    is_pass = of;
    holding = holding;
    number = number;
    lies = lies;
    others = λ m c off there. subst (λ (h : Home). LiesAs h c) (sym (others m (only m n off))) there;
    adds = adds;
    keeps = keeps;
    pin = pin;
    pins = pins;
    holds = holds;
    calm = held_calm a.journal b.journal (Ok x) x refl cause;
  }

  -- it is held while something is asked
  pub still_holds : (a b c : FramesValue D) (p q r : Pass) (n : ℕ) (x : Sheet) → HoldsOne device a p n b q x
      → LooksOn device b q c r → HoldsOne device a p n c r x
  still_holds a b c p q r n x h l = record {
    is_pass = l.is_pass;
    holding = l.holding (x ∷ []) h.holding;
    number = h.number;
    lies = h.lies;
    others = λ m d off there. l.lying m d (h.others m d off there);
    adds = adds_then h.adds l.adds;
    keeps = works_then p q r h.keeps l.keeps;
    pin = l.pin ∙ h.pin;
    pins = l.pins ∙ h.pins;
    holds = l.holds ∙ h.holds;
    calm = calm_then a.journal b.journal c.journal h.calm l.calm;
  }

  -- and it is given back
  pub gives_back : (b c : FramesValue D) (q r : Pass) (x : Sheet) → IsPassOf c r → IsHolding device c r []
      → HasAdded device b c [] → PassRises q r → (r.pin ≡ q.pin) × (r.room ≡ q.room) × (r.xid ≡ q.xid)
      → r.work ≡ q.work → RunsOn device b c → KeepsState b c → Lies c x.page x.content
      → KeepsOthers b c (x.page ∷ []) → IsCalm device b.journal c.journal → BeginsOn device b.journal c.journal
      → c.pins ≡ b.pins → r.holds ≡ q.holds → GivesBack device b q x c r
  gives_back b c q r x of holding added rises same right runs state is others calm begins pins holds = λ a p n h.
      record {
        reads = held_back_by a b c p q r x h.adds h.keeps h.pin h.pins
            (λ m d off there. h.others m d (λ e. off (e ∙ sym h.number)) there)
            (subst (λ (m : ℕ). Lies a m x.content) (sym h.number) h.lies) of holding added rises same right runs
            state is
            others calm begins pins (omega (arith, h.holds)) holds;
        calm = calm_then a.journal b.journal c.journal h.calm calm;
        holds = holds ∙ h.holds;
      }

-- what was found of a page that was read is read next, or it was refused
pub turned_to : (next : Result Stage FrameError) (z : Stage) (old : ScanCore) (n : ℕ) → next ≡ Ok z
    → n ≡ holds_after old.pages_read → TurnsBy next old (record old { stage = z; pages_read = n }) (Ok tt)
turned_to next z old n is count =
    subst (λ (r : Result Stage FrameError). TurnsBy r old (record old { stage = z; pages_read = n }) (Ok tt)) (sym is)
    (refl, ap (λ (k : ℕ). record old { stage = z; pages_read = k }) count)

pub turned_off : (next : Result Stage FrameError) (old new : ScanCore) (r : Result ⊤ FrameError) (e y : FrameError)
    → next ≡ Err e → r ≡ Err y → y ≡ e → new.took_pin ≡ old.took_pin → TurnsBy next old new r
turned_off next old new r e y is was same took =
    subst (λ (z : Result Stage FrameError). TurnsBy z old new r) (sym is) (was ∙ ap Err same, took)
