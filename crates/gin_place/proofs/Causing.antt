-- Why calls are refused.
use Rattle.std.proofs.Common.{◌≡◌, ◌↔◌, ◌≤◌, ℕ, List, [], ◌++◌, length, refl, sym, ap, subst, ◌∙◌, arith}
use Rattle.std.proofs.Common.{Result, Ok, Err}
use Rattle.std.specs.Prelude.{Option, Some, None, IfErr, ⊤}
use Rattle.disk_trait.specs.declared.device.Disk.{Ghosts as Disk}
use Rattle.wal.specs.Waiting.{limit_of, length_with, down_of}
use Rattle.page_types.specs.Records.{kind_number}
use Rattle.page_types.specs.declared.page.Page.{Page}
use Rattle.core_state.specs.Log.{Log}
use Rattle.core_state.specs.Legal.{IsLegal}
use Rattle.core_state.specs.Allowed.{Sheet, Step}
use Rattle.core_state.specs.States.{StateValue}
use Rattle.page_space.specs.Taking.{IsTaken, HasNoPage}
use Rattle.buffer_frames.specs.Drawing.{HasEncoding}
use Rattle.buffer_frames.specs.Homes.{IsNoPage, BadPageWhere}
use Rattle.buffer_frames.specs.Journals.{logged_bytes, next_record}
use Rattle.buffer_frames.specs.LogCauses.{HoldHasCause, WriteHasCause, LogFullWhere}
use Rattle.buffer_frames.specs.Frames.{FramesValue, Behind}
use Rattle.buffer_frames.specs.Passes.{IsPassOf}
use Rattle.buffer_frames.specs.declared.pass.Pass.{Pass}
use Rattle.buffer_frames.proofs.Begun.{same_by_none}
use Rattle.buffer_frames.specs.declared.frame_error.FrameError.{FrameError}
use Rattle.buffer_frames.specs.declared.frame_error.FrameError.TheVariants as frames
use Rattle.buffer_frames.specs.declared.log_error.LogError.{LogError}
use Rattle.buffer_frames.specs.declared.log_error.LogError.TheVariants as logs
use Rattle.gin_place.specs.Going.{IsPlacingKind, WorksOn}
use Rattle.gin_place.specs.Causes.{Meets, Finds, CannotUse, HasNumbers, HadPage, NoBadPage, HasFault, IsWhy}
use Rattle.gin_place.specs.Causes.{CannotHold, CannotLog}
use Rattle.gin_place.specs.Inner.Refusals.{frame_refusal, log_refusal}
use Rattle.gin_place.specs.declared.error.PlaceError.{PlaceError}
use Rattle.gin_place.specs.declared.error.PlaceError.TheVariants.{StoreFull, LogFull, DiskFault, Down, BadPage}
use Rattle.gin_place.specs.declared.error.PlaceError.TheVariants.{OutOfMemory}
use Rattle.gin_place.specs.Faults.{MetNoFault}
use Rattle.gin_place.proofs.Carrying.{reads_still, same_added, works_in_turn}
use Rattle.gin_place.proofs.Faults.{fine_still, fine_then}

-- what holds of the error that is returned
pub at_exit : {T E : Type 0} (P : E → Type 0) (r : Result T E) (y e : E) → r ≡ Err y → y ≡ e → P e → IfErr r P
at_exit P r y e is same p =
    subst (λ (x : Result _ _). IfErr x P) (sym (is ∙ ap Err same)) p

-- answers that differ
pub ok_not_err : {T E : Type 0} (x : T) (e : E) → ◌≡◌ {A = Result T E} (Ok x) (Err e) → ⊥
ok_not_err x e is = cc

pub bad_not_full : {T : Type 0} (n : ℕ) → ◌≡◌ {A = Result T PlaceError} (Err (BadPage n)) (Err StoreFull) → ⊥
bad_not_full n is = cc

pub down_not_full : (n : ℕ) → Down n ≡ StoreFull → ⊥
down_not_full n is = cc

up : (a b c : ℕ) → a ≤ b → b ≤ c → a ≤ c
up a b c x y = omega (arith, x, y)

-- a page that can't be used, whatever it is to be
pub weaker : {D : Type 0} (f : FramesValue D) (Is : Page → Type 0) (p : ℕ) → CannotUse f (λ (c : Page). ⊤) p
    → CannotUse f Is p
weaker f Is p (CannotUse.past high) = CannotUse.past high
weaker f Is p (CannotUse.bytes none) = CannotUse.bytes none
weaker f Is p (CannotUse.other c is lies off) = absurd (off tt)

-- a page that is taken is there
pub taken_some : (s : StateValue) (since p : ℕ) → IsTaken s since p → HasNoPage s since → ⊥
taken_some s since p (IsTaken.deleted least) none = none.no_deleted p least.holds
taken_some s since p (IsTaken.unused no_deleted least) none = none.no_unused p least.holds

module _ {D : Type 0} (device : Disk D) where
  -- after calls that log nothing a page is taken
  pub had_page : (f g : FramesValue D) (p q : Pass) (n : ℕ) → WorksOn device f p g q []
      → IsTaken g.journal.state q.since n → HadPage device f p
  had_page f g p q n works taken = (g, q, [], works, taken_some g.journal.state q.since n taken)

  pub meets_now : (f : FramesValue D) (p : Pass) (X : FramesValue D → Pass → Type 0) → IsPassOf f p → X f p
      → Meets device f p X
  meets_now f p X of x = (f, p, [], (reads_still device f p of (same_added device f)).works, x)

  pub meets_after : (f g : FramesValue D) (p q : Pass) (ks : List ℕ) (X : FramesValue D → Pass → Type 0)
      → WorksOn device f p g q ks → Meets device g q X → Meets device f p X
  meets_after f g p q ks X w m =
      (m.0, m.1, ks ++ m.2, works_in_turn device f g m.0 p q m.1 ks m.2 w m.3, m.4)

  pub meets_as : (f : FramesValue D) (p : Pass) (X Y : FramesValue D → Pass → Type 0)
      → ((g : FramesValue D) (q : Pass) → X g q → Y g q) → Meets device f p X → Meets device f p Y
  meets_as f p X Y to m = (m.0, m.1, m.2, m.3, to m.0 m.1 m.4)

  -- likewise of calls that log nothing
  pub finds_now : (f : FramesValue D) (p : Pass) (X : FramesValue D → Pass → Type 0) → IsPassOf f p → X f p
      → Finds device f p X
  finds_now f p X of x = (f, p, (reads_still device f p of (same_added device f)).works, fine_still device f, x)

  pub finds_after : (f g : FramesValue D) (p q : Pass) (X : FramesValue D → Pass → Type 0) → WorksOn device f p g q []
      → MetNoFault device f g → Finds device g q X → Finds device f p X
  finds_after f g p q X w fine m =
      (m.0, m.1, works_in_turn device f g m.0 p q m.1 [] [] w m.2, fine_then device f g m.0 fine m.3, m.4)

  pub finds_as : (f : FramesValue D) (p : Pass) (X Y : FramesValue D → Pass → Type 0)
      → ((g : FramesValue D) (q : Pass) → X g q → Y g q) → Finds device f p X → Finds device f p Y
  finds_as f p X Y to m = (m.0, m.1, m.2, m.3, to m.0 m.1 m.4)

  pub meets_found : (f : FramesValue D) (p : Pass) (X : FramesValue D → Pass → Type 0) → Finds device f p X
      → Meets device f p X
  meets_found f p X m = (m.0, m.1, [], m.2, m.4)

  -- what is so in no legal log there is so in none before
  pub none_before : (f g : FramesValue D) (p q : Pass) → WorksOn device f p g q [] → MetNoFault device f g
      → (HasNumbers g → Behind device g (λ (R : Log). ⊥)) → HasNumbers f → Behind device f (λ (R : Log). ⊥)
  none_before f g p q w fine none few told up R stands legal =
      let on = w.added.on R stands in
      let same : on.0 ≡ R = same_by_none f.journal.owes R on.0 on.2 in
      let pages : g.journal.state.pages ≡ f.journal.state.pages = w.goes.state.pages in
      none (omega (arith, few, pages)) told (fine.down ∙ up) on.0 on.1 (subst IsLegal (sym same) legal)

  pub lawful_before : (f g : FramesValue D) (p q : Pass) → WorksOn device f p g q [] → MetNoFault device f g
      → (e : PlaceError) → NoBadPage device g e → NoBadPage device f e
  lawful_before f g p q w fine StoreFull none = tt
  lawful_before f g p q w fine LogFull none = tt
  lawful_before f g p q w fine DiskFault none = tt
  lawful_before f g p q w fine (Down n) none = tt
  lawful_before f g p q w fine OutOfMemory none = tt
  lawful_before f g p q w fine (BadPage n) none = none_before f g p q w fine none

  -- a record that is not logged
  pub log_lawful : (f l g : FramesValue D) (p : Pass) (e : PlaceError) → CannotLog device l e g p → NoBadPage device f e
  log_lawful f l g p StoreFull c = tt
  log_lawful f l g p LogFull c = tt
  log_lawful f l g p DiskFault c = tt
  log_lawful f l g p (Down n) c = tt
  log_lawful f l g p OutOfMemory c = tt
  log_lawful f l g p (BadPage n) c = absurd c

  -- and a bad page that is met then
  pub found_lawful : (Bad : FramesValue D → Pass → ℕ → Type 0) (f l : FramesValue D)
      (p : Pass) (e : PlaceError) → (m : Finds device f p (IsWhy device Bad l e))
      → ((n : ℕ) → Bad m.0 m.1 n → HasNumbers m.0 → Behind device m.0 (λ (R : Log). ⊥)) → NoBadPage device f e
  found_lawful Bad f l p StoreFull m never = tt
  found_lawful Bad f l p LogFull m never = tt
  found_lawful Bad f l p DiskFault m never = tt
  found_lawful Bad f l p (Down n) m never = tt
  found_lawful Bad f l p OutOfMemory m never = tt
  found_lawful Bad f l p (BadPage n) m never = none_before f m.0 p m.1 m.2 m.3 (never n m.4)

  -- the count of faults never falls
  abbrev pub Later : FramesValue D → FramesValue D → Type 0
  Later l m = device.fault_count l.journal.disk ≤ device.fault_count m.journal.disk

  pub fault_later : (f l m : FramesValue D) → Later l m → HasFault device f l → HasFault device f m
  fault_later f l m le rose = up _ (device.fault_count l.journal.disk) (device.fault_count m.journal.disk) rose le

  pub hold_later : (page : ℕ) (l m : FramesValue D) (e : PlaceError) → Later l m → (f : FramesValue D) (p : Pass)
      → CannotHold device page l e f p → CannotHold device page m e f p
  hold_later page l m StoreFull le f p c = c
  hold_later page l m LogFull le f p c = c
  hold_later page l m DiskFault le f p c = fault_later f l m le c
  hold_later page l m (Down n) le f p c = c
  hold_later page l m (BadPage q) le f p c = c
  hold_later page l m OutOfMemory le f p c = c

  module _ (Bad : FramesValue D → Pass → ℕ → Type 0) where
    pub why_later : (l m : FramesValue D) (e : PlaceError) → Later l m → (f : FramesValue D) (p : Pass)
        → IsWhy device Bad l e f p → IsWhy device Bad m e f p
    why_later l m StoreFull le f p c = c
    why_later l m LogFull le f p c = c
    why_later l m DiskFault le f p c = fault_later f l m le c
    why_later l m (Down n) le f p c = c
    why_later l m (BadPage q) le f p c = c
    why_later l m OutOfMemory le f p c = c

    -- a page that is not held, and a step that is not logged
    pub hold_why : (page : ℕ) (l : FramesValue D) (e : PlaceError) (f : FramesValue D) (p : Pass)
        → (CannotUse f (λ (c : Page). ⊤) page → Bad f p page) → CannotHold device page l e f p
        → IsWhy device Bad l e f p
    hold_why page l StoreFull f p bad c = absurd c
    hold_why page l LogFull f p bad c = absurd c
    hold_why page l DiskFault f p bad c = c
    hold_why page l (Down n) f p bad c = c
    hold_why page l (BadPage q) f p bad c =
        subst (Bad f p) (sym c.0) (bad (subst (CannotUse f (λ (x : Page). ⊤)) c.0 c.1))
    hold_why page l OutOfMemory f p bad c = tt

    pub log_why : (l : FramesValue D) (e : PlaceError) (f : FramesValue D) (p : Pass) → CannotLog device l e f p
        → IsWhy device Bad l e f p
    log_why l StoreFull f p c = absurd c
    log_why l LogFull f p c = c
    log_why l DiskFault f p c = c
    log_why l (Down n) f p c = c
    log_why l (BadPage q) f p c = absurd c
    log_why l OutOfMemory f p c = tt

    pub why_as : (Bad' : FramesValue D → Pass → ℕ → Type 0) (l : FramesValue D)
        (e : PlaceError) (f : FramesValue D) (p : Pass) → ((q : ℕ) → Bad f p q → Bad' f p q)
        → IsWhy device Bad l e f p → IsWhy device Bad' l e f p
    why_as Bad' l StoreFull f p to c = c
    why_as Bad' l LogFull f p to c = c
    why_as Bad' l DiskFault f p to c = c
    why_as Bad' l (Down n) f p to c = c
    why_as Bad' l (BadPage q) f p to c = to q c
    why_as Bad' l OutOfMemory f p to c = c

  -- ── what the calls below refuse ──

  pub hold_cause : (f g : FramesValue D) (p : Pass) (page : ℕ) (r : Result Sheet FrameError) (w : FrameError)
      → r ≡ Err w → ((n : ℕ) → (r ≡ Err (frames.Down n)) ↔ (down_of f.journal.wal ≡ Some n))
      → (down_of f.journal.wal ≡ None → BadPageWhere (IsNoPage f.homes page) page r)
      → HoldHasCause device f.journal g.journal r → CannotHold device page g (frame_refusal w) f p
  hold_cause f g p page r frames.DiskFault is down bad cause = cause.fault is
  hold_cause f g p page r (frames.Down n) is down bad cause = (down n).0 is
  hold_cause f g p page r frames.OutOfMemory is down bad cause = tt
  hold_cause f g p page r (frames.BadPage q) is down bad cause =
      let b : BadPageWhere {T = Sheet} (IsNoPage f.homes page) page (Err (frames.BadPage q)) =
      subst (BadPageWhere (IsNoPage f.homes page) page) is (bad (go (down_of f.journal.wal) refl)) in
      (b.0, CannotUse.bytes (subst (IsNoPage f.homes) (sym b.0) b.1))
    where
      go : (o : Option ℕ) → down_of f.journal.wal ≡ o → down_of f.journal.wal ≡ None
      go None e = e
      go (Some n) e =
          let two : Err (frames.BadPage q) ≡ Err (frames.Down n) = sym is ∙ (down n).1 e in
          let z : ⊥ = cc in absurd z

  -- a question is refused only where the journal is down
  pub look_down : {T : Type 0} (f : FramesValue D) (r : Result T FrameError) (w : FrameError) → r ≡ Err w
      → ((n : ℕ) → (r ≡ Err (frames.Down n)) ↔ (down_of f.journal.wal ≡ Some n))
      → (n : ℕ) × (w ≡ frames.Down n) → (n : ℕ) × (frame_refusal w ≡ Down n) × (down_of f.journal.wal ≡ Some n)
  look_down f r w is down n = (n.0, ap frame_refusal n.1, (down n.0).0 (is ∙ ap Err n.1))

  pub log_cause : (f g : FramesValue D) (p : Pass) (step : Step) {T : Type 0} (r : Result T LogError) (w : LogError)
      → IsPlacingKind (kind_number step.kind) → HasEncoding step → length step.after ≤ 3 → r ≡ Err w
      → LogFullWhere (limit_of f.journal.wal)
      (length_with f.journal.wal (logged_bytes f.journal (next_record f.journal step))) r
      → ((n : ℕ) → (r ≡ Err (logs.Down n)) ↔ (down_of f.journal.wal ≡ Some n))
      → WriteHasCause device f.journal.disk g.journal.disk r → CannotLog device g (log_refusal w) f p
  log_cause f g p step r logs.DiskFault placing encoded few is full down cause = cause.fault is
  log_cause f g p step {T} r logs.LogFull placing encoded few is full down cause =
      let over = subst (LogFullWhere {T = T} (limit_of f.journal.wal)
      (length_with f.journal.wal (logged_bytes f.journal (next_record f.journal step)))) is full in
      record { step = step; placing = placing; encoded = encoded; pages = few; over = over }
  log_cause f g p step r (logs.Down n) placing encoded few is full down cause = (down n).0 is
  log_cause f g p step r logs.XidsSpent placing encoded few is full down cause = tt
  log_cause f g p step r logs.OutOfMemory placing encoded few is full down cause = tt
