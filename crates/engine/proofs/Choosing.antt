-- Pages that are held and given back, and the page that a head goes on.
use Rattle.std.proofs.Common.{◌≡◌, ◌≢◌, ◌⊎◌, ◌<◌, ◌≤◌, ℕ, zero, suc, List, [], ◌∷◌, length}
use Rattle.std.proofs.Common.{refl, sym, ap, subst, ◌∙◌, inl, inr, arith}
use Rattle.std.specs.Prelude.{◌↔◌, Option, Some, None, Result, Ok, Err, IfOk, IfErr, slice_get}
use Rattle.disk_trait.specs.declared.device.Disk.{Ghosts as Disk}
use Rattle.page_types.specs.Pages.{IsPage, IsHead, IsVectorIn}
use Rattle.page_types.specs.Views.{slots_in, slots_of}
use Rattle.page_types.specs.declared.page.Page.{Page}
use Rattle.page_types.specs.declared.page.Head.{Head}
use Rattle.page_types.specs.declared.page.Gone.{Gone}
use Rattle.page_types.specs.declared.page.Body.{Body}
use Rattle.page_types.specs.declared.page.Body.TheVariants as body
use Rattle.page_types.proofs.PageLaws.{page_told}
use Rattle.core_state.specs.Log.{Log, Pages, In, Shows, cut}
use Rattle.core_state.specs.States.{StateValue, heap_pages}
use Rattle.core_state.specs.Allowed.{Sheet}
use Rattle.core_state.specs.Steps.{IsNewSheet}
use Rattle.core_state.proofs.RunningOnes.{same_or_other}
use Rattle.core_state.proofs.Showing.{shown_one}
use Rattle.page_space.specs.Taking.{IsTaken, HasNoPage}
use Rattle.page_space.proofs.NewPages.{taken_new}
use Rattle.doc_heap.specs.HeapPages.{HasNoRoom}
use Rattle.doc_heap.proofs.SlotSizes.{bytes_of, size_put}
use Rattle.snap_pins.specs.Taken.{IsLeast, IsPinned}
use Rattle.snap_pins.specs.declared.Pin.{Pin}
use Rattle.buffer_frames.specs.Beginnings.{BeginsOn}
use Rattle.buffer_frames.specs.Frames.{RunsOn, KeepsState, KeepsOthers}
use Rattle.buffer_frames.specs.Homes.{home_at, LiesAs, IsAway, IsNoPage, IsNoPageHere, BadPageWhere}
use Rattle.buffer_frames.specs.LogCauses.{IsCalm}
use Rattle.buffer_frames.specs.Passes.{IsPassOf, IsHolding, KeepsPass, PassRises, HasAdded, Seen, SeesOn}
use Rattle.buffer_frames.specs.declared.home.Home.{Home}
use Rattle.buffer_frames.specs.declared.home.Home.TheVariants.{Free, Bytes, Content, Away}
use Rattle.buffer_frames.specs.declared.frame_error.FrameError.{FrameError}
use Rattle.buffer_frames.specs.declared.frame_error.FrameError.TheVariants as frames
use Rattle.buffer_frames.specs.declared.pass.Pass.{Pass}
use Rattle.buffer_frames.proofs.AtHand.{log_length, cut_whole}
use Rattle.buffer_frames.proofs.HomesLie.{lies_here}
use Rattle.buffer_frames.proofs.PinsKept.{state_seen}
use Rattle.engine.specs.Db.{DbValue, fault_of, state_of, IsUp}
use Rattle.engine.specs.Places.{Lies, NoHeapPageHasRoom}
use Rattle.engine.specs.Causes.{IsNone, IsHeap, IsNew, IsNewSought, IsNoPageAt, IsStoreFull}
use Rattle.engine.specs.Going.{TimeGoesOn, Goes, stays, MetNoFault, FaultIsTold}
use Rattle.engine.specs.Inner.Parts.{KeepsWork, CarriesOwn, CannotHold}
use Rattle.engine.specs.Inner.Refusals.{frame_refusal}
use Rattle.engine.specs.Inner.Choosing.{LiesAsBefore, IsPassedOver, WorksOn, HoldsNoMore, HoldsNew}
use Rattle.engine.specs.Inner.Choosing.{CannotTake, CannotChoose}
use Rattle.engine.specs.declared.error.DbError.{DbError}
use Rattle.engine.specs.declared.error.DbError.TheVariants as store
use Rattle.engine.proofs.Carrying.{state_in_turn, carries, carries_still, carries_on, keeps_still, keeps_on}
use Rattle.engine.proofs.Paths.{one_nothing, goes_still, later_on, calm_step, none_in_turn, fault_in_turn}

-- ── what lies in memory ──

lies_same : (h : Home) (c d : Page) → LiesAs h c → LiesAs h d → c ≡ d
lies_same Free c d a b = a ∙ sym b
lies_same (Bytes s) c d a b = page_told c d a.0 b.0 (sym a.1 ∙ b.1)
lies_same (Content e) c d a b = a ∙ sym b
lies_same Away c d a b = absurd a

no_page : (h : Home) (c : Page) → IsNoPageHere h → LiesAs h c → ⊥
no_page Free c none lies = none
no_page (Bytes s) c none lies = none c lies.0 lies.1
no_page (Content e) c none lies = none
no_page Away c none lies = none

only : (p q : ℕ) → p ≢ q → In p (q ∷ []) → ⊥
only p q off (inl e) = off e
only p q off (inr none) = none

-- a page at a place of a list
in_place : (xs : List ℕ) (k p : ℕ) → slice_get xs k ≡ Some p → In p xs
in_place [] k p is = absurd (let z : ⊥ = cc in z)
in_place (x ∷ xs) zero p is = inl (let e : p ≡ x = cc in e)
in_place (x ∷ xs) (suc k) p is = inr (in_place xs k p is)

module _ {D : Type 0} where
  -- one page lies under a number
  pub lies_one : (s : DbValue D) (p : ℕ) (c d : Page) → Lies s p c → Lies s p d → c ≡ d
  lies_one s p c d = lies_same (home_at s.frames.homes p) c d

  pub unmoved : (a b : DbValue D) → KeepsOthers a.frames b.frames [] → LiesAsBefore a b
  unmoved a b kept p c lies = subst (λ (h : Home). LiesAs h c) (kept p (λ i. i)) lies

  -- a page was taken from where it lay
  pub taken_lying : (a b : DbValue D) (page : ℕ) → KeepsOthers a.frames b.frames (page ∷ [])
      → IsAway b.frames.homes page → LiesAsBefore a b
  taken_lying a b page kept away p c lies = elim (same_or_other p page) [
    | inl e ↦ absurd (lies_here (home_at b.frames.homes p) c lies (ap (home_at b.frames.homes) e ∙ away))
    | inr off ↦ subst (λ (h : Home). LiesAs h c) (kept p (only p page off)) lies
  ]

  -- a page was given back as it lay before
  pub back_lying : (a b c : DbValue D) (x : Sheet) → LiesAsBefore a b → Lies a x.page x.content
      → Lies c x.page x.content → KeepsOthers b.frames c.frames (x.page ∷ []) → LiesAsBefore a c
  back_lying a b c x before was is kept p d lies = elim (same_or_other p x.page) [
    | inl e ↦
        let here : Lies c x.page d = subst (λ (q : ℕ). Lies c q d) e lies in
        let one : x.content ≡ d = lies_one c x.page x.content d is here in
        subst (λ (q : ℕ). Lies a q d) (sym e) (subst (Lies a x.page) one was)
    | inr off ↦ before p d (subst (λ (h : Home). LiesAs h d) (kept p (only p x.page off)) lies)
  ]

  pub sought : (s : DbValue D) (k p : ℕ) → Some p ≡ slice_get (heap_pages (state_of s)) k
      → In p (heap_pages (state_of s))
  sought s k p is = in_place (heap_pages (state_of s)) k p (sym is)

-- a place of each page of a list
place_in : (xs : List ℕ) (p : ℕ) → In p xs → (k : ℕ) × (slice_get xs k ≡ Some p)
place_in (x ∷ xs) p (inl e) = (zero, ap Some (sym e))
place_in (x ∷ xs) p (inr i) = let k = place_in xs p i in (suc k.0, k.1)
place_in [] p i = absurd i

none_past : (xs : List ℕ) (n k p : ℕ) → slice_get xs n ≡ None → slice_get xs k ≡ Some p → k < n
none_past [] n k p none is = absurd (let z : ⊥ = cc in z)
none_past (x ∷ xs) zero k p none is = absurd (let z : ⊥ = cc in z)
none_past (x ∷ xs) (suc n) zero p none is = omega arith
none_past (x ∷ xs) (suc n) (suc k) p none is = omega (arith, none_past xs n k p none is)

module _ {D : Type 0} where
  -- none of the pages has room once each was passed over
  pub none_has_room : (a : DbValue D) (h : Head) (n : ℕ) → slice_get (heap_pages (state_of a)) n ≡ None
      → ((k : ℕ) → k < n → IsPassedOver a h k) → NoHeapPageHasRoom a h
  none_has_room a h n none passed p i =
      let k = place_in (heap_pages (state_of a)) p i in
      let over = passed k.0 (none_past (heap_pages (state_of a)) n k.0 p none k.1) in
      let page : over.page ≡ p = (let e : Some over.page ≡ Some p = sym over.at ∙ k.1 in cc) in
      (over.content, subst (λ (q : ℕ). Lies a q over.content) page over.lies, over.no_room)

  -- where no page may be taken, none might before steps that leave the state and the snapshots in use
  full_before : (a b : DbValue D) → state_of b ≡ state_of a → b.frames.pins ≡ a.frames.pins → IsStoreFull b
      → IsStoreFull a
  full_before a b same pins full = (
    full.0,
    subst (λ (ps : List (Option Pin)). IsLeast ps (λ (p : Pin). p.length) (state_of a).records full.0) pins
        (subst (λ (s : StateValue). IsLeast b.frames.pins (λ (p : Pin). p.length) s.records full.0) same full.1),
    subst (λ (s : StateValue). HasNoPage s full.0) same full.2,
  )

-- ── what is said of an answer ──

pub at_ok : {T E : Type 0} (r : Result T E) (P Q : T → Type 0) → ((x : T) → P x → Q x) → IfOk r P → IfOk r Q
at_ok (Ok x) P Q on p = on x p
at_ok (Err e) P Q on p = tt

pub at_err : {T E : Type 0} (r : Result T E) (P Q : E → Type 0) → ((e : E) → P e → Q e) → IfErr r P → IfErr r Q
at_err (Ok x) P Q on p = tt
at_err (Err e) P Q on p = on e p

-- ── a new page has room ──

no_slots : (b : Body) → (b ≡ body.Free) ⊎ ((gone : Gone) × (b ≡ body.Deleted gone)) → slots_in b ≡ []
no_slots b (inl e) = ap slots_in e
no_slots b (inr g) = ap slots_in g.1

short_vector : (bytes : ℕ) (vector : List ℕ) → IsVectorIn bytes vector → length vector ≤ 2000
short_vector bytes vector (inl s) = omega (arith, s.0, s.1)
short_vector bytes vector (inr l) = omega (arith, ap length l.1)

pub new_has_room : (p : Page) (h : Head)
    → (p.body ≡ body.Free) ⊎ ((gone : Gone) × (p.body ≡ body.Deleted gone)) → IsHead h → HasNoRoom p h → ⊥
new_has_room p h is head full =
    let none : slots_of p ≡ [] = no_slots p.body is in
    let small : length h.vector ≤ 2000 = short_vector h.bytes h.vector head.vector in
    let empty : length (slots_of p) ≡ 0 = ap length none in
    let bytes : length (bytes_of (slots_of p)) ≡ 0 = ap (λ (l : List (Option Head)). length (bytes_of l)) none in
    let size = size_put (slots_of p) full.slot h full.slots full.gets.lowest full.gets.in_row full.gets.put in
    elim full.over [
      | inl all ↦ omega (arith, all, full.gets.in_row, empty)
      | inr long ↦ omega (arith, long, size, bytes, small)
    ]

-- ── calls one after another ──

module _ {D : Type 0} (device : Disk D) where
  pub works_still : (s : DbValue D) (p : Pass) → IsPassOf s.frames p → WorksOn device s p s p
  works_still s p of = record {
    is_pass = of;
    carries = carries_still device s p;
    goes = stays;
    state = record { state = refl; owes = refl; work = refl };
    pins = refl;
    lying = λ q c lies. lies;
    keeps = keeps_still p;
    rises = record { seen = omega arith; shown = omega arith; floor = omega arith; since = omega arith };
  }

  pub works_in_turn : (a b c : DbValue D) (p q r : Pass) → WorksOn device a p b q → WorksOn device b q c r
      → WorksOn device a p c r
  works_in_turn a b c p q r x y = record {
    is_pass = y.is_pass;
    carries = carries_on device a b c p q r x.keeps.xid x.carries y.carries;
    goes = goes_still device x.goes y.goes;
    state = state_in_turn a.frames b.frames c.frames x.state y.state;
    pins = y.pins ∙ x.pins;
    lying = λ n d lies. x.lying n d (y.lying n d lies);
    keeps = keeps_on p q r x.keeps y.keeps;
    rises = record {
      seen = omega (arith, x.rises.seen, y.rises.seen);
      shown = omega (arith, x.rises.shown, y.rises.shown);
      floor = omega (arith, x.rises.floor, y.rises.floor);
      since = omega (arith, x.rises.since, y.rises.since);
    };
  }

  -- the state of the log is asked
  pub looked : (a b : DbValue D) (same_pending : b.pending ≡ a.pending) (p q : Pass) → IsPassOf b.frames q
      → SeesOn device b.frames p q
      → HasAdded device a.frames b.frames [] → KeepsPass p q → PassRises p q → q.xid ≡ p.xid
      → RunsOn device a.frames b.frames → KeepsState a.frames b.frames → b.frames.pins ≡ a.frames.pins
      → KeepsOthers a.frames b.frames [] → IsCalm device a.frames.journal b.frames.journal
      → BeginsOn device a.frames.journal b.frames.journal → WorksOn device a p b q
  looked a b same_pending p q of sees added keeps rises xid runs state pins others calm begins = record {
    is_pass = of;
    carries = carries device a b p q added sees rises of;
    goes = one_nothing device (calm_step device a b same_pending added state runs begins calm pins);
    state = state;
    pins = pins;
    lying = unmoved a b others;
    keeps = record { pin = keeps.pin; room = keeps.room; xid = xid; shown = rises.shown };
    rises = rises;
  }

  -- a page is held
  pub held_works : (a b : DbValue D) (p q : Pass) (page : ℕ) (x : Sheet) (held : List Sheet) → IsPassOf b.frames q
      → CarriesOwn device a p b q → Goes device a b [] → KeepsState a.frames b.frames
      → b.frames.pins ≡ a.frames.pins → KeepsWork p q → PassRises p q
      → KeepsOthers a.frames b.frames (page ∷ []) → x.page ≡ page → IsHolding device b.frames q (x ∷ held)
      → WorksOn device a p b q
  held_works a b p q page x held of carried goes state pins keeps rises others number holding = record {
    is_pass = of;
    carries = carried;
    goes = goes;
    state = state;
    pins = pins;
    lying = taken_lying a b page others (subst (IsAway b.frames.homes) number (holding.away.0).0);
    keeps = keeps;
    rises = rises;
  }

  -- none is held
  pub refused_works : (a b : DbValue D) (p q : Pass) → IsPassOf b.frames q → CarriesOwn device a p b q
      → Goes device a b [] → KeepsState a.frames b.frames → b.frames.pins ≡ a.frames.pins → KeepsWork p q
      → PassRises p q → KeepsOthers a.frames b.frames [] → WorksOn device a p b q
  refused_works a b p q of carried goes state pins keeps rises others = record {
    is_pass = of;
    carries = carried;
    goes = goes;
    state = state;
    pins = pins;
    lying = unmoved a b others;
    keeps = keeps;
    rises = rises;
  }

  -- a page that is held is given back
  pub released : (a b c : DbValue D) (same_pending : c.pending ≡ b.pending) (p q r : Pass) (x : Sheet)
      → WorksOn device a p b q
      → Lies a x.page x.content → IsPassOf c.frames r → SeesOn device c.frames q r
      → HasAdded device b.frames c.frames [] → PassRises q r
      → (r.pin ≡ q.pin) × (r.room ≡ q.room) × (r.xid ≡ q.xid) → RunsOn device b.frames c.frames
      → KeepsState b.frames c.frames → c.frames.pins ≡ b.frames.pins → Lies c x.page x.content
      → KeepsOthers b.frames c.frames (x.page ∷ []) → IsCalm device b.frames.journal c.frames.journal
      → BeginsOn device b.frames.journal c.frames.journal → WorksOn device a p c r
  released a b c same_pending p q r x w was of sees added rises same runs state pins is others calm begins = record {
    is_pass = of;
    carries = carries_on device a b c p q r w.keeps.xid w.carries (carries device b c q r added sees rises of);
    goes = goes_still device w.goes
        (one_nothing device (calm_step device b c same_pending added state runs begins calm pins));
    state = state_in_turn a.frames b.frames c.frames w.state state;
    pins = pins ∙ w.pins;
    lying = back_lying a b c x w.lying was is others;
    keeps = keeps_on p q r w.keeps
        (record { pin = same.0; room = same.1; xid = same.2; shown = rises.shown });
    rises = record {
      seen = omega (arith, w.rises.seen, rises.seen);
      shown = omega (arith, w.rises.shown, rises.shown);
      floor = omega (arith, w.rises.floor, rises.floor);
      since = omega (arith, w.rises.since, rises.since);
    };
  }

  pub no_more_in_turn : (a b c : DbValue D) (p q r : Pass) → HoldsNoMore device a p b q → HoldsNoMore device b q c r
      → HoldsNoMore device a p c r
  no_more_in_turn a b c p q r x y = record {
    holding = λ held h. y.holding held (x.holding held h);
    held = y.held ∙ x.held;
  }

  pub new_in_turn : (a b c : DbValue D) (p q r : Pass) (h : Sheet) → WorksOn device a p b q
      → HoldsNoMore device a p b q → HoldsNew device b q c r h → HoldsNew device a p c r h
  new_in_turn a b c p q r h w x y = record {
    holding = λ held is. y.holding held (x.holding held is);
    lies = w.lying h.page h.content y.lies;
    taken = y.taken;
    unused = y.unused;
    is_new = y.is_new;
  }

  pub take_in_turn : (a b c : DbValue D) (e : DbError) → MetNoFault device a b → Goes device a b []
      → CannotTake device b c e → CannotTake device a c e
  take_in_turn a b c (store.Down f) met goes cause = sym met.down ∙ cause
  take_in_turn a b c store.StoreFull met goes cause = cause
  take_in_turn a b c (store.BadPage p) met goes cause = later_on device goes cause
  take_in_turn a b c e met goes cause = cause

  -- ── why a page isn't held ──

  up_at_bad : (o : Option ℕ) (r : Result Sheet FrameError) (q : ℕ)
      → ((f : ℕ) → (r ≡ Err (frames.Down f)) ↔ (o ≡ Some f)) → r ≡ Err (frames.BadPage q) → o ≡ None
  up_at_bad None r q down bad = refl
  up_at_bad (Some f) r q down bad =
      let is : r ≡ Err (frames.Down f) = (down f).1 refl in
      absurd (let z : ⊥ = cc in z)

  pub hold_cause : (s : DbValue D) (p : ℕ) (r : Result Sheet FrameError) (w : FrameError) → r ≡ Err w
      → ((f : ℕ) → (r ≡ Err (frames.Down f)) ↔ (fault_of s ≡ Some f))
      → (fault_of s ≡ None → BadPageWhere (IsNoPage s.frames.homes p) p r)
      → CannotHold device s p IsNoPageAt (frame_refusal w)
  hold_cause s p r (frames.Down f) is down bad = (down f).0 is
  hold_cause s p r frames.DiskFault is down bad = tt
  hold_cause s p r frames.OutOfMemory is down bad = tt
  hold_cause s p r (frames.BadPage q) is down bad =
      let b : BadPageWhere {T = Sheet} (IsNoPage s.frames.homes p) p (Err (frames.BadPage q)) =
      subst (BadPageWhere {T = Sheet} (IsNoPage s.frames.homes p) p) is (bad (up_at_bad (fault_of s) r q down is)) in
      (b.0, IsNone.bytes b.1)

  -- a page that is none is none of any kind
  pub none_at : (s : DbValue D) (Is : Page → Type 0) (p : ℕ) → IsNoPageAt s p → IsNone s Is p
  none_at s Is p (IsNone.past high) = IsNone.past high
  none_at s Is p (IsNone.bytes bytes) = IsNone.bytes bytes
  none_at s Is p (IsNone.other c page lies off) = absurd (off tt)

  pub none_of_kind : (s : DbValue D) (p : ℕ) (e : DbError) → CannotHold device s p IsNoPageAt e
      → CannotHold device s p (λ (t : DbValue D) (q : ℕ). IsNone t (IsHeap t) q) e
  none_of_kind s p (store.BadPage q) c = (c.0, none_at s (IsHeap s) p c.1)
  none_of_kind s p e c = c

  -- ── a new page ──

  least_stays : (pins : List (Option Pin)) (given least other : ℕ) → IsLeast pins (λ (p : Pin). p.length) given least
      → least ≤ other → other ≤ given → ((place : ℕ) (p : Pin) → IsPinned pins place p → other ≤ p.length)
      → other ≡ least
  least_stays pins given least other low le most below = elim low.met [
    | inl e ↦ omega (arith, e, le, most)
    | inr m ↦ omega (arith, le, below m.0 m.1 m.2, m.3)
  ]

  -- the greatest that it may be, it stays
  pub since_stays : (a b : DbValue D) (p q : Pass)
      → IsLeast a.frames.pins (λ (n : Pin). n.length) p.seen p.since → p.seen ≡ (state_of a).records
      → WorksOn device a p b q → q.since ≡ p.since
  since_stays a b p q low all w =
      least_stays a.frames.pins p.seen p.since q.since low w.rises.since
      (omega (arith, w.is_pass.now.1, ap (λ s. s.records) w.state.state, all))
      (λ place n is. (w.is_pass.below place n (subst (λ pins. IsPinned pins place n) (sym w.pins) is)).1)

  pub all_seen : (a b : DbValue D) (p q : Pass) → p.seen ≡ (state_of a).records → WorksOn device a p b q
      → q.seen ≡ (state_of b).records
  all_seen a b p q all w = omega (arith, all, w.rises.seen, w.is_pass.seen, ap (λ s. s.records) w.state.state)

  -- a taken page that is held is a new one in the log
  pub new_seen : (s : DbValue D) (q : Pass) (x : Sheet) (held : List Sheet) → q.seen ≡ (state_of s).records
      → IsTaken (state_of s) q.since x.page → IsHolding device s.frames q (x ∷ held)
      → Seen device s.frames q (λ (S : Log) (P : Pages). IsNewSheet P q.since x.page x.content)
  new_seen s q x held all taken holding t up R stands legal P shown =
      let tells = state_seen device s.frames q all t up R stands legal P shown in
      let a = holding.allowed t up R stands legal in
      let whole : cut q.seen R ≡ R = cut_whole q.seen R (all ∙ log_length device s.frames.journal R stands.journal) in
      let pages : P ≡ a.pages = shown_one R P a.pages (subst (λ (S : Log). Shows S P) whole shown) a.shown in
      subst (IsNewSheet P q.since x.page) (ap (λ (Q : Pages). Q x.page) pages ∙ a.held.0)
      (taken_new (cut q.seen R) P (state_of s) q.since x.page tells shown taken)

  -- ── a try for a new page ──

  module _ (a b : DbValue D) (p q : Pass) (page since : ℕ) (looked : WorksOn device a p b q)
      (low : IsLeast b.frames.pins (λ (n : Pin). n.length) q.seen q.since) (all : q.seen ≡ (state_of b).records)
      (taken : IsTaken (state_of b) q.since page) (same : since ≡ q.since) where
    sought_new : IsNewSought b since page
    sought_new =
        subst (λ (n : ℕ). IsNewSought b n page) (sym same)
        (subst (λ (n : ℕ). IsLeast b.frames.pins (λ (k : Pin). k.length) n q.since) all low, taken)

    -- it is new once it is held
    pub took_new : (c : DbValue D) (r : Pass) (x : Sheet)
        → ((held : List Sheet) → IsHolding device a.frames p held → IsHolding device b.frames q held)
        → WorksOn device b q c r → x.page ≡ page → Lies b page x.content
        → ((held : List Sheet) → IsHolding device b.frames q held → IsHolding device c.frames r (x ∷ held))
        → (held : List Sheet) × IsHolding device a.frames p held → IsNew c since x.content
        → HoldsNew device a p c r x
    took_new c r x still w number lies holding some new =
        let stays : r.since ≡ q.since = since_stays b c q r low all w in
        let now : IsTaken (state_of c) r.since x.page =
        subst (λ (n : ℕ). IsTaken (state_of c) r.since n) (sym number)
        (subst (λ (n : ℕ). IsTaken (state_of c) n page) (sym stays)
        (subst (λ (s : StateValue). IsTaken s q.since page) (sym w.state.state) taken)) in
        record {
          holding = λ held h. holding held (still held h);
          lies = looked.lying x.page x.content (subst (λ (n : ℕ). Lies b n x.content) (sym number) lies);
          taken = now;
          unused = subst (λ (n : ℕ). IsNew c n x.content) (same ∙ sym stays) new;
          is_new = new_seen c r x some.0 (all_seen b c q r all w) now (holding some.0 (still some.0 some.1));
        }

    -- it is new no more
    pub was_used : (c : DbValue D) (x : Page) → IsUp b → IsPage x → Lies b page x → (IsNew b since x → ⊥)
        → CannotTake device a c (store.BadPage page)
    was_used c x up is_page lies old =
        (b, looked.goes, (up, (since, sought_new, IsNone.other x is_page lies old)))

    -- it is none at all
    pub not_taken : (c : DbValue D) (e : DbError) → IsUp b → MetNoFault device a b
        → CannotHold device b page IsNoPageAt e → CannotTake device a c e
    not_taken c (store.Down f) up met cause = sym met.down ∙ cause
    not_taken c (store.BadPage n) up met cause = (
      b,
      looked.goes,
      (
        up,
        (
          since,
          subst (IsNewSought b since) (sym cause.0) sought_new,
          subst (IsNone b (IsNew b since)) (sym cause.0) (none_at b (IsNew b since) page cause.1),
        ),
      ),
    )
    not_taken c store.DiskFault up met cause = tt
    not_taken c store.OutOfMemory up met cause = tt
    not_taken c store.NoDocument up met cause = absurd cause
    not_taken c (store.Conflict x) up met cause = absurd cause
    not_taken c store.StoreFull up met cause = absurd cause
    not_taken c store.LogFull up met cause = absurd cause
    not_taken c store.XidsSpent up met cause = absurd cause

  -- ── an old page that is no heap page ──

  pub not_heap : (a : DbValue D) (page n : ℕ) (x : Page) (e : DbError) → n ≡ page → Lies a page x
      → (e ≡ store.OutOfMemory)
      ⊎ ((e ≡ store.BadPage n) × IsPage x × ((slots : List (Option Head)) → x.body ≡ body.Heap slots → ⊥))
      → CannotHold device a page (λ (t : DbValue D) (q : ℕ). IsNone t (IsHeap t) q) e
  not_heap a page n x e number lies (inl memory) =
      subst (CannotHold device a page (λ (t : DbValue D) (q : ℕ). IsNone t (IsHeap t) q)) (sym memory) tt
  not_heap a page n x e number lies (inr bad) =
      subst (CannotHold device a page (λ (t : DbValue D) (q : ℕ). IsNone t (IsHeap t) q)) (sym bad.0)
      (number, IsNone.other x bad.1 lies (λ heap. bad.2 heap.0 heap.1))

  -- ── the same refusal of another call ──

  told_on : (T U : Type 0) (a b c : DbValue D) (e : DbError) → TimeGoesOn device a b → MetNoFault device a b
      → (let r : Result T DbError = Err e in FaultIsTold device b c r)
      → (let r : Result U DbError = Err e in FaultIsTold device a c r)
  told_on T U a b c (store.Down f) time none told = none_in_turn device none told
  told_on T U a b c (store.BadPage n) time none told = none_in_turn device none told
  told_on T U a b c store.DiskFault time none told = fault_in_turn device time none told
  told_on T U a b c store.OutOfMemory time none told = none_in_turn device none told
  told_on T U a b c store.NoDocument time none told = none_in_turn device none told
  told_on T U a b c (store.Conflict x) time none told = none_in_turn device none told
  told_on T U a b c store.StoreFull time none told = none_in_turn device none told
  told_on T U a b c store.LogFull time none told = none_in_turn device none told
  told_on T U a b c store.XidsSpent time none told = none_in_turn device none told

  pub told_from : {T U : Type 0} (a b c : DbValue D) (r : Result T DbError) (s : Result U DbError) (w e : DbError)
      → r ≡ Err w → s ≡ Err e → e ≡ w → TimeGoesOn device a b → MetNoFault device a b → FaultIsTold device b c r
      → FaultIsTold device a c s
  told_from {T} {U} a b c r s w e rw sw ew time none told =
      subst (FaultIsTold device a c) (sym (sw ∙ ap (λ (x : DbError). Err x) ew))
      (told_on T U a b c w time none (subst (FaultIsTold device b c) rw told))

  -- ── why no page is chosen ──

  module _ (a b : DbValue D) (p q : Pass) (h : Head) (asked : WorksOn device a p b q) (met : MetNoFault device a b)
    where
      -- an old heap page is none
      pub chosen_by_old : (number page : ℕ) (e : DbError) → IsUp b
          → Some page ≡ slice_get (heap_pages (state_of b)) number
          → CannotHold device b page (λ (t : DbValue D) (n : ℕ). IsNone t (IsHeap t) n) e → CannotChoose device a h e
      chosen_by_old number page (store.Down f) up at cause = sym met.down ∙ cause
      chosen_by_old number page (store.BadPage n) up at cause = (
        b,
        asked.goes,
        (
          up,
          inl (
            subst (λ (k : ℕ). In k (heap_pages (state_of b))) (sym cause.0) (sought b number page at),
            subst (IsNone b (IsHeap b)) (sym cause.0) cause.1,
          ),
        ),
      )
      chosen_by_old number page store.DiskFault up at cause = tt
      chosen_by_old number page store.OutOfMemory up at cause = tt
      chosen_by_old number page store.NoDocument up at cause = absurd cause
      chosen_by_old number page (store.Conflict x) up at cause = absurd cause
      chosen_by_old number page store.StoreFull up at cause = absurd cause
      chosen_by_old number page store.LogFull up at cause = absurd cause
      chosen_by_old number page store.XidsSpent up at cause = absurd cause

      -- no new page is taken, once each old one was passed over
      pub chosen_by_new : (c : DbValue D) (r : Pass) (number : ℕ) (e : DbError) → WorksOn device b q c r
          → None ≡ slice_get (heap_pages (state_of b)) number → ((k : ℕ) → k < number → IsPassedOver a h k)
          → CannotTake device b c e → CannotChoose device a h e
      chosen_by_new c r number (store.Down f) w none passed cause = sym met.down ∙ cause
      chosen_by_new c r number store.StoreFull w none passed cause =
          let works = works_in_turn a b c p q r asked w in
          let past : slice_get (heap_pages (state_of a)) number ≡ None =
          subst (λ (s : StateValue). slice_get (heap_pages s) number ≡ None) asked.state.state (sym none) in
          (a, stays, (none_has_room a h number past passed, full_before a c works.state.state works.pins cause))
      chosen_by_new c r number (store.BadPage n) w none passed cause =
          (cause.0, goes_still device asked.goes cause.1, (cause.2.0, inr cause.2.1))
      chosen_by_new c r number store.DiskFault w none passed cause = tt
      chosen_by_new c r number store.OutOfMemory w none passed cause = tt
      chosen_by_new c r number store.NoDocument w none passed cause = absurd cause
      chosen_by_new c r number (store.Conflict x) w none passed cause = absurd cause
      chosen_by_new c r number store.LogFull w none passed cause = absurd cause
      chosen_by_new c r number store.XidsSpent w none passed cause = absurd cause
