-- Why the page that a sweep reads next is not held: in a lawful store none is bad.
use Rattle.std.proofs.Common.{◌≡◌, ◌≢◌, ◌⊎◌, ◌<◌, ◌-◌, ℕ, List, [], length, take, refl, sym, subst}
use Rattle.std.proofs.Common.{◌∙◌, inl, inr, arith, Err}
use Rattle.std.proofs.lemmas.List.{take-append-drop}
use Rattle.std.specs.Prelude.{Option, Some, ⊤}
use Rattle.disk_trait.specs.declared.device.Disk.{Ghosts as Disk}
use Rattle.page_types.specs.declared.page.Page.{Page}
use Rattle.page_types.specs.declared.page.Body.TheVariants as body
use Rattle.core_state.specs.Log.{Log, Pages, Shows, cut}
use Rattle.core_state.specs.Legal.{IsLegal}
use Rattle.core_state.specs.PagesTold.{PagesTold, IsEntryLeaf, IsPostLeaf}
use Rattle.core_state.specs.States.{StateTells}
use Rattle.core_state.proofs.LawsHold.{pages}
use Rattle.core_maintenance.specs.Leading.{IsHigh, IsHighPost}
use Rattle.buffer_frames.specs.Frames.{FramesValue, Behind}
use Rattle.buffer_frames.specs.Passes.{IsPassOf, Seen}
use Rattle.buffer_frames.specs.declared.pass.Pass.{Pass}
use Rattle.buffer_frames.proofs.AtHand.{none_held}
use Rattle.buffer_frames.proofs.FirstLogs.{shown_by}
use Rattle.buffer_frames.proofs.HistoryParts.{legal_before}
use Rattle.gin_place.specs.Placing.{HasRight}
use Rattle.gin_place.specs.Going.{WorksOn}
use Rattle.gin_place.specs.Causes.{Finds, CannotUse, NoBadPage}
use Rattle.gin_place.specs.Faults.{FaultBy}
use Rattle.gin_place.specs.Holding.{ReadsOn}
use Rattle.gin_place.specs.declared.error.PlaceError.{PlaceError}
use Rattle.gin_place.specs.declared.error.PlaceError.TheVariants.{StoreFull, LogFull, DiskFault, Down, BadPage}
use Rattle.gin_place.specs.declared.error.PlaceError.TheVariants.{OutOfMemory}
use Rattle.gin_place.proofs.Causing.{weaker, finds_now, none_before}
use Rattle.gin_vacuum.specs.Sweeping.{LeadsOver, AreLeft, AreLeftDown, IsHighLeft, IsAt, IsSweeping}
use Rattle.gin_vacuum.specs.Stepping.{HasSwept, IsCause, IsBad, IsNext, IsPlaceOf, IsSpent, left_of}
use Rattle.gin_vacuum.specs.Inner.Sweeping.{WasSpent}
use Rattle.gin_vacuum.specs.declared.sweeping.Sweeping.{Sweeping}
use Rattle.gin_vacuum.specs.declared.sweeping.Stage.{Stage}
use Rattle.gin_vacuum.specs.declared.sweeping.Stage.TheVariants as stage
use Rattle.gin_vacuum.proofs.Downs.{seen_as, never_used}
use Rattle.gin_vacuum.proofs.GoneDown.{refused}
use Rattle.gin_vacuum.proofs.Kept.{some_then, at_then}
use Rattle.gin_vacuum.proofs.Swept.{sweeping_on}
use Rattle.gin_vacuum.proofs.TreeRuns.{used_below}

-- ── the walk is never too long ──

-- a leaf has one leaf at least from it on
some_lead : (P : Pages) (IsLeaf : ℕ → Type 0) (page n : ℕ) → (IsLeaf 0 → ⊥) → IsLeaf page → LeadsOver P IsLeaf page n
    → 0 < n
some_lead P IsLeaf _ _ zero_not l LeadsOver.end = absurd (zero_not l)
some_lead P IsLeaf _ _ zero_not l (LeadsOver.next k lead) = omega arith

some_left : (P : Pages) (IsLeaf : ℕ → Type 0) (page : ℕ) → (IsLeaf 0 → ⊥) → IsLeaf page
    → AreLeft P IsLeaf page (Some 0) → ⊥
some_left P IsLeaf page zero_not l a = let one = some_lead P IsLeaf page a.0 zero_not l a.1 in omega (arith, one, a.2)

down_left : (P : Pages) (IsLeaf : ℕ → Type 0) (High : ℕ → ℕ → Type 0) (root page : ℕ)
    → AreLeftDown P IsLeaf High root page (Some 0) → ⊥
down_left P IsLeaf High root page a = omega (arith, a.enough)

high_left : (P : Pages) (root page : ℕ) → IsHighLeft P root page (Some 0) → ⊥
high_left P root page a = omega (arith, a.2)

module _ (S : Log) (P : Pages) (told : PagesTold S P) (some : S ≢ []) (dead : List ℕ) (m : Sweeping) where
  -- no page more may be read, though one is to come
  none_left : (t : Stage) (page : ℕ) → IsNext t page → left_of m t ≡ Some 0 → IsAt P dead m t → ⊥
  none_left (stage.Down p) page next e at =
      down_left P (IsEntryLeaf P) (IsHigh P) 1 p
      (subst (λ (o : Option ℕ). AreLeftDown P (IsEntryLeaf P) (IsHigh P) 1 p o) e at.1)
  none_left (stage.Leaf p) page next e at =
      some_left P (IsEntryLeaf P) p (λ l. let z = sym ((told.list).meta some).2 ∙ l.2 in cc) at.0
      (subst (λ (o : Option ℕ). AreLeft P (IsEntryLeaf P) p o) e at.2)
  none_left (stage.TreeDown root p) page next e at =
      down_left P (IsPostLeaf P root) (IsHighPost P) root p
      (subst (λ (o : Option ℕ). AreLeftDown P (IsPostLeaf P root) (IsHighPost P) root p o) e at.2)
  none_left (stage.Posts root before p) page next e at =
      some_left P (IsPostLeaf P root) p (λ l. let z = sym ((told.list).meta some).2 ∙ l.1.2 in cc) at.1
      (subst (λ (o : Option ℕ). AreLeft P (IsPostLeaf P root) p o) e at.3)
  none_left (stage.Parent empty p left) page next e at =
      high_left P empty.root p (subst (λ (o : Option ℕ). IsHighLeft P empty.root p o) e at.6)
  none_left stage.Done page next e at = next

module _ {D : Type 0} (device : Disk D) where
  never_spent : (S : Log) (P : Pages) (f : FramesValue D) (dead : List ℕ) (m : Sweeping) (t : Stage) (page : ℕ) → S ≢ []
      → IsLegal S → Shows S P → IsNext t page → IsAt P dead m t → IsSpent (left_of m t) f
      → StateTells S f.journal.state → ⊥
  never_spent S P f dead m t page some legal shown next at (inl e) tells =
      none_left S P (pages S P legal shown) some dead m t page next e at
  never_spent S P f dead m t page some legal shown next at (inr (none, least)) tells =
      let told = pages S P legal shown in
      let meta = (told.list).meta some in
      let low = used_below S P f.journal.state 0 shown tells least 0 (λ z. let y = sym meta.2 ∙ z in cc) in
      omega (arith, low)

  -- what was seen of no log is so of none at hand
  pub behind_never : (f : FramesValue D) (p : Pass) → IsPassOf f p → Seen device f p (λ S P. ⊥)
      → Behind device f (λ (R : Log). ⊥)
  behind_never f p of never t up R stands legal =
      let legal_then : IsLegal (cut p.seen R) = legal_before (take (length R - p.seen) R) (cut p.seen R)
      (subst IsLegal (sym (take-append-drop (length R - p.seen) R)) legal) in
      let shown = shown_by (cut p.seen R) legal_then.valid in
      never t up R stands legal shown.0 shown.1

module _ {D : Type 0} (device : Disk D) (f g : FramesValue D) (p q : Pass) (right : HasRight p)
    (was : IsPassOf f p) (none : p.held ≡ 0) (reads : ReadsOn device f p g q) (dead : List ℕ) (old : Sweeping)
    (sw : IsSweeping device f p dead old) (page : ℕ) (next : IsNext old.stage page)
    (there : (S : Log) (P : Pages) → S ≢ [] → IsLegal S → Shows S P → IsAt P dead old old.stage
    → IsPlaceOf old.stage (P page) × ((P page).body ≢ body.Free)) where
  -- a page that is read is in its place
  pub never_other : CannotUse f (IsPlaceOf old.stage) page → Behind device f (λ (R : Log). ⊥)
  never_other =
      never_used device f p was right none (λ S P. IsAt P dead old old.stage) (IsPlaceOf old.stage) page
      (λ S S' P Q s at. there S' Q (some_then S S' P Q s) s.legal_then s.shown_then
      (at_then S S' P Q s dead old old.stage at))
      sw.at

  pub never_far : (h : FramesValue D) (r : Pass) → WorksOn device f p h r []
      → WasSpent device (left_of old old.stage) h r
      → Behind device h (λ (R : Log). ⊥)
  never_far h r works spent =
      let then = sweeping_on device f h p r right was works dead [] (none_held device f p was none) old sw in
      behind_never device h r works.is_pass
      (seen_as device h r works.is_pass
      (λ S P. IsAt P dead old old.stage × StateTells S h.journal.state) (λ S P. ⊥)
      (λ S P some legal shown both.
      never_spent device S P h dead old old.stage page some legal shown next both.0 spent.spent both.1)
      (λ t up R stands legal P shown.
      (then.at t up R stands legal P shown, spent.told t up R stands legal P shown)))

  -- ── a page that is not held ──

  abbrev Bad : FramesValue D → ℕ → Type 0
  Bad h n = (n ≡ page) × (CannotUse h (λ (c : Page). ⊤) n ⊎ IsSpent (left_of old old.stage) h)

  abbrev IsWhyBad : ℕ → Type 0
  IsWhyBad n =
      (n ≡ page)
      × (CannotUse f (λ (c : Page). ⊤) n ⊎ Finds device f p (WasSpent device (left_of old old.stage)))

  bad_cause : (n : ℕ) → IsWhyBad n → Finds device f p (IsCause device (IsBad device old) g (BadPage n))
  bad_cause n (e, inl cannot) =
      let other = weaker f (IsPlaceOf old.stage) page (subst (CannotUse f (λ (c : Page). ⊤)) e cannot) in
      finds_now device f p (IsCause device (IsBad device old) g (BadPage n)) was
      (subst (IsBad device old f) (sym e) (IsBad.read next other (never_other other)))
  bad_cause n (e, inr found) = (
    found.0,
    found.1,
    found.2,
    found.3,
    subst (IsBad device old found.0) (sym e)
        (IsBad.far next found.4.spent (never_far found.0 found.1 found.2 found.4)),
  )

  bad_lawful : (n : ℕ) → IsWhyBad n → NoBadPage device f (BadPage n)
  bad_lawful n (e, inl cannot) = λ few.
      never_other (weaker f (IsPlaceOf old.stage) page (subst (CannotUse f (λ (c : Page). ⊤)) e cannot))
  bad_lawful n (e, inr found) =
      none_before device f found.0 p found.1 found.2 found.3
      (λ few. never_far found.0 found.1 found.2 found.4)

  next_cause : (e : PlaceError) → Finds device f p (IsCause device Bad g e) → ((n : ℕ) → e ≡ BadPage n → IsWhyBad n)
      → Finds device f p (IsCause device (IsBad device old) g e)
  next_cause StoreFull m bad = m
  next_cause LogFull m bad = m
  next_cause DiskFault m bad = m
  next_cause (Down n) m bad = m
  next_cause (BadPage n) m bad = bad_cause n (bad n refl)
  next_cause OutOfMemory m bad = m

  next_lawful : (e : PlaceError) → ((n : ℕ) → e ≡ BadPage n → IsWhyBad n) → NoBadPage device f e
  next_lawful StoreFull bad = tt
  next_lawful LogFull bad = tt
  next_lawful DiskFault bad = tt
  next_lawful (Down n) bad = tt
  next_lawful (BadPage n) bad = bad_lawful n (bad n refl)
  next_lawful OutOfMemory bad = tt

  pub refused_next : {T : Type 0} (e : PlaceError) → q.held ≡ 0 → Finds device f p (IsCause device Bad g e)
      → ((n : ℕ) → e ≡ BadPage n → IsWhyBad n) → FaultBy device f g e
      → HasSwept {T = T} device f p g q dead old old (Err e)
  refused_next e still cause bad fault =
      refused device f g p q right was none reads dead old sw e still (next_cause e cause bad)
      (next_lawful e bad) fault

  -- ── one that is none of its place ──

  pub refused_other : {T : Type 0} (c : Page) → q.held ≡ 0 → CannotUse f (IsPlaceOf old.stage) page
      → FaultBy device f g (BadPage page) → HasSwept {T = T} device f p g q dead old old (Err (BadPage page))
  refused_other c still cannot fault =
      let never = never_other cannot in
      refused device f g p q right was none reads dead old sw (BadPage page) still
      (finds_now device f p (IsCause device (IsBad device old) g (BadPage page)) was
      (IsBad.read next cannot never)) (λ few. never) fault

  -- out of memory
  pub refused_memory : {T : Type 0} → q.held ≡ 0 → FaultBy device f g OutOfMemory
      → HasSwept {T = T} device f p g q dead old old (Err OutOfMemory)
  refused_memory still fault =
      refused device f g p q right was none reads dead old sw OutOfMemory still
      (finds_now device f p (IsCause device (IsBad device old) g OutOfMemory) was tt) tt fault
