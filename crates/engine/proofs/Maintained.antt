-- A cleanup or a vacuum between calls that log nothing.
use Rattle.std.proofs.Common.{◌≡◌, ◌≢◌, ◌≤◌, ◌<◌, ℕ, Bool, true, false, List, [], length, refl, sym, ap, subst, ◌∙◌}
use Rattle.std.proofs.Common.{inl, inr}
use Rattle.std.proofs.Common.{arith, append-nil}
use Rattle.std.specs.Prelude.{Option, Some, None, Result, Ok, Err, MatchOption, slice_get, slice_set}
use Rattle.std.proofs.lemmas.List.{get_or-set_other, length-set}
use Rattle.std.proofs.lemmas.Option.{slice_get-get_or, slice_get_within, get_or_from_slice_get}
use Rattle.disk_trait.specs.declared.device.Disk.{Ghosts as Disk}
use Rattle.core_state.specs.Log.{Pages, Shows, cut}
use Rattle.core_state.specs.Documents.{Doc, IsDead}
use Rattle.core_state.proofs.RunningOnes.{same_or_other}
use Rattle.snap_pins.specs.Taken.{IsPinned, IsFree}
use Rattle.snap_pins.specs.declared.Pin.{Pin}
use Rattle.buffer_frames.specs.Frames.{FramesValue}
use Rattle.buffer_frames.specs.Journals.{JournalValue}
use Rattle.buffer_frames.specs.Passes.{HasAdded, HasPinned, with_right}
use Rattle.buffer_frames.specs.declared.pass.Pass.{Pass}
use Rattle.buffer_frames.specs.declared.pass.Pinned.{Pinned}
use Rattle.buffer_frames.proofs.Added.{added_in_turn}
use Rattle.buffer_frames.proofs.PassesOf.{set_at, set_else, some_one}
use Rattle.gin_place.specs.declared.error.PlaceError.{PlaceError}
use Rattle.gin_place.specs.declared.error.PlaceError.TheVariants.{StoreFull, LogFull, DiskFault, Down, BadPage}
use Rattle.gin_place.specs.declared.error.PlaceError.TheVariants.{OutOfMemory}
use Rattle.engine.specs.Causes.{IsDown}
use Rattle.engine.specs.Cleaning.{IsAt, AreMoved}
use Rattle.engine.specs.Db.{DbValue, state_of, IsUp}
use Rattle.engine.specs.Going.{FaultIsTold}
use Rattle.engine.specs.Vacuuming.{IsFloor, IsGone, OfDead, Stops, StopsFull}
use Rattle.engine.specs.Inner.Cleaned.{AreGoneSince}
use Rattle.engine.specs.Inner.Refusals.{place_refusal}
use Rattle.engine.specs.Inner.Vacuumed.{AreKindsOf, Ends, IsVacuumed, ArePlacedSince, HasMaintained}
use Rattle.engine.specs.declared.error.DbError.{DbError}
use Rattle.engine.specs.declared.error.DbError.TheVariants as store
use Rattle.engine.proofs.AtWork.{at_in_turn}
use Rattle.engine.proofs.Stopped.{stops_before, stops_after, vacuumed, nothing_taken}
use Rattle.engine.proofs.Sweeping.{comes_before, ends_before, ends_after, behind_then, refused_by}

-- the log is as long as it was, and the floor is no lower
pub record Quiet {D : Type 0} (f g : FramesValue D) : Type 0 where
  pub records : g.journal.state.records ≡ f.journal.state.records
  pub floor : (n : ℕ) → IsFloor f n → IsFloor g n

-- so it is where the right of maintenance is claimed
pub quiet_right : {D : Type 0} (f g : FramesValue D) (w : Option ℕ) → g ≡ with_right w f → Quiet f g
quiet_right {D} f g w is = record {
  records = ap (λ (x : FramesValue D). x.journal.state.records) is;
  floor = λ n least. subst (λ (x : FramesValue D). IsFloor x n) (sym is)
      (record { flushed = least.flushed; pinned = least.pinned });
}

-- a place beside the one that is set has what it had
set_keeps : {A : Type 0} (xs : List A) (i j : ℕ) (x y : A) → j ≢ i → slice_get xs j ≡ Some y
    → slice_get (slice_set xs i x) j ≡ Some y
set_keeps xs i j x y off e =
    let lt : j < length xs = slice_get_within xs j y e in
    slice_get-get_or (slice_set xs i x) j y (omega (arith, lt, length-set xs i x))
    ∙ ap Some (get_or-set_other xs i j x y off ∙ get_or_from_slice_get xs j y y e)

-- a place that is free has no snapshot
free_else : (ps : List (Option Pin)) (i j : ℕ) (p : Pin) → IsFree ps i → IsPinned ps j p → j ≢ i
free_else ps i j p free is same =
    let z : Some None ≡ Some (Some p) = sym free ∙ ap (slice_get ps) (sym same) ∙ is in
    let y : ⊥ = cc in y

-- and where a snapshot is taken into use
pub quiet_pin : {D : Type 0} (f g : FramesValue D) (p : Pass) (n : ℕ) → HasPinned f g p n → g.journal ≡ f.journal
    → Quiet f g
quiet_pin {D} f g p n h same = record {
  records = ap (λ (j : JournalValue D). j.state.records) same;
  floor = λ k least. record {
    flushed = subst (λ (j : JournalValue D). k ≤ j.flushed) (sym same) least.flushed;
    pinned = λ place q is. elim (same_or_other place h.place) [
      | inl e ↦
          let at : slice_get g.pins place ≡ Some (Some new) =
          ap (slice_get g.pins) e ∙ ap (λ (ps : List (Option Pin)). slice_get ps h.place) h.pins
          ∙ set_at f.pins h.place (Some new) None h.free in
          let one : new ≡ q = some_one new q (some_one (Some new) (Some q) (sym at ∙ is)) in
          let commits : n ≡ q.commits = ap (λ (z : Pin). z.commits) one in
          let flushed : n ≡ f.journal.flushed = h.commits ∙ ap (λ (j : JournalValue D). j.flushed) same in
          omega (arith, least.flushed, commits, flushed)
      | inr off ↦
          least.pinned place q (set_else f.pins h.place place _ (Some q) off
          (subst (λ (ps : List (Option Pin)). IsPinned ps place q) h.pins is))
    ];
  };
}
  where
    new : Pin
    new = record { commits = n; length = g.journal.state.records }

-- a snapshot that is taken and given up leaves the others
pub pins_around : (old mid new : List (Option Pin)) (at : ℕ) (x : Option Pin) → IsFree old at
    → mid ≡ slice_set old at x → new ≡ slice_set mid at None → (place : ℕ) (p : Pin) → IsPinned old place p
    → IsPinned new place p
pins_around old mid new at x free taken given place p is =
    let off = free_else old at place p free is in
    let there : IsPinned mid place p =
    subst (λ (ps : List (Option Pin)). IsPinned ps place p) (sym taken) (set_keeps old at place x (Some p) off is) in
    subst (λ (ps : List (Option Pin)). IsPinned ps place p) (sym given)
    (set_keeps mid at place None (Some p) off there)

-- where the pass has a snapshot, that one is given up
pub given_up : {D : Type 0} (f g : FramesValue D) (pin : Option Pinned) (s : Pinned) → pin ≡ Some s
    → MatchOption pin (g.pins ≡ f.pins) (λ (p : Pinned). g.pins ≡ slice_set f.pins p.place None)
    → g.pins ≡ slice_set f.pins s.place None
given_up f g pin s is given =
    subst (λ (o : Option Pinned). MatchOption o (g.pins ≡ f.pins)
    (λ (p : Pinned). g.pins ≡ slice_set f.pins p.place None))
    is given

-- no record is one of each
pub no_kinds : (v : Bool) → AreKindsOf v []
no_kinds false = tt
no_kinds true = vacuumed [] [] tt nothing_taken

module _ {D : Type 0} (device : Disk D) where
  dead_around : (X : Pages → Pages → Doc → Type 0) (f f1 g h : FramesValue D) → Quiet f f1 → HasAdded device g h []
      → OfDead device f1 g X → OfDead device f h X
  dead_around X f f1 g h q added was tells up R stands legal P Q shown shown' floor least d dead =
      behind_then device g h _ added was tells up R stands legal P Q
      (subst (λ (n : ℕ). Shows (cut n R) P) (sym q.records) shown) shown' floor (q.floor floor least) d
      (subst (λ (n : ℕ). IsDead (cut n R) floor d) (sym q.records) dead)

  pub vacuumed_around : (f f1 g h : FramesValue D) → Quiet f f1 → HasAdded device g h [] → IsVacuumed device f1 g
      → IsVacuumed device f h
  vacuumed_around f f1 g h q added was = record {
    placed = behind_then device g h _ added
        (subst (λ (n : ℕ). ArePlacedSince device n g) q.records was.placed);
    out = dead_around IsGone f f1 g h q added was.out;
  }

  full_around : (f f1 g h : FramesValue D) → IsAt f f1 → HasAdded device f f1 [] → Quiet f f1 → HasAdded device g h []
      → StopsFull device f1 g → StopsFull device f h
  full_around f f1 g h at before q added c = record {
    mid = c.mid;
    at = at_in_turn f f1 c.mid at c.at;
    full = comes_before device f f1 c.mid StoreFull at before c.full;
    kinds = c.kinds;
    taking = c.taking;
    added = subst (HasAdded device c.mid h) (append-nil c.kinds)
        (added_in_turn device c.mid g h c.kinds [] c.added added);
    rest = elim (c.rest) [
      | inl log ↦ inl (stops_after device c.mid g h LogFull added log)
      | inr (inl (p, bad)) ↦ inr (inl (p, stops_after device c.mid g h (BadPage p) added bad))
      | inr (inr left) ↦ inr (inr (dead_around _ f f1 g h q added left))
    ];
  }

  stops_around : (f f1 g h : FramesValue D) (e : PlaceError) → IsAt f f1 → HasAdded device f f1 []
      → HasAdded device g h [] → Stops device f1 g e → Stops device f h e
  stops_around f f1 g h e at before added c =
      stops_after device f g h e added (stops_before device f f1 g [] e at before tt c)

  pub ends_around : (f f1 g h : FramesValue D) (v : Bool) → IsAt f f1 → HasAdded device f f1 [] → Quiet f f1
      → HasAdded device g h []
      → (e : PlaceError) → Ends device v f1 g e → Ends device v f h e
  ends_around f f1 g h false at before q added e c =
      ends_after device f g h e added (ends_before device f f1 g e at before c)
  ends_around f f1 g h true at before q added StoreFull c = full_around f f1 g h at before q added c
  ends_around f f1 g h true at before q added LogFull c = stops_around f f1 g h LogFull at before added c
  ends_around f f1 g h true at before q added (BadPage p) c = stops_around f f1 g h (BadPage p) at before added c
  ends_around f f1 g h true at before q added (Down n) c = c
  ends_around f f1 g h true at before q added DiskFault c = tt
  ends_around f f1 g h true at before q added OutOfMemory c = tt

  -- ── as the store answers it ──

  pub down_as : (T : Type 0) (v : Bool) (a b : DbValue D) (n : ℕ) → IsDown a n → b ≡ a
      → (let answer : Result T DbError = Err (store.Down n) in HasMaintained device v a b answer)
  down_as T false a b n down same = (down, same)
  down_as T true a b n down same = (down, same)

  pub refused_as : (T : Type 0) (v : Bool) (a b : DbValue D) (e : PlaceError) → IsUp a
      → Ends device v a.frames b.frames e
      → (let answer : Result T DbError = Err (place_refusal e) in FaultIsTold device a b answer)
      → (let answer : Result T DbError = Err (place_refusal e) in HasMaintained device v a b answer)
  refused_as T false a b e up ends told = refused_by device T a b e up ends told
  refused_as T true a b StoreFull up ends told = (up, ends)
  refused_as T true a b LogFull up ends told = (up, ends)
  refused_as T true a b (BadPage p) up ends told = (up, ends)
  refused_as T true a b (Down n) up ends told = absurd ends
  refused_as T true a b DiskFault up ends told = told
  refused_as T true a b OutOfMemory up ends told = up

  pub done_as : (T : Type 0) (v : Bool) (a b : DbValue D) (x : T) → IsUp a
      → AreGoneSince device (state_of a).records b.frames → (v ≡ false → AreMoved device a b)
      → (v ≡ true → IsVacuumed device a.frames b.frames)
      → (let answer : Result T DbError = Ok x in HasMaintained device v a b answer)
  done_as T false a b x up gone moved out = (up, moved refl)
  done_as T true a b x up gone moved out =
      let v = out refl in (up, record { gone = gone; placed = v.placed; out = v.out })
