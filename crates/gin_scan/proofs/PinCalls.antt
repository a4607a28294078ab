-- Calls that take a snapshot into use, or give it up.
use Rattle.std.proofs.Common.{◌≡◌, ◌<◌, ℕ, List, [], length, get_or, sym, ap, subst, ◌∙◌, inl, inr, arith}
use Rattle.std.specs.Prelude.{Option, Some, None, MatchOption, slice_set, slice_get}
use Rattle.std.proofs.lemmas.List.{length-set}
use Rattle.std.proofs.lemmas.Option.{slice_get_within, slice_get-get_or}
use Rattle.disk_trait.specs.declared.device.Disk.{Ghosts as Disk}
use Rattle.core_state.proofs.RunningOnes.{same_or_other}
use Rattle.snap_pins.specs.Taken.{IsPinned}
use Rattle.snap_pins.specs.declared.Pin.{Pin}
use Rattle.buffer_frames.specs.Beginnings.{BeginsOn}
use Rattle.buffer_frames.specs.Frames.{FramesValue, KeepsOthers}
use Rattle.buffer_frames.specs.Homes.{LiesAs}
use Rattle.buffer_frames.specs.declared.home.Home.{Home}
use Rattle.buffer_frames.specs.Journals.{JournalValue}
use Rattle.buffer_frames.specs.Passes.{HasAdded, HasPinned, PassRises}
use Rattle.buffer_frames.specs.declared.pass.Pass.{Pass}
use Rattle.buffer_frames.specs.declared.pass.Pinned.{Pinned}
use Rattle.buffer_frames.proofs.JournalKept.{state_kept, runs_kept}
use Rattle.buffer_frames.proofs.PassesOf.{set_at, set_else, some_one}
use Rattle.gin_scan.specs.Calls.{PinsRise, AddsOnce, KeepsWork, LieStill}

module _ {D : Type 0} (a b : FramesValue D) where
  -- a snapshot is taken into use
  pins_taken : {pass : Pass} {n : ℕ} → HasPinned a b pass n → b.journal ≡ a.journal → PinsRise a b
  pins_taken {pass} {n} h same place p is = elim (same_or_other place h.place) [
    | inl e ↦
        let new : Pin = record { commits = n; length = b.journal.state.records } in
        let at : slice_get b.pins place ≡ Some (Some new) =
        ap (slice_get b.pins) e ∙ ap (λ (ps : List (Option Pin)). slice_get ps h.place) h.pins
        ∙ set_at a.pins h.place (Some new) None h.free in
        let q : new ≡ p = some_one new p (some_one (Some new) (Some p) (sym at ∙ is)) in
        let flushed : a.journal.flushed ≡ p.commits =
        ap (λ (j : JournalValue D). j.flushed) (sym same) ∙ sym h.commits ∙ ap (λ (z : Pin). z.commits) q in
        let records : a.journal.state.records ≡ p.length =
        ap (λ (j : JournalValue D). j.state.records) (sym same) ∙ ap (λ (z : Pin). z.length) q in
        inr (omega (arith, flushed), omega (arith, records))
    | inr off ↦
        let other : IsPinned (slice_set a.pins h.place (Some (record {
          commits = n;
          length = b.journal.state.records;
        }))) place p =
        subst (λ (ps : List (Option Pin)). IsPinned ps place p) h.pins is in
        inl (set_else a.pins h.place place _ (Some p) off other)
  ]

  -- one is given up, if there is any
  pins_given_up : (pin : Option Pinned)
      → MatchOption pin (b.pins ≡ a.pins) (λ (q : Pinned). b.pins ≡ slice_set a.pins q.place None)
      → PinsRise a b
  pins_given_up None same place p is = inl (subst (λ (ps : List (Option Pin)). IsPinned ps place p) same is)
  pins_given_up (Some q) set place p is = elim (same_or_other place q.place) [
    | inl e ↦ absurd (freed place p e is)
    | inr off ↦
        inl (set_else a.pins q.place place None (Some p) off
        (subst (λ (ps : List (Option Pin)). IsPinned ps place p) set is))
  ]
    where
      freed : (place : ℕ) (p : Pin) → place ≡ q.place → IsPinned b.pins place p → ⊥
      freed place p e is =
          let at : slice_get (slice_set a.pins q.place None) q.place ≡ Some (Some p) =
          ap (slice_get (slice_set a.pins q.place None)) (sym e)
          ∙ subst (λ (ps : List (Option Pin)). IsPinned ps place p) set is in
          let lt : q.place < length a.pins =
          omega (
            arith,
            slice_get_within (slice_set a.pins q.place None) q.place (Some p) at,
            length-set a.pins q.place None,
          ) in
          let none = set_at a.pins q.place None (get_or a.pins q.place None)
          (slice_get-get_or a.pins q.place None lt) in
          let same : Some p ≡ None = some_one (Some p) None (sym at ∙ none) in
          (let z : ⊥ = cc in z)

-- a call that leaves the journal as it is
journal_once : {D : Type 0} (device : Disk D) (a b : FramesValue D) → HasAdded device a b []
    → BeginsOn device a.journal b.journal → b.journal ≡ a.journal → PinsRise a b → AddsOnce device a b
journal_once {D} device a b added begins same pins = record {
  added = added;
  state = state_kept a b same;
  runs_on = runs_kept device a b same;
  begins = begins;
  time = omega (arith, ap (λ (j : JournalValue D). device.clock j.disk) same);
  faults = omega (arith, ap (λ (j : JournalValue D). device.fault_count j.disk) same);
  writes = omega (arith, ap (λ (j : JournalValue D). device.write_fault_count j.disk) same);
  pins = pins;
}

pub pin_once : {D : Type 0} (device : Disk D) (a b : FramesValue D) (pass : Pass) (n : ℕ) → HasPinned a b pass n
    → HasAdded device a b [] → BeginsOn device a.journal b.journal → b.journal ≡ a.journal → AddsOnce device a b
pin_once device a b pass n pinned added begins same =
    journal_once device a b added begins same (pins_taken a b {pass = pass} {n = n} pinned same)

pub unpin_once : {D : Type 0} (device : Disk D) (a b : FramesValue D) (pin : Option Pinned)
    → MatchOption pin (b.pins ≡ a.pins) (λ (q : Pinned). b.pins ≡ slice_set a.pins q.place None)
    → HasAdded device a b [] → BeginsOn device a.journal b.journal → b.journal ≡ a.journal → AddsOnce device a b
unpin_once device a b pin gone added begins same =
    journal_once device a b added begins same (pins_given_up a b pin gone)

-- what a call keeps of the pass's work
pub keeps_work : (p q : Pass) → q.xid ≡ p.xid → q.room ≡ p.room → q.work ≡ p.work → PassRises p q → KeepsWork p q
keeps_work p q xid room work rises = record { xid = xid; room = room; work = work; rises = rises }

-- where no page changed its place, what lay there lies there still
pub lie_still : {D : Type 0} (a b : FramesValue D) → KeepsOthers a b [] → LieStill a b
lie_still a b others n c lies = subst (λ (h : Home). LiesAs h c) (sym (others n (λ z. z))) lies
