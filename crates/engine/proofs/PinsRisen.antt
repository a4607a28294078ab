-- Snapshots in use over calls, and the sessions beside the one whose call it is.
use Rattle.std.proofs.Common.{◌≡◌, ◌<◌, ◌≤◌, ℕ, List, length, get_or, refl, sym, ap, subst, ◌∙◌, inl, inr, arith}
use Rattle.std.specs.Prelude.{Option, Some, None, IfSome, MatchOption, slice_set, slice_get, max}
use Rattle.std.proofs.lemmas.List.{length-set}
use Rattle.std.proofs.lemmas.Option.{slice_get_within, slice_get-get_or}
use Rattle.disk_trait.specs.declared.device.Disk.{Ghosts as Disk}
use Rattle.page_types.specs.declared.record.Record.{Record}
use Rattle.core_state.proofs.RunningOnes.{same_or_other}
use Rattle.snap_pins.specs.Taken.{IsPinned}
use Rattle.snap_pins.specs.declared.Pin.{Pin}
use Rattle.buffer_frames.specs.Journals.{JournalValue}
use Rattle.buffer_frames.specs.Passes.{HasPinned, IsRightOf, in_use}
use Rattle.buffer_frames.specs.declared.pass.Pass.{Pass}
use Rattle.buffer_frames.specs.declared.pass.Pinned.{Pinned}
use Rattle.buffer_frames.proofs.PassesOf.{set_at, set_else, some_one}
use Rattle.engine.specs.Answers.{IsResting, IsSession}
use Rattle.engine.specs.Db.{DbValue, state_of, flushed_of}
use Rattle.engine.specs.Going.{PinsRise, Goes, stays, nothing, one}

module _ {D : Type 0} (a b : DbValue D) where
  pub pins_same : b.frames.pins ≡ a.frames.pins → PinsRise a b
  pins_same same place p is = inl (subst (λ (ps : List (Option Pin)). IsPinned ps place p) same is)

  -- a snapshot is taken into use
  pub pins_taken : {pass : Pass} {n : ℕ} → HasPinned a.frames b.frames pass n → b.frames.journal ≡ a.frames.journal
      → PinsRise a b
  pins_taken {pass} {n} h same place p is = elim (same_or_other place h.place) [
    | inl e ↦
        let new : Pin = record { commits = n; length = (state_of b).records } in
        let at : slice_get b.frames.pins place ≡ Some (Some new) =
        ap (slice_get b.frames.pins) e ∙ ap (λ (ps : List (Option Pin)). slice_get ps h.place) h.pins
        ∙ set_at a.frames.pins h.place (Some new) None h.free in
        let q : new ≡ p = some_one new p (some_one (Some new) (Some p) (sym at ∙ is)) in
        let flushed : flushed_of a ≡ p.commits =
        ap (λ (j : JournalValue D). j.flushed) (sym same) ∙ sym h.commits ∙ ap (λ (z : Pin). z.commits) q in
        let records : (state_of a).records ≡ p.length =
        ap (λ (j : JournalValue D). j.state.records) (sym same) ∙ ap (λ (z : Pin). z.length) q in
        inr (omega (arith, flushed), omega (arith, records))
    | inr off ↦
        let other : IsPinned (slice_set a.frames.pins h.place (Some (record {
          commits = n;
          length = (state_of b).records;
        }))) place p =
        subst (λ (ps : List (Option Pin)). IsPinned ps place p) h.pins is in
        inl (set_else a.frames.pins h.place place _ (Some p) off other)
  ]

  -- one is given up, if there is any
  pub pins_given_up : (pin : Option Pinned)
      → MatchOption pin (b.frames.pins ≡ a.frames.pins)
      (λ (q : Pinned). b.frames.pins ≡ slice_set a.frames.pins q.place None)
      → PinsRise a b
  pins_given_up None same place p is = pins_same same place p is
  pins_given_up (Some q) set place p is = elim (same_or_other place q.place) [
    | inl e ↦ absurd (freed place p e is)
    | inr off ↦
        inl (set_else a.frames.pins q.place place None (Some p) off
        (subst (λ (ps : List (Option Pin)). IsPinned ps place p) set is))
  ]
    where
      freed : (place : ℕ) (p : Pin) → place ≡ q.place → IsPinned b.frames.pins place p → ⊥
      freed place p e is =
          let at : slice_get (slice_set a.frames.pins q.place None) q.place ≡ Some (Some p) =
          ap (slice_get (slice_set a.frames.pins q.place None)) (sym e)
          ∙ subst (λ (ps : List (Option Pin)). IsPinned ps place p) set is in
          let lt : q.place < length a.frames.pins =
          omega (
            arith,
            slice_get_within (slice_set a.frames.pins q.place None) q.place (Some p) at,
            length-set a.frames.pins q.place None,
          ) in
          let none = set_at a.frames.pins q.place None (get_or a.frames.pins q.place None)
          (slice_get-get_or a.frames.pins q.place None lt) in
          let same : Some p ≡ None = some_one (Some p) None (sym at ∙ none) in
          (let z : ⊥ = cc in z)

-- the same of calls one after another
pub rise_in_turn : {D : Type 0} (a b c : DbValue D) → flushed_of a ≤ flushed_of b
    → (state_of a).records ≤ (state_of b).records → PinsRise a b → PinsRise b c → PinsRise a c
rise_in_turn a b c flushed records first second place p is = elim (second place p is) [
  | inl old ↦ first place p old
  | inr new ↦ inr (omega (arith, flushed, new.0), omega (arith, records, new.1))
]

-- what the snapshots of other sessions ask of a store that goes on
pub record Rises {D : Type 0} (a b : DbValue D) : Type 0 where
  pub flushed : flushed_of a ≤ flushed_of b
  pub records : (state_of a).records ≤ (state_of b).records
  pub pins : PinsRise a b
  pub work : b.frames.journal.work ≡ a.frames.journal.work

pub rises_in_turn : {D : Type 0} {a b c : DbValue D} → Rises a b → Rises b c → Rises a c
rises_in_turn {D} {a} {b} {c} x y = record {
  flushed = omega (arith, x.flushed, y.flushed);
  records = omega (arith, x.records, y.records);
  pins = rise_in_turn a b c x.flushed x.records x.pins y.pins;
  work = y.work ∙ x.work;
}

module _ {D : Type 0} (device : Disk D) where
  pub rises : {a b : DbValue D} {rs : List Record} → Goes device a b rs → Rises a b
  rises stays = record { flushed = omega arith; records = omega arith; pins = λ place p is. inl is; work = refl }
  rises (nothing p s) = rises_in_turn (rises p) (record {
    flushed = s.runs_on.flushed;
    records = s.added.longer;
    pins = s.pins;
    work = s.state.work;
  })
  rises (one p s) = rises_in_turn (rises p) (record {
    flushed = s.runs_on.flushed;
    records = s.added.longer;
    pins = s.pins;
    work = s.work;
  })

-- it has the right of maintenance still, where it has it
right_on : {D : Type 0} (n : ℕ) {a b : DbValue D} → Rises a b → (w : Option ℕ)
    → IfSome w (λ at. (at ≤ (state_of a).records) × IsRightOf a.frames.journal.work (max at n))
    → IfSome w (λ at. (at ≤ (state_of b).records) × IsRightOf b.frames.journal.work (max at n))
right_on n r None had = tt
right_on n r (Some at) had =
    (omega (arith, had.0, r.records), subst (λ (o : Option ℕ). IsRightOf o (max at n)) (sym r.work) had.1)

-- Another session stays one, where the call's own is one at its end.
module _ {D : Type 0} {a b : DbValue D} (r : Rises a b) (own : Pass) (is : IsResting b own) (p : Pass) where
  rests_by : IsResting a p → IsResting b p
  rests_by session =
      let of = session.is_pass in
      record {
        is_pass = record {
          some = of.some;
          seen = omega (arith, of.seen, r.records);
          all = subst (λ (o : Option ℕ). IfSome o (λ x. p.seen ≡ (state_of b).records)) (sym session.idle.2) tt;
          none_owed = λ owes. session.idle.2;
          shown = omega (arith, of.shown, r.flushed);
          pin = subst (λ (o : Option Pinned).
              IfSome o (λ s. IsPinned b.frames.pins s.place (in_use s) × (s.length ≤ p.seen))) (sym session.idle.0) tt;
          free = λ none. is.is_pass.free is.idle.0;
          few = of.few;
          now = (omega (arith, of.now.0, r.flushed), omega (arith, of.now.1, r.records));
          below = λ place q pinned. elim (r.pins place q pinned) [
            | inl old ↦ of.below place q old
            | inr new ↦ (omega (arith, of.now.0, new.0), omega (arith, of.now.1, new.1))
          ];
          work = right_on p.seen r p.work of.work;
        };
        idle = session.idle;
      }

  pub others_by : IsSession a p → IsSession b p
  others_by session = record { rests = rests_by session.rests; free = r.work ∙ session.free }

module _ {D : Type 0} (device : Disk D) where
  pub others_stay : {a b : DbValue D} {rs : List Record} → Goes device a b rs → (own : Pass) → IsResting b own
      → (p : Pass) → IsSession a p → IsSession b p
  others_stay path own is p session = others_by (rises device path) own is p session

  -- the call's own session is one at its end
  pub own_stays : {a b : DbValue D} {rs : List Record} → Goes device a b rs → (p q : Pass) → IsSession a p
      → IsResting b q → IsSession b q
  own_stays path p q session rests = record { rests = rests; free = (rises device path).work ∙ session.free }
