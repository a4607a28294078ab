-- How calls go on, one after another.
use Rattle.std.proofs.Common.{◌≡◌, ℕ, ◌≤◌, ◌+◌, Bool, true, false, List, [], ◌∷◌, ◌++◌, suc, refl, sym, ap, subst}
use Rattle.std.proofs.Common.{◌∙◌, inl, inr, arith}
use Rattle.std.specs.Prelude.{Result}
use Rattle.disk_trait.specs.declared.device.Disk.{Ghosts as Disk}
use Rattle.wal.proofs.Paging.{kept_then}
use Rattle.page_types.specs.Records.{kind_number}
use Rattle.page_types.specs.declared.record.Record.{Record}
use Rattle.page_types.specs.declared.record.Kind.{Kind}
use Rattle.page_types.specs.declared.record.Kind.TheVariants as kind
use Rattle.core_state.specs.Log.{Log, changed}
use Rattle.core_state.specs.Allowed.{Step}
use Rattle.core_state.specs.States.{StateValue, step_of, stepped, noted}
use Rattle.buffer_frames.specs.Opens.{IsEarlyKind}
use Rattle.buffer_frames.specs.Beginnings.{BeginsOn, BeginsWith}
use Rattle.buffer_frames.specs.Journals.{JournalValue, after_owed, logged, next_record}
use Rattle.buffer_frames.specs.Frames.{FramesValue, Stands, RunsOn, KeepsState}
use Rattle.buffer_frames.specs.LogCauses.{IsCalm, HoldHasCause, WriteHasCause}
use Rattle.buffer_frames.specs.Passes.{GoesOnBy, HasAdded}
use Rattle.buffer_frames.specs.declared.frame_error.FrameError.{FrameError}
use Rattle.buffer_frames.specs.declared.log_error.LogError.{LogError}
use Rattle.buffer_frames.proofs.Added.{on_by_none, on_in_turn}
use Rattle.buffer_frames.proofs.Beginning.{begins_all, begins_then}
use Rattle.buffer_frames.proofs.Begun.{same_by_none}
use Rattle.buffer_frames.proofs.JournalKept.{runs_kept, state_kept}
use Rattle.buffer_frames.proofs.StepsKept.{number_drawn}
use Rattle.gin_place.specs.Running.{DiskRises, KeepsHeaps, BeginsThen, RecordsRise, StoreGoesOn}

-- ── the state of the log ──

heaps_still : (s t : StateValue) → t ≡ s → KeepsHeaps s t
heaps_still s t e = record {
  pages = ap (λ (u : StateValue). u.pages) e;
  deleted = ap (λ (u : StateValue). u.deleted) e;
  heaps = ap (λ (u : StateValue). u.heaps) e;
  current = ap (λ (u : StateValue). u.current) e;
  freed = ap (λ (u : StateValue). u.freed) e;
}

heaps_then : (s t u : StateValue) → KeepsHeaps s t → KeepsHeaps t u → KeepsHeaps s u
heaps_then s t u a b = record {
  pages = b.pages ∙ a.pages;
  deleted = b.deleted ∙ a.deleted;
  heaps = b.heaps ∙ a.heaps;
  current = b.current ∙ a.current;
  freed = b.freed ∙ a.freed;
}

-- a record of the kinds 12 to 17
still_by : (k : Kind) (x : ℕ) (ps : List ℕ) (s : StateValue) → 12 ≤ kind_number k → kind_number k ≤ 17
    → stepped k x ps s ≡ s
still_by kind.Begin x ps s from to = absurd (omega (arith, from))
still_by (kind.Commit n) x ps s from to = absurd (omega (arith, from))
still_by kind.Abort x ps s from to = absurd (omega (arith, from))
still_by (kind.Checkpoint redo) x ps s from to = absurd (omega (arith, from))
still_by (kind.PlaceHead item serial) x ps s from to = absurd (omega (arith, from))
still_by (kind.MarkDeleted item serial) x ps s from to = absurd (omega (arith, from))
still_by kind.FreeSlots x ps s from to = absurd (omega (arith, to))
still_by _ x ps s from to = refl

heaps_one : (r : Record) (s : StateValue) → step_of r s ≡ noted r s → KeepsHeaps s (step_of r s)
heaps_one r s e =
    let k = heaps_still (noted r s) (step_of r s) e in
    record { pages = k.pages; deleted = k.deleted; heaps = k.heaps; current = k.current; freed = k.freed }

heaps_owed : (owes : Bool) (s : StateValue) → KeepsHeaps s (after_owed owes s)
heaps_owed true s = record { pages = refl; deleted = refl; heaps = refl; current = refl; freed = refl }
heaps_owed false s = heaps_still s s refl

-- ── how many records there are ──

records_owed : (owes : Bool) (s : StateValue) → s.records ≤ (after_owed owes s).records
records_owed true s = let e : (after_owed true s).records ≡ 1 + s.records = refl in omega (arith, e)
records_owed false s = omega arith

records_then : (xs ys : List ℕ) (a b c : ℕ) → RecordsRise xs a b → RecordsRise ys b c → RecordsRise (xs ++ ys) a c
records_then [] [] a b c x y = y ∙ x
records_then [] (k ∷ ys) a b c x y = omega (arith, x, y)
records_then (k ∷ xs) [] a b c x y = omega (arith, x, y)
records_then (k ∷ xs) (j ∷ ys) a b c x y = omega (arith, x, y)

module _ {D : Type 0} (device : Disk D) where
  rises_then : (a b c : D) → DiskRises device a b → DiskRises device b c → DiskRises device a c
  rises_then a b c x y = record {
    time = omega (arith, x.time, y.time);
    faults = omega (arith, x.faults, y.faults);
    writes = omega (arith, x.writes, y.writes);
  }

  -- ── calls that log nothing ──

  none_goes : (f g : FramesValue D) → DiskRises device f.journal.disk g.journal.disk → KeepsState f g
      → HasAdded device f g [] → RunsOn device f g → BeginsOn device f.journal g.journal → StoreGoesOn device f g []
  none_goes f g rises state added runs begins = record {
    rises = rises;
    state = heaps_still f.journal.state g.journal.state state.state;
    records = ap (λ (s : StateValue). s.records) state.state;
    runs = runs;
    begins = λ t found R H b. (
      R,
      H,
      on_by_none f.journal.owes R,
      begins_all H,
      begins t found R H b,
      λ s. let on = added.on R s in subst (Stands device g) (same_by_none f.journal.owes R on.0 on.2) on.1,
    );
  }

  calm_rises : (i j : JournalValue D) → IsCalm device i j → DiskRises device i.disk j.disk
  calm_rises i j calm = record { time = calm.time; faults = calm.later; writes = omega (arith, calm.no_write) }

  pub calm_goes : {f g : FramesValue D} → IsCalm device f.journal g.journal → KeepsState f g → HasAdded device f g []
      → RunsOn device f g → BeginsOn device f.journal g.journal → StoreGoesOn device f g []
  calm_goes {f} {g} calm = none_goes f g (calm_rises f.journal g.journal calm)

  pub hold_goes : {T : Type 0} {f g : FramesValue D} (r : Result T FrameError)
      → HoldHasCause device f.journal g.journal r → KeepsState f g → HasAdded device f g [] → RunsOn device f g
      → BeginsOn device f.journal g.journal → StoreGoesOn device f g []
  hold_goes {T} {f} {g} r cause = none_goes f g (elim cause.either [
    | inl c ↦ calm_rises f.journal g.journal c.0
    | inr c ↦ record { time = (c.1).time; faults = ((c.1).later).0; writes = ((c.1).later).1 }
  ])

  write_rises : {T : Type 0} (a b : D) (r : Result T LogError) → WriteHasCause device a b r → DiskRises device a b
  write_rises a b r cause = record { time = cause.time; faults = (cause.later).0; writes = (cause.later).1 }

  -- a record is refused
  pub refused_goes : {T : Type 0} {f g : FramesValue D} (r : Result T LogError)
      → WriteHasCause device f.journal.disk g.journal.disk r → KeepsState f g → HasAdded device f g []
      → RunsOn device f g → BeginsOn device f.journal g.journal → StoreGoesOn device f g []
  refused_goes {T} {f} {g} r cause = none_goes f g (write_rises f.journal.disk g.journal.disk r cause)

  -- nothing is done
  pub goes_still : (f : FramesValue D) → HasAdded device f f [] → StoreGoesOn device f f []
  goes_still f added =
      none_goes f f (record { time = omega arith; faults = omega arith; writes = omega arith }) (state_kept f f refl)
      added (runs_kept device f f refl) (λ t found R H b. b)

  -- ── a record is logged ──

  pub logged_goes : {T : Type 0} (f g : FramesValue D) (step : Step) (r : Result T LogError)
      → 12 ≤ kind_number step.kind → kind_number step.kind ≤ 17 → IsEarlyKind step.kind
      → WriteHasCause device f.journal.disk g.journal.disk r
      → ((R : Log) → Stands device f R → Stands device g (logged f.journal.owes (next_record f.journal step) R))
      → g.journal.state ≡ step_of (next_record f.journal step) (after_owed f.journal.owes f.journal.state)
      → RunsOn device f g
      → (IsEarlyKind step.kind → BeginsWith device f.journal g.journal (next_record f.journal step))
      → StoreGoesOn device f g (kind_number step.kind ∷ [])
  logged_goes f g step r from to early cause stands state runs begins =
      let next : Record = next_record f.journal step in
      let number : kind_number next.kind ≡ kind_number step.kind =
      number_drawn (after_owed f.journal.owes f.journal.state) step.kind in
      let then = after_owed f.journal.owes f.journal.state in
      let still : step_of next then ≡ noted next then =
      still_by next.kind next.xid (changed next) (noted next then) (omega (arith, number, from))
      (omega (arith, number, to)) in
      let last : g.journal.state.records ≡ suc then.records = ap (λ (s : StateValue). s.records) (state ∙ still) in
      record {
        rises = write_rises f.journal.disk g.journal.disk r cause;
        state =
            heaps_then f.journal.state then g.journal.state (heaps_owed f.journal.owes f.journal.state)
            (subst (KeepsHeaps then) (sym state) (heaps_one next then still));
        records = omega (arith, last, records_owed f.journal.owes f.journal.state);
        runs = runs;
        begins = λ t found R H b.
            let h = begins early t found R H b in (
              logged f.journal.owes next R,
              h.0,
              record { added = next ∷ []; log_is = refl; kinds_are = ap (λ (n : ℕ). n ∷ []) number },
              h.1,
              h.2,
              stands R,
            );
      }

  -- ── calls one after another ──

  runs_then : (f g h : FramesValue D) (xs : List ℕ) → DiskRises device f.journal.disk g.journal.disk
      → BeginsThen device f g xs → RunsOn device f g → RunsOn device g h → RunsOn device f h
  runs_then f g h xs rises begins p q = record {
    limit = q.limit ∙ p.limit;
    opened = q.opened ∙ p.opened;
    flushed = omega (arith, p.flushed, q.flushed);
    before = λ t m c le i. p.before t m c le (q.before t m c (omega (arith, le, rises.time)) i);
    since = λ t found R H k at commits le had.
        let then = begins t found R H k in
        q.since t found then.0 then.1 then.4 at commits (omega (arith, le, rises.time))
        (p.since t found R H k at commits le had);
    pages = λ t. kept_then device f.journal.disk g.journal.disk h.journal.disk (p.pages t) (q.pages t);
    up = λ up. p.up (q.up up);
  }

  pub goes_in_turn : (f g h : FramesValue D) (xs ys : List ℕ) → HasAdded device f g xs → StoreGoesOn device f g xs
      → StoreGoesOn device g h ys → StoreGoesOn device f h (xs ++ ys)
  goes_in_turn f g h xs ys added x y = record {
    rises = rises_then f.journal.disk g.journal.disk h.journal.disk x.rises y.rises;
    state = heaps_then f.journal.state g.journal.state h.journal.state x.state y.state;
    records = records_then xs ys f.journal.state.records g.journal.state.records h.journal.state.records x.records
        y.records;
    runs = runs_then f g h xs x.rises x.begins x.runs y.runs;
    begins = λ t found R H b.
        let m = x.begins t found R H b in
        let n = y.begins t found m.0 m.1 m.4 in (
          n.0,
          n.1,
          on_in_turn f.journal.owes R m.0 n.0 xs ys m.2
              (subst (λ (o : Bool). GoesOnBy o m.0 n.0 ys) added.owes n.2),
          begins_then H m.1 n.1 m.3 n.3,
          n.4,
          λ s. n.5 (m.5 s),
        );
  }
