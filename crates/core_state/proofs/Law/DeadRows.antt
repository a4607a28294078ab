-- A dead document that has its slot gets no more rows; and a reading of a log stays one.
use Rattle.std.proofs.Common.{◌≡◌, ◌<◌, ◌≤◌, ◌+◌, ◌++◌, ℕ, suc, [], ◌∷◌, length, length-append, refl, sym, subst, ◌∙◌}
use Rattle.std.proofs.Common.{inl, inr, arith}
use Rattle.page_types.specs.declared.page.Head.{Head}
use Rattle.page_types.specs.declared.page.Row.{Row}
use Rattle.page_types.specs.declared.record.Record.{Record}
use Rattle.core_state.specs.Log.{Log, Pages, In, Shows, commits, cut, next_serial}
use Rattle.core_state.specs.Documents.{Doc, Has, IsDead, placed}
use Rattle.core_state.specs.Index.{IsLinked}
use Rattle.core_state.specs.Legal.{Valid, RecordsAreValid}
use Rattle.core_state.specs.Readings.{WasShown}
use Rattle.core_state.specs.Steady.{DeadGetNoRow, ReadingsStay}
use Rattle.core_state.specs.Inner.HeadsKept.{HeadsKept}
use Rattle.core_state.proofs.Showing.{shown_one}
use Rattle.core_state.proofs.Newest.{cut_less}
use Rattle.core_state.proofs.FateSteps.{dead_more}
use Rattle.core_state.proofs.HeadsFollow.{heads_back, heads_more, places_doc}
use Rattle.core_state.proofs.StaysIndexed.{same_doc, runs_alive}
use Rattle.core_state.proofs.SteadyEnds.{heads_step, ends_stay_behind}
use Rattle.core_state.proofs.Law.LineEffects.{row_back}
use Rattle.core_state.proofs.Law.Steps.{StepHolds, After}
use Rattle.core_state.proofs.Law.Runs.{Holds, plain_run, step_over}

-- a dead document was placed
dead_placed : (n floor : ℕ) (R : Log) (P : Pages) → HeadsKept n R P → (d : Doc) → IsDead R floor d
    → (x : ℕ) × In d (placed R x)
dead_placed n floor R P D d (IsDead.insert_aborted x e p) = (x, p)
dead_placed n floor R P D d (IsDead.delete_counted x k e l m) =
    let c = D.marked_committed x d m in (c.0, c.2)

module _ (step : StepHolds) where
  -- over one record
  module _ (S : Log) (r : Record) (v : RecordsAreValid S) (u : Valid S r (commits S) (suc (length S))) (d : Doc)
      (h : Head)
      (floor : ℕ) (dead : IsDead S floor d) (has : Has u.after d h) where
    before : Holds (commits S) (length S) S u.before
    before = plain_run step S v u.before u.shown

    behind : After (commits S) (length S) S u.before u.after r before.0
    behind = step_over step (commits S) (length S) S r (commits S) (suc (length S)) u (omega arith) (inr refl)
        (omega arith) u.before u.after before.0 u.shown u.shown_after before.1

    had : (k : Head) × Has u.before d k
    had = elim (heads_back S u.before u.after r (commits S) (heads_step S r (commits S) (suc (length S)) u) d.item h
        has.at) [
          | inl w ↦ (w.head, record { at = w.at; serial = sym w.serial ∙ has.serial })
          | inr w ↦
              let p = dead_placed (commits S) floor S u.before before.1.heads d dead in
              absurd (bad d.serial (next_serial S) h.serial (before.1.heads.serials p.0 d p.1)
              (places_doc S u.before u.after r (commits S) (suc (length S)) u.rule d.item h.serial w.kind_is).next
              (sym has.serial))
        ]
      where
        bad : (a b c : ℕ) → a < b → c ≡ b → a ≡ c → ⊥
        bad a b c x y z = omega (arith, x, y, z)

    row_old : (w : Row) → w.item ≡ d.item → IsLinked u.after w → IsLinked u.before w
    row_old w item k = elim (row_back S (r ∷ S) u.before u.after before.0 behind.ghost before.1.lined behind.inv.lined
        behind.case.line w k) [
          | inl old ↦ old
          | inr new ↦
              let same = same_doc u.before new.doc d new.head had.0 new.has had.1 (new.item ∙ item) in
              absurd (runs_alive (commits S + floor) S u.before (heads_more (commits S) (commits S + floor) S u.before
              (omega arith) before.1.heads) new.doc new.head new.has new.runs
              (dead_more S floor (commits S + floor) new.doc (omega arith) (subst (IsDead S floor) (sym same.0) dead)))
        ]

  pub dead_rows : (later R : Log) → RecordsAreValid (later ++ R) → (P Q : Pages) → Shows R P → Shows (later ++ R) Q
      → DeadGetNoRow R P Q
  dead_rows [] R v P Q shown shown' d h floor dead has w item k =
      subst (λ (S : Pages). IsLinked S w) (shown_one R Q P shown' shown) k
  dead_rows (r ∷ later) R v P Q shown shown' d h floor dead has w item k =
      let S : Log = later ++ R in
      let u = v.1 in
      let pages = shown_one (r ∷ S) Q u.after shown' u.shown_after in
      let still = (ends_stay_behind later R v.0).dead_stays d floor dead in
      let has' = subst (λ (T : Pages). Has T d h) pages has in
      let old = had S r v.0 u d h floor still has' in
      dead_rows later R v.0 P u.before shown u.shown d old.0 floor dead old.1 w item
      (row_old S r v.0 u d h floor still has' w item (subst (λ (T : Pages). IsLinked T w) pages k))

-- a reading stays one after later records
cut_behind : (at : ℕ) (later R : Log) → at ≤ length R → cut at (later ++ R) ≡ cut at R
cut_behind at [] R l = refl
cut_behind at (r ∷ later) R l =
    cut_less at r (later ++ R) (let e = length-append later R in omega (arith, e, l)) ∙ cut_behind at later R l

pub readings_stay : (later R : Log) → ReadingsStay R (later ++ R)
readings_stay later R from [] a = a
readings_stay later R from (x ∷ xs) a =
    let w : WasShown R x = a.2 in (
      a.0,
      (let e = length-append later R in omega (arith, e, a.1)),
      (w.0, subst (λ (S : Log). Shows S w.0) (sym (cut_behind x.length later R a.1)) w.1, w.2),
      readings_stay later R x.length xs a.3,
    )
