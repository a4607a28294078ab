-- A claim of the right of maintenance keeps the rule, and so does giving it back.
use Rattle.std.proofs.Common.{◌≡◌, ◌≢◌, ℕ, suc, ◌+◌, ◌≤◌, eqb, Bool, List, [], ◌∷◌, ◌++◌, length, get_or, set, refl}
use Rattle.std.proofs.Common.{sym, ap, subst, ◌∙◌, inl, inr, ⊎_elim, arith, length-set, eq-eqb, ne_eqb}
use Rattle.std.specs.Prelude.{Option, Some, None}
use mathlib.Core.Logic.{dite}
use mathlib.Core.Option.{none, some}
use native.Mathlib.Decide.{ℕ_discrete}
use lib.ListN.{get_elem?}
use prog.Atomic.{either}
use Rattle.atomic_table.specs.Table.{State, Me, step, keeps, stepped, Allows}
use Rattle.page_types.specs.declared.record.Record.{Record}
use Rattle.core_state.specs.Log.{Log, In}
use Rattle.core_state.specs.Legal.{RecordsAreValid}
use Rattle.core_state.specs.Allowed.{AreOthers}
use Rattle.latch_table.specs.declared.slots.Framed.{Ghosts as Framed}
use Rattle.latch_table.specs.declared.slots.Journaled.{Ghosts as Journaled}
use Rattle.latch_table.specs.declared.slots.Slot.{Slot}
use Rattle.latch_table.specs.declared.states.PassState.{PassState}
use Rattle.latch_table.specs.PassStates.{view_of, found_by, with_work, without_work}
use Rattle.latch_table.specs.Told.{claimed_work, gave_work}
use Rattle.latch_table.specs.Shapes.{Shape}
use Rattle.latch_table.specs.Lines.{HasFrames, IsNoted, Knows}
use Rattle.latch_table.specs.Rule.{Kept}
use Rattle.latch_table.proofs.Functions.{put, put_here, put_else, words_after}
use Rattle.latch_table.proofs.Views.{views_stay, changed_at, still}
use Rattle.latch_table.proofs.Told.{allowed, lawful_here}
use Rattle.latch_table.proofs.Alone.{had_seen_all}
use Rattle.latch_table.proofs.Stay.{with_holders, is_free, renoted, store_stays, pins_stay, sums_stay, knows_stays}
use Rattle.latch_table.proofs.ClaimFrames.{found_knows, found_notes, found_taken}

-- the records of a legal log have numbers within its length
numbers : (R : Log) → RecordsAreValid R → (r : Record) → In r R → r.number ≤ length R
numbers [] v r i = absurd i
numbers (q ∷ R) v r i = ⊎_elim
    (λ (e : r ≡ q). let n = v.1.number in let z : r.number ≡ q.number = ap (λ (x : Record). x.number) e in omega arith)
    (λ j. let n = numbers R v.0 r j in omega arith) i

in_front : (r : Record) (xs ys : Log) → In r xs → In r (xs ++ ys)
in_front r [] ys i = absurd i
in_front r (x ∷ xs) ys i = ⊎_elim (λ (e : r ≡ x). inl e) (λ j. inr (in_front r xs ys j)) i

module _ {J : Type 0} where
  others_work : (v : PassState J) (n : ℕ) (rs : Log) → ((r : Record) → In r rs → r.number ≤ n)
      → AreOthers (view_of v) rs
      → AreOthers (view_of (with_work n v)) rs
  others_work v n [] low f = tt
  others_work v n (r ∷ rs) low f = (
    record {
      not_own = f.0.not_own;
      not_all = f.0.not_all;
      not_work = λ at e lt w. let l = low r (inl refl) in let z : n ≡ at = cc e in omega arith;
    },
    others_work v n rs (λ q i. low q (inr i)) f.1,
  )

  others_rest : (v : PassState J) (rs : Log) → AreOthers (view_of v) rs → AreOthers (view_of (without_work v)) rs
  others_rest v [] f = tt
  others_rest v (r ∷ rs) f =
      (record { not_own = f.0.not_own; not_all = f.0.not_all; not_work = λ at e lt w. cc e }, others_rest v rs f.1)

module _ {F J : Type 0} (frame : Framed F) (journal : Journaled J) (start : J) where
  abbrev St : Type 0
  St = State (Slot F J) (PassState J)

  abbrev M : Type 0
  M = Me (Slot F J) (PassState J)

  abbrev Rule : St → Type 0
  Rule = Kept frame journal start

  abbrev taken_by : Shape J → ℕ → Shape J
  taken_by h id = with_holders h (put h.holder (suc h.frames) (suc id)) h.owner

  abbrev freed : Shape J → Shape J
  freed h = with_holders h (put h.holder (suc h.frames) 0) h.owner

  -- nobody has a right that is free
  none_has : (h : Shape J) (id : ℕ) (v : PassState J) → h.holder (suc h.frames) ≡ 0 → Knows journal start h id v
      → v.work ≡ None
  none_has h id v free k = go v.work refl
    where
      go : (o : Option ℕ) → v.work ≡ o → v.work ≡ None
      go None e = e
      go (Some at) e = let t = (k.work at e).0 in absurd (omega arith)

  work_notes : (h : Shape J) (n : ℕ) (v : PassState J) (i : ℕ) → v.work ≡ None → IsNoted h v i
      → IsNoted h (with_work n v) i
  work_notes h n v i empty (IsNoted.as_frame f in_) = IsNoted.as_frame f in_
  work_notes h n v i empty (IsNoted.as_journal b e) = IsNoted.as_journal b e
  work_notes h n v i empty (IsNoted.as_work at e) = absurd (let z : Some at ≡ None = sym e ∙ empty in cc z)

  rest_notes : (h : Shape J) (v : PassState J) (i : ℕ) → i ≢ suc h.frames → IsNoted h v i → IsNoted h (without_work v) i
  rest_notes h v i ne (IsNoted.as_frame f in_) = IsNoted.as_frame f in_
  rest_notes h v i ne (IsNoted.as_journal b e) = IsNoted.as_journal b e
  rest_notes h v i ne (IsNoted.as_work at e) = absurd (ne refl)

  -- what the pass knows once it has the right
  worker_knows : (h : Shape J) (id : ℕ) (v : PassState J) → h.holder (suc h.frames) ≡ 0 → v.room ≢ 0
      → (journal.lawful start → RecordsAreValid h.log) → Knows journal start h id v
      → Knows journal start (taken_by h id) id (with_work (length h.log) v)
  worker_knows h id v free room valid w =
      let i : ℕ = suc h.frames in
      let stays : (q : ℕ) → h.holder q ≡ suc id → put h.holder i (suc id) q ≡ suc id
      = λ q has. put_else h.holder i (suc id) q (λ e. let z : h.holder q ≡ 0 = ap h.holder e ∙ free in omega arith)
      ∙ has in
      let n = knows_stays journal start h (put h.holder i (suc id)) h.owner id v stays w.xids w in
      record {
        start_is = n.start_is;
        fresh = λ e. let t = n.fresh e in record { room = t.room; journal_is = t.journal_is };
        seen = record {
          later = w.seen.later;
          goes_on = w.seen.goes_on;
          others = λ l. others_work v (length h.log) w.seen.later
              (λ r there. numbers h.log (valid l) r
              (subst (λ (R : Log). In r R) (sym w.seen.goes_on) (in_front r w.seen.later v.seen there)))
              (w.seen.others l);
          shown = w.seen.shown;
          counted = w.seen.counted;
        };
        frames = n.frames;
        journal_is = n.journal_is;
        work = λ at e. let z : length h.log ≡ at = cc e in (put_here h.holder i (suc id) i refl, omega arith);
        pin = n.pin;
        floor = n.floor;
        read = n.read;
        xids = n.xids;
        owed = n.owed;
        shown = n.shown;
        redo = n.redo;
        count = n.count;
        own = n.own;
        spent = λ e. absurd (room e);
        met = n.met;
      }

  -- the rule once a free right is claimed
  work_keeps : (s : St) (k : Rule s) (id : ℕ) (v : PassState J) → get_elem? s.views id ≡ some v
      → k.shape.holder (suc k.shape.frames) ≡ 0 → v.room ≢ 0 → (notes : Bool) (word found : ℕ)
      → Rule record {
        words = set s.words (suc k.shape.frames) 1;
        homes = s.homes;
        views = set s.views id (with_work (length k.shape.log) (found_by notes word found v));
      }
  work_keeps s k id v at free room notes word found =
      let h = k.shape in
      let i : ℕ = suc h.frames in
      let holder' : ℕ → ℕ = put h.holder i (suc id) in
      let h' : Shape J = taken_by h id in
      let u : PassState J = found_by notes word found v in
      let w : PassState J = with_work (length h.log) u in
      let known = k.knows id v at in
      let empty = none_has h id v free known in
      let words = words_after s.words h.holder holder' (h.frames + 2) i 1 (omega (arith, k.words.wide))
      (put_else h.holder i (suc id))
      (λ e. absurd (omega (arith, put_here h.holder i (suc id) i refl)))
      (λ _. omega arith) k.words.free k.words.taken in
      let stays : (j q : ℕ) → h.holder q ≡ suc j → holder' q ≡ suc j
      = λ j q has. put_else h.holder i (suc id) q (λ e. let z : h.holder q ≡ 0 = ap h.holder e ∙ free in omega arith)
      ∙ has in
      record {
        shape = h';
        words = record {
          wide = length-set s.words i 1 ∙ k.words.wide;
          deep = k.words.deep;
          free = words.0;
          taken = words.1;
        };
        homes = record {
          frames = λ j lt none_has'.
              let was = k.homes.frames j lt (sym (put_else h.holder i (suc id) j (λ e. omega arith)) ∙ none_has') in
              (was.0, was.1, record { page = was.2.page; bytes = was.2.bytes });
          journal_is = λ none_has'.
              k.homes.journal_is (sym (put_else h.holder i (suc id) h.frames (λ e. omega arith)) ∙ none_has');
          last = k.homes.last;
        };
        noted = λ q j lt has. dite (ℕ_discrete q i)
            (λ e.
            let z : suc id ≡ suc j = sym (put_here h.holder i (suc id) q e) ∙ has in
            let jd : j ≡ id = omega arith in (
              w,
              ap (get_elem? (set s.views id w)) jd ∙ changed_at s.views id v w at,
              subst (IsNoted h' w) (sym e) (IsNoted.as_work (length h.log) refl),
            ))
            (λ ne.
            let t = k.noted q j lt (sym (put_else h.holder i (suc id) q ne) ∙ has) in
            still (λ y. IsNoted h' y q) s.views id j v w t.0 at
            (λ z. work_notes h' (length h.log) u q empty (found_notes frame journal start h' word found notes v q z))
            t.1
            (renoted h holder' h.owner t.0 q t.2));
        store = store_stays journal start h holder' h.owner k.store;
        placed = k.placed;
        pinned = pins_stay journal start h holder' h.owner s.views id v w at refl k.pinned;
        sums = sums_stay journal start h holder' h.owner s.views id v w at refl refl refl refl k.sums;
        knows = views_stay (Knows journal start h) (Knows journal start h') s.views id w
            (worker_knows h id u free room (λ l. (k.store.legal l).valid)
            (found_knows frame journal start h id word found notes v known))
            (λ j y _ _ t. knows_stays journal start h holder' h.owner j y (stays j) t.xids t) k.knows;
      }

  pub claims_work : (notes : Bool) (slots id i : ℕ) (me : M) → i + 1 ≡ slots → me.0.room ≢ 0
      → Allows Rule slots id me i (λ x. either (eqb x 0) 1 x) (claimed_work journal notes (step slots i 0 1 none) me)
  claims_work notes slots id i me last room s k deep at _ =
      let h = k.shape in
      let x : ℕ = get_or s.words i 0 in
      let d = k.words.deep in
      let same : i ≡ suc h.frames = omega (arith, d, deep) in
      dite (ℕ_discrete x 0)
      (λ (hit : x ≡ 0).
      let free : h.holder (suc h.frames) ≡ 0
      = ap h.holder (sym same) ∙ is_free h s k.words i (omega (arith, d, deep)) hit in
      let v : PassState J = found_by notes i x me.0 in
      let w : PassState J = with_work (length h.log) v in
      let known = k.knows id me.0 at in
      let rule = work_keeps s k id me.0 at free room notes i x in (
        w,
        keeps,
        tt,
        subst (λ c. Rule (stepped s i (either c 1 x) id me.1 w keeps)) (sym (eq-eqb x 0 hit))
            (subst (λ n. Rule (stepped s n 1 id me.1 w keeps)) (sym same) rule),
        (
          refl,
          (λ _. record {
            log = h.log;
            goes_on = (known.seen.later, known.seen.goes_on);
            state = refl;
            alone = had_seen_all journal start h s.views k.sums k.knows id me.0 at;
            allowed = λ l.
                let here = lawful_here journal start h id me.0 known l in
                allowed journal start (taken_by h id) id w
                (store_stays journal start h (put h.holder (suc h.frames) (suc id)) h.owner k.store)
                k.pinned.kept
                (worker_knows h id v free room (λ t. (k.store.legal t).valid)
                (found_knows frame journal start h id i x notes me.0 known)) here;
          }),
          λ no. absurd (no hit),
        ),
      ))
      (λ (miss : x ≢ 0). (
        found_by notes i x me.0,
        keeps,
        tt,
        subst (λ c. Rule (stepped s i (either c 1 x) id me.1 (found_by notes i x me.0) keeps)) (sym (ne_eqb x 0 miss))
            (found_taken frame journal start s k i id x notes me.0 at),
        (refl, (λ hit. absurd (miss hit)), λ _. refl),
      ))

  -- what the pass knows once it gave the right back
  rester_knows : (h : Shape J) (id : ℕ) (v : PassState J) → v.room ≢ 0 → Knows journal start h id v
      → Knows journal start (freed h) id (without_work v)
  rester_knows h id v room w =
      let else_ = put_else h.holder (suc h.frames) 0 in
      let notes : (fs : List Rattle.latch_table.specs.declared.states.Note.Note) → HasFrames journal start h id fs
      → HasFrames journal start (freed h) id fs = free_notes in
      record {
        start_is = w.start_is;
        fresh = λ e. let t = w.fresh e in record { room = t.room; journal_is = t.journal_is };
        seen = record {
          later = w.seen.later;
          goes_on = w.seen.goes_on;
          others = λ l. others_rest v w.seen.later (w.seen.others l);
          shown = w.seen.shown;
          counted = w.seen.counted;
        };
        frames = notes v.frames w.frames;
        journal_is = λ b has. let t = w.journal_is b has in (else_ h.frames (λ e. omega arith) ∙ t.0, t.1, t.2);
        work = λ at e. cc e;
        pin = w.pin;
        floor = record { flushed = w.floor.flushed; within = w.floor.within; pins = w.floor.pins };
        read = w.read;
        xids = w.xids;
        owed = w.owed;
        shown = w.shown;
        redo = record { number = w.redo.number; walked = w.redo.walked };
        count = w.count;
        own = w.own;
        spent = λ e. absurd (room e);
        met = w.met;
      }
    where
      free_notes : (fs : List Rattle.latch_table.specs.declared.states.Note.Note) → HasFrames journal start h id fs
          → HasFrames journal start (freed h) id fs
      free_notes [] t = tt
      free_notes (f ∷ fs) t = (
        t.0,
        put_else h.holder (suc h.frames) 0 f.frame (λ e. (let lt = t.0 in omega arith)) ∙ t.1,
        record { placed = t.2.placed; shown = t.2.shown },
        t.3,
        free_notes fs t.4,
      )

  rest_keeps : (s : St) (k : Rule s) (id at' : ℕ) (v : PassState J) → get_elem? s.views id ≡ some v → v.work ≡ Some at'
      → v.room ≢ 0
      → Rule record {
        words = set s.words (suc k.shape.frames) 0;
        homes = s.homes;
        views = set s.views id (without_work v);
      }
  rest_keeps s k id at' v at has_work room =
      let h = k.shape in
      let i : ℕ = suc h.frames in
      let holder' : ℕ → ℕ = put h.holder i 0 in
      let h' : Shape J = freed h in
      let w : PassState J = without_work v in
      let known = k.knows id v at in
      let mine = (known.work at' has_work).0 in
      let else_ = put_else h.holder i 0 in
      let words =
      words_after s.words h.holder holder' (h.frames + 2) i 0 (omega (arith, k.words.wide)) else_ (λ _. refl)
      (λ z. absurd (omega (arith, put_here h.holder i 0 i refl))) k.words.free k.words.taken in
      let stays : (j q : ℕ) → j ≢ id → h.holder q ≡ suc j → holder' q ≡ suc j
      = λ j q other has. else_ q
      (λ e. other (let z : suc id ≡ suc j = sym mine ∙ ap h.holder (sym e) ∙ has in omega arith)) ∙ has in
      record {
        shape = h';
        words = record {
          wide = length-set s.words i 0 ∙ k.words.wide;
          deep = k.words.deep;
          free = words.0;
          taken = words.1;
        };
        homes = record {
          frames = λ j lt none_has'.
              let was = k.homes.frames j lt (sym (else_ j (λ e. omega arith)) ∙ none_has') in
              (was.0, was.1, record { page = was.2.page; bytes = was.2.bytes });
          journal_is = λ none_has'. k.homes.journal_is (sym (else_ h.frames (λ e. omega arith)) ∙ none_has');
          last = k.homes.last;
        };
        noted = λ q j lt has.
            let ne : q ≢ i = λ e. (let z : 0 ≡ suc j = sym (put_here h.holder i 0 q e) ∙ has in omega arith) in
            let o = k.noted q j lt (sym (else_ q ne) ∙ has) in
            still (λ y. IsNoted h' y q) s.views id j v w o.0 at (rest_notes h' v q ne) o.1
            (renoted h holder' h.owner o.0 q o.2);
        store = store_stays journal start h holder' h.owner k.store;
        placed = k.placed;
        pinned = pins_stay journal start h holder' h.owner s.views id v w at refl k.pinned;
        sums = sums_stay journal start h holder' h.owner s.views id v w at refl refl refl refl k.sums;
        knows =
            views_stay (Knows journal start h) (Knows journal start h') s.views id w (rester_knows h id v room known)
            (λ j y other _ z. knows_stays journal start h holder' h.owner j y (λ q. stays j q other) z.xids z) k.knows;
      }

  pub gives_work : (slots id i at' : ℕ) (me : M) → i + 1 ≡ slots → me.0.room ≢ 0 → me.0.work ≡ Some at'
      → Allows Rule slots id me i (λ _. 0) (λ _. gave_work (step slots i 0 0 none) me 0)
  gives_work slots id i at' me last room has_work s k deep at _ =
      let h = k.shape in
      let d = k.words.deep in
      let same : i ≡ suc h.frames = omega (arith, d, deep) in
      let w : PassState J = without_work me.0 in (
        w,
        keeps,
        tt,
        subst (λ n. Rule (stepped s n 0 id me.1 w keeps)) (sym same) (rest_keeps s k id at' me.0 at has_work room),
        refl,
      )
