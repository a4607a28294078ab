-- A claim of a frame keeps the rule.
use Rattle.std.proofs.Common.{◌≡◌, ◌≢◌, ℕ, suc, ◌+◌, ◌-◌, ◌<◌, ◌==◌, eqb, Bool, List, length, get_or, set, refl, sym}
use Rattle.std.proofs.Common.{ap, subst, ◌∙◌, inl, inr, arith, length-set, eq-eqb, ne_eqb}
use Rattle.std.proofs.lemmas.List.{set-get_or}
use mathlib.Core.Logic.{dite}
use mathlib.Core.Option.{none, some}
use native.Mathlib.Decide.{ℕ_discrete}
use lib.ListN.{get_elem?}
use prog.Atomic.{either}
use Rattle.atomic_table.specs.Table.{State, Me, step, keeps, takes, stepped, Allows}
use Rattle.atomic_table.proofs.Lists.{set_else}
use Rattle.page_types.specs.Numbers.{page_limit}
use Rattle.page_types.specs.Encoding.{page_bytes}
use Rattle.core_state.specs.Log.{Shows}
use Rattle.latch_table.specs.declared.slots.Framed.{Ghosts as Framed}
use Rattle.latch_table.specs.declared.slots.Journaled.{Ghosts as Journaled}
use Rattle.latch_table.specs.declared.slots.Slot.{Slot}
use Rattle.latch_table.specs.declared.slots.Slot.TheVariants.{Frame}
use Rattle.latch_table.specs.declared.states.Note.{Note}
use Rattle.latch_table.specs.declared.states.PassState.{PassState}
use Rattle.latch_table.specs.PassStates.{view_of, found_by, with_frame}
use Rattle.latch_table.specs.Told.{claimed}
use Rattle.latch_table.specs.Shapes.{Shape}
use Rattle.latch_table.specs.Lines.{IsFrame, IsNoted, Knows}
use Rattle.latch_table.specs.Rule.{Kept}
use Rattle.latch_table.proofs.Functions.{put, put_here, put_else, words_after}
use Rattle.latch_table.proofs.Views.{views_stay, changed_at, still}
use Rattle.latch_table.proofs.Frames.{absent_free, reads_if, shown_now}
use Rattle.latch_table.proofs.Told.{same_others, allowed, lawful_here}
use Rattle.latch_table.proofs.Alone.{had_seen_all}
use Rattle.latch_table.proofs.Stay.{with_holders, is_free, renoted, store_stays, pins_stay, sums_stay, knows_stays}

module _ {F J : Type 0} (frame : Framed F) (journal : Journaled J) (start : J) where
  abbrev St : Type 0
  St = State (Slot F J) (PassState J)

  abbrev M : Type 0
  M = Me (Slot F J) (PassState J)

  abbrev Rule : St → Type 0
  Rule = Kept frame journal start

  abbrev after : Shape J → ℕ → ℕ → F → PassState J → PassState J
  after h i sought f v = with_frame (length h.log) sought
      (record { frame = i; page = frame.page f; bytes = frame.bytes f; content = h.pages (frame.page f) }) v

  abbrev taken_by : Shape J → ℕ → ℕ → Shape J
  taken_by h i id = with_holders h (put h.holder i (suc id)) h.owner

  -- what a view knows does not depend on what it found
  pub found_knows : (h : Shape J) (id word x : ℕ) (notes : Bool) (v : PassState J) → Knows journal start h id v
      → Knows journal start h id (found_by notes word x v)
  found_knows h id word x notes v w = record {
    start_is = w.start_is;
    fresh = λ e. let f = w.fresh e in record { room = f.room; journal_is = f.journal_is };
    seen = record {
      later = w.seen.later;
      goes_on = w.seen.goes_on;
      others = w.seen.others;
      shown = w.seen.shown;
      counted = w.seen.counted;
    };
    frames = w.frames;
    journal_is = w.journal_is;
    work = w.work;
    pin = w.pin;
    floor = w.floor;
    read = w.read;
    xids = w.xids;
    owed = w.owed;
    shown = w.shown;
    redo = w.redo;
    count = w.count;
    own = w.own;
    spent = λ e. let t = w.spent e in record {
      pin = t.pin;
      frames = t.frames;
      journal_is = t.journal_is;
      work = t.work;
      redo = t.redo;
      walk = t.walk;
      xids = t.xids;
      begun = t.begun;
      own = t.own;
      faults = t.faults;
      write_faults = t.write_faults;
    };
    met = w.met;
  }

  pub found_notes : (h : Shape J) (word x : ℕ) (notes : Bool) (v : PassState J) (i : ℕ) → IsNoted h v i
      → IsNoted h (found_by notes word x v) i
  found_notes h word x notes v i (IsNoted.as_frame f in_) = IsNoted.as_frame f in_
  found_notes h word x notes v i (IsNoted.as_journal b e) = IsNoted.as_journal b e
  found_notes h word x notes v i (IsNoted.as_work at e) = IsNoted.as_work at e

  -- a word that was found taken stays as it was
  pub found_taken : (s : St) (k : Rule s) (i id x : ℕ) (notes : Bool) (v : PassState J) → get_elem? s.views id ≡ some v
      → Rule record {
        words = set s.words i (get_or s.words i 0);
        homes = s.homes;
        views = set s.views id (found_by notes i x v);
      }
  found_taken s k i id x notes v at =
      let h = k.shape in
      let w : PassState J = found_by notes i x v in
      subst (λ (l : List ℕ). Rule record { words = l; homes = s.homes; views = set s.views id w })
      (sym (set-get_or s.words i 0)) record {
        shape = h;
        words = record { wide = k.words.wide; deep = k.words.deep; free = k.words.free; taken = k.words.taken };
        homes = record { frames = k.homes.frames; journal_is = k.homes.journal_is; last = k.homes.last };
        noted = λ q j lt has.
            let t = k.noted q j lt has in
            still (λ y. IsNoted h y q) s.views id j v w t.0 at (found_notes h i x notes v q) t.1 t.2;
        store = k.store;
        placed = k.placed;
        pinned = pins_stay journal start h h.holder h.owner s.views id v w at refl k.pinned;
        sums = sums_stay journal start h h.holder h.owner s.views id v w at refl refl refl refl k.sums;
        knows = views_stay (Knows journal start h) (Knows journal start h) s.views id w
            (found_knows h id i x notes v (k.knows id v at)) (λ j y _ _ t. t) k.knows;
      }

  with_notes : (h h' : Shape J) (i sought at : ℕ) (f : Note) (v : PassState J) (q : ℕ) → h'.frames ≡ h.frames
      → IsNoted h v q
      → IsNoted h' (with_frame at sought f v) q
  with_notes h h' i sought at f v q same (IsNoted.as_frame g in_) = IsNoted.as_frame g (inr in_)
  with_notes h h' i sought at f v q same (IsNoted.as_journal b e) =
      subst (IsNoted h' (with_frame at sought f v)) same (IsNoted.as_journal b e)
  with_notes h h' i sought at f v q same (IsNoted.as_work n e) =
      subst (λ m. IsNoted h' (with_frame at sought f v) (suc m)) same (IsNoted.as_work n e)

  -- what the pass knows once it has claimed frame i
  claimer_knows : (h : Shape J) (id i sought : ℕ) (f : F) (v : PassState J) → i < h.frames → h.holder i ≡ 0 → v.room ≢ 0
      → IsFrame frame journal start h i f
      → (journal.lawful start → frame.page f < page_limit → page_bytes (h.pages (frame.page f)) ≡ frame.bytes f)
      → (journal.lawful start → Shows h.log h.pages)
      → Knows journal start h id v → Knows journal start (taken_by h i id) id (after h i sought f v)
  claimer_knows h id i sought f v within free room home encoded shown w =
      let holder' : ℕ → ℕ = put h.holder i (suc id) in
      let stays : (q : ℕ) → h.holder q ≡ suc id → holder' q ≡ suc id
      = λ q has. put_else h.holder i (suc id) q (λ e. let z : h.holder q ≡ 0 = ap h.holder e ∙ free in omega arith)
      ∙ has in
      let n = knows_stays journal start h holder' h.owner id v stays w.xids w in
      record {
        start_is = n.start_is;
        fresh = λ e. let t = n.fresh e in record { room = t.room; journal_is = t.journal_is };
        seen = record {
          later = w.seen.later;
          goes_on = w.seen.goes_on;
          others = λ l. same_others (view_of v) (view_of (after h i sought f v)) w.seen.later refl refl refl
              (w.seen.others l);
          shown = w.seen.shown;
          counted = w.seen.counted;
        };
        frames = (
          within,
          put_here h.holder i (suc id) i refl,
          record { placed = sym home.page; shown = λ l lt. (refl, encoded l lt) },
          absent_free journal start h id i v.frames (λ e. omega arith) w.frames,
          n.frames,
        );
        journal_is = n.journal_is;
        work = n.work;
        pin = n.pin;
        floor = n.floor;
        read = λ l. let r = w.read l in (
          r.0,
          reads_if (frame.page f == sought) h.log v.from v.readings (record {
            length = length h.log;
            page = frame.page f;
            bytes = frame.bytes f;
            content = h.pages (frame.page f);
          }) r.0 refl (shown_now h.log h.pages (frame.page f) (shown l)) r.1,
        );
        xids = n.xids;
        owed = n.owed;
        shown = n.shown;
        redo = n.redo;
        count = n.count;
        own = n.own;
        spent = λ e. absurd (room e);
        met = n.met;
      }

  -- the rule once a free frame is claimed, by a pass whose view is then v but for the frame
  claim_keeps : (s : St) (k : Rule s) (id i sought x : ℕ) (f : F) (v : PassState J) → get_elem? s.views id ≡ some v
      → i < k.shape.frames
      → k.shape.holder i ≡ 0 → v.room ≢ 0 → 0 < x → get_elem? s.homes i ≡ some (some (Frame f))
      → IsFrame frame journal start k.shape i f
      → (journal.lawful start → frame.page f < page_limit → page_bytes (k.shape.pages (frame.page f)) ≡ frame.bytes f)
      → (notes : Bool) (found : ℕ)
      → Rule record {
        words = set s.words i x;
        homes = set s.homes i none;
        views = set s.views id (after k.shape i sought f (found_by notes i found v));
      }
  claim_keeps s k id i sought x f v at within free room some_x there home encoded notes found =
      let h = k.shape in
      let holder' : ℕ → ℕ = put h.holder i (suc id) in
      let h' : Shape J = taken_by h i id in
      let u : PassState J = found_by notes i found v in
      let w : PassState J = after h i sought f u in
      let note : Note =
      record { frame = i; page = frame.page f; bytes = frame.bytes f; content = h.pages (frame.page f) } in
      let words = words_after s.words h.holder holder' (h.frames + 2) i x (omega (arith, k.words.wide))
      (put_else h.holder i (suc id))
      (λ e. absurd (omega (arith, put_here h.holder i (suc id) i refl))) (λ _. some_x) k.words.free k.words.taken in
      let stays : (j q : ℕ) → h.holder q ≡ suc j → holder' q ≡ suc j
      = λ j q has. put_else h.holder i (suc id) q (λ e. let z : h.holder q ≡ 0 = ap h.holder e ∙ free in omega arith)
      ∙ has in
      record {
        shape = h';
        words = record {
          wide = length-set s.words i x ∙ k.words.wide;
          deep = length-set s.homes i none ∙ k.words.deep;
          free = words.0;
          taken = words.1;
        };
        homes = record {
          frames = λ j lt none_has.
              let ne : j ≢ i = λ e. (let z = put_here h.holder i (suc id) j e in omega arith) in
              let was = k.homes.frames j lt (sym (put_else h.holder i (suc id) j ne) ∙ none_has) in
              (was.0, set_else s.homes i j none ne ∙ was.1, record { page = was.2.page; bytes = was.2.bytes });
          journal_is = λ none_has.
              let ne : h.frames ≢ i = λ e. omega arith in
              set_else s.homes i h.frames none ne
              ∙ k.homes.journal_is (sym (put_else h.holder i (suc id) h.frames ne) ∙ none_has);
          last = set_else s.homes i (suc h.frames) none (λ e. omega arith) ∙ k.homes.last;
        };
        noted = λ q j lt has. dite (ℕ_discrete q i)
            (λ e.
            let z : suc id ≡ suc j = sym (put_here h.holder i (suc id) q e) ∙ has in
            let jd : j ≡ id = omega arith in (
              w,
              ap (get_elem? (set s.views id w)) jd ∙ changed_at s.views id v w at,
              subst (IsNoted h' w) (sym e) (IsNoted.as_frame note (inl refl)),
            ))
            (λ ne.
            let t = k.noted q j lt (sym (put_else h.holder i (suc id) q ne) ∙ has) in
            let r = still (λ y. IsNoted h y q) s.views id j v u t.0 at (found_notes h i found notes v q) t.1 t.2 in
            still (λ y. IsNoted h' y q) s.views id j v w t.0 at (λ z. with_notes h' h' i sought (length h.log) note u q
            refl (found_notes h' i found notes v q z)) t.1 (renoted h holder' h.owner t.0 q t.2));
        store = store_stays journal start h holder' h.owner k.store;
        placed = k.placed;
        pinned = pins_stay journal start h holder' h.owner s.views id v w at refl k.pinned;
        sums = sums_stay journal start h holder' h.owner s.views id v w at refl refl refl refl k.sums;
        knows = views_stay (Knows journal start h) (Knows journal start h') s.views id w
            (claimer_knows h id i sought f u within free room home encoded k.store.shown
            (found_knows h id i found notes v (k.knows id v at)))
            (λ j y _ _ t. knows_stays journal start h holder' h.owner j y (stays j) t.xids t) k.knows;
      }

  pub claims_frame : (notes : Bool) (slots id i sought : ℕ) (me : M) → i + 2 < slots → me.0.room ≢ 0
      → Allows Rule slots id me i (λ x. either (eqb x 0) (sought + 1) x)
      (claimed frame journal notes (step slots i 0 (sought + 1) none) me)
  claims_frame notes slots id i sought me low room s k deep at _ =
      let h = k.shape in
      let x : ℕ = get_or s.words i 0 in
      let d = k.words.deep in
      let within : i < h.frames = omega (arith, d, deep) in
      dite (ℕ_discrete x 0)
      (λ (hit : x ≡ 0).
      let free : h.holder i ≡ 0 = is_free h s k.words i (omega arith) hit in
      let home = k.homes.frames i within free in
      let f : F = home.0 in
      let v : PassState J = found_by notes i x me.0 in
      let w : PassState J = after h i (sought + 1 - 1) f v in
      let encoded : journal.lawful start → frame.page f < page_limit
      → page_bytes (h.pages (frame.page f)) ≡ frame.bytes f
      = λ l lt. (k.store.shown l (frame.page f)).1 ∙ sym (home.2.bytes l lt) in
      let known = k.knows id me.0 at in
      let rule = claim_keeps s k id i (sought + 1 - 1) (sought + 1) f me.0 at within free room
      (omega arith) home.1 home.2 encoded notes x in (
        w,
        takes i (Frame f),
        home.1,
        subst (λ b. Rule (stepped s i (either b (sought + 1) x) id me.1 w (takes i (Frame f))))
            (sym (eq-eqb x 0 hit)) rule,
        (
          (λ _. (
            f,
            record {
              log = h.log;
              content = h.pages (frame.page f);
              goes_on = (known.seen.later, known.seen.goes_on);
              state = refl;
              alone = had_seen_all journal start h s.views k.sums k.knows id me.0 at;
              allowed = λ l. allowed journal start (taken_by h i id) id w
                  (store_stays journal start h (put h.holder i (suc id)) h.owner k.store) k.pinned.kept
                  (claimer_knows h id i (sought + 1 - 1) f v within free room home.2 encoded k.store.shown
                  (found_knows h id i x notes me.0 known))
                  (lawful_here journal start h id me.0 known l);
              encoded = λ l lt. encoded (lawful_here journal start h id me.0 known l) lt;
            },
            refl,
          )),
          λ no. absurd (no hit),
        ),
      ))
      (λ (miss : x ≢ 0). (
        found_by notes i x me.0,
        keeps,
        tt,
        subst (λ b. Rule (stepped s i (either b (sought + 1) x) id me.1 (found_by notes i x me.0) keeps))
            (sym (ne_eqb x 0 miss)) (found_taken s k i id x notes me.0 at),
        ((λ hit. absurd (miss hit)), λ _. refl),
      ))
