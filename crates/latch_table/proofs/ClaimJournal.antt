-- A claim of the journal keeps the rule.
use Rattle.std.proofs.Common.{◌≡◌, ◌≢◌, ℕ, suc, ◌+◌, ◌≤◌, eqb, List, [], ◌∷◌, ◌++◌, length, get_or, set, refl, sym, ap}
use Rattle.std.proofs.Common.{subst, ◌∙◌, ⊎_elim, arith, length-set, length-append, eq-eqb, ne_eqb}
use Rattle.std.specs.Prelude.{Option, Some, None}
use Rattle.std.proofs.lemmas.List.{set-get_or}
use mathlib.Core.Logic.{dite}
use mathlib.Core.Option.{none, some}
use native.Mathlib.Decide.{ℕ_discrete}
use lib.ListN.{get_elem?}
use prog.Atomic.{either}
use Rattle.atomic_table.specs.Table.{State, Me, step, keeps, takes, stepped, Allows}
use Rattle.atomic_table.proofs.Lists.{set_else, set_again}
use Rattle.core_state.specs.Log.{Log, In}
use Rattle.latch_table.specs.declared.slots.Framed.{Ghosts as Framed}
use Rattle.latch_table.specs.declared.slots.Journaled.{Ghosts as Journaled}
use Rattle.latch_table.specs.declared.slots.Slot.{Slot}
use Rattle.latch_table.specs.declared.slots.Slot.TheVariants.{Journal}
use Rattle.latch_table.specs.declared.states.Shown.{Shown}
use Rattle.latch_table.specs.declared.states.PassState.{PassState}
use Rattle.latch_table.specs.PassStates.{with_journal}
use Rattle.latch_table.specs.Closing.{IsAllSince}
use Rattle.latch_table.specs.Told.{HasClaimedJournal, claimed_journal}
use Rattle.latch_table.specs.Shapes.{Shape}
use Rattle.latch_table.specs.Lines.{IsNoted, Knows}
use Rattle.latch_table.specs.Rule.{Kept}
use Rattle.latch_table.proofs.Functions.{put, put_here, put_else, words_after}
use Rattle.latch_table.proofs.Frames.{note_in}
use Rattle.latch_table.proofs.Views.{views_stay, changed_at, still}
use Rattle.latch_table.proofs.Told.{allowed, lawful_here}
use Rattle.latch_table.proofs.Alone.{is_alone}
use Rattle.latch_table.proofs.FreePlaces.{free_place}
use Rattle.latch_table.proofs.Stay.{with_holders, is_free, renoted, store_stays, pins_stay, sums_stay, knows_stays}

-- a log is as long as what it goes on from
pub longer_log : (later seen log : Log) → log ≡ later ++ seen → length seen ≤ length log
longer_log later seen log e = let n = ap length e in let m = length-append later seen in omega arith

module _ {F J : Type 0} (frame : Framed F) (journal : Journaled J) (start : J) where
  abbrev St : Type 0
  St = State (Slot F J) (PassState J)

  abbrev M : Type 0
  M = Me (Slot F J) (PassState J)

  abbrev Rule : St → Type 0
  Rule = Kept frame journal start

  -- the seat has the journal's word
  abbrev taken_by : Shape J → ℕ → Shape J
  taken_by h id = with_holders h (put h.holder h.frames (suc id)) h.owner

  shown_more : (h : Shape J) (xs : List Shown) (c n : ℕ) → (journal.lawful start → journal.reaches h.journal c n)
      → (journal.lawful start → (y : Shown) → In y xs → journal.reaches h.journal y.clock y.commits)
      → journal.lawful start
      → (y : Shown) → In y (record { clock = c; commits = n } ∷ xs) → journal.reaches h.journal y.clock y.commits
  shown_more h xs c n one all l y i = ⊎_elim
      (λ (e : y ≡ record { clock = c; commits = n }).
      subst (λ (z : Shown). journal.reaches h.journal z.clock z.commits) (sym e) (one l))
      (λ j. all l y j) i

  -- nobody has a journal that is free
  none_has : (h : Shape J) (id : ℕ) (v : PassState J) → h.holder h.frames ≡ 0 → Knows journal start h id v
      → v.journal ≡ None
  none_has h id v free k = go v.journal refl
    where
      go : (o : Option J) → v.journal ≡ o → v.journal ≡ None
      go None e = e
      go (Some b) e = let t = (k.journal_is b e).0 in absurd (omega arith)

  noted_still : (h : Shape J) (v : PassState J) (b : J) (R : Log) (c i : ℕ) → v.journal ≡ None → IsNoted h v i
      → IsNoted h (with_journal journal b R c v) i
  noted_still h v b R c i empty (IsNoted.as_frame f in_) = IsNoted.as_frame f in_
  noted_still h v b R c i empty (IsNoted.as_journal b' e) = absurd (let z : Some b' ≡ None = sym e ∙ empty in cc z)
  noted_still h v b R c i empty (IsNoted.as_work at e) = IsNoted.as_work at e

  -- what the pass knows once it has claimed the journal
  claimer_knows : (h : Shape J) (id c : ℕ) (v : PassState J) → h.holder h.frames ≡ 0 → v.room ≢ 0
      → journal.counted h.journal ≤ length h.log
      → (journal.lawful start → journal.reaches h.journal c (journal.flushed h.journal))
      → Knows journal start h id v
      → Knows journal start (taken_by h id) id (with_journal journal h.journal h.log c v)
  claimer_knows h id c v free room counted reached w =
      let holder' : ℕ → ℕ = put h.holder h.frames (suc id) in
      let stays : (q : ℕ) → h.holder q ≡ suc id → holder' q ≡ suc id
      = λ q has. put_else h.holder h.frames (suc id) q
      (λ e. let z : h.holder q ≡ 0 = ap h.holder e ∙ free in omega arith) ∙ has in
      let n = knows_stays journal start h holder' h.owner id v stays w.xids w in
      record {
        start_is = n.start_is;
        fresh = λ e. let t = n.fresh e in record { room = t.room; journal_is = t.journal_is };
        seen = record { later = []; goes_on = refl; others = λ _. tt; shown = omega arith; counted = omega arith };
        frames = n.frames;
        journal_is = λ b has.
            let e : h.journal ≡ b = cc has in
            (put_here h.holder h.frames (suc id) h.frames refl, sym e, refl);
        work = n.work;
        pin = n.pin;
        floor = n.floor;
        read = n.read;
        xids = n.xids;
        owed = n.owed;
        shown = shown_more h v.shows c (journal.flushed h.journal) reached w.shown;
        redo = n.redo;
        count = n.count;
        own = λ k i. let t = w.own k i in let g = longer_log w.seen.later v.seen h.log w.seen.goes_on in omega arith;
        spent = λ e. absurd (room e);
        met = n.met;
      }

  -- the rule once a free journal is claimed
  claim_keeps : (s : St) (k : Rule s) (id : ℕ) (v : PassState J) → get_elem? s.views id ≡ some v
      → k.shape.holder k.shape.frames ≡ 0 → v.room ≢ 0
      → Rule record {
        words = set s.words k.shape.frames 1;
        homes = set s.homes k.shape.frames none;
        views = set s.views id (with_journal journal k.shape.journal k.shape.log k.store.reached.0 v);
      }
  claim_keeps s k id v at free room =
      let h = k.shape in
      let i : ℕ = h.frames in
      let c : ℕ = k.store.reached.0 in
      let holder' : ℕ → ℕ = put h.holder i (suc id) in
      let h' : Shape J = taken_by h id in
      let w : PassState J = with_journal journal h.journal h.log c v in
      let known = k.knows id v at in
      let empty = none_has h id v free known in
      let words = words_after s.words h.holder holder' (h.frames + 2) i 1 (omega (arith, k.words.wide))
      (put_else h.holder i (suc id))
      (λ e. absurd (omega (arith, put_here h.holder i (suc id) i refl)))
      (λ _. omega arith) k.words.free k.words.taken in
      let stays : (j q : ℕ) → h.holder q ≡ suc j → holder' q ≡ suc j
      = λ j q has. put_else h.holder i (suc id) q (λ e. let z : h.holder q ≡ 0 = ap h.holder e ∙ free in omega arith)
      ∙ has in
      record {
        shape = h';
        words = record {
          wide = length-set s.words i 1 ∙ k.words.wide;
          deep = length-set s.homes i none ∙ k.words.deep;
          free = words.0;
          taken = words.1;
        };
        homes = record {
          frames = λ j lt none_has'.
              let ne : j ≢ i = λ e. omega arith in
              let was = k.homes.frames j lt (sym (put_else h.holder i (suc id) j ne) ∙ none_has') in
              (was.0, set_else s.homes i j none ne ∙ was.1, record { page = was.2.page; bytes = was.2.bytes });
          journal_is = λ none_has'. absurd (let t = put_here h.holder i (suc id) h.frames refl in omega arith);
          last = set_else s.homes i (suc h.frames) none (λ e. omega arith) ∙ k.homes.last;
        };
        noted = λ q j lt has. dite (ℕ_discrete q i)
            (λ e.
            let z : suc id ≡ suc j = sym (put_here h.holder i (suc id) q e) ∙ has in
            let jd : j ≡ id = omega arith in (
              w,
              ap (get_elem? (set s.views id w)) jd ∙ changed_at s.views id v w at,
              subst (IsNoted h' w) (sym e) (IsNoted.as_journal h.journal refl),
            ))
            (λ ne.
            let t = k.noted q j lt (sym (put_else h.holder i (suc id) q ne) ∙ has) in
            still (λ y. IsNoted h' y q) s.views id j v w t.0 at (noted_still h' v h.journal h.log c q empty) t.1
            (renoted h holder' h.owner t.0 q t.2));
        store = store_stays journal start h holder' h.owner k.store;
        placed = k.placed;
        pinned = pins_stay journal start h holder' h.owner s.views id v w at refl k.pinned;
        sums = sums_stay journal start h holder' h.owner s.views id v w at refl refl refl refl k.sums;
        knows = views_stay (Knows journal start h) (Knows journal start h') s.views id w
            (claimer_knows h id c v free room k.store.counted k.store.reached.1 known)
            (λ j y _ _ t. knows_stays journal start h holder' h.owner j y (stays j) t.xids t) k.knows;
      }

  -- a word that was found taken stays as it was
  pub unmoved : (s : St) (k : Rule s) (i id : ℕ) (v : PassState J) → get_elem? s.views id ≡ some v
      → Rule record { words = set s.words i (get_or s.words i 0); homes = s.homes; views = set s.views id v }
  unmoved s k i id v at =
      subst (λ (p : List ℕ × List (PassState J)). Rule record { words = p.0; homes = s.homes; views = p.1 })
      (λ n. (sym (set-get_or s.words i 0) n, sym (set_again s.views id v at) n)) record {
        shape = k.shape;
        words = record { wide = k.words.wide; deep = k.words.deep; free = k.words.free; taken = k.words.taken };
        homes = record { frames = k.homes.frames; journal_is = k.homes.journal_is; last = k.homes.last };
        noted = k.noted;
        store = k.store;
        placed = k.placed;
        pinned = k.pinned;
        sums = k.sums;
        knows = k.knows;
      }

  -- what the claim says
  told : (s : St) (k : Rule s) (id : ℕ) (v : PassState J) → get_elem? s.views id ≡ some v → v.room ≢ 0
      → HasClaimedJournal journal k.shape.journal v
      (with_journal journal k.shape.journal k.shape.log k.store.reached.0 v)
  told s k id v at room =
      let h = k.shape in
      let w = k.knows id v at in
      let lawful = lawful_here journal start h id v w in
      record {
        log = h.log;
        clock = k.store.reached.0;
        stands = k.store.stands;
        state = refl;
        goes_on = (w.seen.later, w.seen.goes_on);
        length_is = k.store.length_is;
        within = k.store.counted;
        shown = w.seen.shown;
        counted = w.seen.counted;
        count = w.count;
        floor = w.floor.flushed;
        since = w.floor.within;
        pins = w.floor.pins;
        pin = λ p e. (w.pin p e).1;
        place_free = free_place journal start h s.views k.pinned k.sums k.knows id v at room;
        placed = λ f there. (note_in journal start h id f v.frames w.frames there).2.placed;
        alone = λ full key e. subst (λ (b : J). IsAllSince journal b h.journal v h.log) (sym (w.start_is key e))
            (is_alone journal start h s.views k.sums k.knows id v at full);
        owed = w.owed;
        allowed = λ l. allowed journal start h id v k.store k.pinned.kept w (lawful l);
        keeps = λ l. k.pinned.now (lawful l);
        flushed = λ l. k.store.flushed (lawful l);
        reached = λ l. k.store.reached.1 (lawful l);
        shows = λ l. w.shown (lawful l);
        redo = λ l. w.redo.number (lawful l);
        walked = λ l. w.redo.walked (lawful l);
      }

  pub claims_journal : (slots id i : ℕ) (me : M) → i + 2 ≡ slots → me.0.room ≢ 0
      → Allows Rule slots id me i (λ x. either (eqb x 0) 1 x) (claimed_journal journal (step slots i 0 1 none) me)
  claims_journal slots id i me last room s k deep at _ =
      let h = k.shape in
      let x : ℕ = get_or s.words i 0 in
      let d = k.words.deep in
      let same : i ≡ h.frames = omega (arith, d, deep) in
      dite (ℕ_discrete x 0)
      (λ (hit : x ≡ 0).
      let free : h.holder h.frames ≡ 0 = ap h.holder (sym same) ∙ is_free h s k.words i (omega (arith, d, deep)) hit in
      let b : J = h.journal in
      let w : PassState J = with_journal journal b h.log k.store.reached.0 me.0 in
      let rule = claim_keeps s k id me.0 at free room in (
        w,
        takes i (Journal b),
        ap (get_elem? s.homes) same ∙ k.homes.journal_is free,
        subst (λ c. Rule (stepped s i (either c 1 x) id me.1 w (takes i (Journal b)))) (sym (eq-eqb x 0 hit))
            (subst (λ n. Rule (stepped s n 1 id me.1 w (takes n (Journal b)))) (sym same) rule),
        ((λ _. (b, told s k id me.0 at room, refl)), λ no. absurd (no hit)),
      ))
      (λ (miss : x ≢ 0). (
        me.0,
        keeps,
        tt,
        subst (λ c. Rule (stepped s i (either c 1 x) id me.1 me.0 keeps)) (sym (ne_eqb x 0 miss))
            (unmoved s k i id me.0 at),
        ((λ hit. absurd (miss hit)), λ _. refl),
      ))
