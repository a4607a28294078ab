-- A frame that is given back keeps the rule.
use Rattle.std.proofs.Common.{◌≡◌, ◌≢◌, ℕ, suc, ◌+◌, ◌<◌, List, ◌∷◌, set, refl, sym, ap, subst, ◌∙◌, arith, length-set}
use mathlib.Core.Logic.{dite}
use mathlib.Core.Option.{none, some}
use native.Mathlib.Decide.{ℕ_discrete}
use lib.ListN.{get_elem?}
use Rattle.atomic_table.specs.Table.{State, Me, step, gives, stepped, rest, Allows}
use Rattle.atomic_table.proofs.Lists.{set_here, set_else}
use Rattle.page_types.specs.Numbers.{page_limit}
use Rattle.page_types.specs.Encoding.{page_bytes}
use Rattle.core_state.specs.Log.{In, replay}
use Rattle.latch_table.specs.declared.slots.Framed.{Ghosts as Framed}
use Rattle.latch_table.specs.declared.slots.Journaled.{Ghosts as Journaled}
use Rattle.latch_table.specs.declared.slots.Slot.{Slot}
use Rattle.latch_table.specs.declared.slots.Slot.TheVariants.{Frame}
use Rattle.latch_table.specs.declared.states.Note.{Note}
use Rattle.latch_table.specs.declared.states.PassState.{PassState}
use Rattle.latch_table.specs.PassStates.{view_of, without_frame}
use Rattle.latch_table.specs.Told.{gave_back}
use Rattle.latch_table.specs.Shapes.{Shape}
use Rattle.latch_table.specs.Lines.{IsFrame, IsNoted, Knows}
use Rattle.latch_table.specs.Rule.{Kept}
use Rattle.latch_table.proofs.Functions.{put, put_here, put_else, words_after}
use Rattle.latch_table.proofs.Views.{views_stay, still}
use Rattle.latch_table.proofs.Frames.{in_without, note_in, notes_without}
use Rattle.latch_table.proofs.Told.{same_others}
use Rattle.latch_table.proofs.Stay.{with_holders, renoted, store_stays, pins_stay, sums_stay, knows_stays}

module _ {F J : Type 0} (frame : Framed F) (journal : Journaled J) (start : J) where
  abbrev St : Type 0
  St = State (Slot F J) (PassState J)

  abbrev M : Type 0
  M = Me (Slot F J) (PassState J)

  abbrev Rule : St → Type 0
  Rule = Kept frame journal start

  abbrev freed : Shape J → ℕ → Shape J
  freed h i = with_holders h (put h.holder i 0) h.owner

  -- another word that is noted stays so
  noted_else : (h : Shape J) (i : ℕ) (v : PassState J) (q : ℕ) → q ≢ i → IsNoted h v q → IsNoted h (without_frame i v) q
  noted_else h i v q ne (IsNoted.as_frame f in_) = IsNoted.as_frame f (in_without i f v.frames ne in_)
  noted_else h i v q ne (IsNoted.as_journal b e) = IsNoted.as_journal b e
  noted_else h i v q ne (IsNoted.as_work at e) = IsNoted.as_work at e

  -- what the pass knows once it has given frame i back
  giver_knows : (h : Shape J) (id i : ℕ) (v : PassState J) → i < h.frames → v.room ≢ 0 → Knows journal start h id v
      → Knows journal start (freed h i) id (without_frame i v)
  giver_knows h id i v within room w =
      let else_ = put_else h.holder i 0 in
      record {
        start_is = w.start_is;
        fresh = λ e. let t = w.fresh e in record { room = t.room; journal_is = t.journal_is };
        seen = record {
          later = w.seen.later;
          goes_on = w.seen.goes_on;
          others =
              λ l. same_others (view_of v) (view_of (without_frame i v)) w.seen.later refl refl refl (w.seen.others l);
          shown = w.seen.shown;
          counted = w.seen.counted;
        };
        frames = notes_without journal start h (put h.holder i 0) id i v.frames else_ w.frames;
        journal_is = λ b has. let t = w.journal_is b has in (else_ h.frames (λ e. omega arith) ∙ t.0, t.1, t.2);
        work = λ at e. let t = w.work at e in (else_ (suc h.frames) (λ q. omega arith) ∙ t.0, t.1);
        pin = w.pin;
        floor = record { flushed = w.floor.flushed; within = w.floor.within; pins = w.floor.pins };
        read = w.read;
        xids = w.xids;
        owed = w.owed;
        shown = w.shown;
        redo = record { number = w.redo.number; walked = w.redo.walked };
        count = w.count;
        own = w.own;
        spent = λ e. absurd (room e);
        met = w.met;
      }

  -- the frame that a pass gives back, as it noted it, lies as the rule wants it
  lies : (s : St) (k : Rule s) (id : ℕ) (v : PassState J) (note : Note) (f : F) → get_elem? s.views id ≡ some v
      → In note v.frames
      → frame.page f ≡ note.page → frame.bytes f ≡ note.bytes → IsFrame frame journal start k.shape note.frame f
  lies s k id v note f at there page bytes =
      let h = k.shape in
      let t = note_in journal start h id note v.frames (k.knows id v at).frames there in
      record {
        page = page ∙ sym t.2.placed;
        bytes = λ l lt.
            let p = t.2.shown l (subst (λ n. n < page_limit) page lt) in
            bytes ∙ sym p.1 ∙ ap page_bytes (sym p.0) ∙ (k.store.shown l note.page).1 ∙ ap (replay h.log) (sym page);
      }

  give_keeps : (s : St) (k : Rule s) (id i : ℕ) (v : PassState J) (note : Note) (f : F) → get_elem? s.views id ≡ some v
      → In note v.frames → note.frame ≡ i → v.room ≢ 0 → IsFrame frame journal start k.shape i f
      → Rule record {
        words = set s.words i 0;
        homes = set s.homes i (some (Frame f));
        views = set s.views id (without_frame i v);
      }
  give_keeps s k id i v note f at there is room home =
      let h = k.shape in
      let known = k.knows id v at in
      let t = note_in journal start h id note v.frames known.frames there in
      let within : i < h.frames = subst (λ n. n < h.frames) is t.0 in
      let mine : h.holder i ≡ suc id = ap h.holder (sym is) ∙ t.1 in
      let holder' : ℕ → ℕ = put h.holder i 0 in
      let h' : Shape J = freed h i in
      let w : PassState J = without_frame i v in
      let else_ = put_else h.holder i 0 in
      let d = k.words.deep in
      let words =
      words_after s.words h.holder holder' (h.frames + 2) i 0 (omega (arith, k.words.wide)) else_ (λ _. refl)
      (λ z. absurd (omega (arith, put_here h.holder i 0 i refl))) k.words.free k.words.taken in
      let stays : (j q : ℕ) → j ≢ id → h.holder q ≡ suc j → holder' q ≡ suc j
      = λ j q other has. else_ q
      (λ e. other (let z : suc id ≡ suc j = sym mine ∙ ap h.holder (sym e) ∙ has in omega arith)) ∙ has in
      record {
        shape = h';
        words = record {
          wide = length-set s.words i 0 ∙ k.words.wide;
          deep = length-set s.homes i (some (Frame f)) ∙ k.words.deep;
          free = words.0;
          taken = words.1;
        };
        homes = record {
          frames = λ j lt none_has. dite (ℕ_discrete j i)
              (λ e. (
                f,
                ap (get_elem? (set s.homes i (some (Frame f)))) e
                    ∙ set_here s.homes i (some (Frame f)) (omega (arith, d)),
                subst (λ n. IsFrame frame journal start h' n f) (sym e)
                    (record { page = home.page; bytes = home.bytes }),
              ))
              (λ ne.
              let was = k.homes.frames j lt (sym (else_ j ne) ∙ none_has) in (
                was.0,
                set_else s.homes i j (some (Frame f)) ne ∙ was.1,
                record { page = was.2.page; bytes = was.2.bytes },
              ));
          journal_is = λ none_has.
              let ne : h.frames ≢ i = λ e. omega arith in
              set_else s.homes i h.frames (some (Frame f)) ne ∙ k.homes.journal_is (sym (else_ h.frames ne) ∙ none_has);
          last = set_else s.homes i (suc h.frames) (some (Frame f)) (λ e. omega arith) ∙ k.homes.last;
        };
        noted = λ q j lt has.
            let ne : q ≢ i = λ e. (let z : 0 ≡ suc j = sym (put_here h.holder i 0 q e) ∙ has in omega arith) in
            let o = k.noted q j lt (sym (else_ q ne) ∙ has) in
            still (λ y. IsNoted h' y q) s.views id j v w o.0 at (noted_else h' i v q ne) o.1
            (renoted h holder' h.owner o.0 q o.2);
        store = store_stays journal start h holder' h.owner k.store;
        placed = k.placed;
        pinned = pins_stay journal start h holder' h.owner s.views id v w at refl k.pinned;
        sums = sums_stay journal start h holder' h.owner s.views id v w at refl refl refl refl k.sums;
        knows = views_stay (Knows journal start h) (Knows journal start h') s.views id w
            (giver_knows h id i v within room known)
            (λ j y other _ z. knows_stays journal start h holder' h.owner j y (λ q. stays j q other) z.xids z) k.knows;
      }

  pub gives_frame : (slots id i : ℕ) (me : M) (note : Note) (f : F) (xs : List (ℕ × Slot F J)) → me.0.room ≢ 0
      → In note me.0.frames
      → note.frame ≡ i → frame.page f ≡ note.page → frame.bytes f ≡ note.bytes → me.1 ≡ (i, Frame f) ∷ xs
      → Allows Rule slots id me i (λ _. 0) (λ _. gave_back (step slots i 0 0 none) me 0)
  gives_frame slots id i me note f xs room there is page bytes carried s k deep at _ =
      let home =
      subst (λ n. IsFrame frame journal start k.shape n f) is (lies s k id me.0 note f at there page bytes) in
      let w : PassState J = without_frame i me.0 in (
        w,
        gives,
        tt,
        subst (λ (c : List (ℕ × Slot F J)). Rule (stepped s i 0 id c w gives)) (sym carried)
            (give_keeps s k id i me.0 note f at there is room home),
        (refl, λ y ys e. ap rest e),
      )
