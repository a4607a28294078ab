-- The first look of the first pass keeps the rule.
use Rattle.std.proofs.Common.{◌≡◌, ◌⊎◌, ℕ, zero, suc, ◌-◌, ◌<◌, ◌≤◌, List, [], ◌∷◌, length, set, refl, sym, ap, subst}
use Rattle.std.proofs.Common.{◌∙◌, inr, ⊎_elim, arith}
use Rattle.std.specs.Prelude.{Some, None}
use Rattle.std.specs.declared.snapshot.Snapshot.{Snapshot}
use Rattle.std.proofs.lemmas.List.{set-get_or}
use mathlib.Core.Logic.{dite}
use mathlib.Core.Option.{none, some}
use native.Mathlib.Decide.{ℕ_discrete}
use lib.ListN.{get_elem?}
use Rattle.atomic_table.specs.Table.{State, Me, step, keeps, Allows}
use Rattle.core_state.specs.Log.{Log, In, fate, next_xid}
use Rattle.core_state.specs.Legal.{Pin}
use Rattle.core_state.specs.declared.answers.Fate.{Fate}
use Rattle.core_state.specs.declared.answers.Fate.TheVariants.{Unused, Running, Aborted, Committed}
use Rattle.latch_table.specs.declared.slots.Framed.{Ghosts as Framed}
use Rattle.latch_table.specs.declared.slots.Journaled.{Ghosts as Journaled}
use Rattle.latch_table.specs.declared.slots.Slot.{Slot}
use Rattle.latch_table.specs.declared.states.Shown.{Shown}
use Rattle.latch_table.specs.declared.states.PassState.{PassState}
use Rattle.latch_table.specs.PassStates.{runs_if, running_to, first_state, open_state}
use Rattle.latch_table.specs.Told.{HasOpened, opened}
use Rattle.latch_table.specs.Shapes.{Shape}
use Rattle.latch_table.specs.Lines.{IsNoted, Knows}
use Rattle.latch_table.specs.Rule.{Kept}
use Rattle.latch_table.proofs.Views.{views_stay, still}
use Rattle.latch_table.proofs.Told.{allowed}
use Rattle.latch_table.proofs.Stay.{with_holders, renoted, store_stays, pins_stay, sums_stay, knows_stays, spent_others}

in_if : (f : Fate) (n x : ℕ) (xs : List ℕ) → In x (runs_if f n xs) → (x ≡ n) ⊎ In x xs
in_if Unused n x xs i = inr i
in_if Running n x xs i = i
in_if Aborted n x xs i = inr i
in_if (Committed c) n x xs i = inr i

-- the xids that run are between 1 and the last that was drawn
in_running : (R : Log) (n x : ℕ) → In x (running_to R n) → (0 < x) × (x ≤ n)
in_running R zero x i = absurd i
in_running R (suc n) x i = ⊎_elim (λ (e : x ≡ suc n). (omega arith, omega arith))
    (λ later. let t = in_running R n x later in (t.0, omega arith))
    (in_if (fate R (suc n)) (suc n) x (running_to R n) i)

module _ {F J : Type 0} (frame : Framed F) (journal : Journaled J) (start : J) where
  abbrev St : Type 0
  St = State (Slot F J) (PassState J)

  abbrev M : Type 0
  M = Me (Slot F J) (PassState J)

  abbrev Rule : St → Type 0
  Rule = Kept frame journal start

  -- all xids are this seat's
  abbrev given_to : Shape J → ℕ → Shape J
  given_to h id = with_holders h h.holder (λ x. suc id)

  one_shown : (h : Shape J) (c n : ℕ) → (journal.lawful start → journal.reaches h.journal c n) → journal.lawful start
      → (y : Shown)
      → In y (record { clock = c; commits = n } ∷ []) → journal.reaches h.journal y.clock y.commits
  one_shown h c n one l y i = ⊎_elim
      (λ (e : y ≡ record {
        clock = c;
        commits = n;
      }). subst (λ (z : Shown). journal.reaches h.journal z.clock z.commits) (sym e) (one l)) (λ none. absurd none) i

  none_noted : (h : Shape J) (q : ℕ) (key : Snapshot J) (w : PassState J) → IsNoted h (first_state key) q
      → IsNoted h w q
  none_noted h q key w (IsNoted.as_frame f in_) = absurd in_
  none_noted h q key w (IsNoted.as_journal b e) = cc e
  none_noted h q key w (IsNoted.as_work at e) = cc e

  opener_knows : (h : Shape J) (id c : ℕ) (key : Snapshot J) → journal.counted h.journal ≤ length h.log
      → (journal.lawful start → journal.reaches h.journal c (journal.flushed h.journal))
      → ((k : ℕ) (p : Pin) → journal.pins h.journal k ≡ Some p → ⊥)
      → Knows journal start h id (first_state key)
      → Knows journal start (given_to h id) id (open_state journal h.journal h.log c (first_state key))
  opener_knows h id c key counted reached no_pins w = record {
    start_is = w.start_is;
    fresh = λ e. cc e;
    seen = record { later = []; goes_on = refl; others = λ _. tt; shown = omega arith; counted = omega arith };
    frames = tt;
    journal_is = λ b e. cc e;
    work = λ at e. cc e;
    pin = λ p e. cc e;
    floor = record { flushed = omega arith; within = omega arith; pins = λ k p e. absurd (no_pins k p e) };
    read = λ l. (omega arith, tt);
    xids = λ l x i. let t = in_running h.log (next_xid h.log - 1) x i in (t.0, omega arith, refl);
    owed = λ e. refl;
    shown = one_shown h c (journal.flushed h.journal) reached;
    redo = record { number = λ l x e. cc e; walked = λ l x e. cc e };
    count = omega arith;
    own = λ n i. absurd i;
    spent = λ e. absurd (omega arith);
    met = λ l i. absurd i;
  }

  no_pins : (s : St) (k : Rule s) (id : ℕ) (key : Snapshot J) → get_elem? s.views id ≡ some (first_state key)
      → (n : ℕ) (p : Pin) → journal.pins k.shape.journal n ≡ Some p → ⊥
  no_pins s k id key at n p e =
      let o = k.pinned.of_views n p e in
      dite (ℕ_discrete o.0 id)
      (λ same.
      let z : some o.1 ≡ some (first_state key) = sym o.4 ∙ ap (get_elem? s.views) same ∙ at in
      let q : o.1 ≡ first_state key = cc z in
      let none : Some o.2 ≡ None = sym o.5 ∙ ap (λ (v : PassState J). v.pin) q in cc none)
      (λ other.
      let spent =
      spent_others journal start k.shape s.views k.sums k.knows id (first_state key) at refl o.0 o.1 other o.4 in
      let none : Some o.2 ≡ None = sym o.5 ∙ spent.pin in cc none)

  open_keeps : (s : St) (k : Rule s) (id : ℕ) (key : Snapshot J) → get_elem? s.views id ≡ some (first_state key)
      → Rule record {
        words = s.words;
        homes = s.homes;
        views = set s.views id (open_state journal k.shape.journal k.shape.log k.store.reached.0 (first_state key));
      }
  open_keeps s k id key at =
      let h = k.shape in
      let h' : Shape J = given_to h id in
      let v : PassState J = first_state key in
      let w : PassState J = open_state journal h.journal h.log k.store.reached.0 v in
      let owner' : ℕ → ℕ = λ x. suc id in
      record {
        shape = h';
        words = record { wide = k.words.wide; deep = k.words.deep; free = k.words.free; taken = k.words.taken };
        homes = record {
          frames = λ i lt free. let t = k.homes.frames i lt free in
              (t.0, t.1, record { page = t.2.page; bytes = t.2.bytes });
          journal_is = k.homes.journal_is;
          last = k.homes.last;
        };
        noted = λ q j lt has.
            let o = k.noted q j lt has in
            still (λ y. IsNoted h' y q) s.views id j v w o.0 at (none_noted h' q key w) o.1
            (renoted h h.holder owner' o.0 q o.2);
        store = store_stays journal start h h.holder owner' k.store;
        placed = k.placed;
        pinned = pins_stay journal start h h.holder owner' s.views id v w at refl k.pinned;
        sums = sums_stay journal start h h.holder owner' s.views id v w at refl refl refl refl k.sums;
        knows = views_stay (Knows journal start h) (Knows journal start h') s.views id w
            (opener_knows h id k.store.reached.0 key k.store.counted k.store.reached.1 (no_pins s k id key at)
            (k.knows id v at))
            (λ j y other there z.
            let spent = spent_others journal start h s.views k.sums k.knows id v at refl j y other there in
            knows_stays journal start h h.holder owner' j y (λ q has. has)
            (λ l x i. absurd (subst (In x) spent.xids i)) z) k.knows;
      }

  pub opens : (slots id : ℕ) (key : Snapshot J)
      → Allows Rule slots id (first_state key, []) 0 (λ n. n)
      (opened journal (step slots 0 0 0 none) (first_state key, []))
  opens slots id key s k deep at _ =
      let h = k.shape in
      let v : PassState J = first_state key in
      let w : PassState J = open_state journal h.journal h.log k.store.reached.0 v in
      let rule = open_keeps s k id key at in
      let known = k.knows id v at in
      let fresh = known.fresh refl in
      let lawful : journal.lawful h.journal → journal.lawful start = subst journal.lawful fresh.journal_is in
      let here : HasOpened journal h.journal v w = record {
        log = h.log;
        clock = k.store.reached.0;
        stands = k.store.stands;
        length_is = k.store.length_is;
        state = refl;
        allowed = λ l. allowed journal start (given_to h id) id w
            (store_stays journal start h h.holder (λ x. suc id) k.store) k.pinned.kept
            (opener_knows h id k.store.reached.0 key k.store.counted k.store.reached.1 (no_pins s k id key at) known)
            (lawful l);
        reached = λ l. k.store.reached.1 (lawful l);
      } in (
        w,
        keeps,
        tt,
        subst (λ (l : List ℕ). Rule record { words = l; homes = s.homes; views = set s.views id w })
            (sym (set-get_or s.words 0 0)) rule,
        λ key' e.
            let same : key ≡ key' = cc e in (
              subst (λ (b : J). HasOpened journal b v w)
                  (fresh.journal_is ∙ sym (known.start_is key refl) ∙ ap (λ (z : Snapshot J). z.value) same) here,
              refl,
            ),
      )
