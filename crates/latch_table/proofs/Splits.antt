-- A split keeps the rule.
use Rattle.std.proofs.Common.{◌≡◌, ℕ, ◌+◌, ◌<◌, true, false, [], ◌∷◌, ◌++◌, set, refl, sym, subst, ◌∙◌, ⊎_elim, arith}
use Rattle.std.specs.Prelude.{Some}
use Rattle.atomic_table.specs.Table.{State, Splits}
use Rattle.atomic_table.proofs.Lists.{at_snoc, at_longer}
use Rattle.core_state.specs.Log.{Log}
use Rattle.core_state.specs.Allowed.{AreOthers}
use Rattle.latch_table.specs.declared.slots.Framed.{Ghosts as Framed}
use Rattle.latch_table.specs.declared.slots.Journaled.{Ghosts as Journaled}
use Rattle.latch_table.specs.declared.slots.Slot.{Slot}
use Rattle.latch_table.specs.declared.states.PinNote.{PinNote}
use Rattle.latch_table.specs.declared.states.PassState.{PassState}
use Rattle.latch_table.specs.PassStates.{view_of, split_off, with_less_room}
use Rattle.latch_table.specs.Shapes.{Shape, total, times}
use Rattle.latch_table.specs.Lines.{IsNoted, Knows}
use Rattle.latch_table.specs.Rule.{Kept}
use Rattle.latch_table.proofs.Sums.{total_set, total_more}
use Rattle.latch_table.proofs.Views.{views_stay, still}

module _ {F J : Type 0} (frame : Framed F) (journal : Journaled J) (start : J) where
  abbrev Rule : State (Slot F J) (PassState J) → Type 0
  Rule = Kept frame journal start

  -- a view with less room
  less_knows : (h : Shape J) (j : ℕ) (v : PassState J) → 1 < v.room → v.fresh ≡ false → Knows journal start h j v
      → Knows journal start h j (with_less_room v)
  less_knows h j v room seen k = record {
    start_is = k.start_is;
    fresh = λ e. (let z : false ≡ true = sym seen ∙ e in cc z);
    seen = record {
      later = k.seen.later;
      goes_on = k.seen.goes_on;
      others = k.seen.others;
      shown = k.seen.shown;
      counted = k.seen.counted;
    };
    frames = k.frames;
    journal_is = k.journal_is;
    work = k.work;
    pin = k.pin;
    floor = k.floor;
    read = k.read;
    xids = k.xids;
    owed = k.owed;
    shown = k.shown;
    redo = k.redo;
    count = k.count;
    own = k.own;
    spent = λ e. absurd (omega arith);
    met = k.met;
  }

  less_notes : (h : Shape J) (v : PassState J) (i : ℕ) → IsNoted h v i → IsNoted h (with_less_room v) i
  less_notes h v i (IsNoted.as_frame f in_) = IsNoted.as_frame f in_
  less_notes h v i (IsNoted.as_journal b e) = IsNoted.as_journal b e
  less_notes h v i (IsNoted.as_work at e) = IsNoted.as_work at e

  others_of_new : (v : PassState J) (rs : Log) → AreOthers (view_of (split_off v)) rs
  others_of_new v [] = tt
  others_of_new v (r ∷ rs) =
      (record { not_own = λ i. i; not_all = λ n. absurd (n refl); not_work = λ at e. cc e }, others_of_new v rs)

  new_knows : (h : Shape J) (j i : ℕ) (v : PassState J) → Knows journal start h j v
      → Knows journal start h i (split_off v)
  new_knows h j i v k = record {
    start_is = k.start_is;
    fresh = λ e. cc e;
    seen = record {
      later = k.seen.later;
      goes_on = k.seen.goes_on;
      others = λ l. others_of_new v k.seen.later;
      shown = k.seen.shown;
      counted = k.seen.counted;
    };
    frames = tt;
    journal_is = λ b e. cc e;
    work = λ at e. cc e;
    pin = λ p e. cc e;
    floor = k.floor;
    read = λ l. (omega arith, tt);
    xids = λ l x i. absurd i;
    owed = λ e. refl;
    shown = λ l x i. absurd i;
    redo = record { number = λ l x e. cc e; walked = λ l x e. cc e };
    count = k.count;
    own = λ n i. absurd i;
    spent = λ e. absurd (omega arith);
    met = λ l i. absurd i;
  }

  pub splits : (id : ℕ) (v : PassState J) → 1 < v.room → v.fresh ≡ false
      → Splits Rule id v (with_less_room v) (split_off v)
  splits id v room seen s k at =
      let h = k.shape in
      let mine = k.knows id v at in
      let new : PassState J = split_off v in
      let vs = set s.views id (with_less_room v) in
      let sum : (f : PassState J → ℕ) → total f (vs ++ new ∷ []) ≡ total f vs + f new = λ f. total_more f vs new in
      let part : (f : PassState J → ℕ) → total f vs + f v ≡ total f s.views + f (with_less_room v)
      = λ f. total_set f s.views id v (with_less_room v) at in
      record {
        shape = h;
        words = record { wide = k.words.wide; deep = k.words.deep; free = k.words.free; taken = k.words.taken };
        homes = record { frames = k.homes.frames; journal_is = k.homes.journal_is; last = k.homes.last };
        noted = λ i j lt has.
            let t = k.noted i j lt has in
            let u = still (λ x. IsNoted h x i) s.views id j v (with_less_room v) t.0 at (less_notes h v i) t.1 t.2 in
            (u.0, at_longer vs (new ∷ []) j u.0 u.1, u.2);
        store = k.store;
        placed = k.placed;
        pinned = record {
          of_views = λ n p is.
              let t = k.pinned.of_views n p is in
              let u = still (λ (x : PassState J). (q : PinNote) × (x.pin ≡ Some q) × (q.place ≡ n)) s.views id t.0 v
              (with_less_room v) t.1 at (λ z. z) t.4 (t.2, t.5, t.6) in
              (t.0, u.0, u.2.0, t.3, at_longer vs (new ∷ []) t.0 u.0 u.1, u.2.1, u.2.2);
          kept = k.pinned.kept;
          now = k.pinned.now;
        };
        sums = record {
          rooms = let a = sum (λ w. w.room) in let b = part (λ w. w.room) in let c = k.sums.rooms in omega arith;
          faults = let a = sum (λ w. w.faults) in let b = part (λ w. w.faults) in let c = k.sums.faults in omega arith;
          write_faults =
              let a = sum (λ w. w.write_faults) in
              let b = part (λ w. w.write_faults) in let c = k.sums.write_faults in omega arith;
          own = λ n.
              let a = sum (λ w. times n w.own) in
              let b = part (λ w. times n w.own) in let c = k.sums.own n in omega arith;
        };
        knows = λ j x p. ⊎_elim
            (views_stay (Knows journal start h) (Knows journal start h) s.views id (with_less_room v)
            (less_knows h id v room seen mine) (λ i y _ _ t. t) k.knows j x)
            (λ (t : new ≡ x). subst (Knows journal start h j) t (new_knows h id j v mine)) (at_snoc vs new x j p);
      }
