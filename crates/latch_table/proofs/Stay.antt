-- Lines that stay as they are where words, owners of xids or one view change.
use Rattle.std.proofs.Common.{◌≡◌, ◌≢◌, ℕ, suc, ◌+◌, ◌<◌, List, get_or, set, ap, ◌∙◌, arith}
use Rattle.std.specs.Prelude.{Some}
use mathlib.Core.Logic.{dite}
use mathlib.Core.Option.{some}
use native.Mathlib.Decide.{ℕ_discrete}
use lib.ListN.{get_elem?}
use Rattle.atomic_table.specs.Table.{State}
use Rattle.latch_table.specs.declared.slots.Journaled.{Ghosts as Journaled}
use Rattle.latch_table.specs.declared.slots.Slot.{Slot}
use Rattle.latch_table.specs.declared.states.PinNote.{PinNote}
use Rattle.latch_table.specs.declared.states.PassState.{PassState}
use Rattle.latch_table.specs.Shapes.{Shape, total, times}
use Rattle.latch_table.specs.Lines.{Words, IsNoted, IsStore, ArePinned, AddUp, HasXids, IsSpent, Knows}
use Rattle.latch_table.proofs.Sums.{total_set, total_two}
use Rattle.latch_table.proofs.Views.{still}
use Rattle.latch_table.proofs.Frames.{notes_holder}

-- the shape with other holders and owners
abbrev pub with_holders : {J : Type 0} → Shape J → (ℕ → ℕ) → (ℕ → ℕ) → Shape J
with_holders h holder' owner' = record h { holder = holder'; owner = owner' }

module _ {F J : Type 0} where
  -- a word that is 0 has no holder
  pub is_free : (h : Shape J) (s : State (Slot F J) (PassState J)) → Words h s → (i : ℕ) → i < h.frames + 2
      → get_or s.words i 0 ≡ 0 → h.holder i ≡ 0
  is_free h s words i le zero_word = dite (ℕ_discrete (h.holder i) 0) (λ e. e)
      (λ ne. let one = words.taken i le (omega arith) in absurd (omega arith))

module _ {J : Type 0} where
  -- a word that is noted is so whatever the holders are
  pub renoted : (h : Shape J) (holder' owner' : ℕ → ℕ) (v : PassState J) (i : ℕ) → IsNoted h v i
      → IsNoted (with_holders h holder' owner') v i
  renoted h holder' owner' v i (IsNoted.as_frame f in_) = IsNoted.as_frame f in_
  renoted h holder' owner' v i (IsNoted.as_journal b e) = IsNoted.as_journal b e
  renoted h holder' owner' v i (IsNoted.as_work at e) = IsNoted.as_work at e

module _ {J : Type 0} (journal : Journaled J) (start : J) where
  pub store_stays : (h : Shape J) (holder' owner' : ℕ → ℕ) → IsStore journal start h
      → IsStore journal start (with_holders h holder' owner')
  store_stays h holder' owner' t = record {
    stands = t.stands;
    length_is = t.length_is;
    opened = t.opened;
    counted = t.counted;
    flushed = t.flushed;
    reached = t.reached;
    legal = t.legal;
    shown = t.shown;
  }

  -- the pins, where a view changes and keeps its pin
  pub pins_stay : (h : Shape J) (holder' owner' : ℕ → ℕ) (views : List (PassState J)) (id : ℕ) (v w : PassState J)
      → get_elem? views id ≡ some v → w.pin ≡ v.pin → ArePinned journal start h views
      → ArePinned journal start (with_holders h holder' owner') (set views id w)
  pins_stay h holder' owner' views id v w at same t = record {
    of_views = λ n p is.
        let o = t.of_views n p is in
        let u = still (λ (y : PassState J). (q : PinNote) × (y.pin ≡ Some q) × (q.place ≡ n)) views id o.0 v w o.1 at
        (λ z. (z.0, same ∙ z.1, z.2)) o.4 (o.2, o.5, o.6) in
        (o.0, u.0, u.2.0, o.3, u.1, u.2.1, u.2.2);
    kept = t.kept;
    now = t.now;
  }

  -- the sums, where a view changes and keeps its parts of them
  pub sums_stay : (h : Shape J) (holder' owner' : ℕ → ℕ) (views : List (PassState J)) (id : ℕ) (v w : PassState J)
      → get_elem? views id ≡ some v → w.room ≡ v.room → w.faults ≡ v.faults → w.write_faults ≡ v.write_faults
      → w.own ≡ v.own → AddUp journal start h views
      → AddUp journal start (with_holders h holder' owner') (set views id w)
  sums_stay h holder' owner' views id v w at room faults write_faults own t =
      let part : (f : PassState J → ℕ) → f w ≡ f v → total f (set views id w) ≡ total f views
      = λ f e. let p = total_set f views id v w at in omega arith in
      record {
        rooms = part (λ y. y.room) room ∙ t.rooms;
        faults = ap (λ n. journal.faults start + n) (part (λ y. y.faults) faults) ∙ t.faults;
        write_faults =
            ap (λ n. journal.write_faults start + n) (part (λ y. y.write_faults) write_faults) ∙ t.write_faults;
        own = λ n. part (λ y. times n y.own) (ap (times n) own) ∙ t.own n;
      }

  -- what a view knows, where its words stay with it, and its xids
  pub knows_stays : (h : Shape J) (holder' owner' : ℕ → ℕ) (j : ℕ) (v : PassState J)
      → ((k : ℕ) → h.holder k ≡ suc j → holder' k ≡ suc j)
      → HasXids journal start (with_holders h holder' owner') j v.xids
      → Knows journal start h j v → Knows journal start (with_holders h holder' owner') j v
  knows_stays h holder' owner' j v stays xids w = record {
    start_is = w.start_is;
    fresh = λ e. let f = w.fresh e in record { room = f.room; journal_is = f.journal_is };
    seen = record {
      later = w.seen.later;
      goes_on = w.seen.goes_on;
      others = w.seen.others;
      shown = w.seen.shown;
      counted = w.seen.counted;
    };
    frames = notes_holder journal start h holder' owner' j v.frames stays w.frames;
    journal_is = λ b has. let t = w.journal_is b has in (stays h.frames t.0, t.1, t.2);
    work = λ at e. let t = w.work at e in (stays (suc h.frames) t.0, t.1);
    pin = w.pin;
    floor = record { flushed = w.floor.flushed; within = w.floor.within; pins = w.floor.pins };
    read = w.read;
    xids = xids;
    owed = w.owed;
    shown = w.shown;
    redo = record { number = w.redo.number; walked = w.redo.walked };
    count = w.count;
    own = w.own;
    spent = w.spent;
    met = w.met;
  }

  -- where a view has the whole room, all others are spent
  pub spent_others : (h : Shape J) (views : List (PassState J)) → AddUp journal start h views
      → ((j : ℕ) (v : PassState J) → get_elem? views j ≡ some v → Knows journal start h j v)
      → (id : ℕ) (v : PassState J) → get_elem? views id ≡ some v → v.room ≡ 16
      → (j : ℕ) (w : PassState J) → j ≢ id → get_elem? views j ≡ some w → IsSpent w
  spent_others h views sums knows id v at full j w other there =
      let two = total_two (λ (x : PassState J). x.room) views j id w v other there at in
      let all = sums.rooms in
      (knows j w there).spent (omega arith)
