-- The rule holds where a table is laid.
use Rattle.std.proofs.Common.{◌≡◌, ℕ, zero, suc, ◌+◌, ◌<◌, List, [], ◌∷◌, ◌++◌, map, length, get_or, refl, sym, ap}
use Rattle.std.proofs.Common.{subst, ◌∙◌, arith}
use Rattle.std.specs.Prelude.{Some, None}
use Rattle.std.specs.declared.snapshot.Snapshot.{Snapshot}
use mathlib.Core.Option.{some, some-injective, some-ne-none}
use lib.ListN.{get_elem?, replicate, length-replicate}
use Rattle.atomic_table.specs.Table.{opening}
use Rattle.latch_table.specs.declared.slots.Framed.{Ghosts as Framed}
use Rattle.latch_table.specs.declared.slots.Journaled.{Ghosts as Journaled}
use Rattle.latch_table.specs.declared.slots.Slot.{Slot}
use Rattle.latch_table.specs.declared.slots.Slot.TheVariants.{Frame, Journal, Away}
use Rattle.latch_table.specs.declared.states.PassState.{PassState}
use Rattle.latch_table.specs.PassStates.{first_state}
use Rattle.latch_table.specs.Shapes.{Shape}
use Rattle.latch_table.specs.Lines.{IsStore, Knows, is_since}
use Rattle.latch_table.specs.Laying.{CanLie, laid_shape}
use Rattle.latch_table.specs.Rule.{Kept}

no_words : (n i : ℕ) → get_or {A = ℕ} (replicate n 0) i 0 ≡ 0
no_words zero i = refl
no_words (suc n) zero = refl
no_words (suc n) (suc i) = no_words n i

-- no record comes after the last
none_since : (n k : ℕ) → 0 ≡ is_since n n k
none_since n k = grind (arith, Rattle.std.proofs.lemmas.Bool.Decides.nat_tests)

module _ {F J : Type 0} where
  frames_there : (fs : List F) (tail : List (Slot F J)) (i : ℕ) → i < length fs
      → (f : F) × (get_elem? fs i ≡ some f) × (get_elem? (map some (map Frame fs ++ tail)) i ≡ some (some (Frame f)))
  frames_there [] tail i lt = absurd (omega arith)
  frames_there (f ∷ fs) tail zero lt = (f, refl, refl)
  frames_there (f ∷ fs) tail (suc i) lt = frames_there fs tail i (omega arith)

  journal_there : (fs : List F) (b : J) (tail : List (Slot F J))
      → get_elem? (map some (map Frame fs ++ Journal b ∷ tail)) (length fs) ≡ some (some (Journal b))
  journal_there [] b tail = refl
  journal_there (f ∷ fs) b tail = journal_there fs b tail

  last_there : (fs : List F) (b : J)
      → get_elem? (map some (map Frame fs ++ Journal b ∷ Away ∷ [])) (suc (length fs)) ≡ some (some Away)
  last_there [] b = refl
  last_there (f ∷ fs) b = last_there fs b

  slot_count : (fs : List F) (b : J)
      → length (map some (map {B = Slot F J} Frame fs ++ Journal b ∷ Away ∷ [])) ≡ length fs + 2
  slot_count [] b = refl
  slot_count (f ∷ fs) b =
      ap suc (slot_count fs b) ∙ (let z : suc (length fs + 2) ≡ suc (length fs) + 2 = omega arith in z)

module _ {F J : Type 0} (frame : Framed F) (journal : Journaled J) where
  first_knows : (key : Snapshot J) (h : Shape J) → h.journal ≡ key.value → ((k : ℕ) → journal.pins h.journal k ≡ None)
      → IsStore journal key.value h → (j : ℕ) (v : PassState J) → get_elem? (first_state key ∷ []) j ≡ some v
      → Knows journal key.value h j v
  first_knows key h is no_pins store (suc j) v at = absurd (some-ne-none v (sym at))
  first_knows key h is no_pins store zero v at =
      subst (Knows journal key.value h 0) (some-injective (first_state key) v at) record {
        start_is = λ k e. let z : key ≡ k = cc e in ap (λ (x : Snapshot J). x.value) (sym z);
        fresh = λ _. record { room = refl; journal_is = is };
        seen = record {
          later = h.log;
          goes_on = sym (Rattle.std.proofs.lemmas.List.append-nil h.log);
          others = λ l. none_own h.log;
          shown = omega arith;
          counted = omega arith;
        };
        frames = tt;
        journal_is = λ b e. cc e;
        work = λ at e. cc e;
        pin = λ p e. cc e;
        floor = record { flushed = omega arith; within = omega arith; pins = λ k p e. (omega arith, omega arith) };
        read = λ l. (omega arith, tt);
        xids = λ l x i. absurd i;
        owed = λ e. refl;
        shown = λ l x i. absurd i;
        redo = record { number = λ l x e. cc e; walked = λ l x e. cc e };
        count = omega arith;
        own = λ n i. absurd i;
        spent = λ e. absurd (omega arith);
        met = λ l i. absurd i;
      }
    where
      none_own : (rs : Rattle.core_state.specs.Log.Log)
          → Rattle.core_state.specs.Allowed.AreOthers (Rattle.latch_table.specs.PassStates.view_of (first_state key)) rs
      none_own [] = tt
      none_own (r ∷ rs) =
          (record { not_own = λ i. i; not_all = λ n. absurd (n refl); not_work = λ at e. cc e }, none_own rs)

  pub starts : (frames : List F) (key : Snapshot J) → CanLie frame journal frames key.value
      → Kept frame journal key.value (opening (replicate (length frames + 2) 0)
      (map Frame frames ++ Journal key.value ∷ Away ∷ []) (first_state key))
  starts frames key can =
      let h : Shape J = laid_shape (length frames) can.log can.pages key.value in
      record {
        shape = h;
        words = record {
          wide = length-replicate {A = ℕ} (length frames + 2) 0;
          deep = slot_count frames key.value;
          free = λ i lt e. no_words (length frames + 2) i;
          taken = λ i lt e. absurd (omega arith);
        };
        homes = record {
          frames = λ i lt e. let t = frames_there frames (Journal key.value ∷ Away ∷ []) i lt in
              (t.0, t.2, can.lie i t.0 t.1);
          journal_is = λ e. journal_there frames key.value (Away ∷ []);
          last = last_there frames key.value;
        };
        noted = λ i j lt e. absurd (omega arith);
        store = can.store;
        placed = can.placed;
        pinned = record {
          of_views = λ k p e. let z : None ≡ Some p = sym (can.no_pins k) ∙ e in cc z;
          kept = λ l k p e. let z : None ≡ Some p = sym (can.no_pins k) ∙ e in cc z;
          now = can.now;
        };
        sums = record {
          rooms = refl;
          faults = omega arith;
          write_faults = omega arith;
          own = λ k. none_since (journal.length_of key.value) k
              ∙ ap (λ n. is_since (journal.length_of key.value) n k) can.store.length_is;
        };
        knows = first_knows key h refl can.no_pins can.store;
      }
