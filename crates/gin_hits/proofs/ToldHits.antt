-- Lists in order tell of the walk whose rows, or whose entries, were noted in them.
use Rattle.std.proofs.Common.{◌≡◌, ◌↔◌, ℕ, ◌≤◌, IsTrue, List, length, map, Some}
use Rattle.std.proofs.Common.{sym, ap, subst, ◌∙◌, slice_get, All, AllPairs, option_map}
use Rattle.std.proofs.lemmas.List.{length-map}
use Rattle.std.proofs.lemmas.Option.{slice_get-map, slice_get_within, get_or_from_slice_get}
use Rattle.core_state.specs.Readings.{Read}
use Rattle.core_state.specs.Log.{In}
use Rattle.gin_opclass.specs.Class.{Asked}
use Rattle.core_moments.specs.Walk.{Walk}
use Rattle.core_moments.specs.Judging.{fits_asked}
use Rattle.gin_hits.specs.Rows.{items_of, items_with, rows_read, lists_of, AreNoted}
use Rattle.gin_hits.specs.Entries.{entries_with, items_under, entries_read, AreNotedUnder, HaveTrees}
use Rattle.gin_hits.specs.Sides.{Side, pending_side, main_side, AreInOrder, HaveSame, TellOf}
use Rattle.gin_hits.specs.declared.hits.Hits.{Hits}
use Rattle.gin_hits.proofs.Noted.{met_noted, has_noted}
use Rattle.gin_hits.proofs.NotedEntries.{read_noted, main_noted}

pub then_too : {A B C : Type 0} → (A ↔ B) → (B ↔ C) → A ↔ C
then_too f g = ((λ a. g.0 (f.0 a)), (λ c. f.1 (g.1 c)))

-- the list with this number passes what all pass
pub all_get : {A : Type 0} (P : A → Type 0) (xs : List A) (k : ℕ) (x : A) → All P xs → slice_get xs k ≡ Some x → P x
all_get P xs k x all e =
    subst P (get_or_from_slice_get xs k x x e) (all k x (slice_get_within xs k x e))

-- the number of lists
pub lists_length : (h : Hits) → length (lists_of h) ≡ length h.by_key.items
lists_length h = length-map h.by_key.items _

-- lists that are made so for a side of a walk, once they are in order
module _ (asked : List Asked) (side : Side) (any : List ℕ) (list : Asked → List ℕ)
    (any_is : (i : ℕ) → In i any ↔ IsTrue (side.met i))
    (list_is : (i : ℕ) (a : Asked) → In i (list a) ↔ IsTrue (side.has i a)) where
  lists_at : (h : Hits) → lists_of h ≡ map list asked → (k : ℕ) (a : Asked) → slice_get asked k ≡ Some a
      → slice_get (lists_of h) k ≡ Some (list a)
  lists_at h by_key k a e =
      ap (λ (ls : List (List ℕ)). slice_get ls k) by_key ∙ slice_get-map list asked k ∙ ap (option_map list) e

  pub side_told : (old new : Hits) → old.any.items ≡ any → lists_of old ≡ map list asked → HaveSame old new
      → AreInOrder new → length new.by_key.items ≡ length old.by_key.items → TellOf asked side new
  side_told old new any_items by_key same order count = record {
    count = count ∙ sym (lists_length old) ∙ ap length by_key ∙ length-map asked list;
    any = λ i. then_too (same.any i)
        (subst (λ (is : List ℕ). In i is ↔ IsTrue (side.met i)) (sym any_items) (any_is i));
    by_key = λ k a items e f. record {
      in_order = all_get (λ (is : List ℕ). AllPairs (λ (i j : ℕ). i ≤ j) is) (lists_of new) k items order f;
      just = λ i. then_too (same.by_key k (list a) items (lists_at old by_key k a e) f i) (list_is i a);
    };
  }

-- the pending side
pub pending_told : (asked : List Asked) (w : Walk) (old new : Hits) → AreNoted asked (rows_read w.pending) old
    → HaveSame old new → AreInOrder new → length new.by_key.items ≡ length old.by_key.items
    → TellOf asked (pending_side w) new
pending_told asked w old new noted same order count =
    side_told asked (pending_side w) (items_of (rows_read w.pending))
    (λ (a : Asked). items_with a (rows_read w.pending)) (met_noted w) (has_noted w) old new noted.any noted.by_key same
    order count

-- the main side
pub main_told : (asked : List Asked) (w : Walk) (old new : Hits) (Is : ℕ → List Read → Type 0)
    → HaveTrees Is w.keys → AreNotedUnder asked (entries_read w.keys) old
    → HaveSame old new → AreInOrder new → length new.by_key.items ≡ length old.by_key.items
    → TellOf asked (main_side w) new
main_told asked w old new Is trees noted same order count =
    side_told asked (main_side w) (items_under (entries_read w.keys))
    (λ (a : Asked). items_under (entries_with (fits_asked a) (entries_read w.keys)))
    (λ i. read_noted Is w i trees) (λ i a. main_noted Is w i trees a) old new noted.any noted.by_key same order count
