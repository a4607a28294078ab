-- How many bytes lists of slots have.
use Rattle.std.proofs.Common.{◌≡◌, ◌≢◌, ℕ, zero, suc, ◌+◌, ◌*◌, ◌<◌, ◌≤◌, List, [], ◌∷◌, ◌++◌, length, set}
use Rattle.std.proofs.Common.{length-append, ◌⊎◌, refl, sym, ap, ◌∙◌, inl, inr, arith}
use Rattle.std.specs.Prelude.{Option, Some, None}
use Rattle.std.specs.List.{flat_map}
use Rattle.std.proofs.lemmas.List.Concat.{flat_map-append}
use Rattle.page_types.specs.Numbers.{most_slots, most_body}
use Rattle.page_types.specs.Encoding.{slot_bytes}
use Rattle.page_types.specs.Views.{slot_at}
use Rattle.page_types.specs.declared.page.Head.{Head}
use Rattle.page_types.proofs.BodySizes.{length-slot_bytes}
use Rattle.core_state.specs.Changes.{PutsSlot}
use Rattle.doc_heap.specs.HeapPages.{IsLowestFree}
use Rattle.doc_heap.proofs.SlotLists.{puts_set, puts_last, put_one}

below_or_at : (k n : ℕ) → k ≤ n → (k < n) ⊎ (k ≡ n)
below_or_at k n le = grind arith

-- the bytes of these slots
abbrev pub bytes_of : List (Option Head) → List ℕ
bytes_of slots = flat_map slot_bytes slots

pub size_more : (s : Option Head) (slots : List (Option Head))
    → length (bytes_of (s ∷ slots)) ≡ length (slot_bytes s) + length (bytes_of slots)
size_more s slots = length-append (slot_bytes s) (bytes_of slots)

-- another slot in the place of one
pub size_set : (slots : List (Option Head)) (k : ℕ) (s : Option Head) → k < length slots
    → length (bytes_of (set slots k s)) + length (slot_bytes (slot_at slots k))
    ≡ length (bytes_of slots) + length (slot_bytes s)
size_set [] k s lt = absurd (omega arith)
size_set (a ∷ slots) zero s lt = omega (arith, size_more a slots, size_more s slots)
size_set (a ∷ slots) (suc k) s lt =
    omega (arith, size_more a (set slots k s), size_more a slots, size_set slots k s (omega arith))

-- a slot after the others
pub size_last : (slots : List (Option Head)) (s : Option Head)
    → length (bytes_of (slots ++ s ∷ [])) ≡ length (bytes_of slots) + length (slot_bytes s)
size_last slots s =
    ap length (flat_map-append slot_bytes slots (s ∷ []))
    ∙ omega (arith, length-append (bytes_of slots) (bytes_of (s ∷ [])), length-append (slot_bytes s) [])

-- a head in a free slot of the list
pub size_in_free : (slots : List (Option Head)) (k : ℕ) (h : Head) (new : List (Option Head))
    → k < length slots → slot_at slots k ≡ None → PutsSlot slots k (Some h) new
    → length (bytes_of new) + 1 ≡ length (bytes_of slots) + (29 + length h.vector)
size_in_free slots k h new lt free p =
    let same : length (bytes_of new) ≡ length (bytes_of (set slots k (Some h))) =
    ap (λ l. length (bytes_of l))
    (put_one slots k (Some h) new (set slots k (Some h)) p (puts_set slots k (Some h) lt)) in
    let one : length (slot_bytes (slot_at slots k)) ≡ 1 = ap (λ s. length (slot_bytes s)) free in
    omega (arith, same, one, size_set slots k (Some h) lt, length-slot_bytes h)

-- a head after the slots of the list
pub size_in_next : (slots : List (Option Head)) (k : ℕ) (h : Head) (new : List (Option Head))
    → k ≡ length slots → PutsSlot slots k (Some h) new
    → length (bytes_of new) ≡ length (bytes_of slots) + (29 + length h.vector)
size_in_next slots k h new e p =
    let same : length (bytes_of new) ≡ length (bytes_of (slots ++ Some h ∷ [])) =
    ap (λ l. length (bytes_of l))
    (put_one slots k (Some h) new (slots ++ Some h ∷ []) p (puts_last slots k (Some h) e)) in
    omega (arith, same, size_last slots (Some h), length-slot_bytes h)

-- where slots are used up to one, they have as many bytes at least
pub used_size : (slots : List (Option Head)) (k : ℕ) → ((j : ℕ) → j < k → slot_at slots j ≢ None)
    → 29 * k ≤ length (bytes_of slots)
used_size slots zero used = omega arith
used_size [] (suc k) used = absurd (used zero (omega arith) refl)
used_size (None ∷ slots) (suc k) used = absurd (used zero (omega arith) refl)
used_size (Some h ∷ slots) (suc k) used =
    omega (arith, size_more (Some h) slots, length-slot_bytes h, used_size slots k (λ j lt. used (suc j) (omega arith)))

-- one head more takes so many bytes at most
pub size_put : (slots : List (Option Head)) (k : ℕ) (h : Head) (new : List (Option Head))
    → IsLowestFree slots k → k ≤ length slots → PutsSlot slots k (Some h) new
    → length (bytes_of new) ≤ length (bytes_of slots) + (29 + length h.vector)
size_put slots k h new low le p = elim (below_or_at k (length slots) le) [
  | inl lt ↦ omega (arith, size_in_free slots k h new lt low.free p)
  | inr e ↦ omega (arith, size_in_next slots k h new e p)
]

-- the lowest free slot of a list that fits, and a head in it, is one that a page may have
pub slot_fits : (slots : List (Option Head)) (k : ℕ) (h : Head) (new : List (Option Head))
    → IsLowestFree slots k → PutsSlot slots k (Some h) new → length (bytes_of new) ≤ most_body → k < most_slots
slot_fits slots k h new low p fits =
    omega (arith, fits, used_size new k (λ j lt e. low.lower j lt (sym (p.others j (λ f. omega (arith, lt, f))) ∙ e)))
