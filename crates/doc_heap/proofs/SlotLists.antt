-- Lists of slots: one that is put, and the lowest free one.
use Rattle.std.proofs.Common.{◌≡◌, ◌≢◌, ◌⊎◌, ℕ, zero, suc, ◌<◌, List, [], ◌∷◌, ◌++◌, length, set, length-append, refl}
use Rattle.std.proofs.Common.{sym, ap, subst, ◌∙◌, inl, inr, arith}
use Rattle.std.specs.Prelude.{Option, Some, None, IsSome}
use Rattle.std.specs.List.{AllByRecursion}
use Rattle.std.proofs.lemmas.List.{length-set}
use Rattle.std.proofs.lemmas.Bool.{false≢true}
use Rattle.page_types.specs.Views.{slot_at}
use Rattle.page_types.specs.Pages.{IsSlot}
use Rattle.page_types.specs.declared.page.Head.{Head}
use Rattle.core_state.specs.Changes.{PutsSlot}
use Rattle.doc_heap.specs.HeapPages.{IsLowestFree}

pub same_or_not : (j k : ℕ) → (j ≡ k) ⊎ (j ≢ k)
same_or_not j k = grind arith

below_same_or_above : (j k : ℕ) → (j < k) ⊎ ((j ≡ k) ⊎ (k < j))
below_same_or_above j k = grind arith

pub set_here : (slots : List (Option Head)) (k : ℕ) (s : Option Head) → k < length slots
    → slot_at (set slots k s) k ≡ s
set_here [] k s lt = absurd (omega arith)
set_here (a ∷ slots) zero s lt = refl
set_here (a ∷ slots) (suc k) s lt = set_here slots k s (omega arith)

pub set_else : (slots : List (Option Head)) (k : ℕ) (s : Option Head) (j : ℕ) → j ≢ k
    → slot_at (set slots k s) j ≡ slot_at slots j
set_else [] k s j off = refl
set_else (a ∷ slots) zero s zero off = absurd (off refl)
set_else (a ∷ slots) zero s (suc j) off = refl
set_else (a ∷ slots) (suc k) s zero off = refl
set_else (a ∷ slots) (suc k) s (suc j) off = set_else slots k s j (λ e. off (ap suc e))

-- another slot in the place of one
pub puts_set : (slots : List (Option Head)) (k : ℕ) (s : Option Head) → k < length slots
    → PutsSlot slots k s (set slots k s)
puts_set slots k s lt = record {
  put = set_here slots k s lt;
  others = λ j off. set_else slots k s j off;
  size = omega (arith, length-set slots k s, lt);
}

slot_last : (slots : List (Option Head)) (s : Option Head) → slot_at (slots ++ s ∷ []) (length slots) ≡ s
slot_last [] s = refl
slot_last (a ∷ slots) s = slot_last slots s

slot_before : (slots : List (Option Head)) (s : Option Head) (j : ℕ) → j ≢ length slots
    → slot_at (slots ++ s ∷ []) j ≡ slot_at slots j
slot_before [] s zero off = absurd (off refl)
slot_before [] s (suc j) off = refl
slot_before (a ∷ slots) s zero off = refl
slot_before (a ∷ slots) s (suc j) off = slot_before slots s j (λ e. off (ap suc e))

-- a slot after the others
pub puts_last : (slots : List (Option Head)) (k : ℕ) (s : Option Head) → k ≡ length slots
    → PutsSlot slots k s (slots ++ s ∷ [])
puts_last slots k s e = record {
  put = ap (slot_at (slots ++ s ∷ [])) e ∙ slot_last slots s;
  others = λ j off. slot_before slots s j (λ f. off (f ∙ sym e));
  size = omega (arith, length-append slots (s ∷ []), e);
}

same_slots : (a b : List (Option Head)) → length a ≡ length b → ((j : ℕ) → slot_at a j ≡ slot_at b j) → a ≡ b
same_slots [] [] e each = refl
same_slots [] (y ∷ b) e each = absurd (omega arith)
same_slots (x ∷ a) [] e each = absurd (omega arith)
same_slots (x ∷ a) (y ∷ b) e each =
    let first : x ≡ y = each zero in
    let rest : a ≡ b = same_slots a b (omega arith) (λ j. each (suc j)) in
    ap (λ (s : Option Head). s ∷ a) first ∙ ap (λ (l : List (Option Head)). y ∷ l) rest

-- what is put in one slot leaves one list
pub put_one : (slots : List (Option Head)) (k : ℕ) (s : Option Head) (a b : List (Option Head))
    → PutsSlot slots k s a → PutsSlot slots k s b → a ≡ b
put_one slots k s a b p q = same_slots a b (p.size ∙ sym q.size) each
  where
    each : (j : ℕ) → slot_at a j ≡ slot_at b j
    each j = elim (same_or_not j k) [
      | inl e ↦ ap (slot_at a) e ∙ p.put ∙ sym q.put ∙ ap (slot_at b) (sym e)
      | inr off ↦ p.others j off ∙ sym (q.others j off)
    ]

-- there is one lowest free slot
pub lowest_one : (slots : List (Option Head)) (j k : ℕ) → IsLowestFree slots j → IsLowestFree slots k → j ≡ k
lowest_one slots j k a b = elim (below_same_or_above j k) [
  | inl lt ↦ absurd (b.lower j lt a.free)
  | inr rest ↦ elim rest [ inl e ↦ e | inr gt ↦ absurd (a.lower k gt b.free) ]
]

-- a used slot is one of the list
pub used_within : (slots : List (Option Head)) (k : ℕ) (h : Head) → slot_at slots k ≡ Some h → k < length slots
used_within [] k h is = absurd cc
used_within (a ∷ slots) zero h is = omega arith
used_within (a ∷ slots) (suc k) h is = omega (arith, used_within slots k h is)

-- what a slot is that has a head
pub has_head : (s : Option Head) → IsSome s → (h : Head) × (s ≡ Some h)
has_head None some = absurd (false≢true some)
has_head (Some h) some = (h, refl)

slots_are : (slots : List (Option Head)) → AllByRecursion IsSlot slots → (j : ℕ) → IsSlot (slot_at slots j)
slots_are [] all j = tt
slots_are (a ∷ slots) all zero = all.0
slots_are (a ∷ slots) all (suc j) = slots_are slots all.1 j

are_slots : (slots : List (Option Head)) → ((j : ℕ) → IsSlot (slot_at slots j)) → AllByRecursion IsSlot slots
are_slots [] each = tt
are_slots (a ∷ slots) each = (each zero, are_slots slots (λ j. each (suc j)))

-- where one slot is put that has an encoding, all have one still
pub put_are : (slots : List (Option Head)) (k : ℕ) (s : Option Head) (new : List (Option Head))
    → PutsSlot slots k s new → AllByRecursion IsSlot slots → IsSlot s → AllByRecursion IsSlot new
put_are slots k s new p all is = are_slots new each
  where
    each : (j : ℕ) → IsSlot (slot_at new j)
    each j = elim (same_or_not j k) [
      | inl e ↦ subst IsSlot (sym (ap (slot_at new) e ∙ p.put)) is
      | inr off ↦ subst IsSlot (sym (p.others j off)) (slots_are slots all j)
    ]

-- the slot of a list is that of its page
pub slot_is : (slots : List (Option Head)) (k : ℕ) (h : Head) → AllByRecursion IsSlot slots
    → slot_at slots k ≡ Some h → IsSlot (Some h)
slot_is slots k h all e = subst IsSlot e (slots_are slots all k)
