-- The page of an item that a document has is a heap page, and stays one.
use Rattle.std.proofs.Common.{◌≡◌, ◌≢◌, ℕ, zero, suc, ◌-◌, List, [], ◌∷◌, length, drop, refl, sym, ap, subst, ◌∙◌}
use Rattle.std.specs.Prelude.{Option, Some}
use Rattle.page_types.specs.Views.{free_page, slots_in, slot_at}
use Rattle.page_types.specs.declared.page.Page.{Page}
use Rattle.page_types.specs.declared.page.Head.{Head}
use Rattle.page_types.specs.declared.page.Body.{Body}
use Rattle.page_types.specs.declared.page.Body.TheVariants as body
use Rattle.core_state.specs.Documents.{Doc, Has, page_of, slot_of}
use Rattle.core_state.specs.Legal.{IsLegal}
use Rattle.core_state.specs.Log.{Log, Pages, Shows, cut}
use Rattle.core_state.proofs.Law.SnapshotsStay.{behind_cut}
use Rattle.core_state.proofs.LawsHold.{steady}
use Rattle.core_state.proofs.Newest.{legal_less}
use Rattle.core_state.proofs.Showing.{shown_one, none_yet, shown_none}
use Rattle.core_moments.specs.OpenLaws.{IsHeapPage}

heap_slots : (b : Body) (k : ℕ) (h : Head) → slot_at (slots_in b) k ≡ Some h
    → (slots : List (Option Head)) × (b ≡ body.Heap slots)
heap_slots (body.Heap slots) k h e = (slots, refl)
heap_slots _ k h e = absurd (let z : ⊥ = cc in z)

pub has_heap : (P : Pages) (d : Doc) (h : Head) (i : ℕ) → Has P d h → d.item ≡ i → IsHeapPage (P (page_of i))
has_heap P d h i has e =
    subst (λ (n : ℕ). IsHeapPage (P (page_of n))) e
    (heap_slots (P (page_of d.item)).body (slot_of d.item) h has.at)

drop_legal : (n : ℕ) (R : Log) → IsLegal R → IsLegal (drop n R)
drop_legal zero R l = l
drop_legal (suc n) [] l = l
drop_legal (suc n) (r ∷ R) l = drop_legal n R (legal_less r R l)

-- the first records of a legal log are one
pub cut_legal : (R : Log) (t : ℕ) → IsLegal R → IsLegal (cut t R)
cut_legal R t l = drop_legal (length R - t) R l

pub heap_then : (R : Log) (t p : ℕ) (P Q : Pages) → IsLegal R → Shows (cut t R) P → Shows R Q → IsHeapPage (P p)
    → IsHeapPage (Q p)
heap_then R t p P Q legal then now is =
    let b = behind_cut R t in
    (steady (cut t R) b.0 R P Q b.1 some (cut_legal R t legal) legal then now).places.heap p is.0 is.1
  where
    some : cut t R ≢ []
    some e =
        let free : P p ≡ free_page = ap (λ (S : Pages). S p)
        (shown_one [] P none_yet (subst (λ (S : Log). Shows S P) e then) shown_none) in
        let heap : body.Heap is.0 ≡ body.Free = sym is.1 ∙ ap (λ (c : Page). c.body) free in
        (let z : ⊥ = cc in z)
