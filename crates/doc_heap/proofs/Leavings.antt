-- Heads without the first page of a chain, and slots that become free.
use Rattle.std.proofs.Common.{◌≡◌, ◌≢◌, ◌⊎◌, ℕ, ◌+◌, ◌<◌, List, [], ◌∷◌, ◌++◌, length, set, refl, sym, ap, subst}
use Rattle.std.proofs.Common.{◌∙◌, inl, inr, arith}
use Rattle.std.specs.Prelude.{◌↔◌, Option, Some, None, IsSome, is_some, Bool, true, false, not}
use Rattle.std.specs.Option.{option_map}
use Rattle.std.proofs.lemmas.Bool.{false≢true}
use Rattle.std.proofs.lemmas.List.{length-set}
use Rattle.page_types.specs.Numbers.{page_limit}
use Rattle.page_types.specs.Encoding.{slot_bytes}
use Rattle.page_types.specs.Pages.{IsPage, IsBody, IsSlot, IsHead}
use Rattle.page_types.specs.Views.{slots_in, slot_at}
use Rattle.page_types.specs.declared.page.Page.{Page}
use Rattle.page_types.specs.declared.page.Head.{Head}
use Rattle.page_types.specs.declared.page.Body.{Body}
use Rattle.page_types.specs.declared.page.Body.TheVariants as body
use Rattle.page_types.specs.Parts.{head_with}
use Rattle.page_types.specs.declared.slots.HeadFields.{HeadFields}
use Rattle.core_state.specs.Log.{In}
use Rattle.core_state.specs.Documents.{slot_of}
use Rattle.core_state.proofs.PageLists.{in_front, in_back, in_either}
use Rattle.doc_heap.specs.HeapPages.{head_on, ChangesSlot}
use Rattle.doc_heap.specs.Leaving.{with_first, fields_with, StaysOrFree, FreesSlots, SlotIsHead}
use Rattle.doc_heap.specs.Inner.Freeing.{FreesOne}
use Rattle.doc_heap.specs.declared.leaving.Chain.{Chain}
use Rattle.doc_heap.specs.declared.leaving.Chain.TheVariants as chain
use Rattle.page_types.proofs.BodySizes.{length-slot_bytes}
use Rattle.doc_heap.proofs.SlotLists.{used_within, slot_is, set_here, set_else, same_or_not}
use Rattle.doc_heap.proofs.HeapSheets.{changes_slot, changed_page, head_there}

-- the head of fields whose chain begins with this page
pub head_begins : (c : Chain) (page : ℕ) (f : HeadFields) (v : List ℕ)
    → head_with (fields_with c page f) v ≡ with_first c page (head_with f v)
head_begins chain.Overflow page f v = refl
head_begins chain.Private page f v = refl

same_vector : (c : Chain) (page : ℕ) (h : Head) → (with_first c page h).vector ≡ h.vector
same_vector chain.Overflow page h = refl
same_vector chain.Private page h = refl

first_is : (c : Chain) (page : ℕ) (h : Head) → page < page_limit → IsHead h → IsHead (with_first c page h)
first_is chain.Overflow page h small is = record {
  serial = is.serial;
  inserted_by = is.inserted_by;
  deleted_by = is.deleted_by;
  overflow = small;
  private = is.private;
  bytes = is.bytes;
  vector = is.vector;
}
first_is chain.Private page h small is = record {
  serial = is.serial;
  inserted_by = is.inserted_by;
  deleted_by = is.deleted_by;
  overflow = is.overflow;
  private = small;
  bytes = is.bytes;
  vector = is.vector;
}

-- the slots become what a chain of the head in slot j with another first page makes of them
abbrev Begins : Chain → ℕ → List (Option Head) → ℕ → List (Option Head) → Type 0
Begins c page slots j new = (h : Head) → slot_at slots j ≡ Some h → new ≡ set slots j (Some (with_first c page h))

module _ (c : Chain) (page : ℕ) (old : Page) (slots new : List (Option Head)) (k j : ℕ)
    (was : old.body ≡ body.Heap slots) (e : j ≡ k) (begins : Begins c page slots j new) where
  begun_list : (h : Head) → slot_at slots k ≡ Some h → new ≡ set slots k (Some (with_first c page h))
  begun_list h is =
      begins h (ap (slot_at slots) e ∙ is) ∙ ap (λ (i : ℕ). set slots i (Some (with_first c page h))) e

  pub begun_slot : (h : Head) → head_on old k ≡ Some h
      → ChangesSlot old k (Some (with_first c page h)) (record old { body = body.Heap new })
  begun_slot h is =
      let there : slot_at slots k ≡ Some h = ap (λ (b : Body). slot_at (slots_in b) k) (sym was) ∙ is in
      subst (λ l. ChangesSlot old k (Some (with_first c page h)) (record old { body = body.Heap l }))
      (sym (begun_list h there))
      (changes_slot old slots k (Some (with_first c page h)) was (used_within slots k h there))

  pub begun_page : page < page_limit → IsSome (head_on old k) → IsPage old
      → IsPage (record old { body = body.Heap new })
  begun_page small some is =
      let there = head_there old slots k was some in
      let h = there.0 in
      let on : IsBody old.right old.stamp (body.Heap slots) = subst (IsBody old.right old.stamp) was is.body in
      let same : length (slot_bytes (slot_at slots k)) ≡ length (slot_bytes (Some (with_first c page h))) =
      ap (λ s. length (slot_bytes s)) there.1 ∙ length-slot_bytes h
      ∙ ap (λ (v : List ℕ). 29 + length v) (sym (same_vector c page h))
      ∙ sym (length-slot_bytes (with_first c page h)) in
      subst (λ l. IsPage (record old { body = body.Heap l })) (sym (begun_list h there.1))
      (changed_page old slots k (Some (with_first c page h)) was (used_within slots k h there.1) (omega (arith, same))
      is (first_is c page h small (slot_is slots k h on.1 there.1)))

-- ---- slots that become free

-- what is in a slot that was read as used
pub was_used : {A : Type 0} (f : A → Head) (o : Option A) (s : Option Head) (b : Bool) → option_map f o ≡ s
    → is_some o ≡ not b → b ≡ false → (h : Head) × (s ≡ Some h)
was_used f None s b e some off = absurd (false≢true (some ∙ ap not off))
was_used f (Some a) s b e some off = (f a, sym e)

-- what was made free of the slots of these items
pub record Freed (slots : List (Option Head)) (items : List ℕ) (now : List (Option Head)) (freed : Bool)
    : Type 0 where
  pub frees : FreesSlots items slots now
  pub some : (freed ≡ true) ↔ (now ≢ slots)
  pub is_page : (p : Page) → p.body ≡ body.Heap slots → IsPage p → IsPage (record p { body = body.Heap now })

pub none_freed : (slots : List (Option Head)) → Freed slots [] slots false
none_freed slots = record {
  frees = record { same_length = refl; freed = λ i at. absurd at; others = λ k. inl refl };
  some = (λ e. absurd (false≢true e), λ off. absurd (off refl));
  is_page = λ p was is. subst IsPage (same_page p slots was) is;
}
  where
    same_page : (p : Page) (slots : List (Option Head)) → p.body ≡ body.Heap slots
        → p ≡ record p { body = body.Heap slots }
    same_page p slots was = ap (λ (b : Body). record p { body = b }) was

-- an item of a list and one more
in_more : (i x : ℕ) (xs : List ℕ) → In i (xs ++ x ∷ []) → In i xs ⊎ (i ≡ x)
in_more i x xs at = elim (in_either i xs (x ∷ []) at) [
  | inl on ↦ inl on
  | inr (inl e) ↦ inr e
  | inr (inr none) ↦ absurd none
]

some_none : (h : Head) (s : Option Head) → s ≡ Some h → s ≡ None → ⊥
some_none h s e f = cc

-- in the slots where one more is made free, a slot stays free
module _ (now : List (Option Head)) (s : ℕ) where
  free_still : (k : ℕ) → s < length now → slot_at now k ≡ None → slot_at (set now s None) k ≡ None
  free_still k lt free = elim (same_or_not k s) [
    | inl e ↦ ap (slot_at (set now s None)) e ∙ set_here now s None lt
    | inr off ↦ set_else now s None k off ∙ free
  ]

-- one item more
module _ (slots : List (Option Head)) (items : List ℕ) (now : List (Option Head)) (x : ℕ) (freed : Bool)
    (so_far : Freed slots items now freed) where
  more_others : (h : Head) → slot_at now (slot_of x) ≡ Some h → (k : ℕ)
      → StaysOrFree items k (slot_at slots k) (slot_at now k)
      → StaysOrFree (items ++ x ∷ []) k (slot_at slots k) (slot_at (set now (slot_of x) None) k)
  more_others h at k old = elim (same_or_not k (slot_of x)) [
    | inl e ↦ inr (
      ap (slot_at (set now (slot_of x) None)) e ∙ set_here now (slot_of x) None (used_within now (slot_of x) h at),
      x,
      in_back x items (x ∷ []) (inl refl),
      sym e,
    )
    | inr off ↦
        let same = set_else now (slot_of x) None k off in
        elim old [
          | inl stays ↦ inl (same ∙ stays)
          | inr free ↦ inr (same ∙ free.0, free.1, in_front free.1 items (x ∷ []) free.2, free.3)
        ]
  ]

  more_freed : (h : Head) → slot_at now (slot_of x) ≡ Some h
      → FreesSlots (items ++ x ∷ []) slots (set now (slot_of x) None)
  more_freed h at = record {
    same_length = length-set now (slot_of x) None ∙ so_far.frees.same_length;
    freed = λ i on. elim (in_more i x items on) [
      | inl old ↦ free_still now (slot_of x) (slot_of i) (used_within now (slot_of x) h at) (so_far.frees.freed i old)
      | inr e ↦ ap (λ (j : ℕ). slot_at (set now (slot_of x) None) (slot_of j)) e
          ∙ set_here now (slot_of x) None (used_within now (slot_of x) h at)
    ];
    others = λ k. more_others h at k (so_far.frees.others k);
  }

  -- the slot was used from the beginning
  was_there : (h : Head) → slot_at now (slot_of x) ≡ Some h → slot_at slots (slot_of x) ≡ Some h
  was_there h at = elim (so_far.frees.others (slot_of x)) [
    | inl stays ↦ sym stays ∙ at
    | inr free ↦ absurd (some_none h (slot_at now (slot_of x)) at free.0)
  ]

  not_same : (h : Head) → slot_at now (slot_of x) ≡ Some h → set now (slot_of x) None ≢ slots
  not_same h at e = some_none h (slot_at slots (slot_of x)) (was_there h at)
      (ap (λ l. slot_at l (slot_of x)) (sym e) ∙ set_here now (slot_of x) None (used_within now (slot_of x) h at))

  one_freed : (h : Head) → slot_at now (slot_of x) ≡ Some h
      → Freed slots (items ++ x ∷ []) (set now (slot_of x) None) true
  one_freed h at = record {
    frees = more_freed h at;
    some = (λ e. not_same h at, λ off. refl);
    is_page = λ p was is. changed_page (record p { body = body.Heap now }) now (slot_of x) None refl
        (used_within now (slot_of x) h at)
        (omega (arith, ap (λ s. length (slot_bytes s)) at ∙ length-slot_bytes h)) (so_far.is_page p was is) tt;
  }

  one_same : slot_at now (slot_of x) ≡ None → Freed slots (items ++ x ∷ []) now freed
  one_same free = record {
    frees = record {
      same_length = so_far.frees.same_length;
      freed = λ i on. elim (in_more i x items on) [
        | inl old ↦ so_far.frees.freed i old
        | inr e ↦ ap (λ (j : ℕ). slot_at now (slot_of j)) e ∙ free
      ];
      others = λ k. elim (so_far.frees.others k) [
        | inl stays ↦ inl stays
        | inr free ↦ inr (free.0, free.1, in_front free.1 items (x ∷ []) free.2, free.3)
      ];
    };
    some = so_far.some;
    is_page = so_far.is_page;
  }

  -- what one call leaves, where the answer so far becomes this
  pub one_more : (next : List (Option Head)) (used freed' : Bool) → FreesOne x now next used
      → (used ≡ true → freed' ≡ true) → (used ≡ false → freed' ≡ freed) → (all : List ℕ)
      → all ≡ items ++ x ∷ [] → Freed slots all next freed'
  one_more next used freed' (FreesOne.freed h at put is) rose stayed all more =
      subst (λ l. Freed slots l next freed') (sym more)
      (subst (Freed slots (items ++ x ∷ []) next) (sym (rose is))
      (subst (λ l. Freed slots (items ++ x ∷ []) l true) (sym put) (one_freed h at)))
  one_more next used freed' (FreesOne.same free put is) rose stayed all more =
      subst (λ l. Freed slots l next freed') (sym more)
      (subst (Freed slots (items ++ x ∷ []) next) (sym (stayed is))
      (subst (λ l. Freed slots (items ++ x ∷ []) l freed) (sym put) (one_same free)))

-- the page is the same where its slots are
module _ (old : Page) (slots new : List (Option Head)) (was : old.body ≡ body.Heap slots) (b : Bool) where
  pub page_same : ((b ≡ true) ↔ (new ≢ slots)) → (b ≡ true) ↔ (record old { body = body.Heap new } ≢ old)
  page_same some = (
    λ e same. some.0 e (ap (λ (p : Page). slots_in p.body) same ∙ ap slots_in was),
    λ off. some.1 (λ e. off (ap (λ l. record old { body = body.Heap l }) e
        ∙ ap (λ (c : Body). record old { body = c }) (sym was))),
  )

-- ---- a changed slot is a changed head

pub slot_is_head : SlotIsHead
slot_is_head d old new h h' w is serial = record {
  slots = w.slots;
  new_slots = w.new_slots;
  before = w.was;
  head = ap (λ (b : Body). slot_at (slots_in b) (slot_of d.item)) (sym w.was) ∙ is;
  serial = serial;
  put = w.put;
  right = ap (λ (c : Page). c.right) w.after;
  after = ap (λ (c : Page). c.body) w.after;
}
