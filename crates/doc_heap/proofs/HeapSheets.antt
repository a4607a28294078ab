-- Pages with one slot changed: they have an encoding still, and their steps may be logged.
use Rattle.std.proofs.Common.{◌≡◌, ℕ, ◌^◌, ◌+◌, ◌<◌, ◌≤◌, List, [], ◌∷◌, length, set, refl, sym, ap, subst, ◌∙◌, inl}
use Rattle.std.proofs.Common.{inr, arith}
use Rattle.std.specs.Prelude.{Option, Some, None, IsSome}
use Rattle.std.specs.List.{AllByRecursion}
use Rattle.std.proofs.lemmas.List.{length-set}
use Rattle.page_types.specs.Numbers.{page_limit, most_slots, most_body}
use Rattle.page_types.specs.Encoding.{slot_bytes, body_bytes, count_of}
use Rattle.page_types.specs.Pages.{IsPage, IsBody, IsSlot, IsHead}
use Rattle.page_types.specs.Views.{slots_in, slots_of, slot_at}
use Rattle.page_types.specs.declared.page.Page.{Page}
use Rattle.page_types.specs.declared.page.Head.{Head}
use Rattle.page_types.specs.declared.page.Body.{Body}
use Rattle.page_types.specs.declared.page.Body.TheVariants as body
use Rattle.core_state.specs.Log.{Pages, In}
use Rattle.core_state.specs.Documents.{page_of, slot_of, item_at}
use Rattle.core_state.specs.Steps.{IsNewSheet, sheet}
use Rattle.core_state.specs.Changes.{PutsSlot}
use Rattle.doc_heap.specs.HeapPages.{head_on, ChangesSlot, IsLowestFree, GetsHead, HasNoRoom, IsPlaced, right_on_heap}
use Rattle.doc_heap.specs.Logging.{PlacedMayBeLogged, MarkedMayBeLogged}
use Rattle.page_types.proofs.BodySizes.{length-slot_bytes}
use Rattle.doc_heap.proofs.SlotLists.{puts_set, put_one, put_are, used_within, slot_is, has_head, lowest_one}
use Rattle.doc_heap.proofs.SlotSizes.{bytes_of, size_set, size_put, slot_fits}

-- what is said of the slots of a page that has an encoding
record HasSlots (slots : List (Option Head)) : Type 0 where
  few : length slots ≤ most_slots
  all : AllByRecursion IsSlot slots

no_slots : HasSlots []
no_slots = record { few = omega arith; all = tt }

slots_held : (right stamp : ℕ) (b : Body) → IsBody right stamp b → HasSlots (slots_in b)
slots_held right stamp (body.Heap slots) is = record { few = is.0; all = is.1 }
slots_held right stamp _ is = no_slots

right_fits : (right : ℕ) (b : Body) → right < page_limit → right_on_heap right b < page_limit
right_fits right (body.Heap slots) lt = lt
right_fits right _ lt = omega arith

-- a page with a head placed on it has an encoding
pub placed_page : (old : Page) (h : Head) (new : Page) (k : ℕ) → IsPlaced old h new k → IsPage old → IsHead h
    → IsPage new
placed_page old h new k w page is =
    let held = slots_held old.right old.stamp old.body page.body in
    let few : length w.slots ≤ most_slots = omega (arith, w.gets.put.size, held.few, w.below) in
    let all : AllByRecursion IsSlot w.slots = put_are (slots_of old) k (Some h) w.slots w.gets.put held.all is in
    record {
      right = subst (λ n. n < page_limit) (sym w.right) (right_fits old.right old.body page.right);
      stamp = subst (λ n. n < 2 ^ 64) (sym w.stamp) page.stamp;
      body = subst (IsBody new.right new.stamp) (sym w.content) (few, all);
      count = subst (λ (b : Body). count_of b < 2 ^ 16) (sym w.content) (omega (arith, few));
      fits = w.fits;
    }

bytes_held : (b : Body) → length (bytes_of (slots_in b)) ≤ length (body_bytes b)
bytes_held (body.Heap slots) = omega arith
bytes_held _ = omega arith

-- the body with a head put on the page is never longer than a number of 64 bits says
pub put_length : (p : Page) (k : ℕ) (h : Head) (new : List (Option Head)) → length (body_bytes p.body) ≤ most_body
    → length h.vector < 2 ^ 63 → GetsHead p h k new → length (body_bytes (body.Heap new)) < 2 ^ 64
put_length p k h new fits vector g =
    omega (arith, fits, vector, bytes_held p.body, size_put (slots_of p) k h new g.lowest g.in_row g.put)

-- where the body fits there is room
pub has_room : (p : Page) (k : ℕ) (h : Head) (new : List (Option Head)) → GetsHead p h k new
    → length (body_bytes (body.Heap new)) ≤ most_body → HasNoRoom p h → ⊥
has_room p k h new g fits full =
    let slot : full.slot ≡ k = lowest_one (slots_of p) full.slot k full.gets.lowest g.lowest in
    let below : k < most_slots = slot_fits (slots_of p) k h new g.lowest g.put fits in
    let put = subst (λ j. PutsSlot (slots_of p) j (Some h) full.slots) slot full.gets.put in
    let too_long = λ (l : List (Option Head)). most_body < length (body_bytes (body.Heap l)) in
    let same : full.slots ≡ new = put_one (slots_of p) k (Some h) full.slots new put g.put in
    elim full.over [
      | inl all ↦ omega (arith, all, slot, below)
      | inr long ↦ omega (arith, fits, subst too_long same long)
    ]

-- what is put into a copy of the page's slots
pub gets_head : (p : Page) (h g : Head) (k : ℕ) (slots new : List (Option Head)) → slots ≡ slots_of p → g ≡ h
    → IsLowestFree slots k → k ≤ length slots → PutsSlot slots k (Some g) new → GetsHead p h k new
gets_head p h g k slots new copied same lowest in_row put = record {
  lowest = subst (λ l. IsLowestFree l k) copied lowest;
  in_row = omega (arith, ap length copied, in_row);
  put = subst (λ (f : Head). PutsSlot (slots_of p) k (Some f) new) same
      (subst (λ l. PutsSlot l k (Some g) new) copied put);
}

-- the page with these slots
pub is_placed : (p : Page) (h : Head) (k right : ℕ) (new : List (Option Head)) → GetsHead p h k new
    → length (body_bytes (body.Heap new)) ≤ most_body → right ≡ right_on_heap p.right p.body
    → IsPlaced p h (record { right = right; stamp = p.stamp; body = body.Heap new }) k
is_placed p h k right new g fits link = record {
  slots = new;
  gets = g;
  below = slot_fits (slots_of p) k h new g.lowest g.put fits;
  content = refl;
  fits = fits;
  right = link;
  stamp = refl;
}

-- what one slot becomes
pub changes_slot : (old : Page) (slots : List (Option Head)) (k : ℕ) (s : Option Head) → old.body ≡ body.Heap slots
    → k < length slots → ChangesSlot old k s (record old { body = body.Heap (set slots k s) })
changes_slot old slots k s was lt = record {
  slots = slots;
  new_slots = set slots k s;
  was = was;
  put = puts_set slots k s lt;
  same_length = length-set slots k s;
  after = refl;
}

-- a page of which one slot gets no longer has an encoding still
pub changed_page : (old : Page) (slots : List (Option Head)) (k : ℕ) (s : Option Head) → old.body ≡ body.Heap slots
    → k < length slots → length (slot_bytes s) ≤ length (slot_bytes (slot_at slots k)) → IsPage old → IsSlot s
    → IsPage (record old { body = body.Heap (set slots k s) })
changed_page old slots k s was lt small page is =
    let on : IsBody old.right old.stamp (body.Heap slots) = subst (IsBody old.right old.stamp) was page.body in
    let size : length (bytes_of slots) ≤ most_body =
    subst (λ (b : Body). length (body_bytes b) ≤ most_body) was page.fits in
    let few : length (set slots k s) ≤ most_slots = omega (arith, on.0, length-set slots k s) in
    record {
      right = page.right;
      stamp = page.stamp;
      body = (few, put_are slots k s (set slots k s) (puts_set slots k s lt) on.1 is);
      count = omega (arith, few);
      fits = omega (arith, size, small, size_set slots k s lt);
    }

-- the head that a used slot has
pub head_there : (old : Page) (slots : List (Option Head)) (k : ℕ) → old.body ≡ body.Heap slots
    → IsSome (head_on old k) → (h : Head) × (slot_at slots k ≡ Some h)
head_there old slots k was some =
    let there = has_head (head_on old k) some in
    (there.0, ap (λ (b : Body). slot_at (slots_in b) k) (sym was) ∙ there.1)

-- a used slot is one of the list
pub used_on : (old : Page) (slots : List (Option Head)) (k j : ℕ) → old.body ≡ body.Heap slots → j ≡ k
    → IsSome (head_on old k) → j < length slots
used_on old slots k j was e some =
    let there = head_there old slots k was some in
    omega (arith, e, used_within slots k there.0 there.1)

pub freed_slot : (old : Page) (slots new : List (Option Head)) (k j : ℕ) → old.body ≡ body.Heap slots → j ≡ k
    → new ≡ set slots j None → IsSome (head_on old k) → ChangesSlot old k None (record old { body = body.Heap new })
freed_slot old slots new k j was e put some =
    subst (λ l. ChangesSlot old k None (record old { body = body.Heap l })) (sym (put ∙ ap (λ i. set slots i None) e))
    (changes_slot old slots k None was (used_on old slots k k was refl some))

pub freed_page : (old : Page) (slots new : List (Option Head)) (k j : ℕ) → old.body ≡ body.Heap slots → j ≡ k
    → new ≡ set slots j None → IsSome (head_on old k) → IsPage old → IsPage (record old { body = body.Heap new })
freed_page old slots new k j was e put some page =
    let there = head_there old slots k was some in
    let one : length (slot_bytes (slot_at slots k)) ≡ 29 + length there.0.vector =
    ap (λ s. length (slot_bytes s)) there.1 ∙ length-slot_bytes there.0 in
    subst (λ l. IsPage (record old { body = body.Heap l })) (sym (put ∙ ap (λ i. set slots i None) e))
    (changed_page old slots k None was (used_on old slots k k was refl some) (omega (arith, one)) page tt)

-- the head with this deleting transaction
abbrev marked_by : ℕ → Head → Head
marked_by xid h = record h { deleted_by = xid }

-- the slots become what marking the head in slot j makes of them
abbrev Marks : List (Option Head) → ℕ → ℕ → List (Option Head) → Type 0
Marks slots j xid new = (h : Head) → slot_at slots j ≡ Some h → new ≡ set slots j (Some (marked_by xid h))

marked_list : (slots new : List (Option Head)) (k j xid : ℕ) → j ≡ k → Marks slots j xid new → (h : Head)
    → slot_at slots k ≡ Some h → new ≡ set slots k (Some (marked_by xid h))
marked_list slots new k j xid e marks h is =
    marks h (ap (slot_at slots) e ∙ is) ∙ ap (λ i. set slots i (Some (marked_by xid h))) e

pub marked_slot : (old : Page) (slots new : List (Option Head)) (k j xid : ℕ) → old.body ≡ body.Heap slots → j ≡ k
    → ((h : Head) → slot_at slots j ≡ Some h → new ≡ set slots j (Some (record h { deleted_by = xid })))
    → (h : Head) → head_on old k ≡ Some h
    → ChangesSlot old k (Some (record h { deleted_by = xid })) (record old { body = body.Heap new })
marked_slot old slots new k j xid was e marks h is =
    let there : slot_at slots k ≡ Some h = ap (λ (b : Body). slot_at (slots_in b) k) (sym was) ∙ is in
    subst (λ l. ChangesSlot old k (Some (marked_by xid h)) (record old { body = body.Heap l }))
    (sym (marked_list slots new k j xid e marks h there))
    (changes_slot old slots k (Some (marked_by xid h)) was (used_within slots k h there))

marked_is : (xid : ℕ) (h : Head) → xid < 2 ^ 32 → IsHead h → IsHead (marked_by xid h)
marked_is xid h small is = record {
  serial = is.serial;
  inserted_by = is.inserted_by;
  deleted_by = small;
  overflow = is.overflow;
  private = is.private;
  bytes = is.bytes;
  vector = is.vector;
}

pub marked_page : (old : Page) (slots new : List (Option Head)) (k j xid : ℕ) → old.body ≡ body.Heap slots → j ≡ k
    → xid < 2 ^ 32
    → ((h : Head) → slot_at slots j ≡ Some h → new ≡ set slots j (Some (record h { deleted_by = xid })))
    → IsSome (head_on old k) → IsPage old → IsPage (record old { body = body.Heap new })
marked_page old slots new k j xid was e small marks some page =
    let there = head_there old slots k was some in
    let h = there.0 in
    let held = slots_held old.right old.stamp old.body page.body in
    let all : AllByRecursion IsSlot slots = subst (λ (b : Body). AllByRecursion IsSlot (slots_in b)) was held.all in
    let same : length (slot_bytes (slot_at slots k)) ≡ length (slot_bytes (Some (marked_by xid h))) =
    ap (λ s. length (slot_bytes s)) there.1 ∙ length-slot_bytes h ∙ sym (length-slot_bytes (marked_by xid h)) in
    subst (λ l. IsPage (record old { body = body.Heap l })) (sym (marked_list slots new k j xid e marks h there.1))
    (changed_page old slots k (Some (marked_by xid h)) was (used_within slots k h there.1) (omega (arith, same)) page
    (marked_is xid h small (slot_is slots k h all there.1)))

page_is : (p k : ℕ) → k < most_slots → page_of (item_at p k) ≡ p
page_is p k lt = omega (arith, lt)

slot_of_item : (p k : ℕ) → k < most_slots → slot_of (item_at p k) ≡ k
slot_of_item p k lt = omega (arith, lt)

-- what a new page is as a heap page
new_is_empty : (P : Pages) (since p : ℕ) (c : Page) → IsNewSheet P since p c
    → (slots_of c ≡ []) × (right_on_heap c.right c.body ≡ 0)
new_is_empty P since p c (IsNewSheet.unused free low) = (ap slots_in free, ap (right_on_heap c.right) free)
new_is_empty P since p c (IsNewSheet.deleted g gone small) = (ap slots_in gone, ap (right_on_heap c.right) gone)

pub placed_logged : PlacedMayBeLogged
placed_logged v P s p k serial head old new w which is_new own held kind_is after_is =
    let here = page_is p k w.below in
    let at = slot_of_item p k w.below in
    record {
      item = item_at p k;
      serial = serial;
      head = head;
      old = old;
      new = new;
      slots = slots_of old;
      new_slots = w.slots;
      kind_is = kind_is;
      after_is = after_is ∙ ap (λ q. sheet q new ∷ []) (sym here);
      own = own;
      held = subst (λ q. In (sheet q old) v.held) (sym here) held;
      page = elim which [
        | inl heap ↦ inl (
          heap.1 ∙ ap (λ (b : Body). body.Heap (slots_in b)) (sym heap.1),
          w.right ∙ ap (right_on_heap old.right) heap.1,
        )
        | inr fresh ↦
            let empty = new_is_empty P v.since p old fresh in
            inr (empty.0, w.right ∙ empty.1, subst (λ q. IsNewSheet P v.since q old) (sym here) fresh)
      ];
      was_free = ap (slot_at (slots_of old)) at ∙ w.gets.lowest.free;
      in_row = omega (arith, at, w.gets.in_row);
      new_head = is_new;
      put = subst (λ j. PutsSlot (slots_of old) j (Some head) w.slots) (sym at) w.gets.put;
      content = w.content;
    }

pub marked_logged : MarkedMayBeLogged
marked_logged v P s d h number old new w is serial inserted unmarked own held kind_is after_is =
    record {
      doc = d;
      head = h;
      number = number;
      old = old;
      new = new;
      kind_is = kind_is;
      after_is = after_is;
      own = own;
      held = held;
      inserted = inserted;
      unmarked = unmarked;
      head_after = record {
        slots = w.slots;
        new_slots = w.new_slots;
        before = w.was;
        head = ap (λ (b : Body). slot_at (slots_in b) (slot_of d.item)) (sym w.was) ∙ is;
        serial = serial;
        put = w.put;
        right = ap (λ (c : Page). c.right) w.after;
        after = ap (λ (c : Page). c.body) w.after;
      };
    }
