-- Heap pages with one head changed, and the steps that are made of them.
use Rattle.std.proofs.Common.{◌≡◌, ℕ, ◌<◌, ◌≤◌, List, [], ◌∷◌, length, set, take, refl, sym, ap, subst, ◌∙◌}
use Rattle.std.proofs.Common.{ap₂, ◌++◌, ◌⊎◌, ⊎_elim, arith}
use Rattle.std.specs.Prelude.{Option, Some, IsSome}
use Rattle.std.specs.Option.{option_map}
use Rattle.std.specs.List.{AllByRecursion}
use Rattle.std.proofs.lemmas.List.{length-set, take_all}
use Rattle.page_types.specs.Numbers.{page_limit, most_slots, most_body}
use Rattle.page_types.specs.Encoding.{slot_bytes, body_bytes}
use Rattle.page_types.specs.Pages.{IsPage, IsBody, IsSlot, IsHead}
use Rattle.page_types.specs.Parts.{head_with}
use Rattle.page_types.specs.Views.{slots_in, slots_of, slot_at}
use Rattle.page_types.specs.declared.page.Page.{Page}
use Rattle.page_types.specs.declared.page.Head.{Head}
use Rattle.page_types.specs.declared.page.Name.{Name}
use Rattle.page_types.specs.declared.page.Body.{Body}
use Rattle.page_types.specs.declared.page.Body.TheVariants as body
use Rattle.page_types.specs.declared.record.Kind.{Kind}
use Rattle.page_types.specs.declared.record.Kind.TheVariants as kind
use Rattle.page_types.specs.declared.slots.HeadFields.{HeadFields}
use Rattle.page_types.proofs.BodySizes.{length-slot_bytes}
use Rattle.core_state.specs.Allowed.{Sheet, Step}
use Rattle.core_state.specs.Documents.{item_at}
use Rattle.core_state.specs.Steps.{sheet}
use Rattle.doc_heap.specs.HeapPages.{head_on, ChangesSlot}
use Rattle.doc_heap.proofs.SlotLists.{puts_set, put_one, put_are, used_within, slot_is, has_head}
use Rattle.doc_heap.proofs.SlotSizes.{bytes_of, size_set}
use Rattle.engine.specs.Inner.Changing.{LeadsOn, IsMarkStep, IsPartStep, part_page}

below_or_not : (k n : ℕ) → (k < n) ⊎ (n ≤ k)
below_or_not k n = grind arith

-- so many first ones, where there are no more
pub take_least : (k n : ℕ) (xs : List ℕ) → k ≤ n → (k < n → length xs ≤ k) → take k xs ≡ take n xs
take_least k n xs le few = ⊎_elim
    (λ (lt : k < n). take_all k xs (few lt) ∙ sym (take_all n xs (omega (arith, few lt, lt))))
    (λ (ge : n ≤ k). let e : k ≡ n = omega arith in ap (λ (m : ℕ). take m xs) e)
    (below_or_not k n)

-- ── a page and its slots ──

few_in : (right stamp : ℕ) (b : Body) → IsBody right stamp b → length (slots_in b) ≤ most_slots
few_in right stamp (body.Heap slots) is = is.0
few_in right stamp _ is = omega arith

-- a head is in one of the slots that a page may have
pub slot_below : (p : Page) (k : ℕ) (h : Head) → IsPage p → head_on p k ≡ Some h → k < most_slots
slot_below p k h is there =
    omega (arith, used_within (slots_of p) k h there, few_in p.right p.stamp p.body is.body)

pub some_below : (p : Page) (k : ℕ) → IsPage p → IsSome (head_on p k) → k < most_slots
some_below p k is some = let there = has_head (head_on p k) some in slot_below p k there.0 is there.1

heads_in : (right stamp : ℕ) (b : Body) → IsBody right stamp b → AllByRecursion IsSlot (slots_in b)
heads_in right stamp (body.Heap slots) is = is.1
heads_in right stamp _ is = tt

-- it has an encoding
pub head_is : (p : Page) (k : ℕ) (h : Head) → IsPage p → head_on p k ≡ Some h → IsHead h
head_is p k h is there = slot_is (slots_of p) k h (heads_in p.right p.stamp p.body is.body) there

-- a page of which one head gets another with a vector as long has an encoding still
pub changed_is : (old new : Page) (k : ℕ) (h h' : Head) → ChangesSlot old k (Some h') new
    → head_on old k ≡ Some h → length h'.vector ≡ length h.vector → IsHead h' → IsPage old → IsPage new
changed_is old new k h h' w there same is page =
    let at : slot_at w.slots k ≡ Some h = ap (λ (b : Body). slot_at (slots_in b) k) (sym w.was) ∙ there in
    let on : IsBody old.right old.stamp (body.Heap w.slots) = subst (IsBody old.right old.stamp) w.was page.body in
    let lt : k < length w.slots = used_within w.slots k h at in
    let list : w.new_slots ≡ set w.slots k (Some h') =
    put_one w.slots k (Some h') w.new_slots (set w.slots k (Some h')) w.put (puts_set w.slots k (Some h') lt) in
    let size : length (bytes_of w.slots) ≤ most_body =
    subst (λ (b : Body). length (body_bytes b) ≤ most_body) w.was page.fits in
    let new_size : length (bytes_of w.new_slots) ≡ length (bytes_of (set w.slots k (Some h'))) =
    ap (λ (l : List (Option Head)). length (bytes_of l)) list in
    let was_size : length (slot_bytes (slot_at w.slots k)) ≡ length (slot_bytes (Some h)) =
    ap (λ (s : Option Head). length (slot_bytes s)) at in
    let few : length w.new_slots ≤ most_slots = omega (arith, on.0, w.same_length) in
    subst IsPage (sym w.after) (record {
      right = page.right;
      stamp = page.stamp;
      body = (few, put_are w.slots k (Some h') w.new_slots w.put on.1 is);
      count = omega (arith, few);
      fits = omega (
        arith,
        size,
        new_size,
        was_size,
        same,
        size_set w.slots k (Some h') lt,
        length-slot_bytes h,
        length-slot_bytes h',
      );
    })

-- the slot of a page becomes this
pub slot_changes : (old : Page) (slots new : List (Option Head)) (k : ℕ) (h h' : Head) → old.body ≡ body.Heap slots
    → head_on old k ≡ Some h → new ≡ set slots k (Some h')
    → ChangesSlot old k (Some h') (record old { body = body.Heap new })
slot_changes old slots new k h h' was there list =
    let at : slot_at slots k ≡ Some h = ap (λ (b : Body). slot_at (slots_in b) k) (sym was) ∙ there in
    let lt : k < length slots = used_within slots k h at in
    subst (λ (l : List (Option Head)). ChangesSlot old k (Some h') (record old { body = body.Heap l })) (sym list)
    (record {
      slots = slots;
      new_slots = set slots k (Some h');
      was = was;
      put = puts_set slots k (Some h') lt;
      same_length = length-set slots k (Some h');
      after = refl;
    })

-- ── a head that leads to another page ──

-- a used slot of a copy of a page
pub used_in : (page heap : Page) (slots : List (Option Head)) (k j : ℕ) (h : Head) → heap ≡ page
    → heap.body ≡ body.Heap slots → j ≡ k → Some h ≡ head_on page k → j < length slots
used_in page heap slots k j h same was e there =
    let at : slot_at slots k ≡ Some h = ap (λ (b : Body). slot_at (slots_in b) k) (sym was)
    ∙ ap (λ (p : Page). head_on p k) same ∙ sym there in
    omega (arith, e, used_within slots k h at)

-- a page that has a head is a heap page
pub is_heap_page : (b : Body) (k : ℕ) (h : Head) → slot_at (slots_in b) k ≡ Some h
    → ((slots : List (Option Head)) → b ≡ body.Heap slots → ⊥) → ⊥
is_heap_page (body.Heap slots) k h there not = not slots refl
is_heap_page _ k h there not = cc

fields_here : (page : Page) (slots new : List (Option Head)) (k j : ℕ) (f : HeadFields)
    → page.body ≡ body.Heap slots → j ≡ k
    → new ≡ set slots j (option_map (λ (h : Head). head_with f h.vector) (slot_at slots j))
    → (h : Head) → head_on page k ≡ Some h
    → ChangesSlot page k (Some (head_with f h.vector)) (record page { body = body.Heap new })
fields_here page slots new k j f was e list h there =
    let with_fields = λ (s : Option Head). option_map (λ (g : Head). head_with f g.vector) s in
    let at : slot_at slots k ≡ Some h = ap (λ (b : Body). slot_at (slots_in b) k) (sym was) ∙ there in
    slot_changes page slots new k h (head_with f h.vector) was there
    (list ∙ ap (λ (i : ℕ). set slots i (with_fields (slot_at slots i))) e
    ∙ ap (λ (s : Option Head). set slots k (with_fields s)) at)

-- the page of which a copy was changed so
pub fields_on : (page heap : Page) (slots new : List (Option Head)) (k j : ℕ) (f : HeadFields)
    → heap ≡ page → heap.body ≡ body.Heap slots → j ≡ k
    → new ≡ set slots j (option_map (λ (h : Head). head_with f h.vector) (slot_at slots j))
    → (h : Head) → head_on page k ≡ Some h
    → ChangesSlot page k (Some (head_with f h.vector)) (record heap { body = body.Heap new })
fields_on page heap slots new k j f same was e list h there =
    subst (λ (p : Page). ChangesSlot p k (Some (head_with f h.vector)) (record heap { body = body.Heap new })) same
    (fields_here heap slots new k j f was e list h (ap (λ (p : Page). head_on p k) same ∙ there))

-- a head that gets the number of another page leads there
pub led_by : (page : Page) (slot part : ℕ) (f : HeadFields) (v : List ℕ) (new : Page)
    → Some (head_with f v) ≡ head_on page slot
    → ((h : Head) → head_on page slot ≡ Some h
    → ChangesSlot page slot (Some (head_with (record f { overflow = part }) h.vector)) new)
    → LeadsOn page slot part new f.overflow
led_by page slot part f v new there changes = record {
  head = head_with f v;
  there = sym there;
  changes = changes (head_with f v) (sym there);
  next_is = refl;
}

-- it has an encoding
pub leads_is : (page new : Page) (k part next : ℕ) → LeadsOn page k part new next → IsPage page → part < page_limit
    → IsPage new
leads_is page new k part next w is lt =
    let h = head_is page k w.head is w.there in
    changed_is page new k w.head (record w.head { overflow = part }) w.changes w.there refl
    (record {
      serial = h.serial;
      inserted_by = h.inserted_by;
      deleted_by = h.deleted_by;
      overflow = lt;
      private = h.private;
      bytes = h.bytes;
      vector = h.vector;
    }) is

-- ── steps ──

-- a step that leaves one page, and two
pub one_left : (k k' : Kind) (x : ℕ) (s0 s1 : Step) (y : Sheet) (p : ℕ) (c : Page)
    → s0 ≡ record { kind = k; xid = x; after = [] } → k ≡ k' → y ≡ sheet p c
    → s1 ≡ record s0 { after = s0.after ++ y ∷ [] } → s1 ≡ record { kind = k'; xid = x; after = sheet p c ∷ [] }
one_left k k' x s0 s1 y p c begun kinds is left =
    left
    ∙ ap₂ (λ (s : Step) (z : Sheet). record s { after = s.after ++ z ∷ [] }) begun is
    ∙ ap (λ (q : Kind). record { kind = q; xid = x; after = sheet p c ∷ [] }) kinds

pub two_left : (k k' : Kind) (x : ℕ) (s0 s1 s2 : Step) (y z : Sheet) (p q : ℕ) (c d : Page)
    → s0 ≡ record { kind = k; xid = x; after = [] } → k ≡ k' → y ≡ sheet p c
    → s1 ≡ record s0 { after = s0.after ++ y ∷ [] } → z ≡ sheet q d
    → s2 ≡ record s1 { after = s1.after ++ z ∷ [] }
    → s2 ≡ record { kind = k'; xid = x; after = sheet p c ∷ sheet q d ∷ [] }
two_left k k' x s0 s1 s2 y z p q c d begun kinds first left second more =
    more
    ∙ ap₂ (λ (s : Step) (w : Sheet). record s { after = s.after ++ w ∷ [] })
    (one_left k k' x s0 s1 y p c begun kinds first left) second

pub mark_step_is : (x : ℕ) (name : Name) (page copy marked : Page) (step : Step) → name.page < page_limit
    → copy ≡ page → IsPage copy → IsSome (head_on page name.slot)
    → ((h : Head) → head_on copy name.slot ≡ Some h
    → ChangesSlot copy name.slot (Some (record h { deleted_by = x })) marked)
    → (IsPage copy → IsPage marked)
    → step ≡ record {
      kind = kind.MarkDeleted (item_at name.page name.slot) name.serial;
      xid = x;
      after = sheet name.page marked ∷ [];
    } → IsMarkStep x name page step
mark_step_is x name page copy marked step low same copy_is some marks is_page is =
    let there = has_head (head_on page name.slot) some in
    let whole : IsPage page = subst IsPage same copy_is in
    record {
      place = (low, slot_below page name.slot there.0 whole there.1);
      head = there.0;
      there = there.1;
      is_head = head_is page name.slot there.0 whole there.1;
      new = marked;
      changes = subst (λ (p : Page). ChangesSlot p name.slot (Some (record there.0 { deleted_by = x })) marked) same
          (marks there.0 (ap (λ (p : Page). head_on p name.slot) same ∙ there.1));
      is_page = is_page copy_is;
      step_is = is;
    }

part_is : (next : ℕ) (part : List ℕ) → next < page_limit → length part ≤ most_body → IsPage (part_page next part)
part_is next part lt fits = record { right = lt; stamp = omega arith; body = tt; count = omega arith; fits = fits }

pub part_step_is : (x : ℕ) (name : Name) (heap copy : Page) (part : List ℕ) (page number : ℕ) (new : Page) (next : ℕ)
    (step : Step) → name.page < page_limit → copy ≡ heap → number ≡ page
    → LeadsOn copy name.slot number new next → IsPage copy
    → page < page_limit → length part ≤ most_body
    → step ≡ record {
      kind = kind.PutOverflow (item_at name.page name.slot) name.serial;
      xid = x;
      after = sheet name.page new ∷ sheet page (part_page next part) ∷ [];
    } → IsPartStep x name heap part page step
part_step_is x name heap copy part page number new next step low same numbers w heap_is lt fits is =
    let h = head_is copy name.slot w.head heap_is w.there in
    let leads : LeadsOn heap name.slot page new next =
    subst (λ (p : Page). LeadsOn p name.slot page new next) same
    (subst (λ (n : ℕ). LeadsOn copy name.slot n new next) numbers w) in
    record {
      place = (low, slot_below copy name.slot w.head heap_is w.there);
      low = lt;
      new = new;
      next = next;
      leads = leads;
      is_head = head_is heap name.slot leads.head (subst IsPage same heap_is) leads.there;
      is_page = leads_is copy new name.slot number next w heap_is (omega (arith, numbers, lt));
      is_part = part_is next part (omega (arith, w.next_is, h.overflow)) fits;
      step_is = is;
    }
