-- When a head may be marked, or get a part of its vector, in parts.
use Rattle.std.proofs.Common.{◌≡◌, ℕ, List, [], ◌∷◌, length, get_or, refl, sym, ap, subst, ◌∙◌, arith}
use Rattle.std.specs.Prelude.{Option, Some, None, IfNone}
use Rattle.page_types.specs.Views.{slot_at}
use Rattle.page_types.specs.declared.page.Page.{Page}
use Rattle.page_types.specs.declared.page.Head.{Head}
use Rattle.page_types.specs.declared.page.Name.{Name}
use Rattle.page_types.specs.declared.slots.HeadRef.{HeadRef}
use Rattle.page_types.specs.declared.page.Body.TheVariants as body
use Rattle.page_types.specs.declared.record.Record.{Record}
use Rattle.page_types.specs.declared.record.Kind.{Kind}
use Rattle.page_types.specs.declared.record.Kind.TheVariants as kind
use Rattle.core_state.specs.Log.{changed}
use Rattle.core_state.specs.Documents.{Doc, slot_of, name_of}
use Rattle.core_state.specs.Known.{Known}
use Rattle.core_state.specs.Changes.{made_with, IsOwn, IsHeadChange}
use Rattle.core_state.specs.HeapRules.{IsMarkDeletedHere, IsPutOverflowHere}
use Rattle.core_state.specs.Inner.HeadChanges.{HasHead, FindsHead, LeavesInSlot, LeavesPart, MayBeMarked, MayBePut}
use Rattle.core_state.specs.declared.answers.Fate.TheVariants.{Running}
use Rattle.core_state.specs.declared.answers.PageUse.{PageUse}
use Rattle.core_state.proofs.PlacedHeads.{same_heap}

-- a document has one head on a page
pub one_head : (p : Page) (n : Name) (h g : Head) → HasHead p n h → HasHead p n g → h ≡ g
one_head p n h g a b =
    let same : a.slots ≡ b.slots = same_heap a.slots b.slots p.body a.content b.content in
    let there : slot_at b.slots n.slot ≡ Some h =
    subst (λ (s : List (Option Head)). slot_at s n.slot ≡ Some h) same a.at in
    let both : Some h ≡ Some g = sym there ∙ b.at in cc

pub head_change : (r : Record) (d : Doc) (old new : Page) (h g : Head) → HasHead old (name_of d) h
    → LeavesInSlot r (slot_of d.item) old g new → IsHeadChange r d old h g new
head_change r d old new h g a w =
    let same : a.slots ≡ w.slots = same_heap a.slots w.slots old.body a.content w.before in
    record {
      slots = w.slots;
      new_slots = w.new_slots;
      before = w.before;
      head = subst (λ (s : List (Option Head)). slot_at s (slot_of d.item) ≡ Some h) same a.at;
      serial = a.serial_is;
      put = w.put;
      after = w.after;
    }

pub head_changed : (r : Record) (d : Doc) (old new : Page) (h g : Head) → IsHeadChange r d old h g new
    → HasHead old (name_of d) h
head_changed r d old new h g w =
    record { slots = w.slots; content = w.before; at = w.head; serial_is = w.serial }

pub head_left : (r : Record) (d : Doc) (old new : Page) (h g : Head) → IsHeadChange r d old h g new
    → LeavesInSlot r (slot_of d.item) old g new
head_left r d old new h g w =
    record { slots = w.slots; new_slots = w.new_slots; before = w.before; put = w.put; after = w.after }

-- where no head was found there is none
pub no_head : (o : Option HeadRef) (p : Page) (n : Name) → ((x : HeadRef) → o ≡ Some x → ⊥)
    → IfNone o ((h : Head) → HasHead p n h → ⊥) → (h : Head) → HasHead p n h → ⊥
no_head None p n not none = none
no_head (Some x) p n not none = absurd (not x refl)

-- what holds where there is nothing
pub none_where : {A P : Type 0} (o : Option A) → P → IfNone o P
none_where None p = p
none_where (Some x) p = tt

pub none_holds : {A P : Type 0} (o : Option A) → ((x : A) → o ≡ Some x → ⊥) → IfNone o P → P
none_holds None not p = p
none_holds (Some x) not p = absurd (not x refl)

-- what is asked of a mark beside the kind
pub record MarkParts (k : Known) (r : Record) (n : Name) (before after : List Page) : Type 0 where
  pub head : Head
  pub old : Page
  pub new : Page
  pub pages : changed r ≡ n.page ∷ []
  pub runs : k.fates r.xid ≡ Running
  pub before_is : before ≡ old ∷ []
  pub after_is : after ≡ new ∷ []
  pub has : HasHead old n head
  pub may : MayBeMarked k.fates head.inserted_by head.deleted_by
  pub leaves : LeavesInSlot r n.slot old (record head { deleted_by = r.xid }) new

mark_of : (k : Known) (r : Record) (d : Doc) (before after : List Page) → r.kind ≡ kind.MarkDeleted d.item d.serial
    → MarkParts k r (name_of d) before after → IsMarkDeletedHere k r before after
mark_of k r d before after e p = record {
  doc = d;
  head = p.head;
  number = p.may.number;
  old = p.old;
  heap_then = p.new;
  kind_is = e;
  pages = p.pages;
  runs = p.runs;
  inserted = p.may.inserted;
  unmarked = p.may.unmarked;
  before_is = p.before_is;
  head_after = head_change r d p.old p.new p.head (record p.head { deleted_by = r.xid }) p.has p.leaves;
  after_is = p.after_is;
}

pub mark_told : (k : Known) (r : Record) (d : Doc) (n : Name) (before after : List Page) → n ≡ name_of d
    → r.kind ≡ kind.MarkDeleted d.item d.serial → MarkParts k r n before after → IsMarkDeletedHere k r before after
mark_told k r d n before after same e p =
    mark_of k r d before after e (subst (λ (x : Name). MarkParts k r x before after) same p)

abbrev doc_with : ℕ → ℕ → Doc
doc_with item serial = record { item = item; serial = serial }

same_marked : (d e : Doc) (k : Kind) → k ≡ kind.MarkDeleted d.item d.serial → k ≡ kind.MarkDeleted e.item e.serial
    → d ≡ e
same_marked d e k f g =
    let item : d.item ≡ e.item = cc in
    let serial : d.serial ≡ e.serial = cc in
    ap (λ (i : ℕ). doc_with i d.serial) item ∙ ap (doc_with e.item) serial

mark_parts : (k : Known) (r : Record) (before after : List Page) → (w : IsMarkDeletedHere k r before after)
    → MarkParts k r (name_of w.doc) before after
mark_parts k r before after w = record {
  head = w.head;
  old = w.old;
  new = w.heap_then;
  pages = w.pages;
  runs = w.runs;
  before_is = w.before_is;
  after_is = w.after_is;
  has = head_changed r w.doc w.old w.heap_then w.head (record w.head { deleted_by = r.xid }) w.head_after;
  may = record { number = w.number; inserted = w.inserted; unmarked = w.unmarked };
  leaves = head_left r w.doc w.old w.heap_then w.head (record w.head { deleted_by = r.xid }) w.head_after;
}

pub mark_back : (k : Known) (r : Record) (d : Doc) (n : Name) (before after : List Page) → n ≡ name_of d
    → r.kind ≡ kind.MarkDeleted d.item d.serial → IsMarkDeletedHere k r before after → MarkParts k r n before after
mark_back k r d n before after same e w =
    let one : w.doc ≡ d = same_marked w.doc d r.kind w.kind_is e in
    let name : name_of w.doc ≡ n = ap name_of one ∙ sym same in
    subst (λ (x : Name). MarkParts k r x before after) name (mark_parts k r before after w)

-- the page of a mark leaves the head that is found there with the record's xid
pub mark_left : (k : Known) (r : Record) (n : Name) (before after : List Page) (old new : Page) (h : Head)
    → (p : MarkParts k r n before after) → p.old ≡ old → p.new ≡ new → HasHead old n h
    → MayBeMarked k.fates h.inserted_by h.deleted_by × LeavesInSlot r n.slot old (record h { deleted_by = r.xid }) new
mark_left k r n before after old new h p e f has =
    let there : HasHead old n p.head = subst (λ (x : Page). HasHead x n p.head) e p.has in
    let one : p.head ≡ h = one_head old n p.head h there has in
    let may : MayBeMarked k.fates h.inserted_by h.deleted_by = subst
    (λ (x : Head). MayBeMarked k.fates x.inserted_by x.deleted_by) one p.may in
    let leaves : LeavesInSlot r n.slot old (record p.head { deleted_by = r.xid }) new = subst
    (λ (x : Page). LeavesInSlot r n.slot old (record p.head { deleted_by = r.xid }) x) f
    (subst (λ (x : Page). LeavesInSlot r n.slot x (record p.head { deleted_by = r.xid }) p.new) e p.leaves) in
    (may, subst (λ (x : Head). LeavesInSlot r n.slot old (record x { deleted_by = r.xid }) new) one leaves)

-- a list of two
pub two_told : (xs : List Page) (x y : Page) → length xs ≡ 2 → x ≡ get_or xs 0 x → y ≡ get_or xs 1 y
    → xs ≡ x ∷ y ∷ []
two_told [] x y n e f = absurd (omega (arith, n))
two_told (a ∷ []) x y n e f = absurd (omega (arith, n))
two_told (a ∷ b ∷ []) x y n e f = ap (λ (z : Page). z ∷ b ∷ []) (sym e) ∙ ap (λ (z : Page). x ∷ z ∷ []) (sym f)
two_told (a ∷ b ∷ z ∷ zs) x y n e f = absurd (omega (arith, n))

pub first_of_two : (xs : List Page) (x a b : Page) → xs ≡ a ∷ b ∷ [] → x ≡ get_or xs 0 x → a ≡ x
first_of_two xs x a b e is = sym (is ∙ ap (λ (zs : List Page). get_or zs 0 x) e)

pub second_of_two : (xs : List Page) (x a b : Page) → xs ≡ a ∷ b ∷ [] → x ≡ get_or xs 1 x → b ≡ x
second_of_two xs x a b e is = sym (is ∙ ap (λ (zs : List Page). get_or zs 1 x) e)

-- a list of two, of which the first is known
pub two_with : (xs : List Page) (x : Page) → length xs ≡ 2 → x ≡ get_or xs 0 x → xs ≡ x ∷ get_or xs 1 x ∷ []
two_with [] x n e = absurd (omega (arith, n))
two_with (a ∷ []) x n e = absurd (omega (arith, n))
two_with (a ∷ b ∷ []) x n e = ap (λ (z : Page). z ∷ b ∷ []) (sym e)
two_with (a ∷ b ∷ z ∷ zs) x n e = absurd (omega (arith, n))

-- the second page that a record changes
pub same_second : (r : Record) (first p q : ℕ) → changed r ≡ first ∷ p ∷ [] → changed r ≡ first ∷ q ∷ [] → p ≡ q
same_second r first p q e f = let both : first ∷ p ∷ [] ≡ first ∷ q ∷ [] = sym e ∙ f in cc

-- a page and a head are found once
pub record SameFound (p q : ℕ) (a b : Page) (h g : Head) : Type 0 where
  pub page : p ≡ q
  pub old : a ≡ b
  pub head : h ≡ g

pub same_found : (uses : ℕ → PageUse) (since : ℕ) (r : Record) (n : Name) (before : List Page) (p q : ℕ) (h g : Head)
    → (x : FindsHead uses since r n before p h) → (y : FindsHead uses since r n before q g)
    → SameFound p q x.old y.old h g
same_found uses since r n before p q h g x y =
    let both : x.old ∷ x.was ∷ [] ≡ y.old ∷ y.was ∷ [] = sym x.before_is ∙ y.before_is in
    let old : x.old ≡ y.old = cc in
    record {
      page = same_second r n.page p q x.pages y.pages;
      old = old;
      head = one_head y.old n h g (subst (λ (z : Page). HasHead z n h) old x.has) y.has;
    }

pub found_old : (uses : ℕ → PageUse) (since : ℕ) (r : Record) (n : Name) (before : List Page) (p : ℕ) (h : Head)
    (x : Page) → (f : FindsHead uses since r n before p h) → x ≡ get_or before 0 x → f.old ≡ x
found_old uses since r n before p h x f is = first_of_two before x f.old f.was f.before_is is

-- what is asked of a part beside the kind
pub record PutParts (since : ℕ) (k : Known) (r : Record) (n : Name) (before after : List Page) : Type 0 where
  pub head : Head
  pub page : ℕ
  pub heap_then : Page
  pub new : Page
  pub found : FindsHead k.uses since r n before page head
  pub may : MayBePut k.fates r.xid head.inserted_by head.bytes
  pub after_is : after ≡ heap_then ∷ new ∷ []
  pub leaves : LeavesInSlot r n.slot found.old (record head { overflow = page }) heap_then
  pub part : LeavesPart r head.overflow new

pub own_of : (k : Known) (r : Record) (h : Head) → MayBePut k.fates r.xid h.inserted_by h.bytes → IsOwn k r h
own_of k r h m = record { by = m.own; runs = m.runs }

put_of : (since : ℕ) (k : Known) (r : Record) (d : Doc) (before after : List Page)
    → r.kind ≡ kind.PutOverflow d.item d.serial → PutParts since k r (name_of d) before after
    → IsPutOverflowHere since k r before after
put_of since k r d before after e p = record {
  doc = d;
  head = p.head;
  new = p.page;
  part = p.part.part;
  old = p.found.old;
  was = p.found.was;
  heap_then = p.heap_then;
  kind_is = e;
  pages = p.found.pages;
  own = own_of k r p.head p.may;
  long = p.may.long;
  full = p.part.full;
  is_new = p.found.is_new;
  before_is = p.found.before_is;
  head_after = head_change r d p.found.old p.heap_then p.head (record p.head { overflow = p.page }) p.found.has
      p.leaves;
  after_is = p.after_is ∙ ap (λ (x : Page). p.heap_then ∷ x ∷ []) p.part.after;
}

pub put_told : (since : ℕ) (k : Known) (r : Record) (d : Doc) (n : Name) (before after : List Page) → n ≡ name_of d
    → r.kind ≡ kind.PutOverflow d.item d.serial → PutParts since k r n before after
    → IsPutOverflowHere since k r before after
put_told since k r d n before after same e p =
    put_of since k r d before after e (subst (λ (x : Name). PutParts since k r x before after) same p)

same_put : (d e : Doc) (k : Kind) → k ≡ kind.PutOverflow d.item d.serial → k ≡ kind.PutOverflow e.item e.serial
    → d ≡ e
same_put d e k f g =
    let item : d.item ≡ e.item = cc in
    let serial : d.serial ≡ e.serial = cc in
    ap (λ (i : ℕ). doc_with i d.serial) item ∙ ap (doc_with e.item) serial

put_parts : (since : ℕ) (k : Known) (r : Record) (before after : List Page)
    → (w : IsPutOverflowHere since k r before after) → PutParts since k r (name_of w.doc) before after
put_parts since k r before after w = record {
  head = w.head;
  page = w.new;
  heap_then = w.heap_then;
  new = made_with r w.head.overflow (body.Overflow w.part);
  found = record {
    old = w.old;
    was = w.was;
    pages = w.pages;
    is_new = w.is_new;
    before_is = w.before_is;
    has = head_changed r w.doc w.old w.heap_then w.head (record w.head { overflow = w.new }) w.head_after;
  };
  may = record { own = w.own.by; runs = w.own.runs; long = w.long };
  after_is = w.after_is;
  leaves = head_left r w.doc w.old w.heap_then w.head (record w.head { overflow = w.new }) w.head_after;
  part = record { part = w.part; full = w.full; after = refl };
}

pub put_back : (since : ℕ) (k : Known) (r : Record) (d : Doc) (n : Name) (before after : List Page) → n ≡ name_of d
    → r.kind ≡ kind.PutOverflow d.item d.serial → IsPutOverflowHere since k r before after
    → PutParts since k r n before after
put_back since k r d n before after same e w =
    let one : w.doc ≡ d = same_put w.doc d r.kind w.kind_is e in
    let name : name_of w.doc ≡ n = ap name_of one ∙ sym same in
    subst (λ (x : Name). PutParts since k r x before after) name (put_parts since k r before after w)

-- what holds of the page that is put, and of the head that is found
pub record PutLeft (k : Known) (r : Record) (n : Name) (page : ℕ) (old left new : Page) (h : Head) : Type 0 where
  pub may : MayBePut k.fates r.xid h.inserted_by h.bytes
  pub part : LeavesPart r h.overflow new
  pub leaves : LeavesInSlot r n.slot old (record h { overflow = page }) left

-- of the same pages, where page and head are those that are found
pub put_left : (since : ℕ) (k : Known) (r : Record) (n : Name) (before after : List Page) (page : ℕ) (left new : Page)
    (h : Head) → (p : PutParts since k r n before after) → (f : FindsHead k.uses since r n before page h)
    → p.heap_then ≡ left → p.new ≡ new → PutLeft k r n page f.old left new h
put_left since k r n before after page left new h p f c d =
    let s = same_found k.uses since r n before p.page page p.head h p.found f in
    let same : PutLeft k r n p.page p.found.old p.heap_then p.new p.head = record {
      may = p.may;
      part = p.part;
      leaves = p.leaves;
    } in
    subst (λ (x : Head). PutLeft k r n page f.old left new x) s.head
    (subst (λ (x : Page). PutLeft k r n page f.old left x p.head) d
    (subst (λ (x : Page). PutLeft k r n page f.old x p.new p.head) c
    (subst (λ (x : Page). PutLeft k r n page x p.heap_then p.new p.head) s.old
    (subst (λ (x : ℕ). PutLeft k r n x p.found.old p.heap_then p.new p.head) s.page same))))
