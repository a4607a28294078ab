-- When a new head may come next, in parts.
use Rattle.std.proofs.Common.{◌≡◌, ◌⊎◌, ◌≤◌, ◌<◌, ℕ, List, [], ◌∷◌, length, get_or, refl, sym, ap, subst, ◌∙◌, inl, inr}
use Rattle.std.proofs.Common.{arith}
use Rattle.std.specs.Prelude.{Option, Some, None, is_some, false}
use Rattle.std.specs.Option.{option_map}
use Rattle.page_types.specs.Parts.{head_shown}
use Rattle.page_types.specs.declared.slots.HeadRef.{HeadRef}
use Rattle.page_types.specs.Views.{slot_at}
use Rattle.page_types.specs.declared.page.Page.{Page}
use Rattle.page_types.specs.declared.page.Head.{Head}
use Rattle.page_types.specs.declared.page.Name.{Name}
use Rattle.page_types.specs.declared.page.Body.{Body}
use Rattle.page_types.specs.declared.page.Body.TheVariants as body
use Rattle.page_types.specs.declared.record.Record.{Record}
use Rattle.page_types.specs.declared.record.Kind.{Kind}
use Rattle.page_types.specs.declared.record.Kind.TheVariants as kind
use Rattle.page_types.proofs.Joining.{slot_past}
use Rattle.core_state.specs.Log.{changed}
use Rattle.core_state.specs.Documents.{Doc, page_of, name_of}
use Rattle.core_state.specs.Known.{Known}
use Rattle.core_state.specs.Changes.{made_with, IsNew}
use Rattle.core_state.specs.HeapRules.{IsPlaceHeadHere}
use Rattle.core_state.specs.Inner.Placing.{PlacesHead, LeavesHead}
use Rattle.core_state.specs.declared.answers.Fate.TheVariants.{Running}
use Rattle.core_state.specs.declared.answers.PageUse.{PageUse}

pub below_or_past : (k n : ℕ) → (k < n) ⊎ (n ≤ k)
below_or_past k n = grind arith

-- slots after the last one of both pages are alike
pub alike_past : (new slots : List (Option Head)) (j : ℕ) → length slots ≤ j → length new ≤ j
    → slot_at new j ≡ slot_at slots j
alike_past new slots j ls ln = slot_past new j ln ∙ sym (slot_past slots j ls)

-- a page by its parts
abbrev page_with : ℕ → ℕ → Body → Page
page_with right stamp content = record { right = right; stamp = stamp; body = content }

left_new : (r : Record) (new : Page) (slots : List (Option Head)) → new.body ≡ body.Heap slots → new.stamp ≡ r.number
    → new ≡ made_with r new.right (body.Heap slots)
left_new r new slots b s = ap (page_with new.right new.stamp) b
    ∙ ap (λ (n : ℕ). page_with new.right n (body.Heap slots)) s

pub leaves_old : (uses : ℕ → PageUse) (since : ℕ) (r : Record) (n : Name) (old new : Page)
    (slots new_slots : List (Option Head)) → old.body ≡ body.Heap slots
    → new.body ≡ body.Heap new_slots → new.stamp ≡ r.number → new.right ≡ old.right
    → PlacesHead slots n.slot new_slots n.serial r.xid → LeavesHead uses since r n old new
leaves_old uses since r n old new slots new_slots was is stamp right places =
    record {
      slots = slots;
      new_slots = new_slots;
      right = new.right;
      page = inl (was, right);
      places = places;
      after = left_new r new new_slots is stamp;
    }

pub leaves_new : (uses : ℕ → PageUse) (since : ℕ) (r : Record) (n : Name) (old new : Page)
    (new_slots : List (Option Head)) → new.body ≡ body.Heap new_slots → new.stamp ≡ r.number
    → new.right ≡ 0 → IsNew uses since n.page → PlacesHead [] n.slot new_slots n.serial r.xid
    → LeavesHead uses since r n old new
leaves_new uses since r n old new new_slots is stamp right is_new places =
    record {
      slots = [];
      new_slots = new_slots;
      right = new.right;
      page = inr (refl, right, is_new);
      places = places;
      after = left_new r new new_slots is stamp;
    }

-- and back
pub leaves_heap : (uses : ℕ → PageUse) (since : ℕ) (r : Record) (n : Name) (old new : Page)
    → (w : LeavesHead uses since r n old new) → new.body ≡ body.Heap w.new_slots
leaves_heap uses since r n old new w = ap (λ (p : Page). p.body) w.after

pub leaves_stamp : (uses : ℕ → PageUse) (since : ℕ) (r : Record) (n : Name) (old new : Page)
    → LeavesHead uses since r n old new → new.stamp ≡ r.number
leaves_stamp uses since r n old new w = ap (λ (p : Page). p.stamp) w.after

pub same_heap : (a b : List (Option Head)) (c : Body) → c ≡ body.Heap a → c ≡ body.Heap b → a ≡ b
same_heap a b c e f = cc

-- what is in the slots of an old page
pub record OnOld (r : Record) (n : Name) (old new : Page) (new_slots : List (Option Head)) : Type 0 where
  pub slots : List (Option Head)
  pub was : old.body ≡ body.Heap slots
  pub right : new.right ≡ old.right
  pub places : PlacesHead slots n.slot new_slots n.serial r.xid

-- what makes a new page a heap page
pub record OnNew (uses : ℕ → PageUse) (since : ℕ) (r : Record) (n : Name) (new : Page)
    (new_slots : List (Option Head)) : Type 0 where
  pub right : new.right ≡ 0
  pub unused : IsNew uses since n.page
  pub places : PlacesHead [] n.slot new_slots n.serial r.xid

pub leaves_back : (uses : ℕ → PageUse) (since : ℕ) (r : Record) (n : Name) (old new : Page)
    (new_slots : List (Option Head)) → new.body ≡ body.Heap new_slots
    → LeavesHead uses since r n old new → OnOld r n old new new_slots ⊎ OnNew uses since r n new new_slots
leaves_back uses since r n old new new_slots is w =
    let same : w.new_slots ≡ new_slots = same_heap w.new_slots new_slots new.body
    (leaves_heap uses since r n old new w) is in
    let places : PlacesHead w.slots n.slot new_slots n.serial r.xid = subst
    (λ (s : List (Option Head)). PlacesHead w.slots n.slot s n.serial r.xid) same w.places in
    let right : new.right ≡ w.right = ap (λ (p : Page). p.right) w.after in
    elim w.page [
      | inl o ↦ inl (record { slots = w.slots; was = o.0; right = right ∙ o.1; places = places })
      | inr o ↦ inr (record {
        right = right ∙ o.1;
        unused = o.2;
        places = subst (λ (s : List (Option Head)). PlacesHead s n.slot new_slots n.serial r.xid) o.0 places;
      })
    ]

-- a list of one
pub one_told : (xs : List Page) (x : Page) → length xs ≡ 1 → x ≡ get_or xs 0 x → xs ≡ x ∷ []
one_told [] x n e = absurd (omega (arith, n))
one_told (y ∷ []) x n e = ap (λ (z : Page). z ∷ []) (sym e)
one_told (y ∷ z ∷ zs) x n e = absurd (omega (arith, n))

pub one_back : (xs : List Page) (x y : Page) → xs ≡ y ∷ [] → x ≡ get_or xs 0 x → y ≡ x
one_back xs x y e is = sym (is ∙ ap (λ (zs : List Page). get_or zs 0 x) e)

pub leaves_same : (uses : ℕ → PageUse) (since : ℕ) (r : Record) (n m : Name) (old was new now : Page) → n ≡ m
    → old ≡ was → new ≡ now → LeavesHead uses since r n old new
    → LeavesHead uses since r m was now
leaves_same uses since r n m old was new now e f g w =
    subst (λ (x : Page). LeavesHead uses since r m was x) g
    (subst (λ (x : Page). LeavesHead uses since r m x new) f
    (subst (λ (x : Name). LeavesHead uses since r x old new) e w))

-- a slot without a head is free
pub none_of : (o : Option HeadRef) (s : Option Head) → is_some o ≡ false → option_map head_shown o ≡ s → s ≡ None
none_of None s e f = sym f
none_of (Some h) s e f = absurd (cc)

-- what is asked beside the kind
pub record PlaceParts (since : ℕ) (k : Known) (r : Record) (d : Doc) (before after : List Page) : Type 0 where
  pub old : Page
  pub new : Page
  pub pages : changed r ≡ page_of d.item ∷ []
  pub runs : k.fates r.xid ≡ Running
  pub next : d.serial ≡ k.next_serial
  pub before_is : before ≡ old ∷ []
  pub after_is : after ≡ new ∷ []
  pub leaves : LeavesHead k.uses since r (name_of d) old new

pub here_told : (since : ℕ) (k : Known) (r : Record) (d : Doc) (before after : List Page)
    → r.kind ≡ kind.PlaceHead d.item d.serial → PlaceParts since k r d before after
    → IsPlaceHeadHere since k r before after
here_told since k r d before after e p = record {
  doc = d;
  head = p.leaves.places.head;
  old = p.old;
  slots = p.leaves.slots;
  new_slots = p.leaves.new_slots;
  right = p.leaves.right;
  kind_is = e;
  pages = p.pages;
  runs = p.runs;
  next = p.next;
  before_is = p.before_is;
  page = p.leaves.page;
  was_free = p.leaves.places.was_free;
  in_row = p.leaves.places.in_row;
  new_head = p.leaves.places.new_head;
  put = p.leaves.places.put;
  after_is = p.after_is ∙ ap (λ (x : Page). x ∷ []) p.leaves.after;
}

abbrev doc_with : ℕ → ℕ → Doc
doc_with item serial = record { item = item; serial = serial }

same_doc : (d e : Doc) (k : Kind) → k ≡ kind.PlaceHead d.item d.serial → k ≡ kind.PlaceHead e.item e.serial → d ≡ e
same_doc d e k f g =
    let item : d.item ≡ e.item = cc in
    let serial : d.serial ≡ e.serial = cc in
    ap (λ (i : ℕ). doc_with i d.serial) item ∙ ap (doc_with e.item) serial

parts_of : (since : ℕ) (k : Known) (r : Record) (before after : List Page)
    → (w : IsPlaceHeadHere since k r before after) → PlaceParts since k r w.doc before after
parts_of since k r before after w = record {
  old = w.old;
  new = made_with r w.right (body.Heap w.new_slots);
  pages = w.pages;
  runs = w.runs;
  next = w.next;
  before_is = w.before_is;
  after_is = w.after_is;
  leaves = record {
    slots = w.slots;
    new_slots = w.new_slots;
    right = w.right;
    page = w.page;
    places = record { head = w.head; was_free = w.was_free; in_row = w.in_row; new_head = w.new_head; put = w.put };
    after = refl;
  };
}

pub here_back : (since : ℕ) (k : Known) (r : Record) (d : Doc) (before after : List Page)
    → r.kind ≡ kind.PlaceHead d.item d.serial → IsPlaceHeadHere since k r before after
    → PlaceParts since k r d before after
here_back since k r d before after e w =
    subst (λ (x : Doc). PlaceParts since k r x before after) (same_doc w.doc d r.kind w.kind_is e)
    (parts_of since k r before after w)
