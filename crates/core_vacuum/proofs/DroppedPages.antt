-- What the tests of a record DropPage say.
use Rattle.std.proofs.Common.{◌≡◌, ◌≢◌, ℕ, List, [], ◌∷◌, get_or, refl, sym, ap, subst, ◌∙◌}
use Rattle.std.specs.Prelude.{Option, Some, None, IfNone}
use Rattle.page_types.specs.Views.{slot_at}
use Rattle.page_types.specs.declared.page.Page.{Page}
use Rattle.page_types.specs.declared.page.Head.{Head}
use Rattle.page_types.specs.declared.page.Name.{Name}
use Rattle.page_types.specs.declared.page.Row.{Row}
use Rattle.page_types.specs.declared.page.Body.{Body}
use Rattle.page_types.specs.declared.page.Body.TheVariants as body
use Rattle.page_types.specs.declared.page.Gone.{Gone}
use Rattle.page_types.specs.declared.page.Gone.TheVariants as gone
use Rattle.page_types.specs.declared.record.Record.{Record}
use Rattle.page_types.specs.declared.record.Kind.{Kind}
use Rattle.page_types.specs.declared.record.Kind.TheVariants as kind
use Rattle.core_state.specs.Log.{changed}
use Rattle.core_state.specs.Documents.{Doc, slot_of, name_of}
use Rattle.core_state.specs.Known.{Known}
use Rattle.core_state.specs.Changes.{made_with, IsDeadHead}
use Rattle.core_state.specs.VacuumRules.{IsDropped, IsDropPageHere}
use Rattle.core_state.specs.Inner.HeadChanges.{HasHead, LeavesInSlot}
use Rattle.core_vacuum.specs.Inner.Dropping.{FirstGone}

-- ---- a head on its page

same_slots : (a b : List (Option Head)) → body.Heap a ≡ body.Heap b → a ≡ b
same_slots a b e = cc

same_head : (g h : Head) → Some g ≡ Some h → g ≡ h
same_head g h e = cc

pub one_head : (p : Page) (n : Name) (g h : Head) → HasHead p n g → HasHead p n h → g ≡ h
one_head p n g h a b =
    let same : a.slots ≡ b.slots = same_slots a.slots b.slots (sym a.content ∙ b.content) in
    same_head g h (sym a.at ∙ ap (λ (s : List (Option Head)). slot_at s n.slot) same ∙ b.at)

pub none_holds : {A P : Type 0} (o : Option A) → ((x : A) → o ≡ Some x → ⊥) → IfNone o P → P
none_holds None not p = p
none_holds (Some x) not p = absurd (not x refl)

-- ---- how a chain goes on

-- the head of either chain
pub data GoesOn (head : Head) (page right : ℕ) (b : Body) (c : Gone) (then : Head) : Type 0 where
  overflow : (bytes : List ℕ) → head.overflow ≡ page → b ≡ body.Overflow bytes → c ≡ gone.Overflow bytes
      → then ≡ record head { overflow = right } → GoesOn head page right b c then
  private : (rows : List Row) → head.private ≡ page → b ≡ body.Pending rows → c ≡ gone.Pending rows
      → then ≡ record head { private = right } → GoesOn head page right b c then

pub goes_on : (head : Head) (page right : ℕ) (b : Body) (c : Gone) (then : Head) → IsDropped head page right b c then
    → GoesOn head page right b c then
goes_on head page right _ _ _ (IsDropped.overflow bytes e) = GoesOn.overflow bytes e refl refl refl
goes_on head page right _ _ _ (IsDropped.private rows e) = GoesOn.private rows e refl refl refl

pub goes_so : (head : Head) (page right : ℕ) (b : Body) (c : Gone) (then : Head) → GoesOn head page right b c then
    → IsDropped head page right b c then
goes_so head page right b c then (GoesOn.overflow bytes e p q t) =
    subst (λ (x : Body). IsDropped head page right x c then) (sym p)
    (subst (λ (x : Gone). IsDropped head page right (body.Overflow bytes) x then) (sym q)
    (subst (IsDropped head page right (body.Overflow bytes) (gone.Overflow bytes)) (sym t)
    (IsDropped.overflow bytes e)))
goes_so head page right b c then (GoesOn.private rows e p q t) =
    subst (λ (x : Body). IsDropped head page right x c then) (sym p)
    (subst (λ (x : Gone). IsDropped head page right (body.Pending rows) x then) (sym q)
    (subst (IsDropped head page right (body.Pending rows) (gone.Pending rows)) (sym t)
    (IsDropped.private rows e)))

abbrev page_with : ℕ → ℕ → Body → Page
page_with right stamp content = record { right = right; stamp = stamp; body = content }

pub first_gone : (r : Record) (page : ℕ) (was new : Page) (head then : Head) (content : Gone) → new.right ≡ was.right
    → new.stamp ≡ r.number → new.body ≡ body.Deleted content → GoesOn head page was.right was.body content then
    → FirstGone r page was new head then
first_gone r page was new head then content right stamp is on = record {
  content = content;
  dropped = goes_so head page was.right was.body content then on;
  after = ap (λ (x : ℕ). page_with x new.stamp new.body) right
      ∙ ap (λ (x : ℕ). page_with was.right x new.body) stamp ∙ ap (page_with was.right r.number) is;
}

not_both : (bytes : List ℕ) (rows : List Row) (b : Body) → b ≡ body.Overflow bytes → b ≡ body.Pending rows → ⊥
not_both bytes rows b e f =
    let z : body.Overflow bytes ≡ body.Pending rows = sym e ∙ f in cc

one_then : (head : Head) (page right : ℕ) (b : Body) (c d : Gone) (t u : Head) → GoesOn head page right b c t
    → GoesOn head page right b d u → t ≡ u
one_then head page right b c d t u (GoesOn.overflow x e p q r) (GoesOn.overflow y f p' q' r') = r ∙ sym r'
one_then head page right b c d t u (GoesOn.overflow x e p q r) (GoesOn.private y f p' q' r') =
    absurd (not_both x y b p p')
one_then head page right b c d t u (GoesOn.private x e p q r) (GoesOn.overflow y f p' q' r') =
    absurd (not_both y x b p' p)
one_then head page right b c d t u (GoesOn.private x e p q r) (GoesOn.private y f p' q' r') = r ∙ sym r'

same_gone : (g h : Gone) → body.Deleted g ≡ body.Deleted h → g ≡ h
same_gone g h e = cc

same_part : (a b : List ℕ) → body.Overflow a ≡ body.Overflow b → a ≡ b
same_part a b e = cc

gone_part : (a b : List ℕ) → gone.Overflow a ≡ gone.Overflow b → a ≡ b
gone_part a b e = cc

same_rows : (a b : List Row) → body.Pending a ≡ body.Pending b → a ≡ b
same_rows a b e = cc

gone_rows : (a b : List Row) → gone.Pending a ≡ gone.Pending b → a ≡ b
gone_rows a b e = cc

-- the chain that the page is of, and what it keeps
module _ (r : Record) (page : ℕ) (was new : Page) (head then : Head) (g : Gone) (is : new.body ≡ body.Deleted g)
    (w : FirstGone r page was new head then) where
  content_is : w.content ≡ g
  content_is = same_gone w.content g (sym (ap (λ (x : Page). x.body) w.after) ∙ is)

  pub part_back : (part kept : List ℕ) → was.body ≡ body.Overflow part → g ≡ gone.Overflow kept
      → (head.overflow ≡ page) × (part ≡ kept)
  part_back part kept b c = go (goes_on head page was.right was.body w.content then w.dropped)
    where
      go : GoesOn head page was.right was.body w.content then → (head.overflow ≡ page) × (part ≡ kept)
      go (GoesOn.overflow x e p q t) =
          (e, same_part part x (sym b ∙ p) ∙ gone_part x kept (sym q ∙ content_is ∙ c))
      go (GoesOn.private x e p q t) = absurd (not_both part x was.body b p)

  pub rows_back : (rows kept : List Row) → was.body ≡ body.Pending rows → g ≡ gone.Pending kept
      → (head.private ≡ page) × (kept ≡ rows)
  rows_back rows kept b c = go (goes_on head page was.right was.body w.content then w.dropped)
    where
      go : GoesOn head page was.right was.body w.content then → (head.private ≡ page) × (kept ≡ rows)
      go (GoesOn.overflow x e p q t) = absurd (not_both x rows was.body p b)
      go (GoesOn.private x e p q t) =
          (e, gone_rows kept x (sym c ∙ sym content_is ∙ q) ∙ same_rows x rows (sym p ∙ b))

pub same_then : (r : Record) (page : ℕ) (was new : Page) (head t u : Head) → FirstGone r page was new head t
    → FirstGone r page was new head u → t ≡ u
same_then r page was new head t u a b =
    one_then head page was.right was.body a.content b.content t u
    (goes_on head page was.right was.body a.content t a.dropped)
    (goes_on head page was.right was.body b.content u b.dropped)

-- ---- the record in parts

pub record DropParts (floor : ℕ) (k : Known) (r : Record) (n : Name) (before after : List Page) : Type 0 where
  pub head : Head
  pub then : Head
  pub page : ℕ
  pub old : Page
  pub was : Page
  pub heap : Page
  pub left : Page
  pub pages : changed r ≡ n.page ∷ page ∷ []
  pub before_is : before ≡ old ∷ was ∷ []
  pub after_is : after ≡ heap ∷ left ∷ []
  pub not_none : page ≢ 0
  pub has : HasHead old n head
  pub dead : IsDeadHead k.fates floor head
  pub first : FirstGone r page was left head then
  pub leaves : LeavesInSlot r n.slot old then heap

drop_of : (floor : ℕ) (k : Known) (r : Record) (d : Doc) (before after : List Page)
    → r.kind ≡ kind.DropPage d.item d.serial → DropParts floor k r (name_of d) before after
    → IsDropPageHere floor k r before after
drop_of floor k r d before after e p =
    let same : p.has.slots ≡ p.leaves.slots =
    same_slots p.has.slots p.leaves.slots (sym p.has.content ∙ p.leaves.before) in
    record {
      doc = d;
      head = p.head;
      head_then = p.then;
      page = p.page;
      content = p.first.content;
      old = p.old;
      heap_then = p.heap;
      was = p.was;
      kind_is = e;
      pages = p.pages;
      before_is = p.before_is;
      dead = p.dead;
      not_none = p.not_none;
      dropped = p.first.dropped;
      head_after = record {
        slots = p.leaves.slots;
        new_slots = p.leaves.new_slots;
        before = p.leaves.before;
        head = sym (ap (λ (s : List (Option Head)). slot_at s (slot_of d.item)) same) ∙ p.has.at;
        serial = p.has.serial_is;
        put = p.leaves.put;
        after = p.leaves.after;
      };
      after_is = p.after_is ∙ ap (λ (x : Page). p.heap ∷ x ∷ []) p.first.after;
    }

pub drop_told : (floor : ℕ) (k : Known) (r : Record) (d : Doc) (n : Name) (before after : List Page)
    → n ≡ name_of d → r.kind ≡ kind.DropPage d.item d.serial → DropParts floor k r n before after
    → IsDropPageHere floor k r before after
drop_told floor k r d n before after same e p =
    drop_of floor k r d before after e (subst (λ (x : Name). DropParts floor k r x before after) same p)

abbrev doc_with : ℕ → ℕ → Doc
doc_with item serial = record { item = item; serial = serial }

same_doc : (d e : Doc) (k : Kind) → k ≡ kind.DropPage d.item d.serial → k ≡ kind.DropPage e.item e.serial → d ≡ e
same_doc d e k f g =
    let item : d.item ≡ e.item = cc in
    let serial : d.serial ≡ e.serial = cc in
    ap (λ (i : ℕ). doc_with i d.serial) item ∙ ap (doc_with e.item) serial

drop_parts : (floor : ℕ) (k : Known) (r : Record) (before after : List Page)
    → (w : IsDropPageHere floor k r before after) → DropParts floor k r (name_of w.doc) before after
drop_parts floor k r before after w = record {
  head = w.head;
  then = w.head_then;
  page = w.page;
  old = w.old;
  was = w.was;
  heap = w.heap_then;
  left = made_with r w.was.right (body.Deleted w.content);
  pages = w.pages;
  before_is = w.before_is;
  after_is = w.after_is;
  not_none = w.not_none;
  has = record {
    slots = w.head_after.slots;
    content = w.head_after.before;
    at = w.head_after.head;
    serial_is = w.head_after.serial;
  };
  dead = w.dead;
  first = record { content = w.content; dropped = w.dropped; after = refl };
  leaves = record {
    slots = w.head_after.slots;
    new_slots = w.head_after.new_slots;
    before = w.head_after.before;
    put = w.head_after.put;
    after = w.head_after.after;
  };
}

pub drop_back : (floor : ℕ) (k : Known) (r : Record) (d : Doc) (n : Name) (before after : List Page)
    → n ≡ name_of d → r.kind ≡ kind.DropPage d.item d.serial → IsDropPageHere floor k r before after
    → DropParts floor k r n before after
drop_back floor k r d n before after same e w =
    let one : w.doc ≡ d = same_doc w.doc d r.kind w.kind_is e in
    subst (λ (x : Name). DropParts floor k r x before after) (ap name_of one ∙ sym same)
    (drop_parts floor k r before after w)

-- ---- and of the pages that are at hand

pub first_is : (xs : List Page) (x a b : Page) → xs ≡ a ∷ b ∷ [] → x ≡ get_or xs 0 x → a ≡ x
first_is xs x a b e is = sym (is ∙ ap (λ (zs : List Page). get_or zs 0 x) e)

pub second_is : (xs : List Page) (x a b : Page) → xs ≡ a ∷ b ∷ [] → x ≡ get_or xs 1 x → b ≡ x
second_is xs x a b e is = sym (is ∙ ap (λ (zs : List Page). get_or zs 1 x) e)

pub same_page : (r : Record) (first p q : ℕ) → changed r ≡ first ∷ p ∷ [] → changed r ≡ first ∷ q ∷ [] → p ≡ q
same_page r first p q e f = let both : first ∷ p ∷ [] ≡ first ∷ q ∷ [] = sym e ∙ f in cc

-- of this page, and this head on this heap page
pub record DropsAt (floor : ℕ) (k : Known) (r : Record) (n : Name) (page : ℕ) (old was heap left : Page)
    (head : Head) : Type 0 where
  pub then : Head
  pub dead : IsDeadHead k.fates floor head
  pub first : FirstGone r page was left head then
  pub leaves : LeavesInSlot r n.slot old then heap

module _ (floor : ℕ) (k : Known) (r : Record) (n : Name) (before after : List Page)
    (p : DropParts floor k r n before after) where
  -- the head is that of the page that is at hand
  pub head_back : (old : Page) → old ≡ get_or before 0 old → HasHead old n p.head
  head_back old is = subst (λ (x : Page). HasHead x n p.head) (first_is before old p.old p.was p.before_is is) p.has

  pub dead_back : (old : Page) (head : Head) → old ≡ get_or before 0 old → HasHead old n head
      → IsDeadHead k.fates floor head
  dead_back old head is has =
      subst (IsDeadHead k.fates floor) (one_head old n p.head head (head_back old is) has) p.dead

  pub drops_at : (page : ℕ) (old was heap left : Page) (head : Head) → changed r ≡ n.page ∷ page ∷ []
      → old ≡ get_or before 0 old → was ≡ get_or before 1 was → heap ≡ get_or after 0 heap
      → left ≡ get_or after 1 left → HasHead old n head → DropsAt floor k r n page old was heap left head
  drops_at page old was heap left head pages a b c d has =
      let same : p.head ≡ head = one_head old n p.head head (head_back old a) has in
      record {
        then = p.then;
        dead = dead_back old head a has;
        first = subst (λ (h : Head). FirstGone r page was left h p.then) same
            (subst (λ (x : Page). FirstGone r page was x p.head p.then)
            (second_is after left p.heap p.left p.after_is d)
            (subst (λ (x : Page). FirstGone r page x p.left p.head p.then)
            (second_is before was p.old p.was p.before_is b)
            (subst (λ (m : ℕ). FirstGone r m p.was p.left p.head p.then)
            (same_page r n.page p.page page p.pages pages) p.first)));
        leaves = subst (λ (x : Page). LeavesInSlot r n.slot old p.then x)
            (first_is after heap p.heap p.left p.after_is c)
            (subst (λ (x : Page). LeavesInSlot r n.slot x p.then p.heap)
            (first_is before old p.old p.was p.before_is a) p.leaves);
      }
