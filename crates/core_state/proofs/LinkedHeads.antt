-- When rows may be put behind a head, added to the pending list or linked, in parts.
use Rattle.std.proofs.Common.{◌≡◌, ◌≢◌, ℕ, List, [], ◌∷◌, ◌++◌, length, get_or, refl, sym, ap, ap₂, subst, ◌∙◌}
use Rattle.std.proofs.Common.{subst₂, arith}
use Rattle.page_types.specs.declared.page.Page.{Page}
use Rattle.page_types.specs.declared.page.Head.{Head}
use Rattle.page_types.specs.declared.page.Name.{Name}
use Rattle.page_types.specs.declared.page.Body.TheVariants as body
use Rattle.page_types.specs.declared.record.Change.{Change}
use Rattle.page_types.specs.declared.record.Record.{Record}
use Rattle.page_types.specs.declared.record.Kind.{Kind}
use Rattle.page_types.specs.declared.record.Kind.TheVariants as kind
use Rattle.core_state.specs.Log.{pages_of}
use Rattle.core_state.specs.Documents.{Doc, doc_at, name_of}
use Rattle.core_state.specs.Known.{Known}
use Rattle.core_state.specs.Changes.{made_with}
use Rattle.core_state.specs.PendingRules.{IsPutPendingHere, IsAddRowHere, IsLinkPendingHere}
use Rattle.core_state.specs.Inner.HeadChanges.{HasHead, FindsHead, LeavesInSlot}
use Rattle.core_state.specs.Inner.PendingRows.{IsPlacedBy, LeavesRows, AddsRow, LinksList}
use Rattle.core_state.specs.declared.answers.Fate.TheVariants.{Running}
use Rattle.core_state.proofs.HeadChanges.{one_head, head_change, head_changed, head_left, same_found}

-- a page of rows that is put: what is asked beside the kind
pub record RowParts (since : ℕ) (k : Known) (r : Record) (n : Name) (item : ℕ) (before after : List Page) : Type 0 where
  pub head : Head
  pub page : ℕ
  pub heap_then : Page
  pub new : Page
  pub found : FindsHead k.uses since r n before page head
  pub placed : IsPlacedBy k.fates r.xid head.inserted_by
  pub after_is : after ≡ heap_then ∷ new ∷ []
  pub leaves : LeavesInSlot r n.slot found.old (record head { private = page }) heap_then
  pub rows : LeavesRows r item head.private new

rows_of_parts : (since : ℕ) (k : Known) (r : Record) (d : Doc) (before after : List Page)
    → r.kind ≡ kind.PutPending d.item d.serial → RowParts since k r (name_of d) d.item before after
    → IsPutPendingHere since k r before after
rows_of_parts since k r d before after e p = record {
  doc = d;
  head = p.head;
  new = p.page;
  rows = p.rows.rows;
  old = p.found.old;
  was = p.found.was;
  heap_then = p.heap_then;
  kind_is = e;
  pages = p.found.pages;
  own = record { by = p.placed.by; runs = p.placed.runs };
  is_new = p.found.is_new;
  some_row = p.rows.are.some_row;
  items = p.rows.are.items;
  rising = p.rows.are.rising;
  before_is = p.found.before_is;
  head_after = head_change r d p.found.old p.heap_then p.head (record p.head { private = p.page }) p.found.has
      p.leaves;
  after_is = p.after_is ∙ ap (λ (x : Page). p.heap_then ∷ x ∷ []) p.rows.after;
}

pub rows_told : (since : ℕ) (k : Known) (r : Record) (d : Doc) (n : Name) (before after : List Page) → n ≡ name_of d
    → r.kind ≡ kind.PutPending d.item d.serial → RowParts since k r n d.item before after
    → IsPutPendingHere since k r before after
rows_told since k r d n before after same e p =
    rows_of_parts since k r d before after e (subst (λ (x : Name). RowParts since k r x d.item before after) same p)

-- a kind names one document
pub same_put : (d e : Doc) (k : Kind) → k ≡ kind.PutPending d.item d.serial → k ≡ kind.PutPending e.item e.serial
    → d ≡ e
same_put d e k f g =
    let item : d.item ≡ e.item = cc in
    let serial : d.serial ≡ e.serial = cc in
    ap₂ doc_at item serial

row_parts : (since : ℕ) (k : Known) (r : Record) (before after : List Page)
    → (w : IsPutPendingHere since k r before after) → RowParts since k r (name_of w.doc) w.doc.item before after
row_parts since k r before after w = record {
  head = w.head;
  page = w.new;
  heap_then = w.heap_then;
  new = made_with r w.head.private (body.Pending w.rows);
  found = record {
    old = w.old;
    was = w.was;
    pages = w.pages;
    is_new = w.is_new;
    before_is = w.before_is;
    has = head_changed r w.doc w.old w.heap_then w.head (record w.head { private = w.new }) w.head_after;
  };
  placed = record { by = w.own.by; runs = w.own.runs };
  after_is = w.after_is;
  leaves = head_left r w.doc w.old w.heap_then w.head (record w.head { private = w.new }) w.head_after;
  rows = record {
    rows = w.rows;
    are = record { some_row = w.some_row; items = w.items; rising = w.rising };
    after = refl;
  };
}

pub rows_back : (since : ℕ) (k : Known) (r : Record) (d : Doc) (n : Name) (before after : List Page) → n ≡ name_of d
    → r.kind ≡ kind.PutPending d.item d.serial → IsPutPendingHere since k r before after
    → RowParts since k r n d.item before after
rows_back since k r d n before after same e w =
    let one : w.doc ≡ d = same_put w.doc d r.kind w.kind_is e in
    subst (λ (x : Name). RowParts since k r x d.item before after) (sym same)
    (subst (λ (x : Doc). RowParts since k r (name_of x) x.item before after) one (row_parts since k r before after w))

-- what holds of the page that is put, and of the head that is found
pub record RowsLeft (k : Known) (r : Record) (n : Name) (item page : ℕ) (old left new : Page) (h : Head) : Type 0 where
  pub placed : IsPlacedBy k.fates r.xid h.inserted_by
  pub rows : LeavesRows r item h.private new
  pub leaves : LeavesInSlot r n.slot old (record h { private = page }) left

pub rows_left : (since : ℕ) (k : Known) (r : Record) (n : Name) (item : ℕ) (before after : List Page) (page : ℕ)
    (left new : Page) (h : Head) → (p : RowParts since k r n item before after)
    → (f : FindsHead k.uses since r n before page h) → p.heap_then ≡ left → p.new ≡ new
    → RowsLeft k r n item page f.old left new h
rows_left since k r n item before after page left new h p f c d =
    let s = same_found k.uses since r n before p.page page p.head h p.found f in
    let same : RowsLeft k r n item p.page p.found.old p.heap_then p.new p.head = record {
      placed = p.placed;
      rows = p.rows;
      leaves = p.leaves;
    } in
    subst (λ (x : Head). RowsLeft k r n item page f.old left new x) s.head
    (subst (λ (x : Page). RowsLeft k r n item page f.old left x p.head) d
    (subst (λ (x : Page). RowsLeft k r n item page f.old x p.new p.head) c
    (subst (λ (x : Page). RowsLeft k r n item page x p.heap_then p.new p.head) s.old
    (subst (λ (x : ℕ). RowsLeft k r n item x p.found.old p.heap_then p.new p.head) s.page same))))

-- the first of a list
pub first_in : (xs : List Page) (x a : Page) (more : List Page) → xs ≡ a ∷ more → x ≡ get_or xs 0 x → a ≡ x
first_in xs x a more e is = sym (is ∙ ap (λ (zs : List Page). get_or zs 0 x) e)

-- a private chain that is linked: what is asked of the head that is found
pub record LinkLeft (k : Known) (r : Record) (n : Name) (before after : List Page) (old new : Page)
    (h : Head) : Type 0 where
  pub some_page : h.private ≢ 0
  pub placed : IsPlacedBy k.fates r.xid h.inserted_by
  pub list : LinksList r n.page h.private before after
  pub has : HasHead old n h
  pub leaves : LeavesInSlot r n.slot old (record h { private = 0 }) new

link_of : (k : Known) (r : Record) (d : Doc) (before after : List Page) (old new : Page) (h : Head)
    → r.kind ≡ kind.LinkPending d.item d.serial → old ≡ get_or before 0 old → new ≡ get_or after 0 new
    → LinkLeft k r (name_of d) before after old new h → IsLinkPendingHere k r before after
link_of k r d before after old new h e old_is new_is p =
    let was : p.list.old ≡ old = first_in before old p.list.old p.list.others_before p.list.before_is old_is in
    let now : p.list.heap_then ≡ new =
    first_in after new p.list.heap_then p.list.others_after p.list.after_is new_is in
    record {
      doc = d;
      head = h;
      end = p.list.end;
      added = p.list.added;
      old = old;
      heap_then = new;
      others = p.list.others;
      others_before = p.list.others_before;
      others_after = p.list.others_after;
      kind_is = e;
      pages = p.list.pages;
      own = record { by = p.placed.by; runs = p.placed.runs };
      some_page = p.some_page;
      some_added = p.list.some_added;
      linked = p.list.linked;
      before_is = p.list.before_is ∙ ap (λ (x : Page). x ∷ p.list.others_before) was;
      head_after = head_change r d old new h (record h { private = 0 }) p.has p.leaves;
      after_is = p.list.after_is ∙ ap (λ (x : Page). x ∷ p.list.others_after) now;
    }

pub link_told : (k : Known) (r : Record) (d : Doc) (n : Name) (before after : List Page) (old new : Page) (h : Head)
    → n ≡ name_of d → r.kind ≡ kind.LinkPending d.item d.serial → old ≡ get_or before 0 old
    → new ≡ get_or after 0 new → LinkLeft k r n before after old new h → IsLinkPendingHere k r before after
link_told k r d n before after old new h same e old_is new_is p =
    link_of k r d before after old new h e old_is new_is
    (subst (λ (x : Name). LinkLeft k r x before after old new h) same p)

pub same_link : (d e : Doc) (k : Kind) → k ≡ kind.LinkPending d.item d.serial → k ≡ kind.LinkPending e.item e.serial
    → d ≡ e
same_link d e k f g =
    let item : d.item ≡ e.item = cc in
    let serial : d.serial ≡ e.serial = cc in
    ap₂ doc_at item serial

link_parts : (k : Known) (r : Record) (before after : List Page) → (w : IsLinkPendingHere k r before after)
    → LinkLeft k r (name_of w.doc) before after w.old w.heap_then w.head
link_parts k r before after w = record {
  some_page = w.some_page;
  placed = record { by = w.own.by; runs = w.own.runs };
  list = record {
    end = w.end;
    added = w.added;
    old = w.old;
    heap_then = w.heap_then;
    others = w.others;
    others_before = w.others_before;
    others_after = w.others_after;
    pages = w.pages;
    some_added = w.some_added;
    linked = w.linked;
    before_is = w.before_is;
    after_is = w.after_is;
  };
  has = head_changed r w.doc w.old w.heap_then w.head (record w.head { private = 0 }) w.head_after;
  leaves = head_left r w.doc w.old w.heap_then w.head (record w.head { private = 0 }) w.head_after;
}

-- the head that is found
pub link_has : (k : Known) (r : Record) (d : Doc) (n : Name) (before after : List Page) (old : Page) → n ≡ name_of d
    → r.kind ≡ kind.LinkPending d.item d.serial → old ≡ get_or before 0 old → IsLinkPendingHere k r before after
    → (h : Head) × HasHead old n h
link_has k r d n before after old same e old_is w =
    let one : w.doc ≡ d = same_link w.doc d r.kind w.kind_is e in
    let name : name_of w.doc ≡ n = ap name_of one ∙ sym same in
    let was : w.old ≡ old = first_in before old w.old w.others_before w.before_is old_is in
    (w.head, subst₂ (λ (x : Page) (m : Name). HasHead x m w.head) was name (link_parts k r before after w).has)

-- of the first pages
pub link_back : (k : Known) (r : Record) (d : Doc) (n : Name) (before after : List Page) (old new : Page)
    → n ≡ name_of d → r.kind ≡ kind.LinkPending d.item d.serial → old ≡ get_or before 0 old
    → new ≡ get_or after 0 new → IsLinkPendingHere k r before after
    → (h : Head) × LinkLeft k r n before after old new h
link_back k r d n before after old new same e old_is new_is w =
    let one : w.doc ≡ d = same_link w.doc d r.kind w.kind_is e in
    let name : name_of w.doc ≡ n = ap name_of one ∙ sym same in
    let was : w.old ≡ old = first_in before old w.old w.others_before w.before_is old_is in
    let now : w.heap_then ≡ new = first_in after new w.heap_then w.others_after w.after_is new_is in (
      w.head,
      subst (λ (x : Page). LinkLeft k r n before after old x w.head) now
          (subst (λ (x : Page). LinkLeft k r n before after x w.heap_then w.head) was
          (subst (λ (x : Name). LinkLeft k r x before after w.old w.heap_then w.head) name
          (link_parts k r before after w))),
    )

-- of the head that is found
pub link_left : (k : Known) (r : Record) (n : Name) (before after : List Page) (old new : Page) (g h : Head)
    → LinkLeft k r n before after old new g → HasHead old n h → LinkLeft k r n before after old new h
link_left k r n before after old new g h p has =
    subst (LinkLeft k r n before after old new) (one_head old n g h p.has has) p

-- a row that is added
pub one_changed : (cs : List Change) → length cs ≡ 1 → (p : ℕ) × (pages_of cs ≡ p ∷ [])
one_changed [] n = absurd (omega (arith, n))
one_changed (c ∷ []) n = (c.page, refl)
one_changed (c ∷ d ∷ cs) n = absurd (omega (arith, n))

pub add_told : (k : Known) (r : Record) (d : Doc) (before after : List Page) (old new : Page)
    → r.kind ≡ kind.AddRow d.item d.serial → length r.changes ≡ 1 → k.fates r.xid ≡ Running → before ≡ old ∷ []
    → after ≡ new ∷ [] → AddsRow r d.item old new → IsAddRowHere k r before after
add_told k r d before after old new e n runs before_is after_is a =
    let last = one_changed r.changes n in
    record {
      doc = d;
      last = last.0;
      rows = a.rows;
      row = a.row;
      old = old;
      kind_is = e;
      pages = last.1;
      runs = runs;
      item = a.item_is;
      before_is = before_is;
      was = a.was;
      after_is = after_is ∙ ap (λ (x : Page). x ∷ []) a.after;
    }

pub same_added : (d e : Doc) (k : Kind) → k ≡ kind.AddRow d.item d.serial → k ≡ kind.AddRow e.item e.serial → d ≡ e
same_added d e k f g =
    let item : d.item ≡ e.item = cc in
    let serial : d.serial ≡ e.serial = cc in
    ap₂ doc_at item serial

pub add_back : (k : Known) (r : Record) (d : Doc) (before after : List Page) (old new : Page)
    → r.kind ≡ kind.AddRow d.item d.serial → old ≡ get_or before 0 old → new ≡ get_or after 0 new
    → IsAddRowHere k r before after → AddsRow r d.item old new
add_back k r d before after old new e old_is new_is w =
    let one : w.doc ≡ d = same_added w.doc d r.kind w.kind_is e in
    let was : w.old ≡ old = first_in before old w.old [] w.before_is old_is in
    let then : Page = made_with r w.old.right (body.Pending (w.rows ++ w.row ∷ [])) in
    let now : then ≡ new = first_in after new then [] w.after_is new_is in
    let same : AddsRow r w.doc.item w.old then = record {
      rows = w.rows;
      row = w.row;
      item_is = w.item;
      was = w.was;
      after = refl;
    } in
    subst (λ (x : Page). AddsRow r d.item old x) now
    (subst (λ (x : Page). AddsRow r d.item x then) was (subst (λ (x : Doc). AddsRow r x.item w.old then) one same))
