-- The rules of the kinds that index a document, at the one of the worked log: its row is put and linked, and
-- moves to the tree of keys; and where its transaction is aborted its slot becomes free.
use Rattle.std.proofs.Common.{◌≡◌, ◌≢◌, ℕ, zero, suc, ◌<◌, List, [], ◌∷◌, length, get_or, refl, sym, ap, subst, ◌∙◌}
use Rattle.std.proofs.Common.{inl, inr, arith}
use Rattle.std.specs.Prelude.{Option, Some, None}
use Rattle.ts_base.specs.Vectors.{Vector}
use Rattle.ts_base.specs.Keys.{Key, keys_of}
use Rattle.page_types.specs.Items.{items_of}
use Rattle.page_types.specs.Keys.{KeyLess, Rising}
use Rattle.page_types.specs.Views.{free_page, first_of, rows_in, rows_of, entries_of, slot_at}
use Rattle.page_types.specs.declared.page.Page.{Page}
use Rattle.page_types.specs.declared.page.Head.{Head}
use Rattle.page_types.specs.declared.page.Row.{Row}
use Rattle.page_types.specs.declared.page.Entry as on_page
use Rattle.page_types.specs.declared.page.Postings.TheVariants.{Inline}
use Rattle.page_types.specs.declared.page.Body.TheVariants as body
use Rattle.page_types.specs.declared.page.Gone.TheVariants as gone
use Rattle.page_types.specs.declared.record.Record.{Record}
use Rattle.page_types.specs.declared.record.Kind.TheVariants as kind
use Rattle.core_state.specs.Log.{Log, Pages, In}
use Rattle.core_state.specs.Documents.{Doc, head_of, HasBytes, IsChain, IsWhole, HasVector, IsDead, item_at}
use Rattle.core_state.specs.Index.{keys_on, InRows, IsLinked, Pending, HasRow, Under, Main}
use Rattle.core_state.specs.Known.{known, use_in}
use Rattle.core_state.specs.Changes.{IsNew, IsHeadChange, IsDeadHead}
use Rattle.core_state.specs.PendingRules.{IsPutPending, IsLinkHere, IsLinkPending, IsLastAfter, IsShift}
use Rattle.core_state.specs.TreeRules.{Toward, ItemsAdded, IsAddItems}
use Rattle.core_state.specs.VacuumRules.{SlotLoses, IsGoneFrom, IsFreeSlots}
use Rattle.core_state.specs.declared.answers.PageUse.TheVariants as usage
use Rattle.core_state.proofs.Histories.{whole_one}
use Rattle.core_state.proofs.Worked as first

-- the keys and the row of the document
abbrev pub cat_key : Key
cat_key = 0 ∷ 99 ∷ 97 ∷ 116 ∷ []

abbrev pub fat_key : Key
fat_key = 0 ∷ 102 ∷ 97 ∷ 116 ∷ []

abbrev row_with : List Key → Row
row_with keys = record { item = 4096; keys = keys }

abbrev pub row : Row
row = row_with (cat_key ∷ fat_key ∷ [])

-- the head with this first private page
abbrev pub head : ℕ → Head
head private = record (first.head 1) { private = private }

abbrev pub heap_page : ℕ → ℕ → Page
heap_page stamp private = record { right = 0; stamp = stamp; body = body.Heap (Some (head private) ∷ []) }

abbrev pub row_page : Row → Page
row_page w = record { right = 0; stamp = 4; body = body.Pending (w ∷ []) }

abbrev pub meta_page : ℕ → ℕ → ℕ → ℕ → Page
meta_page stamp to end count = record { right = 0; stamp = stamp; body = body.Meta to end count }

abbrev pub leaf_page : ℕ → List on_page.Entry → Page
leaf_page stamp entries = record { right = 0; stamp = stamp; body = body.EntryLeaf [] entries }

abbrev pub entry : Key → on_page.Entry
entry key = record { key = key; postings = Inline (128 ∷ 32 ∷ []) }

-- the pages with a row on page 3: put, linked, with the first key in the tree, with both, and shifted
abbrev pub with_row : Row → Pages
with_row w zero = first.meta_page
with_row w (suc zero) = first.root_page
with_row w (suc (suc zero)) = heap_page 4 3
with_row w (suc (suc (suc zero))) = row_page w
with_row w (suc (suc (suc (suc p)))) = free_page

abbrev linked : Page → Pages
linked leaf zero = meta_page 5 3 3 1
linked leaf (suc zero) = leaf
linked leaf (suc (suc zero)) = heap_page 5 0
linked leaf (suc (suc (suc zero))) = row_page row
linked leaf (suc (suc (suc (suc p)))) = free_page

abbrev pub with_link : Pages
with_link = linked first.root_page

abbrev pub with_cat : Pages
with_cat = linked (leaf_page 6 (entry cat_key ∷ []))

abbrev pub with_both : Pages
with_both = linked (leaf_page 7 (entry cat_key ∷ entry fat_key ∷ []))

abbrev pub shifted : Pages
shifted zero = meta_page 8 0 0 0
shifted (suc zero) = leaf_page 7 (entry cat_key ∷ entry fat_key ∷ [])
shifted (suc (suc zero)) = heap_page 5 0
shifted (suc (suc (suc zero))) = record { right = 0; stamp = 8; body = body.Deleted (gone.Pending (row ∷ [])) }
shifted (suc (suc (suc (suc p)))) = free_page

-- the records
abbrev pub put_record : Row → Record
put_record w = record {
  number = 4;
  xid = 1;
  kind = kind.PutPending 4096 1;
  changes = first.image 2
      (heap_page 4 3) ∷ first.image 3 (row_page w) ∷ [];
}

abbrev pub log_put : Log
log_put = put_record row ∷ first.log_placed

abbrev pub link_record : Record
link_record = record {
  number = 5;
  xid = 1;
  kind = kind.LinkPending 4096 1;
  changes = first.image 2
      (heap_page 5 0) ∷ first.image 0 (meta_page 5 3 3 1) ∷ [];
}

abbrev pub log_linked : Log
log_linked = link_record ∷ log_put

abbrev pub add_record : ℕ → Pages → Record
add_record number Q = record { number = number; xid = 0; kind = kind.AddItems; changes = first.image 1 (Q 1) ∷ [] }

abbrev pub log_added : Log
log_added = add_record 7 with_both ∷ add_record 6 with_cat ∷ log_linked

abbrev pub shift_record : Record
shift_record = record {
  number = 8;
  xid = 0;
  kind = kind.Shift;
  changes = first.image 0 (shifted 0) ∷ first.image 3
      (shifted 3) ∷ [];
}

-- the document is whole wherever its head is
pub whole : (P : Pages) (private : ℕ) → IsWhole P (head private) first.vector
whole P private = record {
  bytes = first.bytes;
  there = HasBytes.short (omega arith);
  size = refl;
  encodes = record { normal = first.vector_is; small = omega arith; bytes_of = refl };
}

others_stay : (a b j : ℕ) → j ≢ 0 → slot_at (Some (head b) ∷ []) j ≡ slot_at (Some (head a) ∷ []) j
others_stay a b zero off = absurd (off refl)
others_stay a b (suc j) off = refl

pub head_changes : (r : Record) (stamp a b : ℕ) → IsHeadChange r first.doc (heap_page stamp a) (head a) (head b)
    (heap_page r.number b)
head_changes r stamp a b = record {
  slots = Some (head a) ∷ [];
  new_slots = Some (head b) ∷ [];
  before = refl;
  head = refl;
  serial = refl;
  put = record { put = refl; others = others_stay a b; size = refl };
  after = refl;
}

-- a chain that begins with page 3, which leads nowhere, has that page alone
pub one_page : (P : Pages) (qs : List ℕ) (p : ℕ) → (P 3).right ≡ 0 → IsChain P 3 qs → In p qs → p ≡ 3
one_page P [] p end c i = absurd i
one_page P (q ∷ qs) p end c (inl e) = e ∙ sym c.0
one_page P (q ∷ qs) p end c (inr i) =
    let none : (P q).right ≡ 0 = ap (λ k. (P k).right) (sym c.0) ∙ end in
    absurd (first.in_no_chain P qs p (subst (λ k. IsChain P k qs) none c.2) i)

-- so the row on that page alone is linked where the list begins there
pub linked_alone : (P : Pages) → first_of (P 0) ≡ 3 → (P 3).right ≡ 0 → rows_of (P 3) ≡ row ∷ [] → (w : Row)
    → IsLinked P w → w ≡ row
linked_alone P begins end on w k =
    let here : k.page ≡ 3 = one_page P k.line k.page end (subst (λ n. IsChain P n k.line) begins k.is_line) k.on in
    elim (subst (In w) on (subst (λ p. In w (rows_of (P p))) here k.there)) [ inl e ↦ e | inr z ↦ absurd z ]

-- 9: the row is put
used_below : (q : ℕ) → q < 3 → use_in (first.placed_by 1) q ≢ usage.Unused
used_below zero l e = cc
used_below (suc zero) l e = cc
used_below (suc (suc zero)) l e = cc
used_below (suc (suc (suc q))) l e = absurd (omega (arith, l))

item_is : (w : Row) → In w (row ∷ []) → w.item ≡ 4096
item_is w (inl e) = ap (λ (x : Row). x.item) e
item_is w (inr e) = absurd e

pub no_row : (P : Pages) → P 0 ≡ first.meta_page → (i : ℕ) → HasRow P i → ⊥
no_row P e i h = first.in_no_chain P h.linked.line h.linked.page
    (subst (λ (m : Page). IsChain P (first_of m) h.linked.line) e h.linked.is_line) h.linked.on

pub put_row : (since : ℕ) → IsPutPending first.log_placed (first.placed_by 1) (with_row row) (put_record row) since
put_row since = record {
  here = record {
    doc = first.doc;
    head = head 0;
    new = 3;
    rows = row ∷ [];
    old = heap_page 3 0;
    was = free_page;
    heap_then = heap_page 4 3;
    kind_is = refl;
    pages = refl;
    own = record { by = refl; runs = refl };
    is_new = IsNew.unused refl used_below;
    some_row = λ e. cc;
    items = item_is;
    rising = ((refl, tt), (tt, tt));
    before_is = refl;
    head_after = head_changes (put_record row) 3 0 3;
    after_is = refl;
  };
  rest = record {
    vector = first.vector;
    whole = whole (first.placed_by 1) 0;
    no_row = no_row (first.placed_by 1) refl 4096;
    keys = λ k i. i;
    chain = [];
    is_chain = refl;
    rising = ((refl, tt), (tt, tt));
  };
}

-- with its keys the other way round it is not valid
abbrev second_rows : List Page → List Row
second_rows (p ∷ q ∷ ps) = rows_of q
second_rows _ = []

falls : (keys : List Row) → row_with (fat_key ∷ cat_key ∷ []) ∷ [] ≡ keys → Rising KeyLess (keys_on keys) → ⊥
falls keys e rising =
    let rise : Rising KeyLess (fat_key ∷ cat_key ∷ []) = subst (λ ws. Rising KeyLess (keys_on ws)) (sym e) rising in
    let less : KeyLess fat_key cat_key = rise.0.0 in
    cc

put_of_falling : (R : Log) (P : Pages) (since : ℕ) → IsPutPending R P (with_row (row_with (fat_key ∷ cat_key ∷ [])))
    (put_record (row_with (fat_key ∷ cat_key ∷ []))) since → ⊥
put_of_falling R P since x = falls x.here.rows (ap second_rows x.here.after_is) x.here.rising

-- 11: it is linked
all_keys : (k : Key) → In k (keys_of first.vector) → InRows (row ∷ []) k 4096
all_keys k i = (row, inl refl, refl, i)

pub link_row : IsLinkPending log_put (with_row row) with_link link_record
link_row = record {
  here = record {
    doc = first.doc;
    head = head 3;
    end = 3;
    added = 1;
    old = heap_page 4 3;
    heap_then = heap_page 5 0;
    others = 0 ∷ [];
    others_before = first.meta_page ∷ [];
    others_after = meta_page 5 3 3 1 ∷ [];
    kind_is = refl;
    pages = refl;
    own = record { by = refl; runs = refl };
    some_page = λ e. omega (arith, e);
    some_added = λ e. omega (arith, e);
    linked = IsLinkHere.empty first.meta_page 0 refl;
    before_is = refl;
    head_after = head_changes link_record 4 3 0;
    after_is = refl;
  };
  rest = record {
    vector = first.vector;
    whole = whole (with_row row) 3;
    no_row = no_row (with_row row) refl 4096;
    front = [];
    is_chain = (refl, (λ e. omega (arith, e)), refl);
    pages = refl;
    all_keys = all_keys;
    is_last = λ last e. absurd (one_more last e);
  };
}
  where
    one_more : (last : ℕ) → 0 ∷ [] ≡ 0 ∷ last ∷ [] → ⊥
    one_more last e = let n : 1 ≡ 2 = ap length e in omega (arith, n)

-- 13: its keys come into the tree
pub pending_there : (leaf : Page) (k : Key) → In k (keys_of first.vector) → Pending (linked leaf) k 4096
pending_there leaf k i = record {
  row = row;
  linked = record {
    line = 3 ∷ [];
    is_line = (refl, (λ e. omega (arith, e)), refl);
    page = 3;
    on = inl refl;
    there =
        inl refl;
  };
  item = refl;
  key = i;
}

the_rows : (leaf : Page) (k : Key) → In k (keys_of first.vector) → (i : ℕ) → In i (4096 ∷ [])
    → Pending (linked leaf) k i
the_rows leaf k is i (inl e) = subst (Pending (linked leaf) k) (sym e) (pending_there leaf k is)
the_rows leaf k is i (inr e) = absurd e

pub list_is : items_of (128 ∷ 32 ∷ []) ≡ 4096 ∷ []
unfolding items_of
list_is = refl

pub none_is : items_of [] ≡ []
unfolding items_of
none_is = refl

pub added : ItemsAdded [] (128 ∷ 32 ∷ []) (4096 ∷ [])
added = record {
  rises = subst (Rising (λ (i j : ℕ). i < j)) (sym list_is) (tt, tt);
  just = λ i. (
    λ there. inr (subst (In i) list_is there),
    λ either. elim either
        [ inl old ↦ absurd (subst (In i) none_is old) | inr new ↦ subst (In i) (sym list_is) new ],
  );
  adds = (4096, inl refl, λ old. subst (In 4096) none_is old);
}

cat_row : IsAddItems log_linked with_link with_cat (add_record 6 with_cat)
cat_row = record {
  here = record {
    page = 1;
    key = cat_key;
    items = 4096 ∷ [];
    high = [];
    entries = [];
    front = [];
    back = [];
    old_list = [];
    new_list = 128 ∷ 32 ∷ [];
    old = first.root_page;
    kind_is = refl;
    pages = refl;
    within = inl refl;
    before_is = refl;
    was = refl;
    entry = inr (refl, refl);
    above = λ e i. absurd i;
    below = λ e i. absurd i;
    added = added;
    short = omega arith;
    after_is = refl;
  };
  rest = record { place = Toward.here; rows = the_rows first.root_page cat_key (inl refl) };
}

fat_row : IsAddItems (add_record 6 with_cat ∷ log_linked) with_cat with_both (add_record 7 with_both)
fat_row = record {
  here = record {
    page = 1;
    key = fat_key;
    items = 4096 ∷ [];
    high = [];
    entries = entry cat_key ∷ [];
    front = entry cat_key ∷ [];
    back = [];
    old_list = [];
    new_list = 128 ∷ 32 ∷ [];
    old = leaf_page 6 (entry cat_key ∷ []);
    kind_is = refl;
    pages = refl;
    within = inl refl;
    before_is = refl;
    was = refl;
    entry = inr (refl, refl);
    above = cat_below;
    below = λ e i. absurd i;
    added = added;
    short = omega arith;
    after_is = refl;
  };
  rest = record { place = Toward.here; rows = the_rows (leaf_page 6 (entry cat_key ∷ [])) fat_key (inr (inl refl)) };
}
  where
    cat_below : (e : on_page.Entry) → In e (entry cat_key ∷ []) → KeyLess e.key fat_key
    cat_below e (inl f) = subst (λ (x : on_page.Entry). KeyLess x.key fat_key) (sym f) refl
    cat_below e (inr f) = absurd f

-- 12: then its row leaves the pending list
pub main_there : (k : Key) (e : on_page.Entry) → e ≡ entry k → In e (entries_of (with_both 1)) → Main with_both k 4096
main_there k e is on = record {
  page = 1;
  entry = e;
  on = on;
  key = ap (λ (x : on_page.Entry). x.key) is;
  under = Under.inline (128 ∷ 32 ∷ []) (ap (λ (x : on_page.Entry). x.postings) is)
      (subst (In 4096) (sym list_is) (inl refl));
}

all_main : (k : Key) → In k (keys_of first.vector) → Main with_both k 4096
all_main k (inl e) = subst (λ x. Main with_both x 4096) (sym e) (main_there cat_key (entry cat_key) refl (inl refl))
all_main k (inr (inl e)) = subst (λ x. Main with_both x 4096) (sym e)
    (main_there fat_key (entry fat_key) refl (inr (inl refl)))
all_main k (inr (inr e)) = absurd e

vector_there : HasVector with_both first.doc first.vector
vector_there = (head 0, record { at = refl; serial = refl }, whole with_both 0)

shift_row : IsShift log_added with_both shifted shift_record
shift_row = record {
  here = record {
    page = 3;
    last = 3;
    count = 0;
    new_last = 0;
    rows = row ∷ [];
    meta = meta_page 5 3 3 1;
    old = row_page row;
    kind_is = refl;
    pages = refl;
    before_is = refl;
    first = refl;
    was = refl;
    last_is = IsLastAfter.none refl;
    after_is = refl;
  };
  rest = λ w i. (
    first.doc,
    first.vector,
    sym (item_is w i),
    vector_there,
    λ k j. subst (Main with_both k)
        (sym (item_is w i)) (all_main k j),
  );
}

some_one : (h k : Head) → Some h ≡ Some k → h ≡ k
some_one h k e = cc

-- but not before the second key is in the tree
pub no_fat : (i : ℕ) → Main with_cat fat_key i → ⊥
no_fat i m = none m.page m.entry m.on m.key
  where
    none : (p : ℕ) (e : on_page.Entry) → In e (entries_of (with_cat p)) → e.key ≡ fat_key → ⊥
    none zero e on key = absurd on
    none (suc zero) e (inl f) key = let same : cat_key ≡ fat_key = sym (ap (λ (x : on_page.Entry). x.key) f) ∙ key in
        let byte : 99 ≡ 102 = ap (λ ks. get_or ks 1 0) same in
        omega (arith, byte)
    none (suc zero) e (inr f) key = absurd f
    none (suc (suc zero)) e on key = absurd on
    none (suc (suc (suc zero))) e on key = absurd on
    none (suc (suc (suc (suc p)))) e on key = absurd on

the_head : (d : Doc) (x : Head) → d.item ≡ 4096 → head_of with_cat d.item ≡ Some x → x ≡ head 0
the_head d x e there = some_one x (head 0) (sym there ∙ ap (head_of with_cat) e)

has_fat : (d : Doc) (v : Vector) → d.item ≡ 4096 → HasVector with_cat d v → In fat_key (keys_of v)
has_fat d v e h =
    let there : IsWhole with_cat (head 0) v = subst (λ x. IsWhole with_cat x v) (the_head d h.0 e h.1.at) h.2 in
    subst (λ w. In fat_key (keys_of w)) (whole_one with_cat (head 0) first.vector v (whole with_cat 0) there)
    (inr (inl refl))

shift_too_early : (R : Log) (Q : Pages) → IsShift R with_cat Q shift_record → ⊥
shift_too_early R Q x =
    let rows : row ∷ [] ≡ x.here.rows = ap second_rows x.here.before_is ∙ ap rows_in x.here.was in
    let main = x.rest row (subst (In row) rows (inl refl)) in
    no_fat 4096 (main.4 fat_key (has_fat main.0 main.1 main.2 main.3))

-- 21: where the transaction that placed the document was aborted, its slot becomes free
abbrev serial_of : Option Head → ℕ
serial_of None = 0
serial_of (Some h) = h.serial

abbrev log_aborted : Log
log_aborted = record { number = 4; xid = 1; kind = kind.Abort; changes = [] } ∷ first.log_placed

abbrev free_slots : Page
free_slots = record { right = 0; stamp = 5; body = body.Heap (None ∷ []) }

abbrev pub freed : Pages
freed zero = first.meta_page
freed (suc zero) = first.root_page
freed (suc (suc zero)) = free_slots
freed (suc (suc (suc p))) = free_page

abbrev free_record : Record
free_record = record { number = 5; xid = 0; kind = kind.FreeSlots; changes = first.image 2 free_slots ∷ [] }

each_slot : (floor slot : ℕ) → SlotLoses (known log_aborted (first.placed_by 1)) floor
    (slot_at (Some (first.head 1) ∷ []) slot) (slot_at (None ∷ []) slot)
each_slot floor zero = SlotLoses.freed (first.head 1) refl refl
    (record { dead = IsDeadHead.insert_aborted refl; no_overflow = refl; no_private = refl })
each_slot floor (suc slot) = SlotLoses.same refl

none_some : (h : Head) → None ≡ Some h → ⊥
none_some h e = cc

free_row : (floor : ℕ) → IsFreeSlots log_aborted (first.placed_by 1) freed free_record floor
free_row floor = record {
  here = record {
    page = 2;
    slots = Some (first.head 1) ∷ [];
    new_slots = None ∷ [];
    old = first.heap_page 1;
    kind_is = refl;
    pages = refl;
    before_is = refl;
    was = refl;
    same_length = refl;
    each = each_slot floor;
    some = λ e. cc;
    after_is = refl;
  };
  rest = gone_doc;
}
  where
    gone_doc : (slot : ℕ) (h : Head) → slot_at (Some (first.head 1) ∷ []) slot ≡ Some h
        → slot_at (None ∷ []) slot ≡ None
        → IsGoneFrom log_aborted (first.placed_by 1) floor (record { item = item_at 2 slot; serial = h.serial })
    gone_doc zero h e f = record {
      dead = IsDead.insert_aborted 1 refl (inl (ap (λ s. record { item = 4096; serial = s }) (sym (ap serial_of e))));
      no_pair = first.none_placed 4096;
    }
    gone_doc (suc slot) h e f = absurd (none_some h e)
