-- The rule of PutOverflow at a vector of 20,044 bytes on three pages, whose parts are put from the last to the first.
use Rattle.std.proofs.Common.{◌≡◌, ◌≢◌, ℕ, zero, suc, ◌<◌, List, [], ◌∷◌, ◌++◌, length, refl, sym, ap, subst, ◌∙◌}
use Rattle.std.proofs.Common.{arith}
use Rattle.std.specs.Prelude.{Option, Some, None}
use Rattle.std.proofs.lemmas.List.{length-append}
use Rattle.ts_base.specs.Vectors.{Vector}
use Rattle.page_types.specs.Numbers.{most_short}
use Rattle.page_types.specs.Views.{free_page, slots_in, slots_of, slot_at, part_in}
use Rattle.page_types.specs.declared.page.Page.{Page}
use Rattle.page_types.specs.declared.page.Head.{Head}
use Rattle.page_types.specs.declared.page.Body.TheVariants as body
use Rattle.page_types.specs.declared.record.Record.{Record}
use Rattle.page_types.specs.declared.record.Kind.{Kind}
use Rattle.page_types.specs.declared.record.Kind.TheVariants as kind
use Rattle.core_state.specs.Log.{Log, Pages}
use Rattle.core_state.specs.Documents.{Doc, slot_of, IsChain, HasBytes, IsWhole, parts}
use Rattle.core_state.specs.Known.{use_in}
use Rattle.core_state.specs.Changes.{IsNew, IsHeadChange}
use Rattle.core_state.specs.HeapRules.{IsPutOverflow}
use Rattle.core_state.specs.declared.answers.PageUse.TheVariants as usage
use Rattle.core_state.proofs.Histories.{chain_one}
use Rattle.core_state.proofs.Worked as first

-- the document, its head with this first overflow page, and the pages
abbrev pub doc : ℕ → Doc
doc serial = record { item = 4096; serial = serial }

abbrev pub head : ℕ → Head
head overflow = record {
  serial = 1;
  inserted_by = 1;
  deleted_by = 0;
  overflow = overflow;
  private = 0;
  bytes =
      20044;
  vector = [];
}

abbrev pub heap_page : ℕ → ℕ → Page
heap_page stamp overflow = record { right = 0; stamp = stamp; body = body.Heap (Some (head overflow) ∷ []) }

abbrev pub part_page : ℕ → ℕ → List ℕ → Page
part_page stamp right part = record { right = right; stamp = stamp; body = body.Overflow part }

abbrev placed : Pages
placed zero = first.meta_page
placed (suc zero) = first.root_page
placed (suc (suc zero)) = heap_page 3 0
placed (suc (suc (suc p))) = free_page

-- with the last part, whose page leads to `right`; with the middle one before it; and with the first
abbrev pub one_part : ℕ → List ℕ → Pages
one_part right last zero = first.meta_page
one_part right last (suc zero) = first.root_page
one_part right last (suc (suc zero)) = heap_page 4 3
one_part right last (suc (suc (suc zero))) = part_page 4 right last
one_part right last (suc (suc (suc (suc p)))) = free_page

abbrev pub two_parts : List ℕ → List ℕ → Pages
two_parts last middle zero = first.meta_page
two_parts last middle (suc zero) = first.root_page
two_parts last middle (suc (suc zero)) = heap_page 5 4
two_parts last middle (suc (suc (suc zero))) = part_page 4 0 last
two_parts last middle (suc (suc (suc (suc zero)))) = part_page 5 3 middle
two_parts last middle (suc (suc (suc (suc (suc p))))) = free_page

abbrev three_parts : List ℕ → List ℕ → List ℕ → Pages
three_parts last middle front zero = first.meta_page
three_parts last middle front (suc zero) = first.root_page
three_parts last middle front (suc (suc zero)) = heap_page 6 5
three_parts last middle front (suc (suc (suc zero))) = part_page 4 0 last
three_parts last middle front (suc (suc (suc (suc zero)))) = part_page 5 3 middle
three_parts last middle front (suc (suc (suc (suc (suc zero))))) = part_page 6 4 front
three_parts last middle front (suc (suc (suc (suc (suc (suc p)))))) = free_page

-- the records
abbrev head_record : Record
head_record = record {
  number = 3;
  xid = 1;
  kind = kind.PlaceHead 4096 1;
  changes = first.image 2
      (heap_page 3 0) ∷ [];
}

abbrev log_placed : Log
log_placed = head_record ∷ first.log_begun

abbrev pub put_record : ℕ → ℕ → ℕ → Pages → Record
put_record serial number page Q = record {
  number = number;
  xid = 1;
  kind = kind.PutOverflow 4096 serial;
  changes = first.image 2 (Q 2) ∷ first.image page
      (Q page) ∷ [];
}

abbrev pub log_one : List ℕ → Log
log_one last = put_record 1 4 3 (one_part 0 last) ∷ log_placed

abbrev log_two : List ℕ → List ℕ → Log
log_two last middle = put_record 1 5 4 (two_parts last middle) ∷ log_one last

-- a long head's document isn't whole while its chain has less
few_bytes : (P : Pages) (h : Head) (bytes qs : List ℕ) → HasBytes P h bytes → most_short < h.bytes
    → IsChain P h.overflow qs → length (parts P qs) < h.bytes → length bytes < h.bytes
few_bytes P h bytes qs (HasBytes.short le) long chain few = absurd (omega (arith, le, long))
few_bytes P h bytes qs (HasBytes.long l qs' chain') long chain few = subst (λ xs. length (parts P xs) < h.bytes)
    (chain_one P h.overflow qs qs' chain chain') few

not_whole : (P : Pages) (h : Head) (qs : List ℕ) → most_short < h.bytes → IsChain P h.overflow qs
    → length (parts P qs) < h.bytes → (v : Vector) → IsWhole P h v → ⊥
not_whole P h qs long chain few v w = omega (arith, few_bytes P h w.bytes qs w.there long chain few, w.size)

pub others_stay : (a b j : ℕ) → j ≢ 0 → slot_at (Some (head b) ∷ []) j ≡ slot_at (Some (head a) ∷ []) j
others_stay a b zero off = absurd (off refl)
others_stay a b (suc j) off = refl

-- the head changes from the chain that begins at page a to that at page b
head_changes : (r : Record) (stamp a b : ℕ) → IsHeadChange r (doc 1) (heap_page stamp a) (head a) (head b)
    (heap_page r.number b)
head_changes r stamp a b = record {
  slots = Some (head a) ∷ [];
  new_slots = Some (head b) ∷ [];
  before = refl;
  head = refl;
  serial = refl;
  put = record { put = refl; others = others_stay a b; size = refl };
  after = refl;
}

used_in_placed : (q : ℕ) → q < 3 → use_in placed q ≢ usage.Unused
used_in_placed zero l e = cc
used_in_placed (suc zero) l e = cc
used_in_placed (suc (suc zero)) l e = cc
used_in_placed (suc (suc (suc q))) l e = absurd (omega (arith, l))

pub used_in_one : (last : List ℕ) (q : ℕ) → q < 4 → use_in (one_part 0 last) q ≢ usage.Unused
used_in_one last zero l e = cc
used_in_one last (suc zero) l e = cc
used_in_one last (suc (suc zero)) l e = cc
used_in_one last (suc (suc (suc zero))) l e = cc
used_in_one last (suc (suc (suc (suc q)))) l e = absurd (omega (arith, l))

used_in_two : (last middle : List ℕ) (q : ℕ) → q < 5 → use_in (two_parts last middle) q ≢ usage.Unused
used_in_two last middle zero l e = cc
used_in_two last middle (suc zero) l e = cc
used_in_two last middle (suc (suc zero)) l e = cc
used_in_two last middle (suc (suc (suc zero))) l e = cc
used_in_two last middle (suc (suc (suc (suc zero)))) l e = cc
used_in_two last middle (suc (suc (suc (suc (suc q))))) l e = absurd (omega (arith, l))

-- the rules of the three records
last_row : (last : List ℕ) (since : ℕ) → IsPutOverflow log_placed placed (one_part 0 last)
    (put_record 1 4 3 (one_part 0 last)) since
last_row last since = record {
  here = record {
    doc = doc 1;
    head = head 0;
    new = 3;
    part = last;
    old = heap_page 3 0;
    was = free_page;
    heap_then = heap_page 4 3;
    kind_is = refl;
    pages = refl;
    own = record { by = refl; runs = refl };
    long = omega arith;
    full = λ some. absurd (some refl);
    is_new = IsNew.unused refl used_in_placed;
    before_is = refl;
    head_after = head_changes (put_record 1 4 3 (one_part 0 last)) 3 0 3;
    after_is = refl;
  };
  rest = not_whole placed (head 0) [] (omega arith) refl (omega arith);
}

middle_row : (last middle : List ℕ) (since : ℕ) → length last ≡ 3708 → length middle ≡ 8168
    → IsPutOverflow (log_one last) (one_part 0 last) (two_parts last middle)
    (put_record 1 5 4 (two_parts last middle)) since
middle_row last middle since size full = record {
  here = record {
    doc = doc 1;
    head = head 3;
    new = 4;
    part = middle;
    old = heap_page 4 3;
    was = free_page;
    heap_then = heap_page 5 4;
    kind_is = refl;
    pages = refl;
    own = record { by = refl; runs = refl };
    long = omega arith;
    full = λ some. full;
    is_new = IsNew.unused refl (used_in_one last);
    before_is = refl;
    head_after = head_changes (put_record 1 5 4 (two_parts last middle)) 4 3 4;
    after_is = refl;
  };
  rest = not_whole (one_part 0 last) (head 3) (3 ∷ []) (omega arith) (refl, (λ e. omega (arith, e)), refl)
      (omega (arith, size, length-append last []));
}

first_row : (last middle front : List ℕ) (since : ℕ) → length last ≡ 3708 → length middle ≡ 8168 → length front ≡ 8168
    → IsPutOverflow (log_two last middle) (two_parts last middle) (three_parts last middle front)
    (put_record 1 6 5 (three_parts last middle front)) since
first_row last middle front since size size' full = record {
  here = record {
    doc = doc 1;
    head = head 4;
    new = 5;
    part = front;
    old = heap_page 5 4;
    was = free_page;
    heap_then = heap_page 6 5;
    kind_is = refl;
    pages = refl;
    own = record { by = refl; runs = refl };
    long = omega arith;
    full = λ some. full;
    is_new = IsNew.unused refl (used_in_two last middle);
    before_is = refl;
    head_after = head_changes (put_record 1 6 5 (three_parts last middle front)) 5 4 5;
    after_is = refl;
  };
  rest = not_whole (two_parts last middle) (head 4) (4 ∷ 3 ∷ []) (omega arith)
      (refl, (λ e. omega (arith, e)), (refl, (λ e. omega (arith, e)), refl))
      (omega (arith, size, size', length-append middle (last ++ []), length-append last []));
}

-- the page that is put, and what a record and a slot say
abbrev second : List Page → Page
second (p ∷ q ∷ ps) = q
second _ = free_page

abbrev item_in : Kind → ℕ
item_in (kind.PutOverflow item serial) = item
item_in _ = 0

abbrev serial_in : Kind → ℕ
serial_in (kind.PutOverflow item serial) = serial
serial_in _ = 0

abbrev overflow_in : Option Head → ℕ
overflow_in None = 0
overflow_in (Some h) = h.overflow

abbrev serial_of : Option Head → ℕ
serial_of None = 0
serial_of (Some h) = h.serial

-- the head is that on the heap page before the record
head_there : (R : Log) (P Q : Pages) (serial number page since stamp a : ℕ) → P 2 ≡ heap_page stamp a
    → (x : IsPutOverflow R P Q (put_record serial number page Q) since)
    → Some (head a) ≡ Some x.here.head
head_there R P Q serial number page since stamp a e x =
    let item : 4096 ≡ x.here.doc.item = ap item_in x.here.kind_is in
    let slots : Some (head a) ∷ [] ≡ x.here.head_after.slots = ap slots_of (sym e)
    ∙ ap first.first_slots x.here.before_is ∙ ap slots_in x.here.head_after.before in
    ap (λ s. slot_at s 0) slots ∙ ap (λ i. slot_at x.here.head_after.slots (slot_of i)) item ∙ x.here.head_after.head

-- a last part whose page leads to another is not valid
end_leads_on : (last : List ℕ) (since : ℕ) → IsPutOverflow log_placed placed (one_part 2 last)
    (put_record 1 4 3 (one_part 2 last)) since → ⊥
end_leads_on last since x =
    let right : 2 ≡ x.here.head.overflow = ap (λ ps. (second ps).right) x.here.after_is in
    let none : 0 ≡ x.here.head.overflow = ap overflow_in
    (head_there log_placed placed (one_part 2 last) 1 4 3 since 3 0 refl x) in
    omega (arith, right, none)

-- the serial of another document is not valid
serial_of_two : (last : List ℕ) (since : ℕ) → IsPutOverflow log_placed placed (one_part 0 last)
    (put_record 2 4 3 (one_part 0 last)) since → ⊥
serial_of_two last since x =
    let named : 2 ≡ x.here.doc.serial = ap serial_in x.here.kind_is in
    let there : 1 ≡ x.here.head.serial = ap serial_of
    (head_there log_placed placed (one_part 0 last) 2 4 3 since 3 0 refl x) in
    omega (arith, named, there, x.here.head_after.serial)

-- a part before another has 8168 bytes
middle_is_full : (last middle : List ℕ) (since : ℕ)
    → IsPutOverflow (log_one last) (one_part 0 last) (two_parts last middle)
    (put_record 1 5 4 (two_parts last middle)) since → length middle ≡ 8168
middle_is_full last middle since x =
    let there : 3 ≡ x.here.head.overflow = ap overflow_in
    (head_there (log_one last) (one_part 0 last) (two_parts last middle) 1 5 4 since 4 3 refl x) in
    let same : middle ≡ x.here.part = ap (λ ps. part_in (second ps).body) x.here.after_is in
    ap length same ∙ x.here.full (λ e. omega (arith, there, e))
