-- The two parts of a page that is divided at a member: which they are, and how many bytes they have.
use Rattle.std.proofs.Common.{◌≡◌, ◌≢◌, ℕ, zero, suc, ◌+◌, ◌<◌, ◌≤◌, List, [], ◌∷◌, ◌++◌, length, take, drop, refl}
use Rattle.std.proofs.Common.{sym, ap, subst, ◌∙◌, append_assoc, inl, inr, add-one, arith}
use Rattle.std.specs.Prelude.{Some, Result, Ok, Err, IfOk}
use Rattle.std.specs.declared.alloc.AllocError.{AllocError}
use Rattle.std.specs.List.{slice_get, flat_map}
use Rattle.std.proofs.lemmas.List.{length-append, length-drop, length-take-le, take-append-drop, take_all}
use Rattle.std.proofs.lemmas.List.Concat.{flat_map-append}
use Rattle.page_types.specs.Pages.{IsPage, IsBody, IsEntry, ArePostings, IsEntryChild}
use Rattle.page_types.specs.Encoding.{entry_bytes, entry_child_bytes, postings_bytes, high_key_bytes, body_bytes}
use Rattle.page_types.specs.Encoding.{count_of}
use Rattle.page_types.specs.declared.page.Page.{Page}
use Rattle.page_types.specs.declared.page.Entry.{Entry}
use Rattle.page_types.specs.declared.page.EntryChild.{EntryChild}
use Rattle.page_types.specs.declared.page.Postings.{Postings}
use Rattle.page_types.specs.declared.page.Postings.TheVariants.{Inline, Root}
use Rattle.page_types.specs.declared.page.Body.{Body}
use Rattle.page_types.specs.declared.page.Body.TheVariants as body
use Rattle.page_types.proofs.BodySizes.{length-key_field, length-entry_bytes, length-entry_child_bytes, length-inline}
use Rattle.page_types.proofs.BodySizes.{length-root, grows}
use Rattle.page_types.proofs.Cutting.{take_get}
use Rattle.core_state.specs.TreeRules.{EntryHalves, Halves, FitsPage, listed_bytes}
use Rattle.entry_tree.specs.Finding.{IsEntryBody}
use Rattle.entry_tree.specs.Reading.{upper_in}
use Rattle.entry_tree.specs.Inner.Parts.{last_key, left_of, right_of, cut_key, IsPart, bytes_before, IsCutPlace}
use Rattle.entry_tree.proofs.KeyOrders.{key_some}
use Rattle.entry_tree.proofs.FoundPlaces.{around, all_there}
use Rattle.entry_tree.proofs.AdoptedPages.{key_length}

-- ---- any list at a place

pub there_is : {A : Type 0} (xs : List A) (k : ℕ) → k < length xs → (x : A) × (slice_get xs k ≡ Some x)
there_is [] k lt = absurd (omega (arith, lt))
there_is (x ∷ xs) zero lt = (x, refl)
there_is (x ∷ xs) (suc k) lt = there_is xs k (omega (arith, lt))

pub take_one : {A : Type 0} (xs : List A) (k : ℕ) (x : A) → slice_get xs k ≡ Some x
    → take (suc k) xs ≡ take k xs ++ x ∷ []
take_one xs k x e = ap (λ n. take n xs) (sym (add-one k)) ∙ take_get xs k x e

take_front : {A : Type 0} (front back : List A) (x : A)
    → take (suc (length front)) (front ++ x ∷ back) ≡ front ++ x ∷ []
take_front [] back x = refl
take_front (f ∷ front) back x = ap (λ zs. f ∷ zs) (take_front front back x)

drop_front : {A : Type 0} (front back : List A) (x : A) → drop (suc (length front)) (front ++ x ∷ back) ≡ back
drop_front [] back x = refl
drop_front (f ∷ front) back x = drop_front front back x

pub some_left : {A : Type 0} (xs : List A) (k : ℕ) → k < length xs → drop k xs ≢ []
some_left xs k lt e = absurd (omega (arith, length-drop k xs, ap length e, lt))

some_length : {A : Type 0} (xs : List A) → xs ≢ [] → 0 < length xs
some_length [] some = absurd (some refl)
some_length (x ∷ xs) some = omega arith

-- what comes after a beginning
pub same_rest : {A : Type 0} (front a b : List A) → front ++ a ≡ front ++ b → a ≡ b
same_rest [] a b e = e
same_rest (f ∷ front) a b e = same_rest front a b (let tails : front ++ a ≡ front ++ b = cc in tails)

pub last_key-push : (front : List Entry) (e : Entry) → last_key (front ++ e ∷ []) ≡ e.key
last_key-push [] e = refl
last_key-push (d ∷ []) e = refl
last_key-push (d ∷ f ∷ front) e = last_key-push (f ∷ front) e

pub last_key-take : (entries : List Entry) (k : ℕ) (e : Entry) → slice_get entries k ≡ Some e
    → last_key (take (suc k) entries) ≡ e.key
last_key-take entries k e at = ap last_key (take_one entries k e at) ∙ last_key-push (take k entries) e

-- ---- the parts

-- the parts at a place divide the page
pub halves_at : (whole : Body) (k : ℕ) → IsEntryBody whole → IsCutPlace whole k
    → Halves whole (left_of whole k) (right_of whole k)
halves_at _ k (IsEntryBody.leaf high entries) lt =
    let r = there_is entries k (omega (arith, lt)) in
    let left : body.EntryLeaf r.0.key (take k entries ++ r.0 ∷ [])
    ≡ body.EntryLeaf (last_key (take (suc k) entries)) (take (suc k) entries) =
    ap (λ (key : List ℕ). body.EntryLeaf key (take k entries ++ r.0 ∷ [])) (sym (last_key-push (take k entries) r.0))
    ∙ ap (λ (es : List Entry). body.EntryLeaf (last_key es) es) (sym (take_one entries k r.0 r.1)) in
    subst (λ (es : List Entry). Halves (body.EntryLeaf high es)
    (body.EntryLeaf (last_key (take (suc k) entries)) (take (suc k) entries))
    (body.EntryLeaf high (drop (suc k) entries))) (around entries k r.0 r.1)
    (subst (λ (b : Body). Halves (body.EntryLeaf high (take k entries ++ r.0 ∷ drop (suc k) entries)) b
    (body.EntryLeaf high (drop (suc k) entries))) left
    (Halves.of_leaf high r.0 (take k entries) (drop (suc k) entries) (some_left entries (suc k) lt)))
halves_at _ k (IsEntryBody.inner children) lt =
    let r = there_is children k (omega (arith, lt)) in
    subst (λ (cs : List EntryChild). Halves (body.EntryInner cs) (body.EntryInner (take (suc k) children))
    (body.EntryInner (drop (suc k) children))) (around children k r.0 r.1)
    (subst (λ (cs : List EntryChild). Halves (body.EntryInner (take k children ++ r.0 ∷ drop (suc k) children))
    (body.EntryInner cs) (body.EntryInner (drop (suc k) children))) (sym (take_one children k r.0 r.1))
    (Halves.of_inner r.0.bound (take k children ++ r.0 ∷ drop (suc k) children)
    (EntryHalves.inners r.0 (take k children) (drop (suc k) children) (some_left children (suc k) lt) refl)))

-- a place, and that these are the parts there
pub record ArePartsAt (whole left right : Body) : Type 0 where
  pub at : ℕ
  pub place : IsCutPlace whole at
  pub left_is : left ≡ left_of whole at
  pub right_is : right ≡ right_of whole at

-- no other parts divide it
pub halves_only : (whole left right : Body) → IsEntryBody whole → Halves whole left right → ArePartsAt whole left right
halves_only _ _ _ is (Halves.of_leaf high last front back some) = record {
  at = length front;
  place = omega (arith, length-append front (last ∷ back), some_length back some);
  left_is = ap (λ (key : List ℕ). body.EntryLeaf key (front ++ last ∷ [])) (sym (last_key-push front last))
      ∙ ap (λ (es : List Entry). body.EntryLeaf (last_key es) es) (sym (take_front front back last));
  right_is = ap (body.EntryLeaf high) (sym (drop_front front back last));
}
halves_only _ _ _ is (Halves.of_inner mid children (EntryHalves.inners last front back some e)) = record {
  at = length front;
  place = omega (arith, length-append front (last ∷ back), some_length back some);
  left_is = ap body.EntryInner (sym (take_front front back last));
  right_is = ap body.EntryInner (sym (drop_front front back last));
}
halves_only _ _ _ is (Halves.of_post_leaf high mid items front back f b halves) = elim is [ ]
halves_only _ _ _ is (Halves.of_post_inner mid children halves) = elim is [ ]

pub count_left : (whole : Body) (k : ℕ) → IsEntryBody whole → k < count_of whole → count_of (left_of whole k) ≡ suc k
count_left _ k (IsEntryBody.leaf high entries) lt = length-take-le (suc k) entries (omega (arith, lt))
count_left _ k (IsEntryBody.inner children) lt = length-take-le (suc k) children (omega (arith, lt))

-- ---- their bytes

pub none_before : (whole : Body) → IsEntryBody whole → length (bytes_before whole 0) ≡ 0
none_before _ (IsEntryBody.leaf high entries) = refl
none_before _ (IsEntryBody.inner children) = refl

pub left_listed : (whole : Body) (k : ℕ) → IsEntryBody whole
    → length (listed_bytes (left_of whole k)) ≡ length (bytes_before whole (suc k))
left_listed _ k (IsEntryBody.leaf high entries) = refl
left_listed _ k (IsEntryBody.inner children) = refl

pub all_listed : (whole : Body) (k : ℕ) → IsEntryBody whole → k ≡ count_of whole
    → length (bytes_before whole k) ≡ length (listed_bytes whole)
all_listed _ k (IsEntryBody.leaf high entries) e =
    ap (λ (es : List Entry). length (flat_map entry_bytes es)) (take_all k entries (omega (arith, e)))
all_listed _ k (IsEntryBody.inner children) e =
    ap (λ (cs : List EntryChild). length (flat_map entry_child_bytes cs)) (take_all k children (omega (arith, e)))

parts_of_map : {A : Type 0} (f : A → List ℕ) (xs : List A) (k : ℕ)
    → length (flat_map f xs) ≡ length (flat_map f (take k xs)) + length (flat_map f (drop k xs))
parts_of_map f xs k = ap (λ ys. length (flat_map f ys)) (sym (take-append-drop k xs))
    ∙ ap length (flat_map-append f (take k xs) (drop k xs))
    ∙ length-append (flat_map f (take k xs)) (flat_map f (drop k xs))

-- no part has more bytes than the page
pub before_small : (whole : Body) (k : ℕ) → IsEntryBody whole
    → length (bytes_before whole k) ≤ length (body_bytes whole)
before_small _ k (IsEntryBody.leaf high entries) = omega (
  arith,
  parts_of_map entry_bytes entries k,
  length-append (high_key_bytes high) (flat_map entry_bytes entries),
)
before_small _ k (IsEntryBody.inner children) = omega (arith, parts_of_map entry_child_bytes children k)

pub right_small : (whole : Body) (k : ℕ) → IsEntryBody whole
    → length (body_bytes (right_of whole k)) ≤ length (body_bytes whole)
right_small _ k (IsEntryBody.leaf high entries) = omega (
  arith,
  parts_of_map entry_bytes entries (suc k),
  length-append (high_key_bytes high) (flat_map entry_bytes entries),
  length-append (high_key_bytes high) (flat_map entry_bytes (drop (suc k) entries)),
)
right_small _ k (IsEntryBody.inner children) = omega (arith, parts_of_map entry_child_bytes children (suc k))

one_more : {A : Type 0} (f : A → List ℕ) (xs : List A) (k : ℕ) (x : A) → slice_get xs k ≡ Some x
    → length (flat_map f (take (suc k) xs)) ≡ length (flat_map f (take k xs)) + length (f x)
one_more f xs k x at =
    let g = grows f xs k (length (flat_map f (take k xs))) x at refl in
    omega (arith, g.next, ap (λ n. length (flat_map f (take n xs))) (add-one k))

pub next_entry : (whole : Body) (high : List ℕ) (entries : List Entry) (k : ℕ) (e : Entry)
    → whole ≡ body.EntryLeaf high entries → slice_get entries k ≡ Some e
    → length (bytes_before whole (suc k)) ≡ length (bytes_before whole k) + length (entry_bytes e)
next_entry whole high entries k e is at =
    subst (λ (b : Body). length (bytes_before b (suc k)) ≡ length (bytes_before b k) + length (entry_bytes e)) (sym is)
    (one_more entry_bytes entries k e at)

pub next_child : (whole : Body) (children : List EntryChild) (k : ℕ) (c : EntryChild)
    → whole ≡ body.EntryInner children → slice_get children k ≡ Some c
    → length (bytes_before whole (suc k)) ≡ length (bytes_before whole k) + (6 + length c.bound)
next_child whole children k c is at =
    subst (λ (b : Body). length (bytes_before b (suc k)) ≡ length (bytes_before b k) + (6 + length c.bound)) (sym is)
    (omega (arith, one_more entry_child_bytes children k c at, length-entry_child_bytes c))

key_high : (key : List ℕ) → key ≢ [] → length (high_key_bytes key) ≡ 2 + length key
key_high [] some = absurd (some refl)
key_high (b ∷ bs) some = length-key_field (b ∷ bs)

-- the left leaf with its high key
pub left_leaf_size : (p : Page) (high : List ℕ) (entries : List Entry) (k : ℕ) (key : List ℕ) → IsPage p
    → p.body ≡ body.EntryLeaf high entries → k < length entries → key ≡ last_key (take (suc k) entries)
    → length (body_bytes (left_of p.body k)) ≡ (2 + length key) + length (bytes_before p.body (suc k))
left_leaf_size p high entries k key page is lt e =
    let on = subst (IsBody p.right p.stamp) is page.body in
    let r = there_is entries k lt in
    let some = key_some r.0.key (all_there IsEntry entries k r.0 on.1.each r.1).key in
    let size : length (body_bytes (left_of (body.EntryLeaf high entries) k))
    ≡ (2 + length key) + length (bytes_before (body.EntryLeaf high entries) (suc k)) = omega (
      arith,
      length-append (high_key_bytes (last_key (take (suc k) entries))) (flat_map entry_bytes (take (suc k) entries)),
      ap (λ (b : List ℕ). length (high_key_bytes b)) (last_key-take entries k r.0 r.1),
      ap length e,
      ap length (last_key-take entries k r.0 r.1),
      key_high r.0.key some,
    ) in
    subst (λ (b : Body). length (body_bytes (left_of b k)) ≡ (2 + length key) + length (bytes_before b (suc k)))
    (sym is) size

-- a key of a leaf is not long
pub key_small : (p : Page) (high : List ℕ) (entries : List Entry) (k : ℕ) (key : List ℕ) → IsPage p
    → p.body ≡ body.EntryLeaf high entries → k < length entries → key ≡ last_key (take (suc k) entries)
    → length key ≤ 2047
key_small p high entries k key page is lt e =
    let on = subst (IsBody p.right p.stamp) is page.body in
    let r = there_is entries k lt in
    let short = key_length r.0.key (all_there IsEntry entries k r.0 on.1.each r.1).key in
    omega (arith, short, ap length e, ap length (last_key-take entries k r.0 r.1))

-- ---- the first member alone fits

postings_size : (p : Postings) → ArePostings p → length (postings_bytes p) ≤ 1003
postings_size (Inline items) is = let short = is.0 in omega (arith, length-inline items, short)
postings_size (Root root) is = omega (arith, length-root root)

bound_size : (right : ℕ) (c : EntryChild) → IsEntryChild right c → length c.bound ≤ 2047
bound_size right c is =
    elim is.bound [ inl key ↦ key_length c.bound key | inr none ↦ omega (arith, ap length none.0) ]

first_alone : (right stamp : ℕ) (whole : Body) → IsEntryBody whole → IsBody right stamp whole → 0 < count_of whole
    → FitsPage (left_of whole 0)
first_alone right stamp _ (IsEntryBody.leaf high []) on some = absurd (omega (arith, some))
first_alone right stamp _ (IsEntryBody.leaf high (e ∷ entries)) on some =
    let is = on.1.each.0 in
    omega (
      arith,
      length-append (high_key_bytes e.key) (entry_bytes e ++ []),
      length-append (entry_bytes e) [],
      key_high e.key (key_some e.key is.key),
      key_length e.key is.key,
      length-entry_bytes e,
      postings_size e.postings is.postings,
    )
first_alone right stamp _ (IsEntryBody.inner []) on some = absurd (omega (arith, some))
first_alone right stamp _ (IsEntryBody.inner (c ∷ children)) on some = omega (
  arith,
  length-append (entry_child_bytes c) [],
  length-entry_child_bytes c,
  bound_size right c on.each.0,
)

pub first_fits : (p : Page) → IsPage p → IsEntryBody p.body → 0 < count_of p.body → FitsPage (left_of p.body 0)
first_fits p page is some = first_alone p.right p.stamp p.body is page.body some

-- ---- the parts as they are made

pub made_left : (entries part : List Entry) (high : List ℕ) (k : ℕ) → high ≡ last_key (take (suc k) entries)
    → take 0 entries ++ part ≡ take (k + 1) entries
    → body.EntryLeaf high part ≡ body.EntryLeaf (last_key (take (suc k) entries)) (take (suc k) entries)
made_left entries part high k e made =
    ap (λ (h : List ℕ). body.EntryLeaf h part) e
    ∙ ap (body.EntryLeaf (last_key (take (suc k) entries))) (made ∙ ap (λ (n : ℕ). take n entries) (add-one k))

pub made_first : {A : Type 0} (xs part : List A) (k : ℕ) → take 0 xs ++ part ≡ take (k + 1) xs
    → part ≡ take (suc k) xs
made_first xs part k made = made ∙ ap (λ (n : ℕ). take n xs) (add-one k)

made_rest : {A : Type 0} (xs part : List A) (k n : ℕ) → n ≡ length xs → take (k + 1) xs ++ part ≡ take n xs
    → part ≡ drop (suc k) xs
made_rest xs part k n size made =
    same_rest (take (suc k) xs) part (drop (suc k) xs)
    (ap (λ (m : ℕ). take m xs ++ part) (sym (add-one k)) ∙ made ∙ take_all n xs (omega (arith, size))
    ∙ sym (take-append-drop (suc k) xs))

-- one more of those between two places
pub between_more : {A : Type 0} (xs part part' : List A) (from k : ℕ) (x : A) → take from xs ++ part ≡ take k xs
    → slice_get xs k ≡ Some x → part' ≡ part ++ x ∷ [] → take from xs ++ part' ≡ take (k + 1) xs
between_more xs part part' from k x so_far at e =
    ap (λ p. take from xs ++ p) e ∙ sym (append_assoc (take from xs) part (x ∷ [])) ∙ ap (λ l. l ++ x ∷ []) so_far
    ∙ sym (take_get xs k x at)

-- a part from the beginning on
made_front : {A : Type 0} (xs part : List A) (k : ℕ) → take 0 xs ++ part ≡ take (k + 1) xs → part ≡ take (suc k) xs
made_front xs part k made = made ∙ ap (λ (m : ℕ). take m xs) (add-one k)

-- ---- the parts as they are made

-- a part of a leaf, or of an inner page
pub leaf_parts : (whole : Body) (high old : List ℕ) (entries : List Entry) (from to : ℕ) (r : Result Body AllocError)
    → whole ≡ body.EntryLeaf old entries
    → IfOk r (λ part. (es : List Entry) × (part ≡ body.EntryLeaf high es) × (take from entries ++ es ≡ take to entries))
    → IfOk r (λ part. IsPart high from to whole part)
leaf_parts whole high old entries from to (Ok part) is made =
    subst (IsPart high from to whole) (sym made.1)
    (subst (λ (b : Body). IsPart high from to b (body.EntryLeaf high made.0)) (sym is)
    (IsPart.leaf old entries made.0 made.2))
leaf_parts whole high old entries from to (Err e) is made = tt

pub inner_parts : (whole : Body) (high : List ℕ) (children : List EntryChild) (from to : ℕ) (r : Result Body AllocError)
    → whole ≡ body.EntryInner children
    → IfOk r (λ part. (cs : List EntryChild) × (part ≡ body.EntryInner cs)
    × (take from children ++ cs ≡ take to children))
    → IfOk r (λ part. IsPart high from to whole part)
inner_parts whole high children from to (Ok part) is made =
    subst (IsPart high from to whole) (sym made.1)
    (subst (λ (b : Body). IsPart high from to b (body.EntryInner made.0)) (sym is)
    (IsPart.inner children made.0 made.2))
inner_parts whole high children from to (Err e) is made = tt

pub front_part : (whole b : Body) (high : List ℕ) (k : ℕ) → high ≡ cut_key whole k → IsPart high 0 (k + 1) whole b
    → b ≡ left_of whole k
front_part _ _ high k e (IsPart.leaf old entries part made) =
    ap (λ (h : List ℕ). body.EntryLeaf h part) e
    ∙ ap (body.EntryLeaf (last_key (take (suc k) entries))) (made_front entries part k made)
front_part _ _ high k e (IsPart.inner children part made) = ap body.EntryInner (made_front children part k made)

pub back_part : (whole b : Body) (high : List ℕ) (k n : ℕ) → high ≡ upper_in whole → n ≡ count_of whole
    → IsPart high (k + 1) n whole b → b ≡ right_of whole k
back_part _ _ high k n e size (IsPart.leaf old entries part made) =
    ap (λ (h : List ℕ). body.EntryLeaf h part) e ∙ ap (body.EntryLeaf old) (made_rest entries part k n size made)
back_part _ _ high k n e size (IsPart.inner children part made) =
    ap body.EntryInner (made_rest children part k n size made)
