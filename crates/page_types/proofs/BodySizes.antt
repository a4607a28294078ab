-- How many bytes the parts of a page have.
use Rattle.std.proofs.Common.{◌≡◌, ℕ, suc, ◌+◌, ◌-◌, ◌*◌, ◌≤◌, Bool, false, eqb, List, [], ◌∷◌, ◌++◌, length, take}
use Rattle.std.proofs.Common.{drop, Some, refl, sym, ap, ◌∙◌, arith}
use Rattle.std.specs.List.{flat_map, slice_get, sum_by}
use Rattle.std.proofs.lemmas.List.{length-append, take-append-drop, take_all, drop_all, drop-drop}
use Rattle.std.proofs.lemmas.List.Sums.{sum_by-cons}
use Rattle.std.proofs.lemmas.List.Concat.{flat_map-append}
use Rattle.page_types.specs.Numbers.{u16_bytes, u32_bytes, u64_bytes}
use Rattle.page_types.specs.Encoding.{key_field, head_bytes, slot_bytes, row_bytes, postings_bytes, entry_bytes}
use Rattle.page_types.specs.Encoding.{entry_child_bytes, post_child_bytes, high_key_bytes}
use Rattle.page_types.specs.Inner.Cuts.{cut_at, EndAt}
use Rattle.page_types.specs.Inner.Joins.{joined, row_with, child_with}
use Rattle.page_types.specs.declared.page.Head.{Head}
use Rattle.page_types.specs.declared.page.Row.{Row}
use Rattle.page_types.specs.declared.page.Entry.{Entry}
use Rattle.page_types.specs.declared.page.Postings.TheVariants.{Root}
use Rattle.page_types.specs.declared.page.EntryChild.{EntryChild}
use Rattle.page_types.specs.declared.page.PostChild.{PostChild}
use Rattle.page_types.proofs.Framing.{length-u16_bytes, length-u32_bytes, length-u64_bytes}
use Rattle.page_types.proofs.Cutting.{take_get}

pub length-key_field : (key : List ℕ) → length (key_field key) ≡ 2 + length key
unfolding key_field
length-key_field key = omega (arith, length-append (u16_bytes (length key)) key, length-u16_bytes (length key))

pub length-head_bytes : (h : Head) → length (head_bytes h) ≡ 28 + length h.vector
unfolding head_bytes
length-head_bytes h =
    omega (
      arith,
      length-append (u64_bytes h.serial) (u32_bytes h.inserted_by ++ (u32_bytes h.deleted_by
          ++ (u32_bytes h.overflow ++ (u32_bytes h.private ++ (u32_bytes h.bytes ++ h.vector))))),
      length-append (u32_bytes h.inserted_by) (u32_bytes h.deleted_by
          ++ (u32_bytes h.overflow ++ (u32_bytes h.private ++ (u32_bytes h.bytes ++ h.vector)))),
      length-append (u32_bytes h.deleted_by)
          (u32_bytes h.overflow ++ (u32_bytes h.private ++ (u32_bytes h.bytes ++ h.vector))),
      length-append (u32_bytes h.overflow) (u32_bytes h.private ++ (u32_bytes h.bytes ++ h.vector)),
      length-append (u32_bytes h.private) (u32_bytes h.bytes ++ h.vector),
      length-append (u32_bytes h.bytes) h.vector,
      length-u64_bytes h.serial,
      length-u32_bytes h.inserted_by,
      length-u32_bytes h.deleted_by,
      length-u32_bytes h.overflow,
      length-u32_bytes h.private,
      length-u32_bytes h.bytes,
    )

pub length-row_bytes : (r : Row) → length (row_bytes r) ≡ 6 + length (flat_map key_field r.keys)
unfolding row_bytes
length-row_bytes r =
    omega (
      arith,
      length-append (u32_bytes r.item) (u16_bytes (length r.keys) ++ flat_map key_field r.keys),
      length-append (u16_bytes (length r.keys)) (flat_map key_field r.keys),
      length-u32_bytes r.item,
      length-u16_bytes (length r.keys),
    )

pub length-inline : (items : List ℕ) → length (u16_bytes (length items) ++ items) ≡ 2 + length items
length-inline items = omega (arith, length-append (u16_bytes (length items)) items, length-u16_bytes (length items))

pub length-entry_bytes : (e : Entry) → length (entry_bytes e) ≡ (2 + length e.key) + length (postings_bytes e.postings)
unfolding entry_bytes
length-entry_bytes e =
    omega (arith, length-append (key_field e.key) (postings_bytes e.postings), length-key_field e.key)

pub length-entry_child_bytes : (c : EntryChild) → length (entry_child_bytes c) ≡ 4 + (2 + length c.bound)
unfolding entry_child_bytes
length-entry_child_bytes c = omega
    (arith, length-append (u32_bytes c.page) (key_field c.bound), length-u32_bytes c.page, length-key_field c.bound)

pub length-post_child_bytes : (c : PostChild) → length (post_child_bytes c) ≡ 8
unfolding post_child_bytes
length-post_child_bytes c = omega
    (arith, length-append (u32_bytes c.page) (u32_bytes c.bound), length-u32_bytes c.page, length-u32_bytes c.bound)

pub length-posting : (high : ℕ) (items : List ℕ) → length (u32_bytes high ++ items) ≡ 4 + length items
length-posting high items = omega (arith, length-append (u32_bytes high) items, length-u32_bytes high)

pub length-meta : (first last pages : ℕ) → length (u32_bytes first ++ (u32_bytes last ++ u32_bytes pages)) ≡ 12
length-meta first last pages = omega (
  arith,
  length-append (u32_bytes first) (u32_bytes last ++ u32_bytes pages),
  length-append (u32_bytes last) (u32_bytes pages),
  length-u32_bytes first,
  length-u32_bytes last,
  length-u32_bytes pages,
)

-- ---- all that are one after the other

pub record Grows {A : Type 0} (f : A → List ℕ) (xs : List A) (k size : ℕ) (x : A) : Type 0 where
  pub next : size + length (f x) ≡ length (flat_map f (take (k + 1) xs))
  pub within : size + length (f x) ≤ length (flat_map f xs)

-- the size of the first of them, and of one more
pub grows : {A : Type 0} (f : A → List ℕ) (xs : List A) (k size : ℕ) (x : A) → slice_get xs k ≡ Some x
    → size ≡ length (flat_map f (take k xs)) → Grows f xs k size x
grows f xs k size x at is =
    let one : length (flat_map f (x ∷ [])) ≡ length (f x) = omega (arith, length-append (f x) []) in
    let next : length (flat_map f (take (k + 1) xs)) ≡ size + length (f x) =
    ap (λ l. length (flat_map f l)) (take_get xs k x at) ∙ ap length (flat_map-append f (take k xs) (x ∷ []))
    ∙ omega (arith, length-append (flat_map f (take k xs)) (flat_map f (x ∷ [])), one, is) in
    let parts : length (flat_map f xs) ≡ length (flat_map f (take (k + 1) xs)) + length (flat_map f (drop (k + 1) xs)) =
    ap (λ l. length (flat_map f l)) (sym (take-append-drop (k + 1) xs)) ∙ ap length (flat_map-append f (take (k + 1) xs)
    (drop (k + 1) xs)) ∙ length-append (flat_map f (take (k + 1) xs)) (flat_map f (drop (k + 1) xs)) in
    record { next = sym next; within = omega (arith, next, parts) }

pub all_sized : {A : Type 0} (f : A → List ℕ) (xs : List A) (k size : ℕ) → length xs ≤ k
    → size ≡ length (flat_map f (take k xs)) → size ≡ length (flat_map f xs)
all_sized f xs k size le is = is ∙ ap (λ l. length (flat_map f l)) (take_all k xs le)

pub keys_size : (keys : List (List ℕ)) → length (flat_map key_field keys) ≡ 2 * length keys + sum_by length keys
keys_size [] = refl
keys_size (k ∷ ks) = omega (
  arith,
  length-append (key_field k) (flat_map key_field ks),
  length-key_field k,
  keys_size ks,
  sum_by-cons length k ks,
)

-- the keys of all rows from one on
rows_from : (from : ℕ) (items ends : List ℕ) (keys : List (List ℕ)) → EndAt from ends (length keys)
    → length items ≡ length ends
    → length (flat_map row_bytes (joined row_with items (cut_at from ends keys)))
    ≡ 6 * length items + length (flat_map key_field (drop from keys))
rows_from from [] [] keys h e =
    omega (arith, ap (λ l. length (flat_map key_field l)) (drop_all from keys (omega (arith, h))))
rows_from from [] (d ∷ ends) keys h e = absurd (omega arith)
rows_from from (i ∷ items) [] keys h e = absurd (omega arith)
rows_from from (i ∷ items) (d ∷ ends) keys h e =
    let here : List (List ℕ) = take (d - from) (drop from keys) in
    let rest = rows_from d items ends keys h.1 (omega arith) in
    let jump : drop d keys ≡ drop (d - from) (drop from keys) =
    ap (λ n. drop n keys) (omega (arith, h.0)) ∙ sym (drop-drop (d - from) from keys) in
    let split : length (flat_map key_field (drop from keys))
    ≡ length (flat_map key_field (take (d - from) (drop from keys))) + length (flat_map key_field (drop d keys)) =
    ap (λ l. length (flat_map key_field l)) (sym (take-append-drop (d - from) (drop from keys)))
    ∙ ap length (flat_map-append key_field (take (d - from) (drop from keys)) (drop (d - from) (drop from keys)))
    ∙ length-append (flat_map key_field (take (d - from) (drop from keys)))
    (flat_map key_field (drop (d - from) (drop from keys)))
    ∙ ap (λ l. length (flat_map key_field (take (d - from) (drop from keys))) + length (flat_map key_field l))
    (sym jump) in
    omega (
      arith,
      length-append (row_bytes (row_with i (take (d - from) (drop from keys))))
          (flat_map row_bytes (joined row_with items (cut_at d ends keys))),
      length-row_bytes (row_with i (take (d - from) (drop from keys))),
      rest,
      split,
    )

pub rows_size : (items ends : List ℕ) (keys : List (List ℕ)) → EndAt 0 ends (length keys) → length items ≡ length ends
    → length (flat_map row_bytes (joined row_with items (cut_at 0 ends keys)))
    ≡ 6 * length items + (2 * length keys + sum_by length keys)
rows_size items ends keys h e = omega (arith, rows_from 0 items ends keys h e, keys_size keys)

pub entry_children_size : (pages : List ℕ) (bounds : List (List ℕ)) → length pages ≡ length bounds
    → length (flat_map entry_child_bytes (joined child_with pages bounds)) ≡ 6 * length pages + sum_by length bounds
entry_children_size [] [] e = refl
entry_children_size [] (b ∷ bounds) e = absurd (omega arith)
entry_children_size (p ∷ pages) [] e = absurd (omega arith)
entry_children_size (p ∷ pages) (b ∷ bounds) e =
    omega (
      arith,
      length-append (entry_child_bytes (child_with p b)) (flat_map entry_child_bytes (joined child_with pages bounds)),
      length-entry_child_bytes (child_with p b),
      entry_children_size pages bounds (omega arith),
      sum_by-cons length b bounds,
    )

pub post_children_size : (children : List PostChild) → length (flat_map post_child_bytes children) ≡ 8 * length children
post_children_size [] = refl
post_children_size (c ∷ children) = omega (
  arith,
  length-append (post_child_bytes c) (flat_map post_child_bytes children),
  length-post_child_bytes c,
  post_children_size children,
)

pub length-slot_bytes : (h : Head) → length (slot_bytes (Some h)) ≡ 29 + length h.vector
length-slot_bytes h = omega (arith, length-head_bytes h)

pub length-root : (root : ℕ) → length (postings_bytes (Root root)) ≡ 5
length-root root = ap suc (length-u32_bytes root)

-- ---- the high key

pub high_some : (high : List ℕ) (b : Bool) → b ≡ false → b ≡ eqb (length high) 0
    → (high_key_bytes high ≡ key_field high) × (length (high_key_bytes high) ≡ 2 + length high)
high_some [] b p q = absurd (cc (p, q))
high_some (x ∷ xs) b p q = (refl, length-key_field (x ∷ xs))
