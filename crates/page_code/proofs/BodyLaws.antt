-- What is on a page of each form: what is read was encoded, and what is encoded is read.
use Rattle.std.proofs.Common.{◌≡◌, ◌≢◌, ℕ, ◌<◌, ◌≤◌, Bool, true, false, cond, eqb, List, [], ◌∷◌, ◌++◌, length, Option}
use Rattle.std.proofs.Common.{Ok, refl, sym, ap, subst, ◌∙◌, append_assoc, arith, inl, inr}
use Rattle.std.specs.List.{flat_map, AllByRecursion}
use Rattle.std.proofs.lemmas.Bool.{leb-true, ltb-true, eqb-true, eqb-false, eq-eqb, ne_eqb}
use Rattle.std.proofs.lemmas.List.{append-nil}
use Rattle.page_types.specs.Numbers.{u32_bytes}
use Rattle.page_types.specs.Items.{items_of}
use Rattle.page_types.specs.Keys.{IsKey}
use Rattle.page_types.specs.Encoding.{key_field, slot_bytes, row_bytes, entry_bytes, entry_child_bytes}
use Rattle.page_types.specs.Encoding.{post_child_bytes, high_key_bytes, body_bytes, count_of}
use Rattle.page_types.specs.Pages.{IsSlot, IsRow, IsHighKey, IsMeta, IsGone, IsBody}
use Rattle.page_types.specs.Fields.{◌>>=◌, number_at}
use Rattle.page_types.specs.declared.page.Head.{Head}
use Rattle.page_types.specs.declared.page.Row.{Row}
use Rattle.page_types.specs.declared.page.Entry.{Entry}
use Rattle.page_types.specs.declared.page.EntryChild.{EntryChild}
use Rattle.page_types.specs.declared.page.PostChild.{PostChild}
use Rattle.page_types.specs.declared.page.Body.{Body}
use Rattle.page_types.specs.declared.page.Body.TheVariants as body
use Rattle.page_types.specs.declared.page.Gone.{Gone}
use Rattle.page_types.specs.declared.page.Gone.TheVariants as gone
use Rattle.page_types.proofs.FieldReading.{IsBytes, bind_ok, Takes, Takes-then, u32_takes, u32_again}
use Rattle.page_code.specs.declared.form.Form.{Form}
use Rattle.page_code.specs.declared.form.Form.TheVariants as form
use Rattle.page_code.specs.Fields.{Read, below_at, key_at}
use Rattle.page_code.specs.Forms.{count_fits, fits_free}
use Rattle.page_code.specs.Bodies.{meta_at, heap_slot_at, slots_at, row_at, rows_at, entries_at, high_key_at}
use Rattle.page_code.specs.Bodies.{entry_leaf_at, entry_children_at, post_children_at, posting_at, body_at}
use Rattle.page_code.proofs.Passing.{above_none}
use Rattle.page_code.proofs.FieldLaws.{below_takes, below_again, key_takes, key_again}
use Rattle.page_code.proofs.Lists.{ok_is, all_take, all_again, each_fits, all_fit}
use Rattle.page_code.proofs.HeapLaws.{slot_reader}
use Rattle.page_code.proofs.PendingLaws.{row_reader}
use Rattle.page_code.proofs.EntryLaws.{entries_take, entries_again}
use Rattle.page_code.proofs.ChildLaws as keyed
use Rattle.page_code.proofs.PostingLaws as posted

-- the kind of a form, and the kind before deletion
abbrev pub form_kind : Form → ℕ
form_kind form.Free = 0
form_kind form.Meta = 1
form_kind form.Heap = 2
form_kind form.Overflow = 3
form_kind form.Pending = 4
form_kind form.EntryLeaf = 5
form_kind form.EntryInner = 6
form_kind form.PostLeaf = 7
form_kind form.PostInner = 8
form_kind form.GoneOverflow = 9
form_kind form.GonePending = 9
form_kind form.GonePostLeaf = 9

abbrev pub form_was : Form → ℕ
form_was form.GoneOverflow = 3
form_was form.GonePending = 4
form_was form.GonePostLeaf = 7
form_was _ = 0

abbrev pub gone_form : Gone → Form
gone_form (gone.Overflow bytes) = form.GoneOverflow
gone_form (gone.Pending rows) = form.GonePending
gone_form (gone.PostLeaf high items) = form.GonePostLeaf

abbrev pub body_form : Body → Form
body_form body.Free = form.Free
body_form (body.Meta first last pages) = form.Meta
body_form (body.Heap slots) = form.Heap
body_form (body.Overflow bytes) = form.Overflow
body_form (body.Pending rows) = form.Pending
body_form (body.EntryLeaf high entries) = form.EntryLeaf
body_form (body.EntryInner children) = form.EntryInner
body_form (body.PostLeaf high items) = form.PostLeaf
body_form (body.PostInner children) = form.PostInner
body_form (body.Deleted g) = gone_form g

-- what the fields before a body say of it
pub record Allows (f : Form) (right stamp count : ℕ) : Type 0 where
  pub count_is : count_fits f count ≡ true
  pub right_is : fits_free f right ≡ true
  pub stamp_is : fits_free f stamp ≡ true

-- a body that is read
pub record TakesBody (f : Form) (right stamp count : ℕ) (bytes : List ℕ) (b : Body) (rest : List ℕ) : Type 0 where
  pub takes : Takes bytes (body_bytes b) rest
  pub fits : IsBody right stamp b
  pub form_is : body_form b ≡ f
  pub many : count_of b ≡ count

-- ---- the metapage

meta_takes : (bytes : List ℕ) (x : Body × List ℕ) → IsBytes bytes → meta_at bytes ≡ Ok x → (right stamp : ℕ)
    → TakesBody form.Meta right stamp 0 bytes x.0 x.1
unfolding meta_at
meta_takes bytes x fits e right stamp =
    let a = bind_ok (below_at 1048576 bytes)
    (λ a. below_at 1048576 a.1 >>= λ b. number_at 4 b.1 >>= λ c. Ok (body.Meta a.0 b.0 c.0, c.1)) x e in
    let b = bind_ok (below_at 1048576 a.0.1) (λ b. number_at 4 b.1 >>= λ c. Ok (body.Meta a.0.0 b.0 c.0, c.1)) x a.2 in
    let c = bind_ok (number_at 4 b.0.1) (λ c. Ok (body.Meta a.0.0 b.0.0 c.0, c.1)) x b.2 in
    let t0 = below_takes 1048576 bytes a.0 fits a.1 in
    let t1 = below_takes 1048576 a.0.1 b.0 t0.0.rest_fits b.1 in
    let t2 = u32_takes b.0.1 c.0.0 c.0.1 t1.0.rest_fits c.1 in
    let e1 = Takes-then a.0.1 (u32_bytes b.0.0) b.0.1 (u32_bytes c.0.0) c.0.1 t1.0 t2.0 in
    let e0 = Takes-then bytes (u32_bytes a.0.0) a.0.1 (u32_bytes b.0.0 ++ u32_bytes c.0.0) c.0.1 t0.0 e1 in
    let made : Body × List ℕ = (body.Meta a.0.0 b.0.0 c.0.0, c.0.1) in
    let whole : TakesBody form.Meta right stamp 0 bytes (body.Meta a.0.0 b.0.0 c.0.0) c.0.1 = record {
      takes = e0;
      fits = record { first_page = t0.1; last_page = t1.1; number = t2.1 };
      form_is = refl;
      many = refl;
    } in
    subst (λ (y : Body × List ℕ). TakesBody form.Meta right stamp 0 bytes y.0 y.1) (ok_is made x c.2) whole

three : (a b c t : List ℕ) → (a ++ (b ++ c)) ++ t ≡ a ++ (b ++ (c ++ t))
three a b c t = simp append_assoc

meta_again : (first last pages : ℕ) (rest : List ℕ) → IsMeta first last pages
    → meta_at ((u32_bytes first ++ (u32_bytes last ++ u32_bytes pages)) ++ rest) ≡ Ok (body.Meta first last pages, rest)
unfolding meta_at
meta_again first last pages rest is =
    ap meta_at (three (u32_bytes first) (u32_bytes last) (u32_bytes pages) rest)
    ∙ rw (
      below_again 1048576 first (u32_bytes last ++ (u32_bytes pages ++ rest)) is.first_page (omega arith),
      below_again 1048576 last (u32_bytes pages ++ rest) is.last_page (omega arith),
      u32_again pages rest is.number,
    ) refl

-- ---- a leaf of the entry tree

high_by : (b : Bool) (right : ℕ) (bytes : List ℕ) (x : List ℕ × List ℕ) → eqb right 0 ≡ b → IsBytes bytes
    → cond b (Ok ([], bytes)) (key_at [] bytes) ≡ Ok x → Takes bytes (high_key_bytes x.0) x.1 × IsHighKey right x.0
high_by true right bytes x is fits e =
    let made : List ℕ × List ℕ = ([], bytes) in
    subst (λ (y : List ℕ × List ℕ). Takes bytes (high_key_bytes y.0) y.1 × IsHighKey right y.0) (ok_is made x e)
    (record { parts = refl; rest_fits = fits }, inl (eqb-true _ _ is, refl))
high_by false right bytes x is fits e =
    let t = key_takes [] bytes x fits e in
    (subst (λ (l : List ℕ). Takes bytes l x.1) (high_field x.0 t.1.0) t.0, inr (eqb-false _ _ is, t.1.0))
  where
    high_field : (key : List ℕ) → IsKey key → key_field key ≡ high_key_bytes key
    high_field [] h = absurd h
    high_field (b ∷ bs) h = refl

high_takes : (right : ℕ) (bytes : List ℕ) (x : List ℕ × List ℕ) → IsBytes bytes → high_key_at right bytes ≡ Ok x
    → Takes bytes (high_key_bytes x.0) x.1 × IsHighKey right x.0
high_takes right bytes x fits e = high_by (eqb right 0) right bytes x refl fits e

high_again : (right : ℕ) (high rest : List ℕ) → IsHighKey right high
    → high_key_at right (high_key_bytes high ++ rest) ≡ Ok (high, rest)
high_again right [] rest (inl p) = rw (eq-eqb right 0 p.0) refl
high_again right [] rest (inr p) = absurd p.1
high_again right (b ∷ bs) rest (inl p) = absurd (cc p.1)
high_again right (b ∷ bs) rest (inr p) =
    rw (ne_eqb right 0 p.0) (key_again [] (b ∷ bs) rest p.1 (above_none (b ∷ bs) p.1))

entry_leaf_takes : (right stamp count : ℕ) (bytes : List ℕ) (x : Body × List ℕ) → IsBytes bytes
    → entry_leaf_at right count bytes ≡ Ok x → TakesBody form.EntryLeaf right stamp count bytes x.0 x.1
unfolding entry_leaf_at
entry_leaf_takes right stamp count bytes x fits e =
    let h =
    bind_ok (high_key_at right bytes) (λ h. entries_at count h.1 >>= λ n. Ok (body.EntryLeaf h.0 n.0, n.1)) x e in
    let n = bind_ok (entries_at count h.0.1) (λ n. Ok (body.EntryLeaf h.0.0 n.0, n.1)) x h.2 in
    let t0 = high_takes right bytes h.0 fits h.1 in
    let t1 = entries_take count h.0.1 n.0 t0.0.rest_fits n.1 in
    let both = Takes-then bytes (high_key_bytes h.0.0) h.0.1 (flat_map entry_bytes n.0.0) n.0.1 t0.0 t1.takes in
    let made : Body × List ℕ = (body.EntryLeaf h.0.0 n.0.0, n.0.1) in
    let whole : TakesBody form.EntryLeaf right stamp count bytes (body.EntryLeaf h.0.0 n.0.0) n.0.1 =
    record { takes = both; fits = (t0.1, t1.fit); form_is = refl; many = t1.many } in
    subst (λ (y : Body × List ℕ). TakesBody form.EntryLeaf right stamp count bytes y.0 y.1) (ok_is made x n.2) whole

-- ---- lists

slots_take : (right stamp count : ℕ) (bytes : List ℕ) (x : Body × List ℕ) → IsBytes bytes
    → count ≤ 2048 → (slots_at count bytes >>= λ s. Ok (body.Heap s.0, s.1)) ≡ Ok x
    → TakesBody form.Heap right stamp count bytes x.0 x.1
slots_take right stamp count bytes x fits le e =
    let s = bind_ok (slots_at count bytes) (λ s. Ok (body.Heap s.0, s.1)) x e in
    let t = all_take (λ (_ : ℕ) _ rest. heap_slot_at rest) slot_bytes (λ _ _ s. IsSlot s)
    (λ _. 0) slot_reader 0 count bytes s.0 fits s.1 in
    let made : Body × List ℕ = (body.Heap s.0.0, s.0.1) in
    let whole : TakesBody form.Heap right stamp count bytes (body.Heap s.0.0) s.0.1 = record {
      takes = t.takes;
      fits = (omega (arith, t.count), each_fits IsSlot (λ _. 0) 0 s.0.0 t.fit);
      form_is = refl;
      many = t.count;
    } in
    subst (λ (y : Body × List ℕ). TakesBody form.Heap right stamp count bytes y.0 y.1) (ok_is made x s.2) whole

-- rows that are read
record TakesRows (count : ℕ) (bytes : List ℕ) (rows : List Row) (rest : List ℕ) : Type 0 where
  takes : Takes bytes (flat_map row_bytes rows) rest
  many : length rows ≡ count
  each : AllByRecursion IsRow rows

rows_take : (count : ℕ) (bytes : List ℕ) (x : List Row × List ℕ) → IsBytes bytes → rows_at count bytes ≡ Ok x
    → TakesRows count bytes x.0 x.1
rows_take count bytes x fits e =
    let t = all_take (λ (_ : ℕ) _ rest. row_at rest) row_bytes (λ _ _ r. IsRow r)
    (λ _. 0) row_reader 0 count bytes x fits e in
    record { takes = t.takes; many = t.count; each = each_fits IsRow (λ _. 0) 0 x.0 t.fit }

rows_again : (rows : List Row) (rest : List ℕ) → AllByRecursion IsRow rows
    → rows_at (length rows) (flat_map row_bytes rows ++ rest) ≡ Ok (rows, rest)
rows_again rows rest each =
    all_again (λ (_ : ℕ) _ rest. row_at rest) row_bytes (λ _ _ r. IsRow r) (λ _. 0) row_reader 0 rows rest
    (all_fit IsRow (λ _. 0) 0 rows each)

slots_again : (slots : List (Option Head)) (rest : List ℕ) → AllByRecursion IsSlot slots
    → slots_at (length slots) (flat_map slot_bytes slots ++ rest) ≡ Ok (slots, rest)
slots_again slots rest each =
    all_again (λ (_ : ℕ) _ rest. heap_slot_at rest) slot_bytes (λ _ _ s. IsSlot s) (λ _. 0) slot_reader 0 slots rest
    (all_fit IsSlot (λ _. 0) 0 slots each)

pending_takes : (right stamp count : ℕ) (bytes : List ℕ) (x : Body × List ℕ) → IsBytes bytes → (rows_at count bytes
    >>= λ r. Ok (body.Pending r.0, r.1)) ≡ Ok x → TakesBody form.Pending right stamp count bytes x.0 x.1
pending_takes right stamp count bytes x fits e =
    let r = bind_ok (rows_at count bytes) (λ r. Ok (body.Pending r.0, r.1)) x e in
    let t = rows_take count bytes r.0 fits r.1 in
    let made : Body × List ℕ = (body.Pending r.0.0, r.0.1) in
    let whole : TakesBody form.Pending right stamp count bytes (body.Pending r.0.0) r.0.1 =
    record { takes = t.takes; fits = t.each; form_is = refl; many = t.many } in
    subst (λ (y : Body × List ℕ). TakesBody form.Pending right stamp count bytes y.0 y.1) (ok_is made x r.2) whole

gone_pending_takes : (right stamp count : ℕ) (bytes : List ℕ) (x : Body × List ℕ) → IsBytes bytes
    → (rows_at count bytes >>= λ r. Ok (body.Deleted (gone.Pending r.0), r.1)) ≡ Ok x
    → TakesBody form.GonePending right stamp count bytes x.0 x.1
gone_pending_takes right stamp count bytes x fits e =
    let r = bind_ok (rows_at count bytes) (λ r. Ok (body.Deleted (gone.Pending r.0), r.1)) x e in
    let t = rows_take count bytes r.0 fits r.1 in
    let made : Body × List ℕ = (body.Deleted (gone.Pending r.0.0), r.0.1) in
    let whole : TakesBody form.GonePending right stamp count bytes (body.Deleted (gone.Pending r.0.0)) r.0.1 =
    record { takes = t.takes; fits = t.each; form_is = refl; many = t.many } in
    subst (λ (y : Body × List ℕ). TakesBody form.GonePending right stamp count bytes y.0 y.1) (ok_is made x r.2) whole

not_none : {A : Type 0} (xs : List A) → 0 < length xs → xs ≢ []
not_none [] lt = absurd (omega arith)
not_none (x ∷ xs) lt = λ e. absurd (cc e)

entry_inner_takes : (right stamp count : ℕ) (bytes : List ℕ) (x : Body × List ℕ) → IsBytes bytes
    → 0 < count → (entry_children_at right count bytes >>= λ c. Ok (body.EntryInner c.0, c.1)) ≡ Ok x
    → TakesBody form.EntryInner right stamp count bytes x.0 x.1
entry_inner_takes right stamp count bytes x fits some e =
    let c = bind_ok (entry_children_at right count bytes) (λ c. Ok (body.EntryInner c.0, c.1)) x e in
    let t = keyed.children_take right count bytes c.0 fits c.1 in
    let made : Body × List ℕ = (body.EntryInner c.0.0, c.0.1) in
    let whole : TakesBody form.EntryInner right stamp count bytes (body.EntryInner c.0.0) c.0.1 =
    record {
      takes = t.takes;
      fits = record { some = not_none c.0.0 (omega (arith, t.many, some)); each = t.each; rising = t.rising };
      form_is = refl;
      many = t.many;
    } in
    subst (λ (y : Body × List ℕ). TakesBody form.EntryInner right stamp count bytes y.0 y.1) (ok_is made x c.2) whole

post_inner_takes : (right stamp count : ℕ) (bytes : List ℕ) (x : Body × List ℕ) → IsBytes bytes
    → 0 < count → (post_children_at right count bytes >>= λ c. Ok (body.PostInner c.0, c.1)) ≡ Ok x
    → TakesBody form.PostInner right stamp count bytes x.0 x.1
post_inner_takes right stamp count bytes x fits some e =
    let c = bind_ok (post_children_at right count bytes) (λ c. Ok (body.PostInner c.0, c.1)) x e in
    let t = posted.children_take right count bytes c.0 fits c.1 in
    let made : Body × List ℕ = (body.PostInner c.0.0, c.0.1) in
    let whole : TakesBody form.PostInner right stamp count bytes (body.PostInner c.0.0) c.0.1 =
    record {
      takes = t.takes;
      fits = record { some = not_none c.0.0 (omega (arith, t.many, some)); each = t.each; rising = t.rising };
      form_is = refl;
      many = t.many;
    } in
    subst (λ (y : Body × List ℕ). TakesBody form.PostInner right stamp count bytes y.0 y.1) (ok_is made x c.2) whole

post_leaf_takes : (right stamp count : ℕ) (bytes : List ℕ) (x : Body × List ℕ) → IsBytes bytes
    → (posting_at right count bytes >>= λ p. Ok (body.PostLeaf p.0.0 p.0.1, p.1)) ≡ Ok x
    → TakesBody form.PostLeaf right stamp count bytes x.0 x.1
post_leaf_takes right stamp count bytes x fits e =
    let p = bind_ok (posting_at right count bytes) (λ p. Ok (body.PostLeaf p.0.0 p.0.1, p.1)) x e in
    let t = posted.leaf_takes right count bytes p.0 fits p.1 in
    let made : Body × List ℕ = (body.PostLeaf p.0.0.0 p.0.0.1, p.0.1) in
    let whole : TakesBody form.PostLeaf right stamp count bytes (body.PostLeaf p.0.0.0 p.0.0.1) p.0.1 =
    record { takes = t.takes; fits = (t.high_fits, t.items_fit); form_is = refl; many = t.many } in
    subst (λ (y : Body × List ℕ). TakesBody form.PostLeaf right stamp count bytes y.0 y.1) (ok_is made x p.2) whole

gone_post_leaf_takes : (right stamp count : ℕ) (bytes : List ℕ) (x : Body × List ℕ) → IsBytes bytes
    → (posting_at right count bytes >>= λ p. Ok (body.Deleted (gone.PostLeaf p.0.0 p.0.1), p.1)) ≡ Ok x
    → TakesBody form.GonePostLeaf right stamp count bytes x.0 x.1
gone_post_leaf_takes right stamp count bytes x fits e =
    let p = bind_ok (posting_at right count bytes) (λ p. Ok (body.Deleted (gone.PostLeaf p.0.0 p.0.1), p.1)) x e in
    let t = posted.leaf_takes right count bytes p.0 fits p.1 in
    let made : Body × List ℕ = (body.Deleted (gone.PostLeaf p.0.0.0 p.0.0.1), p.0.1) in
    let whole : TakesBody form.GonePostLeaf right stamp count bytes (body.Deleted (gone.PostLeaf p.0.0.0 p.0.0.1))
    p.0.1 = record { takes = t.takes; fits = (t.high_fits, t.items_fit); form_is = refl; many = t.many } in
    subst (λ (y : Body × List ℕ). TakesBody form.GonePostLeaf right stamp count bytes y.0 y.1) (ok_is made x p.2) whole

-- ---- each form

empty_fits : IsBytes []
empty_fits i = omega arith

none_counted : (count : ℕ) → eqb count 0 ≡ true → 0 ≡ count
none_counted count e = sym (eqb-true _ _ e)

pub body_takes : (f : Form) (right stamp count : ℕ) (bytes : List ℕ) (x : Body × List ℕ) → IsBytes bytes
    → Allows f right stamp count → body_at f right count bytes ≡ Ok x → TakesBody f right stamp count bytes x.0 x.1
unfolding body_at
body_takes form.Free right stamp count bytes x fits a e =
    let made : Body × List ℕ = (body.Free, bytes) in
    let whole : TakesBody form.Free right stamp count bytes body.Free bytes = record {
      takes = record { parts = refl; rest_fits = fits };
      fits = (eqb-true _ _ a.right_is, eqb-true _ _ a.stamp_is);
      form_is = refl;
      many = none_counted count a.count_is;
    } in
    subst (λ (y : Body × List ℕ). TakesBody form.Free right stamp count bytes y.0 y.1) (ok_is made x e) whole
body_takes form.Meta right stamp count bytes x fits a e =
    subst (λ (n : ℕ). TakesBody form.Meta right stamp n bytes x.0 x.1) (none_counted count a.count_is)
    (meta_takes bytes x fits e right stamp)
body_takes form.Heap right stamp count bytes x fits a e =
    slots_take right stamp count bytes x fits (leb-true _ _ a.count_is) e
body_takes form.Overflow right stamp count bytes x fits a e =
    let made : Body × List ℕ = (body.Overflow bytes, []) in
    let whole : TakesBody form.Overflow right stamp count bytes (body.Overflow bytes) [] = record {
      takes = record { parts = sym (append-nil bytes); rest_fits = empty_fits };
      fits = tt;
      form_is = refl;
      many = none_counted count a.count_is;
    } in
    subst (λ (y : Body × List ℕ). TakesBody form.Overflow right stamp count bytes y.0 y.1) (ok_is made x e) whole
body_takes form.Pending right stamp count bytes x fits a e = pending_takes right stamp count bytes x fits e
body_takes form.EntryLeaf right stamp count bytes x fits a e = entry_leaf_takes right stamp count bytes x fits e
body_takes form.EntryInner right stamp count bytes x fits a e =
    entry_inner_takes right stamp count bytes x fits (ltb-true _ _ a.count_is) e
body_takes form.PostLeaf right stamp count bytes x fits a e = post_leaf_takes right stamp count bytes x fits e
body_takes form.PostInner right stamp count bytes x fits a e =
    post_inner_takes right stamp count bytes x fits (ltb-true _ _ a.count_is) e
body_takes form.GoneOverflow right stamp count bytes x fits a e =
    let made : Body × List ℕ = (body.Deleted (gone.Overflow bytes), []) in
    let whole : TakesBody form.GoneOverflow right stamp count bytes (body.Deleted (gone.Overflow bytes)) [] = record {
      takes = record { parts = sym (append-nil bytes); rest_fits = empty_fits };
      fits = tt;
      form_is = refl;
      many = none_counted count a.count_is;
    } in
    subst (λ (y : Body × List ℕ). TakesBody form.GoneOverflow right stamp count bytes y.0 y.1) (ok_is made x e) whole
body_takes form.GonePending right stamp count bytes x fits a e = gone_pending_takes right stamp count bytes x fits e
body_takes form.GonePostLeaf right stamp count bytes x fits a e = gone_post_leaf_takes right stamp count bytes x fits e

-- with nothing after it
nil_behind : {A : Type 0} (read : List ℕ → Read A) (bytes : List ℕ) (x : A) → read (bytes ++ []) ≡ Ok (x, [])
    → read bytes ≡ Ok (x, [])
nil_behind read bytes x e = ap read (sym (append-nil bytes)) ∙ e

gone_again : (right : ℕ) (g : Gone) → IsGone right g
    → body_at (gone_form g) right (count_of (body.Deleted g)) (body_bytes (body.Deleted g)) ≡ Ok (body.Deleted g, [])
unfolding body_at
gone_again right (gone.Overflow bytes) is = refl
gone_again right (gone.Pending rows) is =
    ap (λ (r : Read (List Row)). r >>= λ r. Ok (body.Deleted (gone.Pending r.0), r.1))
    (nil_behind (λ bytes. rows_at (length rows) bytes) (flat_map row_bytes rows) rows (rows_again rows [] is))
gone_again right (gone.PostLeaf high items) is =
    ap (λ (r : Read (ℕ × List ℕ)). r >>= λ p. Ok (body.Deleted (gone.PostLeaf p.0.0 p.0.1), p.1))
    (nil_behind (λ bytes. posting_at right (length (items_of items)) bytes) (u32_bytes high ++ items) (high, items)
    (posted.leaf_again right high items [] is.0 is.1))

pub body_again : (right stamp : ℕ) (b : Body) → IsBody right stamp b
    → body_at (body_form b) right (count_of b) (body_bytes b) ≡ Ok (b, [])
unfolding body_at entry_leaf_at
body_again right stamp body.Free is = refl
body_again right stamp (body.Meta first last pages) is =
    nil_behind (λ bytes. meta_at bytes) (u32_bytes first ++ (u32_bytes last ++ u32_bytes pages))
    (body.Meta first last pages) (meta_again first last pages [] is)
body_again right stamp (body.Heap slots) is =
    ap (λ (r : Read (List (Option Head))). r >>= λ s. Ok (body.Heap s.0, s.1)) (nil_behind
    (λ bytes. slots_at (length slots) bytes) (flat_map slot_bytes slots) slots (slots_again slots [] is.1))
body_again right stamp (body.Overflow bytes) is = refl
body_again right stamp (body.Pending rows) is =
    ap (λ (r : Read (List Row)). r >>= λ r. Ok (body.Pending r.0, r.1))
    (nil_behind (λ bytes. rows_at (length rows) bytes) (flat_map row_bytes rows) rows (rows_again rows [] is))
body_again right stamp (body.EntryLeaf high entries) is =
    ap (λ (r : Read (List ℕ)). r >>= λ h. entries_at (length entries) h.1 >>= λ n. Ok (body.EntryLeaf h.0 n.0, n.1))
    (high_again right high (flat_map entry_bytes entries) is.0)
    ∙ ap (λ (r : Read (List Entry)). r >>= λ n. Ok (body.EntryLeaf high n.0, n.1)) (nil_behind (λ bytes. entries_at
    (length entries) bytes) (flat_map entry_bytes entries) entries (entries_again entries [] is.1))
body_again right stamp (body.EntryInner children) is =
    ap (λ (r : Read (List EntryChild)). r >>= λ c. Ok (body.EntryInner c.0, c.1))
    (nil_behind (λ bytes. entry_children_at right (length children) bytes)
    (flat_map entry_child_bytes children) children (keyed.children_again right children [] is))
body_again right stamp (body.PostLeaf high items) is =
    ap (λ (r : Read (ℕ × List ℕ)). r >>= λ p. Ok (body.PostLeaf p.0.0 p.0.1, p.1))
    (nil_behind (λ bytes. posting_at right (length (items_of items)) bytes) (u32_bytes high ++ items) (high, items)
    (posted.leaf_again right high items [] is.0 is.1))
body_again right stamp (body.PostInner children) is =
    ap (λ (r : Read (List PostChild)). r >>= λ c. Ok (body.PostInner c.0, c.1))
    (nil_behind (λ bytes. post_children_at right (length children) bytes)
    (flat_map post_child_bytes children) children (posted.children_again right children [] is))
body_again right stamp (body.Deleted g) is = gone_again right g is
