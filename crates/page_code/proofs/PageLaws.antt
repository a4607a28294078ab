-- A page that is read is encoded so, and a page that is encoded so is read.
use Rattle.std.proofs.Common.{◌≡◌, ◌≢◌, ℕ, zero, suc, ◌+◌, ◌-◌, ◌*◌, ◌^◌, ◌<◌, ◌≤◌, Bool, true, false, cond, eqb, ltb}
use Rattle.std.proofs.Common.{List, [], ◌∷◌, ◌++◌, length, Option, Some, None, Result, Ok, Err, refl, sym, ap, subst}
use Rattle.std.proofs.Common.{◌∙◌, append_assoc, arith}
use Rattle.std.specs.Prelude.{nat_le, IfOk}
use Rattle.std.specs.List.{slice_get}
use Rattle.std.proofs.lemmas.Bool.{leb-true, le-leb, ltb-true, lt-ltb, le-ltb, eqb-true, eq-eqb}
use Rattle.std.proofs.lemmas.List.{append-nil, nil_from_length}
use Rattle.page_types.specs.Numbers.{u16_bytes, u32_bytes, u64_bytes, zeros}
use Rattle.page_types.specs.Encoding.{kind_of, was_of, count_of, body_bytes, front_bytes, framed, page_bytes}
use Rattle.page_types.specs.Pages.{IsBody, IsPage}
use Rattle.page_types.specs.Fields.{◌>>=◌, number_at, bytes_at, tested}
use Rattle.page_types.specs.declared.page.Page.{Page}
use Rattle.page_types.specs.declared.page.Body.{Body}
use Rattle.page_types.specs.declared.page.Body.TheVariants as body
use Rattle.page_types.specs.declared.page.Gone.{Gone}
use Rattle.page_types.specs.declared.page.Gone.TheVariants as gone
use Rattle.page_types.proofs.FieldReading.{IsBytes, bind_ok, tested_ok, Takes, Takes-then, bytes_take, bytes_again}
use Rattle.page_types.proofs.FieldReading.{u16_takes, u32_takes, u64_takes, u16_again, u32_again, u64_again}
use Rattle.page_code.specs.declared.form.Form.{Form}
use Rattle.page_code.specs.declared.form.Form.TheVariants as form
use Rattle.page_code.specs.declared.error.PageError.{PageError}
use Rattle.page_code.specs.Fields.{Read, zeros_at}
use Rattle.page_code.specs.Forms.{gone_forms, live_forms, joined_option, live_form, form_with, count_fits, fits_free}
use Rattle.page_code.specs.Forms.{right_fits}
use Rattle.page_code.specs.Bodies.{in_part, body_at, whole_body_at}
use Rattle.page_code.specs.Reading.{kind_at, known_at, was_at, form_at, count_at, right_at, stamp_at, used_length_at}
use Rattle.page_code.specs.Reading.{framed_at, front_at, page_at}
use Rattle.page_code.specs.Decoding.{Answers, placed}
use Rattle.page_code.specs.Laws.{AreBytes, Encodes, ReadingIsEncoded, EncodingIsRead}
use Rattle.page_code.proofs.Passing.{and_parts, and_both}
use Rattle.page_code.proofs.FieldLaws.{tested_again, zeros_take, zeros_again}
use Rattle.page_code.proofs.EntryLaws.{part_ok, part_fits}
use Rattle.page_code.proofs.Lists.{ok_is}
use Rattle.page_code.proofs.BodyLaws.{form_kind, form_was, gone_form, body_form, Allows, TakesBody, body_takes}
use Rattle.page_code.proofs.BodyLaws.{body_again}

-- ---- bytes

sum_is : (b n : ℕ) → b + 0 ≡ n → b ≡ n
sum_is b n e = omega (arith, e)

byte_takes : (bytes : List ℕ) (n : ℕ) (rest : List ℕ) → IsBytes bytes → number_at 1 bytes ≡ Ok (n, rest)
    → Takes bytes (n ∷ []) rest
unfolding number_at
byte_takes [] n rest fits e = absurd cc
byte_takes (b ∷ bs) n rest fits e =
    let room : ltb (length (b ∷ bs)) 1 ≡ false = le-ltb (length (b ∷ bs)) 1 (omega arith) in
    let whole = ok_is (b + 256 * 0, bs) (n, rest) (rw room at e) in
    let number : b ≡ n = sum_is b n (ap (λ (p : ℕ × List ℕ). p.0) whole) in
    let tails : bs ≡ rest = ap (λ (p : ℕ × List ℕ). p.1) whole in
    record {
      parts = ap (λ k. k ∷ bs) number ∙ ap (λ (t : List ℕ). n ∷ t) tails;
      rest_fits = subst IsBytes tails (λ i. fits (suc i));
    }

byte_again : (n : ℕ) (rest : List ℕ) → number_at 1 (n ∷ rest) ≡ Ok (n, rest)
unfolding number_at
byte_again n rest =
    let room : ltb (length (n ∷ rest)) 1 ≡ false = le-ltb (length (n ∷ rest)) 1 (omega arith) in
    let sum : n + 256 * 0 ≡ n = omega arith in
    rw room (ap (λ k. Ok (k, rest)) sum)

-- ---- forms

-- a form with the kinds that it has
record IsForm (kind was : ℕ) (f : Form) : Type 0 where
  kind_is : form_kind f ≡ kind
  was_is : form_was f ≡ was

some_is : (f g : Form) → Some f ≡ Some g → f ≡ g
some_is f g e = cc

same_form : (kind was : ℕ) (f g : Form) → IsForm kind was f → Some f ≡ Some g → IsForm kind was g
same_form kind was f g is e = subst (λ (h : Form). IsForm kind was h) (some_is f g e) is

gone_is : (was : ℕ) (f : Form) → joined_option (slice_get gone_forms was) ≡ Some f → IsForm 9 was f
gone_is zero f e = absurd cc
gone_is (suc zero) f e = absurd cc
gone_is (suc (suc zero)) f e = absurd cc
gone_is (suc (suc (suc zero))) f e = same_form 9 3 form.GoneOverflow f (record { kind_is = refl; was_is = refl }) e
gone_is (suc (suc (suc (suc zero)))) f e = same_form 9 4 form.GonePending f (record { kind_is = refl; was_is = refl }) e
gone_is (suc (suc (suc (suc (suc zero))))) f e = absurd cc
gone_is (suc (suc (suc (suc (suc (suc zero)))))) f e = absurd cc
gone_is (suc (suc (suc (suc (suc (suc (suc zero))))))) f e =
    same_form 9 7 form.GonePostLeaf f (record { kind_is = refl; was_is = refl }) e
gone_is (suc (suc (suc (suc (suc (suc (suc (suc n)))))))) f e = absurd cc

kind_is : (kind : ℕ) (f : Form) → slice_get live_forms kind ≡ Some f → IsForm kind 0 f
kind_is zero f e = same_form 0 0 form.Free f (record { kind_is = refl; was_is = refl }) e
kind_is (suc zero) f e = same_form 1 0 form.Meta f (record { kind_is = refl; was_is = refl }) e
kind_is (suc (suc zero)) f e = same_form 2 0 form.Heap f (record { kind_is = refl; was_is = refl }) e
kind_is (suc (suc (suc zero))) f e = same_form 3 0 form.Overflow f (record { kind_is = refl; was_is = refl }) e
kind_is (suc (suc (suc (suc zero)))) f e = same_form 4 0 form.Pending f (record { kind_is = refl; was_is = refl }) e
kind_is (suc (suc (suc (suc (suc zero))))) f e =
    same_form 5 0 form.EntryLeaf f (record { kind_is = refl; was_is = refl }) e
kind_is (suc (suc (suc (suc (suc (suc zero)))))) f e =
    same_form 6 0 form.EntryInner f (record { kind_is = refl; was_is = refl }) e
kind_is (suc (suc (suc (suc (suc (suc (suc zero))))))) f e =
    same_form 7 0 form.PostLeaf f (record { kind_is = refl; was_is = refl }) e
kind_is (suc (suc (suc (suc (suc (suc (suc (suc zero)))))))) f e =
    same_form 8 0 form.PostInner f (record { kind_is = refl; was_is = refl }) e
kind_is (suc (suc (suc (suc (suc (suc (suc (suc (suc n))))))))) f e = absurd cc

live_is : (kind was : ℕ) (f : Form) → live_form kind was ≡ Some f → IsForm kind was f
live_is kind zero f e = kind_is kind f e
live_is kind (suc was) f e = absurd cc

form_by : (b : Bool) (kind was : ℕ) (f : Form) → eqb kind 9 ≡ b
    → cond b (joined_option (slice_get gone_forms was)) (live_form kind was) ≡ Some f → IsForm kind was f
form_by true kind was f is e = subst (λ (k : ℕ). IsForm k was f) (sym (eqb-true _ _ is)) (gone_is was f e)
form_by false kind was f is e = live_is kind was f e

known_ok : (bytes : List ℕ) (o : Option Form) (rest : List ℕ) (x : Form × List ℕ) → known_at bytes o rest ≡ Ok x
    → (o ≡ Some x.0) × (rest ≡ x.1)
known_ok bytes (Some f) rest x e =
    let same = ok_is (f, rest) x e in
    (ap (λ (p : Form × List ℕ). Some p.0) same, ap (λ (p : Form × List ℕ). p.1) same)
known_ok bytes None rest x e = absurd cc

kind_takes : (bytes : List ℕ) (x : ℕ × List ℕ) → IsBytes bytes → kind_at bytes ≡ Ok x → Takes bytes (x.0 ∷ []) x.1
unfolding kind_at
kind_takes bytes x fits e =
    let a = bind_ok (number_at 1 bytes) (λ k. tested (nat_le k.0 9) bytes k) x e in
    let g = tested_ok (nat_le a.0.0 9) bytes a.0 x a.2 in
    subst (λ (y : ℕ × List ℕ). Takes bytes (y.0 ∷ []) y.1) g.1 (byte_takes bytes a.0.0 a.0.1 fits a.1)

was_takes : (kind : ℕ) (bytes : List ℕ) (x : Form × List ℕ) → IsBytes bytes → was_at kind bytes ≡ Ok x
    → Takes bytes (form_was x.0 ∷ []) x.1 × (form_kind x.0 ≡ kind)
unfolding was_at
was_takes kind bytes x fits e =
    let a = bind_ok (number_at 1 bytes) (λ w. known_at bytes (form_with kind w.0) w.1) x e in
    let k = known_ok bytes (form_with kind a.0.0) a.0.1 x a.2 in
    let f = form_by (eqb kind 9) kind a.0.0 x.0 refl k.0 in
    let t = byte_takes bytes a.0.0 a.0.1 fits a.1 in
    let P : ℕ → List ℕ → Type 0 = λ n r. Takes bytes (n ∷ []) r in
    (subst (λ n. P n x.1) (sym f.was_is) (subst (P a.0.0) k.1 t), f.kind_is)

form_takes : (bytes : List ℕ) (x : Form × List ℕ) → IsBytes bytes → form_at bytes ≡ Ok x
    → Takes bytes (form_kind x.0 ∷ form_was x.0 ∷ []) x.1
unfolding form_at
form_takes bytes x fits e =
    let k = bind_ok (kind_at bytes) (λ k. was_at k.0 k.1) x e in
    let t0 = kind_takes bytes k.0 fits k.1 in
    let t1 = was_takes k.0.0 k.0.1 x t0.rest_fits k.2 in
    let both = Takes-then bytes (k.0.0 ∷ []) k.0.1 (form_was x.0 ∷ []) x.1 t0 t1.0 in
    subst (λ (n : ℕ). Takes bytes (n ∷ form_was x.0 ∷ []) x.1) (sym t1.1) both

gone_with : (g : Gone) → form_with 9 (was_of (body.Deleted g)) ≡ Some (gone_form g)
gone_with (gone.Overflow bytes) = refl
gone_with (gone.Pending rows) = refl
gone_with (gone.PostLeaf high items) = refl

body_with : (b : Body) → form_with (kind_of b) (was_of b) ≡ Some (body_form b)
body_with body.Free = refl
body_with (body.Meta first last pages) = refl
body_with (body.Heap slots) = refl
body_with (body.Overflow bytes) = refl
body_with (body.Pending rows) = refl
body_with (body.EntryLeaf high entries) = refl
body_with (body.EntryInner children) = refl
body_with (body.PostLeaf high items) = refl
body_with (body.PostInner children) = refl
body_with (body.Deleted g) = gone_with g

least_kind : (b : Body) → nat_le (kind_of b) 9 ≡ true
least_kind body.Free = refl
least_kind (body.Meta first last pages) = refl
least_kind (body.Heap slots) = refl
least_kind (body.Overflow bytes) = refl
least_kind (body.Pending rows) = refl
least_kind (body.EntryLeaf high entries) = refl
least_kind (body.EntryInner children) = refl
least_kind (body.PostLeaf high items) = refl
least_kind (body.PostInner children) = refl
least_kind (body.Deleted g) = refl

form_again : (b : Body) (rest : List ℕ) → form_at (kind_of b ∷ was_of b ∷ rest) ≡ Ok (body_form b, rest)
unfolding form_at kind_at was_at
form_again b rest =
    ap (λ (r : Read ℕ). (r >>= λ k. tested (nat_le k.0 9) (kind_of b ∷ was_of b ∷ rest) k) >>= λ k. was_at k.0 k.1)
    (byte_again (kind_of b) (was_of b ∷ rest))
    ∙ ap (λ (r : Read ℕ). r >>= λ k. was_at k.0 k.1)
    (tested_again (nat_le (kind_of b) 9) (kind_of b ∷ was_of b ∷ rest) (kind_of b, was_of b ∷ rest) (least_kind b))
    ∙ ap (λ (r : Read ℕ). r >>= λ w. known_at (was_of b ∷ rest) (form_with (kind_of b) w.0) w.1)
    (byte_again (was_of b) rest)
    ∙ ap (λ (o : Option Form). known_at (was_of b ∷ rest) o rest) (body_with b)

-- what a body has, its form has
gone_kinds : (g : Gone) → (form_kind (gone_form g) ≡ 9) × (form_was (gone_form g) ≡ was_of (body.Deleted g))
gone_kinds (gone.Overflow bytes) = (refl, refl)
gone_kinds (gone.Pending rows) = (refl, refl)
gone_kinds (gone.PostLeaf high items) = (refl, refl)

body_kinds : (b : Body) → (form_kind (body_form b) ≡ kind_of b) × (form_was (body_form b) ≡ was_of b)
body_kinds body.Free = (refl, refl)
body_kinds (body.Meta first last pages) = (refl, refl)
body_kinds (body.Heap slots) = (refl, refl)
body_kinds (body.Overflow bytes) = (refl, refl)
body_kinds (body.Pending rows) = (refl, refl)
body_kinds (body.EntryLeaf high entries) = (refl, refl)
body_kinds (body.EntryInner children) = (refl, refl)
body_kinds (body.PostLeaf high items) = (refl, refl)
body_kinds (body.PostInner children) = (refl, refl)
body_kinds (body.Deleted g) = gone_kinds g

children_some : {A : Type 0} (xs : List A) → xs ≢ [] → ltb 0 (length xs) ≡ true
children_some [] h = absurd (h refl)
children_some (x ∷ xs) h = lt-ltb 0 (length (x ∷ xs)) (omega arith)

gone_allows : (right stamp : ℕ) (g : Gone) → Allows (gone_form g) right stamp (count_of (body.Deleted g))
gone_allows right stamp (gone.Overflow bytes) = record { count_is = refl; right_is = refl; stamp_is = refl }
gone_allows right stamp (gone.Pending rows) = record { count_is = refl; right_is = refl; stamp_is = refl }
gone_allows right stamp (gone.PostLeaf high items) = record { count_is = refl; right_is = refl; stamp_is = refl }

allows : (right stamp : ℕ) (b : Body) → IsBody right stamp b → Allows (body_form b) right stamp (count_of b)
allows right stamp body.Free is = record { count_is = refl; right_is = eq-eqb _ _ is.0; stamp_is = eq-eqb _ _ is.1 }
allows right stamp (body.Meta first last pages) is = record { count_is = refl; right_is = refl; stamp_is = refl }
allows right stamp (body.Heap slots) is = record { count_is = le-leb _ _ is.0; right_is = refl; stamp_is = refl }
allows right stamp (body.Overflow bytes) is = record { count_is = refl; right_is = refl; stamp_is = refl }
allows right stamp (body.Pending rows) is = record { count_is = refl; right_is = refl; stamp_is = refl }
allows right stamp (body.EntryLeaf high entries) is = record { count_is = refl; right_is = refl; stamp_is = refl }
allows right stamp (body.EntryInner children) is =
    record { count_is = children_some children is.some; right_is = refl; stamp_is = refl }
allows right stamp (body.PostLeaf high items) is = record { count_is = refl; right_is = refl; stamp_is = refl }
allows right stamp (body.PostInner children) is =
    record { count_is = children_some children is.some; right_is = refl; stamp_is = refl }
allows right stamp (body.Deleted g) is = gone_allows right stamp g

-- ---- the fields before a body

count_takes : (f : Form) (bytes : List ℕ) (x : ℕ × List ℕ) → IsBytes bytes → count_at f bytes ≡ Ok x
    → Takes bytes (u16_bytes x.0) x.1 × (x.0 < 2 ^ 16) × (count_fits f x.0 ≡ true)
unfolding count_at
count_takes f bytes x fits e =
    let a = bind_ok (number_at 2 bytes) (λ n. tested (count_fits f n.0) bytes n) x e in
    let g = tested_ok (count_fits f a.0.0) bytes a.0 x a.2 in
    let t = u16_takes bytes a.0.0 a.0.1 fits a.1 in
    subst (λ (y : ℕ × List ℕ). Takes bytes (u16_bytes y.0) y.1 × (y.0 < 2 ^ 16) × (count_fits f y.0 ≡ true)) g.1
    (t.0, t.1, g.0)

count_again : (f : Form) (n : ℕ) (rest : List ℕ) → n < 2 ^ 16 → count_fits f n ≡ true
    → count_at f (u16_bytes n ++ rest) ≡ Ok (n, rest)
unfolding count_at
count_again f n rest lt is = ap (λ (r : Read ℕ). r >>= λ m. tested (count_fits f m.0) (u16_bytes n ++ rest) m)
    (u16_again n rest lt) ∙ tested_again (count_fits f n) (u16_bytes n ++ rest) (n, rest) is

right_takes : (f : Form) (bytes : List ℕ) (x : ℕ × List ℕ) → IsBytes bytes → right_at f bytes ≡ Ok x
    → Takes bytes (u32_bytes x.0) x.1 × (x.0 < 1048576) × (fits_free f x.0 ≡ true)
unfolding right_at
right_takes f bytes x fits e =
    let a = bind_ok (number_at 4 bytes) (λ n. tested (right_fits f n.0) bytes n) x e in
    let g = tested_ok (right_fits f a.0.0) bytes a.0 x a.2 in
    let both = and_parts (ltb a.0.0 1048576) (fits_free f a.0.0) g.0 in
    let t = u32_takes bytes a.0.0 a.0.1 fits a.1 in
    subst (λ (y : ℕ × List ℕ). Takes bytes (u32_bytes y.0) y.1 × (y.0 < 1048576) × (fits_free f y.0 ≡ true)) g.1
    (t.0, ltb-true _ _ both.0, both.1)

right_again : (f : Form) (n : ℕ) (rest : List ℕ) → n < 1048576 → fits_free f n ≡ true
    → right_at f (u32_bytes n ++ rest) ≡ Ok (n, rest)
unfolding right_at
right_again f n rest lt is =
    ap (λ (r : Read ℕ). r >>= λ m. tested (right_fits f m.0) (u32_bytes n ++ rest) m) (u32_again n rest (omega arith))
    ∙ tested_again (right_fits f n) (u32_bytes n ++ rest) (n, rest) (and_both _ _ (lt-ltb _ _ lt) is)

stamp_takes : (f : Form) (bytes : List ℕ) (x : ℕ × List ℕ) → IsBytes bytes → stamp_at f bytes ≡ Ok x
    → Takes bytes (u64_bytes x.0) x.1 × (x.0 < 2 ^ 64) × (fits_free f x.0 ≡ true)
unfolding stamp_at
stamp_takes f bytes x fits e =
    let a = bind_ok (number_at 8 bytes) (λ n. tested (fits_free f n.0) bytes n) x e in
    let g = tested_ok (fits_free f a.0.0) bytes a.0 x a.2 in
    let t = u64_takes bytes a.0.0 a.0.1 fits a.1 in
    subst (λ (y : ℕ × List ℕ). Takes bytes (u64_bytes y.0) y.1 × (y.0 < 2 ^ 64) × (fits_free f y.0 ≡ true)) g.1
    (t.0, t.1, g.0)

stamp_again : (f : Form) (n : ℕ) (rest : List ℕ) → n < 2 ^ 64 → fits_free f n ≡ true
    → stamp_at f (u64_bytes n ++ rest) ≡ Ok (n, rest)
unfolding stamp_at
stamp_again f n rest lt is = ap (λ (r : Read ℕ). r >>= λ m. tested (fits_free f m.0) (u64_bytes n ++ rest) m)
    (u64_again n rest lt) ∙ tested_again (fits_free f n) (u64_bytes n ++ rest) (n, rest) is

-- the used length and the zero gap
record TakesUsed (bytes : List ℕ) (used : ℕ) (rest : List ℕ) : Type 0 where
  behind : List ℕ
  used_takes : Takes bytes (u16_bytes used) behind
  fits : used ≤ 8168
  gap_takes : Takes behind (zeros 6) rest

used_take : (bytes : List ℕ) (x : ℕ × List ℕ) → IsBytes bytes → used_length_at bytes ≡ Ok x → TakesUsed bytes x.0 x.1
unfolding used_length_at
used_take bytes x fits e =
    let a = bind_ok (number_at 2 bytes)
    (λ n. tested (nat_le n.0 8168) bytes n >>= λ u. zeros_at 6 u.1 >>= λ r. Ok (u.0, r)) x e in
    let u = bind_ok (tested (nat_le a.0.0 8168) bytes a.0) (λ u. zeros_at 6 u.1 >>= λ r. Ok (u.0, r)) x a.2 in
    let z = bind_ok (zeros_at 6 u.0.1) (λ r. Ok (u.0.0, r)) x u.2 in
    let g = tested_ok (nat_le a.0.0 8168) bytes a.0 u.0 u.1 in
    let t0 = u16_takes bytes a.0.0 a.0.1 fits a.1 in
    let t : Takes bytes (u16_bytes u.0.0) u.0.1 =
    subst (λ (y : ℕ × List ℕ). Takes bytes (u16_bytes y.0) y.1) g.1 t0.0 in
    let le : u.0.0 ≤ 8168 = subst (λ (y : ℕ × List ℕ). y.0 ≤ 8168) g.1 (leb-true _ _ g.0) in
    let made : ℕ × List ℕ = (u.0.0, z.0) in
    let whole : TakesUsed bytes u.0.0 z.0 =
    record { behind = u.0.1; used_takes = t; fits = le; gap_takes = zeros_take 6 u.0.1 z.0 t.rest_fits z.1 } in
    subst (λ (y : ℕ × List ℕ). TakesUsed bytes y.0 y.1) (ok_is made x z.2) whole

used_again : (n : ℕ) (rest : List ℕ) → n ≤ 8168 → used_length_at (u16_bytes n ++ (zeros 6 ++ rest)) ≡ Ok (n, rest)
unfolding used_length_at
used_again n rest le =
    rw (u16_again n (zeros 6 ++ rest) (omega arith), le-leb n 8168 le)
    (ap (λ (r : Result (List ℕ) ℕ). r >>= λ t. Ok (n, t)) (zeros_again 6 rest))

-- ---- a body and the zeros after it

whole_takes : (f : Form) (right stamp count : ℕ) (bytes : List ℕ) (b : Body) → IsBytes bytes
    → Allows f right stamp count → whole_body_at f right count bytes ≡ Ok b → TakesBody f right stamp count bytes b []
unfolding whole_body_at
whole_takes f right stamp count bytes b fits a e =
    let r = bind_ok (body_at f right count bytes) (λ x. cond (eqb (length x.1) 0) (Ok x.0) (Err (length x.1))) b e in
    let g = held (eqb (length r.0.1) 0) (length r.0.1) r.0.0 b r.2 in
    let t = body_takes f right stamp count bytes r.0 fits a r.1 in
    let none : r.0.1 ≡ [] = nil_from_length r.0.1 (eqb-true _ _ g.0) in
    let P : Body → List ℕ → Type 0 = λ x l. TakesBody f right stamp count bytes x l in
    subst (λ x. P x []) g.1 (subst (P r.0.0) none t)
  where
    held : (b : Bool) (d : ℕ) (x y : Body) → cond b (Ok x) (Err d) ≡ Ok y → (b ≡ true) × (x ≡ y)
    held true d x y e = (refl, ok_is x y e)
    held false d x y e = absurd cc

whole_again : (right stamp : ℕ) (b : Body) → IsBody right stamp b
    → whole_body_at (body_form b) right (count_of b) (body_bytes b) ≡ Ok b
unfolding whole_body_at
whole_again right stamp b is = ap (λ (r : Read Body). r >>= λ x. cond (eqb (length x.1) 0) (Ok x.0) (Err (length x.1)))
    (body_again right stamp b is)

record TakesFramed (f : Form) (right stamp count used : ℕ) (bytes : List ℕ) (b : Body) (rest : List ℕ) : Type 0 where
  behind : List ℕ
  body_takes : Takes bytes (body_bytes b) behind
  zeros_take : Takes behind (zeros (8168 - used)) rest
  size : length (body_bytes b) ≡ used
  fits : IsBody right stamp b
  form_is : body_form b ≡ f
  many : count_of b ≡ count

framed_take : (f : Form) (right stamp count used : ℕ) (bytes : List ℕ) (x : Body × List ℕ)
    → IsBytes bytes → Allows f right stamp count → framed_at f right count used bytes ≡ Ok x
    → TakesFramed f right stamp count used bytes x.0 x.1
unfolding framed_at
framed_take f right stamp count used bytes x fits a e =
    let t = bind_ok (bytes_at used bytes) (λ t. in_part bytes t.0 (whole_body_at f right count t.0) >>= λ b. zeros_at
    (8168 - used) t.1 >>= λ r. Ok (b, r)) x e in
    let b = bind_ok (in_part bytes t.0.0 (whole_body_at f right count t.0.0))
    (λ b. zeros_at (8168 - used) t.0.1 >>= λ r. Ok (b, r)) x t.2 in
    let r = bind_ok (zeros_at (8168 - used) t.0.1) (λ r. Ok (b.0, r)) x b.2 in
    let t0 = bytes_take used bytes t.0.0 t.0.1 fits t.1 in
    let t1 = whole_takes f right stamp count t.0.0 b.0 (part_fits bytes t.0.0 t.0.1 fits t0.0.parts) a
    (part_ok bytes t.0.0 (whole_body_at f right count t.0.0) b.0 b.1) in
    let text : t.0.0 ≡ body_bytes b.0 = t1.takes.parts ∙ append-nil (body_bytes b.0) in
    let made : Body × List ℕ = (b.0, r.0) in
    let whole : TakesFramed f right stamp count used bytes b.0 r.0 = record {
      behind = t.0.1;
      body_takes = subst (λ (l : List ℕ). Takes bytes l t.0.1) text t0.0;
      zeros_take = zeros_take (8168 - used) t.0.1 r.0 t0.0.rest_fits r.1;
      size = sym (ap length text) ∙ t0.1;
      fits = t1.fits;
      form_is = t1.form_is;
      many = t1.many;
    } in
    subst (λ (y : Body × List ℕ). TakesFramed f right stamp count used bytes y.0 y.1) (ok_is made x r.2) whole

framed_again : (right stamp used : ℕ) (b : Body) (rest : List ℕ) → IsBody right stamp b → length (body_bytes b) ≡ used
    → framed_at (body_form b) right (count_of b) used (body_bytes b ++ (zeros (8168 - used) ++ rest)) ≡ Ok (b, rest)
unfolding framed_at
framed_again right stamp used b rest is size =
    rw (bytes_again used (body_bytes b) (zeros (8168 - used) ++ rest) size, whole_again right stamp b is)
    (ap (λ (r : Result (List ℕ) ℕ). r >>= λ t. Ok (b, t)) (zeros_again (8168 - used) rest))

-- ---- pages

page_of : ℕ → ℕ → Body → Page
page_of right stamp b = record { right = right; stamp = stamp; body = b }

-- the fields of a page, each taken in its turn
page_encoded : (bytes r1 r2 r3 r4 r5 rest : List ℕ) (f : Form) (count right stamp used : ℕ) (b : Body)
    → Takes bytes (form_kind f ∷ form_was f ∷ []) r1 → Takes r1 (u16_bytes count) r2 → count < 2 ^ 16
    → Takes r2 (u32_bytes right) r3 → right < 1048576 → Takes r3 (u64_bytes stamp) r4 → stamp < 2 ^ 64
    → TakesUsed r4 used r5 → TakesFramed f right stamp count used r5 b rest
    → Takes bytes (page_bytes (page_of right stamp b)) rest × IsPage (page_of right stamp b)
unfolding page_of page_bytes framed front_bytes
page_encoded bytes r1 r2 r3 r4 r5 rest f count right stamp used b t0 t1 few t2 small t3 fits u w =
    let kinds = body_kinds b in
    let kind : form_kind f ≡ kind_of b = ap form_kind (sym w.form_is) ∙ kinds.0 in
    let was : form_was f ≡ was_of b = ap form_was (sym w.form_is) ∙ kinds.1 in
    let s0 : Takes bytes (kind_of b ∷ was_of b ∷ []) r1 = subst (λ n. Takes bytes (n ∷ was_of b ∷ []) r1) kind
    (subst (λ n. Takes bytes (form_kind f ∷ n ∷ []) r1) was t0) in
    let s1 : Takes r1 (u16_bytes (count_of b)) r2 = subst (λ n. Takes r1 (u16_bytes n) r2) (sym w.many) t1 in
    let s4 : Takes r4 (u16_bytes (length (body_bytes b))) u.behind =
    subst (λ n. Takes r4 (u16_bytes n) u.behind) (sym w.size) u.used_takes in
    let s7 : Takes w.behind (zeros (8168 - length (body_bytes b))) rest =
    subst (λ n. Takes w.behind (zeros (8168 - n)) rest) (sym w.size) w.zeros_take in
    let e6 = Takes-then r5 (body_bytes b) w.behind (zeros (8168 - length (body_bytes b))) rest w.body_takes s7 in
    let e5 =
    Takes-then u.behind (zeros 6) r5 (body_bytes b ++ zeros (8168 - length (body_bytes b))) rest u.gap_takes e6 in
    let e4 = Takes-then r4 (u16_bytes (length (body_bytes b))) u.behind
    (zeros 6 ++ (body_bytes b ++ zeros (8168 - length (body_bytes b)))) rest s4 e5 in
    let e3 = Takes-then r3 (u64_bytes stamp) r4 (u16_bytes (length (body_bytes b))
    ++ (zeros 6 ++ (body_bytes b ++ zeros (8168 - length (body_bytes b))))) rest t3 e4 in
    let e1 = Takes-then r1 (u16_bytes (count_of b)) r2 (u32_bytes right) r3 s1 t2 in
    let e0 = Takes-then bytes (kind_of b ∷ was_of b ∷ []) r1 (u16_bytes (count_of b) ++ u32_bytes right) r3 s0 e1 in
    let all = Takes-then bytes (kind_of b ∷ was_of b ∷ (u16_bytes (count_of b) ++ u32_bytes right)) r3 (u64_bytes stamp
    ++ (u16_bytes (length (body_bytes b)) ++ (zeros 6 ++ (body_bytes b ++ zeros (8168 - length (body_bytes b))))))
    rest e0 e3 in
    let used_fits = u.fits in (
      all,
      record {
        right = small;
        stamp = fits;
        body = w.fits;
        count = omega (arith, w.many, few);
        fits = omega (arith, w.size, used_fits);
      },
    )

-- the fields after the count
record TakesLater (f : Form) (count : ℕ) (bytes : List ℕ) (p : Page) (rest : List ℕ) : Type 0 where
  right : ℕ
  stamp : ℕ
  used : ℕ
  b : Body
  r3 : List ℕ
  r4 : List ℕ
  r5 : List ℕ
  page_is : p ≡ page_of right stamp b
  right_takes : Takes bytes (u32_bytes right) r3
  right_fits : right < 1048576
  stamp_takes : Takes r3 (u64_bytes stamp) r4
  stamp_fits : stamp < 2 ^ 64
  used_takes : TakesUsed r4 used r5
  framed_takes : TakesFramed f right stamp count used r5 b rest

later_takes : (f : Form) (count : ℕ) (bytes : List ℕ) (x : Page × List ℕ) → IsBytes bytes → count_fits f count ≡ true
    → (right_at f bytes >>= λ r. stamp_at f r.1 >>= λ s. used_length_at s.1 >>= λ u. framed_at f r.0 count u.0 u.1
    >>= λ b. Ok (record { right = r.0; stamp = s.0; body = b.0 }, b.1)) ≡ Ok x → TakesLater f count bytes x.0 x.1
unfolding page_of
later_takes f count bytes x fits counted e =
    let r = bind_ok (right_at f bytes) (λ r. stamp_at f r.1 >>= λ s. used_length_at s.1 >>= λ u.
    framed_at f r.0 count u.0 u.1 >>= λ b. Ok (record { right = r.0; stamp = s.0; body = b.0 }, b.1)) x e in
    let s = bind_ok (stamp_at f r.0.1) (λ s. used_length_at s.1 >>= λ u. framed_at f r.0.0 count u.0 u.1 >>= λ b. Ok
    (record { right = r.0.0; stamp = s.0; body = b.0 }, b.1)) x r.2 in
    let u = bind_ok (used_length_at s.0.1) (λ u. framed_at f r.0.0 count u.0 u.1 >>= λ b. Ok
    (record { right = r.0.0; stamp = s.0.0; body = b.0 }, b.1)) x s.2 in
    let b = bind_ok (framed_at f r.0.0 count u.0.0 u.0.1)
    (λ b. Ok (record { right = r.0.0; stamp = s.0.0; body = b.0 }, b.1)) x u.2 in
    let t2 = right_takes f bytes r.0 fits r.1 in
    let t3 = stamp_takes f r.0.1 s.0 t2.0.rest_fits s.1 in
    let t4 = used_take s.0.1 u.0 t3.0.rest_fits u.1 in
    let allowed : Allows f r.0.0 s.0.0 count = record { count_is = counted; right_is = t2.2; stamp_is = t3.2 } in
    let t5 = framed_take f r.0.0 s.0.0 count u.0.0 u.0.1 b.0 t4.gap_takes.rest_fits allowed b.1 in
    let made : Page × List ℕ = (record { right = r.0.0; stamp = s.0.0; body = b.0.0 }, b.0.1) in
    let same : made ≡ x = ok_is made x b.2 in
    record {
      right = r.0.0;
      stamp = s.0.0;
      used = u.0.0;
      b = b.0.0;
      r3 = r.0.1;
      r4 = s.0.1;
      r5 = u.0.1;
      page_is = sym (ap (λ (y : Page × List ℕ). y.0) same);
      right_takes = t2.0;
      right_fits = t2.1;
      stamp_takes = t3.0;
      stamp_fits = t3.1;
      used_takes = t4;
      framed_takes = subst (λ (l : List ℕ). TakesFramed f r.0.0 s.0.0 count u.0.0 u.0.1 b.0.0 l)
          (ap (λ (y : Page × List ℕ). y.1) same) t5;
    }

page_regrouped : (k w : ℕ) (c r s u z b e t : List ℕ) → ((k ∷ w ∷ (c ++ r)) ++ (s ++ (u ++ (z ++ (b ++ e))))) ++ t
    ≡ k ∷ w ∷ (c ++ (r ++ (s ++ (u ++ (z ++ (b ++ (e ++ t)))))))
page_regrouped k w c r s u z b e t = simp append_assoc

front_takes : (bytes : List ℕ) (x : Page × List ℕ) → IsBytes bytes → front_at bytes ≡ Ok x
    → Takes bytes (page_bytes x.0) x.1 × IsPage x.0
unfolding front_at
front_takes bytes x fits e =
    let f = bind_ok (form_at bytes)
    (λ f. count_at f.0 f.1 >>= λ c. right_at f.0 c.1 >>= λ r. stamp_at f.0 r.1 >>= λ s. used_length_at s.1 >>= λ u.
    framed_at f.0 r.0 c.0 u.0 u.1 >>= λ b. Ok (record { right = r.0; stamp = s.0; body = b.0 }, b.1)) x e in
    let c = bind_ok (count_at f.0.0 f.0.1)
    (λ c. right_at f.0.0 c.1 >>= λ r. stamp_at f.0.0 r.1 >>= λ s. used_length_at s.1 >>= λ u.
    framed_at f.0.0 r.0 c.0 u.0 u.1 >>= λ b. Ok (record { right = r.0; stamp = s.0; body = b.0 }, b.1)) x f.2 in
    let t0 = form_takes bytes f.0 fits f.1 in
    let t1 = count_takes f.0.0 f.0.1 c.0 t0.rest_fits c.1 in
    let t = later_takes f.0.0 c.0.0 c.0.1 x t1.0.rest_fits t1.2 c.2 in
    let whole = page_encoded bytes f.0.1 c.0.1 t.r3 t.r4 t.r5 x.1 f.0.0 c.0.0 t.right t.stamp t.used t.b t0 t1.0 t1.1
    t.right_takes t.right_fits t.stamp_takes t.stamp_fits t.used_takes t.framed_takes in
    subst (λ (p : Page). Takes bytes (page_bytes p) x.1 × IsPage p) (sym t.page_is) whole

page_again : (p : Page) (rest : List ℕ) → IsPage p → front_at (page_bytes p ++ rest) ≡ Ok (p, rest)
unfolding front_at page_bytes framed front_bytes
page_again p rest is =
    let a = allows p.right p.stamp p.body is.body in
    let size : List ℕ = body_bytes p.body in
    let regrouped = page_regrouped (kind_of p.body) (was_of p.body) (u16_bytes (count_of p.body)) (u32_bytes p.right)
    (u64_bytes p.stamp) (u16_bytes (length (body_bytes p.body))) (zeros 6) (body_bytes p.body)
    (zeros (8168 - length (body_bytes p.body))) rest in
    ap front_at regrouped
    ∙ rw (
      form_again p.body (u16_bytes (count_of p.body)
          ++ (u32_bytes p.right ++ (u64_bytes p.stamp ++ (u16_bytes (length (body_bytes p.body))
          ++ (zeros 6 ++ (body_bytes p.body ++ (zeros (8168 - length (body_bytes p.body)) ++ rest))))))),
      count_again (body_form p.body) (count_of p.body)
          (u32_bytes p.right ++ (u64_bytes p.stamp ++ (u16_bytes (length (body_bytes p.body)) ++ (zeros 6
          ++ (body_bytes p.body ++ (zeros (8168 - length (body_bytes p.body)) ++ rest)))))) is.count a.count_is,
      right_again (body_form p.body) p.right (u64_bytes p.stamp ++ (u16_bytes (length (body_bytes p.body)) ++ (zeros 6
          ++ (body_bytes p.body ++ (zeros (8168 - length (body_bytes p.body)) ++ rest))))) is.right a.right_is,
      stamp_again (body_form p.body) p.stamp (u16_bytes (length (body_bytes p.body)) ++ (zeros 6
          ++ (body_bytes p.body ++ (zeros (8168 - length (body_bytes p.body)) ++ rest)))) is.stamp a.stamp_is,
      used_again (length (body_bytes p.body))
          (body_bytes p.body ++ (zeros (8168 - length (body_bytes p.body)) ++ rest)) is.fits,
      framed_again p.right p.stamp (length (body_bytes p.body)) p.body rest is.body refl,
    ) refl

held : (b : Bool) (d : ℕ) (x y : Page) → cond b (Ok x) (Err d) ≡ Ok y → (b ≡ true) × (x ≡ y)
held true d x y e = (refl, ok_is x y e)
held false d x y e = absurd cc

pub reading_is_encoded : ReadingIsEncoded
unfolding page_at
reading_is_encoded bytes p fits e =
    let a = bind_ok (front_at bytes) (λ x. cond (eqb (length x.1) 0) (Ok x.0) (Err (length x.1))) p e in
    let g = held (eqb (length a.0.1) 0) (length a.0.1) a.0.0 p a.2 in
    let t = front_takes bytes a.0 fits a.1 in
    let none : a.0.1 ≡ [] = nil_from_length a.0.1 (eqb-true _ _ g.0) in
    let all : bytes ≡ page_bytes a.0.0 =
    t.0.parts ∙ ap (λ (l : List ℕ). page_bytes a.0.0 ++ l) none ∙ append-nil (page_bytes a.0.0) in
    let whole : Encodes bytes a.0.0 = record { is_page = t.1; encoded = all } in
    subst (Encodes bytes) g.1 whole

pub encoding_is_read : EncodingIsRead
unfolding page_at
encoding_is_read p is =
    let read : front_at (page_bytes p) ≡ Ok (p, []) =
    ap front_at (sym (append-nil (page_bytes p))) ∙ page_again p [] is in
    ap (λ (r : Read Page). r >>= λ x. cond (eqb (length x.1) 0) (Ok x.0) (Err (length x.1))) read

placed_ok : (size : ℕ) (read : Result Page ℕ) (p : Page) → placed size read ≡ Ok p → read ≡ Ok p
placed_ok size (Ok q) p e = e
placed_ok size (Err left) p e = absurd cc

-- what a call answered, by the laws
pub is_found : (bytes : List ℕ) (answer : Result Page PageError) → AreBytes bytes
    → Answers answer (placed (length bytes) (page_at bytes)) → IfOk answer (λ p. Encodes bytes p)
is_found bytes (Ok p) fits given = reading_is_encoded bytes p fits (placed_ok (length bytes) (page_at bytes) p given)
is_found bytes (Err e) fits given = tt

pub is_read : (bytes : List ℕ) (answer : Result Page PageError) → Answers answer (placed (length bytes) (page_at bytes))
    → (p : Page) → IsPage p → bytes ≡ page_bytes p → Answers answer (Ok p)
is_read bytes answer given p is e =
    subst (λ (r : Result Page ℕ). Answers answer r)
    (ap (placed (length bytes)) (ap page_at e ∙ encoding_is_read p is)) given
