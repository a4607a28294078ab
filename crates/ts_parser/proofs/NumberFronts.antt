-- What the number at the front is, by the groups of digits there and what follows them.
use Rattle.std.proofs.Common.{◌≡◌, ℕ, ◌+◌, ◌≤◌, List, [], ◌∷◌, ◌++◌, length, drop, Bool, true, false, if◌then◌else◌}
use Rattle.std.proofs.Common.{◌&&◌, ◌==◌, nat_lt, refl, sym, ap, ◌∙◌, append_assoc, length-append, arith, lt-ltb, inl}
use Rattle.std.proofs.Common.{inr, All, Option, Some, None, drop-drop}
use Rattle.std.specs.List.{list_all, list_any, join_with_byte}
use Rattle.std.specs.Char.{is_ascii_digit}
use Rattle.std.proofs.lemmas.Bool.{and_parts, or_from, and_left}
use Rattle.std.proofs.lemmas.List.{drop_at}
use Rattle.ts_parser.specs.declared.kinds.TokenType.{TokenType}
use Rattle.ts_parser.specs.declared.kinds.TokenType.TheVariants.{Sfloat, Version, Float, Int, Uint}
use Rattle.ts_parser.specs.declared.forms.Form.{Form}
use Rattle.ts_parser.specs.Numbers.{Digits, MaybeSign, Mantissa, IsExponentMark}
use Rattle.ts_parser.specs.Letters.{begins_with}
use Rattle.ts_parser.specs.Rows.{begins_piece}
use Rattle.ts_parser.specs.NumberForms.{groups_len, is_one_group, is_two_groups, exponent_len, ends_number, number_of}
use Rattle.ts_parser.specs.NumberForms.{number_front}
use Rattle.ts_parser.specs.Forms.{form}
use Rattle.ts_parser.proofs.Rows.{goes_on, ends_without, row_join, first_piece}
use Rattle.ts_parser.proofs.ByteTests.{tells_mark, mark_no_digit, mark_no_dot}
use Rattle.ts_parser.proofs.Bodies.{is_group, group_test, groups_test, group_begins, end_stops, end_no_exponent}
use Rattle.ts_parser.proofs.Bodies.{exponent_over, one_group, no_one_group, two_groups, no_two_groups}

-- with an exponent after n bytes
abbrev pub scientific_at : ℕ → List ℕ → Option Form
scientific_at n y = if ends_number (drop (exponent_len y) y) then Some (form Sfloat (n + exponent_len y)) else None

-- without one
abbrev pub plain_at : ℕ → List ℕ → TokenType → Option Form
plain_at n y k = if ends_number y then Some (form k n) else None

-- by the groups after the first one, all of which have n bytes
abbrev pub number_by : Bool → List (List ℕ) → ℕ → List ℕ → Option Form
number_by signed [] n y =
    if nat_lt 0 (exponent_len y) then scientific_at n y else plain_at n y (if signed then Int else Uint)
number_by signed (h ∷ []) n y = if nat_lt 0 (exponent_len y) then scientific_at n y else plain_at n y Float
number_by signed (h ∷ i ∷ us) n y = if signed then None else plain_at n y Version

of_one : (signed : Bool) (v : List ℕ) (n : ℕ) → is_one_group v n ≡ true
    → number_of signed v n ≡ number_by signed [] n (drop n v)
of_one signed v n o = rw (o, ← drop-drop (exponent_len (drop n v)) n v) refl

of_two : (signed : Bool) (v : List ℕ) (n : ℕ) (h : List ℕ) → is_one_group v n ≡ false → is_two_groups v n ≡ true
    → number_of signed v n ≡ number_by signed (h ∷ []) n (drop n v)
of_two signed v n h o t = rw (o, t, ← drop-drop (exponent_len (drop n v)) n v) refl

of_more : (signed : Bool) (v : List ℕ) (n : ℕ) (h i : List ℕ) (us : List (List ℕ)) → is_one_group v n ≡ false
    → is_two_groups v n ≡ false → number_of signed v n ≡ number_by signed (h ∷ i ∷ us) n (drop n v)
of_more signed v n h i us o t = rw (o, t) refl

of_groups : (signed : Bool) (g : List ℕ) (us : List (List ℕ)) (y : List ℕ) → is_group g ≡ true
    → list_all is_group us ≡ true → goes_on is_ascii_digit is_ascii_digit 46 y ≡ false
    → number_of signed (join_with_byte 46 (g ∷ us) ++ y) (length (join_with_byte 46 (g ∷ us)))
    ≡ number_by signed us (length (join_with_byte 46 (g ∷ us)))
    (drop (length (join_with_byte 46 (g ∷ us))) (join_with_byte 46 (g ∷ us) ++ y))
of_groups signed g [] y a h e = of_one signed (g ++ y) (length g) (one_group g y a e)
of_groups signed g (i ∷ []) y a h e =
    let b = (and_parts (is_group i) true h).0 in
    let j : List ℕ = join_with_byte 46 (g ∷ i ∷ []) in
    of_two signed (j ++ y) (length j) i (no_one_group g i [] y a e) (two_groups g i y a b e)
of_groups signed g (i ∷ k ∷ us) y a h e =
    let b = (and_parts (is_group i) (list_all is_group (k ∷ us)) h).0 in
    let j : List ℕ = join_with_byte 46 (g ∷ i ∷ k ∷ us) in
    of_more signed (j ++ y) (length j) i k us (no_one_group g i (k ∷ us) y a e) (no_two_groups g i k us y a b e)

pub front_is : (signed : Bool) (g : List ℕ) (us : List (List ℕ)) (y : List ℕ) → is_group g ≡ true
    → list_all is_group us ≡ true → goes_on is_ascii_digit is_ascii_digit 46 y ≡ false
    → number_front signed (join_with_byte 46 (g ∷ us) ++ y)
    ≡ number_by signed us (length (join_with_byte 46 (g ∷ us))) y
front_is signed g us y a h e =
    let j : List ℕ = join_with_byte 46 (g ∷ us) in
    let f = first_piece is_ascii_digit 46 g us y refl (ends_without is_ascii_digit is_ascii_digit 46 y e) in
    let b : begins_with is_ascii_digit (j ++ y) ≡ true =
    ap (λ z. begins_with is_ascii_digit z) f.is ∙ group_begins g f.rest a in
    let inner : list_all is_ascii_digit g ≡ true =
    (and_parts (list_all is_ascii_digit g) (list_any is_ascii_digit g) a).0 in
    let l : groups_len (j ++ y) ≡ length j = row_join is_ascii_digit is_ascii_digit 46 g us y refl inner h e in
    let one : number_front signed (j ++ y) ≡ number_of signed (j ++ y) (groups_len (j ++ y)) =
    ap (λ x. if x then number_of signed (j ++ y) (groups_len (j ++ y)) else None) b in
    one ∙ ap (λ n. number_of signed (j ++ y) n) l ∙ of_groups signed g us y a h e
    ∙ ap (λ z. number_by signed us (length j) z) (drop_at j y (length j) refl)

-- ── a number's body, by its cases ──
pub data Body (signed : Bool) : TokenType → List ℕ → Type 0 where
  whole_body : (d : List ℕ) → Digits d → Body signed (if signed then Int else Uint) d
  float_body : (a b : List ℕ) → Digits a → Digits b → Body signed Float (a ++ 46 ∷ b)
  version_body : (gs : List (List ℕ)) → signed ≡ false → 3 ≤ length gs → All Digits gs
      → Body signed Version (join_with_byte 46 gs)
  sfloat_body : (m : List ℕ) (e : ℕ) (t d : List ℕ) → Mantissa m → IsExponentMark e → MaybeSign t → Digits d
      → Body signed Sfloat (m ++ e ∷ (t ++ d))

-- no exponent, and the end of a number
plain_is : (signed : Bool) (us : List (List ℕ)) (n : ℕ) (r : List ℕ) (k : TokenType) → ends_number r ≡ true
    → number_by signed us n r ≡ (if nat_lt 0 (exponent_len r) then scientific_at n r else plain_at n r k)
    → number_by signed us n r ≡ Some (form k n)
plain_is signed us n r k e h = h ∙ (let x = end_no_exponent r e in rw (x, e) refl)

mark_stops : (e : ℕ) (z : List ℕ) → IsExponentMark e → goes_on is_ascii_digit is_ascii_digit 46 (e ∷ z) ≡ false
mark_stops e z m =
    let t = (tells_mark e).1 m in
    or_from (is_ascii_digit e) ((e == 46) && begins_piece is_ascii_digit is_ascii_digit z) (mark_no_digit e t)
    (and_left (e == 46) (begins_piece is_ascii_digit is_ascii_digit z) (mark_no_dot e t))

-- an exponent, and the end of a number
scientific_is : (n e : ℕ) (t d r : List ℕ) → IsExponentMark e → MaybeSign t → Digits d → ends_number r ≡ true
    → (us : List (List ℕ)) (signed : Bool) (k : TokenType)
    → number_by signed us n ((e ∷ (t ++ d)) ++ r) ≡ (if nat_lt 0 (exponent_len ((e ∷ (t ++ d)) ++ r))
    then scientific_at n ((e ∷ (t ++ d)) ++ r) else plain_at n ((e ∷ (t ++ d)) ++ r) k)
    → number_by signed us n ((e ∷ (t ++ d)) ++ r) ≡ Some (form Sfloat (n + length (e ∷ (t ++ d))))
scientific_is n e t d r m s g q us signed k h =
    let x =
    exponent_over e t d r m s (group_test d g) (ends_without is_ascii_digit is_ascii_digit 46 r (end_stops r q)) in
    let some : nat_lt 0 (length (e ∷ (t ++ d))) ≡ true = lt-ltb 0 (length (e ∷ (t ++ d))) (omega arith) in
    let rest = drop_at (e ∷ (t ++ d)) r (length (e ∷ (t ++ d))) refl in
    h ∙ rw (x, some, rest, q) refl

form_is : (k : TokenType) (n m : ℕ) → n ≡ m → Some (form k n) ≡ Some (form k m)
form_is k n m e = ap (λ x. Some (form k x)) e

sfloat_complete : (signed : Bool) (m : List ℕ) (e : ℕ) (t d r : List ℕ) → Mantissa m → IsExponentMark e → MaybeSign t
    → Digits d → ends_number r ≡ true
    → number_front signed ((m ++ e ∷ (t ++ d)) ++ r) ≡ Some (form Sfloat (length (m ++ e ∷ (t ++ d))))
sfloat_complete signed m e t d r (inl g) x s h q =
    let y : List ℕ = (e ∷ (t ++ d)) ++ r in
    ap (λ z. number_front signed z) (append_assoc m (e ∷ (t ++ d)) r)
    ∙ front_is signed m [] y (group_test m g) refl (mark_stops e ((t ++ d) ++ r) x)
    ∙ scientific_is (length m) e t d r x s h q [] signed (if signed then Int else Uint) refl
    ∙ form_is Sfloat (length m + length (e ∷ (t ++ d))) (length (m ++ e ∷ (t ++ d)))
    (sym (length-append m (e ∷ (t ++ d))))
sfloat_complete signed m e t d r (inr (a, b, g, k, i)) x s h q =
    let y : List ℕ = (e ∷ (t ++ d)) ++ r in
    let bs : list_all is_group (b ∷ []) ≡ true = rw (group_test b k) refl in
    ap (λ z. number_front signed z) (append_assoc m (e ∷ (t ++ d)) r ∙ ap (λ z. z ++ y) i)
    ∙ front_is signed a (b ∷ []) y (group_test a g) bs (mark_stops e ((t ++ d) ++ r) x)
    ∙ scientific_is (length (a ++ 46 ∷ b)) e t d r x s h q (b ∷ []) signed Float refl
    ∙ form_is Sfloat (length (a ++ 46 ∷ b) + length (e ∷ (t ++ d))) (length (m ++ e ∷ (t ++ d)))
    (ap (λ z. length z + length (e ∷ (t ++ d))) (sym i) ∙ sym (length-append m (e ∷ (t ++ d))))

version_complete : (gs : List (List ℕ)) (r : List ℕ) → 3 ≤ length gs → list_all is_group gs ≡ true → ends_number r
    ≡ true → number_front false (join_with_byte 46 gs ++ r) ≡ Some (form Version (length (join_with_byte 46 gs)))
version_complete [] r n h e = absurd (omega (arith, n))
version_complete (a ∷ []) r n h e = absurd (omega (arith, n))
version_complete (a ∷ b ∷ []) r n h e = absurd (omega (arith, n))
version_complete (a ∷ b ∷ c ∷ gs) r n h e =
    let k = and_parts (is_group a) (list_all is_group (b ∷ c ∷ gs)) h in
    front_is false a (b ∷ c ∷ gs) r k.0 k.1 (end_stops r e) ∙ rw e refl

pub body_complete : (signed : Bool) (k : TokenType) (u r : List ℕ) → Body signed k u → ends_number r ≡ true
    → number_front signed (u ++ r) ≡ Some (form k (length u))
body_complete signed _ _ r (whole_body d g) e =
    front_is signed d [] r (group_test d g) refl (end_stops r e)
    ∙ plain_is signed [] (length d) r (if signed then Int else Uint) e refl
body_complete signed _ _ r (float_body a b g h) e =
    front_is signed a (b ∷ []) r (group_test a g) (rw (group_test b h) refl) (end_stops r e)
    ∙ plain_is signed (b ∷ []) (length (a ++ 46 ∷ b)) r Float e refl
body_complete signed _ _ r (version_body gs s n h) e =
    ap (λ x. number_front x (join_with_byte 46 gs ++ r)) s ∙ version_complete gs r n (groups_test gs h) e
body_complete signed _ _ r (sfloat_body m x t d g h s i) e = sfloat_complete signed m x t d r g h s i e
