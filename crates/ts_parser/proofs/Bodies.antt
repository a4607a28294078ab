-- Numbers without their signs.
use Rattle.std.proofs.Common.{◌≡◌, ℕ, zero, suc, ◌+◌, ◌<◌, List, [], ◌∷◌, ◌++◌, length, take, drop, Bool, true, false}
use Rattle.std.proofs.Common.{◌||◌, ◌&&◌, ◌==◌, refl, sym, ap, ◌∙◌, append_assoc, length-append, take-append-drop}
use Rattle.std.proofs.Common.{one-add, arith, eq-eqb, ne_eqb, inl, inr, All}
use Rattle.std.specs.List.{list_all, list_any, prefix_len, join_with_byte}
use Rattle.std.specs.Char.{is_ascii_digit, IsAsciiDigit}
use Rattle.std.proofs.lemmas.Bool.{false≢true, and_parts, or_from, and_from}
use Rattle.std.proofs.lemmas.List.{drop_at}
use Rattle.std.proofs.lemmas.List.Folds.{length-prefix_len}
use Rattle.std.proofs.lemmas.List.Elements.{All-cons, All-head, All-tail, All-nil}
use Rattle.ts_parser.specs.Numbers.{Digits, MaybeSign, IsExponentMark}
use Rattle.ts_parser.specs.Letters.{begins_with}
use Rattle.ts_parser.specs.Rows.{begins_piece}
use Rattle.ts_parser.specs.NumberForms.{is_one_group, is_two_groups, sign_len, with_digits, exponent_len, ends_number}
use Rattle.ts_parser.specs.NumberForms.{is_sign}
use Rattle.ts_parser.proofs.Rows.{is_piece, goes_on, prefix_over, ends_without, first_piece}
use Rattle.ts_parser.proofs.ByteTests.{tells_digit, tells_sign, tells_mark, all_test, test_all, digit_word_byte}
use Rattle.ts_parser.proofs.ByteTests.{digit_no_sign, mark_word_byte, piece_begins, ends_parts}

-- one digit or more, as a test
abbrev pub is_group : List ℕ → Bool
is_group w = is_piece is_ascii_digit is_ascii_digit w

pub some_first : (p : ℕ → Bool) (w : List ℕ) → list_all p w ≡ true → 0 < length w → list_any p w ≡ true
some_first p [] h s = absurd (omega (arith, s))
some_first p (c ∷ w) h s = rw ((and_parts (p c) (list_all p w) h).0) refl

pub some_length : (p : ℕ → Bool) (w : List ℕ) → list_any p w ≡ true → 0 < length w
some_length p [] h = absurd (false≢true h)
some_length p (c ∷ w) h = omega arith

pub group_test : (d : List ℕ) → Digits d → is_group d ≡ true
group_test d h =
    let a = all_test is_ascii_digit IsAsciiDigit tells_digit d h.1 in
    and_from (list_all is_ascii_digit d) (list_any is_ascii_digit d) a (some_first is_ascii_digit d a h.0)

pub test_group : (d : List ℕ) → is_group d ≡ true → Digits d
test_group d h =
    let k = and_parts (list_all is_ascii_digit d) (list_any is_ascii_digit d) h in
    (some_length is_ascii_digit d k.1, test_all is_ascii_digit IsAsciiDigit tells_digit d k.0)

pub groups_test : (gs : List (List ℕ)) → All Digits gs → list_all is_group gs ≡ true
groups_test [] h = refl
groups_test (g ∷ gs) h = and_from (is_group g) (list_all is_group gs) (group_test g (All-head Digits g gs h))
    (groups_test gs (All-tail Digits g gs h))

pub test_groups : (gs : List (List ℕ)) → list_all is_group gs ≡ true → All Digits gs
test_groups [] h = All-nil Digits
test_groups (g ∷ gs) h = let k = and_parts (is_group g) (list_all is_group gs) h in
    All-cons Digits g gs (test_group g k.0) (test_groups gs k.1)

-- a group begins with a digit, whatever follows
pub group_begins : (d z : List ℕ) → is_group d ≡ true → begins_with is_ascii_digit (d ++ z) ≡ true
group_begins [] z h = absurd (false≢true h)
group_begins (c ∷ d) z h = (and_parts (is_ascii_digit c) (list_all is_ascii_digit d)
    (and_parts (list_all is_ascii_digit (c ∷ d)) (list_any is_ascii_digit (c ∷ d)) h).0).0

pub group_inner : (d : List ℕ) → is_group d ≡ true → list_all is_ascii_digit d ≡ true
group_inner d h = (and_parts (list_all is_ascii_digit d) (list_any is_ascii_digit d) h).0

-- ── the end ──
-- no group goes on where a number may end
pub end_stops : (r : List ℕ) → ends_number r ≡ true → goes_on is_ascii_digit is_ascii_digit 46 r ≡ false
end_stops [] h = refl
end_stops (c ∷ r) h = or_from (is_ascii_digit c)
    ((c == 46) && begins_piece is_ascii_digit is_ascii_digit r) (end_no_digit (is_ascii_digit c) refl)
    (ap (λ b. (c == 46) && b) (piece_begins is_ascii_digit r) ∙ (ends_parts c r h).1)
  where
    end_no_digit : (b : Bool) → is_ascii_digit c ≡ b → is_ascii_digit c ≡ false
    end_no_digit true e = absurd (false≢true (sym (ends_parts c r h).0 ∙ digit_word_byte c e))
    end_no_digit false e = e

-- nor is an exponent there
pub end_no_exponent : (r : List ℕ) → ends_number r ≡ true → exponent_len r ≡ 0
end_no_exponent [] h = refl
end_no_exponent (c ∷ r) h = end_by ((c == 69) || (c == 101)) refl
  where
    end_by : (b : Bool) → ((c == 69) || (c == 101)) ≡ b → exponent_len (c ∷ r) ≡ 0
    end_by true e = absurd (false≢true (sym (ends_parts c r h).0 ∙ mark_word_byte c e))
    end_by false e = rw e refl

-- ── exponents ──
-- a sign or nothing, and then digits
sign_over : (t d z : List ℕ) → MaybeSign t → is_group d ≡ true → sign_len (t ++ (d ++ z)) ≡ length t
sign_over [] [] z h g = absurd (false≢true g)
sign_over [] (c ∷ d) z h g = rw (digit_no_sign c (group_begins (c ∷ d) [] g)) refl
sign_over (c ∷ t) d z (inl e) g = absurd (let k = ap length e in omega (arith, k))
sign_over (c ∷ t) d z (inr (b, s, e)) g =
    let k : c ≡ b = cc in
    let l : length (c ∷ t) ≡ 1 = ap length e in
    rw ((tells_sign c).1 (rw k s)) (sym l)

with_some : (n d : ℕ) → 0 < d → with_digits n d ≡ n + d
with_some n zero h = absurd (omega (arith, h))
with_some n (suc d) h = refl

pub exponent_over : (e : ℕ) (t d r : List ℕ) → IsExponentMark e → MaybeSign t → is_group d ≡ true
    → begins_with is_ascii_digit r ≡ false
    → exponent_len ((e ∷ (t ++ d)) ++ r) ≡ length (e ∷ (t ++ d))
exponent_over e t d r m h g b =
    let s : (t ++ d) ++ r ≡ t ++ (d ++ r) = append_assoc t d r in
    let o = sign_over t d r h g in
    let n : prefix_len is_ascii_digit (drop (sign_len (t ++ (d ++ r))) (t ++ (d ++ r))) ≡ length d =
    ap (λ k. prefix_len is_ascii_digit (drop k (t ++ (d ++ r)))) o ∙ ap (λ z. prefix_len is_ascii_digit z)
    (drop_at t (d ++ r) (length t) refl) ∙ prefix_over is_ascii_digit d r (group_inner d g) b in
    let some : 0 < length d = (test_group d g).0 in
    let l = length-append t d in
    rw ((tells_mark e).1 m, s, n, o) (with_some (1 + length t) (length d) some ∙ omega (arith, l))

-- an exponent at the front
pub record Exponent (y : List ℕ) : Type 0 where
  pub mark : ℕ
  pub sign : List ℕ
  pub digits : List ℕ
  pub rest : List ℕ
  pub is : y ≡ (mark ∷ (sign ++ digits)) ++ rest
  pub is_mark : IsExponentMark mark
  pub is_sign : MaybeSign sign
  pub are_digits : is_group digits ≡ true
  pub size : exponent_len y ≡ length (mark ∷ (sign ++ digits))

pub front_passes : (p : ℕ → Bool) (v : List ℕ) → list_all p (take (prefix_len p v) v) ≡ true
front_passes p [] = refl
front_passes p (c ∷ v) = front_passes_by p c v (p c) refl (front_passes p v)
  where
    front_passes_by : (p : ℕ → Bool) (c : ℕ) (v : List ℕ) (b : Bool) → p c ≡ b
        → list_all p (take (prefix_len p v) v) ≡ true → list_all p (take (prefix_len p (c ∷ v)) (c ∷ v)) ≡ true
    front_passes_by p c v true e k = rw (e, one-add, e) k
    front_passes_by p c v false e k = rw e refl

front_stops_by : (p : ℕ → Bool) (c : ℕ) (v : List ℕ) (b : Bool) → p c ≡ b
    → begins_with p (drop (prefix_len p v) v) ≡ false → begins_with p (drop (prefix_len p (c ∷ v)) (c ∷ v)) ≡ false
front_stops_by p c v true e k = rw (e, one-add) k
front_stops_by p c v false e k = rw e e

pub front_stops : (p : ℕ → Bool) (v : List ℕ) → begins_with p (drop (prefix_len p v) v) ≡ false
front_stops p [] = refl
front_stops p (c ∷ v) = front_stops_by p c v (p c) refl (front_stops p v)

record Signed (u : List ℕ) : Type 0 where
  sign : List ℕ
  rest : List ℕ
  is : u ≡ sign ++ rest
  is_sign' : MaybeSign sign
  size : sign_len u ≡ length sign
  behind : drop (sign_len u) u ≡ rest

signed : (u : List ℕ) → Signed u
signed [] = record { sign = []; rest = []; is = refl; is_sign' = inl refl; size = refl; behind = refl }
signed (c ∷ u) = signed_by (is_sign c) refl
  where
    signed_by : (b : Bool) → is_sign c ≡ b → Signed (c ∷ u)
    signed_by true e = record {
      sign = c ∷ [];
      rest = u;
      is = refl;
      is_sign' = inr (c, (tells_sign c).0 e, refl);
      size = rw e refl;
      behind = rw e refl;
    }
    signed_by false e =
        record { sign = []; rest = c ∷ u; is = refl; is_sign' = inl refl; size = rw e refl; behind = rw e refl }

exponent_by : (c : ℕ) (u : List ℕ) (k : Signed u) → ((c == 69) || (c == 101)) ≡ true → (n : ℕ)
    → prefix_len is_ascii_digit k.rest ≡ n → 0 < with_digits (1 + sign_len u) n → Exponent (c ∷ u)
exponent_by c u k m zero e h = absurd (omega (arith, h))
exponent_by c u k m (suc n) e h =
    let d : List ℕ = take (prefix_len is_ascii_digit k.rest) k.rest in
    let a : list_all is_ascii_digit d ≡ true = front_passes is_ascii_digit k.rest in
    let l : length d ≡ prefix_len is_ascii_digit k.rest = length-prefix_len is_ascii_digit k.rest in
    let s : 0 < length d = omega (arith, l, e) in
    let p : prefix_len is_ascii_digit (drop (sign_len u) u) ≡ suc n =
    ap (λ z. prefix_len is_ascii_digit z) k.behind ∙ e in
    let j = length-append k.sign d in
    let z = k.size in
    record {
      mark = c;
      sign = k.sign;
      digits = d;
      rest = drop (prefix_len is_ascii_digit k.rest) k.rest;
      is = ap (λ w. c ∷ w)
          (k.is ∙ ap (λ w. k.sign ++ w) (sym (take-append-drop (prefix_len is_ascii_digit k.rest) k.rest))
          ∙ sym (append_assoc k.sign d (drop (prefix_len is_ascii_digit k.rest) k.rest)));
      is_mark = (tells_mark c).0 m;
      is_sign = k.is_sign';
      are_digits = and_from (list_all is_ascii_digit d) (list_any is_ascii_digit d) a (some_first is_ascii_digit d a s);
      size = rw (m, p) (omega (arith, j, l, e, z));
    }

exponent_at : (c : ℕ) (u : List ℕ) (b : Bool) → ((c == 69) || (c == 101)) ≡ b → 0 < exponent_len (c ∷ u)
    → Exponent (c ∷ u)
exponent_at c u true e h =
    let k = signed u in
    let g : 0 < with_digits (1 + sign_len u) (prefix_len is_ascii_digit (drop (sign_len u) u)) = rw e at h in
    exponent_by c u k e (prefix_len is_ascii_digit k.rest) refl (rw k.behind at g)
exponent_at c u false e h = absurd (let g : 0 < 0 = rw e at h in omega (arith, g))

pub exponent_of : (y : List ℕ) → 0 < exponent_len y → Exponent y
exponent_of [] h = absurd (omega (arith, h))
exponent_of (c ∷ u) h = exponent_at c u ((c == 69) || (c == 101)) refl h

-- ── groups, counted ──
drop_past : (g : List ℕ) (c : ℕ) (z : List ℕ) → drop (suc (length g)) (g ++ c ∷ z) ≡ z
drop_past [] c z = refl
drop_past (d ∷ g) c z = drop_past g c z

first_len : (g : List ℕ) (us : List (List ℕ)) (y : List ℕ)
    → is_group g ≡ true → goes_on is_ascii_digit is_ascii_digit 46 y ≡ false
    → prefix_len is_ascii_digit (join_with_byte 46 (g ∷ us) ++ y) ≡ length g
first_len g us y a e =
    let f = first_piece is_ascii_digit 46 g us y refl (ends_without is_ascii_digit is_ascii_digit 46 y e) in
    ap (λ z. prefix_len is_ascii_digit z) f.is ∙ prefix_over is_ascii_digit g f.rest (group_inner g a) f.ends

pub one_group : (g y : List ℕ) → is_group g ≡ true → goes_on is_ascii_digit is_ascii_digit 46 y ≡ false
    → is_one_group (g ++ y) (length g) ≡ true
one_group g y a e = eq-eqb (length g) (prefix_len is_ascii_digit (g ++ y)) (sym (first_len g [] y a e))

pub no_one_group : (g h : List ℕ) (us : List (List ℕ)) (y : List ℕ) → is_group g ≡ true
    → goes_on is_ascii_digit is_ascii_digit 46 y ≡ false
    → is_one_group (join_with_byte 46 (g ∷ h ∷ us) ++ y) (length (join_with_byte 46 (g ∷ h ∷ us))) ≡ false
no_one_group g h us y a e =
    let k = first_len g (h ∷ us) y a e in
    let l = length-append g (46 ∷ join_with_byte 46 (h ∷ us)) in
    ne_eqb (length (join_with_byte 46 (g ∷ h ∷ us))) (prefix_len is_ascii_digit (join_with_byte 46 (g ∷ h ∷ us) ++ y))
    (λ q. omega (arith, k, l, q))

-- the length of the first two groups and the dot between them
two_len : (g h : List ℕ) (us : List (List ℕ)) (y : List ℕ) → is_group g ≡ true → is_group h ≡ true
    → goes_on is_ascii_digit is_ascii_digit 46 y ≡ false
    → suc (prefix_len is_ascii_digit (join_with_byte 46 (g ∷ h ∷ us) ++ y) + prefix_len is_ascii_digit (drop
    (suc (prefix_len is_ascii_digit (join_with_byte 46 (g ∷ h ∷ us) ++ y))) (join_with_byte 46 (g ∷ h ∷ us) ++ y)))
    ≡ suc (length g + length h)
two_len g h us y a b e =
    let k = first_len g (h ∷ us) y a e in
    let j : List ℕ = join_with_byte 46 (h ∷ us) in
    let d : drop (suc (length g)) (join_with_byte 46 (g ∷ h ∷ us) ++ y) ≡ j ++ y =
    ap (λ z. drop (suc (length g)) z) (append_assoc g (46 ∷ j) y) ∙ drop_past g 46 (j ++ y) in
    let n : prefix_len is_ascii_digit (drop (suc (prefix_len is_ascii_digit (join_with_byte 46 (g ∷ h ∷ us) ++ y)))
    (join_with_byte 46 (g ∷ h ∷ us) ++ y)) ≡ length h =
    ap (λ i. prefix_len is_ascii_digit (drop (suc i) (join_with_byte 46 (g ∷ h ∷ us) ++ y))) k
    ∙ ap (λ z. prefix_len is_ascii_digit z) d ∙ first_len h us y b e in
    omega (arith, k, n)

pub two_groups : (g h y : List ℕ) → is_group g ≡ true → is_group h ≡ true
    → goes_on is_ascii_digit is_ascii_digit 46 y ≡ false
    → is_two_groups (join_with_byte 46 (g ∷ h ∷ []) ++ y) (length (join_with_byte 46 (g ∷ h ∷ []))) ≡ true
two_groups g h y a b e =
    let k = two_len g h [] y a b e in
    let l = length-append g (46 ∷ h) in
    eq-eqb (length (join_with_byte 46 (g ∷ h ∷ []))) _
    (let q : length (join_with_byte 46 (g ∷ h ∷ [])) ≡ suc (length g + length h) = omega (arith, l) in q ∙ sym k)

pub no_two_groups : (g h i : List ℕ) (us : List (List ℕ)) (y : List ℕ) → is_group g ≡ true → is_group h ≡ true
    → goes_on is_ascii_digit is_ascii_digit 46 y ≡ false
    → is_two_groups (join_with_byte 46 (g ∷ h ∷ i ∷ us) ++ y) (length (join_with_byte 46 (g ∷ h ∷ i ∷ us))) ≡ false
no_two_groups g h i us y a b e =
    let k = two_len g h (i ∷ us) y a b e in
    let l = length-append g (46 ∷ join_with_byte 46 (h ∷ i ∷ us)) in
    let m = length-append h (46 ∷ join_with_byte 46 (i ∷ us)) in
    ne_eqb (length (join_with_byte 46 (g ∷ h ∷ i ∷ us))) _ (λ q. let p : length (join_with_byte 46 (g ∷ h ∷ i ∷ us))
    ≡ suc (length g + length h) = q ∙ k in omega (arith, p, l, m))
