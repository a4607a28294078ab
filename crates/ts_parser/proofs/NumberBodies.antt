-- What the number at the front has for a body.
use Rattle.std.proofs.Common.{◌≡◌, ℕ, ◌+◌, ◌<◌, List, [], ◌∷◌, ◌++◌, length, drop, Bool, true, false, if◌then◌else◌}
use Rattle.std.proofs.Common.{nat_lt, refl, sym, ap, ◌∙◌, subst, append_assoc, length-append, arith, ltb-true, inl, inr}
use Rattle.std.proofs.Common.{All, Some, None}
use Rattle.std.specs.List.{list_all, list_any, join_with_byte}
use Rattle.std.specs.Char.{is_ascii_digit}
use Rattle.std.proofs.lemmas.Bool.{false≢true, and_parts, and_from}
use Rattle.std.proofs.lemmas.List.{drop_at}
use Rattle.std.proofs.lemmas.Option.{none-some, cond_some}
use Rattle.ts_parser.specs.declared.kinds.TokenType.{TokenType}
use Rattle.ts_parser.specs.declared.kinds.TokenType.TheVariants.{Sfloat, Version, Float, Int, Uint}
use Rattle.ts_parser.specs.declared.forms.Form.{Form}
use Rattle.ts_parser.specs.Numbers.{Digits, Mantissa}
use Rattle.ts_parser.specs.Letters.{begins_with}
use Rattle.ts_parser.specs.NumberForms.{exponent_len, ends_number, number_front}
use Rattle.ts_parser.specs.Forms.{form}
use Rattle.ts_parser.proofs.Rows.{goes_on, ends_without, Row, row_of}
use Rattle.ts_parser.proofs.Bodies.{is_group, test_group, test_groups, exponent_of}
use Rattle.ts_parser.proofs.NumberFronts.{scientific_at, plain_at, number_by, front_is, Body, whole_body, float_body}
use Rattle.ts_parser.proofs.NumberFronts.{version_body, sfloat_body}

-- a number without its sign is at the front
pub record BodyAt (signed : Bool) (v : List ℕ) (f : Form) : Type 0 where
  pub body : List ℕ
  pub rest : List ℕ
  pub is : v ≡ body ++ rest
  pub size : length body ≡ f.length
  pub kind : Body signed f.kind body
  pub ends : ends_number rest ≡ true

plain_body : (signed : Bool) (j y : List ℕ) (k : TokenType) (f : Form) → Body signed k j
    → plain_at (length j) y k ≡ Some f → BodyAt signed (j ++ y) f
plain_body signed j y k f b h =
    let e = cond_some (ends_number y) (form k (length j)) f h in
    let P : Form → Type 0 = λ g. BodyAt signed (j ++ y) g in
    subst P e.1 (record { body = j; rest = y; is = refl; size = refl; kind = b; ends = e.0 })

scientific_body : (signed : Bool) (m y : List ℕ) (f : Form) → Mantissa m → 0 < exponent_len y
    → scientific_at (length m) y ≡ Some f → BodyAt signed (m ++ y) f
scientific_body signed m y f g s h =
    let x = exponent_of y s in
    let t : List ℕ = x.mark ∷ (x.sign ++ x.digits) in
    let e = cond_some (ends_number (drop (exponent_len y) y)) (form Sfloat (length m + exponent_len y)) f h in
    let r : drop (exponent_len y) y ≡ x.rest =
    ap (λ n. drop n y) x.size ∙ ap (λ z. drop (length t) z) x.is ∙ drop_at t x.rest (length t) refl in
    let P : Form → Type 0 = λ q. BodyAt signed (m ++ y) q in
    subst P e.1 (record {
      body = m ++ t;
      rest = x.rest;
      is = ap (λ z. m ++ z) x.is ∙ sym (append_assoc m t x.rest);
      size = length-append m t ∙ ap (λ n. length m + n) (sym x.size);
      kind = sfloat_body m x.mark x.sign x.digits g x.is_mark x.is_sign (test_group x.digits x.are_digits);
      ends = ap (λ z. ends_number z) (sym r) ∙ e.0;
    })

either_body : (signed : Bool) (m y : List ℕ) (k : TokenType) (f : Form) → Mantissa m → Body signed k m → (b : Bool)
    → nat_lt 0 (exponent_len y) ≡ b
    → (if nat_lt 0 (exponent_len y) then scientific_at (length m) y else plain_at (length m) y k) ≡ Some f
    → BodyAt signed (m ++ y) f
either_body signed m y k f g w true e h = scientific_body signed m y f g (ltb-true 0 (exponent_len y) e) (rw e at h)
either_body signed m y k f g w false e h = plain_body signed m y k f w (rw e at h)

more_body : (g h i : List ℕ) (us : List (List ℕ)) (y : List ℕ) (f : Form) (signed b : Bool) → signed ≡ b → All Digits (g
    ∷ h ∷ i ∷ us) → number_by signed (h ∷ i ∷ us) (length (join_with_byte 46 (g ∷ h ∷ i ∷ us))) y ≡ Some f
    → BodyAt signed (join_with_byte 46 (g ∷ h ∷ i ∷ us) ++ y) f
more_body g h i us y f signed true e a n = absurd (none-some f (let k : None ≡ Some f = rw e at n in k))
more_body g h i us y f signed false e a n =
    plain_body signed (join_with_byte 46 (g ∷ h ∷ i ∷ us)) y Version f (version_body (g ∷ h ∷ i ∷ us) e (omega arith) a)
    (rw e at n)

by_groups : (signed : Bool) (g : List ℕ) (us : List (List ℕ)) (y : List ℕ) (f : Form) → is_group g ≡ true
    → list_all is_group us ≡ true
    → number_by signed us (length (join_with_byte 46 (g ∷ us))) y ≡ Some f
    → BodyAt signed (join_with_byte 46 (g ∷ us) ++ y) f
by_groups signed g [] y f a h n =
    let d = test_group g a in
    either_body signed g y (if signed then Int else Uint) f (inl d) (whole_body g d) (nat_lt 0 (exponent_len y)) refl n
by_groups signed g (i ∷ []) y f a h n =
    let d = test_group g a in
    let b = test_group i (and_parts (is_group i) true h).0 in
    either_body signed (g ++ 46 ∷ i) y Float f (inr (g, i, d, b, refl)) (float_body g i d b)
    (nat_lt 0 (exponent_len y)) refl n
by_groups signed g (i ∷ k ∷ us) y f a h n =
    more_body g i k us y f signed signed refl
    (test_groups (g ∷ i ∷ k ∷ us) (and_from (is_group g) (list_all is_group (i ∷ k ∷ us)) a h)) n

-- the first group has a digit
first_group : (g : List ℕ) (us : List (List ℕ)) (y : List ℕ) → list_all is_ascii_digit g ≡ true
    → goes_on is_ascii_digit is_ascii_digit 46 y ≡ false
    → begins_with is_ascii_digit (join_with_byte 46 (g ∷ us) ++ y) ≡ true → is_group g ≡ true
first_group [] [] y a e b = absurd (false≢true (sym (ends_without is_ascii_digit is_ascii_digit 46 y e) ∙ b))
first_group [] (i ∷ us) y a e b = absurd (false≢true b)
first_group (c ∷ g) us y a e b =
    let k = (and_parts (is_ascii_digit c) (list_all is_ascii_digit g) a).0 in
    and_from (list_all is_ascii_digit (c ∷ g)) (list_any is_ascii_digit (c ∷ g)) a (rw k refl)

by_row : (signed : Bool) (v : List ℕ) (f : Form) → Row is_ascii_digit is_ascii_digit 46 v
    → begins_with is_ascii_digit v ≡ true → number_front signed v ≡ Some f → BodyAt signed v f
by_row signed v f k b n =
    let g =
    first_group k.first k.others k.rest k.inner k.ends (ap (λ z. begins_with is_ascii_digit z) (sym k.is) ∙ b) in
    let h = sym (front_is signed k.first k.others k.rest g k.pieces k.ends) ∙ ap (λ z. number_front signed z) (sym k.is)
    ∙ n in
    let P : List ℕ → Type 0 = λ z. BodyAt signed z f in
    subst P (sym k.is) (by_groups signed k.first k.others k.rest f g k.pieces h)

begin_by : (signed : Bool) (v : List ℕ) (f : Form) (b : Bool) → begins_with is_ascii_digit v ≡ b
    → number_front signed v ≡ Some f → BodyAt signed v f
begin_by signed v f true e n = by_row signed v f (row_of is_ascii_digit is_ascii_digit 46 v refl) e n
begin_by signed v f false e n = absurd (none-some f (let k : None ≡ Some f = rw e at n in k))

pub body_sound : (signed : Bool) (v : List ℕ) (f : Form) → number_front signed v ≡ Some f → BodyAt signed v f
body_sound signed v f n = begin_by signed v f (begins_with is_ascii_digit v) refl n
