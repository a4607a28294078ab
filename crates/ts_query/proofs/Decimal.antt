-- The digits of a distance and the number that they write.
use Rattle.std.proofs.Common.{◌≡◌, ℕ, ◌+◌, ◌*◌, ◌-◌, ◌<◌, ◌⊎◌, inl, inr, List, [], ◌∷◌, ◌++◌, min, refl, sym, ap, subst}
use Rattle.std.proofs.Common.{◌∙◌, arith}
use Rattle.std.specs.Char.{digit_value}
use Rattle.std.specs.Str.Parse.{IsNumeral, AllDigits, digits_value, digits_value_after}
use Rattle.std.proofs.lemmas.Str.{digit_value_digit}
use Rattle.std.proofs.lemmas.Str.Parse.{digit_from_value}
use Rattle.ts_base.specs.Bytes.{IsDigit}
use Rattle.ts_base.specs.Digits.{with_digit}
use Rattle.ts_query.specs.Tokens.{DistanceNumber, over, digit, Distance, arrow, number}
use Rattle.ts_query.specs.Laws.{IsArrow, IsDecimal, DistanceIsDecimal}
use Rattle.ts_query.specs.declared.TheConstants.{PAST_DISTANCE}

-- from 16385 on all numbers count as one
abbrev capped : ℕ → ℕ
capped n = min n 16385

value_of_digit : (c : ℕ) → IsDigit c → digit_value c ≡ c - 48
value_of_digit c d = let e = digit_value_digit c d in omega (arith, e, d.0)

-- a digit more of a capped number gives the capped number with a digit more
one_more : (n c : ℕ) → IsDigit c → with_digit PAST_DISTANCE (capped n) c ≡ capped (n * 10 + digit_value c)
one_more n c d = let e = value_of_digit c d in rw e (grind arith)

-- digits after those of n lead to the capped number of all
leads : (ds r : List ℕ) (n : ℕ) → AllDigits 10 ds
    → DistanceNumber (capped n) (ds ++ 62 ∷ r) (capped (digits_value_after 10 n ds)) r
leads [] r n h = over (capped n) r
leads (c ∷ ds) r n (d, h) =
    let k = digit_from_value c d in
    let m = n * 10 + digit_value c in
    digit c (capped n) (capped (digits_value_after 10 m ds)) (ds ++ 62 ∷ r) r k
    (subst (λ x. DistanceNumber x (ds ++ 62 ∷ r) (capped (digits_value_after 10 m ds)) r) (sym (one_more n c k))
    (leads ds r m h))

-- what leads to a number is digits
record Digits (n : ℕ) (u : List ℕ) (m : ℕ) (r : List ℕ) : Type 0 where
  digits : List ℕ
  each : AllDigits 10 digits
  text : u ≡ digits ++ 62 ∷ r
  value : m ≡ capped (digits_value_after 10 n digits)

below_ten : (c : ℕ) → IsDigit c → digit_value c < 10
below_ten c d = let e = digit_value_digit c d in omega (arith, e, d.1)

comes : (n m o : ℕ) (u r : List ℕ) → o ≡ capped n → DistanceNumber o u m r → Digits n u m r
comes n m o u r e (over _ _) = record { digits = []; each = tt; text = refl; value = e }
comes n m o u r e (digit c _ _ v _ k p) =
    let i = comes (n * 10 + digit_value c) m (with_digit PAST_DISTANCE o c) v r
    (ap (λ x. with_digit PAST_DISTANCE x c) e ∙ one_more n c k) p in
    record {
      digits = c ∷ i.digits;
      each = (below_ten c k, i.each);
      text = ap (λ x. c ∷ x) i.text;
      value = i.value;
    }

-- the number that one digit writes
abbrev first : ℕ → ℕ
first c = 0 * 10 + digit_value c

first_digit : (c : ℕ) → IsDigit c → with_digit PAST_DISTANCE 0 c ≡ capped (first c)
first_digit c d = one_more 0 c d

distance_of : (u r : List ℕ) (d : ℕ) → Distance u d r → IsArrow u d r ⊎ IsDecimal u d r
distance_of u r d (arrow _) = inl (record { text = refl; value = refl })
distance_of u r d (number c _ v _ k p) =
    let i = comes (first c) d (with_digit PAST_DISTANCE 0 c) v r (first_digit c k) p in
    inr (record {
      digits = c ∷ i.digits;
      numeral = (omega arith, (below_ten c k, i.each));
      text = ap (λ x. c ∷ x) i.text;
      value = i.value;
    })

distance_arrow : (u r : List ℕ) (d : ℕ) → IsArrow u d r → Distance u d r
distance_arrow u r d a = subst (λ x. Distance u x r) (sym a.value) (subst (λ x. Distance x 1 r) (sym a.text) (arrow r))

distance_decimal : (ds r : List ℕ) → IsNumeral 10 ds → Distance (ds ++ 62 ∷ r) (capped (digits_value 10 ds)) r
distance_decimal [] r h = absurd (omega (arith, h.0))
distance_decimal (c ∷ ds) r (s, (d, h)) =
    let k = digit_from_value c d in
    let m = capped (digits_value_after 10 (first c) ds) in
    number c m (ds ++ 62 ∷ r) r k
    (subst (λ x. DistanceNumber x (ds ++ 62 ∷ r) m r) (sym (first_digit c k)) (leads ds r (first c) h))

distance_from : (u r : List ℕ) (d : ℕ) → IsArrow u d r ⊎ IsDecimal u d r → Distance u d r
distance_from u r d (inl a) = distance_arrow u r d a
distance_from u r d (inr n) = subst (λ x. Distance u x r) (sym n.value)
    (subst (λ x. Distance x (capped (digits_value 10 n.digits)) r) (sym n.text) (distance_decimal n.digits r n.numeral))

pub distance_is_decimal : DistanceIsDecimal
distance_is_decimal u d r = (λ h. distance_of u r d h, λ h. distance_from u r d h)
