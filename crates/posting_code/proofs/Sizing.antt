-- How many bytes differences have: two that are added have no more than both, so fewer items have no longer list.
use Rattle.std.proofs.Common.{◌≡◌, ℕ, zero, suc, ◌+◌, ◌-◌, ◌/◌, ◌^◌, ◌<◌, ◌≤◌, List, [], ◌∷◌, length, refl, sym, ap}
use Rattle.std.proofs.Common.{subst, arith, inl, inr}
use Rattle.std.specs.List.{Contains}
use Rattle.std.proofs.lemmas.Bool.{cases_lt}
use Rattle.std.proofs.lemmas.List.{length-append}
use Rattle.std.proofs.Math.Nat.{pow-suc}
use Rattle.page_types.specs.Items.{varbyte, item_list_from, AreItemsFrom}
use Rattle.page_types.proofs.Varbytes.{varbyte-last, varbyte-more, some_bytes, power_large}

size_more : (n : ℕ) → 128 ≤ n → n < 2 ^ 31 → length (varbyte n) ≡ suc (length (varbyte (n / 128)))
size_more n le lt = ap length (varbyte-more n le lt)

size_last : (n : ℕ) → n < 128 → length (varbyte n) ≡ 1
size_last n lt = ap length (varbyte-last n lt)

-- a number below this power has so many bytes at most
pub few_bytes : (k n : ℕ) → n < 2 ^ 31 → n < 128 ^ suc k → length (varbyte n) ≤ suc k
few_bytes zero n fits lt = omega (arith, size_last n (omega arith))
few_bytes (suc k) n fits lt =
    elim (cases_lt n 128) [
      | inl small ↦ omega (arith, size_last n small)
      | inr large ↦
          let step = pow-suc 128 (suc k) in
          let high = few_bytes k (n / 128) (omega arith) (omega (arith, step, lt)) in
          omega (arith, size_more n large fits, high)
    ]

-- a number of so many bytes at most is below that power
pub small_number : (k n : ℕ) → n < 2 ^ 31 → length (varbyte n) ≤ k → n < 128 ^ k
small_number zero n fits le = absurd (omega (arith, some_bytes n))
small_number (suc k) n fits le =
    elim (cases_lt n 128) [
      | inl small ↦ omega (arith, power_large (suc k) (omega arith))
      | inr large ↦
          let step = pow-suc 128 k in
          let high = small_number k (n / 128) (omega arith) (omega (arith, size_more n large fits)) in
          omega (arith, step, high)
    ]

pub most_bytes : (n : ℕ) → n < 2 ^ 31 → length (varbyte n) ≤ 5
most_bytes n lt = few_bytes 4 n lt (omega arith)

both : (p q a b : ℕ) → a + b < 2 ^ 31 → length (varbyte a) ≡ p → length (varbyte b) ≡ q
    → length (varbyte (a + b)) ≤ p + q
both zero q a b fits x y = absurd (omega (arith, some_bytes a))
both (suc p) zero a b fits x y = absurd (omega (arith, some_bytes b))
both (suc zero) (suc zero) a b fits x y = few_bytes 1 (a + b) fits (omega
    (arith, small_number 1 a (omega arith) (omega (arith, x)), small_number 1 b (omega arith) (omega (arith, y))))
both (suc zero) (suc (suc zero)) a b fits x y = few_bytes 2 (a + b) fits (omega
    (arith, small_number 1 a (omega arith) (omega (arith, x)), small_number 2 b (omega arith) (omega (arith, y))))
both (suc zero) (suc (suc (suc zero))) a b fits x y = few_bytes 3 (a + b) fits (omega
    (arith, small_number 1 a (omega arith) (omega (arith, x)), small_number 3 b (omega arith) (omega (arith, y))))
both (suc (suc zero)) (suc zero) a b fits x y = few_bytes 2 (a + b) fits (omega
    (arith, small_number 2 a (omega arith) (omega (arith, x)), small_number 1 b (omega arith) (omega (arith, y))))
both (suc (suc zero)) (suc (suc zero)) a b fits x y = few_bytes 3 (a + b) fits (omega
    (arith, small_number 2 a (omega arith) (omega (arith, x)), small_number 2 b (omega arith) (omega (arith, y))))
both (suc (suc (suc zero))) (suc zero) a b fits x y = few_bytes 3 (a + b) fits (omega
    (arith, small_number 3 a (omega arith) (omega (arith, x)), small_number 1 b (omega arith) (omega (arith, y))))
both (suc zero) (suc (suc (suc (suc q)))) a b fits x y = omega (arith, most_bytes (a + b) fits)
both (suc (suc zero)) (suc (suc (suc q))) a b fits x y = omega (arith, most_bytes (a + b) fits)
both (suc (suc (suc zero))) (suc (suc q)) a b fits x y = omega (arith, most_bytes (a + b) fits)
both (suc (suc (suc (suc p)))) (suc q) a b fits x y = omega (arith, most_bytes (a + b) fits)

-- a sum has no more bytes than its parts
pub sum_no_longer : (a b : ℕ) → a + b < 2 ^ 31 → length (varbyte (a + b)) ≤ length (varbyte a) + length (varbyte b)
sum_no_longer a b fits = both (length (varbyte a)) (length (varbyte b)) a b fits refl refl

-- ---- lists

pub length-from : (last i : ℕ) (is : List ℕ)
    → length (item_list_from last (i ∷ is)) ≡ length (varbyte (i - last)) + length (item_list_from i is)
length-from last i is = length-append (varbyte (i - last)) (item_list_from i is)

above_each : (last i : ℕ) (is : List ℕ) → AreItemsFrom last is → Contains is i → last < i
above_each last i [] h c = absurd (omega (arith, c.1))
above_each last i (x ∷ is) h (zero, lt, e) = omega (arith, h.0, e)
above_each last i (x ∷ is) h (suc k, lt, e) =
    let later = above_each x i is h.2 (k, omega arith, e) in omega (arith, h.0, later)

tail_has : (i b : ℕ) (bs : List ℕ) → b < i → Contains (b ∷ bs) i → Contains bs i
tail_has i b bs lt (zero, l, e) = absurd (omega (arith, e))
tail_has i b bs lt (suc k, l, e) = (k, omega arith, e)

later_has : (i a : ℕ) (is : List ℕ) → Contains is i → Contains (a ∷ is) i
later_has i a is (k, lt, e) = (suc k, omega arith, e)

-- fewer items have no longer list
pub fewer_shorter : (last : ℕ) (is js : List ℕ) → AreItemsFrom last is → AreItemsFrom last js
    → ((i : ℕ) → Contains is i → Contains js i) → length (item_list_from last is) ≤ length (item_list_from last js)
fewer_shorter last [] js h k sub = omega arith
fewer_shorter last (a ∷ more_is) [] h k sub = let c = sub a (0, omega arith, refl) in absurd (omega (arith, c.1))
fewer_shorter last (a ∷ more_is) (b ∷ bs) h k sub =
    elim (cases_lt b a) [
      | inl less ↦
          let rest = fewer_shorter b (a ∷ more_is) bs (less, h.1, h.2) k.2
          (λ i c. tail_has i b bs (above_each b i (a ∷ more_is) (less, h.1, h.2) c) (sub i c)) in
          let gap : (b - last) + (a - b) ≡ a - last = omega (arith, k.0) in
          let one = subst (λ n. length (varbyte n) ≤ length (varbyte (b - last)) + length (varbyte (a - b))) gap
          (sum_no_longer (b - last) (a - b) (omega (arith, h.1, k.0))) in
          omega (arith, length-from last a more_is, length-from last b bs, length-from b a more_is, rest, one)
      | inr more ↦
          let same : a ≡ b = first_same (sub a (0, omega arith, refl)) more in
          let rest = fewer_shorter b more_is bs (subst (λ n. AreItemsFrom n more_is) same h.2) k.2 (λ i c.
          tail_has i b bs (omega (arith, same, above_each a i more_is h.2 c)) (sub i (later_has i a more_is c))) in
          omega (
            arith,
            length-from last a more_is,
            length-from last b bs,
            rest,
            ap (λ n. length (varbyte (n - last))) same,
            ap (λ n. length (item_list_from n more_is)) same,
          )
    ]
  where
    first_same : Contains (b ∷ bs) a → a ≤ b → a ≡ b
    first_same (zero, lt, e) le = sym e
    first_same (suc j, lt, e) le = absurd (omega (arith, above_each b a bs k.2 (j, omega arith, e)))

-- just so many bytes
pub exact_bytes : (k n : ℕ) → n < 2 ^ 31 → 128 ^ suc k ≤ n → n < 128 ^ suc (suc k) → length (varbyte n) ≡ suc (suc k)
exact_bytes k n fits le lt =
    elim (cases_lt (length (varbyte n)) (suc (suc k))) [
      | inl few ↦ absurd (omega (arith, le, small_number (suc k) n fits (omega (arith, few))))
      | inr enough ↦ omega (arith, enough, few_bytes (suc k) n fits lt)
    ]

pub one_byte : (n : ℕ) → n < 128 → length (varbyte n) ≡ 1
one_byte n lt = size_last n lt

pub five_bytes : (n : ℕ) → n < 2 ^ 31 → 268435456 ≤ n → length (varbyte n) ≡ 5
five_bytes n fits le = exact_bytes 3 n fits (omega (arith, le)) (omega (arith, fits))
