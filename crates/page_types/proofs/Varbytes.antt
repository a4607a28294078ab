-- A varbyte is read as the number that it was written for, and what is read was written so.
use Rattle.std.proofs.Common.{◌≡◌, ℕ, zero, suc, ◌+◌, ◌-◌, ◌*◌, ◌/◌, ◌%◌, ◌^◌, ◌<◌, ◌≤◌, cond, ltb, List, [], ◌∷◌, ◌++◌}
use Rattle.std.proofs.Common.{length, get_or, Option, Some, None, refl, sym, ap, subst, ◌∙◌, arith, inl, inr}
use Rattle.std.proofs.lemmas.Bool.{cases_lt, cases_cond, lt-ltb, le-ltb}
use Rattle.std.proofs.Math.Nat.{pow-suc}
use Rattle.page_types.specs.Items.{varbyte_within, varbyte}
use Rattle.page_types.proofs.ItemLists.{varbyte_last, varbyte_more}
use Rattle.page_types.specs.ItemReading.{number_end, raised, no_number, with_low, number_within}

abbrev pub IsBytes : List ℕ → Type 0
IsBytes bytes = (i : ℕ) → get_or bytes i 0 < 256

-- more bytes may be allowed
more_allowed : (most n : ℕ) → n < 128 ^ suc most → varbyte_within (suc most) n ≡ varbyte_within (suc (suc most)) n
more_allowed zero n lt = varbyte_last 0 n (omega arith) ∙ sym (varbyte_last 1 n (omega arith))
more_allowed (suc most) n lt =
    let fits : n / 128 < 128 ^ suc most = let step = pow-suc 128 (suc most) in omega arith in
    let rest = more_allowed most (n / 128) fits in
    elim (cases_lt n 128) [
      | inl small ↦ varbyte_last (suc most) n small ∙ sym (varbyte_last (suc (suc most)) n small)
      | inr large ↦ varbyte_more (suc most) n large ∙ ap (λ (t : List ℕ). (n % 128 + 128) ∷ t) rest
          ∙ sym (varbyte_more (suc (suc most)) n large)
    ]

-- a varbyte's last byte, and each before it
pub varbyte-last : (n : ℕ) → n < 128 → varbyte n ≡ n ∷ []
unfolding varbyte
varbyte-last n lt = varbyte_last 4 n lt

pub varbyte-more : (n : ℕ) → 128 ≤ n → n < 2 ^ 31 → varbyte n ≡ (n % 128 + 128) ∷ varbyte (n / 128)
unfolding varbyte
varbyte-more n le lt =
    varbyte_more 4 n le ∙ ap (λ (t : List ℕ). (n % 128 + 128) ∷ t) (more_allowed 3 (n / 128) (omega arith))

number_of : Option (Option ℕ × List ℕ) → Option ℕ
number_of None = None
number_of (Some x) = x.0

tail_of : Option (Option ℕ × List ℕ) → List ℕ
tail_of None = []
tail_of (Some x) = x.1

none_given : (r : Option (List ℕ)) (n : ℕ) (rest : List ℕ) → no_number r ≡ Some (Some n, rest) → ⊥
unfolding number_of
none_given None n rest e = absurd cc
none_given (Some t) n rest e = let numbers : None ≡ Some n = ap number_of e in absurd cc

-- what the higher bits were
record IsRaised (low : ℕ) (r : Option (Option ℕ × List ℕ)) (n : ℕ) (rest : List ℕ) : Type 0 where
  pub high : ℕ
  pub read : r ≡ Some (Some (suc high), rest)
  pub sum : n ≡ low + 128 * suc high

low_read : (low : ℕ) (r : Option (Option ℕ × List ℕ)) (n : ℕ) (rest : List ℕ) → with_low low r ≡ Some (Some n, rest)
    → IsRaised low r n rest
unfolding number_of tail_of
low_read low None n rest e = absurd cc
low_read low (Some (None, t)) n rest e = let numbers : None ≡ Some n = ap number_of e in absurd cc
low_read low (Some (Some zero, t)) n rest e = let numbers : None ≡ Some n = ap number_of e in absurd cc
low_read low (Some (Some (suc m), t)) n rest e =
    let numbers : Some (low + 128 * suc m) ≡ Some n = ap number_of e in
    let sums : low + 128 * suc m ≡ n = cc in
    let tails : t ≡ rest = ap tail_of e in
    record { high = m; read = ap (λ (s : List ℕ). Some (Some (suc m), s)) tails; sum = sym sums }

-- what a number that was read was written as
pub record IsWritten (most n : ℕ) (rest bytes : List ℕ) : Type 0 where
  pub encoding : varbyte_within most n ++ rest ≡ bytes
  pub bound : n < 128 ^ most
  pub rest_fits : IsBytes rest

pub was_written : (most : ℕ) (bytes : List ℕ) (n : ℕ) (rest : List ℕ) → IsBytes bytes
    → number_within most bytes ≡ Some (Some n, rest) → IsWritten most n rest bytes
unfolding number_of tail_of
was_written zero bytes n rest fits e = absurd (none_given (number_end bytes) n rest e)
was_written (suc most) [] n rest fits e = absurd cc
was_written (suc most) (b ∷ bs) n rest fits e =
    elim (cases_lt b 128) [
      | inl small ↦
          let whole : Option (Option ℕ × List ℕ) = Some (Some b, bs) in
          let here : whole ≡ Some (Some n, rest) = sym
          (ap (λ t. cond t (Some (Some b, bs)) (with_low (b - 128) (number_within most bs))) (lt-ltb b 128 small))
          ∙ e in
          let numbers_are : Some b ≡ Some n = ap number_of here in
          let numbers : b ≡ n = cc in
          let tails : bs ≡ rest = ap tail_of here in
          let bound : n < 128 ^ suc most = let step = pow-suc 128 most in let some = power_some most in omega arith in
          record {
            encoding = ap (λ (t : List ℕ). t ++ rest) (varbyte_last most n (omega arith))
                ∙ ap (λ k. k ∷ rest) (sym numbers) ∙ ap (λ (t : List ℕ). b ∷ t) (sym tails);
            bound = bound;
            rest_fits = subst IsBytes tails (λ i. fits (suc i));
          }
      | inr large ↦
          let here : with_low (b - 128) (number_within most bs) ≡ Some (Some n, rest) = sym
          (ap (λ t. cond t (Some (Some b, bs)) (with_low (b - 128) (number_within most bs))) (le-ltb b 128 large))
          ∙ e in
          let higher = low_read (b - 128) (number_within most bs) n rest here in
          let ih = was_written most bs (suc higher.high) rest (λ i. fits (suc i)) higher.read in
          let low : n % 128 + 128 ≡ b = let sum = higher.sum in let small : b < 256 = fits 0 in omega arith in
          let high : n / 128 ≡ suc higher.high = let sum = higher.sum in let small : b < 256 = fits 0 in omega arith in
          let bound : n < 128 ^ suc most = let step = pow-suc 128 most in
          let below = ih.bound in let sum = higher.sum in let small : b < 256 = fits 0 in omega arith in
          let P : ℕ → ℕ → List ℕ = λ x y. x ∷ (varbyte_within most y ++ rest) in
          record {
            encoding = ap (λ (t : List ℕ). t ++ rest) (varbyte_more most n (let sum = higher.sum in omega arith))
                ∙ ap (λ x. P x (n / 128)) low ∙ ap (P b) high ∙ ap (λ (t : List ℕ). b ∷ t) ih.encoding;
            bound = bound;
            rest_fits = ih.rest_fits;
          }
    ]
  where
    power_some : (k : ℕ) → 0 < 128 ^ k
    power_some zero = omega arith
    power_some (suc k) = let step = pow-suc 128 k in let before = power_some k in omega arith

raised_some : (low high : ℕ) → 0 < high → raised low (Some high) ≡ Some (low + 128 * high)
raised_some low zero lt = absurd (omega arith)
raised_some low (suc m) lt = refl

small_read : (most n : ℕ) (rest : List ℕ) → n < 128
    → number_within (suc most) (varbyte_within (suc most) n ++ rest) ≡ Some (Some n, rest)
small_read most n rest lt =
    ap (λ (t : List ℕ). number_within (suc most) (t ++ rest)) (varbyte_last most n lt)
    ∙ ap (λ t. cond t (Some (Some n, rest)) (with_low (n - 128) (number_within most rest))) (lt-ltb n 128 lt)

large_read : (most n : ℕ) (rest : List ℕ) → 128 ≤ n → number_within most (varbyte_within most (n / 128) ++ rest)
    ≡ Some (Some (n / 128), rest) → number_within (suc most) (varbyte_within (suc most) n ++ rest) ≡ Some (Some n, rest)
large_read most n rest le high =
    let first : ℕ = n % 128 + 128 in
    let tail : List ℕ = varbyte_within most (n / 128) ++ rest in
    let sum : n % 128 + 128 - 128 + 128 * (n / 128) ≡ n = omega arith in
    ap (λ (t : List ℕ). number_within (suc most) (t ++ rest)) (varbyte_more most n le)
    ∙ ap (λ t. cond t (Some (Some (n % 128 + 128), varbyte_within most (n / 128) ++ rest))
    (with_low (n % 128 + 128 - 128) (number_within most (varbyte_within most (n / 128) ++ rest))))
    (le-ltb (n % 128 + 128) 128 (omega arith))
    ∙ ap (with_low (n % 128 + 128 - 128)) high ∙ ap (λ (t : Option ℕ). Some (t, rest))
    (raised_some (n % 128 + 128 - 128) (n / 128) (omega arith)) ∙ ap (λ k. Some (Some k, rest)) sum

-- what was written is read
pub is_read : (most n : ℕ) (rest : List ℕ) → n < 128 ^ suc most
    → number_within (suc most) (varbyte_within (suc most) n ++ rest) ≡ Some (Some n, rest)
is_read zero n rest lt = small_read 0 n rest (omega arith)
is_read (suc most) n rest lt =
    let fits : n / 128 < 128 ^ suc most = let step = pow-suc 128 (suc most) in omega arith in
    let high = is_read most (n / 128) rest fits in
    elim (cases_lt n 128) [
      | inl small ↦ small_read (suc most) n rest small
      | inr large ↦ large_read (suc most) n rest large high
    ]

-- no varbyte is empty
pub some_bytes : (n : ℕ) → 1 ≤ length (varbyte n)
unfolding varbyte
some_bytes n =
    elim (cases_lt n 128) [
      | inl small ↦ omega (arith, ap length (varbyte_last 4 n small))
      | inr large ↦ omega (arith, ap length (varbyte_more 4 n large))
    ]

-- a number of at most four varbytes
pub power_small : (k : ℕ) → k ≤ 4 → 128 ^ k ≤ 2 ^ 28
power_small zero le = omega arith
power_small (suc zero) le = omega arith
power_small (suc (suc zero)) le = omega arith
power_small (suc (suc (suc zero))) le = omega arith
power_small (suc (suc (suc (suc zero)))) le = omega arith
power_small (suc (suc (suc (suc (suc k))))) le = absurd (omega arith)

pub power_large : (k : ℕ) → 0 < k → 128 ≤ 128 ^ k
power_large zero lt = absurd (omega arith)
power_large (suc zero) lt = omega arith
power_large (suc (suc k)) lt =
    let step = pow-suc 128 (suc k) in let before = power_large (suc k) (omega arith) in omega arith

-- what is read leaves fewer bytes
end_shorter : (bytes rest : List ℕ) → number_end bytes ≡ Some rest → length rest < length bytes
end_shorter [] rest e = absurd cc
end_shorter (b ∷ bs) rest e =
    elim (cases_cond (ltb b 128) (Some bs) (number_end bs) (Some rest) (sym e)) [
      | inl here ↦ let same : rest ≡ bs = cc in omega (arith, ap length same)
      | inr later ↦ let less = end_shorter bs rest (sym later) in omega (arith, less)
    ]

refused_shorter : (bytes : List ℕ) (r : Option (List ℕ)) (x : Option ℕ) (rest : List ℕ)
    → ((t : List ℕ) → r ≡ Some t → length t < length bytes) → no_number r ≡ Some (x, rest) → length rest < length bytes
unfolding tail_of
refused_shorter bytes None x rest h e = absurd cc
refused_shorter bytes (Some t) x rest h e =
    let tails : t ≡ rest = ap tail_of e in let less = h t refl in omega (arith, ap length tails)

low_shorter : (low : ℕ) (r : Option (Option ℕ × List ℕ)) (x : Option ℕ) (rest : List ℕ)
    → with_low low r ≡ Some (x, rest) → (y : Option ℕ) × (r ≡ Some (y, rest))
unfolding tail_of
low_shorter low None x rest e = absurd cc
low_shorter low (Some p) x rest e =
    let tails : p.1 ≡ rest = ap tail_of e in (p.0, ap (λ (t : List ℕ). Some (p.0, t)) tails)

pub number_shorter : (most : ℕ) (bytes : List ℕ) (x : Option ℕ) (rest : List ℕ)
    → number_within most bytes ≡ Some (x, rest) → length rest < length bytes
unfolding tail_of
number_shorter zero bytes x rest e = refused_shorter bytes (number_end bytes) x rest (λ t h. end_shorter bytes t h) e
number_shorter (suc most) [] x rest e = absurd cc
number_shorter (suc most) (b ∷ bs) x rest e =
    elim (cases_cond (ltb b 128) (Some (Some b, bs)) (with_low (b - 128) (number_within most bs)) (Some (x, rest))
    (sym e)) [
      | inl here ↦ let tails : rest ≡ bs = ap tail_of here in omega (arith, ap length tails)
      | inr later ↦ let p = low_shorter (b - 128) (number_within most bs) x rest (sym later) in
          let less = number_shorter most bs p.0 rest p.1 in omega (arith, less)
    ]
