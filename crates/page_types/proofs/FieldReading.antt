-- What a field was read from, and that a field that was written is read again.
use Rattle.std.proofs.Common.{◌≡◌, ℕ, ◌+◌, ◌^◌, ◌<◌, ◌≤◌, Bool, true, false, cond, ltb, List, ◌++◌, length, take, drop}
use Rattle.std.proofs.Common.{get_or, Result, Ok, Err, refl, sym, ap, subst, ◌∙◌, append_assoc, arith, inl, inr}
use Rattle.std.proofs.lemmas.Bool.{cases_lt, le-ltb, ltb-false}
use Rattle.std.proofs.lemmas.List.{take-append-drop, take_at, drop_at, length-append, length-take, length-take-le}
use Rattle.std.proofs.lemmas.List.{get_or-take, get_or-drop, get_or_past}
use Rattle.std.proofs.lemmas.Nat.{le_bytes_2, le_bytes_4, le_bytes_8}
use Rattle.byteorder.specs.Endian.{little_bytes, little_number}
use Rattle.byteorder.specs.Numbers.{little_number-reads_back, little_from-take, little_from-lt, length-bytes_low_first}
use Rattle.page_types.specs.Numbers.{u16_bytes, u32_bytes, u64_bytes}
use Rattle.page_types.specs.Fields.{◌>>=◌, number_at, bytes_at, tested}

abbrev pub IsBytes : List ℕ → Type 0
IsBytes bytes = (i : ℕ) → get_or bytes i 0 < 256

pub IsBytes-drop : (n : ℕ) (bytes : List ℕ) → IsBytes bytes → IsBytes (drop n bytes)
IsBytes-drop n bytes fits i = rw get_or-drop (fits (n + i))

pub IsBytes-take : (n : ℕ) (bytes : List ℕ) → IsBytes bytes → IsBytes (take n bytes)
IsBytes-take n bytes fits i =
    elim (cases_lt i n) [
      | inl lt ↦ rw (get_or-take n bytes i 0 lt) (fits i)
      | inr le ↦ elim (cases_lt n (length bytes)) [
        | inl less ↦ rw (get_or_past (take n bytes) i 0 (omega (arith, length-take-le n bytes))) (omega arith)
        | inr more ↦ rw (get_or_past (take n bytes) i 0 (omega (arith, length-take n bytes))) (omega arith)
      ]
    ]

-- the value of a step that did not fail
pub bind_ok : {A B : Type 0} (r : Result A ℕ) (f : A → Result B ℕ) (y : B) → (r >>= f) ≡ Ok y
    → (x : A) × (r ≡ Ok x) × (f x ≡ Ok y)
bind_ok (Ok x) f y e = (x, refl, e)
bind_ok (Err left) f y e = absurd cc

-- a test that passed
pub tested_ok : {A : Type 0} (passes : Bool) (bytes : List ℕ) (x y : A) → tested passes bytes x ≡ Ok y
    → (passes ≡ true) × (x ≡ y)
tested_ok true bytes x y e = (refl, cc)
tested_ok false bytes x y e = absurd cc

-- a field's bytes, and those after it
pub record Takes (bytes text rest : List ℕ) : Type 0 where
  pub parts : bytes ≡ text ++ rest
  pub rest_fits : IsBytes rest

pub Takes-then : (a x b y c : List ℕ) → Takes a x b → Takes b y c → Takes a (x ++ y) c
Takes-then a x b y c p q =
    record { parts = p.parts ∙ ap (λ (t : List ℕ). x ++ t) q.parts ∙ sym (append_assoc x y c); rest_fits = q.rest_fits }

-- what is read where there is room
abbrev if_room : {A : Type 0} → Bool → A → Result A ℕ
if_room short x = cond short (Err 0) (Ok x)

room_ok : {A : Type 0} (short : Bool) (x y : A) → if_room short x ≡ Ok y → (short ≡ false) × (x ≡ y)
room_ok true x y e = absurd cc
room_ok false x y e = (refl, cc)

-- ---- bytes

pub bytes_take : (size : ℕ) (bytes x rest : List ℕ) → IsBytes bytes → bytes_at size bytes ≡ Ok (x, rest)
    → Takes bytes x rest × (length x ≡ size)
unfolding bytes_at
bytes_take size bytes x rest fits e =
    let r = room_ok (ltb (length bytes) size) (take size bytes, drop size bytes) (x, rest) e in
    let room : size ≤ length bytes = ltb-false (length bytes) size r.0 in
    let front : take size bytes ≡ x = ap (λ (p : List ℕ × List ℕ). p.0) r.1 in
    let back : drop size bytes ≡ rest = ap (λ (p : List ℕ × List ℕ). p.1) r.1 in
    let P : List ℕ → List ℕ → List ℕ = λ a b. a ++ b in (
      record {
        parts = sym (take-append-drop size bytes) ∙ ap (λ a. P a (drop size bytes)) front ∙ ap (P x) back;
        rest_fits = subst IsBytes back (IsBytes-drop size bytes fits);
      },
      sym (ap length front) ∙ length-take-le size bytes room,
    )

pub bytes_again : (size : ℕ) (x rest : List ℕ) → length x ≡ size → bytes_at size (x ++ rest) ≡ Ok (x, rest)
unfolding bytes_at
bytes_again size x rest is =
    let room : ltb (length (x ++ rest)) size ≡ false =
    le-ltb (length (x ++ rest)) size (omega (arith, length-append x rest)) in
    let P : List ℕ → List ℕ → Result (List ℕ × List ℕ) ℕ = λ a b. Ok (a, b) in
    ap (λ t. if_room t (take size (x ++ rest), drop size (x ++ rest))) room
    ∙ ap (λ a. P a (drop size (x ++ rest))) (take_at x rest size is) ∙ ap (P x) (drop_at x rest size is)

-- ---- numbers

-- so many bytes are those of the number that they give
pub record IsWide (size : ℕ) : Type 0 where
  pub back : (bytes : List ℕ) → length bytes ≡ size → IsBytes bytes
      → little_bytes size (little_number size bytes) ≡ bytes

pub wide2 : IsWide 2
wide2 = record { back = λ bytes len fits. le_bytes_2 bytes (little_number 2 bytes) len fits (omega arith) }

pub wide4 : IsWide 4
wide4 = record { back = λ bytes len fits. le_bytes_4 bytes (little_number 4 bytes) len fits (omega arith) }

pub wide8 : IsWide 8
wide8 = record { back = λ bytes len fits. le_bytes_8 bytes (little_number 8 bytes) len fits (omega arith) }

pub number_takes : (size : ℕ) (wide : IsWide size) (bytes : List ℕ) (n : ℕ) (rest : List ℕ) → IsBytes bytes
    → number_at size bytes ≡ Ok (n, rest) → Takes bytes (little_bytes size n) rest × (n < 256 ^ size)
unfolding number_at
number_takes size wide bytes n rest fits e =
    let r = room_ok (ltb (length bytes) size) (little_number size bytes, drop size bytes) (n, rest) e in
    let room : size ≤ length bytes = ltb-false (length bytes) size r.0 in
    let number : little_number size bytes ≡ n = ap (λ (p : ℕ × List ℕ). p.0) r.1 in
    let back : drop size bytes ≡ rest = ap (λ (p : ℕ × List ℕ). p.1) r.1 in
    let front : little_bytes size n ≡ take size bytes =
    ap (little_bytes size) (sym number ∙ sym (little_from-take 0 size size bytes (omega arith)))
    ∙ wide.back (take size bytes) (length-take-le size bytes room) (IsBytes-take size bytes fits) in
    let P : List ℕ → List ℕ → List ℕ = λ a b. a ++ b in (
      record {
        parts = sym (take-append-drop size bytes) ∙ ap (λ a. P a (drop size bytes)) (sym front)
            ∙ ap (P (little_bytes size n)) back;
        rest_fits = subst IsBytes back (IsBytes-drop size bytes fits);
      },
      subst (λ k. k < 256 ^ size) number (little_from-lt 0 size bytes fits),
    )

pub number_again : (size n : ℕ) (rest : List ℕ) → n < 256 ^ size
    → number_at size (little_bytes size n ++ rest) ≡ Ok (n, rest)
unfolding number_at
number_again size n rest lt =
    let len = length-bytes_low_first 0 size n in
    let room : ltb (length (little_bytes size n ++ rest)) size ≡ false = le-ltb
    (length (little_bytes size n ++ rest)) size (omega (arith, length-append (little_bytes size n) rest, len)) in
    let P : ℕ → List ℕ → Result (ℕ × List ℕ) ℕ = λ a b. Ok (a, b) in
    ap (λ t. if_room t (little_number size (little_bytes size n ++ rest), drop size (little_bytes size n ++ rest))) room
    ∙ ap (λ a. P a (drop size (little_bytes size n ++ rest))) (little_number-reads_back size n rest lt)
    ∙ ap (P n) (drop_at (little_bytes size n) rest size len)

pub u16_takes : (bytes : List ℕ) (n : ℕ) (rest : List ℕ) → IsBytes bytes → number_at 2 bytes ≡ Ok (n, rest)
    → Takes bytes (u16_bytes n) rest × (n < 2 ^ 16)
unfolding u16_bytes
u16_takes bytes n rest fits e = number_takes 2 wide2 bytes n rest fits e

pub u32_takes : (bytes : List ℕ) (n : ℕ) (rest : List ℕ) → IsBytes bytes → number_at 4 bytes ≡ Ok (n, rest)
    → Takes bytes (u32_bytes n) rest × (n < 2 ^ 32)
unfolding u32_bytes
u32_takes bytes n rest fits e = number_takes 4 wide4 bytes n rest fits e

pub u64_takes : (bytes : List ℕ) (n : ℕ) (rest : List ℕ) → IsBytes bytes → number_at 8 bytes ≡ Ok (n, rest)
    → Takes bytes (u64_bytes n) rest × (n < 2 ^ 64)
unfolding u64_bytes
u64_takes bytes n rest fits e = number_takes 8 wide8 bytes n rest fits e

pub u16_again : (n : ℕ) (rest : List ℕ) → n < 2 ^ 16 → number_at 2 (u16_bytes n ++ rest) ≡ Ok (n, rest)
unfolding u16_bytes
u16_again n rest lt = number_again 2 n rest lt

pub u32_again : (n : ℕ) (rest : List ℕ) → n < 2 ^ 32 → number_at 4 (u32_bytes n ++ rest) ≡ Ok (n, rest)
unfolding u32_bytes
u32_again n rest lt = number_again 4 n rest lt

pub u64_again : (n : ℕ) (rest : List ℕ) → n < 2 ^ 64 → number_at 8 (u64_bytes n ++ rest) ≡ Ok (n, rest)
unfolding u64_bytes
u64_again n rest lt = number_again 8 n rest lt
