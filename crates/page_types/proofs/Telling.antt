-- An encoding that belongs to one value, whatever bytes follow.
use Rattle.std.proofs.Common.{◌≡◌, ℕ, ◌^◌, ◌<◌, List, [], ◌∷◌, ◌++◌, length, refl, sym, ap, ◌∙◌, append_assoc, arith}
use Rattle.std.specs.List.{flat_map, AllByRecursion}
use Rattle.byteorder.specs.Endian.{little_bytes, little_number}
use Rattle.byteorder.specs.Numbers.{little_number-reads_back}
use Rattle.page_types.specs.Numbers.{u16_bytes, u32_bytes, u64_bytes}
use Rattle.page_types.specs.Encoding.{key_field}
use Rattle.page_types.proofs.Framing.{length-u16_bytes, length-u32_bytes, length-u64_bytes}

-- what fits is known from the front of the bytes
abbrev pub Tells : {A : Type 0} → (A → List ℕ) → (A → Type 0) → Type 0
Tells {A} encode Fits = (x y : A) (a b : List ℕ) → Fits x → Fits y → encode x ++ a ≡ encode y ++ b → (x ≡ y) × (a ≡ b)

pub parts_told : {A : Type 0} (a c b d : List A) → length a ≡ length c → a ++ b ≡ c ++ d → (a ≡ c) × (b ≡ d)
parts_told [] [] b d l e = (refl, e)
parts_told [] (y ∷ c) b d l e = absurd (omega arith)
parts_told (x ∷ a) [] b d l e = absurd (omega arith)
parts_told {A} (x ∷ a) (y ∷ c) b d l e =
    let P : A → List A → List A = λ h t. h ∷ t in
    let heads : x ≡ y = cc in
    let tails : a ++ b ≡ c ++ d = cc in
    let rest = parts_told a c b d (omega arith) tails in
    (ap (λ h. P h a) heads ∙ ap (P y) rest.0, rest.1)

pub number_told : (w m n : ℕ) → m < 256 ^ w → n < 256 ^ w → little_bytes w m ≡ little_bytes w n → m ≡ n
number_told w m n p q e =
    sym (little_number-reads_back w m [] p) ∙ ap (λ l. little_number w (l ++ [])) e ∙ little_number-reads_back w n [] q

pub u16_told : Tells u16_bytes (λ n. n < 2 ^ 16)
unfolding u16_bytes
u16_told m n a b p q e =
    let parts = parts_told (u16_bytes m) (u16_bytes n) a b (length-u16_bytes m ∙ sym (length-u16_bytes n)) e in
    (number_told 2 m n p q parts.0, parts.1)

pub u32_told : Tells u32_bytes (λ n. n < 2 ^ 32)
unfolding u32_bytes
u32_told m n a b p q e =
    let parts = parts_told (u32_bytes m) (u32_bytes n) a b (length-u32_bytes m ∙ sym (length-u32_bytes n)) e in
    (number_told 4 m n p q parts.0, parts.1)

pub u64_told : Tells u64_bytes (λ n. n < 2 ^ 64)
unfolding u64_bytes
u64_told m n a b p q e =
    let parts = parts_told (u64_bytes m) (u64_bytes n) a b (length-u64_bytes m ∙ sym (length-u64_bytes n)) e in
    (number_told 8 m n p q parts.0, parts.1)

-- a list whose length is said before it
pub sized_told : (x y a b : List ℕ) → length x < 2 ^ 16 → length y < 2 ^ 16
    → u16_bytes (length x) ++ (x ++ a) ≡ u16_bytes (length y) ++ (y ++ b) → (x ≡ y) × (a ≡ b)
sized_told x y a b p q e =
    let sizes = u16_told (length x) (length y) (x ++ a) (y ++ b) p q e in
    parts_told x y a b sizes.0 sizes.1

pub key_told : Tells key_field (λ key. length key < 2 ^ 16)
unfolding key_field
key_told x y a b p q e =
    sized_told x y a b p q (sym (append_assoc (u16_bytes (length x)) x a) ∙ e ∙ append_assoc (u16_bytes (length y)) y b)

-- a list of so many values
pub each_told : {A : Type 0} (encode : A → List ℕ) (Fits : A → Type 0) → Tells encode Fits
    → (xs ys : List A) (a b : List ℕ) → length xs ≡ length ys → AllByRecursion Fits xs → AllByRecursion Fits ys
    → flat_map encode xs ++ a ≡ flat_map encode ys ++ b → (xs ≡ ys) × (a ≡ b)
each_told encode Fits told [] [] a b l p q e = (refl, e)
each_told encode Fits told [] (y ∷ ys) a b l p q e = absurd (omega arith)
each_told encode Fits told (x ∷ xs) [] a b l p q e = absurd (omega arith)
each_told {A} encode Fits told (x ∷ xs) (y ∷ ys) a b l p q e =
    let regrouped : encode x ++ (flat_map encode xs ++ a) ≡ encode y ++ (flat_map encode ys ++ b) =
    sym (append_assoc (encode x) (flat_map encode xs) a) ∙ e ∙ append_assoc (encode y) (flat_map encode ys) b in
    let first = told x y (flat_map encode xs ++ a) (flat_map encode ys ++ b) p.0 q.0 regrouped in
    let rest = each_told encode Fits told xs ys a b (omega arith) p.1 q.1 first.1 in
    let P : A → List A → List A = λ h t. h ∷ t in
    (ap (λ h. P h xs) first.0 ∙ ap (P y) rest.0, rest.1)

-- with nothing after it
pub all_told : {A : Type 0} (encode : A → List ℕ) (Fits : A → Type 0) → Tells encode Fits → (xs ys : List A) → length xs
    ≡ length ys → AllByRecursion Fits xs → AllByRecursion Fits ys → flat_map encode xs ≡ flat_map encode ys → xs ≡ ys
all_told encode Fits told xs ys l p q e =
    (each_told encode Fits told xs ys [] [] l p q (ap (λ (t : List ℕ). t ++ []) e)).0
