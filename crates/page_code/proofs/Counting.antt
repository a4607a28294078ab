-- How many items a list has: as many as it has bytes below 128.
use Rattle.std.proofs.Common.{◌≡◌, ℕ, suc, ◌+◌, ◌-◌, ◌<◌, ◌≤◌, cond, List, [], ◌∷◌, length, drop, get_or, refl, sym, ap}
use Rattle.std.proofs.Common.{◌∙◌, arith}
use Rattle.std.proofs.lemmas.Bool.{lt-ltb, le-ltb}
use Rattle.std.proofs.lemmas.List.{drop_more, drop_all}
use Rattle.page_types.specs.Items.{carried, with_byte, differences, sums_from, items_of}

length-sums_from : (last : ℕ) (ns : List ℕ) → length (sums_from last ns) ≡ length ns
length-sums_from last [] = refl
length-sums_from last (n ∷ ns) = ap suc (length-sums_from (last + n) ns)

pub length-items_of : (bytes : List ℕ) → length (items_of bytes) ≡ length (differences bytes)
unfolding items_of
length-items_of bytes = length-sums_from 0 (differences bytes)

length-carried : (low : ℕ) (ns : List ℕ) → length (carried low ns) ≡ length ns
length-carried low [] = refl
length-carried low (n ∷ ns) = refl

small_counts : (b : ℕ) (ns : List ℕ) → b < 128 → length (with_byte b ns) ≡ suc (length ns)
small_counts b ns lt = ap (λ t. length (cond t (b ∷ ns) (carried (b - 128) ns))) (lt-ltb b 128 lt)

large_counts : (b : ℕ) (ns : List ℕ) → 128 ≤ b → length (with_byte b ns) ≡ length ns
large_counts b ns le =
    ap (λ t. length (cond t (b ∷ ns) (carried (b - 128) ns))) (le-ltb b 128 le) ∙ length-carried (b - 128) ns

-- so many items end in the first bytes of a list
pub record HasCounted (bytes : List ℕ) (index count : ℕ) : Type 0 where
  pub left : count + length (differences (drop index bytes)) ≡ length (differences bytes)
  pub below : count ≤ index

pub counting_starts : (bytes : List ℕ) → HasCounted bytes 0 0
counting_starts bytes = record { left = omega arith; below = omega arith }

next_is : (bytes : List ℕ) (index b : ℕ) → index < length bytes → b ≡ get_or bytes index 0
    → drop index bytes ≡ b ∷ drop (index + 1) bytes
next_is bytes index b lt is = drop_more bytes index 0 lt ∙ ap (λ x. x ∷ drop (index + 1) bytes) (sym is)

pub counts_small : (bytes : List ℕ) (index count b : ℕ) → HasCounted bytes index count → index < length bytes
    → b ≡ get_or bytes index 0 → b < 128 → HasCounted bytes (index + 1) (count + 1)
counts_small bytes index count b h lt is small =
    let here = ap (λ (l : List ℕ). length (differences l)) (next_is bytes index b lt is)
    ∙ small_counts b (differences (drop (index + 1) bytes)) small in
    record { left = omega (arith, here, h.left); below = omega (arith, h.below) }

pub counts_large : (bytes : List ℕ) (index count b : ℕ) → HasCounted bytes index count → index < length bytes
    → b ≡ get_or bytes index 0 → 128 ≤ b → HasCounted bytes (index + 1) count
counts_large bytes index count b h lt is large =
    let here = ap (λ (l : List ℕ). length (differences l)) (next_is bytes index b lt is)
    ∙ large_counts b (differences (drop (index + 1) bytes)) large in
    record { left = omega (arith, here, h.left); below = omega (arith, h.below) }

pub counting_ends : (bytes : List ℕ) (index count : ℕ) → HasCounted bytes index count → length bytes ≤ index
    → count ≡ length (items_of bytes)
counting_ends bytes index count h le =
    let none : length (differences (drop index bytes)) ≡ 0 =
    ap (λ (l : List ℕ). length (differences l)) (drop_all index bytes le) in
    omega (arith, none, h.left, length-items_of bytes)
