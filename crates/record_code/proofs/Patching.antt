-- A length that is written over the place that was left for it.
use Rattle.std.proofs.Common.{◌≡◌, ℕ, ◌+◌, ◌-◌, ◌≤◌, List, ◌++◌, length, take, drop, sym, ap, ◌∙◌, append_assoc, arith}
use Rattle.std.proofs.lemmas.List.{take_at, drop_at, length-append}
use Rattle.byteorder.specs.Endian.{little_bytes}
use Rattle.page_types.specs.Numbers.{u32_bytes}
use Rattle.page_types.specs.Writing.{overwritten}
use Rattle.page_types.specs.Records.{record_rest, record_bytes}
use Rattle.page_types.specs.declared.record.Record.{Record}
use Rattle.page_types.proofs.Framing.{length-u32_bytes}

pub size_is : (bytes : List ℕ) (m n : ℕ) → bytes ≡ little_bytes 4 m → m ≡ n → bytes ≡ u32_bytes n
unfolding u32_bytes
size_is bytes m n e is = e ∙ ap (little_bytes 4) is

-- what is after the place
pub behind_is : (old rest out : List ℕ) → out ≡ (old ++ u32_bytes 0) ++ rest
    → length out ≡ length old + (4 + length rest)
behind_is old rest out is = ap length is
    ∙ omega (arith, length-append (old ++ u32_bytes 0) rest, length-append old (u32_bytes 0), length-u32_bytes 0)

patched : (old rest bytes out new : List ℕ) (start : ℕ) → out ≡ (old ++ u32_bytes 0) ++ rest → start ≡ length old
    → length bytes ≡ 4 → new ≡ overwritten start bytes out → new ≡ old ++ (bytes ++ rest)
unfolding overwritten
patched old rest bytes out new start is at len e =
    let front : take start out ≡ old =
    ap (take start) (is ∙ append_assoc old (u32_bytes 0) rest) ∙ take_at old (u32_bytes 0 ++ rest) start (sym at) in
    let place : length (old ++ u32_bytes 0) ≡ start + length bytes =
    omega (arith, length-append old (u32_bytes 0), length-u32_bytes 0, at, len) in
    let behind : drop (start + length bytes) out ≡ rest =
    ap (drop (start + length bytes)) is ∙ drop_at (old ++ u32_bytes 0) rest (start + length bytes) place in
    let P : List ℕ → List ℕ → List ℕ = λ a b. a ++ (bytes ++ b) in
    e ∙ ap (λ a. P a (drop (start + length bytes) out)) front ∙ ap (P old) behind

pub is_patched : (r : Record) (old bytes out new : List ℕ) (start size : ℕ)
    → out ≡ (old ++ u32_bytes 0) ++ record_rest r → start ≡ length old → size ≡ length (record_rest r)
    → bytes ≡ little_bytes 4 size → new ≡ overwritten start bytes out → new ≡ old ++ record_bytes r
unfolding record_bytes
is_patched r old bytes out new start size is at sized e same =
    let four : bytes ≡ u32_bytes (length (record_rest r)) = size_is bytes size (length (record_rest r)) e sized in
    patched old (record_rest r) bytes out new start is at (ap length four ∙ length-u32_bytes (length (record_rest r)))
    same ∙ ap (λ (l : List ℕ). old ++ (l ++ record_rest r)) four

-- what is known of the lengths before the length is written
pub record Sizes (rest out : List ℕ) (total start : ℕ) : Type 0 where
  pub enough : 4 ≤ total - start
  pub size : total - start - 4 ≡ length rest
  pub room : start + 4 ≤ length out

pub sizes : (old rest out : List ℕ) (total start : ℕ) → out ≡ (old ++ u32_bytes 0) ++ rest → total ≡ length out
    → start ≡ length old → Sizes rest out total start
sizes old rest out total start is at end =
    let all = behind_is old rest out is in
    record { enough = omega arith; size = omega arith; room = omega arith }

pub whole_patched : (r : Record) (old bytes out new : List ℕ) (start size n : ℕ) → out ≡ (old
    ++ u32_bytes 0) ++ record_rest r → start ≡ length old → size ≡ length (record_rest r) → bytes ≡ little_bytes 4 size
    → new ≡ overwritten start bytes out → n ≡ length out → take n (new ++ drop (length new) out) ≡ old ++ record_bytes r
unfolding record_bytes
whole_patched r old bytes out new start size n is at sized e same len =
    let made : new ≡ old ++ record_bytes r = is_patched r old bytes out new start size is at sized e same in
    let long : length new ≡ n =
    ap length made ∙ omega (
      arith,
      len,
      behind_is old (record_rest r) out is,
      length-append old (u32_bytes (length (record_rest r)) ++ record_rest r),
      length-append (u32_bytes (length (record_rest r))) (record_rest r),
      length-u32_bytes (length (record_rest r)),
    ) in
    take_at new (drop (length new) out) n long ∙ made
