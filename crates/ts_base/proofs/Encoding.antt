-- The encoding of a vector belongs to no other, and has its size.
use Rattle.std.proofs.Common.{◌≡◌, ℕ, ◌+◌, ◌*◌, ◌<◌, ◌≤◌, List, [], ◌∷◌, ◌++◌, length, refl, sym, ◌∙◌, arith}
use Rattle.std.proofs.Common.{append_assoc, length-append}
use Rattle.std.specs.Prelude.{All, sum_by}
use Rattle.std.specs.List.{flat_map}
use Rattle.std.proofs.lemmas.List.Elements.{All-tail}
use Rattle.std.proofs.lemmas.List.Sums.{sum_by-cons}
use Rattle.ts_base.specs.declared.Weight.{Weight}
use Rattle.ts_base.specs.declared.Weight.TheVariants.{D, C, B, A}
use Rattle.ts_base.specs.Vectors.{Position, Entry, Vector, IsPosition, IsEntry}
use Rattle.byteorder.specs.Endian.{little_bytes}
use Rattle.ts_base.specs.Encoding.{weight_number, position_number, position_bytes, entry_bytes, entry_size}
use Rattle.ts_base.specs.Encoding.{EncodingTellsVector, EncodingHasSize}
use Rattle.ts_base.proofs.LittleBytes.{same_fronts, little_same}

pub weight_number_same : (v w : Weight) → weight_number v ≡ weight_number w → v ≡ w
weight_number_same D D e = refl
weight_number_same C C e = refl
weight_number_same B B e = refl
weight_number_same A A e = refl
weight_number_same _ _ e = absurd (omega arith)

pub weight_number_small : (w : Weight) → weight_number w ≤ 3
weight_number_small D = omega arith
weight_number_small C = omega arith
weight_number_small B = omega arith
weight_number_small A = omega arith

numbers_same : (a b p q : ℕ) → p ≤ 16383 → q ≤ 16383 → a * 16384 + p ≡ b * 16384 + q → (a ≡ b) × (p ≡ q)
numbers_same a b p q h k e = (omega arith, omega arith)

pub position_number_same : (p q : Position) → IsPosition p → IsPosition q → position_number p ≡ position_number q
    → p ≡ q
position_number_same p q h k e =
    let n = numbers_same (weight_number p.weight) (weight_number q.weight) p.at q.at h.1 k.1 e in
    let w = weight_number_same p.weight q.weight n.0 in
    λ i. record { at = n.1 i; weight = w i }

pub position_number_small : (p : Position) → IsPosition p → position_number p < 65536
position_number_small p h = omega (arith, weight_number_small p.weight)

-- as many positions, and what follows them
positions_same : (ps qs : List Position) (x y : List ℕ) → length ps ≡ length qs → All IsPosition ps → All IsPosition qs
    → flat_map position_bytes ps ++ x ≡ flat_map position_bytes qs ++ y → (ps ≡ qs) × (x ≡ y)
positions_same [] [] x y n h k e = (refl, e)
positions_same [] (q ∷ qs) x y n h k e = absurd (omega arith)
positions_same (p ∷ ps) [] x y n h k e = absurd (omega arith)
positions_same (p ∷ ps) (q ∷ qs) x y n h k e =
    let hp : IsPosition p = h 0 p (omega arith) in
    let kq : IsPosition q = k 0 q (omega arith) in
    let t = little_same 2 (position_number p) (position_number q) (flat_map position_bytes ps ++ x)
    (flat_map position_bytes qs ++ y)
    (position_number_small p hp) (position_number_small q kq) e in
    let s = position_number_same p q hp kq t.0 in
    let r = positions_same ps qs x y (omega arith) (All-tail IsPosition p ps h) (All-tail IsPosition q qs k) t.1 in
    (λ i. s i ∷ r.0 i, r.1)

-- an entry, and what follows it
pub entry_same : (e f : Entry) (x y : List ℕ) → IsEntry e → IsEntry f → entry_bytes e ++ x ≡ entry_bytes f ++ y
    → (e ≡ f) × (x ≡ y)
entry_same e f x y h k is =
    let tail : Entry → List ℕ = λ d. little_bytes 2 (length d.positions) ++ flat_map position_bytes d.positions in
    let lengths =
    little_same 2 (length e.lexeme) (length f.lexeme) ((e.lexeme ++ tail e) ++ x) ((f.lexeme ++ tail f) ++ y)
    (omega (arith, h.lexeme.most)) (omega (arith, k.lexeme.most)) is in
    let joined : e.lexeme ++ (tail e ++ x) ≡ f.lexeme ++ (tail f ++ y) =
    sym (append_assoc e.lexeme (tail e) x) ∙ lengths.1 ∙ append_assoc f.lexeme (tail f) y in
    let lexemes = same_fronts e.lexeme f.lexeme (tail e ++ x) (tail f ++ y) lengths.0 joined in
    let counts = little_same 2 (length e.positions) (length f.positions) (flat_map position_bytes e.positions ++ x)
    (flat_map position_bytes f.positions ++ y)
    (omega (arith, h.few)) (omega (arith, k.few)) lexemes.1 in
    let places = positions_same e.positions f.positions x y counts.0 h.positions k.positions counts.1 in
    (λ i. record { lexeme = lexemes.0 i; positions = places.0 i }, places.1)

entries_same : (v w : Vector) → All IsEntry v → All IsEntry w → flat_map entry_bytes v ≡ flat_map entry_bytes w → v ≡ w
entries_same [] [] h k e = refl
entries_same [] (f ∷ w) h k e = absurd (cc)
entries_same (e ∷ v) [] h k is = absurd (cc)
entries_same (e ∷ v) (f ∷ w) h k is =
    let r = entry_same e f (flat_map entry_bytes v) (flat_map entry_bytes w) (h 0 e (omega arith))
    (k 0 f (omega arith)) is in
    let t = entries_same v w (All-tail IsEntry e v h) (All-tail IsEntry f w k) r.1 in
    λ i. r.0 i ∷ t i

pub encoding_tells_vector : EncodingTellsVector
encoding_tells_vector v w n m e =
    let t : flat_map entry_bytes v ≡ flat_map entry_bytes w = cc in
    entries_same v w n.entries m.entries t

pub length-positions : (ps : List Position) → length (flat_map position_bytes ps) ≡ 2 * length ps
length-positions [] = refl
length-positions (p ∷ ps) = omega (arith, length-positions ps)

pub length-entry_bytes : (e : Entry) → length (entry_bytes e) ≡ entry_size e
length-entry_bytes e =
    omega (
      arith,
      length-append e.lexeme (little_bytes 2 (length e.positions) ++ flat_map position_bytes e.positions),
      length-positions e.positions,
    )

pub length-entries : (v : Vector) → length (flat_map entry_bytes v) ≡ sum_by entry_size v
length-entries [] = refl
length-entries (e ∷ v) = omega (
  arith,
  length-append (entry_bytes e) (flat_map entry_bytes v),
  length-entry_bytes e,
  length-entries v,
  sum_by-cons entry_size e v,
)

pub encoding_has_size : EncodingHasSize
encoding_has_size v = omega (arith, length-entries v)
