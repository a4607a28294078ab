-- A phrase at a place is a truth table over its operands, each at its offset from the phrase's beginning.
use Rattle.std.proofs.Common.{◌≡◌, ℕ, ◌+◌, ◌≤◌, Bool, not, ◌&&◌, ◌||◌, [], inl, inr, refl, sym, ap, ◌∙◌, arith}
use Rattle.std.specs.Prelude.{ℤ, pos, ◌+ℤ◌, ◌-ℤ◌, max, Contains}
use Rattle.std.proofs.lemmas.Int.{ints}
use Rattle.std.proofs.lemmas.List.Elements.{Contains-append_left, Contains-append_right, Contains-append_cases}
use Rattle.ts_base.specs.Vectors.{Vector}
use Rattle.ts_query.specs.declared.query.Operand.{Operand}
use Rattle.ts_query.specs.Queries.{Tree, leaf, negated, joined, or_joint, and_joint, phrase_joint}
use Rattle.ts_match.specs.Meaning.{places, is_place, width, at}
use Rattle.ts_match.specs.Candidates.{offsets}
use Rattle.ts_match.specs.Laws.Elements.{Contains-here, Contains-one}

-- the operand has a position at its offset from the beginning s
abbrev pub there : Vector → ℤ → Operand → ℕ → Bool
there v s o e = is_place (places o v) (s +ℤ pos e)

-- the truth table of a tree that begins at e
abbrev pub truth : (Operand → ℕ → Bool) → Tree → ℕ → Bool
truth f (leaf o) e = f o e
truth f (negated x) e = not (truth f x e)
truth f (joined or_joint x y) e = truth f x e || truth f y e
truth f (joined and_joint x y) e = truth f x e && truth f y e
truth f (joined (phrase_joint n) x y) e = truth f x e && truth f y (e + (width x + n))

part : (s : ℤ) (e w m : ℕ) → w ≤ m → (((s +ℤ pos e) +ℤ pos m) -ℤ pos m) +ℤ pos w ≡ (s +ℤ pos e) +ℤ pos w
part s e w m h = omega (arith, ints)

left_part : (s : ℤ) (e wx wy n : ℕ) → (((s +ℤ pos e) +ℤ pos (wx + wy + n)) -ℤ pos n) -ℤ pos wy ≡ (s +ℤ pos e) +ℤ pos wx
left_part s e wx wy n = omega (arith, ints)

right_part : (s : ℤ) (e wx wy n : ℕ) → (s +ℤ pos e) +ℤ pos (wx + wy + n) ≡ (s +ℤ pos (e + (wx + n))) +ℤ pos wy
right_part s e wx wy n = omega (arith, ints)

no_width : (s : ℤ) (e : ℕ) → (s +ℤ pos e) +ℤ pos 0 ≡ s +ℤ pos e
no_width s e = omega (arith, ints)

max_left : (a b : ℕ) → a ≤ max a b
max_left a b = omega arith

max_right : (a b : ℕ) → b ≤ max a b
max_right a b = omega arith

pub at_truth : (v : Vector) (t : Tree) (s : ℤ) (e : ℕ) → at v t ((s +ℤ pos e) +ℤ pos (width t)) ≡ truth (there v s) t e
at_truth v (leaf o) s e = ap (λ i. is_place (places o v) i) (no_width s e)
at_truth v (negated x) s e = ap not (at_truth v x s e)
at_truth v (joined or_joint x y) s e =
    let m = max (width x) (width y) in
    let a = ap (λ i. at v x i) (part s e (width x) m (max_left (width x) (width y))) ∙ at_truth v x s e in
    let b = ap (λ i. at v y i) (part s e (width y) m (max_right (width x) (width y))) ∙ at_truth v y s e in
    rw (a, b) refl
at_truth v (joined and_joint x y) s e =
    let m = max (width x) (width y) in
    let a = ap (λ i. at v x i) (part s e (width x) m (max_left (width x) (width y))) ∙ at_truth v x s e in
    let b = ap (λ i. at v y i) (part s e (width y) m (max_right (width x) (width y))) ∙ at_truth v y s e in
    rw (a, b) refl
at_truth v (joined (phrase_joint n) x y) s e =
    let a = ap (λ i. at v x i) (left_part s e (width x) (width y) n) ∙ at_truth v x s e in
    let b = ap (λ i. at v y i) (right_part s e (width x) (width y) n) ∙ at_truth v y s (e + (width x + n)) in
    rw (a, b) refl

start_of : (i : ℤ) (w : ℕ) → ((i -ℤ pos w) +ℤ pos 0) +ℤ pos w ≡ i
start_of i w = omega (arith, ints)

-- from its place back to its beginning
pub at_start : (v : Vector) (t : Tree) (i : ℤ) → at v t i ≡ truth (there v (i -ℤ pos (width t))) t 0
at_start v t i = ap (λ k. at v t k) (sym (start_of i (width t))) ∙ at_truth v t (i -ℤ pos (width t)) 0

-- tables that agree at the operands give one truth
pub agree : (f g : Operand → ℕ → Bool) (t : Tree) (e : ℕ)
    → ((k : Operand × ℕ) → Contains (offsets t e) k → f k.0 k.1 ≡ g k.0 k.1) → truth f t e ≡ truth g t e
agree f g (leaf o) e h = h (o, e) (Contains-here (o, e) [])
agree f g (negated x) e h = ap not (agree f g x e h)
agree f g (joined or_joint x y) e h =
    let a = agree f g x e (λ k c. h k (Contains-append_left (offsets x e) (offsets y e) k c)) in
    let b = agree f g y e (λ k c. h k (Contains-append_right (offsets x e) (offsets y e) k c)) in
    rw (a, b) refl
agree f g (joined and_joint x y) e h =
    let a = agree f g x e (λ k c. h k (Contains-append_left (offsets x e) (offsets y e) k c)) in
    let b = agree f g y e (λ k c. h k (Contains-append_right (offsets x e) (offsets y e) k c)) in
    rw (a, b) refl
agree f g (joined (phrase_joint n) x y) e h =
    let r = e + (width x + n) in
    let a = agree f g x e (λ k c. h k (Contains-append_left (offsets x e) (offsets y r) k c)) in
    let b = agree f g y r (λ k c. h k (Contains-append_right (offsets x e) (offsets y r) k c)) in
    rw (a, b) refl

-- an operand is within the width
pub offsets_within : (t : Tree) (e : ℕ) (k : Operand × ℕ) → Contains (offsets t e) k → k.1 ≤ e + width t
offsets_within (leaf o) e k h = let p = ap (λ (x : Operand × ℕ). x.1) (Contains-one (o, e) k h) in omega arith
offsets_within (negated x) e k h = offsets_within x e k h
offsets_within (joined or_joint x y) e k h = elim (Contains-append_cases (offsets x e) (offsets y e) k h) [
  | inl a ↦ let p = offsets_within x e k a in omega arith
  | inr b ↦ let p = offsets_within y e k b in omega arith
]
offsets_within (joined and_joint x y) e k h = elim (Contains-append_cases (offsets x e) (offsets y e) k h) [
  | inl a ↦ let p = offsets_within x e k a in omega arith
  | inr b ↦ let p = offsets_within y e k b in omega arith
]
offsets_within (joined (phrase_joint n) x y) e k h =
    elim (Contains-append_cases (offsets x e) (offsets y (e + (width x + n))) k h) [
      | inl a ↦ let p = offsets_within x e k a in omega arith
      | inr b ↦ let p = offsets_within y (e + (width x + n)) k b in omega arith
    ]
