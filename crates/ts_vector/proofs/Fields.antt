-- Bytes are read field by field in one way.
use Rattle.std.proofs.Common.{◌≡◌, ℕ, ◌+◌, ◌*◌, ◌<◌, ◌⊎◌, inl, inr, List, [], ◌∷◌, ◌++◌, length, refl, sym, ◌∙◌, ap}
use Rattle.std.proofs.Common.{subst, arith, length-append}
use Rattle.ts_base.specs.Vectors.{Position, Vector}
use Rattle.ts_base.specs.Encoding.{weight_number, position_number, position_bytes}
use Rattle.ts_base.proofs.LittleBytes.{same_fronts, little_same}
use Rattle.ts_base.proofs.Encoding.{weight_number_small, weight_number_same}
use Rattle.ts_vector.specs.Decoded.{DecodedPart, Next, Width, IsBeginning, ReadsFields, IsCut, IsSurplus, IsWrong}
use Rattle.ts_vector.specs.Decoded.{IsBadAt, BadPlaceIsOne, entry_with, start, counted, measured, named, placed, count}
use Rattle.ts_vector.specs.Decoded.{measure, name, no_places, places, place, last_place, of_count, of_length, of_lexeme}
use Rattle.ts_vector.specs.Decoded.{of_number, of_place, begun, field}

-- ── a field says one thing ──
numbers_apart : (a b p q : ℕ) → p < 16384 → q < 16384 → a * 16384 + p ≡ b * 16384 + q → (a ≡ b) × (p ≡ q)
numbers_apart a b p q h k e = (omega arith, omega arith)

word_same : (p q : Position) (x y : List ℕ) → p.at < 16384 → q.at < 16384
    → position_bytes p ++ x ≡ position_bytes q ++ y → (p ≡ q) × (x ≡ y)
word_same p q x y h k e =
    let t = little_same 2 (position_number p) (position_number q) x y (omega (arith, weight_number_small p.weight))
    (omega (arith, weight_number_small q.weight)) e in
    let n = numbers_apart (weight_number p.weight) (weight_number q.weight) p.at q.at h k t.0 in
    let w = weight_number_same p.weight q.weight n.0 in
    (λ i. record { at = n.1 i; weight = w i }, t.1)

-- the two parts and what is left of the bytes
abbrev Same : DecodedPart → List ℕ → DecodedPart → List ℕ → Type 0
Same q x r y = (q ≡ r) × (x ≡ y)

pub next_one : (p q r : DecodedPart) (f g x y : List ℕ) → Next p f q → Next p g r → f ++ x ≡ g ++ y → Same q x r y
next_one p q r f g x y (count n h) (count m k) e = let s = little_same 4 n m x y h k e in (λ i. counted (s.0 i) [], s.1)
next_one p q r f g x y (measure n k v h a) (measure _ l _ _ b) e =
    let s = little_same 2 k l x y a b e in (λ i. measured n v (s.0 i), s.1)
next_one p q r f g x y (name n k v l a) (name _ _ _ m b) e =
    let s = same_fronts l m x y (a ∙ sym b) e in (λ i. named n v (s.0 i), s.1)
next_one p q r f g x y (no_places n v l) (no_places _ _ _) e =
    let s = little_same 2 0 0 x y (omega arith) (omega arith) e in (refl, s.1)
next_one p q r f g x y (no_places n v l) (places _ m _ _ h k) e =
    let s = little_same 2 0 m x y (omega arith) k e in absurd (let z = s.0 in omega arith)
next_one p q r f g x y (places n m v l h k) (no_places _ _ _) e =
    let s = little_same 2 m 0 x y k (omega arith) e in absurd (let z = s.0 in omega arith)
next_one p q r f g x y (places n m v l h k) (places _ j _ _ a b) e =
    let s = little_same 2 m j x y k b e in (λ i. placed n v l (s.0 i) [], s.1)
next_one p q r f g x y (place n m v l ps a h k) (place _ _ _ _ _ b c d) e =
    let s = word_same a b x y h c e in (λ i. placed n v l m (ps ++ s.0 i ∷ []), s.1)
next_one p q r f g x y (place n m v l ps a h k) (last_place _ _ _ _ _ b c d) e = absurd (omega arith)
next_one p q r f g x y (last_place n m v l ps a h k) (place _ _ _ _ _ b c d) e = absurd (omega arith)
next_one p q r f g x y (last_place n m v l ps a h k) (last_place _ _ _ _ _ b c d) e =
    let s = word_same a b x y h c e in (λ i. counted n (v ++ entry_with l (ps ++ s.0 i ∷ []) ∷ []), s.1)

width_of : (p q : DecodedPart) (f : List ℕ) (w : ℕ) → Next p f q → Width p w → length f ≡ w
width_of p q f w (count n h) of_count = refl
width_of p q f w (measure n k v h a) (of_length _ _ _) = refl
width_of p q f w (name n k v l a) (of_lexeme _ _ _) = a
width_of p q f w (no_places n v l) (of_number _ _ _) = refl
width_of p q f w (places n m v l h k) (of_number _ _ _) = refl
width_of p q f w (place n m v l ps a h k) (of_place _ _ _ _ _) = refl
width_of p q f w (last_place n m v l ps a h k) (of_place _ _ _ _ _) = refl

width_one : (p : DecodedPart) (w z : ℕ) → Width p w → Width p z → w ≡ z
width_one p w z of_count of_count = refl
width_one p w z (of_length _ _ _) (of_length _ _ _) = refl
width_one p w z (of_lexeme _ _ _) (of_lexeme _ _ _) = refl
width_one p w z (of_number _ _ _) (of_number _ _ _) = refl
width_one p w z (of_place _ _ _ _ _) (of_place _ _ _ _ _) = refl

-- ── two ways to read the same bytes ──
-- from p with r left, fields lead to q with s left
data Onward : DecodedPart → List ℕ → DecodedPart → List ℕ → Type 0 where
  here : (p : DecodedPart) (r : List ℕ) → Onward p r p r
  on : (p x q : DecodedPart) (f r s : List ℕ) → Next p f x → IsBeginning x → Onward x r q s → Onward p (f ++ r) q s

onward_more : (p q x : DecodedPart) (r t f s : List ℕ) → Onward p r q t → t ≡ f ++ s → Next q f x → IsBeginning x
    → Onward p r x s
onward_more p q x r t f s (here _ _) e n b = subst (λ u. Onward q u x s) (sym e) (on q x x f s s n b (here x s))
onward_more p q x r t f s (on _ y _ g u _ m c o) e n b = on p y x g u s m c (onward_more y q x u t f s o e n b)

from_start : (bytes : List ℕ) (q : DecodedPart) (s : List ℕ) → ReadsFields bytes q s → Onward start bytes q s
from_start bytes q s begun = here start bytes
from_start bytes q s (field p _ f _ h n b) =
    onward_more start p q bytes (f ++ s) f s (from_start bytes p (f ++ s) h) refl n b

step_or : (p x q : DecodedPart) (t f r s : List ℕ) → Onward p t q s → t ≡ f ++ r → Next p f x → IsBeginning x
    → Onward x r q s ⊎ Onward q s x r
step_or p x q t f r s (here _ _) e n b = inr (subst (λ u. Onward p u x r) (sym e) (on p x x f r r n b (here x r)))
step_or p x q t f r s (on _ y _ g u _ m c o) e n b =
    let k = next_one p y x g f u r m n e in
    inl (subst (λ z. Onward z r q s) k.0 (subst (λ w. Onward y w q s) k.1 o))

two_reads : (bytes : List ℕ) (p q : DecodedPart) (r s : List ℕ) → ReadsFields bytes p r → ReadsFields bytes q s
    → Onward p r q s ⊎ Onward q s p r
two_reads bytes p q r s begun k = inl (from_start bytes q s k)
two_reads bytes p q r s (field x _ f _ h n b) k = elim (two_reads bytes x q (f ++ r) s h k) [
  | inl o ↦ step_or x p q (f ++ r) f r s o refl n b
  | inr o ↦ inr (onward_more q x p s (f ++ r) f r o refl n b)
]

-- ── where reading ends ──
abbrev Halts : DecodedPart → List ℕ → Type 0
Halts p r = IsCut p r ⊎ (IsSurplus p r ⊎ IsWrong p r)

counted_next : (n : ℕ) (v : Vector) (f : List ℕ) (x : DecodedPart) → Next (counted n v) f x → length v < n
counted_next n v f x (measure _ k _ h a) = h

counted_width : (n : ℕ) (v : Vector) (w : ℕ) → Width (counted n v) w → length v < n
counted_width n v w (of_length _ _ h) = h

no_step : (p x : DecodedPart) (f r t : List ℕ) → t ≡ f ++ r → Next p f x → IsBeginning x → ¬ Halts p t
no_step p x f r t e n b (inl (w, width, short)) =
    let l = width_of p x f w n width in
    let m = ap length e ∙ length-append f r in
    omega arith
no_step p x f r t e n b (inr (inl (k, v, is, whole, more))) =
    let lt = counted_next k v f x (subst (λ z. Next z f x) is n) in omega arith
no_step p x f r t e n b (inr (inr (g, more, is, width, never))) =
    let l : length g ≡ length f = sym (width_of p x f (length g) n width) in
    let s = same_fronts g f more r l (sym is ∙ e) in
    never x (subst (λ z. Next p z x) (sym s.0) n) b

halts_here : (p q : DecodedPart) (r s : List ℕ) → Halts p r → Onward p r q s → Same p r q s
halts_here p q r s h (here _ _) = (refl, refl)
halts_here p q r s h (on _ x _ f t _ n b o) = absurd (no_step p x f t r refl n b h)

halts : (bytes : List ℕ) (n : ℕ) (b : IsBadAt bytes n) → Halts b.part b.rest
halts bytes n b = elim b.cause [ inl k ↦ inl k.0 | inr k ↦ inr k.0 ]

same_stop : (bytes : List ℕ) (m n : ℕ) (a : IsBadAt bytes m) (b : IsBadAt bytes n) → Same a.part a.rest b.part b.rest
same_stop bytes m n a b = elim (two_reads bytes a.part b.part a.rest b.rest a.reads b.reads) [
  | inl o ↦ halts_here a.part b.part a.rest b.rest (halts bytes m a) o
  | inr o ↦ let k = halts_here b.part a.part b.rest a.rest (halts bytes n b) o in (sym k.0, sym k.1)
]

-- a field that is cut is no surplus, nor there
cut_alone : (p : DecodedPart) (r : List ℕ) → IsCut p r → ¬ (IsSurplus p r ⊎ IsWrong p r)
cut_alone p r (w, width, short) (inl (k, v, is, whole, more)) =
    let lt = counted_width k v w (subst (λ z. Width z w) is width) in omega arith
cut_alone p r (w, width, short) (inr (g, more, is, k, never)) =
    let e = width_one p w (length g) width k in
    let m = ap length is ∙ length-append g more in
    omega arith

abbrev CauseAt : List ℕ → DecodedPart → List ℕ → ℕ → Type 0
CauseAt bytes p r n = (IsCut p r × (n ≡ length bytes)) ⊎ ((IsSurplus p r ⊎ IsWrong p r) × (n + length r ≡ length bytes))

one_place : (bytes : List ℕ) (p : DecodedPart) (r : List ℕ) (m n : ℕ) → CauseAt bytes p r m → CauseAt bytes p r n
    → m ≡ n
one_place bytes p r m n (inl (h, e)) (inl (k, f)) = e ∙ sym f
one_place bytes p r m n (inl (h, e)) (inr (k, f)) = absurd (cut_alone p r h k)
one_place bytes p r m n (inr (h, e)) (inl (k, f)) = absurd (cut_alone p r k h)
one_place bytes p r m n (inr (h, e)) (inr (k, f)) = omega arith

pub bad_place_is_one : BadPlaceIsOne
bad_place_is_one bytes m n a b =
    let s = same_stop bytes m n a b in
    one_place bytes b.part b.rest m n
    (subst (λ p. CauseAt bytes p b.rest m) s.0 (subst (λ r. CauseAt bytes a.part r m) s.1 a.cause)) b.cause

-- a whole reading is no bad one
pub whole_not_bad : (bytes : List ℕ) (v : Vector) → ReadsFields bytes (counted (length v) v) [] → (n : ℕ)
    → ¬ IsBadAt bytes n
whole_not_bad bytes v whole n b = elim (two_reads bytes b.part (counted (length v) v) b.rest [] b.reads whole) [
  | inl o ↦ let s = halts_here b.part (counted (length v) v) b.rest [] (halts bytes n b) o in
      never v (subst (λ p. Halts p []) s.0 (subst (λ r. Halts b.part r) s.1 (halts bytes n b)))
  | inr o ↦ let s = stays v b.part b.rest o in
      never v (subst (λ p. Halts p []) (sym s.0) (subst (λ r. Halts b.part r) (sym s.1) (halts bytes n b)))
]
  where
    never : (w : Vector) → ¬ Halts (counted (length w) w) []
    never w (inl (k, width, short)) = let lt = counted_width (length w) w k width in omega arith
    never w (inr (inl (k, u, is, e, more))) = more refl
    never w (inr (inr (g, more, is, width, deny))) = let lt = counted_width (length w) w (length g) width in omega arith

    stuck : (w : Vector) (x : DecodedPart) (f : List ℕ) → ¬ Next (counted (length w) w) f x
    stuck w x f n = let lt = counted_next (length w) w f x n in omega arith

    stays_at : (w : Vector) (p q : DecodedPart) (r s : List ℕ) → p ≡ counted (length w) w → Onward p r q s
        → Same p r q s
    stays_at w p q r s e (here _ _) = (refl, refl)
    stays_at w p q r s e (on _ x _ f t _ k c o) = absurd (stuck w x f (subst (λ z. Next z f x) e k))

    stays : (w : Vector) (q : DecodedPart) (s : List ℕ) → Onward (counted (length w) w) [] q s
        → Same (counted (length w) w) [] q s
    stays w q s o = stays_at w (counted (length w) w) q [] s refl o
