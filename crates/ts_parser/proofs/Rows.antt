-- Rows of pieces with single bytes between them.
use Rattle.std.proofs.Common.{◌≡◌, ℕ, zero, suc, ◌+◌, ◌≤◌, List, [], ◌∷◌, ◌++◌, length, take, drop, Bool, true, false}
use Rattle.std.proofs.Common.{◌||◌, ◌&&◌, ◌==◌, refl, sym, ap, ◌∙◌, append_assoc, length-append, arith, eqb-true}
use Rattle.std.proofs.Common.{eq-eqb}
use Rattle.std.specs.List.{list_all, list_any, prefix_len, join_with_byte}
use Rattle.std.proofs.lemmas.Bool.{and_parts, or_parts, or_from, or_right, and_from}
use Rattle.std.proofs.lemmas.List.{take_at, drop_at}
use Rattle.ts_parser.specs.Letters.{begins_with}
use Rattle.ts_parser.specs.Rows.{begins_piece, row_len}

-- what a piece is, as a test
abbrev pub is_piece : (ℕ → Bool) → (ℕ → Bool) → List ℕ → Bool
is_piece p m w = list_all p w && list_any m w

-- the row goes on at the front
abbrev pub goes_on : (ℕ → Bool) → (ℕ → Bool) → ℕ → List ℕ → Bool
goes_on p m s [] = false
goes_on p m s (c ∷ u) = p c || ((c == s) && begins_piece p m u)

-- ── what passes at the front ──
pub prefix_over : (p : ℕ → Bool) (w r : List ℕ) → list_all p w ≡ true → begins_with p r ≡ false
    → prefix_len p (w ++ r) ≡ length w
prefix_over p [] [] h e = refl
prefix_over p [] (c ∷ r) h e = rw e refl
prefix_over p (c ∷ w) r h e =
    let k = prefix_over p w r (and_parts (p c) (list_all p w) h).1 e in
    rw ((and_parts (p c) (list_all p w) h).0) (omega (arith, k))

pub front_over : (p : ℕ → Bool) (w r : List ℕ) → list_all p w ≡ true → begins_with p r ≡ false
    → take (prefix_len p (w ++ r)) (w ++ r) ≡ w
front_over p w r h e = ap (λ n. take n (w ++ r)) (prefix_over p w r h e) ∙ take_at w r (length w) refl

pub rest_over : (p : ℕ → Bool) (w r : List ℕ) → list_all p w ≡ true → begins_with p r ≡ false
    → drop (prefix_len p (w ++ r)) (w ++ r) ≡ r
rest_over p w r h e = ap (λ n. drop n (w ++ r)) (prefix_over p w r h e) ∙ drop_at w r (length w) refl

pub piece_over : (p m : ℕ → Bool) (w r : List ℕ) → list_all p w ≡ true → begins_with p r ≡ false
    → begins_piece p m (w ++ r) ≡ list_any m w
piece_over p m w r h e = ap (λ x. list_any m x) (front_over p w r h e)

-- a row does not go on with a byte that passes
pub ends_without : (p m : ℕ → Bool) (s : ℕ) (r : List ℕ) → goes_on p m s r ≡ false → begins_with p r ≡ false
ends_without p m s [] h = refl
ends_without p m s (c ∷ r) h = (or_parts (p c) ((c == s) && begins_piece p m r) h).0

-- ── a row's length ──
pub row_over : (p m : ℕ → Bool) (s : ℕ) (w z : List ℕ) → list_all p w ≡ true
    → row_len p m s (w ++ z) ≡ length w + row_len p m s z
row_over p m s [] z h = omega arith
row_over p m s (c ∷ w) z h =
    let k = row_over p m s w z (and_parts (p c) (list_all p w) h).1 in
    rw ((and_parts (p c) (list_all p w) h).0) (omega (arith, k))

pub row_ends : (p m : ℕ → Bool) (s : ℕ) (r : List ℕ) → goes_on p m s r ≡ false → row_len p m s r ≡ 0
row_ends p m s [] h = refl
row_ends p m s (c ∷ r) h = rw h refl

row_within_by : (p m : ℕ → Bool) (s c : ℕ) (u : List ℕ) (i : ℕ) (b : Bool) → goes_on p m s (c ∷ u) ≡ b
    → (i ≤ row_len p m s u → row_len p m s (drop i u) + i ≡ row_len p m s u)
    → suc i ≤ row_len p m s (c ∷ u) → row_len p m s (drop i u) + suc i ≡ row_len p m s (c ∷ u)
row_within_by p m s c u i true e k h =
    let n : suc i ≤ suc (row_len p m s u) = rw e at h in rw e (let j = k (omega (arith, n)) in omega (arith, j))
row_within_by p m s c u i false e k h = absurd (let n : suc i ≤ 0 = rw e at h in omega (arith, n))

-- a part of a row from its start on
pub row_within : (p m : ℕ → Bool) (s : ℕ) (u : List ℕ) (i : ℕ) → i ≤ row_len p m s u
    → row_len p m s (drop i u) + i ≡ row_len p m s u
row_within p m s u zero h = omega arith
row_within p m s [] (suc i) h = absurd (omega (arith, h))
row_within p m s (c ∷ u) (suc i) h = row_within_by p m s c u i (goes_on p m s (c ∷ u)) refl (row_within p m s u i) h

-- ── pieces, joined ──
-- after the first piece comes no byte of it
pub record FirstPiece (p : ℕ → Bool) (s : ℕ) (w : List ℕ) (us : List (List ℕ)) (r : List ℕ) : Type 0 where
  pub rest : List ℕ
  pub is : join_with_byte s (w ∷ us) ++ r ≡ w ++ rest
  pub ends : begins_with p rest ≡ false

pub first_piece : (p : ℕ → Bool) (s : ℕ) (w : List ℕ) (us : List (List ℕ)) (r : List ℕ) → p s ≡ false
    → begins_with p r ≡ false → FirstPiece p s w us r
first_piece p s w [] r n e = record { rest = r; is = refl; ends = e }
first_piece p s w (v ∷ vs) r n e = record {
  rest = s ∷ (join_with_byte s (v ∷ vs) ++ r);
  is = append_assoc w (s ∷ join_with_byte s (v ∷ vs)) r;
  ends = n;
}

-- a row of pieces is as long as they are
pub row_join : (p m : ℕ → Bool) (s : ℕ) (w : List ℕ) (us : List (List ℕ)) (r : List ℕ) → p s ≡ false
    → list_all p w ≡ true → list_all (is_piece p m) us ≡ true → goes_on p m s r ≡ false
    → row_len p m s (join_with_byte s (w ∷ us) ++ r) ≡ length (join_with_byte s (w ∷ us))
row_join p m s w [] r n a h e = let k = row_over p m s w r a in let z = row_ends p m s r e in omega (arith, k, z)
row_join p m s w (v ∷ vs) r n a h e =
    let hs = and_parts (is_piece p m v) (list_all (is_piece p m) vs) h in
    let hv = and_parts (list_all p v) (list_any m v) hs.0 in
    let f = first_piece p s v vs r n (ends_without p m s r e) in
    let j : List ℕ = join_with_byte s (v ∷ vs) in
    let b : begins_piece p m (j ++ r) ≡ true =
    ap (λ z. begins_piece p m z) f.is ∙ piece_over p m v f.rest hv.0 f.ends ∙ hv.1 in
    let g : goes_on p m s (s ∷ (j ++ r)) ≡ true = or_right (p s) ((s == s) && begins_piece p m (j ++ r))
    (and_from (s == s) (begins_piece p m (j ++ r)) (eq-eqb s s refl) b) in
    let one : row_len p m s (s ∷ (j ++ r)) ≡ suc (row_len p m s (j ++ r)) = rw g refl in
    let k = row_over p m s w (s ∷ (j ++ r)) a in
    let i = row_join p m s v vs r n hv.0 hs.1 e in
    ap (λ z. row_len p m s z) (append_assoc w (s ∷ j) r) ∙ k ∙ ap (λ z. length w + z) (one ∙ ap suc i)
    ∙ sym (length-append w (s ∷ j))

-- every text has a row of pieces at its front
pub record Row (p m : ℕ → Bool) (s : ℕ) (u : List ℕ) : Type 0 where
  pub first : List ℕ
  pub others : List (List ℕ)
  pub rest : List ℕ
  pub is : u ≡ join_with_byte s (first ∷ others) ++ rest
  pub size : row_len p m s u ≡ length (join_with_byte s (first ∷ others))
  pub inner : list_all p first ≡ true
  pub pieces : list_all (is_piece p m) others ≡ true
  pub ends : goes_on p m s rest ≡ false

join_cons : (s c : ℕ) (w : List ℕ) (us : List (List ℕ))
    → join_with_byte s ((c ∷ w) ∷ us) ≡ c ∷ join_with_byte s (w ∷ us)
join_cons s c w [] = refl
join_cons s c w (v ∷ vs) = refl

row_end : (p m : ℕ → Bool) (s : ℕ) (u : List ℕ) → goes_on p m s u ≡ false → Row p m s u
row_end p m s u e = record {
  first = [];
  others = [];
  rest = u;
  is = refl;
  size = row_ends p m s u e;
  inner = refl;
  pieces = refl;
  ends = e;
}

row_more : (p m : ℕ → Bool) (s c : ℕ) (u : List ℕ) → p c ≡ true → Row p m s u → Row p m s (c ∷ u)
row_more p m s c u h k = record {
  first = c ∷ k.first;
  others = k.others;
  rest = k.rest;
  is = ap (λ z. c ∷ z) k.is ∙ ap (λ z. z ++ k.rest) (sym (join_cons s c k.first k.others));
  size = rw h (ap suc k.size ∙ ap length (sym (join_cons s c k.first k.others)));
  inner = and_from (p c) (list_all p k.first) h k.inner;
  pieces = k.pieces;
  ends = k.ends;
}

row_new : (p m : ℕ → Bool) (s c : ℕ) (u : List ℕ) → p s ≡ false → c ≡ s → begins_piece p m u ≡ true → Row p m s u
    → Row p m s (c ∷ u)
row_new p m s c u n e b k =
    let f = first_piece p s k.first k.others k.rest n (ends_without p m s k.rest k.ends) in
    let g : goes_on p m s (c ∷ u) ≡ true =
    or_right (p c) ((c == s) && begins_piece p m u) (and_from (c == s) (begins_piece p m u) (eq-eqb c s e) b) in
    let a : list_any m k.first ≡ true =
    sym (piece_over p m k.first f.rest k.inner f.ends) ∙ sym (ap (λ z. begins_piece p m z) (k.is ∙ f.is)) ∙ b in
    record {
      first = [];
      others = k.first ∷ k.others;
      rest = k.rest;
      is = ap (λ z. z ∷ u) e ∙ ap (λ z. s ∷ z) k.is;
      size = rw g (ap suc k.size);
      inner = refl;
      pieces = and_from (is_piece p m k.first) (list_all (is_piece p m) k.others)
          (and_from (list_all p k.first) (list_any m k.first) k.inner a) k.pieces;
      ends = k.ends;
    }

row_by : (p m : ℕ → Bool) (s c : ℕ) (u : List ℕ) → p s ≡ false → Row p m s u → (a b d : Bool) → p c ≡ a → (c == s) ≡ b
    → begins_piece p m u ≡ d → Row p m s (c ∷ u)
row_by p m s c u n k true b d h e f = row_more p m s c u h k
row_by p m s c u n k false true true h e f = row_new p m s c u n (eqb-true c s e) f k
row_by p m s c u n k false true false h e f =
    row_end p m s (c ∷ u) (or_from (p c) ((c == s) && begins_piece p m u) h (rw (e, f) refl))
row_by p m s c u n k false false d h e f =
    row_end p m s (c ∷ u) (or_from (p c) ((c == s) && begins_piece p m u) h (rw e refl))

pub row_of : (p m : ℕ → Bool) (s : ℕ) (u : List ℕ) → p s ≡ false → Row p m s u
row_of p m s [] n = row_end p m s [] refl
row_of p m s (c ∷ u) n = row_by p m s c u n (row_of p m s u n) (p c) (c == s) (begins_piece p m u) refl refl refl
