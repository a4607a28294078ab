-- A position's number is that of its digits.
use Rattle.std.proofs.Common.{◌≡◌, ℕ, ◌+◌, ◌*◌, inl, inr, min, List, [], ◌∷◌, ◌++◌, sym, ◌∙◌, ap, arith, append-nil}
use Rattle.std.specs.Prelude.{All}
use Rattle.std.specs.Str.Parse.{digits_value_after}
use Rattle.std.specs.Char.{digit_value}
use Rattle.std.proofs.lemmas.Str.{digit_value_digit}
use Rattle.std.proofs.lemmas.List.Elements.{All-head, All-tail}
use Rattle.std.proofs.Math.Seq.{append_snoc}
use Rattle.ts_base.specs.declared.Weight.{Weight}
use Rattle.ts_base.specs.declared.Weight.TheVariants.{A, B, C, D}
use Rattle.ts_base.specs.declared.TheConstants.{LAST_POSITION}
use Rattle.ts_base.specs.Bytes.{IsDigit, IsLetter, IsWhite, BeginsWithout}
use Rattle.ts_base.specs.Digits.{with_digit}
use Rattle.ts_base.specs.Vectors.{Position}
use Rattle.ts_vector.specs.Text.{PositionNumber, BehindPosition, position, digit, letter, bare, last, comma}
use Rattle.ts_vector.specs.TextLaws.{PositionHasItsNumber}

-- the positions so far are at the front of all
abbrev Grows : List Position → List Position → Type 0
Grows a ps = (more : List Position) × (ps ≡ a ++ more)

one_more : (a : List Position) (p : Position) (ps : List Position) → Grows (a ++ p ∷ []) ps
    → (more : List Position) × (ps ≡ a ++ p ∷ more)
one_more a p ps g = (g.0, g.1 ∙ append_snoc a p g.0)

mutual
  number_grows : (n : ℕ) (a : List Position) (u : List ℕ) (ps : List Position) (r : List ℕ) → PositionNumber n a u ps r
      → Grows a ps
  number_grows n a u ps r (digit c _ _ v _ _ d h) = number_grows (with_digit LAST_POSITION n c) a v ps r h
  number_grows n a u ps r (letter c _ w _ v _ _ some is h) =
      let g = one_more a (position n w) ps (behind_grows (a ++ position n w ∷ []) v ps r h) in (position n w ∷ g.0, g.1)
  number_grows n a u ps r (bare _ _ _ _ _ some h) =
      let g = one_more a (position n D) ps (behind_grows (a ++ position n D ∷ []) u ps r h) in (position n D ∷ g.0, g.1)

  behind_grows : (a : List Position) (u : List ℕ) (ps : List Position) (r : List ℕ) → BehindPosition a u ps r
      → Grows a ps
  behind_grows a u ps r (last _ _ h) = ([], sym (append-nil a))
  behind_grows a u ps r (comma _ v _ _ h) = number_grows 0 a v ps r h

no_letter : (c : ℕ) (w : Weight) → IsDigit c → ¬ IsLetter c w
no_letter c A d (inl e) = absurd (omega arith)
no_letter c A d (inr e) = absurd (omega arith)
no_letter c B d (inl e) = absurd (omega arith)
no_letter c B d (inr e) = absurd (omega arith)
no_letter c C d (inl e) = absurd (omega arith)
no_letter c C d (inr e) = absurd (omega arith)
no_letter c D d (inl e) = absurd (omega arith)
no_letter c D d (inr e) = absurd (omega arith)

no_white : (c : ℕ) → IsDigit c → ¬ IsWhite c
no_white c d (inl e) = absurd (omega arith)
no_white c d (inr e) = absurd (omega arith)

not_behind : (c : ℕ) (a : List Position) (u : List ℕ) (ps : List Position) (r : List ℕ) → IsDigit c
    → ¬ BehindPosition a (c ∷ u) ps r
not_behind c a u ps r d (last _ _ h) = no_white c d h
not_behind c a u ps r d (comma _ _ _ _ h) = absurd (omega arith)

abbrev Numbered : List Position → ℕ → List Position → Type 0
Numbered a m ps = (w : Weight) × (more : List Position) × (ps ≡ a ++ position (min m LAST_POSITION) w ∷ more)

-- one position is there
there : (a : List Position) (n m : ℕ) (w : Weight) (u : List ℕ) (ps : List Position) (r : List ℕ) → n ≡ min m 16383
    → BehindPosition (a ++ position n w ∷ []) u ps r → Numbered a m ps
there a n m w u ps r e h =
    let g = one_more a (position n w) ps (behind_grows (a ++ position n w ∷ []) u ps r h) in
    (w, g.0, g.1 ∙ ap (λ k. a ++ position k w ∷ g.0) e)

one_digit : (c n m : ℕ) → IsDigit c → n ≡ min m 16383
    → with_digit LAST_POSITION n c ≡ min (m * 10 + digit_value c) 16383
one_digit c n m d e = omega (arith, digit_value_digit c d)

numbered : (ds rest : List ℕ) (n m : ℕ) (a ps : List Position) (r : List ℕ) → All IsDigit ds
    → BeginsWithout IsDigit rest → n ≡ min m 16383 → PositionNumber n a (ds ++ rest) ps r
    → Numbered a (digits_value_after 10 m ds) ps
numbered [] rest n m a ps r all ends e (digit c _ _ v _ _ d h) = absurd (ends d)
numbered [] rest n m a ps r all ends e (letter c _ w _ v _ _ some is h) = there a n m w v ps r e h
numbered [] rest n m a ps r all ends e (bare _ _ _ _ _ some h) = there a n m D rest ps r e h
numbered (c ∷ ds) rest n m a ps r all ends e (digit _ _ _ _ _ _ d h) =
    numbered ds rest (with_digit LAST_POSITION n c) (m * 10 + digit_value c) a ps r (All-tail IsDigit c ds all) ends
    (one_digit c n m d e) h
numbered (c ∷ ds) rest n m a ps r all ends e (letter _ _ w _ _ _ _ some is h) =
    absurd (no_letter c w (All-head IsDigit c ds all) is)
numbered (c ∷ ds) rest n m a ps r all ends e (bare _ _ _ _ _ some h) =
    absurd (not_behind c (a ++ position n D ∷ []) (ds ++ rest) ps r (All-head IsDigit c ds all) h)

pub position_has_its_number : PositionHasItsNumber
position_has_its_number ds rest a ps r all ends h = numbered ds rest 0 0 a ps r all ends (omega arith) h
