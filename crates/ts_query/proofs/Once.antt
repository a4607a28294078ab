-- A text has one list of tokens.
use Rattle.std.proofs.Common.{◌≡◌, ℕ, List, [], ◌∷◌, inl, inr, Bool, true, false, refl, sym, subst, ap, ◌∙◌}
use Rattle.ts_base.specs.declared.Weights.{Weights}
use Rattle.ts_query.specs.Queries.{Operand, phrase_joint, and_joint, or_joint}
use Rattle.ts_query.specs.Tokens.{QueryToken, word, bang, opening, closing, sign, no_weights, Marks, unmarked, star}
use Rattle.ts_query.specs.Tokens.{letter, operand, BehindLexeme, bare, marked, DistanceNumber, over, digit, Distance}
use Rattle.ts_query.specs.Tokens.{arrow, number, offset, Lex, done, space, not_sign, open_sign, close_sign, and_sign}
use Rattle.ts_query.specs.Tokens.{or_sign, phrase_sign, quoted, plain, escape, EndsOperand}
use Rattle.ts_query.proofs.Lexing.{white_on, colon_never, lex_quote, lex_escape, lex_plain, lex_less, lex_bang}
use Rattle.ts_query.proofs.Lexing.{lex_open, lex_close, lex_and, lex_or, end_92, star_on, letter_on, digit_45, digit_62}
use Rattle.ts_query.proofs.Lexing.{number_on, digit_on}
use Rattle.ts_base.proofs.QuotedTexts.{quoted_has_one_reading}
use Rattle.ts_base.proofs.PlainTexts.{plain_one}
use Rattle.ts_base.specs.Digits.{with_digit}
use Rattle.ts_query.specs.declared.TheConstants.{PAST_DISTANCE}

marks_over : (w v : Weights) (p q : Bool) (u r : List ℕ) → ¬ Rattle.ts_query.specs.Tokens.BeginsWithMark u
    → Marks w p u v q r → (w ≡ v) × (p ≡ q) × (u ≡ r)
marks_over w v p q u r h (unmarked _ _ _ _) = (refl, refl, refl)
marks_over w v p q u r h (star _ _ _ _ _ _ m) = absurd (h (inl refl))
marks_over w v p q u r h (letter _ x _ _ _ _ _ _ k m) = absurd (h (inr (x, k)))

marks_one : (w v x : Weights) (p q s : Bool) (u r t : List ℕ) → Marks w p u v q r → Marks w p u x s t
    → (v ≡ x) × (q ≡ s) × (r ≡ t)
marks_one w v x p q s u r t (unmarked _ _ _ h) m = marks_over w x p s u t h m
marks_one w v x p q s u r t (star _ _ _ _ z _ n) m = marks_one w v x true q s z r t n (star_on 0 0 [] w p z t x s m)
marks_one w v x p q s u r t (letter c y _ _ _ _ z _ k n) m =
    marks_one (Rattle.ts_query.specs.Tokens.with_weight y w) v x p q s z r t n (letter_on 0 0 [] w p c y z t x s k m)

behind_one : (n : ℕ) (l u r s : List ℕ) (o q : Operand) (ks ls : List QueryToken) → BehindLexeme l u o r
    → BehindLexeme l u q s → Lex n r ks → Lex n s ls → (o ≡ q) × (r ≡ s)
behind_one n l u r s o q ks ls (bare _ _) (bare _ _) w v = (refl, refl)
behind_one n l u r s o q ks ls (bare _ _) (marked _ z _ _ _ m) w v = absurd (colon_never n z ks w)
behind_one n l u r s o q ks ls (marked _ z _ _ _ m) (bare _ _) w v = absurd (colon_never n z ls v)
behind_one n l u r s o q ks ls (marked _ z _ x p m) (marked _ _ _ y t k) w v =
    let e = marks_one no_weights x y false p t z r s m k in
    (ap (λ a. operand l a p) e.0 ∙ ap (λ a. operand l y a) e.1, e.2)

number_over : (n m : ℕ) (u r : List ℕ) → DistanceNumber n (62 ∷ u) m r → (n ≡ m) × (u ≡ r)
number_over n m u r (over _ _) = (refl, refl)
number_over n m u r (digit _ _ _ _ _ k q) = absurd (digit_62 k)

number_one : (n d m : ℕ) (u r s : List ℕ) → DistanceNumber n u d r → DistanceNumber n u m s → (d ≡ m) × (r ≡ s)
number_one n d m u r s (over _ _) q = number_over n m r s q
number_one n d m u r s (digit c _ _ v _ k p) q =
    number_one (with_digit PAST_DISTANCE n c) d m v r s p (digit_on 0 0 n c v m s k q)

distance_arrow : (u r : List ℕ) (d : ℕ) → Distance (45 ∷ 62 ∷ u) d r → (1 ≡ d) × (u ≡ r)
distance_arrow u r d (arrow _) = (refl, refl)
distance_arrow u r d (number _ _ _ _ k m) = absurd (digit_45 k)

distance_one : (d m : ℕ) (u r s : List ℕ) → Distance u d r → Distance u m s → (d ≡ m) × (r ≡ s)
distance_one d m u r s (arrow _) q = distance_arrow r s m q
distance_one d m u r s (number c _ v _ k p) q =
    number_one (with_digit PAST_DISTANCE 0 c) d m v r s p (number_on 0 0 c v m s k q)

no_more : (n : ℕ) (ls : List QueryToken) → Lex n [] ls → [] ≡ ls
no_more n ls (done _) = refl

same_token : (k l : QueryToken) (ks ls all : List QueryToken) → k ≡ l → ks ≡ ls → all ≡ l ∷ ls → k ∷ ks ≡ all
same_token k l ks ls all e f g = ap (λ x. x ∷ ks) e ∙ ap (λ x. l ∷ x) f ∙ sym g

-- the same lexeme, the same operand, and the same tokens after it
word_one : (n a : ℕ) (l m k s r t : List ℕ) (o q : Operand) (ks ls all : List QueryToken) → (l ≡ k) × (m ≡ s)
    → BehindLexeme l m o r → BehindLexeme k s q t → Lex n r ks → Lex n t ls → all ≡ word a q ∷ ls
    → (Lex n r ls → ks ≡ ls) → word a o ∷ ks ≡ all
word_one n a l m k s r t o q ks ls all e b d w v f one =
    let d2 = subst (λ x. BehindLexeme l x q t) (sym e.1) (subst (λ x. BehindLexeme x s q t) (sym e.0) d) in
    let g = behind_one n l m r t o q ks ls b d2 w v in
    same_token (word a o) (word a q) ks ls all (ap (λ x. word a x) g.0) (one (subst (λ x. Lex n x ls) (sym g.1) v)) f

sign_one : (n a d m : ℕ) (r t : List ℕ) (ks ls all : List QueryToken) → (d ≡ m) × (r ≡ t) → Lex n t ls
    → all ≡ sign a (phrase_joint m) ∷ ls → (Lex n r ls → ks ≡ ls) → sign a (phrase_joint d) ∷ ks ≡ all
sign_one n a d m r t ks ls all e v f one = same_token (sign a (phrase_joint d)) (sign a (phrase_joint m)) ks ls all
    (ap (λ x. sign a (phrase_joint x)) e.0) (one (subst (λ x. Lex n x ls) (sym e.1) v)) f

pub lex_one : (n : ℕ) (u : List ℕ) (ks ls : List QueryToken) → Lex n u ks → Lex n u ls → ks ≡ ls
lex_one n u ks ls (done _) g = no_more n ls g
lex_one n u ks ls (space _ c v _ h w) g = lex_one n v ks ls w (white_on n c v ls h g)
lex_one n u ks ls (not_sign _ v rest w) g =
    let f = lex_bang n v ls g in same_token bang bang rest f.0 ls refl (lex_one n v rest f.0 w f.2) f.1
lex_one n u ks ls (open_sign _ v rest w) g =
    let f = lex_open n v ls g in same_token opening opening rest f.0 ls refl (lex_one n v rest f.0 w f.2) f.1
lex_one n u ks ls (close_sign _ v rest w) g =
    let f = lex_close n v ls g in same_token closing closing rest f.0 ls refl (lex_one n v rest f.0 w f.2) f.1
lex_one n u ks ls (and_sign _ v rest w) g =
    let f = lex_and n v ls g in same_token (sign (offset n (38 ∷ v)) and_joint)
    (sign (offset n (38 ∷ v)) and_joint) rest f.0 ls refl (lex_one n v rest f.0 w f.2) f.1
lex_one n u ks ls (or_sign _ v rest w) g =
    let f = lex_or n v ls g in same_token (sign (offset n (124 ∷ v)) or_joint)
    (sign (offset n (124 ∷ v)) or_joint) rest f.0 ls refl (lex_one n v rest f.0 w f.2) f.1
lex_one n u ks ls (phrase_sign _ d v r rest m w) g =
    let f = lex_less n v ls g in sign_one n (offset n (60 ∷ v)) d f.0 r f.1 rest f.3.0 ls
    (distance_one d f.0 v r f.1 m f.2) f.3.2 f.3.1 (λ x. lex_one n r rest f.3.0 w x)
lex_one n u ks ls (quoted _ v l m r o rest q ne b w) g =
    let f = lex_quote n v ls g in let h = f.4 in
    word_one n (offset n (39 ∷ v)) l m f.0 f.1 r h.1 o h.0 rest h.3.0 ls
    (quoted_has_one_reading v l f.0 m f.1 q f.2) b h.2 w h.3.2 h.3.1 (λ x. lex_one n r rest h.3.0 w x)
lex_one n u ks ls (plain _ c v l m r o rest p e q b w) g =
    let f = lex_plain n c v ls p e g in let h = f.3 in
    word_one n (offset n (c ∷ v)) l m f.0 f.1 r h.1 o h.0 rest h.3.0 ls (plain_one EndsOperand end_92
    (c ∷ []) v l f.0 m f.1 q f.2) b h.2 w h.3.2 h.3.1 (λ x. lex_one n r rest h.3.0 w x)
lex_one n u ks ls (escape _ c v l m r o rest q b w) g =
    let f = lex_escape n (c ∷ v) ls g in let h = f.3 in
    word_one n (offset n (92 ∷ c ∷ v)) l m f.0 f.1 r h.1 o h.0 rest h.3.0 ls (plain_one EndsOperand end_92
    (c ∷ []) v l f.0 m f.1 q f.2) b h.2 w h.3.2 h.3.1 (λ x. lex_one n r rest h.3.0 w x)
