-- The query of tokens within the limits is within the limits.
use Rattle.std.proofs.Common.{◌≡◌, ◌≢◌, ℕ, suc, ◌<◌, ◌≤◌, List, [], ◌∷◌, ◌++◌, length, refl, ap, Option, Some, None}
use Rattle.std.proofs.Common.{Bool, true, false, cond, All, arith}
use Rattle.std.proofs.lemmas.List.{length-append}
use Rattle.std.proofs.lemmas.List.Elements.{All-append, All-nil}
use Rattle.std.proofs.lemmas.Bool.Decides.{nat_tests}
use Rattle.ts_query.specs.Queries.{Operand, Joint, or_joint, and_joint, phrase_joint, Tree, negated, joined, Query}
use Rattle.ts_query.specs.Queries.{operands_in, operands_of, nodes_of, IsNear, HasNear, HasNearPhrases, HasLexeme}
use Rattle.ts_query.specs.Queries.{IsSound}
use Rattle.ts_query.specs.Tokens.{QueryToken, word, bang, opening, closing, sign, Marks, unmarked, star, letter}
use Rattle.ts_query.specs.Tokens.{no_weights, with_weight, BehindLexeme, bare, marked, DistanceNumber, over, digit}
use Rattle.ts_query.specs.Tokens.{Distance, arrow, number, Lex, done, space, not_sign, open_sign, close_sign, and_sign}
use Rattle.ts_query.specs.Tokens.{or_sign, phrase_sign, quoted, plain, escape, EndsOperand}
use Rattle.std.specs.Str.{IsUtf8}
use Rattle.std.proofs.lemmas.Str.{IsUtf8-nil}
use Rattle.ts_base.specs.declared.Weights.{Weights}
use Rattle.ts_base.specs.Digits.{with_digit}
use Rattle.ts_base.proofs.ByteKinds.{white_ascii, letter_ascii}
use Rattle.ts_base.proofs.TextLexemes.{between, put, put_escaped, ascii_past, quoted_utf8, plain_utf8}
use Rattle.ts_base.specs.Plain.{Plain, ended, plain_escape, plain_byte}
use Rattle.ts_query.specs.Grammar.{level, Expr, one, bracket, primary, denied, binary, Tail, last, more, Spells}
use Rattle.ts_query.specs.Grammar.{ReadsQuery}
use Rattle.ts_query.specs.Limits.{is_far, is_long, first_far, first_long}
use Rattle.ts_query.proofs.Joined.{one_operand}

-- ── tokens ──
abbrev pub IsFine : QueryToken → Type 0
IsFine (word s o) = HasLexeme o
IsFine bang = Unit {0}
IsFine opening = Unit {0}
IsFine closing = Unit {0}
IsFine (sign s j) = IsNear j

abbrev pub AreFine : List QueryToken → Type 0
AreFine [] = Unit {0}
AreFine (k ∷ ks) = IsFine k × AreFine ks

first_none : (b : Bool) (s : ℕ) (o : Option ℕ) → cond b (Some s) o ≡ None → (b ≡ false) × (o ≡ None)
first_none true s o e = absurd (let no : ⊥ = cc in no)
first_none false s o e = (refl, e)

near_joint : (j : Joint) → is_far j ≡ false → IsNear j
near_joint or_joint e = tt
near_joint and_joint e = tt
near_joint (phrase_joint d) e = grind (arith, nat_tests)

ends_ascii : (c : ℕ) → EndsOperand c → c < 128
ends_ascii c e = grind arith

plain_grows : (a u l r : List ℕ) → Plain EndsOperand a u l r → length a ≤ length l
plain_grows a u l r (ended _ _ _) = omega arith
plain_grows a u l r (plain_escape c _ v _ _ p) =
    let h = plain_grows (a ++ c ∷ []) v l r p in omega (arith, length-append a (c ∷ []))
plain_grows a u l r (plain_byte c _ v _ _ k p) =
    let h = plain_grows (a ++ c ∷ []) v l r p in omega (arith, length-append a (c ∷ []))

not_nil : (l : List ℕ) → l ≢ [] → 1 ≤ length l
not_nil [] h = absurd (h refl)
not_nil (x ∷ l) h = omega arith

-- what is after a lexeme and after `<` is ASCII, so text follows it
marks_past : (w : Weights) (p : Bool) (u : List ℕ) (v : Weights) (q : Bool) (r : List ℕ) → Marks w p u v q r → IsUtf8 u
    → IsUtf8 r
marks_past w p u v q r (unmarked _ _ _ _) i = i
marks_past w p u v q r (star _ _ _ _ t _ m) i = marks_past w true t v q r m (ascii_past 42 t (omega arith) i)
marks_past w p u v q r (letter c x _ _ _ _ t _ l m) i =
    marks_past (with_weight x w) p t v q r m (ascii_past c t (letter_ascii c x l) i)

behind_past : (l u r : List ℕ) (o : Operand) → BehindLexeme l u o r → IsUtf8 u → IsUtf8 r
behind_past l u r o (bare _ _) i = i
behind_past l u r o (marked _ t _ w p m) i = marks_past no_weights false t w p r m (ascii_past 58 t (omega arith) i)

number_past : (n : ℕ) (u : List ℕ) (m : ℕ) (r : List ℕ) → DistanceNumber n u m r → IsUtf8 u → IsUtf8 r
number_past n u m r (over _ _) i = ascii_past 62 r (omega arith) i
number_past n u m r (digit c _ _ t _ d k) i =
    number_past (with_digit 16385 n c) t m r k (ascii_past c t (omega arith) i)

distance_past : (u : List ℕ) (m : ℕ) (r : List ℕ) → Distance u m r → IsUtf8 u → IsUtf8 r
distance_past u m r (arrow _) i = ascii_past 62 r (omega arith) (ascii_past 45 (62 ∷ r) (omega arith) i)
distance_past u m r (number c _ t _ d k) i = number_past (with_digit 16385 0 c) t m r k (ascii_past c t (omega arith) i)

-- the lexeme l, a text that isn't empty, is not too long
word_lexeme : (l u r : List ℕ) (o : Operand) → BehindLexeme l u o r → 1 ≤ length l → IsUtf8 l → is_long o ≡ false
    → HasLexeme o
word_lexeme l u r o (bare _ _) h i e = record { some = h; most = grind (arith, nat_tests); utf8 = i }
word_lexeme l u r o (marked _ _ _ _ _ m) h i e = record { some = h; most = grind (arith, nat_tests); utf8 = i }

lex_fine : (n : ℕ) (u : List ℕ) (ks : List QueryToken) → Lex n u ks → IsUtf8 u → first_far ks ≡ None
    → first_long ks ≡ None → AreFine ks
lex_fine n u ks (done _) i f l = tt
lex_fine n u ks (space _ c v _ h w) i f l = lex_fine n v ks w (ascii_past c v (white_ascii c h) i) f l
lex_fine n u ks (not_sign _ v rest w) i f l = (tt, lex_fine n v rest w (ascii_past 33 v (omega arith) i) f l)
lex_fine n u ks (open_sign _ v rest w) i f l = (tt, lex_fine n v rest w (ascii_past 40 v (omega arith) i) f l)
lex_fine n u ks (close_sign _ v rest w) i f l = (tt, lex_fine n v rest w (ascii_past 41 v (omega arith) i) f l)
lex_fine n u ks (and_sign _ v rest w) i f l = (tt, lex_fine n v rest w (ascii_past 38 v (omega arith) i) f l)
lex_fine n u ks (or_sign _ v rest w) i f l = (tt, lex_fine n v rest w (ascii_past 124 v (omega arith) i) f l)
lex_fine n u ks (phrase_sign _ d v r rest m w) i f l =
    let p = first_none (is_far (phrase_joint d)) _ (first_far rest) f in (
      near_joint (phrase_joint d) p.0,
      lex_fine n r rest w (distance_past v d r m (ascii_past 60 v (omega arith) i)) p.1 l,
    )
lex_fine n u ks (quoted _ v x m r o rest q ne b w) i f l =
    let p = first_none (is_long o) _ (first_long rest) l in
    let k = quoted_utf8 [] v x m q (between [] v IsUtf8-nil (ascii_past 39 v (omega arith) i)) in
    (word_lexeme x m r o b (not_nil x ne) k.0 p.0, lex_fine n r rest w (behind_past x m r o b k.1) f p.1)
lex_fine n u ks (plain _ c v x m r o rest h e q b w) i f l =
    let p = first_none (is_long o) _ (first_long rest) l in
    let g = plain_grows (c ∷ []) v x m q in
    let k = plain_utf8 EndsOperand ends_ascii (c ∷ []) v x m q (put [] c v (between [] (c ∷ v) IsUtf8-nil i)) in
    (word_lexeme x m r o b (omega arith) k.0 p.0, lex_fine n r rest w (behind_past x m r o b k.1) f p.1)
lex_fine n u ks (escape _ c v x m r o rest q b w) i f l =
    let p = first_none (is_long o) _ (first_long rest) l in
    let g = plain_grows (c ∷ []) v x m q in
    let k = plain_utf8 EndsOperand ends_ascii (c ∷ []) v x m q
    (put_escaped [] c v (between [] (92 ∷ c ∷ v) IsUtf8-nil i)) in
    (word_lexeme x m r o b (omega arith) k.0 p.0, lex_fine n r rest w (behind_past x m r o b k.1) f p.1)

-- ── trees ──
record Fine (t : Tree) (r : List QueryToken) : Type 0 where
  lexemes : All HasLexeme (operands_in t)
  phrases : HasNear t
  rest : AreFine r

fine_negated : (t : Tree) (r : List QueryToken) → Fine t r → Fine (negated t) r
fine_negated t r f = record { lexemes = f.lexemes; phrases = f.phrases; rest = f.rest }

fine_joined : (j : Joint) (x y : Tree) (r : List QueryToken) → IsNear j → All HasLexeme (operands_in x) → HasNear x
    → Fine y r → Fine (joined j x y) r
fine_joined j x y r n a h f = record {
  lexemes = All-append HasLexeme (operands_in x) (operands_in y) a f.lexemes;
  phrases = (n, h, f.phrases);
  rest = f.rest;
}

mutual
  expr_fine : (k : ℕ) (t : Tree) (u r : List QueryToken) → Expr k t u r → AreFine u → Fine t r
  expr_fine k t u r (one s o _) a = record { lexemes = one_operand o a.0; phrases = tt; rest = a.1 }
  expr_fine k t u r (bracket _ v _ e) a = let f = expr_fine 0 t v (closing ∷ r) e a.1 in
      record { lexemes = f.lexemes; phrases = f.phrases; rest = f.rest.1 }
  expr_fine k t u r (primary _ _ _ e) a = expr_fine 4 t u r e a
  expr_fine k t u r (denied x v _ e) a = fine_negated x r (expr_fine 3 x v r e a.1)
  expr_fine k t u r (binary _ x _ _ m _ p e s) a =
      let f = expr_fine (suc k) x u m e a in tail_fine k x m t r s f.lexemes f.phrases f.rest

  tail_fine : (k : ℕ) (x : Tree) (u : List QueryToken) (t : Tree) (r : List QueryToken) → Tail k x u t r
      → All HasLexeme (operands_in x) → HasNear x → AreFine u → Fine t r
  tail_fine k x u t r (last _ _ _) l h a = record { lexemes = l; phrases = h; rest = a }
  tail_fine k x u t r (more c j _ y _ v m _ e s) l h a =
      let f = expr_fine (suc (level j)) y v m e a.1 in
      let g = fine_joined j x y m a.0 l h f in
      tail_fine (level j) (joined j x y) m t r s g.lexemes g.phrases g.rest

record Limits (q : Query) : Type 0 where
  lexemes : All HasLexeme (operands_of q)
  phrases : HasNearPhrases q

spells_fine : (ks : List QueryToken) (q : Query) → Spells ks q → AreFine ks → Limits q
spells_fine ks None s a = record { lexemes = All-nil HasLexeme; phrases = tt }
spells_fine ks (Some t) s a = let f = expr_fine 0 t ks [] s a in record { lexemes = f.lexemes; phrases = f.phrases }

pub reads_sound : (text : List ℕ) (ks : List QueryToken) (q : Query) → IsUtf8 text → ReadsQuery text ks q
    → first_far ks ≡ None → first_long ks ≡ None → nodes_of q < 32768 → IsSound q
reads_sound text ks q i r f l n =
    let g = spells_fine ks q r.spells (lex_fine (length text) text ks r.has i f l) in
    record { lexemes = g.lexemes; phrases = g.phrases; nodes = n }
