-- Tokens byte by byte: what may follow before a byte, and after it.
use Rattle.std.proofs.Common.{◌≡◌, ◌≢◌, ℕ, ◌≤◌, List, [], ◌∷◌, inl, inr, refl, sym, subst, Bool, true, false, arith}
use Rattle.ts_base.specs.declared.Weight.{Weight}
use Rattle.ts_base.specs.declared.Weight.TheVariants.{A, B, C, D}
use Rattle.ts_base.specs.declared.Weights.{Weights}
use Rattle.ts_query.specs.Queries.{Operand, or_joint, and_joint, phrase_joint}
use Rattle.ts_query.specs.Tokens.{QueryToken, word, bang, opening, closing, sign, IsDelimiter, IsMark, BeginsWithMark}
use Rattle.ts_query.specs.Tokens.{no_weights, with_weight, Marks, unmarked, star, letter, operand, BehindLexeme, bare}
use Rattle.ts_query.specs.Tokens.{marked, DistanceNumber, over, digit, Distance, arrow, number, offset, Lex, space}
use Rattle.ts_query.specs.Tokens.{not_sign, open_sign, close_sign, and_sign, or_sign, phrase_sign, quoted, plain}
use Rattle.ts_query.specs.Tokens.{escape, EndsOperand}
use Rattle.ts_base.specs.Bytes.{IsWhite, IsDigit, IsLetter}
use Rattle.ts_base.specs.Plain.{IsPlain}
use Rattle.ts_base.specs.Digits.{with_digit}
use Rattle.ts_query.specs.Inner.Lexer.{between, behind_quote, in_plain, in_marks, behind_dash, in_digits, WordOn}
use Rattle.ts_query.specs.Inner.Lexer.{BehindLexemeOn, OperandQuoted, OperandQuote, OperandPlain, MarksOn, SignOn}
use Rattle.ts_query.specs.Inner.Lexer.{LessOn, DashOn, DigitsOn, LexerRest, Ready}
use Rattle.ts_base.specs.Inner.Residuals.{EscapedOn}
use Rattle.ts_base.proofs.ByteKinds.{white_39, white_92, white_58, letter_ascii, letter_one}
use Rattle.ts_base.proofs.QuotedTexts.{quote_other}
use Rattle.ts_base.proofs.PlainTexts.{plain_over_to, plain_over_from, plain_end_to, plain_end_from}
use Rattle.ts_query.specs.declared.TheConstants.{PAST_DISTANCE}

-- ── kinds of bytes ──
white_60 : ¬ IsWhite 60
white_60 h = grind arith

white_33 : ¬ IsWhite 33
white_33 h = grind arith

white_38 : ¬ IsWhite 38
white_38 h = grind arith

white_40 : ¬ IsWhite 40
white_40 h = grind arith

white_41 : ¬ IsWhite 41
white_41 h = grind arith

white_124 : ¬ IsWhite 124
white_124 h = grind arith

-- `!`, `&`, `(`, `)`, `|`, `<` and `:` are delimiters
delimiter_33 : IsDelimiter 33
delimiter_33 = inl refl

delimiter_38 : IsDelimiter 38
delimiter_38 = inr (inl refl)

delimiter_40 : IsDelimiter 40
delimiter_40 = inr (inr (inl refl))

delimiter_41 : IsDelimiter 41
delimiter_41 = inr (inr (inr (inl refl)))

delimiter_124 : IsDelimiter 124
delimiter_124 = inr (inr (inr (inr (inl refl))))

delimiter_60 : IsDelimiter 60
delimiter_60 = inr (inr (inr (inr (inr (inl refl)))))

pub delimiter_58 : IsDelimiter 58
delimiter_58 = inr (inr (inr (inr (inr (inr refl)))))

delimiter_92 : ¬ IsDelimiter 92
delimiter_92 h = grind arith

pub end_92 : ¬ EndsOperand 92
end_92 (inl h) = white_92 h
end_92 (inr h) = delimiter_92 h

-- ── between tokens ──
pub white_on : (n c : ℕ) (u : List ℕ) (ks : List QueryToken) → IsWhite c → Lex n (c ∷ u) ks → Lex n u ks
white_on n c u ks k (space _ _ _ _ h w) = w
white_on n c u ks k (not_sign _ _ _ w) = absurd (white_33 k)
white_on n c u ks k (open_sign _ _ _ w) = absurd (white_40 k)
white_on n c u ks k (close_sign _ _ _ w) = absurd (white_41 k)
white_on n c u ks k (and_sign _ _ _ w) = absurd (white_38 k)
white_on n c u ks k (or_sign _ _ _ w) = absurd (white_124 k)
white_on n c u ks k (phrase_sign _ _ _ _ _ d w) = absurd (white_60 k)
white_on n c u ks k (quoted _ _ _ _ _ _ _ q ne b w) = absurd (white_39 k)
white_on n c u ks k (plain _ _ _ _ _ _ _ _ p m q b w) = absurd (p.no_end (inl k))
white_on n c u ks k (escape _ _ _ _ _ _ _ _ q b w) = absurd (white_92 k)

pub colon_never : (n : ℕ) (u : List ℕ) (ks : List QueryToken) → ¬ Lex n (58 ∷ u) ks
colon_never n u ks (space _ _ _ _ h w) = white_58 h
colon_never n u ks (plain _ _ _ _ _ _ _ _ p m q b w) = p.no_end (inr delimiter_58)

module _ (n : ℕ) where
  pub lex_quote : (u : List ℕ) (ks : List QueryToken) → Lex n (39 ∷ u) ks → OperandQuoted n (offset n (39 ∷ u)) [] u ks
  lex_quote u ks (space _ _ _ _ h w) = absurd (white_39 h)
  lex_quote u ks (quoted _ _ l m r o rest q ne b w) = (l, m, q, ne, (o, r, b, (rest, refl, w)))
  lex_quote u ks (plain _ _ _ _ _ _ _ _ p m q b w) = absurd (m refl)

  pub quote_lex : (u : List ℕ) (ks : List QueryToken) → OperandQuoted n (offset n (39 ∷ u)) [] u ks → Lex n (39 ∷ u) ks
  quote_lex u ks (l, m, q, ne, b) =
      let w = b.3 in subst (λ x. Lex n (39 ∷ u) x) (sym w.1) (quoted n u l m b.1 b.0 w.0 q ne b.2 w.2)

  pub lex_escape : (u : List ℕ) (ks : List QueryToken) → Lex n (92 ∷ u) ks
      → EscapedOn (List QueryToken) (OperandPlain n (offset n (92 ∷ u))) [] u ks
  lex_escape u ks (space _ _ _ _ h w) = absurd (white_92 h)
  lex_escape u ks (plain _ _ _ _ _ _ _ _ p m q b w) = absurd (p.no_escape refl)
  lex_escape u ks (escape _ c v l m r o rest q b w) = (l, m, q, (o, r, b, (rest, refl, w)))

  pub escape_lex : (u : List ℕ) (ks : List QueryToken)
      → EscapedOn (List QueryToken) (OperandPlain n (offset n (92 ∷ u))) [] u ks → Lex n (92 ∷ u) ks
  escape_lex [] ks h = absurd h
  escape_lex (c ∷ u) ks (l, m, q, b) =
      let w = b.3 in subst (λ x. Lex n (92 ∷ c ∷ u) x) (sym w.1) (escape n c u l m b.1 b.0 w.0 q b.2 w.2)

  pub lex_plain : (c : ℕ) (u : List ℕ) (ks : List QueryToken) → IsPlain EndsOperand c → c ≢ 39 → Lex n (c ∷ u) ks
      → OperandPlain n (offset n (c ∷ u)) (c ∷ []) u ks
  lex_plain c u ks k e (space _ _ _ _ h w) = absurd (k.no_end (inl h))
  lex_plain c u ks k e (not_sign _ _ _ w) = absurd (k.no_end (inr delimiter_33))
  lex_plain c u ks k e (open_sign _ _ _ w) = absurd (k.no_end (inr delimiter_40))
  lex_plain c u ks k e (close_sign _ _ _ w) = absurd (k.no_end (inr delimiter_41))
  lex_plain c u ks k e (and_sign _ _ _ w) = absurd (k.no_end (inr delimiter_38))
  lex_plain c u ks k e (or_sign _ _ _ w) = absurd (k.no_end (inr delimiter_124))
  lex_plain c u ks k e (phrase_sign _ _ _ _ _ d w) = absurd (k.no_end (inr delimiter_60))
  lex_plain c u ks k e (quoted _ _ _ _ _ _ _ q ne b w) = absurd (e refl)
  lex_plain c u ks k e (plain _ _ _ l m r o rest _ _ q b w) = (l, m, q, (o, r, b, (rest, refl, w)))
  lex_plain c u ks k e (escape _ _ _ _ _ _ _ _ q b w) = absurd (k.no_escape refl)

  pub plain_lex : (c : ℕ) (u : List ℕ) (ks : List QueryToken) → IsPlain EndsOperand c → c ≢ 39
      → OperandPlain n (offset n (c ∷ u)) (c ∷ []) u ks → Lex n (c ∷ u) ks
  plain_lex c u ks k e (l, m, q, b) =
      let w = b.3 in subst (λ x. Lex n (c ∷ u) x) (sym w.1) (plain n c u l m b.1 b.0 w.0 k e q b.2 w.2)

  pub lex_less : (u : List ℕ) (ks : List QueryToken) → Lex n (60 ∷ u) ks → LessOn n (offset n (60 ∷ u)) u ks
  lex_less u ks (space _ _ _ _ h w) = absurd (white_60 h)
  lex_less u ks (phrase_sign _ d _ r rest s w) = (d, r, s, (rest, refl, w))
  lex_less u ks (plain _ _ _ _ _ _ _ _ p m q b w) = absurd (p.no_end (inr delimiter_60))

  pub less_lex : (u : List ℕ) (ks : List QueryToken) → LessOn n (offset n (60 ∷ u)) u ks → Lex n (60 ∷ u) ks
  less_lex u ks (d, r, s, w) = subst (λ x. Lex n (60 ∷ u) x) (sym w.1) (phrase_sign n d u r w.0 s w.2)

  -- tokens of one byte
  pub lex_bang : (u : List ℕ) (ks : List QueryToken) → Lex n (33 ∷ u) ks
      → (rest : List QueryToken) × (ks ≡ bang ∷ rest) × Lex n u rest
  lex_bang u ks (space _ _ _ _ h w) = absurd (white_33 h)
  lex_bang u ks (not_sign _ _ rest w) = (rest, refl, w)
  lex_bang u ks (plain _ _ _ _ _ _ _ _ p m q b w) = absurd (p.no_end (inr delimiter_33))

  pub lex_open : (u : List ℕ) (ks : List QueryToken) → Lex n (40 ∷ u) ks
      → (rest : List QueryToken) × (ks ≡ opening ∷ rest) × Lex n u rest
  lex_open u ks (space _ _ _ _ h w) = absurd (white_40 h)
  lex_open u ks (open_sign _ _ rest w) = (rest, refl, w)
  lex_open u ks (plain _ _ _ _ _ _ _ _ p m q b w) = absurd (p.no_end (inr delimiter_40))

  pub lex_close : (u : List ℕ) (ks : List QueryToken) → Lex n (41 ∷ u) ks
      → (rest : List QueryToken) × (ks ≡ closing ∷ rest) × Lex n u rest
  lex_close u ks (space _ _ _ _ h w) = absurd (white_41 h)
  lex_close u ks (close_sign _ _ rest w) = (rest, refl, w)
  lex_close u ks (plain _ _ _ _ _ _ _ _ p m q b w) = absurd (p.no_end (inr delimiter_41))

  pub lex_and : (u : List ℕ) (ks : List QueryToken) → Lex n (38 ∷ u) ks
      → (rest : List QueryToken) × (ks ≡ sign (offset n (38 ∷ u)) and_joint ∷ rest) × Lex n u rest
  lex_and u ks (space _ _ _ _ h w) = absurd (white_38 h)
  lex_and u ks (and_sign _ _ rest w) = (rest, refl, w)
  lex_and u ks (plain _ _ _ _ _ _ _ _ p m q b w) = absurd (p.no_end (inr delimiter_38))

  pub lex_or : (u : List ℕ) (ks : List QueryToken) → Lex n (124 ∷ u) ks
      → (rest : List QueryToken) × (ks ≡ sign (offset n (124 ∷ u)) or_joint ∷ rest) × Lex n u rest
  lex_or u ks (space _ _ _ _ h w) = absurd (white_124 h)
  lex_or u ks (or_sign _ _ rest w) = (rest, refl, w)
  lex_or u ks (plain _ _ _ _ _ _ _ _ p m q b w) = absurd (p.no_end (inr delimiter_124))

  -- ── after a lexeme ──
  module _ (s : ℕ) (a : List ℕ) where
    behind_colon : (u r : List ℕ) (o : Operand) (ks : List QueryToken) → BehindLexeme a (58 ∷ u) o r → WordOn n s o r ks
        → MarksOn n s a no_weights false u ks
    behind_colon u r o ks (bare _ _) h = absurd (colon_never n u h.0 h.2)
    behind_colon u r o ks (marked _ _ _ w p m) h = (w, p, r, m, h)

    pub colon_to : (u : List ℕ) (ks : List QueryToken) → BehindLexemeOn n s a (58 ∷ u) ks
        → MarksOn n s a no_weights false u ks
    colon_to u ks (o, r, b, h) = behind_colon u r o ks b h

    pub colon_from : (u : List ℕ) (ks : List QueryToken) → MarksOn n s a no_weights false u ks
        → BehindLexemeOn n s a (58 ∷ u) ks
    colon_from u ks (w, p, r, m, h) = (operand a w p, r, marked a u r w p m, h)

    behind_other : (c : ℕ) (u r : List ℕ) (o : Operand) (ks : List QueryToken) → c ≢ 58 → BehindLexeme a (c ∷ u) o r
        → WordOn n s o r ks → WordOn n s (operand a no_weights false) (c ∷ u) ks
    behind_other c u r o ks e (bare _ _) h = h
    behind_other c u r o ks e (marked _ _ _ w p m) h = absurd (e refl)

    other_to : (c : ℕ) (u : List ℕ) (ks : List QueryToken) → c ≢ 58 → BehindLexemeOn n s a (c ∷ u) ks
        → WordOn n s (operand a no_weights false) (c ∷ u) ks
    other_to c u ks e (o, r, b, h) = behind_other c u r o ks e b h

    behind_end : (r : List ℕ) (o : Operand) (ks : List QueryToken) → BehindLexeme a [] o r → WordOn n s o r ks
        → WordOn n s (operand a no_weights false) [] ks
    behind_end r o ks (bare _ _) h = h

    end_to : (ks : List QueryToken) → BehindLexemeOn n s a [] ks → WordOn n s (operand a no_weights false) [] ks
    end_to ks (o, r, b, h) = behind_end r o ks b h

    word_from : (u : List ℕ) (rest : List QueryToken) → Lex n u rest
        → BehindLexemeOn n s a u (word s (operand a no_weights false) ∷ rest)
    word_from u rest w = (operand a no_weights false, u, bare a u, (rest, refl, w))

-- ── marks ──
letter_42 : (x : Weight) → ¬ IsLetter 42 x
letter_42 A h = grind arith
letter_42 B h = grind arith
letter_42 C h = grind arith
letter_42 D h = grind arith

pub wide_no_letter : (c : ℕ) → 128 ≤ c → (x : Weight) → ¬ IsLetter c x
wide_no_letter c w x h = let small = letter_ascii c x h in omega arith

letter_end : (c : ℕ) (x : Weight) → EndsOperand c → ¬ IsLetter c x
letter_end c A (inl h) k = grind arith
letter_end c B (inl h) k = grind arith
letter_end c C (inl h) k = grind arith
letter_end c D (inl h) k = grind arith
letter_end c A (inr h) k = grind arith
letter_end c B (inr h) k = grind arith
letter_end c C (inr h) k = grind arith
letter_end c D (inr h) k = grind arith

star_end : (c : ℕ) → EndsOperand c → c ≢ 42
star_end c (inl h) k = grind arith
star_end c (inr h) k = grind arith

-- where a plain lexeme ends, no mark begins
pub end_no_mark : (c : ℕ) → EndsOperand c → ¬ IsMark c
end_no_mark c h (inl e) = star_end c h e
end_no_mark c h (inr k) = letter_end c k.0 h k.1

module _ (n s : ℕ) (l : List ℕ) (w : Weights) (p : Bool) where
  pub star_on : (u r : List ℕ) (v : Weights) (q : Bool) → Marks w p (42 ∷ u) v q r → Marks w true u v q r
  star_on u r v q (unmarked _ _ _ m) = absurd (m (inl refl))
  star_on u r v q (star _ _ _ _ _ _ m) = m
  star_on u r v q (letter _ x _ _ _ _ _ _ k m) = absurd (letter_42 x k)

  pub star_to : (u : List ℕ) (ks : List QueryToken) → MarksOn n s l w p (42 ∷ u) ks → MarksOn n s l w true u ks
  star_to u ks (v, q, r, m, h) = (v, q, r, star_on u r v q m, h)

  pub star_from : (u : List ℕ) (ks : List QueryToken) → MarksOn n s l w true u ks → MarksOn n s l w p (42 ∷ u) ks
  star_from u ks (v, q, r, m, h) = (v, q, r, star w v p q u r m, h)

  pub letter_on : (c : ℕ) (x : Weight) (u r : List ℕ) (v : Weights) (q : Bool) → IsLetter c x → Marks w p (c ∷ u) v q r
      → Marks (with_weight x w) p u v q r
  letter_on c x u r v q k (unmarked _ _ _ m) = absurd (m (inr (x, k)))
  letter_on c x u r v q k (star _ _ _ _ _ _ m) = absurd (letter_42 x k)
  letter_on c x u r v q k (letter _ y _ _ _ _ _ _ h m) =
      subst (λ z. Marks (with_weight z w) p u v q r) (letter_one c y x h k) m

  pub letter_to : (c : ℕ) (x : Weight) (u : List ℕ) (ks : List QueryToken) → IsLetter c x → MarksOn n s l w p (c ∷ u) ks
      → MarksOn n s l (with_weight x w) p u ks
  letter_to c x u ks k (v, q, r, m, h) = (v, q, r, letter_on c x u r v q k m, h)

  pub letter_from : (c : ℕ) (x : Weight) (u : List ℕ) (ks : List QueryToken) → IsLetter c x
      → MarksOn n s l (with_weight x w) p u ks → MarksOn n s l w p (c ∷ u) ks
  letter_from c x u ks k (v, q, r, m, h) = (v, q, r, letter c x w v p q u r k m, h)

  marks_over : (u r : List ℕ) (v : Weights) (q : Bool) (ks : List QueryToken) → ¬ BeginsWithMark u → Marks w p u v q r
      → WordOn n s (operand l v q) r ks → WordOn n s (operand l w p) u ks
  marks_over u r v q ks k (unmarked _ _ _ m) h = h
  marks_over u r v q ks k (star _ _ _ _ _ _ m) h = absurd (k (inl refl))
  marks_over u r v q ks k (letter _ x _ _ _ _ _ _ e m) h = absurd (k (inr (x, e)))

  pub marks_ready : (u : List ℕ) → ¬ BeginsWithMark u → Ready n (in_marks s l w p) (word s (operand l w p)) u u
  marks_ready u k = record {
    to = λ ks h. marks_over u h.2 h.0 h.1 ks k h.3 h.4;
    from = λ rest h. (w, p, u, unmarked w p u k, (rest, refl, h));
  }

-- ── `<N>` ──
pub digit_45 : ¬ IsDigit 45
digit_45 h = omega arith

pub digit_62 : ¬ IsDigit 62
digit_62 h = omega arith

module _ (n s : ℕ) where
  dash_on : (u : List ℕ) (d : ℕ) (r : List ℕ) (ks : List QueryToken) → Distance (45 ∷ u) d r → SignOn n s d r ks
      → DashOn n s u ks
  dash_on u d r ks (arrow _) h = (refl, h)
  dash_on u d r ks (number _ _ _ _ k m) h = absurd (digit_45 k)

  pub dash_to : (u : List ℕ) (ks : List QueryToken) → LessOn n s (45 ∷ u) ks → DashOn n s u ks
  dash_to u ks (d, r, m, h) = dash_on u d r ks m h

  pub dash_from : (u : List ℕ) (ks : List QueryToken) → DashOn n s u ks → LessOn n s (45 ∷ u) ks
  dash_from [] ks h = absurd h
  dash_from (c ∷ u) ks (e, h) = (1, u, subst (λ x. Distance (45 ∷ x ∷ u) 1 u) (sym e) (arrow u), h)

  pub number_on : (c : ℕ) (u : List ℕ) (d : ℕ) (r : List ℕ) → IsDigit c → Distance (c ∷ u) d r
      → DistanceNumber (with_digit PAST_DISTANCE 0 c) u d r
  number_on c u d r k (arrow _) = absurd (digit_45 k)
  number_on c u d r k (number _ _ _ _ _ m) = m

  pub number_to : (c : ℕ) (u : List ℕ) (ks : List QueryToken) → IsDigit c → LessOn n s (c ∷ u) ks
      → DigitsOn n s (with_digit PAST_DISTANCE 0 c) u ks
  number_to c u ks k (d, r, m, h) = (d, r, number_on c u d r k m, h)

  pub number_from : (c : ℕ) (u : List ℕ) (ks : List QueryToken) → IsDigit c
      → DigitsOn n s (with_digit PAST_DISTANCE 0 c) u ks → LessOn n s (c ∷ u) ks
  number_from c u ks k (d, r, m, h) = (d, r, number c d u r k m, h)

  less_other : (c : ℕ) (u : List ℕ) (d : ℕ) (r : List ℕ) → ¬ IsDigit c → c ≢ 45 → ¬ Distance (c ∷ u) d r
  less_other c u d r k e (arrow _) = e refl
  less_other c u d r k e (number _ _ _ _ h m) = k h

  pub less_never : (c : ℕ) (u : List ℕ) (ks : List QueryToken) → ¬ IsDigit c → c ≢ 45 → ¬ LessOn n s (c ∷ u) ks
  less_never c u ks k e (d, r, m, h) = less_other c u d r k e m

  less_end : (d : ℕ) (r : List ℕ) → ¬ Distance [] d r
  less_end d r m = elim m [ ]

  pub less_ends : (ks : List QueryToken) → ¬ LessOn n s [] ks
  less_ends ks (d, r, m, h) = less_end d r m

  module _ (m : ℕ) where
    pub digit_on : (c : ℕ) (u : List ℕ) (d : ℕ) (r : List ℕ) → IsDigit c → DistanceNumber m (c ∷ u) d r
        → DistanceNumber (with_digit PAST_DISTANCE m c) u d r
    digit_on c u d r k (over _ _) = absurd (digit_62 k)
    digit_on c u d r k (digit _ _ _ _ _ _ h) = h

    pub digit_to : (c : ℕ) (u : List ℕ) (ks : List QueryToken) → IsDigit c → DigitsOn n s m (c ∷ u) ks
        → DigitsOn n s (with_digit PAST_DISTANCE m c) u ks
    digit_to c u ks k (d, r, h, w) = (d, r, digit_on c u d r k h, w)

    pub digit_from : (c : ℕ) (u : List ℕ) (ks : List QueryToken) → IsDigit c
        → DigitsOn n s (with_digit PAST_DISTANCE m c) u ks → DigitsOn n s m (c ∷ u) ks
    digit_from c u ks k (d, r, h, w) = (d, r, digit c m d u r k h, w)

    digits_other : (c : ℕ) (u : List ℕ) (d : ℕ) (r : List ℕ) → ¬ IsDigit c → c ≢ 62 → ¬ DistanceNumber m (c ∷ u) d r
    digits_other c u d r k e (over _ _) = e refl
    digits_other c u d r k e (digit _ _ _ _ _ h w) = k h

    pub digits_never : (c : ℕ) (u : List ℕ) (ks : List QueryToken) → ¬ IsDigit c → c ≢ 62 → ¬ DigitsOn n s m (c ∷ u) ks
    digits_never c u ks k e (d, r, h, w) = digits_other c u d r k e h

    digits_end : (d : ℕ) (r : List ℕ) → ¬ DistanceNumber m [] d r
    digits_end d r h = elim h [ ]

    pub digits_ends : (ks : List QueryToken) → ¬ DigitsOn n s m [] ks
    digits_ends ks (d, r, h, w) = digits_end d r h

    digits_over : (u : List ℕ) (d : ℕ) (r : List ℕ) (ks : List QueryToken) → DistanceNumber m (62 ∷ u) d r
        → SignOn n s d r ks → SignOn n s m u ks
    digits_over u d r ks (over _ _) w = w
    digits_over u d r ks (digit _ _ _ _ _ h _) w = absurd (digit_62 h)

    pub digits_ready : (u : List ℕ) → Ready n (in_digits s m) (sign s (phrase_joint m)) (62 ∷ u) u
    digits_ready u = record {
      to = λ ks h. digits_over u h.0 h.1 ks h.2 h.3;
      from = λ rest w. (m, u, over m u, (rest, refl, w));
    }

  pub dash_ready : (u : List ℕ) → Ready n (behind_dash s) (sign s (phrase_joint 1)) (62 ∷ u) u
  dash_ready u = record { to = λ ks h. h.1; from = λ rest w. (refl, (rest, refl, w)) }

  pub dash_never : (c : ℕ) (u : List ℕ) (ks : List QueryToken) → c ≢ 62 → ¬ DashOn n s (c ∷ u) ks
  dash_never c u ks e h = e h.0

-- ── an operand is over ──
module _ (n s : ℕ) (a : List ℕ) where
  pub quote_ready : (c : ℕ) (u : List ℕ) → a ≢ [] → c ≢ 39 → c ≢ 58
      → Ready n (behind_quote s a) (word s (operand a no_weights false)) (c ∷ u) (c ∷ u)
  quote_ready c u ne e f = record {
    to = λ ks h. other_to n s a c u ks f (quote_other (List QueryToken) (BehindLexemeOn n s) a c u ks e h).1;
    from = λ rest w. inr (e, ne, word_from n s a (c ∷ u) rest w);
  }

  pub quote_ready_end : a ≢ [] → Ready n (behind_quote s a) (word s (operand a no_weights false)) [] []
  quote_ready_end ne = record { to = λ ks h. end_to n s a ks h.1; from = λ rest w. (ne, word_from n s a [] rest w) }

  pub plain_ready : (c : ℕ) (u : List ℕ) → EndsOperand c → c ≢ 58
      → Ready n (in_plain s a) (word s (operand a no_weights false)) (c ∷ u) (c ∷ u)
  plain_ready c u k f = record {
    to = λ ks h. other_to n s a c u ks f
        (plain_over_to (List QueryToken) EndsOperand (BehindLexemeOn n s) a c u ks end_92 k h);
    from = λ rest w. plain_over_from (List QueryToken) EndsOperand (BehindLexemeOn n s) a c u
        (word s (operand a no_weights false) ∷ rest) k (word_from n s a (c ∷ u) rest w);
  }

  pub plain_ready_end : Ready n (in_plain s a) (word s (operand a no_weights false)) [] []
  plain_ready_end = record {
    to = λ ks h. end_to n s a ks (plain_end_to (List QueryToken) EndsOperand (BehindLexemeOn n s) a ks h);
    from = λ rest w. plain_end_from (List QueryToken) EndsOperand (BehindLexemeOn n s) a
        (word s (operand a no_weights false) ∷ rest) (word_from n s a [] rest w);
  }

-- an empty quoted lexeme has to go on
empty_other : (n s c : ℕ) (a u : List ℕ) (ks : List QueryToken) → a ≡ [] → c ≢ 39 → ¬ OperandQuote n s a (c ∷ u) ks
empty_other n s c a u ks e m (inl (f, h)) = m f
empty_other n s c a u ks e m (inr (k, ne, w)) = ne e

pub empty_quote_never : (n s c : ℕ) (a u : List ℕ) (ks : List QueryToken) → a ≡ [] → c ≢ 39
    → ¬ LexerRest n (behind_quote s a) (c ∷ u) ks
empty_quote_never n s c a u ks e m h = empty_other n s c a u ks e m h

-- ── tokens of one byte ──
module _ (n : ℕ) (u : List ℕ) where
  pub bang_ready : Ready n between bang (33 ∷ u) u
  bang_ready = record { to = lex_bang n u; from = λ rest w. not_sign n u rest w }

  pub open_ready : Ready n between opening (40 ∷ u) u
  open_ready = record { to = lex_open n u; from = λ rest w. open_sign n u rest w }

  pub close_ready : Ready n between closing (41 ∷ u) u
  close_ready = record { to = lex_close n u; from = λ rest w. close_sign n u rest w }

  pub and_ready : Ready n between (sign (offset n (38 ∷ u)) and_joint) (38 ∷ u) u
  and_ready = record { to = lex_and n u; from = λ rest w. and_sign n u rest w }

  pub or_ready : Ready n between (sign (offset n (124 ∷ u)) or_joint) (124 ∷ u) u
  or_ready = record { to = lex_or n u; from = λ rest w. or_sign n u rest w }
