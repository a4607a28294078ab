-- Characters within a token.
use Rattle.std.proofs.Common.{◌≡◌, ◌≢◌, ℕ, ◌+◌, ◌<◌, ◌≤◌, List, [], ◌∷◌, ◌++◌, length, ◌⊎◌, inl, inr, refl, sym, subst}
use Rattle.std.proofs.Common.{Bool, true, false, append_assoc, arith}
use Rattle.std.specs.Char.{encode_utf8}
use Rattle.std.proofs.lemmas.Str.{encode_ascii}
use Rattle.ts_base.specs.declared.Weight.{Weight}
use Rattle.ts_base.specs.declared.Weights.{Weights}
use Rattle.ts_base.specs.Bytes.{IsWhite, IsDigit, IsLetter}
use Rattle.ts_base.specs.Plain.{IsPlain}
use Rattle.ts_query.specs.Tokens.{no_weights, with_weight, offset, space, QueryToken, EndsOperand}
use Rattle.ts_base.specs.Digits.{with_digit}
use Rattle.ts_query.specs.Inner.Lexer.{between, in_quoted, quoted_escaped, behind_quote, in_plain, plain_escaped}
use Rattle.ts_query.specs.Inner.Lexer.{in_marks, behind_less, behind_dash, in_digits, OperandQuoted, OperandPlain}
use Rattle.ts_query.specs.Inner.Lexer.{LessOn, Silent, BehindLexemeOn}
use Rattle.ts_base.specs.Inner.Residuals.{EscapedOn}
use Rattle.ts_base.proofs.Characters.{Each, encode_some, one_byte}
use Rattle.ts_query.proofs.Lexing.{white_on, lex_quote, quote_lex, lex_escape, escape_lex, lex_plain, plain_lex}
use Rattle.ts_query.proofs.Lexing.{lex_less, less_lex, colon_to, colon_from, delimiter_58, star_to, star_from}
use Rattle.ts_query.proofs.Lexing.{letter_to, letter_from, dash_to, dash_from, number_to, number_from, digit_to}
use Rattle.ts_query.proofs.Lexing.{digit_from, end_92}
use Rattle.ts_base.proofs.QuotedTexts.{quoted_to, quoted_from, quoted_92_to, quoted_92_from, doubled_to, quote_other}
use Rattle.ts_base.proofs.QuotedTexts.{quoted_bytes_to, quoted_bytes_from}
use Rattle.ts_base.proofs.PlainTexts.{plain_92_to, plain_92_from, plain_over_to, plain_over_from, plain_bytes_to}
use Rattle.ts_base.proofs.PlainTexts.{plain_bytes_from}
use Rattle.ts_query.specs.declared.TheConstants.{PAST_DISTANCE}

pub at_offset : (n i : ℕ) (v : List ℕ) → n ≡ i + length v → offset n v ≡ i
at_offset n i v e = omega arith

-- ── tokens begin ──
white_byte : (i c : ℕ) → IsWhite c → Silent i between (c ∷ []) between
white_byte i c k = record { to = λ n u ks _ h. white_on n c u ks k h; from = λ n u ks _ h. space n c u ks k h }

quote_byte : (i : ℕ) → Silent i between (39 ∷ []) (in_quoted i [])
quote_byte i = record {
  to = λ n u ks e h. subst (λ s. OperandQuoted n s [] u ks) (at_offset n i (39 ∷ u) e) (lex_quote n u ks h);
  from = λ n u ks e h. quote_lex n u ks (subst (λ s. OperandQuoted n s [] u ks) (sym (at_offset n i (39 ∷ u) e)) h);
}

escape_byte : (i : ℕ) → Silent i between (92 ∷ []) (plain_escaped i [])
escape_byte i = record {
  to = λ n u ks e h. subst (λ s. EscapedOn (List QueryToken) (OperandPlain n s) [] u ks) (at_offset n i (92 ∷ u) e)
      (lex_escape n u ks h);
  from = λ n u ks e h. escape_lex n u ks
      (subst (λ s. EscapedOn (List QueryToken) (OperandPlain n s) [] u ks) (sym (at_offset n i (92 ∷ u) e)) h);
}

plain_first : (i b : ℕ) (bs : List ℕ) → IsPlain EndsOperand b → b ≢ 39 → Each (IsPlain EndsOperand) bs
    → Silent i between (b ∷ bs) (in_plain i (b ∷ bs))
plain_first i b bs k m all = record {
  to = λ n u ks e h. plain_bytes_to (List QueryToken) EndsOperand (BehindLexemeOn n i) bs (b ∷ []) u ks all (subst (λ s.
      OperandPlain n s (b ∷ []) (bs ++ u) ks) (at_offset n i (b ∷ (bs ++ u)) e) (lex_plain n b (bs ++ u) ks k m h));
  from = λ n u ks e h. plain_lex n b (bs ++ u) ks k m
      (subst (λ s. OperandPlain n s (b ∷ []) (bs ++ u) ks) (sym (at_offset n i (b ∷ (bs ++ u)) e))
      (plain_bytes_from (List QueryToken) EndsOperand (BehindLexemeOn n i) bs (b ∷ []) u ks all h));
}

less_byte : (i : ℕ) → Silent i between (60 ∷ []) (behind_less i)
less_byte i = record {
  to = λ n u ks e h. subst (λ s. LessOn n s u ks) (at_offset n i (60 ∷ u) e) (lex_less n u ks h);
  from = λ n u ks e h. less_lex n u ks (subst (λ s. LessOn n s u ks) (sym (at_offset n i (60 ∷ u) e)) h);
}

pub white_step : (i c : ℕ) → IsWhite c → Silent i between (encode_utf8 c) between
white_step i c k = let small : c < 128 = grind arith in
    subst (λ b. Silent i between b between) (sym (encode_ascii c small)) (white_byte i c k)

pub quote_step : (i c : ℕ) → c ≡ 39 → Silent i between (encode_utf8 c) (in_quoted i [])
quote_step i c e = subst (λ b. Silent i between b (in_quoted i [])) (sym (one_byte c 39 e (omega arith))) (quote_byte i)

pub escape_step : (i c : ℕ) → c ≡ 92 → Silent i between (encode_utf8 c) (plain_escaped i [])
escape_step i c e =
    subst (λ b. Silent i between b (plain_escaped i [])) (sym (one_byte c 92 e (omega arith))) (escape_byte i)

pub less_step : (i c : ℕ) → c ≡ 60 → Silent i between (encode_utf8 c) (behind_less i)
less_step i c e = subst (λ b. Silent i between b (behind_less i)) (sym (one_byte c 60 e (omega arith))) (less_byte i)

-- a byte past ASCII is plain
pub wide_plain : (b : ℕ) → 128 ≤ b → IsPlain EndsOperand b
wide_plain b h = record { no_end = λ k. grind arith; no_escape = λ k. omega arith }

record IsFirst (b : ℕ) : Type 0 where
  plain : IsPlain EndsOperand b
  no_quote : b ≢ 39

each_plain : (bs : List ℕ) → Each IsFirst bs → Each (IsPlain EndsOperand) bs
each_plain [] h = tt
each_plain (b ∷ bs) h = (h.0.plain, each_plain bs h.1)

pub plain_step : (i c : ℕ) → IsPlain EndsOperand c → c ≢ 39
    → Silent i between (encode_utf8 c) (in_plain i (encode_utf8 c))
plain_step i c k m =
    let f = encode_some IsFirst c (λ _. record { plain = k; no_quote = m })
    (λ b h. record { plain = wide_plain b h; no_quote = λ e. omega arith }) in
    subst (λ v. Silent i between v (in_plain i v)) (sym f.2)
    (plain_first i f.0 f.1 f.3.plain f.3.no_quote (each_plain f.1 f.4))

-- ── within a quoted lexeme ──
module _ (i s : ℕ) (a : List ℕ) where
  quoted_quote : Silent i (in_quoted s a) (39 ∷ []) (behind_quote s a)
  quoted_quote = record {
    to = λ n u ks _ h. quoted_to (List QueryToken) (BehindLexemeOn n s) a u ks h;
    from = λ n u ks _ h. quoted_from (List QueryToken) (BehindLexemeOn n s) a u ks h;
  }

  quoted_escape_byte : Silent i (in_quoted s a) (92 ∷ []) (quoted_escaped s a)
  quoted_escape_byte = record {
    to = λ n u ks _ h. quoted_92_to (List QueryToken) (BehindLexemeOn n s) a u ks h;
    from = λ n u ks _ h. quoted_92_from (List QueryToken) (BehindLexemeOn n s) a u ks h;
  }

  quoted_bytes : (bs : List ℕ) → Each (λ b. (b ≢ 39) × (b ≢ 92)) bs
      → Silent i (in_quoted s a) bs (in_quoted s (a ++ bs))
  quoted_bytes bs all = record {
    to = λ n u ks _ h. quoted_bytes_to (List QueryToken) (BehindLexemeOn n s) bs a u ks all h;
    from = λ n u ks _ h. quoted_bytes_from (List QueryToken) (BehindLexemeOn n s) bs a u ks all h;
  }

  doubled_byte : Silent i (behind_quote s a) (39 ∷ []) (in_quoted s (a ++ 39 ∷ []))
  doubled_byte = record {
    to = λ n u ks _ h. doubled_to (List QueryToken) (BehindLexemeOn n s) a u ks h;
    from = λ n u ks _ h. inl (refl, h);
  }

  quoted_colon : a ≢ [] → Silent i (behind_quote s a) (58 ∷ []) (in_marks s a no_weights false)
  quoted_colon ne = record {
    to = λ n u ks _ h. colon_to n s a u ks (quote_other (List QueryToken) (BehindLexemeOn n s) a 58 u ks
        (let no : ◌≢◌ {A = ℕ} 58 39 = λ e. omega arith in no) h).1;
    from = λ n u ks _ h. inr ((λ e. omega arith), ne, colon_from n s a u ks h);
  }

  plain_escape_byte : Silent i (in_plain s a) (92 ∷ []) (plain_escaped s a)
  plain_escape_byte = record {
    to = λ n u ks _ h. plain_92_to (List QueryToken) EndsOperand (BehindLexemeOn n s) a u ks end_92 h;
    from = λ n u ks _ h. plain_92_from (List QueryToken) EndsOperand (BehindLexemeOn n s) a u ks h;
  }

  plain_colon : Silent i (in_plain s a) (58 ∷ []) (in_marks s a no_weights false)
  plain_colon = record {
    to = λ n u ks _ h. colon_to n s a u ks
        (plain_over_to (List QueryToken) EndsOperand (BehindLexemeOn n s) a 58 u ks end_92 (inr delimiter_58) h);
    from = λ n u ks _ h. plain_over_from (List QueryToken) EndsOperand (BehindLexemeOn n s) a 58 u ks (inr delimiter_58)
        (colon_from n s a u ks h);
  }

  plain_bytes : (bs : List ℕ) → Each (IsPlain EndsOperand) bs → Silent i (in_plain s a) bs (in_plain s (a ++ bs))
  plain_bytes bs all = record {
    to = λ n u ks _ h. plain_bytes_to (List QueryToken) EndsOperand (BehindLexemeOn n s) bs a u ks all h;
    from = λ n u ks _ h. plain_bytes_from (List QueryToken) EndsOperand (BehindLexemeOn n s) bs a u ks all h;
  }

  -- a character after `\`: its first byte is escaped, and the others are past ASCII
  quoted_escaped_bytes : (b : ℕ) (bs : List ℕ) → Each (λ c. (c ≢ 39) × (c ≢ 92)) bs
      → Silent i (quoted_escaped s a) (b ∷ bs) (in_quoted s (a ++ b ∷ bs))
  quoted_escaped_bytes b bs all = record {
    to = λ n u ks _ h. subst (λ x. OperandQuoted n s x u ks) (append_assoc a (b ∷ []) bs)
        (quoted_bytes_to (List QueryToken) (BehindLexemeOn n s) bs (a ++ b ∷ []) u ks all h);
    from = λ n u ks _ h. quoted_bytes_from (List QueryToken) (BehindLexemeOn n s) bs (a ++ b ∷ []) u ks all
        (subst (λ x. OperandQuoted n s x u ks) (sym (append_assoc a (b ∷ []) bs)) h);
  }

  plain_escaped_bytes : (b : ℕ) (bs : List ℕ) → Each (IsPlain EndsOperand) bs
      → Silent i (plain_escaped s a) (b ∷ bs) (in_plain s (a ++ b ∷ bs))
  plain_escaped_bytes b bs all = record {
    to = λ n u ks _ h. subst (λ x. OperandPlain n s x u ks) (append_assoc a (b ∷ []) bs)
        (plain_bytes_to (List QueryToken) EndsOperand (BehindLexemeOn n s) bs (a ++ b ∷ []) u ks all h);
    from = λ n u ks _ h. plain_bytes_from (List QueryToken) EndsOperand (BehindLexemeOn n s) bs (a ++ b ∷ []) u ks all
        (subst (λ x. OperandPlain n s x u ks) (sym (append_assoc a (b ∷ []) bs)) h);
  }

  module _ (c : ℕ) where
    pub quoted_quote_step : c ≡ 39 → Silent i (in_quoted s a) (encode_utf8 c) (behind_quote s a)
    quoted_quote_step e =
        subst (λ b. Silent i (in_quoted s a) b (behind_quote s a)) (sym (one_byte c 39 e (omega arith))) quoted_quote

    pub quoted_escape_step : c ≡ 92 → Silent i (in_quoted s a) (encode_utf8 c) (quoted_escaped s a)
    quoted_escape_step e = subst (λ b. Silent i (in_quoted s a) b (quoted_escaped s a))
        (sym (one_byte c 92 e (omega arith))) quoted_escape_byte

    pub quoted_step : c ≢ 39 → c ≢ 92 → Silent i (in_quoted s a) (encode_utf8 c) (in_quoted s (a ++ encode_utf8 c))
    quoted_step m k =
        let f =
        encode_some (λ b. (b ≢ 39) × (b ≢ 92)) c (λ _. (m, k)) (λ b h. ((λ e. omega arith), (λ e. omega arith))) in
        quoted_bytes (encode_utf8 c) (subst (λ v. Each (λ b. (b ≢ 39) × (b ≢ 92)) v) (sym f.2) (f.3, f.4))

    pub doubled_step : c ≡ 39 → Silent i (behind_quote s a) (encode_utf8 c) (in_quoted s (a ++ encode_utf8 c))
    doubled_step e = subst (λ b. Silent i (behind_quote s a) b (in_quoted s (a ++ b)))
        (sym (one_byte c 39 e (omega arith))) doubled_byte

    pub quoted_colon_step : a ≢ [] → c ≡ 58
        → Silent i (behind_quote s a) (encode_utf8 c) (in_marks s a no_weights false)
    quoted_colon_step ne e = subst (λ b. Silent i (behind_quote s a) b (in_marks s a no_weights false))
        (sym (one_byte c 58 e (omega arith))) (quoted_colon ne)

    pub plain_escape_step : c ≡ 92 → Silent i (in_plain s a) (encode_utf8 c) (plain_escaped s a)
    plain_escape_step e = subst (λ b. Silent i (in_plain s a) b (plain_escaped s a))
        (sym (one_byte c 92 e (omega arith))) plain_escape_byte

    pub plain_colon_step : c ≡ 58 → Silent i (in_plain s a) (encode_utf8 c) (in_marks s a no_weights false)
    plain_colon_step e = subst (λ b. Silent i (in_plain s a) b (in_marks s a no_weights false))
        (sym (one_byte c 58 e (omega arith))) plain_colon

    pub plain_more_step : IsPlain EndsOperand c
        → Silent i (in_plain s a) (encode_utf8 c) (in_plain s (a ++ encode_utf8 c))
    plain_more_step k =
        let f = encode_some (IsPlain EndsOperand) c (λ _. k) wide_plain in
        plain_bytes (encode_utf8 c) (subst (λ v. Each (IsPlain EndsOperand) v) (sym f.2) (f.3, f.4))

    pub quoted_escaped_step : Silent i (quoted_escaped s a) (encode_utf8 c) (in_quoted s (a ++ encode_utf8 c))
    quoted_escaped_step =
        let cases : (c < 128) ⊎ (128 ≤ c) = grind arith in
        elim cases [
          | inl h ↦ subst (λ v. Silent i (quoted_escaped s a) v (in_quoted s (a ++ v))) (sym (encode_ascii c h))
              (quoted_escaped_bytes c [] tt)
          | inr h ↦
              (let f = encode_some (λ b. (b ≢ 39) × (b ≢ 92)) c (λ k. absurd (let no : ⊥ = omega arith in no))
              (λ b k. ((λ e. omega arith), (λ e. omega arith))) in
              subst (λ v. Silent i (quoted_escaped s a) v (in_quoted s (a ++ v))) (sym f.2)
              (quoted_escaped_bytes f.0 f.1 f.4))
        ]

    pub plain_escaped_step : Silent i (plain_escaped s a) (encode_utf8 c) (in_plain s (a ++ encode_utf8 c))
    plain_escaped_step =
        let cases : (c < 128) ⊎ (128 ≤ c) = grind arith in
        elim cases [
          | inl h ↦ subst (λ v. Silent i (plain_escaped s a) v (in_plain s (a ++ v))) (sym (encode_ascii c h))
              (plain_escaped_bytes c [] tt)
          | inr h ↦
              (let f = encode_some (IsPlain EndsOperand) c (λ k. absurd (let no : ⊥ = omega arith in no)) wide_plain in
              subst (λ v. Silent i (plain_escaped s a) v (in_plain s (a ++ v))) (sym f.2)
              (plain_escaped_bytes f.0 f.1 f.4))
        ]

  -- ── marks ──
  module _ (w : Weights) (p : Bool) (c : ℕ) where
    pub star_step : c ≡ 42 → Silent i (in_marks s a w p) (encode_utf8 c) (in_marks s a w true)
    star_step e = subst (λ b. Silent i (in_marks s a w p) b (in_marks s a w true)) (sym (one_byte c 42 e (omega arith)))
        (record { to = λ n u ks _ h. star_to n s a w p u ks h; from = λ n u ks _ h. star_from n s a w p u ks h })

    pub letter_step : (x : Weight) → c < 128 → IsLetter c x
        → Silent i (in_marks s a w p) (encode_utf8 c) (in_marks s a (with_weight x w) p)
    letter_step x small k =
        subst (λ b. Silent i (in_marks s a w p) b (in_marks s a (with_weight x w) p)) (sym (encode_ascii c small))
        (record {
          to = λ n u ks _ h. letter_to n s a w p c x u ks k h;
          from = λ n u ks _ h. letter_from n s a w p c x u ks k h;
        })

-- ── `<N>` ──
module _ (i s : ℕ) (c : ℕ) where
  pub dash_step : c ≡ 45 → Silent i (behind_less s) (encode_utf8 c) (behind_dash s)
  dash_step e = subst (λ b. Silent i (behind_less s) b (behind_dash s)) (sym (one_byte c 45 e (omega arith)))
      (record { to = λ n u ks _ h. dash_to n s u ks h; from = λ n u ks _ h. dash_from n s u ks h })

  pub number_step : IsDigit c → Silent i (behind_less s) (encode_utf8 c) (in_digits s (with_digit PAST_DISTANCE 0 c))
  number_step k = let small : c < 128 = omega arith in
      subst (λ b. Silent i (behind_less s) b (in_digits s (with_digit PAST_DISTANCE 0 c))) (sym (encode_ascii c small))
      (record { to = λ n u ks _ h. number_to n s c u ks k h; from = λ n u ks _ h. number_from n s c u ks k h })

  pub digit_step : (m : ℕ) → IsDigit c
      → Silent i (in_digits s m) (encode_utf8 c) (in_digits s (with_digit PAST_DISTANCE m c))
  digit_step m k = let small : c < 128 = omega arith in
      subst (λ b. Silent i (in_digits s m) b (in_digits s (with_digit PAST_DISTANCE m c))) (sym (encode_ascii c small))
      (record { to = λ n u ks _ h. digit_to n s m c u ks k h; from = λ n u ks _ h. digit_from n s m c u ks k h })
