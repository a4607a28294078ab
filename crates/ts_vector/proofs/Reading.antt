-- What may follow before a byte, and after it, state by state.
use Rattle.std.proofs.Common.{◌≡◌, ◌≢◌, ℕ, suc, ◌+◌, ◌-◌, ◌<◌, List, [], ◌∷◌, ◌++◌, ◌⊎◌, inl, inr, length, refl, sym}
use Rattle.std.proofs.Common.{◌∙◌, subst, Bool, true, false, arith}
use Rattle.ts_base.specs.declared.Weight.{Weight}
use Rattle.ts_base.specs.declared.Weight.TheVariants.{D}
use Rattle.ts_base.specs.Vectors.{Position}
use Rattle.ts_vector.specs.Text.{Written, written, position, PositionNumber, BehindPosition, Items, LexemeTail, digit}
use Rattle.ts_vector.specs.Text.{letter, bare, last, comma, done, space, quoted, plain, escape, alone, numbered}
use Rattle.ts_vector.specs.Text.{EndsItem}
use Rattle.ts_base.specs.Bytes.{IsWhite, IsDigit, IsLetter}
use Rattle.ts_base.specs.Plain.{IsPlain, ended}
use Rattle.ts_base.specs.Digits.{with_digit}
use Rattle.ts_vector.specs.Inner.Shape.{ItemQuoted, ItemQuote, ItemPlain, PositionNumberOn, BehindPositionOn, StateRest}
use Rattle.ts_vector.specs.Inner.Shape.{VectorRest, Shape, ShapeMoves, ShapeStuck, ShapeSteps}
use Rattle.ts_base.specs.Inner.Residuals.{EscapedOn}
use Rattle.ts_base.specs.Inner.Machine.{RestAt, Whole, Unfinished}
use Rattle.ts_vector.specs.declared.reader.State.{State}
use Rattle.ts_vector.specs.declared.reader.State.TheVariants.{Between, InQuoted, QuotedEscape, Quote, InPlain}
use Rattle.ts_vector.specs.declared.reader.State.TheVariants.{PlainEscape, Digits, Weighted}
use Rattle.ts_base.proofs.ByteKinds.{white_39, white_92, white_58, white_44, white_digit, letter_digit, letter_white}
use Rattle.ts_base.proofs.ByteKinds.{letter_44, digit_44, letter_one}
use Rattle.ts_base.proofs.QuotedTexts.{quoted_to, quoted_from, quoted_92_to, quoted_92_from, quoted_byte_to}
use Rattle.ts_base.proofs.QuotedTexts.{quoted_byte_from, doubled_to, quote_other, quoted_nil, quoted_done}
use Rattle.ts_base.proofs.PlainTexts.{plain_92_to, plain_92_from, plain_over_to, plain_over_from, plain_byte_to}
use Rattle.ts_base.proofs.PlainTexts.{plain_byte_from, plain_end_to}
use Rattle.ts_base.proofs.Places.{stuck_at}
use Rattle.ts_base.specs.declared.TheConstants.{LAST_POSITION}

abbrev pub mk : State → List Written → ℕ → List ℕ → List Position → ℕ → Shape
mk st its s a ps n = record { state = st; items = its; start = s; word = a; positions = ps; value = n }

ends_92 : ¬ EndsItem 92
ends_92 h = grind arith

-- after a position comes the end, white space or a comma
behind_begins : (ps : List Position) (c : ℕ) (u : List ℕ) (qs : List Position) (r : List ℕ)
    → BehindPosition ps (c ∷ u) qs r → IsWhite c ⊎ (c ≡ 44)
behind_begins ps c u qs r (last _ _ h) = inl h
behind_begins ps c u qs r (comma _ _ _ _ num) = inr refl

no_39_58 : ◌≡◌ {A = ℕ} 58 39 → ⊥
no_39_58 h = omega arith

number_end : (n : ℕ) (ps qs : List Position) (r : List ℕ) → PositionNumber n ps [] qs r
    → (0 < n) × BehindPosition (ps ++ position n D ∷ []) [] qs r
number_end n ps qs r (bare _ _ _ _ _ p b) = (p, b)

digit_49 : IsDigit 49
digit_49 = omega arith

pos_49 : (n : ℕ) → 0 < with_digit LAST_POSITION n 49
pos_49 n = omega arith

module _ (size s : ℕ) where
  white_on : (its : List Written) (c : ℕ) (u : List ℕ) (v : List Written) → IsWhite c → Items size its (c ∷ u) v
      → Items size its u v
  white_on its c u v k (space _ a t w h i) = i
  white_on its c u v k (quoted a t l r w q ne b) = absurd (white_39 k)
  white_on its c u v k (plain _ a t l r w p n q b) = absurd (p.no_end (inl k))
  white_on its c u v k (escape _ a t l r w q b) = absurd (white_92 k)

  colon_never : (its : List Written) (u : List ℕ) (v : List Written) → ¬ Items size its (58 ∷ u) v
  colon_never its u v (space c a t w h i) = absurd (white_58 h)
  colon_never its u v (plain c a t l r w p n q b) = absurd (p.no_end (inr refl))

  module _ (its : List Written) where
    items_quote : (u : List ℕ) (v : List Written) → size - suc (length u) ≡ s → Items size its (39 ∷ u) v
        → ItemQuoted size s its [] u v
    items_quote u v o (space c a t w h i) = absurd (white_39 h)
    items_quote u v o (quoted a t l r w q ne b) = (l, r, q, ne, subst (λ x. LexemeTail size x its l r v) o b)
    items_quote u v o (plain c a t l r w p n q b) = absurd (n refl)

    items_escape : (u : List ℕ) (v : List Written) → size - suc (length u) ≡ s → Items size its (92 ∷ u) v
        → EscapedOn (List Written) (ItemPlain size s its) [] u v
    items_escape u v o (space c a t w h i) = absurd (white_92 h)
    items_escape u v o (plain c a t l r w p n q b) = absurd (p.no_escape refl)
    items_escape u v o (escape c a t l r w q b) = (l, r, q, subst (λ x. LexemeTail size x its l r v) o b)

    escape_items : (u : List ℕ) (v : List Written) → size - suc (length u) ≡ s
        → EscapedOn (List Written) (ItemPlain size s its) [] u v → Items size its (92 ∷ u) v
    escape_items [] v o h = absurd h
    escape_items (c ∷ u) v o (l, r, q, b) = escape c its u l r v q (subst (λ x. LexemeTail size x its l r v) (sym o) b)

    items_plain : (c : ℕ) (u : List ℕ) (v : List Written) → size - suc (length u) ≡ s → IsPlain EndsItem c → c ≢ 39
        → Items size its (c ∷ u) v → ItemPlain size s its (c ∷ []) u v
    items_plain c u v o k n (space _ a t w h i) = absurd (k.no_end (inl h))
    items_plain c u v o k n (quoted a t l r w q ne b) = absurd (n refl)
    items_plain c u v o k n (plain _ a t l r w p _ q b) = (l, r, q, subst (λ x. LexemeTail size x its l r v) o b)
    items_plain c u v o k n (escape _ a t l r w q b) = absurd (k.no_escape refl)

    module _ (a : List ℕ) where
      -- after a lexeme
      word_colon : (u : List ℕ) (v : List Written) → LexemeTail size s its a (58 ∷ u) v
          → PositionNumberOn size s its a [] 0 u v
      word_colon u v (alone _ _ _ _ _ i) = absurd (colon_never (its ++ written s a [] ∷ []) u v i)
      word_colon u v (numbered _ _ _ _ ps r _ num i) = (ps, r, num, i)

      colon_word : (u : List ℕ) (v : List Written) → PositionNumberOn size s its a [] 0 u v
          → LexemeTail size s its a (58 ∷ u) v
      colon_word u v (ps, r, num, i) = numbered s its a u ps r v num i

      word_other : (c : ℕ) (u : List ℕ) (v : List Written) → c ≢ 58 → LexemeTail size s its a (c ∷ u) v
          → Items size (its ++ written s a [] ∷ []) (c ∷ u) v
      word_other c u v n (alone _ _ _ _ _ i) = i
      word_other c u v n (numbered _ _ _ _ ps r _ num i) = absurd (n refl)

      word_end : (v : List Written) → LexemeTail size s its a [] v → Items size (its ++ written s a [] ∷ []) [] v
      word_end v (alone _ _ _ _ _ i) = i

      -- ── in a plain lexeme ──
      plain_58_to : (u : List ℕ) (v : List Written) → ItemPlain size s its a (58 ∷ u) v
          → PositionNumberOn size s its a [] 0 u v
      plain_58_to u v h =
          word_colon u v (plain_over_to (List Written) EndsItem (LexemeTail size s its) a 58 u v ends_92 (inr refl) h)

      plain_58_from : (u : List ℕ) (v : List Written) → PositionNumberOn size s its a [] 0 u v
          → ItemPlain size s its a (58 ∷ u) v
      plain_58_from u v h =
          plain_over_from (List Written) EndsItem (LexemeTail size s its) a 58 u v (inr refl) (colon_word u v h)

      plain_white_to : (c : ℕ) (u : List ℕ) (v : List Written) → IsWhite c → ItemPlain size s its a (c ∷ u) v
          → Items size (its ++ written s a [] ∷ []) u v
      plain_white_to c u v k h =
          let n : c ≢ 58 = λ e. white_58 (subst IsWhite e k) in
          white_on (its ++ written s a [] ∷ []) c u v k (word_other c u v n
          (plain_over_to (List Written) EndsItem (LexemeTail size s its) a c u v ends_92 (inl k) h))

      plain_white_from : (c : ℕ) (u : List ℕ) (v : List Written) → IsWhite c
          → Items size (its ++ written s a [] ∷ []) u v → ItemPlain size s its a (c ∷ u) v
      plain_white_from c u v k i =
          plain_over_from (List Written) EndsItem (LexemeTail size s its) a c u v (inl k)
          (alone s its a (c ∷ u) v (space c (its ++ written s a [] ∷ []) u v k i))

      -- ── in a number, and after a position ──
      module _ (ps : List Position) where
        behind_comma : (u : List ℕ) (qs : List Position) (r : List ℕ) → BehindPosition ps (44 ∷ u) qs r
            → PositionNumber 0 ps u qs r
        behind_comma u qs r (last _ _ h) = absurd (white_44 h)
        behind_comma u qs r (comma _ _ _ _ num) = num

        behind_comma_to : (u : List ℕ) (v : List Written) → BehindPositionOn size s its a ps (44 ∷ u) v
            → PositionNumberOn size s its a ps 0 u v
        behind_comma_to u v (qs, r, b, i) = (qs, r, behind_comma u qs r b, i)

        behind_comma_from : (u : List ℕ) (v : List Written) → PositionNumberOn size s its a ps 0 u v
            → BehindPositionOn size s its a ps (44 ∷ u) v
        behind_comma_from u v (qs, r, num, i) = (qs, r, comma ps u qs r num, i)

        behind_other : (c : ℕ) (u : List ℕ) (qs : List Position) (r : List ℕ) (v : List Written) → c ≢ 44
            → BehindPosition ps (c ∷ u) qs r → Items size (its ++ written s a qs ∷ []) r v
            → IsWhite c × Items size (its ++ written s a ps ∷ []) (c ∷ u) v
        behind_other c u qs r v n (last _ _ h) i = (h, i)
        behind_other c u qs r v n (comma _ _ _ _ num) i = absurd (n refl)

        behind_white_to : (c : ℕ) (u : List ℕ) (v : List Written) → IsWhite c
            → BehindPositionOn size s its a ps (c ∷ u) v → Items size (its ++ written s a ps ∷ []) u v
        behind_white_to c u v k (qs, r, b, i) =
            let n : c ≢ 44 = λ e. white_44 (subst IsWhite e k) in
            white_on (its ++ written s a ps ∷ []) c u v k (behind_other c u qs r v n b i).1

        behind_white_from : (c : ℕ) (u : List ℕ) (v : List Written) → IsWhite c
            → Items size (its ++ written s a ps ∷ []) u v → BehindPositionOn size s its a ps (c ∷ u) v
        behind_white_from c u v k i = (ps, c ∷ u, last ps (c ∷ u) k, space c (its ++ written s a ps ∷ []) u v k i)

        behind_stuck : (c : ℕ) (u : List ℕ) (v : List Written) → ¬ IsWhite c → c ≢ 44
            → ¬ BehindPositionOn size s its a ps (c ∷ u) v
        behind_stuck c u v k n (qs, r, b, i) = k (behind_other c u qs r v n b i).0

  module _ (its : List Written) (a : List ℕ) (ps : List Position) (n : ℕ) where
    digit_on : (c : ℕ) (u : List ℕ) (qs : List Position) (r : List ℕ) → IsDigit c → PositionNumber n ps (c ∷ u) qs r
        → PositionNumber (with_digit LAST_POSITION n c) ps u qs r
    digit_on c u qs r k (digit _ _ _ _ _ _ _ num) = num
    digit_on c u qs r k (letter _ _ w _ _ _ _ _ l b) = absurd (letter_digit c w l k)
    digit_on c u qs r k (bare _ _ _ _ _ _ b) =
        absurd (let begins : IsWhite c ⊎ (c ≡ 44) = behind_begins _ c u qs r b in grind arith)

    digit_to : (c : ℕ) (u : List ℕ) (v : List Written) → IsDigit c → PositionNumberOn size s its a ps n (c ∷ u) v
        → PositionNumberOn size s its a ps (with_digit LAST_POSITION n c) u v
    digit_to c u v k (qs, r, num, i) = (qs, r, digit_on c u qs r k num, i)

    digit_from : (c : ℕ) (u : List ℕ) (v : List Written) → IsDigit c
        → PositionNumberOn size s its a ps (with_digit LAST_POSITION n c) u v
        → PositionNumberOn size s its a ps n (c ∷ u) v
    digit_from c u v k (qs, r, num, i) = (qs, r, digit c n ps u qs r k num, i)

    -- no digit: the number is over
    over : (c : ℕ) (u : List ℕ) (qs : List Position) (r : List ℕ) → ¬ IsDigit c → PositionNumber n ps (c ∷ u) qs r
        → (0 < n) × (((w : Weight) × IsLetter c w × BehindPosition (ps ++ position n w ∷ []) u qs r)
        ⊎ BehindPosition (ps ++ position n D ∷ []) (c ∷ u) qs r)
    over c u qs r k (digit _ _ _ _ _ _ d num) = absurd (k d)
    over c u qs r k (letter _ _ w _ _ _ _ p l b) = (p, inl (w, l, b))
    over c u qs r k (bare _ _ _ _ _ p b) = (p, inr b)

    lettered_on : (c : ℕ) (w : Weight) (u : List ℕ) (v : List Written) (qs : List Position) (r : List ℕ) → IsLetter c w
        → ((w' : Weight) × IsLetter c w' × BehindPosition (ps ++ position n w' ∷ []) u qs r)
        ⊎ BehindPosition (ps ++ position n D ∷ []) (c ∷ u) qs r
        → BehindPosition (ps ++ position n w ∷ []) u qs r
    lettered_on c w u v qs r k (inl (w', l, b)) =
        subst (λ x. BehindPosition (ps ++ position n x ∷ []) u qs r) (letter_one c w' w l k) b
    lettered_on c w u v qs r k (inr b) = absurd (elim (behind_begins _ c u qs r b) [
      | inl h ↦ letter_white c w k h
      | inr e ↦ letter_44 w (subst (λ x. IsLetter x w) e k)
    ])

    lettered_to : (c : ℕ) (w : Weight) (u : List ℕ) (v : List Written) → IsLetter c w
        → PositionNumberOn size s its a ps n (c ∷ u) v → BehindPositionOn size s its a (ps ++ position n w ∷ []) u v
    lettered_to c w u v k (qs, r, num, i) =
        (qs, r, lettered_on c w u v qs r k (over c u qs r (letter_digit c w k) num).1, i)

    lettered_from : (c : ℕ) (w : Weight) (u : List ℕ) (v : List Written) → 0 < n → IsLetter c w
        → BehindPositionOn size s its a (ps ++ position n w ∷ []) u v → PositionNumberOn size s its a ps n (c ∷ u) v
    lettered_from c w u v p k (qs, r, b, i) = (qs, r, letter c n w ps u qs r p k b, i)

    bare_on : (c : ℕ) (u : List ℕ) (qs : List Position) (r : List ℕ) → ((w : Weight) → ¬ IsLetter c w)
        → ((w' : Weight) × IsLetter c w' × BehindPosition (ps ++ position n w' ∷ []) u qs r)
        ⊎ BehindPosition (ps ++ position n D ∷ []) (c ∷ u) qs r
        → BehindPosition (ps ++ position n D ∷ []) (c ∷ u) qs r
    bare_on c u qs r k (inl (w', l, b)) = absurd (k w' l)
    bare_on c u qs r k (inr b) = b

    -- neither digit nor letter
    bare_to : (c : ℕ) (u : List ℕ) (v : List Written) → ¬ IsDigit c
        → ((w : Weight) → ¬ IsLetter c w) → PositionNumberOn size s its a ps n (c ∷ u) v
        → (0 < n) × BehindPositionOn size s its a (ps ++ position n D ∷ []) (c ∷ u) v
    bare_to c u v d k (qs, r, num, i) = let o = over c u qs r d num in (o.0, (qs, r, bare_on c u qs r k o.1, i))

    bare_from : (t : List ℕ) (v : List Written) → 0 < n → BehindPositionOn size s its a (ps ++ position n D ∷ []) t v
        → PositionNumberOn size s its a ps n t v
    bare_from t v p (qs, r, b, i) = (qs, r, bare n ps t qs r p b, i)

    zero_never : (c : ℕ) (u : List ℕ) (v : List Written) → n ≡ 0 → ¬ IsDigit c
        → ¬ PositionNumberOn size s its a ps n (c ∷ u) v
    zero_never c u v z d (qs, r, num, i) = let p = (over c u qs r d num).0 in omega arith

  quote_items : (its : List Written) (u : List ℕ) (v : List Written) → size - suc (length u) ≡ s
      → ItemQuoted size s its [] u v → Items size its (39 ∷ u) v
  quote_items its u v o (l, r, q, ne, w) = quoted its u l r v q ne (subst (λ x. LexemeTail size x its l r v) (sym o) w)

  plain_items : (its : List Written) (c : ℕ) (u : List ℕ) (v : List Written) → size - suc (length u) ≡ s
      → IsPlain EndsItem c → c ≢ 39 → ItemPlain size s its (c ∷ []) u v → Items size its (c ∷ u) v
  plain_items its c u v o k n (l, r, q, w) =
      plain c its u l r v k n q (subst (λ x. LexemeTail size x its l r v) (sym o) w)

  done_only : (its w : List Written) → Items size its [] w → w ≡ its
  done_only its w (done _) = refl

  plain_end_item : (its : List Written) (a : List ℕ) (v : List Written) → ItemPlain size s its a [] v
      → Items size (its ++ written s a [] ∷ []) [] v
  plain_end_item its a v h = word_end its a v (plain_end_to (List Written) EndsItem (LexemeTail size s its) a v h)

  behind_end : (its : List Written) (a : List ℕ) (ps qs : List Position) (r : List ℕ) (v : List Written)
      → BehindPosition ps [] qs r → Items size (its ++ written s a qs ∷ []) r v
      → Items size (its ++ written s a ps ∷ []) [] v
  behind_end its a ps qs r v (last _ _ e) i = i

  behind_end_to : (its : List Written) (a : List ℕ) (ps : List Position) (v : List Written)
      → BehindPositionOn size s its a ps [] v → Items size (its ++ written s a ps ∷ []) [] v
  behind_end_to its a ps v (qs, r, b, i) = behind_end its a ps qs r v b i

  number_end_to : (its : List Written) (a : List ℕ) (ps : List Position) (n : ℕ) (v : List Written)
      → PositionNumberOn size s its a ps n [] v → (0 < n) × BehindPositionOn size s its a (ps ++ position n D ∷ []) [] v
  number_end_to its a ps n v (qs, r, num, i) = let e = number_end n ps qs r num in (e.0, (qs, r, e.1, i))

  -- a letter and a quote complete a quoted lexeme
  item_done : (its : List Written) (a : List ℕ)
      → ItemQuoted size s its a (97 ∷ 39 ∷ []) (its ++ written s (a ++ 97 ∷ []) [] ∷ [])
  item_done its a =
      quoted_done (List Written) (LexemeTail size s its) a (its ++ written s (a ++ 97 ∷ []) [] ∷ [])
      (alone s its (a ++ 97 ∷ []) [] (its ++ written s (a ++ 97 ∷ []) [] ∷ [])
      (done (its ++ written s (a ++ 97 ∷ []) [] ∷ [])))

  plain_done : (its : List Written) (a : List ℕ) → ItemPlain size s its a [] (its ++ written s a [] ∷ [])
  plain_done its a =
      (a, [], ended a [] tt, alone s its a [] (its ++ written s a [] ∷ []) (done (its ++ written s a [] ∷ [])))

  behind_done : (its : List Written) (a : List ℕ) (ps : List Position)
      → BehindPositionOn size s its a ps [] (its ++ written s a ps ∷ [])
  behind_done its a ps = (ps, [], last ps [] tt, done (its ++ written s a ps ∷ []))

offset : (size o : ℕ) (u : List ℕ) → size ≡ o + suc (length u) → size - suc (length u) ≡ o
offset size o u e = omega arith

pub opens_quote : (o : ℕ) (st : State) (its : List Written) (s : ℕ) (a : List ℕ) (ps : List Position) (n c : ℕ)
    (st2 : State) (its2 : List Written) (s2 : ℕ) (a2 : List ℕ) (ps2 : List Position) (n2 : ℕ) → its2 ≡ its → s2 ≡ o
    → st ≡ Between → c ≡ 39 → st2 ≡ InQuoted → a2 ≡ [] → ShapeMoves o (mk st its s a ps n) c (mk st2 its2 s2 a2 ps2 n2)
opens_quote o st its s a ps n c st2 its2 s2 a2 ps2 n2 i j e0 e1 e2 e3 = rw (i, j, e0, e1, e2, e3) (record {
  goes_on = λ size u v q h. quote_items size o its u v (offset size o u q) h;
  came_so = λ size u v q h. items_quote size o its u v (offset size o u q) h;
})

pub opens_escape : (o : ℕ) (st : State) (its : List Written) (s : ℕ) (a : List ℕ) (ps : List Position) (n c : ℕ)
    (st2 : State) (its2 : List Written) (s2 : ℕ) (a2 : List ℕ) (ps2 : List Position) (n2 : ℕ) → its2 ≡ its → s2 ≡ o → st
    ≡ Between → c ≡ 92 → st2 ≡ PlainEscape → a2 ≡ [] → ShapeMoves o (mk st its s a ps n) c (mk st2 its2 s2 a2 ps2 n2)
opens_escape o st its s a ps n c st2 its2 s2 a2 ps2 n2 i j e0 e1 e2 e3 = rw (i, j, e0, e1, e2, e3) (record {
  goes_on = λ size u v q h. escape_items size o its u v (offset size o u q) h;
  came_so = λ size u v q h. items_escape size o its u v (offset size o u q) h;
})

pub skips_white : (o : ℕ) (st : State) (its : List Written) (s : ℕ) (a : List ℕ) (ps : List Position) (n c : ℕ)
    → st ≡ Between → IsWhite c → ShapeMoves o (mk st its s a ps n) c (mk st its s a ps n)
skips_white o st its s a ps n c e0 e1 = rw (e0) (record {
  goes_on = λ size u v q h. space c its u v e1 h;
  came_so = λ size u v q h. white_on size s its c u v e1 h;
})

pub opens_plain : (o : ℕ) (st : State) (its : List Written) (s : ℕ) (a : List ℕ) (ps : List Position) (n c : ℕ)
    (st2 : State) (its2 : List Written) (s2 : ℕ) (a2 : List ℕ) (ps2 : List Position) (n2 : ℕ) (a1 : List ℕ)
    → its2 ≡ its → s2 ≡ o → st ≡ Between → IsPlain EndsItem c → c ≢ 39 → a1 ≡ [] → st2 ≡ InPlain → a2 ≡ a1 ++ c ∷ []
    → ShapeMoves o (mk st its s a ps n) c (mk st2 its2 s2 a2 ps2 n2)
opens_plain o st its s a ps n c st2 its2 s2 a2 ps2 n2 a1 i j e0 e1 e2 e3 e4 e5 = rw (i, j, e0, e4, e5, e3) (record {
  goes_on = λ size u v q h. plain_items size o its c u v (offset size o u q) e1 e2 h;
  came_so = λ size u v q h. items_plain size o its c u v (offset size o u q) e1 e2 h;
})

pub quote_within : (o : ℕ) (st : State) (its : List Written) (s : ℕ) (a : List ℕ) (ps : List Position) (n c : ℕ)
    → st ≡ InQuoted → c ≡ 39 → ShapeMoves o (mk st its s a ps n) c (mk Quote its s a ps n)
quote_within o st its s a ps n c e0 e1 = rw (e0, e1) (record {
  goes_on = λ size u v q h. quoted_from (List Written) (LexemeTail size s its) a u v h;
  came_so = λ size u v q h. quoted_to (List Written) (LexemeTail size s its) a u v h;
})

pub escape_within : (o : ℕ) (st : State) (its : List Written) (s : ℕ) (a : List ℕ) (ps : List Position) (n c : ℕ)
    → st ≡ InQuoted → c ≡ 92 → ShapeMoves o (mk st its s a ps n) c (mk QuotedEscape its s a ps n)
escape_within o st its s a ps n c e0 e1 = rw (e0, e1) (record {
  goes_on = λ size u v q h. quoted_92_from (List Written) (LexemeTail size s its) a u v h;
  came_so = λ size u v q h. quoted_92_to (List Written) (LexemeTail size s its) a u v h;
})

pub byte_within : (o : ℕ) (st : State) (its : List Written) (s : ℕ) (a : List ℕ) (ps : List Position)
    (n c : ℕ) (st2 : State) (its2 : List Written) (s2 : ℕ) (a2 : List ℕ) (ps2 : List Position) (n2 : ℕ)
    → its2 ≡ its → s2 ≡ s → st ≡ InQuoted → c ≢ 39 → c ≢ 92 → st2 ≡ InQuoted → a2 ≡ a ++ c ∷ []
    → ShapeMoves o (mk st its s a ps n) c (mk st2 its2 s2 a2 ps2 n2)
byte_within o st its s a ps n c st2 its2 s2 a2 ps2 n2 i j e0 e1 e2 e3 e4 = rw (i, j, e0, e3, e4) (record {
  goes_on = λ size u v q h. quoted_byte_from (List Written) (LexemeTail size s its) a c u v e1 e2 h;
  came_so = λ size u v q h. quoted_byte_to (List Written) (LexemeTail size s its) a c u v e1 e2 h;
})

pub escaped_within : (o : ℕ) (st : State) (its : List Written) (s : ℕ) (a : List ℕ) (ps : List Position) (n c : ℕ)
    (st2 : State) (its2 : List Written) (s2 : ℕ) (a2 : List ℕ) (ps2 : List Position) (n2 : ℕ) → its2 ≡ its → s2 ≡ s → st
    ≡ QuotedEscape → st2 ≡ InQuoted → a2 ≡ a ++ c ∷ [] → ShapeMoves o (mk st its s a ps n) c (mk st2 its2 s2 a2 ps2 n2)
escaped_within o st its s a ps n c st2 its2 s2 a2 ps2 n2 i j e0 e1 e2 =
    rw (i, j, e0, e1, e2) (record { goes_on = λ size u v q h. h; came_so = λ size u v q h. h })

pub escaped_plain : (o : ℕ) (st : State) (its : List Written) (s : ℕ) (a : List ℕ) (ps : List Position) (n c : ℕ)
    (st2 : State) (its2 : List Written) (s2 : ℕ) (a2 : List ℕ) (ps2 : List Position) (n2 : ℕ) → its2 ≡ its → s2 ≡ s → st
    ≡ PlainEscape → st2 ≡ InPlain → a2 ≡ a ++ c ∷ [] → ShapeMoves o (mk st its s a ps n) c (mk st2 its2 s2 a2 ps2 n2)
escaped_plain o st its s a ps n c st2 its2 s2 a2 ps2 n2 i j e0 e1 e2 =
    rw (i, j, e0, e1, e2) (record { goes_on = λ size u v q h. h; came_so = λ size u v q h. h })

pub doubled_within : (o : ℕ) (st : State) (its : List Written) (s : ℕ) (a : List ℕ) (ps : List Position)
    (n c : ℕ) (st2 : State) (its2 : List Written) (s2 : ℕ) (a2 : List ℕ) (ps2 : List Position) (n2 : ℕ)
    → its2 ≡ its → s2 ≡ s → st ≡ Quote → c ≡ 39 → st2 ≡ InQuoted → a2 ≡ a ++ c ∷ []
    → ShapeMoves o (mk st its s a ps n) c (mk st2 its2 s2 a2 ps2 n2)
doubled_within o st its s a ps n c st2 its2 s2 a2 ps2 n2 i j e0 e1 e2 e3 = rw (i, j, e0, e2, e3, e1) (record {
  goes_on = λ size u v q h. inl (refl, h);
  came_so = λ size u v q h. doubled_to (List Written) (LexemeTail size s its) a u v h;
})

pub quoted_colon : (o : ℕ) (st : State) (its : List Written) (s : ℕ) (a : List ℕ) (ps : List Position)
    (n c : ℕ) (st2 : State) (its2 : List Written) (s2 : ℕ) (a2 : List ℕ) (ps2 : List Position) (n2 : ℕ)
    → st2 ≡ Digits → its2 ≡ its → s2 ≡ s → a2 ≡ a → st ≡ Quote → a ≢ [] → c ≡ 58 → ps2 ≡ [] → n2 ≡ 0
    → ShapeMoves o (mk st its s a ps n) c (mk st2 its2 s2 a2 ps2 n2)
quoted_colon o st its s a ps n c st2 its2 s2 a2 ps2 n2 t2 i k j e0 e1 e2 e3 e4 =
    rw (t2, i, k, j, e0, e2, e3, e4) (record {
      goes_on = λ size u v q h. inr (no_39_58, e1, colon_word size s its a u v h);
      came_so = λ size u v q h. word_colon size s its a u v
          (quote_other (List Written) (LexemeTail size s its) a 58 u v no_39_58 h).1;
    })

pub plain_colon : (o : ℕ) (st : State) (its : List Written) (s : ℕ) (a : List ℕ) (ps : List Position)
    (n c : ℕ) (st2 : State) (its2 : List Written) (s2 : ℕ) (a2 : List ℕ) (ps2 : List Position) (n2 : ℕ)
    → st2 ≡ Digits → its2 ≡ its → s2 ≡ s → a2 ≡ a → st ≡ InPlain → c ≡ 58 → ps2 ≡ [] → n2 ≡ 0
    → ShapeMoves o (mk st its s a ps n) c (mk st2 its2 s2 a2 ps2 n2)
plain_colon o st its s a ps n c st2 its2 s2 a2 ps2 n2 t2 i k j e0 e1 e2 e3 = rw (t2, i, k, j, e0, e1, e2, e3) (record {
  goes_on = λ size u v q h. plain_58_from size s its a u v h;
  came_so = λ size u v q h. plain_58_to size s its a u v h;
})

pub plain_escapes : (o : ℕ) (st : State) (its : List Written) (s : ℕ) (a : List ℕ) (ps : List Position) (n c : ℕ)
    → st ≡ InPlain → c ≡ 92 → ShapeMoves o (mk st its s a ps n) c (mk PlainEscape its s a ps n)
plain_escapes o st its s a ps n c e0 e1 = rw (e0, e1) (record {
  goes_on = λ size u v q h. plain_92_from (List Written) EndsItem (LexemeTail size s its) a u v h;
  came_so = λ size u v q h. plain_92_to (List Written) EndsItem (LexemeTail size s its) a u v ends_92 h;
})

pub plain_byte_on : (o : ℕ) (st : State) (its : List Written) (s : ℕ) (a : List ℕ) (ps : List Position)
    (n c : ℕ) (st2 : State) (its2 : List Written) (s2 : ℕ) (a2 : List ℕ) (ps2 : List Position) (n2 : ℕ)
    → its2 ≡ its → s2 ≡ s → st ≡ InPlain → IsPlain EndsItem c → st2 ≡ InPlain → a2 ≡ a ++ c ∷ []
    → ShapeMoves o (mk st its s a ps n) c (mk st2 its2 s2 a2 ps2 n2)
plain_byte_on o st its s a ps n c st2 its2 s2 a2 ps2 n2 i j e0 e1 e2 e3 = rw (i, j, e0, e2, e3) (record {
  goes_on = λ size u v q h. plain_byte_from (List Written) EndsItem (LexemeTail size s its) a c u v e1 h;
  came_so = λ size u v q h. plain_byte_to (List Written) EndsItem (LexemeTail size s its) a c u v e1 h;
})

pub plain_over : (o : ℕ) (st : State) (its : List Written) (s : ℕ) (a : List ℕ) (ps : List Position) (n c : ℕ)
    (st2 : State) (its2 : List Written) (s2 : ℕ) (a2 : List ℕ) (ps2 : List Position) (n2 : ℕ) → st ≡ InPlain → IsWhite c
    → st2 ≡ Between → its2 ≡ its ++ written s a [] ∷ [] → ShapeMoves o (mk st its s a ps n) c (mk st2 its2 s2 a2 ps2 n2)
plain_over o st its s a ps n c st2 its2 s2 a2 ps2 n2 e0 e1 e2 e3 = rw (e0, e2, e3) (record {
  goes_on = λ size u v q h. plain_white_from size s its a c u v e1 h;
  came_so = λ size u v q h. plain_white_to size s its a c u v e1 h;
})

pub digit_more : (o : ℕ) (st : State) (its : List Written) (s : ℕ) (a : List ℕ) (ps : List Position) (n c : ℕ)
    (st2 : State) (n2 : ℕ) → st2 ≡ Digits → st ≡ Digits → IsDigit c → n2 ≡ with_digit LAST_POSITION n c
    → ShapeMoves o (mk st its s a ps n) c (mk st2 its s a ps n2)
digit_more o st its s a ps n c st2 n2 t2 e0 e1 e2 = rw (t2, e0, e2) (record {
  goes_on = λ size u v q h. digit_from size s its a ps n c u v e1 h;
  came_so = λ size u v q h. digit_to size s its a ps n c u v e1 h;
})

pub digits_comma : (o : ℕ) (st : State) (its : List Written) (s : ℕ) (a : List ℕ) (ps : List Position)
    (n c : ℕ) (st2 : State) (ps2 : List Position) (n2 : ℕ) → st2 ≡ Digits → st ≡ Digits → 0 < n → c ≡ 44
    → ps2 ≡ ps ++ position n D ∷ [] → n2 ≡ 0 → ShapeMoves o (mk st its s a ps n) c (mk st2 its s a ps2 n2)
digits_comma o st its s a ps n c st2 ps2 n2 t2 e0 e1 e2 e3 e4 = rw (t2, e0, e2, e3, e4) (record {
  goes_on = λ size u v q h. bare_from size s its a ps n (44 ∷ u) v e1
      (behind_comma_from size s its a (ps ++ position n D ∷ []) u v h);
  came_so = λ size u v q h. behind_comma_to size s its a (ps ++ position n D ∷ []) u v
      (bare_to size s its a ps n 44 u v digit_44 letter_44 h).1;
})

pub digits_over : (o : ℕ) (st : State) (its : List Written) (s : ℕ) (a : List ℕ) (ps : List Position)
    (n c : ℕ) (st2 : State) (its2 : List Written) (s2 : ℕ) (a2 : List ℕ) (ps2 : List Position) (n2 : ℕ)
    → st ≡ Digits → 0 < n → IsWhite c → st2 ≡ Between → its2 ≡ its ++ written s a (ps ++ position n D ∷ []) ∷ []
    → ShapeMoves o (mk st its s a ps n) c (mk st2 its2 s2 a2 ps2 n2)
digits_over o st its s a ps n c st2 its2 s2 a2 ps2 n2 e0 e1 e2 e3 e4 = rw (e0, e3, e4) (record {
  goes_on = λ size u v q h. bare_from size s its a ps n (c ∷ u) v e1
      (behind_white_from size s its a (ps ++ position n D ∷ []) c u v e2 h);
  came_so = λ size u v q h. behind_white_to size s its a (ps ++ position n D ∷ []) c u v e2
      (bare_to size s its a ps n c u v (white_digit c e2) (λ w l. letter_white c w l e2) h).1;
})

pub digits_letter : (o : ℕ) (st : State) (its : List Written) (s : ℕ) (a : List ℕ) (ps : List Position) (n c : ℕ)
    (w : Weight) (ps2 : List Position) (n2 : ℕ) → st ≡ Digits → 0 < n → IsLetter c w → ps2 ≡ ps ++ position n w ∷ []
    → ShapeMoves o (mk st its s a ps n) c (mk Weighted its s a ps2 n2)
digits_letter o st its s a ps n c w ps2 n2 e0 e1 e2 e3 = rw (e0, e3) (record {
  goes_on = λ size u v q h. lettered_from size s its a ps n c w u v e1 e2 h;
  came_so = λ size u v q h. lettered_to size s its a ps n c w u v e2 h;
})

pub weighted_comma : (o : ℕ) (st : State) (its : List Written) (s : ℕ) (a : List ℕ) (ps : List Position) (n c : ℕ)
    (n2 : ℕ) → st ≡ Weighted → c ≡ 44 → n2 ≡ 0 → ShapeMoves o (mk st its s a ps n) c (mk Digits its s a ps n2)
weighted_comma o st its s a ps n c n2 e0 e1 e2 = rw (e0, e1, e2) (record {
  goes_on = λ size u v q h. behind_comma_from size s its a ps u v h;
  came_so = λ size u v q h. behind_comma_to size s its a ps u v h;
})

pub weighted_over : (o : ℕ) (st : State) (its : List Written) (s : ℕ) (a : List ℕ) (ps : List Position) (n c : ℕ) (st2
    : State) (its2 : List Written) (s2 : ℕ) (a2 : List ℕ) (ps2 : List Position) (n2 : ℕ) → st ≡ Weighted → IsWhite c
    → st2 ≡ Between → its2 ≡ its ++ written s a ps ∷ [] → ShapeMoves o (mk st its s a ps n) c (mk st2 its2 s2 a2 ps2 n2)
weighted_over o st its s a ps n c st2 its2 s2 a2 ps2 n2 e0 e1 e2 e3 = rw (e0, e2, e3) (record {
  goes_on = λ size u v q h. behind_white_from size s its a ps c u v e1 h;
  came_so = λ size u v q h. behind_white_to size s its a ps c u v e1 h;
})

pub colon_stuck : (st : State) (its : List Written) (s : ℕ) (a : List ℕ) (ps : List Position) (n c : ℕ) → st ≡ Between
    → c ≡ 58 → ShapeStuck (mk st its s a ps n) c
colon_stuck st its s a ps n c e f = rw (e, f) (stuck_at _ _ _ _ _ (λ size u v h. colon_never size s its u v h))

pub empty_stuck : (st : State) (its : List Written) (s : ℕ) (a : List ℕ) (ps : List Position) (n c : ℕ) → st ≡ Quote
    → a ≡ [] → c ≢ 39 → ShapeStuck (mk st its s a ps n) c
empty_stuck st its s a ps n c e f g =
    rw e (stuck_at _ _ _ _ _ (λ size u v h. (quote_other (List Written) (LexemeTail size s its) a c u v g h).0 f))

pub zero_stuck : (st : State) (its : List Written) (s : ℕ) (a : List ℕ) (ps : List Position) (n c : ℕ) → st ≡ Digits
    → n ≡ 0 → ¬ IsDigit c → ShapeStuck (mk st its s a ps n) c
zero_stuck st its s a ps n c e f g = rw e (stuck_at _ _ _ _ _ (λ size u v h. zero_never size s its a ps n c u v f g h))

pub digits_stuck : (st : State) (its : List Written) (s : ℕ) (a : List ℕ) (ps : List Position) (n c : ℕ) → st ≡ Digits
    → ¬ IsDigit c → ((w : Weight) → ¬ IsLetter c w) → ¬ IsWhite c → c ≢ 44 → ShapeStuck (mk st its s a ps n) c
digits_stuck st its s a ps n c e f g h i = rw e (stuck_at _ _ _ _ _ (λ size u v r. behind_stuck size s its a
    (ps ++ position n D ∷ []) c u v h i (bare_to size s its a ps n c u v f g r).1))

pub weighted_stuck : (st : State) (its : List Written) (s : ℕ) (a : List ℕ) (ps : List Position) (n c : ℕ)
    → st ≡ Weighted → ¬ IsWhite c → c ≢ 44 → ShapeStuck (mk st its s a ps n) c
weighted_stuck st its s a ps n c e h i =
    rw e (stuck_at _ _ _ _ _ (λ size u v r. behind_stuck size s its a ps c u v h i r))

over_goes : (size s : ℕ) (its : List Written) (a : List ℕ) (c : ℕ) (u : List ℕ) (v : List Written) → a ≢ [] → c ≢ 39
    → Items size (its ++ written s a [] ∷ []) (c ∷ u) v → ItemQuote size s its a (c ∷ u) v
over_goes size s its a c u v f g i = inr (g, f, alone s its a (c ∷ u) v i)

over_came : (size s : ℕ) (its : List Written) (a : List ℕ) (c : ℕ) (u : List ℕ) (v : List Written) → c ≢ 39 → c ≢ 58
    → ItemQuote size s its a (c ∷ u) v → Items size (its ++ written s a [] ∷ []) (c ∷ u) v
over_came size s its a c u v g k h =
    word_other size s its a c u v k (quote_other (List Written) (LexemeTail size s its) a c u v g h).1

-- after a quoted lexeme the next item may come at once
quoted_over_at : (o : ℕ) (its : List Written) (s s2 : ℕ) (a a2 : List ℕ) (ps ps2 : List Position) (n n2 c : ℕ)
    (ok : Bool) (t : Shape) → a ≢ [] → c ≢ 39 → c ≢ 58
    → ShapeSteps o (mk Between (its ++ written s a [] ∷ []) s2 a2 ps2 n2) c ok t
    → ShapeSteps o (mk Quote its s a ps n) c ok t
quoted_over_at o its s s2 a a2 ps ps2 n n2 c true t f g k m = record {
  goes_on = λ size u v q h. over_goes size s its a c u v f g (m.goes_on size u v q h);
  came_so = λ size u v q h. m.came_so size u v q (over_came size s its a c u v g k h);
}
quoted_over_at o its s s2 a a2 ps ps2 n n2 c false t f g k m =
    stuck_at _ _ _ _ _ (λ size u v h. m.never c [] refl size u v (over_came size s its a c u v g k h))

pub quoted_over : (o : ℕ) (st st2 : State) (its its2 : List Written) (s s2 : ℕ) (a a2 : List ℕ) (ps ps2 : List Position)
    (n n2 c : ℕ) (ok : Bool) (t : Shape)
    → st ≡ Quote → a ≢ [] → c ≢ 39 → c ≢ 58 → st2 ≡ Between → its2 ≡ its ++ written s a [] ∷ []
    → ShapeSteps o (mk st2 its2 s2 a2 ps2 n2) c ok t → ShapeSteps o (mk st its s a ps n) c ok t
quoted_over o st st2 its its2 s s2 a a2 ps ps2 n n2 c ok t e f g k e2 f2 m =
    rw e (quoted_over_at o its s s2 a a2 ps ps2 n n2 c ok t f g k (rw (e2, f2) at m))

-- ── the end ──
pub between_whole : (st : State) (its : List Written) (s : ℕ) (a : List ℕ) (ps : List Position) (n : ℕ) → st ≡ Between
    → Whole Shape (List Written) VectorRest (mk st its s a ps n) its
between_whole st its s a ps n e =
    rw e (record { found = λ size. done its; only = λ size w h. done_only size s its w h })

pub quote_whole : (st : State) (its its2 : List Written) (s : ℕ) (a : List ℕ) (ps : List Position) (n : ℕ) → st ≡ Quote
    → a ≢ [] → its2 ≡ its ++ written s a [] ∷ [] → Whole Shape (List Written) VectorRest (mk st its s a ps n) its2
quote_whole st its its2 s a ps n e f g = rw (e, g) (record {
  found = λ size. (f, alone s its a [] (its ++ written s a [] ∷ []) (done (its ++ written s a [] ∷ [])));
  only = λ size w h. done_only size s (its ++ written s a [] ∷ []) w (word_end size s its a w h.1);
})

pub plain_whole : (st : State) (its its2 : List Written) (s : ℕ) (a : List ℕ) (ps : List Position) (n : ℕ)
    → st ≡ InPlain → its2 ≡ its ++ written s a [] ∷ [] → Whole Shape (List Written) VectorRest (mk st its s a ps n) its2
plain_whole st its its2 s a ps n e g = rw (e, g) (record {
  found =
      λ size. (a, [], ended a [] tt, alone s its a [] (its ++ written s a [] ∷ []) (done (its ++ written s a [] ∷ [])));
  only = λ size w h. done_only size s (its ++ written s a [] ∷ []) w (plain_end_item size s its a w h);
})

pub digits_whole : (st : State) (its its2 : List Written) (s : ℕ) (a : List ℕ) (ps : List Position) (n : ℕ)
    → st ≡ Digits → 0 < n → its2 ≡ its ++ written s a (ps ++ position n D ∷ []) ∷ []
    → Whole Shape (List Written) VectorRest (mk st its s a ps n) its2
digits_whole st its its2 s a ps n e f g = rw (e, g) (record {
  found = λ size. bare_from size s its a ps n [] (its ++ written s a (ps ++ position n D ∷ []) ∷ []) f (
    ps ++ position n D ∷ [],
    [],
    last (ps ++ position n D ∷ []) [] tt,
    done (its ++ written s a (ps ++ position n D ∷ []) ∷ []),
  );
  only = λ size w h. done_only size s (its ++ written s a (ps ++ position n D ∷ []) ∷ []) w
      (behind_end_to size s its a (ps ++ position n D ∷ []) w (number_end_to size s its a ps n w h).1);
})

pub weighted_whole : (st : State) (its its2 : List Written) (s : ℕ) (a : List ℕ) (ps : List Position) (n : ℕ) → st
    ≡ Weighted → its2 ≡ its ++ written s a ps ∷ [] → Whole Shape (List Written) VectorRest (mk st its s a ps n) its2
weighted_whole st its its2 s a ps n e g = rw (e, g) (record {
  found = λ size. (ps, [], last ps [] tt, done (its ++ written s a ps ∷ []));
  only = λ size w h. done_only size s (its ++ written s a ps ∷ []) w (behind_end_to size s its a ps w h);
})

pub quoted_unfinished : (st : State) (its : List Written) (s : ℕ) (a : List ℕ) (ps : List Position) (n : ℕ)
    → st ≡ InQuoted → Unfinished Shape (List Written) VectorRest (mk st its s a ps n)
quoted_unfinished st its s a ps n e =
    rw e (record { never = λ size w h. quoted_nil (List Written) (LexemeTail size s its) a w h })

pub escape_unfinished : (st : State) (its : List Written) (s : ℕ) (a : List ℕ) (ps : List Position) (n : ℕ)
    → st ≡ QuotedEscape → Unfinished Shape (List Written) VectorRest (mk st its s a ps n)
escape_unfinished st its s a ps n e = rw e (record { never = λ size w h. h })

pub plain_escape_unfinished : (st : State) (its : List Written) (s : ℕ) (a : List ℕ) (ps : List Position) (n : ℕ)
    → st ≡ PlainEscape → Unfinished Shape (List Written) VectorRest (mk st its s a ps n)
plain_escape_unfinished st its s a ps n e = rw e (record { never = λ size w h. h })

pub quote_unfinished : (st : State) (its : List Written) (s : ℕ) (a : List ℕ) (ps : List Position) (n : ℕ) → st ≡ Quote
    → a ≡ [] → Unfinished Shape (List Written) VectorRest (mk st its s a ps n)
quote_unfinished st its s a ps n e f = rw e (record { never = λ size w h. h.0 f })

pub digits_unfinished : (st : State) (its : List Written) (s : ℕ) (a : List ℕ) (ps : List Position) (n : ℕ)
    → st ≡ Digits → n ≡ 0 → Unfinished Shape (List Written) VectorRest (mk st its s a ps n)
digits_unfinished st its s a ps n e f =
    rw e (record { never = λ size w h. let p = (number_end_to size s its a ps n w h).0 in omega arith })

-- each state has a completion
abbrev completion : State → List ℕ
completion Between = []
completion InQuoted = 97 ∷ 39 ∷ []
completion QuotedEscape = 97 ∷ 97 ∷ 39 ∷ []
completion Quote = 39 ∷ 97 ∷ 39 ∷ []
completion InPlain = []
completion PlainEscape = 97 ∷ []
completion Digits = 49 ∷ []
completion Weighted = []

abbrev completed : State → List Written → ℕ → List ℕ → List Position → ℕ → List Written
completed Between its s a ps n = its
completed InQuoted its s a ps n = its ++ written s (a ++ 97 ∷ []) [] ∷ []
completed QuotedEscape its s a ps n = its ++ written s ((a ++ 97 ∷ []) ++ 97 ∷ []) [] ∷ []
completed Quote its s a ps n = its ++ written s ((a ++ 39 ∷ []) ++ 97 ∷ []) [] ∷ []
completed InPlain its s a ps n = its ++ written s a [] ∷ []
completed PlainEscape its s a ps n = its ++ written s (a ++ 97 ∷ []) [] ∷ []
completed Digits its s a ps n = its ++ written s a (ps ++ position (with_digit LAST_POSITION n 49) D ∷ []) ∷ []
completed Weighted its s a ps n = its ++ written s a ps ∷ []

completes_at : (size : ℕ) (st : State) (its : List Written) (s : ℕ) (a : List ℕ) (ps : List Position) (n : ℕ)
    → StateRest size st its s a ps n (completion st) (completed st its s a ps n)
completes_at size Between its s a ps n = done its
completes_at size InQuoted its s a ps n = item_done size s its a
completes_at size QuotedEscape its s a ps n = item_done size s its (a ++ 97 ∷ [])
completes_at size Quote its s a ps n = inl (refl, item_done size s its (a ++ 39 ∷ []))
completes_at size InPlain its s a ps n = plain_done size s its a
completes_at size PlainEscape its s a ps n = plain_done size s its (a ++ 97 ∷ [])
completes_at size Digits its s a ps n =
    digit_from size s its a ps n 49 [] (its ++ written s a (ps ++ position (with_digit LAST_POSITION n 49) D ∷ []) ∷ [])
    digit_49
    (bare_from size s its a ps (with_digit LAST_POSITION n 49) []
    (its ++ written s a (ps ++ position (with_digit LAST_POSITION n 49) D ∷ []) ∷ []) (pos_49 n)
    (behind_done size s its a (ps ++ position (with_digit LAST_POSITION n 49) D ∷ [])))
completes_at size Weighted its s a ps n = behind_done size s its a ps

pub completes : (i : ℕ) (s : Shape) → (u : List ℕ) × (v : List Written) × RestAt (List Written) (VectorRest s) i u v
completes i s = (
  completion s.state,
  completed s.state s.items s.start s.word s.positions s.value,
  completes_at (i + length (completion s.state)) s.state s.items s.start s.word s.positions s.value,
)

-- at the start
pub start_to : (its : List Written) (u : List ℕ) (v : List Written) → Items (0 + length u) its u v
    → Items (length u) its u v
start_to its u v w = let e : 0 + length u ≡ length u = omega arith in subst (λ n. Items n its u v) e w

pub start_from : (its : List Written) (u : List ℕ) (v : List Written) → Items (length u) its u v
    → Items (0 + length u) its u v
start_from its u v w = let e : length u ≡ 0 + length u = omega arith in subst (λ n. Items n its u v) e w

-- a position is added
pub pushed : (ps : List Position) (p : Position) (qs : List Position) (n : ℕ) (w : Weight) → qs ≡ ps ++ p ∷ []
    → p.at ≡ n → p.weight ≡ w → qs ≡ ps ++ position n w ∷ []
pushed ps p qs n w e a b = e ∙ (λ i. ps ++ record { at = a i; weight = b i } ∷ [])
