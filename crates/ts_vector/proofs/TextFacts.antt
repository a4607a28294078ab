-- What the items of a text are: lexemes of at least one byte that are text, positions within their limits, and no more
-- content than the text has bytes.
use Rattle.std.proofs.Common.{◌≡◌, ◌≢◌, ℕ, suc, ◌+◌, ◌*◌, ◌-◌, ◌<◌, ◌≤◌, List, [], ◌∷◌, ◌++◌, length, refl, ◌∙◌, ap}
use Rattle.std.proofs.Common.{arith, length-append}
use Rattle.std.specs.Prelude.{All}
use Rattle.std.specs.Str.{IsUtf8}
use Rattle.std.proofs.lemmas.Str.{IsUtf8-nil}
use Rattle.std.proofs.lemmas.List.{map-append}
use Rattle.std.proofs.lemmas.List.Sums.{sum_by_push}
use Rattle.ts_vector.proofs.Merging.{entry_size}
use Rattle.std.proofs.lemmas.List.Elements.{All-nil, All-push, All-map}
use Rattle.ts_base.specs.declared.Weight.TheVariants.{D}
use Rattle.ts_base.specs.Vectors.{Position, IsPosition, content_size}
use Rattle.ts_vector.specs.Text.{Written, written, position, PositionNumber, BehindPosition, Items, LexemeTail}
use Rattle.ts_vector.specs.Text.{IsVectorText, AllShort, entry_of, entries, digit, letter, bare, last, comma, done}
use Rattle.ts_vector.specs.Text.{space, quoted, plain, escape, alone, numbered, EndsItem}
use Rattle.ts_base.specs.Digits.{with_digit}
use Rattle.ts_vector.specs.Inner.Steps.{IsShortText, IsWritten}
use Rattle.ts_base.proofs.ByteKinds.{white_ascii, letter_ascii}
use Rattle.ts_base.proofs.TextLexemes.{between, put, put_escaped, ascii_past, quoted_utf8, plain_utf8}
use Rattle.ts_base.proofs.QuotedTexts.{quoted_length}
use Rattle.ts_base.proofs.PlainTexts.{plain_length, plain_some}
use Rattle.ts_base.specs.declared.TheConstants.{LAST_POSITION}

ends_ascii : (c : ℕ) → EndsItem c → c < 128
ends_ascii c e = grind arith

-- ── positions ──
mutual
  number_good : (n : ℕ) (a : List Position) (u : List ℕ) (ps : List Position) (r : List ℕ) → PositionNumber n a u ps r
      → n ≤ 16383 → All IsPosition a → IsUtf8 u → All IsPosition ps × IsUtf8 r
  number_good n a u ps r (digit c _ _ t _ _ d k) le h i =
      number_good (with_digit LAST_POSITION n c) a t ps r k (omega arith) h (ascii_past c t (omega arith) i)
  number_good n a u ps r (letter c _ w _ t _ _ p l b) le h i =
      behind_good (a ++ position n w ∷ []) t ps r b (All-push IsPosition a (position n w) h (p, le))
      (ascii_past c t (letter_ascii c w l) i)
  number_good n a u ps r (bare _ _ _ _ _ p b) le h i =
      behind_good (a ++ position n D ∷ []) u ps r b (All-push IsPosition a (position n D) h (p, le)) i

  behind_good : (a : List Position) (u : List ℕ) (ps : List Position) (r : List ℕ) → BehindPosition a u ps r
      → All IsPosition a → IsUtf8 u → All IsPosition ps × IsUtf8 r
  behind_good a u ps r (last _ _ e) h i = (h, i)
  behind_good a u ps r (comma _ t _ _ k) h i =
      number_good 0 a t ps r k (omega arith) h (ascii_past 44 t (omega arith) i)

-- ── items ──
-- a lexeme of at least one byte that is text, and its positions
pub record IsGood (item : Written) : Type 0 where
  pub some : 1 ≤ length item.lexeme
  pub utf8 : IsUtf8 item.lexeme
  pub positions : All IsPosition item.positions

some_of : (l : List ℕ) → l ≢ [] → 1 ≤ length l
some_of [] n = absurd (n refl)
some_of (x ∷ l) n = omega arith

mutual
  items_good : (size : ℕ) (a : List Written) (u : List ℕ) (v : List Written) → Items size a u v → IsUtf8 u
      → All IsGood a → All IsGood v
  items_good size a u v (done _) i h = h
  items_good size a u v (space c _ t _ w k) i h = items_good size a t v k (ascii_past c t (white_ascii c w) i) h
  items_good size a u v (quoted _ t l r _ q ne w) i h =
      let k = quoted_utf8 [] t l r q (between [] t IsUtf8-nil (ascii_past 39 t (omega arith) i)) in
      word_good size (size - suc (length t)) a l r v w (some_of l ne) k.0 k.1 h
  items_good size a u v (plain c _ t l r _ p n q w) i h =
      let k = plain_utf8 EndsItem ends_ascii (c ∷ []) t l r q (put [] c t (between [] (c ∷ t) IsUtf8-nil i)) in
      word_good size (size - suc (length t)) a l r v w (plain_some EndsItem (c ∷ []) t l r q (omega arith)) k.0 k.1 h
  items_good size a u v (escape c _ t l r _ q w) i h =
      let k =
      plain_utf8 EndsItem ends_ascii (c ∷ []) t l r q (put_escaped [] c t (between [] (92 ∷ c ∷ t) IsUtf8-nil i)) in
      word_good size (size - suc (suc (length t))) a l r v w
      (plain_some EndsItem (c ∷ []) t l r q (omega arith)) k.0 k.1 h

  word_good : (size s : ℕ) (a : List Written) (l r : List ℕ) (v : List Written) → LexemeTail size s a l r v
      → 1 ≤ length l → IsUtf8 l → IsUtf8 r → All IsGood a → All IsGood v
  word_good size s a l r v (alone _ _ _ _ _ k) some t i h =
      items_good size (a ++ written s l [] ∷ []) r v k i
      (All-push IsGood a (written s l []) h (record { some = some; utf8 = t; positions = All-nil IsPosition }))
  word_good size s a l r v (numbered _ _ _ u ps t _ n k) some x i h =
      let p = number_good 0 [] u ps t n (omega arith) (All-nil IsPosition) (ascii_past 58 u (omega arith) i) in
      items_good size (a ++ written s l ps ∷ []) t v k p.1
      (All-push IsGood a (written s l ps) h (record { some = some; utf8 = x; positions = p.0 }))

pub text_good : (text : List ℕ) (items : List Written) → IsVectorText text items → IsUtf8 text → All IsGood items
text_good text items h i = items_good (length text) [] text items h i (All-nil IsGood)

-- ── how much content a text has ──
mutual
  number_length : (n : ℕ) (a : List Position) (u : List ℕ) (ps : List Position) (r : List ℕ) → PositionNumber n a u ps r
      → 2 * length ps + length r ≤ 2 * length a + length u + 2
  number_length n a u ps r (digit c _ _ t _ _ d k) =
      omega (arith, number_length (with_digit LAST_POSITION n c) a t ps r k)
  number_length n a u ps r (letter c _ w _ t _ _ p l b) =
      omega (arith, behind_length (a ++ position n w ∷ []) t ps r b, length-append a (position n w ∷ []))
  number_length n a u ps r (bare _ _ _ _ _ p b) =
      omega (arith, behind_length (a ++ position n D ∷ []) u ps r b, length-append a (position n D ∷ []))

  behind_length : (a : List Position) (u : List ℕ) (ps : List Position) (r : List ℕ) → BehindPosition a u ps r
      → 2 * length ps + length r ≤ 2 * length a + length u
  behind_length a u ps r (last _ _ e) = omega arith
  behind_length a u ps r (comma _ t _ _ k) = omega (arith, number_zero 0 a t ps r refl k)

  -- a number has a digit
  number_zero : (n : ℕ) (a : List Position) (u : List ℕ) (ps : List Position) (r : List ℕ) → n ≡ 0
      → PositionNumber n a u ps r → 2 * length ps + length r ≤ 2 * length a + length u + 1
  number_zero n a u ps r z (digit c _ _ t _ _ d k) =
      omega (arith, number_length (with_digit LAST_POSITION n c) a t ps r k)
  number_zero n a u ps r z (letter c _ w _ t _ _ p l b) = absurd (omega arith)
  number_zero n a u ps r z (bare _ _ _ _ _ p b) = absurd (omega arith)

abbrev content : List Written → ℕ
content items = content_size (entries items)

content_push : (a : List Written) (s : ℕ) (l : List ℕ) (ps : List Position)
    → content (a ++ written s l ps ∷ []) ≡ content a + (length l + 2 * length ps)
content_push a s l ps = ap content_size (map-append entry_of a (written s l ps ∷ []))
    ∙ sum_by_push entry_size (entries a) (entry_of (written s l ps))

mutual
  items_length : (size : ℕ) (a : List Written) (u : List ℕ) (v : List Written) → Items size a u v
      → content v ≤ content a + length u
  items_length size a u v (done _) = omega arith
  items_length size a u v (space c _ t _ w k) = omega (arith, items_length size a t v k)
  items_length size a u v (quoted _ t l r _ q ne w) =
      omega (arith, word_length size (size - suc (length t)) a l r v w, quoted_length [] t l r q)
  items_length size a u v (plain c _ t l r _ p n q w) =
      omega (arith, word_length size (size - suc (length t)) a l r v w, plain_length EndsItem (c ∷ []) t l r q)
  items_length size a u v (escape c _ t l r _ q w) =
      omega (arith, word_length size (size - suc (suc (length t))) a l r v w, plain_length EndsItem (c ∷ []) t l r q)

  word_length : (size s : ℕ) (a : List Written) (l r : List ℕ) (v : List Written) → LexemeTail size s a l r v
      → content v ≤ content a + length l + length r
  word_length size s a l r v (alone _ _ _ _ _ k) =
      omega (arith, items_length size (a ++ written s l [] ∷ []) r v k, content_push a s l [])
  word_length size s a l r v (numbered _ _ _ u ps t _ n k) =
      omega (
        arith,
        items_length size (a ++ written s l ps ∷ []) t v k,
        content_push a s l ps,
        number_zero 0 [] u ps t refl n,
      )

pub text_content : (text : List ℕ) (items : List Written) → IsVectorText text items
    → content_size (entries items) ≤ length text
text_content text items h = omega (arith, items_length (length text) [] text items h)

-- ── where no lexeme is too long ──
pub short_of : (items : List Written) → All IsGood items → AllShort items → All IsShortText items
short_of items g f k d lt = let h = g k d lt in record { some = h.some; most = f k d lt; utf8 = h.utf8 }

pub written_of : (items : List Written) → All IsGood items → AllShort items → All IsWritten (entries items)
written_of items g f = All-map IsWritten entry_of items (λ k d lt. let h = g k d lt in record {
  lexeme = record { some = h.some; most = f k d lt; utf8 = h.utf8 };
  positions = h.positions;
})
