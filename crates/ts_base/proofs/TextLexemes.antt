-- Lexemes that are read byte by byte are text: whole characters are read.
use Rattle.std.proofs.Common.{◌≡◌, ℕ, suc, ◌<◌, ◌≤◌, inl, inr, List, [], ◌∷◌, ◌++◌, length, get_or, refl, sym, ◌∙◌, ap}
use Rattle.std.proofs.Common.{subst, arith}
use Rattle.std.specs.Prelude.{All, encode_utf8, encode_utf8_all}
use Rattle.std.specs.Str.{IsUtf8}
use Rattle.std.specs.Char.{IsScalar}
use Rattle.std.specs.Cmp.{first_so, second_so}
use Rattle.std.proofs.lemmas.Str.{IsUtf8-append, IsUtf8-encode, IsUtf8-past_char, IsUtf8-nil, encode_ascii, inside_one}
use Rattle.std.proofs.lemmas.Str.{length-encode, len_utf8_bounds}
use Rattle.std.proofs.Math.Utf8.{scalar, scalars}
use Rattle.std.proofs.Math.Seq.{append_snoc}
use Rattle.std.proofs.lemmas.List.{append-nil, get_or_default}
use Rattle.std.proofs.lemmas.List.Elements.{All-nil, All-head, All-tail}
use Rattle.ts_base.specs.Quoted.{Quoted, closed, doubled, quoted_escape, quoted_byte}
use Rattle.ts_base.specs.Plain.{Plain, ended, plain_escape, plain_byte}
use Rattle.ts_base.proofs.ByteKinds.{below_or}

-- ── bytes of characters ──
-- u begins with the rest q of a character, which completes a
pub record Inside (a u : List ℕ) : Type 0 where
  pub rest : List ℕ
  pub after : List ℕ
  pub split : u ≡ rest ++ after
  pub whole : IsUtf8 (a ++ rest)
  pub next : IsUtf8 after
  pub high : All (λ b. 128 ≤ b) rest

-- between characters
pub between : (a u : List ℕ) → IsUtf8 a → IsUtf8 u → Inside a u
between a u h k = record {
  rest = [];
  after = u;
  split = refl;
  whole = subst IsUtf8 (sym (append-nil a)) h;
  next = k;
  high = All-nil (λ b. 128 ≤ b);
}

pub ascii_past : (c : ℕ) (u : List ℕ) → c < 128 → IsUtf8 (c ∷ u) → IsUtf8 u
ascii_past c u lt h = IsUtf8-past_char (c ∷ u) u c h (ap (λ t. t ++ u) (sym (encode_ascii c lt)))

-- before an ASCII byte and at the end is the end of a character
clean_at : (a q r u : List ℕ) (c : ℕ) → c < 128 → c ∷ u ≡ q ++ r → IsUtf8 (a ++ q) → IsUtf8 r → All (λ b. 128 ≤ b) q
    → IsUtf8 a × IsUtf8 (c ∷ u)
clean_at a [] r u c lt e h k high = (subst IsUtf8 (append-nil a) h, subst IsUtf8 (sym e) k)
clean_at a (d ∷ q) r u c lt e h k high =
    let s : c ≡ d = cc in
    let n : 128 ≤ d = All-head (λ b. 128 ≤ b) d q high in
    absurd (omega arith)

pub clean_before : (a : List ℕ) (c : ℕ) (u : List ℕ) → c < 128 → Inside a (c ∷ u) → IsUtf8 a × IsUtf8 (c ∷ u)
clean_before a c u lt i = clean_at a i.rest i.after u c lt i.split i.whole i.next i.high

pub clean : (a : List ℕ) (c : ℕ) (u : List ℕ) → c < 128 → Inside a (c ∷ u) → IsUtf8 a × IsUtf8 u
clean a c u lt i = let k = clean_before a c u lt i in (k.0, ascii_past c u lt k.1)

clean_end_at : (a q r : List ℕ) → [] ≡ q ++ r → IsUtf8 (a ++ q) → IsUtf8 a
clean_end_at a [] r e h = subst IsUtf8 (append-nil a) h
clean_end_at a (d ∷ q) r e h = absurd (cc)

pub clean_end : (a : List ℕ) → Inside a [] → IsUtf8 a
clean_end a i = clean_end_at a i.rest i.after i.split i.whole

-- after the first byte of a character come none of ASCII
high_tail : (d c : ℕ) (q : List ℕ) → encode_utf8 d ≡ c ∷ q → All (λ b. 128 ≤ b) q
high_tail d c q e k x lt =
    let z : get_or q k x ≡ get_or q k 0 = get_or_default q k x 0 lt in
    rw z (elim (below_or (get_or q k 0) 128) [
      | inr ge ↦ ge
      | inl low ↦
          let same : d ≡ get_or (c ∷ q) (suc k) 0 =
          inside_one d [] (c ∷ q) (suc k) (sym (append-nil (encode_utf8 d) ∙ e))
          (let n = ap length e in omega arith) low in
          let small : d < 128 = omega arith in
          let n : length (encode_utf8 d) ≡ 1 = ap length (encode_ascii d small) in
          let m : length (encode_utf8 d) ≡ suc (length q) = ap length e in
          absurd (omega arith)
    ])

-- the first byte of a text begins a character
first_byte : (a : List ℕ) (c : ℕ) (u xs ys : List ℕ) (d : ℕ) → IsUtf8 a → IsScalar d → IsUtf8 ys → encode_utf8 d ≡ xs
    → xs ++ ys ≡ c ∷ u → 0 < length xs → Inside (a ++ c ∷ []) u
first_byte a c u [] ys d h s k e f some = absurd (omega arith)
first_byte a c u (x ∷ q) ys d h s k e f some =
    let is : x ≡ c = cc in
    let g : encode_utf8 d ≡ c ∷ q = e ∙ (λ i. is i ∷ q) in
    record {
      rest = q;
      after = ys;
      split = cc;
      whole = subst IsUtf8 (sym (append_snoc a c q))
          (subst (λ t. IsUtf8 (a ++ t)) g (IsUtf8-append a (encode_utf8 d) h (IsUtf8-encode d s)));
      next = k;
      high = high_tail d c q g;
    }

begins : (a : List ℕ) (c : ℕ) (u : List ℕ) → IsUtf8 a → IsUtf8 (c ∷ u) → Inside (a ++ c ∷ []) u
begins a c u h ([], (s, e)) = absurd (cc)
begins a c u h (d ∷ ds, (s, e)) =
    let one = first_so (scalar d) (scalars ds) s in
    first_byte a c u (encode_utf8 d) (encode_utf8_all ds) d h one
    (ds, (second_so (scalar d) (scalars ds) s, refl)) refl e
    (omega (arith, length-encode d, (len_utf8_bounds d).0))

put_at : (a q r u : List ℕ) (c : ℕ) → c ∷ u ≡ q ++ r → IsUtf8 (a ++ q) → IsUtf8 r → All (λ b. 128 ≤ b) q
    → Inside (a ++ c ∷ []) u
put_at a [] r u c e h k high = begins a c u (subst IsUtf8 (append-nil a) h) (subst IsUtf8 (sym e) k)
put_at a (d ∷ q) r u c e h k high =
    let s : d ≡ c = cc in
    record {
      rest = q;
      after = r;
      split = cc;
      whole = subst IsUtf8 (sym (append_snoc a c q)) (subst (λ x. IsUtf8 (a ++ x ∷ q)) s h);
      next = k;
      high = All-tail (λ b. 128 ≤ b) d q high;
    }

-- a byte is put
pub put : (a : List ℕ) (c : ℕ) (u : List ℕ) → Inside a (c ∷ u) → Inside (a ++ c ∷ []) u
put a c u i = put_at a i.rest i.after u c i.split i.whole i.next i.high

-- an escape sign and the byte after it
pub put_escaped : (a : List ℕ) (c : ℕ) (u : List ℕ) → Inside a (92 ∷ c ∷ u) → Inside (a ++ c ∷ []) u
put_escaped a c u i = let k = clean a 92 (c ∷ u) (omega arith) i in put a c u (between a (c ∷ u) k.0 k.1)

-- ── lexemes are text ──
pub quoted_utf8 : (a u l r : List ℕ) → Quoted a u l r → Inside a u → IsUtf8 l × IsUtf8 r
quoted_utf8 a u l r (closed _ _ n) i = clean a 39 r (omega arith) i
quoted_utf8 a u l r (doubled _ t _ _ q) i =
    let k = clean a 39 (39 ∷ t) (omega arith) i in
    quoted_utf8 (a ++ 39 ∷ []) t l r q (put a 39 t (between a (39 ∷ t) k.0 k.1))
quoted_utf8 a u l r (quoted_escape c _ t _ _ q) i = quoted_utf8 (a ++ c ∷ []) t l r q (put_escaped a c t i)
quoted_utf8 a u l r (quoted_byte c _ t _ _ _ _ q) i = quoted_utf8 (a ++ c ∷ []) t l r q (put a c t i)

pub plain_utf8 : (Ends : ℕ → Type 0) → ((c : ℕ) → Ends c → c < 128) → (a u l r : List ℕ) → Plain Ends a u l r
    → Inside a u → IsUtf8 l × IsUtf8 r
plain_utf8 Ends small a u l r (ended _ [] e) i = (clean_end a i, IsUtf8-nil)
plain_utf8 Ends small a u l r (ended _ (c ∷ t) e) i = clean_before a c t (small c e) i
plain_utf8 Ends small a u l r (plain_escape c _ t _ _ q) i =
    plain_utf8 Ends small (a ++ c ∷ []) t l r q (put_escaped a c t i)
plain_utf8 Ends small a u l r (plain_byte c _ t _ _ _ q) i = plain_utf8 Ends small (a ++ c ∷ []) t l r q (put a c t i)
