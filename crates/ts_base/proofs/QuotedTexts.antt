-- Texts in quotes, byte by byte.
use Rattle.std.proofs.Common.{◌≡◌, ◌≢◌, ℕ, ◌+◌, ◌≤◌, inl, inr, Bool, true, false, cond, eqb, ◌||◌, List, [], ◌∷◌, ◌++◌}
use Rattle.std.proofs.Common.{length, refl, sym, ◌∙◌, ap, subst, append_assoc, length-append, arith}
use Rattle.std.proofs.lemmas.List.{append-nil}
use Rattle.std.proofs.lemmas.Bool.Decides.{nat_tests}
use Rattle.std.specs.Char.{encode_utf8}
use Rattle.std.specs.List.{flat_map}
use Rattle.ts_base.specs.Bytes.{BeginsWithQuote}
use Rattle.ts_base.specs.Quoted.{Quoted, closed, doubled, quoted_escape, quoted_byte, doubled_byte, QuotedHasOneReading}
use Rattle.ts_base.specs.Quoted.{QuotedIsReadBack}
use Rattle.ts_base.specs.Inner.Residuals.{QuotedOn, QuoteOn, EscapedOn}
use Rattle.ts_base.proofs.Characters.{Each, encode_some}

quoted_nil_at : (a l r : List ℕ) → Quoted a [] l r → ⊥
quoted_nil_at a l r q = elim q [ ]

push_some : (a : List ℕ) (c : ℕ) → (a ++ c ∷ []) ≢ []
push_some [] c e = cc
push_some (x ∷ a) c e = cc

no_quote_97 : ◌≡◌ {A = ℕ} 97 39 → ⊥
no_quote_97 h = omega arith

no_escape_97 : ◌≡◌ {A = ℕ} 97 92 → ⊥
no_escape_97 h = omega arith

-- ── what may follow before a byte, and after it ──
module _ (V : Type 0) (Then : List ℕ → List ℕ → V → Type 0) (a : List ℕ) where
  quote_second : (c : ℕ) (u l r : List ℕ) (v : V) → Quoted a (39 ∷ c ∷ u) l r → l ≢ [] → Then l r v
      → QuoteOn V Then a (c ∷ u) v
  quote_second c u l r v (closed _ _ n) ne w = inr (n, ne, w)
  quote_second c u l r v (doubled _ t _ _ q) ne w = inl (refl, (l, r, q, ne, w))
  quote_second c u l r v (quoted_byte _ _ _ _ _ n _ q) ne w = absurd (n refl)

  quote_end : (l r : List ℕ) (v : V) → Quoted a (39 ∷ []) l r → l ≢ [] → Then l r v → QuoteOn V Then a [] v
  quote_end l r v (closed _ _ n) ne w = (ne, w)
  quote_end l r v (quoted_byte _ _ _ _ _ n _ q) ne w = absurd (n refl)

  -- a quote within
  pub quoted_to : (u : List ℕ) (v : V) → QuotedOn V Then a (39 ∷ u) v → QuoteOn V Then a u v
  quoted_to [] v (l, r, q, ne, w) = quote_end l r v q ne w
  quoted_to (c ∷ u) v (l, r, q, ne, w) = quote_second c u l r v q ne w

  pub quoted_from : (u : List ℕ) (v : V) → QuoteOn V Then a u v → QuotedOn V Then a (39 ∷ u) v
  quoted_from [] v (ne, w) = (a, [], closed a [] (λ h. h), ne, w)
  quoted_from (c ∷ u) v (inl (e, (l, r, q, ne, w))) =
      (l, r, subst (λ x. Quoted a (39 ∷ x ∷ u) l r) (sym e) (doubled a u l r q), ne, w)
  quoted_from (c ∷ u) v (inr (n, ne, w)) = (a, c ∷ u, closed a (c ∷ u) n, ne, w)

  quoted_92 : (u l r : List ℕ) (v : V) → Quoted a (92 ∷ u) l r → l ≢ [] → Then l r v
      → EscapedOn V (QuotedOn V Then) a u v
  quoted_92 u l r v (quoted_escape c _ t _ _ q) ne w = (l, r, q, ne, w)
  quoted_92 u l r v (quoted_byte _ _ _ _ _ _ n q) ne w = absurd (n refl)

  -- an escape sign within
  pub quoted_92_to : (u : List ℕ) (v : V) → QuotedOn V Then a (92 ∷ u) v → EscapedOn V (QuotedOn V Then) a u v
  quoted_92_to u v (l, r, q, ne, w) = quoted_92 u l r v q ne w

  pub quoted_92_from : (u : List ℕ) (v : V) → EscapedOn V (QuotedOn V Then) a u v → QuotedOn V Then a (92 ∷ u) v
  quoted_92_from [] v h = absurd h
  quoted_92_from (c ∷ u) v (l, r, q, ne, w) = (l, r, quoted_escape c a u l r q, ne, w)

  quoted_more : (c : ℕ) (u l r : List ℕ) (v : V) → c ≢ 39 → c ≢ 92 → Quoted a (c ∷ u) l r → l ≢ [] → Then l r v
      → QuotedOn V Then (a ++ c ∷ []) u v
  quoted_more c u l r v m n (closed _ _ _) ne w = absurd (m refl)
  quoted_more c u l r v m n (doubled _ t _ _ q) ne w = absurd (m refl)
  quoted_more c u l r v m n (quoted_escape _ _ t _ _ q) ne w = absurd (n refl)
  quoted_more c u l r v m n (quoted_byte _ _ _ _ _ _ _ q) ne w = (l, r, q, ne, w)

  -- another byte within
  pub quoted_byte_to : (c : ℕ) (u : List ℕ) (v : V) → c ≢ 39 → c ≢ 92 → QuotedOn V Then a (c ∷ u) v
      → QuotedOn V Then (a ++ c ∷ []) u v
  quoted_byte_to c u v m n (l, r, q, ne, w) = quoted_more c u l r v m n q ne w

  pub quoted_byte_from : (c : ℕ) (u : List ℕ) (v : V) → c ≢ 39 → c ≢ 92 → QuotedOn V Then (a ++ c ∷ []) u v
      → QuotedOn V Then a (c ∷ u) v
  quoted_byte_from c u v m n (l, r, q, ne, w) = (l, r, quoted_byte c a u l r m n q, ne, w)

  -- after a quote within
  pub doubled_to : (u : List ℕ) (v : V) → QuoteOn V Then a (39 ∷ u) v → QuotedOn V Then (a ++ 39 ∷ []) u v
  doubled_to u v (inl (e, h)) = h
  doubled_to u v (inr (n, ne, w)) = absurd (n refl)

  pub quote_other : (c : ℕ) (u : List ℕ) (v : V) → c ≢ 39 → QuoteOn V Then a (c ∷ u) v → (a ≢ []) × Then a (c ∷ u) v
  quote_other c u v m (inl (e, h)) = absurd (m e)
  quote_other c u v m (inr (n, ne, w)) = (ne, w)

  -- a quoted text doesn't end without its quote
  pub quoted_nil : (v : V) → ¬ QuotedOn V Then a [] v
  quoted_nil v (l, r, q, ne, w) = quoted_nil_at a l r q

  -- a letter and a quote complete it
  pub quoted_done : (v : V) → Then (a ++ 97 ∷ []) [] v → QuotedOn V Then a (97 ∷ 39 ∷ []) v
  quoted_done v w = (
    a ++ 97 ∷ [],
    [],
    quoted_byte 97 a (39 ∷ []) (a ++ 97 ∷ []) [] no_quote_97 no_escape_97 (closed (a ++ 97 ∷ []) [] (λ h. h)),
    push_some a 97,
    w,
  )

-- several bytes within
pub quoted_bytes_to : (V : Type 0) (Then : List ℕ → List ℕ → V → Type 0) (bs a u : List ℕ) (v : V)
    → Each (λ b. (b ≢ 39) × (b ≢ 92)) bs → QuotedOn V Then a (bs ++ u) v → QuotedOn V Then (a ++ bs) u v
quoted_bytes_to V Then [] a u v h q = subst (λ x. QuotedOn V Then x u v) (sym (append-nil a)) q
quoted_bytes_to V Then (b ∷ bs) a u v h q =
    subst (λ x. QuotedOn V Then x u v) (append_assoc a (b ∷ []) bs)
    (quoted_bytes_to V Then bs (a ++ b ∷ []) u v h.1 (quoted_byte_to V Then a b (bs ++ u) v h.0.0 h.0.1 q))

pub quoted_bytes_from : (V : Type 0) (Then : List ℕ → List ℕ → V → Type 0) (bs a u : List ℕ) (v : V)
    → Each (λ b. (b ≢ 39) × (b ≢ 92)) bs → QuotedOn V Then (a ++ bs) u v → QuotedOn V Then a (bs ++ u) v
quoted_bytes_from V Then [] a u v h q = subst (λ x. QuotedOn V Then x u v) (append-nil a) q
quoted_bytes_from V Then (b ∷ bs) a u v h q =
    quoted_byte_from V Then a b (bs ++ u) v h.0.0 h.0.1
    (quoted_bytes_from V Then bs (a ++ b ∷ []) u v h.1
    (subst (λ x. QuotedOn V Then x u v) (sym (append_assoc a (b ∷ []) bs)) q))

-- ── one reading ──
quoted_one : (a u l m r s : List ℕ) → Quoted a u l r → Quoted a u m s → (l ≡ m) × (r ≡ s)
quoted_one a u l m r s (closed _ _ n) (closed _ _ k) = (refl, refl)
quoted_one a u l m r s (closed _ _ n) (doubled _ t _ _ q) = absurd (n refl)
quoted_one a u l m r s (closed _ _ n) (quoted_byte _ _ _ _ _ k _ q) = absurd (k refl)
quoted_one a u l m r s (doubled _ t _ _ p) (closed _ _ k) = absurd (k refl)
quoted_one a u l m r s (doubled _ t _ _ p) (doubled _ _ _ _ q) = quoted_one (a ++ 39 ∷ []) t l m r s p q
quoted_one a u l m r s (doubled _ t _ _ p) (quoted_byte _ _ _ _ _ k _ q) = absurd (k refl)
quoted_one a u l m r s (quoted_escape c _ t _ _ p) (quoted_escape _ _ _ _ _ q) = quoted_one (a ++ c ∷ []) t l m r s p q
quoted_one a u l m r s (quoted_escape c _ t _ _ p) (quoted_byte _ _ _ _ _ _ k q) = absurd (k refl)
quoted_one a u l m r s (quoted_byte c _ t _ _ n k p) (closed _ _ _) = absurd (n refl)
quoted_one a u l m r s (quoted_byte c _ t _ _ n k p) (doubled _ _ _ _ q) = absurd (n refl)
quoted_one a u l m r s (quoted_byte c _ t _ _ n k p) (quoted_escape _ _ _ _ _ q) = absurd (k refl)
quoted_one a u l m r s (quoted_byte c _ t _ _ n k p) (quoted_byte _ _ _ _ _ _ _ q) =
    quoted_one (a ++ c ∷ []) t l m r s p q

pub quoted_has_one_reading : QuotedHasOneReading
quoted_has_one_reading u l m r s p q = quoted_one [] u l m r s p q

-- ── a quoted text is read back ──
byte_tests : (x y : Bool) (c : ℕ) (a u l v : List ℕ) → eqb c 39 ≡ x → eqb c 92 ≡ y → Quoted (a ++ c ∷ []) u l v
    → Quoted a (cond (x || y) (c ∷ c ∷ []) (c ∷ []) ++ u) l v
byte_tests true y c a u l v e f q = let s : c ≡ 39 = grind (arith, nat_tests) in
    subst (λ x. Quoted (a ++ x ∷ []) u l v → Quoted a (x ∷ x ∷ u) l v) (sym s) (λ p. doubled a u l v p) q
byte_tests false true c a u l v e f q = let s : c ≡ 92 = grind (arith, nat_tests) in
    subst (λ x. Quoted (a ++ x ∷ []) u l v → Quoted a (x ∷ x ∷ u) l v) (sym s) (λ p. quoted_escape 92 a u l v p) q
byte_tests false false c a u l v e f q =
    quoted_byte c a u l v (λ s. grind (arith, nat_tests)) (λ s. grind (arith, nat_tests)) q

byte_reads : (c : ℕ) (a u l v : List ℕ) → Quoted (a ++ c ∷ []) u l v → Quoted a (doubled_byte c ++ u) l v
byte_reads c a u l v q = byte_tests (eqb c 39) (eqb c 92) c a u l v refl refl q

-- after the beginning a of the text
pub quoted_reads : (l a r : List ℕ) → ¬ BeginsWithQuote r → Quoted a (flat_map doubled_byte l ++ 39 ∷ r) (a ++ l) r
quoted_reads [] a r h = subst (λ l. Quoted a (39 ∷ r) l r) (sym (append-nil a)) (closed a r h)
quoted_reads (c ∷ l) a r h =
    subst (λ u. Quoted a u (a ++ c ∷ l) r) (sym (append_assoc (doubled_byte c) (flat_map doubled_byte l) (39 ∷ r)))
    (byte_reads c a (flat_map doubled_byte l ++ 39 ∷ r) (a ++ c ∷ l) r
    (subst (λ t. Quoted (a ++ c ∷ []) (flat_map doubled_byte l ++ 39 ∷ r) t r) (append_assoc a (c ∷ []) l)
    (quoted_reads l (a ++ c ∷ []) r h)))

pub quoted_is_read_back : QuotedIsReadBack
quoted_is_read_back l r h = quoted_reads l [] r h

-- ── a character that is neither a quote nor a backslash ──
doubled_tests : (x y : Bool) (c : ℕ) → eqb c 39 ≡ x → eqb c 92 ≡ y → c ≢ 39 → c ≢ 92
    → cond (x || y) (c ∷ c ∷ []) (c ∷ []) ≡ c ∷ []
doubled_tests true y c e f m k = absurd (m (grind (arith, nat_tests)))
doubled_tests false true c e f m k = absurd (k (grind (arith, nat_tests)))
doubled_tests false false c e f m k = refl

doubled_once : (bs : List ℕ) → Each (λ b. (b ≢ 39) × (b ≢ 92)) bs → flat_map doubled_byte bs ≡ bs
doubled_once [] h = refl
doubled_once (b ∷ bs) h =
    ap (λ l. l ++ flat_map doubled_byte bs) (doubled_tests (eqb b 39) (eqb b 92) b refl refl h.0.0 h.0.1)
    ∙ ap (λ l. b ∷ l) (doubled_once bs h.1)

-- is not doubled
pub char_once : (c : ℕ) → c ≢ 39 → c ≢ 92 → flat_map doubled_byte (encode_utf8 c) ≡ encode_utf8 c
char_once c m k =
    let f = encode_some (λ b. (b ≢ 39) × (b ≢ 92)) c (λ _. (m, k)) (λ b h. ((λ e. omega arith), (λ e. omega arith))) in
    doubled_once (encode_utf8 c) (subst (λ v. Each (λ b. (b ≢ 39) × (b ≢ 92)) v) (sym f.2) (f.3, f.4))

-- ── sizes ──
pub quoted_length : (a u l r : List ℕ) → Quoted a u l r → length l + length r + 1 ≤ length a + length u
quoted_length a u l r (closed _ _ n) = omega arith
quoted_length a u l r (doubled _ t _ _ q) =
    omega (arith, quoted_length (a ++ 39 ∷ []) t l r q, length-append a (39 ∷ []))
quoted_length a u l r (quoted_escape c _ t _ _ q) =
    omega (arith, quoted_length (a ++ c ∷ []) t l r q, length-append a (c ∷ []))
quoted_length a u l r (quoted_byte c _ t _ _ _ _ q) =
    omega (arith, quoted_length (a ++ c ∷ []) t l r q, length-append a (c ∷ []))
