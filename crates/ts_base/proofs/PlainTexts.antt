-- Plain lexemes, byte by byte.
use Rattle.std.proofs.Common.{◌≡◌, ℕ, ◌+◌, ◌≤◌, List, [], ◌∷◌, ◌++◌, length, refl, sym, subst, append_assoc}
use Rattle.std.proofs.Common.{length-append, arith}
use Rattle.std.proofs.lemmas.List.{append-nil}
use Rattle.ts_base.specs.Plain.{IsPlain, Plain, ended, plain_escape, plain_byte}
use Rattle.ts_base.specs.Inner.Residuals.{PlainOn, EscapedOn}
use Rattle.ts_base.proofs.Characters.{Each}

module _ (V : Type 0) (Ends : ℕ → Type 0) (Then : List ℕ → List ℕ → V → Type 0) (a : List ℕ) where
  plain_92 : (u l r : List ℕ) (v : V) → ¬ Ends 92 → Plain Ends a (92 ∷ u) l r → Then l r v
      → EscapedOn V (PlainOn V Ends Then) a u v
  plain_92 u l r v k (ended _ _ e) w = absurd (k e)
  plain_92 u l r v k (plain_escape c _ t _ _ q) w = (l, r, q, w)
  plain_92 u l r v k (plain_byte _ _ _ _ _ p q) w = absurd (p.no_escape refl)

  -- an escape sign within
  pub plain_92_to : (u : List ℕ) (v : V) → ¬ Ends 92 → PlainOn V Ends Then a (92 ∷ u) v
      → EscapedOn V (PlainOn V Ends Then) a u v
  plain_92_to u v k (l, r, q, w) = plain_92 u l r v k q w

  pub plain_92_from : (u : List ℕ) (v : V) → EscapedOn V (PlainOn V Ends Then) a u v → PlainOn V Ends Then a (92 ∷ u) v
  plain_92_from [] v h = absurd h
  plain_92_from (c ∷ u) v (l, r, q, w) = (l, r, plain_escape c a u l r q, w)

  plain_over : (c : ℕ) (u l r : List ℕ) (v : V) → ¬ Ends 92 → Ends c → Plain Ends a (c ∷ u) l r → Then l r v
      → Then a (c ∷ u) v
  plain_over c u l r v n k (ended _ _ e) w = w
  plain_over c u l r v n k (plain_escape _ _ t _ _ q) w = absurd (n k)
  plain_over c u l r v n k (plain_byte _ _ _ _ _ p q) w = absurd (p.no_end k)

  -- before such a byte it ends
  pub plain_over_to : (c : ℕ) (u : List ℕ) (v : V) → ¬ Ends 92 → Ends c → PlainOn V Ends Then a (c ∷ u) v
      → Then a (c ∷ u) v
  plain_over_to c u v n k (l, r, q, w) = plain_over c u l r v n k q w

  pub plain_over_from : (c : ℕ) (u : List ℕ) (v : V) → Ends c → Then a (c ∷ u) v → PlainOn V Ends Then a (c ∷ u) v
  plain_over_from c u v k w = (a, c ∷ u, ended a (c ∷ u) k, w)

  plain_more : (c : ℕ) (u l r : List ℕ) (v : V) → IsPlain Ends c → Plain Ends a (c ∷ u) l r → Then l r v
      → PlainOn V Ends Then (a ++ c ∷ []) u v
  plain_more c u l r v k (ended _ _ e) w = absurd (k.no_end e)
  plain_more c u l r v k (plain_escape _ _ t _ _ q) w = absurd (k.no_escape refl)
  plain_more c u l r v k (plain_byte _ _ _ _ _ p q) w = (l, r, q, w)

  -- a plain byte
  pub plain_byte_to : (c : ℕ) (u : List ℕ) (v : V) → IsPlain Ends c → PlainOn V Ends Then a (c ∷ u) v
      → PlainOn V Ends Then (a ++ c ∷ []) u v
  plain_byte_to c u v k (l, r, q, w) = plain_more c u l r v k q w

  pub plain_byte_from : (c : ℕ) (u : List ℕ) (v : V) → IsPlain Ends c → PlainOn V Ends Then (a ++ c ∷ []) u v
      → PlainOn V Ends Then a (c ∷ u) v
  plain_byte_from c u v k (l, r, q, w) = (l, r, plain_byte c a u l r k q, w)

  plain_stops : (l r : List ℕ) (v : V) → Plain Ends a [] l r → Then l r v → Then a [] v
  plain_stops l r v (ended _ _ e) w = w

  -- at the end of the text
  pub plain_end_to : (v : V) → PlainOn V Ends Then a [] v → Then a [] v
  plain_end_to v (l, r, q, w) = plain_stops l r v q w

  pub plain_end_from : (v : V) → Then a [] v → PlainOn V Ends Then a [] v
  plain_end_from v w = (a, [], ended a [] tt, w)

-- several plain bytes
pub plain_bytes_to : (V : Type 0) (Ends : ℕ → Type 0) (Then : List ℕ → List ℕ → V → Type 0) (bs a u : List ℕ) (v : V)
    → Each (IsPlain Ends) bs → PlainOn V Ends Then a (bs ++ u) v → PlainOn V Ends Then (a ++ bs) u v
plain_bytes_to V Ends Then [] a u v h q = subst (λ x. PlainOn V Ends Then x u v) (sym (append-nil a)) q
plain_bytes_to V Ends Then (b ∷ bs) a u v h q =
    subst (λ x. PlainOn V Ends Then x u v) (append_assoc a (b ∷ []) bs)
    (plain_bytes_to V Ends Then bs (a ++ b ∷ []) u v h.1 (plain_byte_to V Ends Then a b (bs ++ u) v h.0 q))

pub plain_bytes_from : (V : Type 0) (Ends : ℕ → Type 0) (Then : List ℕ → List ℕ → V → Type 0) (bs a u : List ℕ) (v : V)
    → Each (IsPlain Ends) bs → PlainOn V Ends Then (a ++ bs) u v → PlainOn V Ends Then a (bs ++ u) v
plain_bytes_from V Ends Then [] a u v h q = subst (λ x. PlainOn V Ends Then x u v) (append-nil a) q
plain_bytes_from V Ends Then (b ∷ bs) a u v h q =
    plain_byte_from V Ends Then a b (bs ++ u) v h.0
    (plain_bytes_from V Ends Then bs (a ++ b ∷ []) u v h.1
    (subst (λ x. PlainOn V Ends Then x u v) (sym (append_assoc a (b ∷ []) bs)) q))

-- ── sizes ──
pub plain_length : (Ends : ℕ → Type 0) (a u l r : List ℕ) → Plain Ends a u l r
    → length l + length r ≤ length a + length u
plain_length Ends a u l r (ended _ _ e) = omega arith
plain_length Ends a u l r (plain_escape c _ t _ _ q) =
    omega (arith, plain_length Ends (a ++ c ∷ []) t l r q, length-append a (c ∷ []))
plain_length Ends a u l r (plain_byte c _ t _ _ _ q) =
    omega (arith, plain_length Ends (a ++ c ∷ []) t l r q, length-append a (c ∷ []))

pub plain_some : (Ends : ℕ → Type 0) (a u l r : List ℕ) → Plain Ends a u l r → 1 ≤ length a → 1 ≤ length l
plain_some Ends a u l r (ended _ _ e) h = h
plain_some Ends a u l r (plain_escape c _ t _ _ q) h =
    plain_some Ends (a ++ c ∷ []) t l r q (omega (arith, length-append a (c ∷ [])))
plain_some Ends a u l r (plain_byte c _ t _ _ _ q) h =
    plain_some Ends (a ++ c ∷ []) t l r q (omega (arith, length-append a (c ∷ [])))

-- ── one reading ──
pub plain_one : (Ends : ℕ → Type 0) → ¬ Ends 92 → (a u l m r s : List ℕ) → Plain Ends a u l r → Plain Ends a u m s
    → (l ≡ m) × (r ≡ s)
plain_one Ends n a u l m r s (ended _ _ e) (ended _ _ f) = (refl, refl)
plain_one Ends n a u l m r s (ended _ _ e) (plain_escape _ _ _ _ _ q) = absurd (n e)
plain_one Ends n a u l m r s (ended _ _ e) (plain_byte _ _ _ _ _ k q) = absurd (k.no_end e)
plain_one Ends n a u l m r s (plain_escape _ _ _ _ _ p) (ended _ _ f) = absurd (n f)
plain_one Ends n a u l m r s (plain_escape c _ t _ _ p) (plain_escape _ _ _ _ _ q) =
    plain_one Ends n (a ++ c ∷ []) t l m r s p q
plain_one Ends n a u l m r s (plain_escape _ _ _ _ _ p) (plain_byte _ _ _ _ _ k q) = absurd (k.no_escape refl)
plain_one Ends n a u l m r s (plain_byte _ _ _ _ _ k p) (ended _ _ f) = absurd (k.no_end f)
plain_one Ends n a u l m r s (plain_byte _ _ _ _ _ k p) (plain_escape _ _ _ _ _ q) = absurd (k.no_escape refl)
plain_one Ends n a u l m r s (plain_byte c _ t _ _ k p) (plain_byte _ _ _ _ _ j q) =
    plain_one Ends n (a ++ c ∷ []) t l m r s p q
