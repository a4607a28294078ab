-- What may follow within a lexeme, and the whole value. `Then l r v` says that after the lexeme l the bytes r
-- follow, and that
-- the whole has the value v.
use Rattle.std.specs.Prelude.{◌≡◌, ◌≢◌, ◌⊎◌, ℕ, List, [], ◌∷◌, ◌++◌}
use Rattle.ts_base.specs.Quoted.{Quoted}
use Rattle.ts_base.specs.Plain.{Plain}

-- within a quoted lexeme that begins with a
abbrev pub QuotedOn : (V : Type 0) → (List ℕ → List ℕ → V → Type 0) → List ℕ → List ℕ → V → Type 0
QuotedOn V Then a u v = (l : List ℕ) × (r : List ℕ) × Quoted a u l r × (l ≢ []) × Then l r v

-- after a quote within a quoted lexeme: it ended there, or another quote follows
abbrev pub QuoteOn : (V : Type 0) → (List ℕ → List ℕ → V → Type 0) → List ℕ → List ℕ → V → Type 0
QuoteOn V Then a [] v = (a ≢ []) × Then a [] v
QuoteOn V Then a (c ∷ u) v =
    ((c ≡ 39) × QuotedOn V Then (a ++ 39 ∷ []) u v) ⊎ ((c ≢ 39) × (a ≢ []) × Then a (c ∷ u) v)

-- within a plain lexeme that begins with a
abbrev pub PlainOn : (V : Type 0) → (ℕ → Type 0) → (List ℕ → List ℕ → V → Type 0) → List ℕ → List ℕ → V → Type 0
PlainOn V Ends Then a u v = (l : List ℕ) × (r : List ℕ) × Plain Ends a u l r × Then l r v

-- after an escape sign, given what may follow after the byte that it escapes
abbrev pub EscapedOn : (V : Type 0) → (List ℕ → List ℕ → V → Type 0) → List ℕ → List ℕ → V → Type 0
EscapedOn V On a [] v = ⊥
EscapedOn V On a (c ∷ u) v = On (a ++ c ∷ []) u v
