-- The first line of a kind.
use Rattle.std.proofs.Common.{◌≡◌, inl, inr, ℕ, ◌+◌, List, [], ◌∷◌, ◌++◌, length, refl, sym, ◌∙◌, ap, arith}
use Rattle.std.specs.Prelude.{All}
use Rattle.std.proofs.lemmas.List.Elements.{All-head, All-tail}
use Rattle.ts_base.specs.FirstLine.{IsFirstLine}
use Rattle.ts_base.specs.LineErrors.{error_at, IsBadFault, IsBadRefusal}
use Rattle.ts_base.specs.declared.line_error.LineError.{LineError}
use Rattle.ts_base.specs.declared.line_error.LineError.TheVariants.{Bad, StopInSample, UnknownInSample, Memory}

module _ (P : List ℕ → Type 0) where
  -- after lines of which none is so, one that is so is the first
  pub first_behind : (done more : List (List ℕ)) (l : List ℕ) → All (λ x. ¬ P x) done → P l
      → IsFirstLine P (done ++ l ∷ more) (length done + 1)
  first_behind [] more l h p = inl (p, refl)
  first_behind (d ∷ done) more l h p = inr (
    All-head (λ x. ¬ P x) d done h,
    (length done + 1, omega arith, first_behind done more l (All-tail (λ x. ¬ P x) d done h) p),
  )

  -- where none is so, there is no first one
  pub no_first : (ls : List (List ℕ)) (n : ℕ) → All (λ x. ¬ P x) ls → ¬ IsFirstLine P ls n
  no_first [] n h f = f
  no_first (l ∷ ls) n h (inl f) = All-head (λ x. ¬ P x) l ls h f.0
  no_first (l ∷ ls) n h (inr f) = no_first ls f.1.0 (All-tail (λ x. ¬ P x) l ls h) f.1.2

  -- there is one first line at most
  pub first_is_one : (ls : List (List ℕ)) (m n : ℕ) → IsFirstLine P ls m → IsFirstLine P ls n → m ≡ n
  first_is_one [] m n f g = absurd f
  first_is_one (l ∷ ls) m n (inl f) (inl g) = f.1 ∙ sym g.1
  first_is_one (l ∷ ls) m n (inl f) (inr g) = absurd (g.0 f.0)
  first_is_one (l ∷ ls) m n (inr f) (inl g) = absurd (f.0 g.0)
  first_is_one (l ∷ ls) m n (inr f) (inr g) =
      f.1.1 ∙ ap (λ k. k + 1) (first_is_one ls f.1.0 g.1.0 f.1.2 g.1.2) ∙ sym g.1.1

  -- a line that is refused is the first bad one, or memory ran out
  pub refused_at : (ls : List (List ℕ)) (line : List ℕ) (n : ℕ) (e : LineError) → (P line → IsFirstLine P ls n)
      → IsBadFault P line e → IsBadRefusal P ls (error_at e n)
  refused_at ls line n Bad first f = first f
  refused_at ls line n StopInSample first f = absurd f
  refused_at ls line n UnknownInSample first f = absurd f
  refused_at ls line n Memory first f = tt
