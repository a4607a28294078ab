-- Lists with more of the same after them.
use Rattle.std.proofs.Common.{◌≡◌, ◌<◌, ◌==◌, cond, ℕ, zero, suc, List, [], ◌∷◌, ◌++◌, length, get_or}
use Rattle.std.proofs.Common.{replicate, refl, sym, ◌∙◌, inl, inr}
use Rattle.std.specs.Prelude.{set}
use Rattle.std.proofs.lemmas.List.{get_or-set_other}
use Rattle.std.proofs.lemmas.Grind.{get_or-set_at}
use Rattle.core_state.proofs.RunningOnes.{same_or_other, on_same, on_other}

of_one : {A : Type 0} (n p : ℕ) (d : A) → get_or (replicate n d) p d ≡ d
of_one zero p d = refl
of_one (suc n) zero d = refl
of_one (suc n) (suc p) d = of_one n p d

pub get_or_padded : {A : Type 0} (xs : List A) (n p : ℕ) (d : A) → get_or (xs ++ replicate n d) p d ≡ get_or xs p d
get_or_padded [] n p d = of_one n p d
get_or_padded (x ∷ xs) n zero d = refl
get_or_padded (x ∷ xs) n (suc p) d = get_or_padded xs n p d

-- what a list has once one place has another element
pub set_looked : {A : Type 0} (xs : List A) (i p : ℕ) (x d : A) → i < length xs
    → get_or (set xs i x) p d ≡ cond (i == p) x (get_or xs p d)
set_looked xs i p x d lt = elim (same_or_other i p) [
  | inl e ↦ get_or-set_at xs i p x d (sym e) lt ∙ sym (on_same i p x (get_or xs p d) e)
  | inr off ↦ get_or-set_other xs i p x d (λ e. off (sym e)) ∙ sym (on_other i p x (get_or xs p d) off)
]
