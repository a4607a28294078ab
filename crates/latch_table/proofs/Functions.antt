-- A function that is changed at one place, and the words where one word changes.
use Rattle.std.proofs.Common.{◌≡◌, ◌≢◌, ℕ, ◌<◌, List, length, get_or, set, refl, sym, ap, subst, ◌∙◌}
use Rattle.std.proofs.lemmas.List.{get_or-set_same, get_or-set_other}
use mathlib.Core.Logic.{dite}
use native.Mathlib.Decide.{ℕ_discrete}

abbrev pick : {P : Type 0} → Dec P → ℕ → ℕ → ℕ
pick (yes _) a b = a
pick (no _) a b = b

-- the function, with c at place i
pub put : (ℕ → ℕ) → ℕ → ℕ → ℕ → ℕ
put f i c j = pick (ℕ_discrete j i) c (f j)

pub put_here : (f : ℕ → ℕ) (i c j : ℕ) → j ≡ i → put f i c j ≡ c
unfolding put
put_here f i c j is = go (ℕ_discrete j i)
  where
    go : (d : Dec (j ≡ i)) → pick d c (f j) ≡ c
    go (yes _) = refl
    go (no n) = absurd (n is)

pub put_else : (f : ℕ → ℕ) (i c j : ℕ) → j ≢ i → put f i c j ≡ f j
unfolding put
put_else f i c j other = go (ℕ_discrete j i)
  where
    go : (d : Dec (j ≡ i)) → pick d c (f j) ≡ f j
    go (yes e) = absurd (other e)
    go (no _) = refl

-- the words, where word i becomes x, are 0 exactly where nobody holds them
pub words_after : (words : List ℕ) (holder holder' : ℕ → ℕ) (n i x : ℕ) → i < length words
    → ((j : ℕ) → j ≢ i → holder' j ≡ holder j) → (holder' i ≡ 0 → x ≡ 0) → (0 < holder' i → 0 < x)
    → ((j : ℕ) → j < n → holder j ≡ 0 → get_or words j 0 ≡ 0)
    → ((j : ℕ) → j < n → 0 < holder j → 0 < get_or words j 0)
    → ((j : ℕ) → j < n → holder' j ≡ 0 → get_or (set words i x) j 0 ≡ 0)
    × ((j : ℕ) → j < n → 0 < holder' j → 0 < get_or (set words i x) j 0)
words_after words holder holder' n i x inside others free taken was_free was_taken = (
  (λ j le none. dite (ℕ_discrete j i)
      (λ e. ap (λ k. get_or (set words i x) k 0) e ∙ get_or-set_same words i x 0 inside
      ∙ free (ap holder' (sym e) ∙ none))
      (λ ne. get_or-set_other words i j x 0 ne ∙ was_free j le (sym (others j ne) ∙ none))),
  (λ j le some. dite (ℕ_discrete j i)
      (λ e. subst (λ k. 0 < k) (sym (ap (λ k. get_or (set words i x) k 0) e ∙ get_or-set_same words i x 0 inside))
      (taken (subst (λ k. 0 < holder' k) e some)))
      (λ ne. subst (λ k. 0 < k) (sym (get_or-set_other words i j x 0 ne))
      (was_taken j le (subst (λ k. 0 < k) (others j ne) some)))),
)
