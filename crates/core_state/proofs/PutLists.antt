-- A list with an element at a place, which may lie after its end.
use Rattle.std.proofs.Common.{◌≡◌, ◌≢◌, ◌-◌, ℕ, suc, List, ◌++◌, length, get_or, replicate, refl, sym, ◌∙◌, inl, inr}
use Rattle.std.proofs.Common.{arith}
use Rattle.std.proofs.lemmas.List.{length-append, length-replicate, get_or-set_other, get_or_past, get_or_append_left}
use Rattle.std.proofs.lemmas.List.{get_or-append_right, get_or-replicate}
use Rattle.std.proofs.lemmas.Grind.{get_or-set_at}
use Rattle.core_state.specs.States.{put_at}
use Rattle.core_state.proofs.RunningOnes.{below_or_past}

grown_at : {A : Type 0} (none : A) (xs : List A) (n q : ℕ)
    → get_or (xs ++ replicate n none) q none ≡ get_or xs q none
grown_at none xs n q = elim (below_or_past q (length xs)) [
  | inl l ↦ get_or_append_left xs (replicate n none) none q l
  | inr p ↦ get_or-append_right xs (replicate n none) (length xs) q none refl p
      ∙ behind (q - length xs) ∙ sym (get_or_past xs q none p)
]
  where
    behind : (k : ℕ) → get_or (replicate n none) k none ≡ none
    behind k = elim (below_or_past k n) [
      | inl l ↦ get_or-replicate n k none none l
      | inr p ↦ get_or_past (replicate n none) k none (omega (arith, p, length-replicate n none))
    ]

pub put_here : {A : Type 0} (none : A) (xs : List A) (p : ℕ) (x : A) → get_or (put_at none p x xs) p none ≡ x
put_here none xs p x =
    get_or-set_at (xs ++ replicate (suc p - length xs) none) p p x none refl
    (omega (
      arith,
      length-append xs (replicate (suc p - length xs) none),
      length-replicate (suc p - length xs) none,
    ))

pub put_else : {A : Type 0} (none : A) (xs : List A) (p q : ℕ) (x : A) → q ≢ p
    → get_or (put_at none p x xs) q none ≡ get_or xs q none
put_else none xs p q x off = get_or-set_other (xs ++ replicate (suc p - length xs) none) p q x none off
    ∙ grown_at none xs (suc p - length xs) q
