-- How many pages come after each in a list: fewer along each link.
use Rattle.std.proofs.Common.{◌≡◌, ◌≢◌, ◌<◌, ◌==◌, ℕ, suc, Bool, cond, List, [], ◌∷◌, length, refl, sym, subst, inl}
use Rattle.std.proofs.Common.{inr, arith}
use Rattle.core_state.specs.Log.{In}
use Rattle.core_state.specs.Trees.Nodes.{Node, TreeGhost}
use Rattle.core_state.specs.Trees.Nodes.Node.{other, leaf, inner, gone}
use Rattle.core_state.proofs.Trees.Find.{right_in}
use Rattle.core_state.proofs.Trees.Behind.{Comes, Once, comes_to, comes_from}
use Rattle.core_state.proofs.Trees.Forward.{Forward, LinksTo}
use Rattle.core_state.proofs.Trees.Rightwards.{Falls}

abbrev pub behind : List ℕ → ℕ → ℕ
behind [] p = 0
behind (x ∷ xs) p = cond (x == p) (length xs) (behind xs p)

behind_first : (x : ℕ) (xs : List ℕ) (p : ℕ) → x ≡ p → behind (x ∷ xs) p ≡ length xs
behind_first x xs p e = grind (arith, e)

behind_other : (x : ℕ) (xs : List ℕ) (p : ℕ) → x ≢ p → behind (x ∷ xs) p ≡ behind xs p
behind_other x xs p n = grind (arith, n)

behind_less : (xs : List ℕ) (p : ℕ) → In p xs → behind xs p < length xs
behind_less [] p m = absurd m
behind_less (x ∷ xs) p (inl e) =
    subst (λ (z : ℕ). z < suc (length xs)) (sym (behind_first x xs p (sym e))) (one (length xs))
  where
    one : (n : ℕ) → n < suc n
    one n = omega arith
behind_less (x ∷ xs) p (inr m) = either (x == p) (behind xs p) (length xs) (behind_less xs p m)
  where
    either : (b : Bool) (k n : ℕ) → k < n → cond b n k < suc n
    either b k n l = grind (arith, l)

not_in : (x p : ℕ) (xs : List ℕ) → (In x xs → ⊥) → In p xs → x ≢ p
not_in x p xs off m e = off (subst (λ (z : ℕ). In z xs) (sym e) m)

pub behind_falls : (L : List ℕ) (p q : ℕ) → Once L → Comes L p q → behind L q < behind L p
behind_falls [] p q o c = absurd c
behind_falls (x ∷ xs) p q o (inl c) =
    let l = behind_less xs q c.1 in
    subst (λ (z : ℕ). z < behind (x ∷ xs) p) (sym (behind_other x xs q (not_in x q xs o.0 c.1)))
    (subst (λ (z : ℕ). behind xs q < z) (sym (behind_first x xs p c.0)) l)
behind_falls (x ∷ xs) p q o (inr c) =
    subst (λ (z : ℕ). z < behind (x ∷ xs) p) (sym (behind_other x xs q (not_in x q xs o.0 (comes_to xs p q c))))
    (subst (λ (z : ℕ). behind xs q < z) (sym (behind_other x xs p (not_in x p xs o.0 (comes_from xs p q c))))
    (behind_falls xs p q o.1 c))

right_links : {E : Type 0} (n : Node E) → right_in n ≢ 0 → LinksTo n (right_in n)
right_links other n = absurd (n refl)
right_links (leaf right high keys) n = refl
right_links (inner right kids) n = inl refl
right_links (gone right) n = refl

pub forward_falls : {E : Type 0} (N : ℕ → Node E) (g : TreeGhost E) (L : List ℕ) → Forward N g L → Falls N g (behind L)
forward_falls N g L F p on some =
    behind_falls L p (right_in (N p)) F.once (F.leads p (right_in (N p)) on (right_links (N p) some) some)
