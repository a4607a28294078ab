-- A list of views, where one changes.
use Rattle.std.proofs.Common.{◌≡◌, ◌≢◌, ℕ, zero, suc, ◌<◌, List, [], ◌∷◌, length, set, sym, ap, subst, ◌∙◌, ⊎_elim}
use Rattle.std.proofs.Common.{arith}
use mathlib.Core.Logic.{dite}
use mathlib.Core.Option.{some, some-ne-none}
use lib.ListN.{get_elem?}
use native.Mathlib.Decide.{ℕ_discrete}
use Rattle.atomic_table.proofs.Lists.{at_set, set_here, set_else}

module _ {V : Type 0} where
  -- what is known of each view, where one changes
  pub views_stay : (K K' : ℕ → V → Type 0) (vs : List V) (me : ℕ) (w : V) → K' me w
      → ((j : ℕ) (v : V) → j ≢ me → get_elem? vs j ≡ some v → K j v → K' j v)
      → ((j : ℕ) (v : V) → get_elem? vs j ≡ some v → K j v)
      → (j : ℕ) (v : V) → get_elem? (set vs me w) j ≡ some v → K' j v
  views_stay K K' vs me w mine others all j v at =
      ⊎_elim (λ (t : (j ≡ me) × (w ≡ v)). subst (λ (p : ℕ × V). K' p.0 p.1) (λ i. (sym t.0 i, t.1 i)) mine)
      (λ (t : (j ≢ me) × (get_elem? vs j ≡ some v)). others j v t.0 t.1 (all j v t.1)) (at_set vs me j w v at)

  pub inside : (vs : List V) (j : ℕ) (v : V) → get_elem? vs j ≡ some v → j < length vs
  inside [] j v e = absurd (some-ne-none v (sym e))
  inside (x ∷ vs) zero v e = omega arith
  inside (x ∷ vs) (suc j) v e = let r = inside vs j v e in omega arith

  -- the changed one
  pub changed_at : (vs : List V) (me : ℕ) (v w : V) → get_elem? vs me ≡ some v → get_elem? (set vs me w) me ≡ some w
  changed_at vs me v w at = set_here vs me w (inside vs me v at)

  -- what some view has is still had where one view changes and keeps it
  pub still : (P : V → Type 0) (vs : List V) (id j : ℕ) (v w x : V) → get_elem? vs id ≡ some v → (P v → P w)
      → get_elem? vs j ≡ some x → P x → (y : V) × (get_elem? (set vs id w) j ≡ some y) × P y
  still P vs id j v w x at keeps there p = dite (ℕ_discrete j id)
      (λ same. let e : some x ≡ some v = sym there ∙ ap (get_elem? vs) same ∙ at in
      let q : x ≡ v = cc e in
      (w, ap (get_elem? (set vs id w)) same ∙ changed_at vs id v w at, keeps (subst P q p)))
      (λ other. (x, set_else vs id j w other ∙ there, p))
