-- The greatest number of a position, item by item.
use Rattle.std.proofs.Common.{◌≡◌, ℕ, ◌+◌, ◌<◌, ◌≤◌, ◌⊎◌, inl, inr, max, List, [], ◌∷◌, ◌++◌, length, get_or, take, sym}
use Rattle.std.proofs.Common.{◌∙◌, ap, subst, arith}
use Rattle.std.specs.Prelude.{All, Any}
use Rattle.std.proofs.lemmas.List.{take_more}
use Rattle.std.proofs.lemmas.List.Elements.{All-push, All-weaker, Contains-push}
use Rattle.ts_base.specs.Vectors.{Position, Entry, Vector}
use Rattle.ts_vector.specs.Changes.{IsGreatest}
use Rattle.ts_vector.proofs.Rising.{any_of}
use Rattle.ts_vector.proofs.Merging.{any_left}

greater : (g n : ℕ) → (max g n ≡ g) ⊎ (max g n ≡ n)
greater g n = grind arith

pub step_bound : (ps : List Position) (k : ℕ) (p : Position) (g h : ℕ) → k < length ps → p ≡ get_or ps k p
    → h ≡ max g p.at → All (λ q. q.at ≤ g) (take k ps) → All (λ q. q.at ≤ h) (take (k + 1) ps)
step_bound ps k p g h lt is e all =
    let le : p.at ≤ h = omega arith in
    let t : take (k + 1) ps ≡ take k ps ++ p ∷ [] = take_more ps k p lt ∙ ap (λ q. take k ps ++ q ∷ []) (sym is) in
    subst (All (λ q. q.at ≤ h)) (sym t) (All-push (λ q. q.at ≤ h) (take k ps) p
    (All-weaker (λ q. q.at ≤ g) (λ q. q.at ≤ h) (λ q le. omega arith) (take k ps) all) le)

pub step_met : (ps : List Position) (k : ℕ) (p : Position) (from g h : ℕ) → k < length ps → p ≡ get_or ps k p
    → h ≡ max g p.at
    → (g ≡ from) ⊎ Any (λ q. q.at ≡ g) (take k ps) → (h ≡ from) ⊎ Any (λ q. q.at ≡ h) (take (k + 1) ps)
step_met ps k p from g h lt is e met =
    let t : take (k + 1) ps ≡ take k ps ++ p ∷ [] = take_more ps k p lt ∙ ap (λ q. take k ps ++ q ∷ []) (sym is) in
    elim (greater g p.at) [
      | inl s ↦ let z : h ≡ g = e ∙ s in elim met [
        | inl f ↦ inl (z ∙ f)
        | inr a ↦ inr (subst (Any (λ q. q.at ≡ h)) (sym t)
            (any_left (λ q. q.at ≡ h) (take k ps) (p ∷ []) (subst (λ n. Any (λ q. q.at ≡ n) (take k ps)) (sym z) a)))
      ]
      | inr s ↦ inr (subst (Any (λ q. q.at ≡ h)) (sym t)
          (any_of (λ q. q.at ≡ h) (take k ps ++ p ∷ []) p (Contains-push (take k ps) p) (sym (e ∙ s))))
    ]

pub step_entry : (done : Vector) (e : Entry) (g h : ℕ) → IsGreatest done g → g ≤ h → All (λ p. p.at ≤ h) e.positions
    → (h ≡ g) ⊎ Any (λ p. p.at ≡ h) e.positions → IsGreatest (done ++ e ∷ []) h
step_entry done e g h greatest le bound met = record {
  bound = All-push (λ e. All (λ p. p.at ≤ h) e.positions) done e
      (All-weaker (λ e. All (λ p. p.at ≤ g) e.positions) (λ e. All (λ p. p.at ≤ h) e.positions)
      (λ e a. All-weaker (λ p. p.at ≤ g) (λ p. p.at ≤ h) (λ p b. omega arith) e.positions a) done greatest.bound) bound;
  met = elim met [
    | inl s ↦ elim greatest.met [
      | inl z ↦ inl (s ∙ z)
      | inr a ↦ inr (any_left (λ e. Any (λ p. p.at ≡ h) e.positions) done (e ∷ [])
          (subst (λ n. Any (λ e. Any (λ p. p.at ≡ n) e.positions) done) (sym s) a))
    ]
    | inr a ↦ inr (any_of (λ e. Any (λ p. p.at ≡ h) e.positions) (done ++ e ∷ []) e (Contains-push done e) a)
  ];
}
