-- A fault has one place, and a text with a fault is outside the grammar.
use Rattle.std.proofs.Common.{◌≡◌, ℕ, ◌+◌, ◌<◌, ◌≤◌, ◌⊎◌, inl, inr, List, ◌++◌, length, take, drop, sym, subst, ap, ◌∙◌}
use Rattle.std.proofs.Common.{append_assoc, arith}
use Rattle.std.proofs.lemmas.List.{take-append-drop, take-take}
use Rattle.ts_base.specs.Fault.{FaultAt, Viable}

below : (a b : ℕ) → a ≤ b → (a < b) ⊎ (a ≡ b)
below a b h = grind arith

order : (a b : ℕ) → (a ≡ b) ⊎ ((a < b) ⊎ (b < a))
order a b = grind arith

module _ (G : List ℕ → Type 0) (text : List ℕ) where
  whole_viable : (n : ℕ) → G text → Viable G (take n text)
  whole_viable n g = (drop n text, subst G (sym (take-append-drop n text)) g)

  front_viable : (n m : ℕ) → n ≤ m → Viable G (take m text) → Viable G (take n text)
  front_viable n m h v =
      let f : take n (take m text) ≡ take n text = take-take n m text h in
      let s : take m text ≡ take n text ++ drop n (take m text) =
      sym (take-append-drop n (take m text)) ∙ ap (λ l. l ++ drop n (take m text)) f in (
        drop n (take m text) ++ v.0,
        subst G (ap (λ l. l ++ v.0) s ∙ append_assoc (take n text) (drop n (take m text)) v.0) v.1,
      )

  pub fault_outside : (at : ℕ) → FaultAt G text at → ¬ G text
  fault_outside at f g =
      let w : at ≤ length text = f.within in
      elim (below at (length text) w) [ inl lt ↦ f.after lt (whole_viable (at + 1) g) | inr e ↦ f.ending e g ]

  not_before : (a b : ℕ) → a < b → FaultAt G text a → ¬ FaultAt G text b
  not_before a b lt f g =
      let w : b ≤ length text = g.within in f.after (omega arith) (front_viable (a + 1) b (omega arith) g.before)

  pub fault_one : (a b : ℕ) → FaultAt G text a → FaultAt G text b → a ≡ b
  fault_one a b f g = elim (order a b) [
    | inl e ↦ e
    | inr o ↦ elim o [ inl lt ↦ absurd (not_before a b lt f g) | inr gt ↦ absurd (not_before b a gt g f) ]
  ]
