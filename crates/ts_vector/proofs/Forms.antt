-- Items have one normal form.
use Rattle.std.proofs.Common.{◌≡◌, ℕ, ◌<◌, List, take, sym, ap, subst, ◌∙◌, arith}
use Rattle.std.specs.Prelude.{Contains}
use Rattle.std.specs.Ordering.{nat_cmp, ordering_reverse}
use Rattle.std.specs.declared.cmp.Ordering.TheVariants.{Less, Greater}
use Rattle.std.specs.Cmp.Lexicographic.{slice_cmp, nat_list_cmp_total}
use Rattle.std.proofs.lemmas.List.Elements.{All-contains}
use Rattle.ts_base.specs.Lexemes.{IsBefore}
use Rattle.ts_base.specs.Vectors.{Position, Entry, Vector}
use Rattle.ts_vector.specs.Normal.{Names, IsHighest, ListsPositions, IsPlaced, IsNormalFormOf}
use Rattle.ts_vector.proofs.Rising.{of_any, same_rising}

pub before_one_way : (a b : List ℕ) → IsBefore a b → ¬ IsBefore b a
before_one_way a b h k =
    let e : slice_cmp nat_cmp a b ≡ ordering_reverse (slice_cmp nat_cmp b a) = nat_list_cmp_total.antisymm a b in
    let g : Less ≡ Greater = sym h ∙ e ∙ ap ordering_reverse k in
    cc

module _ (items : List Entry) where
  positions_one : (l : List ℕ) (ps qs : List Position) → ListsPositions items l ps → ListsPositions items l qs → ps ≡ qs
  positions_one l ps qs h k =
      same_rising (λ p q. p.at < q.at) (λ p q lt gt. omega arith) ps qs h.rising k.rising
      (λ p c. k.each p (All-contains (IsHighest items l) ps p h.only c))
      (λ p c. h.each p (All-contains (IsHighest items l) qs p k.only c))

  placed_one : (e f : Entry) → f.lexeme ≡ e.lexeme → IsPlaced items e → IsPlaced items f → f ≡ e
  placed_one e f same (ps, h, is) (qs, k, are) =
      let k' : ListsPositions items e.lexeme qs = subst (λ l. ListsPositions items l qs) same k in
      let p : f.positions ≡ e.positions = are ∙ ap (λ l. take 256 l) (positions_one e.lexeme qs ps k' h) ∙ sym is in
      λ i. record { lexeme = same i; positions = p i }

  entry_in : (v w : Vector) → IsNormalFormOf items v → IsNormalFormOf items w → (e : Entry) → Contains v e
      → Contains w e
  entry_in v w h k e c =
      let n = k.each e.lexeme (All-contains (λ f. Names items f.lexeme) v e h.only c) in
      let f = of_any (λ f. f.lexeme ≡ e.lexeme) w n in
      let same = placed_one e f.0 f.2 (All-contains (IsPlaced items) v e h.placed c)
      (All-contains (IsPlaced items) w f.0 k.placed f.1) in
      subst (λ g. Contains w g) same f.1

  pub normal_form_one : (v w : Vector) → IsNormalFormOf items v → IsNormalFormOf items w → v ≡ w
  normal_form_one v w h k =
      same_rising (λ a b. IsBefore a.lexeme b.lexeme) (λ a b. before_one_way a.lexeme b.lexeme) v w h.rising k.rising
      (entry_in v w h k) (entry_in w v k h)
