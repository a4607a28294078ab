-- The front of a text, up to the first byte that is not of a kind.
use Rattle.std.proofs.Common.{◌≡◌, ℕ, List, [], ◌∷◌, ◌++◌, refl, sym, ◌∙◌, ap, subst}
use Rattle.std.specs.Prelude.{All}
use Rattle.std.proofs.lemmas.List.Elements.{All-head, All-tail}
use Rattle.ts_base.specs.Bytes.{BeginsWithout}

pub same_front : (P : ℕ → Type 0) (a b x y : List ℕ) → All P a → All P b → BeginsWithout P x → BeginsWithout P y
    → a ++ x ≡ b ++ y → (a ≡ b) × (x ≡ y)
same_front P [] [] x y p q s t e = (refl, e)
same_front P [] (c ∷ b) x y p q s t e = absurd (subst (BeginsWithout P) e s (All-head P c b q))
same_front P (c ∷ a) [] x y p q s t e = absurd (subst (BeginsWithout P) (sym e) t (All-head P c a p))
same_front P (c ∷ a) (d ∷ b) x y p q s t e =
    let heads : c ≡ d = cc in
    let tails : a ++ x ≡ b ++ y = cc in
    let r : (a ≡ b) × (x ≡ y) = same_front P a b x y (All-tail P c a p) (All-tail P d b q) s t tails in
    (ap (λ z. z ∷ a) heads ∙ ap (λ z. d ∷ z) r.0, r.1)
