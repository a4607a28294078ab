use Rattle.std.proofs.Common.{◌≡◌, inl, inr, List, [], ◌∷◌, sym, ◌∙◌, ap}
use Rattle.ts_base.specs.Vectors.{Vector}
use Rattle.ts_match.specs.Meaning.{Holds}
use Rattle.engine.specs.Finding.{Document, Name, IsFound}
use Rattle.engine.proofs.laws.one_list.Goals as goal

found_once : (P : Vector → Type 0) (ds : List Document) (a b : List Name) → IsFound P ds a → IsFound P ds b → a ≡ b
found_once P [] a b h k = h ∙ sym k
found_once P (d ∷ ds) a b (inl h) (inl k) =
    h.1.1 ∙ ap (λ z. d.name ∷ z) (found_once P ds h.1.0 k.1.0 h.1.2 k.1.2) ∙ sym k.1.1
found_once P (d ∷ ds) a b (inl h) (inr k) = absurd (k.0 h.0)
found_once P (d ∷ ds) a b (inr h) (inl k) = absurd (h.0 k.0)
found_once P (d ∷ ds) a b (inr h) (inr k) = found_once P ds a b h.1 k.1

pub returns : goal.returns
returns c q = found_once (Holds q)
