-- Pages in rising order, each once.
use Rattle.std.specs.Prelude.{ℕ, ◌<◌, ⊤, List, [], ◌∷◌}

-- each of these pages is above p
abbrev pub AreAbove : ℕ → List ℕ → Type 0
AreAbove p [] = ⊤
AreAbove p (q ∷ qs) = (p < q) × AreAbove p qs

-- each page is below those after it
abbrev pub AreRising : List ℕ → Type 0
AreRising [] = ⊤
AreRising (p ∷ ps) = AreAbove p ps × AreRising ps

-- rising pages, and how many more have room
pub record RisingPages : Type 0 where
  pub pages : List ℕ
  pub left : ℕ
