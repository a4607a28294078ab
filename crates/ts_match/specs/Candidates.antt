-- Finitely many places decide where a phrase holds.
use Rattle.std.specs.Prelude.{◌↔◌, ℕ, ◌+◌, ◌<◌, ℤ, pos, ◌+ℤ◌, ◌-ℤ◌, IsTrue, List, [], ◌∷◌, ◌++◌, map, Contains, All}
use Rattle.std.specs.List.{flat_map}
use Rattle.ts_base.specs.Vectors.{Vector}
use Rattle.ts_query.specs.declared.query.Operand.{Operand}
use Rattle.ts_query.specs.Queries.{Tree, leaf, negated, joined, or_joint, and_joint, phrase_joint}
use Rattle.ts_match.specs.Meaning.{places, is_place, width, at, HoldsSomewhere}

-- the operands, each with its offset: how far it is after the beginning of the phrase, where the tree begins at `from`
abbrev pub offsets : Tree → ℕ → List (Operand × ℕ)
offsets (leaf o) from = (o, from) ∷ []
offsets (negated x) from = offsets x from
offsets (joined or_joint x y) from = offsets x from ++ offsets y from
offsets (joined and_joint x y) from = offsets x from ++ offsets y from
offsets (joined (phrase_joint n) x y) from = offsets x from ++ offsets y (from + (width x + n))

-- the place of the tree where an operand of this offset is at p
abbrev pub place_by : Tree → ℕ → ℕ → ℤ
place_by t offset p = (pos p -ℤ pos offset) +ℤ pos (width t)

-- each place at which some operand is where it has a position; and the end of a phrase that begins at 0 at the
-- latest, where none is
abbrev pub candidates : Vector → Tree → List ℤ
candidates v t = nowhere ∷ flat_map (λ k. map (place_by t k.1) (places k.0 v)) (offsets t 0)
  where
    nowhere : ℤ
    nowhere = pos 0

-- positions are numbered from 1
abbrev pub HasNoZero : Vector → Type 0
HasNoZero v = All (λ e. All (λ p. 0 < p.at) e.positions) v

abbrev pub CandidatesSuffice : Type 0
CandidatesSuffice = (v : Vector) (t : Tree) → HasNoZero v
    → HoldsSomewhere v t ↔ ((i : ℤ) × Contains (candidates v t) i × IsTrue (at v t i))

-- operands that are neither under a `!` nor under a `|`, each with its offset
abbrev pub needed : Tree → ℕ → List (Operand × ℕ)
needed (leaf o) from = (o, from) ∷ []
needed (negated x) from = []
needed (joined or_joint x y) from = []
needed (joined and_joint x y) from = needed x from ++ needed y from
needed (joined (phrase_joint n) x y) from = needed x from ++ needed y (from + (width x + n))

-- where a phrase holds, each operand that it needs has a position
abbrev pub NeededHave : Type 0
NeededHave = (v : Vector) (t : Tree) (i : ℤ) → IsTrue (at v t i) → (o : Operand) (offset : ℕ)
    → Contains (needed t 0) (o, offset) → IsTrue (is_place (places o v) ((i -ℤ pos (width t)) +ℤ pos offset))
