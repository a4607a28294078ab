-- Vectors made of vectors.
use Rattle.std.specs.Prelude.{◌≡◌, ℕ, ◌+◌, ◌<◌, ◌≤◌, ◌⊎◌, List, [], ◌++◌, map, All, Any}
use Rattle.ts_base.specs.declared.TheConstants.{SIZE_LIMIT}
use Rattle.ts_base.specs.declared.Weight.{Weight}
use Rattle.ts_base.specs.Vectors.{Position, Entry, Vector, content_size}
use Rattle.ts_vector.specs.Normal.{IsNormalFormOf}

-- the normal form of these items, within the limit
pub record IsBuiltOf (items : List Entry) (vector : Vector) : Type 0 where
  pub form : IsNormalFormOf items vector
  pub small : content_size vector < SIZE_LIMIT

-- without positions
abbrev pub stripped : Vector → Vector
stripped vector = map (λ entry. record { lexeme = entry.lexeme; positions = [] }) vector

-- at each position with that weight
abbrev pub weighted : Weight → Position → Position
weighted weight p = record { at = p.at; weight = weight }

abbrev pub reweighted : Weight → Vector → Vector
reweighted weight vector =
    map
    (λ entry. record { lexeme = entry.lexeme; positions = map (weighted weight) entry.positions }) vector

-- the greatest number of a position, 0 where there is none
pub record IsGreatest (vector : Vector) (n : ℕ) : Type 0 where
  pub bound : All (λ entry. All (λ p. p.at ≤ n) entry.positions) vector
  pub met : (n ≡ 0) ⊎ Any (λ entry. Any (λ p. p.at ≡ n) entry.positions) vector

abbrev pub moved_position : ℕ → Position → Position
moved_position n p = record { at = p.at + n; weight = p.weight }

-- each position n later
abbrev pub shifted : ℕ → Vector → List Entry
shifted n vector =
    map
    (λ entry. record { lexeme = entry.lexeme; positions = map (moved_position n) entry.positions }) vector

-- the normal form of the entries of both, the second's positions after the first's greatest
abbrev pub IsJoinOf : Vector → Vector → Vector → Type 0
IsJoinOf first second vector = (n : ℕ) × IsGreatest first n
    × IsNormalFormOf (first ++ shifted n second) vector × (content_size vector < SIZE_LIMIT)
