-- The keys of the index: lexemes, and one that stands for a document without lexemes.
use Rattle.std.specs.Prelude.{◌≡◌, ℕ, List, [], ◌∷◌, map, All, AllPairs}
use Rattle.std.specs.Ordering.{nat_cmp}
use Rattle.std.specs.Cmp.Lexicographic.{slice_cmp}
use Rattle.std.specs.declared.cmp.Ordering.{Ordering}
use Rattle.std.specs.declared.cmp.Ordering.TheVariants.{Less}
use Rattle.ts_base.specs.Lexemes.{IsLexeme}
use Rattle.ts_base.specs.Vectors.{Vector, IsNormal}

-- a key is a list of bytes
abbrev pub Key : Type 0
Key = List ℕ

-- the key of a lexeme is the byte 0 and the lexeme
abbrev pub lexeme_key : List ℕ → Key
lexeme_key lexeme = 0 ∷ lexeme

-- the placeholder is the byte 1 alone
abbrev pub placeholder : Key
placeholder = 1 ∷ []

pub data IsKey : Key → Type 0 where
  of_lexeme : (lexeme : List ℕ) → IsLexeme lexeme → IsKey (0 ∷ lexeme)
  of_none : IsKey (1 ∷ [])

-- keys are in the order of their bytes: the first byte that differs decides, and a proper prefix comes first
abbrev pub key_order : Key → Key → Ordering
key_order a b = slice_cmp nat_cmp a b

abbrev pub or_placeholder : List Key → List Key
or_placeholder [] = placeholder ∷ []
or_placeholder (k ∷ ks) = k ∷ ks

-- the keys of a vector: those of its lexemes, or the placeholder alone
abbrev pub keys_of : Vector → List Key
keys_of v = or_placeholder (map (λ e. lexeme_key e.lexeme) v)

-- a vector's keys are keys, and are in key order, each once
abbrev pub KeysRise : Type 0
KeysRise =
    (v : Vector) → IsNormal v → All IsKey (keys_of v) × AllPairs (λ a b. key_order a b ≡ Less) (keys_of v)
