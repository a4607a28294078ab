-- What a class of queries means, and when its judge is sound.
use Rattle.std.specs.Prelude.{◌≡◌, ◌≢◌, ℕ, Bool, true, false, List, [], ◌∷◌, ◌++◌, map, Contains, ⊤}
use Rattle.ts_base.specs.declared.Tri.{Tri}
use Rattle.ts_base.specs.declared.Tri.TheVariants.{False, Maybe, True}
use Rattle.ts_base.specs.Vectors.{Vector}
use Rattle.ts_base.specs.Keys.{Key, keys_of}

-- a key that a query asks for; a prefix stands for each key that begins with it
pub record Asked : Type 0 where
  pub key : Key
  pub prefix : Bool

-- its keys, whether it reads the whole index, the vectors that satisfy it, and the judge's answer to a value for
-- each key
pub record Meaning (Q : Type 0) : Type 1 where
  pub asked : Q → List Asked
  pub all : Q → Bool
  pub satisfies : Q → Vector → Type 0
  pub judged : Q → List Tri → Tri

abbrev pub meaning : {Q : Type 0} → (Q → List Asked) → (Q → Bool) → (Q → Vector → Type 0) → (Q → List Tri → Tri)
    → Meaning Q
meaning a b c d = record { asked = a; all = b; satisfies = c; judged = d }

-- the key that is asked for, or one that begins with it
abbrev pub FitsAsked : Asked → Key → Type 0
FitsAsked a k = by a.prefix
  where
    by : Bool → Type 0
    by false = k ≡ a.key
    by true = (rest : List ℕ) × (k ≡ a.key ++ rest)

abbrev pub HasKey : Vector → Asked → Type 0
HasKey v a = (k : Key) × Contains (keys_of v) k × FitsAsked a k

-- what is said of a fact: False only where it is not so, True only where it is
abbrev pub SoundValue : Type 0 → Tri → Type 0
SoundValue P False = ¬ P
SoundValue P Maybe = ⊤
SoundValue P True = P

-- a value for each element, of the fact on it
abbrev pub SoundValues : {A : Type 0} → (A → Type 0) → List A → List Tri → Type 0
SoundValues P [] [] = ⊤
SoundValues P [] (t ∷ ts) = ⊥
SoundValues P (x ∷ xs) [] = ⊥
SoundValues P (x ∷ xs) (t ∷ ts) = SoundValue (P x) t × SoundValues P xs ts

-- For sound values True says that the vector satisfies the query, and False that it does not.
-- The whole index is read for a query of which not even False for each key excludes a vector.
pub record JudgeIsSound {Q : Type 0} (M : Meaning Q) : Type 0 where
  pub yes : (q : Q) (v : Vector) (values : List Tri) → SoundValues (HasKey v) (M.asked q) values
      → M.judged q values ≡ True → M.satisfies q v
  pub no : (q : Q) (v : Vector) (values : List Tri) → SoundValues (HasKey v) (M.asked q) values
      → M.judged q values ≡ False → ¬ M.satisfies q v
  pub whole : (q : Q) → M.judged q (map (λ a. False) (M.asked q)) ≢ False → M.all q ≡ true
