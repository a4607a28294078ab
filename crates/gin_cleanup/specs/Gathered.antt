-- Keys that were gathered, each with items.
use Rattle.std.specs.Prelude.{◌≡◌, ◌≢◌, ◌↔◌, ◌⊎◌, ℕ, List, [], ◌∷◌, map, Vec}
use Rattle.std.specs.List.{AllByRecursion}
use Rattle.std.specs.List.Sorted.{IsStrictlyIncreasing}
use Rattle.std.specs.declared.alloc.Global.{Global}
use Rattle.ts_base.specs.Keys.{Key}
use Rattle.page_types.specs.Keys.{KeyLess}
use Rattle.page_types.specs.declared.page.Row.{Row}
use Rattle.core_state.specs.Log.{In}

abbrev pub KeyItems : Type 0
KeyItems = List (Key × List ℕ)

abbrev pub shown : List (Vec ℕ Global × Vec ℕ Global) → KeyItems
shown es = map (λ (e : Vec ℕ Global × Vec ℕ Global). (e.0.items, e.1.items)) es

-- no key is there without an item
abbrev pub HaveItems : KeyItems → Type 0
HaveItems es = AllByRecursion (λ (e : Key × List ℕ). e.1 ≢ []) es

-- the item is there under the key
abbrev pub Has : KeyItems → Key → ℕ → Type 0
Has es k i = (e : Key × List ℕ) × In e es × (e.0 ≡ k) × In i e.1

-- a row has the key and the item
abbrev pub HasPair : Row → Key → ℕ → Type 0
HasPair w k i = (w.item ≡ i) × In k w.keys

-- what was there stays, and of what comes each is one of these pairs
pub record GrowsBy (Come : Key → ℕ → Type 0) (old new : KeyItems) : Type 0 where
  pub keeps : (k : Key) (i : ℕ) → Has old k i → Has new k i
  pub just : (k : Key) (i : ℕ) → Has new k i → Has old k i ⊎ Come k i

-- the first key goes with its items, one or more, which rise, each once; those that are left are above it
pub record GivesFirst (old : KeyItems) (key : Key) (items : List ℕ) (new : KeyItems) : Type 0 where
  pub had : List ℕ
  pub first : old ≡ (key, had) ∷ new
  pub some : had ≢ []
  pub same : (i : ℕ) → In i items ↔ In i had
  pub rising : IsStrictlyIncreasing items
  pub above : AllByRecursion (λ (e : Key × List ℕ). KeyLess key e.0) new
