-- What is kept of the items that were met on two sides.
use Rattle.std.specs.Prelude.{◌≡◌, ◌↔◌, ℕ, ◌<◌, Bool, List, ◌++◌, Option}
use Rattle.std.specs.List.{All, AllPairs}
use Rattle.core_state.specs.Log.{In}
use Rattle.gin_opclass.specs.Class.{Meaning}
use Rattle.core_moments.specs.Walk.{Walk}
use Rattle.gin_hits.specs.Sides.{TellOfWalk, WasRead, MayBeKept, AreKeptOf}
use Rattle.gin_hits.specs.declared.hits.Hits.{Hits}

module _ {Q : Type 0} (M : Meaning Q) (q : Q) where
  -- the items that may be kept, rising; those of them that a walk keeps were added to what was kept
  pub record AreJudged (all : Bool) (pending main : Hits) (first : Option ℕ) (old new : List (ℕ × Bool)) : Type 0 where
    pub items : List ℕ
    pub rising : AllPairs (λ (i j : ℕ). i < j) items
    pub just : (i : ℕ) → In i items ↔ MayBeKept all pending main i
    pub kept : (w : Walk) → TellOfWalk (M.asked q) w pending main first → All (WasRead w) items
        → (more : List (ℕ × Bool)) × (new ≡ old ++ more) × AreKeptOf M q w items more
