-- How far the walks through the tree have come, key by key.
use Rattle.std.specs.Prelude.{◌≡◌, ℕ, ◌+◌, Bool, cond, ⊤, List, [], ◌∷◌, ◌++◌, map, length}
use Rattle.std.specs.Prelude.{Some, None}
use Rattle.std.specs.List.{slice_get}
use Rattle.core_state.specs.Readings.{Read}
use Rattle.gin_opclass.specs.Class.{Asked}
use Rattle.core_moments.specs.Walk.{Sought, KeyWalk}
use Rattle.core_moments.specs.Walk.{sought_of}
use Rattle.core_moments.specs.OpenWalk.{NamedTree, IsOnWay, IsAmongLeaves, IsInTrees}

-- what the walks look for, one after another
abbrev pub sought_by : Bool → List Asked → List Sought
sought_by all order = cond all (Sought.whole ∷ []) (map sought_of order)

-- ── all walks ──

-- a walk for each of these, and each is so
abbrev pub AreEach : (KeyWalk → Type 0) → List Sought → List KeyWalk → Type 0
AreEach Is [] [] = ⊤
AreEach Is [] (w ∷ ws) = ⊥
AreEach Is (s ∷ ss) [] = ⊥
AreEach Is (s ∷ ss) (w ∷ ws) = (w.sought ≡ s) × Is w × AreEach Is ss ws

-- A walk for each of the first so many of these is over, and of the next one as much was read as this says, for what it
-- looks for.
pub record AreWalks (IsOver : KeyWalk → Type 0) (sought : List Sought) (key : ℕ)
    (Open : Sought → List KeyWalk → Type 0) (ks : List KeyWalk) : Type 0 where
  pub done : List Sought
  pub rest : List Sought
  pub parts : done ++ rest ≡ sought
  pub count : length done ≡ key
  pub over : List KeyWalk
  pub are_over : AreEach IsOver done over
  pub last : List KeyWalk
  pub walks : ks ≡ over ++ last
  pub begun : (s : Sought) → slice_get sought key ≡ Some s → Open s last
  pub ended : slice_get sought key ≡ None → last ≡ []

-- one walk, which looks for this and leads down to this page
pub data IsGoingDown (p : ℕ) (s : Sought) : List KeyWalk → Type 0 where
  on_way : (w : KeyWalk) → w.sought ≡ s → IsOnWay w p → IsGoingDown p s (w ∷ [])

-- and along leaves, of whose trees the reads are so
pub data IsGoingAlong (Is : ℕ → List Read → Type 0) (p : ℕ) (s : Sought) : List KeyWalk → Type 0 where
  among_leaves : (w : KeyWalk) → w.sought ≡ s → IsAmongLeaves Is w p → IsGoingAlong Is p s (w ∷ [])

-- and in the first of these posting trees, which the last leaf names, of which so many pages may still be read
pub data IsGoingInTrees (Is : ℕ → List Read → Type 0) (p left extent : ℕ) (trees : List NamedTree) (next : ℕ)
    (s : Sought) : List KeyWalk → Type 0 where
  in_trees : (w : KeyWalk) → w.sought ≡ s → (rest : List NamedTree) → (t : IsInTrees Is w p rest next)
      → trees ≡ t.tree ∷ rest → left + length t.last ≡ extent → IsGoingInTrees Is p left extent trees next s (w ∷ [])
