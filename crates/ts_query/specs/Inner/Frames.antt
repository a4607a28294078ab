-- What a parser has read, and what may still follow it.
use Rattle.std.specs.Prelude.{ℕ, suc, ◌<◌, ◌≤◌, List, [], ◌∷◌, ◌++◌, Some, None}
use Rattle.ts_query.specs.Queries.{Joint, Tree, negated, joined, Query}
use Rattle.ts_query.specs.Tokens.{QueryToken, word, bang, opening, closing, sign}
use Rattle.ts_query.specs.Grammar.{level, Expr, Tail, Spells}
use Rattle.ts_query.specs.Postfix.{Item, postfix}

-- what is open, innermost first: a bracket, a `!`, or an operator with its left operand
pub data Frame : Type 0 where
  open_frame : Frame
  not_frame : Frame
  joint_frame : Joint → Tree → Frame

-- the level of the operand that the innermost frame waits for
abbrev pub need : List Frame → ℕ
need [] = 0
need (open_frame ∷ fs) = 0
need (not_frame ∷ fs) = 3
need (joint_frame j x ∷ fs) = suc (level j)

-- y, of the level j, is made a z of the level l by the operators after it
pub data Climb : ℕ → ℕ → Tree → List QueryToken → Tree → List QueryToken → Type 0 where
  here : (l : ℕ) (y : Tree) (r : List QueryToken) → Climb l l y r y r
  unary : (l : ℕ) (y z : Tree) (u r : List QueryToken) → Climb 3 l y u z r → Climb 4 l y u z r
  tail : (k l : ℕ) (y x z : Tree) (u m r : List QueryToken) → k < 3 → Tail k y u x m
      → Climb k l x m z r → Climb (suc k) l y u z r

mutual
  -- after the operand y that the innermost frame waited for: what follows, and the whole tree
  pub data After : List Frame → Tree → List QueryToken → Tree → Type 0 where
    at_end : (y : Tree) → After [] y [] y
    at_close : (fs : List Frame) (y t : Tree) (u : List QueryToken) → On 4 fs y u t
        → After (open_frame ∷ fs) y (closing ∷ u) t
    at_not : (fs : List Frame) (y t : Tree) (u : List QueryToken) → On 3 fs (negated y) u t
        → After (not_frame ∷ fs) y u t
    at_joint : (fs : List Frame) (j : Joint) (x y t : Tree) (u : List QueryToken)
        → On (suc (level j)) fs (joined j x y) u t → After (joint_frame j x ∷ fs) y u t

  -- after an expression y of the level j
  pub data On : ℕ → List Frame → Tree → List QueryToken → Tree → Type 0 where
    on : (j : ℕ) (fs : List Frame) (y z t : Tree) (u m : List QueryToken)
        → Climb j (need fs) y u z m → After fs z m t → On j fs y u t

-- an operand is due
pub data Want : List Frame → List QueryToken → Tree → Type 0 where
  want : (fs : List Frame) (y t : Tree) (u m : List QueryToken) → Expr (need fs) y u m
      → After fs y m t → Want fs u t

-- no operator of the level l or tighter comes next
abbrev pub NoTighter : ℕ → List QueryToken → Type 0
NoTighter l [] = Unit {0}
NoTighter l (word s o ∷ u) = Unit {0}
NoTighter l (bang ∷ u) = Unit {0}
NoTighter l (opening ∷ u) = Unit {0}
NoTighter l (closing ∷ u) = Unit {0}
NoTighter l (sign s j ∷ u) = level j < l

-- where the parser is: nothing was read, an operand is due, or one is there
pub data Spot : Type 0 where
  start : Spot
  due : List Frame → Spot
  held : List Frame → Tree → Spot

abbrev pub IsDue : Spot → Type 0
IsDue start = Unit {0}
IsDue (due fs) = Unit {0}
IsDue (held fs y) = ⊥

abbrev pub IsHeld : Spot → Type 0
IsHeld start = ⊥
IsHeld (due fs) = ⊥
IsHeld (held fs y) = Unit {0}

-- the tokens that may still follow, and the whole query
abbrev pub SpotRest : Spot → List QueryToken → Query → Type 0
SpotRest start u q = Spells u q
SpotRest (due fs) u None = ⊥
SpotRest (due fs) u (Some t) = Want fs u t
SpotRest (held fs y) u None = ⊥
SpotRest (held fs y) u (Some t) = On 4 fs y u t

-- each operator is on looser ones, up to a bracket
abbrev pub Sorted : List Frame → Type 0
Sorted [] = Unit {0}
Sorted (open_frame ∷ fs) = Sorted fs
Sorted (not_frame ∷ fs) = Sorted fs
Sorted (joint_frame i x ∷ fs) = (need fs ≤ level i) × Sorted fs

-- the left operands, from the outermost frame on
abbrev pub outs_of : List Frame → List Item
outs_of [] = []
outs_of (open_frame ∷ fs) = outs_of fs
outs_of (not_frame ∷ fs) = outs_of fs
outs_of (joint_frame i x ∷ fs) = outs_of fs ++ postfix x
