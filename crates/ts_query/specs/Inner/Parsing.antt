-- What a parser holds in memory.
use Rattle.std.specs.Prelude.{◌≡◌, ℕ, suc, ◌<◌, ◌≤◌, List, [], ◌∷◌, ◌++◌, map, Bool, true, false, Option, Some, None}
use Rattle.std.specs.String.{string_bytes}
use Rattle.ts_query.specs.Queries.{Operand, Joint, or_joint, and_joint, phrase_joint, Tree, Query}
use Rattle.ts_query.specs.Tokens.{QueryToken, operand}
use Rattle.ts_query.specs.Postfix.{Item, operand_item, not_item, joint_item, postfix, postfix_of}
use Rattle.ts_query.specs.Inner.Frames.{Frame, open_frame, not_frame, joint_frame, need, On, NoTighter, Spot, start}
use Rattle.ts_query.specs.Inner.Frames.{due, held, SpotRest, Sorted, outs_of}
use Rattle.ts_query.specs.declared.parser.Link.{Link}
use Rattle.ts_query.specs.declared.parser.Link.TheVariants.{Or, And, Phrase}
use Rattle.ts_query.specs.declared.parser.Op.{Op}
use Rattle.ts_query.specs.declared.parser.Op.TheVariants.{Open, Not, Pending}
use Rattle.ts_query.specs.declared.parser.Word.{Word}
use Rattle.ts_query.specs.declared.parser.Entry.{Entry}
use Rattle.ts_query.specs.declared.parser.Entry.TheVariants as entry
use Rattle.ts_query.specs.declared.parser.Place.TheVariants.{Start, Due, Held}
use Rattle.ts_query.specs.declared.parser.Parser.{Parser}

abbrev pub link_joint : Link → Joint
link_joint Or = or_joint
link_joint And = and_joint
link_joint (Phrase n) = phrase_joint n

abbrev pub joint_link : Joint → Link
joint_link or_joint = Or
joint_link and_joint = And
joint_link (phrase_joint n) = Phrase n

abbrev pub word_operand : Word → Operand
word_operand w = operand (string_bytes w.lexeme) w.weights w.prefix

abbrev pub entry_item : Entry → Item
entry_item (entry.Operand w) = operand_item (word_operand w)
entry_item entry.Not = not_item
entry_item (entry.Joined k) = joint_item (link_joint k)

-- the open operators, from the outermost frame on
abbrev pub ops_of : List Frame → List Op
ops_of [] = []
ops_of (open_frame ∷ fs) = ops_of fs ++ Open ∷ []
ops_of (not_frame ∷ fs) = ops_of fs ++ Not ∷ []
ops_of (joint_frame i x ∷ fs) = ops_of fs ++ Pending (joint_link i) ∷ []

pub record ShowsStart (p : Parser) : Type 0 where
  pub place : p.place ≡ Start
  pub ops : p.ops.items ≡ []
  pub out : map entry_item p.out.items ≡ []

pub record ShowsDue (p : Parser) (fs : List Frame) : Type 0 where
  pub place : p.place ≡ Due
  pub ops : p.ops.items ≡ ops_of fs
  pub out : map entry_item p.out.items ≡ outs_of fs
  pub sorted : Sorted fs

pub record ShowsHeld (p : Parser) (j : ℕ) (fs : List Frame) (y : Tree) : Type 0 where
  pub place : p.place ≡ Held
  pub ops : p.ops.items ≡ ops_of fs
  pub out : map entry_item p.out.items ≡ outs_of fs ++ postfix y
  pub sorted : Sorted fs
  pub above : need fs ≤ j
  pub below : j ≤ 4

abbrev pub Shows : Parser → Spot → Type 0
Shows p start = ShowsStart p
Shows p (due fs) = ShowsDue p fs
Shows p (held fs y) = ShowsHeld p 4 fs y

-- the token k leads from the old spot to the new one, and what may follow is the same
pub record Takes (old : Spot) (k : QueryToken) (new : Spot) : Type 0 where
  pub goes_on : (u : List QueryToken) (q : Query) → SpotRest new u q → SpotRest old (k ∷ u) q
  pub came_so : (u : List QueryToken) (q : Query) → SpotRest old (k ∷ u) q → SpotRest new u q

pub record Took (old : Spot) (k : QueryToken) (p : Parser) : Type 0 where
  pub new : Spot
  pub shows : Shows p new
  pub takes : Takes old k new

pub record Never (s : Spot) (k : QueryToken) : Type 0 where
  pub never : (u : List QueryToken) (q : Query) → ¬ SpotRest s (k ∷ u) q

abbrev pub TookOrNever : Spot → QueryToken → Bool → Parser → Type 0
TookOrNever s k true p = Took s k p
TookOrNever s k false p = Never s k

-- operators of the level l and tighter are applied: what may follow is the same, if no tighter one comes
pub record Same (l j : ℕ) (fs : List Frame) (y : Tree) (j' : ℕ) (fs' : List Frame) (y' : Tree) : Type 0 where
  pub to : (u : List QueryToken) (t : Tree) → NoTighter (suc l) u → On j fs y u t → On j' fs' y' u t
  pub from : (u : List QueryToken) (t : Tree) → NoTighter (suc l) u → On j' fs' y' u t
      → On j fs y u t

pub record Applied (l j : ℕ) (fs : List Frame) (y : Tree) (p : Parser) : Type 0 where
  pub j' : ℕ
  pub fs' : List Frame
  pub y' : Tree
  pub shows : ShowsHeld p j' fs' y'
  pub tight : l < j → l < j'
  pub same : Same l j fs y j' fs' y'

pub record Over (l j : ℕ) (fs : List Frame) (y : Tree) (p : Parser) : Type 0 where
  pub shows : ShowsHeld p j fs y
  pub over : need fs ≤ l

abbrev pub AppliedOne : Bool → ℕ → ℕ → List Frame → Tree → Parser → Type 0
AppliedOne true l j fs y p = Applied l j fs y p
AppliedOne false l j fs y p = Over l j fs y p

pub record AppliedAll (l j : ℕ) (fs : List Frame) (y : Tree) (p : Parser) : Type 0 where
  pub applied : Applied l j fs y p
  pub over : need applied.fs' ≤ l

-- the tokens may end here, and spell the query whose postfix list is out
pub record SpellsOut (s : Spot) (out : List Item) : Type 0 where
  pub query : Query
  pub is : out ≡ postfix_of query
  pub found : SpotRest s [] query
  pub only : (q : Query) → SpotRest s [] q → q ≡ query

pub record NeverEnds (s : Spot) : Type 0 where
  pub never : (q : Query) → ¬ SpotRest s [] q

abbrev pub QueryEnd : Spot → Option (List Item) → Type 0
QueryEnd s (Some out) = SpellsOut s out
QueryEnd s None = NeverEnds s
