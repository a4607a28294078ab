-- Stop operands, whose text has no lexemes, and their removal from a query.
use Rattle.std.specs.Prelude.{ℕ, suc, ◌+◌, max, List, [], ◌∷◌, ◌++◌, Some, None}
use Rattle.std.specs.Option.{option_map}
use Rattle.ts_query.specs.declared.query.Operand.{Operand}
use Rattle.ts_query.specs.Queries.{Joint, or_joint, and_joint, phrase_joint, Tree, leaf, negated, joined, Query}
use Rattle.ts_make.specs.Trees.{near}

-- a query's tree with its stop operands
pub data Sketch : Type 0 where
  stop : Sketch
  kept : Operand → Sketch
  not_sketch : Sketch → Sketch
  joint_sketch : Joint → Sketch → Sketch → Sketch

-- a stop operand counts as one node
abbrev pub sketch_nodes : Sketch → ℕ
sketch_nodes stop = 1
sketch_nodes (kept o) = 1
sketch_nodes (not_sketch x) = suc (sketch_nodes x)
sketch_nodes (joint_sketch j x y) = suc (sketch_nodes x + sketch_nodes y)

-- the operands that are none of these, in the order of the text
abbrev pub sketch_operands : Sketch → List Operand
sketch_operands stop = []
sketch_operands (kept o) = o ∷ []
sketch_operands (not_sketch x) = sketch_operands x
sketch_operands (joint_sketch j x y) = sketch_operands x ++ sketch_operands y

-- a tree without stop operands
abbrev pub sketch_of : Tree → Sketch
sketch_of (leaf o) = kept o
sketch_of (negated x) = not_sketch (sketch_of x)
sketch_of (joined j x y) = joint_sketch j (sketch_of x) (sketch_of y)

-- What is left of a part, and the distances that the stop operands at its ends leave: `left` from
-- where the part begins to
-- where what is left of it begins, `right` after it likewise.
pub record Cleaned : Type 0 where
  pub query : Query
  pub left : ℕ
  pub right : ℕ

abbrev pub cleaned : Query → ℕ → ℕ → Cleaned
cleaned query left right = record { query = query; left = near left; right = near right }

-- Under a phrase operator the distances add up; where an operand is gone, its distances and the
-- operator's go to that end.
abbrev pub clean_phrase : ℕ → Cleaned → Cleaned → Query → Query → Cleaned
clean_phrase n x y (Some a) (Some b) =
    cleaned (Some (joined (phrase_joint (near (n + x.right + y.left))) a b)) x.left y.right
clean_phrase n x y (Some a) None = cleaned (Some a) x.left (x.right + n + y.right)
clean_phrase n x y None (Some b) = cleaned (Some b) (x.left + n + y.left) y.right
clean_phrase n x y None None = cleaned None (x.left + n + y.left) (x.left + n + y.left)

-- Under `&` and `|` the operand that is there is alone; of two that are gone the greater
-- distance is left.
abbrev pub clean_pair : Joint → Cleaned → Cleaned → Query → Query → Cleaned
clean_pair j x y (Some a) (Some b) = cleaned (Some (joined j a b)) 0 0
clean_pair j x y (Some a) None = x
clean_pair j x y None (Some b) = y
clean_pair j x y None None = cleaned None (max x.left y.left) (max x.left y.left)

abbrev pub clean_joint : Joint → Cleaned → Cleaned → Cleaned
clean_joint (phrase_joint n) x y = clean_phrase n x y x.query y.query
clean_joint and_joint x y = clean_pair and_joint x y x.query y.query
clean_joint or_joint x y = clean_pair or_joint x y x.query y.query

abbrev pub clean_not : Cleaned → Cleaned
clean_not x = record { query = option_map negated x.query; left = x.left; right = x.right }

-- the stop operands removed
abbrev pub clean : Sketch → Cleaned
clean stop = cleaned None 0 0
clean (kept o) = cleaned (Some (leaf o)) 0 0
clean (not_sketch x) = clean_not (clean x)
clean (joint_sketch j x y) = clean_joint j (clean x) (clean y)

-- of one sketch, or none, what is left; nothing is the empty query
abbrev pub query_left : List Sketch → Query
query_left [] = None
query_left (d ∷ ds) = (clean d).query
