-- The parts of a query's printed form.
use Rattle.std.specs.Prelude.{ℕ, suc, ◌+◌, List, [], ◌∷◌, ◌++◌, Bool, true, false, nat_lt, codes}
use Rattle.ts_query.specs.Queries.{Operand, Tree, leaf, negated, joined}
use Rattle.ts_query.specs.Grammar.{level}
use Rattle.ts_query.specs.Printing.{operand_text, joint_text}
use Rattle.ts_query.specs.Inner.Parsing.{link_joint, joint_link}
use Rattle.ts_query.specs.declared.query.Node.{Node}
use Rattle.ts_query.specs.declared.query.Node.TheVariants.{Leaf, Not, And, Or, Phrase}
use Rattle.ts_query.specs.declared.parser.Link.{Link}
use Rattle.ts_query.specs.declared.parser.Link.TheVariants as link
use Rattle.ts_query.specs.declared.print.Piece.{Piece}
use Rattle.ts_query.specs.declared.print.Piece.TheVariants.{Word, Bang, Joint as joint_piece, Open, Close}
use Rattle.ts_query.specs.declared.print.Task.{Task}
use Rattle.ts_query.specs.declared.print.Task.TheVariants.{Subtree, Part}

abbrev pub in_brackets : Bool → List Piece → List Piece
in_brackets true ps = Open ∷ (ps ++ Close ∷ [])
in_brackets false ps = ps

-- the parts of a tree where one of the level l is wanted
abbrev pub pieces_at : Tree → ℕ → List Piece
pieces_at (leaf o) l = Word ∷ []
pieces_at (negated x) l = in_brackets (nat_lt 3 l) (Bang ∷ pieces_at x 3)
pieces_at (joined j x y) l =
    in_brackets (nat_lt (level j) l)
    (pieces_at x (level j) ++ joint_piece (joint_link j) ∷ pieces_at y (suc (level j)))

-- the text of parts, with the operands in their order
abbrev pub text_of : List Piece → List Operand → List ℕ
text_of [] os = []
text_of (Word ∷ ps) [] = text_of ps []
text_of (Word ∷ ps) (o ∷ os) = operand_text o ++ text_of ps os
text_of (Bang ∷ ps) os = 33 ∷ text_of ps os
text_of (joint_piece k ∷ ps) os = joint_text (link_joint k) ++ text_of ps os
text_of (Open ∷ ps) os = codes "( " ++ text_of ps os
text_of (Close ∷ ps) os = codes " )" ++ text_of ps os

abbrev pub tasks_around : Bool → List Task → List Task
tasks_around true ts = Part Open ∷ (ts ++ Part Close ∷ [])
tasks_around false ts = ts

abbrev pub around : ℕ → ℕ → List Task → List Task
around own wanted ts = tasks_around (nat_lt own wanted) ts

abbrev pub link_tasks : Link → ℕ → List Task
link_tasks k wanted =
    around (level (link_joint k)) wanted
    (Subtree (level (link_joint k)) ∷ Part (joint_piece k) ∷ Subtree (level (link_joint k) + 1) ∷ [])

-- what a tree with this root is printed as
abbrev pub expansion : Node → ℕ → List Task
expansion (Leaf n) wanted = Part Word ∷ []
expansion Not wanted = around 3 wanted (Part Bang ∷ Subtree 3 ∷ [])
expansion And wanted = link_tasks link.And wanted
expansion Or wanted = link_tasks link.Or wanted
expansion (Phrase d) wanted = link_tasks (link.Phrase d) wanted
