-- The printed form of a query.
use Rattle.std.specs.Prelude.{ℕ, suc, List, [], ◌∷◌, ◌++◌, Bool, true, false, ◌==◌, nat_lt, if◌then◌else◌, codes, Some}
use Rattle.std.specs.Prelude.{None}
use Rattle.std.specs.Fmt.{decimal}
use Rattle.ts_base.specs.Quoted.{quoted_text}
use Rattle.ts_query.specs.Queries.{Operand, Joint, or_joint, and_joint, phrase_joint, Tree, leaf, negated, joined}
use Rattle.ts_query.specs.Queries.{Query}
use Rattle.ts_query.specs.Grammar.{level}

abbrev pub only_if : Bool → ℕ → List ℕ
only_if true c = c ∷ []
only_if false c = []

-- `*` first, then the weights from A to D
abbrev pub marks_of : Operand → List ℕ
marks_of o =
    only_if o.prefix 42
    ++ (only_if o.weights.a 65
    ++ (only_if o.weights.b 66 ++ (only_if o.weights.c 67 ++ only_if o.weights.d 68)))

-- marks, if any, are after `:`
abbrev pub marks_text : List ℕ → List ℕ
marks_text [] = []
marks_text (c ∷ marks) = 58 ∷ c ∷ marks

abbrev pub operand_text : Operand → List ℕ
operand_text o = quoted_text o.lexeme ++ marks_text (marks_of o)

abbrev pub joint_text : Joint → List ℕ
joint_text or_joint = codes " | "
joint_text and_joint = codes " & "
joint_text (phrase_joint n) =
    if n == 1 then codes " <-> " else codes " <" ++ (decimal n ++ codes "> ")

abbrev pub bracketed : Bool → List ℕ → List ℕ
bracketed true text = codes "( " ++ (text ++ codes " )")
bracketed false text = text

-- The text of a tree where one of the level l is wanted. It is in brackets where its operator binds looser. A right
-- operand has to bind tighter than its operator, since operators group to the left.
abbrev pub printed_at : Tree → ℕ → List ℕ
printed_at (leaf o) l = operand_text o
printed_at (negated x) l = bracketed (nat_lt 3 l) (33 ∷ printed_at x 3)
printed_at (joined j x y) l =
    bracketed (nat_lt (level j) l)
    (printed_at x (level j) ++ (joint_text j ++ printed_at y (suc (level j))))

-- the empty query prints nothing
abbrev pub printed : Query → List ℕ
printed None = []
printed (Some t) = printed_at t 0
