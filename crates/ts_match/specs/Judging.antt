-- What can be said of a query when of each operand only a little is known.
use Rattle.std.specs.Prelude.{◌≡◌, Bool, true, if◌then◌else◌, List, [], ◌∷◌, drop, length, None, Some}
use Rattle.std.specs.List.{list_any}
use Rattle.ts_base.specs.declared.Tri.{Tri}
use Rattle.ts_base.specs.declared.Tri.TheVariants.{False, Maybe, True}
use Rattle.ts_base.specs.Vectors.{Vector}
use Rattle.ts_query.specs.declared.query.Operand.{Operand}
use Rattle.ts_query.specs.Queries.{Tree, leaf, negated, joined, or_joint, and_joint, phrase_joint, Query, operands_in}
use Rattle.ts_query.specs.Queries.{operands_of}
use Rattle.gin_opclass.specs.Class.{SoundValues}
use Rattle.ts_match.specs.Meaning.{names, asks_any, Holds}

-- False is below Maybe, and Maybe below True
abbrev pub least : Tri → Tri → Tri
least False y = False
least Maybe False = False
least Maybe Maybe = Maybe
least Maybe True = Maybe
least True y = y

abbrev pub greatest : Tri → Tri → Tri
greatest True y = True
greatest Maybe True = True
greatest Maybe Maybe = Maybe
greatest Maybe False = Maybe
greatest False y = y

abbrev pub opposite : Tri → Tri
opposite False = True
opposite Maybe = Maybe
opposite True = False

abbrev pub at_most_maybe : Tri → Tri
at_most_maybe False = False
at_most_maybe Maybe = Maybe
at_most_maybe True = Maybe

-- what is given of an operand; where it asks for weights, True is no more than Maybe
abbrev pub given : Operand → List Tri → Tri
given o [] = Maybe
given o (t ∷ ts) = if asks_any o.weights then t else at_most_maybe t

-- the values after those of the operands of x
abbrev pub right_values : Tree → List Tri → List Tri
right_values x values = drop (length (operands_in x)) values

-- within a phrase; the values are those from the first operand on
abbrev pub judged_in : Tree → List Tri → Tri
judged_in (leaf o) values = at_most_maybe (given o values)
judged_in (negated x) values = Maybe
judged_in (joined or_joint x y) values = greatest (judged_in x values) (judged_in y (right_values x values))
judged_in (joined and_joint x y) values = least (judged_in x values) (judged_in y (right_values x values))
judged_in (joined (phrase_joint n) x y) values = least (judged_in x values) (judged_in y (right_values x values))

abbrev pub judged_of : Tree → List Tri → Tri
judged_of (leaf o) values = given o values
judged_of (negated x) values = opposite (judged_of x values)
judged_of (joined or_joint x y) values = greatest (judged_of x values) (judged_of y (right_values x values))
judged_of (joined and_joint x y) values = least (judged_of x values) (judged_of y (right_values x values))
judged_of (joined (phrase_joint n) x y) values = judged_in (joined (phrase_joint n) x y) values

-- the answer, by a value for each operand in the order of the text
abbrev pub judged : Query → List Tri → Tri
judged None values = False
judged (Some t) values = judged_of t values

-- the vector has a lexeme that the operand names, whatever its weights
abbrev pub has_lexeme : Operand → Vector → Bool
has_lexeme o v = list_any (λ e. names o e.lexeme) v

pub record IsJudged (q : Query) (v : Vector) (answer : Tri) : Type 0 where
  pub yes : answer ≡ True → Holds q v
  pub never : answer ≡ False → ¬ Holds q v

-- for sound values, by whether the vector has the lexeme of each operand, True says that the query holds, and False
-- that it does not
abbrev pub JudgesWell : Type 0
JudgesWell = (q : Query) (v : Vector) (values : List Tri)
    → SoundValues (λ o. has_lexeme o v ≡ true) (operands_of q) values → IsJudged q v (judged q values)
