-- Queries as a class of an index.
use Rattle.std.specs.Prelude.{Bool, true, false, not, List, length, map, replicate}
use Rattle.ts_base.specs.declared.Tri.{Tri}
use Rattle.ts_base.specs.declared.Tri.TheVariants.{False, Maybe, True}
use Rattle.ts_query.specs.declared.query.Operand.{Operand}
use Rattle.ts_query.specs.Queries.{Query, operands_of}
use Rattle.ts_base.specs.Keys.{lexeme_key}
use Rattle.gin_opclass.specs.Class.{Asked}
use Rattle.ts_match.specs.Judging.{judged}

-- the key of an operand's lexeme
abbrev pub asked_by : Operand → Asked
asked_by o = record { key = lexeme_key o.lexeme; prefix = o.prefix }

abbrev pub asked_of : Query → List Asked
asked_of q = map asked_by (operands_of q)

abbrev pub is_false : Tri → Bool
is_false False = true
is_false Maybe = false
is_false True = false

-- not even False for each operand excludes a vector
abbrev pub reads_all : Query → Bool
reads_all q = not (is_false (judged q (replicate (length (operands_of q)) False)))
