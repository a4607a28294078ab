use Rattle.std.proofs.Common.{sym, subst}
use Rattle.ts_query.specs.declared.query.Operand.{Operand}
use Rattle.ts_match.specs.Inner.Ranges.{NamesRange}
use Rattle.ts_match.proofs.Spares.{same_refl}
use Rattle.ts_match.proofs.matching.unit_value.Goals as goal

pub returns-in-Phrase-clause-phrase : goal.returns-in-Phrase-clause-phrase
returns-in-Phrase-clause-phrase c = λ n t e p. c.phrase_value.ensures.meaning t p

pub returns-in-Leaf-clause-bit_sets : goal.returns-in-Leaf-clause-bit_sets
returns-in-Leaf-clause-bit_sets c = same_refl _ _

pub meets-requires : goal.meets-requires
meets-requires c = subst (λ (o : Operand). NamesRange c.args.vector.now o c.found_for-range.result)
    (sym c.index-operands-k.is) (c.found_for-range.ensures c.index-operands-k.result)
