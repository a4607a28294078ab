use Rattle.std.proofs.Common.{sym, ◌∙◌}
use Rattle.ts_match.proofs.Walks.{to_prefix}
use Rattle.ts_match.proofs.encoded.names.Goals as goal

pub returns-then-operand : goal.returns-then-operand
returns-then-operand c = c.begins_with.ensures ∙ sym (to_prefix c.args.operand.now c.args.lexeme.now c.if-operand.true)
