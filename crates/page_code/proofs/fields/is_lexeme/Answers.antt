use Rattle.std.proofs.Common.{◌≤◌, length}
use Rattle.page_code.proofs.Passing.{some_from, lexeme_tested}
use Rattle.page_code.proofs.fields.is_lexeme.Goals as goal

pub returns-then-text-le-MOST_KEY_TEXT : goal.returns-then-text-le-MOST_KEY_TEXT
returns-then-text-le-MOST_KEY_TEXT c =
    let some : 1 ≤ length c.args.text.now =
    some_from c.args.text.now c.is_empty.result c.if-text-le-MOST_KEY_TEXT.true.0 c.is_empty.ensures in
    lexeme_tested c.args.text.now c.is_text.result some c.if-text-le-MOST_KEY_TEXT.true.1 c.is_text.ensures
