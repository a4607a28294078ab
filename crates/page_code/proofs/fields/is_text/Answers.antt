use Rattle.std.proofs.Common.{sym}
use Rattle.std.proofs.lemmas.Str.{IsUtf8-from_ascii, is_utf8-from_IsUtf8}
use Rattle.page_code.proofs.Passing.{text_tested}
use Rattle.page_code.proofs.fields.is_text.Goals as goal

pub returns-then-is_ascii : goal.returns-then-is_ascii
returns-then-is_ascii c = sym
    (is_utf8-from_IsUtf8 c.args.bytes.now (IsUtf8-from_ascii c.args.bytes.now (c.is_ascii.ensures c.if-is_ascii.true)))

pub returns : goal.returns
returns c =
    text_tested _ _ c.args.bytes.now c.from_utf8.result c.is_ok.result c.from_utf8.ensures.cases c.is_ok.ensures.value
