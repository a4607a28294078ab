use Rattle.std.specs.String.{string_bytes}
use Rattle.ts_query.specs.Inner.Lexer.{in_quoted, in_plain}
use Rattle.ts_query.specs.declared.reader.State.TheVariants.{QuotedEscape, InQuoted, PlainEscape, InPlain}
use Rattle.ts_query.proofs.Steps.{quoted_escaped_step, plain_escaped_step}
use Rattle.ts_query.proofs.Standing.{lexer_in, lexer_with, silent_moved}
use Rattle.ts_query.proofs.reader.Reader.step.Goals as goal

pub returns-in_ok-put-in-QuotedEscape : goal.returns-in_ok-put-in-QuotedEscape
returns-in_ok-put-in-QuotedEscape c s h =
    silent_moved c.args.self.now c.put.new.self s c.args.at _ _ _ h
    (lexer_in c.args.self.now QuotedEscape c.in-QuotedEscape.is)
    (lexer_with c.put.new.self in_quoted _ _
    (lexer_in c.put.new.self InQuoted c.in_ok-put-in-QuotedEscape.ensures.state)
    c.in_ok-put-in-QuotedEscape.ensures.start c.in_ok-put-in-QuotedEscape.ensures.word)
    c.in_ok-put-in-QuotedEscape.ensures.keeps.parser c.in_ok-put-in-QuotedEscape.ensures.keeps.far
    c.in_ok-put-in-QuotedEscape.ensures.keeps.long (λ f. f)
    (quoted_escaped_step c.args.at c.args.self.now.start (string_bytes c.args.self.now.word) c.args.c)

pub returns-in_ok-put-in-PlainEscape : goal.returns-in_ok-put-in-PlainEscape
returns-in_ok-put-in-PlainEscape c s h =
    silent_moved c.args.self.now c.put-in-PlainEscape.new.self s c.args.at _ _ _ h
    (lexer_in c.args.self.now PlainEscape c.in-PlainEscape.is)
    (lexer_with c.put-in-PlainEscape.new.self in_plain _ _
    (lexer_in c.put-in-PlainEscape.new.self InPlain c.in_ok-put-in-PlainEscape.ensures.state)
    c.in_ok-put-in-PlainEscape.ensures.start c.in_ok-put-in-PlainEscape.ensures.word)
    c.in_ok-put-in-PlainEscape.ensures.keeps.parser c.in_ok-put-in-PlainEscape.ensures.keeps.far
    c.in_ok-put-in-PlainEscape.ensures.keeps.long (λ f. f)
    (plain_escaped_step c.args.at c.args.self.now.start (string_bytes c.args.self.now.word) c.args.c)
