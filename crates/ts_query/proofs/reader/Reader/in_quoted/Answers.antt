use Rattle.std.proofs.Common.{◌≢◌, refl, arith}
use Rattle.std.specs.String.{string_bytes}
use Rattle.ts_query.specs.Inner.Lexer.{in_quoted}
use Rattle.ts_query.specs.declared.reader.State.TheVariants.{InQuoted}
use Rattle.ts_query.proofs.Steps.{quoted_quote_step, quoted_escape_step, quoted_step}
use Rattle.ts_query.proofs.Standing.{lexer_in, lexer_with, silent_moved}
use Rattle.ts_query.proofs.reader.Reader.in_quoted.Goals as goal

pub returns-in-39 : goal.returns-in-39
returns-in-39 c at s h =
    silent_moved c.args.self.now _ s at _ _ _ h (lexer_in c.args.self.now InQuoted c.requires) refl refl refl refl
    (λ f. f)
    (quoted_quote_step at c.args.self.now.start (string_bytes c.args.self.now.word) c.args.c c.in-39.is)

pub returns-in-92 : goal.returns-in-92
returns-in-92 c at s h =
    silent_moved c.args.self.now _ s at _ _ _ h (lexer_in c.args.self.now InQuoted c.requires) refl refl refl refl
    (λ f. f)
    (quoted_escape_step at c.args.self.now.start (string_bytes c.args.self.now.word) c.args.c c.in-92.is)

pub returns-in_ok-put-in_default : goal.returns-in_ok-put-in_default
returns-in_ok-put-in_default c at s h =
    let m : c.args.c ≢ 39 = omega arith in
    let k : c.args.c ≢ 92 = omega arith in
    let e = c.in_ok-put-in_default.ensures in
    silent_moved c.args.self.now c.put.new.self s at _ _ _ h (lexer_in c.args.self.now InQuoted c.requires)
    (lexer_with c.put.new.self in_quoted _ _ (lexer_in c.put.new.self InQuoted c.in_ok-put-in_default.ensures.state)
    c.in_ok-put-in_default.ensures.start c.in_ok-put-in_default.ensures.word)
    c.in_ok-put-in_default.ensures.keeps.parser c.in_ok-put-in_default.ensures.keeps.far
    c.in_ok-put-in_default.ensures.keeps.long (λ f. f)
    (quoted_step at c.args.self.now.start (string_bytes c.args.self.now.word) c.args.c m k)
