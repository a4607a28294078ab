use Rattle.std.proofs.Common.{◌≢◌, [], length, ap, ◌∙◌, subst, false, arith}
use Rattle.std.specs.String.{string_bytes}
use Rattle.std.proofs.lemmas.Bool.Decides.{nat_tests}
use Rattle.ts_query.specs.Tokens.{word, operand, no_weights}
use Rattle.ts_query.specs.Inner.Lexer.{behind_quote, in_plain, in_marks}
use Rattle.ts_query.specs.Inner.Reader.{Gave}
use Rattle.ts_query.specs.declared.reader.State.TheVariants.{Quote, InPlain, InMarks, Between}
use Rattle.ts_query.proofs.Lexing.{quote_ready_end, plain_ready_end, marks_ready}
use Rattle.ts_query.proofs.Ending.{gave_finished}
use Rattle.ts_query.proofs.Standing.{lexer_in, fits_in, holds_after}
use Rattle.ts_query.proofs.reader.Reader.finish.Goals as goal

pub returns-in_ok-outcome-in-Quote : goal.returns-in_ok-outcome-in-Quote
returns-in_ok-outcome-in-Quote c s h =
    let ne : string_bytes c.args.self.word ≢ [] = λ e. let z = ap length (c.as_str.ensures.value ∙ e) in
    grind (arith, nat_tests) in
    let is = lexer_in c.args.self Quote c.in-Quote.is in
    let g : Gave s.spot s.tokens (word c.args.self.start (operand (string_bytes c.args.self.word) no_weights false))
    c.end_word.new.self =
    subst (λ w. Gave s.spot s.tokens (word c.args.self.start (operand (string_bytes c.args.self.word) w false))
    c.end_word.new.self) c.none.ensures
    (c.in_ok-end_word-in-Quote.ensures.gave s.spot s.tokens (fits_in c.args.self s (behind_quote c.args.self.start
    (string_bytes c.args.self.word)) h (lexer_in c.args.self Quote c.in-Quote.is)) h.tracks) in
    gave_finished c.args.self c.end_word.new.self s (behind_quote c.args.self.start (string_bytes c.args.self.word))
    (word c.args.self.start (operand (string_bytes c.args.self.word) no_weights false)) h
    (lexer_in c.args.self Quote c.in-Quote.is) g
    (λ n. quote_ready_end n c.args.self.start (string_bytes c.args.self.word) ne) _
    (c.in_ok-outcome-in-Quote.ensures _ (holds_after c.end_word.new.self s
    (word c.args.self.start (operand (string_bytes c.args.self.word) no_weights false)) g
    (lexer_in c.end_word.new.self Between c.in_ok-end_word-in-Quote.ensures.state)))

pub returns-in_ok-outcome-in-InPlain : goal.returns-in_ok-outcome-in-InPlain
returns-in_ok-outcome-in-InPlain c s h =
    let is = lexer_in c.args.self InPlain c.in-InPlain.is in
    let g : Gave s.spot s.tokens (word c.args.self.start (operand (string_bytes c.args.self.word) no_weights false))
    c.end_word-in-InPlain.new.self =
    subst (λ w. Gave s.spot s.tokens (word c.args.self.start (operand (string_bytes c.args.self.word) w false))
    c.end_word-in-InPlain.new.self) c.none-in-InPlain.ensures
    (c.in_ok-end_word-in-InPlain.ensures.gave s.spot s.tokens (fits_in c.args.self s (in_plain c.args.self.start
    (string_bytes c.args.self.word)) h (lexer_in c.args.self InPlain c.in-InPlain.is)) h.tracks) in
    gave_finished c.args.self c.end_word-in-InPlain.new.self s
    (in_plain c.args.self.start (string_bytes c.args.self.word)) (word c.args.self.start
    (operand (string_bytes c.args.self.word) no_weights false)) h (lexer_in c.args.self InPlain c.in-InPlain.is) g
    (λ n. plain_ready_end n c.args.self.start (string_bytes c.args.self.word)) _
    (c.in_ok-outcome-in-InPlain.ensures _ (holds_after c.end_word-in-InPlain.new.self s
    (word c.args.self.start (operand (string_bytes c.args.self.word) no_weights false)) g
    (lexer_in c.end_word-in-InPlain.new.self Between c.in_ok-end_word-in-InPlain.ensures.state)))

pub returns-in_ok-outcome-in-InMarks : goal.returns-in_ok-outcome-in-InMarks
returns-in_ok-outcome-in-InMarks c s h =
    let is = lexer_in c.args.self InMarks c.in-InMarks.is in
    let g = c.in_ok-end_word-in-InMarks.ensures.gave s.spot s.tokens (fits_in c.args.self s
    (in_marks c.args.self.start (string_bytes c.args.self.word) c.args.self.weights c.args.self.prefix) h
    (lexer_in c.args.self InMarks c.in-InMarks.is)) h.tracks in
    gave_finished c.args.self c.end_word-in-InMarks.new.self s
    (in_marks c.args.self.start (string_bytes c.args.self.word) c.args.self.weights c.args.self.prefix)
    (word c.args.self.start (operand (string_bytes c.args.self.word) c.args.self.weights c.args.self.prefix)) h
    (lexer_in c.args.self InMarks c.in-InMarks.is) g
    (λ n. marks_ready n c.args.self.start (string_bytes c.args.self.word) c.args.self.weights c.args.self.prefix []
    (λ x. x)) _
    (c.in_ok-outcome-in-InMarks.ensures _ (holds_after c.end_word-in-InMarks.new.self s
    (word c.args.self.start (operand (string_bytes c.args.self.word) c.args.self.weights c.args.self.prefix)) g
    (lexer_in c.end_word-in-InMarks.new.self Between c.in_ok-end_word-in-InMarks.ensures.state)))
