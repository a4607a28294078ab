use Rattle.std.proofs.Common.{ℕ, ◌≡◌, ◌≢◌, [], length, ap, ◌∙◌, subst, false, arith}
use Rattle.std.specs.String.{string_bytes}
use Rattle.ts_query.specs.Tokens.{word, operand, no_weights}
use Rattle.ts_query.specs.Inner.Lexer.{behind_quote, in_quoted}
use Rattle.ts_query.specs.Inner.Reader.{lexer_of, Gave}
use Rattle.ts_query.specs.declared.reader.State.TheVariants.{Quote, InQuoted, Between}
use Rattle.std.proofs.lemmas.Bool.Decides.{nat_tests}
use Rattle.ts_base.proofs.Characters.{encode_some, no_bytes}
use Rattle.ts_query.proofs.Lexing.{quote_ready, empty_quote_never}
use Rattle.ts_query.proofs.Steps.{doubled_step, quoted_colon_step}
use Rattle.ts_query.proofs.Standing.{lexer_in, lexer_with, fits_in, silent_moved, gave_stepped, holds_after, left_stuck}
use Rattle.ts_query.proofs.reader.Reader.quote.Goals as goal

pub returns-then-c-eq39 : goal.returns-then-c-eq39
returns-then-c-eq39 c s h =
    silent_moved c.args.self.now c.put.new.self s c.args.at _ _ _ h (lexer_in c.args.self.now Quote c.requires)
    (lexer_with c.put.new.self in_quoted _ _
    (lexer_in c.put.new.self InQuoted c.in_ok-put.ensures.state) c.in_ok-put.ensures.start c.in_ok-put.ensures.word)
    c.in_ok-put.ensures.keeps.parser c.in_ok-put.ensures.keeps.far c.in_ok-put.ensures.keeps.long (λ f. f)
    (doubled_step c.args.at c.args.self.now.start (string_bytes c.args.self.now.word) c.args.c c.if-c-eq39.true)

pub returns-then-is_empty : goal.returns-then-is_empty
returns-then-is_empty c s h =
    let z : length c.as_str.result.now ≡ 0 = grind (arith, nat_tests) in
    let f = encode_some (λ b. b ≢ 39) c.args.c (λ _. c.if-c-eq39.false) (λ b w e. omega arith) in
    left_stuck c.args.self.now s _ f.0 f.1 (behind_quote c.args.self.now.start (string_bytes c.args.self.now.word)) f.2
    h (lexer_in c.args.self.now Quote c.requires)
    (λ n u ks. empty_quote_never n c.args.self.now.start f.0 (string_bytes c.args.self.now.word) u ks
    (no_bytes (string_bytes c.args.self.now.word) c.as_str.result.now c.as_str.ensures.value z) f.3)

pub returns-then-c-eq58 : goal.returns-then-c-eq58
returns-then-c-eq58 c s h =
    let ne : string_bytes c.args.self.now.word ≢ [] = λ e. let z = ap length (c.as_str.ensures.value ∙ e) in
    grind (arith, nat_tests) in
    silent_moved c.args.self.now c.begin_marks.new.self s c.args.at _ _ _ h (lexer_in c.args.self.now Quote c.requires)
    (ap lexer_of c.begin_marks.ensures)
    (ap (λ r. r.parser) c.begin_marks.ensures) (ap (λ r. r.far) c.begin_marks.ensures)
    (ap (λ r. r.long) c.begin_marks.ensures) (λ f. f)
    (quoted_colon_step c.args.at c.args.self.now.start (string_bytes c.args.self.now.word) c.args.c ne c.if-c-eq58.true)

record Other (b : ℕ) : Type 0 where
  no_quote : b ≢ 39
  no_colon : b ≢ 58

pub returns : goal.returns
returns c s h =
    let ne : string_bytes c.args.self.now.word ≢ [] = λ e. let z = ap length (c.as_str.ensures.value ∙ e) in
    grind (arith, nat_tests) in
    let f = encode_some Other c.args.c (λ _. record { no_quote = c.if-c-eq39.false; no_colon = c.if-c-eq58.false })
    (λ b w. record { no_quote = λ e. omega arith; no_colon = λ e. omega arith }) in
    let lx = behind_quote c.args.self.now.start (string_bytes c.args.self.now.word) in
    let is = lexer_in c.args.self.now Quote c.requires in
    let k = word c.args.self.now.start (operand (string_bytes c.args.self.now.word) no_weights false) in
    let g : Gave s.spot s.tokens (word c.args.self.now.start
    (operand (string_bytes c.args.self.now.word) no_weights false)) c.end_word.new.self =
    subst (λ w. Gave s.spot s.tokens (word c.args.self.now.start (operand (string_bytes c.args.self.now.word) w false))
    c.end_word.new.self) c.none.ensures
    (c.in_ok-end_word.ensures.gave s.spot s.tokens (fits_in c.args.self.now s (behind_quote c.args.self.now.start
    (string_bytes c.args.self.now.word)) h (lexer_in c.args.self.now Quote c.requires)) h.tracks) in
    gave_stepped c.args.self.now c.end_word.new.self c.between.new.self s c.args.at _ f.0 f.1 c.in_ok-ok.ok
    (behind_quote c.args.self.now.start (string_bytes c.args.self.now.word))
    (word c.args.self.now.start (operand (string_bytes c.args.self.now.word) no_weights false)) f.2 h
    (lexer_in c.args.self.now Quote c.requires) g
    (λ n u. quote_ready n c.args.self.now.start (string_bytes c.args.self.now.word) f.0 u ne f.3.no_quote f.3.no_colon)
    (c.in_ok-ok.ensures _ (holds_after c.end_word.new.self s
    (word c.args.self.now.start (operand (string_bytes c.args.self.now.word) no_weights false)) g
    (lexer_in c.end_word.new.self Between c.in_ok-end_word.ensures.state)))
