use Rattle.std.proofs.Common.{◌<◌, ◌⊎◌, [], ap, subst, false, refl, rules, arith}
use Rattle.std.proofs.lemmas.Str.{encode_ascii}
use Rattle.std.specs.String.{string_bytes}
use Rattle.ts_query.specs.Tokens.{word, operand, no_weights, IsDelimiter, EndsOperand}
use Rattle.ts_base.specs.Plain.{IsPlain}
use Rattle.ts_base.specs.Bytes.{IsWhite}
use Rattle.ts_query.specs.Inner.Lexer.{in_plain}
use Rattle.ts_query.specs.Inner.Reader.{lexer_of, Gave}
use Rattle.ts_query.specs.declared.reader.State.TheVariants.{InPlain, Between}
use Rattle.ts_query.proofs.Lexing.{plain_ready}
use Rattle.ts_query.proofs.Steps.{plain_escape_step, plain_colon_step, plain_more_step}
use Rattle.ts_query.proofs.Standing.{lexer_in, lexer_with, fits_in, silent_moved, gave_stepped, holds_after}
use Rattle.ts_query.proofs.reader.Reader.in_plain.Goals as goal

pub returns-then-c-eq92 : goal.returns-then-c-eq92
returns-then-c-eq92 c s h =
    silent_moved c.args.self.now _ s c.args.at _ _ _ h (lexer_in c.args.self.now InPlain c.requires) refl refl refl refl
    (λ f. f)
    (plain_escape_step c.args.at c.args.self.now.start (string_bytes c.args.self.now.word) c.args.c c.if-c-eq92.true)

pub returns-then-c-eq58 : goal.returns-then-c-eq58
returns-then-c-eq58 c s h =
    silent_moved c.args.self.now c.begin_marks.new.self s c.args.at _ _ _ h
    (lexer_in c.args.self.now InPlain c.requires) (ap lexer_of c.begin_marks.ensures)
    (ap (λ r. r.parser) c.begin_marks.ensures) (ap (λ r. r.far) c.begin_marks.ensures)
    (ap (λ r. r.long) c.begin_marks.ensures) (λ f. f)
    (plain_colon_step c.args.at c.args.self.now.start (string_bytes c.args.self.now.word) c.args.c c.if-c-eq58.true)

pub returns-then-ends_plain : goal.returns-then-ends_plain
returns-then-ends_plain c s h =
    let k : IsWhite c.args.c ⊎ IsDelimiter c.args.c = search rules in
    let small : c.args.c < 128 = grind arith in
    let lexeme = string_bytes c.args.self.now.word in
    let g : Gave s.spot s.tokens (word c.args.self.now.start
    (operand (string_bytes c.args.self.now.word) no_weights false)) c.end_word.new.self =
    subst (λ w. Gave s.spot s.tokens (word c.args.self.now.start (operand (string_bytes c.args.self.now.word) w false))
    c.end_word.new.self) c.none.ensures
    (c.in_ok-end_word.ensures.gave s.spot s.tokens (fits_in c.args.self.now s (in_plain c.args.self.now.start
    (string_bytes c.args.self.now.word)) h (lexer_in c.args.self.now InPlain c.requires)) h.tracks) in
    gave_stepped c.args.self.now c.end_word.new.self c.between.new.self s c.args.at _ c.args.c [] c.in_ok-ok.ok
    (in_plain c.args.self.now.start (string_bytes c.args.self.now.word))
    (word c.args.self.now.start (operand (string_bytes c.args.self.now.word) no_weights false))
    (encode_ascii c.args.c small) h (lexer_in c.args.self.now InPlain c.requires) g
    (λ n u. plain_ready n c.args.self.now.start (string_bytes c.args.self.now.word) c.args.c u k c.if-c-eq58.false)
    (c.in_ok-ok.ensures _ (holds_after c.end_word.new.self s
    (word c.args.self.now.start (operand (string_bytes c.args.self.now.word) no_weights false)) g
    (lexer_in c.end_word.new.self Between c.in_ok-end_word.ensures.state)))

pub returns : goal.returns
returns c s h =
    let e : ¬ (IsWhite c.args.c ⊎ IsDelimiter c.args.c) = search rules in
    let k : IsPlain EndsOperand c.args.c = record { no_end = e; no_escape = c.if-c-eq92.false } in
    silent_moved c.args.self.now c.put.new.self s c.args.at _ _ _ h (lexer_in c.args.self.now InPlain c.requires)
    (lexer_with c.put.new.self in_plain _ _
    (lexer_in c.put.new.self InPlain c.in_ok-put.ensures.state) c.in_ok-put.ensures.start c.in_ok-put.ensures.word)
    c.in_ok-put.ensures.keeps.parser c.in_ok-put.ensures.keeps.far c.in_ok-put.ensures.keeps.long (λ f. f)
    (plain_more_step c.args.at c.args.self.now.start (string_bytes c.args.self.now.word) c.args.c k)
