use Rattle.std.proofs.Common.{ℕ, ◌≢◌, ◌++◌, ap, ◌∙◌, sym, subst, refl, arith}
use Rattle.ts_query.specs.Queries.{phrase_joint}
use Rattle.ts_base.specs.Bytes.{IsDigit}
use Rattle.ts_query.specs.Tokens.{sign}
use Rattle.ts_query.specs.Inner.Lexer.{in_digits, Ready}
use Rattle.ts_query.specs.declared.reader.State.TheVariants.{Digits, Between}
use Rattle.ts_base.proofs.Characters.{encode_some, one_byte}
use Rattle.ts_query.proofs.Lexing.{digits_ready, digits_never}
use Rattle.ts_query.proofs.Steps.{digit_step}
use Rattle.ts_query.proofs.Standing.{lexer_in, fits_in, silent_moved, gave_moved, left_stuck}
use Rattle.ts_query.proofs.reader.Reader.digits.Goals as goal

pub returns-then-c-le57 : goal.returns-then-c-le57
returns-then-c-le57 c at s h =
    let d : IsDigit c.args.c = omega arith in
    silent_moved c.args.self.now _ s at _ _ _ h (lexer_in c.args.self.now Digits c.requires)
    (lexer_in (record c.args.self.now {
      distance = c.longer-self.result;
    }) Digits c.requires ∙ ap (λ n. in_digits c.args.self.now.start n) c.longer-self.ensures) refl refl refl (λ f. f)
    (digit_step at c.args.self.now.start c.args.c c.args.self.now.distance d)

pub returns-then-c-eq62 : goal.returns-then-c-eq62
returns-then-c-eq62 c at s h =
    let e = one_byte c.args.c 62 c.if-c-eq62.true (omega arith) in
    gave_moved c.args.self.now c.end_link.new.self s at _ (in_digits c.args.self.now.start c.args.self.now.distance)
    (sign c.args.self.now.start (phrase_joint c.args.self.now.distance)) h
    (lexer_in c.args.self.now Digits c.requires)
    (lexer_in c.end_link.new.self Between c.in_ok-end_link.ensures.state)
    (c.in_ok-end_link.ensures.gave s.spot s.tokens (fits_in c.args.self.now s (in_digits c.args.self.now.start
    c.args.self.now.distance) h (lexer_in c.args.self.now Digits c.requires)) h.tracks)
    (λ n u _. subst (λ b. Ready n (in_digits c.args.self.now.start c.args.self.now.distance)
    (sign c.args.self.now.start (phrase_joint c.args.self.now.distance)) (b ++ u) u) (sym e)
    (digits_ready n c.args.self.now.start c.args.self.now.distance u))

record Other (b : ℕ) : Type 0 where
  no_digit : ¬ IsDigit b
  no_end : b ≢ 62

pub returns : goal.returns
returns c at s h =
    let f = encode_some Other c.args.c (λ _. record { no_digit = λ d. grind arith; no_end = c.if-c-eq62.false })
    (λ b w. record { no_digit = λ d. omega arith; no_end = λ e. omega arith }) in
    left_stuck c.args.self.now s _ f.0 f.1 (in_digits c.args.self.now.start c.args.self.now.distance) f.2 h
    (lexer_in c.args.self.now Digits c.requires)
    (λ n u ks. digits_never n c.args.self.now.start c.args.self.now.distance f.0 u ks f.3.no_digit f.3.no_end)
