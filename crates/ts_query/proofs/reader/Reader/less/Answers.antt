use Rattle.std.proofs.Common.{◌≢◌, ap, refl, arith}
use Rattle.ts_base.specs.Bytes.{IsDigit}
use Rattle.ts_query.specs.Inner.Lexer.{behind_less, in_digits}
use Rattle.ts_query.specs.declared.reader.State.TheVariants.{Less}
use Rattle.ts_base.proofs.Characters.{encode_some}
use Rattle.ts_query.proofs.Lexing.{less_never}
use Rattle.ts_query.proofs.Steps.{dash_step, number_step}
use Rattle.ts_query.proofs.Standing.{lexer_in, silent_moved, left_stuck}
use Rattle.ts_query.proofs.reader.Reader.less.Goals as goal

pub returns-then-c-eq45 : goal.returns-then-c-eq45
returns-then-c-eq45 c at s h =
    silent_moved c.args.self.now _ s at _ _ _ h (lexer_in c.args.self.now Less c.requires) refl refl refl refl (λ f. f)
    (dash_step at c.args.self.now.start c.args.c c.if-c-eq45.true)

pub returns-then-c-le57 : goal.returns-then-c-le57
returns-then-c-le57 c at s h =
    let d : IsDigit c.args.c = omega arith in
    silent_moved c.args.self.now _ s at _ _ _ h (lexer_in c.args.self.now Less c.requires)
    (ap (λ n. in_digits c.args.self.now.start n) c.longer-self.ensures) refl refl refl (λ f. f)
    (number_step at c.args.self.now.start c.args.c d)

record Other (b : Prim.Native.Nat.ℕ) : Type 0 where
  no_digit : ¬ IsDigit b
  no_dash : b ≢ 45

pub returns : goal.returns
returns c at s h =
    let f = encode_some Other c.args.c (λ _. record { no_digit = λ d. grind arith; no_dash = c.if-c-eq45.false })
    (λ b w. record { no_digit = λ d. omega arith; no_dash = λ e. omega arith }) in
    left_stuck c.args.self.now s _ f.0 f.1 (behind_less c.args.self.now.start) f.2 h
    (lexer_in c.args.self.now Less c.requires)
    (λ n u ks. less_never n c.args.self.now.start f.0 u ks f.3.no_digit f.3.no_dash)
