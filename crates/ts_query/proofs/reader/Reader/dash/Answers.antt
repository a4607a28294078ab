use Rattle.std.proofs.Common.{◌≢◌, ◌++◌, sym, subst, arith}
use Rattle.ts_query.specs.Queries.{phrase_joint}
use Rattle.ts_query.specs.Tokens.{sign}
use Rattle.ts_query.specs.Inner.Lexer.{behind_dash, Ready}
use Rattle.ts_query.specs.declared.reader.State.TheVariants.{Dash, Between}
use Rattle.ts_base.proofs.Characters.{encode_some, one_byte}
use Rattle.ts_query.proofs.Lexing.{dash_ready, dash_never}
use Rattle.ts_query.proofs.Standing.{lexer_in, fits_in, gave_moved, left_stuck}
use Rattle.ts_query.proofs.reader.Reader.dash.Goals as goal

pub returns-then-c-eq62 : goal.returns-then-c-eq62
returns-then-c-eq62 c at s h =
    let e = one_byte c.args.c 62 c.if-c-eq62.true (omega arith) in
    gave_moved c.args.self.now c.end_link.new.self s at _ (behind_dash c.args.self.now.start)
    (sign c.args.self.now.start (phrase_joint 1)) h (lexer_in c.args.self.now Dash c.requires)
    (lexer_in c.end_link.new.self Between c.in_ok-end_link.ensures.state)
    (c.in_ok-end_link.ensures.gave s.spot s.tokens (fits_in c.args.self.now s (behind_dash c.args.self.now.start) h
    (lexer_in c.args.self.now Dash c.requires)) h.tracks)
    (λ n u _. subst (λ b. Ready n (behind_dash c.args.self.now.start) (sign c.args.self.now.start (phrase_joint 1))
    (b ++ u) u) (sym e) (dash_ready n c.args.self.now.start u))

pub returns : goal.returns
returns c at s h =
    let f = encode_some (λ b. b ≢ 62) c.args.c (λ _. c.if-c-eq62.false) (λ b w e. omega arith) in
    left_stuck c.args.self.now s _ f.0 f.1 (behind_dash c.args.self.now.start) f.2 h
    (lexer_in c.args.self.now Dash c.requires)
    (λ n u ks. dash_never n c.args.self.now.start f.0 u ks f.3)
