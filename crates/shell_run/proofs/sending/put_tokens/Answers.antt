use Rattle.std.proofs.Common.{◌≡◌, ◌++◌, ◌∷◌, [], true, false, arith, append_assoc, sym, ◌∙◌, ap, subst}
use Rattle.std.specs.List.{flat_map}
use Rattle.std.proofs.lemmas.List.{flat_map_more}
use Rattle.std.proofs.lemmas.Grind.{flat_map-append}
use Rattle.ts_parser.specs.TokensOf.{tokens_of}
use Rattle.shell_script.specs.Texts.{token_line}
use Rattle.shell_run.specs.Inner.Sending.{Sends}
use Rattle.shell_run.proofs.Streams.{puts_behind, puts_short}
use Rattle.shell_run.proofs.sending.put_tokens.Goals as goal

pub returns-in-Err-clause-text : goal.returns-in-Err-clause-text
returns-in-Err-clause-text g c =
    let done = c.loop-token.yielded in
    let left = c.next.new.self in
    let before = c.args.waiting.now.items ++ flat_map token_line done in
    let all : tokens_of c.args.text.now ≡ done ++ c.in-Some.token ∷ left =
    sym c.loop-token.invariant.0 ∙ ap (λ z. done ++ z) c.in-Some.ensures.steps in
    let text : (before ++ token_line c.in-Some.token) ++ flat_map token_line left
    ≡ c.args.waiting.now.items ++ flat_map token_line (tokens_of c.args.text.now) =
    append_assoc before (token_line c.in-Some.token) (flat_map token_line left)
    ∙ append_assoc c.args.waiting.now.items (flat_map token_line done)
    (token_line c.in-Some.token ++ flat_map token_line left)
    ∙ ap (λ z. c.args.waiting.now.items ++ z)
    (sym (flat_map-append token_line done (c.in-Some.token ∷ left)) ∙ ap (flat_map token_line) (sym all)) in
    subst (λ z. Sends (g.K.Sink.taken c.args.out.now)
    (g.K.Sink.taken c.put_token.new.out) z c.put_token.new.waiting.items false) text
    (puts_short _ _ (before ++ token_line c.in-Some.token)
    (flat_map token_line left) c.put_token.new.waiting.items c.put_token.new.waiting.items false
    (puts_behind _ _ _ before c.loop-token.waiting.items (token_line c.in-Some.token) c.put_token.new.waiting.items
    false c.loop-token.invariant.1 c.in-Err.ensures.text))

pub loop-token-preserved : goal.loop-token-preserved
loop-token-preserved g c =
    let done = c.loop-token.yielded in
    let left = c.next.new.self in
    let before = c.args.waiting.now.items ++ flat_map token_line done in (
      append_assoc done (c.in-Some.token ∷ []) left ∙ ap (λ z. done ++ z) (sym c.in-Some.ensures.steps)
          ∙ c.loop-token.invariant.0,
      subst (λ z. Sends (g.K.Sink.taken c.args.out.now) (g.K.Sink.taken c.put_token.new.out) z
          c.put_token.new.waiting.items true) (flat_map_more token_line c.args.waiting.now.items done c.in-Some.token)
          (puts_behind _ _ _ before c.loop-token.waiting.items (token_line c.in-Some.token)
          c.put_token.new.waiting.items true c.loop-token.invariant.1 c.in_default.ensures.text),
      omega (arith, c.loop-token.invariant.2, c.put_token.ensures.later),
    )
