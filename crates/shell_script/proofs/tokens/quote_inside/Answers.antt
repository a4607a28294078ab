use Rattle.std.proofs.Common.{◌≡◌, ◌++◌, ◌∷◌, refl, lit<, rules}
use Rattle.std.proofs.lemmas.Bool.{false≢true}
use Rattle.std.specs.String.{string_bytes}
use Rattle.shell_script.specs.Tokens.{doubled}
use Rattle.shell_script.proofs.Spelling.{quote_piece, quote_pair, quote_first, quote_fault, quote_open}
use Rattle.shell_script.proofs.tokens.quote_inside.Goals as goal

pub returns-then-not-ends_token-clause-none : goal.returns-then-not-ends_token-clause-none
returns-then-not-ends_token-clause-none c =
    let cut = c.in-Some.ensures.some in
    let q = string_bytes c.loop-piece.content ++ c.in-Some.piece.now in
    quote_fault c.args.text.now q c.in-Some.more.now
    (quote_piece c.args.text.now (string_bytes c.loop-piece.content) c.loop-piece.rest.now c.in-Some.piece.now
    c.in-Some.more.now c.loop-piece.invariant.1 cut.0 cut.1)
    c.in_default-behind_quote.ensures.none
    (λ m. false≢true (c.if-not-ends_token.ensures.1 m))

pub returns-in_default-behind_quote-clause-some : goal.returns-in_default-behind_quote-clause-some
returns-in_default-behind_quote-clause-some c =
    let cut = c.in-Some.ensures.some in
    let e = quote_piece c.args.text.now (string_bytes c.loop-piece.content) c.loop-piece.rest.now c.in-Some.piece.now
    c.in-Some.more.now c.loop-piece.invariant.1 cut.0 cut.1 in
    let read : c.args.text.now ≡ doubled (string_bytes c.push_str.new.self) ++ 39 ∷ c.in-Some.more.now =
    rw c.in_ok-push_str.ensures.bytes e in
    quote_first c.args.text.now (string_bytes c.push_str.new.self) c.in-Some.more.now read
    (c.if-not-ends_token.ensures.0 refl)

pub loop-piece-preserved : goal.loop-piece-preserved
loop-piece-preserved c =
    let cut = c.in-Some.ensures.some in
    let e = quote_piece c.args.text.now (string_bytes c.loop-piece.content) c.loop-piece.rest.now c.in-Some.piece.now
    c.in-Some.more.now c.loop-piece.invariant.1 cut.0 cut.1 in
    let read : c.args.text.now ≡ doubled (string_bytes c.push_str.new.self) ++ 39 ∷ c.in-Some.more.now =
    rw c.in_ok-push_str.ensures.bytes e in
    let pair = quote_pair c.args.text.now (string_bytes c.push_str.new.self) c.in-Some.more.now
    c.in-Some-behind_quote.next.now read c.in-Some-behind_quote.ensures.some in
    (search rules, rw (c.in_ok-push.ensures.bytes, c.in_ok-push.ensures.ascii (lit< tt)) pair)

pub returns-clause-none : goal.returns-clause-none
returns-clause-none c =
    quote_open c.args.text.now (string_bytes c.loop-piece.content) c.loop-piece.rest.now c.loop-piece.invariant.1
    c.in_default.ensures.none
