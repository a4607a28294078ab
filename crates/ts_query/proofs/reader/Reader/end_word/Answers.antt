use Rattle.std.proofs.Common.{◌≡◌, [], ◌∷◌, ap, ◌∙◌, subst, cond, nat_lt, Some, None, refl, length}
use Rattle.std.specs.String.{string_bytes}
use Rattle.ts_query.specs.Tokens.{word, operand}
use Rattle.ts_query.specs.Inner.Parsing.{Took}
use Rattle.ts_query.specs.Limits.{or_else, first_long}
use Rattle.ts_query.proofs.Past.{first_far_same, first_long_more}
use Rattle.ts_query.proofs.Standing.{gave}
use Rattle.ts_query.proofs.reader.Reader.end_word.Goals as goal

pub returns-clause-gave : goal.returns-clause-gave
returns-clause-gave c p ts h t =
    let e : c.first_at-self.result ≡ or_else c.args.self.now.long (first_long
    (word c.args.self.now.start (operand (string_bytes c.args.self.now.word) c.args.weights c.args.prefix) ∷ [])) =
    c.first_at-self.ensures ∙ ap (λ n. or_else c.args.self.now.long
    (cond (nat_lt 2046 n) (Some c.args.self.now.start) None)) (ap length c.as_str.ensures.value) in
    let took : Took p (word c.args.self.now.start
    (operand (string_bytes c.args.self.now.word) c.args.weights c.args.prefix)) c.operand.new.self =
    subst (λ w. Took p (word c.args.self.now.start (operand w c.args.weights c.args.prefix)) c.operand.new.self)
    (ap string_bytes c.replace-lexeme.ensures.value)
    (c.in_ok-operand.ensures c.args.self.now.start p h t.shows) in
    gave _ p ts (word c.args.self.now.start (operand (string_bytes c.args.self.now.word) c.args.weights c.args.prefix))
    took
    (first_far_same ts (word c.args.self.now.start
    (operand (string_bytes c.args.self.now.word) c.args.weights c.args.prefix)) c.args.self.now.far refl t.far)
    (first_long_more ts (word c.args.self.now.start (operand (string_bytes c.args.self.now.word) c.args.weights
    c.args.prefix)) c.args.self.now.long c.first_at-self.result e t.long)
