use Rattle.std.proofs.Common.{◌≡◌, [], ◌∷◌, ap, ◌∙◌, cond, Some, None, refl}
use Rattle.ts_query.specs.Tokens.{sign}
use Rattle.ts_query.specs.Inner.Parsing.{link_joint}
use Rattle.ts_query.specs.Limits.{or_else, first_far}
use Rattle.ts_query.proofs.Past.{first_far_more, first_long_same}
use Rattle.ts_query.proofs.Standing.{gave}
use Rattle.ts_query.proofs.reader.Reader.end_link.Goals as goal

pub returns-clause-gave : goal.returns-clause-gave
returns-clause-gave c p ts h t =
    let k = sign c.args.at (link_joint c.args.link) in
    let e : c.first_at-self.result
    ≡ or_else c.args.self.now.far (first_far (sign c.args.at (link_joint c.args.link) ∷ [])) =
    c.first_at-self.ensures
    ∙ ap (λ b. or_else c.args.self.now.far (cond b (Some c.args.at) None)) c.is_too_far.ensures in
    gave _ p ts k (c.in_ok-link.ensures c.args.at p h t.shows)
    (first_far_more ts (sign c.args.at (link_joint c.args.link)) c.args.self.now.far c.first_at-self.result e t.far)
    (first_long_same ts (sign c.args.at (link_joint c.args.link)) c.args.self.now.long refl t.long)
