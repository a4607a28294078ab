use Rattle.std.proofs.Common.{◌≡◌, sym, ap, subst, ◌∙◌}
use Rattle.ts_base.specs.Vectors.{Vector, IsNormal}
use Rattle.ts_match.specs.Inner.Ranges.{NamesRange, stands_at}
use Rattle.ts_match.specs.Inner.Seen.{entries_of}
use Rattle.ts_match.proofs.seen.Seen.stands.Goals as goal

pub stands-requires-clause-normal : goal.stands-requires-clause-normal
stands-requires-clause-normal c =
    let same : c.in-Listed.vector.now ≡ c.args.self.now = ap entries_of (sym c.in-Listed.is) ∙ c.self.view_is in
    subst IsNormal (sym same) c.requires.normal

pub stands-requires-clause-found : goal.stands-requires-clause-found
stands-requires-clause-found c =
    let same : c.in-Listed.vector.now ≡ c.args.self.now = ap entries_of (sym c.in-Listed.is) ∙ c.self.view_is in
    subst (λ (v : Vector). NamesRange v c.args.operand.now c.args.found) (sym same) c.requires.found

pub stands-requires-in-Encoded : goal.stands-requires-in-Encoded
stands-requires-in-Encoded c =
    let same : c.in-Encoded.vector.now ≡ c.args.self.now = ap entries_of (sym c.in-Encoded.is) ∙ c.self.view_is in
    subst (λ (v : Vector). NamesRange v c.args.operand.now c.args.found) (sym same) c.requires.found

pub returns-in-Listed : goal.returns-in-Listed
returns-in-Listed c =
    let same : c.in-Listed.vector.now ≡ c.args.self.now = ap entries_of (sym c.in-Listed.is) ∙ c.self.view_is in
    c.stands.ensures ∙ ap (λ (v : Vector). stands_at c.args.operand.now v c.args.sum) same

pub returns-in-Encoded : goal.returns-in-Encoded
returns-in-Encoded c =
    let same : c.in-Encoded.vector.now ≡ c.args.self.now = ap entries_of (sym c.in-Encoded.is) ∙ c.self.view_is in
    c.stands-in-Encoded.ensures ∙ ap (λ (v : Vector). stands_at c.args.operand.now v c.args.sum) same
