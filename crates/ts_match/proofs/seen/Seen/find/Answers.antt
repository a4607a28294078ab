use Rattle.std.proofs.Common.{◌≡◌, sym, ap, subst, ◌∙◌}
use Rattle.ts_base.specs.Vectors.{Vector}
use Rattle.ts_match.specs.Inner.Ranges.{NamesRange}
use Rattle.ts_match.specs.Inner.Seen.{entries_of}
use Rattle.ts_match.proofs.seen.Seen.find.Goals as goal

pub returns-in-Listed : goal.returns-in-Listed
returns-in-Listed c =
    let same : c.in-Listed.vector.now ≡ c.args.self.now = ap entries_of (sym c.in-Listed.is) ∙ c.self.view_is in
    subst (λ (v : Vector). NamesRange v c.args.operand.now c.find.result) same c.find.ensures

pub returns-in-Encoded : goal.returns-in-Encoded
returns-in-Encoded c =
    let same : c.in-Encoded.vector.now ≡ c.args.self.now = ap entries_of (sym c.in-Encoded.is) ∙ c.self.view_is in
    subst (λ (v : Vector). NamesRange v c.args.operand.now c.find-in-Encoded.result) same c.find-in-Encoded.ensures
