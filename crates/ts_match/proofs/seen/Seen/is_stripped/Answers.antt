use Rattle.std.proofs.Common.{◌≡◌, sym, ap, subst, ◌∙◌}
use Rattle.ts_base.specs.Vectors.{IsNormal}
use Rattle.ts_match.specs.Meaning.{is_stripped}
use Rattle.ts_match.specs.Inner.Seen.{entries_of}
use Rattle.ts_match.proofs.seen.Seen.is_stripped.Goals as goal

pub returns-in-Listed-clause-stripped : goal.returns-in-Listed-clause-stripped
returns-in-Listed-clause-stripped c =
    let same : c.in-Listed.vector.now ≡ c.args.self.now = ap entries_of (sym c.in-Listed.is) ∙ c.self.view_is in
    c.is_stripped.ensures.stripped ∙ ap is_stripped same

pub returns-in-Listed-clause-normal : goal.returns-in-Listed-clause-normal
returns-in-Listed-clause-normal c =
    let same : c.in-Listed.vector.now ≡ c.args.self.now = ap entries_of (sym c.in-Listed.is) ∙ c.self.view_is in
    subst IsNormal same c.is_stripped.ensures.normal

pub returns-in-Encoded-clause-stripped : goal.returns-in-Encoded-clause-stripped
returns-in-Encoded-clause-stripped c =
    let same : c.in-Encoded.vector.now ≡ c.args.self.now = ap entries_of (sym c.in-Encoded.is) ∙ c.self.view_is in
    c.is_stripped-in-Encoded.ensures.stripped ∙ ap is_stripped same

pub returns-in-Encoded-clause-normal : goal.returns-in-Encoded-clause-normal
returns-in-Encoded-clause-normal c =
    let same : c.in-Encoded.vector.now ≡ c.args.self.now = ap entries_of (sym c.in-Encoded.is) ∙ c.self.view_is in
    subst IsNormal same c.is_stripped-in-Encoded.ensures.normal
