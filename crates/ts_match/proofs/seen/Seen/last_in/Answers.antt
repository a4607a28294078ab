use Rattle.std.proofs.Common.{◌≡◌, ◌≤◌, length, get_or, sym, ap, subst, ◌∙◌}
use Rattle.std.specs.Prelude.{Contains}
use Rattle.ts_base.specs.Vectors.{Vector, IsNormal}
use Rattle.ts_match.specs.Inner.Seen.{entries_of}
use Rattle.ts_match.proofs.seen.Seen.last_in.Goals as goal

pub last_in-requires-clause-normal : goal.last_in-requires-clause-normal
last_in-requires-clause-normal c =
    let same : c.in-Listed.vector.now ≡ c.args.self.now = ap entries_of (sym c.in-Listed.is) ∙ c.self.view_is in
    subst IsNormal (sym same) c.requires.normal

pub last_in-requires-clause-within : goal.last_in-requires-clause-within
last_in-requires-clause-within c =
    let same : c.in-Listed.vector.now ≡ c.args.self.now = ap entries_of (sym c.in-Listed.is) ∙ c.self.view_is in
    subst (λ (v : Vector). c.args.found.end ≤ length v) (sym same) c.requires.within

pub last_in-requires-in-Encoded : goal.last_in-requires-in-Encoded
last_in-requires-in-Encoded c =
    let same : c.in-Encoded.vector.now ≡ c.args.self.now = ap entries_of (sym c.in-Encoded.is) ∙ c.self.view_is in
    subst (λ (v : Vector). c.args.found.end ≤ length v) (sym same) c.requires.within

pub returns-in-Listed-clause-each : goal.returns-in-Listed-clause-each
returns-in-Listed-clause-each c =
    let same : c.in-Listed.vector.now ≡ c.args.self.now = ap entries_of (sym c.in-Listed.is) ∙ c.self.view_is in
    λ i e p l m h. c.last_in.ensures.each i e p l m
    (subst (λ (v : Vector). Contains (get_or v i e).positions p) (sym same) h)

pub returns-in-Encoded-clause-each : goal.returns-in-Encoded-clause-each
returns-in-Encoded-clause-each c =
    let same : c.in-Encoded.vector.now ≡ c.args.self.now = ap entries_of (sym c.in-Encoded.is) ∙ c.self.view_is in
    λ i e p l m h. c.last_in-in-Encoded.ensures.each i e p l m
    (subst (λ (v : Vector). Contains (get_or v i e).positions p) (sym same) h)
