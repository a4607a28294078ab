use Rattle.std.proofs.Common.{◌≡◌, ◌||◌, sym, ap, subst, ◌∙◌}
use Rattle.std.specs.List.{list_any, slice_range}
use Rattle.ts_base.specs.Vectors.{Vector}
use Rattle.ts_match.specs.Inner.BitSets.{bit_value}
use Rattle.ts_match.proofs.Laid.{sets_some}
use Rattle.ts_match.specs.Inner.Seen.{entries_of}
use Rattle.ts_match.specs.Inner.Setting.{CanSet}
use Rattle.ts_match.proofs.seen.Seen.set_found.Goals as goal

pub set_found-requires-clause-ready : goal.set_found-requires-clause-ready
set_found-requires-clause-ready c =
    let same : c.in-Listed.vector.now ≡ c.args.self.now = ap entries_of (sym c.in-Listed.is) ∙ c.self.view_is in
    subst (λ (v : Vector). CanSet c.args.count c.args.bits.now v c.args.found c.args.how.by) (sym same) c.requires.ready

pub returns-in-Listed-clause-value : goal.returns-in-Listed-clause-value
returns-in-Listed-clause-value c =
    let same : c.in-Listed.vector.now ≡ c.args.self.now = ap entries_of (sym c.in-Listed.is) ∙ c.self.view_is in
    λ j. c.set_found.ensures.value j ∙ ap (λ (v : Vector). bit_value c.args.count c.args.bits.now j || list_any
    (sets_some c.args.how.by j c.args.how.weights) (slice_range v c.args.found.first c.args.found.end)) same

pub set_found-requires-in-Encoded : goal.set_found-requires-in-Encoded
set_found-requires-in-Encoded c =
    let same : c.in-Encoded.vector.now ≡ c.args.self.now = ap entries_of (sym c.in-Encoded.is) ∙ c.self.view_is in
    subst (λ (v : Vector). CanSet c.args.count c.args.bits.now v c.args.found c.args.how.by) (sym same) c.requires.ready

pub returns-in-Encoded-clause-value : goal.returns-in-Encoded-clause-value
returns-in-Encoded-clause-value c =
    let same : c.in-Encoded.vector.now ≡ c.args.self.now = ap entries_of (sym c.in-Encoded.is) ∙ c.self.view_is in
    λ j. c.set_found-in-Encoded.ensures.value j
    ∙ ap (λ (v : Vector). bit_value c.args.count c.args.bits.now j || list_any
    (sets_some c.args.how.by j c.args.how.weights) (slice_range v c.args.found.first c.args.found.end)) same
