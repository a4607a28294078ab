use Rattle.std.proofs.Common.{◌≡◌, ◌≤◌, List, length, get_or, sym, ap, subst, ◌∙◌}
use Rattle.std.specs.Prelude.{Contains}
use Rattle.ts_base.specs.Vectors.{Position, Vector}
use Rattle.ts_match.specs.Inner.Seen.{entries_of}
use Rattle.ts_match.proofs.Walks.{positions_in, into_positions}
use Rattle.ts_match.proofs.phrase.holds_in.Goals as goal

pub holds_in_lists-requires-clause-within : goal.holds_in_lists-requires-clause-within
holds_in_lists-requires-clause-within c =
    let same : c.in-Listed.vector.now ≡ c.args.phrase.now.vector.now =
    ap entries_of (sym c.in-Listed.is) ∙ c.kind.ensures in
    subst (λ (v : Vector). c.args.found.end ≤ length v) (sym same) c.requires.within

pub returns-in-Listed-clause-whole : goal.returns-in-Listed-clause-whole
returns-in-Listed-clause-whole c t k e p ph l m h a =
    let same : c.in-Listed.vector.now ≡ c.args.phrase.now.vector.now =
    ap entries_of (sym c.in-Listed.is) ∙ c.kind.ensures in
    c.holds_in_lists.ensures.whole t k e p ph l m
    (subst (λ (v : Vector). Contains (get_or v k e).positions p) (sym same) h) a

pub returns-in-Encoded-clause-whole : goal.returns-in-Encoded-clause-whole
returns-in-Encoded-clause-whole c t k e p ph l m h a =
    let same : c.in-Encoded.vector.now ≡ c.args.phrase.now.vector.now =
    ap entries_of (sym c.in-Encoded.is) ∙ c.kind.ensures in
    let places =
    c.places-places.ensures ∙ ap (λ (v : Vector). positions_in v c.args.found.first c.args.found.end) same in
    c.holds_with_places.ensures.tried.whole t p ph
    (subst (λ (ps : List Position). Contains ps p) (sym places) (into_positions c.args.phrase.now.vector.now
    c.args.found.first c.args.found.end k e p c.requires.within l m h)) a
