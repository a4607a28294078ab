use Rattle.std.proofs.Common.{◌<◌, length, nat_lt, sym, ◌∙◌, arith}
use Rattle.std.specs.List.{list_all}
use Rattle.std.proofs.lemmas.Bool.{lt-ltb, and_right, and_from}
use Rattle.ts_match.proofs.Walks.{bare, all_bare, not_bare, all_positions}
use Rattle.ts_match.proofs.encoded.is_stripped.Goals as goal

pub returns-in-Some-clause-stripped : goal.returns-in-Some-clause-stripped
returns-in-Some-clause-stripped c =
    let v = c.args.vector.now in
    let all = sym (c.places-places.ensures ∙ all_positions v c.count-count.result c.count-count.ensures.count) in
    sym (and_right (nat_lt 0 (length v)) (list_all bare v)
    (not_bare v _ c.next.new.self (all ∙ c.in-Some.ensures.steps)))

pub returns-in-None-clause-stripped : goal.returns-in-None-clause-stripped
returns-in-None-clause-stripped c =
    let v = c.args.vector.now in
    let all = sym (c.places-places.ensures ∙ all_positions v c.count-count.result c.count-count.ensures.count) in
    let some : 0 < length c.args.vector.now =
    (let n = c.if-count-eq0.false in omega (arith, c.count-count.ensures.count)) in
    sym (and_from (nat_lt 0 (length v)) (list_all bare v) (lt-ltb 0 (length v) some)
    (all_bare v (all ∙ c.in-None.ensures.steps.0)))
