use Rattle.std.proofs.Common.{◌≡◌, ◌≢◌, ◌+◌, ◌<◌, [], length, ap, ◌∙◌, arith}
use Rattle.std.proofs.lemmas.Bool.Decides.{nat_tests}
use Rattle.ts_query.specs.Queries.{nodes_of}
use Rattle.ts_query.specs.Joining.{negated_query}
use Rattle.ts_query.proofs.Joined.{length-nodes_for, negated_size, negated_empty, negated_built, negated_sound}
use Rattle.ts_query.proofs.query.TsQuery.not.Goals as goal

pub returns-then-is_empty-clause-value : goal.returns-then-is_empty-clause-value
returns-then-is_empty-clause-value c =
    let e = ap length c.nodes.ensures.value ∙ length-nodes_for c.args.self.now in
    let z : nodes_of c.args.self.now ≡ 0 = grind (arith, nat_tests) in
    c.empty.ensures.value ∙ negated_empty c.args.self.now z

pub returns-then-nodes-ge-NODE_LIMIT-clause-refused : goal.returns-then-nodes-ge-NODE_LIMIT-clause-refused
returns-then-nodes-ge-NODE_LIMIT-clause-refused c =
    let e = ap length c.nodes.ensures.value ∙ length-nodes_for c.args.self.now in
    let f = ap length c.nodes-2.ensures.value ∙ length-nodes_for c.args.self.now in
    let z : nodes_of c.args.self.now ≢ 0 = λ x. grind (arith, nat_tests) in
    let g = negated_size c.args.self.now z in
    omega arith

pub finish-requires : goal.finish-requires
finish-requires c =
    let e = ap length c.nodes.ensures.value ∙ length-nodes_for c.args.self.now in
    let f = ap length c.nodes-2.ensures.value ∙ length-nodes_for c.args.self.now in
    let z : nodes_of c.args.self.now ≢ 0 = λ x. grind (arith, nat_tests) in
    let few : nodes_of c.args.self.now + 1 < 32768 = omega arith in (
      negated_query c.args.self.now,
      negated_built c.args.self.now c.not.new.self z
          (c.in_ok-not.ensures.built _ (c.in_ok-copy.ensures.items [] c.new-builder.ensures)),
      negated_sound c.args.self.now c.nodes.ensures.sound z few,
    )

pub returns-clause-value : goal.returns-clause-value
returns-clause-value c =
    let e = ap length c.nodes.ensures.value ∙ length-nodes_for c.args.self.now in
    let z : nodes_of c.args.self.now ≢ 0 = λ x. grind (arith, nat_tests) in
    c.finish.ensures.value (negated_query c.args.self.now) (negated_built c.args.self.now c.not.new.self z
    (c.in_ok-not.ensures.built _ (c.in_ok-copy.ensures.items [] c.new-builder.ensures)))
