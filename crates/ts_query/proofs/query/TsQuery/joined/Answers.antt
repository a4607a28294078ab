use Rattle.std.proofs.Common.{◌≡◌, ◌≢◌, ◌+◌, ◌<◌, [], length, ap, ◌∙◌, arith}
use Rattle.std.proofs.lemmas.Bool.Decides.{nat_tests}
use Rattle.ts_query.specs.Queries.{nodes_of}
use Rattle.ts_query.specs.Inner.Parsing.{link_joint}
use Rattle.ts_query.specs.Joining.{joined_queries}
use Rattle.ts_query.proofs.Joined.{length-nodes_for, joined_empty, empty_joined, joined_size, joined_built}
use Rattle.ts_query.proofs.Joined.{joined_sound, copied_operands}
use Rattle.ts_query.proofs.query.TsQuery.joined.Goals as goal

pub returns-then-is_empty-clause-value : goal.returns-then-is_empty-clause-value
returns-then-is_empty-clause-value c =
    let e = ap length c.nodes.ensures.value ∙ length-nodes_for c.args.self.now in
    let z : nodes_of c.args.self.now ≡ 0 = grind (arith, nat_tests) in
    c.in_ok-query.ensures.value ∙ joined_empty (link_joint c.args.link) c.args.self.now c.args.other.now z

pub returns-then-is_empty-2-clause-value : goal.returns-then-is_empty-2-clause-value
returns-then-is_empty-2-clause-value c =
    let e = ap length c.nodes-2.ensures.value ∙ length-nodes_for c.args.other.now in
    let z : nodes_of c.args.other.now ≡ 0 = grind (arith, nat_tests) in
    c.in_ok-query-2.ensures.value ∙ empty_joined (link_joint c.args.link) c.args.self.now c.args.other.now z

pub returns-then-nodes-ge-NODE_LIMIT-clause-refused : goal.returns-then-nodes-ge-NODE_LIMIT-clause-refused
returns-then-nodes-ge-NODE_LIMIT-clause-refused c =
    let e = ap length c.nodes.ensures.value ∙ length-nodes_for c.args.self.now in
    let f = ap length c.nodes-2.ensures.value ∙ length-nodes_for c.args.other.now in
    let e3 = ap length c.nodes-3.ensures.value ∙ length-nodes_for c.args.self.now in
    let f4 = ap length c.nodes-4.ensures.value ∙ length-nodes_for c.args.other.now in
    let y : nodes_of c.args.self.now ≢ 0 = λ x. grind (arith, nat_tests) in
    let z : nodes_of c.args.other.now ≢ 0 = λ x. grind (arith, nat_tests) in
    let g = joined_size (link_joint c.args.link) c.args.self.now c.args.other.now y z in
    omega arith

pub copy-requires-2 : goal.copy-requires-2
copy-requires-2 c =
    (_, c.in_ok-copy.ensures.items [] c.new-builder.ensures, copied_operands c.args.self.now c.nodes.ensures.sound)

pub finish-requires : goal.finish-requires
finish-requires c =
    let e = ap length c.nodes.ensures.value ∙ length-nodes_for c.args.self.now in
    let f = ap length c.nodes-2.ensures.value ∙ length-nodes_for c.args.other.now in
    let e3 = ap length c.nodes-3.ensures.value ∙ length-nodes_for c.args.self.now in
    let f4 = ap length c.nodes-4.ensures.value ∙ length-nodes_for c.args.other.now in
    let y : nodes_of c.args.self.now ≢ 0 = λ x. grind (arith, nat_tests) in
    let z : nodes_of c.args.other.now ≢ 0 = λ x. grind (arith, nat_tests) in
    let few : nodes_of c.args.self.now + nodes_of c.args.other.now + 1 < 32768 = omega arith in (
      joined_queries (link_joint c.args.link) c.args.self.now c.args.other.now,
      joined_built (link_joint c.args.link) c.args.self.now c.args.other.now c.link.new.self y z
          (c.in_ok-link.ensures.built _
          (c.in_ok-copy-2.ensures.items _ (c.in_ok-copy.ensures.items [] c.new-builder.ensures))),
      joined_sound (link_joint c.args.link) c.args.self.now c.args.other.now c.requires c.nodes.ensures.sound
          c.nodes-2.ensures.sound y z few,
    )

pub returns-clause-value : goal.returns-clause-value
returns-clause-value c =
    let e = ap length c.nodes.ensures.value ∙ length-nodes_for c.args.self.now in
    let f = ap length c.nodes-2.ensures.value ∙ length-nodes_for c.args.other.now in
    let y : nodes_of c.args.self.now ≢ 0 = λ x. grind (arith, nat_tests) in
    let z : nodes_of c.args.other.now ≢ 0 = λ x. grind (arith, nat_tests) in
    c.finish.ensures.value (joined_queries (link_joint c.args.link) c.args.self.now c.args.other.now)
    (joined_built (link_joint c.args.link) c.args.self.now c.args.other.now c.link.new.self y z
    (c.in_ok-link.ensures.built _
    (c.in_ok-copy-2.ensures.items _ (c.in_ok-copy.ensures.items [] c.new-builder.ensures))))
