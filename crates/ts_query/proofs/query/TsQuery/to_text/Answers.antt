use Rattle.std.proofs.Common.{◌≡◌, length, ap, sym, ◌∙◌, arith}
use Rattle.std.proofs.lemmas.Bool.Decides.{nat_tests}
use Rattle.ts_query.specs.Queries.{nodes_of}
use Rattle.ts_query.specs.Printing.{printed}
use Rattle.ts_query.proofs.Joined.{length-nodes_for, no_nodes}
use Rattle.ts_query.proofs.query.TsQuery.to_text.Goals as goal

pub returns-then-is_empty : goal.returns-then-is_empty
returns-then-is_empty c =
    let e = ap length c.nodes.ensures.value ∙ length-nodes_for c.args.self.now in
    let z : nodes_of c.args.self.now ≡ 0 = grind (arith, nat_tests) in
    c.new.ensures.bytes ∙ ap printed (sym (no_nodes c.args.self.now z))
