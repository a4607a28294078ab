use Rattle.std.proofs.Common.{arith}
use Rattle.std.proofs.lemmas.Option.{slice_get_within}
use Rattle.posting_tree.proofs.Lists.{in_place}
use Rattle.posting_tree.proofs.adopting.place_of.Goals as goal

pub returns-clause-none : goal.returns-clause-none
returns-clause-none c = λ b on same.
    let children = c.args.children.now in
    let r = in_place children b on in
    c.loop-k.invariant r.0 b (omega (arith, slice_get_within children r.0 b r.1, c.loop-k-test.false)) r.1 same
