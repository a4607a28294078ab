use Rattle.std.proofs.Common.{arith}
use Rattle.page_types.specs.declared.page.EntryChild.{EntryChild}
use Rattle.entry_tree.proofs.FoundPlaces.{in_back}
use Rattle.entry_tree.proofs.adopting.place_of.Goals as goal

pub returns-clause-none : goal.returns-clause-none
returns-clause-none c = λ b on same.
    let r = in_back (λ (d : EntryChild). d.bound) 0 c.args.children.now b on in
    c.loop-k.invariant r.0 b (omega (arith, r.2.within, c.loop-k-test.false, c.len-k-end.ensures)) r.2.there same
