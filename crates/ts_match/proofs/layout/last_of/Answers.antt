use Rattle.std.proofs.Common.{◌≡◌, ◌<◌, length, get_or, sym, ap, subst, arith}
use Rattle.std.proofs.lemmas.List.{get_or_default}
use Rattle.ts_query.specs.declared.query.Node.{Node}
use Rattle.ts_match.specs.declared.ranges.EntryRange.{EntryRange}
use Rattle.ts_match.specs.Inner.Phrases.{no_operand, PlacesFor}
use Rattle.ts_match.proofs.Prepared.{leaf_found, leaf_operand}
use Rattle.ts_match.proofs.layout.last_of.Goals as goal

pub last_in-requires-clause-within : goal.last_in-requires-clause-within
last_in-requires-clause-within c =
    let p = c.args.phrase.now in
    (leaf_found p.vector.now p.operands.now p.found.now c.args.step.node c.in-Leaf.k c.in-Leaf.is c.requires.found
    no_operand _).within

pub returns-in-Leaf-clause-each : goal.returns-in-Leaf-clause-each
returns-in-Leaf-clause-each c = λ reach count h.
    let p = c.args.phrase.now in
    let o = leaf_operand (length p.operands.now) c.args.step.node c.in-Leaf.k c.in-Leaf.is c.requires.operand in
    let l : c.in-Leaf.k < length c.args.phrase.now.found.now = omega (arith, c.requires.same, o) in
    subst (λ (n : Node). PlacesFor c.args.phrase.now.vector.now c.args.phrase.now.found.now reach count n)
    (sym c.in-Leaf.is)
    (λ f i e q a b m. (let s : get_or c.args.phrase.now.found.now c.in-Leaf.k f
    ≡ get_or c.args.phrase.now.found.now c.in-Leaf.k (record {
      first = 0;
      end = 0;
    }) = get_or_default p.found.now c.in-Leaf.k f (record { first = 0; end = 0 }) l in
    let r = c.last_in.ensures.each i e q (let z : (get_or c.args.phrase.now.found.now c.in-Leaf.k f).first
    ≡ (get_or c.args.phrase.now.found.now c.in-Leaf.k (record { first = 0; end = 0 })).first = ap
    (λ (x : EntryRange). x.first) s in omega arith) (let z : (get_or c.args.phrase.now.found.now c.in-Leaf.k f).end
    ≡ (get_or c.args.phrase.now.found.now c.in-Leaf.k (record { first = 0; end = 0 })).end =
    ap (λ (x : EntryRange). x.end) s in omega arith) m in omega arith))
