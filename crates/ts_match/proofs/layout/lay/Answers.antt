use Rattle.std.proofs.Common.{◌≡◌, ◌-◌, ◌||◌, length, get_or, sym, ap, subst, ◌∙◌, arith}
use Rattle.std.specs.List.{list_any, slice_range}
use Rattle.std.proofs.lemmas.List.{get_or_default}
use Rattle.ts_query.specs.declared.query.Node.{Node}
use Rattle.ts_query.specs.declared.query.Operand.{Operand}
use Rattle.ts_match.specs.declared.ranges.EntryRange.{EntryRange}
use Rattle.ts_match.specs.Inner.Plan.{offset_of}
use Rattle.ts_match.specs.Inner.BitSets.{beginning}
use Rattle.ts_match.specs.Inner.Phrases.{no_operand, node_value, PlacesFor}
use Rattle.ts_match.proofs.Prepared.{leaf_found, leaf_operand}
use Rattle.ts_match.proofs.Laid.{sets_some, laid}
use Rattle.ts_match.proofs.layout.lay.Goals as goal

abbrev none : EntryRange
none = record { first = 0; end = 0 }

pub set_found-requires-clause-order : goal.set_found-requires-clause-order
set_found-requires-clause-order c =
    let p = c.args.phrase.now in
    (leaf_found p.vector.now p.operands.now p.found.now c.args.step.node c.args.k c.requires.leaf
    c.requires.placed.found no_operand none).ordered

pub set_found-requires-clause-ready : goal.set_found-requires-clause-ready
set_found-requires-clause-ready c =
    let p = c.args.phrase.now in
    let f = leaf_found p.vector.now p.operands.now p.found.now c.args.step.node c.args.k c.requires.leaf
    c.requires.placed.found no_operand none in
    let b = subst (λ (n : Node). PlacesFor p.vector.now p.found.now c.args.reach c.args.count n) c.requires.leaf
    c.requires.placed.places in record {
      wide = let w = c.requires.wide in let l = c.clear.ensures.len in omega arith;
      near = let n = c.requires.far in omega arith;
      end = f.within;
      within = λ i e q l m h. let a = b none i e q l m h in omega arith;
    }

pub returns-clause-value : goal.returns-clause-value
returns-clause-value c = λ j.
    let p = c.args.phrase.now in
    let v = p.vector.now in
    let os = p.operands.now in
    let f = get_or p.found.now c.args.k none in
    let n =
    leaf_found v os p.found.now c.args.step.node c.args.k c.requires.leaf c.requires.placed.found no_operand none in
    let l = leaf_operand (length os) c.args.step.node c.args.k c.requires.leaf c.requires.placed.operand in
    let o : get_or c.args.phrase.now.operands.now c.args.k c.index-phrase-k.result
    ≡ get_or c.args.phrase.now.operands.now c.args.k no_operand =
    get_or_default os c.args.k c.index-phrase-k.result no_operand l in
    let some =
    list_any (sets_some (c.args.reach - c.offset.result) j (get_or os c.args.k c.index-phrase-k.result).weights)
    (slice_range v f.first f.end) in
    c.set_found.ensures.value j
    ∙ ap (λ b. b || some) (c.clear.ensures.value j)
    ∙ ap (λ (x : Operand). list_any (sets_some (c.args.reach - c.offset.result) j x.weights)
    (slice_range v f.first f.end)) o
    ∙ ap (λ d. list_any (sets_some (c.args.reach - d) j (get_or os c.args.k no_operand).weights)
    (slice_range v f.first f.end)) c.offset.ensures
    ∙ laid v (get_or os c.args.k no_operand) f c.args.reach
    (offset_of c.args.step.place) j n c.requires.far c.requires.placed.near
    ∙ sym (ap (λ x. node_value v os (beginning c.args.reach j) (offset_of c.args.step.place) x) c.requires.leaf)
