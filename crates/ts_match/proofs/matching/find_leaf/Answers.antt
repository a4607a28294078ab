use Rattle.std.proofs.Common.{◌<◌, true, length, get_or, refl, sym, ◌∙◌, arith}
use Rattle.ts_query.specs.declared.query.Node.TheVariants.{Leaf}
use Rattle.ts_match.specs.declared.work.Place.TheVariants.{Within}
use Rattle.ts_match.specs.Inner.Phrases.{no_operand}
use Rattle.ts_match.proofs.Prepared.{not-false, needs_within, same_step, leaf_operand, found_here, found_kept, no_place}
use Rattle.ts_match.proofs.matching.find_leaf.Goals as goal

pub returns-then-range : goal.returns-then-range
returns-then-range c =
    let os = c.args.operands.now in
    let l = leaf_operand (length os) c.args.step.node c.in-Leaf.k c.in-Leaf.is c.requires.operand in
    let m : c.in-Leaf.k < length c.args.found.now.items = omega (arith, c.args.found.now.ok.0, c.requires.room) in
    let named = c.found_for-range.ensures in record {
      here = found_here c.args.vector.now os c.args.found.now.items c.args.step.node c.in-Leaf.k
          c.found_for-range.result c.in-Leaf.is m named;
      others = λ s. found_kept c.args.vector.now os c.args.found.now.items c.in-Leaf.k c.found_for-range.result m named
          s.node;
      lacking = λ e. absurd (let x : ⊥ = cc in x);
      len = refl;
    }

pub returns-clause-here : goal.returns-clause-here
returns-clause-here c =
    let os = c.args.operands.now in
    let l = leaf_operand (length os) c.args.step.node c.in-Leaf.k c.in-Leaf.is c.requires.operand in
    let m : c.in-Leaf.k < length c.args.found.now.items = omega (arith, c.args.found.now.ok.0, c.requires.room) in
    let named = c.found_for-range.ensures in
    found_here c.args.vector.now os c.args.found.now.items c.args.step.node c.in-Leaf.k c.found_for-range.result
    c.in-Leaf.is m named

pub returns-clause-others : goal.returns-clause-others
returns-clause-others c =
    let os = c.args.operands.now in
    let l = leaf_operand (length os) c.args.step.node c.in-Leaf.k c.in-Leaf.is c.requires.operand in
    let m : c.in-Leaf.k < length c.args.found.now.items = omega (arith, c.args.found.now.ok.0, c.requires.room) in
    let named = c.found_for-range.ensures in
    λ s. found_kept c.args.vector.now os c.args.found.now.items c.in-Leaf.k c.found_for-range.result m named s.node

pub returns-clause-lacking : goal.returns-clause-lacking
returns-clause-lacking c = λ e.
    let os = c.args.operands.now in
    let l = leaf_operand (length os) c.args.step.node c.in-Leaf.k c.in-Leaf.is c.requires.operand in
    let named = c.found_for-range.ensures no_operand in
    let n = needs_within c.args.step.place (sym c.is_needed.ensures ∙ not-false c.is_needed.result e) in (
      c.in-Leaf.k,
      n.0,
      same_step c.args.step (Leaf c.in-Leaf.k) (Within n.0 true) c.in-Leaf.is n.1,
      no_place c.args.vector.now (get_or os c.in-Leaf.k no_operand) c.found_for-range.result named c.if-range.false,
    )
