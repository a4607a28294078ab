use Rattle.std.proofs.Common.{◌≡◌, suc, ◌+◌, ◌-◌, ◌*◌, ◌<◌, ◌≤◌, List, [], ◌∷◌, ◌++◌, length, take, reverse, get_or}
use Rattle.std.proofs.Common.{sym, ap, subst, ◌∙◌, arith, rules}
use Rattle.ts_query.specs.declared.query.Node.TheVariants.{Leaf}
use Rattle.std.proofs.Math.Seq.{take-length}
use Rattle.ts_query.specs.Postfix.{nodes_for}
use Rattle.ts_match.specs.declared.work.Due.{Due}
use Rattle.ts_match.specs.Inner.Stacks.{top_or, below}
use Rattle.ts_match.specs.Inner.Plan.{offset_of, due_place, spread_on}
use Rattle.ts_match.proofs.Plans.{node_near, few_nodes, lay_query, lay_all, lay_more, root_due, due_offset}
use Rattle.ts_match.proofs.Plans.{due_offset_same, length-left_widths_of, length-nodes_for, WithinReach, STRIDE}
use Rattle.ts_match.proofs.Plans.{reach_top, reach_below, reach_spread}
use Rattle.ts_match.proofs.work.lay_out.Goals as goal

pub loop-i-init : goal.loop-i-init
loop-i-init c =
    let ns = c.nodes-nodes.result.now in
    let ws = c.args.widths.now in
    let r = root_due (length c.nodes-nodes.result.now) in
    let a = ap length c.requires ∙ length-left_widths_of c.args.query.now in
    let b = ap length c.nodes-nodes.ensures.value ∙ length-nodes_for c.args.query.now in
    let d : reverse c.put.new.stack.items ≡ root_due (length c.nodes-nodes.result.now) ∷ [] = c.put.ensures.stack
    ∙ ap (λ (l : List Due). root_due (length c.nodes-nodes.result.now) ∷ reverse l) c.in_ok-due.ensures.items in
    let n : take (length ns) ns ≡ c.nodes-nodes.result.now = take-length ns in
    let w : take (length ns) ws ≡ c.args.widths.now = ap (λ k. take k ws) (b ∙ sym a) ∙ take-length ws in record {
      run =
          rw (c.in_ok-steps.ensures.items, d, n, w)
          (ap (λ l. lay_all r (reverse l) (reverse c.args.widths.now) (r ∷ [])) c.nodes-nodes.ensures.value
          ∙ ap (λ l. lay_all r (reverse (nodes_for c.args.query.now)) (reverse l) (r ∷ [])) c.requires
          ∙ lay_query c.args.query.now c.nodes-nodes.result.now c.nodes-nodes.ensures.value);
      near = rw d (omega arith, tt);
      due_len = search rules;
      due_room = search rules;
      steps_len = search rules;
      steps_room = search rules;
    }

pub bounds-widths-i : goal.bounds-widths-i
bounds-widths-i c =
    let a = ap length c.requires ∙ length-left_widths_of c.args.query.now in
    let b = ap length c.nodes-nodes.ensures.value ∙ length-nodes_for c.args.query.now in
    omega arith

pub spread-requires-clause-near : goal.spread-requires-clause-near
spread-requires-clause-near c =
    let f =
    few_nodes c.args.query.now c.nodes-nodes.result.now c.nodes-nodes.ensures.value c.nodes-nodes.ensures.sound in
    let r = reach_top _ (length c.nodes-nodes.result.now) _ c.loop-i.invariant.near in
    let e = ap offset_of c.place_before-place.ensures ∙ due_offset_same (c.loop-i.i - 1 + 1) c.take_top.result
    ∙ ap due_offset c.take_top.ensures.top in
    omega arith

pub loop-i-preserved : goal.loop-i-preserved
loop-i-preserved c =
    let i = c.loop-i.i - 1 in
    let r = root_due (length c.nodes-nodes.result.now) in
    let a = ap length c.requires ∙ length-left_widths_of c.args.query.now in
    let b = ap length c.nodes-nodes.ensures.value ∙ length-nodes_for c.args.query.now in
    let ln : i < length c.nodes-nodes.result.now = omega arith in
    let lw : i < length c.args.widths.now = omega arith in
    let e : suc i ≡ c.loop-i.i = omega arith in
    let near = node_near c.args.query.now c.nodes-nodes.result.now i
    (Leaf 0) c.nodes-nodes.ensures.value c.nodes-nodes.ensures.sound ln in
    let m = (length c.nodes-nodes.result.now - c.loop-i.i) * STRIDE in
    let place : c.place_before-place.result ≡ due_place (c.loop-i.i - 1 + 1) (top_or r (reverse c.loop-i.due.items)) =
    c.place_before-place.ensures ∙ ap (due_place (c.loop-i.i - 1 + 1)) c.take_top.ensures.top in
    let t = subst (λ p. offset_of p ≤ m) (sym place)
    (let q = due_offset_same (c.loop-i.i - 1 + 1) (top_or r (reverse c.loop-i.due.items)) in let n = reach_top m
    (length c.nodes-nodes.result.now) (reverse c.loop-i.due.items) c.loop-i.invariant.near in omega arith) in
    let u = reach_below m (reverse c.loop-i.due.items) c.loop-i.invariant.near in
    let s = reach_spread (get_or c.nodes-nodes.result.now i (Leaf 0))
    (get_or c.args.widths.now i 0) m c.place_before-place.result (below (reverse c.loop-i.due.items)) t u
    (omega (arith, c.type_inv.widths i)) (omega arith) in
    let put = c.spread.ensures.due ∙ ap (spread_on (get_or c.nodes-nodes.result.now i (Leaf 0))
    (get_or c.args.widths.now i 0) c.place_before-place.result) c.take_top.ensures.stack in record {
      run =
          rw c.push_reserved.ensures.items
          (lay_more r c.nodes-nodes.result.now c.args.widths.now i (Leaf 0) c.loop-i.steps.items
          (reverse c.loop-i.due.items) (reverse c.spread.new.due.items) c.place_before-place.result ln lw place put
          ∙ ap (λ k. c.loop-i.steps.items ++ lay_all r (reverse (take k c.nodes-nodes.result.now))
          (reverse (take k c.args.widths.now)) (reverse c.loop-i.due.items)) e
          ∙ c.loop-i.invariant.run);
      near =
          let k : m + STRIDE ≡ (length c.nodes-nodes.result.now - i) * STRIDE = omega arith in
          subst (λ n. WithinReach n (reverse c.spread.new.due.items)) k
          (subst (λ l. WithinReach (m + STRIDE) l) (sym put) s);
      due_len = omega (arith, c.spread.ensures.len, c.take_top.ensures.len, c.loop-i.invariant.due_len);
      due_room = c.spread.ensures.capacity ∙ c.take_top.ensures.capacity ∙ c.loop-i.invariant.due_room;
      steps_len = omega (arith, c.push_reserved.ensures.len, c.loop-i.invariant.steps_len);
      steps_room = c.push_reserved.ensures.capacity ∙ c.loop-i.invariant.steps_room;
    }
