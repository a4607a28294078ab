use Rattle.std.proofs.Common.{◌≡◌, ◌∷◌, [], ◌++◌, ◌-◌, length, get_or, ap, ◌∙◌, arith}
use Rattle.std.proofs.lemmas.List.{length-append, nil_from_length}
use Rattle.ts_query.specs.Inner.Pieces.{expansion}
use Rattle.ts_query.specs.declared.query.Node.TheVariants.{Leaf}
use Rattle.ts_query.specs.declared.print.Task.TheVariants.{Subtree}
use Rattle.ts_query.proofs.Backwards.{print_start, print_part, print_tree, print_end, expansion_few}
use Rattle.ts_query.proofs.print.parts_back.Goals as goal

pub loop-task-init : goal.loop-task-init
loop-task-init c t e = print_start t c.args.nodes.now _ _ e
    (c.in_ok-push.ensures.items ∙ ap (λ l. l ++ Subtree 0 ∷ []) c.new-tasks.ensures.items) c.new-pieces.ensures.items

pub loop-task-preserved-in-Continue-branch-2 : goal.loop-task-preserved-in-Continue-branch-2
loop-task-preserved-in-Continue-branch-2 c t e =
    let f = c.in-Some.ensures.items ∙ ap (λ x. c.pop.new.self.items ++ x ∷ []) c.in-Part.is in
    print_part t c.args.nodes.now c.loop-task.left _ _ _ _ c.in-Part.piece
    (c.loop-task.invariant t e) f c.in_ok-push-in-Part.ensures.items

pub overflow_sub-left : goal.overflow_sub-left
overflow_sub-left c =
    let f = c.in-Some.ensures.items ∙ ap (λ x. c.pop.new.self.items ++ x ∷ []) c.in-Subtree.is in
    (print_tree c.requires.0 c.args.nodes.now c.loop-task.left _ _ _ c.in-Subtree.wanted
    (c.loop-task.invariant c.requires.0 c.requires.1) f).some

pub bounds-nodes-left : goal.bounds-nodes-left
bounds-nodes-left c =
    let f = c.in-Some.ensures.items ∙ ap (λ x. c.pop.new.self.items ++ x ∷ []) c.in-Subtree.is in
    let h = (print_tree c.requires.0 c.args.nodes.now c.loop-task.left _ _ _ c.in-Subtree.wanted
    (c.loop-task.invariant c.requires.0 c.requires.1) f).some in
    let w = (c.loop-task.invariant c.requires.0 c.requires.1).within in
    omega arith

pub loop-task-preserved : goal.loop-task-preserved
loop-task-preserved c t e =
    let f = c.in-Some.ensures.items ∙ ap (λ x. c.pop.new.self.items ++ x ∷ []) c.in-Subtree.is in
    let r = print_tree t c.args.nodes.now c.loop-task.left _ _ _ c.in-Subtree.wanted (c.loop-task.invariant t e) f in
    r.next c.expand.new.tasks.items (c.in_ok-expand-in-Subtree.ensures
    ∙ ap (λ n. c.pop.new.self.items ++ expansion n c.in-Subtree.wanted) (r.there _))

pub loop-task-smaller : goal.loop-task-smaller
loop-task-smaller c =
    let f = c.in-Some.ensures.items ∙ ap (λ x. c.pop.new.self.items ++ x ∷ []) c.in-Subtree.is in
    let h = (print_tree c.requires.0 c.args.nodes.now c.loop-task.left _ _ _ c.in-Subtree.wanted
    (c.loop-task.invariant c.requires.0 c.requires.1) f).some in
    let a = ap length f in
    let b = length-append c.pop.new.self.items (Subtree c.in-Subtree.wanted ∷ []) in
    let d = ap length c.in_ok-expand-in-Subtree.ensures in
    let g = length-append c.pop.new.self.items
    (expansion (get_or c.args.nodes.now (c.loop-task.left - 1) (Leaf 0)) c.in-Subtree.wanted) in
    let k = expansion_few (get_or c.args.nodes.now (c.loop-task.left - 1) (Leaf 0)) c.in-Subtree.wanted in
    omega arith

pub returns : goal.returns
returns c t e =
    let z : length c.loop-task.tasks.items ≡ 0 = let f = c.in_default.ensures.cases.0 in
    grind (arith, c.loop-task.tasks.ok.0) in
    print_end t c.args.nodes.now c.loop-task.left _ _ (c.loop-task.invariant t e)
    (nil_from_length c.loop-task.tasks.items z)
