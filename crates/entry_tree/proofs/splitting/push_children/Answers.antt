use Rattle.std.proofs.Common.{◌∙◌, arith}
use Rattle.page_types.specs.Parts.{child_shown}
use Rattle.entry_tree.proofs.SplitParts.{between_more}
use Rattle.entry_tree.proofs.splitting.push_children.Goals as goal
use Rattle.entry_tree.proofs.splitting.push_children.Goals.{in-Some+in_ok-push, in_default}

pub loop-k-preserved : goal.loop-k-preserved
loop-k-preserved c = elim c.match-get.branch [
  | in-Some+in_ok-push w ↦
      between_more c.args.children.now c.loop-k.part c.match-get.part c.args.from c.loop-k.k
      (child_shown w.in-Some.child) c.loop-k.invariant w.in-Some.ensures.some (w.part-is ∙ w.in_ok-push.ensures.ok)
  | in_default w ↦ absurd (omega (arith, w.in_default.ensures.none, c.loop-k-test.true, c.requires.there))
]
