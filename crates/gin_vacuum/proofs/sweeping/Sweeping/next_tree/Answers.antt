use Rattle.std.proofs.Common.{sym, ap, ◌∙◌, Some, arith}
use Rattle.std.proofs.lemmas.Option.{slice_get-get_or}
use Rattle.gin_vacuum.specs.Inner.Sweeping.{HasNextTree}
use Rattle.gin_vacuum.proofs.sweeping.Sweeping.next_tree.Goals as goal

pub returns-then-self-len : goal.returns-then-self-len
returns-then-self-len c =
    let s = c.args.self.now in
    HasNextTree.tree c.index-root.result.now
    (slice_get-get_or s.roots.items s.next c.index-root.result.now (omega (arith, c.if-self-len.true, c.len.ensures))
    ∙ ap Some (sym c.index-root.ensures))

pub returns-then-self-eq0 : goal.returns-then-self-eq0
returns-then-self-eq0 c =
    HasNextTree.done (omega (arith, c.if-self-len.false, c.len.ensures)) c.if-self-eq0.true

pub returns-else-self-eq0 : goal.returns-else-self-eq0
returns-else-self-eq0 c =
    HasNextTree.leaf (omega (arith, c.if-self-len.false, c.len.ensures)) c.if-self-eq0.false
