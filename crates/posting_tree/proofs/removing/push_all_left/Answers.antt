use Rattle.std.proofs.Common.{List, true, sym, subst, ◌∙◌, arith}
use Rattle.std.proofs.lemmas.Bool.{false≢true}
use Rattle.page_types.specs.Parts.{entry_shown}
use Rattle.page_types.specs.declared.page.Entry.{Entry}
use Rattle.posting_tree.proofs.LeftPages.{IsLeftUpTo, left_starts, entry_there, left_next, left_ends}
use Rattle.posting_tree.proofs.removing.push_all_left.Goals as goal
use Rattle.posting_tree.proofs.removing.push_all_left.Goals.{then-branch, else-branch}

pub loop-k-init : goal.loop-k-init
loop-k-init c =
    subst (λ (left : List Entry). IsLeftUpTo c.args.dead.now c.args.entries.now 0 left true) (sym c.requires.none)
    (left_starts c.args.dead.now c.args.entries.now)

pub push_left-requires : goal.push_left-requires
push_left-requires c =
    let is = entry_there c.args.entries.now c.loop-k.k (entry_shown c.in-Some.entry) c.requires.each
    c.in-Some.ensures.some in is.postings

pub loop-k-preserved : goal.loop-k-preserved
loop-k-preserved c =
    let left = c.in_ok-same.ensures.left in
    left_next c.args.dead.now c.args.entries.now c.loop-k.k c.loop-k.left c.push_left.new.left c.loop-k.same
    c.in_ok-same.same c.if-branch.same (entry_shown c.in-Some.entry) left.0 c.loop-k.invariant c.in-Some.ensures.some
    left.1 left.2 c.in_ok-same.ensures.same
    (elim c.if-branch.branch [
      | then-branch w ↦ (λ b. (w.if-branch.true, sym w.same-is ∙ b), λ p. w.same-is ∙ p.1)
      | else-branch w ↦ (
        λ b. absurd (false≢true (sym w.if-branch.false ∙ sym w.same-is ∙ b)),
        λ p. absurd (false≢true (sym w.if-branch.false ∙ p.0)),
      )
    ])

pub returns-clause-left : goal.returns-clause-left
returns-clause-left c =
    (left_ends c.args.dead.now c.args.entries.now c.loop-k.k c.loop-k.left c.loop-k.same
    (omega (arith, c.len-k-end.ensures)) c.loop-k.invariant).0

pub returns-clause-same : goal.returns-clause-same
returns-clause-same c =
    (left_ends c.args.dead.now c.args.entries.now c.loop-k.k c.loop-k.left c.loop-k.same
    (omega (arith, c.len-k-end.ensures)) c.loop-k.invariant).1
