use Rattle.std.proofs.Common.{ap, ◌∙◌, length, arith}
use Rattle.core_state.specs.States.{use_of}
use Rattle.core_state.proofs.RootedLeaves.{two_size, second_is, second_told}
use Rattle.core_state.proofs.tree_pages.second_new.Goals as goal

pub returns-then-changes-ne2-clause-none : goal.returns-then-changes-ne2-clause-none
returns-then-changes-ne2-clause-none c = λ p s.
    absurd (c.if-changes-ne2.true (ap length c.as_slice-changes.ensures ∙ two_size c.args.rec.now s.page p s.pages))

pub returns-then-not-is_new-clause-none : goal.returns-then-not-is_new-clause-none
returns-then-not-is_new-clause-none c = λ p s.
    absurd (cc (
      c.if-not-is_new.true,
      c.is_new.ensures.1 (second_is (use_of c.args.state.now.value) c.args.since c.args.rec.now
          c.as_slice-changes.result.now c.index-changes-1.result p c.as_slice-changes.ensures (omega arith)
          c.index-changes-1.is s),
    ))

pub returns-clause-some : goal.returns-clause-some
returns-clause-some c =
    second_told (use_of c.args.state.now.value) c.args.since c.args.rec.now c.as_slice-changes.result.now
    c.index-changes-1.result c.as_slice-changes.ensures (omega arith) c.index-changes-1.is
    (c.is_new.ensures.0 c.if-not-is_new.false)
