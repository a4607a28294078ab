use Rattle.std.proofs.Common.{sym, ◌∙◌, arith}
use Rattle.core_state.specs.Inner.Members.{members_of}
use Rattle.core_state.proofs.SharedFronts.{go_begin, go_next, go_apart, go_sizes}
use Rattle.core_state.proofs.members.go_on.Goals as goal

pub returns-then-left-count : goal.returns-then-left-count
returns-then-left-count c = (
  λ e. absurd (cc),
  λ e. absurd (c.if-left-count.true (omega (
    arith,
    c.count.ensures,
    c.count-2.ensures,
    go_sizes (members_of c.args.a) (members_of c.args.b) c.args.i c.args.j e,
  ))),
)

pub loop-k-init : goal.loop-k-init
loop-k-init c = go_begin (members_of c.args.a) (members_of c.args.b) c.args.i c.args.j

pub loop-k-preserved : goal.loop-k-preserved
loop-k-preserved c =
    go_next (members_of c.args.a) (members_of c.args.b) c.args.i c.args.j c.loop-k.k
    (c.is_same_at.ensures.0 c.if-not-is_same_at.false) c.loop-k.invariant

pub returns-then-not-is_same_at : goal.returns-then-not-is_same_at
returns-then-not-is_same_at c = (
  λ e. absurd (cc),
  λ e. sym c.if-not-is_same_at.true ∙ c.is_same_at.ensures.1
      (go_apart (members_of c.args.a) (members_of c.args.b) c.args.i c.args.j c.loop-k.k c.loop-k.invariant
      (omega arith) e),
)
