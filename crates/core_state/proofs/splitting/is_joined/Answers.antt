use Rattle.std.proofs.Common.{drop, sym, ap, ◌∙◌}
use Rattle.core_state.specs.Inner.Members.{members_of}
use Rattle.core_state.proofs.Halves.{joined_told, joined_back}
use Rattle.core_state.proofs.splitting.is_joined.Goals as goal

pub returns-then-n-k : goal.returns-then-n-k
returns-then-n-k c = (
  λ e. absurd (cc),
  λ e. absurd (c.if-n-k.true ((joined_back (members_of c.args.whole) (members_of c.args.front)
      (members_of c.args.back) c.shared-n.result c.shared-n.ensures e).0 ∙ sym c.count-k.ensures)),
)

pub returns : goal.returns
returns c =
    let whole = members_of c.args.whole in
    let front = members_of c.args.front in
    let back = members_of c.args.back in (
      λ e. joined_told whole front back c.shared-n.result c.shared-n.ensures (c.if-n-k.false ∙ c.count-k.ensures)
          (ap (λ n. drop n whole) (sym c.count-k.ensures) ∙ c.go_on.ensures.0 e),
      λ e. c.go_on.ensures.1 (ap (λ n. drop n whole) c.count-k.ensures
          ∙ (joined_back whole front back c.shared-n.result c.shared-n.ensures e).1),
    )
