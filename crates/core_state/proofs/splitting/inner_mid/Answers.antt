use Rattle.std.proofs.Common.{◌≡◌, ◌≢◌, ◌-◌, suc, [], length, ap, ◌∙◌, arith}
use Rattle.page_types.specs.Parts.{child_shown}
use Rattle.core_state.specs.Inner.Members.{Member}
use Rattle.core_state.proofs.SharedFronts.{child_one}
use Rattle.core_state.proofs.Halves.{inner_told, members_joined}
use Rattle.core_state.proofs.splitting.inner_mid.Goals as goal

pub returns-clause-some : goal.returns-clause-some
returns-clause-some c =
    let children = c.args.children.now in
    let k = c.in-EntryInner in
    let j = c.in-EntryInner-body in
    let some : j.back ≢ [] = λ e. c.if-len-eq0-2.false (c.len-else-len-eq0.ensures ∙ ap length e) in
    let n : suc (c.len-2.result - 1) ≡ length k.front =
    omega (arith, c.len.ensures, c.len-2.ensures, c.if-len-eq0.false) in
    inner_told children k.front j.back c.args.left.now.body c.args.right.now.body (c.len-2.result - 1)
    (child_shown c.in_ok-last.last) k.is j.is some c.in_ok-last.ensures.some n
    (members_joined Member.child child_one children k.front j.back (c.is_joined.ensures.0 c.if-not-is_joined.false))
