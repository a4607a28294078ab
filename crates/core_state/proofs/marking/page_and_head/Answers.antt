use Rattle.std.proofs.Common.{length, get_or, ap, subst, arith}
use Rattle.page_types.specs.declared.page.Page.{Page}
use Rattle.core_state.specs.Changes.{IsNew}
use Rattle.core_state.specs.States.{use_of}
use Rattle.core_state.specs.Inner.HeadChanges.{HasHead}
use Rattle.core_state.proofs.HeadChanges.{first_of_two, two_with, same_second, none_where}
use Rattle.core_state.proofs.marking.page_and_head.Goals as goal
use Rattle.core_state.proofs.marking.page_and_head.Goals.{then-before-ne2-via-then-before-ne2}
use Rattle.core_state.proofs.marking.page_and_head.Goals.{then-before-ne2-via-else-before-ne2+then-not-is_new}

pub returns-then-before-ne2-clause-none : goal.returns-then-before-ne2-clause-none
returns-then-before-ne2-clause-none c = λ p h f.
    let page = same_second c.args.rec.now c.args.name.page p c.in_ok-page.page f.pages c.in_ok-page.ensures.some in
    elim c.then-before-ne2.branch [
      | then-before-ne2-via-then-before-ne2 v ↦ absurd (v.if-before-ne2.true (ap length f.before_is))
      | then-before-ne2-via-else-before-ne2+then-not-is_new v ↦
          absurd (cc (
            v.if-not-is_new.true,
            v.is_new.ensures.1
                (subst (IsNew (use_of c.args.state.now.value) c.args.since) page f.is_new),
          ))
    ]

pub returns-in_err-head-clause-none : goal.returns-in_err-head-clause-none
returns-in_err-head-clause-none c = none_where c.from_residual-in_err-head.result
    (λ p h f. c.in_err-head.ensures.none h
    (subst (λ (x : Page). HasHead x c.args.name h)
    (first_of_two c.args.before.now c.index-before-0.result f.old f.was f.before_is c.index-before-0.is) f.has))

pub returns-clause-some : goal.returns-clause-some
returns-clause-some c = record {
  old = c.index-before-0.result;
  was = get_or c.args.before.now 1 c.index-before-0.result;
  pages = c.in_ok-page.ensures.some;
  is_new = c.is_new.ensures.0 c.if-not-is_new.false;
  before_is = two_with c.args.before.now c.index-before-0.result (omega arith) c.index-before-0.is;
  has = c.in_ok-head.ensures.some;
}
