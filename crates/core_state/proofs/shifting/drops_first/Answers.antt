use Rattle.std.proofs.Common.{◌≡◌, suc, eqb-true, eq-eqb, sym, ◌∙◌, subst, arith}
use Rattle.core_state.specs.PendingRules.{IsLastAfter}
use Rattle.core_state.proofs.ShiftedPages.{dropped_told, dropped_back, last_of, last_same}
use Rattle.core_state.proofs.shifting.drops_first.Goals as goal

pub returns-then-right-eq0 : goal.returns-then-right-eq0
returns-then-right-eq0 c =
    let m = c.in-Meta in
    let n = c.in-Meta-body in
    let less : m.pages ≡ suc n.left = omega (arith, c.if-pages-eq0.false, c.if-left-pages.false) in (
      λ e. dropped_told c.args.rec.now c.args.page c.args.right c.args.old.now c.args.new.now m.first m.last m.pages
          n.next n.end n.left m.is n.is c.if-new-old.false c.if-new-rec.false c.if-first-page.false
          c.if-next-right.false less
          (subst (IsLastAfter c.args.right m.last) (sym (eqb-true n.end 0 e)) (IsLastAfter.none c.if-right-eq0.true)),
      λ d.
          let b = dropped_back c.args.rec.now c.args.page c.args.right c.args.old.now c.args.new.now m.first m.last
          m.pages n.next n.end n.left m.is n.is d in
          eq-eqb n.end 0 (last_of c.args.right m.last n.end b.last_is c.if-right-eq0.true),
    )

pub returns-else-right-eq0 : goal.returns-else-right-eq0
returns-else-right-eq0 c =
    let m = c.in-Meta in
    let n = c.in-Meta-body in
    let less : m.pages ≡ suc n.left = omega (arith, c.if-pages-eq0.false, c.if-left-pages.false) in (
      λ e. dropped_told c.args.rec.now c.args.page c.args.right c.args.old.now c.args.new.now m.first m.last m.pages
          n.next n.end n.left m.is n.is c.if-new-old.false c.if-new-rec.false c.if-first-page.false
          c.if-next-right.false less
          (subst (IsLastAfter c.args.right m.last) (sym (eqb-true n.end m.last e))
          (IsLastAfter.same c.if-right-eq0.false)),
      λ d.
          let b = dropped_back c.args.rec.now c.args.page c.args.right c.args.old.now c.args.new.now m.first m.last
          m.pages n.next n.end n.left m.is n.is d in
          eq-eqb n.end m.last (last_same c.args.right m.last n.end b.last_is c.if-right-eq0.false),
    )
