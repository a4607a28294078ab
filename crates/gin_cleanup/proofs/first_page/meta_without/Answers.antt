use Rattle.std.proofs.Common.{ℕ, sym, ap, subst, arith}
use Rattle.page_types.specs.declared.page.Body.TheVariants as body
use Rattle.core_state.specs.PendingRules.{IsLastAfter}
use Rattle.gin_cleanup.proofs.ShiftSteps.{meta_page}
use Rattle.gin_cleanup.proofs.first_page.meta_without.Goals as goal
use Rattle.gin_cleanup.proofs.first_page.meta_without.Goals.{then-right-eq0, else-right-eq0}

pub returns : goal.returns
returns c =
    let right = c.args.right in
    let n = c.args.names in
    let then = c.if-right-eq0.result in
    let last_is : IsLastAfter right n.last then = elim c.if-right-eq0.branch [
      | then-right-eq0 w ↦ subst (IsLastAfter right n.last) (sym w.result-is) (IsLastAfter.none w.if-right-eq0.true)
      | else-right-eq0 w ↦ subst (IsLastAfter right n.last) (sym w.result-is) (IsLastAfter.same w.if-right-eq0.false)
    ] in
    record {
      without = record {
        first = n.first;
        last = n.last;
        pages = n.pages;
        last_then = then;
        was = c.requires.names;
        last_is = last_is;
        same = ap (λ (k : ℕ). record c.args.meta.now { body = body.Meta right then k }) c.saturating_sub.ensures;
      };
      is_page = meta_page c.args.meta.now n.first n.last n.pages right then c.saturating_sub.result c.requires.page
          c.requires.names c.requires.right last_is (omega (arith, c.saturating_sub.ensures));
    }
