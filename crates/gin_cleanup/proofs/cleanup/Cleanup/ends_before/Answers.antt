use Rattle.std.proofs.Common.{not, false, length, refl, sym, ap, subst, arith}
use Rattle.gin_cleanup.specs.Inner.Noting.{GoesOnWith}
use Rattle.gin_cleanup.proofs.Tests.{not_both}
use Rattle.gin_cleanup.proofs.cleanup.Cleanup.ends_before.Goals as goal

pub returns-then-len-ge-MOST_PAGES : goal.returns-then-len-ge-MOST_PAGES
returns-then-len-ge-MOST_PAGES c = λ not_so. record {
  page = c.in-Reading.page;
  before = c.in-Reading.before;
  stage_is = c.in-Reading.is;
  some = λ none. omega (arith, c.if-len-ge-MOST_PAGES.true, c.len.ensures, ap length none);
  other = λ goes.
      not_both (not c.goes_on.result) not_so
      (ap not ((c.goes_on.ensures).1 (subst (GoesOnWith c.args.rows.now) (sym c.as_slice.ensures.value) goes)));
}

pub returns-in_default : goal.returns-in_default
returns-in_default c = λ e. absurd (not_both false e refl)
