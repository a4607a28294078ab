-- The kept items from one number on that are on the page.
use Rattle.std.proofs.Common.{sym, ◌∙◌, arith}
use Rattle.std.proofs.lemmas.Option.{slice_get_within}
use Rattle.gin_scan.proofs.HeadsRead.{here_next, next_off, some_here}
use Rattle.gin_scan.proofs.heads.end_of_page.Goals as goal

pub loop-end-init : goal.loop-end-init
loop-end-init c = record {
  behind = omega arith;
  within = c.requires;
  here = λ k item sure low high at. absurd (omega (arith, low, high));
}

pub loop-end-preserved : goal.loop-end-preserved
loop-end-preserved c =
    let was = c.loop-end.invariant in record {
      behind = omega (arith, was.behind);
      within = omega (arith, c.loop-end-test.true);
      here = here_next c.args.kept.now c.args.from c.loop-end.end c.args.page was.here
          (sym c.page_of.ensures ∙ c.if-page_of-page.true);
    }

pub returns-else-page_of-page : goal.returns-else-page_of-page
returns-else-page_of-page c =
    let was = c.loop-end.invariant in record {
      behind = was.behind;
      within = was.within;
      here = was.here;
      more = some_here c.args.kept.now c.args.from c.loop-end.end c.args.page was.behind
          (λ is. c.if-page_of-page.false (c.page_of.ensures ∙ is));
      next = next_off c.args.kept.now c.args.from c.loop-end.end c.args.page
          (λ is. c.if-page_of-page.false (c.page_of.ensures ∙ is));
    }

pub returns-after-loop-end : goal.returns-after-loop-end
returns-after-loop-end c = record {
  behind = c.loop-end.invariant.behind;
  within = c.loop-end.invariant.within;
  here = c.loop-end.invariant.here;
  more = λ item sure at here. omega (arith, slice_get_within c.args.kept.now c.args.from (item, sure) at);
  next = λ k at here. absurd (omega (arith, slice_get_within c.args.kept.now c.loop-end.end k at));
}
