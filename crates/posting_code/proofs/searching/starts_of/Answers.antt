use Rattle.std.proofs.Common.{◌+◌, ◌-◌, ◌*◌, ◌<◌, ℕ, List, length, subst, sym, ◌∙◌, ap, arith}
use Rattle.std.proofs.lemmas.List.{length_push}
use Rattle.page_types.specs.Numbers.{item_limit}
use Rattle.posting_code.specs.Inner.Windows.{AreStarts}
use Rattle.posting_code.proofs.Windows.{whole_window, item_small, few_items, no_starts, starts_more}
use Rattle.posting_code.proofs.searching.starts_of.Goals as goal

pub loop-page-init : goal.loop-page-init
loop-page-init c =
    let none = c.new-starts.ensures.items in
    (ap (λ (l : List ℕ). length l) none, subst (AreStarts c.args.items.now) (sym none) (no_starts c.args.items.now))

pub overflow_mul-page : goal.overflow_mul-page
overflow_mul-page c =
    let x = c.in-Some.ensures in
    let last : c.in-Some.last.now < item_limit =
    subst (λ n. n < item_limit) (sym (x.item.3.1 0))
    (item_small 0 c.args.items.now c.requires (length c.args.items.now - 1) (omega (arith, x.item.3.0))) in
    omega (arith, last, c.loop-page-test.true)

pub below-requires-clause-window : goal.below-requires-clause-window
below-requires-clause-window c = whole_window c.args.items.now (c.loop-page.page * 2048)

pub overflow_cast-below-in-loop-page : goal.overflow_cast-below-in-loop-page
overflow_cast-below-in-loop-page c =
    omega (arith, c.below.ensures.within, few_items 0 c.args.items.now (omega arith) c.requires)

pub loop-page-preserved : goal.loop-page-preserved
loop-page-preserved c =
    let more = c.in_ok-push.ensures.items in (
      ap (λ (l : List ℕ). length l) more ∙ length_push c.loop-page.starts.items c.below.result
          ∙ ap (λ (n : ℕ). n + 1) c.loop-page.invariant.0,
      subst (AreStarts c.args.items.now) (sym more)
          (starts_more c.args.items.now c.loop-page.starts.items c.loop-page.page c.below.result c.loop-page.invariant.0
          c.loop-page.invariant.1 c.below.ensures),
    )

pub returns : goal.returns
returns c = c.loop-page.invariant.1
