use Rattle.std.proofs.Common.{◌≡◌, ◌<◌, eqb, length, sym, ap, ◌∙◌, arith, List, ℕ}
use Rattle.page_types.proofs.ItemReading.{item_shorter, none_left}
use Rattle.core_state.proofs.TakenItems.{takes_begin, takes_none, none_takes, takes_missing, takes_met, takes_beyond}
use Rattle.core_state.proofs.TakenItems.{takes_more}
use Rattle.core_state.proofs.tree_items.takes.Goals as goal

pub loop-next-init : goal.loop-next-init
loop-next-init c = takes_begin c.args.high c.args.old.now c.args.new.now c.requires.old c.requires.new

pub returns-then-first-item : goal.returns-then-first-item
returns-then-first-item c = (
  λ e. absurd (cc),
  λ w. absurd (takes_missing c.args.high c.args.old.now c.args.new.now c.loop-next.was.now c.loop-next.last
      c.loop-next.rest.now c.loop-next.item c.loop-next.more c.loop-next.invariant c.in-Ok.next c.in-Ok.behind.now
      c.in-Ok.ensures.next c.first_item-first.result.0 c.first_item-first.result.1.now c.first_item-first.ensures
      c.if-first-item.true w),
)

pub loop-next-smaller-then-first-item-2 : goal.loop-next-smaller-then-first-item-2
loop-next-smaller-then-first-item-2 c =
    item_shorter c.loop-next.item c.loop-next.rest.now c.in-Ok.next c.in-Ok.behind.now c.in-Ok.ensures.next

pub loop-next-preserved-then-first-item-2 : goal.loop-next-preserved-then-first-item-2
loop-next-preserved-then-first-item-2 c = takes_met c.args.high c.args.old.now c.args.new.now c.loop-next.was.now
    c.loop-next.last c.loop-next.rest.now c.loop-next.item c.loop-next.more c.loop-next.invariant c.in-Ok.next
    c.in-Ok.behind.now c.in-Ok.ensures.next c.first_item-first.result.0 c.first_item-first.result.1.now
    c.first_item-first.ensures c.if-first-item-2.true

pub returns-then-not-is_item_up_to : goal.returns-then-not-is_item_up_to
returns-then-not-is_item_up_to c =
    let lt : c.in-Ok.next < c.first_item-first.result.0 =
    omega (arith, c.if-first-item.false, c.if-first-item-2.false) in (
      λ e. absurd (cc),
      λ w. sym c.if-not-is_item_up_to.true ∙ c.is_item_up_to.ensures.1 (takes_beyond c.args.high c.args.old.now
          c.args.new.now c.loop-next.was.now c.loop-next.last c.loop-next.rest.now c.loop-next.item c.loop-next.more
          c.loop-next.invariant c.in-Ok.next c.in-Ok.behind.now c.in-Ok.ensures.next c.first_item-first.result.0
          c.first_item-first.result.1.now c.first_item-first.ensures lt w),
    )

pub loop-next-smaller : goal.loop-next-smaller
loop-next-smaller c =
    item_shorter c.loop-next.item c.loop-next.rest.now c.in-Ok.next c.in-Ok.behind.now c.in-Ok.ensures.next

pub loop-next-preserved : goal.loop-next-preserved
loop-next-preserved c =
    let lt : c.in-Ok.next < c.first_item-first.result.0 =
    omega (arith, c.if-first-item.false, c.if-first-item-2.false) in
    takes_more c.args.high c.args.old.now c.args.new.now c.loop-next.was.now c.loop-next.last c.loop-next.rest.now
    c.loop-next.item c.loop-next.more c.loop-next.invariant c.in-Ok.next c.in-Ok.behind.now c.in-Ok.ensures.next
    c.first_item-first.result.0 c.first_item-first.result.1.now c.first_item-first.ensures lt
    (c.is_item_up_to.ensures.0 c.if-not-is_item_up_to.false)

pub returns-then-more : goal.returns-then-more
returns-then-more c = (
  λ e. none_takes c.args.high c.args.old.now c.args.new.now c.loop-next.was.now c.loop-next.last c.loop-next.rest.now
      c.loop-next.item c.loop-next.more c.loop-next.invariant c.in_default.field-0 c.in_default.ensures.next
      c.if-more.true (none_left c.loop-next.was.now c.is_empty.result e c.is_empty.ensures),
  λ w.
      let none = takes_none c.args.high c.args.old.now c.args.new.now c.loop-next.was.now c.loop-next.last
      c.loop-next.rest.now c.loop-next.item c.loop-next.more c.loop-next.invariant c.in_default.field-0
      c.in_default.ensures.next w in
      c.is_empty.ensures ∙ ap (λ (xs : List ℕ). eqb (length xs) 0) none.1,
)

pub returns-else-more : goal.returns-else-more
returns-else-more c = (
  λ e. absurd (cc (e, c.if-more.false)),
  λ w. (takes_none c.args.high c.args.old.now c.args.new.now c.loop-next.was.now c.loop-next.last c.loop-next.rest.now
      c.loop-next.item c.loop-next.more c.loop-next.invariant c.in_default.field-0 c.in_default.ensures.next w).0,
)
