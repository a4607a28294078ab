use Rattle.std.proofs.Common.{◌<◌, eqb, length, ap, ◌∙◌, arith, List, ℕ}
use Rattle.page_types.proofs.ItemReading.{item_shorter, none_left}
use Rattle.core_vacuum.proofs.AmongLists.{begin_walk, end_told, end_back, walk_missing, walk_met, walk_past}
use Rattle.core_vacuum.proofs.removing.are_among.Goals as goal

pub loop-next-init : goal.loop-next-init
loop-next-init c = begin_walk c.args.new.now c.args.old.now c.requires.new c.requires.old

pub returns-then-first-item : goal.returns-then-first-item
returns-then-first-item c = (
  λ e. absurd (cc),
  λ w. absurd (walk_missing c.args.new.now c.args.old.now c.loop-next.left.now c.loop-next.last c.loop-next.was.now
      c.loop-next.item c.loop-next.invariant c.in-Ok.next c.in-Ok.behind.now c.in-Ok.ensures.next
      c.first_item-first.result.0 c.first_item-first.result.1.now c.first_item-first.ensures c.if-first-item.true w),
)

pub loop-next-smaller-then-first-item-2 : goal.loop-next-smaller-then-first-item-2
loop-next-smaller-then-first-item-2 c =
    item_shorter c.loop-next.item c.loop-next.was.now c.in-Ok.next c.in-Ok.behind.now c.in-Ok.ensures.next

pub loop-next-preserved-then-first-item-2 : goal.loop-next-preserved-then-first-item-2
loop-next-preserved-then-first-item-2 c = walk_met c.args.new.now c.args.old.now c.loop-next.left.now c.loop-next.last
    c.loop-next.was.now c.loop-next.item c.loop-next.invariant c.in-Ok.next c.in-Ok.behind.now c.in-Ok.ensures.next
    c.first_item-first.result.0 c.first_item-first.result.1.now c.first_item-first.ensures c.if-first-item-2.true

pub loop-next-smaller : goal.loop-next-smaller
loop-next-smaller c =
    item_shorter c.loop-next.item c.loop-next.was.now c.in-Ok.next c.in-Ok.behind.now c.in-Ok.ensures.next

pub loop-next-preserved : goal.loop-next-preserved
loop-next-preserved c =
    let lt : c.in-Ok.next < c.first_item-first.result.0 =
    omega (arith, c.if-first-item.false, c.if-first-item-2.false) in
    walk_past c.args.new.now c.args.old.now c.loop-next.left.now c.loop-next.last c.loop-next.was.now c.loop-next.item
    c.loop-next.invariant c.in-Ok.next c.in-Ok.behind.now c.in-Ok.ensures.next c.first_item-first.result.0
    c.first_item-first.result.1.now c.first_item-first.ensures lt

pub returns : goal.returns
returns c = (
  λ e. end_told c.args.new.now c.args.old.now c.loop-next.left.now c.loop-next.last c.loop-next.was.now c.loop-next.item
      c.loop-next.invariant c.in_default.field-0 c.in_default.ensures.next
      (none_left c.loop-next.left.now c.is_empty.result e c.is_empty.ensures),
  λ w. c.is_empty.ensures ∙ ap (λ (xs : List ℕ). eqb (length xs) 0)
      (end_back c.args.new.now c.args.old.now c.loop-next.left.now c.loop-next.last c.loop-next.was.now
      c.loop-next.item c.loop-next.invariant c.in_default.field-0 c.in_default.ensures.next w),
)
