use Rattle.std.proofs.Common.{◌+◌, ◌-◌, ◌/◌, ◌<◌, ◌≤◌, ℕ, arith}
use Rattle.posting_code.proofs.Windows.{begins_after, ends_at}
use Rattle.posting_code.proofs.searching.narrowed.Goals as goal

pub loop-high-init : goal.loop-high-init
loop-high-init c = c.requires.window

pub overflow_sub-high : goal.overflow_sub-high
overflow_sub-high c = c.loop-high.invariant.in_order

pub loop-high-preserved-then-items-middle : goal.loop-high-preserved-then-items-middle
loop-high-preserved-then-items-middle c =
    let low = c.loop-high.low in
    let high = c.loop-high.high in
    let middle : ℕ = low + (high - low) / 2 in
    let from : low ≤ middle = omega arith in
    let to : middle < high = omega (arith, c.loop-high-test.true) in
    begins_after c.args.items.now c.args.item c.requires.rise low high middle c.loop-high.invariant to from
    c.if-items-middle.true

pub loop-high-preserved : goal.loop-high-preserved
loop-high-preserved c =
    let low = c.loop-high.low in
    let high = c.loop-high.high in
    let middle : ℕ = low + (high - low) / 2 in
    let from : low ≤ middle = omega arith in
    let to : middle < high = omega (arith, c.loop-high-test.true) in
    ends_at c.args.items.now c.args.item c.requires.rise low high middle c.loop-high.invariant to from
    c.if-items-middle.false

pub returns : goal.returns
returns c = c.loop-high.invariant
