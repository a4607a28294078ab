use Rattle.std.proofs.Common.{arith, ap, ◌∙◌, ◌-◌, ℕ}
use Rattle.atomic_table.specs.Table.{rest}
use Rattle.latch_table.specs.PassStates.{without_frame}
use Rattle.latch_table.specs.Held.{turned_by}
use Rattle.latch_table.proofs.Passing.{gave_pass, front_of, held_within}
use Rattle.latch_table.proofs.table.LatchTable.give_back.Goals as goal

pub put-requires-clause-table : goal.put-requires-clause-table
put-requires-clause-table g c =
    let n = c.requires.noted in
    let h = held_within _ c.args.pass.now c.args.frame n.0 c.requires.pass n.1 n.2 in
    (c.turn.ensures.0 ∙ c.requires.pass.table, omega (arith, h), c.args.self.now.words)

pub put-requires-clause-front : goal.put-requires-clause-front
put-requires-clause-front g c =
    let n = c.requires.noted in
    let t = front_of _ c.args.pass.now c.args.frame n.0 c.requires.pass c.requires.no_journal n.1 n.2 in (
      t.0,
      ap (λ m. m.1) c.turn.ensures.2 ∙ ap (λ k. turned_by k c.args.pass.now.seat.me.1) c.position-behind.ensures ∙ t.1,
    )

pub overflow_sub-count : goal.overflow_sub-count
overflow_sub-count g c =
    let n = c.requires.noted in
    let h = held_within _ c.args.pass.now c.args.frame n.0 c.requires.pass n.1 n.2 in
    let count = c.count-count.ensures in
    let at = h.1 in omega arith

pub overflow_sub-count-2 : goal.overflow_sub-count-2
overflow_sub-count-2 g c =
    let n = c.requires.noted in
    let h = held_within _ c.args.pass.now c.args.frame n.0 c.requires.pass n.1 n.2 in
    let count = c.count-count.ensures in
    let behind = c.position-behind.ensures in
    let at = h.1 in omega arith

pub wake-requires : goal.wake-requires
wake-requires g c =
    let n = c.requires.noted in
    let h = held_within _ c.args.pass.now c.args.frame n.0 c.requires.pass n.1 n.2 in
    let low = h.0 in
    let words = c.args.self.now.words in omega arith

pub returns-clause-pass : goal.returns-clause-pass
returns-clause-pass g c =
    let n = c.requires.noted in
    gave_pass _ c.args.pass.now _ c.args.frame n.0 c.requires.pass c.requires.no_journal n.1 n.2
    (c.turn-2.ensures.0 ∙ c.put.ensures.0 ∙ c.turn.ensures.0)
    (ap (λ m. m.0) c.turn-2.ensures.2 ∙ ap (λ m. m.0) c.put.ensures.2
    ∙ ap (λ m. without_frame c.args.frame m.0) c.turn.ensures.2)
    (ap (λ m. m.1) c.turn-2.ensures.2
    ∙ ap (λ m. turned_by (c.count-count.result - 1 - c.position-behind.result) m.1) c.put.ensures.2
    ∙ ap (λ m. turned_by (c.count-count.result - 1 - c.position-behind.result) (rest m.1)) c.turn.ensures.2
    ∙ ap (λ (p : ℕ × ℕ). turned_by (p.0 - 1 - p.1) (rest (turned_by p.1 c.args.pass.now.seat.me.1)))
    (λ i. (c.count-count.ensures i, c.position-behind.ensures i)))
    c.without-pass.ensures
