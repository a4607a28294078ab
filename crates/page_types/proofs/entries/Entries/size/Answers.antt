use Rattle.std.proofs.Common.{◌+◌, ◌∙◌, ap, arith}
use Rattle.page_types.specs.Parts.{entry_shown}
use Rattle.page_types.specs.Encoding.{entry_bytes}
use Rattle.page_types.proofs.BodySizes.{grows, all_sized}
use Rattle.page_types.proofs.entries.Entries.size.Goals as goal
use Rattle.page_types.proofs.entries.Entries.size.Goals.{in-Some, in_default}

pub entry_size-size-requires : goal.entry_size-size-requires
entry_size-size-requires c =
    let g = grows entry_bytes c.args.self.now c.loop-k.k c.loop-k.size
    (entry_shown c.in-Some.entry) c.in-Some.ensures.some c.loop-k.invariant in
    omega (arith, g.within, c.requires)

pub overflow_add-size : goal.overflow_add-size
overflow_add-size c =
    let g = grows entry_bytes c.args.self.now c.loop-k.k c.loop-k.size
    (entry_shown c.in-Some.entry) c.in-Some.ensures.some c.loop-k.invariant in
    omega (arith, g.within, c.requires, c.entry_size-size.ensures)

pub loop-k-preserved : goal.loop-k-preserved
loop-k-preserved c = elim c.match-get.branch [
  | in-Some w ↦ w.size-is ∙ ap (λ n. c.loop-k.size + n) w.entry_size-size.ensures ∙ (grows entry_bytes c.args.self.now
      c.loop-k.k c.loop-k.size (entry_shown w.in-Some.entry) w.in-Some.ensures.some c.loop-k.invariant).next
  | in_default w ↦ absurd (omega (arith, w.in_default.ensures.none, c.loop-k-test.true, c.len-k-end.ensures))
]

pub returns : goal.returns
returns c = all_sized entry_bytes c.args.self.now c.loop-k.k c.loop-k.size
    (omega (arith, c.loop-k-test.false, c.len-k-end.ensures)) c.loop-k.invariant
