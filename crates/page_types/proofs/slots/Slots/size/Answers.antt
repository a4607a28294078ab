use Rattle.std.proofs.Common.{◌+◌, ◌<◌, length, ◌∙◌, ap, arith}
use Rattle.std.specs.Option.{option_map}
use Rattle.page_types.specs.Parts.{head_shown}
use Rattle.page_types.specs.Encoding.{slot_bytes}
use Rattle.page_types.proofs.Joining.{slot_get}
use Rattle.page_types.proofs.BodySizes.{grows, all_sized}
use Rattle.page_types.proofs.slots.Slots.size.Goals as goal

pub slot_size-size-requires : goal.slot_size-size-requires
slot_size-size-requires c =
    let lt : c.loop-k.k < length c.args.self.now = omega (arith, c.loop-k-test.true, c.len-k-end.ensures) in
    let g = grows slot_bytes c.args.self.now c.loop-k.k c.loop-k.size (option_map head_shown c.get.result) (slot_get
    c.args.self.now c.loop-k.k (option_map head_shown c.get.result) lt c.get.ensures) c.loop-k.invariant in
    omega (arith, g.within, c.requires)

pub overflow_add-size : goal.overflow_add-size
overflow_add-size c =
    let lt : c.loop-k.k < length c.args.self.now = omega (arith, c.loop-k-test.true, c.len-k-end.ensures) in
    let g = grows slot_bytes c.args.self.now c.loop-k.k c.loop-k.size (option_map head_shown c.get.result) (slot_get
    c.args.self.now c.loop-k.k (option_map head_shown c.get.result) lt c.get.ensures) c.loop-k.invariant in
    omega (arith, g.within, c.requires, c.slot_size-size.ensures)

pub loop-k-preserved : goal.loop-k-preserved
loop-k-preserved c =
    let lt : c.loop-k.k < length c.args.self.now = omega (arith, c.loop-k-test.true, c.len-k-end.ensures) in
    let g = grows slot_bytes c.args.self.now c.loop-k.k c.loop-k.size (option_map head_shown c.get.result) (slot_get
    c.args.self.now c.loop-k.k (option_map head_shown c.get.result) lt c.get.ensures) c.loop-k.invariant in
    ap (λ n. c.loop-k.size + n) c.slot_size-size.ensures ∙ g.next

pub returns : goal.returns
returns c = all_sized slot_bytes c.args.self.now c.loop-k.k c.loop-k.size
    (omega (arith, c.loop-k-test.false, c.len-k-end.ensures)) c.loop-k.invariant
