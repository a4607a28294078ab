use Rattle.std.proofs.Common.{◌+◌, ◌<◌, ◌≤◌, ◌^◌, length, arith}
use Rattle.page_types.specs.Parts.{child_shown}
use Rattle.page_types.specs.Encoding.{entry_child_bytes}
use Rattle.page_types.proofs.BodySizes.{length-entry_child_bytes}
use Rattle.page_code.proofs.Appending.{all_got, first_none, first_room, first_more}
use Rattle.page_code.proofs.Sizes.{puts_entry_child}
use Rattle.page_code.proofs.writing.put_entry_children.Goals as goal
use Rattle.page_code.proofs.writing.put_entry_children.Goals.{in-Some, in_default}

pub loop-k-init : goal.loop-k-init
loop-k-init c = first_none entry_child_bytes c.args.children.now c.args.at c.args.out.now

pub put_u32-end-requires : goal.put_u32-end-requires
put_u32-end-requires c =
    let child = child_shown c.in-Some.child in
    let room : c.loop-k.end + length (entry_child_bytes child) ≤ length c.loop-k.out = first_room entry_child_bytes
    c.args.children.now c.loop-k.k c.args.at c.args.out.now c.loop-k.end c.loop-k.out child _ c.loop-k.invariant
    c.in-Some.ensures.some (omega (arith, c.requires.room)) in
    omega (arith, room, length-entry_child_bytes child)

pub put_key-end-requires-clause-size : goal.put_key-end-requires-clause-size
put_key-end-requires-clause-size c =
    all_got (λ d. length d.bound < 2 ^ 16) c.args.children.now c.loop-k.k (child_shown c.in-Some.child)
    c.requires.sizes c.in-Some.ensures.some

pub put_key-end-requires-clause-room : goal.put_key-end-requires-clause-room
put_key-end-requires-clause-room c =
    let child = child_shown c.in-Some.child in
    let room : c.loop-k.end + length (entry_child_bytes child) ≤ length c.loop-k.out = first_room entry_child_bytes
    c.args.children.now c.loop-k.k c.args.at c.args.out.now c.loop-k.end c.loop-k.out child _ c.loop-k.invariant
    c.in-Some.ensures.some (omega (arith, c.requires.room)) in
    omega (arith, room, length-entry_child_bytes child, c.put_u32-end.ensures.end)

pub loop-k-preserved : goal.loop-k-preserved
loop-k-preserved c =
    elim c.match-get.branch [
      | in-Some w ↦
          let child = child_shown w.in-Some.child in
          let room : c.loop-k.end + length (entry_child_bytes child) ≤ length c.loop-k.out = first_room
          entry_child_bytes c.args.children.now c.loop-k.k c.args.at c.args.out.now c.loop-k.end c.loop-k.out child _
          c.loop-k.invariant w.in-Some.ensures.some (omega (arith, c.requires.room)) in
          rw (w.out-is, w.end-is)
          (first_more entry_child_bytes c.args.children.now c.loop-k.k c.args.at c.args.out.now c.loop-k.end
          c.loop-k.out child w.put_key-end.result w.put_key-end.new.out c.loop-k.invariant w.in-Some.ensures.some
          (omega (arith, c.requires.room))
          (puts_entry_child c.loop-k.end w.put_u32-end.result w.put_key-end.result child c.loop-k.out
          w.put_u32-end.new.out w.put_key-end.new.out (omega (arith, room)) w.put_u32-end.ensures.puts
          w.put_key-end.ensures.puts))
      | in_default w ↦ absurd (omega (arith, w.in_default.ensures.none, c.loop-k-test.true, c.len-k-end.ensures))
    ]
