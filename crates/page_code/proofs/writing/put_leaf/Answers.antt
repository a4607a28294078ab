use Rattle.std.proofs.Common.{arith, length-append}
use Rattle.std.specs.List.{flat_map}
use Rattle.page_types.specs.Parts.{entry_shown}
use Rattle.page_types.specs.Pages.{IsEntry}
use Rattle.page_types.specs.Encoding.{high_key_bytes, entry_bytes}
use Rattle.page_code.proofs.Appending.{all_got, first_none, first_room, first_more, first_all, puts_then}
use Rattle.page_code.proofs.writing.put_leaf.Goals as goal
use Rattle.page_code.proofs.writing.put_leaf.Goals.{in-Some, in_default}

pub loop-k-init : goal.loop-k-init
loop-k-init c = first_none entry_bytes c.args.entries.now c.put_high_key-end.result c.put_high_key-end.new.out

pub put_entry-end-requires-clause-entry : goal.put_entry-end-requires-clause-entry
put_entry-end-requires-clause-entry c =
    all_got IsEntry c.args.entries.now c.loop-k.k (entry_shown c.in-Some.entry) c.requires.entries
    c.in-Some.ensures.some

pub put_entry-end-requires-clause-room : goal.put_entry-end-requires-clause-room
put_entry-end-requires-clause-room c =
    let high = rw c.as_slice.ensures at c.put_high_key-end.ensures in
    first_room entry_bytes c.args.entries.now c.loop-k.k c.put_high_key-end.result c.put_high_key-end.new.out
    c.loop-k.end c.loop-k.out (entry_shown c.in-Some.entry) _ c.loop-k.invariant c.in-Some.ensures.some
    (omega (
      arith,
      c.requires.room,
      high.0,
      length-append (high_key_bytes c.args.high.now) (flat_map entry_bytes c.args.entries.now),
    ))

pub loop-k-preserved : goal.loop-k-preserved
loop-k-preserved c =
    let high = rw c.as_slice.ensures at c.put_high_key-end.ensures in
    let room = length-append (high_key_bytes c.args.high.now) (flat_map entry_bytes c.args.entries.now) in
    elim c.match-get.branch [
      | in-Some w ↦
          rw (w.out-is, w.end-is)
          (first_more entry_bytes c.args.entries.now c.loop-k.k c.put_high_key-end.result c.put_high_key-end.new.out
          c.loop-k.end c.loop-k.out (entry_shown w.in-Some.entry) w.put_entry-end.result w.put_entry-end.new.out
          c.loop-k.invariant w.in-Some.ensures.some (omega (arith, c.requires.room, high.0, room))
          w.put_entry-end.ensures)
      | in_default w ↦ absurd (omega (arith, w.in_default.ensures.none, c.loop-k-test.true, c.len-k-end.ensures))
    ]

pub returns : goal.returns
returns c =
    let high = rw c.as_slice.ensures at c.put_high_key-end.ensures in
    puts_then c.args.at c.put_high_key-end.result c.loop-k.end (high_key_bytes c.args.high.now)
    (flat_map entry_bytes c.args.entries.now) c.args.out.now c.put_high_key-end.new.out c.loop-k.out
    (omega (arith, c.requires.room)) high
    (first_all entry_bytes c.args.entries.now c.loop-k.k c.put_high_key-end.result c.put_high_key-end.new.out
    c.loop-k.end c.loop-k.out c.loop-k.invariant (omega (arith, c.loop-k-test.false, c.len-k-end.ensures)))
