use Rattle.std.proofs.Common.{arith}
use Rattle.page_types.specs.Parts.{row_shown}
use Rattle.page_types.specs.Pages.{IsRow}
use Rattle.page_types.specs.Encoding.{row_bytes}
use Rattle.page_code.proofs.Appending.{all_got, first_none, first_room, first_more}
use Rattle.page_code.proofs.writing.put_rows.Goals as goal
use Rattle.page_code.proofs.writing.put_rows.Goals.{in-Some, in_default}

pub loop-k-init : goal.loop-k-init
loop-k-init c = first_none row_bytes c.args.rows.now c.args.at c.args.out.now

pub put_row-end-requires-clause-row : goal.put_row-end-requires-clause-row
put_row-end-requires-clause-row c =
    all_got IsRow c.args.rows.now c.loop-k.k (row_shown c.in-Some.row) c.requires.rows c.in-Some.ensures.some

pub put_row-end-requires-clause-room : goal.put_row-end-requires-clause-room
put_row-end-requires-clause-room c =
    first_room row_bytes c.args.rows.now c.loop-k.k c.args.at c.args.out.now c.loop-k.end c.loop-k.out
    (row_shown c.in-Some.row) _ c.loop-k.invariant c.in-Some.ensures.some (omega (arith, c.requires.room))

pub loop-k-preserved : goal.loop-k-preserved
loop-k-preserved c =
    elim c.match-get.branch [
      | in-Some w ↦
          rw (w.out-is, w.end-is)
          (first_more row_bytes c.args.rows.now c.loop-k.k c.args.at c.args.out.now c.loop-k.end c.loop-k.out
          (row_shown w.in-Some.row) w.put_row-end.result w.put_row-end.new.out c.loop-k.invariant
          w.in-Some.ensures.some (omega (arith, c.requires.room)) w.put_row-end.ensures)
      | in_default w ↦ absurd (omega (arith, w.in_default.ensures.none, c.loop-k-test.true, c.len-k-end.ensures))
    ]
