use Rattle.core_vacuum.proofs.FreedSlots.{second_told, two_changes, first_of_two}
use Rattle.core_vacuum.proofs.dropping.second_page.Goals as goal
use Rattle.core_vacuum.proofs.dropping.second_page.Goals.{then-changes-ne2-via-then-changes-ne2}
use Rattle.core_vacuum.proofs.dropping.second_page.Goals.{then-changes-ne2-via-else-changes-ne2+then-changes-first}

pub returns-then-changes-ne2 : goal.returns-then-changes-ne2
returns-then-changes-ne2 c = record {
  some = tt;
  none = λ p e. elim c.then-changes-ne2.branch [
    | then-changes-ne2-via-then-changes-ne2 v ↦ v.if-changes-ne2.true
        (two_changes c.args.first p c.as_slice-changes.result.now c.args.rec.now.changes c.as_slice-changes.ensures e)
    | then-changes-ne2-via-else-changes-ne2+then-changes-first v ↦ v.if-changes-first.true
        (first_of_two c.args.first p c.as_slice-changes.result.now c.args.rec.now.changes v.index-changes-0.result
        c.as_slice-changes.ensures e)
  ];
}

pub returns : goal.returns
returns c = record {
  some = second_told c.args.first c.as_slice-changes.result.now c.args.rec.now.changes c.index-changes-0.result
      c.index-changes-1.result c.as_slice-changes.ensures c.if-changes-ne2.false c.if-changes-first.false;
  none = tt;
}
