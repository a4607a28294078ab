use Rattle.std.proofs.Common.{◌≡◌, length, arith}
use Rattle.core_state.specs.Documents.{Doc}
use Rattle.core_state.specs.States.{known_by, fate_of}
use Rattle.core_state.specs.declared.answers.Fate.TheVariants.{Running}
use Rattle.core_state.proofs.PlacedHeads.{one_told}
use Rattle.core_state.proofs.LinkedHeads.{add_told, add_back}
use Rattle.core_state.proofs.linking.valid_add_row.Goals as goal

pub returns : goal.returns
returns c =
    let d : Doc = record { item = c.in-AddRow.item; serial = c.in-AddRow.serial } in
    let known = known_by c.args.state.now.value in
    let runs : fate_of c.args.state.now.value c.args.rec.now.xid ≡ Running = cc in
    let one : length c.args.rec.now.changes ≡ 1 = cc in (
      λ e. add_told known c.args.rec.now d c.args.before.now c.args.after.now c.index-before-0.result
          c.index-after-0.result c.in-AddRow.is one runs
          (one_told c.args.before.now c.index-before-0.result (omega arith) c.index-before-0.is)
          (one_told c.args.after.now c.index-after-0.result (omega arith) c.index-after-0.is)
          (c.adds_row.ensures.0 e),
      λ w. c.adds_row.ensures.1 (add_back known c.args.rec.now d c.args.before.now c.args.after.now
          c.index-before-0.result c.index-after-0.result c.in-AddRow.is c.index-before-0.is c.index-after-0.is w),
    )
