use Rattle.std.proofs.Common.{◌≡◌, ◌+◌, ◌∷◌, [], length, subst, arith}
use Rattle.std.specs.Prelude.{Some}
use Rattle.std.specs.List.{slice_get}
use Rattle.page_types.specs.Parts.{row_shown}
use Rattle.page_types.specs.declared.page.Row.{Row}
use Rattle.core_state.proofs.LinkedPages.{added_told, added_back}
use Rattle.core_state.proofs.linking.adds_row.Goals as goal

pub returns : goal.returns
returns c =
    let rows = c.in-Pending.rows in
    let new_rows = c.in-Pending-body.new_rows in
    let row : Row = row_shown c.in-Some.row in
    let size : length new_rows ≡ length rows + 1 =
    omega (arith, c.if-len.false, c.len-else-row-item.ensures, c.len-else-row-item-2.ensures) in
    let there : slice_get new_rows (length rows) ≡ Some row =
    subst (λ k. slice_get new_rows k ≡ Some row) c.len.ensures c.in-Some.ensures.some in (
      λ e. added_told c.args.rec.now c.args.item c.args.old.now c.args.new.now rows new_rows row c.in-Pending.is
          c.in-Pending-body.is c.if-new-old.false c.if-new-rec.false c.if-row-item.false size there
          (c.begin_with.ensures.0 e),
      λ a.
          let b = added_back c.args.rec.now c.args.item c.args.old.now c.args.new.now rows new_rows c.in-Pending.is
          c.in-Pending-body.is a in
          c.begin_with.ensures.1 (b.row ∷ [], b.rows_are),
    )
