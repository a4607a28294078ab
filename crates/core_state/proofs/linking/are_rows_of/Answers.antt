use Rattle.std.proofs.Common.{◌≡◌, ◌+◌, ◌<◌, ◌≤◌, suc, length, drop, sym, ap, subst, subst₂, ◌∙◌, arith}
use Rattle.page_types.specs.Parts.{pieces_shown, row_shown}
use Rattle.page_types.specs.declared.page.Row.{Row}
use Rattle.core_state.specs.Inner.PendingRows.{AreRowsOf}
use Rattle.core_state.proofs.FollowingRows.{RowsFollow, drop_at, kept, kept_some, kept_none}
use Rattle.core_state.proofs.FollowingRows.{first_of_rows, rows_by_first}
use Rattle.core_state.proofs.linking.are_rows_of.Goals as goal
use Rattle.core_state.proofs.linking.are_rows_of.Goals.{then-first-item-via-then-first-item}
use Rattle.core_state.proofs.linking.are_rows_of.Goals.{then-first-item-via-else-first-item+then-not-keys_rise}
use Rattle.core_state.proofs.linking.are_rows_of.Goals.{then-row-item-via-then-row-item}
use Rattle.core_state.proofs.linking.are_rows_of.Goals.{then-row-item-via-else-row-item+then-not-keys_rise-2}
use Rattle.core_state.proofs.linking.are_rows_of.Goals.{
  then-row-item-via-else-row-item+else-not-keys_rise-2+then-not-keys_follow,
  then-len-gt0,
  else-len-gt0,
}

pub returns-then-first-item : goal.returns-then-first-item
returns-then-first-item c =
    let rows = c.args.rows.now in
    let first : Row = row_shown c.in-Some.first in
    let whole = drop_at rows 0 first c.in-Some.ensures.some in (
      λ e. absurd (cc),
      λ a.
          let b = first_of_rows c.args.item first (drop 1 rows) (subst (AreRowsOf c.args.item) whole a) in
          elim c.then-first-item.branch [
            | then-first-item-via-then-first-item w ↦ absurd (w.if-first-item.true b.0)
            | then-first-item-via-else-first-item+then-not-keys_rise w ↦
                sym w.if-not-keys_rise.true ∙ w.keys_rise.ensures.1 b.1
          ],
    )

pub loop-k-init : goal.loop-k-init
loop-k-init c =
    let rows = c.args.rows.now in
    let first : Row = row_shown c.in-Some.first in
    let whole = drop_at rows 0 first c.in-Some.ensures.some in
    let same = rows_by_first c.args.item first (drop 1 rows) c.if-first-item.false
    (c.keys_rise.ensures.0 c.if-not-keys_rise.false) in (
      λ a. same.0 (subst (AreRowsOf c.args.item) whole a),
      λ o. subst (AreRowsOf c.args.item) (sym whole) (same.1 o),
    )

pub returns-then-row-item : goal.returns-then-row-item
returns-then-row-item c =
    let rows = c.args.rows.now in
    let row : Row = row_shown c.in-Some-get.row in
    let rest = drop_at rows c.loop-k.k row c.in-Some-get.ensures.some in (
      λ e. absurd (cc),
      λ a.
          let o = subst (RowsFollow c.args.item (pieces_shown c.loop-k.before)) rest (c.loop-k.invariant.0 a) in
          elim c.then-row-item.branch [
            | then-row-item-via-then-row-item w ↦ absurd (w.if-row-item.true o.0)
            | then-row-item-via-else-row-item+then-not-keys_rise-2 w ↦
                sym w.if-not-keys_rise-2.true ∙ w.keys_rise-else-row-item.ensures.1 o.1
            | then-row-item-via-else-row-item+else-not-keys_rise-2+then-not-keys_follow w ↦
                sym w.if-not-keys_follow.true ∙ w.keys_follow.ensures.1 o.2
          ],
    )

pub loop-k-preserved : goal.loop-k-preserved
loop-k-preserved c =
    let rows = c.args.rows.now in
    let item = c.args.item in
    let row : Row = row_shown c.in-Some-get.row in
    let before = pieces_shown c.loop-k.before in
    let rest = drop_at rows c.loop-k.k row c.in-Some-get.ensures.some in
    let next : suc c.loop-k.k ≡ c.loop-k.k + 1 = omega arith in
    let now : kept before row.keys ≡ pieces_shown c.if-len-gt0.before = elim c.if-len-gt0.branch [
      | then-len-gt0 w ↦
          let some : 0 < length row.keys = omega (arith, c.len.ensures, w.if-len-gt0.true) in
          kept_some before row.keys some ∙ ap pieces_shown (sym w.before-is)
      | else-len-gt0 w ↦
          let none : length row.keys ≤ 0 = omega (arith, c.len.ensures, w.if-len-gt0.false) in
          kept_none before row.keys none ∙ ap pieces_shown (sym w.before-is)
    ] in
    let behind = ap (λ k. drop k rows) next in (
      λ a.
          let o = subst (RowsFollow item before) rest (c.loop-k.invariant.0 a) in
          subst₂ (RowsFollow item) now behind o.3,
      λ o. c.loop-k.invariant.1 (subst (RowsFollow item before) (sym rest) (
        c.if-row-item.false,
        c.keys_rise-else-row-item.ensures.0 c.if-not-keys_rise-2.false,
        c.keys_follow.ensures.0 c.if-not-keys_follow.false,
        subst₂ (RowsFollow item) (sym now) (sym behind) o,
      )),
    )
