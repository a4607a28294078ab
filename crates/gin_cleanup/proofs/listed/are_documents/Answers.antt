use Rattle.std.proofs.Common.{◌<◌, ◌≤◌, ◌+◌, List, false, length, refl, sym, subst, inl, inr, arith}
use Rattle.std.proofs.lemmas.List.{take_all}
use Rattle.page_types.specs.Parts.{row_shown}
use Rattle.page_types.specs.declared.page.Row.{Row}
use Rattle.core_state.specs.Log.{In}
use Rattle.gin_cleanup.proofs.PutRows.{in_more, last_in}
use Rattle.gin_cleanup.proofs.RowLists.{in_take}
use Rattle.gin_cleanup.proofs.Tests.{not_both, not_above}
use Rattle.gin_cleanup.proofs.listed.are_documents.Goals as goal
use Rattle.gin_cleanup.proofs.listed.are_documents.Goals.{in-Some+else-row-eq0, in_default}

pub loop-k-preserved : goal.loop-k-preserved
loop-k-preserved c = elim c.match-get.branch [
  | in-Some+else-row-eq0 w ↦ λ v i.
      elim (in_more c.args.rows.now c.loop-k.k (row_shown w.in-Some.row) w.in-Some.ensures.some v i) [
        | inl j ↦ c.loop-k.invariant v j
        | inr e ↦ subst (λ (x : Row). 0 < x.item) (sym e) (omega (arith, w.if-row-eq0.false))
      ]
  | in_default w ↦ absurd (omega (arith, w.in_default.ensures.none, c.loop-k-test.true, c.len-k-end.ensures))
]

pub returns-then-row-eq0 : goal.returns-then-row-eq0
returns-then-row-eq0 c =
    let rows = c.args.rows.now in
    let row = row_shown c.in-Some.row in
    let on : In row rows = in_take (c.loop-k.k + 1) row rows (last_in rows c.loop-k.k row c.in-Some.ensures.some) in (
      λ e. absurd (not_both false e refl),
      λ each. absurd (not_above row.item (each row on) c.if-row-eq0.true),
    )

pub returns : goal.returns
returns c =
    let far : length c.args.rows.now ≤ c.loop-k.k = omega (arith, c.loop-k-test.false, c.len-k-end.ensures) in (
      λ t. subst (λ (ws : List Row). (w : Row) → In w ws → 0 < w.item) (take_all c.loop-k.k c.args.rows.now far)
          c.loop-k.invariant,
      λ each. refl,
    )
