use Rattle.std.proofs.Common.{◌⊎◌, ◌≤◌, ◌+◌, List, take, length, sym, subst, inl, inr, arith}
use Rattle.std.proofs.lemmas.List.{take_all}
use Rattle.std.specs.Prelude.{◌↔◌, Result, Ok, Err, OnErr}
use Rattle.page_types.specs.Parts.{row_shown}
use Rattle.page_types.specs.declared.page.Row.{Row}
use Rattle.core_state.specs.Index.{InRows}
use Rattle.gin_cleanup.specs.Gathered.{Has, KeyItems}
use Rattle.gin_cleanup.proofs.GatheringRows.{rows_next, rows_part, two_steps}
use Rattle.gin_cleanup.proofs.gathered.Gathered.put_rows.Goals as goal
use Rattle.gin_cleanup.proofs.gathered.Gathered.put_rows.Goals.{in-Some+in_ok-put_row, in_default}

pub returns-in_err-put_row-clause-err : goal.returns-in_err-put_row-clause-err
returns-in_err-put_row-clause-err c =
    let rows = c.args.rows.now in
    let n = c.loop-k.k in
    let err = c.in_err-put_row.ensures.err in
    on_err c.from_residual.result record {
      keeps = λ k i h. err.keeps k i ((c.loop-k.invariant k i).1 (inl h));
      just = λ k i h. elim (err.just k i h) [
        | inl m ↦ elim ((c.loop-k.invariant k i).0 m) [ inl o ↦ inl o | inr r ↦ inr (rows_part rows n k i r) ]
        | inr p ↦ inr (rows_part rows (n + 1) k i
            ((rows_next rows n (row_shown c.in-Some.row) k i c.in-Some.ensures.some).1 (inr p)))
      ];
    }
  where
    on_err : {A E P : Type 0} (r : Result A E) → P → OnErr r P
    on_err (Ok x) p = tt
    on_err (Err e) p = p

pub loop-k-preserved : goal.loop-k-preserved
loop-k-preserved c = elim c.match-get.branch [
  | in-Some+in_ok-put_row w ↦ λ k i. subst (λ (es : KeyItems). Has es k i
      ↔ (Has c.args.self.now k i ⊎ InRows (take (c.loop-k.k + 1) c.args.rows.now) k i)) (sym w.self-is)
      (two_steps (c.loop-k.invariant k i) (w.in_ok-put_row.ensures.ok k i)
      (rows_next c.args.rows.now c.loop-k.k (row_shown w.in-Some.row) k i w.in-Some.ensures.some))
  | in_default w ↦ absurd (omega (arith, w.in_default.ensures.none, c.loop-k-test.true, c.len-k-end.ensures))
]

pub returns-clause-ok : goal.returns-clause-ok
returns-clause-ok c =
    let rows = c.args.rows.now in
    let past : length rows ≤ c.loop-k.k = omega (arith, c.loop-k-test.false, c.len-k-end.ensures) in
    λ k i. subst (λ (ws : List Row). Has c.loop-k.self k i ↔ (Has c.args.self.now k i ⊎ InRows ws k i))
    (take_all c.loop-k.k rows past) (c.loop-k.invariant k i)

pub loop-k-init : goal.loop-k-init
loop-k-init c = λ k i. (λ h. inl h, λ h. elim h [ inl o ↦ o | inr r ↦ absurd r.1 ])
