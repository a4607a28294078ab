use Rattle.std.proofs.Common.{◌≡◌, ◌⊎◌, ◌≤◌, List, length, subst, inl, inr, arith}
use Rattle.std.proofs.lemmas.List.{take_all}
use Rattle.std.specs.Prelude.{◌↔◌, Result, Ok, Err, OnErr}
use Rattle.ts_base.specs.Keys.{Key}
use Rattle.page_types.specs.Parts.{row_shown}
use Rattle.core_state.specs.Log.{In}
use Rattle.gin_cleanup.specs.Gathered.{Has}
use Rattle.gin_cleanup.proofs.RowLists.{in_take}
use Rattle.gin_cleanup.proofs.GatheringRows.{keys_next, two_steps}
use Rattle.gin_cleanup.proofs.gathered.Gathered.put_row.Goals as goal

pub returns-in_err-put-clause-err : goal.returns-in_err-put-clause-err
returns-in_err-put-clause-err c = on_err c.from_residual.result record {
  keeps = λ k i h. (c.in_err-put.ensures.err k i).1 ((c.loop-j.invariant k i).1 (inl h));
  just = λ k i h. elim ((c.loop-j.invariant k i).0 ((c.in_err-put.ensures.err k i).0 h)) [
    | inl o ↦ inl o
    | inr r ↦ inr (r.0, in_take c.loop-j.j k (row_shown c.args.row).keys r.1)
  ];
}
  where
    on_err : {A E P : Type 0} (r : Result A E) → P → OnErr r P
    on_err (Ok x) p = tt
    on_err (Err e) p = p

pub loop-j-preserved : goal.loop-j-preserved
loop-j-preserved c = λ k i. two_steps (c.loop-j.invariant k i) (c.in_ok-put.ensures.ok k i)
    (keys_next (row_shown c.args.row).keys c.loop-j.j c.args.row.item c.at.result.now k i c.at.ensures)

pub returns-clause-ok : goal.returns-clause-ok
returns-clause-ok c =
    let keys = (row_shown c.args.row).keys in
    let past : length keys ≤ c.loop-j.j = omega (arith, c.loop-j-test.false, c.len-j-end.ensures) in
    λ k i. subst (λ (ks : List Key). Has c.loop-j.self k i
    ↔ (Has c.args.self.now k i ⊎ ((c.args.row.item ≡ i) × In k ks))) (take_all c.loop-j.j keys past)
    (c.loop-j.invariant k i)
