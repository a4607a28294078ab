use Rattle.std.proofs.Common.{◌≢◌, Err, List, sym, ap, subst, ◌∙◌, arith}
use Rattle.std.proofs.lemmas.Result.{err_from_is_err_and}
use Rattle.disk_trait.specs.Files.{Files}
use Rattle.page_types.specs.Keys.{Rising}
use Rattle.core_state.specs.Log.{In}
use Rattle.page_types.specs.declared.record.Change.{Change}
use Rattle.buffer_frames.proofs.Only.{read_then}
use Rattle.buffer_frames.proofs.Mapping.{next_made, not_before}
use Rattle.buffer_frames.proofs.records.change_pages.Goals as goal

pub returns-in_err-change_page-clause-refused : goal.returns-in_err-change_page-clause-refused
returns-in_err-change_page-clause-refused g c = λ told at can.
    let p = err_from_is_err_and c.from_residual.result c.from_residual.ensures.1 in
    let xs : List Change = c.as_slice-change-items.result.now in
    not_before _ _ c.args.map.now c.loop-change.map c.args.rec.now.number c.loop-change.change-index xs
    c.change-item.result
    (ap (λ (f : Files). f.pages) (c.loop-change.invariant.only.same told))
    (subst (Rising (λ (a b : Change). a.page ≢ b.page)) (sym c.as_slice-change-items.ensures) c.requires.once)
    c.loop-change-test.true c.change-item.is (c.loop-change.invariant.made told)
    (c.in_err-change_page.ensures.refused told (ap Err (sym p.2) ∙ sym p.1 ∙ at))
    (λ d i. can d (subst (λ (l : List Change). In d l) c.as_slice-change-items.ensures i))

pub loop-change-preserved : goal.loop-change-preserved
loop-change-preserved g c = record {
  only = read_then g.D.Disk _ _ _ c.loop-change.invariant.only c.change_page.ensures.keeps;
  time = omega (arith, c.loop-change.invariant.time, c.change_page.ensures.cause.time);
  later = omega (arith, c.loop-change.invariant.later, c.change_page.ensures.cause.later);
  no_write = c.change_page.ensures.cause.no_write ∙ c.loop-change.invariant.no_write;
  made = λ told.
      let xs : List Change = c.as_slice-change-items.result.now in
      next_made _ _ c.args.map.now c.loop-change.map c.change_page.new.map c.args.rec.now.number
      c.loop-change.change-index xs c.change-item.result
      (ap (λ (f : Files). f.pages) (c.loop-change.invariant.only.same told))
      (subst (Rising (λ (a b : Change). a.page ≢ b.page)) (sym c.as_slice-change-items.ensures) c.requires.once)
      c.loop-change-test.true c.change-item.is (c.loop-change.invariant.made told)
      (c.in_ok-change_page.ensures.made told);
}
