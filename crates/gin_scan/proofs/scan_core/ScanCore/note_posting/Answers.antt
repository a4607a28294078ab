-- What is noted of a page of a posting tree.
use Rattle.std.proofs.Common.{refl, inr, inl}
use Rattle.std.proofs.lemmas.Result.{err_from_is_err_and}
use Rattle.gin_scan.proofs.scan_core.ScanCore.note_posting.Goals as goal

pub returns-in_default : goal.returns-in_default
returns-in_default c = record {
  took = refl;
  noted = tt;
  bad = inr (refl, c.in_default.ensures.none);
}

pub returns-in_err-add_entry : goal.returns-in_err-add_entry
returns-in_err-add_entry c =
    let p = err_from_is_err_and c.from_residual.result c.from_residual.ensures.1 in
    rw p.1 (record { took = refl; noted = tt; bad = inl p.2 })
