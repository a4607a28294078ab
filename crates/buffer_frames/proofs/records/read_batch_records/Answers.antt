use Rattle.std.proofs.Common.{◌≡◌, ◌<◌, ◌++◌, ℕ, List, length, reverse, Err, refl, sym, ap, subst, ◌∙◌, arith}
use Rattle.std.proofs.lemmas.List.{take_rest, nil_from_length}
use Rattle.std.proofs.lemmas.Result.{err_from_is_err_and}
use Rattle.buffer_frames.proofs.Exits.{one_error}
use Rattle.buffer_frames.proofs.Only.{none_read, read_then}
use Rattle.buffer_frames.proofs.BatchReading.{ReadsSoFar, none_so_far, more_so_far, all_so_far, batch_goes_on}
use Rattle.buffer_frames.proofs.records.read_batch_records.Goals as goal

pub loop-rest-init : goal.loop-rest-init
loop-rest-init g c = record {
  only = none_read g.D.Disk c.args.disk.now;
  time = omega arith;
  later = omega arith;
  no_write = refl;
  so_far = λ file pages xid_limit R read. none_so_far g.D.Disk file pages xid_limit _ _ _ R _ read;
}

pub loop-rest-preserved : goal.loop-rest-preserved
loop-rest-preserved g c = record {
  only = read_then g.D.Disk _ _ _ c.loop-rest.invariant.only c.read_record.ensures.keeps;
  time = omega (arith, c.loop-rest.invariant.time, c.read_record.ensures.cause.time);
  later = omega (arith, c.loop-rest.invariant.later, c.read_record.ensures.cause.later);
  no_write = c.read_record.ensures.cause.no_write ∙ c.loop-rest.invariant.no_write;
  so_far = λ file pages xid_limit R read.
      let so_far = c.loop-rest.invariant.so_far file pages xid_limit R read in
      subst (λ (l : List ℕ). ReadsSoFar g.D.Disk c.read_record.new.disk file pages xid_limit
      c.read_record.new.state.value c.read_record.new.map R c.args.bytes.now l)
      (sym (take_rest c.loop-rest.rest.now c.in_ok-size.size))
      (more_so_far g.D.Disk file pages xid_limit c.loop-rest.disk c.read_record.new.disk c.loop-rest.state.value
      c.read_record.new.state.value c.loop-rest.map c.read_record.new.map R c.args.bytes.now c.loop-rest.rest.now
      c.in_ok-size.size so_far
      (c.in_ok-size.ensures.read file pages xid_limit (reverse so_far.done ++ R) so_far.is_read));
}

pub returns-in_err-size-clause-refused : goal.returns-in_err-size-clause-refused
returns-in_err-size-clause-refused g c = λ file pages xid_limit R read told at row is numbered can.
    let p = err_from_is_err_and c.from_residual.result c.from_residual.ensures.1 in
    let so_far = c.loop-rest.invariant.so_far file pages xid_limit R read in
    let some : 0 < length c.loop-rest.rest.now = grind (arith, c.loop-rest-test.ensures) in
    let on =
    batch_goes_on file R c.args.bytes.now c.loop-rest.rest.now so_far.done row so_far.each so_far.split some is
    numbered can in
    c.in_err-size.ensures.refused file pages xid_limit (reverse so_far.done ++ R) so_far.is_read told
    (ap Err (sym p.2 ∙ one_error c.from_residual.result p.0 _ p.1 at)) on.next on.behind on.is on.encoded
    on.number on.can

pub returns-clause-read : goal.returns-clause-read
returns-clause-read g c = λ file pages xid_limit R read.
    let none : length c.loop-rest.rest.now ≡ 0 = grind (arith, c.loop-rest-test.ensures) in
    all_so_far g.D.Disk file pages xid_limit c.loop-rest.disk c.loop-rest.state.value c.loop-rest.map R
    c.args.bytes.now c.loop-rest.rest.now (nil_from_length c.loop-rest.rest.now none)
    (c.loop-rest.invariant.so_far file pages xid_limit R read)
