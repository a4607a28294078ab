use Rattle.std.proofs.Common.{◌≡◌, ℕ, List, Ok, Err, Bool, refl, sym, ap, subst, ◌∙◌, arith}
use Rattle.std.proofs.lemmas.Result.{err_from_is_err_and}
use Rattle.disk_trait.specs.Files.{Files}
use Rattle.wal.specs.Reading.{IsReading, IsBroken}
use Rattle.wal.specs.Batches.{HasBatches}
use Rattle.wal.specs.Settled.{LogIs}
use Rattle.wal.specs.Waiting.{end_of}
use Rattle.wal.proofs.Keeping.{still_is}
use Rattle.buffer_frames.specs.NoStore.{IsNoStore}
use Rattle.buffer_frames.specs.Causes.{NotAStoreWhere}
use Rattle.buffer_frames.proofs.Only.{none_read, read_then}
use Rattle.buffer_frames.proofs.Exits.{refused_log, refused_where}
use Rattle.buffer_frames.proofs.Loading.{none_loaded, more_loaded, limits_loaded, all_loaded, broken_there}
use Rattle.buffer_frames.proofs.Loading.{no_batch_there, still_read, given_goes}
use Rattle.buffer_frames.specs.declared.page_map.PageMap.{PageMap}
use Rattle.buffer_frames.proofs.records.read_records.Goals as goal

pub loop-init : goal.loop-init
loop-init g c = record {
  only = none_read g.D.Disk c.args.disk.now;
  time = omega arith;
  later = omega arith;
  no_write = refl;
  same = record { waits = refl; limit_is = refl; down_is = refl };
  loads =
      none_loaded g.D.Disk c.args.disk.now c.args.wal.now c.args.state.now.value c.new-map.result c.requires.reading
      c.requires.empty c.new-map.ensures;
}

pub returns-in_err-read_batch-clause-no_store : goal.returns-in_err-read_batch-clause-no_store
returns-in_err-read_batch-clause-no_store g c = λ told.
    let i = c.loop.invariant in
    let files : Files = g.D.Disk.seen c.args.disk.now in
    let log : List ℕ = (g.D.Disk.seen c.loop.disk).log in
    let same : log ≡ files.log = ap (λ (f : Files). f.log) (i.only.same told) in
    let given = i.loads.given told in
    let p = err_from_is_err_and c.from_residual.result c.from_residual.ensures.1 in
    subst (NotAStoreWhere (IsNoStore files)) (sym (p.1 ∙ ap Err p.2))
    (refused_log Bool PageMap (IsNoStore files) (IsBroken log (end_of c.loop.wal)) c.in_err-read_batch.field-0.0
    (λ b. broken_there g.D.Disk c.args.disk.now c.loop.disk c.loop.wal _ _ c.loop.state.value c.loop.map i.loads told
    (subst (λ (l : List ℕ). IsBroken l (end_of c.loop.wal)) same b))
    (c.in_err-read_batch.ensures.no_store told given.batches
    (subst (λ (l : List ℕ). IsReading c.loop.wal l given.batches) (sym same) given.reading)))

pub returns-then-not-branch-clause-read : goal.returns-then-not-branch-clause-read
returns-then-not-branch-clause-read g c =
    let i = c.loop.invariant in
    let log : List ℕ = (g.D.Disk.seen c.loop.disk).log in
    let first : List ℕ = (g.D.Disk.seen c.args.disk.now).log in
    let same : g.D.Disk.tells → log ≡ first = λ told. ap (λ (f : Files). f.log) (i.only.same told) in
    let here : g.D.Disk.tells → (batches : List (List ℕ)) → IsReading c.loop.wal first batches
    → IsReading c.loop.wal log batches = λ told batches reading. subst
    (λ (l : List ℕ). IsReading c.loop.wal l batches) (sym (same told)) reading in (
      i.loads.R,
      all_loaded g.D.Disk c.args.disk.now c.loop.disk c.read_batch.new.disk c.loop.wal c.read_batch.new.self _ _
          c.loop.state.value c.loop.map i.loads
          (c.in_ok-read_batch.ensures.ready (ap Ok c.if-not-branch.true)).0
          (λ told batches reading. subst (λ (l : List ℕ). HasBatches l batches) (same told)
          (c.in_ok-read_batch.ensures.end told batches (here told batches reading)
          (ap Ok c.if-not-branch.true)).0)
          (λ told batches reading is.
          c.in_ok-read_batch.ensures.settled told batches (here told batches reading)
          (subst (λ (l : List ℕ). LogIs g.D.Disk l c.loop.disk) (sym (same told))
          (still_is g.D.Disk c.args.disk.now c.loop.disk told i.only first is)) (ap Ok c.if-not-branch.true)),
    )

pub returns-then-not-branch-clause-limits : goal.returns-then-not-branch-clause-limits
returns-then-not-branch-clause-limits g c =
    limits_loaded g.D.Disk c.args.disk.now c.loop.disk c.loop.wal _ _ c.loop.state.value c.loop.map
    c.loop.invariant.loads

pub returns-then-not-branch-clause-no_store : goal.returns-then-not-branch-clause-no_store
returns-then-not-branch-clause-no_store g c = λ told none.
    let read = returns-then-not-branch-clause-read g c in
    c.stores_are_known.ensures (g.D.Disk.seen c.args.disk.now) read.0 (read.1.store told) none

pub returns-in_err-read_batch_records-clause-no_store : goal.returns-in_err-read_batch_records-clause-no_store
returns-in_err-read_batch_records-clause-no_store g c = λ told.
    let i = c.loop.invariant in
    let files : Files = g.D.Disk.seen c.args.disk.now in
    let same = ap (λ (f : Files). f.log) (i.only.same told) in
    let read =
    still_read g.D.Disk c.loop.disk c.read_batch.new.disk _ _ _ _ _ i.loads.R c.read_batch.ensures.keeps
    i.loads.is_read in
    let p = err_from_is_err_and c.from_residual-in_err-read_batch_records.result
    c.from_residual-in_err-read_batch_records.ensures.1 in
    subst (NotAStoreWhere (IsNoStore files)) (sym (p.1 ∙ ap Err p.2))
    (refused_where PageMap (IsNoStore files) c.in_err-read_batch_records.field-0.0
    (λ is. no_batch_there g.D.Disk c.args.disk.now c.loop.disk c.read_batch_records.new.disk c.loop.wal
    c.read_batch.new.self _ _
    c.loop.state.value c.loop.map c.deref.result.now i.loads told
    (λ batches. given_goes c.loop.wal c.read_batch.new.self (g.D.Disk.seen c.args.disk.now).log
    (g.D.Disk.seen c.loop.disk).log c.in_ok-read_batch.field-0 c.read_batch.new.out.items c.deref.result.now
    batches (ap (λ (f : Files). f.log) (i.only.same told)) c.if-not-branch.false c.deref.ensures.value
    (c.in_ok-read_batch.ensures.given told batches))
    (c.in_err-read_batch_records.ensures.refused files.pages _ _ i.loads.R read told (ap Err is))))

pub loop-preserved : goal.loop-preserved
loop-preserved g c =
    let i = c.loop.invariant in
    let read =
    still_read g.D.Disk c.loop.disk c.read_batch.new.disk _ _ _ _ _ i.loads.R c.read_batch.ensures.keeps
    i.loads.is_read in
    record {
      only = read_then g.D.Disk _ _ _ (read_then g.D.Disk _ _ _ i.only c.read_batch.ensures.keeps)
          c.read_batch_records.ensures.keeps;
      time = omega (arith, i.time, c.read_batch.ensures.cause.time, c.read_batch_records.ensures.cause.time);
      later = omega (arith, i.later, c.read_batch.ensures.cause.later, c.read_batch_records.ensures.cause.later);
      no_write = c.read_batch_records.ensures.cause.no_write ∙ c.read_batch.ensures.cause.no_write ∙ i.no_write;
      same = record {
        waits = c.read_batch.ensures.same.waits ∙ i.same.waits;
        limit_is = c.read_batch.ensures.same.limit_is ∙ i.same.limit_is;
        down_is = c.read_batch.ensures.same.down_is ∙ i.same.down_is;
      };
      loads =
          more_loaded g.D.Disk c.args.disk.now c.loop.disk c.read_batch_records.new.disk c.loop.wal
          c.read_batch.new.self _ _
          c.loop.state.value _ c.loop.map _ c.deref.result.now i.loads
          (λ told. (λ batches. given_goes c.loop.wal c.read_batch.new.self (g.D.Disk.seen c.args.disk.now).log
          (g.D.Disk.seen c.loop.disk).log c.in_ok-read_batch.field-0 c.read_batch.new.out.items c.deref.result.now
          batches (ap (λ (f : Files). f.log) (i.only.same told)) c.if-not-branch.false c.deref.ensures.value
          (c.in_ok-read_batch.ensures.given told batches)))
          (c.in_ok-read_batch_records.ensures.read _ _ _ i.loads.R read);
    }
