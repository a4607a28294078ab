use Rattle.std.proofs.Common.{◌≡◌, ◌∙◌, inr, ℕ, List, Err, sym, ap, subst}
use Rattle.std.proofs.lemmas.Result.{err_from_is_err_and}
use Rattle.wal.specs.declared.log.Wal.{Wal}
use Rattle.core_state.specs.Rooms.{InMemory}
use Rattle.core_state.specs.States.{StateValue, state_of}
use Rattle.buffer_frames.specs.Causes.{NotAStoreWhere}
use Rattle.buffer_frames.specs.Maps.{HasApplied}
use Rattle.buffer_frames.specs.NoStore.{IsNoStore}
use Rattle.buffer_frames.specs.declared.error.OpenFault.TheVariants.{NotAStore}
use Rattle.buffer_frames.specs.declared.page_map.PageMap.{PageMap}
use Rattle.buffer_frames.proofs.Exits.{one_error, refused_where}
use Rattle.buffer_frames.proofs.Only.{read_then}
use Rattle.buffer_frames.proofs.OpeningRuns.{runs_on, run_reads}
use Rattle.buffer_frames.proofs.StoreBefore.{store_before, no_store_before, none_unborn, only_told, at_refusal}
use Rattle.buffer_frames.proofs.opening.read_store.Goals as goal

pub returns-in_err-map-clause-runs : goal.returns-in_err-map-clause-runs
returns-in_err-map-clause-runs g c t = runs_on g.D.Disk c.args.disk.now c.open_log.new.disk c.read_records.new.disk t
    (c.open_log.ensures.runs t) c.read_records.ensures.keeps

pub returns-in_err-map-clause-no_store : goal.returns-in_err-map-clause-no_store
returns-in_err-map-clause-no_store g c t =
    let p = err_from_is_err_and c.from_residual-in_err-map.result c.from_residual-in_err-map.ensures.1 in
    subst (NotAStoreWhere (IsNoStore (g.D.Disk.seen c.args.disk.now))) (sym (p.1 ∙ ap Err p.2))
    (refused_where (Wal × InMemory × PageMap) (IsNoStore (g.D.Disk.seen c.args.disk.now)) c.in_err-map.field-0.0
    (λ is. no_store_before g.D.Disk c.stores_are_known.ensures c.args.disk.now c.open_log.new.disk
    (c.in_ok-wal.ensures.made t)
    (at_refusal PageMap (IsNoStore (g.D.Disk.seen c.open_log.new.disk)) c.in_err-map.field-0.0
    (c.in_err-map.ensures.no_store t) is)))

pub returns-in_err-map-clause-only_read : goal.returns-in_err-map-clause-only_read
returns-in_err-map-clause-only_read g c at =
    let p = err_from_is_err_and c.from_residual-in_err-map.result c.from_residual-in_err-map.ensures.1 in
    let is : c.in_err-map.field-0.0 ≡ NotAStore =
    sym p.2 ∙ one_error c.from_residual-in_err-map.result p.0 NotAStore p.1 at in
    only_told g.D.Disk c.args.disk.now c.read_records.new.disk (λ t.
    read_then g.D.Disk c.args.disk.now c.open_log.new.disk c.read_records.new.disk
    (c.open_log.ensures.born t (none_unborn g.D.Disk c.stores_are_known.ensures c.args.disk.now
    (no_store_before g.D.Disk c.stores_are_known.ensures c.args.disk.now c.open_log.new.disk
    (c.in_ok-wal.ensures.made t)
    (at_refusal PageMap (IsNoStore (g.D.Disk.seen c.open_log.new.disk)) c.in_err-map.field-0.0
    (c.in_err-map.ensures.no_store t) is))))
    c.read_records.ensures.keeps)

pub returns-clause-read : goal.returns-clause-read
returns-clause-read g c =
    let read = c.in_ok-map.ensures.read in
    let v : StateValue = c.read_records.new.state.value in
    let pages : v.pages ≡ c.args.settings.now.pages =
    c.in_ok-map.ensures.limits.0 ∙ ap (λ (x : StateValue). x.pages) c.new-state.ensures in
    let xid_limit : v.xid_limit ≡ c.args.settings.now.xid_limit =
    c.in_ok-map.ensures.limits.1 ∙ ap (λ (x : StateValue). x.xid_limit) c.new-state.ensures in (
      read.0,
      record {
        numbered = read.1.numbered;
        state_is = read.1.state_is ∙ ap (λ (n : ℕ). state_of n v.xid_limit read.0) pages
            ∙ ap (λ (n : ℕ). state_of c.args.settings.now.pages n read.0) xid_limit;
        to_end = read.1.to_end;
        fresh = record {
          none = c.read_records.ensures.same.waits ∙ c.in_ok-wal.ensures.fresh.none;
          limit_is = c.read_records.ensures.same.limit_is ∙ c.in_ok-wal.ensures.fresh.limit_is;
          up = c.read_records.ensures.same.down_is ∙ c.in_ok-wal.ensures.fresh.up;
        };
        store = λ t. store_before g.D.Disk c.one_list.ensures.opens c.args.disk.now c.open_log.new.disk read.0
            (c.in_ok-wal.ensures.made t) (read.1.store t);
        applied = λ t. subst (λ (l : List ℕ). HasApplied l read.0 c.in_ok-map.map) (c.in_ok-wal.ensures.made t).pages
            (read.1.pages t);
        settled = λ t. read.1.settled t (c.in_ok-wal.ensures.made t).durable;
      },
    )

pub returns-clause-ran : goal.returns-clause-ran
returns-clause-ran g c =
    let ran = c.in_ok-wal.ensures.ran in (
      ran.0,
      λ t. run_reads g.D.Disk c.args.disk.now ran.0 c.open_log.new.disk c.read_records.new.disk t
          (ran.1 t) c.read_records.ensures.keeps,
    )

pub returns-clause-runs : goal.returns-clause-runs
returns-clause-runs g c t =
    let ran = c.in_ok-wal.ensures.ran in
    inr (
      ran.0,
      run_reads g.D.Disk c.args.disk.now ran.0 c.open_log.new.disk c.read_records.new.disk t
          (ran.1 t) c.read_records.ensures.keeps,
    )

pub returns-clause-no_store : goal.returns-clause-no_store
returns-clause-no_store g c t none =
    let read = c.in_ok-map.ensures.read in
    c.stores_are_known.ensures (g.D.Disk.seen c.args.disk.now) read.0 (store_before g.D.Disk c.one_list.ensures.opens
    c.args.disk.now c.open_log.new.disk read.0 (c.in_ok-wal.ensures.made t) (read.1.store t)) none
