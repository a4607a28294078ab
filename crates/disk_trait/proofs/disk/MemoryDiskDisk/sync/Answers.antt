use Rattle.std.proofs.Common.{◌≡◌, ◌∙◌, true}
use Rattle.disk_trait.specs.Inner.Kept.{is_done}
use Rattle.disk_trait.proofs.Calls.{syncs_way, succeeded, sync_crash, sync_durable, sync_all, sync_time, sync_seen}
use Rattle.disk_trait.proofs.Calls.{answered_time, answered_now, answered_keeps, answered_seen}
use Rattle.std.proofs.lemmas.Result.{on_ok_weaker}
use Rattle.disk_trait.proofs.disk.MemoryDiskDisk.sync.Goals as goal

pub returns-clause-durable : goal.returns-clause-durable
returns-clause-durable c =
    let tried = c.try_sync-tried.result in
    let way = syncs_way c.args.file c.args.self.now c.try_sync-tried.new.self tried c.try_sync-tried.ensures.keeps in
    on_ok_weaker c.answer.result (λ (is : is_done tried ≡ true). λ f left.
    sync_durable c.args.file (is_done tried) c.args.self.now c.try_sync-tried.new.self way is f
    (answered_now c.try_sync-tried.new.self c.answer.new.self c.answer.ensures.files f left)) c.answer.ensures.ok

pub returns-clause-seen : goal.returns-clause-seen
returns-clause-seen c =
    let tried = c.try_sync-tried.result in
    let way = syncs_way c.args.file c.args.self.now c.try_sync-tried.new.self tried c.try_sync-tried.ensures.keeps in
    answered_seen c.try_sync-tried.new.self c.answer.new.self c.answer.ensures.files
    ∙ sync_seen c.args.file (is_done tried) c.args.self.now c.try_sync-tried.new.self way

pub returns-clause-crash : goal.returns-clause-crash
returns-clause-crash c = λ f left.
    let tried = c.try_sync-tried.result in
    let way = syncs_way c.args.file c.args.self.now c.try_sync-tried.new.self tried c.try_sync-tried.ensures.keeps in
    sync_crash c.args.file (is_done tried) c.args.self.now c.try_sync-tried.new.self way f
    (answered_now c.try_sync-tried.new.self c.answer.new.self c.answer.ensures.files f left)

pub returns-clause-keeps : goal.returns-clause-keeps
returns-clause-keeps c = λ f was is.
    let tried = c.try_sync-tried.result in
    let way = syncs_way c.args.file c.args.self.now c.try_sync-tried.new.self tried c.try_sync-tried.ensures.keeps in
    answered_keeps c.try_sync-tried.new.self c.answer.new.self c.answer.ensures.files f
    (sync_all c.args.file (is_done tried) c.args.self.now c.try_sync-tried.new.self way f was
    (λ done. is (succeeded (is_done tried) c.answer.result c.answer.ensures.err done)))

pub returns-clause-time : goal.returns-clause-time
returns-clause-time c =
    let tried = c.try_sync-tried.result in
    let way = syncs_way c.args.file c.args.self.now c.try_sync-tried.new.self tried c.try_sync-tried.ensures.keeps in
    answered_time c.args.self.now c.try_sync-tried.new.self c.answer.new.self c.answer.ensures.files
    (sync_time c.args.file (is_done tried) c.args.self.now c.try_sync-tried.new.self way)
