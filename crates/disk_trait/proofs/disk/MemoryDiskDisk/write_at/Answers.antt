use Rattle.std.proofs.Common.{◌≡◌, ◌∙◌, true, false, subst, sym, inl, inr, ⊎_elim, length}
use Rattle.disk_trait.proofs.Calls.{writes_way, failed, write_crash, write_time, write_seen, write_unseen, write_all}
use Rattle.disk_trait.proofs.Calls.{answered_time, answered_now, answered_keeps, answered_seen}
use Rattle.disk_trait.specs.Device.{FileTorn, FileWritten, LeavesNoMore, LeavesAll}
use Rattle.disk_trait.specs.Inner.Kept.{is_done}
use Rattle.disk_trait.specs.MemoryDisk.{seen_of, image_of}
use Rattle.std.proofs.lemmas.Result.{on_ok_weaker, on_err_weaker}
use Rattle.disk_trait.proofs.disk.MemoryDiskDisk.write_at.Goals as goal

pub returns-clause-written : goal.returns-clause-written
returns-clause-written c =
    let tried = c.try_write-tried.result in
    let way = writes_way c.args.file c.args.at c.args.bytes.now c.args.self.now c.try_write-tried.new.self tried
    c.try_write-tried.ensures.keeps in
    on_ok_weaker c.answer.result (λ (is : is_done tried ≡ true).
    subst (FileWritten c.args.file c.args.at c.args.bytes.now (seen_of c.args.self.now))
    (sym (answered_seen c.try_write-tried.new.self c.answer.new.self c.answer.ensures.files))
    (write_seen c.args.file c.args.at c.args.bytes.now
    (is_done tried) c.args.self.now c.try_write-tried.new.self way is)) c.answer.ensures.ok

pub returns-clause-unwritten : goal.returns-clause-unwritten
returns-clause-unwritten c =
    let tried = c.try_write-tried.result in
    let way = writes_way c.args.file c.args.at c.args.bytes.now c.args.self.now c.try_write-tried.new.self tried
    c.try_write-tried.ensures.keeps in
    on_err_weaker c.answer.result (λ (is : is_done tried ≡ false).
    answered_seen c.try_write-tried.new.self c.answer.new.self c.answer.ensures.files ∙ write_unseen c.args.file
    c.args.at c.args.bytes.now (is_done tried) c.args.self.now c.try_write-tried.new.self way is)
    c.answer.ensures.err

pub returns-clause-crash : goal.returns-clause-crash
returns-clause-crash c = λ f left.
    let tried = c.try_write-tried.result in
    let way = writes_way c.args.file c.args.at c.args.bytes.now c.args.self.now c.try_write-tried.new.self tried
    c.try_write-tried.ensures.keeps in
    write_crash c.args.file c.args.at c.args.bytes.now (is_done tried) c.args.self.now c.try_write-tried.new.self way f
    (answered_now c.try_write-tried.new.self c.answer.new.self c.answer.ensures.files f left)

pub returns-clause-torn : goal.returns-clause-torn
returns-clause-torn c =
    let tried = c.try_write-tried.result in
    let way = writes_way c.args.file c.args.at c.args.bytes.now c.args.self.now c.try_write-tried.new.self tried
    c.try_write-tried.ensures.keeps in
    let same = c.answer.ensures.files in
    let e = c.try_write-tried.new.self in
    let f = c.answer.new.self in
    let old = image_of c.args.self.now c.args.self.now.schedule.calls in
    ⊎_elim (λ (none : (is_done tried ≡ false) × LeavesNoMore (image_of e e.schedule.calls) old). inl (
      failed (is_done tried) c.answer.result c.answer.ensures.ok none.0,
      λ x was. answered_keeps e f same x (none.1 x was),
    ))
    (λ (all : LeavesAll (FileTorn c.args.file c.args.at (length c.args.bytes.now)) old (image_of e e.schedule.calls)).
    inr (λ d x was torn. answered_keeps e f same x (all d x was torn)))
    (write_all c.args.file c.args.at c.args.bytes.now (is_done tried) c.args.self.now e way)

pub returns-clause-time : goal.returns-clause-time
returns-clause-time c =
    let tried = c.try_write-tried.result in
    let way = writes_way c.args.file c.args.at c.args.bytes.now c.args.self.now c.try_write-tried.new.self tried
    c.try_write-tried.ensures.keeps in
    answered_time c.args.self.now c.try_write-tried.new.self c.answer.new.self c.answer.ensures.files (write_time
    c.args.file c.args.at c.args.bytes.now (is_done tried) c.args.self.now c.try_write-tried.new.self way)
