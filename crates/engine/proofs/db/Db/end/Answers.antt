-- A Commit is logged and flushed, or the transaction is given up.
use Rattle.std.proofs.Common.{◌≡◌, ℕ, refl, sym, subst, ◌∙◌, arith}
use Rattle.std.specs.Prelude.{Option, IfSome}
use Rattle.std.proofs.lemmas.Result.{IfErr-weaker}
use Rattle.page_types.specs.declared.record.Kind.TheVariants as kind
use Rattle.buffer_frames.specs.declared.pass.Pinned.{Pinned}
use Rattle.engine.specs.Inner.Parts.{IsNotEnded}
use Rattle.engine.specs.Inner.Plain.{plain_record}
use Rattle.engine.specs.declared.error.DbError.{DbError}
use Rattle.engine.specs.declared.error.DbError.TheVariants.{DiskFault}
use Rattle.engine.proofs.Ending.{end_refused, on_each}
use Rattle.engine.proofs.Paths.{goes_still, one_record, time_of, told_in_turn}
use Rattle.engine.proofs.Plain.{commit_is}
use Rattle.engine.proofs.db.Db.end.Goals as goal

pub log_plain-requires-clause-pass : goal.log_plain-requires-clause-pass
log_plain-requires-clause-pass g c = (c.requires.running).is_pass

pub log_plain-requires-clause-held : goal.log_plain-requires-clause-held
log_plain-requires-clause-held g c = (c.requires.running).held

pub log_plain-requires-clause-may : goal.log_plain-requires-clause-may
log_plain-requires-clause-may g c = ((c.requires.running).xid, refl, c.requires.changed)

pub settle-requires-clause-pass : goal.settle-requires-clause-pass
settle-requires-clause-pass g c = c.log_plain.ensures.pass

pub settle-requires-clause-idle : goal.settle-requires-clause-idle
settle-requires-clause-idle g c = (c.log_plain.ensures.held, c.in-Ok.ensures.xid)

pub settle-requires-clause-up : goal.settle-requires-clause-up
settle-requires-clause-up g c = (c.in-Ok.ensures.fault).down ∙ c.requires.up

pub give_up-requires : goal.give_up-requires
give_up-requires g c =
    let r = c.requires.running in
    let pin = c.log_plain.ensures.pin in
    record {
      is_pass = c.log_plain.ensures.pass;
      taken = λ none. r.taken (sym pin ∙ none);
      snapshot = subst (λ (o : Option Pinned). IfSome o (λ p. p.commits ≡ c.args.work.snapshot)) (sym pin) r.snapshot;
      held = c.log_plain.ensures.held;
      xid = c.in-Err.ensures.same_xid ∙ r.xid;
      some = r.some;
      runs = c.in-Err.ensures.runs c.args.work.xid r.xid r.runs;
    }

pub returns-in-Ok-clause-session : goal.returns-in-Ok-clause-session
returns-in-Ok-clause-session g c = c.settle.ensures.session

pub returns-in-Ok-clause-ended : goal.returns-in-Ok-clause-ended
returns-in-Ok-clause-ended g c =
    on_each _ c.settle.result (
      plain_record c.args.self.now (kind.Commit 0) c.args.work.xid,
      commit_is c.args.self.now c.args.work.xid 0,
      goes_still g.D.Disk (one_record g.D.Disk c.in-Ok.ensures.logged) c.settle.ensures.goes,
    )

pub returns-in-Ok-clause-flushed : goal.returns-in-Ok-clause-flushed
returns-in-Ok-clause-flushed g c = c.settle.ensures.flushed

pub returns-in-Ok-clause-keeps : goal.returns-in-Ok-clause-keeps
returns-in-Ok-clause-keeps g c =
    let a = c.log_plain.ensures.keeps in
    let b = c.settle.ensures.keeps in
    record { room = b.room ∙ a.room; shown = omega (arith, a.shown, b.shown) }

pub returns-in-Ok-clause-fault : goal.returns-in-Ok-clause-fault
returns-in-Ok-clause-fault g c =
    told_in_turn g.D.Disk c.args.self.now c.log_plain.new.self c.settle.new.self c.settle.result
    (time_of g.D.Disk (one_record g.D.Disk c.in-Ok.ensures.logged)) c.in-Ok.ensures.fault c.settle.ensures.fault

pub returns-in-Ok-clause-refused : goal.returns-in-Ok-clause-refused
returns-in-Ok-clause-refused g c =
    let x = c.args.work.xid in
    let a = c.args.self.now in
    let b = c.settle.new.self in
    let failed : IsNotEnded g.D.Disk a b x DiskFault = IsNotEnded.flush (plain_record a (kind.Commit 0) x)
    (commit_is a x 0) (goes_still g.D.Disk (one_record g.D.Disk c.in-Ok.ensures.logged) c.settle.ensures.goes) in
    IfErr-weaker c.settle.result (λ (e : DbError). e ≡ DiskFault) (λ (e : DbError). IsNotEnded g.D.Disk a b x e)
    (λ e is. subst (IsNotEnded g.D.Disk a b x) (sym is) failed) c.settle.ensures.cause

pub returns-in-Err-clause-session : goal.returns-in-Err-clause-session
returns-in-Err-clause-session g c = c.give_up.ensures.session

pub returns-in-Err-clause-keeps : goal.returns-in-Err-clause-keeps
returns-in-Err-clause-keeps g c =
    let a = c.log_plain.ensures.keeps in
    let b = c.give_up.ensures.keeps in
    record { room = b.room ∙ a.room; shown = omega (arith, a.shown, b.shown) }

pub returns-in-Err-clause-fault : goal.returns-in-Err-clause-fault
returns-in-Err-clause-fault g c =
    (end_refused g.D.Disk c.args.self.now c.log_plain.new.self c.give_up.new.self c.args.work.xid
    c.in-Err.ensures.refused c.requires.up (Unit {0}) ℕ c.in-Err.error c.give_up.result c.in-Err.ensures.cause
    c.in-Err.ensures.fault c.give_up.ensures.gone c.give_up.ensures.fault).1

pub returns-in-Err-clause-refused : goal.returns-in-Err-clause-refused
returns-in-Err-clause-refused g c =
    (end_refused g.D.Disk c.args.self.now c.log_plain.new.self c.give_up.new.self c.args.work.xid
    c.in-Err.ensures.refused c.requires.up (Unit {0}) ℕ c.in-Err.error c.give_up.result c.in-Err.ensures.cause
    c.in-Err.ensures.fault c.give_up.ensures.gone c.give_up.ensures.fault).0
