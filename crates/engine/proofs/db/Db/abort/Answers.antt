-- An Abort is logged, or refused.
use Rattle.std.proofs.Common.{ℕ, inl, inr, refl, sym, ap, subst, ◌∙◌, arith}
use Rattle.std.specs.Prelude.{Result, Err}
use Rattle.page_types.specs.declared.record.Kind.TheVariants as kind
use Rattle.buffer_frames.specs.Passes.{IsPassOf}
use Rattle.buffer_frames.specs.declared.pass.Pass.{Pass}
use Rattle.engine.specs.Going.{Goes, FaultIsTold}
use Rattle.engine.specs.Inner.Parts.{IsLeft, TellsRefusal}
use Rattle.engine.specs.Inner.Plain.{plain_record}
use Rattle.engine.specs.declared.error.DbError.{DbError}
use Rattle.engine.proofs.Ending.{given_up, refused_tells, memory_tells, abort_left}
use Rattle.engine.proofs.Paths.{one_nothing, one_record, fault_stays}
use Rattle.engine.proofs.Plain.{abort_is}
use Rattle.engine.proofs.db.Db.abort.Goals as goal

pub returns-in-DiskFault-clause-pass : goal.returns-in-DiskFault-clause-pass
returns-in-DiskFault-clause-pass g c =
    subst (λ (q : Pass). IsPassOf c.args.self.now.frames q) (sym c.give_up.ensures)
    (given_up c.args.self.now.frames c.args.pass.now c.requires.is_pass)

pub returns-in-DiskFault-clause-xid : goal.returns-in-DiskFault-clause-xid
returns-in-DiskFault-clause-xid g c = ap (λ (q : Pass). q.xid) c.give_up.ensures

pub returns-in-DiskFault-clause-held : goal.returns-in-DiskFault-clause-held
returns-in-DiskFault-clause-held g c = ap (λ (q : Pass). q.held) c.give_up.ensures ∙ c.requires.held

pub returns-in-DiskFault-clause-gone : goal.returns-in-DiskFault-clause-gone
returns-in-DiskFault-clause-gone g c = inl (Goes.stays, IsLeft.failed c.in-DiskFault.is)

pub returns-in-DiskFault-clause-keeps : goal.returns-in-DiskFault-clause-keeps
returns-in-DiskFault-clause-keeps g c = record {
  room = ap (λ (q : Pass). q.room) c.give_up.ensures;
  shown = omega (arith, ap (λ (q : Pass). q.shown) c.give_up.ensures);
}

pub returns-in-DiskFault-clause-fault : goal.returns-in-DiskFault-clause-fault
returns-in-DiskFault-clause-fault g c = TellsRefusal.same (fault_stays g.D.Disk c.args.self.now) (λ at. refl)

pub log_plain-requires : goal.log_plain-requires
log_plain-requires g c = record {
  pass = c.requires.is_pass;
  held = c.requires.held;
  may = (c.requires.xid, c.requires.some, c.requires.runs);
}

pub returns-in-Ok : goal.returns-in-Ok
returns-in-Ok g c = record {
  pass = c.log_plain.ensures.pass;
  xid = c.in-Ok.ensures.xid;
  held = c.log_plain.ensures.held;
  gone = inr (
    plain_record c.args.self.now kind.Abort c.args.work.xid,
    abort_is c.args.self.now c.args.work.xid,
    one_record g.D.Disk c.in-Ok.ensures.logged,
  );
  keeps = c.log_plain.ensures.keeps;
  fault = TellsRefusal.same c.in-Ok.ensures.fault (λ at. absurd (c.in_default.not-DiskFault at));
}

pub returns-in-DiskFault-error : goal.returns-in-DiskFault-error
returns-in-DiskFault-error g c =
    let up = c.give_up-in-Err.ensures in
    record {
      pass = subst (λ (q : Pass). IsPassOf c.log_plain.new.self.frames q) (sym up)
          (given_up c.log_plain.new.self.frames c.log_plain.new.pass c.log_plain.ensures.pass);
      xid = ap (λ (q : Pass). q.xid) up;
      held = ap (λ (q : Pass). q.held) up ∙ c.log_plain.ensures.held;
      gone = inl (one_nothing g.D.Disk c.in-Err.ensures.refused, IsLeft.failed c.in-DiskFault-error.is);
      keeps = record {
        room = ap (λ (q : Pass). q.room) up ∙ (c.log_plain.ensures.keeps).room;
        shown = omega (arith, ap (λ (q : Pass). q.shown) up, (c.log_plain.ensures.keeps).shown);
      };
      fault = subst (TellsRefusal g.D.Disk c.args.self.now c.log_plain.new.self c.args.refusal)
          (sym c.in-DiskFault-error.is)
          (TellsRefusal.failed
          (subst (λ (w : DbError).
          let r : Result ℕ DbError = Err w in
          FaultIsTold g.D.Disk c.args.self.now c.log_plain.new.self r) c.in-DiskFault-error.is
          c.in-Err.ensures.fault));
    }

pub returns-in-OutOfMemory : goal.returns-in-OutOfMemory
returns-in-OutOfMemory g c =
    let up = c.give_up-in-Err.ensures in
    record {
      pass = subst (λ (q : Pass). IsPassOf c.log_plain.new.self.frames q) (sym up)
          (given_up c.log_plain.new.self.frames c.log_plain.new.pass c.log_plain.ensures.pass);
      xid = ap (λ (q : Pass). q.xid) up;
      held = ap (λ (q : Pass). q.held) up ∙ c.log_plain.ensures.held;
      gone = inl (one_nothing g.D.Disk c.in-Err.ensures.refused, IsLeft.memory c.in-OutOfMemory.is);
      keeps = record {
        room = ap (λ (q : Pass). q.room) up ∙ (c.log_plain.ensures.keeps).room;
        shown = omega (arith, ap (λ (q : Pass). q.shown) up, (c.log_plain.ensures.keeps).shown);
      };
      fault = memory_tells g.D.Disk ℕ c.args.refusal c.in-Err.error c.in_default.not-DiskFault
          c.in-OutOfMemory.is c.in-Err.ensures.fault;
    }

pub returns-in_default-error : goal.returns-in_default-error
returns-in_default-error g c =
    let up = c.give_up-in-Err.ensures in
    let path = one_nothing g.D.Disk c.in-Err.ensures.refused in
    record {
      pass = subst (λ (q : Pass). IsPassOf c.log_plain.new.self.frames q) (sym up)
          (given_up c.log_plain.new.self.frames c.log_plain.new.pass c.log_plain.ensures.pass);
      xid = ap (λ (q : Pass). q.xid) up;
      held = ap (λ (q : Pass). q.held) up ∙ c.log_plain.ensures.held;
      gone = inl (
        path,
        abort_left g.D.Disk c.args.work.xid c.in-Err.error c.args.refusal path c.in-Err.ensures.cause
            c.in_default-error.not-DiskFault c.in_default-error.not-OutOfMemory,
      );
      keeps = record {
        room = ap (λ (q : Pass). q.room) up ∙ (c.log_plain.ensures.keeps).room;
        shown = omega (arith, ap (λ (q : Pass). q.shown) up, (c.log_plain.ensures.keeps).shown);
      };
      fault = refused_tells g.D.Disk ℕ c.args.refusal c.in-Err.error c.in_default.not-DiskFault
          c.in_default-error.not-DiskFault c.in-Err.ensures.fault;
    }
