-- The names of the first commits are read of the state.
use Rattle.std.proofs.Common.{◌≡◌, sym, ap, subst, ◌∙◌}
use Rattle.std.specs.Prelude.{Vec, Result, Err, IfOk, IfErr}
use Rattle.std.specs.declared.alloc.Global.{Global}
use Rattle.std.proofs.lemmas.Result.{err_from_is_err_and}
use Rattle.engine.specs.Db.{state_of}
use Rattle.engine.specs.Going.{FaultIsTold}
use Rattle.engine.specs.Inner.Finds.{ListsAll, CannotList}
use Rattle.engine.specs.declared.commit_names.CommitNames.{CommitNames}
use Rattle.engine.specs.declared.error.DbError.{DbError}
use Rattle.engine.specs.declared.error.DbError.TheVariants.{OutOfMemory}
use Rattle.engine.proofs.ReadSteps.{reading_on}
use Rattle.engine.proofs.SnapshotReads.{lists_all, first_named}
use Rattle.engine.proofs.db.Db.list.Goals as goal

pub returns-in_err-listed : goal.returns-in_err-listed
returns-in_err-listed g c = absurd c.in_err-listed.ensures.always

pub returns-in_err-names : goal.returns-in_err-names
returns-in_err-names g c =
    let p = err_from_is_err_and c.from_residual-in_err-names.result c.from_residual-in_err-names.ensures.1 in
    let out : c.from_residual-in_err-names.result ≡ Err OutOfMemory = p.1 ∙ ap Err p.2 in
    record {
      reading = reading_on g.D.Disk c.args.self.now c.ask.new.self c.args.pass.now c.ask.new.pass c.args.commits
          c.requires.reading
          c.in_ok-listed.ensures.reads;
      listed = subst (λ (r : Result (Vec CommitNames Global) DbError). IfOk r (λ ns.
          ListsAll g.D.Disk c.args.self.now c.args.commits ns.items)) (sym out) tt;
      goes = c.in_ok-listed.ensures.reads.goes;
      keeps = c.in_ok-listed.ensures.reads.keeps;
      fault = subst (FaultIsTold g.D.Disk c.args.self.now c.ask.new.self) (sym out) c.in_ok-listed.ensures.met;
      cause = subst (λ (r : Result _ DbError). IfErr r CannotList) (sym out) tt;
    }

pub returns : goal.returns
returns g c =
    let e = c.in_ok-listed.ensures in
    record {
      reading = reading_on g.D.Disk c.args.self.now c.ask.new.self c.args.pass.now c.ask.new.pass c.args.commits
          c.requires.reading e.reads;
      listed = lists_all g.D.Disk c.args.self.now c.args.commits c.in_ok-names.names.items
          (first_named _ (state_of c.args.self.now) c.ask.new.pass.floor c.ask.new.pass.since c.in_ok-listed.listed
          c.in_ok-names.names c.in_ok-names.was e.answers);
      goes = e.reads.goes;
      keeps = e.reads.keeps;
      fault = e.met;
      cause = tt;
    }
