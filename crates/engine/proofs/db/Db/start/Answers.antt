-- A transaction begins.
use Rattle.std.proofs.Common.{◌≡◌, ℕ, suc, length, refl, sym, ap, subst, ◌∙◌, arith}
use Rattle.std.specs.Prelude.{Option, Some, Result, Ok, Err, IfErr, unwrap_or}
use Rattle.std.proofs.lemmas.Result.{err_from_is_err_and}
use Rattle.page_types.specs.declared.record.Kind.TheVariants as kind
use Rattle.buffer_frames.proofs.Exits.{on_refusal}
use Rattle.engine.specs.Db.{state_then}
use Rattle.engine.specs.Going.{FaultIsTold}
use Rattle.engine.specs.Inner.Plain.{plain_record, CannotStart}
use Rattle.engine.specs.declared.error.DbError.{DbError}
use Rattle.engine.specs.declared.error.DbError.TheVariants.{XidsSpent}
use Rattle.engine.proofs.Paths.{goes_on, one_nothing, one_record, path_state, time_of, told_in_turn}
use Rattle.engine.proofs.Plain.{begin_is}
use Rattle.engine.proofs.Starting.{start_why, begun_changed, spent_still}
use Rattle.engine.proofs.db.Db.start.Goals as goal

pub returns-in_err-log_plain-clause-fault : goal.returns-in_err-log_plain-clause-fault
returns-in_err-log_plain-clause-fault g c =
    let p = err_from_is_err_and c.from_residual-in_err-log_plain.result c.from_residual-in_err-log_plain.ensures.1 in
    subst (λ (r : Result ℕ DbError). FaultIsTold g.D.Disk c.args.self.now c.log_plain.new.self r)
    (c.in_err-log_plain.was ∙ sym (p.1 ∙ ap Err p.2))
    (told_in_turn g.D.Disk c.args.self.now c.must_be_there.new.self c.log_plain.new.self c.log_plain.result
    (time_of g.D.Disk c.must_be_there.ensures.goes) c.must_be_there.ensures.fault c.log_plain.ensures.fault)

pub returns-in_err-log_plain-clause-refused : goal.returns-in_err-log_plain-clause-refused
returns-in_err-log_plain-clause-refused g c =
    on_refusal _ c.from_residual-in_err-log_plain.result
    (goes_on g.D.Disk c.must_be_there.ensures.goes (one_nothing g.D.Disk c.in_err-log_plain.ensures.refused))

pub returns-in_err-log_plain-clause-cause : goal.returns-in_err-log_plain-clause-cause
returns-in_err-log_plain-clause-cause g c =
    let p = err_from_is_err_and c.from_residual-in_err-log_plain.result c.from_residual-in_err-log_plain.ensures.1 in
    let e : DbError = (c.in_err-log_plain.field-0).0 in
    let none = c.must_be_there.ensures.fault in
    subst (λ (r : Result ℕ DbError).
    IfErr r (λ w. CannotStart g.D.Disk c.args.self.now c.args.commits c.args.deletes w))
    (sym (p.1 ∙ ap Err p.2))
    (start_why g.D.Disk c.args.self.now c.must_be_there.new.self c.must_be_there.ensures.goes c.args.commits
    c.args.deletes c.in_ok-must_be_there.ensures.there e c.in_err-log_plain.ensures.cause
    (λ full up many.
    let spent : c.log_plain.result ≡ Err XidsSpent = c.log_plain.ensures.spent up refl many in
    let was : c.log_plain.result ≡ Err e = c.in_err-log_plain.was in
    let z : ⊥ = cc in z)
    (λ f down. sym none.down ∙ down))

pub returns-clause-begun : goal.returns-clause-begun
returns-clause-begun g c =
    let e = c.in_ok-log_plain.ensures in
    let drawn : c.unwrap_or.result ≡ suc (length (state_then c.must_be_there.new.self).fates) =
    c.unwrap_or.ensures ∙ ap (λ (o : Option ℕ). unwrap_or o 0) (c.xid.ensures ∙ e.xid) ∙ e.drawn in (
      omega (arith, drawn),
      (
        plain_record c.must_be_there.new.self kind.Begin 0,
        begin_is c.must_be_there.new.self c.unwrap_or.result drawn,
        goes_on g.D.Disk c.must_be_there.ensures.goes (one_record g.D.Disk e.logged),
      ),
    )

pub returns-clause-xid : goal.returns-clause-xid
returns-clause-xid g c =
    let e = c.in_ok-log_plain.ensures in
    e.xid
    ∙ sym (ap Some (c.unwrap_or.ensures ∙ ap (λ (o : Option ℕ). unwrap_or o 0) (c.xid.ensures ∙ e.xid)))

pub returns-clause-may : goal.returns-clause-may
returns-clause-may g c = (
  λ many.
      let spent : c.log_plain.result ≡ Err XidsSpent =
      c.log_plain.ensures.spent (c.in_ok-log_plain.ensures.logged).up refl
      (spent_still c.args.self.now c.must_be_there.new.self (path_state g.D.Disk c.must_be_there.ensures.goes) many) in
      let was : c.log_plain.result ≡ Ok c.in_ok-log_plain.field-0 = c.in_ok-log_plain.was in
      let z : ⊥ = cc in z,
  c.in_ok-must_be_there.ensures.there,
)

pub returns-clause-changed : goal.returns-clause-changed
returns-clause-changed g c =
    let e = c.in_ok-log_plain.ensures in
    let drawn : c.unwrap_or.result ≡ suc (length (state_then c.must_be_there.new.self).fates) =
    c.unwrap_or.ensures ∙ ap (λ (o : Option ℕ). unwrap_or o 0) (c.xid.ensures ∙ e.xid) ∙ e.drawn in
    begun_changed g.D.Disk c.counted_are_one.ensures (λ t d. g.met.D.Disk.seen_is_image d t)
    c.must_be_there.new.self c.log_plain.new.self c.must_be_there.new.pass c.log_plain.new.pass c.unwrap_or.result
    e.logged drawn e.all e.seen
