-- A document is placed, once the one of a name is marked.
use Rattle.std.proofs.Common.{◌≡◌, inl, List, ℕ, map, sym, ap, subst, ◌∙◌}
use Rattle.std.specs.Prelude.{Result, Err, IfErr, Vec}
use Rattle.std.specs.declared.alloc.Global.{Global}
use Rattle.std.proofs.lemmas.Result.{err_from_is_err_and}
use Rattle.ts_base.specs.Encoding.{IsEncoding}
use Rattle.ts_base.specs.Keys.{Key, keys_of}
use Rattle.buffer_frames.proofs.Exits.{on_refusal}
use Rattle.engine.specs.Finding.{Name}
use Rattle.engine.specs.Work.{storing}
use Rattle.engine.specs.Going.{Goes}
use Rattle.engine.specs.Inner.Doing.{IsNotDone, TellsOfWork}
use Rattle.engine.specs.declared.error.DbError.{DbError}
use Rattle.engine.proofs.Paths.{told_in_turn, time_of}
use Rattle.engine.proofs.Doing.{placed, stopped, unplaced, not_removed}
use Rattle.engine.proofs.LawfulWork.{removal_tells, placing_tells}
use Rattle.engine.proofs.Carrying.{keeps_on}
use Rattle.engine.proofs.db.Db.place.Goals as goal

pub returns-in_err-bytes-clause-refused : goal.returns-in_err-bytes-clause-refused
returns-in_err-bytes-clause-refused g c = on_refusal _ c.from_residual.result (inl Goes.stays)

pub returns-in_err-bytes-clause-cause : goal.returns-in_err-bytes-clause-cause
returns-in_err-bytes-clause-cause g c =
    let p = err_from_is_err_and c.from_residual.result c.from_residual.ensures.1 in
    subst (λ (r : Result Name DbError).
    IfErr r (λ e. IsNotDone g.D.Disk c.args.self.now c.args.work (storing c.args.deletes c.args.vector.now) e))
    (sym (p.1 ∙ ap Err p.2)) IsNotDone.bytes

pub returns-in_err-bytes-clause-lawful : goal.returns-in_err-bytes-clause-lawful
returns-in_err-bytes-clause-lawful g c =
    let p = err_from_is_err_and c.from_residual.result c.from_residual.ensures.1 in
    subst (λ (r : Result Name DbError).
    IfErr r (λ e. TellsOfWork g.D.Disk c.args.self.now c.args.work (storing c.args.deletes c.args.vector.now) e))
    (sym (p.1 ∙ ap Err p.2)) tt

pub returns-in_err-keys-clause-refused : goal.returns-in_err-keys-clause-refused
returns-in_err-keys-clause-refused g c = on_refusal _ c.from_residual-in_err-keys.result (inl Goes.stays)

pub returns-in_err-keys-clause-cause : goal.returns-in_err-keys-clause-cause
returns-in_err-keys-clause-cause g c =
    let p = err_from_is_err_and c.from_residual-in_err-keys.result c.from_residual-in_err-keys.ensures.1 in
    subst (λ (r : Result Name DbError).
    IfErr r (λ e. IsNotDone g.D.Disk c.args.self.now c.args.work (storing c.args.deletes c.args.vector.now) e))
    (sym (p.1 ∙ ap Err p.2)) IsNotDone.bytes

pub returns-in_err-keys-clause-lawful : goal.returns-in_err-keys-clause-lawful
returns-in_err-keys-clause-lawful g c =
    let p = err_from_is_err_and c.from_residual-in_err-keys.result c.from_residual-in_err-keys.ensures.1 in
    subst (λ (r : Result Name DbError).
    IfErr r (λ e. TellsOfWork g.D.Disk c.args.self.now c.args.work (storing c.args.deletes c.args.vector.now) e))
    (sym (p.1 ∙ ap Err p.2)) tt

pub put-requires-clause-vector : goal.put-requires-clause-vector
put-requires-clause-vector g c =
    let encodes : IsEncoding c.deref.result.now c.args.vector.now =
    subst (λ (l : List ℕ). IsEncoding l c.args.vector.now) (sym c.deref.ensures.value) c.in_ok-bytes.ensures in
    let keys : List Key = map (λ (key : Vec ℕ Global). key.items) c.deref-2.result.now in
    let of : keys ≡ keys_of c.args.vector.now =
    subst (λ (l : List (Vec ℕ Global)). map (λ (key : Vec ℕ Global). key.items) l ≡ keys_of c.args.vector.now)
    (sym c.deref-2.ensures.value) c.in_ok-keys.ensures.keys in
    (c.args.vector.now, encodes, of)

pub returns-in_err-remove-clause-cause : goal.returns-in_err-remove-clause-cause
returns-in_err-remove-clause-cause g c =
    let p = err_from_is_err_and c.from_residual-in_err-remove.result c.from_residual-in_err-remove.ensures.1 in
    let e : DbError = (c.in_err-remove.field-0).0 in
    subst (λ (r : Result Name DbError).
    IfErr r (λ e. IsNotDone g.D.Disk c.args.self.now c.args.work (storing c.args.deletes c.args.vector.now) e))
    (sym (p.1 ∙ ap Err p.2))
    (not_removed g.D.Disk c.args.self.now c.remove.new.self c.remove.new.pass c.args.work c.args.deletes
    c.args.vector.now e c.in_err-remove.ensures.cause)

pub returns-in_err-remove-clause-lawful : goal.returns-in_err-remove-clause-lawful
returns-in_err-remove-clause-lawful g c =
    let p = err_from_is_err_and c.from_residual-in_err-remove.result c.from_residual-in_err-remove.ensures.1 in
    let e : DbError = (c.in_err-remove.field-0).0 in
    subst (λ (r : Result Name DbError).
    IfErr r (λ e. TellsOfWork g.D.Disk c.args.self.now c.args.work (storing c.args.deletes c.args.vector.now) e))
    (sym (p.1 ∙ ap Err p.2))
    (removal_tells g.D.Disk c.args.self.now c.args.work c.args.deletes c.args.vector.now e
    c.in_err-remove.ensures.lawful)

pub returns-clause-done : goal.returns-clause-done
returns-clause-done g c =
    let encodes : IsEncoding c.deref.result.now c.args.vector.now =
    subst (λ (l : List ℕ). IsEncoding l c.args.vector.now) (sym c.deref.ensures.value) c.in_ok-bytes.ensures in
    let keys : List Key = map (λ (key : Vec ℕ Global). key.items) c.deref-2.result.now in
    let of : keys ≡ keys_of c.args.vector.now =
    subst (λ (l : List (Vec ℕ Global)). map (λ (key : Vec ℕ Global). key.items) l ≡ keys_of c.args.vector.now)
    (sym c.deref-2.ensures.value) c.in_ok-keys.ensures.keys in
    placed g.D.Disk c.args.self.now c.put.new.self c.put.new.pass c.args.work c.args.deletes c.remove.new.self
    c.remove.new.pass c.deref.result.now keys c.args.vector.now encodes of c.in_ok-remove.ensures.done c.put.result
    c.put.ensures.placed c.put.ensures.goes

pub returns-clause-fault : goal.returns-clause-fault
returns-clause-fault g c =
    told_in_turn g.D.Disk c.args.self.now c.remove.new.self c.put.new.self c.put.result
    (time_of g.D.Disk c.in_ok-remove.ensures.done.goes) c.in_ok-remove.ensures.fault c.put.ensures.fault

pub returns-clause-refused : goal.returns-clause-refused
returns-clause-refused g c =
    let encodes : IsEncoding c.deref.result.now c.args.vector.now =
    subst (λ (l : List ℕ). IsEncoding l c.args.vector.now) (sym c.deref.ensures.value) c.in_ok-bytes.ensures in
    let keys : List Key = map (λ (key : Vec ℕ Global). key.items) c.deref-2.result.now in
    let of : keys ≡ keys_of c.args.vector.now =
    subst (λ (l : List (Vec ℕ Global)). map (λ (key : Vec ℕ Global). key.items) l ≡ keys_of c.args.vector.now)
    (sym c.deref-2.ensures.value) c.in_ok-keys.ensures.keys in
    stopped g.D.Disk c.args.self.now c.put.new.self c.put.new.pass c.args.work c.args.deletes c.remove.new.self
    c.remove.new.pass c.deref.result.now keys c.args.vector.now encodes of c.in_ok-remove.ensures.done c.put.result
    c.put.ensures.refused

pub returns-clause-cause : goal.returns-clause-cause
returns-clause-cause g c =
    let encodes : IsEncoding c.deref.result.now c.args.vector.now =
    subst (λ (l : List ℕ). IsEncoding l c.args.vector.now) (sym c.deref.ensures.value) c.in_ok-bytes.ensures in
    let keys : List Key = map (λ (key : Vec ℕ Global). key.items) c.deref-2.result.now in
    let of : keys ≡ keys_of c.args.vector.now =
    subst (λ (l : List (Vec ℕ Global)). map (λ (key : Vec ℕ Global). key.items) l ≡ keys_of c.args.vector.now)
    (sym c.deref-2.ensures.value) c.in_ok-keys.ensures.keys in
    unplaced g.D.Disk c.args.self.now c.put.new.self c.put.new.pass c.args.work c.args.deletes c.remove.new.self
    c.remove.new.pass c.deref.result.now keys c.args.vector.now encodes of c.in_ok-remove.ensures.done c.put.result
    c.in_ok-remove.ensures.fault c.put.ensures.cause

pub returns-clause-lawful : goal.returns-clause-lawful
returns-clause-lawful g c =
    placing_tells g.D.Disk c.args.self.now c.remove.new.self c.remove.new.pass c.args.work c.args.deletes
    c.args.vector.now c.in_ok-remove.ensures.done c.in_ok-remove.ensures.fault c.deref.result.now
    (map (λ (key : Vec ℕ Global). key.items) c.deref-2.result.now) c.put.result
    c.put.ensures.cause c.put.ensures.lawful

pub returns-clause-keeps : goal.returns-clause-keeps
returns-clause-keeps g c =
    keeps_on c.args.pass.now c.remove.new.pass c.put.new.pass c.remove.ensures.keeps c.put.ensures.keeps
