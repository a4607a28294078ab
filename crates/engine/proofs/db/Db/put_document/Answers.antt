-- The head is placed, then the parts are put from the last to the first.
use Rattle.std.proofs.Common.{◌≡◌, ◌<◌, ◌-◌, ◌*◌, ◌++◌, ℕ, List, [], length, take, drop, sym, subst, arith}
use Rattle.std.specs.Prelude.{Result, IfOk, IfErr, OnErr}
use Rattle.std.proofs.lemmas.Result.{err_from_is_err_and}
use Rattle.page_types.specs.Numbers.{most_body, most_slots, page_limit}
use Rattle.page_types.specs.declared.page.Name.{Name}
use Rattle.page_types.specs.declared.record.Record.{Record}
use Rattle.core_state.specs.Documents.{Doc}
use Rattle.engine.specs.Answers.{MeetsNoBadPage}
use Rattle.engine.specs.Going.{Goes}
use Rattle.engine.specs.Work.{ArePut, parts_for}
use Rattle.engine.specs.Inner.Changing.{doc_of}
use Rattle.engine.specs.Inner.Parts.{HasRows, CannotPut}
use Rattle.engine.specs.declared.error.DbError.{DbError}
use Rattle.engine.proofs.Carrying.{keeps_on}
use Rattle.engine.proofs.Paths.{time_of, told_in_turn}
use Rattle.engine.proofs.ReadSteps.{refused_told}
use Rattle.engine.proofs.Putting.{encoding_small, puts_begin, part_starts, part_fits, next_is, puts_more, puts_all}
use Rattle.engine.proofs.Putting.{puts_it, puts_some, part_cause, part_lawful, puts_none, place_cause}
use Rattle.engine.proofs.db.Db.put_document.Goals as goal

pub place_head-requires-clause-size : goal.place_head-requires-clause-size
place_head-requires-clause-size g c =
    encoding_small c.args.bytes.now c.requires.vector.0 c.requires.vector.1

-- ── the head is refused ──

pub returns-in_err-name-clause-placed : goal.returns-in_err-name-clause-placed
returns-in_err-name-clause-placed g c =
    let p = err_from_is_err_and c.from_residual.result c.from_residual.ensures.1 in
    λ v w is none had. subst (λ (r : Result Name DbError). IfOk r (λ n.
    HasRows g.D.Disk c.place_head.new.self c.place_head.new.pass c.args.work.xid (doc_of n) v [] 0 w.deleted))
    (sym p.1) tt

pub returns-in_err-name-clause-place : goal.returns-in_err-name-clause-place
returns-in_err-name-clause-place g c =
    let p = err_from_is_err_and c.from_residual.result c.from_residual.ensures.1 in
    subst (λ (r : Result Name DbError). IfOk r (λ n. (n.page < page_limit) × (n.slot < most_slots))) (sym p.1) tt

pub returns-in_err-name-clause-goes : goal.returns-in_err-name-clause-goes
returns-in_err-name-clause-goes g c =
    let p = err_from_is_err_and c.from_residual.result c.from_residual.ensures.1 in
    subst (λ (r : Result Name DbError). IfOk r (λ n. (rs : List Record)
    × ArePut c.args.bytes.now c.args.work.xid (doc_of n) rs
    × Goes g.D.Disk c.args.self.now c.place_head.new.self rs)) (sym p.1) tt

pub returns-in_err-name-clause-fault : goal.returns-in_err-name-clause-fault
returns-in_err-name-clause-fault g c =
    let p = err_from_is_err_and c.from_residual.result c.from_residual.ensures.1 in
    refused_told g.D.Disk c.args.self.now c.place_head.new.self c.place_head.result c.from_residual.result _
    p.0 c.in_err-name.was p.1 p.2 c.place_head.ensures.fault

pub returns-in_err-name-clause-refused : goal.returns-in_err-name-clause-refused
returns-in_err-name-clause-refused g c =
    let p = err_from_is_err_and c.from_residual.result c.from_residual.ensures.1 in
    subst (λ (r : Result Name DbError). OnErr r ((d : Doc) × (done rest : List Record)
    × ArePut c.args.bytes.now c.args.work.xid d (done ++ rest)
    × Goes g.D.Disk c.args.self.now c.place_head.new.self done))
    (sym p.1)
    (puts_none g.D.Disk c.args.self.now c.place_head.new.self c.args.work.xid c.args.bytes.now
    c.in_err-name.ensures.refused)

pub returns-in_err-name-clause-cause : goal.returns-in_err-name-clause-cause
returns-in_err-name-clause-cause g c =
    let p = err_from_is_err_and c.from_residual.result c.from_residual.ensures.1 in
    let why = place_cause g.D.Disk c.args.self.now c.args.work.xid c.args.bytes.now _ c.in_err-name.ensures.cause in
    let cannot = CannotPut g.D.Disk c.args.self.now c.args.work.xid c.args.bytes.now in
    subst (λ (r : Result Name DbError). IfErr r cannot) (sym p.1) (subst cannot (sym p.2) why)

pub returns-in_err-name-clause-lawful : goal.returns-in_err-name-clause-lawful
returns-in_err-name-clause-lawful g c =
    let p = err_from_is_err_and c.from_residual.result c.from_residual.ensures.1 in
    let none = MeetsNoBadPage g.D.Disk c.args.self.now in
    subst (λ (r : Result Name DbError). IfErr r none) (sym p.1) (subst none (sym p.2) c.in_err-name.ensures.lawful)

-- ── the parts ──

pub loop-done-init : goal.loop-done-init
loop-done-init g c =
    let e = c.in_ok-name.ensures in
    puts_begin g.D.Disk c.args.self.now c.place_head.new.self c.args.pass.now c.place_head.new.pass c.args.work
    c.args.bytes.now c.in_ok-name.name e.running e.keeps e.fault e.place e.goes e.placed

pub part_at-requires : goal.part_at-requires
part_at-requires g c =
    let lt = subst (λ (n : ℕ). c.loop-done.done < n) c.parts_of-parts.ensures c.loop-done-test.true in
    subst (λ (n : ℕ). (n - 1 - c.loop-done.done) * most_body < length c.args.bytes.now) (sym c.parts_of-parts.ensures)
    (part_starts g.D.Disk c.args.self.now c.loop-done.self c.args.pass.now c.loop-done.pass c.args.work c.args.bytes.now
    c.in_ok-name.name c.loop-done.done c.loop-done.invariant lt)

pub put_part-requires-clause-running : goal.put_part-requires-clause-running
put_part-requires-clause-running g c = c.loop-done.invariant.running

pub put_part-requires-clause-place : goal.put_part-requires-clause-place
put_part-requires-clause-place g c = c.loop-done.invariant.slot

pub put_part-requires-clause-fits : goal.put_part-requires-clause-fits
put_part-requires-clause-fits g c =
    let is = subst (λ (n : ℕ). c.part_at.result.now
    ≡ take most_body (drop ((n - 1 - c.loop-done.done) * most_body) c.args.bytes.now)) c.parts_of-parts.ensures
    c.part_at.ensures in
    part_fits g.D.Disk c.args.self.now c.loop-done.self c.args.pass.now c.loop-done.pass c.args.work c.args.bytes.now
    c.in_ok-name.name c.loop-done.done c.loop-done.invariant c.part_at.result.now is

pub put_part-requires-clause-next : goal.put_part-requires-clause-next
put_part-requires-clause-next g c =
    let lt = subst (λ (n : ℕ). c.loop-done.done < n) c.parts_of-parts.ensures c.loop-done-test.true in
    let is = subst (λ (n : ℕ). c.part_at.result.now
    ≡ take most_body (drop ((n - 1 - c.loop-done.done) * most_body) c.args.bytes.now)) c.parts_of-parts.ensures
    c.part_at.ensures in
    next_is g.D.Disk c.args.self.now c.loop-done.self c.args.pass.now c.loop-done.pass c.args.work c.args.bytes.now
    c.in_ok-name.name c.loop-done.done c.loop-done.invariant c.part_at.result.now lt is c.requires.changed

pub loop-done-preserved : goal.loop-done-preserved
loop-done-preserved g c =
    let e = c.in_ok-put_part.ensures in
    let lt = subst (λ (n : ℕ). c.loop-done.done < n) c.parts_of-parts.ensures c.loop-done-test.true in
    let is = subst (λ (n : ℕ). c.part_at.result.now
    ≡ take most_body (drop ((n - 1 - c.loop-done.done) * most_body) c.args.bytes.now)) c.parts_of-parts.ensures
    c.part_at.ensures in
    puts_more g.D.Disk c.args.self.now c.loop-done.self c.args.pass.now c.loop-done.pass c.args.work c.args.bytes.now
    c.in_ok-name.name c.loop-done.done c.loop-done.invariant c.part_at.result.now c.put_part.new.self
    c.put_part.new.pass lt is e.running e.keeps e.fault e.goes e.put

-- ── a part is refused ──

pub returns-in_err-put_part-clause-placed : goal.returns-in_err-put_part-clause-placed
returns-in_err-put_part-clause-placed g c =
    let p = err_from_is_err_and c.from_residual-in_err-put_part.result c.from_residual-in_err-put_part.ensures.1 in
    λ v w is none had. subst (λ (r : Result Name DbError). IfOk r (λ n.
    HasRows g.D.Disk c.put_part.new.self c.put_part.new.pass c.args.work.xid (doc_of n) v [] 0 w.deleted))
    (sym p.1) tt

pub returns-in_err-put_part-clause-place : goal.returns-in_err-put_part-clause-place
returns-in_err-put_part-clause-place g c =
    let p = err_from_is_err_and c.from_residual-in_err-put_part.result c.from_residual-in_err-put_part.ensures.1 in
    subst (λ (r : Result Name DbError). IfOk r (λ n. (n.page < page_limit) × (n.slot < most_slots))) (sym p.1) tt

pub returns-in_err-put_part-clause-goes : goal.returns-in_err-put_part-clause-goes
returns-in_err-put_part-clause-goes g c =
    let p = err_from_is_err_and c.from_residual-in_err-put_part.result c.from_residual-in_err-put_part.ensures.1 in
    subst (λ (r : Result Name DbError). IfOk r (λ n. (rs : List Record)
    × ArePut c.args.bytes.now c.args.work.xid (doc_of n) rs
    × Goes g.D.Disk c.args.self.now c.put_part.new.self rs)) (sym p.1) tt

pub returns-in_err-put_part-clause-keeps : goal.returns-in_err-put_part-clause-keeps
returns-in_err-put_part-clause-keeps g c =
    keeps_on c.args.pass.now c.loop-done.pass c.put_part.new.pass c.loop-done.invariant.keeps c.put_part.ensures.keeps

pub returns-in_err-put_part-clause-fault : goal.returns-in_err-put_part-clause-fault
returns-in_err-put_part-clause-fault g c =
    let p = err_from_is_err_and c.from_residual-in_err-put_part.result c.from_residual-in_err-put_part.ensures.1 in
    refused_told g.D.Disk c.args.self.now c.put_part.new.self c.put_part.result c.from_residual-in_err-put_part.result _
    p.0 c.in_err-put_part.was p.1 p.2
    (told_in_turn g.D.Disk c.args.self.now c.loop-done.self c.put_part.new.self c.put_part.result
    (time_of g.D.Disk c.loop-done.invariant.goes) c.loop-done.invariant.met c.put_part.ensures.fault)

pub returns-in_err-put_part-clause-refused : goal.returns-in_err-put_part-clause-refused
returns-in_err-put_part-clause-refused g c =
    let p = err_from_is_err_and c.from_residual-in_err-put_part.result c.from_residual-in_err-put_part.ensures.1 in
    let lt = subst (λ (n : ℕ). c.loop-done.done < n) c.parts_of-parts.ensures c.loop-done-test.true in
    subst (λ (r : Result Name DbError). OnErr r ((d : Doc) × (done rest : List Record)
    × ArePut c.args.bytes.now c.args.work.xid d (done ++ rest)
    × Goes g.D.Disk c.args.self.now c.put_part.new.self done))
    (sym p.1)
    (puts_some g.D.Disk c.args.self.now c.loop-done.self c.args.pass.now c.loop-done.pass c.args.work c.args.bytes.now
    c.in_ok-name.name c.loop-done.done c.loop-done.invariant c.put_part.new.self lt c.in_err-put_part.ensures.refused)

pub returns-in_err-put_part-clause-cause : goal.returns-in_err-put_part-clause-cause
returns-in_err-put_part-clause-cause g c =
    let p = err_from_is_err_and c.from_residual-in_err-put_part.result c.from_residual-in_err-put_part.ensures.1 in
    let lt = subst (λ (n : ℕ). c.loop-done.done < n) c.parts_of-parts.ensures c.loop-done-test.true in
    let why = part_cause g.D.Disk c.args.self.now c.loop-done.self c.args.pass.now c.loop-done.pass c.args.work
    c.args.bytes.now c.in_ok-name.name c.loop-done.done c.loop-done.invariant _ lt c.in_err-put_part.ensures.cause in
    let cannot = CannotPut g.D.Disk c.args.self.now c.args.work.xid c.args.bytes.now in
    subst (λ (r : Result Name DbError). IfErr r cannot) (sym p.1) (subst cannot (sym p.2) why)

pub returns-in_err-put_part-clause-lawful : goal.returns-in_err-put_part-clause-lawful
returns-in_err-put_part-clause-lawful g c =
    let p = err_from_is_err_and c.from_residual-in_err-put_part.result c.from_residual-in_err-put_part.ensures.1 in
    let not = part_lawful g.D.Disk c.args.self.now c.loop-done.self c.args.pass.now c.loop-done.pass c.args.work
    c.args.bytes.now c.in_ok-name.name c.loop-done.done c.loop-done.invariant _ c.in_err-put_part.ensures.lawful in
    let none = MeetsNoBadPage g.D.Disk c.args.self.now in
    subst (λ (r : Result Name DbError). IfErr r none) (sym p.1) (subst none (sym p.2) not)

-- ── all is put ──

pub returns : goal.returns
returns g c =
    let s = c.loop-done.invariant in
    let all : c.loop-done.done ≡ parts_for (length c.args.bytes.now) =
    omega (arith, c.parts_of-parts.ensures, c.loop-done-test.false, c.loop-done.auto.done-end) in
    record {
      running = s.running;
      place = (s.low, s.slot);
      placed = puts_it g.D.Disk c.args.self.now c.loop-done.self c.args.pass.now c.loop-done.pass c.args.work
          c.args.bytes.now c.in_ok-name.name c.loop-done.done s all;
      goes = puts_all g.D.Disk c.args.self.now c.loop-done.self c.args.pass.now c.loop-done.pass c.args.work
          c.args.bytes.now c.in_ok-name.name c.loop-done.done s all;
      keeps = s.keeps;
      fault = s.met;
      refused = tt;
      cause = tt;
      lawful = tt;
    }
