use Rattle.std.proofs.Common.{◌≡◌, ℕ, List, [], ◌∷◌, ◌++◌, sym, ap, subst, ◌∙◌, arith}
use Rattle.std.proofs.lemmas.Result.{err_from_is_err_and}
use Rattle.page_types.specs.Records.{kind_number}
use Rattle.page_types.specs.declared.record.Kind.{Kind}
use Rattle.page_types.specs.declared.record.Kind.TheVariants as kind
use Rattle.core_state.specs.Allowed.{Sheet}
use Rattle.core_maintenance.proofs.Found.{right_keeps_found}
use Rattle.buffer_frames.specs.Opens.{IsEarlyKind, IsLoggedKind}
use Rattle.buffer_frames.specs.Passes.{HasAdded, xid_after}
use Rattle.buffer_frames.proofs.Exits.{on_refusal}
use Rattle.gin_place.specs.Faults.{MetNoFault, FaultBy}
use Rattle.gin_place.specs.Inner.Refusals.{log_refusal}
use Rattle.gin_place.specs.Running.{StoreGoesOn}
use Rattle.gin_place.proofs.Running.{refused_goes, logged_goes}
use Rattle.gin_place.proofs.Carrying.{reads_by}
use Rattle.gin_place.proofs.Causing.{at_exit}
use Rattle.gin_place.proofs.Exits.{no_ok}
use Rattle.gin_place.proofs.Faults.{calm_fine, log_fine, log_told}
use Rattle.gin_cleanup.specs.Going.{IsCause}
use Rattle.gin_cleanup.specs.Inner.Shifting.{MayShift, LogsShift}
use Rattle.gin_cleanup.proofs.Shifted.{shift_logs}
use Rattle.gin_cleanup.proofs.ShiftCauses.{shift_cause}
use Rattle.gin_cleanup.proofs.first_page.log_shift.Goals as goal

no_begin : kind.Shift ≡ kind.Begin → ⊥
no_begin is = cc

pub give_back-requires : goal.give_back-requires
give_back-requires g c =
    record { pass = c.requires.is_pass; right = c.requires.right; holding = c.requires.holding }

pub returns-in_default : goal.returns-in_default
returns-in_default g c = record {
  none_held = c.give_back.ensures.none_held;
  logged = tt;
  refused = c.give_back.ensures.reads;
  cause = tt;
  fine = tt;
  fault = calm_fine g.D.Disk c.args.frames.now c.give_back.new.frames c.give_back.ensures.calm;
}

pub push_reserved-requires : goal.push_reserved-requires
push_reserved-requires g c = omega (arith, c.in-Ok.ensures.len, c.in-Ok.ensures.capacity)

pub push_reserved-requires-2 : goal.push_reserved-requires-2
push_reserved-requires-2 g c =
    let e = c.push_reserved.ensures in
    omega (arith, c.in-Ok.ensures.len, c.in-Ok.ensures.capacity, e.len, e.capacity)

pub log_step-requires : goal.log_step-requires
log_step-requires g c =
    let items : c.push_reserved-2.new.self.items ≡ c.args.first.page ∷ c.args.first.meta ∷ [] =
    c.push_reserved-2.ensures.items
    ∙ ap (λ (l : List Sheet). l ++ c.args.first.meta ∷ []) (c.push_reserved.ensures.items
    ∙ ap (λ (l : List Sheet). l ++ c.args.first.page ∷ []) c.in-Ok.ensures.items) in
    let may = subst (λ (l : List Sheet). MayShift g.D.Disk c.args.frames.now c.args.pass.now l c.args.step)
    (sym items) c.requires in
    record {
      pass = may.is_pass;
      holding = may.holding;
      encoded = may.encoded;
      kind = subst IsLoggedKind (sym may.kind_is) tt;
      one = λ is. absurd (no_begin (sym may.kind_is ∙ is));
      may = may.may;
      owes = may.owes;
    }

pub returns-in_err-log_step : goal.returns-in_err-log_step
returns-in_err-log_step g c =
    let f = c.args.frames.now in
    let last = c.log_step.new.self in
    let r = c.from_residual.result in
    let p = err_from_is_err_and r c.from_residual.ensures.1 in
    let w = log_refusal c.in_err-log_step.field-0.0 in
    let e = c.log_step.ensures in
    let x = c.in_err-log_step.ensures in
    record {
      none_held = sym e.none_held.all;
      logged = no_ok r p.0 (LogsShift g.D.Disk f c.args.pass.now (c.args.first.page ∷ c.args.first.meta ∷ [])
          c.args.step last c.log_step.new.pass) p.1;
      refused = on_refusal _ r (reads_by g.D.Disk right_keeps_found f last c.args.pass.now c.log_step.new.pass
          c.requires.is_pass c.requires.right x.refused x.refused_sees_on e.rises e.pass e.same.0 e.same.1
          x.refused_xid e.work e.pins
          (refused_goes g.D.Disk c.log_step.result e.cause x.refused_state x.refused e.runs_on x.refused_begins));
      cause = at_exit (λ y. IsCause g.D.Disk last y f c.args.pass.now) r p.0 w p.1 p.2
          (shift_cause g.D.Disk f c.args.pass.now last c.args.step c.log_step.result c.in_err-log_step.field-0.0
          c.requires.kind_is c.requires.encoded c.requires.pages c.in_err-log_step.was e.full e.is_down e.cause);
      fine = no_ok r p.0 (MetNoFault g.D.Disk f last) p.1;
      fault = at_exit (λ y. FaultBy g.D.Disk f last y) r p.0 w p.1 p.2
          (log_told g.D.Disk f last c.log_step.result c.in_err-log_step.field-0.0 c.in_err-log_step.was e.is_down
          e.cause e.goes_down);
    }

pub returns : goal.returns
returns g c =
    let f = c.args.frames.now in
    let p = c.args.pass.now in
    let last = c.log_step.new.self in
    let pass = c.log_step.new.pass in
    let s = c.args.step in
    let items : c.push_reserved-2.new.self.items ≡ c.args.first.page ∷ c.args.first.meta ∷ [] =
    c.push_reserved-2.ensures.items
    ∙ ap (λ (l : List Sheet). l ++ c.args.first.meta ∷ []) (c.push_reserved.ensures.items
    ∙ ap (λ (l : List Sheet). l ++ c.args.first.page ∷ []) c.in-Ok.ensures.items) in
    let may = subst (λ (l : List Sheet). MayShift g.D.Disk f p l s) (sym items) c.requires in
    let e = c.log_step.ensures in
    let x = c.in_ok-log_step.ensures in
    let added = subst (λ (k : Kind). HasAdded g.D.Disk f last (kind_number k ∷ [])) may.kind_is x.added in
    let number : kind_number s.kind ≡ 12 = ap kind_number may.kind_is in
    let xid = subst (λ (k : Kind). pass.xid ≡ xid_after k c.in_ok-log_step.field-0.value p.xid) may.kind_is x.xid in
    record {
      none_held = sym e.none_held.all;
      logged = subst (λ (l : List Sheet). LogsShift g.D.Disk f p l s last pass) items
          (shift_logs g.D.Disk f last p pass c.push_reserved-2.new.self.items s may added x.seen x.all e.rises e.pass
          e.same.0 e.same.1 xid e.work e.pins
          (subst (λ (n : ℕ). StoreGoesOn g.D.Disk f last (n ∷ [])) number
          (logged_goes g.D.Disk f last s c.log_step.result (omega (arith, number)) (omega (arith, number))
          (subst IsEarlyKind (sym may.kind_is) tt) e.cause x.logged x.state e.runs_on x.begins)));
      refused = tt;
      cause = tt;
      fine = log_fine g.D.Disk f last c.log_step.result c.in_ok-log_step.field-0 c.in_ok-log_step.was e.cause
          e.goes_down;
      fault = tt;
    }
