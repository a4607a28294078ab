use Rattle.std.proofs.Common.{ℕ, List, [], refl, sym, ap, subst, inl, inr, arith}
use Rattle.std.specs.Prelude.{Option}
use Rattle.page_types.specs.declared.record.Kind.TheVariants as kind
use Rattle.core_state.specs.Log.{In}
use Rattle.core_state.specs.Allowed.{Sheet, Step, Owes}
use Rattle.buffer_frames.specs.Drawing.{HasEncoding}
use Rattle.buffer_frames.specs.Journals.{is_work}
use Rattle.buffer_frames.specs.Passes.{xids_of, view_of}
use Rattle.buffer_frames.proofs.PassesOf.{of_other}
use Rattle.store_cases.proofs.PlainSteps.{plain_encoding, plain_owes, longer_then}
use Rattle.store_cases.proofs.frames_tests.commit.Goals as goal

pub log_step-requires-clause-encoded : goal.log_step-requires-clause-encoded
log_step-requires-clause-encoded g c =
    subst HasEncoding (sym c.new-step.ensures) (plain_encoding (kind.Commit 0) c.args.xid (omega arith))

pub log_step-requires-clause-owes : goal.log_step-requires-clause-owes
log_step-requires-clause-owes g c R s =
    let f = c.args.frames.now in
    let pass = c.args.pass.now in
    subst (λ (xs : List Sheet). Owes (view_of f pass R xs) c.new-step.result) (sym c.new-none.ensures.items)
    (subst (λ (t : Step). Owes (view_of f pass R []) t) (sym c.new-step.ensures)
    (plain_owes g.D.Disk f pass (kind.Commit 0) c.args.xid (λ is. omega (arith, is.0)) (λ e. let z : ⊥ = cc in z)
    (inr (inr (subst (λ (o : Option ℕ). In c.args.xid (xids_of o)) (sym c.requires.runs) (inl refl)))) c.requires.pass R
    s))

pub returns-clause-others : goal.returns-clause-others
returns-clause-others g c p idle of =
    let f = c.args.frames.now in
    let f' = c.log_step.new.self in
    let said = c.log_step.ensures in
    of_other f f' p idle said.pins said.runs_on.flushed
    (longer_then g.D.Disk c.log_step.result f f' _ said.added said.refused)
    (said.rests (ap (λ (t : Step). is_work t.kind) c.new-step.ensures)) of
