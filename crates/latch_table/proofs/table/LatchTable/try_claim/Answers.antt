use Rattle.std.proofs.Common.{arith, refl, true, ap, ◌∙◌, ◌≡◌, length}
use Rattle.latch_table.specs.Held.{numbers}
use Rattle.latch_table.specs.Passes.{state}
use Rattle.latch_table.specs.PassStates.{found_by}
use Rattle.latch_table.proofs.Passing.{claimed_by, like_pass}
use Rattle.latch_table.proofs.Rotate.{frames_length}
use Rattle.latch_table.proofs.table.LatchTable.try_claim.Goals as goal

pub with-pass-requires : goal.with-pass-requires
with-pass-requires g c =
    let e : length (numbers c.args.pass.now.held) ≡ length (state c.args.pass.now).frames
    = ap length c.requires.pass.held ∙ frames_length (state c.args.pass.now).frames in
    let few = c.requires.may.few in omega arith

pub returns-clause-pass : goal.returns-clause-pass
returns-clause-pass g c =
    let took = c.in_ok-value.ensures.claimed in
    claimed_by g.F.Framed g.J.Journaled _ c.args.pass.now _ _ _ _ (found_by true c.args.frame took.0
    (state c.args.pass.now)) c.requires.pass c.requires.may.frame_is c.requires.may.no_journal
    refl refl refl refl refl c.take.ensures.same.0 took.1.1 took.1.2 c.with-pass.ensures

pub returns-in_err-value-clause-pass : goal.returns-in_err-value-clause-pass
returns-in_err-value-clause-pass g c =
    let t = c.in_err-value.ensures.claimed in
    like_pass _ c.args.pass.now _ (found_by true c.args.frame t.0 (state c.args.pass.now)) c.requires.pass
    c.in_err-value.ensures.same.0 (ap (λ m. m.0) t.1.1)
    refl refl refl refl refl (ap (λ m. m.1) t.1.1) refl
