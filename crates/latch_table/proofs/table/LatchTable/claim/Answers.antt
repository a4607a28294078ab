use Rattle.std.proofs.Common.{arith, refl, ap, ◌∙◌, ◌≡◌, length}
use Rattle.latch_table.specs.Held.{numbers}
use Rattle.latch_table.specs.Passes.{state}
use Rattle.latch_table.proofs.Passing.{claimed_by}
use Rattle.latch_table.proofs.Rotate.{frames_length}
use Rattle.latch_table.proofs.table.LatchTable.claim.Goals as goal

pub with-pass-requires : goal.with-pass-requires
with-pass-requires g c =
    let e : length (numbers c.args.pass.now.held) ≡ length (state c.args.pass.now).frames
    = ap length c.requires.pass.held ∙ frames_length (state c.args.pass.now).frames in
    let few = c.requires.may.few in omega arith

pub returns-clause-pass : goal.returns-clause-pass
returns-clause-pass g c =
    let took = c.take_waiting-value.ensures.claimed in
    claimed_by g.F.Framed g.J.Journaled _ c.args.pass.now _ _ _ _
    (state c.args.pass.now) c.requires.pass c.requires.may.frame_is c.requires.may.no_journal
    refl refl refl refl refl c.take_waiting-value.ensures.same.0 took.0 took.1 c.with-pass.ensures

pub returns-clause-claimed : goal.returns-clause-claimed
returns-clause-claimed g c = let took = c.take_waiting-value.ensures.claimed in took.0
