-- The pass is made two, of which one claims the right and begins the task, and the other takes a snapshot.
use Rattle.std.proofs.Common.{◌∙◌, ap, arith}
use Rattle.buffer_frames.specs.declared.pass.Pass.{Pass}
use Rattle.index_cases.proofs.TurnSteps.{part_of, part_claims, part_waits, scans_begun, task_begins}
use Rattle.index_cases.proofs.turns.begin.Goals as goal

pub split-other-requires-clause-room : goal.split-other-requires-clause-room
split-other-requires-clause-room g c =
    let room = ap (λ (x : Pass). x.room) c.requires.fresh.whole in omega (arith, room)

pub split-other-requires-clause-none : goal.split-other-requires-clause-none
split-other-requires-clause-none g c = ap (λ (x : Pass). x.pin) c.requires.fresh.whole

pub begin-requires-clause-may : goal.begin-requires-clause-may
begin-requires-clause-may g c =
    part_claims c.args.frames.now c.claim_work.new.self c.args.pass.now c.split-other.result c.claim_work.new.pass
    c.requires.fresh.whole c.split-other.ensures.value c.claim_work.ensures.claimed c.claim_work.ensures.pass

pub begin-requires-2-clause-pass : goal.begin-requires-2-clause-pass
begin-requires-2-clause-pass g c =
    part_waits c.args.frames.now c.claim_work.new.self c.begin.new.frames c.split-other.new.pass c.split-other.result
    c.claim_work.new.pass
    (part_of c.args.frames.now c.args.pass.now c.split-other.new.pass c.requires.fresh.whole
    c.split-other.ensures.room.0) c.claim_work.ensures.claimed c.in_ok-upkeep.ensures.grows c.split-other.ensures.old

pub begin-requires-2-clause-none : goal.begin-requires-2-clause-none
begin-requires-2-clause-none g c =
    (part_of c.args.frames.now c.args.pass.now c.split-other.new.pass c.requires.fresh.whole
    c.split-other.ensures.room.0).pin

pub begin-requires-2-clause-held : goal.begin-requires-2-clause-held
begin-requires-2-clause-held g c =
    (part_of c.args.frames.now c.args.pass.now c.split-other.new.pass c.requires.fresh.whole
    c.split-other.ensures.room.0).held

pub returns-in-Ok-clause-scans : goal.returns-in-Ok-clause-scans
returns-in-Ok-clause-scans g c =
    let part = part_of c.args.frames.now c.args.pass.now c.split-other.new.pass c.requires.fresh.whole
    c.split-other.ensures.room.0 in
    let e = c.in-Ok.ensures in
    let keeps = c.begin-2.ensures.reads.keeps in
    scans_begun g.D.Disk c.begin-2.new.frames c.begin-2.new.pass c.args.query.now c.in-Ok.scan e.scanning e.query
    e.walk (keeps.xid ∙ part.xid, keeps.work ∙ part.work)
    (let room = ap (λ (x : Pass). x.room) c.requires.fresh.whole in
    omega (arith, keeps.room, c.split-other.ensures.room.1, room))

pub returns-in-Ok-clause-keeps : goal.returns-in-Ok-clause-keeps
returns-in-Ok-clause-keeps g c =
    task_begins g.D.Disk c.args.frames.now c.claim_work.new.self c.begin.new.frames c.begin-2.new.frames
    c.args.pass.now c.split-other.new.pass c.begin-2.new.pass c.split-other.result c.claim_work.new.pass
    c.begin.new.pass c.in-Ok.scan.core.snapshot c.in_ok-upkeep.upkeep c.requires.fresh
    c.claim_work.ensures.claimed c.in_ok-upkeep.ensures.grows c.in_ok-upkeep.ensures.keeps
    c.in-Ok.ensures.pinned c.begin-2.ensures.reads
