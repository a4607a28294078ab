use Rattle.buffer_frames.proofs.OwedRooms.{room_still}
use Rattle.buffer_frames.proofs.owed.step_owed.Goals as goal

pub returns-then-owes-clause-room : goal.returns-then-owes-clause-room
returns-then-owes-clause-room c =
    room_still c.args.state.now c.step_reserved.new.self c.args.owed.now c.args.rec.now c.requires.owed.0
    c.requires.owed.1 c.step_reserved.ensures.stepped c.step_reserved.ensures.pages c.step_reserved.ensures.room
    c.requires.kind c.requires.room
