use Rattle.std.proofs.Common.{◌≡◌, true, false, refl}
use Rattle.buffer_frames.proofs.Mapping.{one_made, can_edit_here}
use Rattle.buffer_frames.proofs.records.change_page.Goals as goal

pub returns-in_err-change-clause-refused : goal.returns-in_err-change-clause-refused
returns-in_err-change-clause-refused g c = λ told at can.
    let h = c.in_ok-fetch_page.ensures.there told in
    let e : false ≡ true = (c.in_err-change.ensures.ok h.0 h.1).1 (can_edit_here _ _ _ h.2 can) in
    absurd cc

pub returns-clause-made : goal.returns-clause-made
returns-clause-made g c = λ told.
    let h = c.in_ok-fetch_page.ensures.there told in
    one_made _ c.args.map.now c.fetch_page.new.map c.change.new.self c.args.number c.args.change.now h.0 h.1 h.2
    c.in_ok-fetch_page.ensures.others ((c.in_ok-change.ensures.ok h.0 h.1).0 refl)
    (c.in_ok-change.ensures.done h.0 h.1)
