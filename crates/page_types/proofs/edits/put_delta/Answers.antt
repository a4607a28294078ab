use Rattle.std.proofs.Common.{◌∙◌}
use Rattle.page_types.proofs.Framing.{delta_put}
use Rattle.page_types.proofs.edits.put_delta.Goals as goal

pub returns : goal.returns
returns c =
    delta_put c.args.front.now c.args.new.now c.args.bytes.now c.copy_from_slice.new.self c.args.number c.args.place.0
    c.args.place.1 c.args.place.2 c.requires.end (c.copy_from_slice.ensures.after ∙ c.put_page.ensures)
