use Rattle.std.proofs.Common.{◌∙◌}
use Rattle.page_types.specs.Edits.{edited}
use Rattle.page_types.proofs.Framing.{delta_done}
use Rattle.page_types.proofs.edits.apply.Goals as goal

pub returns-in-Image-clause-done : goal.returns-in-Image-clause-done
unfolding edited
returns-in-Image-clause-done c = rw c.in-Image.is (c.copy_from_slice.ensures.after ∙ c.as_slice.ensures.value)

pub returns-else-len-used-clause-done : goal.returns-else-len-used-clause-done
returns-else-len-used-clause-done c =
    rw c.in-Delta.is (delta_done _ _ c.as_slice-in-Delta.result.now c.args.bytes.now c.put_delta.new.bytes c.args.number
    _ _ c.used_length-used.result c.from-start.result c.from-cut.result
    c.from-start.ensures c.from-cut.ensures c.used_length-used.ensures.value c.as_slice-in-Delta.ensures
    c.put_delta.ensures)
