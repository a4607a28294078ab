use Rattle.record_code.proofs.writing.put_change.Goals as goal

pub put_edit-requires : goal.put_edit-requires
put_edit-requires c = (c.requires.0, c.requires.1.edit)
