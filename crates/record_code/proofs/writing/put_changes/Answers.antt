use Rattle.std.proofs.lemmas.List.Elements.{All-from_recursion}
use Rattle.page_types.specs.Records.{IsChange}
use Rattle.record_code.proofs.writing.put_changes.Goals as goal

pub put_change-requires : goal.put_change-requires
put_change-requires c = (
  c.requires.0,
  rw c.change-item.is (All-from_recursion
      (IsChange c.requires.0) c.args.changes.now c.requires.1 c.loop-change.change-index _ c.loop-change-test.true),
)
