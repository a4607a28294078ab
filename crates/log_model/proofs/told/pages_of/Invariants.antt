use Rattle.std.specs.List.{All}
use Rattle.page_types.specs.Pages.{IsPage}
use Rattle.log_model.proofs.told.pages_of.Given as goal

abbrev pub invariant-loop-left : goal.invariant-loop-left
invariant-loop-left l = All IsPage l.pages.before.items × All IsPage l.pages.behind.items
