use Rattle.std.proofs.Common.{◌≡◌, length}
use Rattle.posting_code.specs.Inner.Windows.{AreStarts}
use Rattle.posting_code.proofs.searching.starts_of.Given as goal

abbrev pub invariant-loop-page : goal.invariant-loop-page
invariant-loop-page l = (length l.starts.items ≡ l.page) × AreStarts l.items l.starts.items
