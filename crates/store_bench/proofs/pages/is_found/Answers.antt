use Rattle.store_bench.proofs.Keys.{of_entries}
use Rattle.store_bench.proofs.pages.is_found.Goals as goal

pub find-requires-clause-entries : goal.find-requires-clause-entries
find-requires-clause-entries c = of_entries c.args.page.now.body c.in-Some.ensures.leaf
