use Rattle.std.proofs.Common.{rules}
use Rattle.std.proofs.lemmas.List.Sorted.{IsNonDecreasingBy-from_sort_by_key}
use Rattle.page_types.specs.declared.page.Name.{Name}
use Rattle.gin_scan.proofs.parts.put_by_serial.Goals as goal

pub returns-clause-rise : goal.returns-clause-rise
returns-clause-rise c =
    IsNonDecreasingBy-from_sort_by_key (λ (n : Name). n.serial) _ c.sort_unstable_by_key.ensures.sorted
    (λ a r f called. search rules)
