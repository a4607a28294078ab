use Rattle.std.proofs.Common.{◌≡◌, map, take}
use Rattle.page_types.specs.declared.page.Row.{Row}
use Rattle.gin_cleanup.proofs.listed.items_of.Given as goal

abbrev pub invariant-loop-k : goal.invariant-loop-k
invariant-loop-k l = l.items.items ≡ map (λ (w : Row). w.item) (take l.k l.rows)
