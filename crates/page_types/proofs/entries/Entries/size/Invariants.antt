use Rattle.std.proofs.Common.{◌≡◌, length, take}
use Rattle.std.specs.List.{flat_map}
use Rattle.page_types.specs.Encoding.{entry_bytes}
use Rattle.page_types.proofs.entries.Entries.size.Given as goal

abbrev pub invariant-loop-k : goal.invariant-loop-k
invariant-loop-k l = l.size ≡ length (flat_map entry_bytes (take l.k l.self))
