use Rattle.std.proofs.Common.{ap, ◌∙◌}
use Rattle.std.specs.Prelude.{sum_by}
use Rattle.ts_base.specs.Encoding.{entry_size}
use Rattle.ts_vector.proofs.LastEntries.{bytes_count}
use Rattle.ts_vector.proofs.encoded.Entries.bytes_left.Goals as goal

pub returns : goal.returns
returns c =
    bytes_count c.self.inside.count c.self.inside.rest.now c.self.invariant ∙ ap (sum_by entry_size) c.self.view_is
