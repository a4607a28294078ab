use Rattle.std.proofs.Common.{◌≡◌, ◌≤◌, length, sym, ap, subst, ◌∙◌}
use Rattle.ts_base.specs.Vectors.{Vector}
use Rattle.ts_match.specs.Inner.Seen.{entries_of}
use Rattle.ts_match.proofs.seen.Seen.count_positions.Goals as goal

pub count_positions-requires : goal.count_positions-requires
count_positions-requires c =
    let same : c.in-Listed.vector.now ≡ c.args.self.now = ap entries_of (sym c.in-Listed.is) ∙ c.self.view_is in
    subst (λ (v : Vector). c.args.found.end ≤ length v) (sym same) c.requires
