use Rattle.std.proofs.Common.{◌-◌, ◌≤◌, length, drop, sym, ap, subst, ◌∙◌, arith}
use Rattle.std.specs.Prelude.{sum_by}
use Rattle.ts_base.specs.Encoding.{entry_size}
use Rattle.ts_vector.specs.Inner.Told.{entries_told, AreEntries}
use Rattle.ts_vector.proofs.LastEntries.{left_within, last_told, last_told_are}
use Rattle.ts_vector.proofs.encoded.VectorBytes.last_entries.Goals as goal

pub overflow_sub-self-inside : goal.overflow_sub-self-inside
overflow_sub-self-inside c =
    let n = c.self.inside.count in
    let bytes = c.self.inside.entries.now in
    let has = c.requires.bytes ∙ ap (λ v. sum_by entry_size (drop c.args.first v)) (sym c.self.view_is) in
    left_within n bytes (entries_told n bytes) c.self.invariant c.args.first c.args.bytes_left has

pub invariant_of-result : goal.invariant_of-result
invariant_of-result c =
    let n = c.self.inside.count in
    let bytes = c.self.inside.entries.now in
    let has = c.requires.bytes ∙ ap (λ v. sum_by entry_size (drop c.args.first v)) (sym c.self.view_is) in
    let within : c.args.first ≤ length (entries_told n bytes) =
    omega (arith, c.requires.within, ap length c.self.view_is) in
    subst (λ r. AreEntries (n - c.args.first) r (entries_told (n - c.args.first) r)) (sym c.split_at.ensures.back)
    (last_told_are n bytes (entries_told n bytes) c.self.invariant c.args.first c.args.bytes_left has within)

pub returns : goal.returns
returns c =
    let n = c.self.inside.count in
    let bytes = c.self.inside.entries.now in
    let has = c.requires.bytes ∙ ap (λ v. sum_by entry_size (drop c.args.first v)) (sym c.self.view_is) in
    let within : c.args.first ≤ length (entries_told n bytes) =
    omega (arith, c.requires.within, ap length c.self.view_is) in
    ap (entries_told (n - c.args.first)) c.split_at.ensures.back
    ∙ last_told n bytes (entries_told n bytes) c.self.invariant c.args.first c.args.bytes_left has within
    ∙ ap (drop c.args.first) c.self.view_is
