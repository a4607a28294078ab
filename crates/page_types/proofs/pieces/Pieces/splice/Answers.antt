use Rattle.std.proofs.Common.{◌≡◌, ◌+◌, ◌-◌, ◌∙◌, List, ℕ, length, slice_range, ap, arith}
use Rattle.std.specs.List.{sum_by}
use Rattle.page_types.proofs.Cutting.{length-cut_at}
use Rattle.page_types.proofs.Splicing.{no_lists, all_total}
use Rattle.page_types.proofs.pieces.Pieces.splice.Goals as goal

pub returns-clause-none : goal.returns-clause-none
returns-clause-none c = λ none.
    let nothing =
    no_lists c.with.inside.ends.items c.with.inside.bytes.items c.with.invariant (c.with.view_is ∙ none) in
    c.replace.ensures.short (omega (arith, nothing.0, ap length c.deref-2.ensures.value))
    (omega (arith, nothing.1, ap length c.deref.ensures.value))

pub returns-clause-short : goal.returns-clause-short
returns-clause-short c = λ few small.
    let count = length-cut_at 0 c.with.inside.ends.items c.with.inside.bytes.items in
    let size = all_total c.with.inside.ends.items c.with.inside.bytes.items c.with.invariant in
    let to : c.args.from + (c.args.to - c.args.from) ≡ c.args.to = omega (arith, c.requires.in_order) in
    let range = ap (λ n. sum_by length (slice_range c.args.self.now c.args.from n)) to in
    c.replace.ensures.short
    (omega (arith, count, few, ap length c.with.view_is, ap length c.deref-2.ensures.value))
    (omega (
      arith,
      size,
      small,
      range,
      ap (λ (l : List (List ℕ)). sum_by length l) c.with.view_is,
      ap length c.deref.ensures.value,
    ))
