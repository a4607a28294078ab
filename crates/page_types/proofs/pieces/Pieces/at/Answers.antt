use Rattle.std.proofs.Common.{◌≡◌, ◌<◌, length, ap, ◌∙◌, arith}
use Rattle.std.proofs.lemmas.List.{get_or_read}
use Rattle.page_types.specs.Inner.Cuts.{start_at}
use Rattle.page_types.proofs.Cutting.{length-cut_at, piece_at}
use Rattle.page_types.proofs.pieces.Pieces.at.Goals as goal

pub start_of-from-requires : goal.start_of-from-requires
start_of-from-requires c = omega (
  arith,
  length-cut_at 0 c.self.inside.ends.items c.self.inside.bytes.items,
  ap length c.self.view_is,
  ap length c.deref.ensures.value,
  c.requires,
)

pub index-to-requires : goal.index-to-requires
index-to-requires c = omega
    (arith, length-cut_at 0 c.self.inside.ends.items c.self.inside.bytes.items, ap length c.self.view_is, c.requires)

pub slice_bounds-result-count : goal.slice_bounds-result-count
slice_bounds-result-count c =
    let lt : c.args.k < length c.self.inside.ends.items = omega (
      arith,
      length-cut_at 0 c.self.inside.ends.items c.self.inside.bytes.items,
      ap length c.self.view_is,
      c.requires,
    ) in
    let from : c.start_of-from.result ≡ start_at 0 c.self.inside.ends.items c.args.k =
    c.start_of-from.ensures ∙ ap (λ es. start_at 0 es c.args.k) c.deref.ensures.value in
    let f = piece_at c.self.inside.ends.items c.self.inside.bytes.items c.args.k
    c.start_of-from.result c.index-to.result.now c.self.invariant lt from
    (get_or_read c.self.inside.ends.items c.args.k c.index-to.result.now lt c.index-to.ensures 0) in
    f.0

pub slice_bounds-result-start : goal.slice_bounds-result-start
slice_bounds-result-start c =
    let lt : c.args.k < length c.self.inside.ends.items = omega (
      arith,
      length-cut_at 0 c.self.inside.ends.items c.self.inside.bytes.items,
      ap length c.self.view_is,
      c.requires,
    ) in
    let from : c.start_of-from.result ≡ start_at 0 c.self.inside.ends.items c.args.k =
    c.start_of-from.ensures ∙ ap (λ es. start_at 0 es c.args.k) c.deref.ensures.value in
    let f = piece_at c.self.inside.ends.items c.self.inside.bytes.items c.args.k
    c.start_of-from.result c.index-to.result.now c.self.invariant lt from
    (get_or_read c.self.inside.ends.items c.args.k c.index-to.result.now lt c.index-to.ensures 0) in
    omega (arith, f.0, f.1, ap length c.deref-2.ensures.value)

pub slice_bounds-result-end : goal.slice_bounds-result-end
slice_bounds-result-end c =
    let lt : c.args.k < length c.self.inside.ends.items = omega (
      arith,
      length-cut_at 0 c.self.inside.ends.items c.self.inside.bytes.items,
      ap length c.self.view_is,
      c.requires,
    ) in
    let from : c.start_of-from.result ≡ start_at 0 c.self.inside.ends.items c.args.k =
    c.start_of-from.ensures ∙ ap (λ es. start_at 0 es c.args.k) c.deref.ensures.value in
    let f = piece_at c.self.inside.ends.items c.self.inside.bytes.items c.args.k
    c.start_of-from.result c.index-to.result.now c.self.invariant lt from
    (get_or_read c.self.inside.ends.items c.args.k c.index-to.result.now lt c.index-to.ensures 0) in
    omega (arith, f.0, f.1, ap length c.deref-2.ensures.value)

pub returns : goal.returns
returns c =
    let lt : c.args.k < length c.self.inside.ends.items = omega (
      arith,
      length-cut_at 0 c.self.inside.ends.items c.self.inside.bytes.items,
      ap length c.self.view_is,
      c.requires,
    ) in
    let from : c.start_of-from.result ≡ start_at 0 c.self.inside.ends.items c.args.k =
    c.start_of-from.ensures ∙ ap (λ es. start_at 0 es c.args.k) c.deref.ensures.value in
    let f = piece_at c.self.inside.ends.items c.self.inside.bytes.items c.args.k
    c.start_of-from.result c.index-to.result.now c.self.invariant lt from
    (get_or_read c.self.inside.ends.items c.args.k c.index-to.result.now lt c.index-to.ensures 0) in
    rw (← c.self.view_is, c.deref-2.ensures.value) f.2
