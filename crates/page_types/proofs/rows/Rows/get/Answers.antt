use Rattle.std.proofs.Common.{◌≡◌, ◌<◌, length, Option, Some, List, ℕ, refl, ap, sym, ◌∙◌, arith}
use Rattle.std.specs.List.{slice_get}
use Rattle.std.proofs.lemmas.List.{get_or_read}
use Rattle.std.proofs.lemmas.Option.{slice_get_read}
use Rattle.page_types.specs.declared.page.Row.{Row}
use Rattle.page_types.specs.Inner.Cuts.{cut_at, start_at}
use Rattle.page_types.specs.Inner.Joins.{row_with}
use Rattle.page_types.proofs.Cutting.{length-cut_at, piece_at}
use Rattle.page_types.proofs.Joining.{length-joined, joined-get}
use Rattle.page_types.proofs.rows.Rows.get.Goals as goal

pub returns-then-k-len-clause-none : goal.returns-then-k-len-clause-none
returns-then-k-len-clause-none c =
    let cuts = length-cut_at 0 c.self.inside.ends.items c.self.inside.keys in
    omega (
      arith,
      length-joined row_with c.self.inside.items.items (cut_at 0 c.self.inside.ends.items c.self.inside.keys)
          (omega (arith, cuts, c.self.invariant.1)),
      ap length c.self.view_is,
      c.len.ensures,
    )

pub part-keys-requires-clause-in_order : goal.part-keys-requires-clause-in_order
part-keys-requires-clause-in_order c =
    let lt : c.args.k < length c.self.inside.ends.items = omega (arith, c.len.ensures, c.self.invariant.1) in
    let from : c.start_of-from.result ≡ start_at 0 c.self.inside.ends.items c.args.k =
    c.start_of-from.ensures ∙ ap (λ es. start_at 0 es c.args.k) c.deref.ensures.value in
    (piece_at c.self.inside.ends.items c.self.inside.keys c.args.k
    c.start_of-from.result c.index-to.result.now c.self.invariant.0 lt from
    (get_or_read c.self.inside.ends.items c.args.k c.index-to.result.now lt c.index-to.ensures 0)).0

pub part-keys-requires-clause-within : goal.part-keys-requires-clause-within
part-keys-requires-clause-within c =
    let lt : c.args.k < length c.self.inside.ends.items = omega (arith, c.len.ensures, c.self.invariant.1) in
    let from : c.start_of-from.result ≡ start_at 0 c.self.inside.ends.items c.args.k =
    c.start_of-from.ensures ∙ ap (λ es. start_at 0 es c.args.k) c.deref.ensures.value in
    (piece_at c.self.inside.ends.items c.self.inside.keys c.args.k
    c.start_of-from.result c.index-to.result.now c.self.invariant.0 lt from
    (get_or_read c.self.inside.ends.items c.args.k c.index-to.result.now lt c.index-to.ensures 0)).1

pub returns-clause-some : goal.returns-clause-some
returns-clause-some c =
    let lt : c.args.k < length c.self.inside.ends.items = omega (arith, c.len.ensures, c.self.invariant.1) in
    let lt2 : c.args.k < length c.self.inside.items.items = omega (arith, c.len.ensures) in
    let from : c.start_of-from.result ≡ start_at 0 c.self.inside.ends.items c.args.k =
    c.start_of-from.ensures ∙ ap (λ es. start_at 0 es c.args.k) c.deref.ensures.value in
    let piece = (piece_at c.self.inside.ends.items c.self.inside.keys c.args.k
    c.start_of-from.result c.index-to.result.now c.self.invariant.0 lt from
    (get_or_read c.self.inside.ends.items c.args.k c.index-to.result.now lt c.index-to.ensures 0)).2 in
    let item = slice_get_read c.self.inside.items.items
    (length c.self.inside.items.items) c.args.k c.index-item.result.now refl lt2 c.index-item.ensures in
    let P : List (List ℕ) → Option Row = λ keys. Some (row_with c.index-item.result.now keys) in
    ap (λ s. slice_get s c.args.k) (sym c.self.view_is) ∙ joined-get row_with c.self.inside.items.items
    (cut_at 0 c.self.inside.ends.items c.self.inside.keys) c.args.k c.index-item.result.now _ item piece
    ∙ ap P (sym c.part-keys.ensures)
