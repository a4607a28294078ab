use Rattle.std.proofs.Common.{◌≡◌, ◌<◌, length, ap, ◌∙◌, arith}
use Rattle.std.proofs.lemmas.List.Edits.{length-remove}
use Rattle.page_types.specs.Inner.Cuts.{cut_at}
use Rattle.page_types.specs.Inner.Joins.{row_with}
use Rattle.page_types.proofs.Cutting.{length-cut_at}
use Rattle.page_types.proofs.Splicing.{one_removed}
use Rattle.page_types.proofs.Joining.{length-joined, joined_removed}
use Rattle.page_types.proofs.rows.Rows.remove.Goals as goal

pub replace_keys-requires-clause-within : goal.replace_keys-requires-clause-within
replace_keys-requires-clause-within c = omega (
  arith,
  length-joined row_with c.self.inside.items.items (cut_at 0 c.self.inside.ends.items c.self.inside.keys)
      (omega (arith, length-cut_at 0 c.self.inside.ends.items c.self.inside.keys, c.self.invariant.1)),
  ap length c.self.view_is,
  c.self.invariant.1,
  c.requires,
)

pub remove-requires : goal.remove-requires
remove-requires c = omega (
  arith,
  length-joined row_with c.self.inside.items.items (cut_at 0 c.self.inside.ends.items c.self.inside.keys)
      (omega (arith, length-cut_at 0 c.self.inside.ends.items c.self.inside.keys, c.self.invariant.1)),
  ap length c.self.view_is,
  c.self.invariant.1,
  c.requires,
)

pub invariant_of-self : goal.invariant_of-self
invariant_of-self c =
    let made = rw c.unwrap.ensures at c.replace_keys.ensures.ok in
    let lt : c.args.k < length (cut_at 0 c.self.inside.ends.items c.self.inside.keys) = omega (
      arith,
      length-cut_at 0 c.self.inside.ends.items c.self.inside.keys,
      length-joined row_with c.self.inside.items.items (cut_at 0 c.self.inside.ends.items c.self.inside.keys)
          (omega (arith, length-cut_at 0 c.self.inside.ends.items c.self.inside.keys, c.self.invariant.1)),
      ap length c.self.view_is,
      c.self.invariant.1,
      c.requires,
    ) in
    let cuts = made.cuts ∙ one_removed (cut_at 0 c.self.inside.ends.items c.self.inside.keys) c.args.k in
    let small : c.args.k < length c.self.inside.items.items =
    omega (arith, length-cut_at 0 c.self.inside.ends.items c.self.inside.keys, c.self.invariant.1) in (
      made.ends_at,
      omega (
        arith,
        length-cut_at 0 c.replace_keys.new.ends.items c.replace_keys.new.all,
        ap length cuts,
        length-remove (cut_at 0 c.self.inside.ends.items c.self.inside.keys) c.args.k lt,
        ap length c.remove.ensures.items,
        length-remove c.self.inside.items.items c.args.k small,
        length-cut_at 0 c.self.inside.ends.items c.self.inside.keys,
        c.self.invariant.1,
      ),
    )

pub returns : goal.returns
returns c =
    let made = rw c.unwrap.ensures at c.replace_keys.ensures.ok in
    let sizes : length c.self.inside.items.items ≡ length (cut_at 0 c.self.inside.ends.items c.self.inside.keys) =
    omega (arith, length-cut_at 0 c.self.inside.ends.items c.self.inside.keys, c.self.invariant.1) in
    joined_removed row_with c.self.inside.items.items c.remove.new.self.items
    (cut_at 0 c.self.inside.ends.items c.self.inside.keys) (cut_at 0 c.replace_keys.new.ends.items
    c.replace_keys.new.all) c.args.k c.args.self.now sizes c.remove.ensures.items
    (made.cuts ∙ one_removed (cut_at 0 c.self.inside.ends.items c.self.inside.keys) c.args.k) c.self.view_is
