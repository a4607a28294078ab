use Rattle.std.proofs.Common.{◌≡◌, ◌≤◌, ◌+◌, List, ℕ, [], ◌∷◌, length, refl, ap, ◌∙◌, arith}
use Rattle.std.specs.List.{insert, splice}
use Rattle.std.proofs.lemmas.List.Edits.{length-insert}
use Rattle.page_types.specs.Inner.Cuts.{cut_at}
use Rattle.page_types.specs.Inner.Joins.{row_with}
use Rattle.page_types.proofs.Cutting.{length-cut_at}
use Rattle.page_types.proofs.Splicing.{one_inserted}
use Rattle.page_types.proofs.Joining.{length-joined, joined_inserted}
use Rattle.page_types.proofs.rows.Rows.insert.Goals as goal

pub replace_keys-requires-clause-within : goal.replace_keys-requires-clause-within
replace_keys-requires-clause-within c = omega (
  arith,
  length-joined row_with c.self.inside.items.items (cut_at 0 c.self.inside.ends.items c.self.inside.keys)
      (omega (arith, length-cut_at 0 c.self.inside.ends.items c.self.inside.keys, c.self.invariant.1)),
  ap length c.self.view_is,
  c.self.invariant.1,
  c.requires,
)

pub insert-requires : goal.insert-requires
insert-requires c = omega (
  arith,
  length-joined row_with c.self.inside.items.items (cut_at 0 c.self.inside.ends.items c.self.inside.keys)
      (omega (arith, length-cut_at 0 c.self.inside.ends.items c.self.inside.keys, c.self.invariant.1)),
  ap length c.self.view_is,
  c.self.invariant.1,
  c.requires,
  c.reserve.ensures.len,
)

pub invariant_of-self-2 : goal.invariant_of-self-2
invariant_of-self-2 c =
    let made = c.in_ok-replace_keys.ensures.ok in
    let le : c.args.k ≤ length (cut_at 0 c.self.inside.ends.items c.self.inside.keys) = omega (
      arith,
      length-cut_at 0 c.self.inside.ends.items c.self.inside.keys,
      length-joined row_with c.self.inside.items.items (cut_at 0 c.self.inside.ends.items c.self.inside.keys)
          (omega (arith, length-cut_at 0 c.self.inside.ends.items c.self.inside.keys, c.self.invariant.1)),
      ap length c.self.view_is,
      c.self.invariant.1,
      c.requires,
    ) in
    let cuts = made.cuts ∙ (ap (λ n. splice (cut_at 0 c.self.inside.ends.items c.self.inside.keys) c.args.k
    (c.args.k + 0) (cut_at 0 (n ∷ []) c.args.keys.now)) c.len.ensures
    ∙ one_inserted (cut_at 0 c.self.inside.ends.items c.self.inside.keys) c.args.keys.now c.args.k) in
    let put = rw c.unwrap.ensures at c.insert.ensures.items in
    let within : c.args.k ≤ length c.reserve.new.self.items = omega (
      arith,
      ap length c.reserve.ensures.items,
      length-cut_at 0 c.self.inside.ends.items c.self.inside.keys,
      c.self.invariant.1,
    ) in (
      made.ends_at,
      omega (
        arith,
        length-cut_at 0 c.replace_keys.new.ends.items c.replace_keys.new.all,
        ap length cuts,
        length-insert (cut_at 0 c.self.inside.ends.items c.self.inside.keys) c.args.k c.args.keys.now le,
        ap length put,
        length-insert c.reserve.new.self.items c.args.k c.args.item within,
        ap length c.reserve.ensures.items,
        length-cut_at 0 c.self.inside.ends.items c.self.inside.keys,
        c.self.invariant.1,
      ),
    )

pub returns-clause-ok : goal.returns-clause-ok
returns-clause-ok c =
    let made = c.in_ok-replace_keys.ensures.ok in
    let le : c.args.k ≤ length (cut_at 0 c.self.inside.ends.items c.self.inside.keys) = omega (
      arith,
      length-cut_at 0 c.self.inside.ends.items c.self.inside.keys,
      length-joined row_with c.self.inside.items.items (cut_at 0 c.self.inside.ends.items c.self.inside.keys)
          (omega (arith, length-cut_at 0 c.self.inside.ends.items c.self.inside.keys, c.self.invariant.1)),
      ap length c.self.view_is,
      c.self.invariant.1,
      c.requires,
    ) in
    let sizes : length c.self.inside.items.items ≡ length (cut_at 0 c.self.inside.ends.items c.self.inside.keys) =
    omega (arith, length-cut_at 0 c.self.inside.ends.items c.self.inside.keys, c.self.invariant.1) in
    let put = rw c.unwrap.ensures at c.insert.ensures.items in
    joined_inserted row_with c.self.inside.items.items c.insert.new.self.items
    (cut_at 0 c.self.inside.ends.items c.self.inside.keys)
    (cut_at 0 c.replace_keys.new.ends.items c.replace_keys.new.all) c.args.k c.args.item c.args.keys.now
    (row_with c.args.item c.args.keys.now) c.args.self.now sizes
    (put ∙ ap (λ (l : List ℕ). insert l c.args.k c.args.item) c.reserve.ensures.items)
    (made.cuts ∙ (ap (λ n. splice (cut_at 0 c.self.inside.ends.items c.self.inside.keys) c.args.k
    (c.args.k + 0) (cut_at 0 (n ∷ []) c.args.keys.now)) c.len.ensures ∙ one_inserted
    (cut_at 0 c.self.inside.ends.items c.self.inside.keys) c.args.keys.now c.args.k)) refl c.self.view_is
