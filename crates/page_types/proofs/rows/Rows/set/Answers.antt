use Rattle.std.proofs.Common.{◌≡◌, ◌<◌, ◌+◌, [], ◌∷◌, length, refl, ap, ◌∙◌, arith}
use Rattle.std.specs.List.{splice, sum_by}
use Rattle.std.proofs.lemmas.List.{length-set}
use Rattle.page_types.specs.Inner.Cuts.{cut_at}
use Rattle.page_types.specs.Inner.Joins.{row_with}
use Rattle.page_types.proofs.Cutting.{length-cut_at}
use Rattle.page_types.proofs.Splicing.{one_set}
use Rattle.page_types.proofs.Joining.{length-joined, joined_set, within_row}
use Rattle.page_types.proofs.rows.Rows.set.Goals as goal

pub replace_keys-requires-clause-within : goal.replace_keys-requires-clause-within
replace_keys-requires-clause-within c = omega (
  arith,
  length-joined row_with c.self.inside.items.items (cut_at 0 c.self.inside.ends.items c.self.inside.keys)
      (omega (arith, length-cut_at 0 c.self.inside.ends.items c.self.inside.keys, c.self.invariant.1)),
  ap length c.self.view_is,
  c.self.invariant.1,
  c.requires,
)

pub returns-in_err-replace_keys-clause-short : goal.returns-in_err-replace_keys-clause-short
returns-in_err-replace_keys-clause-short c = λ small.
    let lt : c.args.k < length c.self.inside.items.items = omega (
      arith,
      length-joined row_with c.self.inside.items.items (cut_at 0 c.self.inside.ends.items c.self.inside.keys)
          (omega (arith, length-cut_at 0 c.self.inside.ends.items c.self.inside.keys, c.self.invariant.1)),
      ap length c.self.view_is,
      c.self.invariant.1,
      c.requires,
    ) in
    let small' = rw (← c.self.view_is) at small in
    let fits = within_row c.self.inside.items.items c.self.inside.ends.items c.self.inside.keys c.args.k
    (length c.args.keys.now) (sum_by length c.args.keys.now) c.self.invariant.0 c.self.invariant.1 lt small' in
    cc (c.in_err-replace_keys.ensures.short (omega arith) fits.0 fits.1)

pub index_mut-requires : goal.index_mut-requires
index_mut-requires c = omega (
  arith,
  length-joined row_with c.self.inside.items.items (cut_at 0 c.self.inside.ends.items c.self.inside.keys)
      (omega (arith, length-cut_at 0 c.self.inside.ends.items c.self.inside.keys, c.self.invariant.1)),
  ap length c.self.view_is,
  c.self.invariant.1,
  c.requires,
)

pub invariant_of-self-2 : goal.invariant_of-self-2
invariant_of-self-2 c =
    let made = c.in_ok-replace_keys.ensures.ok in
    let lt : c.args.k < length (cut_at 0 c.self.inside.ends.items c.self.inside.keys) = omega (
      arith,
      length-cut_at 0 c.self.inside.ends.items c.self.inside.keys,
      length-joined row_with c.self.inside.items.items (cut_at 0 c.self.inside.ends.items c.self.inside.keys)
          (omega (arith, length-cut_at 0 c.self.inside.ends.items c.self.inside.keys, c.self.invariant.1)),
      ap length c.self.view_is,
      c.self.invariant.1,
      c.requires,
    ) in
    let cuts = made.cuts ∙ (ap (λ n. splice (cut_at 0 c.self.inside.ends.items c.self.inside.keys) c.args.k
    (c.args.k + 1) (cut_at 0 (n ∷ []) c.args.keys.now)) c.len.ensures
    ∙ one_set (cut_at 0 c.self.inside.ends.items c.self.inside.keys) c.args.keys.now c.args.k lt) in (
      made.ends_at,
      omega (
        arith,
        length-cut_at 0 c.replace_keys.new.ends.items c.replace_keys.new.all,
        ap length cuts,
        length-set (cut_at 0 c.self.inside.ends.items c.self.inside.keys) c.args.k c.args.keys.now,
        length-set c.self.inside.items.items c.args.k c.args.item,
        length-cut_at 0 c.self.inside.ends.items c.self.inside.keys,
        c.self.invariant.1,
      ),
    )

pub returns-clause-ok : goal.returns-clause-ok
returns-clause-ok c =
    let made = c.in_ok-replace_keys.ensures.ok in
    let lt : c.args.k < length (cut_at 0 c.self.inside.ends.items c.self.inside.keys) = omega (
      arith,
      length-cut_at 0 c.self.inside.ends.items c.self.inside.keys,
      length-joined row_with c.self.inside.items.items (cut_at 0 c.self.inside.ends.items c.self.inside.keys)
          (omega (arith, length-cut_at 0 c.self.inside.ends.items c.self.inside.keys, c.self.invariant.1)),
      ap length c.self.view_is,
      c.self.invariant.1,
      c.requires,
    ) in
    let sizes : length c.self.inside.items.items ≡ length (cut_at 0 c.self.inside.ends.items c.self.inside.keys) =
    omega (arith, length-cut_at 0 c.self.inside.ends.items c.self.inside.keys, c.self.invariant.1) in
    joined_set row_with c.self.inside.items.items _ (cut_at 0 c.self.inside.ends.items c.self.inside.keys)
    (cut_at 0 c.replace_keys.new.ends.items c.replace_keys.new.all) c.args.k c.args.item c.args.keys.now
    (row_with c.args.item c.args.keys.now) c.args.self.now sizes refl
    (made.cuts ∙ (ap (λ n. splice (cut_at 0 c.self.inside.ends.items c.self.inside.keys) c.args.k
    (c.args.k + 1) (cut_at 0 (n ∷ []) c.args.keys.now)) c.len.ensures ∙ one_set
    (cut_at 0 c.self.inside.ends.items c.self.inside.keys) c.args.keys.now c.args.k lt)) refl c.self.view_is
