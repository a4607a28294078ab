use Rattle.std.proofs.Common.{◌<◌, length, refl, ap, arith}
use Rattle.page_types.specs.Inner.Joins.{child_with}
use Rattle.page_types.specs.Parts.{child_shown}
use Rattle.page_types.proofs.Joining.{length-joined, joined_set, within_bound}
use Rattle.page_types.proofs.inners.EntryChildren.set.Goals as goal

pub set-requires : goal.set-requires
set-requires c = omega (
  arith,
  length-joined child_with c.self.inside.pages.items c.self.inside.bounds c.self.invariant,
  ap length c.self.view_is,
  c.requires,
)

pub index_mut-requires : goal.index_mut-requires
index_mut-requires c = omega (
  arith,
  length-joined child_with c.self.inside.pages.items c.self.inside.bounds c.self.invariant,
  ap length c.self.view_is,
  c.requires,
)

pub returns-in_err-set-clause-short : goal.returns-in_err-set-clause-short
returns-in_err-set-clause-short c = λ small.
    let lt : c.args.k < length c.self.inside.pages.items = omega (
      arith,
      length-joined child_with c.self.inside.pages.items c.self.inside.bounds c.self.invariant,
      ap length c.self.view_is,
      c.requires,
    ) in
    let small' = rw (← c.self.view_is) at small in
    cc (c.in_err-set.ensures.short (within_bound c.self.inside.pages.items c.self.inside.bounds c.args.k
    (length c.args.child.bound.now) c.self.invariant lt small'))

pub returns-clause-ok : goal.returns-clause-ok
returns-clause-ok c =
    joined_set child_with c.self.inside.pages.items _ c.self.inside.bounds
    c.set.new.self c.args.k c.args.child.page c.args.child.bound.now
    (child_shown c.args.child) c.args.self.now c.self.invariant refl c.in_ok-set.ensures.ok refl c.self.view_is
