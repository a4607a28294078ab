use Rattle.std.proofs.Common.{ℕ, List, length, refl, ap, ◌∙◌, arith}
use Rattle.std.specs.List.{insert}
use Rattle.page_types.specs.Inner.Joins.{child_with}
use Rattle.page_types.specs.Parts.{child_shown}
use Rattle.page_types.proofs.Joining.{length-joined, joined_inserted}
use Rattle.page_types.proofs.inners.EntryChildren.insert.Goals as goal

pub insert-requires : goal.insert-requires
insert-requires c = omega (
  arith,
  length-joined child_with c.self.inside.pages.items c.self.inside.bounds c.self.invariant,
  ap length c.self.view_is,
  c.requires,
)

pub insert-requires-2 : goal.insert-requires-2
insert-requires-2 c = omega (
  arith,
  length-joined child_with c.self.inside.pages.items c.self.inside.bounds c.self.invariant,
  ap length c.self.view_is,
  c.requires,
  c.reserve.ensures.len,
)

pub returns-clause-ok : goal.returns-clause-ok
returns-clause-ok c =
    let put = rw c.unwrap.ensures at c.insert-2.ensures.items in
    joined_inserted child_with c.self.inside.pages.items c.insert-2.new.self.items
    c.self.inside.bounds c.insert.new.self c.args.k c.args.child.page c.args.child.bound.now
    (child_shown c.args.child) c.args.self.now c.self.invariant
    (put ∙ ap (λ (l : List ℕ). insert l c.args.k c.args.child.page) c.reserve.ensures.items) c.in_ok-insert.ensures.ok
    refl c.self.view_is
