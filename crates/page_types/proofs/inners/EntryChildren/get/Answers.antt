use Rattle.std.proofs.Common.{◌<◌, length, refl, ap, sym, ◌∙◌, arith}
use Rattle.std.specs.List.{slice_get}
use Rattle.std.proofs.lemmas.Option.{slice_get_read}
use Rattle.page_types.specs.Inner.Joins.{child_with}
use Rattle.page_types.proofs.Joining.{length-joined, joined-get}
use Rattle.page_types.proofs.inners.EntryChildren.get.Goals as goal

pub returns-then-k-len-clause-none : goal.returns-then-k-len-clause-none
returns-then-k-len-clause-none c = omega (
  arith,
  length-joined child_with c.self.inside.pages.items c.self.inside.bounds c.self.invariant,
  ap length c.self.view_is,
  c.len.ensures,
)

pub returns-clause-some : goal.returns-clause-some
returns-clause-some c =
    let lt : c.args.k < length c.self.inside.pages.items = omega (arith, c.len.ensures) in
    let page = slice_get_read c.self.inside.pages.items
    (length c.self.inside.pages.items) c.args.k c.index-page.result.now refl lt c.index-page.ensures in
    ap (λ s. slice_get s c.args.k) (sym c.self.view_is) ∙ joined-get child_with c.self.inside.pages.items
    c.self.inside.bounds c.args.k c.index-page.result.now c.at-bound.result.now page c.at-bound.ensures
