use Rattle.std.proofs.Common.{◌∷◌, [], ◌++◌, List, ℕ, refl, ap, ◌∙◌}
use Rattle.page_types.specs.Inner.Joins.{child_with}
use Rattle.page_types.specs.Parts.{child_shown}
use Rattle.page_types.proofs.Joining.{joined_grown}
use Rattle.page_types.proofs.inners.EntryChildren.push.Goals as goal

pub returns-clause-ok : goal.returns-clause-ok
returns-clause-ok c =
    joined_grown child_with c.self.inside.pages.items c.push_reserved.new.self.items
    c.self.inside.bounds c.push.new.self c.args.child.page c.args.child.bound.now
    (child_shown c.args.child) c.args.self.now c.self.invariant
    (c.push_reserved.ensures.items ∙ ap (λ (t : List ℕ). t ++ c.args.child.page ∷ []) c.reserve.ensures.items)
    c.in_ok-push.ensures.ok refl c.self.view_is
