use Rattle.std.proofs.Common.{◌≡◌, ◌∷◌, [], ◌++◌, length, List, ℕ, Option, refl, ap, ◌∙◌, arith}
use Rattle.page_types.specs.Inner.Joins.{joined, postings_with, entry_with}
use Rattle.page_types.specs.Parts.{postings_shown, entry_shown}
use Rattle.page_types.proofs.Joining.{length-joined, joined_grown}
use Rattle.page_types.proofs.entries.Entries.push.Goals as goal

pub returns-in-Ok-clause-ok : goal.returns-in-Ok-clause-ok
returns-in-Ok-clause-ok c =
    let sizes : length c.self.inside.roots.items ≡ length c.self.inside.lists = omega (arith, c.self.invariant.1) in
    let inner = joined_grown postings_with c.self.inside.roots.items c.push_reserved.new.self.items c.self.inside.lists
    c.push-2.new.self c.parts_of-root.result.0 c.parts_of-root.result.1.now (postings_shown c.args.entry.postings)
    (joined postings_with c.self.inside.roots.items c.self.inside.lists) sizes (c.push_reserved.ensures.items
    ∙ ap (λ (t : List (Option ℕ)). t ++ c.parts_of-root.result.0 ∷ []) c.reserve.ensures.items) c.in-Ok.ensures.ok
    c.parts_of-root.ensures.whole refl in
    let same : length c.self.inside.keys
    ≡ length (joined postings_with c.self.inside.roots.items c.self.inside.lists) = omega
    (arith, length-joined postings_with c.self.inside.roots.items c.self.inside.lists sizes, c.self.invariant.0) in
    joined_grown entry_with c.self.inside.keys c.push.new.self
    (joined postings_with c.self.inside.roots.items c.self.inside.lists) (joined postings_with
    c.push_reserved.new.self.items c.push-2.new.self) c.args.entry.key.now (postings_shown c.args.entry.postings)
    (entry_shown c.args.entry) c.args.self.now same c.in_ok-push.ensures.ok inner refl c.self.view_is
