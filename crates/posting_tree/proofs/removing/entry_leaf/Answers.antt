use Rattle.std.proofs.Common.{◌≡◌, List, ℕ, refl, sym, subst, ◌∙◌}
use Rattle.std.proofs.lemmas.Bool.{false≢true}
use Rattle.std.proofs.lemmas.Option.{none-some}
use Rattle.page_types.specs.declared.page.Body.TheVariants as body
use Rattle.posting_tree.specs.Removing.{IsLeafLeft}
use Rattle.posting_tree.proofs.LeftPages.{entries_none}
use Rattle.posting_tree.proofs.removing.entry_leaf.Goals as goal

pub returns-then-branch-clause-none : goal.returns-then-branch-clause-none
returns-then-branch-clause-none c = (
  λ e. (entries_none c.args.dead.now c.args.high.now c.args.entries.now).0
      (c.in_ok-push_all_left.ensures.same.0 c.if-branch.true),
  λ h. refl,
)

pub returns-clause-left : goal.returns-clause-left
returns-clause-left c =
    let high = c.args.high.now in
    let entries = c.args.entries.now in
    let left = c.push_all_left.new.left in
    let copied : c.in_ok-clone.field-0 ≡ high = c.in_ok-clone.ensures.cases in
    subst (λ (h : List ℕ). IsLeafLeft c.args.dead.now (body.EntryLeaf high entries) (body.EntryLeaf h left)) (sym copied)
    (IsLeafLeft.entries high entries left c.in_ok-push_all_left.ensures.left)

pub returns-clause-none : goal.returns-clause-none
returns-clause-none c = (
  λ e. absurd (none-some _ (sym e)),
  λ h. absurd (false≢true (sym c.if-branch.false ∙ c.in_ok-push_all_left.ensures.same.1
      ((entries_none c.args.dead.now c.args.high.now c.args.entries.now).1 h))),
)
