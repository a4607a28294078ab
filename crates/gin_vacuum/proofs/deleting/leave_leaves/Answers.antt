use Rattle.std.proofs.Common.{◌≡◌, ◌∙◌, [], ◌∷◌, ◌++◌, ap, subst}
use Rattle.page_types.specs.Pages.{IsPage}
use Rattle.page_types.specs.declared.page.Page.{Page}
use Rattle.core_state.specs.Steps.{sheet}
use Rattle.gin_place.proofs.Exits.{on_ok}
use Rattle.gin_vacuum.specs.Inner.Deleting.{left_before, deleted_leaf}
use Rattle.gin_vacuum.proofs.LeftSheets.{left_then}
use Rattle.gin_vacuum.proofs.deleting.leave_leaves.Goals as goal

pub returns : goal.returns
returns c =
    let old = c.args.step.now in
    let between = c.leave.new.step in
    let new = c.leave_before.new.step in
    let leaf = c.args.around.now.leaf in
    let link = c.args.empty.link in
    let before = c.args.around.now.before in
    let gone = deleted_leaf c.args.empty.high leaf.content in
    let is : c.deleted-gone.result ≡ gone =
    c.deleted-gone.ensures.deleted ∙ ap (deleted_leaf c.args.empty.high) c.page.ensures.value in
    let one : between ≡ record old { after = old.after ++ sheet leaf.page gone ∷ [] } =
    c.in_ok-leave.ensures.left ∙ ap (λ (d : Page). record old { after = old.after ++ sheet leaf.page d ∷ [] }) is in
    record {
      left = on_ok c.leave_before.result (new ≡ record between { after = between.after ++ left_before link before })
          (new ≡ record old { after = (old.after ++ sheet leaf.page gone ∷ []) ++ left_before link before })
          (left_then old between new (sheet leaf.page gone) (left_before link before) one) c.leave_before.ensures.left;
      gone = subst IsPage is c.deleted-gone.ensures.is_page;
      low = c.leave.ensures.low;
      is_page = c.leave_before.ensures.is_page;
      before_low = c.leave_before.ensures.low;
    }

pub returns-in_err-leave-clause-gone : goal.returns-in_err-leave-clause-gone
returns-in_err-leave-clause-gone c =
    subst IsPage (c.deleted-gone.ensures.deleted ∙ ap (deleted_leaf c.args.empty.high) c.page.ensures.value)
    c.deleted-gone.ensures.is_page
