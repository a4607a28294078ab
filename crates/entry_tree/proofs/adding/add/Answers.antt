use Rattle.std.proofs.Common.{◌≡◌, ℕ, List, sym, subst}
use Rattle.page_types.specs.Pages.{IsPage}
use Rattle.page_types.specs.Views.{entries_in}
use Rattle.page_types.specs.declared.page.Page.{Page}
use Rattle.posting_code.specs.Uniting.{IsUnited}
use Rattle.entry_tree.specs.Adding.{IsAdded}
use Rattle.entry_tree.specs.declared.adding.Added.{Added}
use Rattle.entry_tree.specs.declared.adding.Added.TheVariants as added
use Rattle.entry_tree.proofs.AddedPages.{ok_more, leaf_entries, spot_list, added_page}
use Rattle.entry_tree.proofs.adding.add.Goals as goal

pub united-requires-clause-list : goal.united-requires-clause-list
united-requires-clause-list g c =
    let page = c.args.page.now in
    let s = c.spot_of-spot.result in
    spot_list (entries_in page.body) c.args.key.now s.old.now s.place s.there
    (leaf_entries page c.requires.page c.requires.leaf) c.spot_of-spot.ensures

pub returns-clause-added : goal.returns-clause-added
returns-clause-added g c =
    let page = c.args.page.now in
    let key = c.args.key.now in
    let items = c.args.items.now in
    let s = c.spot_of-spot.result in
    ok_more (λ (a : Added). (is : List ℕ) → IsUnited s.old.now is c.deref.result.now → IsAdded page key is a)
    (λ (a : Added). IsAdded page key items a) c.add_list.result
    (λ a put. put items (subst (IsUnited s.old.now items) (sym c.deref.ensures.value) c.in_ok-list.ensures))
    c.add_list.ensures

pub returns-clause-is_page : goal.returns-clause-is_page
returns-clause-is_page g c =
    let page = c.args.page.now in
    let key = c.args.key.now in
    let items = c.args.items.now in
    let s = c.spot_of-spot.result in
    ok_more (λ (a : Added). (is : List ℕ) → IsUnited s.old.now is c.deref.result.now → IsAdded page key is a)
    (λ (a : Added). (p : Page) → a ≡ added.Done p → IsPage p) c.add_list.result
    (λ a put p e. added_page page p key items c.requires.page c.requires.leaf c.requires.key
    (subst (λ (b : Added). IsAdded page key items b) e
    (put items (subst (IsUnited s.old.now items) (sym c.deref.ensures.value) c.in_ok-list.ensures))))
    c.add_list.ensures
