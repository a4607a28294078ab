use Rattle.std.proofs.Common.{ℕ, refl, sym, subst}
use Rattle.std.proofs.lemmas.Result.{err_from_is_err_and}
use Rattle.page_types.specs.Pages.{IsPage}
use Rattle.page_types.specs.Views.{entries_in}
use Rattle.page_types.specs.declared.page.Page.{Page}
use Rattle.page_types.specs.declared.page.Body.{Body}
use Rattle.entry_tree.specs.Adding.{IsEntryLeaf}
use Rattle.gin_place.specs.declared.error.PlaceError.TheVariants.{BadPage, OutOfMemory}
use Rattle.gin_place.proofs.Causing.{at_exit}
use Rattle.gin_vacuum.specs.Inner.Reading.{AreRoots, IsReadLeaf, IsUnread}
use Rattle.gin_vacuum.proofs.Remains.{cleaned_of, not_entries}
use Rattle.gin_vacuum.proofs.sweeping.read_leaf.Goals as goal

pub returns-clause-read : goal.returns-clause-read
returns-clause-read c =
    let e = c.in_ok-remove.ensures in
    let page = c.page-page.result.now in
    subst (λ (p : Page). IsReadLeaf c.args.dead.now p (record {
      roots = c.in_ok-roots.roots;
      link = page.right;
      cleaned = c.in_ok-remove.field-0;
    })) c.page-page.ensures.value (record {
      is_page = c.page-page.ensures.is_page;
      leaf = subst IsEntryLeaf (sym c.in-EntryLeaf.is) (IsEntryLeaf.leaf _ _);
      roots = subst (λ (b : Body). AreRoots (entries_in b) c.in_ok-roots.roots.items) (sym c.in-EntryLeaf.is)
          c.in_ok-roots.ensures;
      link = refl;
      cleaned = cleaned_of c.args.dead.now page c.in_ok-remove.field-0 e.left e.same e.none e.is_page;
    })

pub returns-in_default : goal.returns-in_default
returns-in_default c =
    let off = subst (λ (p : Page). IsEntryLeaf p.body → ⊥) c.page-page.ensures.value
    (not_entries c.page-page.result.now.body c.in_default.not-EntryLeaf) in
    record {
      read = tt;
      unread = subst (λ (n : ℕ). IsUnread c.args.held.now IsEntryLeaf (BadPage n)) (sym c.number.ensures.value)
          (IsUnread.other (subst IsPage c.page-page.ensures.value c.page-page.ensures.is_page) off);
    }

pub returns-in_err-roots-clause-unread : goal.returns-in_err-roots-clause-unread
returns-in_err-roots-clause-unread c =
    let p = err_from_is_err_and c.from_residual.result c.from_residual.ensures.1 in
    at_exit (IsUnread c.args.held.now IsEntryLeaf) c.from_residual.result p.0 OutOfMemory p.1 p.2 IsUnread.memory

pub returns-in_err-remove-clause-unread : goal.returns-in_err-remove-clause-unread
returns-in_err-remove-clause-unread c =
    let e = c.from_residual-in_err-remove in
    let p = err_from_is_err_and e.result e.ensures.1 in
    at_exit (IsUnread c.args.held.now IsEntryLeaf) e.result p.0 OutOfMemory p.1 p.2 IsUnread.memory
