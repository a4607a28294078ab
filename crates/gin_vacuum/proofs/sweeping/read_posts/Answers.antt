use Rattle.std.proofs.Common.{◌≡◌, ◌↔◌, ℕ, [], refl, sym, ap, subst, ◌∙◌, true, Bor}
use Rattle.std.proofs.lemmas.Result.{err_from_is_err_and}
use Rattle.page_types.specs.Pages.{IsPage}
use Rattle.page_types.specs.Views.{posting_items_in}
use Rattle.page_types.specs.declared.page.Page.{Page}
use Rattle.page_types.specs.declared.page.Body.{Body}
use Rattle.posting_tree.specs.Adding.{IsPostLeaf}
use Rattle.gin_place.specs.declared.error.PlaceError.TheVariants.{BadPage, OutOfMemory}
use Rattle.gin_place.proofs.Causing.{at_exit}
use Rattle.gin_vacuum.specs.Inner.Reading.{IsReadPosts, IsUnread}
use Rattle.gin_vacuum.proofs.Remains.{cleaned_of, leaf_after, page_after, not_posts}
use Rattle.gin_vacuum.proofs.sweeping.read_posts.Goals as goal

pub is_empty-empty-requires-clause-leaf : goal.is_empty-empty-requires-clause-leaf
is_empty-empty-requires-clause-leaf c =
    let e = c.in_ok-cleaned.ensures in
    let x = cleaned_of c.args.dead.now c.page-page.result.now c.in_ok-cleaned.cleaned e.left e.same e.none e.is_page in
    let a = page_after c.args.dead.now c.page-page.result.now c.as_ref.result c.page-page.result
    c.in_ok-cleaned.cleaned refl
    c.as_ref.ensures.value x c.page-page.ensures.is_page in
    subst IsPostLeaf (sym (ap (λ (b : Bor Page). b.now.body) c.unwrap_or.ensures ∙ a.1))
    (leaf_after c.args.dead.now c.page-page.result.now c.in_ok-cleaned.cleaned x
    (subst IsPostLeaf (sym c.in-PostLeaf.is) (IsPostLeaf.leaf _ _)))

pub is_empty-empty-requires-clause-page : goal.is_empty-empty-requires-clause-page
is_empty-empty-requires-clause-page c =
    let e = c.in_ok-cleaned.ensures in
    let x = cleaned_of c.args.dead.now c.page-page.result.now c.in_ok-cleaned.cleaned e.left e.same e.none e.is_page in
    let a = page_after c.args.dead.now c.page-page.result.now c.as_ref.result c.page-page.result
    c.in_ok-cleaned.cleaned refl
    c.as_ref.ensures.value x c.page-page.ensures.is_page in
    subst (λ (b : Bor Page). IsPage b.now) (sym c.unwrap_or.ensures) a.0

pub returns-clause-read : goal.returns-clause-read
returns-clause-read c =
    let e = c.in_ok-cleaned.ensures in
    let x = cleaned_of c.args.dead.now c.page-page.result.now c.in_ok-cleaned.cleaned e.left e.same e.none e.is_page in
    let a = page_after c.args.dead.now c.page-page.result.now c.as_ref.result c.page-page.result
    c.in_ok-cleaned.cleaned refl
    c.as_ref.ensures.value x c.page-page.ensures.is_page in
    subst (λ (p : Page). IsReadPosts c.args.dead.now p (record {
      high = c.in-PostLeaf.high;
      link = c.page-page.result.now.right;
      cleaned = c.in_ok-cleaned.cleaned;
      is_empty = c.is_empty-empty.result;
    })) c.page-page.ensures.value (record {
      is_page = c.page-page.ensures.is_page;
      list = c.in-PostLeaf.items;
      leaf = c.in-PostLeaf.is;
      link = refl;
      cleaned = x;
      empty = subst (λ (b : Body). (c.is_empty-empty.result ≡ true) ↔ (posting_items_in b ≡ []))
          (ap (λ (b : Bor Page). b.now.body) c.unwrap_or.ensures ∙ a.1) c.is_empty-empty.ensures;
    })

pub returns-in_default : goal.returns-in_default
returns-in_default c =
    let off = subst (λ (p : Page). IsPostLeaf p.body → ⊥) c.page-page.ensures.value
    (not_posts c.page-page.result.now.body c.in_default.not-PostLeaf) in
    record {
      read = tt;
      unread = subst (λ (n : ℕ). IsUnread c.args.held.now IsPostLeaf (BadPage n)) (sym c.number.ensures.value)
          (IsUnread.other (subst IsPage c.page-page.ensures.value c.page-page.ensures.is_page) off);
    }

pub returns-in_err-cleaned-clause-unread : goal.returns-in_err-cleaned-clause-unread
returns-in_err-cleaned-clause-unread c =
    let p = err_from_is_err_and c.from_residual.result c.from_residual.ensures.1 in
    at_exit (IsUnread c.args.held.now IsPostLeaf) c.from_residual.result p.0 OutOfMemory p.1 p.2 IsUnread.memory
