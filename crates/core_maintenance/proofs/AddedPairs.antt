-- Items that were added to a leaf of a tree are in the main part.
use Rattle.std.proofs.Common.{◌≡◌, ℕ, List, ◌∷◌, ◌++◌, refl, sym, ap, subst, ◌∙◌, inl, inr}
use Rattle.page_types.specs.Views.{entries_in, entries_of, posting_items_in}
use Rattle.page_types.specs.declared.page.Page.{Page}
use Rattle.page_types.specs.declared.page.Entry.{Entry}
use Rattle.page_types.specs.declared.page.Postings.TheVariants.{Inline}
use Rattle.page_types.specs.declared.page.Body.{Body}
use Rattle.page_types.specs.declared.page.Body.TheVariants as body
use Rattle.page_types.specs.declared.record.Kind.TheVariants as kind
use Rattle.core_state.specs.Log.{Pages, In}
use Rattle.core_state.specs.Index.{Below, Under, children_in}
use Rattle.core_state.specs.TreeRules.{IsRoot}
use Rattle.core_state.specs.Allowed.{Sheet, sheet_pages}
use Rattle.core_state.proofs.PageLists.{same_or_not}
use Rattle.core_state.proofs.Trees.Members.{in_middle}
use Rattle.core_state.proofs.Steps.Seen.{held_page}
use Rattle.core_state.proofs.Steps.Heads.{drawn_as, left_all, left_is}
use Rattle.core_maintenance.specs.AddedPairs.{AddedItemsAreMain, AddedPostingsAreMain}
use Rattle.core_maintenance.proofs.Ways.{toward_item_below}
use Rattle.core_maintenance.proofs.Found.{right_keeps_found}

pub items_are_main : AddedItemsAreMain
items_are_main v P s c R a r Q n l i there =
    let e : Entry = record { key = c.key; postings = Inline c.new_list } in
    let left = left_all a.pages Q r s _ l c.after_is in
    let then = body.EntryLeaf c.high (c.front ++ e ∷ c.back) in
    let kind_is : r.kind ≡ kind.AddItems = drawn_as R s r n kind.AddItems c.kind_is in
    let now : Q c.page ≡ _ = left.0 ∙ left_is r kind.AddItems c.new c.old.right then kind_is refl c.right c.content in
    record {
      page = c.page;
      entry = e;
      on = subst (λ (p : Page). In e (entries_of p)) (sym now) (in_middle c.front e c.back);
      key = refl;
      under = Under.inline c.new_list refl ((c.added.just i).1 (inr there));
    }

-- pages that name the same children have the same pages below them
below_kept : (P Q : Pages) (root p : ℕ) → ((q : ℕ) → children_in (Q q).body ≡ children_in (P q).body) → Below P root p
    → Below Q root p
below_kept P Q root p same Below.root = Below.root
below_kept P Q root p same (Below.child {p = q} below i) =
    Below.child (below_kept P Q root q same below) (subst (In p) (sym (same q)) i)

-- a leaf of postings is no leaf of entries
no_entry : (b : Body) (high : ℕ) (items : List ℕ) (e : Entry) → b ≡ body.PostLeaf high items → In e (entries_in b) → ⊥
no_entry b high items e is i = subst (λ (c : Body). In e (entries_in c)) is i

pub postings_are_main : AddedPostingsAreMain
postings_are_main v P s c R a r Q shown n l i there =
    let S : Pages = a.pages in
    let x = c.rest in
    let left = left_all S Q r s _ l c.after_is in
    let kind_is : r.kind ≡ kind.AddPostings = drawn_as R s r n kind.AddPostings c.kind_is in
    let now : Q c.page ≡ _ = left.0 ∙ left_is r kind.AddPostings c.new c.old.right (body.PostLeaf c.high c.new_list)
    kind_is refl c.right c.content in
    let was : (S c.page).body ≡ body.PostLeaf c.high c.old_list = ap (λ (p : Page). p.body)
    (held_page v R a c.page c.old c.held) ∙ c.was in
    let stay = right_keeps_found v R a P c.may shown in
    let named = stay.named x.key x.root x.named in
    let other : (q : ℕ) → (q ≡ c.page → ⊥) → Q q ≡ S q = λ q off. l.elsewhere q
    (λ j. elim (subst (λ (ss : List Sheet). In q (sheet_pages ss)) c.after_is j)
    [ inl e ↦ off e | inr none ↦ none ]) in
    let same : (q : ℕ) → children_in (Q q).body ≡ children_in (S q).body = λ q. elim (same_or_not c.page q) [
      | inl e ↦ subst (λ (z : ℕ). children_in (Q z).body ≡ children_in (S z).body) (sym e)
          (ap (λ (p : Page). children_in p.body) now ∙ sym (ap children_in was))
      | inr off ↦ ap (λ (p : Page). children_in p.body) (other q off)
    ] in
    let apart : named.page ≡ c.page → ⊥ = λ e. no_entry (S c.page).body c.high c.old_list named.entry was
    (subst (λ (z : ℕ). In named.entry (entries_of (S z))) e named.on) in
    let way = stay.toward_item x.root i c.page (IsRoot.of_postings x.key x.named) (x.place i there) in
    record {
      page = named.page;
      entry = named.entry;
      on = subst (λ (p : Page). In named.entry (entries_of p)) (sym (other named.page apart)) named.on;
      key = named.key;
      under = Under.posted x.root c.page named.names
          (below_kept S Q x.root c.page same (toward_item_below S x.root i x.root c.page Below.root way))
          (subst (λ (p : Page). In i (posting_items_in p.body)) (sym now) ((c.added.just i).1 (inr there)));
    }
