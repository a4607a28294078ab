-- A leaf of the entry tree without dead items is at work: its trees are next.
use Rattle.std.proofs.Common.{◌≡◌, ℕ, suc, List, refl, sym, ap, subst, ◌∙◌}
use Rattle.std.specs.Prelude.{Option, Some}
use Rattle.std.specs.Option.{unwrap_or}
use Rattle.page_types.specs.Views.{entries_in, entries_of}
use Rattle.page_types.specs.declared.page.Page.{Page}
use Rattle.core_state.specs.Log.{Pages, In}
use Rattle.core_state.specs.PagesTold.{IsEntryLeaf}
use Rattle.core_vacuum.specs.Leaves.{LeavesStand}
use Rattle.gin_vacuum.specs.Sweeping.{AreLeft, IsLeafAt, IsAt}
use Rattle.gin_vacuum.specs.Inner.Reading.{AreRoots, IsCleaned, body_after}
use Rattle.gin_vacuum.specs.declared.sweeping.Sweeping.{Sweeping}
use Rattle.gin_vacuum.specs.declared.sweeping.Stage.TheVariants as stage
use Rattle.gin_vacuum.proofs.LeftLists.{clean_list, root_after, root_before}
use Rattle.gin_vacuum.proofs.PostsNext.{left_next}

module _ (P : Pages) (lead : LeavesStand P) (dead : List ℕ) (m : Sweeping) (page : ℕ) (content : Page)
    (cleaned : Option Page) (x : IsCleaned dead content cleaned) (roots : List ℕ)
    (named : AreRoots (entries_in content.body) roots) (body_is : (P page).body ≡ body_after content cleaned)
    (right_is : (P page).right ≡ content.right) (link extent left : ℕ) (link_is : link ≡ content.right)
    (left_is : suc left ≡ unwrap_or m.left extent) (at : IsAt P dead m (stage.Leaf page)) where
  abbrev entries_are : entries_of (P page) ≡ entries_in (body_after content cleaned)
  entries_are = ap entries_in body_is

  right_link : (P page).right ≡ link
  right_link = right_is ∙ sym link_is

  pub leaf_at : IsLeafAt P dead roots 0 link (Some left) page
  leaf_at = record {
    is_leaf = at.0;
    passed = at.1;
    link_is = right_link;
    lists = λ e list i on is d there.
        clean_list dead content cleaned x e list i (subst (In e) entries_are on) is d there;
    named = λ root i.
        let n = named.named root i in
        let f = root_after dead content cleaned x n.0 root n.1 n.2 in (
          f.0.key,
          record { page = page; entry = f.0; on = subst (In f.0) (sym entries_are) f.1; key = refl; names = f.2 },
        );
    all = λ e root on is.
        let d = root_before dead content cleaned x e root (subst (In e) entries_are on) is in
        named.all d.0 root d.1 d.2;
    trees = λ root i. absurd i;
    last = λ z k. (lead.entries).last page k at.0 (right_link ∙ z);
    left = subst (λ (q : ℕ). AreLeft P (IsEntryLeaf P) q (Some left)) right_link
        (left_next P (IsEntryLeaf P) page extent left m.left (lead.entries).not_zero at.0 left_is at.2);
  }
