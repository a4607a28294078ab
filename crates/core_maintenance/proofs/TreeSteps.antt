-- Steps by which the trees of the index grow are valid after each log that is allowed to the session.
use Rattle.std.proofs.Common.{◌≡◌, ◌≢◌, ℕ, List, [], ◌∷◌, ◌++◌, map, refl, ap, subst, ◌∙◌}
use Rattle.ts_base.specs.Keys.{Key}
use Rattle.page_types.specs.Views.{entries_of}
use Rattle.page_types.specs.declared.page.Page.{Page}
use Rattle.page_types.specs.declared.page.Postings.TheVariants.{Root}
use Rattle.page_types.specs.declared.page.Body.TheVariants as body
use Rattle.page_types.specs.declared.record.Kind.TheVariants as kind
use Rattle.core_state.specs.Log.{Log, Pages, In, Shows}
use Rattle.core_state.specs.Index.{IsNamed}
use Rattle.core_state.specs.TreeRules.{IsRoot}
use Rattle.core_state.specs.Legal.{RuleHolds}
use Rattle.core_state.specs.Allowed.{View, IsAllowed}
use Rattle.core_state.specs.Steps.{MayBy}
use Rattle.core_state.proofs.Showing.{shown_one, none_yet, shown_none}
use Rattle.core_state.proofs.Steps.Seen.{held_page, steady_facts, still_new, shows}
use Rattle.core_state.proofs.Steps.Heads.{drawn_as, drawn_pages, two_of, left_all, left_is}
use Rattle.core_maintenance.specs.TreeSteps.{CanSplit, CanGrowRoot, CanMakeTree}

three_of : (P : Pages) (ps : List ℕ) (a b c : ℕ) (x y z : Page) → ps ≡ a ∷ b ∷ c ∷ [] → P a ≡ x → P b ≡ y → P c ≡ z
    → map P ps ≡ x ∷ y ∷ z ∷ []
three_of P ps a b c x y z e is is' is'' =
    ap (map P) e ∙ ap (λ (p : Page). p ∷ P b ∷ P c ∷ []) is ∙ ap (λ (p : Page). x ∷ p ∷ P c ∷ []) is'
    ∙ ap (λ (p : Page). x ∷ y ∷ p ∷ []) is''

pub split_may : MayBy CanSplit
split_may v s can R a r Q n l =
    let t = shows CanSplit v s R a can in
    let c = t.2 in
    let kind_is : r.kind ≡ kind.Split = drawn_as R s r n kind.Split c.kind_is in
    let pages = drawn_pages R s r n _ c.after_is in
    let left = left_all a.pages Q r s _ l c.after_is in
    RuleHolds.split (record {
      here = record {
        page = c.page;
        new = c.new;
        parent = c.parent;
        old = c.old;
        was = c.old_new;
        old_parent = c.old_parent;
        left = c.left.body;
        right = c.right.body;
        parent_after = c.adopted.body;
        kind_is = kind_is;
        pages = pages;
        is_new = still_new v R a t.0 t.1 v.since c.new c.old_new c.held_new c.is_new;
        before_is = three_of a.pages _ c.page c.new c.parent c.old c.old_new c.old_parent pages
            (held_page v R a c.page c.old c.held) (held_page v R a c.new c.old_new c.held_new)
            (held_page v R a c.parent c.old_parent c.held_parent);
        large = c.large;
        divided = c.divided;
        split_place = c.split_place;
        after_is = three_of Q _ c.page c.new c.parent _ _ _ pages
            (left.0 ∙ left_is r kind.Split c.left c.new c.left.body kind_is refl c.left_link refl)
            (left.1.0 ∙ left_is r kind.Split c.right c.old.right c.right.body kind_is refl c.right_link refl)
            (left.1.1.0
            ∙ left_is r kind.Split c.adopted c.old_parent.right c.adopted.body kind_is refl c.parent_link refl);
      };
    })

-- an empty log shows no entry
none_named : (R : Log) (P : Pages) (k : Key) (root : ℕ) → Shows R P → IsNamed P k root → R ≢ []
none_named R P k root shown named e =
    let same : P ≡ none_yet = shown_one [] P none_yet (subst (λ (S : Log). Shows S P) e shown) shown_none in
    subst (λ (T : Pages). In named.entry (entries_of (T named.page))) same named.on

-- a root that was seen is one in each allowed log
root_stays : (v : View) (R : Log) (a : IsAllowed v R) (P : Pages) → Shows v.seen P → (root : ℕ) → IsRoot P root
    → IsRoot a.pages root
root_stays v R a P shown _ IsRoot.of_entries = IsRoot.of_entries
root_stays v R a P shown root (IsRoot.of_postings k named) =
    (steady_facts v R a P shown (none_named v.seen P k root shown named)).places.roots root
    (IsRoot.of_postings k named)

pub grow_root_may : MayBy CanGrowRoot
grow_root_may v s can R a r Q n l =
    let t = shows CanGrowRoot v s R a can in
    let c = t.2 in
    let kind_is : r.kind ≡ kind.GrowRoot = drawn_as R s r n kind.GrowRoot c.kind_is in
    let pages = drawn_pages R s r n _ c.after_is in
    let left = left_all a.pages Q r s _ l c.after_is in
    RuleHolds.grow_root (record {
      here = record {
        root = c.root;
        new = c.new;
        inner = c.inner.body;
        old = c.old;
        was = c.old_new;
        kind_is = kind_is;
        pages = pages;
        is_new = still_new v R a t.0 t.1 v.since c.new c.old_new c.held_new c.is_new;
        before_is = two_of a.pages _ c.root c.new c.old c.old_new pages
            (held_page v R a c.root c.old c.held) (held_page v R a c.new c.old_new c.held_new);
        large = c.large;
        one_child = c.one_child;
        after_is = two_of Q _ c.root c.new _ _ pages
            (left.0 ∙ left_is r kind.GrowRoot c.inner c.old.right c.inner.body kind_is refl c.root_link refl)
            (left.1.0 ∙ left_is r kind.GrowRoot c.moved 0 c.old.body kind_is refl c.new_link c.content);
      };
      rest = root_stays v R a t.0 t.1 c.root c.is_root;
    })

pub make_tree_may : MayBy CanMakeTree
make_tree_may v s can R a r Q n l =
    let t = shows CanMakeTree v s R a can in
    let c = t.2 in
    let kind_is : r.kind ≡ kind.MakeTree = drawn_as R s r n kind.MakeTree c.kind_is in
    let pages = drawn_pages R s r n _ c.after_is in
    let left = left_all a.pages Q r s _ l c.after_is in
    let leaf_then = body.EntryLeaf c.high (c.front ++ record { key = c.key; postings = Root c.new } ∷ c.back) in
    RuleHolds.make_tree (record {
      here = record {
        page = c.page;
        new = c.new;
        key = c.key;
        high = c.high;
        items = c.items;
        front = c.front;
        back = c.back;
        old = c.old;
        was = c.old_new;
        kind_is = kind_is;
        pages = pages;
        is_new = still_new v R a t.0 t.1 v.since c.new c.old_new c.held_new c.is_new;
        before_is = two_of a.pages _ c.page c.new c.old c.old_new pages
            (held_page v R a c.page c.old c.held) (held_page v R a c.new c.old_new c.held_new);
        inline = c.was;
        after_is = two_of Q _ c.page c.new _ _ pages
            (left.0 ∙ left_is r kind.MakeTree c.leaf c.old.right leaf_then kind_is refl c.leaf_link c.named)
            (left.1.0
            ∙ left_is r kind.MakeTree c.tree 0 (body.PostLeaf 0 c.items) kind_is refl c.tree_link c.content);
      };
    })
