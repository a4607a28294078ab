-- Pages that have their part of a record's rule are what a session shows of a step that leaves them: the part is
-- taken at some record, and where each page that was deleted is new.
use Rattle.std.proofs.Common.{◌≡◌, ◌<◌, ℕ, List, [], ◌∷◌, ◌++◌, length, map, refl, sym, ap, subst, subst₂, ◌∙◌, arith}
use Rattle.page_types.specs.Encoding.{body_bytes}
use Rattle.page_types.specs.declared.page.Page.{Page}
use Rattle.page_types.specs.declared.page.Postings.TheVariants.{Root}
use Rattle.page_types.specs.declared.page.Body.{Body}
use Rattle.page_types.specs.declared.page.Body.TheVariants as body
use Rattle.page_types.specs.declared.record.Edit.TheVariants.{Image}
use Rattle.page_types.specs.declared.record.Record.{Record}
use Rattle.page_types.specs.declared.record.Kind.{Kind}
use Rattle.page_types.specs.declared.record.Kind.TheVariants as kind
use Rattle.core_state.specs.Known.{Known}
use Rattle.core_state.specs.Changes.{IsNew, made_with}
use Rattle.core_state.specs.TreeRules.{IsMakeTreeHere, IsGrowRootHere, IsSplitHere, OneChild, IsDivided, IsSplitPlace}
use Rattle.core_state.specs.TreeRules.{half_body}
use Rattle.core_state.specs.declared.answers.Fate.TheVariants.{Unused}
use Rattle.core_state.specs.declared.answers.PageUse.TheVariants as usage
use Rattle.core_maintenance.specs.TreePages.{left_as, SplitPagesServe, GrownPagesServe, TreePagesServe}

-- a record of this kind that changes these pages, and what is known where each page was deleted
abbrev some_record : Kind → List ℕ → Record
some_record kd ps = record {
  number = 0;
  xid = 0;
  kind = kd;
  changes = map (λ (p : ℕ). record { page = p; edit = Image [] }) ps;
}

abbrev all_deleted : Known
all_deleted = record {
  records = 0;
  commits = 0;
  fates = λ x. Unused;
  next_xid = 1;
  next_serial = 1;
  redo = 1;
  uses = λ q. usage.Deleted 0;
}

is_new : (since new : ℕ) → IsNew all_deleted.uses since new
is_new since new = IsNew.deleted 0 refl (omega arith)

-- lists of two and of three are the same one by one
same_two : {A : Type 0} (a b x y : A) → a ∷ b ∷ [] ≡ x ∷ y ∷ [] → (a ≡ x) × (b ≡ y)
same_two a b x y e = (cc, cc)

same_three : {A : Type 0} (a b c x y z : A) → a ∷ b ∷ c ∷ [] ≡ x ∷ y ∷ z ∷ [] → (a ≡ x) × (b ≡ y) × (c ≡ z)
same_three a b c x y z e = (cc, cc, cc)

-- what a page that was left has
link_is : (r : Record) (c : Page) (right : ℕ) (b : Body) → left_as r c ≡ made_with r right b → c.right ≡ right
link_is r c right b e = ap (λ (p : Page). p.right) e

body_is : (r : Record) (c : Page) (right : ℕ) (b : Body) → left_as r c ≡ made_with r right b → c.body ≡ b
body_is r c right b e = ap (λ (p : Page). p.body) e

-- the pages of a split
record Division : Type 0 where
  pub page : ℕ
  pub new : ℕ
  pub whole : Body
  pub left : Body
  pub right : Body
  pub parent : Body
  pub adopted : Body

abbrev Divides : Division → Type 0
Divides d = IsDivided d.page d.new d.whole d.left d.right d.parent d.adopted

pub split_pages_serve : SplitPagesServe
split_pages_serve v P s page new parent old old_new old_parent left right adopted kind_is after_is held held_new
    held_parent new_is part =
    let r = some_record kind.Split (page ∷ new ∷ parent ∷ []) in
    let x : IsSplitHere v.since all_deleted r (old ∷ old_new ∷ old_parent ∷ [])
    (left_as r left ∷ left_as r right ∷ left_as r adopted ∷ []) =
    part all_deleted r refl refl (is_new v.since new) in
    let p = same_three page new parent x.page x.new x.parent x.pages in
    let b = same_three old old_new old_parent x.old x.was x.old_parent x.before_is in
    let a = same_three (left_as r left) (left_as r right) (left_as r adopted) (made_with r x.new x.left)
    (made_with r x.old.right x.right) (made_with r x.old_parent.right x.parent_after) x.after_is in
    let whole : x.old.body ≡ old.body = ap (λ (c : Page). c.body) (sym b.0) in
    let first : x.left ≡ left.body = sym (body_is r left x.new x.left a.0) in
    let second : x.right ≡ right.body = sym (body_is r right x.old.right x.right a.1) in
    let then : x.parent_after ≡ adopted.body = sym (body_is r adopted x.old_parent.right x.parent_after a.2) in
    let old_body : x.old_parent.body ≡ old_parent.body = ap (λ (c : Page). c.body) (sym b.2) in
    let at : x.page ≡ page = sym p.0 in
    let to : x.new ≡ new = sym p.1 in
    record {
      page = page;
      new = new;
      parent = parent;
      old = old;
      old_new = old_new;
      old_parent = old_parent;
      left = left;
      right = right;
      adopted = adopted;
      kind_is = kind_is;
      after_is = after_is;
      held = held;
      held_new = held_new;
      held_parent = held_parent;
      is_new = new_is;
      large = subst (λ (c : Body). half_body < length (body_bytes c)) whole x.large;
      divided = subst Divides (λ i. record {
        page = at i;
        new = to i;
        whole = whole i;
        left = first i;
        right = second i;
        parent = old_body i;
        adopted = then i;
      }) x.divided;
      split_place = subst₂ IsSplitPlace whole first x.split_place;
      left_link = link_is r left x.new x.left a.0 ∙ to;
      right_link = link_is r right x.old.right x.right a.1 ∙ ap (λ (c : Page). c.right) (sym b.0);
      parent_link = link_is r adopted x.old_parent.right x.parent_after a.2 ∙ ap (λ (c : Page). c.right) (sym b.2);
    }

pub grown_pages_serve : GrownPagesServe
grown_pages_serve v P s root new old old_new inner moved kind_is after_is held held_new new_is is_root part =
    let r = some_record kind.GrowRoot (root ∷ new ∷ []) in
    let x : IsGrowRootHere v.since all_deleted r (old ∷ old_new ∷ []) (left_as r inner ∷ left_as r moved ∷ []) =
    part all_deleted r refl refl (is_new v.since new) in
    let p = same_two root new x.root x.new x.pages in
    let b = same_two old old_new x.old x.was x.before_is in
    let a = same_two (left_as r inner) (left_as r moved) (made_with r x.old.right x.inner) (made_with r 0 x.old.body)
    x.after_is in
    let whole : x.old.body ≡ old.body = ap (λ (c : Page). c.body) (sym b.0) in
    let inner_is : x.inner ≡ inner.body = sym (body_is r inner x.old.right x.inner a.0) in
    record {
      root = root;
      new = new;
      old = old;
      old_new = old_new;
      inner = inner;
      moved = moved;
      kind_is = kind_is;
      after_is = after_is;
      held = held;
      held_new = held_new;
      is_new = new_is;
      is_root = is_root;
      large = subst (λ (c : Body). half_body < length (body_bytes c)) whole x.large;
      one_child = subst (λ (n : ℕ). OneChild n old.body inner.body) (sym p.1)
          (subst₂ (OneChild x.new) whole inner_is x.one_child);
      root_link = link_is r inner x.old.right x.inner a.0 ∙ ap (λ (c : Page). c.right) (sym b.0);
      new_link = link_is r moved 0 x.old.body a.1;
      content = body_is r moved 0 x.old.body a.1 ∙ whole;
    }

pub tree_pages_serve : TreePagesServe
tree_pages_serve v P s page new old old_new leaf tree kind_is after_is held held_new new_is part =
    let r = some_record kind.MakeTree (page ∷ new ∷ []) in
    let x : IsMakeTreeHere v.since all_deleted r (old ∷ old_new ∷ []) (left_as r leaf ∷ left_as r tree ∷ []) =
    part all_deleted r refl refl (is_new v.since new) in
    let p = same_two page new x.page x.new x.pages in
    let b = same_two old old_new x.old x.was x.before_is in
    let then : ℕ → Body = λ (n : ℕ).
    body.EntryLeaf x.high (x.front ++ record { key = x.key; postings = Root n } ∷ x.back) in
    let a = same_two (left_as r leaf) (left_as r tree) (made_with r x.old.right (then x.new))
    (made_with r 0 (body.PostLeaf 0 x.items)) x.after_is in
    record {
      page = page;
      new = new;
      key = x.key;
      high = x.high;
      items = x.items;
      front = x.front;
      back = x.back;
      old = old;
      old_new = old_new;
      leaf = leaf;
      tree = tree;
      kind_is = kind_is;
      after_is = after_is;
      held = held;
      held_new = held_new;
      is_new = new_is;
      was = ap (λ (c : Page). c.body) b.0 ∙ x.inline;
      leaf_link = link_is r leaf x.old.right (then x.new) a.0 ∙ ap (λ (c : Page). c.right) (sym b.0);
      named = body_is r leaf x.old.right (then x.new) a.0 ∙ ap then (sym p.1);
      tree_link = link_is r tree 0 (body.PostLeaf 0 x.items) a.1;
      content = body_is r tree 0 (body.PostLeaf 0 x.items) a.1;
    }
