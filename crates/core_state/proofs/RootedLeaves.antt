-- A leaf on which an entry's item list becomes a root, and a root that becomes an inner page.
use Rattle.std.proofs.Common.{◌≡◌, ◌≢◌, ℕ, suc, List, [], ◌∷◌, ◌++◌, length, take, drop, get_or, refl, sym, ap}
use Rattle.std.proofs.Common.{subst, subst₂, ◌∙◌, arith}
use Rattle.std.specs.Prelude.{Some}
use Rattle.std.specs.List.{slice_get}
use Rattle.ts_base.specs.Keys.{Key}
use Rattle.page_types.specs.Parts.{entry_shown, postings_shown}
use Rattle.page_types.specs.declared.entries.EntryRef.{EntryRef}
use Rattle.page_types.specs.declared.entries.PostingsRef.{PostingsRef}
use Rattle.page_types.specs.declared.entries.PostingsRef.TheVariants as by_ref
use Rattle.page_types.specs.declared.page.Postings.{Postings}
use Rattle.page_types.specs.declared.page.Page.{Page}
use Rattle.page_types.specs.Numbers.{no_bound}
use Rattle.page_types.specs.declared.page.Entry.{Entry}
use Rattle.page_types.specs.declared.page.EntryChild.{EntryChild}
use Rattle.page_types.specs.declared.page.PostChild.{PostChild}
use Rattle.page_types.specs.declared.page.Postings.TheVariants.{Inline, Root}
use Rattle.page_types.specs.declared.page.Body.{Body}
use Rattle.page_types.specs.declared.page.Body.TheVariants as body
use Rattle.page_types.specs.declared.record.Change.{Change}
use Rattle.page_types.specs.declared.record.Record.{Record}
use Rattle.page_types.specs.declared.record.Kind.TheVariants as kind
use Rattle.core_state.specs.Log.{changed, pages_of}
use Rattle.core_state.specs.Known.{Known}
use Rattle.core_state.specs.Changes.{made_with, IsNew}
use Rattle.core_state.specs.TreeRules.{IsMakeTreeHere, IsGrowRootHere, OneChild}
use Rattle.core_state.specs.Inner.Members.{Shared}
use Rattle.core_state.specs.Inner.TreePages.{SecondIsNew, BecomesRoot, MakesRoot, SameTree, GrowsRoot}
use Rattle.core_state.specs.declared.answers.PageUse.{PageUse}
use Rattle.core_state.proofs.TakenEntries.{list_entry}
use Rattle.core_state.proofs.SharedFronts.{shared_place, cut_at, get_behind, drop_behind}

abbrev pub root_entry : Key → ℕ → Entry
root_entry key root = record { key = key; postings = Root root }

pub root_told : (list : List ℕ) (root : ℕ) (es fs : List Entry) (k : ℕ) (key : Key) → Shared es fs k
    → slice_get es k ≡ Some (list_entry key list) → slice_get fs k ≡ Some (root_entry key root)
    → drop (suc k) es ≡ drop (suc k) fs → BecomesRoot list root es fs
root_told list root es fs k key s was at same = record {
  key = key;
  front = take k fs;
  back = drop (suc k) fs;
  was = cut_at es k (list_entry key list) was
      ∙ ap (λ (xs : List Entry). xs ++ list_entry key list ∷ drop (suc k) es) s.front
      ∙ ap (λ (xs : List Entry). take k fs ++ list_entry key list ∷ xs) same;
  after = cut_at fs k (root_entry key root) at;
}

module _ (list : List ℕ) (root : ℕ) (es fs : List Entry) (k : ℕ) (s : Shared es fs k)
    (w : BecomesRoot list root es fs) where
  apart : (x : Entry) (more : List Entry) → list_entry w.key list ∷ w.back ≡ x ∷ more → x ≢ root_entry w.key root
  apart x more e f =
      let heads : list_entry w.key list ≡ x = cc in
      let lists : Inline list ≡ Root root = ap (λ (z : Entry). z.postings) (heads ∙ f) in
      absurd (cc (lists))

  place : k ≡ length w.front
  place =
      shared_place w.front (list_entry w.key list ∷ w.back) (root_entry w.key root) w.back k apart
      (subst₂ (λ (a b : List Entry). Shared a b k) w.was w.after s)

  pub root_was : slice_get es k ≡ Some (list_entry w.key list)
  root_was =
      ap (slice_get es) place ∙ ap (λ (xs : List Entry). slice_get xs (length w.front)) w.was
      ∙ get_behind w.front (list_entry w.key list) w.back

  pub root_at : slice_get fs k ≡ Some (root_entry w.key root)
  root_at =
      ap (slice_get fs) place ∙ ap (λ (xs : List Entry). slice_get xs (length w.front)) w.after
      ∙ get_behind w.front (root_entry w.key root) w.back

  pub root_back : drop (suc k) es ≡ drop (suc k) fs
  root_back =
      ap (λ (i : ℕ). drop (suc i) es) place ∙ ap (drop (suc (length w.front))) w.was
      ∙ drop_behind w.front (list_entry w.key list) w.back
      ∙ sym (ap (λ (i : ℕ). drop (suc i) fs) place ∙ ap (drop (suc (length w.front))) w.after
      ∙ drop_behind w.front (root_entry w.key root) w.back)

pub rooted : (key other : Key) (root page : ℕ) → root_entry key root ≡ root_entry other page
    → (key ≡ other) × (root ≡ page)
rooted key other root page e =
    let roots : Root root ≡ Root page = ap (λ (x : Entry). x.postings) e in
    (ap (λ (x : Entry). x.key) e, cc)

-- of the entries that are found
pub was_found : (list : List ℕ) (root : ℕ) (es fs : List Entry) (k : ℕ) (s : Shared es fs k)
    (w : BecomesRoot list root es fs) (x : EntryRef) → slice_get es k ≡ Some (entry_shown x)
    → (x.key.now ≡ w.key) × (postings_shown x.postings ≡ Inline list)
was_found list root es fs k s w x at =
    let both : Some (entry_shown x) ≡ Some (list_entry w.key list) = sym at ∙ root_was list root es fs k s w in
    let one : entry_shown x ≡ list_entry w.key list = cc in
    (ap (λ (z : Entry). z.key) one, ap (λ (z : Entry). z.postings) one)

pub root_found : (list : List ℕ) (root : ℕ) (es fs : List Entry) (k : ℕ) (s : Shared es fs k)
    (w : BecomesRoot list root es fs) (x : EntryRef) → slice_get fs k ≡ Some (entry_shown x)
    → (x.key.now ≡ w.key) × (postings_shown x.postings ≡ Root root)
root_found list root es fs k s w x at =
    let both : Some (entry_shown x) ≡ Some (root_entry w.key root) = sym at ∙ root_at list root es fs k s w in
    let one : entry_shown x ≡ root_entry w.key root = cc in
    (ap (λ (z : Entry). z.key) one, ap (λ (z : Entry). z.postings) one)

pub root_is : (x : EntryRef) (key : List ℕ) (root : ℕ) → x.key.now ≡ key → postings_shown x.postings ≡ Root root
    → entry_shown x ≡ root_entry key root
root_is x key root k p =
    ap (λ (z : Key). record { key = z; postings = postings_shown x.postings }) k
    ∙ ap (λ (z : Postings). record { key = key; postings = z }) p

pub root_ref : (p : PostingsRef) (root : ℕ) → ((x : ℕ) → p ≡ by_ref.Root x → ⊥) → postings_shown p ≡ Root root → ⊥
root_ref (by_ref.Inline x) root not e = absurd (cc (e))
root_ref (by_ref.Root x) root not e = not x refl

-- ---- pages

same_pair : (x y a b : Page) → x ∷ y ∷ [] ≡ a ∷ b ∷ [] → (x ≡ a) × (y ≡ b)
same_pair x y a b e = (cc, cc)

pub second_of : (uses : ℕ → PageUse) (since : ℕ) (r : Record) (p q page : ℕ) → SecondIsNew uses since r p
    → changed r ≡ page ∷ q ∷ [] → q ≡ p
second_of uses since r p q page s e = let both : page ∷ q ∷ [] ≡ s.page ∷ p ∷ [] = sym e ∙ s.pages in cc

pub two_size : (r : Record) (p q : ℕ) → changed r ≡ p ∷ q ∷ [] → length r.changes ≡ 2
two_size r p q e = sized r.changes p q e
  where
    sized : (cs : List Change) (p q : ℕ) → pages_of cs ≡ p ∷ q ∷ [] → length cs ≡ 2
    sized [] p q e = absurd (cc (e))
    sized (c ∷ []) p q e = absurd (omega (arith, ap length e))
    sized (c ∷ d ∷ []) p q e = refl
    sized (c ∷ d ∷ x ∷ cs) p q e = absurd (omega (arith, ap length e))

pub two_pages : (cs : List Change) (c : Change) → length cs ≡ 2 → c ≡ get_or cs 1 c
    → (p : ℕ) × (pages_of cs ≡ p ∷ c.page ∷ [])
two_pages [] c n e = absurd (omega (arith, n))
two_pages (x ∷ []) c n e = absurd (omega (arith, n))
two_pages (x ∷ y ∷ []) c n e = (x.page, ap (λ (z : Change). x.page ∷ z.page ∷ []) (sym e))
two_pages (x ∷ y ∷ z ∷ cs) c n e = absurd (omega (arith, n))

-- the second page of the two is this one
pub second_is : (uses : ℕ → PageUse) (since : ℕ) (r : Record) (cs : List Change) (c : Change) (p : ℕ)
    → cs ≡ r.changes → length cs ≡ 2 → c ≡ get_or cs 1 c → SecondIsNew uses since r p
    → IsNew uses since (get_or cs 1 c).page
second_is uses since r cs c p e n at s =
    let t = two_pages cs c n at in
    let both : s.page ∷ p ∷ [] ≡ t.0 ∷ c.page ∷ [] = sym s.pages ∙ ap pages_of (sym e) ∙ t.1 in
    let same : p ≡ c.page = cc in
    subst (λ (z : Change). IsNew uses since z.page) at (subst (IsNew uses since) same s.is_new)

pub second_told : (uses : ℕ → PageUse) (since : ℕ) (r : Record) (cs : List Change) (c : Change) → cs ≡ r.changes
    → length cs ≡ 2 → c ≡ get_or cs 1 c → IsNew uses since (get_or cs 1 c).page
    → SecondIsNew uses since r (get_or cs 1 c).page
second_told uses since r cs c e n at new =
    let t = two_pages cs c n at in
    record { page = t.0; pages = ap pages_of (sym e) ∙ t.1 ∙ ap (λ (z : Change). t.0 ∷ z.page ∷ []) at; is_new = new }

pub made_told : (since : ℕ) (k : Known) (r : Record) (root : ℕ) (old was new leaf : Page) (before after : List Page)
    → r.kind ≡ kind.MakeTree → SecondIsNew k.uses since r root → before ≡ old ∷ was ∷ [] → after ≡ new ∷ leaf ∷ []
    → MakesRoot r root old new leaf → IsMakeTreeHere since k r before after
made_told since k r root old was new leaf before after e s before_is after_is m =
    let b = m.becomes in
    record {
      page = s.page;
      new = root;
      key = b.key;
      high = m.high;
      items = m.items;
      front = b.front;
      back = b.back;
      old = old;
      was = was;
      kind_is = e;
      pages = s.pages;
      is_new = s.is_new;
      before_is = before_is;
      inline = m.left.was ∙ ap (body.EntryLeaf m.high) b.was;
      after_is = after_is
          ∙ ap (λ (p : Page). p ∷ leaf ∷ []) (m.left.after
          ∙ ap (λ (es : List Entry). made_with r old.right (body.EntryLeaf m.high es)) b.after)
          ∙ ap (λ (p : Page). made_with r old.right
          (body.EntryLeaf m.high (b.front ++ root_entry b.key root ∷ b.back)) ∷ p ∷ []) m.leaf_is;
    }

pub made_back : (since : ℕ) (k : Known) (r : Record) (root : ℕ) (old was new leaf : Page) (before after : List Page)
    → SecondIsNew k.uses since r root → before ≡ old ∷ was ∷ [] → after ≡ new ∷ leaf ∷ []
    → IsMakeTreeHere since k r before after → MakesRoot r root old new leaf
made_back since k r root old was new leaf before after s before_is after_is w =
    let page : w.new ≡ root = second_of k.uses since r root w.new w.page s w.pages in
    let olds = same_pair w.old w.was old was (sym w.before_is ∙ before_is) in
    let entries : List Entry = w.front ++ root_entry w.key w.new ∷ w.back in
    let now = same_pair (made_with r w.old.right (body.EntryLeaf w.high entries)) (made_with r 0 (body.PostLeaf 0
    w.items)) new leaf (sym w.after_is ∙ after_is) in
    let here : MakesRoot r w.new w.old new leaf = record {
      high = w.high;
      entries = w.front ++ list_entry w.key w.items ∷ w.back;
      then = entries;
      items = w.items;
      left = record { was = w.inline; after = sym now.0 };
      becomes = record { key = w.key; front = w.front; back = w.back; was = refl; after = refl };
      leaf_is = sym now.1;
    } in
    subst₂ (λ (n : ℕ) (p : Page). MakesRoot r n p new leaf) page olds.0 here

-- one child alone
pub lone : {A : Type 0} (xs : List A) (x : A) → slice_get xs 0 ≡ Some x → length xs ≡ 1 → xs ≡ x ∷ []
lone [] x e n = absurd (omega (arith, n))
lone (y ∷ []) x e n = let same : y ≡ x = cc in ap (λ z. z ∷ []) same
lone (y ∷ z ∷ ys) x e n = absurd (omega (arith, n))

pub lone_is : {A : Type 0} (xs : List A) (x y : A) → slice_get xs 0 ≡ Some x → xs ≡ y ∷ [] → x ≡ y
lone_is xs x y e f =
    let both : Some x ≡ Some y = sym e ∙ ap (λ zs. slice_get zs 0) f in
    cc

pub tree_same : (a b : Body) → SameTree a b → b ≡ a
tree_same _ _ (SameTree.leaf high entries) = refl
tree_same _ _ (SameTree.inner children) = refl
tree_same _ _ (SameTree.post_leaf high items) = refl
tree_same _ _ (SameTree.post_inner children) = refl

pub tree_of : (page : ℕ) (a inner b : Body) → OneChild page a inner → b ≡ a → SameTree a b
tree_of page _ _ b (OneChild.of_leaf high entries) e =
    subst (SameTree (body.EntryLeaf high entries)) (sym e) (SameTree.leaf high entries)
tree_of page _ _ b (OneChild.of_inner children) e =
    subst (SameTree (body.EntryInner children)) (sym e) (SameTree.inner children)
tree_of page _ _ b (OneChild.of_post_leaf high items) e =
    subst (SameTree (body.PostLeaf high items)) (sym e) (SameTree.post_leaf high items)
tree_of page _ _ b (OneChild.of_post_inner children) e =
    subst (SameTree (body.PostInner children)) (sym e) (SameTree.post_inner children)

pub grown_told : (since : ℕ) (k : Known) (r : Record) (page : ℕ) (old was root moved : Page) (before after : List Page)
    → r.kind ≡ kind.GrowRoot → SecondIsNew k.uses since r page → before ≡ old ∷ was ∷ []
    → after ≡ root ∷ moved ∷ [] → GrowsRoot r page old root moved → IsGrowRootHere since k r before after
grown_told since k r page old was root moved before after e s before_is after_is g = record {
  root = s.page;
  new = page;
  inner = g.inner;
  old = old;
  was = was;
  kind_is = e;
  pages = s.pages;
  is_new = s.is_new;
  before_is = before_is;
  large = g.large;
  one_child = g.one_child;
  after_is = after_is ∙ ap (λ (p : Page). p ∷ moved ∷ []) g.root_is
      ∙ ap (λ (p : Page). made_with r old.right g.inner ∷ p ∷ []) g.moved_is;
}

pub grown_back : (since : ℕ) (k : Known) (r : Record) (page : ℕ) (old was root moved : Page) (before after : List Page)
    → SecondIsNew k.uses since r page → before ≡ old ∷ was ∷ [] → after ≡ root ∷ moved ∷ []
    → IsGrowRootHere since k r before after → GrowsRoot r page old root moved
grown_back since k r page old was root moved before after s before_is after_is w =
    let same : w.new ≡ page = second_of k.uses since r page w.new w.root s w.pages in
    let olds = same_pair w.old w.was old was (sym w.before_is ∙ before_is) in
    let now = same_pair (made_with r w.old.right w.inner) (made_with r 0 w.old.body) root moved
    (sym w.after_is ∙ after_is) in
    let here : GrowsRoot r w.new w.old root moved = record {
      inner = w.inner;
      large = w.large;
      one_child = w.one_child;
      root_is = sym now.0;
      moved_is = sym now.1;
    } in
    subst₂ (λ (n : ℕ) (p : Page). GrowsRoot r n p root moved) same olds.0 here

pub child_is : (x : EntryChild) (page : ℕ) → x.page ≡ page → x.bound ≡ [] → x ≡ record { page = page; bound = [] }
child_is x page e f =
    ap (λ (p : ℕ). record { page = p; bound = x.bound }) e ∙ ap (λ (b : Key). record { page = page; bound = b }) f

pub post_is : (x : PostChild) (page : ℕ) → x.page ≡ page → x.bound ≡ no_bound
    → x ≡ record { page = page; bound = no_bound }
post_is x page e f =
    ap (λ (p : ℕ). record { page = p; bound = x.bound }) e ∙ ap (λ (b : ℕ). record { page = page; bound = b }) f

-- pages of the same kind
pub same_inner : (page right : Body) (a b : List EntryChild) → page ≡ body.EntryInner a → right ≡ body.EntryInner b
    → a ≡ b → SameTree page right
same_inner page right a b e f g =
    subst₂ SameTree (sym e) (sym (f ∙ ap body.EntryInner (sym g))) (SameTree.inner a)

pub inner_same : (page right : Body) (a b : List EntryChild) → page ≡ body.EntryInner a → right ≡ body.EntryInner b
    → SameTree page right → a ≡ b
inner_same page right a b e f t =
    let both : body.EntryInner b ≡ body.EntryInner a = sym f ∙ tree_same page right t ∙ e in
    cc

pub same_posts : (page right : Body) (a b : List PostChild) → page ≡ body.PostInner a → right ≡ body.PostInner b
    → a ≡ b → SameTree page right
same_posts page right a b e f g =
    subst₂ SameTree (sym e) (sym (f ∙ ap body.PostInner (sym g))) (SameTree.post_inner a)

pub posts_same : (page right : Body) (a b : List PostChild) → page ≡ body.PostInner a → right ≡ body.PostInner b
    → SameTree page right → a ≡ b
posts_same page right a b e f t =
    let both : body.PostInner b ≡ body.PostInner a = sym f ∙ tree_same page right t ∙ e in
    cc

pub same_leaves : (page right : Body) (h g : Key) (a b : List Entry) → page ≡ body.EntryLeaf h a
    → right ≡ body.EntryLeaf g b → h ≡ g → a ≡ b → SameTree page right
same_leaves page right h g a b e f same all =
    subst₂ SameTree (sym e)
    (sym (f ∙ ap (λ (z : Key). body.EntryLeaf z b) (sym same) ∙ ap (body.EntryLeaf h) (sym all))) (SameTree.leaf h a)

pub leaves_same : (page right : Body) (h g : Key) (a b : List Entry) → page ≡ body.EntryLeaf h a
    → right ≡ body.EntryLeaf g b → SameTree page right → (h ≡ g) × (a ≡ b)
leaves_same page right h g a b e f t =
    let both : body.EntryLeaf g b ≡ body.EntryLeaf h a = sym f ∙ tree_same page right t ∙ e in
    (cc, cc)

pub same_lists : (page right : Body) (h g : ℕ) (a b : List ℕ) → page ≡ body.PostLeaf h a → right ≡ body.PostLeaf g b
    → h ≡ g → a ≡ b → SameTree page right
same_lists page right h g a b e f same all =
    subst₂ SameTree (sym e)
    (sym (f ∙ ap (λ (z : ℕ). body.PostLeaf z b) (sym same) ∙ ap (body.PostLeaf h) (sym all))) (SameTree.post_leaf h a)

pub lists_same : (page right : Body) (h g : ℕ) (a b : List ℕ) → page ≡ body.PostLeaf h a → right ≡ body.PostLeaf g b
    → SameTree page right → (h ≡ g) × (a ≡ b)
lists_same page right h g a b e f t =
    let both : body.PostLeaf g b ≡ body.PostLeaf h a = sym f ∙ tree_same page right t ∙ e in
    (cc, cc)

pub one_entry_child : (page : ℕ) (root inner : Body) → OneChild page root inner → (children : List EntryChild)
    → inner ≡ body.EntryInner children → children ≡ record { page = page; bound = [] } ∷ []
one_entry_child page _ _ (OneChild.of_leaf high entries) children e = cc
one_entry_child page _ _ (OneChild.of_inner others) children e = cc
one_entry_child page _ _ (OneChild.of_post_leaf high items) children e = absurd (cc (e))
one_entry_child page _ _ (OneChild.of_post_inner others) children e = absurd (cc (e))

pub one_post_child : (page : ℕ) (root inner : Body) → OneChild page root inner → (children : List PostChild)
    → inner ≡ body.PostInner children → children ≡ record { page = page; bound = no_bound } ∷ []
one_post_child page _ _ (OneChild.of_leaf high entries) children e = absurd (cc (e))
one_post_child page _ _ (OneChild.of_inner others) children e = absurd (cc (e))
one_post_child page _ _ (OneChild.of_post_leaf high items) children e = cc
one_post_child page _ _ (OneChild.of_post_inner others) children e = cc
