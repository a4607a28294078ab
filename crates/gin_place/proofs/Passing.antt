-- One child more, where a key or an item is to divide what is below one of them.
use Rattle.std.proofs.Common.{◌≡◌, ◌≢◌, ℕ, List, [], ◌∷◌, ◌++◌, refl, sym, ap, ap₂, subst, ◌∙◌, inl, inr}
use Rattle.std.proofs.Common.{append_assoc}
use Rattle.std.specs.Prelude.{◌<◌, ◌↔◌, ◌+◌, take, drop, Bool, true, false, Option, Some, None, IfSome, IfNone, IsTrue}
use Rattle.std.proofs.lemmas.List.{take-append-drop}
use Rattle.page_types.specs.Numbers.{page_limit, item_limit}
use Rattle.page_types.specs.Pages.{IsPage}
use Rattle.page_types.specs.Views.{entry_children_in, post_children_in}
use Rattle.page_types.specs.declared.page.Page.{Page}
use Rattle.page_types.specs.Keys.{IsKey, BoundLess}
use Rattle.page_types.specs.declared.page.Body.{Body}
use Rattle.page_types.specs.declared.page.Body.TheVariants as body
use Rattle.page_types.specs.declared.page.EntryChild.{EntryChild}
use Rattle.page_types.specs.declared.page.PostChild.{PostChild}
use Rattle.core_state.specs.Log.{In}
use Rattle.core_state.specs.TreeRules.{EntryParent, PostParent}
use Rattle.core_state.proofs.PageLists.{in_either}
use Rattle.core_state.proofs.Trees.Members.{in_middle}
use Rattle.entry_tree.specs.Adopting as entries
use Rattle.entry_tree.specs.Reading as entry_rooms
use Rattle.posting_tree.specs.Adopting as posts
use Rattle.posting_tree.specs.Reading as post_rooms
use Rattle.gin_place.specs.Adopting.{Divider, DividesBy, Divides, CanTake, DividesItems, CanTakeItem, key_divider}
use Rattle.gin_place.specs.Adopting.{item_divider}
use Rattle.gin_place.specs.Inner.Dividing.{PassedBy, BarsBy}

-- a child at its place
pub at_place : {C : Type 0} (k : ℕ) (xs : List C) (x : C) → take (k + 1) xs ≡ take k xs ++ x ∷ []
    → xs ≡ take k xs ++ x ∷ drop (k + 1) xs
at_place {C} k xs x e =
    sym (take-append-drop (k + 1) xs)
    ∙ ap (λ (l : List C). l ++ drop (k + 1) xs) e
    ∙ append_assoc (take k xs) (x ∷ []) (drop (k + 1) xs)

-- what holds of each, and of one more
each_more : {C : Type 0} (T : C → Type 0) (xs : List C) (c : C) → ((b : C) → In b xs → T b) → T c → (b : C)
    → In b (xs ++ c ∷ []) → T b
each_more T xs c each here b i = elim (in_either b xs (c ∷ []) i) [
  | inl old ↦ each b old
  | inr (inl e) ↦ subst T (sym e) here
  | inr (inr none) ↦ absurd none
]

module _ {C : Type 0} (number : C → ℕ) (page : ℕ) where
  -- where one child alone has a page, it and those before it are told apart in one way
  one_place : (f g b c : List C) (x y : C) → f ++ x ∷ b ≡ g ++ y ∷ c → number y ≡ page
      → ((z : C) → In z f → number z ≢ page) → ((z : C) → In z b → number z ≢ page) → (g ≡ f) × (y ≡ x)
  one_place [] [] b c x y e is before after = (refl, cc)
  one_place [] (z ∷ g) b c x y e is before after =
      let rest : b ≡ g ++ y ∷ c = cc in
      absurd (after y (subst (In y) (sym rest) (in_middle g y c)) is)
  one_place (z ∷ f) [] b c x y e is before after =
      let same : z ≡ y = cc in
      absurd (before z (inl refl) (ap number same ∙ is))
  one_place (z ∷ f) (w ∷ g) b c x y e is before after =
      let rest : f ++ x ∷ b ≡ g ++ y ∷ c = cc in
      let first : z ≡ w = cc in
      let same = one_place f g b c x y rest is (λ d i. before d (inr i)) after in
      (ap₂ (λ (d : C) (l : List C). d ∷ l) (sym first) same.0, same.1)

  -- one that has not the page comes before the one that has it, where none of those before it has it
  comes_before : (f b g c : List C) (y x : C) → f ++ y ∷ b ≡ g ++ x ∷ c → number y ≡ page
      → number x ≢ page → ((z : C) → In z g → number z ≢ page) → In x f
  comes_before [] b [] c y x e is off none =
      let same : y ≡ x = cc in absurd (off (ap number (sym same) ∙ is))
  comes_before [] b (z ∷ g) c y x e is off none =
      let same : y ≡ z = cc in absurd (none z (inl refl) (ap number (sym same) ∙ is))
  comes_before (z ∷ f) b [] c y x e is off none = let same : x ≡ z = cc in inl same
  comes_before (z ∷ f) b (w ∷ g) c y x e is off none =
      let rest : f ++ y ∷ b ≡ g ++ x ∷ c = cc in
      inr (comes_before f b g c y x rest is off (λ d i. none d (inr i)))

module _ {C : Type 0} (d : Divider C) (page : ℕ) where
  -- it has the page
  pub meets : (xs : List C) (c : C) → PassedBy d false xs page → d.page c ≡ page → d.IsWithin c
      → PassedBy d true (xs ++ c ∷ []) page
  meets xs c before is below = record {
    front = xs;
    back = [];
    child = c;
    parts = refl;
    page_is = is;
    none_before = λ b i. (before b i).0;
    none_after = λ b i. absurd i;
    above = λ b i. (before b i).1;
    below = below;
  }

  -- none has it yet, or one had it
  pub passes : (n : Bool) (xs : List C) (c : C) → PassedBy d n xs page → d.page c ≢ page
      → (n ≡ false → d.IsPast c) → PassedBy d n (xs ++ c ∷ []) page
  passes false xs c before off above =
      each_more (λ b. (d.page b ≢ page) × d.IsPast b) xs c before (off, above refl)
  passes true xs c o off above = record {
    front = o.front;
    back = o.back ++ c ∷ [];
    child = o.child;
    parts = ap (λ (l : List C). l ++ c ∷ []) o.parts ∙ append_assoc o.front (o.child ∷ o.back) (c ∷ []);
    page_is = o.page_is;
    none_before = o.none_before;
    none_after = each_more (λ b. d.page b ≢ page) o.back c o.none_after off;
    above = o.above;
    below = o.below;
  }

  -- a child with the page is there where what is below one is divided
  pub named_there : (children : List C) (o : DividesBy d children page) → In o.child children
  named_there children o = subst (In o.child) (sym o.parts) (in_middle o.front o.child o.back)

  -- at the end
  pub told : (n : Bool) (children : List C) → PassedBy d n children page → IsTrue n ↔ DividesBy d children page
  told true children passed = (λ t. passed, λ o. refl)
  told false children passed =
      (λ t. let z : ⊥ = cc in absurd z, λ o. absurd ((passed o.child (named_there children o)).0 o.page_is))

  module _ (before after : List C) (x : C) (o : DividesBy d (before ++ x ∷ after) page) where
    -- where it has the page, it is the one
    only_one : d.page x ≡ page → (before ≡ o.front) × (x ≡ o.child)
    only_one is =
        one_place d.page page o.front before o.back after o.child x (sym o.parts) is o.none_before o.none_after

    not_twice : DividesBy d before page → d.page x ≡ page → ⊥
    not_twice p is =
        let on : In p.child before = named_there before p in
        o.none_before p.child (subst (In p.child) (only_one is).0 on) p.page_is

    -- so nothing is divided where a child bars it
    pub barred : (n : Bool) → PassedBy d n before page → BarsBy d n x page → ⊥
    barred n passed (inl (is, inl on)) = not_twice (subst (λ (b : Bool). PassedBy d b before page) on passed) is
    barred n passed (inl (is, inr off)) = off (subst d.IsWithin (sym (only_one is).1) o.below)
    barred n passed (inr (other, first, off)) =
        let none : PassedBy d false before page = subst (λ (b : Bool). PassedBy d b before page) first passed in
        off (o.above x (comes_before d.page page o.front o.back before after o.child x (sym o.parts) o.page_is other
        (λ z i. (none z i).0)))

  -- those before a child with the page, and it, are told apart so
  same_place : (children : List C) (o : DividesBy d children page) (front back : List C) (c : C)
      → children ≡ front ++ c ∷ back → d.page c ≡ page → (front ≡ o.front) × (c ≡ o.child)
  same_place children o front back c is has =
      one_place d.page page o.front front o.back back o.child c (sym o.parts ∙ is) has o.none_before o.none_after

key_some : (key : List ℕ) → IsKey key → key ≢ []
key_some [] is e = is
key_some (b ∷ bs) is e = cc

same_children : (a b : List EntryChild) → body.EntryInner a ≡ body.EntryInner b → a ≡ b
same_children a b e = cc

same_post_children : (a b : List PostChild) → body.PostInner a ≡ body.PostInner b → a ≡ b
same_post_children a b e = cc

-- the key divides what is below the child that takes the new page after it
pub divider : (children : List EntryChild) (old then : Body) (page new : ℕ) (mid : List ℕ)
    → old ≡ body.EntryInner children → IsKey mid → Divides children page mid
    → (w : EntryParent page new mid old then) → entries.IsDivider mid w.bound w.front
divider children old then page new mid is key d w =
    let same = same_place (key_divider mid) page children d w.front w.back (record { page = page; bound = w.bound })
    (same_children children _ (sym is ∙ w.before)) refl in
    record {
      key = key;
      above = λ b i. (d.above b (subst (In b) same.0 i)).1;
      below = subst (BoundLess mid) (sym (ap (λ (c : EntryChild). c.bound) same.1)) d.below;
    }

pub item_divides : (children : List PostChild) (old then : Body) (page new mid : ℕ)
    → old ≡ body.PostInner children → mid < item_limit → DividesItems children page mid
    → (w : PostParent page new mid old then) → posts.IsDivider mid w.bound w.front
item_divides children old then page new mid is item d w =
    let same = same_place (item_divider mid) page children d w.front w.back (record { page = page; bound = w.bound })
    (same_post_children children _ (sym is ∙ w.before)) refl in
    record {
      item = item;
      above = λ b i. d.above b (subst (In b) same.0 i);
      below = subst (λ (n : ℕ). mid < n) (sym (ap (λ (c : PostChild). c.bound) same.1)) d.below;
    }

-- so the parent that is answered has an encoding
pub adopted_page : (o : Option Page) (parent : Page) (children : List EntryChild) (page new : ℕ) (mid : List ℕ)
    → parent.body ≡ body.EntryInner children → IsKey mid → Divides children page mid → IsPage parent
    → entry_rooms.HasRoomForChild parent → new < page_limit
    → IfSome o (λ p. EntryParent page new mid parent.body p.body)
    → IfSome o (λ p. (w : EntryParent page new mid parent.body p.body) → entries.IsDivider mid w.bound w.front
    → IsPage parent → entry_rooms.HasRoomForChild parent → new < page_limit → IsPage p)
    → IfSome o (λ p. IsPage p)
adopted_page None parent children page new mid is key d ok room low adopts each = tt
adopted_page (Some p) parent children page new mid is key d ok room low adopts each =
    each adopts (divider children parent.body p.body page new mid is key d adopts) ok room low

pub adopted_post : (o : Option Page) (parent : Page) (children : List PostChild) (page new mid : ℕ)
    → parent.body ≡ body.PostInner children → mid < item_limit → DividesItems children page mid → IsPage parent
    → post_rooms.HasRoomForChild parent → new < page_limit
    → IfSome o (λ p. PostParent page new mid parent.body p.body)
    → IfSome o (λ p. (w : PostParent page new mid parent.body p.body) → posts.IsDivider mid w.bound w.front
    → IsPage parent → post_rooms.HasRoomForChild parent → new < page_limit → IsPage p)
    → IfSome o (λ p. IsPage p)
adopted_post None parent children page new mid is item d ok room low adopts each = tt
adopted_post (Some p) parent children page new mid is item d ok room low adopts each =
    each adopts (item_divides children parent.body p.body page new mid is item d adopts) ok room low

-- no page is answered where no child has the page
pub none_taken : (o : Option Page) (parent : Page) (page : ℕ) (mid : List ℕ)
    → (o ≡ None) ↔ ((c : EntryChild) → In c (entry_children_in parent.body) → c.page ≢ page)
    → IfNone o (CanTake page mid parent → ⊥)
none_taken None parent page mid none = λ can.
    let d = can.divides in
    none.0 refl d.child
    (subst (λ (b : Body). In d.child (entry_children_in b)) (sym can.content)
    (named_there (key_divider mid) page can.children d))
    d.page_is
none_taken (Some p) parent page mid none = tt

pub no_post_taken : (o : Option Page) (parent : Page) (page mid : ℕ)
    → (o ≡ None) ↔ ((c : PostChild) → In c (post_children_in parent.body) → c.page ≢ page)
    → IfNone o (CanTakeItem page mid parent → ⊥)
no_post_taken None parent page mid none = λ can.
    let d = can.divides in
    none.0 refl d.child
    (subst (λ (b : Body). In d.child (post_children_in b)) (sym can.content)
    (named_there (item_divider mid) page can.children d))
    d.page_is
no_post_taken (Some p) parent page mid none = tt
