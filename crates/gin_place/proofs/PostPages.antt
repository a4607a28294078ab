-- What a page of a posting tree says of items.
use Rattle.std.proofs.Common.{◌≡◌, ◌≢◌, ℕ, ◌<◌, ◌≤◌, List, [], ◌∷◌, ◌++◌, length, take, drop, refl}
use Rattle.std.proofs.Common.{sym, ap, subst, ◌∙◌, inl, inr, arith}
use Rattle.std.specs.List.{Contains}
use Rattle.std.proofs.lemmas.List.{take-append-drop, take-take, length-take-le}
use Rattle.page_types.specs.Items.{items_of, IsItemList}
use Rattle.page_types.specs.Pages.{IsPage, IsBody}
use Rattle.page_types.specs.Encoding.{body_bytes}
use Rattle.page_types.specs.Views.{posting_items_in}
use Rattle.page_types.specs.declared.page.Page.{Page}
use Rattle.page_types.specs.declared.page.PostChild.{PostChild}
use Rattle.page_types.specs.declared.page.Body.{Body}
use Rattle.page_types.specs.declared.page.Body.TheVariants as body
use Rattle.page_types.proofs.BodySizes.{length-posting}
use Rattle.core_state.specs.Changes.{ItemUpTo}
use Rattle.posting_code.specs.Uniting.{IsUnited, TakesFirst}
use Rattle.posting_tree.specs.Adding.{IsPostLeaf, IsAdded, IsAnswer}
use Rattle.posting_tree.specs.Finding.{IsFound, IsFoundIn}
use Rattle.posting_tree.specs.Full.{most_list}
use Rattle.posting_tree.specs.Reading.{IsPostBody, upper_in}
use Rattle.posting_tree.specs.declared.adding.Added.TheVariants as added
use Rattle.posting_tree.specs.declared.finding.Found.{Found}
use Rattle.posting_tree.specs.declared.finding.Found.TheVariants as found
use Rattle.gin_place.specs.Inner.Reading.{IsRoomy}
use Rattle.gin_place.specs.Inner.ReadingItems.{IsUpTo, HasFreshItem, IsReadingOf, IsFullPostLeaf}
use Rattle.gin_place.specs.declared.reading.Next.TheVariants as next
use Rattle.gin_place.specs.declared.reading.Reading.{Reading}
use Rattle.gin_place.specs.declared.reading.Reading.TheVariants as reading
use Rattle.gin_place.specs.declared.sought.Sought.TheVariants as sought
use Rattle.gin_place.proofs.Lists.{in_list, contained, none_lacks, of_first, of_more}

-- some of the items are not in the list
abbrev pub LacksSome : List ℕ → List ℕ → Type 0
LacksSome items list = (i : ℕ) × Contains items i × (Contains (items_of list) i → ⊥)

-- ── a leaf with these contents ──

module _ (c : Page) (high : ℕ) (list : List ℕ) (content : c.body ≡ body.PostLeaf high list) where
  pub is_post_leaf : IsPostLeaf c.body
  is_post_leaf = subst IsPostLeaf (sym content) (IsPostLeaf.leaf high list)

  pub list_of_leaf : IsPage c → IsItemList list
  list_of_leaf page =
      let on : IsBody c.right c.stamp (body.PostLeaf high list) = subst (IsBody c.right c.stamp) content page.body in
      on.1

  pub up_to_here : (i : ℕ) → ItemUpTo i high → ItemUpTo i (upper_in c.body)
  up_to_here i up = subst (λ (b : Body). ItemUpTo i (upper_in b)) (sym content) up

  pub on_leaf : (i : ℕ) → Contains (items_of list) i → Contains (posting_items_in c.body) i
  on_leaf i has = subst (λ (b : Body). Contains (posting_items_in b) i) (sym content) has

  pub off_leaf : (i : ℕ) → (Contains (items_of list) i → ⊥) → Contains (posting_items_in c.body) i → ⊥
  off_leaf i lacks has = lacks (subst (λ (b : Body). Contains (posting_items_in b) i) content has)

  -- an item above the high item has no place there
  pub past_here : (i : ℕ) → (ItemUpTo i high → ⊥) → IsFound c i (found.Right c.right)
  past_here i above = IsFoundIn.past_leaf high list content above

  -- where none of some items is taken, the first is not there
  pub takes_none_fresh : (x : ℕ) (xs : List ℕ) → IsPage c → TakesFirst list (x ∷ xs) most_list 0
      → Contains (posting_items_in c.body) x → ⊥
  takes_none_fresh x xs page takes has =
      let there : Contains (items_of list) x = subst (λ (b : Body). Contains (posting_items_in b) x) content has in
      let long = takes.no_more list (omega arith) (record {
        is_list = list_of_leaf page;
        has = λ i. (
          λ h. inl h,
          λ either. elim either [
            | inl h ↦ h
            | inr h ↦ subst (Contains (items_of list)) (sym (one_of i x h)) there
          ],
        );
      }) in
      omega (arith, long, page.fits, ap (λ (b : Body). length (body_bytes b)) content, length-posting high list)
    where
      one_of : (i x : ℕ) → Contains (x ∷ []) i → i ≡ x
      one_of i x h = elim (in_list i (x ∷ []) h) [ inl e ↦ e | inr none ↦ absurd none ]

-- the list with items that it takes is not too long
pub takes_fits : (c : Page) (high : ℕ) (list items : List ℕ) (n : ℕ) → c.body ≡ body.PostLeaf high list → 0 < n
    → TakesFirst list items most_list n → IsAdded c (take n items) added.Full → ⊥
takes_fits c high list items n content some takes full =
    let same : full.old ≡ list = lists (sym full.was ∙ content) in
    let fits = takes.fits full.list some
    (subst (λ (l : List ℕ). IsUnited l (take n items) full.list) same full.united) in
    omega (arith, fits, over full.high full.list full.is, length-posting full.high full.list)
  where
    lists : body.PostLeaf full.high full.old ≡ body.PostLeaf high list → full.old ≡ list
    lists e = cc

    over : (h : ℕ) (l : List ℕ) → IsAnswer c (body.PostLeaf h l) added.Full
        → 8168 < length (body_bytes (body.PostLeaf h l))
    over h l (IsAnswer.full long) = long

-- ── what a leaf says ──

module _ (c : Page) (high : ℕ) (list : List ℕ) (content : c.body ≡ body.PostLeaf high list) (items : List ℕ) (n : ℕ)
    (up : IsUpTo items high n) where
  -- none of the items is within its high item
  pub leaf_past : items ≢ [] → n ≡ 0 → IsReadingOf c items (reading.On next.Bad)
  leaf_past some none = past items refl some
    where
      past : (is : List ℕ) → items ≡ is → is ≢ [] → IsReadingOf c items (reading.On next.Bad)
      past [] e some = absurd (some refl)
      past (item ∷ rest) e some =
          let first : drop n items ≡ item ∷ rest = ap (λ (k : ℕ). drop k items) none ∙ e in
          IsReadingOf.past item c.right rest e (past_here c high list content item (up.above item rest first))

  -- it takes none of those that are
  pub leaf_full : IsPage c → take n items ≢ [] → TakesFirst list (take n items) most_list 0
      → IsReadingOf c items reading.Full
  leaf_full page some takes =
      let first = fresh (take n items) some takes in
      IsReadingOf.full_leaf high list (take n items) (drop n items) content (sym (take-append-drop n items)) some takes
      (first.0, of_first n items first.0 first.1, first.2)
    where
      fresh : (xs : List ℕ) → xs ≢ [] → TakesFirst list xs most_list 0 → HasFreshItem c.body xs
      fresh [] some takes = absurd (some refl)
      fresh (x ∷ xs) some takes =
          (x, contained x (x ∷ xs) (inl refl), takes_none_fresh c high list content x xs page takes)

  module _ (m : ℕ) (some : 0 < m) (takes : TakesFirst list (take n items) most_list m) where
    part_within : m ≤ n
    part_within = omega (arith, takes.among, length-take-le n items up.among)

    pub part_is : take m (take n items) ≡ take m items
    part_is = take-take m n items part_within

    pub part_among : m ≤ length items
    part_among = omega (arith, part_within, up.among)

    -- those that it takes are there
    pub leaf_stand : (LacksSome (take m (take n items)) list → ⊥)
        → IsReadingOf c items (reading.On (next.Stand m))
    leaf_stand none = IsReadingOf.stand m (is_post_leaf c high list content) some part_among
        (λ i on. on_leaf c high list content i (none_lacks (take m (take n items)) (items_of list) none i
        (subst (λ (l : List ℕ). Contains l i) (sym part_is) on)))

    -- or it gets them
    pub leaf_more : (p : Page) → IsAdded c (take m (take n items)) (added.Done p) → IsPage p
        → LacksSome (take m (take n items)) list
        → IsReadingOf c items (reading.Added p m)
    leaf_more p is_added is_page fresh = IsReadingOf.more p m some part_among
        (subst (λ (l : List ℕ). IsAdded c l (added.Done p)) part_is is_added)
        (λ i on. up_to_here c high list content i (up.within i (of_more m n items i part_within on))) (
          fresh.0,
          subst (λ (l : List ℕ). Contains l fresh.0) part_is fresh.1,
          off_leaf c high list content fresh.0 fresh.2,
        ) is_page

-- ── a leaf leads to no child ──

pub no_post_down : (c : Page) (i child : ℕ) → IsPostLeaf c.body → IsFound c i (found.Down child) → ⊥
no_post_down c i _ is_leaf (IsFoundIn.down front back x content below within) =
    clash c.body is_leaf (front ++ x ∷ back) content
  where
    clash : (b : Body) → IsPostLeaf b → (cs : List PostChild) → b ≡ body.PostInner cs → ⊥
    clash _ (IsPostLeaf.leaf high list) cs e = let z : ⊥ = cc in z

pub leaf_roomy_post : (c : Page) (items : List ℕ) (root item : ℕ) → IsPostLeaf c.body → (r : Reading)
    → IsReadingOf c items r → IsRoomy (sought.Item root item) c r
leaf_roomy_post c items root item is_leaf (reading.On (next.Down child)) (IsReadingOf.down i ch rest first is) =
    absurd (no_post_down c i child is_leaf is)
leaf_roomy_post c items root item is_leaf (reading.On (next.Tree r)) read = tt
leaf_roomy_post c items root item is_leaf (reading.On (next.Stand n)) read = tt
leaf_roomy_post c items root item is_leaf (reading.On next.Bad) read = tt
leaf_roomy_post c items root item is_leaf (reading.Added p n) read = tt
leaf_roomy_post c items root item is_leaf (reading.Long place) read = tt
leaf_roomy_post c items root item is_leaf reading.Full read = tt

pub full_post_leaf : (c : Page) → IsPostLeaf c.body → (r : Reading) → IsFullPostLeaf c r
full_post_leaf c is_leaf (reading.On n) = tt
full_post_leaf c is_leaf (reading.Added p n) = tt
full_post_leaf c is_leaf (reading.Long place) = tt
full_post_leaf c is_leaf reading.Full = is_leaf

-- ── another page ──

-- a child that is not found is right of an inner page
pub right_or_down : (c : Page) (i : ℕ) (f : Found) → (cs : List PostChild) → c.body ≡ body.PostInner cs
    → ((child : ℕ) → f ≡ found.Down child → ⊥) → IsFound c i f → (q : ℕ) × IsFound c i (found.Right q)
right_or_down c i found.Here cs content none (IsFoundIn.here high list is up has) =
    let two : body.PostLeaf high list ≡ body.PostInner cs = sym is ∙ content in
    let z : ⊥ = cc in absurd z
right_or_down c i found.Absent cs content none (IsFoundIn.absent high list is up lacks) =
    let two : body.PostLeaf high list ≡ body.PostInner cs = sym is ∙ content in
    let z : ⊥ = cc in absurd z
right_or_down c i (found.Down child) cs content none is = absurd (none child refl)
right_or_down c i (found.Right q) cs content none is = (q, is)

pub no_body : (b : Body) → ((high : ℕ) (list : List ℕ) → b ≡ body.PostLeaf high list → ⊥)
    → ((cs : List PostChild) → b ≡ body.PostInner cs → ⊥) → IsPostBody b → ⊥
no_body _ leaf inner (IsPostBody.leaf high list) = leaf high list refl
no_body _ leaf inner (IsPostBody.inner cs) = inner cs refl
