-- The two parts of a leaf that is split.
use Rattle.std.proofs.Common.{◌≡◌, ◌≢◌, ℕ, ◌-◌, ◌<◌, ◌≤◌, List, [], ◌∷◌, ◌++◌, length, refl, sym, ap, subst}
use Rattle.std.proofs.Common.{◌∙◌, append_assoc, inl, inr, arith}
use Rattle.std.proofs.lemmas.List.{append-nil, length-append}
use Rattle.page_types.specs.Numbers.{item_limit}
use Rattle.page_types.specs.Items.{varbyte, item_list, items_of, AreItemsFrom, AreItems, IsItemList}
use Rattle.page_types.specs.ItemReading.{last_or}
use Rattle.page_types.specs.Encoding.{count_of}
use Rattle.page_types.specs.Views.{posting_items_in}
use Rattle.page_types.specs.declared.page.PostChild.{PostChild}
use Rattle.page_types.specs.declared.page.Body.{Body}
use Rattle.page_types.specs.declared.page.Body.TheVariants as body
use Rattle.page_types.proofs.BodySizes.{length-posting}
use Rattle.page_types.proofs.ItemLists.{have_lists}
use Rattle.core_state.specs.Log.{In}
use Rattle.core_state.specs.TreeRules.{PostHalves, Halves, FitsPage}
use Rattle.posting_code.specs.Cutting.{IsMost, IsCut}
use Rattle.posting_code.specs.Dividing.{IsDivision, list_cutting, AreHalves}
use Rattle.posting_code.specs.declared.dividing.Halves.{Halves as Places}
use Rattle.posting_code.specs.declared.dividing.Keep.{Keep}
use Rattle.posting_code.proofs.Cutting.{front_less, Begins, fronts}
use Rattle.posting_code.proofs.Places.{AreItemsFrom-front}
use Rattle.posting_code.proofs.Sizing.{most_bytes}
use Rattle.posting_code.proofs.Uniting.{AreItemsFrom-lower}
use Rattle.entry_tree.specs.Splitting.{body_cutting}
use Rattle.posting_tree.proofs.Cuts.{AreAlike, DivideAlike, cut_there}

-- ---- items

all_up_to : (last : ℕ) (is : List ℕ) → AreItemsFrom last is → (last ≤ last_or last is)
    × ((i : ℕ) → In i is → i ≤ last_or last is)
all_up_to last [] h = (omega arith, λ i on. absurd on)
all_up_to last (j ∷ is) h =
    let rest = all_up_to j is h.2 in
    (omega (arith, h.0, rest.0), λ i on. elim on [ inl e ↦ omega (arith, rest.0, e) | inr later ↦ rest.1 i later ])

all_after : (last : ℕ) (is : List ℕ) → AreItemsFrom last is → (i : ℕ) → In i is → last < i
all_after last [] h i on = absurd on
all_after last (j ∷ is) h i (inl e) = omega (arith, h.0, e)
all_after last (j ∷ is) h i (inr on) = omega (arith, h.0, all_after j is h.2 i on)

-- the last of some items is one
pub last_item : (is : List ℕ) → AreItems is → is ≢ [] → (0 < last_or 0 is) × (last_or 0 is < item_limit)
last_item [] h some = absurd (some refl)
last_item (i ∷ is) h some = (omega (arith, h.0, (all_up_to i is h.2).0), under i is h.1 h.2)
  where
    under : (last : ℕ) (is : List ℕ) → last < item_limit → AreItemsFrom last is → last_or last is < item_limit
    under last [] lt h = lt
    under last (j ∷ is) lt h = under j is h.1 h.2

-- ---- which parts divide a leaf

-- what the halves of a page of a posting tree are
data AreApart (whole left right : Body) : Type 0 where
  leaves : posting_items_in left ≢ [] → posting_items_in right ≢ []
      → posting_items_in whole ≡ posting_items_in left ++ posting_items_in right → AreApart whole left right
  inners : (children : List PostChild) → whole ≡ body.PostInner children → AreApart whole left right

apart : (mid : ℕ) (whole left right : Body) → PostHalves mid whole left right → AreApart whole left right
apart mid _ _ _ (PostHalves.leaves high items front back some_front some_back all up above) =
    AreApart.leaves some_front some_back all
apart mid _ _ _ (PostHalves.inners last front back some e) = AreApart.inners (front ++ last ∷ back) refl

-- the two lists of a leaf that is divided
pub record AreLists (high : ℕ) (list : List ℕ) (left right : Body) : Type 0 where
  pub mid : ℕ
  pub front : List ℕ
  pub back : List ℕ
  pub front_is : IsItemList front
  pub back_is : IsItemList back
  pub divides : IsDivision list (items_of front) (items_of back)
  pub left_is : left ≡ body.PostLeaf mid front
  pub right_is : right ≡ body.PostLeaf high back

lists : (whole left right : Body) (high : ℕ) (list : List ℕ) → Halves whole left right
    → whole ≡ body.PostLeaf high list → AreLists high list left right
lists _ _ _ high list (Halves.of_leaf h last front back some) e = absurd cc
lists _ _ _ high list (Halves.of_inner mid children halves) e = absurd cc
lists _ _ _ high list (Halves.of_post_inner mid children halves) e = absurd cc
lists _ _ _ high list (Halves.of_post_leaf h mid items front back front_is back_is halves) e =
    by (apart mid (body.PostLeaf h items) (body.PostLeaf mid front) (body.PostLeaf h back) halves)
  where
    same_list : items ≡ list
    same_list = cc

    same_high : h ≡ high
    same_high = cc

    by : AreApart (body.PostLeaf h items) (body.PostLeaf mid front) (body.PostLeaf h back)
        → AreLists high list (body.PostLeaf mid front) (body.PostLeaf h back)
    by (AreApart.leaves some_front some_back all) = record {
      mid = mid;
      front = front;
      back = back;
      front_is = front_is;
      back_is = back_is;
      divides = record {
        all = ap items_of (sym same_list) ∙ all;
        some_front = some_front;
        some_back = some_back;
      };
      left_is = refl;
      right_is = ap (λ (n : ℕ). body.PostLeaf n back) same_high;
    }
    by (AreApart.inners children e) = absurd cc

pub leaf_lists : (high : ℕ) (list : List ℕ) (left right : Body) → Halves (body.PostLeaf high list) left right
    → AreLists high list left right
leaf_lists high list left right halves = lists (body.PostLeaf high list) left right high list halves refl

-- the leaves of two parts of a list's items divide its leaf
leaf_halves : (high : ℕ) (list front back : List ℕ) → IsItemList list → IsDivision list front back
    → Halves (body.PostLeaf high list) (body.PostLeaf (last_or 0 front) (item_list front))
    (body.PostLeaf high (item_list back))
leaf_halves high list front back is d =
    let both = AreItemsFrom-front 0 front back (subst AreItems d.all is.items) in
    let f = have_lists front both.0 in
    let b = have_lists back (AreItemsFrom-lower 0 (last_or 0 front) back (omega arith) both.1) in
    Halves.of_post_leaf high (last_or 0 front) list (item_list front) (item_list back) f.is_list b.is_list
    (PostHalves.leaves high list (item_list front) (item_list back) (λ e. d.some_front (sym f.items_are ∙ e))
    (λ e. d.some_back (sym b.items_are ∙ e))
    (d.all ∙ ap (λ (is : List ℕ). is ++ back) (sym f.items_are)
    ∙ ap (λ (is : List ℕ). items_of (item_list front) ++ is) (sym b.items_are))
    (λ i on. (all_up_to 0 front both.0).1 i (subst (In i) f.items_are on))
    (λ i on. all_after (last_or 0 front) back both.1 i (subst (In i) b.items_are on)))

-- ---- a cut of the list is a cut of the leaf

alike : (high mid : ℕ) (list front back f b : List ℕ) → f ≡ item_list front → items_of f ≡ front
    → b ≡ item_list back
    → AreAlike (list_cutting list) (body_cutting (body.PostLeaf high list)) front back (body.PostLeaf mid f)
    (body.PostLeaf high b)
alike high mid list front back f b f_is items_are b_is = record {
  keeps = λ k. omega (arith, k, ap length f_is);
  kept = λ k. omega (arith, k, ap length f_is);
  fits = λ k. omega (arith, k, ap length f_is, length-posting mid f);
  fitted = λ k. omega (arith, k, ap length f_is, length-posting mid f);
  rest = λ k. omega (arith, k, ap length b_is, length-posting high b);
  rested = λ k. omega (arith, k, ap length b_is, length-posting high b);
  count = ap length (sym items_are);
}

all_alike : (high : ℕ) (list : List ℕ) → IsItemList list
    → DivideAlike (list_cutting list) (body_cutting (body.PostLeaf high list))
all_alike high list is = record {
  to = λ f b d. (
    body.PostLeaf (last_or 0 f) (item_list f),
    body.PostLeaf high (item_list b),
    leaf_halves high list f b is d,
    alike high (last_or 0 f) list f b (item_list f) (item_list b) refl
        (have_lists f (AreItemsFrom-front 0 f b (subst AreItems d.all is.items)).0).items_are refl,
  );
  from = λ l r halves. from l r (leaf_lists high list l r halves);
}
  where
    from : (l r : Body) → AreLists high list l r
        → (f : List ℕ) × (b : List ℕ) × IsDivision list f b
        × AreAlike (list_cutting list) (body_cutting (body.PostLeaf high list)) f b l r
    from l r w = (
      items_of w.front,
      items_of w.back,
      w.divides,
      subst (λ (m : Body). AreAlike (list_cutting list) (body_cutting (body.PostLeaf high list)) (items_of w.front)
          (items_of w.back) m r) (sym w.left_is)
          (subst (λ (m : Body). AreAlike (list_cutting list) (body_cutting (body.PostLeaf high list)) (items_of w.front)
          (items_of w.back) (body.PostLeaf w.mid w.front) m) (sym w.right_is)
          (alike high w.mid list (items_of w.front) (items_of w.back) w.front w.back w.front_is.encoding refl
          w.back_is.encoding)),
    )

-- the parts as they are made
pub leaf_cut : (high : ℕ) (list front back f b : List ℕ) (last : ℕ) (keep : Keep) → IsItemList list
    → IsCut (list_cutting list) front back keep → IsDivision list front back → f ≡ item_list front
    → last ≡ last_or 0 front → b ≡ item_list back
    → IsCut (body_cutting (body.PostLeaf high list)) (body.PostLeaf last f) (body.PostLeaf high b) keep
unfolding all_alike
leaf_cut high list front back f b last keep is cut d f_is last_is b_is =
    let w = (all_alike high list is).to front back d in
    subst (λ (m : Body). IsCut (body_cutting (body.PostLeaf high list)) m (body.PostLeaf high b) keep)
    (ap (λ (n : ℕ). body.PostLeaf n (item_list front)) (sym last_is) ∙ ap (body.PostLeaf last) (sym f_is))
    (subst (λ (m : Body). IsCut (body_cutting (body.PostLeaf high list))
    (body.PostLeaf (last_or 0 front) (item_list front)) m keep) (ap (body.PostLeaf high) (sym b_is))
    (cut_there (list_cutting list) (body_cutting (body.PostLeaf high list)) (all_alike high list is) front back w.0 w.1
    keep w.3 w.2 cut))

-- the high item is the last one
pub leaf_ends : (list front back f : List ℕ) (last : ℕ) → IsItemList list → IsDivision list front back
    → f ≡ item_list front → last ≡ last_or 0 front → last ≡ last_or 0 (items_of f)
leaf_ends list front back f last is d f_is last_is =
    last_is ∙ ap (last_or 0)
    (sym (have_lists front (AreItemsFrom-front 0 front back (subst AreItems d.all is.items)).0).items_are)
    ∙ ap (λ (l : List ℕ). last_or 0 (items_of l)) (sym f_is)

-- the first item of the second part is one
pub next_item : (list front back : List ℕ) (h : Places) → IsItemList list → IsDivision list front back
    → AreHalves h front back → AreItems (h.next ∷ [])
next_item list front back h is d halves =
    let both = AreItemsFrom-front 0 front back (subst AreItems d.all is.items) in
    let first : AreItemsFrom (last_or 0 front) (h.next ∷ halves.next_is.0) =
    subst (AreItemsFrom (last_or 0 front)) halves.next_is.1 both.1 in
    (omega (arith, first.0), first.1, tt)

-- its own difference, and then the bytes as they were
pub own_difference : (next : ℕ) (rest list out : List ℕ) → out ≡ item_list (next ∷ []) ++ rest
    → varbyte next ++ rest ≡ list → out ≡ list
own_difference next rest list out made e =
    let first : item_list (next ∷ []) ≡ varbyte next =
    append-nil (varbyte (next - 0)) ∙ ap varbyte (omega arith) in
    made ∙ ap (λ (l : List ℕ). l ++ rest) first ∙ e

-- ---- the second part

-- after the longest first part that fits there is one item
one_left : (high : ℕ) (list : List ℕ) (l r : Body) → IsItemList list → FitsPage (body.PostLeaf high list)
    → (w : AreLists high list l r) → IsMost (body_cutting (body.PostLeaf high list)) l r
    → (i : ℕ) × (items_of w.back ≡ i ∷ [])
one_left high list l r is fits w most = one (items_of w.back) refl
  where
    one : (back : List ℕ) → items_of w.back ≡ back → (i : ℕ) × (items_of w.back ≡ i ∷ [])
    one [] e = absurd (w.divides.some_back e)
    one (i ∷ []) e = (i, e)
    one (i ∷ (j ∷ back)) e =
        let front : List ℕ = items_of w.front in
        let more : List ℕ = front ++ i ∷ [] in
        let all : items_of list ≡ more ++ j ∷ back =
        w.divides.all ∙ ap (λ (is : List ℕ). front ++ is) e ∙ sym (append_assoc front (i ∷ []) (j ∷ back)) in
        let d : IsDivision list more (j ∷ back) = record {
          all = all;
          some_front = λ none. not_none front none;
          some_back = λ none. absurd cc;
        } in
        let m = (all_alike high list is).to more (j ∷ back) d in
        let small : length (item_list more) ≤ length list = omega (
          arith,
          front_less more (j ∷ back),
          ap length is.encoding,
          ap (λ (is : List ℕ). length (item_list is)) all,
        ) in
        let le = most.most m.0 m.1 m.2 (m.3.fits (omega (arith, fits, small, length-posting high list))) in
        absurd (omega (
          arith,
          le,
          m.3.count,
          length-append front (i ∷ []),
          ap count_of w.left_is,
        ))
      where
        not_none : (front : List ℕ) → front ++ i ∷ [] ≡ [] → ⊥
        not_none [] e = cc
        not_none (k ∷ front) e = cc

pub rest_fits : (high : ℕ) (list : List ℕ) (l r : Body) → IsItemList list → FitsPage (body.PostLeaf high list)
    → IsMost (body_cutting (body.PostLeaf high list)) l r → FitsPage r
rest_fits high list l r is fits most =
    let w = leaf_lists high list l r most.divides in
    let one = one_left high list l r is fits w most in
    let items : AreItems (one.0 ∷ []) = subst AreItems one.1 w.back_is.items in
    let short : length w.back ≤ 5 = omega (
      arith,
      ap length w.back_is.encoding,
      ap (λ (is : List ℕ). length (item_list is)) one.1,
      length-append (varbyte (one.0 - 0)) [],
      most_bytes (one.0 - 0) (omega (arith, items.1)),
    ) in
    subst FitsPage (sym w.right_is) (omega (arith, length-posting high w.back, short))

-- a first part with more items has no fewer bytes
pub more_bytes : (list f b g c : List ℕ) → IsDivision list f b → IsDivision list g c → length f ≤ length g
    → length (item_list f) ≤ length (item_list g)
more_bytes list f b g c d e le = by (fronts f b g c (sym d.all ∙ e.all))
  where
    by : Begins f g → length (item_list f) ≤ length (item_list g)
    by (Begins.shorter more same) =
        omega (arith, front_less f more, ap (λ (is : List ℕ). length (item_list is)) same)
    by (Begins.longer [] some same) = absurd (some refl)
    by (Begins.longer (x ∷ more) some same) =
        absurd (omega (arith, le, ap length same, length-append g (x ∷ more)))
