-- The two pages of a split have an encoding.
use Rattle.std.proofs.Common.{◌≡◌, ◌≢◌, ℕ, zero, suc, ◌<◌, List, [], ◌∷◌, length, take, drop, refl}
use Rattle.std.proofs.Common.{sym, ap, subst, ◌∙◌, inl, inr, arith}
use Rattle.std.specs.List.{AllByRecursion}
use Rattle.std.proofs.lemmas.List.{length-take-le, length-drop}
use Rattle.page_types.specs.Numbers.{page_limit}
use Rattle.page_types.specs.Items.{items_of, IsItemList}
use Rattle.page_types.specs.ItemReading.{last_or}
use Rattle.page_types.specs.Keys.{Rising}
use Rattle.page_types.specs.Pages.{IsPage, IsBody, IsPostChild, ArePostChildren}
use Rattle.page_types.specs.Encoding.{count_of}
use Rattle.page_types.specs.declared.page.Page.{Page}
use Rattle.page_types.specs.declared.page.PostChild.{PostChild}
use Rattle.page_types.specs.declared.page.Body.{Body}
use Rattle.page_types.specs.declared.page.Body.TheVariants as body
use Rattle.page_types.proofs.BodySizes.{length-posting}
use Rattle.core_state.specs.TreeRules.{FitsPage}
use Rattle.posting_code.specs.Cutting.{IsCut}
use Rattle.posting_code.specs.declared.dividing.Keep.{Keep}
use Rattle.entry_tree.specs.Splitting.{body_cutting, AreParts}
use Rattle.posting_tree.specs.Inner.Searching.{Below}
use Rattle.posting_tree.specs.Reading.{IsPostBody}
use Rattle.posting_tree.specs.Splitting.{EndsAtLast}
use Rattle.posting_tree.proofs.Cuts.{CutCases, cut_cases, cut_divides}
use Rattle.posting_tree.proofs.InnerParts.{ArePartsAt, inner_parts, first_fits, second_fits}
use Rattle.posting_tree.proofs.LeafPages.{leaf_page}
use Rattle.posting_tree.proofs.LeafParts.{AreLists, leaf_lists, last_item, rest_fits}
use Rattle.posting_tree.proofs.Lists.{some_take, some_drop, all_drop, rising_take, rising_drop}

-- ---- the pages of a split leaf

left_leaf : (p l : Page) (high new : ℕ) (list : List ℕ) (right : Body) → IsPage p → FitsPage l.body
    → (w : AreLists high list l.body right) → EndsAtLast l.body → new ≢ 0 → new < page_limit
    → l ≡ record p { right = new; body = l.body } → IsPage l
left_leaf p l high new list right page fits w ends some lt same =
    let here : FitsPage (body.PostLeaf w.mid w.front) = subst FitsPage w.left_is fits in
    let last : w.mid ≡ last_or 0 (items_of w.front) = subst EndsAtLast w.left_is ends in
    let item = last_item (items_of w.front) w.front_is.items w.divides.some_front in
    let made : IsPage (record p { right = new; body = body.PostLeaf w.mid w.front }) =
    leaf_page new p.stamp w.mid w.front lt page.stamp (record {
      item = omega (arith, last, item.1);
      none = λ e. absurd (some e);
      some = λ ne e. absurd (omega (arith, last, item.0, e));
    }) w.front_is (omega (arith, here, length-posting w.mid w.front)) in
    subst IsPage (sym (same ∙ ap (λ (b : Body). record p { right = new; body = b }) w.left_is)) made

right_leaf : (p r : Page) (high : ℕ) (list : List ℕ) (left : Body) → IsPage p → p.body ≡ body.PostLeaf high list
    → FitsPage r.body → (w : AreLists high list left r.body) → r ≡ record p { body = r.body } → IsPage r
right_leaf p r high list left page was fits w same =
    let here : FitsPage (body.PostLeaf high w.back) = subst FitsPage w.right_is fits in
    let on = subst (IsBody p.right p.stamp) was page.body in
    let made : IsPage (record p { body = body.PostLeaf high w.back }) =
    leaf_page p.right p.stamp high w.back page.right page.stamp on.0 w.back_is
    (omega (arith, here, length-posting high w.back)) in
    subst IsPage (sym (same ∙ ap (λ (b : Body). record p { body = b }) w.right_is)) made

-- ---- the pages of a split inner page

-- a child before another one has a bound
bounded : (right new : ℕ) (c d : PostChild) → Below c d → IsPostChild right c → IsPostChild right d
    → IsPostChild new c
bounded right new c d less is next = record {
  page = is.page;
  bound = elim is.bound [
    | inl item ↦ inl item
    | inr none ↦ absurd (elim next.bound [
      | inl item ↦ omega (arith, less, none.0, item)
      | inr last ↦ omega (arith, less, none.0, last.0)
    ])
  ];
}

children_take : (right new k : ℕ) (children : List PostChild) → k < length children
    → AllByRecursion (IsPostChild right) children → Rising Below children
    → AllByRecursion (IsPostChild new) (take k children)
children_take right new zero children lt each rises = tt
children_take right new (suc k) [] lt each rises = tt
children_take right new (suc k) (c ∷ []) lt each rises = absurd (omega (arith, lt))
children_take right new (suc k) (c ∷ d ∷ children) lt each rises = (
  bounded right new c d rises.0.0 each.0 each.1.0,
  children_take right new k (d ∷ children) (omega (arith, lt)) each.1 rises.1,
)

left_inner : (p l : Page) (new : ℕ) (children : List PostChild) (right : Body) → IsPage p
    → p.body ≡ body.PostInner children → (w : ArePartsAt children l.body right) → new < page_limit
    → l ≡ record p { right = new; body = l.body } → IsPage l
left_inner p l new children right page was w lt same =
    let within = w.within in
    let on : ArePostChildren p.right children = subst (IsBody p.right p.stamp) was page.body in
    let made : IsPage (record p { right = new; body = body.PostInner (take w.at children) }) = record {
      right = lt;
      stamp = page.stamp;
      body = record {
        some = some_take w.at children w.some w.within;
        each = children_take p.right new w.at children w.within on.each on.rising;
        rising = rising_take Below w.at children on.rising;
      };
      count = omega (
        arith,
        length-take-le w.at children (omega (arith, within)),
        within,
        ap count_of was,
        page.count,
      );
      fits = first_fits children w.at (omega (arith, within)) (subst FitsPage was page.fits);
    } in
    subst IsPage (sym (same ∙ ap (λ (b : Body). record p { right = new; body = b }) w.left_is)) made

right_inner : (p r : Page) (children : List PostChild) (left : Body) → IsPage p
    → p.body ≡ body.PostInner children → (w : ArePartsAt children left r.body) → r ≡ record p { body = r.body }
    → IsPage r
right_inner p r children left page was w same =
    let on : ArePostChildren p.right children = subst (IsBody p.right p.stamp) was page.body in
    let made : IsPage (record p { body = body.PostInner (drop w.at children) }) = record {
      right = page.right;
      stamp = page.stamp;
      body = record {
        some = some_drop w.at children w.within;
        each = all_drop (IsPostChild p.right) w.at children on.each;
        rising = rising_drop Below w.at children on.rising;
      };
      count = omega (arith, length-drop w.at children, ap count_of was, page.count);
      fits = second_fits children w.at (subst FitsPage was page.fits);
    } in
    subst IsPage (sym (same ∙ ap (λ (b : Body). record p { body = b }) w.right_is)) made

-- ---- both

-- where a leaf is cut both parts fit
leaf_fits : (high : ℕ) (list : List ℕ) (l r : Body) (keep : Keep) → IsItemList list → FitsPage (body.PostLeaf high list)
    → IsCut (body_cutting (body.PostLeaf high list)) l r keep → FitsPage l × FitsPage r
leaf_fits high list l r keep is fits cut =
    elim (cut_cases (body_cutting (body.PostLeaf high list)) l r keep cut) [
      | CutCases.half h fits_l fits_r ↦ (fits_l, fits_r)
      | CutCases.most most ↦ (most.fits, rest_fits high list l r is fits most)
    ]

pub pages_made : (p l r : Page) (new : ℕ) (keep : Keep) → IsPage p → IsPostBody p.body → AreParts p new keep l r
    → EndsAtLast l.body → new ≢ 0 → new < page_limit → IsPage l × IsPage r
pages_made p l r new keep page is parts ends some lt = by p.body refl is
  where
    by : (content : Body) → p.body ≡ content → IsPostBody content → IsPage l × IsPage r
    by _ was (IsPostBody.leaf high list) =
        let cut = subst (λ (b : Body). IsCut (body_cutting b) l.body r.body keep) was parts.cut in
        let on = subst (IsBody p.right p.stamp) was page.body in
        let fits = leaf_fits high list l.body r.body keep on.1 (subst FitsPage was page.fits) cut in
        let w = leaf_lists high list l.body r.body
        (cut_divides (body_cutting (body.PostLeaf high list)) l.body r.body keep cut) in (
          left_leaf p l high new list r.body page fits.0 w ends some lt parts.left_is,
          right_leaf p r high list l.body page was fits.1 w parts.right_is,
        )
    by _ was (IsPostBody.inner children) =
        let cut = subst (λ (b : Body). IsCut (body_cutting b) l.body r.body keep) was parts.cut in
        let w = inner_parts children l.body r.body
        (cut_divides (body_cutting (body.PostInner children)) l.body r.body keep cut) in (
          left_inner p l new children r.body page was w lt parts.left_is,
          right_inner p r children l.body page was w parts.right_is,
        )
