-- Leaves that are made have an encoding.
use Rattle.std.proofs.Common.{◌≡◌, ℕ, ◌+◌, ◌^◌, ◌<◌, ◌≤◌, List, length, refl, sym, ap, subst, arith}
use Rattle.page_types.specs.Numbers.{page_limit, most_body, most_inline}
use Rattle.page_types.specs.Items.{items_of, IsItemList}
use Rattle.page_types.specs.Encoding.{body_bytes}
use Rattle.page_types.specs.Pages.{IsPage, IsBody, IsHighItem}
use Rattle.page_types.specs.declared.page.Page.{Page}
use Rattle.page_types.specs.declared.page.Body.{Body}
use Rattle.page_types.specs.declared.page.Body.TheVariants as body
use Rattle.page_types.proofs.BodySizes.{length-posting}
use Rattle.page_types.proofs.ItemReading.{length-item_list_from}
use Rattle.posting_code.specs.Uniting.{IsUnited}
use Rattle.posting_tree.specs.declared.adding.Added.{Added}
use Rattle.posting_tree.specs.declared.adding.Added.TheVariants as added
use Rattle.posting_tree.specs.Adding.{first_leaf, IsAnswer, IsAdded}

-- a list has no more items than bytes
pub few_items : (list : List ℕ) → IsItemList list → length (items_of list) ≤ length list
few_items list is = omega (arith, length-item_list_from 0 (items_of list), ap length is.encoding)

-- a leaf with this high item and this list has an encoding
pub leaf_page : (right stamp high : ℕ) (list : List ℕ) → right < page_limit → stamp < 2 ^ 64 → IsHighItem right high
    → IsItemList list → 4 + length list ≤ most_body
    → IsPage (record { right = right; stamp = stamp; body = body.PostLeaf high list })
leaf_page right stamp high list lt fits up is short = record {
  right = lt;
  stamp = fits;
  body = (up, is);
  count = omega (arith, few_items list is, short);
  fits = omega (arith, length-posting high list, short);
}

pub first_page : (list : List ℕ) → IsItemList list → length list ≤ most_inline → IsPage (first_leaf list)
first_page list is short =
    leaf_page 0 0 0 list (omega arith) (omega arith)
    (record { item = omega arith; none = λ e. refl; some = λ ne. absurd (ne refl) }) is (omega (arith, short))

-- the page whose leaf has another list
pub page_with : (p : Page) (high : ℕ) (old list : List ℕ) → IsPage p → p.body ≡ body.PostLeaf high old
    → IsItemList list → length (body_bytes (body.PostLeaf high list)) ≤ most_body
    → IsPage (record p { body = body.PostLeaf high list })
page_with p high old list page was is fits =
    let on = subst (IsBody p.right p.stamp) was page.body in
    leaf_page p.right p.stamp high list page.right page.stamp on.0 is (omega (arith, length-posting high list, fits))

pub added_page : (p q : Page) (items : List ℕ) → IsPage p → IsAdded p items (added.Done q) → IsPage q
added_page p q items page a = of (added.Done q) a.is refl
  where
    content : Body
    content = body.PostLeaf a.high a.list

    of : (answer : Added) → IsAnswer p content answer → answer ≡ added.Done q → IsPage q
    of _ (IsAnswer.done fits) e =
        let same : record p { body = content } ≡ q = cc in
        subst IsPage same (page_with p a.high a.old a.list page a.was a.united.is_list fits)
    of _ (IsAnswer.full large) e = absurd (let no : added.Full ≡ added.Done q = e in cc)

-- ---- what is answered, where the list with the items is made of this one, which is shown by a reference

pub added_full : (p : Page) (high : ℕ) (old shown items list : List ℕ) → p.body ≡ body.PostLeaf high old
    → shown ≡ old → IsUnited shown items list → 8164 < length list → IsAdded p items added.Full
added_full p high old shown items list was same united large = record {
  high = high;
  old = old;
  list = list;
  was = was;
  united = subst (λ (l : List ℕ). IsUnited l items list) same united;
  is = IsAnswer.full (omega (arith, large, length-posting high list));
}

pub added_done : (p : Page) (high : ℕ) (old shown items list made : List ℕ) → p.body ≡ body.PostLeaf high old
    → shown ≡ old → IsUnited shown items list → made ≡ list → length list ≤ 8164
    → IsAdded p items (added.Done (record { right = p.right; stamp = p.stamp; body = body.PostLeaf high made }))
added_done p high old shown items list made was same united e short = record {
  high = high;
  old = old;
  list = made;
  was = was;
  united = subst (λ (l : List ℕ). IsUnited l items made) same (subst (IsUnited shown items) (sym e) united);
  is = IsAnswer.done (omega (arith, short, ap length e, length-posting high made));
}
