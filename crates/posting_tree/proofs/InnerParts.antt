-- The two parts of an inner page that is split.
use Rattle.std.proofs.Common.{◌≡◌, ℕ, zero, suc, ◌+◌, ◌-◌, ◌*◌, ◌/◌, ◌<◌, ◌≤◌, List, [], ◌∷◌, ◌++◌, length, take, drop}
use Rattle.std.proofs.Common.{refl, sym, ap, subst, ◌∙◌, append_assoc, arith}
use Rattle.std.proofs.lemmas.List.{length-append, length-take-le, length-drop, take_all, take_at, drop_at}
use Rattle.page_types.specs.Encoding.{count_of}
use Rattle.page_types.specs.declared.page.PostChild.{PostChild}
use Rattle.page_types.specs.declared.page.Body.{Body}
use Rattle.page_types.specs.declared.page.Body.TheVariants as body
use Rattle.page_types.proofs.BodySizes.{post_children_size}
use Rattle.core_state.specs.TreeRules.{PostHalves, Halves, FitsPage, listed_bytes}
use Rattle.posting_code.specs.Cutting.{IsHalf, IsEven, IsCut}
use Rattle.posting_code.specs.declared.dividing.Keep.{Keep}
use Rattle.posting_code.specs.declared.dividing.Keep.TheVariants.{Half, Most}
use Rattle.entry_tree.specs.Splitting.{body_cutting}
use Rattle.posting_tree.proofs.Lists.{there_is, around, take_one, some_length, some_drop}

-- the parts are the first children up to a place, and those from it on
pub record ArePartsAt (children : List PostChild) (left right : Body) : Type 0 where
  pub at : ℕ
  pub some : 0 < at
  pub within : at < length children
  pub left_is : left ≡ body.PostInner (take at children)
  pub right_is : right ≡ body.PostInner (drop at children)

parts : (mid : ℕ) (whole left right : Body) (children : List PostChild) → PostHalves mid whole left right
    → whole ≡ body.PostInner children → ArePartsAt children left right
parts mid _ _ _ children (PostHalves.leaves high items front back some_front some_back all up above) e = absurd cc
parts mid _ _ _ children (PostHalves.inners last front back some is) e =
    let same : front ++ last ∷ back ≡ children = cc in
    let split : (front ++ last ∷ []) ++ back ≡ children = append_assoc front (last ∷ []) back ∙ same in
    let size : length (front ++ last ∷ []) ≡ suc (length front) = omega (arith, length-append front (last ∷ [])) in
    record {
      at = suc (length front);
      some = omega arith;
      within = omega (arith, ap length split, length-append (front ++ last ∷ []) back, size, some_length back some);
      left_is = ap body.PostInner (sym (take_at (front ++ last ∷ []) back (suc (length front)) size)
          ∙ ap (λ (cs : List PostChild). take (suc (length front)) cs) split);
      right_is = ap body.PostInner (sym (drop_at (front ++ last ∷ []) back (suc (length front)) size)
          ∙ ap (λ (cs : List PostChild). drop (suc (length front)) cs) split);
    }

halves : (whole left right : Body) (children : List PostChild) → Halves whole left right
    → whole ≡ body.PostInner children → ArePartsAt children left right
halves _ _ _ children (Halves.of_leaf h last front back some) e = absurd cc
halves _ _ _ children (Halves.of_inner mid cs h) e = absurd cc
halves _ _ _ children (Halves.of_post_leaf high mid items front back f b h) e = absurd cc
halves _ left right children (Halves.of_post_inner mid cs h) e = parts mid (body.PostInner cs) left right children h e

pub inner_parts : (children : List PostChild) (left right : Body) → Halves (body.PostInner children) left right
    → ArePartsAt children left right
inner_parts children left right h = halves (body.PostInner children) left right children h refl

-- the parts at a place divide the page
halves_at : (children : List PostChild) (k : ℕ) → 0 < k → k < length children
    → Halves (body.PostInner children) (body.PostInner (take k children)) (body.PostInner (drop k children))
halves_at children zero some lt = absurd (omega (arith, some))
halves_at children (suc k) some lt =
    let r = there_is children k (omega (arith, lt)) in
    Halves.of_post_inner r.0.bound children
    (subst (λ (cs : List PostChild). PostHalves r.0.bound (body.PostInner cs) (body.PostInner (take (suc k) children))
    (body.PostInner (drop (suc k) children))) (around children k r.0 r.1)
    (subst (λ (cs : List PostChild). PostHalves r.0.bound
    (body.PostInner (take k children ++ r.0 ∷ drop (suc k) children)) (body.PostInner cs)
    (body.PostInner (drop (suc k) children))) (sym (take_one children k r.0 r.1))
    (PostHalves.inners r.0 (take k children) (drop (suc k) children) (some_drop (suc k) children lt) refl)))

-- ---- a cut

first_size : (children : List PostChild) (k : ℕ) → k ≤ length children
    → length (listed_bytes (body.PostInner (take k children))) ≡ 8 * k
first_size children k le = omega (arith, post_children_size (take k children), length-take-le k children le)

pub part_size : (children : List PostChild) (left right : Body) → (w : ArePartsAt children left right)
    → length (listed_bytes left) ≡ 8 * w.at
part_size children left right w =
    let within = w.within in
    ap (λ (b : Body). length (listed_bytes b)) w.left_is ∙ first_size children w.at (omega (arith, within))

pub part_count : (children : List PostChild) (left right : Body) → (w : ArePartsAt children left right)
    → count_of left ≡ w.at
part_count children left right w =
    let within = w.within in
    ap count_of w.left_is ∙ length-take-le w.at children (omega (arith, within))

pub first_fits : (children : List PostChild) (k : ℕ) → k ≤ length children → FitsPage (body.PostInner children)
    → FitsPage (body.PostInner (take k children))
first_fits children k le fits = omega (arith, fits, first_size children k le, post_children_size children)

pub second_fits : (children : List PostChild) (k : ℕ) → FitsPage (body.PostInner children)
    → FitsPage (body.PostInner (drop k children))
second_fits children k fits =
    omega (arith, fits, post_children_size (drop k children), length-drop k children, post_children_size children)

is_half : (children : List PostChild) (k : ℕ) → 0 < k → k < length children → length children ≤ 2 * k
    → 2 * k ≤ length children + 1
    → IsHalf (body_cutting (body.PostInner children)) (body.PostInner (take k children))
    (body.PostInner (drop k children))
is_half children k some lt enough least = record {
  divides = halves_at children k some lt;
  keeps = omega (arith, first_size children k (omega (arith, lt)), post_children_size children, enough);
  least = λ l r h keeps. let w = inner_parts children l r h in omega (
    arith,
    keeps,
    part_size children l r w,
    part_count children l r w,
    post_children_size children,
    length-take-le k children (omega (arith, lt)),
    least,
  );
}

pub inner_half : (children : List PostChild) (k : ℕ) → 2 ≤ length children → FitsPage (body.PostInner children)
    → k ≡ length children - length children / 2
    → IsCut (body_cutting (body.PostInner children)) (body.PostInner (take k children))
    (body.PostInner (drop k children)) Half
inner_half children k two fits e =
    IsCut.half (IsEven.half
    (is_half children k (omega (arith, two, e)) (omega (arith, two, e)) (omega (arith, e)) (omega (arith, e)))
    (first_fits children k (omega (arith, e)) fits) (second_fits children k fits))

pub inner_most : (children : List PostChild) (k : ℕ) → 2 ≤ length children → FitsPage (body.PostInner children)
    → suc k ≡ length children
    → IsCut (body_cutting (body.PostInner children)) (body.PostInner (take k children))
    (body.PostInner (drop k children)) Most
inner_most children k two fits e =
    IsCut.most (record {
      divides = halves_at children k (omega (arith, two, e)) (omega (arith, e));
      fits = first_fits children k (omega (arith, e)) fits;
      most = λ l r h fits. let w = inner_parts children l r h in let within = w.within in omega (
        arith,
        part_count children l r w,
        within,
        length-take-le k children (omega (arith, e)),
        e,
      );
    })
    (omega (arith, first_size children k (omega (arith, e)), post_children_size children, two, e))

-- the parts as they are made
pub inner_made : (children l r : List PostChild) (k : ℕ) (keep kept : Keep) → l ≡ take k children
    → r ≡ take (length children - k) (drop k children) → kept ≡ keep
    → IsCut (body_cutting (body.PostInner children)) (body.PostInner (take k children))
    (body.PostInner (drop k children)) keep
    → IsCut (body_cutting (body.PostInner children)) (body.PostInner l) (body.PostInner r) kept
inner_made children l r k keep kept left right same cut =
    let rest : r ≡ drop k children =
    right ∙ take_all (length children - k) (drop k children) (omega (arith, length-drop k children)) in
    subst (λ (m : List PostChild). IsCut (body_cutting (body.PostInner children)) (body.PostInner m) (body.PostInner r)
    kept) (sym left)
    (subst (λ (m : List PostChild). IsCut (body_cutting (body.PostInner children)) (body.PostInner (take k children))
    (body.PostInner m) kept) (sym rest)
    (subst (IsCut (body_cutting (body.PostInner children)) (body.PostInner (take k children))
    (body.PostInner (drop k children))) (sym same) cut))
