-- Inner pages that are made, of a root that has grown and of a parent with one child more, have an encoding.
use Rattle.std.proofs.Common.{◌≡◌, ◌≢◌, ℕ, zero, suc, ◌+◌, ◌*◌, ◌<◌, ◌≤◌, List, [], ◌∷◌, ◌++◌, length, take, drop, set}
use Rattle.std.proofs.Common.{refl, sym, ap, subst, ◌∙◌, inl, inr, arith}
use Rattle.std.specs.Prelude.{Some}
use Rattle.std.specs.List.{AllByRecursion, slice_get, insert, flat_map}
use Rattle.std.proofs.lemmas.List.{length-append}
use Rattle.std.proofs.lemmas.Option.{slice_get_within}
use Rattle.page_types.specs.Numbers.{page_limit, most_body, no_bound}
use Rattle.page_types.specs.Keys.{Rising}
use Rattle.page_types.specs.Pages.{IsPage, IsBody, IsPostChild, ArePostChildren}
use Rattle.page_types.specs.Encoding.{post_child_bytes, body_bytes}
use Rattle.page_types.specs.declared.page.Page.{Page}
use Rattle.page_types.specs.declared.page.PostChild.{PostChild}
use Rattle.page_types.specs.declared.page.Body.{Body}
use Rattle.page_types.specs.declared.page.Body.TheVariants as body
use Rattle.page_types.proofs.BodySizes.{post_children_size}
use Rattle.core_state.specs.Log.{In}
use Rattle.core_state.specs.TreeRules.{PostParent}
use Rattle.entry_tree.specs.Growing.{moved_down}
use Rattle.posting_tree.specs.Inner.Searching.{Below}
use Rattle.posting_tree.specs.Reading.{HasRoomForChild}
use Rattle.posting_tree.specs.Growing.{root_over}
use Rattle.posting_tree.specs.Adopting.{IsDivider}
use Rattle.posting_tree.proofs.Lists.{around, there_in, not_none, all_here, all_two}

pub root_is : (p : Page) (child : ℕ) → IsPage p → p.right ≡ 0 → child < page_limit → IsPage (root_over p child)
root_is p child page link lt = record {
  right = page.right;
  stamp = page.stamp;
  body = record {
    some = λ e. absurd cc;
    each = (record { page = lt; bound = inr (refl, link) }, tt);
    rising = (tt, tt);
  };
  count = omega arith;
  fits = omega (arith, post_children_size (record { page = child; bound = no_bound } ∷ []));
}

pub moved_is : (p : Page) → IsPage p → p.right ≡ 0 → IsPage (moved_down p)
moved_is p page link = record {
  right = omega arith;
  stamp = page.stamp;
  body = subst (λ (right : ℕ). IsBody right p.stamp p.body) link page.body;
  count = page.count;
  fits = page.fits;
}

-- ---- two children in place of one

above_all : (a d : PostChild) (back : List PostChild) → a.bound ≤ d.bound → AllByRecursion (Below d) back
    → AllByRecursion (Below a) back
above_all a d [] l h = tt
above_all a d (x ∷ back) l h = (omega (arith, l, h.0), above_all a d back l h.1)

rising_two : (front back : List PostChild) (c a d : PostChild) → c.bound ≡ d.bound → Below a d
    → ((b : PostChild) → In b front → Below b a) → Rising Below (front ++ c ∷ back)
    → Rising Below (front ++ a ∷ d ∷ back)
rising_two [] back c a d e l above h =
    ((l, above_all a c back (omega (arith, l, e)) h.0), (above_all d c back (omega (arith, e)) h.0, h.1))
rising_two (f ∷ front) back c a d e l above h =
    let first : Below f d = omega (arith, all_here (Below f) front back c h.0, e) in (
      all_two (Below f) front back c a d (above f (inl refl)) first h.0,
      rising_two front back c a d e l (λ b on. above b (inr on)) h.1,
    )

divided : (right page new mid bound : ℕ) (front back : List PostChild) → IsDivider mid bound front
    → new < page_limit → ArePostChildren right (front ++ record { page = page; bound = bound } ∷ back)
    → ArePostChildren right
    (front ++ record { page = page; bound = mid } ∷ record { page = new; bound = bound } ∷ back)
divided right page new mid bound front back div lt are =
    let old : PostChild = record { page = page; bound = bound } in
    let first : PostChild = record { page = page; bound = mid } in
    let second : PostChild = record { page = new; bound = bound } in
    let here = all_here (IsPostChild right) front back old are.each in
    record {
      some = not_none front first (second ∷ back);
      each = all_two (IsPostChild right) front back old first second
          (record { page = here.page; bound = inl div.item }) (record { page = lt; bound = here.bound }) are.each;
      rising = rising_two front back old first second refl div.below div.above are.rising;
    }

pub adopted_page : (p q : Page) (page new mid : ℕ) (w : PostParent page new mid p.body q.body)
    → q ≡ record p { body = q.body } → IsDivider mid w.bound w.front → IsPage p → HasRoomForChild p → new < page_limit
    → IsPage q
adopted_page p q page new mid w same div is room lt =
    let old : List PostChild = w.front ++ record { page = page; bound = w.bound } ∷ w.back in
    let more : List PostChild =
    w.front ++ record { page = page; bound = mid } ∷ record { page = new; bound = w.bound } ∷ w.back in
    let on : ArePostChildren p.right old = subst (IsBody p.right p.stamp) w.before is.body in
    let size : length (body_bytes p.body) ≡ 8 * length old =
    ap (λ (b : Body). length (body_bytes b)) w.before ∙ post_children_size old in
    let longer : length more ≡ length old + 1 = omega (
      arith,
      length-append w.front (record { page = page; bound = w.bound } ∷ w.back),
      length-append w.front (record { page = page; bound = mid } ∷ record { page = new; bound = w.bound } ∷ w.back),
    ) in
    let fits : length (flat_map post_child_bytes more) ≤ most_body =
    omega (arith, room, size, longer, post_children_size more) in
    let made : IsPage (record p { body = body.PostInner more }) = record {
      right = is.right;
      stamp = is.stamp;
      body = divided p.right page new mid w.bound w.front w.back div lt on;
      count = omega (arith, fits, post_children_size more);
      fits = fits;
    } in
    subst IsPage (sym (same ∙ ap (λ (b : Body). record p { body = b }) w.after)) made

-- ---- the children as they are made

pub set_and_inserted : (old : List PostChild) (k : ℕ) (a d : PostChild) → k < length old
    → insert (set old k d) k a ≡ take k old ++ a ∷ d ∷ drop (suc k) old
set_and_inserted [] k a d lt = absurd (omega (arith, lt))
set_and_inserted (c ∷ old) zero a d lt = refl
set_and_inserted (c ∷ old) (suc k) a d lt =
    ap (λ (cs : List PostChild). c ∷ cs) (set_and_inserted old k a d (omega (arith, lt)))

-- the parent, whose child of this number is the page
pub is_parent : (children more : List PostChild) (k page new mid bound : ℕ)
    → slice_get children k ≡ Some (record { page = page; bound = bound })
    → more ≡ insert (set children k (record { page = new; bound = bound })) k (record { page = page; bound = mid })
    → PostParent page new mid (body.PostInner children) (body.PostInner more)
is_parent children more k page new mid bound at made =
    let c : PostChild = record { page = page; bound = bound } in
    record {
      bound = bound;
      front = take k children;
      back = drop (suc k) children;
      before = ap body.PostInner (sym (around children k c at));
      after = ap body.PostInner (made
          ∙ set_and_inserted children k (record { page = page; bound = mid }) (record { page = new; bound = bound })
          (slice_get_within children k c at));
    }

pub named_there : (children : List PostChild) (k page bound : ℕ)
    → slice_get children k ≡ Some (record { page = page; bound = bound })
    → ((c : PostChild) → In c children → c.page ≢ page) → ⊥
named_there children k page bound at none =
    none (record { page = page; bound = bound }) (there_in children k (record { page = page; bound = bound }) at) refl
