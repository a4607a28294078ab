-- A page of a tree that is divided into two.
use Rattle.std.proofs.Common.{◌≡◌, ◌≢◌, ◌<◌, ◌+◌, ℕ, zero, suc, List, [], ◌∷◌, ◌++◌}
use Rattle.std.proofs.Common.{length}
use Rattle.std.proofs.Common.{take, drop, map, refl, sym, ap, subst, subst₂, ◌∙◌, inl, inr, arith}
use Rattle.std.proofs.Common.{append_assoc}
use Rattle.std.specs.Prelude.{Some}
use Rattle.std.specs.List.{slice_get}
use Rattle.std.proofs.lemmas.List.{take-append-drop, take_all, map-append}
use Rattle.ts_base.specs.Keys.{Key}
use Rattle.page_types.specs.Keys.{KeyLess, Rising, BoundLess}
use Rattle.page_types.specs.Pages.{IsBody, IsPage, AreEntries, AreEntryChildren, ArePostChildren}
use Rattle.page_types.specs.declared.page.Page.{Page}
use Rattle.page_types.specs.declared.page.Entry.{Entry}
use Rattle.page_types.specs.declared.page.EntryChild.{EntryChild}
use Rattle.page_types.specs.declared.page.PostChild.{PostChild}
use Rattle.page_types.specs.declared.page.Body.{Body}
use Rattle.page_types.specs.declared.page.Body.TheVariants as body
use Rattle.core_state.specs.Log.{In}
use Rattle.core_state.specs.Changes.{KeyAtMost}
use Rattle.core_state.specs.TreeRules.{EntryHalves, PostHalves, EntryParent, PostParent}
use Rattle.core_state.specs.Inner.Members.{Shared}
use Rattle.core_state.specs.Inner.SplitPages.{Divides, DividesList}
use Rattle.core_state.proofs.Trees.Orders.{key_order}
use Rattle.core_state.proofs.PageLists.{in_either}
use Rattle.core_state.proofs.SharedFronts.{shared_place, cut_at, get_behind, drop_behind, drop_front, map_one}
use Rattle.core_state.proofs.TakenEntries.{rises_before, rises_behind}
use Rattle.core_state.proofs.UpperBounds.{not_both}
use Rattle.core_state.proofs.FollowingRows.{drop_at}

-- ---- two parts

-- lists that are shared as far as the first part goes
pub joined_told : {A : Type 0} (whole front back : List A) (k : ℕ) → Shared whole front k → k ≡ length front
    → drop (length front) whole ≡ back → whole ≡ front ++ back
joined_told whole front back k s e same =
    let all : take (length front) whole ≡ front =
    ap (λ (i : ℕ). take i whole) (sym e) ∙ s.front ∙ ap (λ (i : ℕ). take i front) e
    ∙ take_all (length front) front (omega arith) in
    sym (take-append-drop (length front) whole) ∙ ap (λ zs. zs ++ drop (length front) whole) all
    ∙ ap (λ zs. front ++ zs) same

shared_all : {A : Type 0} (front back : List A) (k : ℕ) → Shared (front ++ back) front k → k ≡ length front
shared_all [] back k s = omega (arith, s.within_b)
shared_all (x ∷ front) back zero s = absurd (s.differ x refl refl)
shared_all (x ∷ front) back (suc k) s =
    let tails : x ∷ take k (front ++ back) ≡ x ∷ take k front = s.front in
    ap suc (shared_all front back k (record {
      within_a = omega (arith, s.within_a);
      within_b = omega (arith, s.within_b);
      front = cc;
      differ = λ y e f. s.differ y e f;
    }))

pub joined_back : {A : Type 0} (whole front back : List A) (k : ℕ) → Shared whole front k → whole ≡ front ++ back
    → (k ≡ length front) × (drop (length front) whole ≡ back)
joined_back whole front back k s e = (
  shared_all front back k (subst (λ zs. Shared zs front k) e s),
  ap (drop (length front)) e ∙ drop_front front back,
)

pub members_joined : {A B : Type 0} (f : A → B) (one : (x y : A) → f x ≡ f y → x ≡ y) (whole front back : List A)
    → map f whole ≡ map f front ++ map f back → whole ≡ front ++ back
members_joined f one whole front back e = map_one f one whole (front ++ back) (e ∙ sym (map-append f front back))

-- ---- a divider

last_in : {A : Type 0} (xs : List A) (k : ℕ) (x : A) → slice_get xs k ≡ Some x → suc k ≡ length xs
    → xs ≡ take k xs ++ x ∷ []
last_in xs k x e n = cut_at xs k x e ∙ ap (λ zs. take k xs ++ x ∷ zs) (past xs (suc k) n)
  where
    past : {A : Type 0} (xs : List A) (k : ℕ) → k ≡ length xs → drop k xs ≡ []
    past [] zero n = refl
    past [] (suc k) n = refl
    past (y ∷ ys) zero n = absurd (omega (arith, n))
    past (y ∷ ys) (suc k) n = past ys k (omega (arith, n))

get_in : {A : Type 0} (xs : List A) (k : ℕ) (x : A) → slice_get xs k ≡ Some x → In x xs
get_in [] k x e = absurd (cc)
get_in (y ∷ xs) zero x e = let same : y ≡ x = cc in inl (sym same)
get_in (y ∷ xs) (suc k) x e = inr (get_in xs k x e)

at_most : (a b : Key) → (KeyLess b a → ⊥) → KeyAtMost a b
at_most a b not = elim (key_order.total a b) [
  | inl l ↦ inl l
  | inr r ↦ elim r [ inl e ↦ inr e | inr g ↦ absurd (not g) ]
]

below_most : (a b c : Key) → KeyLess a b → KeyAtMost b c → KeyLess a c
below_most a b c l (inl m) = key_order.trans a b c l m
below_most a b c l (inr e) = subst (KeyLess a) e l

first_of_list : {A : Type 0} (xs : List A) (x : A) → slice_get xs 0 ≡ Some x → (more : List A) × (xs ≡ x ∷ more)
first_of_list [] x e = absurd (cc)
first_of_list (y ∷ ys) x e = let same : y ≡ x = cc in (ys, ap (λ z. z ∷ ys) same)

pub divides_told : (mid : Key) (front back : List Entry) (k : ℕ) (last first : Entry) → AreEntries front
    → AreEntries back → slice_get front k ≡ Some last → suc k ≡ length front → slice_get back 0 ≡ Some first
    → (KeyLess mid last.key → ⊥) → KeyLess mid first.key → Divides mid front back
divides_told mid front back k last first rise risen at n start not above =
    let ends : front ≡ take k front ++ last ∷ [] = last_in front k last at n in
    let begins = first_of_list back first start in
    let most : KeyAtMost last.key mid = at_most last.key mid not in
    let Less = λ (d e : Entry). KeyLess d.key e.key in
    record {
      some_front = λ e. omega (arith, n, ap length e);
      some_back = λ e. absurd (cc (e, begins.1));
      up_to = λ e w. elim (in_either e (take k front) (last ∷ []) (subst (In e) ends w)) [
        | inl v ↦
            inl (below_most e.key last.key mid
            (rises_before Less (take k front) last [] (subst (Rising Less) ends rise.rising) e v) most)
        | inr v ↦ elim v [
          | inl same ↦ subst (λ (x : Entry). KeyAtMost x.key mid) (sym same) most
          | inr none ↦ absurd none
        ]
      ];
      above = λ e w. elim (subst (In e) begins.1 w) [
        | inl same ↦ subst (λ (x : Entry). KeyLess mid x.key) (sym same) above
        | inr v ↦
            key_order.trans mid first.key e.key above
            (rises_behind Less [] first begins.0 (subst (Rising Less) begins.1 risen.rising) e v)
      ];
    }

pub divides_last : (mid : Key) (front back : List Entry) (k : ℕ) (last : Entry) → Divides mid front back
    → slice_get front k ≡ Some last → KeyLess mid last.key → ⊥
divides_last mid front back k last d at l = not_both last.key mid l (d.up_to last (get_in front k last at))

pub divides_first : (mid : Key) (front back : List Entry) (first : Entry) → Divides mid front back
    → slice_get back 0 ≡ Some first → KeyLess mid first.key
divides_first mid front back first d at = d.above first (get_in back 0 first at)

-- ---- leaves and inner pages of the entry tree

pub leaf_told : (high mid end : Key) (entries front back : List Entry) (left right : Body)
    → left ≡ body.EntryLeaf mid front → right ≡ body.EntryLeaf end back → end ≡ high → entries ≡ front ++ back
    → Divides mid front back → EntryHalves mid (body.EntryLeaf high entries) left right
leaf_told high mid end entries front back left right e f same joined d =
    let here : EntryHalves mid (body.EntryLeaf high (front ++ back)) (body.EntryLeaf mid front)
    (body.EntryLeaf high back) = EntryHalves.leaves high front back d.some_front d.some_back d.up_to d.above in
    let right_is : body.EntryLeaf high back ≡ right = sym (f ∙ ap (λ (z : Key). body.EntryLeaf z back) same) in
    subst (λ (es : List Entry). EntryHalves mid (body.EntryLeaf high es) left right) (sym joined)
    (subst₂ (EntryHalves mid (body.EntryLeaf high (front ++ back))) (sym e) right_is here)

pub record LeafHalves (m high mid end : Key) (entries front back : List Entry) : Type 0 where
  pub mid_is : m ≡ mid
  pub end_is : end ≡ high
  pub joined : entries ≡ front ++ back
  pub divides : Divides mid front back

pub leaf_back : (m : Key) (whole left right : Body) → EntryHalves m whole left right → (high mid end : Key)
    (entries front back : List Entry) → whole ≡ body.EntryLeaf high entries → left ≡ body.EntryLeaf mid front
    → right ≡ body.EntryLeaf end back → LeafHalves m high mid end entries front back
leaf_back m _ _ _ (EntryHalves.leaves h f g some_f some_b up_to above) high mid end entries front back e el er =
    let highs : h ≡ high = cc in
    let ends : h ≡ end = cc in
    let whole : f ++ g ≡ entries = cc in
    let mids : m ≡ mid = cc in
    let fronts : f ≡ front = cc in
    let backs : g ≡ back = cc in
    let d : Divides m f g = record { some_front = some_f; some_back = some_b; up_to = up_to; above = above } in
    record {
      mid_is = mids;
      end_is = sym ends ∙ highs;
      joined = sym whole ∙ ap (λ (xs : List Entry). xs ++ g) fronts ∙ ap (λ (xs : List Entry). front ++ xs) backs;
      divides = subst (λ (z : Key). Divides z front back) mids
          (subst₂ (λ (xs ys : List Entry). Divides m xs ys) fronts backs d);
    }
leaf_back m _ _ _ (EntryHalves.inners last f g some same) high mid end entries front back e el er = absurd (cc (e))

pub inner_told : (children front back : List EntryChild) (left right : Body) (k : ℕ) (last : EntryChild)
    → left ≡ body.EntryInner front → right ≡ body.EntryInner back → back ≢ [] → slice_get front k ≡ Some last
    → suc k ≡ length front → children ≡ front ++ back
    → EntryHalves last.bound (body.EntryInner children) left right
inner_told children front back left right k last e f some at n joined =
    let ends : front ≡ take k front ++ last ∷ [] = last_in front k last at n in
    let here : EntryHalves last.bound (body.EntryInner (take k front ++ last ∷ back))
    (body.EntryInner (take k front ++ last ∷ [])) (body.EntryInner back) =
    EntryHalves.inners last (take k front) back some refl in
    let whole : take k front ++ last ∷ back ≡ children =
    sym (joined ∙ ap (λ (xs : List EntryChild). xs ++ back) ends ∙ append_assoc (take k front) (last ∷ []) back) in
    let left_is : body.EntryInner (take k front ++ last ∷ []) ≡ left = sym (e ∙ ap body.EntryInner ends) in
    subst (λ (xs : List EntryChild). EntryHalves last.bound (body.EntryInner xs) left right) whole
    (subst₂ (EntryHalves last.bound (body.EntryInner (take k front ++ last ∷ back))) left_is (sym f) here)

-- ---- the same of posting trees

pub post_inner_told : (children front back : List PostChild) (left right : Body) (k : ℕ) (last : PostChild)
    → left ≡ body.PostInner front → right ≡ body.PostInner back → back ≢ [] → slice_get front k ≡ Some last
    → suc k ≡ length front → children ≡ front ++ back
    → PostHalves last.bound (body.PostInner children) left right
post_inner_told children front back left right k last e f some at n joined =
    let ends : front ≡ take k front ++ last ∷ [] = last_in front k last at n in
    let here : PostHalves last.bound (body.PostInner (take k front ++ last ∷ back))
    (body.PostInner (take k front ++ last ∷ [])) (body.PostInner back) =
    PostHalves.inners last (take k front) back some refl in
    let whole : take k front ++ last ∷ back ≡ children =
    sym (joined ∙ ap (λ (xs : List PostChild). xs ++ back) ends ∙ append_assoc (take k front) (last ∷ []) back) in
    let left_is : body.PostInner (take k front ++ last ∷ []) ≡ left = sym (e ∙ ap body.PostInner ends) in
    subst (λ (xs : List PostChild). PostHalves last.bound (body.PostInner xs) left right) whole
    (subst₂ (PostHalves last.bound (body.PostInner (take k front ++ last ∷ back))) left_is (sym f) here)

pub post_leaf_told : (high mid end : ℕ) (items front back : List ℕ) (left right : Body)
    → left ≡ body.PostLeaf mid front → right ≡ body.PostLeaf end back → end ≡ high → DividesList mid items front back
    → PostHalves mid (body.PostLeaf high items) left right
post_leaf_told high mid end items front back left right e f same d =
    let here : PostHalves mid (body.PostLeaf high items) (body.PostLeaf mid front) (body.PostLeaf high back) =
    PostHalves.leaves high items front back d.some_front d.some_back d.joined d.up_to d.above in
    let right_is : body.PostLeaf high back ≡ right = sym (f ∙ ap (λ (z : ℕ). body.PostLeaf z back) same) in
    subst₂ (PostHalves mid (body.PostLeaf high items)) (sym e) right_is here

pub record PostLeafHalves (m high mid end : ℕ) (items front back : List ℕ) : Type 0 where
  pub mid_is : m ≡ mid
  pub end_is : end ≡ high
  pub divides : DividesList mid items front back

pub post_leaf_back : (m : ℕ) (whole left right : Body) → PostHalves m whole left right → (high mid end : ℕ)
    (items front back : List ℕ) → whole ≡ body.PostLeaf high items → left ≡ body.PostLeaf mid front
    → right ≡ body.PostLeaf end back → PostLeafHalves m high mid end items front back
post_leaf_back m _ _ _ (PostHalves.leaves h is f g some_f some_b joined up_to above) high mid end items front back e
    el er =
    let highs : h ≡ high = cc in
    let ends : h ≡ end = cc in
    let whole : is ≡ items = cc in
    let mids : m ≡ mid = cc in
    let fronts : f ≡ front = cc in
    let backs : g ≡ back = cc in
    let d : DividesList m is f g = record {
      some_front = some_f;
      some_back = some_b;
      joined = joined;
      up_to = up_to;
      above = above;
    } in
    record {
      mid_is = mids;
      end_is = sym ends ∙ highs;
      divides = subst (λ (z : ℕ). DividesList z items front back) mids
          (subst (λ (xs : List ℕ). DividesList m xs front back) whole
          (subst₂ (DividesList m is) fronts backs d));
    }
post_leaf_back m _ _ _ (PostHalves.inners last f g some same) high mid end items front back e el er = absurd (cc (e))

-- ---- parents

pub inner_rising : (p : Page) (cs : List EntryChild) → IsPage p → p.body ≡ body.EntryInner cs
    → AreEntryChildren p.right cs
inner_rising p cs is e = subst (IsBody p.right p.stamp) e is.body

pub post_rising : (p : Page) (cs : List PostChild) → IsPage p → p.body ≡ body.PostInner cs → ArePostChildren p.right cs
post_rising p cs is e = subst (IsBody p.right p.stamp) e is.body

next_behind : {A : Type 0} (front : List A) (x y : A) (back : List A)
    → slice_get (front ++ x ∷ y ∷ back) (suc (length front)) ≡ Some y
next_behind [] x y back = refl
next_behind (p ∷ front) x y back = next_behind front x y back

drop_two : {A : Type 0} (front : List A) (x y : A) (back : List A)
    → drop (suc (suc (length front))) (front ++ x ∷ y ∷ back) ≡ back
drop_two [] x y back = refl
drop_two (p ∷ front) x y back = drop_two front x y back

-- one becomes two at this place, and what comes after it stays
pub record Doubled {A : Type 0} (was now : List A) (k : ℕ) (x y z : A) : Type 0 where
  pub old : slice_get was k ≡ Some x
  pub first : slice_get now k ≡ Some y
  pub second : slice_get now (k + 1) ≡ Some z
  pub same : drop (k + 1) was ≡ drop (k + 2) now

doubled_told : {A : Type 0} (was now : List A) (k : ℕ) (x y z : A) → Shared was now k → Doubled was now k x y z
    → (was ≡ take k now ++ x ∷ drop (k + 1) was) × (now ≡ take k now ++ y ∷ z ∷ drop (k + 1) was)
doubled_told was now k x y z s d =
    let one : suc k ≡ k + 1 = omega arith in
    let two : suc (suc k) ≡ k + 2 = omega arith in (
      cut_at was k x d.old ∙ ap (λ xs. xs ++ x ∷ drop (suc k) was) s.front
          ∙ ap (λ (n : ℕ). take k now ++ x ∷ drop n was) one,
      cut_at now k y d.first
          ∙ ap (λ xs. take k now ++ y ∷ xs) (drop_at now (suc k) z (ap (slice_get now) one ∙ d.second))
          ∙ ap (λ (n : ℕ). take k now ++ y ∷ z ∷ drop n now) two ∙ ap (λ xs. take k now ++ y ∷ z ∷ xs) (sym d.same),
    )

doubled_back : {A : Type 0} (front back was now : List A) (x y z : A) (k : ℕ) → was ≡ front ++ x ∷ back
    → now ≡ front ++ y ∷ z ∷ back → x ≢ y → Shared was now k → Doubled was now k x y z
doubled_back {A} front back was now x y z k olds news apart s =
    let place : k ≡ length front = shared_place front (x ∷ back) y (z ∷ back) k
    (λ c more g h. let heads : x ≡ c = cc (g) in apart (heads ∙ h))
    (subst₂ (λ (a b : List A). Shared a b k) olds news s) in
    let one : k + 1 ≡ suc (length front) = omega (arith, place) in
    let two : k + 2 ≡ suc (suc (length front)) = omega (arith, place) in
    record {
      old = ap (slice_get was) place ∙ ap (λ (cs : List A). slice_get cs (length front)) olds ∙ get_behind front x back;
      first = ap (slice_get now) place ∙ ap (λ (cs : List A). slice_get cs (length front)) news
          ∙ get_behind front y (z ∷ back);
      second = ap (slice_get now) one ∙ ap (λ (cs : List A). slice_get cs (suc (length front))) news
          ∙ next_behind front y z back;
      same = ap (λ (n : ℕ). drop n was) one ∙ ap (drop (suc (length front))) olds ∙ drop_behind front x back
          ∙ sym (ap (λ (n : ℕ). drop n now) two ∙ ap (drop (suc (suc (length front)))) news
          ∙ drop_two front y z back);
    }

abbrev pub child : ℕ → Key → EntryChild
child page bound = record { page = page; bound = bound }

pub adopts_told : (page new : ℕ) (mid : Key) (old then : Body) (was now : List EntryChild) (k : ℕ) (x : EntryChild)
    → old ≡ body.EntryInner was → then ≡ body.EntryInner now → Shared was now k → x.page ≡ page
    → Doubled was now k x (child page mid) (child new x.bound) → EntryParent page new mid old then
adopts_told page new mid old then was now k x e f s same d =
    let t = doubled_told was now k x (child page mid) (child new x.bound) s d in
    record {
      bound = x.bound;
      front = take k now;
      back = drop (k + 1) was;
      before = e ∙ ap body.EntryInner
          (t.0 ∙ ap (λ (p : ℕ). take k now ++ child p x.bound ∷ drop (k + 1) was) same);
      after = f ∙ ap body.EntryInner t.1;
    }

same_inner : (xs ys : List EntryChild) (b : Body) → b ≡ body.EntryInner xs → b ≡ body.EntryInner ys → xs ≡ ys
same_inner xs ys b e f = let both : body.EntryInner xs ≡ body.EntryInner ys = sym e ∙ f in cc

pub adopts_back : (page new : ℕ) (mid : Key) (old then : Body) (was now : List EntryChild) (k right : ℕ)
    → old ≡ body.EntryInner was → then ≡ body.EntryInner now → AreEntryChildren right now → Shared was now k
    → EntryParent page new mid old then
    → (bound : Key) × Doubled was now k (child page bound) (child page mid) (child new bound)
adopts_back page new mid old then was now k right e f are s p =
    let x = child page p.bound in
    let y = child page mid in
    let z = child new p.bound in
    let news : now ≡ p.front ++ y ∷ z ∷ p.back = same_inner now (p.front ++ y ∷ z ∷ p.back) then f p.after in
    let Below = λ (c d : EntryChild). BoundLess c.bound d.bound in
    let less : BoundLess mid p.bound = rises_behind Below p.front y (z ∷ p.back)
    (subst (Rising Below) news are.rising) z (inl refl) in (
      p.bound,
      doubled_back p.front p.back was now x y z k (same_inner was (p.front ++ x ∷ p.back) old e p.before) news
          (λ same. not_itself mid (subst (BoundLess mid) (ap (λ (c : EntryChild). c.bound) same) less)) s,
    )
  where
    not_itself : (b : Key) → BoundLess b b → ⊥
    not_itself b l = elim l.1 [ inl none ↦ l.0 none | inr g ↦ key_order.irrefl b g ]

-- by the child that is there
pub adopts_at : (page new : ℕ) (mid : Key) (was now : List EntryChild) (k : ℕ) (x : EntryChild)
    → (bound : Key) × Doubled was now k (child page bound) (child page mid) (child new bound)
    → slice_get was k ≡ Some x → (x.page ≡ page) × Doubled was now k x (child page mid) (child new x.bound)
adopts_at page new mid was now k x a at =
    let both : Some (child page a.0) ≡ Some x = sym a.1.old ∙ at in
    let is : child page a.0 ≡ x = cc in (
      sym (ap (λ (c : EntryChild). c.page) is),
      subst (λ (c : EntryChild). Doubled was now k c (child page mid) (child new c.bound)) is a.1,
    )

abbrev pub post : ℕ → ℕ → PostChild
post page bound = record { page = page; bound = bound }

pub post_adopts_told : (page new mid : ℕ) (old then : Body) (was now : List PostChild) (k : ℕ) (x : PostChild)
    → old ≡ body.PostInner was → then ≡ body.PostInner now → Shared was now k → x.page ≡ page
    → Doubled was now k x (post page mid) (post new x.bound) → PostParent page new mid old then
post_adopts_told page new mid old then was now k x e f s same d =
    let t = doubled_told was now k x (post page mid) (post new x.bound) s d in
    record {
      bound = x.bound;
      front = take k now;
      back = drop (k + 1) was;
      before = e ∙ ap body.PostInner
          (t.0 ∙ ap (λ (p : ℕ). take k now ++ post p x.bound ∷ drop (k + 1) was) same);
      after = f ∙ ap body.PostInner t.1;
    }

same_post : (xs ys : List PostChild) (b : Body) → b ≡ body.PostInner xs → b ≡ body.PostInner ys → xs ≡ ys
same_post xs ys b e f = let both : body.PostInner xs ≡ body.PostInner ys = sym e ∙ f in cc

pub post_adopts_back : (page new mid : ℕ) (old then : Body) (was now : List PostChild) (k right : ℕ)
    → old ≡ body.PostInner was → then ≡ body.PostInner now → ArePostChildren right now → Shared was now k
    → PostParent page new mid old then
    → (bound : ℕ) × Doubled was now k (post page bound) (post page mid) (post new bound)
post_adopts_back page new mid old then was now k right e f are s p =
    let x = post page p.bound in
    let y = post page mid in
    let z = post new p.bound in
    let news : now ≡ p.front ++ y ∷ z ∷ p.back = same_post now (p.front ++ y ∷ z ∷ p.back) then f p.after in
    let Below = λ (c d : PostChild). c.bound < d.bound in
    let less : mid < p.bound = rises_behind Below p.front y (z ∷ p.back)
    (subst (Rising Below) news are.rising) z (inl refl) in (
      p.bound,
      doubled_back p.front p.back was now x y z k (same_post was (p.front ++ x ∷ p.back) old e p.before) news
          (λ same. let bounds : p.bound ≡ mid = ap (λ (c : PostChild). c.bound) same in omega (arith, less, bounds)) s,
    )

pub post_adopts_at : (page new mid : ℕ) (was now : List PostChild) (k : ℕ) (x : PostChild)
    → (bound : ℕ) × Doubled was now k (post page bound) (post page mid) (post new bound)
    → slice_get was k ≡ Some x → (x.page ≡ page) × Doubled was now k x (post page mid) (post new x.bound)
post_adopts_at page new mid was now k x a at =
    let both : Some (post page a.0) ≡ Some x = sym a.1.old ∙ at in
    let is : post page a.0 ≡ x = cc in (
      sym (ap (λ (c : PostChild). c.page) is),
      subst (λ (c : PostChild). Doubled was now k c (post page mid) (post new c.bound)) is a.1,
    )
