-- A parent with one child more has an encoding.
use Rattle.std.proofs.Common.{◌≡◌, ◌≢◌, ℕ, zero, suc, ◌+◌, ◌*◌, ◌<◌, ◌≤◌, List, [], ◌∷◌, ◌++◌, length, take, drop, set}
use Rattle.std.proofs.Common.{refl, sym, ap, subst, ◌∙◌, inl, inr, arith}
use Rattle.std.specs.Prelude.{Some}
use Rattle.std.specs.List.{AllByRecursion, slice_get, insert, flat_map}
use Rattle.std.proofs.lemmas.List.{length-append}
use Rattle.std.proofs.lemmas.List.Concat.{flat_map-append}
use Rattle.std.proofs.lemmas.Option.{same_Some}
use Rattle.page_types.specs.Numbers.{page_limit, most_body}
use Rattle.page_types.specs.Keys.{IsKey, BoundLess, Rising}
use Rattle.page_types.specs.Pages.{IsPage, IsBody, IsEntryChild, AreEntryChildren}
use Rattle.page_types.specs.Encoding.{entry_child_bytes, body_bytes}
use Rattle.page_types.specs.declared.page.Page.{Page}
use Rattle.page_types.specs.declared.page.EntryChild.{EntryChild}
use Rattle.page_types.specs.declared.page.Body.{Body}
use Rattle.page_types.specs.declared.page.Body.TheVariants as body
use Rattle.page_types.proofs.BodySizes.{length-entry_child_bytes}
use Rattle.core_state.specs.Log.{In}
use Rattle.core_state.specs.TreeRules.{EntryParent}
use Rattle.entry_tree.specs.Reading.{HasRoomForChild}
use Rattle.entry_tree.specs.Adopting.{IsDivider, IsOneMore}
use Rattle.entry_tree.proofs.KeyOrders.{key_trans}
use Rattle.entry_tree.proofs.FoundPlaces.{around}

-- the bounds of children rise
abbrev Below : EntryChild → EntryChild → Type 0
Below c d = BoundLess c.bound d.bound

bound_trans : (a b c : List ℕ) → BoundLess a b → BoundLess b c → BoundLess a c
bound_trans a b c l m = (
  l.0,
  elim m.1 [
    | inl none ↦ inl none
    | inr less ↦ elim l.1 [ inl empty ↦ absurd (m.0 empty) | inr before ↦ inr (key_trans a b c before less) ]
  ],
)

-- ---- two children in place of one

pub all_here : {A : Type 0} (P : A → Type 0) (front back : List A) (c : A) → AllByRecursion P (front ++ c ∷ back) → P c
all_here P [] back c h = h.0
all_here P (f ∷ front) back c h = all_here P front back c h.1

all_two : {A : Type 0} (P : A → Type 0) (front back : List A) (c a d : A) → P a → P d
    → AllByRecursion P (front ++ c ∷ back) → AllByRecursion P (front ++ a ∷ d ∷ back)
all_two P [] back c a d pa pd h = (pa, (pd, h.1))
all_two P (f ∷ front) back c a d pa pd h = (h.0, all_two P front back c a d pa pd h.1)

above_all : (a d : EntryChild) (back : List EntryChild) → Below a d → AllByRecursion (Below d) back
    → AllByRecursion (Below a) back
above_all a d [] l h = tt
above_all a d (x ∷ back) l h = (bound_trans a.bound d.bound x.bound l h.0, above_all a d back l h.1)

same_all : (c d : EntryChild) (back : List EntryChild) → c.bound ≡ d.bound → AllByRecursion (Below c) back
    → AllByRecursion (Below d) back
same_all c d [] e h = tt
same_all c d (x ∷ back) e h = (subst (λ (b : List ℕ). BoundLess b x.bound) e h.0, same_all c d back e h.1)

rising_two : (front back : List EntryChild) (c a d : EntryChild) → c.bound ≡ d.bound → Below a d
    → ((b : EntryChild) → In b front → Below b a) → Rising Below (front ++ c ∷ back)
    → Rising Below (front ++ a ∷ d ∷ back)
rising_two [] back c a d e l above h =
    let later = same_all c d back e h.0 in ((l, above_all a d back l later), (later, h.1))
rising_two (f ∷ front) back c a d e l above h =
    let first : Below f d =
    subst (λ (b : List ℕ). BoundLess f.bound b) e (all_here (Below f) front back c h.0) in (
      all_two (Below f) front back c a d (above f (inl refl)) first h.0,
      rising_two front back c a d e l (λ b on. above b (inr on)) h.1,
    )

-- ---- how many bytes they have

abbrev fields : List EntryChild → List ℕ
fields children = flat_map entry_child_bytes children

fields_both : (front back : List EntryChild)
    → length (fields (front ++ back)) ≡ length (fields front) + length (fields back)
fields_both front back =
    ap length (flat_map-append entry_child_bytes front back) ∙ length-append (fields front) (fields back)

fields_more : (c : EntryChild) (back : List EntryChild)
    → length (fields (c ∷ back)) ≡ 6 + length c.bound + length (fields back)
fields_more c back = omega (arith, length-append (entry_child_bytes c) (fields back), length-entry_child_bytes c)

fields_two : (front back : List EntryChild) (c a d : EntryChild) → c.bound ≡ d.bound
    → length (fields (front ++ a ∷ d ∷ back)) ≡ length (fields (front ++ c ∷ back)) + (6 + length a.bound)
fields_two front back c a d e =
    omega (
      arith,
      ap length e,
      fields_both front (a ∷ d ∷ back),
      fields_both front (c ∷ back),
      fields_more a (d ∷ back),
      fields_more d back,
      fields_more c back,
    )

many_fields : (children : List EntryChild) → 6 * length children ≤ length (fields children)
many_fields [] = omega arith
many_fields (c ∷ children) = omega (arith, fields_more c children, many_fields children)

pub key_length : (key : List ℕ) → IsKey key → length key ≤ 2047
key_length [] is = absurd is
key_length (zero ∷ text) is = omega (arith, is.most)
key_length (suc zero ∷ rest) is = omega (arith, ap length is)
key_length (suc (suc b) ∷ rest) is = absurd is

pub not_none : {A : Type 0} (front : List A) (a : A) (back : List A) → front ++ a ∷ back ≢ []
not_none [] a back e = cc
not_none (f ∷ front) a back e = cc

-- ---- the page

divided : (right page new : ℕ) (mid bound : List ℕ) (front back : List EntryChild) → IsDivider mid bound front
    → new < page_limit → AreEntryChildren right (front ++ record { page = page; bound = bound } ∷ back)
    → AreEntryChildren right
    (front ++ record { page = page; bound = mid } ∷ record { page = new; bound = bound } ∷ back)
divided right page new mid bound front back div lt are =
    let old : EntryChild = record { page = page; bound = bound } in
    let first : EntryChild = record { page = page; bound = mid } in
    let second : EntryChild = record { page = new; bound = bound } in
    let here = all_here (IsEntryChild right) front back old are.each in
    let above : (b : EntryChild) → In b front → Below b first =
    λ b on. (before_key front back old b on are.rising, inr (div.above b on)) in
    record {
      some = not_none front first (second ∷ back);
      each = all_two (IsEntryChild right) front back old first second
          (record { page = here.page; bound = inl div.key }) (record { page = lt; bound = here.bound }) are.each;
      rising = rising_two front back old first second refl div.below above are.rising;
    }
  where
    first_some : (f c : EntryChild) (front back : List EntryChild) → AllByRecursion (Below f) (front ++ c ∷ back)
        → f.bound ≢ []
    first_some f c front back h = (all_here (Below f) front back c h).0

    before_key : (front back : List EntryChild) (c b : EntryChild) → In b front → Rising Below (front ++ c ∷ back)
        → b.bound ≢ []
    before_key [] back c b on h = absurd on
    before_key (f ∷ front) back c b (inl e) h =
        subst (λ (x : EntryChild). x.bound ≢ []) (sym e) (first_some f c front back h.0)
    before_key (f ∷ front) back c b (inr on) h = before_key front back c b on h.1

pub adopted_page : (p q : Page) (page new : ℕ) (mid : List ℕ) (w : EntryParent page new mid p.body q.body)
    → q ≡ record p { body = q.body } → IsDivider mid w.bound w.front → IsPage p → HasRoomForChild p → new < page_limit
    → IsPage q
adopted_page p q page new mid w same div is room lt =
    let old : List EntryChild = w.front ++ record { page = page; bound = w.bound } ∷ w.back in
    let more : List EntryChild =
    w.front ++ record { page = page; bound = mid } ∷ record { page = new; bound = w.bound } ∷ w.back in
    let on : AreEntryChildren p.right old = subst (IsBody p.right p.stamp) w.before is.body in
    let size : length (body_bytes p.body) ≡ length (fields old) = ap (λ (b : Body). length (body_bytes b)) w.before in
    let longer : length (fields more) ≡ length (fields old) + (6 + length mid) =
    fields_two w.front w.back (record { page = page; bound = w.bound }) (record { page = page; bound = mid })
    (record { page = new; bound = w.bound }) refl in
    let fits : length (fields more) ≤ most_body = omega (arith, room, size, longer, key_length mid div.key) in
    let made : IsPage (record p { body = body.EntryInner more }) = record {
      right = is.right;
      stamp = is.stamp;
      body = divided p.right page new mid w.bound w.front w.back div lt on;
      count = omega (arith, fits, many_fields more);
      fits = fits;
    } in
    subst IsPage (sym (same ∙ ap (λ (b : Body). record p { body = b }) w.after)) made

-- ---- the children as they are made

pub set_and_inserted : (old : List EntryChild) (k : ℕ) (a d : EntryChild) → k < length old
    → insert (set old k d) k a ≡ take k old ++ a ∷ d ∷ drop (suc k) old
set_and_inserted [] k a d lt = absurd (omega (arith, lt))
set_and_inserted (c ∷ old) zero a d lt = refl
set_and_inserted (c ∷ old) (suc k) a d lt =
    ap (λ (cs : List EntryChild). c ∷ cs) (set_and_inserted old k a d (omega (arith, lt)))

-- the parent, whose child of this number is the page
pub is_parent : (children more : List EntryChild) (k page new : ℕ) (mid : List ℕ) (c : EntryChild)
    → slice_get children k ≡ Some c → c.page ≡ page → IsOneMore children k new mid more
    → EntryParent page new mid (body.EntryInner children) (body.EntryInner more)
is_parent children more k page new mid c at is w =
    let one : w.child ≡ c = same_Some w.child c (sym w.was ∙ at) in
    let named : w.child.page ≡ page = ap (λ (x : EntryChild). x.page) one ∙ is in
    record {
      bound = w.child.bound;
      front = take k children;
      back = drop (suc k) children;
      before = ap body.EntryInner (sym (around children k w.child w.was)
          ∙ ap (λ (n : ℕ). take k children ++ record { page = n; bound = w.child.bound } ∷ drop (suc k) children)
          named);
      after = ap body.EntryInner (w.after
          ∙ ap (λ (n : ℕ). take k children ++ record { page = n; bound = mid }
          ∷ record { page = new; bound = w.child.bound } ∷ drop (suc k) children) named);
    }

pub named_there : (children : List EntryChild) (k page : ℕ) (c : EntryChild) → slice_get children k ≡ Some c
    → c.page ≡ page → ((b : EntryChild) → In b children → b.page ≢ page) → ⊥
named_there [] k page c at is none = absurd cc
named_there (d ∷ children) zero page c at is none =
    none d (inl refl) (ap (λ (x : EntryChild). x.page) (same_Some d c at) ∙ is)
named_there (d ∷ children) (suc k) page c at is none =
    named_there children k page c at is (λ b on. none b (inr on))
