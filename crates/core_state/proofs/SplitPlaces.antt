-- Where a page is divided: at half of its bytes, or after the longest first part that fits.
use Rattle.std.proofs.Common.{◌≡◌, ◌≢◌, ◌+◌, ◌<◌, ◌≤◌, ℕ, List, [], ◌∷◌, ◌++◌, length, refl, sym, ap}
use Rattle.std.proofs.Common.{subst}
use Rattle.std.proofs.Common.{◌∙◌, inl, inr, arith, length-append, append_assoc}
use Rattle.std.specs.List.{flat_map}
use Rattle.std.proofs.lemmas.Bool.{cases_lt}
use Rattle.page_types.specs.Items.{item_list_from, item_list, AreItemsFrom, AreItems, items_of, IsItemList}
use Rattle.page_types.specs.ItemReading.{last_or}
use Rattle.page_types.proofs.ItemLists.{have_lists}
use Rattle.page_types.proofs.ItemReading.{last_of-more}
use Rattle.page_types.proofs.BodySizes.{length-key_field, length-posting}
use Rattle.core_state.specs.Log.{In}
use Rattle.core_state.proofs.PageLists.{in_back}
use Rattle.core_state.proofs.TakenItems.{above_last}
use Rattle.core_state.proofs.ListHalves.{list_apart, rise_apart, in_last}
use Rattle.core_state.proofs.Halves.{post_leaf_back}
use Rattle.std.proofs.lemmas.List.Concat.{flat_map-append}
use Rattle.ts_base.specs.Keys.{Key}
use Rattle.page_types.specs.Numbers.{most_body}
use Rattle.page_types.specs.Encoding.{body_bytes, count_of, entry_bytes, entry_child_bytes, post_child_bytes}
use Rattle.page_types.specs.Encoding.{high_key_bytes, key_field}
use Rattle.page_types.specs.declared.page.Entry.{Entry}
use Rattle.page_types.specs.declared.page.EntryChild.{EntryChild}
use Rattle.page_types.specs.declared.page.PostChild.{PostChild}
use Rattle.page_types.specs.declared.page.Body.{Body}
use Rattle.page_types.specs.declared.page.Body.TheVariants as body
use Rattle.core_state.specs.TreeRules.{EntryHalves, PostHalves, Halves, KeepsHalf, FitsPage, IsSplitPlace}
use Rattle.core_state.specs.TreeRules.{listed_bytes}
use Rattle.core_state.specs.Inner.SplitPages.{NoLonger, IsLongest}

-- ---- two ways to cut a list

-- where the first part of one cut is the longer, it goes on into the second part of the other
pub record GoesOn {A : Type 0} (f : List A) (x : A) (g F B : List A) : Type 0 where
  pub a : List A
  pub front : f ≡ F ++ a
  pub back : B ≡ a ++ x ∷ g

pub goes_on : {A : Type 0} (f : List A) (x : A) (g F B : List A) → f ++ x ∷ g ≡ F ++ B → length F ≤ length f
    → GoesOn f x g F B
goes_on f x g [] B e le = record { a = f; front = refl; back = sym e }
goes_on [] x g (y ∷ F) B e le = absurd (omega (arith, le))
goes_on (z ∷ f) x g (y ∷ F) B e le =
    let heads : z ≡ y = cc in
    let tails : f ++ x ∷ g ≡ F ++ B = cc in
    let more = goes_on f x g F B tails (omega (arith, le)) in
    record {
      a = more.a;
      front = ap (λ w. w ∷ f) heads ∙ ap (λ ws. y ∷ ws) more.front;
      back = more.back;
    }

-- where it is not longer, it is a first part of the other's
pub stops : {A : Type 0} (f g F B : List A) → f ++ g ≡ F ++ B → length f ≤ length F
    → (a : List A) × (F ≡ f ++ a)
stops [] g F B e le = (F, refl)
stops (z ∷ f) g [] B e le = absurd (omega (arith, le))
stops (z ∷ f) g (y ∷ F) B e le =
    let heads : z ≡ y = cc in
    let tails : f ++ g ≡ F ++ B = cc in
    let more = stops f g F B tails (omega (arith, le)) in
    (more.0, ap (λ w. w ∷ F) (sym heads) ∙ ap (λ ws. z ∷ ws) more.1)

bytes_less : {A : Type 0} (bytes : A → List ℕ) (f a : List A)
    → length (flat_map bytes f) ≤ length (flat_map bytes (f ++ a))
bytes_less bytes f a =
    omega (arith, ap length (flat_map-append bytes f a), length-append (flat_map bytes f) (flat_map bytes a))

pub some_length : {A : Type 0} (xs : List A) → xs ≢ [] → 0 < length xs
some_length [] some = absurd (some refl)
some_length (x ∷ xs) some = omega arith

-- a first part that is no longer than another has no more bytes
abbrev pub IsUnder : Body → Body → Type 0
IsUnder whole left =
    (l r : Body) → Halves whole l r → count_of l ≤ count_of left
    → length (listed_bytes l) ≤ length (listed_bytes left)

-- where the first part has less than half of the bytes, only the longest one will do
pub longest_place : (whole left : Body) → (KeepsHalf whole left → ⊥) → IsUnder whole left → IsLongest whole left
    → IsSplitPlace whole left
longest_place whole left less under best =
    IsSplitPlace.longest
    (λ l r h half fits other.
    let under_it = under l r h (best l r h fits) in
    less (omega (arith, half, under_it)))
    best

pub place_longest : (whole left : Body) → (KeepsHalf whole left → ⊥) → IsSplitPlace whole left → IsLongest whole left
place_longest whole left less (IsSplitPlace.half h) = absurd (less h)
place_longest whole left less (IsSplitPlace.longest none best) = best

-- ---- leaves of entries

leaf_size : (key : Key) (entries : List Entry) → key ≢ [] → length (high_key_bytes key ++ flat_map entry_bytes entries)
    ≡ (2 + length key) + length (flat_map entry_bytes entries)
leaf_size [] entries some = absurd (some refl)
leaf_size (b ∷ bs) entries some =
    omega (arith, length-append (key_field (b ∷ bs)) (flat_map entry_bytes entries), length-key_field (b ∷ bs))

module _ (high mid : Key) (F B : List Entry) where
  -- what a cut of the whole is
  record LeafCut (l : Body) : Type 0 where
    f : List Entry
    last : Entry
    g : List Entry
    some : g ≢ []
    joined : f ++ last ∷ g ≡ F ++ B
    left : l ≡ body.EntryLeaf last.key (f ++ last ∷ [])

  leaf_cut : (whole l r : Body) → Halves whole l r → whole ≡ body.EntryLeaf high (F ++ B) → LeafCut l
  leaf_cut _ _ _ (Halves.of_leaf h last f g some) e = record {
    f = f;
    last = last;
    g = g;
    some = some;
    joined = cc;
    left = refl;
  }
  leaf_cut _ _ _ (Halves.of_inner m children halves) e = absurd (cc (e))
  leaf_cut _ _ _ (Halves.of_post_leaf h m items f g is_f is_g halves) e = absurd (cc (e))
  leaf_cut _ _ _ (Halves.of_post_inner m children halves) e = absurd (cc (e))

  pub leaf_under : IsUnder (body.EntryLeaf high (F ++ B)) (body.EntryLeaf mid F)
  leaf_under l r h le =
      let c = leaf_cut (body.EntryLeaf high (F ++ B)) l r h refl in
      let size : count_of l ≡ length (c.f ++ c.last ∷ []) = ap count_of c.left in
      let s = stops (c.f ++ c.last ∷ []) c.g F B (append_assoc c.f (c.last ∷ []) c.g ∙ c.joined)
      (omega (arith, size, le)) in
      let more = bytes_less entry_bytes (c.f ++ c.last ∷ []) s.0 in
      omega (
        arith,
        more,
        ap (λ (b : Body). length (listed_bytes b)) c.left,
        ap (λ (es : List Entry). length (flat_map entry_bytes es)) s.1,
      )

  -- no longer first part fits, by what comes after it
  pub longest_leaf : ((e : Entry) → In e (F ++ B) → e.key ≢ []) → NoLonger (length (flat_map entry_bytes F)) B
      → IsLongest (body.EntryLeaf high (F ++ B)) (body.EntryLeaf mid F)
  longest_leaf keys none l r h fits =
      let c = leaf_cut (body.EntryLeaf high (F ++ B)) l r h refl in
      let size : count_of l ≡ length c.f + 1 = ap count_of c.left ∙ length-append c.f (c.last ∷ []) in
      elim (cases_lt (length c.f) (length F)) [
        | inl lt ↦ omega (arith, size, lt)
        | inr ge ↦
            let o = goes_on c.f c.last c.g F B c.joined ge in
            let past = none o.a c.last c.g o.back c.some in
            let there : In c.last (F ++ B) =
            subst (In c.last) c.joined (in_back c.last c.f (c.last ∷ c.g) (inl refl)) in
            let bytes : length (body_bytes l) ≡ (2 + length c.last.key)
            + length (flat_map entry_bytes (c.f ++ c.last ∷ [])) =
            ap (λ (b : Body). length (body_bytes b)) c.left
            ∙ leaf_size c.last.key (c.f ++ c.last ∷ []) (keys c.last there) in
            let parts : flat_map entry_bytes (c.f ++ c.last ∷ [])
            ≡ flat_map entry_bytes F ++ flat_map entry_bytes (o.a ++ c.last ∷ []) =
            ap (λ (es : List Entry). flat_map entry_bytes (es ++ c.last ∷ [])) o.front
            ∙ ap (flat_map entry_bytes) (append_assoc F o.a (c.last ∷ []))
            ∙ flat_map-append entry_bytes F (o.a ++ c.last ∷ []) in
            absurd (omega (
              arith,
              fits,
              past,
              bytes,
              ap length parts,
              length-append (flat_map entry_bytes F) (flat_map entry_bytes (o.a ++ c.last ∷ [])),
            ))
      ]

  pub none_longer : ((e : Entry) → In e (F ++ B) → e.key ≢ [])
      → IsLongest (body.EntryLeaf high (F ++ B)) (body.EntryLeaf mid F)
      → NoLonger (length (flat_map entry_bytes F)) B
  none_longer keys best a e b back some =
      let cut : F ++ B ≡ (F ++ a) ++ e ∷ b =
      ap (λ (es : List Entry). F ++ es) back ∙ sym (append_assoc F a (e ∷ b)) in
      let l = body.EntryLeaf e.key ((F ++ a) ++ e ∷ []) in
      let h : Halves (body.EntryLeaf high (F ++ B)) l (body.EntryLeaf high b) =
      subst (λ (es : List Entry). Halves (body.EntryLeaf high es) l (body.EntryLeaf high b)) (sym cut)
      (Halves.of_leaf high e (F ++ a) b some) in
      let there : In e (F ++ B) = subst (In e) (sym cut) (in_back e (F ++ a) (e ∷ b) (inl refl)) in
      let bytes = leaf_size e.key ((F ++ a) ++ e ∷ []) (keys e there) in
      let parts : flat_map entry_bytes ((F ++ a) ++ e ∷ [])
      ≡ flat_map entry_bytes F ++ flat_map entry_bytes (a ++ e ∷ []) =
      ap (flat_map entry_bytes) (append_assoc F a (e ∷ [])) ∙ flat_map-append entry_bytes F (a ++ e ∷ []) in
      elim (cases_lt most_body (length (body_bytes l))) [
        | inl over ↦ omega (
          arith,
          over,
          bytes,
          ap length parts,
          length-append (flat_map entry_bytes F) (flat_map entry_bytes (a ++ e ∷ [])),
        )
        | inr fits ↦
            let most = best l (body.EntryLeaf high b) h fits in
            absurd (omega (arith, most, length-append (F ++ a) (e ∷ []), length-append F a))
      ]

-- ---- inner pages of either tree

-- a page of children in two parts
pub record ChildrenCut {A : Type 0} (page : List A → Body) (children : List A) (l : Body) : Type 0 where
  pub f : List A
  pub last : A
  pub g : List A
  pub some : g ≢ []
  pub joined : f ++ last ∷ g ≡ children
  pub left : l ≡ page (f ++ last ∷ [])

-- pages of children, each with these bytes
pub record AreInner {A : Type 0} (bytes : A → List ℕ) (page : List A → Body) : Type 0 where
  pub count : (cs : List A) → count_of (page cs) ≡ length cs
  pub listed : (cs : List A) → listed_bytes (page cs) ≡ flat_map bytes cs
  pub size : (cs : List A) → body_bytes (page cs) ≡ flat_map bytes cs
  pub cut : (cs : List A) (l r : Body) → Halves (page cs) l r → ChildrenCut page cs l
  pub parts : (f : List A) (x y : A) (g : List A)
      → Halves (page (f ++ x ∷ y ∷ g)) (page (f ++ x ∷ [])) (page (y ∷ g))

module _ {A : Type 0} {bytes : A → List ℕ} {page : List A → Body} (inner : AreInner bytes page) (F B : List A) where
  pub inner_under : IsUnder (page (F ++ B)) (page F)
  inner_under l r h le =
      let c = inner.cut (F ++ B) l r h in
      let part = c.f ++ c.last ∷ [] in
      let size : count_of l ≡ length part = ap count_of c.left ∙ inner.count part in
      let s = stops part c.g F B (append_assoc c.f (c.last ∷ []) c.g ∙ c.joined)
      (omega (arith, size, le, inner.count F)) in
      omega (
        arith,
        bytes_less bytes part s.0,
        ap (λ (b : Body). length (listed_bytes b)) c.left,
        ap length (inner.listed part),
        ap length (inner.listed F),
        ap (λ (cs : List A). length (flat_map bytes cs)) s.1,
      )

  pub longest_inner : length B ≡ 1 → IsLongest (page (F ++ B)) (page F)
  longest_inner one l r h fits =
      let c = inner.cut (F ++ B) l r h in
      let size : count_of l ≡ length c.f + 1 =
      ap count_of c.left ∙ inner.count (c.f ++ c.last ∷ []) ∙ length-append c.f (c.last ∷ []) in
      omega (
        arith,
        size,
        some_length c.g c.some,
        one,
        ap length c.joined,
        length-append c.f (c.last ∷ c.g),
        length-append F B,
        inner.count F,
      )

  pub inner_one : B ≢ [] → FitsPage (page (F ++ B)) → IsLongest (page (F ++ B)) (page F) → length B ≡ 1
  inner_one some fits best = by B refl
    where
      by : (C : List A) → B ≡ C → length B ≡ 1
      by [] e = absurd (some e)
      by (x ∷ []) e = ap length e
      by (x ∷ y ∷ more) e =
          let whole : F ++ x ∷ y ∷ more ≡ F ++ B = ap (λ (cs : List A). F ++ cs) (sym e) in
          let l = page (F ++ x ∷ []) in
          let r = page (y ∷ more) in
          let h : Halves (page (F ++ B)) l r =
          subst (λ (cs : List A). Halves (page cs) l r) whole (inner.parts F x y more) in
          let same : (F ++ x ∷ []) ++ y ∷ more ≡ F ++ B = append_assoc F (x ∷ []) (y ∷ more) ∙ whole in
          let small : FitsPage l = omega (
            arith,
            bytes_less bytes (F ++ x ∷ []) (y ∷ more),
            fits,
            ap length (inner.size (F ++ x ∷ [])),
            ap length (inner.size (F ++ B)),
            ap (λ (cs : List A). length (flat_map bytes cs)) same,
          ) in
          absurd (omega (
            arith,
            best l r h small,
            length-append F (x ∷ []),
            inner.count (F ++ x ∷ []),
            inner.count F,
          ))

entry_cut : (m : Key) (whole l r : Body) → EntryHalves m whole l r → (cs : List EntryChild)
    → whole ≡ body.EntryInner cs → ChildrenCut body.EntryInner cs l
entry_cut m _ _ _ (EntryHalves.leaves h f g some_f some_b up_to above) cs e = absurd (cc (e))
entry_cut m _ _ _ (EntryHalves.inners last f g some same) cs e =
    record { f = f; last = last; g = g; some = some; joined = cc; left = refl }

entry_parts : (whole l r : Body) → Halves whole l r → (cs : List EntryChild) → whole ≡ body.EntryInner cs
    → ChildrenCut body.EntryInner cs l
entry_parts _ _ _ (Halves.of_leaf h last f g some) cs e = absurd (cc (e))
entry_parts _ l r (Halves.of_inner m others halves) cs e = entry_cut m (body.EntryInner others) l r halves cs e
entry_parts _ _ _ (Halves.of_post_leaf h m items f g is_f is_g halves) cs e = absurd (cc (e))
entry_parts _ _ _ (Halves.of_post_inner m others halves) cs e = absurd (cc (e))

pub entry_inner : AreInner entry_child_bytes body.EntryInner
entry_inner = record {
  count = λ cs. refl;
  listed = λ cs. refl;
  size = λ cs. refl;
  cut = λ cs l r h. entry_parts (body.EntryInner cs) l r h cs refl;
  parts = λ f x y g. Halves.of_inner x.bound (f ++ x ∷ y ∷ g)
      (EntryHalves.inners x f (y ∷ g) (λ n. absurd (cc (n))) refl);
}

post_cut : (m : ℕ) (whole l r : Body) → PostHalves m whole l r → (cs : List PostChild) → whole ≡ body.PostInner cs
    → ChildrenCut body.PostInner cs l
post_cut m _ _ _ (PostHalves.leaves h is f g some_f some_b joined up_to above) cs e = absurd (cc (e))
post_cut m _ _ _ (PostHalves.inners last f g some same) cs e =
    record { f = f; last = last; g = g; some = some; joined = cc; left = refl }

post_parts : (whole l r : Body) → Halves whole l r → (cs : List PostChild) → whole ≡ body.PostInner cs
    → ChildrenCut body.PostInner cs l
post_parts _ _ _ (Halves.of_leaf h last f g some) cs e = absurd (cc (e))
post_parts _ _ _ (Halves.of_inner m others halves) cs e = absurd (cc (e))
post_parts _ _ _ (Halves.of_post_leaf h m items f g is_f is_g halves) cs e = absurd (cc (e))
post_parts _ l r (Halves.of_post_inner m others halves) cs e = post_cut m (body.PostInner others) l r halves cs e

pub post_inner : AreInner post_child_bytes body.PostInner
post_inner = record {
  count = λ cs. refl;
  listed = λ cs. refl;
  size = λ cs. refl;
  cut = λ cs l r h. post_parts (body.PostInner cs) l r h cs refl;
  parts = λ f x y g. Halves.of_post_inner x.bound (f ++ x ∷ y ∷ g)
      (PostHalves.inners x f (y ∷ g) (λ n. absurd (cc (n))) refl);
}

-- ---- leaves of posting trees

record ListCut (items : List ℕ) (l : Body) : Type 0 where
  pub m : ℕ
  pub f : List ℕ
  pub g : List ℕ
  pub is_f : IsItemList f
  pub some : items_of g ≢ []
  pub joined : items_of f ++ items_of g ≡ items_of items
  pub left : l ≡ body.PostLeaf m f

list_cut : (whole l r : Body) → Halves whole l r → (high : ℕ) (items : List ℕ) → whole ≡ body.PostLeaf high items
    → ListCut items l
list_cut _ _ _ (Halves.of_leaf h last f g some) high items e = absurd (cc (e))
list_cut _ _ _ (Halves.of_inner m children halves) high items e = absurd (cc (e))
list_cut _ _ _ (Halves.of_post_leaf h m is f g is_f is_g halves) high items e =
    let b = post_leaf_back m (body.PostLeaf h is) (body.PostLeaf m f) (body.PostLeaf h g) halves h m h is f g refl refl
    refl in
    let same : is ≡ items = cc in
    record {
      m = m;
      f = f;
      g = g;
      is_f = is_f;
      some = b.divides.some_back;
      joined = sym b.divides.joined ∙ ap items_of same;
      left = refl;
    }
list_cut _ _ _ (Halves.of_post_inner m children halves) high items e = absurd (cc (e))

rise_front : (last : ℕ) (front back : List ℕ) → AreItemsFrom last (front ++ back) → AreItemsFrom last front
rise_front last [] back h = tt
rise_front last (i ∷ is) back h = (h.0, h.1, rise_front i is back h.2)

rise_from : (last : ℕ) (items : List ℕ) → AreItemsFrom last items → AreItems items
rise_from last [] h = tt
rise_from last (i ∷ is) h = (omega (arith, h.0), h.1, h.2)

front_bytes : (front back : List ℕ) → length (item_list front) ≤ length (item_list (front ++ back))
front_bytes front back = omega (
  arith,
  ap length (list_apart 0 front back),
  length-append (item_list front) (item_list_from (last_or 0 front) back),
)

module _ (high mid : ℕ) (items front back : List ℕ) (are : IsItemList items) (are_front : IsItemList front)
    (joined : items_of items ≡ items_of front ++ items_of back) where
  pub list_under : IsUnder (body.PostLeaf high items) (body.PostLeaf mid front)
  list_under l r h le =
      let c = list_cut (body.PostLeaf high items) l r h high items refl in
      let size : count_of l ≡ length (items_of c.f) = ap count_of c.left in
      let s = stops (items_of c.f) (items_of c.g) (items_of front) (items_of back) (c.joined ∙ joined)
      (omega (arith, size, le)) in
      omega (
        arith,
        front_bytes (items_of c.f) s.0,
        ap (λ (b : Body). length (listed_bytes b)) c.left,
        ap length c.is_f.encoding,
        ap length are_front.encoding,
        ap (λ (xs : List ℕ). length (item_list xs)) s.1,
      )

  pub longest_list : length (items_of back) ≡ 1 → IsLongest (body.PostLeaf high items) (body.PostLeaf mid front)
  longest_list one l r h fits =
      let c = list_cut (body.PostLeaf high items) l r h high items refl in
      omega (
        arith,
        ap count_of c.left,
        one,
        some_length (items_of c.g) c.some,
        ap length (c.joined ∙ joined),
        length-append (items_of c.f) (items_of c.g),
        length-append (items_of front) (items_of back),
      )

  pub list_one : items_of back ≢ [] → FitsPage (body.PostLeaf high items)
      → IsLongest (body.PostLeaf high items) (body.PostLeaf mid front) → length (items_of back) ≡ 1
  list_one some fits best = by (items_of back) refl
    where
      F : List ℕ
      F = items_of front

      by : (C : List ℕ) → items_of back ≡ C → length (items_of back) ≡ 1
      by [] e = absurd (some e)
      by (x ∷ []) e = ap length e
      by (x ∷ y ∷ more) e =
          let all : items_of items ≡ (items_of front ++ x ∷ []) ++ y ∷ more =
          joined ∙ ap (λ (xs : List ℕ). items_of front ++ xs) e
          ∙ sym (append_assoc (items_of front) (x ∷ []) (y ∷ more)) in
          let rise : AreItemsFrom 0 ((items_of front ++ x ∷ []) ++ y ∷ more) = subst AreItems all are.items in
          let low = rise_front 0 (items_of front ++ x ∷ []) (y ∷ more) rise in
          let last : last_or 0 (items_of front ++ x ∷ []) ≡ x = last_of-more 0 (items_of front) x in
          let high_rise : AreItemsFrom x (y ∷ more) = subst (λ (z : ℕ). AreItemsFrom z (y ∷ more)) last
          (rise_apart 0 (items_of front ++ x ∷ []) (y ∷ more) rise) in
          let f = have_lists (items_of front ++ x ∷ []) low in
          let g = have_lists (y ∷ more) (rise_from x (y ∷ more) high_rise) in
          let l = body.PostLeaf x (item_list (items_of front ++ x ∷ [])) in
          let r = body.PostLeaf high (item_list (y ∷ more)) in
          let halves : PostHalves x (body.PostLeaf high items) l r = PostHalves.leaves high items
          (item_list (items_of front ++ x ∷ [])) (item_list (y ∷ more))
          (λ n. omega (arith, ap length (sym f.items_are ∙ n), length-append (items_of front) (x ∷ [])))
          (λ n. absurd (cc (g.items_are, n)))
          (all ∙ sym (ap (λ (xs : List ℕ). xs ++ items_of (item_list (y ∷ more))) f.items_are
          ∙ ap (λ (xs : List ℕ). (items_of front ++ x ∷ []) ++ xs) g.items_are))
          (λ i w. omega (arith, last, in_last 0 (items_of front ++ x ∷ []) low i (subst (In i) f.items_are w)))
          (λ i w. above_last x (y ∷ more) high_rise i (subst (In i) g.items_are w)) in
          let h : Halves (body.PostLeaf high items) l r = Halves.of_post_leaf high x items
          (item_list (items_of front ++ x ∷ [])) (item_list (y ∷ more)) f.is_list g.is_list halves in
          let small : FitsPage l = omega (
            arith,
            fits,
            front_bytes (items_of front ++ x ∷ []) (y ∷ more),
            ap length are.encoding,
            ap (λ (xs : List ℕ). length (item_list xs)) all,
            length-posting high items,
            length-posting x (item_list (items_of front ++ x ∷ [])),
          ) in
          let most = best l r h small in
          absurd (omega (arith, most, ap length f.items_are, length-append (items_of front) (x ∷ [])))
