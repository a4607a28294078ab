-- The two pages of a split have an encoding, and are what a record of their kind asks of pages.
use Rattle.std.proofs.Common.{◌≡◌, ◌≢◌, ◌⊎◌, ℕ, zero, suc, ◌*◌, ◌<◌, ◌≤◌, List, [], ◌∷◌, ◌++◌, length, take, drop, refl}
use Rattle.std.proofs.Common.{sym, ap, subst, ◌∙◌, append_assoc, inl, inr, arith}
use Rattle.std.proofs.lemmas.Bool.{cases_lt}
use Rattle.std.specs.List.{AllByRecursion, flat_map}
use Rattle.std.proofs.lemmas.List.{length-append, length-drop}
use Rattle.page_types.specs.Numbers.{page_limit}
use Rattle.page_types.specs.Keys.{IsKey, KeyLess, BoundLess, Rising}
use Rattle.page_types.specs.Pages.{IsPage, IsBody, IsEntry, IsEntryChild}
use Rattle.page_types.specs.Encoding.{entry_bytes, entry_child_bytes, count_of}
use Rattle.page_types.specs.declared.page.Page.{Page}
use Rattle.page_types.specs.declared.page.Entry.{Entry}
use Rattle.page_types.specs.declared.page.EntryChild.{EntryChild}
use Rattle.page_types.specs.declared.page.Body.{Body}
use Rattle.page_types.specs.declared.page.Body.TheVariants as body
use Rattle.core_state.specs.Log.{In}
use Rattle.core_state.specs.Changes.{made_with}
use Rattle.core_state.specs.TreeRules.{EntryHalves, Halves, KeepsHalf, FitsPage, IsSplitPlace, IsDivided, listed_bytes}
use Rattle.posting_code.specs.Cutting.{IsMost, IsEven, IsCut}
use Rattle.posting_code.specs.declared.dividing.Keep.{Keep}
use Rattle.entry_tree.specs.Finding.{IsEntryBody}
use Rattle.entry_tree.specs.Reading.{last_bound, upper_in}
use Rattle.entry_tree.specs.Splitting.{body_cutting, AreParts}
use Rattle.entry_tree.specs.Logging.{SplitPagesAreLogged}
use Rattle.entry_tree.specs.Inner.Parts.{last_key, left_of, right_of, bytes_before, IsCutPlace}
use Rattle.entry_tree.proofs.FoundPlaces.{all_there}
use Rattle.entry_tree.proofs.EntryLists.{all_in}
use Rattle.entry_tree.proofs.AdoptedPages.{all_here, not_none}
use Rattle.entry_tree.proofs.SplitParts.{there_is, last_key-take, some_left, halves_only, count_left}
use Rattle.entry_tree.proofs.SplitParts.{left_listed, right_small}

-- ---- beginnings and ends of lists

all_take : {A : Type 0} (P : A → Type 0) (n : ℕ) (xs : List A) → AllByRecursion P xs → AllByRecursion P (take n xs)
all_take P zero xs h = tt
all_take P (suc n) [] h = tt
all_take P (suc n) (x ∷ xs) h = (h.0, all_take P n xs h.1)

all_drop : {A : Type 0} (P : A → Type 0) (n : ℕ) (xs : List A) → AllByRecursion P xs → AllByRecursion P (drop n xs)
all_drop P zero xs h = h
all_drop P (suc n) [] h = tt
all_drop P (suc n) (x ∷ xs) h = all_drop P n xs h.1

rising_take : {A : Type 0} (R : A → A → Type 0) (n : ℕ) (xs : List A) → Rising R xs → Rising R (take n xs)
rising_take R zero xs h = tt
rising_take R (suc n) [] h = tt
rising_take R (suc n) (x ∷ xs) h = (all_take (R x) n xs h.0, rising_take R n xs h.1)

rising_drop : {A : Type 0} (R : A → A → Type 0) (n : ℕ) (xs : List A) → Rising R xs → Rising R (drop n xs)
rising_drop R zero xs h = h
rising_drop R (suc n) [] h = tt
rising_drop R (suc n) (x ∷ xs) h = rising_drop R n xs h.1

-- what comes before and after an element of a list that rises
middle_less : {A : Type 0} (R : A → A → Type 0) (front back : List A) (x f : A) → Rising R (front ++ x ∷ back)
    → In f front → R f x
middle_less R [] back x f h on = absurd on
middle_less R (g ∷ front) back x f h (inl e) = subst (λ y. R y x) (sym e) (all_here (R g) front back x h.0)
middle_less R (g ∷ front) back x f h (inr on) = middle_less R front back x f h.1 on

middle_greater : {A : Type 0} (R : A → A → Type 0) (front back : List A) (x b : A) → Rising R (front ++ x ∷ back)
    → In b back → R x b
middle_greater R [] back x b h on = all_in (R x) back b h.0 on
middle_greater R (g ∷ front) back x b h on = middle_greater R front back x b h.1 on

-- ---- the pages

some_take : {A : Type 0} (k : ℕ) (xs : List A) → k < length xs → take (suc k) xs ≢ []
some_take k [] lt e = absurd (omega (arith, lt))
some_take k (x ∷ xs) lt e = absurd cc

keyed : (right new : ℕ) (c : EntryChild) → c.bound ≢ [] → IsEntryChild right c → IsEntryChild new c
keyed right new c some is = record {
  page = is.page;
  bound = elim is.bound [ inl key ↦ inl key | inr none ↦ absurd (some none.0) ];
}

children_take : (right new k : ℕ) (children : List EntryChild) → suc k < length children
    → AllByRecursion (IsEntryChild right) children → Rising (λ c d. BoundLess c.bound d.bound) children
    → AllByRecursion (IsEntryChild new) (take (suc k) children)
children_take right new k [] lt each rises = absurd (omega (arith, lt))
children_take right new k (c ∷ []) lt each rises = absurd (omega (arith, lt))
children_take right new zero (c ∷ d ∷ children) lt each rises = (keyed right new c rises.0.0.0 each.0, tt)
children_take right new (suc k) (c ∷ d ∷ children) lt each rises = (
  keyed right new c rises.0.0.0 each.0,
  children_take right new k (d ∷ children) (omega (arith, lt)) each.1 rises.1,
)

left_body : (right stamp new : ℕ) (whole : Body) (k : ℕ) → IsEntryBody whole → IsCutPlace whole k → new ≢ 0
    → IsBody right stamp whole → IsBody new stamp (left_of whole k)
left_body right stamp new _ k (IsEntryBody.leaf high entries) lt some on =
    let r = there_is entries k (omega (arith, lt)) in
    let key : IsKey (last_key (take (suc k) entries)) =
    subst IsKey (sym (last_key-take entries k r.0 r.1)) (all_there IsEntry entries k r.0 on.1.each r.1).key in (
      inr (some, key),
      record {
        each = all_take IsEntry (suc k) entries on.1.each;
        rising = rising_take (λ d e. KeyLess d.key e.key) (suc k) entries on.1.rising;
      },
    )
left_body right stamp new _ k (IsEntryBody.inner children) lt some on = record {
  some = some_take k children (omega (arith, lt));
  each = children_take right new k children lt on.each on.rising;
  rising = rising_take (λ c d. BoundLess c.bound d.bound) (suc k) children on.rising;
}

right_body : (right stamp : ℕ) (whole : Body) (k : ℕ) → IsEntryBody whole → IsCutPlace whole k
    → IsBody right stamp whole → IsBody right stamp (right_of whole k)
right_body right stamp _ k (IsEntryBody.leaf high entries) lt on = (
  on.0,
  record {
    each = all_drop IsEntry (suc k) entries on.1.each;
    rising = rising_drop (λ d e. KeyLess d.key e.key) (suc k) entries on.1.rising;
  },
)
right_body right stamp _ k (IsEntryBody.inner children) lt on = record {
  some = some_left children (suc k) lt;
  each = all_drop (IsEntryChild right) (suc k) children on.each;
  rising = rising_drop (λ c d. BoundLess c.bound d.bound) (suc k) children on.rising;
}

count_right : (whole : Body) (k : ℕ) → IsEntryBody whole → count_of (right_of whole k) ≤ count_of whole
count_right _ k (IsEntryBody.leaf high entries) = omega (arith, length-drop (suc k) entries)
count_right _ k (IsEntryBody.inner children) = omega (arith, length-drop (suc k) children)

pub left_page : (p q : Page) (k new : ℕ) → IsPage p → IsEntryBody p.body → IsCutPlace p.body k
    → FitsPage (left_of p.body k) → new ≢ 0 → new < page_limit
    → q ≡ record p { right = new; body = left_of p.body k } → IsPage q
left_page p q k new page is place fits some lt e =
    let made : IsPage (record p { right = new; body = left_of p.body k }) = record {
      right = lt;
      stamp = page.stamp;
      body = left_body p.right p.stamp new p.body k is place some page.body;
      count = omega (arith, count_left p.body k is (omega (arith, place)), place, page.count);
      fits = fits;
    } in
    subst IsPage (sym e) made

pub right_page : (p q : Page) (k : ℕ) → IsPage p → IsEntryBody p.body → IsCutPlace p.body k
    → q ≡ record p { body = right_of p.body k } → IsPage q
right_page p q k page is place e =
    let made : IsPage (record p { body = right_of p.body k }) = record {
      right = page.right;
      stamp = page.stamp;
      body = right_body p.right p.stamp p.body k is place page.body;
      count = omega (arith, count_right p.body k is, page.count);
      fits = omega (arith, right_small p.body k is, page.fits);
    } in
    subst IsPage (sym e) made

-- ---- what the record asks

-- the division of a cut
even_divides : (whole left right : Body) → IsEven (body_cutting whole) left right → Halves whole left right
even_divides whole left right (IsEven.half half fits_l fits_r) = half.divides
even_divides whole left right (IsEven.longest none most) = most.divides

cut_divides : (whole left right : Body) (keep : Keep) → IsCut (body_cutting whole) left right keep
    → Halves whole left right
cut_divides whole left right _ (IsCut.half even) = even_divides whole left right even
cut_divides whole left right _ (IsCut.most most keeps) = most.divides
cut_divides whole left right _ (IsCut.no_most none even) = even_divides whole left right even

even_fits : (whole left right : Body) → IsEven (body_cutting whole) left right → FitsPage left
even_fits whole left right (IsEven.half half fits_l fits_r) = fits_l
even_fits whole left right (IsEven.longest none most) = most.fits

pub cut_fits : (whole left right : Body) (keep : Keep) → IsCut (body_cutting whole) left right keep → FitsPage left
cut_fits whole left right _ (IsCut.half even) = even_fits whole left right even
cut_fits whole left right _ (IsCut.most most keeps) = most.fits
cut_fits whole left right _ (IsCut.no_most none even) = even_fits whole left right even

less_before : {A : Type 0} (f : A → List ℕ) (xs : List A) (j k : ℕ) → j ≤ k
    → length (flat_map f (take j xs)) ≤ length (flat_map f (take k xs))
less_before f xs zero k le = omega arith
less_before f xs (suc j) zero le = absurd (omega (arith, le))
less_before f [] (suc j) (suc k) le = omega arith
less_before f (x ∷ xs) (suc j) (suc k) le = omega (
  arith,
  length-append (f x) (flat_map f (take j xs)),
  length-append (f x) (flat_map f (take k xs)),
  less_before f xs j k (omega (arith, le)),
)

before_rises : (whole : Body) (j k : ℕ) → IsEntryBody whole → j ≤ k
    → length (bytes_before whole j) ≤ length (bytes_before whole k)
before_rises _ j k (IsEntryBody.leaf high entries) le = less_before entry_bytes entries j k le
before_rises _ j k (IsEntryBody.inner children) le = less_before entry_child_bytes children j k le

-- a first part with more members has no fewer bytes
more_bytes : (whole l r left right : Body) → IsEntryBody whole → Halves whole l r → Halves whole left right
    → count_of l ≤ count_of left → length (listed_bytes l) ≤ length (listed_bytes left)
more_bytes whole l r left right is d e le =
    let a = halves_only whole l r is d in
    let b = halves_only whole left right is e in
    let pa = a.place in
    let pb = b.place in
    let order : a.at ≤ b.at = omega (
      arith,
      le,
      ap count_of a.left_is,
      ap count_of b.left_is,
      count_left whole a.at is (omega (arith, pa)),
      count_left whole b.at is (omega (arith, pb)),
    ) in
    omega (
      arith,
      ap (λ (c : Body). length (listed_bytes c)) a.left_is,
      ap (λ (c : Body). length (listed_bytes c)) b.left_is,
      left_listed whole a.at is,
      left_listed whole b.at is,
      before_rises whole (suc a.at) (suc b.at) is (omega (arith, order)),
    )

longest_place : (whole left right : Body) → IsEntryBody whole → IsMost (body_cutting whole) left right
    → IsSplitPlace whole left
longest_place whole left right is most =
    by (cases_lt (2 * length (listed_bytes left)) (length (listed_bytes whole)))
  where
    by : (2 * length (listed_bytes left) < length (listed_bytes whole))
        ⊎ (length (listed_bytes whole) ≤ 2 * length (listed_bytes left)) → IsSplitPlace whole left
    by (inr keeps) = IsSplitPlace.half keeps
    by (inl less) =
        IsSplitPlace.longest (λ l r d keeps fits_l fits_r. no l r d keeps fits_l) (λ l r d fits. most.most l r d fits)
      where
        no : (l r : Body) → Halves whole l r → KeepsHalf whole l → FitsPage l → ⊥
        no l r d keeps fits = absurd (omega (
          arith,
          less,
          keeps,
          more_bytes whole l r left right is d most.divides (most.most l r d fits),
        ))

even_place : (whole left right : Body) → IsEntryBody whole → IsEven (body_cutting whole) left right
    → IsSplitPlace whole left
even_place whole left right is (IsEven.half half fits_l fits_r) = IsSplitPlace.half half.keeps
even_place whole left right is (IsEven.longest none most) = longest_place whole left right is most

cut_place : (whole left right : Body) (keep : Keep) → IsEntryBody whole → IsCut (body_cutting whole) left right keep
    → IsSplitPlace whole left
cut_place whole left right _ is (IsCut.half even) = even_place whole left right is even
cut_place whole left right _ is (IsCut.most most keeps) = IsSplitPlace.half keeps
cut_place whole left right _ is (IsCut.no_most none even) = even_place whole left right is even

last_bound-push : (front : List EntryChild) (c : EntryChild) → last_bound (front ++ c ∷ []) ≡ c.bound
last_bound-push [] c = refl
last_bound-push (d ∷ []) c = refl
last_bound-push (d ∷ f ∷ front) c = last_bound-push (f ∷ front) c

in_either : {A : Type 0} (xs ys : List A) (x : A) → In x (xs ++ ys) → In x xs ⊎ In x ys
in_either [] ys x on = inr on
in_either (z ∷ xs) ys x (inl e) = inl (inl e)
in_either (z ∷ xs) ys x (inr on) = elim (in_either xs ys x on) [ inl f ↦ inl (inr f) | inr b ↦ inr b ]

-- the high key of the first part divides both
entry_halves : (right stamp : ℕ) (whole l r : Body) → IsEntryBody whole → IsBody right stamp whole → Halves whole l r
    → EntryHalves (upper_in l) whole l r
entry_halves right stamp _ _ _ is on (Halves.of_leaf high last front back some) =
    subst (λ (es : List Entry). EntryHalves last.key (body.EntryLeaf high es)
    (body.EntryLeaf last.key (front ++ last ∷ [])) (body.EntryLeaf high back)) (append_assoc front (last ∷ []) back)
    (EntryHalves.leaves high (front ++ last ∷ []) back (not_none front last []) some
    (λ e at. elim (in_either front (last ∷ []) e at) [
      | inl before ↦ inl (middle_less (λ (c d : Entry). KeyLess c.key d.key) front back last e on.1.rising before)
      | inr here ↦ elim here [ inl same ↦ inr (ap (λ (d : Entry). d.key) same) | inr none ↦ absurd none ]
    ])
    (λ e at. middle_greater (λ (c d : Entry). KeyLess c.key d.key) front back last e on.1.rising at))
entry_halves right stamp _ _ _ is on (Halves.of_inner mid children (EntryHalves.inners last front back some e)) =
    subst (λ (m : List ℕ). EntryHalves m (body.EntryInner (front ++ last ∷ back))
    (body.EntryInner (front ++ last ∷ [])) (body.EntryInner back)) (sym (last_bound-push front last))
    (EntryHalves.inners last front back some refl)
entry_halves right stamp _ _ _ is on (Halves.of_post_leaf high mid items front back f b halves) = elim is [ ]
entry_halves right stamp _ _ _ is on (Halves.of_post_inner mid children halves) = elim is [ ]

pub split_logged : SplitPagesAreLogged
split_logged k r since page new parent keep old was old_parent left right after is is_page large parts adopted same
    kind_is pages is_new = record {
      page = page;
      new = new;
      parent = parent;
      old = old;
      was = was;
      old_parent = old_parent;
      left = left.body;
      right = right.body;
      parent_after = after.body;
      kind_is = kind_is;
      pages = pages;
      is_new = is_new;
      before_is = refl;
      large = large;
      divided = IsDivided.in_entries (upper_in left.body)
          (entry_halves old.right old.stamp old.body left.body right.body is is_page.body
          (cut_divides old.body left.body right.body keep parts.cut)) adopted;
      split_place = cut_place old.body left.body right.body keep is parts.cut;
      after_is = ap (λ (n : ℕ). made_with r n left.body ∷ made_with r right.right right.body
          ∷ made_with r after.right after.body ∷ []) (ap (λ (p : Page). p.right) parts.left_is)
          ∙ ap (λ (n : ℕ). made_with r new left.body ∷ made_with r n right.body
          ∷ made_with r after.right after.body ∷ []) (ap (λ (p : Page). p.right) parts.right_is)
          ∙ ap (λ (n : ℕ). made_with r new left.body ∷ made_with r old.right right.body
          ∷ made_with r n after.body ∷ []) (ap (λ (p : Page). p.right) same);
    }

-- ---- the pages as they are made

pub parts_made : (p : Page) (new k : ℕ) (keep : Keep) (l r : Body) → l ≡ left_of p.body k → r ≡ right_of p.body k
    → IsCut (body_cutting p.body) (left_of p.body k) (right_of p.body k) keep
    → AreParts p new keep (record { right = new; stamp = p.stamp; body = l })
    (record { right = p.right; stamp = p.stamp; body = r })
parts_made p new k keep l r left right cut = record {
  cut = subst (λ (b : Body). IsCut (body_cutting p.body) b r keep) (sym left)
      (subst (λ (b : Body). IsCut (body_cutting p.body) (left_of p.body k) b keep) (sym right) cut);
  left_is = refl;
  right_is = refl;
}

pub pages_made : (p : Page) (new k : ℕ) (keep : Keep) (l r : Body) → IsPage p → IsEntryBody p.body
    → IsCutPlace p.body k → l ≡ left_of p.body k → r ≡ right_of p.body k
    → IsCut (body_cutting p.body) (left_of p.body k) (right_of p.body k) keep → new ≢ 0 → new < page_limit
    → IsPage (record { right = new; stamp = p.stamp; body = l })
    × IsPage (record { right = p.right; stamp = p.stamp; body = r })
pages_made p new k keep l r page is place left right cut some lt = (
  left_page p (record { right = new; stamp = p.stamp; body = l }) k new page is place
      (cut_fits p.body (left_of p.body k) (right_of p.body k) keep cut) some lt
      (ap (λ (b : Body). record { right = new; stamp = p.stamp; body = b }) left),
  right_page p (record { right = p.right; stamp = p.stamp; body = r }) k page is place
      (ap (λ (b : Body). record { right = p.right; stamp = p.stamp; body = b }) right),
)
