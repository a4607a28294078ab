-- Whether the first part of a divided page is the longest that fits, by what is in the second.
use Rattle.std.proofs.Common.{◌≡◌, ◌≢◌, ◌+◌, ◌<◌, ◌≤◌, ℕ, zero, suc, List, [], ◌∷◌, ◌++◌, length, take, drop, refl}
use Rattle.std.proofs.Common.{sym, ap}
use Rattle.std.proofs.Common.{subst, ◌∙◌, inl, inr, arith, length-append, append_assoc, take-append-drop}
use Rattle.std.proofs.Common.{length-take}
use Rattle.std.proofs.lemmas.Bool.{cases_lt}
use Rattle.std.proofs.lemmas.List.Concat.{flat_map-append}
use Rattle.std.specs.Prelude.{◌↔◌, Some}
use Rattle.std.specs.List.{slice_get, flat_map, AllByRecursion}
use Rattle.ts_base.specs.Keys.{Key}
use Rattle.page_types.specs.Numbers.{most_body}
use Rattle.page_types.specs.Items.{items_of, IsItemList}
use Rattle.page_types.specs.Keys.{IsKey}
use Rattle.page_types.specs.Pages.{IsPage, IsEntry, AreEntries}
use Rattle.page_types.specs.Encoding.{body_bytes, entry_bytes, high_key_bytes}
use Rattle.page_types.specs.declared.page.Page.{Page}
use Rattle.page_types.specs.declared.page.Entry.{Entry}
use Rattle.page_types.specs.declared.page.EntryChild.{EntryChild}
use Rattle.page_types.specs.declared.page.PostChild.{PostChild}
use Rattle.page_types.specs.declared.page.Body.{Body}
use Rattle.page_types.specs.declared.page.Body.TheVariants as body
use Rattle.page_types.proofs.BodySizes.{length-entry_bytes}
use Rattle.core_state.specs.Log.{In}
use Rattle.core_state.specs.TreeRules.{EntryHalves, PostHalves, FitsPage, listed_bytes}
use Rattle.core_state.specs.Inner.SplitPages.{AreHalves, NoLonger, IsLongest}
use Rattle.core_state.proofs.SharedFronts.{cut_at, get_behind}
use Rattle.core_state.proofs.TakenEntries.{leaf_entries, post_items}
use Rattle.core_state.proofs.SplitPlaces.{longest_leaf, none_longer, longest_inner, inner_one, entry_inner, post_inner}
use Rattle.core_state.proofs.SplitPlaces.{longest_list, list_one, some_length, IsUnder, leaf_under, inner_under}
use Rattle.core_state.proofs.SplitPlaces.{list_under}

no_key : IsKey [] → ⊥
no_key h = h

entry_keys : (es : List Entry) → AllByRecursion IsEntry es → (e : Entry) → In e es → e.key ≢ []
entry_keys [] h e w = absurd w
entry_keys (x ∷ xs) h e (inl same) = λ none. no_key (subst IsKey (ap (λ (z : Entry). z.key) (sym same) ∙ none) h.0.key)
entry_keys (x ∷ xs) h e (inr w) = entry_keys xs h.1 e w

-- by a second part that is a leaf
leaf_of : (p : Page) (end : Key) (B : List Entry) → IsPage p → (mid : Key) (whole left right : Body)
    → p.body ≡ whole → right ≡ body.EntryLeaf end B → EntryHalves mid whole left right
    → NoLonger (length (listed_bytes left)) B ↔ IsLongest p.body left
leaf_of p end B is mid _ _ _ w e (EntryHalves.leaves high F G some_f some_b up_to above) =
    let same : G ≡ B = cc in
    let are : AreEntries (F ++ G) = leaf_entries p high (F ++ G) is w in
    let keys = entry_keys (F ++ G) are.each in (
      λ n. subst (λ (b : Body). IsLongest b (body.EntryLeaf mid F)) (sym w)
          (longest_leaf high mid F G keys (subst (NoLonger (length (flat_map entry_bytes F))) (sym same) n)),
      λ l. subst (NoLonger (length (flat_map entry_bytes F))) same
          (none_longer high mid F G keys (subst (λ (b : Body). IsLongest b (body.EntryLeaf mid F)) w l)),
    )
leaf_of p end B is mid _ _ _ w e (EntryHalves.inners last F G some same) = absurd (cc (e))

posts_no_leaf : (end : Key) (B : List Entry) (mid : ℕ) (whole left right : Body) → right ≡ body.EntryLeaf end B
    → PostHalves mid whole left right → ⊥
posts_no_leaf end B mid _ _ _ e (PostHalves.leaves high items F G some_f some_b joined up_to above) = absurd (cc (e))
posts_no_leaf end B mid _ _ _ e (PostHalves.inners last F G some same) = absurd (cc (e))

pub leaf_longest : (p : Page) (left right : Body) → IsPage p → AreHalves p.body left right → (end : Key)
    (B : List Entry) → right ≡ body.EntryLeaf end B
    → NoLonger (length (listed_bytes left)) B ↔ IsLongest p.body left
leaf_longest p left right is (AreHalves.entries mid x) end B e = leaf_of p end B is mid p.body left right refl e x
leaf_longest p left right is (AreHalves.postings mid x) end B e =
    absurd (posts_no_leaf end B mid p.body left right e x)

-- the bytes of both parts of a leaf fit
room_of : (p : Page) (end : Key) (B : List Entry) → IsPage p → (mid : Key) (whole left right : Body) → p.body ≡ whole
    → right ≡ body.EntryLeaf end B → EntryHalves mid whole left right
    → length (listed_bytes left) + length (flat_map entry_bytes B) ≤ most_body
room_of p end B is mid _ _ _ w e (EntryHalves.leaves high F G some_f some_b up_to above) =
    let same : G ≡ B = cc in
    omega (
      arith,
      is.fits,
      ap (λ (b : Body). length (body_bytes b)) w,
      length-append (high_key_bytes high) (flat_map entry_bytes (F ++ G)),
      ap length (flat_map-append entry_bytes F G),
      length-append (flat_map entry_bytes F) (flat_map entry_bytes G),
      ap (λ (es : List Entry). length (flat_map entry_bytes es)) same,
    )
room_of p end B is mid _ _ _ w e (EntryHalves.inners last F G some same) = absurd (cc (e))

pub leaf_room : (p : Page) (left right : Body) → IsPage p → AreHalves p.body left right → (end : Key) (B : List Entry)
    → right ≡ body.EntryLeaf end B → length (listed_bytes left) + length (flat_map entry_bytes B) ≤ most_body
leaf_room p left right is (AreHalves.entries mid x) end B e = room_of p end B is mid p.body left right refl e x
leaf_room p left right is (AreHalves.postings mid x) end B e =
    absurd (posts_no_leaf end B mid p.body left right e x)

-- by a second part that is an inner page of the entry tree
inner_of : (p : Page) (B : List EntryChild) → IsPage p → (mid : Key) (whole left right : Body) → p.body ≡ whole
    → right ≡ body.EntryInner B → EntryHalves mid whole left right → (length B ≡ 1) ↔ IsLongest p.body left
inner_of p B is mid _ _ _ w e (EntryHalves.leaves high F G some_f some_b up_to above) = absurd (cc (e))
inner_of p B is mid _ _ _ w e (EntryHalves.inners last F G some same) =
    let backs : G ≡ B = cc in
    let whole : body.EntryInner (F ++ last ∷ G) ≡ body.EntryInner ((F ++ last ∷ []) ++ G) =
    ap body.EntryInner (sym (append_assoc F (last ∷ []) G)) in
    let left = body.EntryInner (F ++ last ∷ []) in (
      λ n. subst (λ (b : Body). IsLongest b left) (sym (w ∙ whole))
          (longest_inner entry_inner (F ++ last ∷ []) G (ap length backs ∙ n)),
      λ l. sym (ap length backs) ∙ inner_one entry_inner (F ++ last ∷ []) G some
          (subst FitsPage (w ∙ whole) is.fits) (subst (λ (b : Body). IsLongest b left) (w ∙ whole) l),
    )

posts_no_inner : (B : List EntryChild) (mid : ℕ) (whole left right : Body) → right ≡ body.EntryInner B
    → PostHalves mid whole left right → ⊥
posts_no_inner B mid _ _ _ e (PostHalves.leaves high items F G some_f some_b joined up_to above) = absurd (cc (e))
posts_no_inner B mid _ _ _ e (PostHalves.inners last F G some same) = absurd (cc (e))

pub inner_longest : (p : Page) (left right : Body) → IsPage p → AreHalves p.body left right → (B : List EntryChild)
    → right ≡ body.EntryInner B → (length B ≡ 1) ↔ IsLongest p.body left
inner_longest p left right is (AreHalves.entries mid x) B e = inner_of p B is mid p.body left right refl e x
inner_longest p left right is (AreHalves.postings mid x) B e = absurd (posts_no_inner B mid p.body left right e x)

-- by one that is an inner page of a posting tree
post_of : (p : Page) (B : List PostChild) → IsPage p → (mid : ℕ) (whole left right : Body) → p.body ≡ whole
    → right ≡ body.PostInner B → PostHalves mid whole left right → (length B ≡ 1) ↔ IsLongest p.body left
post_of p B is mid _ _ _ w e (PostHalves.leaves high items F G some_f some_b joined up_to above) = absurd (cc (e))
post_of p B is mid _ _ _ w e (PostHalves.inners last F G some same) =
    let backs : G ≡ B = cc in
    let whole : body.PostInner (F ++ last ∷ G) ≡ body.PostInner ((F ++ last ∷ []) ++ G) =
    ap body.PostInner (sym (append_assoc F (last ∷ []) G)) in
    let left = body.PostInner (F ++ last ∷ []) in (
      λ n. subst (λ (b : Body). IsLongest b left) (sym (w ∙ whole))
          (longest_inner post_inner (F ++ last ∷ []) G (ap length backs ∙ n)),
      λ l. sym (ap length backs) ∙ inner_one post_inner (F ++ last ∷ []) G some
          (subst FitsPage (w ∙ whole) is.fits) (subst (λ (b : Body). IsLongest b left) (w ∙ whole) l),
    )

entries_no_post : (B : List PostChild) (mid : Key) (whole left right : Body) → right ≡ body.PostInner B
    → EntryHalves mid whole left right → ⊥
entries_no_post B mid _ _ _ e (EntryHalves.leaves high F G some_f some_b up_to above) = absurd (cc (e))
entries_no_post B mid _ _ _ e (EntryHalves.inners last F G some same) = absurd (cc (e))

pub post_longest : (p : Page) (left right : Body) → IsPage p → AreHalves p.body left right → (B : List PostChild)
    → right ≡ body.PostInner B → (length B ≡ 1) ↔ IsLongest p.body left
post_longest p left right is (AreHalves.entries mid x) B e = absurd (entries_no_post B mid p.body left right e x)
post_longest p left right is (AreHalves.postings mid x) B e = post_of p B is mid p.body left right refl e x

-- by one that is a leaf of a posting tree
list_of : (p : Page) (end : ℕ) (B : List ℕ) → IsPage p → (mid : ℕ) (whole left right : Body)
    → ((h : ℕ) (xs : List ℕ) → left ≡ body.PostLeaf h xs → IsItemList xs) → p.body ≡ whole
    → right ≡ body.PostLeaf end B → PostHalves mid whole left right
    → (length (items_of B) ≡ 1) ↔ IsLongest p.body left
list_of p end B is mid _ _ _ fronts w e (PostHalves.leaves high items F G some_f some_b joined up_to above) =
    let same : G ≡ B = cc in
    let are : IsItemList items = post_items p high items is w in
    let front : IsItemList F = fronts mid F refl in (
      λ n. subst (λ (b : Body). IsLongest b (body.PostLeaf mid F)) (sym w)
          (longest_list high mid items F G are front joined (ap (λ (xs : List ℕ). length (items_of xs)) same ∙ n)),
      λ l. ap (λ (xs : List ℕ). length (items_of xs)) (sym same)
          ∙ list_one high mid items F G are front joined some_b (subst FitsPage w is.fits)
          (subst (λ (b : Body). IsLongest b (body.PostLeaf mid F)) w l),
    )
list_of p end B is mid _ _ _ fronts w e (PostHalves.inners last F G some same) = absurd (cc (e))

entries_no_list : (end : ℕ) (B : List ℕ) (mid : Key) (whole left right : Body) → right ≡ body.PostLeaf end B
    → EntryHalves mid whole left right → ⊥
entries_no_list end B mid _ _ _ e (EntryHalves.leaves high F G some_f some_b up_to above) = absurd (cc (e))
entries_no_list end B mid _ _ _ e (EntryHalves.inners last F G some same) = absurd (cc (e))

pub list_longest : (p left : Page) (right : Body) → IsPage p → IsPage left → AreHalves p.body left.body right
    → (end : ℕ) (B : List ℕ) → right ≡ body.PostLeaf end B
    → (length (items_of B) ≡ 1) ↔ IsLongest p.body left.body
list_longest p left right is are (AreHalves.entries mid x) end B e =
    absurd (entries_no_list end B mid p.body left.body right e x)
list_longest p left right is are (AreHalves.postings mid x) end B e =
    list_of p end B is mid p.body left.body right (λ h xs f. post_items left h xs are f) refl e x

-- a first part that is no longer than that of a divided page has no more bytes
entries_under : (p : Page) (mid : Key) (whole left right : Body) → p.body ≡ whole → EntryHalves mid whole left right
    → IsUnder p.body left
entries_under p mid _ _ _ w (EntryHalves.leaves high F G some_f some_b up_to above) =
    subst (λ (b : Body). IsUnder b (body.EntryLeaf mid F)) (sym w) (leaf_under high mid F G)
entries_under p mid _ _ _ w (EntryHalves.inners last F G some same) =
    subst (λ (b : Body). IsUnder b (body.EntryInner (F ++ last ∷ [])))
    (sym (w ∙ ap body.EntryInner (sym (append_assoc F (last ∷ []) G)))) (inner_under entry_inner (F ++ last ∷ []) G)

postings_under : (p : Page) → IsPage p → (mid : ℕ) (whole left right : Body)
    → ((h : ℕ) (xs : List ℕ) → left ≡ body.PostLeaf h xs → IsItemList xs) → p.body ≡ whole
    → PostHalves mid whole left right → IsUnder p.body left
postings_under p is mid _ _ _ fronts w (PostHalves.leaves high items F G some_f some_b joined up_to above) =
    subst (λ (b : Body). IsUnder b (body.PostLeaf mid F)) (sym w)
    (list_under high mid items F G (post_items p high items is w) (fronts mid F refl) joined)
postings_under p is mid _ _ _ fronts w (PostHalves.inners last F G some same) =
    subst (λ (b : Body). IsUnder b (body.PostInner (F ++ last ∷ [])))
    (sym (w ∙ ap body.PostInner (sym (append_assoc F (last ∷ []) G)))) (inner_under post_inner (F ++ last ∷ []) G)

pub halves_under : (p left : Page) (right : Body) → IsPage p → IsPage left → AreHalves p.body left.body right
    → IsUnder p.body left.body
halves_under p left right is are (AreHalves.entries mid x) = entries_under p mid p.body left.body right refl x
halves_under p left right is are (AreHalves.postings mid x) =
    postings_under p is mid p.body left.body right (λ h xs f. post_items left h xs are f) refl x

-- a part is a page of a tree
pub half_kind : (whole left right : Body) → AreHalves whole left right
    → ((high : Key) (entries : List Entry) → right ≡ body.EntryLeaf high entries → ⊥)
    → ((children : List EntryChild) → right ≡ body.EntryInner children → ⊥)
    → ((high : ℕ) (items : List ℕ) → right ≡ body.PostLeaf high items → ⊥)
    → ((children : List PostChild) → right ≡ body.PostInner children → ⊥) → ⊥
half_kind _ _ _ (AreHalves.entries mid x) leaf inner post_leaf post_inner = by_keys mid _ _ _ x leaf inner
  where
    by_keys : (mid : Key) (whole left right : Body) → EntryHalves mid whole left right
        → ((high : Key) (entries : List Entry) → right ≡ body.EntryLeaf high entries → ⊥)
        → ((children : List EntryChild) → right ≡ body.EntryInner children → ⊥) → ⊥
    by_keys mid _ _ _ (EntryHalves.leaves high F G some_f some_b up_to above) leaf inner = leaf high G refl
    by_keys mid _ _ _ (EntryHalves.inners last F G some same) leaf inner = inner G refl
half_kind _ _ _ (AreHalves.postings mid x) leaf inner post_leaf post_inner = by_items mid _ _ _ x post_leaf post_inner
  where
    by_items : (mid : ℕ) (whole left right : Body) → PostHalves mid whole left right
        → ((high : ℕ) (items : List ℕ) → right ≡ body.PostLeaf high items → ⊥)
        → ((children : List PostChild) → right ≡ body.PostInner children → ⊥) → ⊥
    by_items mid _ _ _ (PostHalves.leaves high items F G some_f some_b joined up_to above) post_leaf post_inner =
        post_leaf high G refl
    by_items mid _ _ _ (PostHalves.inners last F G some same) post_leaf post_inner = post_inner G refl

-- ---- the walk over the entries that come after

take_push : {A : Type 0} (xs : List A) (k : ℕ) (x : A) → slice_get xs k ≡ Some x
    → take (suc k) xs ≡ take k xs ++ x ∷ []
take_push [] k x e = absurd (cc (e))
take_push (y ∷ ys) zero x e = let same : y ≡ x = cc in ap (λ z. z ∷ []) same
take_push (y ∷ ys) (suc k) x e = ap (λ zs. y ∷ zs) (take_push ys k x e)

take_whole : {A : Type 0} (a : List A) (x : A) (b : List A) → take (suc (length a)) (a ++ x ∷ b) ≡ a ++ x ∷ []
take_whole [] x b = refl
take_whole (y ∷ a) x b = ap (λ zs. y ∷ zs) (take_whole a x b)

pub record SizedSoFar (front size : ℕ) (back : List Entry) (k : ℕ) : Type 0 where
  pub size_is : size ≡ front + length (flat_map entry_bytes (take k back))
  pub none : (j : ℕ) (e : Entry) → j < k → slice_get back j ≡ Some e
      → most_body < front + (length (flat_map entry_bytes (take (suc j) back)) + (2 + length e.key))

-- the next entry's bytes
pub sized_bytes : (front size : ℕ) (back : List Entry) (k : ℕ) (e : Entry) → SizedSoFar front size back k
    → slice_get back k ≡ Some e
    → size + length (entry_bytes e) ≡ front + length (flat_map entry_bytes (take (suc k) back))
sized_bytes front size back k e s at = omega (
  arith,
  s.size_is,
  ap (λ (es : List Entry). length (flat_map entry_bytes es)) (take_push back k e at),
  ap length (flat_map-append entry_bytes (take k back) (e ∷ [])),
  length-append (flat_map entry_bytes (take k back)) (flat_map entry_bytes (e ∷ [])),
  length-append (entry_bytes e) [],
)

pub sized_within : (front size : ℕ) (back : List Entry) (k : ℕ) (e : Entry) → SizedSoFar front size back k
    → slice_get back k ≡ Some e → front + length (flat_map entry_bytes back) ≤ most_body
    → (size + length (entry_bytes e) ≤ most_body) × (length e.key ≤ length (entry_bytes e))
sized_within front size back k e s at fits = (
  omega (
    arith,
    fits,
    sized_bytes front size back k e s at,
    ap (λ (es : List Entry). length (flat_map entry_bytes es)) (sym (take-append-drop (suc k) back)),
    ap length (flat_map-append entry_bytes (take (suc k) back) (drop (suc k) back)),
    length-append (flat_map entry_bytes (take (suc k) back)) (flat_map entry_bytes (drop (suc k) back)),
  ),
  omega (arith, length-entry_bytes e),
)

pub sized_next : (front size : ℕ) (back : List Entry) (k : ℕ) (e : Entry) → SizedSoFar front size back k
    → slice_get back k ≡ Some e → most_body < (size + length (entry_bytes e)) + 2 + length e.key
    → SizedSoFar front (size + length (entry_bytes e)) back (k + 1)
sized_next front size back k e s at over =
    let bytes = sized_bytes front size back k e s at in
    let more : suc k ≡ k + 1 = omega arith in
    record {
      size_is = bytes ∙ ap (λ n. front + length (flat_map entry_bytes (take n back))) more;
      none = λ j x lt there. elim (cases_lt j k) [
        | inl less ↦ s.none j x less there
        | inr ge ↦
            let same : j ≡ k = omega (arith, ge, lt) in
            let both : Some x ≡ Some e = sym there ∙ ap (slice_get back) same ∙ at in
            let one : x ≡ e = cc in
            omega (
              arith,
              over,
              bytes,
              ap (λ n. length (flat_map entry_bytes (take (suc n) back))) same,
              ap (λ (z : Entry). length z.key) one,
            )
      ];
    }

pub sized_end : (front size : ℕ) (back : List Entry) (k : ℕ) → SizedSoFar front size back k
    → length back ≤ k + 1 → NoLonger front back
sized_end front size back k s past a e b same some =
    let at : slice_get back (length a) ≡ Some e =
    ap (λ (es : List Entry). slice_get es (length a)) same ∙ get_behind a e b in
    let lt : length a < k = omega (arith, past, ap length same, length-append a (e ∷ b), some_length b some) in
    omega (
      arith,
      s.none (length a) e lt at,
      ap (λ (es : List Entry). length (flat_map entry_bytes (take (suc (length a)) es))) same,
      ap (λ (es : List Entry). length (flat_map entry_bytes es)) (take_whole a e b),
    )

pub sized_fits : (front size : ℕ) (back : List Entry) (k : ℕ) (e : Entry) → SizedSoFar front size back k
    → slice_get back k ≡ Some e → (size + length (entry_bytes e)) + 2 + length e.key ≤ most_body
    → k + 1 < length back → NoLonger front back → ⊥
sized_fits front size back k e s at small more n =
    let behind : drop (suc k) back ≢ [] = λ none. omega (
      arith,
      more,
      ap length (cut_at back k e at),
      length-append (take k back) (e ∷ drop (suc k) back),
      ap length none,
      length-take k back,
    ) in
    let over = n (take k back) e (drop (suc k) back) (cut_at back k e at) behind in
    omega (
      arith,
      over,
      small,
      sized_bytes front size back k e s at,
      ap (λ (es : List Entry). length (flat_map entry_bytes es)) (take_push back k e at),
    )
