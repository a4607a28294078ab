-- When a page may be split, in parts.
use Rattle.std.proofs.Common.{◌≡◌, ◌<◌, ℕ, Bool, true, false, List, [], ◌∷◌, ◌++◌, length, get_or, refl, sym, ap}
use Rattle.std.proofs.Common.{subst, subst₂, ◌∙◌, arith}
use Rattle.std.specs.Prelude.{◌↔◌}
use Rattle.ts_base.specs.Keys.{Key}
use Rattle.page_types.specs.Encoding.{body_bytes}
use Rattle.page_types.specs.declared.page.EntryChild.{EntryChild}
use Rattle.page_types.specs.declared.page.PostChild.{PostChild}
use Rattle.page_types.specs.declared.page.Body.TheVariants as body
use Rattle.page_types.specs.declared.page.Page.{Page}
use Rattle.page_types.specs.declared.page.Body.{Body}
use Rattle.page_types.specs.declared.record.Change.{Change}
use Rattle.page_types.specs.declared.record.Record.{Record}
use Rattle.page_types.specs.declared.record.Kind.TheVariants as kind
use Rattle.core_state.specs.Log.{changed, pages_of}
use Rattle.core_state.specs.Known.{Known}
use Rattle.core_state.specs.Changes.{made_with, IsNew}
use Rattle.core_state.specs.TreeRules.{IsSplitHere, IsDivided, IsSplitPlace, EntryHalves, PostHalves, EntryParent}
use Rattle.core_state.specs.TreeRules.{PostParent, half_body}
use Rattle.core_state.specs.Inner.SplitPages.{AreHalves, Divided, LeavesSplit}

-- lists of three
pub three_told : {A : Type 0} (xs : List A) (x y z : A) → length xs ≡ 3 → x ≡ get_or xs 0 x → y ≡ get_or xs 1 y
    → z ≡ get_or xs 2 z → xs ≡ x ∷ y ∷ z ∷ []
three_told [] x y z n e f g = absurd (omega (arith, n))
three_told (a ∷ []) x y z n e f g = absurd (omega (arith, n))
three_told (a ∷ b ∷ []) x y z n e f g = absurd (omega (arith, n))
three_told (a ∷ b ∷ c ∷ []) x y z n e f g =
    ap (λ w. w ∷ b ∷ c ∷ []) (sym e) ∙ ap (λ w. x ∷ w ∷ c ∷ []) (sym f) ∙ ap (λ w. x ∷ y ∷ w ∷ []) (sym g)
three_told (a ∷ b ∷ c ∷ d ∷ xs) x y z n e f g = absurd (omega (arith, n))

-- the first and the last of three
pub three_with : {A : Type 0} (xs : List A) (x z : A) → length xs ≡ 3 → x ≡ get_or xs 0 x → z ≡ get_or xs 2 z
    → xs ≡ x ∷ get_or xs 1 x ∷ z ∷ []
three_with [] x z n e g = absurd (omega (arith, n))
three_with (a ∷ []) x z n e g = absurd (omega (arith, n))
three_with (a ∷ b ∷ []) x z n e g = absurd (omega (arith, n))
three_with (a ∷ b ∷ c ∷ []) x z n e g = ap (λ w. w ∷ b ∷ c ∷ []) (sym e) ∙ ap (λ w. x ∷ b ∷ w ∷ []) (sym g)
three_with (a ∷ b ∷ c ∷ d ∷ xs) x z n e g = absurd (omega (arith, n))

-- ---- two parts have one divider

abbrev last_bound : List EntryChild → Key
last_bound [] = []
last_bound (c ∷ []) = c.bound
last_bound (c ∷ d ∷ cs) = last_bound (d ∷ cs)

ends_bound : (front : List EntryChild) (last : EntryChild) → last_bound (front ++ last ∷ []) ≡ last.bound
ends_bound [] last = refl
ends_bound (c ∷ []) last = refl
ends_bound (c ∷ d ∷ front) last = ends_bound (d ∷ front) last

abbrev last_item : List PostChild → ℕ
last_item [] = 0
last_item (c ∷ []) = c.bound
last_item (c ∷ d ∷ cs) = last_item (d ∷ cs)

ends_item : (front : List PostChild) (last : PostChild) → last_item (front ++ last ∷ []) ≡ last.bound
ends_item [] last = refl
ends_item (c ∷ []) last = refl
ends_item (c ∷ d ∷ front) last = ends_item (d ∷ front) last

abbrev key_divider : Body → Key
key_divider (body.EntryLeaf high entries) = high
key_divider (body.EntryInner children) = last_bound children
key_divider _ = []

abbrev item_divider : Body → ℕ
item_divider (body.PostLeaf high items) = high
item_divider (body.PostInner children) = last_item children
item_divider _ = 0

abbrev has_keys : Body → Bool
has_keys (body.EntryLeaf high entries) = true
has_keys (body.EntryInner children) = true
has_keys _ = false

entries_at : (m : Key) (whole left right : Body) → EntryHalves m whole left right
    → (m ≡ key_divider left) × (has_keys whole ≡ true)
entries_at m _ _ _ (EntryHalves.leaves high front back some_f some_b up above) = (refl, refl)
entries_at m _ _ _ (EntryHalves.inners last front back some same) = (sym same ∙ sym (ends_bound front last), refl)

postings_at : (m : ℕ) (whole left right : Body) → PostHalves m whole left right
    → (m ≡ item_divider left) × (has_keys whole ≡ false)
postings_at m _ _ _ (PostHalves.leaves high items front back some_f some_b joined up above) = (refl, refl)
postings_at m _ _ _ (PostHalves.inners last front back some same) = (sym same ∙ sym (ends_item front last), refl)

-- the parent of a page that is divided at this key
entry_parent : (page new : ℕ) (mid : Key) (whole left right old then : Body) → EntryHalves mid whole left right
    → IsDivided page new whole left right old then → EntryParent page new mid old then
entry_parent page new mid whole left right old then x (IsDivided.in_entries m h p) =
    let same : m ≡ mid = (entries_at m whole left right h).0 ∙ sym (entries_at mid whole left right x).0 in
    subst (λ (k : Key). EntryParent page new k old then) same p
entry_parent page new mid whole left right old then x (IsDivided.in_postings m h p) =
    let yes = (entries_at mid whole left right x).1 in
    let no = (postings_at m whole left right h).1 in
    absurd (cc (yes, no))

post_parent : (page new mid : ℕ) (whole left right old then : Body) → PostHalves mid whole left right
    → IsDivided page new whole left right old then → PostParent page new mid old then
post_parent page new mid whole left right old then x (IsDivided.in_entries m h p) =
    let yes = (entries_at m whole left right h).1 in
    let no = (postings_at mid whole left right x).1 in
    absurd (cc (yes, no))
post_parent page new mid whole left right old then x (IsDivided.in_postings m h p) =
    let same : m ≡ mid = (postings_at m whole left right h).0 ∙ sym (postings_at mid whole left right x).0 in
    subst (λ (k : ℕ). PostParent page new k old then) same p

pub halves_of : (page new : ℕ) (whole left right old then : Body) → IsDivided page new whole left right old then
    → AreHalves whole left right
halves_of page new whole left right old then (IsDivided.in_entries mid h p) = AreHalves.entries mid h
halves_of page new whole left right old then (IsDivided.in_postings mid h p) = AreHalves.postings mid h

-- ---- three pages before and three after

-- what is asked of the pages that a record leaves, beside that they are divided
pub record SplitParts (r : Record) (new : ℕ) (old old_parent left right parent : Page) : Type 0 where
  pub left_is : left ≡ made_with r new left.body
  pub right_is : right ≡ made_with r old.right right.body
  pub parent_is : parent ≡ made_with r old_parent.right parent.body
  pub large : half_body < length (body_bytes old.body)
  pub place : IsSplitPlace old.body left.body

module _ (page new : ℕ) (before after : List Page) (old was old_parent left right parent : Page)
    (before_is : before ≡ old ∷ was ∷ old_parent ∷ []) (after_is : after ≡ left ∷ right ∷ parent ∷ []) where
  pub divided_at : Divided page new before after
      → IsDivided page new old.body left.body right.body old_parent.body parent.body
  divided_at d =
      let olds : d.old ∷ d.was ∷ d.old_parent ∷ [] ≡ old ∷ was ∷ old_parent ∷ [] = sym d.before_is ∙ before_is in
      let news : d.left ∷ d.right ∷ d.parent ∷ [] ≡ left ∷ right ∷ parent ∷ [] = sym d.after_is ∙ after_is in
      let a : d.old ≡ old = cc in
      let b : d.old_parent ≡ old_parent = cc in
      let x : d.left ≡ left = cc in
      let y : d.right ≡ right = cc in
      let z : d.parent ≡ parent = cc in
      subst₂ (λ (p q : Page). IsDivided page new old.body left.body right.body p.body q.body) b z
      (subst (λ (p : Page). IsDivided page new old.body left.body p.body d.old_parent.body d.parent.body) y
      (subst₂ (λ (p q : Page). IsDivided page new p.body q.body d.right.body d.old_parent.body d.parent.body) a x
      d.divided))

  pub divided_told : IsDivided page new old.body left.body right.body old_parent.body parent.body
      → Divided page new before after
  divided_told d = record {
    old = old;
    was = was;
    old_parent = old_parent;
    left = left;
    right = right;
    parent = parent;
    before_is = before_is;
    after_is = after_is;
    divided = d;
  }

  pub entries_divided : (mid : Key) → EntryHalves mid old.body left.body right.body
      → EntryParent page new mid old_parent.body parent.body ↔ Divided page new before after
  entries_divided mid h = (
    λ p. divided_told (IsDivided.in_entries mid h p),
    λ d. entry_parent page new mid old.body left.body right.body old_parent.body parent.body h (divided_at d),
  )

  pub postings_divided : (mid : ℕ) → PostHalves mid old.body left.body right.body
      → PostParent page new mid old_parent.body parent.body ↔ Divided page new before after
  postings_divided mid h = (
    λ p. divided_told (IsDivided.in_postings mid h p),
    λ d. post_parent page new mid old.body left.body right.body old_parent.body parent.body h (divided_at d),
  )

  pub halves_at : Divided page new before after → AreHalves old.body left.body right.body
  halves_at d = halves_of page new old.body left.body right.body old_parent.body parent.body (divided_at d)

  pub leaves_told : (r : Record) → Divided page new before after → SplitParts r new old old_parent left right parent
      → LeavesSplit r page new before after
  leaves_told r d s = record {
    divided = record {
      old = old;
      was = was;
      old_parent = old_parent;
      left = left;
      right = right;
      parent = parent;
      before_is = before_is;
      after_is = after_is;
      divided = divided_at d;
    };
    large = s.large;
    place = s.place;
    left_is = s.left_is;
    right_is = s.right_is;
    parent_is = s.parent_is;
  }

  pub leaves_back : (r : Record) → LeavesSplit r page new before after
      → SplitParts r new old old_parent left right parent
  leaves_back r w =
      let d = w.divided in
      let olds : d.old ∷ d.was ∷ d.old_parent ∷ [] ≡ old ∷ was ∷ old_parent ∷ [] = sym d.before_is ∙ before_is in
      let news : d.left ∷ d.right ∷ d.parent ∷ [] ≡ left ∷ right ∷ parent ∷ [] = sym d.after_is ∙ after_is in
      let a : d.old ≡ old = cc in
      let b : d.old_parent ≡ old_parent = cc in
      let x : d.left ≡ left = cc in
      let y : d.right ≡ right = cc in
      let z : d.parent ≡ parent = cc in
      record {
        left_is = subst (λ (p : Page). p ≡ made_with r new p.body) x w.left_is;
        right_is = subst₂ (λ (p q : Page). q ≡ made_with r p.right q.body) a y w.right_is;
        parent_is = subst₂ (λ (p q : Page). q ≡ made_with r p.right q.body) b z w.parent_is;
        large = subst (λ (p : Page). half_body < length (body_bytes p.body)) a w.large;
        place = subst₂ (λ (p q : Page). IsSplitPlace p.body q.body) a x w.place;
      }

-- the three pages of a record
pub changed_three : (r : Record) (cs : List Change) (x y : Change) → cs ≡ r.changes → length cs ≡ 3
    → (parent : ℕ) × (changed r ≡ (get_or cs 0 x).page ∷ (get_or cs 1 y).page ∷ parent ∷ [])
changed_three r [] x y same n = absurd (omega (arith, n))
changed_three r (a ∷ []) x y same n = absurd (omega (arith, n))
changed_three r (a ∷ b ∷ []) x y same n = absurd (omega (arith, n))
changed_three r (a ∷ b ∷ c ∷ []) x y same n = (c.page, ap pages_of (sym same))
changed_three r (a ∷ b ∷ c ∷ d ∷ cs) x y same n = absurd (omega (arith, n))

pub split_told : (since : ℕ) (k : Known) (r : Record) (page new parent : ℕ) (before after : List Page)
    → r.kind ≡ kind.Split → changed r ≡ page ∷ new ∷ parent ∷ [] → IsNew k.uses since new
    → LeavesSplit r page new before after → IsSplitHere since k r before after
split_told since k r page new parent before after e pages is_new s =
    let d = s.divided in
    record {
      page = page;
      new = new;
      parent = parent;
      old = d.old;
      was = d.was;
      old_parent = d.old_parent;
      left = d.left.body;
      right = d.right.body;
      parent_after = d.parent.body;
      kind_is = e;
      pages = pages;
      is_new = is_new;
      before_is = d.before_is;
      large = s.large;
      divided = d.divided;
      split_place = s.place;
      after_is = d.after_is
          ∙ ap (λ (p : Page). p ∷ d.right ∷ d.parent ∷ []) s.left_is
          ∙ ap (λ (p : Page). made_with r new d.left.body ∷ p ∷ d.parent ∷ []) s.right_is
          ∙ ap (λ (p : Page). made_with r new d.left.body ∷ made_with r d.old.right d.right.body ∷ p ∷ [])
          s.parent_is;
    }

same_three : (a b c x y z : ℕ) → a ∷ b ∷ c ∷ [] ≡ x ∷ y ∷ z ∷ [] → (a ≡ x) × (b ≡ y)
same_three a b c x y z e = (cc, cc)

pub split_back : (since : ℕ) (k : Known) (r : Record) (page new parent : ℕ) (before after : List Page)
    → changed r ≡ page ∷ new ∷ parent ∷ [] → IsSplitHere since k r before after → LeavesSplit r page new before after
split_back since k r page new parent before after pages w =
    let same = same_three w.page w.new w.parent page new parent (sym w.pages ∙ pages) in
    let here : LeavesSplit r w.page w.new before after = record {
      divided = record {
        old = w.old;
        was = w.was;
        old_parent = w.old_parent;
        left = made_with r w.new w.left;
        right = made_with r w.old.right w.right;
        parent = made_with r w.old_parent.right w.parent_after;
        before_is = w.before_is;
        after_is = w.after_is;
        divided = w.divided;
      };
      large = w.large;
      place = w.split_place;
      left_is = refl;
      right_is = refl;
      parent_is = refl;
    } in
    subst (λ (n : ℕ). LeavesSplit r page n before after) same.1
    (subst (λ (p : ℕ). LeavesSplit r p w.new before after) same.0 here)

pub new_back : (since : ℕ) (k : Known) (r : Record) (page new parent : ℕ) (before after : List Page)
    → changed r ≡ page ∷ new ∷ parent ∷ [] → IsSplitHere since k r before after → IsNew k.uses since new
new_back since k r page new parent before after pages w =
    let same = same_three w.page w.new w.parent page new parent (sym w.pages ∙ pages) in
    subst (IsNew k.uses since) same.1 w.is_new
