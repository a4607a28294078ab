-- What the tests of a record DeletePost say.
use Rattle.std.proofs.Common.{◌≡◌, ◌⊎◌, ◌<◌, ◌≤◌, ◌+◌, ◌-◌, ℕ, zero, suc, List, [], ◌∷◌, ◌++◌, length, take, drop}
use Rattle.std.proofs.Common.{get_or}
use Rattle.std.proofs.Common.{refl, sym, ap, ap₂, subst, ◌∙◌, inl, inr, arith}
use Rattle.std.specs.Prelude.{Some}
use Rattle.std.specs.List.{slice_get}
use Rattle.page_types.specs.declared.page.Page.{Page}
use Rattle.page_types.specs.declared.page.PostChild.{PostChild}
use Rattle.page_types.specs.declared.page.Body.TheVariants as body
use Rattle.page_types.specs.declared.page.Gone.TheVariants as gone
use Rattle.page_types.specs.declared.record.Change.{Change}
use Rattle.page_types.specs.declared.record.Record.{Record}
use Rattle.page_types.specs.declared.record.Kind.TheVariants as kind
use Rattle.core_state.specs.Log.{changed, pages_of}
use Rattle.core_state.specs.Known.{Known}
use Rattle.core_state.specs.Changes.{made_with}
use Rattle.core_state.specs.TreeRules.{IsUnlinked, IsDeletePostHere}
use Rattle.core_vacuum.proofs.FreedSlots.{length_pages}
use Rattle.core_vacuum.specs.Inner.Deleting.{LeavesDeleted, GoesAt, LosesChild, LeavesParent, LinksPast}

-- ---- lists without a place

abbrev pub others : List PostChild → ℕ → List PostChild
others cs k = take k cs ++ drop (suc k) cs

pub others_low : (cs : List PostChild) (k i : ℕ) → k < length cs → i < k
    → slice_get (others cs k) i ≡ slice_get cs i
others_low [] k i lt le = absurd (omega (arith, lt))
others_low (c ∷ cs) zero i lt le = absurd (omega (arith, le))
others_low (c ∷ cs) (suc k) zero lt le = refl
others_low (c ∷ cs) (suc k) (suc i) lt le = others_low cs k i (omega (arith, lt)) (omega (arith, le))

pub others_high : (cs : List PostChild) (k i : ℕ) → k < length cs → k ≤ i
    → slice_get (others cs k) i ≡ slice_get cs (suc i)
others_high [] k i lt le = absurd (omega (arith, lt))
others_high (c ∷ cs) zero i lt le = refl
others_high (c ∷ cs) (suc k) zero lt le = absurd (omega (arith, le))
others_high (c ∷ cs) (suc k) (suc i) lt le = others_high cs k i (omega (arith, lt)) (omega (arith, le))

pub others_length : (cs : List PostChild) (k : ℕ) → k < length cs → suc (length (others cs k)) ≡ length cs
others_length [] k lt = absurd (omega (arith, lt))
others_length (c ∷ cs) zero lt = refl
others_length (c ∷ cs) (suc k) lt = ap suc (others_length cs k (omega (arith, lt)))

same_Some : (c d : PostChild) → Some c ≡ Some d → c ≡ d
same_Some c d e = cc

pub same_lists : (cs ds : List PostChild) → length cs ≡ length ds
    → ((i : ℕ) → i < length cs → slice_get cs i ≡ slice_get ds i) → cs ≡ ds
same_lists [] [] n each = refl
same_lists [] (d ∷ ds) n each = absurd (omega (arith, n))
same_lists (c ∷ cs) [] n each = absurd (omega (arith, n))
same_lists (c ∷ cs) (d ∷ ds) n each =
    ap₂ (λ (x : PostChild) (xs : List PostChild). x ∷ xs) (same_Some c d (each zero (omega arith)))
    (same_lists cs ds (omega (arith, n)) (λ i lt. each (suc i) (omega (arith, lt))))

pub get_there : (cs : List PostChild) (i : ℕ) (c d : PostChild) → slice_get cs i ≡ Some c → get_or cs i d ≡ c
get_there [] i c d e = absurd cc
get_there (x ∷ cs) zero c d e = same_Some x c e
get_there (x ∷ cs) (suc i) c d e = get_there cs i c d e

-- the first places of the new list are those of the others
pub record AgreeTo (cs : List PostChild) (k : ℕ) (new : List PostChild) (j : ℕ) : Type 0 where
  pub each : (i : ℕ) → i < j → slice_get new i ≡ slice_get (others cs k) i

abbrev no_child : PostChild
no_child = record { page = 0; bound = 0 }

abbrev child_with : ℕ → ℕ → PostChild
child_with page bound = record { page = page; bound = bound }

same_child : (c d : PostChild) → c.page ≡ d.page → c.bound ≡ d.bound → c ≡ d
same_child c d p b = ap (λ (x : ℕ). child_with x c.bound) p ∙ ap (child_with d.page) b

is_there : (cs : List PostChild) (i : ℕ) → i < length cs → slice_get cs i ≡ Some (get_or cs i no_child)
is_there [] i lt = absurd (omega (arith, lt))
is_there (c ∷ cs) zero lt = refl
is_there (c ∷ cs) (suc i) lt = is_there cs i (omega (arith, lt))

pub none_agree : (cs : List PostChild) (k : ℕ) (new : List PostChild) → AgreeTo cs k new 0
none_agree cs k new = record { each = λ i lt. absurd (omega (arith, lt)) }

-- the other child at a place, by the children
abbrev pub IsOther : List PostChild → ℕ → ℕ → PostChild → Type 0
IsOther cs k j was =
    ((j < k) × (was ≡ get_or cs j no_child)) ⊎ ((k ≤ j) × (was ≡ get_or cs (j + 1) no_child))

module _ (cs : List PostChild) (k : ℕ) (new : List PostChild) (j : ℕ) (within : k < length cs)
    (size : length new ≡ length cs - 1) (here : j < length new) (was : PostChild) (is_was : IsOther cs k j was) where
  -- the other child at this place
  other_is : slice_get (others cs k) j ≡ Some was
  other_is = elim is_was [
    | inl low ↦ others_low cs k j within low.0 ∙ is_there cs j (omega (arith, low.0, within)) ∙ ap Some (sym low.1)
    | inr high ↦
        let next : suc j ≡ j + 1 = omega arith in
        others_high cs k j within high.0
        ∙ subst (λ (n : ℕ). slice_get cs n ≡ Some (get_or cs (j + 1) no_child)) (sym next)
        (is_there cs (j + 1) (omega (arith, size, here))) ∙ ap Some (sym high.1)
  ]

  pub one_more_agrees : AgreeTo cs k new j → (get_or new j no_child).page ≡ was.page
      → (get_or new j no_child).bound ≡ was.bound → AgreeTo cs k new (j + 1)
  one_more_agrees a page bound = record { each = λ i lt. go i (below_or_at i lt) }
    where
      below_or_at : (i : ℕ) → i < j + 1 → (i < j) ⊎ (i ≡ j)
      below_or_at i lt = grind (arith, lt)

      go : (i : ℕ) → (i < j) ⊎ (i ≡ j) → slice_get new i ≡ slice_get (others cs k) i
      go i (inl below) = a.each i below
      go i (inr at) = subst (λ (n : ℕ). slice_get new n ≡ slice_get (others cs k) n) (sym at)
          (is_there new j here ∙ ap Some (same_child (get_or new j no_child) was page bound) ∙ sym other_is)

  -- the child of a list that is the others'
  pub other_there : new ≡ others cs k → get_or new j no_child ≡ was
  other_there e =
      same_Some _ _ (sym (is_there new j here) ∙ ap (λ (xs : List PostChild). slice_get xs j) e ∙ other_is)

pub all_agree : (cs : List PostChild) (k : ℕ) (new : List PostChild) (j : ℕ) → k < length cs
    → length new ≡ length cs - 1 → length new ≤ j → AgreeTo cs k new j → new ≡ others cs k
all_agree cs k new j within size end a =
    let n = others_length cs k within in
    same_lists new (others cs k) (omega (arith, n, size)) (λ i lt. a.each i (omega (arith, lt, end)))

pub size_is : (cs : List PostChild) (k : ℕ) (new : List PostChild) → k < length cs → new ≡ others cs k
    → length new ≡ length cs - 1
size_is cs k new within e =
    let n = others_length cs k within in omega (arith, n, ap length e)

-- ---- which child goes

-- none of those before this one goes
pub record NoneBefore (page : ℕ) (old new : List PostChild) (n : ℕ) : Type 0 where
  pub none : (i : ℕ) → i + 1 < n → GoesAt page old new i → ⊥

module _ (page : ℕ) (old new : List PostChild) where
  pub none_first : NoneBefore page old new 1
  none_first = record { none = λ i lt g. omega (arith, lt) }

  pub page_there : (k : ℕ) → GoesAt page old new k → (get_or old k no_child).page ≡ page
  page_there k g = ap (λ (c : PostChild). c.page) (get_there old k g.child no_child g.at) ∙ g.page_is

  pub goes_there : (n : ℕ) → 1 ≤ n → n < length old → (get_or old (n - 1) no_child).page ≡ page
      → new ≡ others old (n - 1) → LosesChild page old new
  goes_there n some within e is = (
    n - 1,
    record {
      child = get_or old (n - 1) no_child;
      at = is_there old (n - 1) (omega (arith, within));
      page_is = e;
      not_last = omega (arith, some, within);
      others = is;
    },
  )

  pub none_more : (n : ℕ) → (GoesAt page old new (n - 1) → ⊥) → NoneBefore page old new n
      → NoneBefore page old new (n + 1)
  none_more n here so = record { none = λ i lt g. go i (below_or_at i lt) g }
    where
      below_or_at : (i : ℕ) → i + 1 < n + 1 → (i + 1 < n) ⊎ (i ≡ n - 1)
      below_or_at i lt = grind (arith, lt)

      go : (i : ℕ) → (i + 1 < n) ⊎ (i ≡ n - 1) → GoesAt page old new i → ⊥
      go i (inl below) g = so.none i below g
      go i (inr at) g = here (subst (GoesAt page old new) at g)

  pub none_goes : (n : ℕ) → length old ≤ n → NoneBefore page old new n → LosesChild page old new → ⊥
  none_goes n end so w = so.none w.0 (omega (arith, w.1.not_last, end)) w.1

-- ---- the child by its place, and between the others

around : (cs : List PostChild) (k : ℕ) (c : PostChild) → slice_get cs k ≡ Some c → take k cs ++ c ∷ drop (suc k) cs ≡ cs
around [] k c e = absurd cc
around (d ∷ ds) zero c e = ap (λ (x : PostChild). x ∷ ds) (sym (same_Some d c e))
around (d ∷ ds) (suc k) c e = ap (λ (xs : List PostChild). d ∷ xs) (around ds k c e)

behind : (cs : List PostChild) (k : ℕ) → suc k < length cs
    → (next : PostChild) × (back : List PostChild) × (drop (suc k) cs ≡ next ∷ back)
behind [] k lt = absurd (omega (arith, lt))
behind (c ∷ []) k lt = absurd (omega (arith, lt))
behind (c ∷ d ∷ cs) zero lt = (d, cs, refl)
behind (c ∷ d ∷ cs) (suc k) lt = behind (d ∷ cs) k (omega (arith, lt))

-- what a deletion asks of the children
record Between (page : ℕ) (old new : List PostChild) : Type 0 where
  bound : ℕ
  front : List PostChild
  next : PostChild
  back : List PostChild
  was : old ≡ front ++ record { page = page; bound = bound } ∷ next ∷ back
  is : new ≡ front ++ next ∷ back

between : (page : ℕ) (old new : List PostChild) → LosesChild page old new → Between page old new
between page old new (k, x) =
    let b = behind old k x.not_last in
    let child : x.child ≡ record { page = page; bound = x.child.bound } =
    ap (λ (p : ℕ). record { page = p; bound = x.child.bound }) x.page_is in
    record {
      bound = x.child.bound;
      front = take k old;
      next = b.0;
      back = b.1;
      was = sym (around old k x.child x.at)
          ∙ ap₂ (λ (c : PostChild) (cs : List PostChild). take k old ++ c ∷ cs) child b.2;
      is = x.others ∙ ap (λ (cs : List PostChild). take k old ++ cs) b.2;
    }

at_place : (front : List PostChild) (c : PostChild) (back : List PostChild)
    → slice_get (front ++ c ∷ back) (length front) ≡ Some c
at_place [] c back = refl
at_place (f ∷ front) c back = at_place front c back

others_are : (front : List PostChild) (c : PostChild) (back : List PostChild)
    → front ++ back ≡ others (front ++ c ∷ back) (length front)
others_are [] c back = refl
others_are (f ∷ front) c back = ap (λ (cs : List PostChild). f ∷ cs) (others_are front c back)

long : (front : List PostChild) (c d : PostChild) (back : List PostChild)
    → suc (length front) < length (front ++ c ∷ d ∷ back)
long [] c d back = omega arith
long (f ∷ front) c d back = let l = long front c d back in omega (arith, l)

by_place : (page : ℕ) (old new : List PostChild) → Between page old new → LosesChild page old new
by_place page old new b =
    let c : PostChild = record { page = page; bound = b.bound } in
    subst (λ (cs : List PostChild). LosesChild page cs new) (sym b.was) (
      length b.front,
      record {
        child = c;
        at = at_place b.front c (b.next ∷ b.back);
        page_is = refl;
        not_last = long b.front c b.next b.back;
        others = b.is ∙ others_are b.front c (b.next ∷ b.back);
      },
    )

-- ---- the record

pub two_told : (xs : List Page) (x y : Page) → length xs ≡ 2 → x ≡ get_or xs 0 x → y ≡ get_or xs 1 y → xs ≡ x ∷ y ∷ []
two_told [] x y n e f = absurd (omega (arith, n))
two_told (a ∷ []) x y n e f = absurd (omega (arith, n))
two_told (a ∷ b ∷ []) x y n e f = ap₂ (λ (p q : Page). p ∷ q ∷ []) (sym e) (sym f)
two_told (a ∷ b ∷ c ∷ xs) x y n e f = absurd (omega (arith, n))

pub three_told : (xs : List Page) (x y z : Page) → length xs ≡ 3 → x ≡ get_or xs 0 x → y ≡ get_or xs 1 y
    → z ≡ get_or xs 2 z → xs ≡ x ∷ y ∷ z ∷ []
three_told [] x y z n e f g = absurd (omega (arith, n))
three_told (a ∷ []) x y z n e f g = absurd (omega (arith, n))
three_told (a ∷ b ∷ []) x y z n e f g = absurd (omega (arith, n))
three_told (a ∷ b ∷ c ∷ []) x y z n e f g =
    ap₂ (λ (p : Page) (ps : List Page). p ∷ ps) (sym e) (ap₂ (λ (p q : Page). p ∷ q ∷ []) (sym f) (sym g))
three_told (a ∷ b ∷ c ∷ d ∷ xs) x y z n e f g = absurd (omega (arith, n))

pub record Two (k : Known) (r : Record) (before after : List Page) (page : ℕ)
    (old new parent then : Page) : Type 0 where
  pub kind_is : r.kind ≡ kind.DeletePost
  pub other : ℕ
  pub pages : changed r ≡ page ∷ other ∷ []
  pub before_is : before ≡ old ∷ parent ∷ []
  pub after_is : after ≡ new ∷ then ∷ []
  pub leaf : LeavesDeleted r old new
  pub upper : LeavesParent r page parent then

pub two_here : (k : Known) (r : Record) (before after : List Page) (page : ℕ) (old new parent then : Page)
    → Two k r before after page old new parent then → IsDeletePostHere k r before after
two_here k r before after page old new parent then t =
    let b = between page t.upper.children t.upper.then t.upper.loses in
    record {
      page = page;
      parent = t.other;
      lefts = [];
      high = t.leaf.high;
      bound = b.bound;
      front = b.front;
      next = b.next;
      back = b.back;
      old = old;
      old_parent = parent;
      lefts_before = [];
      lefts_after = [];
      kind_is = t.kind_is;
      pages = t.pages;
      before_is = t.before_is;
      empty = t.leaf.was;
      child = t.upper.was ∙ ap body.PostInner b.was;
      unlinked = IsUnlinked.none;
      after_is = t.after_is ∙ ap₂ (λ (p q : Page). p ∷ q ∷ []) t.leaf.after
          (t.upper.after ∙ ap (λ (cs : List PostChild). made_with r parent.right (body.PostInner cs)) b.is);
    }

pub record Three (k : Known) (r : Record) (before after : List Page) (page : ℕ)
    (old new left passed parent then : Page) : Type 0 where
  pub kind_is : r.kind ≡ kind.DeletePost
  pub before_page : ℕ
  pub other : ℕ
  pub pages : changed r ≡ page ∷ before_page ∷ other ∷ []
  pub before_is : before ≡ old ∷ left ∷ parent ∷ []
  pub after_is : after ≡ new ∷ passed ∷ then ∷ []
  pub leaf : LeavesDeleted r old new
  pub links : LinksPast r page old.right left passed
  pub upper : LeavesParent r page parent then

pub three_here : (k : Known) (r : Record) (before after : List Page) (page : ℕ)
    (old new left passed parent then : Page) → Three k r before after page old new left passed parent then
    → IsDeletePostHere k r before after
three_here k r before after page old new left passed parent then t =
    let b = between page t.upper.children t.upper.then t.upper.loses in
    let same : made_with r old.right (body.PostLeaf t.links.high t.links.items) ≡ made_with r old.right left.body =
    ap (made_with r old.right) (sym t.links.was) in
    record {
      page = page;
      parent = t.other;
      lefts = t.before_page ∷ [];
      high = t.leaf.high;
      bound = b.bound;
      front = b.front;
      next = b.next;
      back = b.back;
      old = old;
      old_parent = parent;
      lefts_before = left ∷ [];
      lefts_after = made_with r old.right left.body ∷ [];
      kind_is = t.kind_is;
      pages = t.pages;
      before_is = t.before_is;
      empty = t.leaf.was;
      child = t.upper.was ∙ ap body.PostInner b.was;
      unlinked = IsUnlinked.one t.before_page left t.links.high t.links.items t.links.was t.links.link;
      after_is = t.after_is ∙ ap₂ (λ (p : Page) (ps : List Page). p ∷ ps) t.leaf.after
          (ap₂ (λ (p q : Page). p ∷ q ∷ []) (t.links.after ∙ same)
          (t.upper.after ∙ ap (λ (cs : List PostChild). made_with r parent.right (body.PostInner cs)) b.is));
    }

-- ---- and back

first_in : (xs : List Page) (x y : Page) (ys : List Page) → xs ≡ y ∷ ys → x ≡ get_or xs 0 x → y ≡ x
first_in xs x y ys e is = sym (is ∙ ap (λ (zs : List Page). get_or zs 0 x) e)

second_in : (xs : List Page) (x y z : Page) (ys : List Page) → xs ≡ y ∷ z ∷ ys → x ≡ get_or xs 1 x → z ≡ x
second_in xs x y z ys e is = sym (is ∙ ap (λ (zs : List Page). get_or zs 1 x) e)

third_in : (xs : List Page) (x y z u : Page) (ys : List Page) → xs ≡ y ∷ z ∷ u ∷ ys → x ≡ get_or xs 2 x → u ≡ x
third_in xs x y z u ys e is = sym (is ∙ ap (λ (zs : List Page). get_or zs 2 x) e)

deleted_back : (k : Known) (r : Record) (before after : List Page) (w : IsDeletePostHere k r before after)
    → LeavesDeleted r w.old (made_with r w.old.right (body.Deleted (gone.PostLeaf w.high [])))
deleted_back k r before after w = record { high = w.high; was = w.empty; after = refl }

parent_back : (k : Known) (r : Record) (before after : List Page) (w : IsDeletePostHere k r before after)
    → LeavesParent r w.page w.old_parent
    (made_with r w.old_parent.right (body.PostInner (w.front ++ w.next ∷ w.back)))
parent_back k r before after w = record {
  children = w.front ++ record { page = w.page; bound = w.bound } ∷ w.next ∷ w.back;
  then = w.front ++ w.next ∷ w.back;
  was = w.child;
  loses = by_place w.page (w.front ++ record { page = w.page; bound = w.bound } ∷ w.next ∷ w.back)
      (w.front ++ w.next ∷ w.back)
      (record { bound = w.bound; front = w.front; next = w.next; back = w.back; was = refl; is = refl });
  after = refl;
}

-- what is asked of the numbers of changes and of pages
pub record Sizes (count before after : ℕ) : Type 0 where
  pub before_is : before ≡ count
  pub after_is : after ≡ count
  pub least : 2 ≤ count
  pub most : count ≤ 3

sized : (n : ℕ) {c b a : ℕ} → c ≡ n → b ≡ n → a ≡ n → (n ≡ 2) ⊎ (n ≡ 3) → Sizes c b a
sized n e f g few = record {
  before_is = f ∙ sym e;
  after_is = g ∙ sym e;
  least =
      subst (λ (m : ℕ). 2 ≤ m) (sym e) (elim few [ inl two ↦ omega (arith, two) | inr three ↦ omega (arith, three) ]);
  most =
      subst (λ (m : ℕ). m ≤ 3) (sym e) (elim few [ inl two ↦ omega (arith, two) | inr three ↦ omega (arith, three) ]);
}

pub not_less : {m n : ℕ} → m ≡ n → 2 ≤ n → m < 2 → ⊥
not_less e le lt = omega (arith, e, le, lt)

pub not_more : {m n : ℕ} → m ≡ n → n ≤ 3 → 3 < m → ⊥
not_more e le lt = omega (arith, e, le, lt)

-- what it says of its first page, of its last, and of the one between them
module _ (k : Known) (r : Record) (before after : List Page) (w : IsDeletePostHere k r before after) where
  pub leaf_back : (old new : Page) → old ≡ get_or before 0 old → new ≡ get_or after 0 new → LeavesDeleted r old new
  leaf_back old new e f =
      subst (LeavesDeleted r old) (first_in after new _ _ w.after_is f)
      (subst (λ (p : Page). LeavesDeleted r p (made_with r w.old.right (body.Deleted (gone.PostLeaf w.high []))))
      (first_in before old w.old _ w.before_is e) (deleted_back k r before after w))

  pub upper_back : (page : ℕ) (parent then : Page) → w.page ≡ page → (n : ℕ) → suc n ≡ length before
      → parent ≡ get_or before n parent → then ≡ get_or after n then → LeavesParent r page parent then
  upper_back page parent then same n size e f = by
      (last w.lefts w.lefts_before w.lefts_after w.unlinked w.before_is w.after_is)
    where
      parent_then : Page
      parent_then = made_with r w.old_parent.right (body.PostInner (w.front ++ w.next ∷ w.back))

      by : (w.old_parent ≡ parent) × (parent_then ≡ then) → LeavesParent r page parent then
      by s = subst (LeavesParent r page parent) s.1 (subst (λ (p : Page). LeavesParent r page p parent_then) s.0
          (subst (λ (p : ℕ). LeavesParent r p w.old_parent parent_then) same (parent_back k r before after w)))

      last : (ls : List ℕ) (bs cs : List Page) → IsUnlinked r w.page w.old.right ls bs cs
          → before ≡ w.old ∷ (bs ++ w.old_parent ∷ [])
          → after ≡ made_with r w.old.right (body.Deleted (gone.PostLeaf w.high [])) ∷ (cs ++ parent_then ∷ [])
          → (w.old_parent ≡ parent) × (parent_then ≡ then)
      last _ _ _ IsUnlinked.none b a =
          let one : n ≡ 1 = omega (arith, size, ap length b) in (
            second_in before parent w.old w.old_parent [] b
                (subst (λ (i : ℕ). parent ≡ get_or before i parent) one e),
            second_in after then _ parent_then [] a (subst (λ (i : ℕ). then ≡ get_or after i then) one f),
          )
      last _ _ _ (IsUnlinked.one q left high items was link) b a =
          let two : n ≡ 2 = omega (arith, size, ap length b) in (
            third_in before parent w.old left w.old_parent [] b
                (subst (λ (i : ℕ). parent ≡ get_or before i parent) two e),
            third_in after then _ _ parent_then [] a (subst (λ (i : ℕ). then ≡ get_or after i then) two f),
          )

  pub links_back : (page : ℕ) (old left passed : Page) → w.page ≡ page → length before ≡ 3
      → old ≡ get_or before 0 old → left ≡ get_or before 1 left → passed ≡ get_or after 1 passed
      → LinksPast r page old.right left passed
  links_back page old left passed same n e f g =
      go w.lefts w.lefts_before w.lefts_after w.unlinked w.before_is w.after_is
    where
      go : (ls : List ℕ) (bs cs : List Page) → IsUnlinked r w.page w.old.right ls bs cs
          → before ≡ w.old ∷ (bs ++ w.old_parent ∷ [])
          → after ≡ made_with r w.old.right (body.Deleted (gone.PostLeaf w.high []))
          ∷ (cs ++ made_with r w.old_parent.right (body.PostInner (w.front ++ w.next ∷ w.back)) ∷ [])
          → LinksPast r page old.right left passed
      go _ _ _ IsUnlinked.none b a = absurd (omega (arith, n, ap length b))
      go _ _ _ (IsUnlinked.one q was_left high items was link) b a =
          let first = first_in before old w.old _ b e in
          let second : was_left ≡ left = second_in before left w.old was_left _ b f in
          let third = second_in after passed _ _ _ a g in
          let passes : LinksPast r w.page w.old.right was_left (made_with r w.old.right was_left.body) =
          record { high = high; items = items; was = was; link = link; after = ap (made_with r w.old.right) was } in
          subst (LinksPast r page old.right left) third
          (subst (λ (p : Page). LinksPast r page old.right p (made_with r w.old.right was_left.body)) second
          (subst (λ (o : Page). LinksPast r page o.right was_left (made_with r w.old.right was_left.body)) first
          (subst (λ (p : ℕ). LinksPast r p w.old.right was_left (made_with r w.old.right was_left.body)) same
          passes)))

  -- it changes two pages or three
  pub sizes : Sizes (length r.changes) (length before) (length after)
  sizes = go w.lefts w.lefts_before w.lefts_after w.unlinked w.pages w.before_is w.after_is
    where
      go : (ls : List ℕ) (bs cs : List Page) → IsUnlinked r w.page w.old.right ls bs cs
          → changed r ≡ w.page ∷ (ls ++ w.parent ∷ []) → before ≡ w.old ∷ (bs ++ w.old_parent ∷ [])
          → after ≡ made_with r w.old.right (body.Deleted (gone.PostLeaf w.high []))
          ∷ (cs ++ made_with r w.old_parent.right (body.PostInner (w.front ++ w.next ∷ w.back)) ∷ [])
          → Sizes (length r.changes) (length before) (length after)
      go _ _ _ IsUnlinked.none ps b a =
          sized 2 (sym (length_pages r.changes) ∙ ap length ps) (ap length b) (ap length a) (inl refl)
      go _ _ _ (IsUnlinked.one q left high items was link) ps b a =
          sized 3 (sym (length_pages r.changes) ∙ ap length ps) (ap length b) (ap length a) (inr refl)

-- ---- the pages that it changes

pub page_of_first : (cs : List Change) (x : Change) (p : ℕ) (ps : List ℕ) → x ≡ get_or cs 0 x → pages_of cs ≡ p ∷ ps
    → p ≡ x.page
page_of_first [] x p ps e f = absurd cc
page_of_first (c ∷ cs) x p ps e f =
    let first : c.page ≡ p = ap (λ (qs : List ℕ). get_or qs 0 0) f in sym first ∙ ap (λ (y : Change). y.page) (sym e)

pub two_changed : (cs : List Change) (x : Change) → length cs ≡ 2 → x ≡ get_or cs 0 x
    → (q : ℕ) × (pages_of cs ≡ x.page ∷ q ∷ [])
two_changed [] x n e = absurd (omega (arith, n))
two_changed (c ∷ []) x n e = absurd (omega (arith, n))
two_changed (c ∷ d ∷ []) x n e = (d.page, ap (λ (y : Change). y.page ∷ d.page ∷ []) (sym e))
two_changed (c ∷ d ∷ b ∷ cs) x n e = absurd (omega (arith, n))

pub three_changed : (cs : List Change) (x : Change) → length cs ≡ 3 → x ≡ get_or cs 0 x
    → (q p : ℕ) × (pages_of cs ≡ x.page ∷ q ∷ p ∷ [])
three_changed [] x n e = absurd (omega (arith, n))
three_changed (c ∷ []) x n e = absurd (omega (arith, n))
three_changed (c ∷ d ∷ []) x n e = absurd (omega (arith, n))
three_changed (c ∷ d ∷ b ∷ []) x n e = (d.page, b.page, ap (λ (y : Change). y.page ∷ d.page ∷ b.page ∷ []) (sym e))
three_changed (c ∷ d ∷ b ∷ a ∷ cs) x n e = absurd (omega (arith, n))
