-- What the tests of a record RemoveItems say.
use Rattle.std.proofs.Common.{◌≡◌, ◌≢◌, ◌⊎◌, ◌<◌, ◌≤◌, ◌+◌, ℕ, zero, suc, Bool, true, false, List, []}
use Rattle.std.proofs.Common.{◌∷◌, ◌++◌, length, get_or, refl, sym, ap, ap₂, subst, ◌∙◌, inl, inr, arith}
use Rattle.std.specs.Prelude.{Some, not, bytes_eq}
use Rattle.std.specs.Cmp.Lexicographic.{bytes_decides}
use Rattle.std.specs.List.{slice_get, AllByRecursion}
use Rattle.std.proofs.lemmas.Bool.{cases_eq, not-false}
use Rattle.ts_base.specs.Keys.{Key}
use Rattle.page_types.specs.Items.{items_of, IsItemList}
use Rattle.page_types.specs.Pages.{IsPage, IsBody, IsEntry, ArePostings, AreEntries}
use Rattle.page_types.specs.declared.page.Page.{Page}
use Rattle.page_types.specs.declared.page.Entry.{Entry}
use Rattle.page_types.specs.declared.page.Postings.{Postings}
use Rattle.page_types.specs.declared.page.Postings.TheVariants.{Inline, Root}
use Rattle.page_types.specs.declared.page.Body.{Body}
use Rattle.page_types.specs.declared.page.Body.TheVariants as body
use Rattle.page_types.specs.declared.record.Record.{Record}
use Rattle.page_types.specs.declared.record.Kind.TheVariants as kind
use Rattle.core_state.specs.Log.{In}
use Rattle.core_state.specs.Known.{Known}
use Rattle.core_state.specs.Changes.{made_with}
use Rattle.core_state.specs.VacuumRules.{ItemsLeave, EntryLoses, EntriesLose, ListsLose, ItemGoes, IsRemoveItemsHere}
use Rattle.core_vacuum.specs.Inner.Removing.{AreAmong, EntryGoes, EntriesGo, EntriesLeft, ListLeft}
use Rattle.core_vacuum.proofs.AmongLists.{items_rise}
use Rattle.core_vacuum.proofs.FreedSlots.{one_told, one_changed, one_back, below_or_at}

-- ---- one entry

-- what a test of bytes says
pub bytes_same : (x y : List ℕ) (r : Bool) → r ≡ not (bytes_eq x y) → r ≡ false → x ≡ y
bytes_same x y r e f = (bytes_decides x y).0 (not-false _ (sym e ∙ f))

same_lists : (a b : List ℕ) → Inline a ≡ Inline b → a ≡ b
same_lists a b e = cc

same_roots : (a b : ℕ) → Root a ≡ Root b → a ≡ b
same_roots a b e = cc

no_root : (a : List ℕ) (b : ℕ) → Inline a ≡ Root b → ⊥
no_root a b e = cc

pub list_of : (e : Entry) (a : List ℕ) → IsEntry e → e.postings ≡ Inline a → IsItemList a
list_of e a is p = (subst ArePostings p is.postings).1

among_itself : (a b : List ℕ) → a ≡ b → AreAmong b a
among_itself a b e = record { each = λ i w. subst (λ (l : List ℕ). In i (items_of l)) (sym e) w }

pub same_key : (e f : Entry) → EntryGoes e f → e.key ≡ f.key
same_key e f (EntryGoes.same p) = ap (λ (x : Entry). x.key) p
same_key e f (EntryGoes.less a b k p q h) = k

pub same_entry : (e f : Entry) → e.key ≡ f.key → e.postings ≡ f.postings → e ≡ f
same_entry e f k p =
    ap (λ (z : Key). record { key = z; postings = e.postings }) k
    ∙ ap (λ (z : Postings). record { key = f.key; postings = z }) p

postings_of : (e f : Entry) → e ≡ f → e.postings ≡ f.postings
postings_of e f p = ap (λ (x : Entry). x.postings) p

pub lists_go : (e f : Entry) (a b : List ℕ) → e.postings ≡ Inline a → f.postings ≡ Inline b → EntryGoes e f
    → AreAmong b a
lists_go e f a b x y (EntryGoes.same p) = among_itself a b (same_lists a b (sym x ∙ postings_of e f p ∙ y))
lists_go e f a b x y (EntryGoes.less c d k p q h) =
    subst (λ (l : List ℕ). AreAmong l a) (same_lists d b (sym q ∙ y))
    (subst (AreAmong d) (same_lists c a (sym p ∙ x)) h)

pub roots_go : (e f : Entry) (a b : ℕ) → e.postings ≡ Root a → f.postings ≡ Root b → EntryGoes e f → a ≡ b
roots_go e f a b x y (EntryGoes.same p) = same_roots a b (sym x ∙ postings_of e f p ∙ y)
roots_go e f a b x y (EntryGoes.less c d k p q h) = absurd (no_root c a (sym p ∙ x))

pub list_stays : (e f : Entry) (a : List ℕ) (b : ℕ) → e.postings ≡ Inline a → f.postings ≡ Root b → EntryGoes e f → ⊥
list_stays e f a b x y (EntryGoes.same p) = no_root a b (sym x ∙ postings_of e f p ∙ y)
list_stays e f a b x y (EntryGoes.less c d k p q h) = no_root d b (sym q ∙ y)

pub root_stays : (e f : Entry) (a : ℕ) (b : List ℕ) → e.postings ≡ Root a → f.postings ≡ Inline b → EntryGoes e f → ⊥
root_stays e f a b x y (EntryGoes.same p) = no_root b a (sym y ∙ sym (postings_of e f p) ∙ x)
root_stays e f a b x y (EntryGoes.less c d k p q h) = no_root c a (sym p ∙ x)

-- ---- the entries of a leaf

there : {A : Type 0} (xs : List A) (k : ℕ) (x : A) → slice_get xs k ≡ Some x → k < length xs
there [] k x e = absurd cc
there (y ∷ xs) zero x e = omega arith
there (y ∷ xs) (suc k) x e = omega (arith, there xs k x e)

some_one : (e f : Entry) → Some e ≡ Some f → e ≡ f
some_one e f p = cc

pub is_entry : (es : List Entry) (k : ℕ) (e : Entry) → AllByRecursion IsEntry es → slice_get es k ≡ Some e → IsEntry e
is_entry [] k e all at = absurd cc
is_entry (x ∷ es) zero e all at = subst IsEntry (some_one x e at) all.0
is_entry (x ∷ es) (suc k) e all at = is_entry es k e all.1 at

same_entries : (old new : List Entry) → length new ≡ length old
    → ((k : ℕ) → k < length old → slice_get new k ≡ slice_get old k) → new ≡ old
same_entries [] [] n each = refl
same_entries [] (f ∷ new) n each = absurd (omega (arith, n))
same_entries (e ∷ old) [] n each = absurd (omega (arith, n))
same_entries (e ∷ old) (f ∷ new) n each =
    ap₂ (λ (x : Entry) (xs : List Entry). x ∷ xs) (some_one f e (each zero (omega arith)))
    (same_entries old new (omega (arith, n)) (λ k lt. each (suc k) (omega (arith, lt))))

-- the entries below n go, and whether one of them is less
pub record GoUpTo (old new : List Entry) (n : ℕ) (less : Bool) : Type 0 where
  pub each : (k : ℕ) (e f : Entry) → k < n → slice_get old k ≡ Some e → slice_get new k ≡ Some f → EntryGoes e f
  pub some : less ≡ true → new ≢ old
  pub none : less ≡ false → (k : ℕ) → k < n → slice_get new k ≡ slice_get old k

pub none_goes : (old new : List Entry) → GoUpTo old new 0 false
none_goes old new = record {
  each = λ k e f lt. absurd (omega (arith, lt));
  some = λ e. absurd cc;
  none = λ e k lt. absurd (omega (arith, lt));
}

pub one_more : (old new : List Entry) (n : ℕ) (less then : Bool) (e f : Entry) → GoUpTo old new n less
    → slice_get old n ≡ Some e → slice_get new n ≡ Some f → EntryGoes e f
    → (then ≡ true → (less ≡ true) ⊎ (e ≢ f)) → (then ≡ false → (less ≡ false) × (e ≡ f))
    → GoUpTo old new (n + 1) then
one_more old new n less then e f so at there here came stays = record {
  each = λ i x y lt was is. elim (below_or_at i n lt) [
    | inl below ↦ so.each i x y below was is
    | inr p ↦
        let first : e ≡ x = some_one e x (sym at ∙ ap (slice_get old) (sym p) ∙ was) in
        let second : f ≡ y = some_one f y (sym there ∙ ap (slice_get new) (sym p) ∙ is) in
        subst (EntryGoes x) second (subst (λ (z : Entry). EntryGoes z f) first here)
  ];
  some = λ t same. elim (came t) [
    | inl before ↦ so.some before same
    | inr off ↦ off (some_one e f (sym at ∙ sym (ap (λ (xs : List Entry). slice_get xs n) same) ∙ there))
  ];
  none = λ t i lt. elim (below_or_at i n lt) [
    | inl below ↦ so.none (stays t).0 i below
    | inr p ↦ subst (λ (j : ℕ). slice_get new j ≡ slice_get old j) (sym p)
        (there ∙ ap Some (sym (stays t).1) ∙ sym at)
  ];
}

pub all_go : (old new : List Entry) (n : ℕ) (less : Bool) → length new ≡ length old → length old ≤ n
    → GoUpTo old new n less → less ≡ true → EntriesGo old new
all_go old new n less size end so t = record {
  same_length = size;
  each = λ k e f at is. so.each k e f (omega (arith, there old k e at, end)) at is;
  some = so.some t;
}

pub some_goes : (old new : List Entry) (n : ℕ) (less : Bool) → length old ≤ n → GoUpTo old new n less
    → EntriesGo old new → less ≡ true
some_goes old new n true end so go = refl
some_goes old new n false end so go =
    absurd (go.some (same_entries old new go.same_length (λ j lt. so.none refl j (omega (arith, lt, end)))))

-- ---- the items that went

is_among : (i : ℕ) (items : List ℕ) → In i items ⊎ (In i items → ⊥)
is_among i [] = inr (λ w. w)
is_among i (x ∷ xs) = elim (cases_eq i x) [
  | inl e ↦ inl (inl e)
  | inr off ↦ elim (is_among i xs) [
    | inl w ↦ inl (inr w)
    | inr none ↦ inr (λ w. elim w [ inl e ↦ off e | inr v ↦ none v ])
  ]
]

in_front : {A : Type 0} (x : A) (xs ys : List A) → In x xs → In x (xs ++ ys)
in_front x [] ys w = absurd w
in_front x (z ∷ xs) ys (inl e) = inl e
in_front x (z ∷ xs) ys (inr w) = inr (in_front x xs ys w)

in_back : {A : Type 0} (x : A) (xs ys : List A) → In x ys → In x (xs ++ ys)
in_back x [] ys w = w
in_back x (z ∷ xs) ys w = inr (in_back x xs ys w)

in_either : {A : Type 0} (x : A) (xs ys : List A) → In x (xs ++ ys) → In x xs ⊎ In x ys
in_either x [] ys w = inr w
in_either x (z ∷ xs) ys (inl e) = inl (inl e)
in_either x (z ∷ xs) ys (inr w) = elim (in_either x xs ys w) [ inl v ↦ inl (inr v) | inr v ↦ inr v ]

-- those of some items that are not among others
record NotAmong (others items : List ℕ) : Type 0 where
  gone : List ℕ
  went : (i : ℕ) → In i gone → In i items × (In i others → ⊥)
  all : (i : ℕ) → In i items → (In i others → ⊥) → In i gone

not_among : (others items : List ℕ) → NotAmong others items
not_among others [] = record { gone = []; went = λ i w. absurd w; all = λ i w none. absurd w }
not_among others (x ∷ xs) =
    let rest = not_among others xs in
    elim (is_among x others) [
      | inl here ↦ record {
        gone = rest.gone;
        went = λ i w. let v = rest.went i w in (inr v.0, v.1);
        all = λ i w none. elim w [
          | inl e ↦ absurd (none (subst (λ (k : ℕ). In k others) (sym e) here))
          | inr v ↦ rest.all i v none
        ];
      }
      | inr off ↦ record {
        gone = x ∷ rest.gone;
        went = λ i w. elim w [
          | inl e ↦ (inl e, subst (λ (k : ℕ). In k others → ⊥) (sym e) off)
          | inr v ↦ let u = rest.went i v in (inr u.0, u.1)
        ];
        all = λ i w none. elim w [ inl e ↦ inl e | inr v ↦ inr (rest.all i v none) ];
      }
    ]

-- items went from a list, just these
record ListWent (a b : List ℕ) : Type 0 where
  removed : List ℕ
  leave : ItemsLeave removed a b
  went : (i : ℕ) → In i removed → In i (items_of a) × (In i (items_of b) → ⊥)

list_went : (a b : List ℕ) → IsItemList b → AreAmong b a → ListWent a b
list_went a b list among =
    let n = not_among (items_of b) (items_of a) in
    record {
      removed = n.gone;
      leave = record {
        rises = items_rise 0 (items_of b) list.items;
        no_other = among.each;
        each = λ i w. elim (is_among i (items_of b)) [ inl v ↦ inl v | inr none ↦ inr (n.all i w none) ];
      };
      went = n.went;
    }

leave_more : (xs ys : List ℕ) (a b : List ℕ) → ((i : ℕ) → In i xs → In i ys) → ItemsLeave xs a b → ItemsLeave ys a b
leave_more xs ys a b more l = record {
  rises = l.rises;
  no_other = l.no_other;
  each = λ i w. elim (l.each i w) [ inl v ↦ inl v | inr v ↦ inr (more i v) ];
}

lose_more : (xs ys : List ℕ) (e f : Entry) → ((i : ℕ) → In i xs → In i ys) → EntryLoses xs e f → EntryLoses ys e f
lose_more xs ys e f more (EntryLoses.same p) = EntryLoses.same p
lose_more xs ys e f more (EntryLoses.less a b k p q l) = EntryLoses.less a b k p q (leave_more xs ys a b more l)

entries_more : (xs ys : List ℕ) (es fs : List Entry) → ((i : ℕ) → In i xs → In i ys) → EntriesLose xs es fs
    → EntriesLose ys es fs
entries_more xs ys [] [] more l = tt
entries_more xs ys [] (f ∷ fs) more l = absurd l
entries_more xs ys (e ∷ es) [] more l = absurd l
entries_more xs ys (e ∷ es) (f ∷ fs) more l = (lose_more xs ys e f more l.0, entries_more xs ys es fs more l.1)

-- an item went from the list of the k-th entry
record WentAt (i : ℕ) (es fs : List Entry) : Type 0 where
  k : ℕ
  e : Entry
  f : Entry
  a : List ℕ
  b : List ℕ
  old_at : slice_get es k ≡ Some e
  new_at : slice_get fs k ≡ Some f
  old_is : e.postings ≡ Inline a
  new_is : f.postings ≡ Inline b
  was : In i (items_of a)
  gone : In i (items_of b) → ⊥

went_later : (i : ℕ) (e f : Entry) (es fs : List Entry) → WentAt i es fs → WentAt i (e ∷ es) (f ∷ fs)
went_later i e f es fs w = record {
  k = suc w.k;
  e = w.e;
  f = w.f;
  a = w.a;
  b = w.b;
  old_at = w.old_at;
  new_at = w.new_at;
  old_is = w.old_is;
  new_is = w.new_is;
  was = w.was;
  gone = w.gone;
}

record EntriesWent (es fs : List Entry) : Type 0 where
  removed : List ℕ
  lose : EntriesLose removed es fs
  went : (i : ℕ) → In i removed → WentAt i es fs

-- the first entry, and those after it
first_went : (e f : Entry) (es fs : List Entry) → EntryGoes e f → IsEntry f → EntriesWent es fs
    → EntriesWent (e ∷ es) (f ∷ fs)
first_went e f es fs (EntryGoes.same p) is rest = record {
  removed = rest.removed;
  lose = (EntryLoses.same p, rest.lose);
  went = λ i w. went_later i e f es fs (rest.went i w);
}
first_went e f es fs (EntryGoes.less a b key p q among) is rest =
    let one = list_went a b (subst ArePostings q is.postings).1 among in
    record {
      removed = one.removed ++ rest.removed;
      lose = (
        EntryLoses.less a b key p q (leave_more one.removed (one.removed ++ rest.removed) a b
            (λ i w. in_front i one.removed rest.removed w) one.leave),
        entries_more rest.removed (one.removed ++ rest.removed) es fs (λ i w. in_back i one.removed rest.removed w)
            rest.lose,
      );
      went = λ i w. elim (in_either i one.removed rest.removed w) [
        | inl v ↦
            let x = one.went i v in
            record {
              k = zero;
              e = e;
              f = f;
              a = a;
              b = b;
              old_at = refl;
              new_at = refl;
              old_is = p;
              new_is = q;
              was = x.0;
              gone = x.1;
            }
        | inr v ↦ went_later i e f es fs (rest.went i v)
      ];
    }

entries_went : (es fs : List Entry) → length fs ≡ length es
    → ((k : ℕ) (e f : Entry) → slice_get es k ≡ Some e → slice_get fs k ≡ Some f → EntryGoes e f)
    → AllByRecursion IsEntry fs → EntriesWent es fs
entries_went [] [] n each are = record { removed = []; lose = tt; went = λ i w. absurd w }
entries_went [] (f ∷ fs) n each are = absurd (omega (arith, n))
entries_went (e ∷ es) [] n each are = absurd (omega (arith, n))
entries_went (e ∷ es) (f ∷ fs) n each are =
    first_went e f es fs (each zero e f refl refl) are.0
    (entries_went es fs (omega (arith, n)) (λ k x y at is. each (suc k) x y at is) are.1)

-- ---- and back

entry_back : (removed : List ℕ) (e f : Entry) → EntryLoses removed e f → EntryGoes e f
entry_back removed e f (EntryLoses.same p) = EntryGoes.same p
entry_back removed e f (EntryLoses.less a b k p q l) = EntryGoes.less a b k p q (record { each = l.no_other })

entries_back : (removed : List ℕ) (es fs : List Entry) → EntriesLose removed es fs
    → (length fs ≡ length es)
    × ((k : ℕ) (e f : Entry) → slice_get es k ≡ Some e → slice_get fs k ≡ Some f → EntryGoes e f)
entries_back removed [] [] l = (refl, λ k e f at is. absurd cc)
entries_back removed [] (f ∷ fs) l = absurd l
entries_back removed (e ∷ es) [] l = absurd l
entries_back removed (e ∷ es) (f ∷ fs) l =
    let rest = entries_back removed es fs l.1 in
    (ap suc rest.0, each rest.1)
  where
    each : ((k : ℕ) (x y : Entry) → slice_get es k ≡ Some x → slice_get fs k ≡ Some y → EntryGoes x y)
        → (k : ℕ) (x y : Entry) → slice_get (e ∷ es) k ≡ Some x → slice_get (f ∷ fs) k ≡ Some y → EntryGoes x y
    each more zero x y at is =
        subst (EntryGoes x) (some_one f y is) (subst (λ (z : Entry). EntryGoes z f) (some_one e x at)
        (entry_back removed e f l.0))
    each more (suc k) x y at is = more k x y at is

-- ---- the record

pub leaf_entries : (p : Page) (high : Key) (es : List Entry) → IsPage p → p.body ≡ body.EntryLeaf high es
    → AreEntries es
leaf_entries p high es is e = (subst (IsBody p.right p.stamp) e is.body).1

pub leaf_items : (p : Page) (high : ℕ) (items : List ℕ) → IsPage p → p.body ≡ body.PostLeaf high items
    → IsItemList items
leaf_items p high items is e = (subst (IsBody p.right p.stamp) e is.body).1

same_leaf : (high other : Key) (es fs : List Entry) → body.EntryLeaf high es ≡ body.EntryLeaf other fs → es ≡ fs
same_leaf high other es fs e = cc

same_list : (high other : ℕ) (a b : List ℕ) → body.PostLeaf high a ≡ body.PostLeaf other b → a ≡ b
same_list high other a b e = cc

body_of : (p q : Page) → p ≡ q → p.body ≡ q.body
body_of p q e = ap (λ (x : Page). x.body) e

-- what is asked of the record beside its pages
pub record OnePage (r : Record) (old new : Page) (before after : List Page) : Type 0 where
  pub kind_is : r.kind ≡ kind.RemoveItems
  pub one : length r.changes ≡ 1
  pub before_is : before ≡ old ∷ []
  pub after_is : after ≡ new ∷ []

pub one_page : (r : Record) (old new : Page) (before after : List Page) → r.kind ≡ kind.RemoveItems
    → length r.changes ≡ 1 → length before ≡ 1 → length after ≡ 1 → old ≡ get_or before 0 old
    → new ≡ get_or after 0 new → OnePage r old new before after
one_page r old new before after e n one one' old_is new_is = record {
  kind_is = e;
  one = n;
  before_is = one_told before old one old_is;
  after_is = one_told after new one' new_is;
}

pub page_at : (xs : List Page) (x : Page) → ((k : ℕ) (d : Page) → k < length xs → IsPage (get_or xs k d))
    → length xs ≡ 1 → x ≡ get_or xs 0 x → IsPage x
page_at xs x all one is = subst IsPage (sym is) (all 0 x (omega (arith, one)))

pub entries_told : (k : Known) (r : Record) (old new : Page) (before after : List Page)
    → OnePage r old new before after → IsPage new → EntriesLeft r old new → IsRemoveItemsHere k r before after
entries_told k r old new before after p page a =
    let one = one_changed r.changes p.one in
    let are : AreEntries a.left = leaf_entries new a.high a.left page (body_of new _ a.after) in
    let g = entries_went a.entries a.left a.go.same_length a.go.each are.each in
    let content : Body = body.EntryLeaf a.high a.left in
    record {
      page = one.0;
      removed = g.removed;
      content = content;
      old = old;
      kind_is = p.kind_is;
      pages = one.1;
      before_is = p.before_is;
      lists = subst (λ (b : Body). ListsLose g.removed b content) (sym a.was)
          (ListsLose.entries a.high a.entries a.left g.lose);
      went = λ i w.
          let x = g.went i w in
          subst (λ (b : Body). ItemGoes i b content) (sym a.was)
          (ItemGoes.from_entry a.high a.entries a.left x.k x.e x.f x.a x.b x.old_at x.new_at x.old_is x.new_is x.was
          x.gone);
      some = λ e. a.go.some (same_leaf a.high a.high a.left a.entries (e ∙ a.was));
      after_is = p.after_is ∙ ap (λ (q : Page). q ∷ []) a.after;
    }

pub list_told : (k : Known) (r : Record) (old new : Page) (before after : List Page)
    → OnePage r old new before after → IsPage new → ListLeft r old new → IsRemoveItemsHere k r before after
list_told k r old new before after p page a =
    let one = one_changed r.changes p.one in
    let g = list_went a.items a.left (leaf_items new a.high a.left page (body_of new _ a.after)) a.go in
    let content : Body = body.PostLeaf a.high a.left in
    record {
      page = one.0;
      removed = g.removed;
      content = content;
      old = old;
      kind_is = p.kind_is;
      pages = one.1;
      before_is = p.before_is;
      lists = subst (λ (b : Body). ListsLose g.removed b content) (sym a.was)
          (ListsLose.postings a.high a.items a.left g.leave);
      went = λ i w.
          let x = g.went i w in
          subst (λ (b : Body). ItemGoes i b content) (sym a.was)
          (ItemGoes.from_postings a.high a.items a.left x.0 x.1);
      some = λ e. a.some (same_list a.high a.high a.left a.items (e ∙ a.was));
      after_is = p.after_is ∙ ap (λ (q : Page). q ∷ []) a.after;
    }

-- one of both holds of what it leaves
left_of : (r : Record) (old : Page) (removed : List ℕ) (b c : Body) → old.body ≡ b → c ≢ b → ListsLose removed b c
    → EntriesLeft r old (made_with r old.right c) ⊎ ListLeft r old (made_with r old.right c)
left_of r old removed _ _ was some (ListsLose.entries high es fs lose) =
    let back = entries_back removed es fs lose in
    inl (record {
      high = high;
      entries = es;
      left = fs;
      was = was;
      go = record { same_length = back.0; each = back.1; some = λ e. some (ap (body.EntryLeaf high) e) };
      after = refl;
    })
left_of r old removed _ _ was some (ListsLose.postings high a b leave) = inr (record {
  high = high;
  items = a;
  left = b;
  was = was;
  go = record { each = leave.no_other };
  some = λ e. some (ap (body.PostLeaf high) e);
  after = refl;
})

pub gone_back : (k : Known) (r : Record) (old new : Page) (before after : List Page) → old ≡ get_or before 0 old
    → new ≡ get_or after 0 new → IsRemoveItemsHere k r before after → EntriesLeft r old new ⊎ ListLeft r old new
gone_back k r old new before after old_is new_is w =
    let was : w.old ≡ old = one_back before old w.old w.before_is old_is in
    let now : made_with r w.old.right w.content ≡ new =
    one_back after new (made_with r w.old.right w.content) w.after_is new_is in
    let left = left_of r w.old w.removed w.old.body w.content refl w.some w.lists in
    subst (λ (q : Page). EntriesLeft r old q ⊎ ListLeft r old q) now
    (subst (λ (p : Page). EntriesLeft r p (made_with r w.old.right w.content)
    ⊎ ListLeft r p (made_with r w.old.right w.content)) was left)
