-- A walk as it is defined is a walk over the nodes; what a leaf and its trees say of an item.
use Rattle.std.proofs.Common.{◌≡◌, ◌⊎◌, ◌≤◌, ℕ, Bool, true, false, ◌&&◌, ◌||◌, nat_eq, List, [], ◌∷◌, ◌++◌, map, refl}
use Rattle.std.proofs.Common.{sym, ap, subst, ap₂, ◌∙◌, inl, inr}
use Rattle.std.specs.List.{list_any}
use Rattle.core_state.proofs.Trees.Walk as w
use Rattle.core_state.proofs.Trees.EntryWalk as e
use Rattle.page_types.specs.declared.page.Page.{Page}
use Rattle.page_types.specs.declared.page.Entry.{Entry}
use Rattle.page_types.specs.declared.page.Postings.{Postings}
use Rattle.page_types.specs.declared.page.Postings.TheVariants.{Inline, Root}
use Rattle.page_types.specs.Items.{items_of}
use Rattle.page_types.specs.Views.{entries_of}
use Rattle.core_state.specs.Log.{Pages, In}
use Rattle.ts_base.specs.Keys.{Key}
use Rattle.page_types.specs.Views.{posting_items_in}
use Rattle.core_state.specs.Readings.{Read}
use Rattle.core_moments.specs.Walk.{Follows, LeadTo, toward, along, beyond, Sought, fits, LeafRead, AreLeaves, AreTrees}
use Rattle.core_moments.specs.Walk.{Branch, leaf_reads, tree_reads}
use Rattle.core_moments.specs.Judging.{under, under_entry}
use Rattle.core_state.specs.Trees.Ext.Ext.{at}
use Rattle.core_moments.proofs.Words.{upto, and_true, same_number, number_itself}
use Rattle.core_moments.proofs.Judging.{or_left, or_right}
use Rattle.core_moments.proofs.Views.{tr, tr_leaf, goes, toward_same, along_same, beyond_same}
use Rattle.core_state.specs.Trees.TreeNodes.{entry_node, post_node}

pub any_true : {A : Type 0} (p : A → Bool) (x : A) (xs : List A) → In x xs → p x ≡ true → list_any p xs ≡ true
any_true p x [] m e = absurd m
any_true {A} p x (y ∷ ys) (inl s) e = or_left (p y) (list_any p ys) (subst (λ (z : A). p z ≡ true) s e)
any_true p x (y ∷ ys) (inr m) e = or_right (p y) (list_any p ys) (any_true p x ys m e)

or_cases : (a b : Bool) → (a || b) ≡ true → (a ≡ true) ⊎ (b ≡ true)
or_cases true b e = inl refl
or_cases false b e = inr e

pub any_in : {A : Type 0} (p : A → Bool) (xs : List A) → list_any p xs ≡ true → (x : A) × In x xs × (p x ≡ true)
any_in p [] e = cc
any_in p (y ∷ ys) e = elim (or_cases (p y) (list_any p ys) e) [
  | inl f ↦ (y, inl refl, f)
  | inr f ↦ let r = any_in p ys f in (r.0, inr r.1, r.2)
]

map_append : {A B : Type 0} (f : A → B) (xs ys : List A) → map f (xs ++ ys) ≡ map f xs ++ map f ys
map_append f [] ys = refl
map_append f (x ∷ xs) ys = ap (λ l. f x ∷ l) (map_append f xs ys)

tree_reads_same : (ts : List (List Read)) → map tr (tree_reads ts) ≡ e.tree_reads (map (map tr) ts)
tree_reads_same [] = refl
tree_reads_same (t ∷ ts) = map_append tr t (tree_reads ts) ∙ ap (λ (l : List w.Read). map tr t ++ l)
    (tree_reads_same ts)

leaf_reads_same : (ls : List LeafRead) → map tr (leaf_reads ls) ≡ e.leaf_reads (map tr_leaf ls)
leaf_reads_same [] = refl
leaf_reads_same (l ∷ ls) = ap (λ (x : List w.Read). tr l.leaf ∷ x)
    (map_append tr (tree_reads l.trees) (leaf_reads ls) ∙ ap₂ (λ (a b : List w.Read). a ++ b)
    (tree_reads_same l.trees) (leaf_reads_same ls))

pub walk_reads_same : (down : List Read) (ls : List LeafRead)
    → map tr (down ++ leaf_reads ls) ≡ map tr down ++ e.leaf_reads (map tr_leaf ls)
walk_reads_same down ls = map_append tr down (leaf_reads ls) ∙ ap (λ (x : List w.Read). map tr down ++ x)
    (leaf_reads_same ls)

-- reads of these pages, their times rising from t on
abbrev pub Reads : (ℕ → Pages) → ℕ → ℕ → List Read → Type 0
Reads P t end [] = t ≤ end
Reads P t end (x ∷ xs) = (t ≤ x.length) × (P x.length x.page ≡ x.content) × Reads P x.length end xs

pub reads_rise : (P : ℕ → Pages) (t end : ℕ) (xs : List Read) → Reads P t end xs → w.Rising t end (map tr xs)
reads_rise P t end [] r = r
reads_rise P t end (x ∷ xs) r = (r.0, reads_rise P x.length end xs r.2)

abbrev pub Shown : (ℕ → Pages) → List Read → Type 0
Shown P xs = (x : Read) → In x xs → P x.length x.page ≡ x.content

pub reads_shown : (P : ℕ → Pages) (t end : ℕ) (xs : List Read) → Reads P t end xs → Shown P xs
reads_shown P t end [] r x m = absurd m
reads_shown P t end (y ∷ ys) r x (inl e) = subst (λ (z : Read). P z.length z.page ≡ z.content) (sym e) r.1
reads_shown P t end (y ∷ ys) r x (inr m) = reads_shown P y.length end ys r.2 x m

module _ (P : ℕ → Pages) where
  pub follows_same : (p : ℕ) (xs : List Read) → Shown P xs → Follows along p xs
      → w.Follows (λ t q. post_node (P t q)) p (map tr xs)
  follows_same p [] s f = f
  follows_same p (x ∷ xs) s f = (
    f.0,
    f.1,
    subst (λ (q : ℕ). w.Follows (λ t q. post_node (P t q)) q (map tr xs))
        (along_same x.content ∙ ap (λ (z : Page). w.along (post_node z)) (sym (s x (inl refl))))
        (follows_same (along x.content) xs (λ y m. s y (inr m)) f.2),
  )

  pub lead_same : (k : Key) (p q : ℕ) (xs : List Read) → Shown P xs → LeadTo (toward k) p xs q
      → e.LeadTo upto (λ t q. entry_node (P t q)) (at k) p (map tr xs) q
  lead_same k p q [] s f = f
  lead_same k p q (x ∷ xs) s f =
      let same : toward k x.content ≡ e.toward upto (at k) (entry_node (P x.length x.page)) = toward_same k x.content
      ∙ ap (λ (z : Page). e.toward upto (at k) (entry_node z)) (sym (s x (inl refl))) in (
        f.0,
        (λ z. f.1 (same ∙ z)),
        subst
            (λ (n : ℕ). e.LeadTo upto (λ t q. entry_node (P t q)) (at k) n (map tr xs) q) same
            (lead_same k (toward k x.content) q xs (λ y m. s y (inr m)) f.2),
      )

  pub leaves_same : (t : Sought) (p : ℕ) (ls : List LeafRead)
      → ((l : LeafRead) → In l ls → P l.leaf.length l.leaf.page ≡ l.leaf.content) → AreLeaves t p ls
      → e.AreLeaves (goes t) (λ t q. entry_node (P t q)) p (map tr_leaf ls)
  leaves_same t p [] s f = f
  leaves_same t p (l ∷ ls) s f =
      let same : beyond t l.leaf.content ≡ e.beyond (goes t) (entry_node (P l.leaf.length l.leaf.page)) = beyond_same
      t l.leaf.content ∙ ap (λ (z : Page). e.beyond (goes t) (entry_node z)) (sym (s l (inl refl))) in (
        f.0,
        f.1,
        subst (λ (n : ℕ). e.AreLeaves (goes t) (λ t q. entry_node (P t q)) n (map tr_leaf ls)) same
            (leaves_same t (beyond t l.leaf.content) ls (λ y m. s y (inr m)) f.3),
      )

pub leaf_trees : (t : Sought) (p : ℕ) (ls : List LeafRead) (l : LeafRead) → AreLeaves t p ls → In l ls
    → AreTrees t (entries_of l.leaf.content) l.trees
leaf_trees t p [] l f m = absurd m
leaf_trees t p (d ∷ ls) l f (inl e) = subst (λ (z : LeafRead). AreTrees t (entries_of z.leaf.content) z.trees)
    (sym e) f.2
leaf_trees t p (d ∷ ls) l f (inr m) = leaf_trees t (beyond t d.leaf.content) ls l f.3 m

-- what is read of one entry's postings
abbrev pub ReadUnder : ℕ → Postings → List (List Read) → Type 0
ReadUnder i q ts = ((bytes : List ℕ) × (q ≡ Inline bytes) × In i (items_of bytes))
    ⊎ ((r : ℕ) × (q ≡ Root r)
    × ((t : List Read) → In t ts → Follows along r t → (x : Read) × In x t × In i (posting_items_in x.content.body)))

item_any : (i : ℕ) (is : List ℕ) → In i is → list_any (nat_eq i) is ≡ true
item_any i is m = any_true (nat_eq i) i is m (number_itself i)

any_item : (i : ℕ) (is : List ℕ) → list_any (nat_eq i) is ≡ true → In i is
any_item i is e = let r = any_in (nat_eq i) is e in subst (λ (z : ℕ). In z is) (sym (same_number i r.0 r.2)) r.1

and_both : (a b : Bool) → a ≡ true → b ≡ true → (a && b) ≡ true
and_both a b e f = ap₂ (λ (x y : Bool). x && y) e f

no_root : (bytes : List ℕ) (r : ℕ) → Inline bytes ≡ Root r → ⊥
no_root bytes r e = cc

same_root : (r s : ℕ) → Root r ≡ Root s → r ≡ s
same_root r s e = cc

same_inline : (a b : List ℕ) → Inline a ≡ Inline b → a ≡ b
same_inline a b e = cc

-- under one entry
here_true : (test : Key → Bool) (i : ℕ) (k : Key) (b : Bool) (q : Postings) (ts : List (List Read))
    (rest : List (List Read) → Bool) (Rest : List (List Read) → Type 0)
    → Branch b q Rest ts → b ≡ true → test k ≡ true → ReadUnder i q ts → under_entry test i k b q ts rest ≡ true
here_true test i k true (Inline bytes) ts rest Rest br e t (inl u) = or_left _ (rest ts)
    (and_both _ _ t (item_any i (items_of bytes)
    (subst (λ (z : List ℕ). In i (items_of z)) (sym (same_inline bytes u.0 u.1)) u.2)))
here_true test i k true (Inline bytes) ts rest Rest br e t (inr u) = absurd (no_root bytes u.0 u.1)
here_true test i k true (Root r) ts rest Rest br e t (inl u) = absurd (no_root u.0 r (sym u.1))
here_true test i k true (Root r) ts rest Rest br e t (inr u) =
    let found = u.2 br.0 (subst (λ (l : List (List Read)). In br.0 l) (sym br.2) (inl refl))
    (subst (λ (z : ℕ). Follows along z br.0) (same_root r u.0 u.1) br.3) in
    subst (λ (l : List (List Read)). under_entry test i k true (Root r) l rest ≡ true) (sym br.2)
    (or_left _ (rest br.1) (and_both _ _ t
    (any_true (λ (x : Read). list_any (nat_eq i) (posting_items_in x.content.body)) found.0 br.0 found.1
    (item_any i (posting_items_in found.0.content.body) found.2))))
here_true test i k false q ts rest Rest br e t u = cc

later_true : (test : Key → Bool) (i : ℕ) (k : Key) (b : Bool) (q : Postings) (ts : List (List Read))
    (rest : List (List Read) → Bool) (Rest : List (List Read) → Type 0)
    → Branch b q Rest ts → ((ts' : List (List Read)) → ((t : List Read) → In t ts' → In t ts) → Rest ts'
    → rest ts' ≡ true) → under_entry test i k b q ts rest ≡ true
later_true test i k true (Inline bytes) ts rest Rest br h = or_right _ (rest ts) (h ts (λ t m. m) br)
later_true test i k true (Root r) ts rest Rest br h = subst
    (λ (l : List (List Read)). under_entry test i k true (Root r) l rest ≡ true) (sym br.2)
    (or_right _ (rest br.1) (h br.1 (λ t m. subst (λ (l : List (List Read)). In t l) (sym br.2) (inr m)) br.4))
later_true test i k false q ts rest Rest br h = h ts (λ t m. m) br

pub under_true : (s : Sought) (test : Key → Bool) (i : ℕ) (es : List Entry) (ts : List (List Read)) (x : Entry)
    → AreTrees s es ts → In x es → fits s x.key ≡ true → test x.key ≡ true → ReadUnder i x.postings ts
    → under s test i es ts ≡ true
under_true s test i [] ts x ok m f t u = absurd m
under_true s test i (d ∷ es) ts x ok (inl same) f t u =
    here_true test i d.key (fits s d.key) d.postings ts (under s test i es) (AreTrees s es) ok
    (ap (λ (z : Entry). fits s z.key) (sym same) ∙ f) (ap (λ (z : Entry). test z.key) (sym same) ∙ t)
    (subst (λ (z : Entry). ReadUnder i z.postings ts) same u)
under_true s test i (d ∷ es) ts x ok (inr m) f t u =
    later_true test i d.key (fits s d.key) d.postings ts (under s test i es) (AreTrees s es) ok
    (λ ts' sub rest. under_true s test i es ts' x rest m f t (narrow ts' sub u))
  where
    narrow : (ts' : List (List Read)) → ((t : List Read) → In t ts' → In t ts) → ReadUnder i x.postings ts
        → ReadUnder i x.postings ts'
    narrow ts' sub (inl v) = inl v
    narrow ts' sub (inr v) = inr (v.0, v.1, λ t n g. v.2 t (sub t n) g)

-- and back
abbrev pub WasUnder : ℕ → Postings → List (List Read) → Type 0
WasUnder i q ts = ((bytes : List ℕ) × (q ≡ Inline bytes) × In i (items_of bytes))
    ⊎ ((r : ℕ) × (t : List Read) × (q ≡ Root r) × In t ts × Follows along r t
    × ((x : Read) × In x t × In i (posting_items_in x.content.body)))

here_or_later : (test : Key → Bool) (i : ℕ) (k : Key) (b : Bool) (q : Postings) (ts : List (List Read))
    (rest : List (List Read) → Bool) (Rest : List (List Read) → Type 0)
    → Branch b q Rest ts → under_entry test i k b q ts rest ≡ true
    → ((test k ≡ true) × WasUnder i q ts)
    ⊎ ((ts' : List (List Read)) × ((t : List Read) → In t ts' → In t ts) × Rest ts' × (rest ts' ≡ true))
here_or_later test i k true (Inline bytes) ts rest Rest br e = elim (or_cases _ (rest ts) e) [
  | inl f ↦ let both = and_true (test k) _ f in inl (both.0, inl (bytes, refl, any_item i (items_of bytes) both.1))
  | inr f ↦ inr (ts, (λ t m. m), br, f)
]
here_or_later test i k true (Root r) ts rest Rest br e =
    elim (or_cases (test k && list_any (λ (x : Read). list_any (nat_eq i) (posting_items_in x.content.body)) br.0)
    (rest br.1) (subst (λ (l : List (List Read)). under_entry test i k true (Root r) l rest ≡ true) br.2 e)) [
      | inl f ↦
          let both = and_true (test k) _ f in
          let found = any_in (λ (x : Read). list_any (nat_eq i) (posting_items_in x.content.body)) br.0 both.1 in
          inl (
            both.0,
            inr (
              r,
              br.0,
              refl,
              subst (λ (l : List (List Read)). In br.0 l) (sym br.2) (inl refl),
              br.3,
              (found.0, found.1, any_item i (posting_items_in found.0.content.body) found.2),
            ),
          )
      | inr f ↦ inr (br.1, (λ t m. subst (λ (l : List (List Read)). In t l) (sym br.2) (inr m)), br.4, f)
    ]
here_or_later test i k false q ts rest Rest br e = inr (ts, (λ t m. m), br, e)

pub under_back : (s : Sought) (test : Key → Bool) (i : ℕ) (es : List Entry) (ts : List (List Read))
    → AreTrees s es ts → under s test i es ts ≡ true → (x : Entry) × In x es × (test x.key ≡ true)
    × WasUnder i x.postings ts
under_back s test i [] ts ok e = cc
under_back s test i (d ∷ es) ts ok e = elim (here_or_later test i d.key (fits s d.key) d.postings ts
    (under s test i es) (AreTrees s es) ok e) [
      | inl h ↦ (d, inl refl, h.0, h.1)
      | inr h ↦
          let r = under_back s test i es h.0 h.2 h.3 in
          (r.0, inr r.1, r.2, widen r.0 h.0 h.1 r.3)
    ]
  where
    widen : (x : Entry) (ts' : List (List Read)) → ((t : List Read) → In t ts' → In t ts) → WasUnder i x.postings ts'
        → WasUnder i x.postings ts
    widen x ts' sub (inl v) = inl v
    widen x ts' sub (inr v) = inr (v.0, v.1, v.2, sub v.1 v.3, v.4, v.5)
