-- What is noted of entries says what a walk knows of their items.
use Rattle.std.proofs.Common.{◌≡◌, ◌⊎◌, ◌↔◌, ℕ, Bool, true, false, cond, ◌&&◌, ◌||◌, nat_eq, List, [], ◌∷◌, ◌++◌, map}
use Rattle.std.proofs.Common.{refl, sym}
use Rattle.std.proofs.Common.{ap, ap₂, subst, ◌∙◌, inl, inr}
use Rattle.std.specs.List.{list_any, flat_map}
use Rattle.std.proofs.lemmas.Grind.{flat_map-append}
use Rattle.std.proofs.lemmas.List.Elements.{filter-append}
use Rattle.ts_base.specs.Keys.{Key}
use Rattle.page_types.specs.Items as lists
use Rattle.page_types.specs.Views.{entries_of, list_in, posting_items_in}
use Rattle.page_types.specs.declared.page.Body.{Body}
use Rattle.page_types.specs.declared.page.Body.TheVariants as body
use Rattle.page_types.specs.declared.page.Entry.{Entry}
use Rattle.page_types.specs.declared.page.Postings.{Postings}
use Rattle.page_types.specs.declared.page.Postings.TheVariants.{Inline, Root}
use Rattle.core_state.specs.Log.{In}
use Rattle.core_state.specs.Readings.{Read}
use Rattle.core_state.proofs.Law.TreeViews.{no_items}
use Rattle.core_state.proofs.PageLists.{in_front, in_back, in_either}
use Rattle.gin_opclass.specs.Class.{Asked}
use Rattle.core_moments.specs.Walk.{Walk, KeyWalk, LeafRead, Sought, fits}
use Rattle.core_moments.specs.OpenWalk.{NamedTree, AreOfTrees, tree_of, trees_on}
use Rattle.core_moments.specs.Judging.{fits_asked, under, under_entry, in_leaves, main_read, main_has}
use Rattle.core_moments.proofs.Judging.{or_left, or_right}
use Rattle.core_moments.proofs.Walks.{any_true, any_in}
use Rattle.core_moments.proofs.Words.{and_true, number_itself, same_number}
use Rattle.gin_hits.specs.Entries.{listed, entries_with, items_under, entries_on, entries_read}
use Rattle.gin_hits.specs.Entries.{entries_in_trees, entries_under, posting_entry, posting_list_in, HaveTrees}

-- ── tests ──

any_number : (i : ℕ) (xs : List ℕ) → list_any (nat_eq i) xs ≡ true → In i xs
any_number i xs e = let f = any_in (nat_eq i) xs e in subst (λ (j : ℕ). In j xs) (sym (same_number i f.0 f.2)) f.1

number_any : (i : ℕ) (xs : List ℕ) → In i xs → list_any (nat_eq i) xs ≡ true
number_any i xs m = any_true (nat_eq i) i xs m (number_itself i)

either_true : (a b : Bool) → (a || b) ≡ true → (a ≡ true) ⊎ (b ≡ true)
either_true true b e = inl refl
either_true false b e = inr e

kept_first : (test : Key → Bool) (e : Entry) (es : List Entry) (b : Bool) → test e.key ≡ b
    → entries_with test (e ∷ es) ≡ cond b (e ∷ entries_with test es) (entries_with test es)
kept_first test e es b f = ap (λ (c : Bool). cond c (e ∷ entries_with test es) (entries_with test es)) f

-- each entry passes the test of any
pub with_any : (es : List Entry) → entries_with (λ (k : Key). true) es ≡ es
with_any [] = refl
with_any (e ∷ es) = ap (λ (ds : List Entry). e ∷ ds) (with_any es)

-- ── one leaf ──

module _ (Is : ℕ → List Read → Type 0) (s : Sought) (test : Key → Bool) (i : ℕ) where
  -- what is found in lists, and in the pages of trees
  abbrev found : List Entry → List ℕ
  found es = items_under (entries_with test (entries_with (fits s) es))

  abbrev found_in_trees : List NamedTree → List (List Read) → List ℕ
  found_in_trees rs ts = items_under (entries_with test (entries_in_trees rs ts))

  abbrev IsFound : List Entry → List (List Read) → Type 0
  IsFound es ts = In i (found es) ⊎ In i (found_in_trees (trees_on s es) ts)

  -- an entry that does not fit
  found_out : (e : Entry) (es : List Entry) → fits s e.key ≡ false → found (e ∷ es) ≡ found es
  found_out e es f = ap (λ (ds : List Entry). items_under (entries_with test ds)) (kept_first (fits s) e es false f)

  -- one that fits, by what it has
  found_in : (e : Entry) (es : List Entry) (p : Postings) → fits s e.key ≡ true → e.postings ≡ p
      → (b : Bool) → test e.key ≡ b
      → found (e ∷ es) ≡ cond b (lists.items_of (list_in p) ++ found es) (found es)
  found_in e es p f g true h =
      ap (λ (ds : List Entry). items_under (entries_with test ds)) (kept_first (fits s) e es true f)
      ∙ ap items_under (kept_first test e (entries_with (fits s) es) true h)
      ∙ ap (λ (q : Postings). lists.items_of (list_in q) ++ found es) g
  found_in e es p f g false h =
      ap (λ (ds : List Entry). items_under (entries_with test ds)) (kept_first (fits s) e es true f)
      ∙ ap items_under (kept_first test e (entries_with (fits s) es) false h)

  -- the items on a page of a posting tree
  page_items : (b : Body) → lists.items_of (posting_list_in b) ≡ posting_items_in b
  page_items (body.PostLeaf high items) = refl
  page_items _ = no_items

  abbrev on_page : Read → Bool
  on_page x = list_any (nat_eq i) (posting_items_in x.content.body)

  -- and of a tree
  tree_items : (k : Key) (t : List Read) → In i (items_under (map (posting_entry k) t)) ↔ (list_any on_page t ≡ true)
  tree_items k t = (to t, from t)
    where
      to : (xs : List Read) → In i (items_under (map (posting_entry k) xs)) → list_any on_page xs ≡ true
      to [] m = absurd m
      to (x ∷ xs) m =
          elim (in_either i (lists.items_of (posting_list_in x.content.body)) (items_under (map
          (posting_entry k) xs)) m) [
            | inl n ↦ or_left (on_page x) (list_any on_page xs)
                (number_any i (posting_items_in x.content.body) (subst (In i) (page_items x.content.body) n))
            | inr n ↦ or_right (on_page x) (list_any on_page xs) (to xs n)
          ]

      from : (xs : List Read) → list_any on_page xs ≡ true → In i (items_under (map (posting_entry k) xs))
      from [] e = absurd (let z : ⊥ = cc in z)
      from (x ∷ xs) e =
          elim (either_true (on_page x) (list_any on_page xs) e) [
            | inl n ↦ in_front i (lists.items_of (posting_list_in x.content.body))
                (items_under (map (posting_entry k) xs))
                (subst (In i) (sym (page_items x.content.body)) (any_number i (posting_items_in x.content.body) n))
            | inr n ↦ in_back i (lists.items_of (posting_list_in x.content.body))
                (items_under (map (posting_entry k) xs)) (from xs n)
          ]

  -- the entries of one key pass the test together
  all_pass : (k : Key) (t : List Read) → test k ≡ true
      → entries_with test (map (posting_entry k) t) ≡ map (posting_entry k) t
  all_pass k [] f = refl
  all_pass k (x ∷ xs) f =
      kept_first test (posting_entry k x) (map (posting_entry k) xs) true f
      ∙ ap (λ (es : List Entry). posting_entry k x ∷ es) (all_pass k xs f)

  none_pass : (k : Key) (t : List Read) → test k ≡ false → entries_with test (map (posting_entry k) t) ≡ []
  none_pass k [] f = refl
  none_pass k (x ∷ xs) f =
      kept_first test (posting_entry k x) (map (posting_entry k) xs) false f ∙ none_pass k xs f

  tree_found : (r : NamedTree) (rs : List NamedTree) (t : List Read) (ts : List (List Read))
      → found_in_trees (r ∷ rs) (t ∷ ts)
      ≡ items_under (entries_with test (map (posting_entry r.key) t)) ++ found_in_trees rs ts
  tree_found r rs t ts =
      ap items_under (filter-append (λ (e : Entry). test e.key) (map (posting_entry r.key) t) (entries_in_trees rs ts))
      ∙ flat_map-append listed (entries_with test (map (posting_entry r.key) t))
      (entries_with test (entries_in_trees rs ts))

  tree_to : (k : Key) (t : List Read) → In i (items_under (entries_with test (map (posting_entry k) t)))
      → (test k && list_any on_page t) ≡ true
  tree_to k t m = by (test k) refl
    where
      by : (b : Bool) → test k ≡ b → (test k && list_any on_page t) ≡ true
      by true f = ap₂ (λ (b c : Bool). b && c) f
          ((tree_items k t).0 (subst (λ (es : List Entry). In i (items_under es)) (all_pass k t f) m))
      by false f = absurd (subst (λ (es : List Entry). In i (items_under es)) (none_pass k t f) m)

  tree_from : (k : Key) (t : List Read) → (test k && list_any on_page t) ≡ true
      → In i (items_under (entries_with test (map (posting_entry k) t)))
  tree_from k t e =
      let both = and_true (test k) (list_any on_page t) e in
      subst (λ (es : List Entry). In i (items_under es)) (sym (all_pass k t both.0)) ((tree_items k t).1 both.1)

  later_found : (e : Entry) (es : List Entry) (p : Postings) → fits s e.key ≡ true → e.postings ≡ p → In i (found es)
      → (b : Bool) → test e.key ≡ b → In i (found (e ∷ es))
  later_found e es p f g m true h =
      subst (In i) (sym (found_in e es p f g true h)) (in_back i (lists.items_of (list_in p)) (found es) m)
  later_found e es p f g m false h = subst (In i) (sym (found_in e es p f g false h)) m

  -- what is found under the entries is in their lists, or in their trees
  pub under_found : (es : List Entry) (ts : List (List Read)) → AreOfTrees Is (trees_on s es) ts
      → under s test i es ts ≡ true → IsFound es ts
  under_found [] ts all u = absurd (let z : ⊥ = cc in z)
  under_found (e ∷ es) ts all u =
      by (fits s e.key) e.postings ts refl refl (λ us a v. under_found es us a v) all u
    where
      by : (b : Bool) (p : Postings) (us : List (List Read)) → fits s e.key ≡ b → e.postings ≡ p
          → ((vs : List (List Read)) → AreOfTrees Is (trees_on s es) vs → under s test i es vs ≡ true
          → IsFound es vs) → AreOfTrees Is (trees_on s (e ∷ es)) us → under s test i (e ∷ es) us ≡ true
          → IsFound (e ∷ es) us
      by false p us f g more a v =
          let trees : trees_on s (e ∷ es) ≡ trees_on s es =
          ap (λ (c : Bool). tree_of c e.key e.postings (trees_on s es)) f in
          elim (more us (subst (λ (rs : List NamedTree). AreOfTrees Is rs us) trees a)
          (sym (ap (λ (c : Bool). under_entry test i e.key c e.postings us (under s test i es)) f) ∙ v)) [
            | inl m ↦ inl (subst (In i) (sym (found_out e es f)) m)
            | inr m ↦ inr (subst (λ (rs : List NamedTree). In i (found_in_trees rs us)) (sym trees) m)
          ]
      by true (Inline bytes) us f g more a v =
          let trees : trees_on s (e ∷ es) ≡ trees_on s es =
          ap₂ (λ (c : Bool) (q : Postings). tree_of c e.key q (trees_on s es)) f g in
          elim (either_true (test e.key && list_any (nat_eq i) (lists.items_of bytes)) (under s test i es us)
          (sym (ap₂ (λ (c : Bool) (q : Postings). under_entry test i e.key c q us (under s test i es)) f g) ∙ v)) [
            | inl n ↦
                let both = and_true (test e.key) (list_any (nat_eq i) (lists.items_of bytes)) n in
                inl (subst (In i) (sym (found_in e es (Inline bytes) f g true both.0))
                (in_front i (lists.items_of bytes) (found es) (any_number i (lists.items_of bytes) both.1)))
            | inr n ↦ elim (more us (subst (λ (rs : List NamedTree). AreOfTrees Is rs us) trees a) n) [
              | inl m ↦ inl (later_found e es (Inline bytes) f g m (test e.key) refl)
              | inr m ↦ inr (subst (λ (rs : List NamedTree). In i (found_in_trees rs us)) (sym trees) m)
            ]
          ]
      by true (Root r) [] f g more a v =
          absurd (subst (λ (rs : List NamedTree). AreOfTrees Is rs [])
          (ap₂ (λ (c : Bool) (q : Postings). tree_of c e.key q (trees_on s es)) f g) a)
      by true (Root r) (t ∷ us) f g more a v =
          let tree : NamedTree = record { key = e.key; root = r } in
          let trees : trees_on s (e ∷ es) ≡ tree ∷ trees_on s es =
          ap₂ (λ (c : Bool) (q : Postings). tree_of c e.key q (trees_on s es)) f g in
          let a' : AreOfTrees Is (tree ∷ trees_on s es) (t ∷ us) =
          subst (λ (rs : List NamedTree). AreOfTrees Is rs (t ∷ us)) trees a in
          let back : In i (found_in_trees (tree ∷ trees_on s es) (t ∷ us)) → IsFound (e ∷ es) (t ∷ us) =
          λ m. inr (subst (λ (rs : List NamedTree). In i (found_in_trees rs (t ∷ us))) (sym trees) m) in
          let here = items_under (entries_with test (map (posting_entry e.key) t)) in
          elim (either_true (test e.key && list_any on_page t) (under s test i es us)
          (sym (ap₂ (λ (c : Bool) (q : Postings). under_entry test i e.key c q (t ∷ us) (under s test i es)) f g)
          ∙ v)) [
            | inl n ↦ back (subst (In i) (sym (tree_found tree (trees_on s es) t us))
                (in_front i here (found_in_trees (trees_on s es) us) (tree_from e.key t n)))
            | inr n ↦ elim (more us a'.1 n) [
              | inl m ↦ inl (later_found e es (Root r) f g m (test e.key) refl)
              | inr m ↦ back (subst (In i) (sym (tree_found tree (trees_on s es) t us))
                  (in_back i here (found_in_trees (trees_on s es) us) m))
            ]
          ]

  -- and back
  pub found_under : (es : List Entry) (ts : List (List Read)) → AreOfTrees Is (trees_on s es) ts → IsFound es ts
      → under s test i es ts ≡ true
  found_under [] ts all (inl m) = absurd m
  found_under [] ts all (inr m) = absurd m
  found_under (e ∷ es) ts all u =
      by (fits s e.key) e.postings ts refl refl (λ us a v. found_under es us a v) all u
    where
      listed_in : (bytes : List ℕ) (us : List (List Read)) → fits s e.key ≡ true → e.postings ≡ Inline bytes
          → (In i (found es) → under s test i es us ≡ true) → (b : Bool) → test e.key ≡ b → In i (found (e ∷ es))
          → ((test e.key && list_any (nat_eq i) (lists.items_of bytes)) || under s test i es us) ≡ true
      listed_in bytes us f g more true h m =
          elim (in_either i (lists.items_of bytes) (found es)
          (subst (In i) (found_in e es (Inline bytes) f g true h) m)) [
            | inl n ↦ or_left _ (under s test i es us)
                (ap₂ (λ (b c : Bool). b && c) h (number_any i (lists.items_of bytes) n))
            | inr n ↦ or_right (test e.key && list_any (nat_eq i) (lists.items_of bytes)) _ (more n)
          ]
      listed_in bytes us f g more false h m =
          or_right (test e.key && list_any (nat_eq i) (lists.items_of bytes)) _
          (more (subst (In i) (found_in e es (Inline bytes) f g false h) m))

      -- an entry with a tree has no list
      only_later : (r : ℕ) → fits s e.key ≡ true → e.postings ≡ Root r → (b : Bool) → test e.key ≡ b
          → In i (found (e ∷ es)) → In i (found es)
      only_later r f g true h m =
          subst (λ (xs : List ℕ). In i (xs ++ found es)) no_items (subst (In i) (found_in e es (Root r) f g true h) m)
      only_later r f g false h m = subst (In i) (found_in e es (Root r) f g false h) m

      by : (b : Bool) (p : Postings) (us : List (List Read)) → fits s e.key ≡ b → e.postings ≡ p
          → ((vs : List (List Read)) → AreOfTrees Is (trees_on s es) vs → IsFound es vs
          → under s test i es vs ≡ true) → AreOfTrees Is (trees_on s (e ∷ es)) us → IsFound (e ∷ es) us
          → under s test i (e ∷ es) us ≡ true
      by false p us f g more a v =
          let trees : trees_on s (e ∷ es) ≡ trees_on s es =
          ap (λ (c : Bool). tree_of c e.key e.postings (trees_on s es)) f in
          ap (λ (c : Bool). under_entry test i e.key c e.postings us (under s test i es)) f
          ∙ more us (subst (λ (rs : List NamedTree). AreOfTrees Is rs us) trees a) (elim v [
            | inl m ↦ inl (subst (In i) (found_out e es f) m)
            | inr m ↦ inr (subst (λ (rs : List NamedTree). In i (found_in_trees rs us)) trees m)
          ])
      by true (Inline bytes) us f g more a v =
          let trees : trees_on s (e ∷ es) ≡ trees_on s es =
          ap₂ (λ (c : Bool) (q : Postings). tree_of c e.key q (trees_on s es)) f g in
          let all' = subst (λ (rs : List NamedTree). AreOfTrees Is rs us) trees a in
          ap₂ (λ (c : Bool) (q : Postings). under_entry test i e.key c q us (under s test i es)) f g
          ∙ elim v [
            | inl m ↦ listed_in bytes us f g (λ n. more us all' (inl n)) (test e.key) refl m
            | inr m ↦ or_right (test e.key && list_any (nat_eq i) (lists.items_of bytes)) _
                (more us all' (inr (subst (λ (rs : List NamedTree). In i (found_in_trees rs us)) trees m)))
          ]
      by true (Root r) [] f g more a v =
          absurd (subst (λ (rs : List NamedTree). AreOfTrees Is rs [])
          (ap₂ (λ (c : Bool) (q : Postings). tree_of c e.key q (trees_on s es)) f g) a)
      by true (Root r) (t ∷ us) f g more a v =
          let tree : NamedTree = record { key = e.key; root = r } in
          let trees : trees_on s (e ∷ es) ≡ tree ∷ trees_on s es =
          ap₂ (λ (c : Bool) (q : Postings). tree_of c e.key q (trees_on s es)) f g in
          let a' : AreOfTrees Is (tree ∷ trees_on s es) (t ∷ us) =
          subst (λ (rs : List NamedTree). AreOfTrees Is rs (t ∷ us)) trees a in
          let here = items_under (entries_with test (map (posting_entry e.key) t)) in
          ap₂ (λ (c : Bool) (q : Postings). under_entry test i e.key c q (t ∷ us) (under s test i es)) f g
          ∙ elim v [
            | inl m ↦ or_right (test e.key && list_any on_page t) _
                (more us a'.1 (inl (only_later r f g (test e.key) refl m)))
            | inr m ↦ elim (in_either i here (found_in_trees (trees_on s es) us)
                (subst (In i) (tree_found tree (trees_on s es) t us)
                (subst (λ (rs : List NamedTree). In i (found_in_trees rs (t ∷ us))) trees m))) [
                  | inl n ↦ or_left _ (under s test i es us) (tree_to e.key t n)
                  | inr n ↦ or_right (test e.key && list_any on_page t) _ (more us a'.1 (inr n))
                ]
          ]

  -- both together
  leaf_items : (l : LeafRead) → items_under (entries_with test (entries_under s l))
      ≡ found (entries_of l.leaf.content) ++ found_in_trees (trees_on s (entries_of l.leaf.content)) l.trees
  leaf_items l =
      let es = entries_with (fits s) (entries_of l.leaf.content) in
      let ds = entries_in_trees (trees_on s (entries_of l.leaf.content)) l.trees in
      ap items_under (filter-append (λ (e : Entry). test e.key) es ds)
      ∙ flat_map-append listed (entries_with test es) (entries_with test ds)

  pub leaf_found : (l : LeafRead) → AreOfTrees Is (trees_on s (entries_of l.leaf.content)) l.trees
      → In i (items_under (entries_with test (entries_under s l)))
      ↔ (under s test i (entries_of l.leaf.content) l.trees ≡ true)
  leaf_found l a =
      let es = entries_of l.leaf.content in
      let there = found_in_trees (trees_on s es) l.trees in (
        (λ m. found_under es l.trees a (in_either i (found es) there (subst (In i) (leaf_items l) m))),
        (λ u. subst (In i) (sym (leaf_items l)) (elim (under_found es l.trees a u) [
          | inl m ↦ in_front i (found es) there m
          | inr m ↦ in_back i (found es) there m
        ])),
      )

-- ── lists of lists ──

-- an element of the joined lists is in one of them
pub joined_in : {A B : Type 0} (f : A → List B) (y : B) (xs : List A) → In y (flat_map f xs)
    → (x : A) × In x xs × In y (f x)
joined_in f y [] m = absurd m
joined_in f y (x ∷ xs) m = elim (in_either y (f x) (flat_map f xs) m) [
  | inl n ↦ (x, inl refl, n)
  | inr n ↦ let r = joined_in f y xs n in (r.0, inr r.1, r.2)
]

pub in_joined : {A B : Type 0} (f : A → List B) (y : B) (x : A) (xs : List A) → In x xs → In y (f x)
    → In y (flat_map f xs)
in_joined f y x [] m n = absurd m
in_joined f y x (z ∷ zs) (inl e) n = in_front y (f z) (flat_map f zs) (subst (λ (a : _). In y (f a)) e n)
in_joined f y x (z ∷ zs) (inr m) n = in_back y (f z) (flat_map f zs) (in_joined f y x zs m n)

-- an entry that passes a test
pub passes : (test : Key → Bool) (e : Entry) (es : List Entry) → In e es → test e.key ≡ true
    → In e (entries_with test es)
passes test e [] m f = absurd m
passes test e (d ∷ ds) m f = by (test d.key) refl m (λ n. passes test e ds n f)
  where
    by : (b : Bool) → test d.key ≡ b → In e (d ∷ ds) → (In e ds → In e (entries_with test ds))
        → In e (entries_with test (d ∷ ds))
    by true g (inl h) more = subst (In e) (sym (kept_first test d ds true g)) (inl h)
    by true g (inr n) more = subst (In e) (sym (kept_first test d ds true g)) (inr (more n))
    by false g (inl h) more = absurd (let z : ⊥ = cc in z)
    by false g (inr n) more = subst (In e) (sym (kept_first test d ds false g)) (more n)

pub passed : (test : Key → Bool) (e : Entry) (es : List Entry) → In e (entries_with test es)
    → In e es × (test e.key ≡ true)
passed test e [] m = absurd m
passed test e (d ∷ ds) m = by (test d.key) refl (passed test e ds)
  where
    by : (b : Bool) → test d.key ≡ b → (In e (entries_with test ds) → In e ds × (test e.key ≡ true))
        → In e (d ∷ ds) × (test e.key ≡ true)
    by true g more = elim (subst (In e) (kept_first test d ds true g) m) [
      | inl h ↦ (inl h, ap (λ (z : Entry). test z.key) h ∙ g)
      | inr n ↦ let r = more n in (inr r.0, r.1)
    ]
    by false g more = let r = more (subst (In e) (kept_first test d ds false g) m) in (inr r.0, r.1)

-- ── a walk ──

module _ (Is : ℕ → List Read → Type 0) (test : Key → Bool) (w : Walk) (i : ℕ) (all : HaveTrees Is w.keys) where
  abbrev on_leaf : KeyWalk → LeafRead → Bool
  on_leaf k l = under k.sought test i (entries_of l.leaf.content) l.trees

  -- what was read in the leaves under keys that pass the test is in the lists of entries that were read
  pub leaves_noted : in_leaves test w i ≡ true → In i (items_under (entries_with test (entries_read w.keys)))
  leaves_noted u =
      let k = any_in (λ (k : KeyWalk). list_any (on_leaf k) k.leaves) w.keys u in
      let l = any_in (on_leaf k.0) k.0.leaves k.2 in
      let here = (leaf_found Is k.0.sought test i l.0 (all k.0 l.0 k.1 l.1)).1 l.2 in
      let e = joined_in listed i (entries_with test (entries_under k.0.sought l.0)) here in
      let p = passed test e.0 (entries_under k.0.sought l.0) e.1 in
      in_joined listed i e.0 (entries_with test (entries_read w.keys)) (passes test e.0 (entries_read w.keys)
      (in_joined (λ (j : KeyWalk). entries_on j.sought j.leaves) e.0 k.0 w.keys k.1
      (in_joined (entries_under k.0.sought) e.0 l.0 k.0.leaves l.1 p.0)) p.1) e.2

  pub noted_leaves : In i (items_under (entries_with test (entries_read w.keys))) → in_leaves test w i ≡ true
  noted_leaves m =
      let e = joined_in listed i (entries_with test (entries_read w.keys)) m in
      let p = passed test e.0 (entries_read w.keys) e.1 in
      let k = joined_in (λ (j : KeyWalk). entries_on j.sought j.leaves) e.0 w.keys p.0 in
      let l = joined_in (entries_under k.0.sought) e.0 k.0.leaves k.2 in
      any_true (λ (k : KeyWalk). list_any (on_leaf k) k.leaves) k.0 w.keys k.1
      (any_true (on_leaf k.0) l.0 k.0.leaves l.1
      ((leaf_found Is k.0.sought test i l.0 (all k.0 l.0 k.1 l.1)).0
      (in_joined listed i e.0 (entries_with test (entries_under k.0.sought l.0))
      (passes test e.0 (entries_under k.0.sought l.0) l.2 p.1) e.2)))

module _ (Is : ℕ → List Read → Type 0) (w : Walk) (i : ℕ) (all : HaveTrees Is w.keys) where
  -- an item was read in the main part exactly where it is noted
  pub read_noted : In i (items_under (entries_read w.keys)) ↔ (main_read w i ≡ true)
  read_noted = (
    (λ m. noted_leaves Is (λ (k : Key). true) w i all
        (subst (λ (es : List Entry). In i (items_under es)) (sym (with_any (entries_read w.keys))) m)),
    (λ u. subst (λ (es : List Entry). In i (items_under es)) (with_any (entries_read w.keys))
        (leaves_noted Is (λ (k : Key). true) w i all u)),
  )

  -- so for a key that is asked
  pub main_noted : (a : Asked)
      → In i (items_under (entries_with (fits_asked a) (entries_read w.keys))) ↔ (main_has w i a ≡ true)
  main_noted a = (noted_leaves Is (fits_asked a) w i all, leaves_noted Is (fits_asked a) w i all)
