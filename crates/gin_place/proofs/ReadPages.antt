-- What a page says of items that are to come under a key.
use Rattle.std.proofs.Common.{◌≡◌, ◌≤◌, ℕ, List, [], ◌∷◌, ◌++◌, length, refl, sym, ap}
use Rattle.std.proofs.Common.{subst, ◌∙◌, inl, inr, arith, length-append, Less, Equal}
use Rattle.std.proofs.lemmas.Cmp.{nat_list_cmp_total, tied_itself}
use Rattle.std.specs.Prelude.{Some}
use Rattle.std.specs.List.{AllByRecursion, Contains, slice_get}
use Rattle.page_types.specs.Items.{IsItemList, items_of}
use Rattle.page_types.specs.Keys.{KeyLess, Rising}
use Rattle.page_types.specs.Pages.{IsPage, IsBody, IsEntry, ArePostings, AreEntries}
use Rattle.page_types.specs.Views.{entries_in}
use Rattle.page_types.specs.declared.page.Page.{Page}
use Rattle.page_types.specs.declared.page.Entry.{Entry}
use Rattle.page_types.specs.declared.page.EntryChild.{EntryChild}
use Rattle.page_types.specs.declared.page.Postings.{Postings}
use Rattle.page_types.specs.declared.page.Postings.TheVariants.{Inline, Root}
use Rattle.page_types.specs.declared.page.Body.{Body}
use Rattle.page_types.specs.declared.page.Body.TheVariants as body
use Rattle.core_state.specs.Log.{In}
use Rattle.core_state.specs.Changes.{UpTo}
use Rattle.entry_tree.specs.Adding.{IsEntryLeaf, list_entry, tree_entry, HasNoTree, IsUnder}
use Rattle.entry_tree.specs.Finding.{IsEntryBody, IsFound, IsFoundIn}
use Rattle.entry_tree.specs.Logging.{IsNewUnder}
use Rattle.entry_tree.specs.Reading.{upper_in}
use Rattle.entry_tree.specs.declared.finding.Found.TheVariants as found
use Rattle.gin_place.specs.Inner.Reading.{HasItem, IsReading, IsRoomy, IsFullLeaf}
use Rattle.gin_place.specs.declared.sought.Sought.TheVariants as sought
use Rattle.gin_place.specs.declared.reading.Next.TheVariants as next
use Rattle.gin_place.specs.declared.reading.Reading.{Reading}
use Rattle.gin_place.specs.declared.reading.Reading.TheVariants as reading
use Rattle.gin_place.proofs.Lists.{in_list, contained, none_lacks}

pub less_same : (a b : List ℕ) → KeyLess a b → a ≡ b → ⊥
less_same a b less same =
    let order : KeyLess b b = subst (λ (x : List ℕ). KeyLess x b) same less in
    clash (sym order ∙ tied_itself nat_list_cmp_total b)
  where
    clash : Less ≡ Equal → ⊥
    clash e = cc

pub all_in : {A : Type 0} (P : A → Type 0) (xs : List A) (x : A) → AllByRecursion P xs → In x xs → P x
all_in P [] x all i = absurd i
all_in P (y ∷ xs) x all (inl e) = subst P (sym e) all.0
all_in P (y ∷ xs) x all (inr i) = all_in P xs x all.1 i

pub in_middle : (front back : List Entry) (e : Entry) → In e (front ++ e ∷ back)
in_middle [] back e = inl refl
in_middle (x ∷ front) back e = inr (in_middle front back e)

-- an entry by its key and its postings
pub entry_of : (k : List ℕ) (p : Postings) (e : Entry) → e.key ≡ k → e.postings ≡ p
    → e ≡ record { key = k; postings = p }
entry_of k p e a b =
    subst (λ (x : List ℕ). e ≡ record { key = x; postings = p }) a
    (subst (λ (y : Postings). e ≡ record { key = e.key; postings = y }) b refl)

-- one entry has the key
one_entry : (front back : List Entry) (e d : Entry) → Rising (λ (a b : Entry). KeyLess a.key b.key) (front ++ e ∷ back)
    → In d (front ++ e ∷ back) → d.key ≡ e.key → d ≡ e
one_entry [] back e d rise (inl same) k = same
one_entry [] back e d rise (inr i) k =
    absurd (less_same e.key d.key (all_in (λ (b : Entry). KeyLess e.key b.key) back d rise.0 i) (sym k))
one_entry (x ∷ front) back e d rise (inl same) k =
    absurd (less_same x.key e.key
    (all_in (λ (b : Entry). KeyLess x.key b.key) (front ++ e ∷ back) e rise.0 (in_middle front back e))
    (ap (λ (y : Entry). y.key) (sym same) ∙ k))
one_entry (x ∷ front) back e d rise (inr i) k = one_entry front back e d rise.1 i k

get_middle : (front back : List Entry) (e d : Entry) → slice_get (front ++ e ∷ back) (length front) ≡ Some d → d ≡ e
get_middle [] back e d is = let same : Some e ≡ Some d = is in cc
get_middle (x ∷ front) back e d is = get_middle front back e d is

-- the entry of a key that is found
pub record IsHere (c : Page) (key : List ℕ) (place : ℕ) : Type 0 where
  pub high : List ℕ
  pub front : List Entry
  pub back : List Entry
  pub entry : Entry
  pub content : c.body ≡ body.EntryLeaf high (front ++ entry ∷ back)
  pub place_is : place ≡ length front
  pub key_is : entry.key ≡ key
  pub within : UpTo key high

pub is_here : (c : Page) (key : List ℕ) (place : ℕ) → IsFound c key (found.Here place) → IsHere c key place
is_here c key place (IsFoundIn.here p high front back e content at key_is within) = record {
  high = high;
  front = front;
  back = back;
  entry = e;
  content = content;
  place_is = at;
  key_is = key_is;
  within = within;
}

pub record IsAbsent (c : Page) (key : List ℕ) : Type 0 where
  pub high : List ℕ
  pub front : List Entry
  pub back : List Entry
  pub content : c.body ≡ body.EntryLeaf high (front ++ back)
  pub below : (e : Entry) → In e front → KeyLess e.key key
  pub above : (e : Entry) → In e back → KeyLess key e.key
  pub within : UpTo key high

pub is_absent : (c : Page) (key : List ℕ) (place : ℕ) → IsFound c key (found.Absent place) → IsAbsent c key
is_absent c key place (IsFoundIn.absent p high front back content at below above within) = record {
  high = high;
  front = front;
  back = back;
  content = content;
  below = below;
  above = above;
  within = within;
}

pub are_entries : (c : Page) (high : List ℕ) (entries : List Entry) → IsPage c → c.body ≡ body.EntryLeaf high entries
    → AreEntries entries
are_entries c high entries is content =
    let b : IsBody c.right c.stamp (body.EntryLeaf high entries) = subst (IsBody c.right c.stamp) content is.body in
    b.1

-- no entry between those below a key and those above it has the key
no_key : (key : List ℕ) (front back : List Entry) → ((e : Entry) → In e front → KeyLess e.key key)
    → ((e : Entry) → In e back → KeyLess key e.key) → (d : Entry) → In d (front ++ back) → d.key ≡ key → ⊥
no_key key [] back below above d i k = less_same key d.key (above d i) (sym k)
no_key key (x ∷ front) back below above d (inl e) k = less_same d.key key (below d (inl e)) k
no_key key (x ∷ front) back below above d (inr i) k = no_key key front back (λ y j. below y (inr j)) above d i k

module _ (c : Page) (key : List ℕ) (is : IsPage c) where
  -- ── the key has an entry ──

  module _ (place : ℕ) (h : IsHere c key place) where
    pub leaf_here : IsEntryLeaf c.body
    leaf_here = subst IsEntryLeaf (sym h.content) (IsEntryLeaf.leaf h.high (h.front ++ h.entry ∷ h.back))

    pub within_here : UpTo key (upper_in c.body)
    within_here = subst (λ (b : Body). UpTo key (upper_in b)) (sym h.content) h.within

    pub never_past : length (entries_in c.body) ≤ place → ⊥
    never_past le =
        let long : length (entries_in c.body) ≡ length (h.front ++ h.entry ∷ h.back) =
        ap (λ (b : Body). length (entries_in b)) h.content in
        omega (arith, le, long, length-append h.front (h.entry ∷ h.back), h.place_is)

    -- it is the one that is there
    pub this_entry : (e : Entry) → slice_get (entries_in c.body) place ≡ Some e → e ≡ h.entry
    this_entry e at =
        get_middle h.front h.back h.entry e
        (subst (λ (n : ℕ). slice_get (h.front ++ h.entry ∷ h.back) n ≡ Some e) h.place_is
        (subst (λ (b : Body). slice_get (entries_in b) place ≡ Some e) h.content at))

    in_here : (e : Entry) → e ≡ h.entry → In e (entries_in c.body)
    in_here e same =
        subst (λ (b : Body). In e (entries_in b)) (sym h.content)
        (subst (λ (d : Entry). In d (h.front ++ h.entry ∷ h.back)) (sym same) (in_middle h.front h.back h.entry))

    only_here : (d : Entry) → In d (entries_in c.body) → d.key ≡ key → d ≡ h.entry
    only_here d i k =
        one_entry h.front h.back h.entry d (are_entries c h.high (h.front ++ h.entry ∷ h.back) is h.content).rising
        (subst (λ (b : Body). In d (entries_in b)) h.content i) (k ∙ sym h.key_is)

    pub tree_here : (e : Entry) (root : ℕ) → e ≡ h.entry → e.postings ≡ Root root
        → In (tree_entry key root) (entries_in c.body)
    tree_here e root same is_root =
        subst (λ (d : Entry). In d (entries_in c.body))
        (entry_of key (Root root) e (ap (λ (d : Entry). d.key) same ∙ h.key_is) is_root) (in_here e same)

    module _ (e : Entry) (list : List ℕ) (same : e ≡ h.entry) (is_list : e.postings ≡ Inline list) where
      pub item_list_here : IsItemList list
      item_list_here =
          let entry : IsEntry h.entry =
          all_in IsEntry (h.front ++ h.entry ∷ h.back) h.entry
          (are_entries c h.high (h.front ++ h.entry ∷ h.back) is h.content).each (in_middle h.front h.back h.entry) in
          let on : ArePostings (Inline list) =
          subst ArePostings (ap (λ (d : Entry). d.postings) (sym same) ∙ is_list) entry.postings in
          on.1

      pub list_is : e ≡ list_entry key list
      list_is = entry_of key (Inline list) e (ap (λ (d : Entry). d.key) same ∙ h.key_is) is_list

      pub no_tree_here : HasNoTree c.body key
      no_tree_here root i =
          let d : tree_entry key root ≡ list_entry key list =
          only_here (tree_entry key root) i refl ∙ sym same ∙ list_is in
          let both : Root root ≡ Inline list = ap (λ (x : Entry). x.postings) d in
          let z : ⊥ = cc in z

      pub fresh_here : (i : ℕ) → (Contains (items_of list) i → ⊥) → IsNewUnder c.body key i
      fresh_here i lacks other on has =
          let d : list_entry key other ≡ list_entry key list =
          only_here (list_entry key other) on refl ∙ sym same ∙ list_is in
          let both : Inline other ≡ Inline list = ap (λ (x : Entry). x.postings) d in
          let lists : other ≡ list = cc in
          lacks (subst (λ (l : List ℕ). Contains (items_of l) i) lists has)

      pub stands_here : (items : List ℕ) → ((i : ℕ) × Contains items i × (Contains (items_of list) i → ⊥) → ⊥)
          → (i : ℕ) → In i items → HasItem c.body key i
      stands_here items none i on = record {
        list = list;
        entry = subst (λ (d : Entry). In d (entries_in c.body)) list_is (in_here e same);
        item = in_list i (items_of list) (none_lacks items (items_of list) none i (contained i items on));
      }

      -- its old list is the one that is there
      pub old_here : (items : List ℕ) (u : IsUnder c.body key items) → u.old ≡ list
      old_here items u = elim u.entry [
        | inl there ↦
            let d : list_entry key u.old ≡ list_entry key list =
            only_here (list_entry key u.old) (subst (In (list_entry key u.old)) (sym there)
            (in_middle u.front u.back (list_entry key u.old))) refl ∙ sym same ∙ list_is in
            let both : Inline u.old ≡ Inline list = ap (λ (x : Entry). x.postings) d in
            let lists : u.old ≡ list = cc in
            lists
        | inr none ↦ absurd (no_key key u.front u.back u.above u.below h.entry
            (subst (In h.entry) none.0 (in_here h.entry refl)) h.key_is)
      ]

  -- ── it has none ──

  module _ (h : IsAbsent c key) where
    pub none_here : (d : Entry) → In d (entries_in c.body) → d.key ≡ key → ⊥
    none_here d i k =
        no_key key h.front h.back h.below h.above d (subst (λ (b : Body). In d (entries_in b)) h.content i) k

    pub leaf_absent : IsEntryLeaf c.body
    leaf_absent = subst IsEntryLeaf (sym h.content) (IsEntryLeaf.leaf h.high (h.front ++ h.back))

    pub within_absent : UpTo key (upper_in c.body)
    within_absent = subst (λ (b : Body). UpTo key (upper_in b)) (sym h.content) h.within

    pub no_tree_absent : HasNoTree c.body key
    no_tree_absent root i = none_here (tree_entry key root) i refl

    pub fresh_absent : (items : List ℕ) → (items ≡ [] → ⊥) → (i : ℕ) × Contains items i × IsNewUnder c.body key i
    fresh_absent [] some = absurd (some refl)
    fresh_absent (i ∷ items) some = (
      i,
      contained i (i ∷ items) (inl refl),
      λ list on has. none_here (list_entry key list) on refl,
    )

pub entry_leaf : (b : Body) (high : List ℕ) (entries : List Entry) → b ≡ body.EntryLeaf high entries → IsEntryBody b
entry_leaf b high entries is = subst IsEntryBody (sym is) (IsEntryBody.leaf high entries)

pub none_in : (i : ℕ) (items : List ℕ) → length items ≡ 0 → In i items → ⊥
none_in i [] e on = on
none_in i (x ∷ items) e on = omega (arith, e)

-- ── a leaf leads to no child ──

pub no_leaf : (b : Body) (high : List ℕ) (es : List Entry) (cs : List EntryChild) → b ≡ body.EntryLeaf high es
    → b ≡ body.EntryInner cs → ⊥
no_leaf b high es cs is_leaf inner =
    let two : body.EntryLeaf high es ≡ body.EntryInner cs = sym is_leaf ∙ inner in
    let z : ⊥ = cc in z

pub leaf_is : (b : Body) → IsEntryLeaf b → (high : List ℕ) × (es : List Entry) × (b ≡ body.EntryLeaf high es)
leaf_is _ (IsEntryLeaf.leaf high es) = (high, es, refl)

pub no_down : (c : Page) (k : List ℕ) (child : ℕ) → IsEntryLeaf c.body → IsFound c k (found.Down child) → ⊥
no_down c k child is_leaf (IsFoundIn.down front back x content below within) =
    let here = leaf_is c.body is_leaf in
    no_leaf c.body here.0 here.1 (front ++ x ∷ back) here.2 content

pub leaf_roomy : (c : Page) (k items : List ℕ) → IsEntryLeaf c.body → (r : Reading) → IsReading c k items r
    → IsRoomy sought.Key c r
leaf_roomy c k items is_leaf (reading.On (next.Down child)) (IsReading.down ch entry is) =
    absurd (no_down c k child is_leaf is)
leaf_roomy c k items is_leaf (reading.On (next.Tree root)) read = tt
leaf_roomy c k items is_leaf (reading.On (next.Stand n)) read = tt
leaf_roomy c k items is_leaf (reading.On next.Bad) read = tt
leaf_roomy c k items is_leaf (reading.Added p n) read = tt
leaf_roomy c k items is_leaf (reading.Long place) read = tt
leaf_roomy c k items is_leaf reading.Full read = tt

pub full_leaf : (c : Page) → IsEntryLeaf c.body → (r : Reading) → IsFullLeaf c r
full_leaf c is_leaf (reading.On n) = tt
full_leaf c is_leaf (reading.Added p n) = tt
full_leaf c is_leaf (reading.Long place) = tt
full_leaf c is_leaf reading.Full = is_leaf
