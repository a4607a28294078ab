-- A key has one entry at most, which has its pairs in the main part.
use Rattle.std.proofs.Common.{◌≡◌, ℕ, List, [], ◌∷◌, refl, sym, ap, subst, ◌∙◌, inl, inr}
use Rattle.std.specs.List.{AllByRecursion}
use Rattle.ts_base.specs.Keys.{Key}
use Rattle.page_types.specs.Keys.{KeyLess, Rising}
use Rattle.page_types.specs.Items.{items_of}
use Rattle.page_types.specs.Pages.{IsPage, IsBody}
use Rattle.page_types.specs.Views.{entries_in, entries_of, posting_items_in}
use Rattle.page_types.specs.declared.page.Page.{Page}
use Rattle.page_types.specs.declared.page.Entry.{Entry}
use Rattle.page_types.specs.declared.page.Postings.{Postings}
use Rattle.page_types.specs.declared.page.Postings.TheVariants.{Inline, Root}
use Rattle.page_types.specs.declared.page.Body.{Body}
use Rattle.page_types.specs.declared.page.Body.TheVariants as body
use Rattle.core_state.specs.Log.{Pages, In}
use Rattle.core_state.specs.Index.{Main, Under, IsNamed, Below}
use Rattle.core_state.specs.PagesTold.{IsEntryLeaf, OnEntryLeaf, UpEntryLeaf, IsPostLeaf, OnPostLeaf}
use Rattle.core_state.proofs.Trees.Orders.{key_irrefl}
use Rattle.core_vacuum.specs.Leaves.{LeavesCover}
use Rattle.core_vacuum.specs.Entries.{EntriesStand, EntriesHold}
use Rattle.core_vacuum.proofs.FirstLeaves.{leaves_hold}

-- a page with an entry is a leaf, and so is one with an item
leaf_of : (b : Body) (e : Entry) → In e (entries_in b) → (high : Key) × (es : List Entry) × (b ≡ body.EntryLeaf high es)
leaf_of (body.EntryLeaf high es) e on = (high, es, refl)
leaf_of _ e on = absurd on

post_leaf_of : (b : Body) (i : ℕ) → In i (posting_items_in b)
    → (high : ℕ) × (items : List ℕ) × (b ≡ body.PostLeaf high items)
post_leaf_of (body.PostLeaf high items) i on = (high, items, refl)
post_leaf_of _ i on = absurd on

all_in : {A : Type 0} (T : A → Type 0) (xs : List A) (x : A) → AllByRecursion T xs → In x xs → T x
all_in T [] x all i = absurd i
all_in T (y ∷ ys) x all (inl e) = subst T (sym e) all.0
all_in T (y ∷ ys) x all (inr i) = all_in T ys x all.1 i

-- a key is not below one that is the same
not_same : (a b : Key) → KeyLess a b → a ≡ b → ⊥
not_same a b l e = key_irrefl b (subst (λ (k : Key). KeyLess k b) e l)

-- of entries whose keys rise one has a key
one_key : (es : List Entry) (d e : Entry) → Rising (λ (a b : Entry). KeyLess a.key b.key) es → In d es → In e es
    → d.key ≡ e.key → d ≡ e
one_key [] d e rise on there same = absurd on
one_key (x ∷ es) d e rise (inl a) (inl b) same = a ∙ sym b
one_key (x ∷ es) d e rise (inl a) (inr j) same =
    absurd (not_same x.key e.key (all_in (λ (b : Entry). KeyLess x.key b.key) es e rise.0 j)
    (ap (λ (y : Entry). y.key) (sym a) ∙ same))
one_key (x ∷ es) d e rise (inr i) (inl b) same =
    absurd (not_same x.key d.key (all_in (λ (b : Entry). KeyLess x.key b.key) es d rise.0 i)
    (ap (λ (y : Entry). y.key) (sym b) ∙ sym same))
one_key (x ∷ es) d e rise (inr i) (inr j) same = one_key es d e rise.1 i j same

rising : (c : Page) (high : Key) (es : List Entry) → IsPage c → c.body ≡ body.EntryLeaf high es
    → Rising (λ (a b : Entry). KeyLess a.key b.key) es
rising c high es is e =
    let b : IsBody c.right c.stamp (body.EntryLeaf high es) = subst (IsBody c.right c.stamp) e is.body in
    b.1.rising

not_both : (p : Postings) (root : ℕ) (list : List ℕ) → p ≡ Root root → p ≡ Inline list → ⊥
not_both p root list e f = cc

same_list : (p : Postings) (a b : List ℕ) → p ≡ Inline a → p ≡ Inline b → a ≡ b
same_list p a b e f = let g : Inline a ≡ Inline b = sym e ∙ f in cc

same_root : (p : Postings) (a b : ℕ) → p ≡ Root a → p ≡ Root b → a ≡ b
same_root p a b e f = let g : Root a ≡ Root b = sym e ∙ f in cc

module _ (P : Pages) (each : (p : ℕ) → IsPage (P p))
    (cover : LeavesCover P (IsEntryLeaf P) (OnEntryLeaf P) (UpEntryLeaf P)) where
  one : (p q : ℕ) (d e : Entry) → In d (entries_of (P p)) → In e (entries_of (P q)) → d.key ≡ e.key → (p ≡ q) × (d ≡ e)
  one p q d e on there same =
      let lp : IsEntryLeaf P p = leaf_of (P p).body d on in
      let lq : IsEntryLeaf P q = leaf_of (P q).body e there in
      let page : p ≡ q = cover.one p q d.key lp lq (d, on, refl) (e, there, sym same) in
      let there_in : In e (entries_in (P p).body) =
      subst (λ (n : ℕ). In e (entries_in (P n).body)) (sym page) there in
      let entry = one_key lp.1 d e (rising (P p) lp.0 lp.1 (each p) lp.2)
      (subst (λ (b : Body). In d (entries_in b)) lp.2 on) (subst (λ (b : Body). In e (entries_in b)) lp.2 there_in)
      same in
      (page, entry)

  in_list : (e : Entry) (list : List ℕ) (i : ℕ) → e.postings ≡ Inline list → Under P e i → In i (items_of list)
  in_list e list i is (Under.inline bytes has i_in) =
      subst (λ (l : List ℕ). In i (items_of l)) (same_list e.postings bytes list has is) i_in
  in_list e list i is (Under.posted r q names below has) = absurd (not_both e.postings r list names is)

  in_tree : (e : Entry) (root i : ℕ) → e.postings ≡ Root root → Under P e i
      → (q : ℕ) × IsPostLeaf P root q × OnPostLeaf P q i
  in_tree e root i is (Under.inline bytes has i_in) = absurd (not_both e.postings root bytes is has)
  in_tree e root i is (Under.posted r q names below has) = (
    q,
    (subst (λ (x : ℕ). Below P x q) (same_root e.postings r root names is) below, post_leaf_of (P q).body i has),
    has,
  )

  listed : (k : Key) (i p : ℕ) (e : Entry) (list : List ℕ) → Main P k i → In e (entries_of (P p)) → e.key ≡ k
      → e.postings ≡ Inline list → In i (items_of list)
  listed k i p e list m on key is =
      let same = (one m.page p m.entry e m.on on (m.key ∙ sym key)).1 in
      in_list m.entry list i (ap (λ (x : Entry). x.postings) same ∙ is) m.under

  posted : (k : Key) (i root : ℕ) → Main P k i → IsNamed P k root → (q : ℕ) × IsPostLeaf P root q × OnPostLeaf P q i
  posted k i root m named =
      let same = (one m.page named.page m.entry named.entry m.on named.on (m.key ∙ sym named.key)).1 in
      in_tree m.entry root i (ap (λ (x : Entry). x.postings) same ∙ named.names) m.under

  pub stand : EntriesStand P
  stand = record {
    leaf = λ p e on. leaf_of (P p).body e on;
    one = one;
    listed = listed;
    posted = posted;
    post_pair = λ k i root q named l on. record {
      page = named.page;
      entry = named.entry;
      on = named.on;
      key = named.key;
      under = Under.posted root q named.names l.0 on;
    };
  }

pub entries_hold : EntriesHold
entries_hold R P some legal shown =
    stand P (λ p. (shown p).0) (leaves_hold R P some legal shown).entries
