-- The case of items that leave the lists of a leaf.
use Rattle.std.proofs.Common.{◌≡◌, ◌≢◌, ◌⊎◌, ℕ, List, [], ◌∷◌, refl, sym, ap, subst, inl, inr}
use Rattle.page_types.specs.Views.{entries_of, posting_items_in}
use Rattle.page_types.specs.declared.page.Page.{Page}
use Rattle.page_types.specs.declared.page.Entry.{Entry}
use Rattle.page_types.specs.declared.page.Body.{Body}
use Rattle.page_types.specs.declared.page.Body.TheVariants as body
use Rattle.page_types.specs.declared.record.Record.{Record}
use Rattle.page_types.specs.declared.record.Kind.TheVariants as kind
use Rattle.core_state.specs.Log.{Log, Pages, In, changed}
use Rattle.core_state.specs.Changes.{made_with}
use Rattle.core_state.specs.VacuumRules.{EntryLoses, EntriesLose, ListsLose, IsRemoveItems}
use Rattle.core_state.specs.Inner.Ghosts.{Place, Ghost}
use Rattle.core_state.specs.Inner.Ghosts.Place.{post}
use Rattle.core_state.specs.Inner.Kinds.{Fits}
use Rattle.core_state.proofs.PageLists.{same_or_not, one_page}
use Rattle.core_state.proofs.Law.MainPlaces.{MainAt}
use Rattle.core_state.proofs.Law.Places.{place_for}
use Rattle.core_state.proofs.Law.Steps.{Before, Left, CaseOf, Departs}
use Rattle.core_state.proofs.Law.SamePages.{not_first}
use Rattle.core_state.proofs.Law.TreeCases.{remove_items_trees}
use Rattle.core_state.proofs.Law.TreeKinds.{TreePage, EntryWas, EntryNow, TreeMoves, tree_case, Taken, Given}
use Rattle.core_state.proofs.Law.TreeViews.{body_items, body_entries, may_leave, same_was, same_now, leaf_same}
use Rattle.core_state.proofs.Law.TreeViews.{leaf_stays}

-- an entry that lost items was there, and each that was there is there with what is left
pub entry_old : (removed : List ℕ) (old new : List Entry) → EntriesLose removed old new → (f : Entry) → In f new
    → (e : Entry) × In e old × EntryLoses removed e f
entry_old removed [] [] t f i = absurd i
entry_old removed [] (d ∷ fs) t f i = absurd t
entry_old removed (e ∷ es) [] t f i = absurd t
entry_old removed (e ∷ es) (d ∷ fs) t f (inl s) = (e, inl refl, subst (EntryLoses removed e) (sym s) t.0)
entry_old removed (e ∷ es) (d ∷ fs) t f (inr i) = let k = entry_old removed es fs t.1 f i in (k.0, inr k.1, k.2)

pub entry_new : (removed : List ℕ) (old new : List Entry) → EntriesLose removed old new → (e : Entry) → In e old
    → (f : Entry) × In f new × EntryLoses removed e f
entry_new removed [] [] t e i = absurd i
entry_new removed [] (d ∷ fs) t e i = absurd t
entry_new removed (d ∷ es) [] t e i = absurd t
entry_new removed (d ∷ es) (f ∷ fs) t e (inl s) =
    (f, inl refl, subst (λ (z : Entry). EntryLoses removed z f) (sym s) t.0)
entry_new removed (d ∷ es) (f ∷ fs) t e (inr i) = let k = entry_new removed es fs t.1 e i in (k.0, inr k.1, k.2)

module _ (n L : ℕ) (R : Log) (P Q : Pages) (r : Record) (floor since : ℕ) (g : Ghost)
    (b : Before n L R P Q r floor since g) (l : Left n since R P Q r) (x : IsRemoveItems R P Q r floor) where
  abbrev page : ℕ
  page = x.here.page

  abbrev removed : List ℕ
  removed = x.here.removed

  was : P page ≡ x.here.old
  was = one_page P (changed r) page x.here.old x.here.pages x.here.before_is

  is : Q page ≡ made_with r x.here.old.right x.here.content
  is = one_page Q (changed r) page _ x.here.pages x.here.after_is

  body_was : (P page).body ≡ x.here.old.body
  body_was = ap (λ (p : Page). p.body) was

  body_is : (Q page).body ≡ x.here.content
  body_is = ap (λ (p : Page). p.body) is

  others : (q : ℕ) → q ≢ page → Q q ≡ P q
  others q off = l.elsewhere q (λ i. elim (subst (In q) x.here.pages i) [ inl e ↦ off e | inr z ↦ z ])

  may : (i : ℕ) → In i removed → Departs n R P r i
  may i m = record { by = x.here.kind_is; may = may_leave n R P Q g g floor i b.floor_is (x.rest i m) }

  -- the page keeps its kind
  page_fits : (a c : Body) → ListsLose removed a c → (P page).body ≡ a → (Q page).body ≡ c
      → Taken (g.place page) × Given (g.place page) × Fits L (g.place page) (Q page)
  page_fits a c (ListsLose.entries high old new t) e f =
      let at = place_for L (g.place page) (P page) (body.EntryLeaf high old) (b.inv.kinds page) e in
      subst (λ (y : Place). Taken y × Given y × Fits L y (Q page)) (sym at) (tt, tt, (high, new, f))
  page_fits a c (ListsLose.postings high old new t) e f =
      let at = place_for L (g.place page) (P page) (body.PostLeaf high old) (b.inv.kinds page) e in
      subst (λ (y : Place). Taken y × Given y × Fits L y (Q page)) (sym at.1) (tt, tt, (high, new, f))

  each : (p : ℕ) → TreePage L P Q g g p
  each p = elim (same_or_not page p) [
    | inr off ↦ TreePage.same refl (others p off)
    | inl e ↦
        let k = page_fits x.here.old.body x.here.content x.here.lists body_was body_is in
        subst (TreePage L P Q g g) (sym e) (TreePage.taken k.0 k.1 k.2)
  ]

  lost_was : (e f : Entry) → In e (entries_of (P page)) → EntryLoses removed e f → EntryWas P g g f
  lost_was e f i (EntryLoses.same s) = EntryWas.was page e i (ap (λ (z : Entry). z.key) s)
      (ap (λ (z : Entry). z.postings) s)
  lost_was e f i (EntryLoses.less a c key of is_list leave) = EntryWas.listed c is_list
      (λ j m. inl (MainAt.listed page e a i key of (leave.no_other j m)))

  lost_now : (e f : Entry) → In f (entries_of (Q page)) → EntryLoses removed e f → EntryNow n R P Q r g e
  lost_now e f i (EntryLoses.same s) = EntryNow.now page f i (ap (λ (z : Entry). z.key) (sym s))
      (ap (λ (z : Entry). z.postings) (sym s))
  lost_now e f i (EntryLoses.less a c key of is_list leave) = EntryNow.listed a of (λ j m. elim (leave.each j m) [
    | inl stays ↦ inl (MainAt.listed page f c i (sym key) is_list stays)
    | inr gone ↦ inr (may j gone)
  ])

  page_was : (a c : Body) → ListsLose removed a c → (P page).body ≡ a → (Q page).body ≡ c → (f : Entry)
      → In f (entries_of (Q page)) → EntryWas P g g f
  page_was a c (ListsLose.entries high old new t) e s f i =
      let k = entry_old removed old new t f (subst (In f) (body_entries (Q page) _ s) i) in
      lost_was k.0 f (subst (In k.0) (sym (body_entries (P page) _ e)) k.1) k.2
  page_was a c (ListsLose.postings high old new t) e s f i = absurd (subst (In f) (body_entries (Q page) _ s) i)

  page_now : (a c : Body) → ListsLose removed a c → (P page).body ≡ a → (Q page).body ≡ c → (d : Entry)
      → In d (entries_of (P page)) → EntryNow n R P Q r g d
  page_now a c (ListsLose.entries high old new t) e s d i =
      let k = entry_new removed old new t d (subst (In d) (body_entries (P page) _ e) i) in
      lost_now d k.0 (subst (In k.0) (sym (body_entries (Q page) _ s)) k.1) k.2
  page_now a c (ListsLose.postings high old new t) e s d i = absurd (subst (In d) (body_entries (P page) _ e) i)

  entry_was : (q : ℕ) (e : Entry) → In e (entries_of (Q q)) → EntryWas P g g e
  entry_was q e i = elim (same_or_not page q) [
    | inr off ↦ same_was n R P Q g g q e (ap entries_of (others q off)) i
    | inl s ↦ page_was x.here.old.body x.here.content x.here.lists body_was body_is e
        (subst (λ (z : ℕ). In e (entries_of (Q z))) s i)
  ]

  entry_now : (q : ℕ) (e : Entry) → In e (entries_of (P q)) → EntryNow n R P Q r g e
  entry_now q e i = elim (same_or_not page q) [
    | inr off ↦ same_now n R P Q g g r q e (ap entries_of (others q off)) i
    | inl s ↦ page_now x.here.old.body x.here.content x.here.lists body_was body_is e
        (subst (λ (z : ℕ). In e (entries_of (P z))) s i)
  ]

  -- items of the leaf
  item_was : (a c : Body) → ListsLose removed a c → (P page).body ≡ a → (Q page).body ≡ c → (i : ℕ)
      → In i (posting_items_in (Q page).body) → In i (posting_items_in (P page).body)
  item_was a c (ListsLose.entries high old new t) e s i m = absurd (subst (In i) (body_items (Q page) _ s) m)
  item_was a c (ListsLose.postings high old new t) e s i m = subst (In i) (sym (body_items (P page) _ e))
      (t.no_other i (subst (In i) (body_items (Q page) _ s) m))

  item_now : (a c : Body) → ListsLose removed a c → (P page).body ≡ a → (Q page).body ≡ c → (i : ℕ)
      → In i (posting_items_in (P page).body) → In i (posting_items_in (Q page).body) ⊎ In i removed
  item_now a c (ListsLose.entries high old new t) e s i m = absurd (subst (In i) (body_items (P page) _ e) m)
  item_now a c (ListsLose.postings high old new t) e s i m =
      elim (t.each i (subst (In i) (body_items (P page) _ e) m)) [
        | inl stays ↦ inl (subst (In i) (sym (body_items (Q page) _ s)) stays)
        | inr gone ↦ inr gone
      ]

  leaf_was : (q s i : ℕ) → g.place q ≡ post s 0 → In i (posting_items_in (Q q).body) → MainAt P g (g.key_of s) i
  leaf_was q s i place m = elim (same_or_not page q) [
    | inr off ↦ leaf_same n R P Q g g q s i place refl (ap (λ (p : Page). posting_items_in p.body) (others q off)) m
    | inl e ↦ MainAt.posted q s place refl (subst (λ (z : ℕ). In i (posting_items_in (P z).body)) (sym e)
        (item_was x.here.old.body x.here.content x.here.lists body_was body_is i
        (subst (λ (z : ℕ). In i (posting_items_in (Q z).body)) e m)))
  ]

  leaf_now : (q s i : ℕ) → g.place q ≡ post s 0 → In i (posting_items_in (P q).body)
      → MainAt Q g (g.key_of s) i ⊎ Departs n R P r i
  leaf_now q s i place m = elim (same_or_not page q) [
    | inr off ↦ inl (leaf_stays n R P Q g g q s i place refl
        (ap (λ (p : Page). posting_items_in p.body) (others q off)) m)
    | inl e ↦ elim (item_now x.here.old.body x.here.content x.here.lists body_was body_is i
        (subst (λ (z : ℕ). In i (posting_items_in (P z).body)) e m)) [
          | inl stays ↦ inl (MainAt.posted q s place refl
              (subst (λ (z : ℕ). In i (posting_items_in (Q z).body)) (sym e) stays))
          | inr gone ↦ inr (may i gone)
        ]
  ]

  moves : TreeMoves n since L R P Q r g b.inv l g
  moves =
      let some = not_first R r kind.RemoveItems b.started x.here.kind_is (λ e. cc) in
      record {
        some = some;
        kind = kind.RemoveItems;
        kind_is = x.here.kind_is;
        overflows = tt;
        privates = tt;
        same_line = refl;
        each = each;
        page_1 = b.inv.starts.page_1 some;
        lowest = λ p q low free e. e;
        entry_was = entry_was;
        entry_now = entry_now;
        leaf_was = λ q s i place m. inl (leaf_was q s i place m);
        leaf_now = leaf_now;
        root_on = λ s h place. (h, place);
        root_back = λ s h place. inl (h, place);
      }

pub remove_items_case : CaseOf (λ R P Q r floor since. IsRemoveItems R P Q r floor)
remove_items_case n L R P Q r floor since g b l x = (
  g,
  tree_case n since L R P Q r g b.inv l g (remove_items_trees n L R P Q r floor since g b l x)
      (moves n L R P Q r floor since g b l x),
)
