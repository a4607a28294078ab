-- What a record takes from the main part that removes items: just these; and one that deletes a leaf adds nothing.
use Rattle.std.proofs.Common.{◌≡◌, ◌≢◌, ◌⊎◌, ℕ, [], ◌∷◌, ◌++◌, map, refl, sym, ap, subst, ◌∙◌, inl, inr}
use Rattle.ts_base.specs.Keys.{Key}
use Rattle.page_types.specs.Views.{entries_in, entries_of, posting_items_in}
use Rattle.page_types.specs.declared.page.Page.{Page}
use Rattle.page_types.specs.declared.page.Entry.{Entry}
use Rattle.page_types.specs.declared.page.PostChild.{PostChild}
use Rattle.page_types.specs.declared.page.Body.{Body}
use Rattle.page_types.specs.declared.page.Body.TheVariants as body
use Rattle.page_types.specs.declared.page.Gone.TheVariants as gone
use Rattle.page_types.specs.declared.record.Record.{Record}
use Rattle.core_state.specs.Log.{Log, Pages, In, changed}
use Rattle.core_state.specs.Index.{children_in, Main}
use Rattle.core_state.specs.Changes.{made_with}
use Rattle.core_state.specs.TreeRules.{IsDeletePost}
use Rattle.core_state.specs.VacuumRules.{EntryLoses, ListsLose, IsRemoveItems}
use Rattle.core_state.proofs.PageLists.{same_or_not, in_or_not, in_front, in_back, in_either, one_page, Unlinked}
use Rattle.core_state.proofs.PageLists.{LeftLeaf, unlinked_pages}
use Rattle.core_state.proofs.Trees.Members.{in_map, of_map}
use Rattle.core_state.proofs.Law.PairFrames.{EntryGoes, PairsGo, main_goes}
use Rattle.core_state.proofs.Law.RemoveItems.{entry_old, entry_new}

module _ (R : Log) (P Q : Pages) (r : Record) (floor : ℕ) (x : IsRemoveItems R P Q r floor) (elsewhere : (q : ℕ)
    → (In q (changed r) → ⊥) → Q q ≡ P q) where
  abbrev page : ℕ
  page = x.here.page

  abbrev Gone : ℕ → Type 0
  Gone i = In i x.here.removed

  body_was : (P page).body ≡ x.here.old.body
  body_was = ap (λ (p : Page). p.body) (one_page P (changed r) page x.here.old x.here.pages x.here.before_is)

  body_is : (Q page).body ≡ x.here.content
  body_is = ap (λ (p : Page). p.body) (one_page Q (changed r) page _ x.here.pages x.here.after_is)

  others : (q : ℕ) → q ≢ page → Q q ≡ P q
  others q off = elsewhere q (λ i. elim (subst (In q) x.here.pages i) [ inl e ↦ off e | inr z ↦ z ])

  no_children : (a c : Body) → ListsLose x.here.removed a c → (children_in a ≡ []) × (children_in c ≡ [])
  no_children a c (ListsLose.entries high old new t) = (refl, refl)
  no_children a c (ListsLose.postings high old new t) = (refl, refl)

  children_same : (p : ℕ) → children_in (Q p).body ≡ children_in (P p).body
  children_same p = elim (same_or_not page p) [
    | inr off ↦ ap (λ (z : Page). children_in z.body) (others p off)
    | inl e ↦
        let k = no_children x.here.old.body x.here.content x.here.lists in
        subst (λ (z : ℕ). children_in (Q z).body ≡ children_in (P z).body) (sym e)
        (ap children_in body_is ∙ k.1 ∙ sym (ap children_in body_was ∙ k.0))
  ]

  lost : (e f : Entry) → In f (entries_of (Q page)) → EntryLoses x.here.removed e f → EntryGoes P Q Gone e
  lost e f on (EntryLoses.same s) = EntryGoes.same page f on (ap (λ (z : Entry). z.key) (sym s))
      (ap (λ (z : Entry). z.postings) (sym s))
  lost e f on (EntryLoses.less a c key of is leave) = EntryGoes.less page f a c on (sym key) of is leave.each

  was : (e f : Entry) → In e (entries_of (P page)) → EntryLoses x.here.removed e f → EntryGoes Q P (λ i. ⊥) f
  was e f on (EntryLoses.same s) = EntryGoes.same page e on (ap (λ (z : Entry). z.key) s)
      (ap (λ (z : Entry). z.postings) s)
  was e f on (EntryLoses.less a c key of is leave) = EntryGoes.less page e c a on key is of
      (λ j m. inl (leave.no_other j m))

  entries_on : (a c : Body) → ListsLose x.here.removed a c → (P page).body ≡ a → (Q page).body ≡ c → (e : Entry)
      → In e (entries_of (P page)) → EntryGoes P Q Gone e
  entries_on a c (ListsLose.entries high old new t) ea ec e i =
      let k = entry_new x.here.removed old new t e (subst (In e) (ap entries_in ea) i) in
      lost e k.0 (subst (In k.0) (sym (ap entries_in ec)) k.1) k.2
  entries_on a c (ListsLose.postings high old new t) ea ec e i = absurd (subst (In e) (ap entries_in ea) i)

  entries_back : (a c : Body) → ListsLose x.here.removed a c → (P page).body ≡ a → (Q page).body ≡ c → (f : Entry)
      → In f (entries_of (Q page)) → EntryGoes Q P (λ i. ⊥) f
  entries_back a c (ListsLose.entries high old new t) ea ec f i =
      let k = entry_old x.here.removed old new t f (subst (In f) (ap entries_in ec) i) in
      was k.0 f (subst (In k.0) (sym (ap entries_in ea)) k.1) k.2
  entries_back a c (ListsLose.postings high old new t) ea ec f i = absurd (subst (In f) (ap entries_in ec) i)

  items_on : (a c : Body) → ListsLose x.here.removed a c → (i : ℕ) → In i (posting_items_in a)
      → In i (posting_items_in c) ⊎ Gone i
  items_on a c (ListsLose.entries high old new t) i m = absurd m
  items_on a c (ListsLose.postings high old new t) i m = t.each i m

  items_back : (a c : Body) → ListsLose x.here.removed a c → (i : ℕ) → In i (posting_items_in c)
      → In i (posting_items_in a)
  items_back a c (ListsLose.entries high old new t) i m = absurd m
  items_back a c (ListsLose.postings high old new t) i m = t.no_other i m

  goes : PairsGo P Q Gone
  goes = record {
    entries = λ q e i. elim (same_or_not page q) [
      | inr off ↦ EntryGoes.same q e (subst (λ (z : Page). In e (entries_of z)) (sym (others q off)) i) refl refl
      | inl s ↦ entries_on x.here.old.body x.here.content x.here.lists body_was body_is e
          (subst (λ (z : ℕ). In e (entries_of (P z))) s i)
    ];
    children = λ p q i. subst (In q) (sym (children_same p)) i;
    items = λ q i m. elim (same_or_not page q) [
      | inr off ↦ inl (subst (λ (z : Page). In i (posting_items_in z.body)) (sym (others q off)) m)
      | inl s ↦ elim (items_on x.here.old.body x.here.content x.here.lists i
          (subst (λ (b : Body). In i (posting_items_in b)) (ap (λ (z : ℕ). (P z).body) s ∙ body_was) m)) [
            | inl stays ↦ inl (subst (λ (b : Body). In i (posting_items_in b))
                (sym (ap (λ (z : ℕ). (Q z).body) s ∙ body_is)) stays)
            | inr gone ↦ inr gone
          ]
    ];
  }

  comes : PairsGo Q P (λ i. ⊥)
  comes = record {
    entries = λ q e i. elim (same_or_not page q) [
      | inr off ↦ EntryGoes.same q e (subst (λ (z : Page). In e (entries_of z)) (others q off) i) refl refl
      | inl s ↦ entries_back x.here.old.body x.here.content x.here.lists body_was body_is e
          (subst (λ (z : ℕ). In e (entries_of (Q z))) s i)
    ];
    children = λ p q i. subst (In q) (children_same p) i;
    items = λ q i m. elim (same_or_not page q) [
      | inr off ↦ inl (subst (λ (z : Page). In i (posting_items_in z.body)) (others q off) m)
      | inl s ↦ inl (subst (λ (b : Body). In i (posting_items_in b)) (sym (ap (λ (z : ℕ). (P z).body) s ∙ body_was))
          (items_back x.here.old.body x.here.content x.here.lists i (subst (λ (b : Body). In i (posting_items_in b))
          (ap (λ (z : ℕ). (Q z).body) s ∙ body_is) m)))
    ];
  }

  pub removed_pairs : (k : Key) (i : ℕ) → Main P k i → Main Q k i ⊎ In i x.here.removed
  removed_pairs = main_goes P Q Gone goes

  pub no_pair_comes : (k : Key) (i : ℕ) → Main Q k i → Main P k i
  no_pair_comes k i m = elim (main_goes Q P (λ j. ⊥) comes k i m) [ inl is ↦ is | inr z ↦ absurd z ]

module _ (R : Log) (P Q : Pages) (r : Record) (x : IsDeletePost R P Q r) (elsewhere : (q : ℕ)
    → (In q (changed r) → ⊥) → Q q ≡ P q) where
  abbrev leaf : ℕ
  leaf = x.here.page

  abbrev u : Unlinked P Q r leaf x.here.parent x.here.old.right x.here.lefts x.here.old
      (made_with r x.here.old.right (body.Deleted (gone.PostLeaf x.here.high []))) x.here.old_parent
      (made_with r x.here.old_parent.right (body.PostInner (x.here.front ++ x.here.next ∷ x.here.back)))
  u = unlinked_pages P Q r leaf x.here.parent x.here.old.right x.here.lefts x.here.lefts_before x.here.lefts_after
      x.here.old _ x.here.old_parent _ (changed r) x.here.unlinked x.here.pages x.here.before_is x.here.after_is

  -- what a page shows was there
  record Less (a c : Body) : Type 0 where
    pub entries : (e : Entry) → In e (entries_in c) → In e (entries_in a)
    pub children : (q : ℕ) → In q (children_in c) → In q (children_in a)
    pub items : (i : ℕ) → In i (posting_items_in c) → In i (posting_items_in a)

  leaf_less : Less (P leaf).body (Q leaf).body
  leaf_less = subst (Less (P leaf).body) (sym (ap (λ (p : Page). p.body) u.is))
      (record { entries = λ e i. absurd i; children = λ q i. absurd i; items = λ i m. absurd m })

  child : PostChild
  child = record { page = leaf; bound = x.here.bound }

  parent_less : Less (P x.here.parent).body (Q x.here.parent).body
  parent_less =
      subst (Less (P x.here.parent).body) (sym (ap (λ (p : Page). p.body) u.parent_is))
      (subst (λ (b : Body). Less b (body.PostInner (x.here.front ++ x.here.next ∷ x.here.back)))
      (sym (ap (λ (p : Page). p.body) u.parent_was ∙ x.here.child)) (record {
        entries = λ e i. absurd i;
        items = λ i m. absurd m;
        children = λ q i.
            let c = of_map (λ (z : PostChild). z.page) q (x.here.front ++ x.here.next ∷ x.here.back) i in
            subst (λ (z : ℕ). In z (map (λ (d : PostChild). d.page)
            (x.here.front ++ record { page = leaf; bound = x.here.bound } ∷ x.here.next ∷ x.here.back))) (sym c.2)
            (in_map (λ (z : PostChild). z.page) c.0 _
            (elim (in_either c.0 x.here.front (x.here.next ∷ x.here.back) c.1) [
              | inl f ↦ in_front c.0 x.here.front _ f
              | inr b ↦ in_back c.0 x.here.front _ (inr b)
            ]));
      }))

  left_less : (q : ℕ) → LeftLeaf P Q r leaf x.here.old.right q → Less (P q).body (Q q).body
  left_less q k = subst (Less (P q).body) (k.was ∙ sym (ap (λ (p : Page). p.body) k.after))
      (record { entries = λ e i. i; children = λ q i. i; items = λ i m. m })

  less_by : (p : ℕ) → In p (leaf ∷ (x.here.lefts ++ x.here.parent ∷ [])) → Less (P p).body (Q p).body
  less_by p (inl e) = subst (λ (z : ℕ). Less (P z).body (Q z).body) (sym e) leaf_less
  less_by p (inr i) = elim (in_either p x.here.lefts (x.here.parent ∷ []) i) [
    | inr (inl e) ↦ subst (λ (z : ℕ). Less (P z).body (Q z).body) (sym e) parent_less
    | inr (inr z) ↦ absurd z
    | inl j ↦ elim u.leaf [
      | inl none ↦ absurd (subst (In p) none j)
      | inr k ↦ elim (subst (In p) k.1 j) [
        | inl e ↦ subst (λ (z : ℕ). Less (P z).body (Q z).body) (sym e) (left_less k.0 k.2)
        | inr z ↦ absurd z
      ]
    ]
  ]

  less : (p : ℕ) → Less (P p).body (Q p).body
  less p = elim (in_or_not p (changed r)) [
    | inl i ↦ less_by p (subst (In p) x.here.pages i)
    | inr off ↦ subst (λ (z : Page). Less (P p).body z.body) (sym (elsewhere p off))
        (record { entries = λ e i. i; children = λ q i. i; items = λ i m. m })
  ]

  pub deleted_adds_none : (k : Key) (i : ℕ) → Main Q k i → Main P k i
  deleted_adds_none k i m = elim (main_goes Q P (λ j. ⊥) (record {
    entries = λ q e j. EntryGoes.same q e ((less q).entries e j) refl refl;
    children = λ p q j. (less p).children q j;
    items = λ q j n. inl ((less q).items j n);
  }) k i m) [ inl is ↦ is | inr z ↦ absurd z ]
