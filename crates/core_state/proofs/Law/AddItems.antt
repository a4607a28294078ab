-- The case of items that come to an entry's list.
use Rattle.std.proofs.Common.{◌≡◌, ◌≢◌, ◌⊎◌, ℕ, List, ◌∷◌, ◌++◌, refl, sym, ap, subst, ◌∙◌, inl, inr}
use Rattle.page_types.specs.Items.{items_of}
use Rattle.page_types.specs.Views.{entries_of, posting_items_in}
use Rattle.page_types.specs.declared.page.Page.{Page}
use Rattle.page_types.specs.declared.page.Entry.{Entry}
use Rattle.page_types.specs.declared.page.Postings.TheVariants.{Inline}
use Rattle.page_types.specs.declared.page.Body.TheVariants as body
use Rattle.page_types.specs.declared.record.Record.{Record}
use Rattle.page_types.specs.declared.record.Kind.TheVariants as kind
use Rattle.core_state.specs.Log.{Log, Pages, In, changed}
use Rattle.core_state.specs.Index.{Pending}
use Rattle.core_state.specs.Changes.{made_with}
use Rattle.core_state.specs.TreeRules.{IsEntryBetween, IsAddItems}
use Rattle.core_state.specs.Inner.Ghosts.{Place, Ghost}
use Rattle.core_state.specs.Inner.Ghosts.Place.{entry, post}
use Rattle.core_state.specs.Inner.Kinds.{Fits}
use Rattle.core_state.proofs.PageLists.{same_or_not, one_page, in_front, in_back, in_either}
use Rattle.core_state.proofs.Law.MainPlaces.{MainAt}
use Rattle.core_state.proofs.Law.Places.{place_for}
use Rattle.core_state.proofs.Law.Steps.{Before, Left, CaseOf}
use Rattle.core_state.proofs.Law.SamePages.{not_first}
use Rattle.core_state.proofs.Law.TreeCases.{add_items_trees}
use Rattle.core_state.proofs.Law.TreeKinds.{TreePage, EntryWas, EntryNow, TreeMoves, tree_case, Taken, Given}
use Rattle.core_state.proofs.Law.TreeViews.{no_items, body_entries, same_was, same_now, leaf_same, leaf_stays}
use Rattle.core_state.proofs.Law.TreeViews.{entry_not_post}

module _ (n L : ℕ) (R : Log) (P Q : Pages) (r : Record) (floor since : ℕ) (g : Ghost)
    (b : Before n L R P Q r floor since g) (l : Left n since R P Q r) (x : IsAddItems R P Q r) where
  abbrev page : ℕ
  page = x.here.page

  abbrev added : Entry
  added = record { key = x.here.key; postings = Inline x.here.new_list }

  abbrev entries_now : List Entry
  entries_now = x.here.front ++ added ∷ x.here.back

  was : P page ≡ x.here.old
  was = one_page P (changed r) page x.here.old x.here.pages x.here.before_is

  is : Q page ≡ made_with r x.here.old.right (body.EntryLeaf x.here.high entries_now)
  is = one_page Q (changed r) page _ x.here.pages x.here.after_is

  body_was : (P page).body ≡ body.EntryLeaf x.here.high x.here.entries
  body_was = ap (λ (p : Page). p.body) was ∙ x.here.was

  entries_were : entries_of (P page) ≡ x.here.entries
  entries_were = body_entries (P page) _ body_was

  entries_are : entries_of (Q page) ≡ entries_now
  entries_are = ap entries_of is

  at_page : g.place page ≡ entry 0
  at_page = place_for L (g.place page) (P page) _ (b.inv.kinds page) body_was

  others : (q : ℕ) → q ≢ page → Q q ≡ P q
  others q off = l.elsewhere q (λ i. elim (subst (In q) x.here.pages i) [ inl e ↦ off e | inr z ↦ z ])

  each : (p : ℕ) → TreePage L P Q g g p
  each p = elim (same_or_not page p) [
    | inr off ↦ TreePage.same refl (others p off)
    | inl e ↦ subst (TreePage L P Q g g) (sym e)
        (TreePage.taken (subst Taken (sym at_page) tt) (subst Given (sym at_page) tt)
        (subst (λ (y : Place). Fits L y (Q page)) (sym at_page)
        (x.here.high, entries_now, ap (λ (p : Page). p.body) is)))
  ]

  -- an entry beside the new one was there, and stays
  beside : (e : Entry) → In e x.here.front ⊎ In e x.here.back → In e x.here.entries
  beside e i = elim x.here.entry [
    | inl s ↦ subst (In e) (sym s)
        (elim i [ inl f ↦ in_front e x.here.front _ f | inr k ↦ in_back e x.here.front _ (inr k) ])
    | inr s ↦ subst (In e) (sym s.0)
        (elim i [ inl f ↦ in_front e x.here.front _ f | inr k ↦ in_back e x.here.front _ k ])
  ]

  -- the new list's items
  item_was : (i : ℕ) → In i (items_of x.here.new_list) → MainAt P g x.here.key i ⊎ Pending P x.here.key i
  item_was i m = elim ((x.here.added.just i).0 m) [
    | inr new ↦ inr (x.rest.rows i new)
    | inl old ↦ elim x.here.entry [
      | inl s ↦ inl (MainAt.listed page (record { key = x.here.key; postings = Inline x.here.old_list })
          x.here.old_list
          (subst (In _) (sym (entries_were ∙ s)) (in_back _ x.here.front _ (inl refl))) refl refl old)
      | inr s ↦ absurd (subst (In i) (ap items_of s.1 ∙ no_items) old)
    ]
  ]

  in_now : In added (entries_of (Q page))
  in_now = subst (In added) (sym entries_are) (in_back added x.here.front (added ∷ x.here.back) (inl refl))

  entry_was : (q : ℕ) (e : Entry) → In e (entries_of (Q q)) → EntryWas P g g e
  entry_was q e i = elim (same_or_not page q) [
    | inr off ↦ same_was n R P Q g g q e (ap entries_of (others q off)) i
    | inl s ↦ elim (in_either e x.here.front (added ∷ x.here.back)
        (subst (In e) entries_are (subst (λ (z : ℕ). In e (entries_of (Q z))) s i))) [
          | inl f ↦ EntryWas.was page e (subst (In e) (sym entries_were) (beside e (inl f))) refl refl
          | inr (inl f) ↦ subst (EntryWas P g g) (sym f) (EntryWas.listed x.here.new_list refl item_was)
          | inr (inr k) ↦ EntryWas.was page e (subst (In e) (sym entries_were) (beside e (inr k))) refl refl
        ]
  ]

  stays : (e : Entry) → In e x.here.front ⊎ In e x.here.back → EntryNow n R P Q r g e
  stays e i = EntryNow.now page e
      (subst (In e) (sym entries_are)
      (elim i [ inl f ↦ in_front e x.here.front _ f | inr k ↦ in_back e x.here.front _ (inr k) ])) refl refl

  on_page : (e : Entry) → IsEntryBetween x.here.entries x.here.front x.here.back x.here.key x.here.old_list
      → In e x.here.entries → EntryNow n R P Q r g e
  on_page e (inl s) i = elim (in_either e x.here.front _ (subst (In e) s i)) [
    | inl f ↦ stays e (inl f)
    | inr (inl f) ↦ subst (EntryNow n R P Q r g) (sym f)
        (EntryNow.listed x.here.old_list refl
        (λ j m. inl (MainAt.listed page added x.here.new_list in_now refl refl
        ((x.here.added.just j).1 (inl m)))))
    | inr (inr k) ↦ stays e (inr k)
  ]
  on_page e (inr s) i = stays e (in_either e x.here.front x.here.back (subst (In e) s.0 i))

  entry_now : (q : ℕ) (e : Entry) → In e (entries_of (P q)) → EntryNow n R P Q r g e
  entry_now q e i = elim (same_or_not page q) [
    | inr off ↦ same_now n R P Q g g r q e (ap entries_of (others q off)) i
    | inl s ↦ on_page e x.here.entry (subst (In e) entries_were (subst (λ (z : ℕ). In e (entries_of (P z))) s i))
  ]

  -- leaves of posting trees stay
  leaf : (q s : ℕ) → g.place q ≡ post s 0 → Q q ≡ P q
  leaf q s at = others q (λ e. entry_not_post 0 s 0 (sym at_page ∙ ap g.place (sym e) ∙ at))

  moves : TreeMoves n since L R P Q r g b.inv l g
  moves =
      let some = not_first R r kind.AddItems b.started x.here.kind_is (λ e. cc) in
      record {
        some = some;
        kind = kind.AddItems;
        kind_is = x.here.kind_is;
        overflows = tt;
        privates = tt;
        same_line = refl;
        each = each;
        page_1 = b.inv.starts.page_1 some;
        lowest = λ p q low free e. e;
        entry_was = entry_was;
        entry_now = entry_now;
        leaf_was = λ q s i at m. inl (leaf_same n R P Q g g q s i at refl
            (ap (λ (p : Page). posting_items_in p.body) (leaf q s at)) m);
        leaf_now = λ q s i at m. inl (leaf_stays n R P Q g g q s i at refl
            (ap (λ (p : Page). posting_items_in p.body) (leaf q s at)) m);
        root_on = λ s h at. (h, at);
        root_back = λ s h at. inl (h, at);
      }

pub add_items_case : CaseOf (λ R P Q r floor since. IsAddItems R P Q r)
add_items_case n L R P Q r floor since g b l x = (
  g,
  tree_case n since L R P Q r g b.inv l g (add_items_trees n L R P Q r floor since g b l x)
      (moves n L R P Q r floor since g b l x),
)
