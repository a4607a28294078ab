-- A leaf that lacks some items is what a RemoveItems asks of its page.
use Rattle.std.proofs.Common.{◌≡◌, ◌⊎◌, ℕ, zero, suc, List, [], ◌∷◌, ◌++◌, refl, sym, ap, subst, inl, inr}
use Rattle.std.specs.Prelude.{Some}
use Rattle.std.specs.List.{slice_get}
use Rattle.page_types.specs.Items.{items_of}
use Rattle.page_types.specs.Views.{list_in, entries_in}
use Rattle.page_types.specs.declared.page.Entry.{Entry}
use Rattle.page_types.specs.declared.page.Postings.TheVariants.{Inline}
use Rattle.page_types.specs.declared.page.Body.{Body}
use Rattle.page_types.specs.declared.page.Body.TheVariants as body
use Rattle.core_state.specs.Log.{In}
use Rattle.core_state.specs.VacuumRules.{ItemsLeave, EntryLoses, EntriesLose, ListsLose, ItemGoes}
use Rattle.core_state.proofs.PageLists.{in_front, in_back, in_either}
use Rattle.posting_code.specs.Uniting.{IsLeft}
use Rattle.entry_tree.specs.Adding.{list_entry}
use Rattle.posting_tree.specs.Removing.{IsEntryLeft, AreEntriesLeft, IsLeafLeft, IsListed}
use Rattle.posting_tree.specs.RemovalLogging.{LeftLeafIsLogged}
use Rattle.posting_tree.proofs.Members.{in_list, contained, items_rise, in_or_not}
use Rattle.posting_tree.proofs.LeftPages.{no_items}

-- ---- one list

-- those of the items that go
abbrev lost : List ℕ → List ℕ → List ℕ
lost gone [] = []
lost gone (i ∷ is) = elim (in_or_not i gone) [
  | inl on ↦ i ∷ lost gone is
  | inr off ↦ lost gone is
]

lost_on : (gone is : List ℕ) (i : ℕ) → In i is → In i gone → In i (lost gone is)
lost_on gone [] i on g = absurd on
lost_on gone (j ∷ is) i on g = of (in_or_not j gone) on (λ later. lost_on gone is i later g)
  where
    of : (d : In j gone ⊎ (In j gone → ⊥)) → (i ≡ j) ⊎ In i is → (In i is → In i (lost gone is))
        → In i (elim d [ inl there ↦ j ∷ lost gone is | inr off ↦ lost gone is ])
    of (inl there) (inl e) rest = inl e
    of (inl there) (inr later) rest = inr (rest later)
    of (inr off) (inl e) rest = absurd (off (subst (λ (x : ℕ). In x gone) e g))
    of (inr off) (inr later) rest = rest later

lost_from : (gone is : List ℕ) (i : ℕ) → In i (lost gone is) → In i is × In i gone
lost_from gone [] i on = absurd on
lost_from gone (j ∷ is) i on = of (in_or_not j gone) on (lost_from gone is i)
  where
    of : (d : In j gone ⊎ (In j gone → ⊥))
        → In i (elim d [ inl there ↦ j ∷ lost gone is | inr off ↦ lost gone is ])
        → (In i (lost gone is) → In i is × In i gone) → ((i ≡ j) ⊎ In i is) × In i gone
    of (inl there) (inl e) rest = (inl e, subst (λ (x : ℕ). In x gone) (sym e) there)
    of (inl there) (inr later) rest = let r = rest later in (inr r.0, r.1)
    of (inr off) later rest = let r = rest later in (inr r.0, r.1)

items_leave : (gone removed old new : List ℕ) → IsLeft old gone new
    → ((i : ℕ) → In i (items_of old) → In i gone → In i removed) → ItemsLeave removed old new
items_leave gone removed old new left all = record {
  rises = items_rise 0 (items_of new) left.is_list.items;
  no_other = λ i on. in_list i (items_of old) ((left.has i).0 (contained i (items_of new) on)).0;
  each = λ i on. elim (in_or_not i gone) [
    | inl g ↦ inr (all i on g)
    | inr off ↦ inl (in_list i (items_of new)
        ((left.has i).1 (contained i (items_of old) on, λ c. off (in_list i gone c))))
  ];
}

goes : (gone old new : List ℕ) (i : ℕ) → IsLeft old gone new → In i gone → In i (items_of new) → ⊥
goes gone old new i left g on = ((left.has i).0 (contained i (items_of new) on)).1 (contained i gone g)

-- ---- the lists of entries

abbrev lost_entries : List ℕ → List Entry → List ℕ
lost_entries gone [] = []
lost_entries gone (e ∷ es) = lost gone (items_of (list_in e.postings)) ++ lost_entries gone es

lost_entries_on : (gone : List ℕ) (es : List Entry) (e : Entry) (i : ℕ) → In e es
    → In i (items_of (list_in e.postings)) → In i gone → In i (lost_entries gone es)
lost_entries_on gone [] e i on there g = absurd on
lost_entries_on gone (d ∷ es) e i (inl s) there g =
    in_front i (lost gone (items_of (list_in d.postings))) (lost_entries gone es)
    (lost_on gone (items_of (list_in d.postings)) i
    (subst (λ (x : Entry). In i (items_of (list_in x.postings))) s there) g)
lost_entries_on gone (d ∷ es) e i (inr on) there g =
    in_back i (lost gone (items_of (list_in d.postings))) (lost_entries gone es)
    (lost_entries_on gone es e i on there g)

lost_entries_from : (gone : List ℕ) (es : List Entry) (i : ℕ) → In i (lost_entries gone es)
    → (e : Entry) × In e es × In i (items_of (list_in e.postings)) × In i gone
lost_entries_from gone [] i on = absurd on
lost_entries_from gone (d ∷ es) i on =
    elim (in_either i (lost gone (items_of (list_in d.postings))) (lost_entries gone es) on) [
      | inl here ↦ let r = lost_from gone (items_of (list_in d.postings)) i here in (d, inl refl, r.0, r.1)
      | inr later ↦ let r = lost_entries_from gone es i later in (r.0, inr r.1, r.2, r.3)
    ]

entry_loses : (gone removed : List ℕ) (e f : Entry) → IsEntryLeft gone e f
    → ((i : ℕ) → In i (items_of (list_in e.postings)) → In i gone → In i removed) → EntryLoses removed e f
entry_loses gone removed _ _ (IsEntryLeft.listed key old new left) all =
    EntryLoses.less old new refl refl refl (items_leave gone removed old new left all)
entry_loses gone removed _ _ (IsEntryLeft.tree key root) all = EntryLoses.same refl

entries_lose : (gone removed : List ℕ) (es fs : List Entry) → AreEntriesLeft gone es fs
    → ((e : Entry) → In e es → (i : ℕ) → In i (items_of (list_in e.postings)) → In i gone → In i removed)
    → EntriesLose removed es fs
entries_lose gone removed [] [] left all = tt
entries_lose gone removed [] (f ∷ fs) left all = left
entries_lose gone removed (e ∷ es) [] left all = left
entries_lose gone removed (e ∷ es) (f ∷ fs) left all = (
  entry_loses gone removed e f left.0 (all e (inl refl)),
  entries_lose gone removed es fs left.1 (λ d on. all d (inr on)),
)

-- an item of one entry's list goes from it
record GoesFrom (i : ℕ) (es fs : List Entry) : Type 0 where
  at : ℕ
  before : Entry
  after : Entry
  old : List ℕ
  new : List ℕ
  was : slice_get es at ≡ Some before
  is : slice_get fs at ≡ Some after
  old_is : before.postings ≡ Inline old
  new_is : after.postings ≡ Inline new
  there : In i (items_of old)
  off : In i (items_of new) → ⊥

goes_here : (gone : List ℕ) (e f : Entry) (es fs : List Entry) (i : ℕ) → IsEntryLeft gone e f
    → In i (items_of (list_in e.postings)) → In i gone → GoesFrom i (e ∷ es) (f ∷ fs)
unfolding items_of
goes_here gone _ _ es fs i (IsEntryLeft.listed key old new left) on g = record {
  at = zero;
  before = list_entry key old;
  after = list_entry key new;
  old = old;
  new = new;
  was = refl;
  is = refl;
  old_is = refl;
  new_is = refl;
  there = on;
  off = goes gone old new i left g;
}
goes_here gone _ _ es fs i (IsEntryLeft.tree key root) on g = absurd (no_items i [] refl (contained i [] on))

goes_from : (gone : List ℕ) (es fs : List Entry) (e : Entry) (i : ℕ) → AreEntriesLeft gone es fs → In e es
    → In i (items_of (list_in e.postings)) → In i gone → GoesFrom i es fs
goes_from gone [] fs e i left on there g = absurd on
goes_from gone (d ∷ es) [] e i left on there g = absurd left
goes_from gone (d ∷ es) (f ∷ fs) e i left (inl s) there g =
    goes_here gone d f es fs i left.0 (subst (λ (x : Entry). In i (items_of (list_in x.postings))) s there) g
goes_from gone (d ∷ es) (f ∷ fs) e i left (inr on) there g =
    let x = goes_from gone es fs e i left.1 on there g in
    record {
      at = suc x.at;
      before = x.before;
      after = x.after;
      old = x.old;
      new = x.new;
      was = x.was;
      is = x.is;
      old_is = x.old_is;
      new_is = x.new_is;
      there = x.there;
      off = x.off;
    }

item_goes : (i : ℕ) (high : List ℕ) (es fs : List Entry) → GoesFrom i es fs
    → ItemGoes i (body.EntryLeaf high es) (body.EntryLeaf high fs)
item_goes i high es fs x =
    ItemGoes.from_entry high es fs x.at x.before x.after x.old x.new x.was x.is x.old_is x.new_is x.there x.off

-- where the leaf stays as it is, no item that may go was there
same_entry : (p q : List ℕ) → Inline p ≡ Inline q → p ≡ q
same_entry p q e = cc

none_here : (gone : List ℕ) (e f : Entry) (i : ℕ) → IsEntryLeft gone e f → f ≡ e
    → In i (items_of (list_in e.postings)) → In i gone → ⊥
unfolding items_of
none_here gone _ _ i (IsEntryLeft.listed key old new left) s on g =
    let lists : new ≡ old = same_entry new old (ap (λ (x : Entry). x.postings) s) in
    goes gone old new i left g (subst (λ (l : List ℕ). In i (items_of l)) (sym lists) on)
none_here gone _ _ i (IsEntryLeft.tree key root) s on g = no_items i [] refl (contained i [] on)

same_first : (e f : Entry) (es fs : List Entry) → f ∷ fs ≡ e ∷ es → f ≡ e
same_first e f es fs s = cc

same_rest : (e f : Entry) (es fs : List Entry) → f ∷ fs ≡ e ∷ es → fs ≡ es
same_rest e f es fs s = cc

none_on : (gone : List ℕ) (es fs : List Entry) (e : Entry) (i : ℕ) → AreEntriesLeft gone es fs → fs ≡ es → In e es
    → In i (items_of (list_in e.postings)) → In i gone → ⊥
none_on gone [] fs e i left s on there g = on
none_on gone (d ∷ es) [] e i left s on there g = left
none_on gone (d ∷ es) (f ∷ fs) e i left s (inl same) there g =
    none_here gone d f i left.0 (same_first d f es fs s)
    (subst (λ (x : Entry). In i (items_of (list_in x.postings))) same there) g
none_on gone (d ∷ es) (f ∷ fs) e i left s (inr on) there g =
    none_on gone es fs e i left.1 (same_rest d f es fs s) on there g

same_entries : (b c : Body) → c ≡ b → entries_in c ≡ entries_in b
same_entries b c e = ap entries_in e

same_list : (high : ℕ) (old new : List ℕ) → body.PostLeaf high new ≡ body.PostLeaf high old → new ≡ old
same_list high old new e = cc

pub left_logged : LeftLeafIsLogged
left_logged gone _ _ (IsLeafLeft.entries high es fs left) some = record {
  removed = lost_entries gone es;
  lists = ListsLose.entries high es fs
      (entries_lose gone (lost_entries gone es) es fs left (λ e on i. lost_entries_on gone es e i on));
  went = λ i on.
      let r = lost_entries_from gone es i on in
      item_goes i high es fs (goes_from gone es fs r.0 i left r.1 r.2 r.3);
  some = λ s. some (λ i listed c. no_one i (same_entries (body.EntryLeaf high es) (body.EntryLeaf high fs) s) listed
      (in_list i gone c));
  among = λ i on. contained i gone (lost_entries_from gone es i on).3;
}
  where
    no_one : (i : ℕ) → fs ≡ es → IsListed (body.EntryLeaf high es) i → In i gone → ⊥
    no_one i s (inl x) g = none_on gone es fs x.0 i left s x.1 (in_list i (items_of (list_in x.0.postings)) x.2) g
    no_one i s (inr c) g = no_items i [] refl c
left_logged gone _ _ (IsLeafLeft.postings high old new left) some = record {
  removed = lost gone (items_of old);
  lists = ListsLose.postings high old new
      (items_leave gone (lost gone (items_of old)) old new left (λ i. lost_on gone (items_of old) i));
  went = λ i on.
      let r = lost_from gone (items_of old) i on in
      ItemGoes.from_postings high old new r.0 (goes gone old new i left r.1);
  some = λ s. some (λ i listed c. no_one i (same_list high old new s) listed (in_list i gone c));
  among = λ i on. contained i gone (lost_from gone (items_of old) i on).1;
}
  where
    no_one : (i : ℕ) → new ≡ old → IsListed (body.PostLeaf high old) i → In i gone → ⊥
    no_one i s (inl x) g = x.1
    no_one i s (inr c) g =
        goes gone old new i left g (subst (λ (l : List ℕ). In i (items_of l)) (sym s) (in_list i (items_of old) c))
