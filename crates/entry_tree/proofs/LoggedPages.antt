-- Found pages lead on, and the pages that are made here are what their records ask.
use Rattle.std.proofs.Common.{◌≡◌, ◌⊎◌, ℕ, zero, suc, ◌<◌, ◌≤◌, List, [], ◌∷◌, refl, sym, ap, subst, inl, inr}
use Rattle.std.proofs.Common.{arith}
use Rattle.std.specs.List.{AllByRecursion, Contains}
use Rattle.page_types.specs.Items.{items_of, AreItemsFrom}
use Rattle.page_types.specs.Keys.{Rising}
use Rattle.page_types.specs.Views.{entries_in}
use Rattle.page_types.specs.declared.page.Page.{Page}
use Rattle.page_types.specs.declared.page.Entry.{Entry}
use Rattle.page_types.specs.declared.page.Body.{Body}
use Rattle.page_types.specs.declared.page.Body.TheVariants as body
use Rattle.core_state.specs.Log.{In}
use Rattle.core_state.specs.Changes.{made_with}
use Rattle.core_state.specs.TreeRules.{Toward, OneChild, IsEntryBetween, ItemsAdded}
use Rattle.posting_code.specs.Uniting.{IsUnited}
use Rattle.entry_tree.specs.Reading.{upper_in}
use Rattle.entry_tree.specs.Adding.{IsEntryLeaf, list_entry, leaf_with}
use Rattle.entry_tree.specs.Finding.{IsEntryBody, IsFoundIn}
use Rattle.entry_tree.specs.Logging.{FoundLeadsDown, GrownRootIsLogged, AddedItemsAreLogged}
use Rattle.entry_tree.proofs.EntryLists.{in_middle}
use Rattle.entry_tree.proofs.AddedPages.{done_page}

pub leads_down : FoundLeadsDown
leads_down P key p _ q (IsFoundIn.down front back c content below up) way =
    Toward.down front back c content below up way

one_child : (new : ℕ) (b : Body) → IsEntryBody b
    → OneChild new b (body.EntryInner (record { page = new; bound = [] } ∷ []))
one_child new _ (IsEntryBody.leaf high entries) = OneChild.of_leaf high entries
one_child new _ (IsEntryBody.inner children) = OneChild.of_inner children

pub grown_logged : GrownRootIsLogged
grown_logged k r since root new old was is large kind_is pages is_new = record {
  root = root;
  new = new;
  inner = body.EntryInner (record { page = new; bound = [] } ∷ []);
  old = old;
  was = was;
  kind_is = kind_is;
  pages = pages;
  is_new = is_new;
  before_is = refl;
  large = large;
  one_child = one_child new old.body is;
  after_is = refl;
}

-- ---- items added

in_list : (i : ℕ) (is : List ℕ) → Contains is i → In i is
in_list i [] c = absurd (omega (arith, c.1))
in_list i (j ∷ is) (zero, lt, e) = inl (sym e)
in_list i (j ∷ is) (suc k, lt, e) = inr (in_list i is (k, omega arith, e))

contained : (i : ℕ) (is : List ℕ) → In i is → Contains is i
contained i [] on = absurd on
contained i (j ∷ is) (inl e) = (zero, omega arith, sym e)
contained i (j ∷ is) (inr on) = let c = contained i is on in (suc c.0, omega (arith, c.1), c.2)

all_later : (low last : ℕ) (is : List ℕ) → low ≤ last → AreItemsFrom last is → AllByRecursion (λ j. low < j) is
all_later low last [] le h = tt
all_later low last (i ∷ is) le h = (omega (arith, h.0), all_later low i is (omega (arith, h.0)) h.2)

items_rise : (last : ℕ) (is : List ℕ) → AreItemsFrom last is → Rising (λ (i j : ℕ). i < j) is
items_rise last [] h = tt
items_rise last (i ∷ is) h = (all_later i i is (omega arith) h.2, items_rise i is h.2)

no_item : (i : ℕ) (list : List ℕ) → list ≡ [] → In i (items_of list) → ⊥
unfolding items_of
no_item i list e on = subst (λ (l : List ℕ). In i (items_of l)) e on

new_item : (entries front back : List Entry) (key old : List ℕ) (i : ℕ) → IsEntryBetween entries front back key old
    → ((list : List ℕ) → In (list_entry key list) entries → Contains (items_of list) i → ⊥) → In i (items_of old) → ⊥
new_item entries front back key old i (inl e) new on =
    new old (subst (In (list_entry key old)) (sym e) (in_middle front back (list_entry key old)))
    (contained i (items_of old) on)
new_item entries front back key old i (inr e) new on = no_item i old e.1 on

items_added : (old items list : List ℕ) (i : ℕ) → IsUnited old items list → Contains items i
    → (In i (items_of old) → ⊥) → ItemsAdded old list items
items_added old items list i u c new = record {
  rises = items_rise 0 (items_of list) u.is_list.items;
  just = λ j. (
    λ on. to j ((u.has j).0 (contained j (items_of list) on)),
    λ on. in_list j (items_of list) ((u.has j).1 (from j on)),
  );
  adds = (i, in_list i items c, new);
}
  where
    to : (j : ℕ) → Contains (items_of old) j ⊎ Contains items j → In j (items_of old) ⊎ In j items
    to j (inl k) = inl (in_list j (items_of old) k)
    to j (inr k) = inr (in_list j items k)

    from : (j : ℕ) → In j (items_of old) ⊎ In j items → Contains (items_of old) j ⊎ Contains items j
    from j (inl on) = inl (contained j (items_of old) on)
    from j (inr on) = inr (contained j items on)

shown : (content : Body) → IsEntryLeaf content → content ≡ body.EntryLeaf (upper_in content) (entries_in content)
shown _ (IsEntryLeaf.leaf high entries) = refl

pub added_logged : AddedItemsAreLogged
added_logged k r page key items old new of_leaf a up some kind_is pages =
    let d = done_page old a.under.list (leaf_with a.under) new a.is in
    record {
      here = record {
        page = page;
        key = key;
        items = items;
        high = upper_in old.body;
        entries = entries_in old.body;
        front = a.under.front;
        back = a.under.back;
        old_list = a.under.old;
        new_list = a.under.list;
        old = old;
        kind_is = kind_is;
        pages = pages;
        within = up;
        before_is = refl;
        was = shown old.body of_leaf;
        entry = a.under.entry;
        above = a.under.above;
        below = a.under.below;
        added = items_added a.under.old items a.under.list some.0 a.under.united some.1
            (new_item (entries_in old.body) a.under.front a.under.back key a.under.old some.0 a.under.entry some.2);
        short = d.short;
        after_is = ap (λ (q : Page). made_with r q.right q.body ∷ []) d.page;
      };
      page_is = refl;
      key_is = refl;
      items_are = refl;
    }
