-- A key on a leaf whose list has fewer than two bytes, and items with which it would be too long.
use Rattle.std.proofs.Common.{◌≡◌, ℕ, ◌<◌, List, [], length, take, refl, sym, subst, inl, inr, arith}
use Rattle.std.specs.List.{Contains}
use Rattle.page_types.specs.Numbers.{most_inline}
use Rattle.page_types.specs.Items.{items_of, AreItems, IsItemList}
use Rattle.page_types.specs.Pages.{IsPage}
use Rattle.page_types.specs.declared.page.Page.{Page}
use Rattle.page_types.specs.declared.page.Body.{Body}
use Rattle.core_state.specs.Log.{In}
use Rattle.posting_code.specs.Uniting.{IsUnited, TakesFirst}
use Rattle.entry_tree.specs.Adding.{list_entry, HasNoTree, IsUnder, IsAnswer, IsAdded}
use Rattle.entry_tree.specs.Logging.{IsNewUnder}
use Rattle.entry_tree.specs.declared.adding.Added.TheVariants as added
use Rattle.gin_place.specs.Inner.Reading.{HasFresh, IsShortList}
use Rattle.gin_place.proofs.Lists.{of_first}
use Rattle.gin_place.proofs.ReadPages.{in_middle, is_here, is_absent, this_entry, item_list_here, no_tree_here}
use Rattle.gin_place.proofs.ReadPages.{fresh_here, old_here, none_here, no_tree_absent}
use Rattle.gin_place.proofs.ShortLists.{TakesSome, short_takes}

pub record IsShortOn (c : Page) (key list : List ℕ) : Type 0 where
  pub is_list : IsItemList list
  pub short : length list < 2
  pub no_tree : HasNoTree c.body key
  pub fresh : (i : ℕ) → (Contains (items_of list) i → ⊥) → IsNewUnder c.body key i
  pub old : (items : List ℕ) (u : IsUnder c.body key items) → u.old ≡ list

none_is_list : IsItemList []
unfolding items_of
none_is_list = record { items = tt; encoding = refl }

pub short_on : (c : Page) (key list : List ℕ) → IsPage c → IsShortList c key list → IsShortOn c key list
short_on c key _ page (IsShortList.none place at) =
    let h = is_absent c key place at in
    record {
      is_list = none_is_list;
      short = omega arith;
      no_tree = no_tree_absent c key page h;
      fresh = λ i off other on has. none_here c key page h (list_entry key other) on refl;
      old = λ items u. elim u.entry [
        | inl there ↦ absurd (none_here c key page h (list_entry key u.old)
            (subst (In (list_entry key u.old)) (sym there) (in_middle u.front u.back (list_entry key u.old))) refl)
        | inr none ↦ none.1
      ];
    }
short_on c key _ page (IsShortList.short place list at there few) =
    let h = is_here c key place at in
    let same = this_entry c key page place h (list_entry key list) there in
    record {
      is_list = item_list_here c key page place h (list_entry key list) list same refl;
      short = few;
      no_tree = no_tree_here c key page place h (list_entry key list) list same refl;
      fresh = λ i off. fresh_here c key page place h (list_entry key list) list same refl i off;
      old = λ items u. old_here c key page place h (list_entry key list) list same refl items u;
    }

module _ (c : Page) (key list items : List ℕ) (s : IsShortOn c key list) where
  long_answer : (all : List ℕ) (content : Body) → IsAnswer c all content added.TooLong → most_inline < length all
  long_answer all content (IsAnswer.too_long long) = long

  -- of items with which it would be too long the list takes some
  pub takes_some : (n : ℕ) → AreItems items → IsAdded c key items added.TooLong
      → TakesFirst list items most_inline n → TakesSome list items n
  takes_some n rise long takes =
      let u = long.under in
      short_takes list items u.list n s.is_list s.short rise
      (subst (λ (l : List ℕ). IsUnited l items u.list) (s.old items u) u.united) (long_answer u.list _ long.is) takes

  -- with those it is not too long
  pub not_too_long : (n : ℕ) → 0 < n → TakesFirst list items most_inline n
      → IsAdded c key (take n items) added.TooLong → ⊥
  not_too_long n some takes long =
      let u = long.under in
      let fits = takes.fits u.list some
      (subst (λ (l : List ℕ). IsUnited l (take n items) u.list) (s.old (take n items) u) u.united) in
      omega (arith, fits, long_answer u.list _ long.is)

  -- and one of them is new
  pub some_fresh : (n : ℕ) → TakesSome list items n → HasFresh c.body key (take n items)
  some_fresh n t = (t.fresh.0, t.fresh.1, s.fresh t.fresh.0 t.fresh.2)

  pub all_fresh : (n : ℕ) → TakesSome list items n → HasFresh c.body key items
  all_fresh n t = (t.fresh.0, of_first n items t.fresh.0 t.fresh.1, s.fresh t.fresh.0 t.fresh.2)
