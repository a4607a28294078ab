-- A leaf with items added under a key: how many bytes it has, and that it has an encoding.
use Rattle.std.proofs.Common.{◌≡◌, ℕ, suc, ◌+◌, ◌*◌, ◌<◌, ◌≤◌, Bool, true, false, List, [], ◌∷◌, ◌++◌, length, take}
use Rattle.std.proofs.Common.{drop, refl, sym, ap, subst, ◌∙◌, inl, inr, arith}
use Rattle.std.specs.Prelude.{Some, Result, Ok, Err, IfOk}
use Rattle.std.specs.List.{slice_get, flat_map}
use Rattle.std.proofs.lemmas.List.{length-append, length-map, take-append-drop}
use Rattle.std.proofs.lemmas.List.Concat.{flat_map-append}
use Rattle.std.proofs.lemmas.Option.{slice_get_within}
use Rattle.page_types.specs.Numbers.{most_inline, most_body}
use Rattle.page_types.specs.Items.{items_of, IsItemList}
use Rattle.page_types.specs.Keys.{IsKey, KeyLess}
use Rattle.page_types.specs.Pages.{IsPage, IsBody, IsEntry, AreEntries}
use Rattle.page_types.specs.Encoding.{entry_bytes, high_key_bytes, body_bytes}
use Rattle.page_types.specs.Views.{entries_in}
use Rattle.page_types.specs.declared.page.Page.{Page}
use Rattle.page_types.specs.declared.page.Entry.{Entry}
use Rattle.page_types.specs.declared.page.Postings.{Postings}
use Rattle.page_types.specs.declared.page.Postings.TheVariants.{Inline, Root}
use Rattle.page_types.specs.declared.page.Body.{Body}
use Rattle.page_types.specs.declared.page.Body.TheVariants as body
use Rattle.page_types.proofs.BodySizes.{length-entry_bytes, length-inline}
use Rattle.core_state.specs.Log.{In}
use Rattle.core_state.specs.TreeRules.{IsEntryBetween}
use Rattle.posting_code.specs.Uniting.{IsUnited}
use Rattle.entry_tree.specs.Reading.{upper_in}
use Rattle.entry_tree.specs.Inner.Searching.{keys_of, IsBetween}
use Rattle.entry_tree.specs.Inner.Spots.{entries_after, entries_with, AreAround, IsSpot, leaf_at, IsPlace}
use Rattle.entry_tree.specs.Inner.Spots.{entries_put, leaf_put}
use Rattle.entry_tree.specs.Adding.{IsEntryLeaf, list_entry, tree_entry, IsUnder, leaf_with, IsAnswer, IsAdded}
use Rattle.entry_tree.specs.declared.adding.Added.TheVariants as added
use Rattle.entry_tree.proofs.FoundPlaces.{around, all_there}
use Rattle.entry_tree.proofs.Reached.{before_less, from_greater}
use Rattle.entry_tree.proofs.EntryLists.{in_there, after_greater, with_postings_at, around_are}

-- another fact of what is answered
pub ok_more : {A E : Type 0} (P Q : A → Type 0) (r : Result A E) → ((a : A) → P a → Q a) → IfOk r P → IfOk r Q
ok_more P Q (Ok a) more h = more a h
ok_more P Q (Err e) more h = tt

-- the entries of a leaf
pub leaf_entries : (p : Page) → IsPage p → IsEntryLeaf p.body → AreEntries (entries_in p.body)
leaf_entries p is on = of_leaf p.body is.body on
  where
    of_leaf : (b : Body) → IsBody p.right p.stamp b → IsEntryLeaf b → AreEntries (entries_in b)
    of_leaf _ on (IsEntryLeaf.leaf high entries) = on.1

-- ---- how many bytes entries have

abbrev pub fields : List Entry → List ℕ
fields entries = flat_map entry_bytes entries

fields_both : (front back : List Entry)
    → length (fields (front ++ back)) ≡ length (fields front) + length (fields back)
fields_both front back =
    ap length (flat_map-append entry_bytes front back) ∙ length-append (fields front) (fields back)

pub fields_with : (front back : List Entry) (e : Entry)
    → length (fields (front ++ e ∷ back)) ≡ length (fields (front ++ back)) + length (entry_bytes e)
fields_with front back e = omega
    (arith, fields_both front (e ∷ back), fields_both front back, length-append (entry_bytes e) (fields back))

pub list_size : (key list : List ℕ) → length (entry_bytes (list_entry key list)) ≡ 5 + length key + length list
list_size key list = omega (arith, length-entry_bytes (list_entry key list), length-inline list)

pub many_fields : (entries : List Entry) → 2 * length entries ≤ length (fields entries)
many_fields [] = omega arith
many_fields (e ∷ entries) =
    omega (arith, length-append (entry_bytes e) (fields entries), length-entry_bytes e, many_fields entries)

pub leaf_size : (high : List ℕ) (entries : List Entry)
    → length (body_bytes (body.EntryLeaf high entries)) ≡ length (high_key_bytes high) + length (fields entries)
leaf_size high entries = length-append (high_key_bytes high) (fields entries)

pub entries_size : (high : List ℕ) (front back : List Entry) (key list : List ℕ)
    → length (body_bytes (body.EntryLeaf high (front ++ list_entry key list ∷ back)))
    ≡ length (body_bytes (body.EntryLeaf high (front ++ back))) + (5 + length key + length list)
entries_size high front back key list = omega (
  arith,
  leaf_size high (front ++ list_entry key list ∷ back),
  leaf_size high (front ++ back),
  fields_with front back (list_entry key list),
  list_size key list,
)

-- ---- the key's place

-- nothing has the key at a place where no list of it is, and no tree
no_entry : (entries : List Entry) (key : List ℕ) (place : ℕ) (k : List ℕ) (p : Postings)
    → ((list : List ℕ) → slice_get entries place ≡ Some (list_entry key list) → ⊥)
    → ((root : ℕ) → In (tree_entry key root) entries → ⊥)
    → slice_get entries place ≡ Some (record { key = k; postings = p }) → k ≡ key → ⊥
no_entry entries key place k (Inline list) none no_tree at is =
    none list (at ∙ ap (λ (l : List ℕ). Some (list_entry l list)) is)
no_entry entries key place k (Root root) none no_tree at is =
    no_tree root (in_there entries place (tree_entry key root) (at ∙ ap (λ (l : List ℕ). Some (tree_entry l root)) is))

pub spot_here : (entries : List Entry) (key list : List ℕ) (place : ℕ) → AreEntries entries
    → IsBetween key (keys_of entries) place place → slice_get entries place ≡ Some (list_entry key list)
    → IsSpot entries key place true list
spot_here entries key list place are w at =
    IsSpot.here list at (record {
      above = before_less entries key place w;
      below = λ e on. after_greater (λ (c d : Entry). KeyLess c.key d.key) entries place (list_entry key list) e
          are.rising at on;
    })

pub spot_absent : (entries : List Entry) (key : List ℕ) (place : ℕ) → AreEntries entries
    → IsBetween key (keys_of entries) place place
    → ((list : List ℕ) → slice_get entries place ≡ Some (list_entry key list) → ⊥)
    → ((root : ℕ) → In (tree_entry key root) entries → ⊥) → IsSpot entries key place false []
spot_absent entries key place are w none no_tree =
    let size : length (keys_of entries) ≡ length entries = length-map entries (λ (d : Entry). d.key) in
    IsSpot.absent (omega (arith, w.within, size)) (record {
      above = before_less entries key place w;
      below = from_greater entries key place are w
          (λ d. no_entry entries key place d.0.key d.0.postings none no_tree d.1 d.2);
    })

no_items : IsItemList []
unfolding items_of
no_items = record { items = tt; encoding = refl }

-- an entry's list is a list, and so are no bytes
pub spot_list : (entries : List Entry) (key old : List ℕ) (place : ℕ) (there : Bool) → AreEntries entries
    → IsSpot entries key place there old → IsItemList old
spot_list entries key _ place _ are (IsSpot.here list at a) =
    (all_there IsEntry entries place (list_entry key list) are.each at).postings.1
spot_list entries key _ place _ are (IsSpot.absent le a) = no_items

pub spot_entry : (entries : List Entry) (key old : List ℕ) (place : ℕ) (there : Bool)
    → IsSpot entries key place there old
    → IsEntryBetween entries (take place entries) (entries_after entries place there) key old
spot_entry entries key _ place _ (IsSpot.here list at a) = inl (sym (around entries place (list_entry key list) at))
spot_entry entries key _ place _ (IsSpot.absent le a) = inr (sym (take-append-drop place entries), refl)

pub spot_around : (entries : List Entry) (key old : List ℕ) (place : ℕ) (there : Bool)
    → IsSpot entries key place there old → AreAround entries key place there
spot_around entries key _ place _ (IsSpot.here list at a) = a
spot_around entries key _ place _ (IsSpot.absent le a) = a

-- the key there, with its new list
abbrev pub under_at : (content : Body) (key items old list : List ℕ) (place : ℕ) (there : Bool)
    → IsSpot (entries_in content) key place there old → IsUnited old items list → IsUnder content key items
under_at content key items old list place there spot united = record {
  front = take place (entries_in content);
  back = entries_after (entries_in content) place there;
  old = old;
  list = list;
  entry = spot_entry (entries_in content) key old place there spot;
  above = (spot_around (entries_in content) key old place there spot).above;
  below = (spot_around (entries_in content) key old place there spot).below;
  united = united;
}

-- ---- the list at that place

pub spot_place : (entries : List Entry) (key old : List ℕ) (place : ℕ) (there : Bool)
    → IsSpot entries key place there old → IsPlace entries place there
spot_place entries key _ place _ (IsSpot.here list at a) = slice_get_within entries place (list_entry key list) at
spot_place entries key _ place _ (IsSpot.absent le a) = le

pub list_put : (entries : List Entry) (key old list : List ℕ) (place : ℕ) (there : Bool)
    → IsSpot entries key place there old
    → entries_put entries place there (list_entry key list) ≡ entries_with entries key place there list
list_put entries key _ list place _ (IsSpot.here l at a) =
    with_postings_at entries place (list_entry key l) (Inline list) at
list_put entries key _ list place _ (IsSpot.absent le a) = refl

-- the body with another list in the key's entry
pub here_size : (content : Body) (key old list : List ℕ) (place : ℕ) (there : Bool) → IsEntryLeaf content
    → IsSpot (entries_in content) key place there old → there ≡ true
    → length (body_bytes (leaf_at content key place there list)) + length old
    ≡ length (body_bytes content) + length list
here_size _ key _ list place _ (IsEntryLeaf.leaf high entries) (IsSpot.here old at a) e =
    omega (
      arith,
      ap (λ (es : List Entry). length (body_bytes (body.EntryLeaf high es)))
          (around entries place (list_entry key old) at),
      entries_size high (take place entries) (drop (suc place) entries) key list,
      entries_size high (take place entries) (drop (suc place) entries) key old,
    )
here_size _ key _ list place _ is (IsSpot.absent le a) e = absurd cc

-- the body with an entry of the key more
pub new_size : (content : Body) (key old list : List ℕ) (place : ℕ) (there : Bool) → IsEntryLeaf content
    → IsSpot (entries_in content) key place there old → there ≡ false
    → length (body_bytes (leaf_at content key place there list))
    ≡ length (body_bytes content) + (5 + length key + length list)
new_size _ key _ list place _ is (IsSpot.here old at a) e = absurd cc
new_size _ key _ list place _ (IsEntryLeaf.leaf high entries) (IsSpot.absent le a) e = omega (
  arith,
  ap (λ (es : List Entry). length (body_bytes (body.EntryLeaf high es))) (take-append-drop place entries),
  entries_size high (take place entries) (drop place entries) key list,
)

-- ---- what is answered

pub added_long : (p : Page) (key items old list : List ℕ) (place : ℕ) (there : Bool)
    → IsSpot (entries_in p.body) key place there old → IsUnited old items list → most_inline < length list
    → IsAdded p key items added.TooLong
added_long p key items old list place there spot united long =
    record { under = under_at p.body key items old list place there spot united; is = IsAnswer.too_long long }

pub added_full : (p : Page) (key items old list : List ℕ) (place : ℕ) (there : Bool)
    → IsSpot (entries_in p.body) key place there old → IsUnited old items list → length list ≤ most_inline
    → most_body < length (body_bytes (leaf_at p.body key place there list)) → IsAdded p key items added.Full
added_full p key items old list place there spot united short more =
    record { under = under_at p.body key items old list place there spot united; is = IsAnswer.full short more }

pub added_done : (p q : Page) (key items old list : List ℕ) (place : ℕ) (there : Bool)
    → IsSpot (entries_in p.body) key place there old → IsUnited old items list → length list ≤ most_inline
    → length (body_bytes (leaf_at p.body key place there list)) ≤ most_body
    → q ≡ record p { body = leaf_put p.body place there (list_entry key list) } → IsAdded p key items (added.Done q)
added_done p q key items old list place there spot united short fits made =
    let e : q ≡ record p { body = leaf_at p.body key place there list } =
    made ∙ ap (λ (es : List Entry). record p { body = body.EntryLeaf (upper_in p.body) es })
    (list_put (entries_in p.body) key old list place there spot) in
    record {
      under = under_at p.body key items old list place there spot united;
      is = subst (λ (r : Page). IsAnswer p list (leaf_at p.body key place there list) (added.Done r)) (sym e)
          (IsAnswer.done short fits);
    }

-- ---- the page

-- a page that is answered has just that content, and it fits
pub record IsDone (p : Page) (list : List ℕ) (content : Body) (q : Page) : Type 0 where
  pub page : q ≡ record p { body = content }
  pub short : length list ≤ most_inline
  pub fits : length (body_bytes content) ≤ most_body

pub done_page : (p : Page) (list : List ℕ) (content : Body) (q : Page) → IsAnswer p list content (added.Done q)
    → IsDone p list content q
done_page p list content _ (IsAnswer.done short fits) = record { page = refl; short = short; fits = fits }

body_with : (right stamp : ℕ) (content : Body) (key items : List ℕ) → IsEntryLeaf content
    → (u : IsUnder content key items) → IsBody right stamp content → IsKey key → length u.list ≤ most_inline
    → IsBody right stamp (leaf_with u)
body_with right stamp _ key items (IsEntryLeaf.leaf high entries) u b is short = (
  b.0,
  around_are entries u.front u.back key u.old u.list b.1 u.entry u.above u.below
      (record { key = is; postings = (short, u.united.is_list) }),
)

pub added_page : (p q : Page) (key items : List ℕ) → IsPage p → IsEntryLeaf p.body → IsKey key
    → IsAdded p key items (added.Done q) → IsPage q
added_page p q key items page of_leaf is a =
    let d = done_page p a.under.list (leaf_with a.under) q a.is in
    let made : IsPage (record p { body = leaf_with a.under }) = record {
      right = page.right;
      stamp = page.stamp;
      body = body_with p.right p.stamp p.body key items of_leaf a.under page.body is d.short;
      count = omega (
        arith,
        d.fits,
        leaf_size (upper_in p.body) (a.under.front ++ list_entry key a.under.list ∷ a.under.back),
        many_fields (a.under.front ++ list_entry key a.under.list ∷ a.under.back),
      );
      fits = d.fits;
    } in
    subst IsPage (sym d.page) made
