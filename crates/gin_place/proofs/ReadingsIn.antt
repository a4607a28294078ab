-- What a page says of items, in either tree, as a step goes by it.
use Rattle.std.proofs.Common.{◌≡◌, ◌<◌, ◌≤◌, ℕ, List, ◌∷◌, length, take, refl, sym, subst, ◌∙◌, arith}
use Rattle.page_types.specs.Views.{entries_in}
use Rattle.page_types.specs.declared.page.Page.{Page}
use Rattle.ts_base.specs.Keys.{Key}
use Rattle.core_state.specs.Index.{Main, Under, Below}
use Rattle.core_state.specs.Log.{Pages, In}
use Rattle.core_maintenance.proofs.Ways.{toward_item_below}
use Rattle.entry_tree.specs.Adding.{tree_entry}
use Rattle.posting_tree.specs.Finding.{IsFound}
use Rattle.posting_tree.specs.declared.finding.Found.TheVariants as found
use Rattle.gin_place.specs.Placing.{IsFirst}
use Rattle.gin_place.specs.Trees.{GoesDown, HasRoomIn, Leads}
use Rattle.gin_place.specs.Causes.{HasPlace}
use Rattle.gin_place.specs.Inner.Reading.{IsReading, IsRoomy, IsLongAt}
use Rattle.gin_place.specs.Inner.ReadingItems.{IsReadingOf, IsReadingIn}
use Rattle.gin_place.specs.declared.reading.Next.TheVariants as next
use Rattle.gin_place.specs.declared.reading.Reading.TheVariants as reading
use Rattle.gin_place.specs.declared.sought.Sought.{Sought}
use Rattle.gin_place.specs.declared.sought.Sought.TheVariants as sought
use Rattle.gin_place.proofs.Adding.{main_of}
use Rattle.gin_place.proofs.Lists.{in_list, contained, among}

same_item : (i j : ℕ) (xs ys : List ℕ) → ◌≡◌ {A = List ℕ} (i ∷ xs) (j ∷ ys) → i ≡ j
same_item i j xs ys e = cc

-- the way goes on to the child
pub down_in : (t : Sought) (c : Page) (k : Key) (items : List ℕ) (child : ℕ) → IsFirst items t
    → IsReadingIn t c k items (reading.On (next.Down child)) → GoesDown k t c child
down_in sought.Key c k items child first (IsReading.down ch entry is) = is
down_in (sought.Item root item) c k items child first (IsReadingOf.down i ch rest e is) =
    subst (λ (j : ℕ). IsFound c j (found.Down child)) (same_item i item rest first.0 (sym e ∙ first.1)) is

pub roomy_in : (t : Sought) (c : Page) (child : ℕ) → IsRoomy t c (reading.On (next.Down child)) → HasRoomIn t c
roomy_in t c child room = room

-- the entry of the key names a tree
pub tree_in : (t : Sought) (c : Page) (k : Key) (items : List ℕ) (root : ℕ)
    → IsReadingIn t c k items (reading.On (next.Tree root))
    → (t ≡ sought.Key) × In (tree_entry k root) (entries_in c.body)
tree_in sought.Key c k items root (IsReading.tree r on) = (refl, on)
tree_in (sought.Item r item) c k items root is = elim is [ ]

pub long_in : (t : Sought) (c : Page) (k : Key) (items : List ℕ) (place : ℕ)
    → IsReadingIn t c k items (reading.Long place) → (t ≡ sought.Key) × IsReading c k items (reading.Long place)
long_in sought.Key c k items place is = (refl, is)
long_in (sought.Item r item) c k items place is = elim is [ ]

pub is_long : (c : Page) (k items : List ℕ) (place : ℕ) → IsReading c k items (reading.Long place) → IsLongAt c k place
is_long c k items place (IsReading.long n long added fresh none) = long

-- what is sought has no place there
pub bad_in : (t : Sought) (c : Page) (k : Key) (items : List ℕ) → IsFirst items t
    → IsReadingIn t c k items (reading.On next.Bad) → HasPlace k t c → ⊥
bad_in sought.Key c k items first (IsReading.other off) has = off has.on_tree
bad_in sought.Key c k items first (IsReading.past q is) has = has.not_past q is
bad_in (sought.Item root item) c k items first (IsReadingOf.other off) has = off has.on_tree
bad_in (sought.Item root item) c k items first (IsReadingOf.past i q rest e is) has =
    has.not_past q
    (subst (λ (j : ℕ). IsFound c j (found.Right q)) (same_item i item rest first.0 (sym e ∙ first.1)) is)

-- so many items are on the page, all of them in the entry tree
pub stand_few : (t : Sought) (c : Page) (k : Key) (items : List ℕ) (n : ℕ)
    → IsReadingIn t c k items (reading.On (next.Stand n)) → n ≤ length items
stand_few sought.Key c k items n (IsReading.stand m all has) = omega (arith, all)
stand_few (sought.Item root item) c k items n (IsReadingOf.stand m is_leaf some few on) = few

pub stand_some : (t : Sought) (c : Page) (k : Key) (items : List ℕ) (n : ℕ)
    → IsReadingIn t c k items (reading.On (next.Stand n)) → n < length items → 0 < n
stand_some sought.Key c k items n (IsReading.stand m all has) less = omega (arith, all, less)
stand_some (sought.Item root item) c k items n (IsReadingOf.stand m is_leaf some few on) less = some

-- and they are under the key
pub stand_main : (P : Pages) (t : Sought) (page : ℕ) (k : Key) (items : List ℕ) (n : ℕ) → Leads P k t page
    → IsReadingIn t (P page) k items (reading.On (next.Stand n)) → (i : ℕ) → In i (take n items) → Main P k i
stand_main P sought.Key page k items n way (IsReading.stand m all has) i on =
    main_of P page k i (has i (among i n items on))
stand_main P (sought.Item root item) page k items n way (IsReadingOf.stand m is_leaf some few are_on) i on =
    let has = in_list i _ (are_on i (contained i (take n items) on)) in record {
      page = (way.0).page;
      entry = (way.0).entry;
      on = (way.0).on;
      key = (way.0).key;
      under = Under.posted root page (way.0).names (toward_item_below P root item root page Below.root way.1) has;
    }

-- items come to the page
pub added_few : (t : Sought) (c : Page) (k : Key) (items : List ℕ) (p : Page) (n : ℕ)
    → IsReadingIn t c k items (reading.Added p n) → (0 < n) × (n ≤ length items)
added_few sought.Key c k items p n (IsReading.more q m is_leaf some few added within fresh is none) = (some, few)
added_few (sought.Item root item) c k items p n (IsReadingOf.more q m some few added within fresh is) = (some, few)
