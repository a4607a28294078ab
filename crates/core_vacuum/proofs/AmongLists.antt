-- Items that are among those of another list: two lists of rising items, read side by side.
use Rattle.std.proofs.Common.{◌≡◌, ◌⊎◌, ℕ, ◌-◌, ◌<◌, List, [], ◌∷◌, length, inl, inr}
use Rattle.std.proofs.Common.{refl, sym, ap, subst, ◌∙◌, arith, Ok, Err}
use Rattle.std.specs.Prelude.{◌↔◌}
use Rattle.std.specs.List.{AllByRecursion}
use Rattle.std.proofs.lemmas.List.{length-append}
use Rattle.page_types.specs.Numbers.{item_limit}
use Rattle.page_types.specs.Keys.{Rising}
use Rattle.page_types.specs.Items.{varbyte, item_list_from, AreItemsFrom, items_of, IsItemList}
use Rattle.page_types.specs.ItemReading.{item_at}
use Rattle.page_types.proofs.ItemReading.{item_again}
use Rattle.page_types.proofs.Varbytes.{some_bytes}
use Rattle.core_state.specs.Log.{In}
use Rattle.core_state.specs.Inner.TreeItems.{IsFirstItem}
use Rattle.core_vacuum.specs.Inner.Removing.{AreAmong}

-- items that come after one are above it
above_last : (last : ℕ) (items : List ℕ) → AreItemsFrom last items → (i : ℕ) → In i items → last < i
above_last last [] h i w = absurd w
above_last last (x ∷ xs) h i (inl e) = omega (arith, h.0, e)
above_last last (x ∷ xs) h i (inr w) = omega (arith, h.0, above_last x xs h.2 i w)

pub items_rise : (last : ℕ) (items : List ℕ) → AreItemsFrom last items → Rising (λ (i j : ℕ). i < j) items
items_rise last [] h = tt
items_rise last (x ∷ xs) h = (all_above x xs (above_last x xs h.2), items_rise x xs h.2)
  where
    all_above : (x : ℕ) (xs : List ℕ) → ((i : ℕ) → In i xs → x < i) → AllByRecursion (λ (i : ℕ). x < i) xs
    all_above x [] f = tt
    all_above x (y ∷ ys) f = (f y (inl refl), all_above x ys (λ i w. f i (inr w)))

-- ---- item by item

-- these are among those
pub record Among (news olds : List ℕ) : Type 0 where
  pub each : (i : ℕ) → In i news → In i olds

other : (i : ℕ) (xs : List ℕ) (j : ℕ) → In j (i ∷ xs) → i < j → In j xs
other i xs j (inl e) lt = absurd (omega (arith, e, lt))
other i xs j (inr w) lt = w

module _ (i : ℕ) (news olds : List ℕ) where
  -- both begin with the item
  met : AreItemsFrom i news → Among (i ∷ news) (i ∷ olds) → Among news olds
  met risen a = record { each = λ j w. other i olds j (a.each j (inr w)) (above_last i news risen j w) }

  met_back : Among news olds → Among (i ∷ news) (i ∷ olds)
  met_back a = record { each = λ j w. elim w [ inl e ↦ inl e | inr v ↦ inr (a.each j v) ] }

  -- the others are all above it
  past : ((j : ℕ) → In j news → i < j) → Among news (i ∷ olds) → Among news olds
  past risen a = record { each = λ j w. other i olds j (a.each j w) (risen j w) }

  past_back : Among news olds → Among news (i ∷ olds)
  past_back a = record { each = λ j w. inr (a.each j w) }

  -- one below it is missing
  missing : (first : ℕ) → In first news → first < i → AreItemsFrom i olds → Among news (i ∷ olds) → ⊥
  missing first w lt risen a = elim (a.each first w) [
    | inl e ↦ omega (arith, e, lt)
    | inr v ↦ omega (arith, above_last i olds risen first v, lt)
  ]

none_among : (news : List ℕ) → Among news [] → news ≡ []
none_among [] a = refl
none_among (x ∷ xs) a = absurd (a.each x (inl refl))

-- ---- what is read of a list

-- what is left of a list after an item is the list of these
pub record IsLeft (last : ℕ) (bytes items : List ℕ) : Type 0 where
  pub rise : AreItemsFrom last items
  pub are : bytes ≡ item_list_from last items

all_left : (bytes : List ℕ) → IsItemList bytes → IsLeft 0 bytes (items_of bytes)
all_left bytes h = record { rise = h.items; are = h.encoding }

-- the next item is the first of them
record IsFirst (last : ℕ) (items : List ℕ) (item : ℕ) (rest : List ℕ) : Type 0 where
  behind : List ℕ
  items_are : items ≡ item ∷ behind
  above : last < item
  bound : item < item_limit
  left : IsLeft item rest behind

none_read : (last : ℕ) (x : ℕ × List ℕ) → item_at last [] ≡ Ok x → ⊥
unfolding item_at
none_read last x e = absurd cc

first_read : (last : ℕ) (bytes items : List ℕ) (item : ℕ) (rest : List ℕ) → IsLeft last bytes items
    → item_at last bytes ≡ Ok (item, rest) → IsFirst last items item rest
first_read last bytes [] item rest l e =
    absurd (none_read last (item, rest) (ap (item_at last) (sym l.are) ∙ e))
first_read last bytes (i ∷ is) item rest l e =
    let again = item_again last i (item_list_from i is) l.rise.0 l.rise.1 in
    let both : Ok (i, item_list_from i is) ≡ Ok (item, rest) = sym again ∙ ap (item_at last) (sym l.are) ∙ e in
    let pair : (i, item_list_from i is) ≡ (item, rest) = cc in
    let same : i ≡ item = ap (λ (x : ℕ × List ℕ). x.0) pair in
    let tails : item_list_from i is ≡ rest = ap (λ (x : ℕ × List ℕ). x.1) pair in
    record {
      behind = is;
      items_are = ap (λ (k : ℕ). k ∷ is) same;
      above = subst (λ (k : ℕ). last < k) same l.rise.0;
      bound = subst (λ (k : ℕ). k < item_limit) same l.rise.1;
      left = record {
        rise = subst (λ (k : ℕ). AreItemsFrom k is) same l.rise.2;
        are = sym tails ∙ ap (λ (k : ℕ). item_list_from k is) same;
      };
    }

-- where none is read there is none
none_left : (last left : ℕ) (bytes items : List ℕ) → IsLeft last bytes items → item_at last bytes ≡ Err left
    → items ≡ []
none_left last left bytes [] l e = refl
none_left last left bytes (i ∷ is) l e =
    let again = item_again last i (item_list_from i is) l.rise.0 l.rise.1 in
    let both : item_at last bytes ≡ Ok (i, item_list_from i is) = ap (item_at last) l.are ∙ again in
    absurd (cc (both, e))

no_bytes : (last : ℕ) (bytes items : List ℕ) → IsLeft last bytes items → items ≡ [] → bytes ≡ []
no_bytes last bytes items l e = l.are ∙ ap (item_list_from last) e

no_items : (last : ℕ) (bytes items : List ℕ) → IsLeft last bytes items → bytes ≡ [] → items ≡ []
no_items last bytes [] l e = refl
no_items last bytes (i ∷ is) l e = absurd (omega (
  arith,
  ap length (sym e ∙ l.are),
  length-append (varbyte (i - last)) (item_list_from i is),
  some_bytes (i - last),
))

-- the first of the items that are left, where there is one
first_left : (last : ℕ) (bytes items : List ℕ) (first : ℕ) (rest : List ℕ) → IsLeft last bytes items
    → IsFirstItem last bytes first rest → IsFirst last items first rest ⊎ ((items ≡ []) × (first ≡ item_limit))
first_left last bytes items _ _ l (IsFirstItem.found first rest e) = inl (first_read last bytes items first rest l e)
first_left last bytes items _ _ l (IsFirstItem.none at rest e) = inr (none_left last at bytes items l e, refl)

-- ---- the walk over both lists

-- what both lists have left says whether the items of one are among the other's
pub record AmongSoFar (new old left : List ℕ) (last : ℕ) (was : List ℕ) (item : ℕ) : Type 0 where
  pub news : List ℕ
  pub olds : List ℕ
  pub new_left : IsLeft last left news
  pub old_left : IsLeft item was olds
  pub same : AreAmong new old ↔ Among news olds

pub begin_walk : (new old : List ℕ) → IsItemList new → IsItemList old → AmongSoFar new old new 0 old 0
begin_walk new old h k = record {
  news = items_of new;
  olds = items_of old;
  new_left = all_left new h;
  old_left = all_left old k;
  same = (λ a. record { each = a.each }, λ a. record { each = a.each });
}

module _ (new old left : List ℕ) (last : ℕ) (was : List ℕ) (item : ℕ) (t : AmongSoFar new old left last was item)
  where
    -- at the end of the old list
    pub end_told : (at : ℕ) → item_at item was ≡ Err at → left ≡ [] → AreAmong new old
    end_told at e empty =
        let none : t.news ≡ [] = no_items last left t.news t.new_left empty in
        t.same.1 (record { each = λ i w. absurd (subst (In i) none w) })

    pub end_back : (at : ℕ) → item_at item was ≡ Err at → AreAmong new old → left ≡ []
    end_back at e w =
        let none : t.olds ≡ [] = none_left item at was t.olds t.old_left e in
        no_bytes last left t.news t.new_left (none_among t.news (subst (Among t.news) none (t.same.0 w)))

    -- where an old item is read
    module _ (next : ℕ) (behind : List ℕ) (e : item_at item was ≡ Ok (next, behind)) (first : ℕ) (rest : List ℕ)
        (f : IsFirstItem last left first rest) where
      read : IsFirst item t.olds next behind
      read = first_read item was t.olds next behind t.old_left e

      now : AreAmong new old → Among t.news (next ∷ read.behind)
      unfolding read
      now w = subst (Among t.news) read.items_are (t.same.0 w)

      then : Among t.news (next ∷ read.behind) → AreAmong new old
      unfolding read
      then w = t.same.1 (subst (Among t.news) (sym read.items_are) w)

      new_first : IsFirst last t.news first rest ⊎ ((t.news ≡ []) × (first ≡ item_limit))
      new_first = first_left last left t.news first rest t.new_left f

      -- a new one below it is missing
      pub walk_missing : first < next → AreAmong new old → ⊥
      walk_missing lt w = elim new_first [
        | inl n ↦
            missing next t.news read.behind first (subst (In first) (sym n.items_are) (inl refl)) lt read.left.rise
            (now w)
        | inr none ↦ omega (arith, none.1, lt, read.bound)
      ]

      -- a new one is the same
      pub walk_met : first ≡ next → AmongSoFar new old rest first behind next
      walk_met same = elim new_first [
        | inl n ↦
            let rise : AreItemsFrom next n.behind = subst (λ (k : ℕ). AreItemsFrom k n.behind) same n.left.rise in
            let news : t.news ≡ next ∷ n.behind = n.items_are ∙ ap (λ (k : ℕ). k ∷ n.behind) same in
            record {
              news = n.behind;
              olds = read.behind;
              new_left = n.left;
              old_left = read.left;
              same = (
                λ w. met next n.behind read.behind rise
                    (subst (λ (xs : List ℕ). Among xs (next ∷ read.behind)) news (now w)),
                λ w. then (subst (λ (xs : List ℕ). Among xs (next ∷ read.behind)) (sym news)
                    (met_back next n.behind read.behind w)),
              );
            }
        | inr none ↦ absurd (omega (arith, none.1, same, read.bound))
      ]

      -- all that are left are above it
      above : next < first → (j : ℕ) → In j t.news → next < j
      above lt j w = elim new_first [
        | inl n ↦ elim (subst (In j) n.items_are w) [
          | inl same ↦ omega (arith, lt, same)
          | inr v ↦ omega (arith, lt, above_last first n.behind n.left.rise j v)
        ]
        | inr none ↦ absurd (subst (In j) none.0 w)
      ]

      pub walk_past : next < first → AmongSoFar new old left last behind next
      walk_past lt = record {
        news = t.news;
        olds = read.behind;
        new_left = t.new_left;
        old_left = read.left;
        same = (
          λ w. past next t.news read.behind (above lt) (now w),
          λ w. then (past_back next t.news read.behind w),
        );
      }
