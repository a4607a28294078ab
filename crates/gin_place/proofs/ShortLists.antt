-- A list of fewer than two bytes takes two items more at least.
use Rattle.std.proofs.Common.{◌≡◌, ◌⊎◌, ℕ, suc, ◌+◌, ◌-◌, ◌*◌, ◌<◌, ◌≤◌, List, [], ◌∷◌, length, take, drop}
use Rattle.std.proofs.Common.{refl, sym, ap, subst, inl, inr, arith}
use Rattle.std.specs.List.{Contains}
use Rattle.std.proofs.lemmas.Bool.{cases_lt}
use Rattle.std.proofs.lemmas.List.{take-append-drop, take_all, length-take-le}
use Rattle.page_types.specs.Numbers.{item_limit, most_inline}
use Rattle.page_types.specs.Items.{item_list_from, item_list, items_of, AreItemsFrom, AreItems, IsItemList}
use Rattle.page_types.specs.Laws.{HasList}
use Rattle.page_types.proofs.ItemLists.{have_lists}
use Rattle.page_types.proofs.Varbytes.{some_bytes}
use Rattle.core_state.specs.Log.{In}
use Rattle.core_state.proofs.RunningOnes.{same_or_other}
use Rattle.posting_code.specs.Uniting.{IsUnited, TakesFirst}
use Rattle.posting_code.proofs.Places.{AreItemsFrom-front}
use Rattle.posting_code.proofs.Sizing.{most_bytes, length-from}
use Rattle.posting_code.proofs.Taking.{united_no_longer}
use Rattle.gin_place.proofs.Lists.{in_list, contained}

-- ── the items of two lists in one ──

record IsWithOne (last x : ℕ) (is js : List ℕ) : Type 0 where
  rises : AreItemsFrom last js
  to : (i : ℕ) → In i js → In i is ⊎ (i ≡ x)
  from : (i : ℕ) → In i is ⊎ (i ≡ x) → In i js
  few : length js ≤ suc (length is)

with_one : (last x : ℕ) (is : List ℕ) → AreItemsFrom last is → last < x → x < item_limit
    → (js : List ℕ) × IsWithOne last x is js
with_one last x [] h above lt = (
  x ∷ [],
  record {
    rises = (above, lt, tt);
    to = λ i on. elim on [ inl e ↦ inr e | inr none ↦ absurd none ];
    from = λ i on. elim on [ inl none ↦ absurd none | inr e ↦ inl e ];
    few = omega arith;
  },
)
with_one last x (i ∷ is) h above lt =
    elim (cases_lt x i) [
      | inl before ↦ (
        x ∷ i ∷ is,
        record {
          rises = (above, lt, (before, h.1, h.2));
          to = λ j on. elim on [ inl e ↦ inr e | inr later ↦ inl later ];
          from = λ j on. elim on [ inl later ↦ inr later | inr e ↦ inl e ];
          few = omega arith;
        },
      )
      | inr le ↦ elim (cases_lt i x) [
        | inl after ↦
            let r = with_one i x is h.2 after lt in
            let w = r.1 in (
              i ∷ r.0,
              record {
                rises = (h.0, h.1, w.rises);
                to = λ j on. elim on [
                  | inl e ↦ inl (inl e)
                  | inr later ↦ elim (w.to j later) [ inl old ↦ inl (inr old) | inr new ↦ inr new ]
                ];
                from = λ j on. elim on [
                  | inl old ↦ elim old [ inl e ↦ inl e | inr later ↦ inr (w.from j (inl later)) ]
                  | inr new ↦ inr (w.from j (inr new))
                ];
                few = omega (arith, w.few);
              },
            )
        | inr ge ↦
            let same : i ≡ x = omega (arith, le, ge) in (
              i ∷ is,
              record {
                rises = h;
                to = λ j on. inl on;
                from = λ j on. elim on [ inl old ↦ old | inr e ↦ inl (omega (arith, e, same)) ];
                few = omega arith;
              },
            )
      ]
    ]

record IsBoth (is xs js : List ℕ) : Type 0 where
  rises : AreItems js
  to : (i : ℕ) → In i js → In i is ⊎ In i xs
  from : (i : ℕ) → In i is ⊎ In i xs → In i js
  few : length js ≤ length is + length xs

both : (last : ℕ) (is xs : List ℕ) → AreItems is → AreItemsFrom last xs → (js : List ℕ) × IsBoth is xs js
both last is [] h rise = (
  is,
  record {
    rises = h;
    to = λ i on. inl on;
    from = λ i on. elim on [ inl old ↦ old | inr none ↦ absurd none ];
    few = omega arith;
  },
)
both last is (x ∷ xs) h rise =
    let r = both x is xs h rise.2 in
    let b = r.1 in
    let s = with_one 0 x r.0 b.rises (omega (arith, rise.0)) rise.1 in
    let w = s.1 in (
      s.0,
      record {
        rises = w.rises;
        to = λ i on. elim (w.to i on) [
          | inl had ↦ elim (b.to i had) [ inl old ↦ inl old | inr new ↦ inr (inr new) ]
          | inr e ↦ inr (inl e)
        ];
        from = λ i on. elim on [
          | inl old ↦ w.from i (inl (b.from i (inl old)))
          | inr new ↦ elim new [ inl e ↦ w.from i (inr e) | inr later ↦ w.from i (inl (b.from i (inr later))) ]
        ];
        few = omega (arith, w.few, b.few);
      },
    )

-- ── how long its list is ──

five_each : (last : ℕ) (is : List ℕ) → AreItemsFrom last is → length (item_list_from last is) ≤ 5 * length is
five_each last [] h = omega arith
five_each last (i ∷ is) h =
    omega (arith, length-from last i is, most_bytes (i - last) (omega (arith, h.1)), five_each i is h.2)

one_each : (last : ℕ) (is : List ℕ) → length is ≤ length (item_list_from last is)
one_each last [] = omega arith
one_each last (i ∷ is) = omega (arith, length-from last i is, some_bytes (i - last), one_each i is)

few_items : (list : List ℕ) → IsItemList list → length (items_of list) ≤ length list
few_items list is = omega (arith, ap length is.encoding, one_each 0 (items_of list))

-- a list's items and others have a list, of no more than five bytes for each
united : (list items : List ℕ) → IsItemList list → AreItems items
    → (bytes : List ℕ) × IsUnited list items bytes × (length bytes ≤ 5 * (length list + length items))
united list items is rise = (
  item_list js,
  record { is_list = h.is_list; has = λ i. (λ c. to i c, λ c. from i c) },
  omega (arith, five_each 0 js w.rises, w.few, few_items list is),
)
  where
    r : (js : List ℕ) × IsBoth (items_of list) items js
    r = both 0 (items_of list) items is.items rise

    js : List ℕ
    js = r.0

    w : IsBoth (items_of list) items js
    w = r.1

    h : HasList js
    h = have_lists js w.rises

    to : (i : ℕ) → Contains (items_of (item_list js)) i → Contains (items_of list) i ⊎ Contains items i
    to i c = elim (w.to i (in_list i js (subst (λ (l : List ℕ). Contains l i) h.items_are c))) [
      | inl old ↦ inl (contained i (items_of list) old)
      | inr new ↦ inr (contained i items new)
    ]

    back : (i : ℕ) → In i js → Contains (items_of (item_list js)) i
    back i on = subst (λ (l : List ℕ). Contains l i) (sym h.items_are) (contained i js on)

    from : (i : ℕ) → Contains (items_of list) i ⊎ Contains items i → Contains (items_of (item_list js)) i
    from i (inl c) = back i (w.from i (inl (in_list i (items_of list) c)))
    from i (inr c) = back i (w.from i (inr (in_list i items c)))

-- ── what a short list takes ──

pub first_items : (n : ℕ) (items : List ℕ) → AreItems items → AreItems (take n items)
first_items n items rise =
    (AreItemsFrom-front 0 (take n items) (drop n items)
    (subst AreItems (sym (take-append-drop n items)) rise)).0

-- of two items or more one at least is not in a list with fewer
fresh_of_two : (have xs : List ℕ) → length have < 2 → 2 ≤ length xs → AreItems xs
    → (i : ℕ) × Contains xs i × (Contains have i → ⊥)
fresh_of_two have [] few two rise = absurd (omega (arith, two))
fresh_of_two have (x ∷ []) few two rise = absurd (omega (arith, two))
fresh_of_two [] (x ∷ y ∷ xs) few two rise = (x, contained x (x ∷ y ∷ xs) (inl refl), λ c. in_list x [] c)
fresh_of_two (a ∷ []) (x ∷ y ∷ xs) few two rise = elim (same_or_other x a) [
  | inl same ↦ (
    y,
    contained y (x ∷ y ∷ xs) (inr (inl refl)),
    λ c. elim (in_list y (a ∷ []) c) [ inl e ↦ omega (arith, same, e, rise.2.0) | inr none ↦ none ],
  )
  | inr other ↦ (
    x,
    contained x (x ∷ y ∷ xs) (inl refl),
    λ c. elim (in_list x (a ∷ []) c) [ inl e ↦ other e | inr none ↦ none ],
  )
]
fresh_of_two (a ∷ b ∷ have) xs few two rise = absurd (omega (arith, few))

-- a list takes so many of the items, but not all, and not all of those are in it
pub record TakesSome (list items : List ℕ) (n : ℕ) : Type 0 where
  pub some : 0 < n
  pub less : n < length items
  pub fresh : (i : ℕ) × Contains (take n items) i × (Contains (items_of list) i → ⊥)

-- so does one of fewer than two bytes that with all of them would be too long
pub short_takes : (list items all : List ℕ) (n : ℕ) → IsItemList list → length list < 2 → AreItems items
    → IsUnited list items all → most_inline < length all → TakesFirst list items most_inline n
    → TakesSome list items n
short_takes list items all n is short rise u long takes =
    record {
      some = omega (arith, many);
      less = less;
      fresh = fresh_of_two (items_of list) (take n items) (omega (arith, short, few_items list is))
          (omega (arith, many, length-take-le n items takes.among)) (first_items n items rise);
    }
  where
    less : n < length items
    less = elim (cases_lt n (length items)) [
      | inl lt ↦ lt
      | inr le ↦
          let w = united list items is rise in
          let no_longer = united_no_longer list items items all w.0 (λ i c. c) u w.1 in
          let some : 0 < n = omega (arith, takes.among, le, no_longer, w.2, long, short) in
          let fits = takes.fits all some
          (subst (λ (l : List ℕ). IsUnited list l all) (sym (take_all n items le)) u) in
          absurd (omega (arith, fits, long))
    ]

    many : 100 < n
    many =
        let w = united list (take (n + 1) items) is (first_items (n + 1) items rise) in
        let over = takes.no_more w.0 less w.1 in
        omega (arith, over, w.2, short, length-take-le (n + 1) items (omega (arith, less)))
