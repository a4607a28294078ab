-- Where an item is sought among rising ones, and whether it is there.
use Rattle.std.proofs.Common.{◌≡◌, ◌↔◌, ◌⊎◌, ℕ, zero, suc, ◌+◌, ◌*◌, ◌<◌, ◌≤◌, List, [], ◌∷◌, ◌++◌, length, get_or}
use Rattle.std.proofs.Common.{refl, sym, subst, ◌∙◌, arith, inl, inr}
use Rattle.std.specs.Prelude.{◌≢◌, IsTrue, nat_eq, true, false}
use Rattle.std.specs.List.{Contains}
use Rattle.std.proofs.lemmas.Bool.{cases_lt, eqb-true}
use Rattle.std.proofs.lemmas.Bool.Decides.{eqb_tells}
use Rattle.std.proofs.lemmas.List.{get_or_append_left, get_or_push, length_push}
use Rattle.page_types.specs.Items.{AreItemsFrom, AreItems}
use Rattle.page_types.specs.Numbers.{most_slots, item_limit}
use Rattle.posting_code.specs.Inner.Windows.{IsWindow, AreStarts}

-- ---- items rise by their places

above_at : (x : ℕ) (is : List ℕ) → AreItemsFrom x is → (j : ℕ) → j < length is → x < get_or is j 0
above_at x [] h j lt = absurd (omega arith)
above_at x (y ∷ ys) h zero lt = h.0
above_at x (y ∷ ys) h (suc j) lt = omega (arith, h.0, above_at y ys h.2 j (omega arith))

rises_at : (last : ℕ) (is : List ℕ) → AreItemsFrom last is → (i j : ℕ) → i < j → j < length is
    → get_or is i 0 < get_or is j 0
rises_at last [] h i j lt within = absurd (omega arith)
rises_at last (x ∷ is) h i zero lt within = absurd (omega arith)
rises_at last (x ∷ is) h zero (suc j) lt within = above_at x is h.2 j (omega arith)
rises_at last (x ∷ is) h (suc i) (suc j) lt within = rises_at x is h.2 i j (omega arith) (omega arith)

same_at : (xs : List ℕ) (k c d : ℕ) → k < length xs → get_or xs k c ≡ get_or xs k d
same_at [] k c d lt = absurd (omega arith)
same_at (x ∷ xs) zero c d lt = refl
same_at (x ∷ xs) (suc k) c d lt = same_at xs k c d (omega arith)

-- ---- a window

module _ (items : List ℕ) (item : ℕ) where
  pub whole_window : IsWindow items item 0 (length items)
  whole_window = record {
    in_order = omega arith;
    within = omega arith;
    below = λ j lt. absurd (omega (arith, lt));
    above = λ j le lt. absurd (omega (arith, le, lt));
  }

  module _ (rise : AreItems items) (low high middle : ℕ) (w : IsWindow items item low high)
      (below_high : middle < high) where
    -- it begins after an item that is below the one that is sought
    pub begins_after : low ≤ middle → get_or items middle 0 < item → IsWindow items item (middle + 1) high
    begins_after from less = record {
      in_order = omega (arith, below_high);
      within = w.within;
      below = λ j lt. elim (cases_lt j middle) [
        | inl before ↦ omega (arith, less, rises_at 0 items rise j middle before (omega (arith, below_high, w.within)))
        | inr after ↦
            let here : j ≡ middle = omega (arith, lt, after) in
            subst (λ k. get_or items k 0 < item) (sym here) less
      ];
      above = w.above;
    }

    -- it ends with one that is not
    pub ends_at : low ≤ middle → item ≤ get_or items middle 0 → IsWindow items item low middle
    ends_at from more = record {
      in_order = from;
      within = omega (arith, below_high, w.within);
      below = w.below;
      above = λ j le lt. elim (cases_lt middle j) [
        | inl after ↦ omega (arith, more, rises_at 0 items rise middle j after lt)
        | inr before ↦
            let here : j ≡ middle = omega (arith, le, before) in
            subst (λ k. item ≤ get_or items k 0) (sym here) more
      ];
    }

  -- it begins later, where the items before that place are below too
  pub shrinks : (low high place : ℕ) → IsWindow items item low high → place ≤ high
      → ((j : ℕ) → j < place → get_or items j 0 < item) → IsWindow items item place high
  shrinks low high place w to below = record {
    in_order = to;
    within = w.within;
    below = below;
    above = w.above;
  }

  pub one_more_below : (place : ℕ) → ((j : ℕ) → j < place → get_or items j 0 < item) → get_or items place 0 < item
      → (j : ℕ) → j < place + 1 → get_or items j 0 < item
  one_more_below place before here j lt = elim (cases_lt j place) [
    | inl less ↦ before j less
    | inr from ↦
        let same : j ≡ place = omega (arith, lt, from) in
        subst (λ k. get_or items k 0 < item) (sym same) here
  ]

  -- it is one of them where the first one that is not below it is it
  module _ (place : ℕ) (w : IsWindow items item place place) where
    found : place < length items → get_or items place 0 ≡ item → Contains items item
    found lt is = (place, lt, same_at items place item 0 lt ∙ is)

    not_found : AreItems items → (place < length items → get_or items place 0 ≡ item → ⊥) → Contains items item → ⊥
    not_found rise off (k, lt, e) =
        let here : get_or items k 0 ≡ item = same_at items k 0 item lt ∙ e in
        elim (cases_lt k place) [
          | inl before ↦ absurd (omega (arith, w.below k before, here))
          | inr from ↦ elim (cases_lt place k) [
            | inl after ↦ absurd (omega (
              arith,
              w.above place (omega arith) (omega (arith, after, lt)),
              here,
              rises_at 0 items rise place k after lt,
            ))
            | inr to ↦
                let same : k ≡ place = omega (arith, from, to) in
                off (subst (λ n. n < length items) same lt) (subst (λ n. get_or items n 0 ≡ item) same here)
          ]
        ]

    pub is_found : (x : ℕ) → AreItems items → place < length items → x ≡ get_or items place 0
        → IsTrue (nat_eq x item) ↔ Contains items item
    is_found x rise lt is = (λ e. found lt (sym is ∙ eqb-true x item e), λ c. there (eqb_tells x item) c)
      where
        there : ((nat_eq x item ≡ true) × (x ≡ item)) ⊎ ((nat_eq x item ≡ false) × (x ≢ item)) → Contains items item
            → IsTrue (nat_eq x item)
        there (inl same) c = same.0
        there (inr other) c = absurd (not_found rise (λ within e. other.1 (is ∙ e)) c)

-- ---- where the items of the pages begin

pub item_small : (last : ℕ) (is : List ℕ) → AreItemsFrom last is → (j : ℕ) → j < length is → get_or is j 0 < item_limit
item_small last [] h j lt = absurd (omega (arith, lt))
item_small last (x ∷ is) h zero lt = h.1
item_small last (x ∷ is) h (suc j) lt = item_small x is h.2 j (omega (arith, lt))

pub few_items : (last : ℕ) (is : List ℕ) → last < item_limit → AreItemsFrom last is → last + length is < item_limit
few_items last [] small h = omega (arith, small)
few_items last (x ∷ is) small h = omega (arith, h.0, few_items x is h.1 h.2)

pub no_starts : (items : List ℕ) → AreStarts items []
no_starts items k lt = absurd (omega (arith, lt))

pub starts_more : (items starts : List ℕ) (page n : ℕ) → length starts ≡ page → AreStarts items starts
    → IsWindow items (page * most_slots) n n → AreStarts items (starts ++ n ∷ [])
starts_more items starts page n size are one k lt = elim (cases_lt k (length starts)) [
  | inl before ↦ subst (λ m. IsWindow items (k * most_slots) m m)
      (sym (get_or_append_left starts (n ∷ []) 0 k before)) (are k before)
  | inr from ↦
      let here : k ≡ page = omega (arith, lt, from, size, length_push starts n) in
      subst (λ j. IsWindow items (j * most_slots) (get_or (starts ++ n ∷ []) j 0) (get_or (starts ++ n ∷ []) j 0))
      (sym here)
      (subst (λ m. IsWindow items (page * most_slots) m m) (sym (get_or_push starts n 0 page size)) one)
]

-- the place is the start of a page that is not after this one, or the first of all
abbrev pub IsStart : List ℕ → ℕ → ℕ → Type 0
IsStart starts page low = (low ≡ 0) ⊎ ((k : ℕ) × (k < length starts) × (k ≤ page) × (low ≡ get_or starts k 0))

-- the place is the start of the next page, or after all items
abbrev pub IsEnd : List ℕ → List ℕ → ℕ → ℕ → Type 0
IsEnd items starts page high =
    (high ≡ length items) ⊎ ((page + 1 < length starts) × (high ≡ get_or starts (page + 1) 0))

module _ (items starts : List ℕ) (are : AreStarts items starts) (item page : ℕ) (from : page * most_slots ≤ item)
    (to : item < (page + 1) * most_slots) where
  start_below : (low : ℕ) → IsStart starts page low → (j : ℕ) → j < low → get_or items j 0 < item
  start_below low (inl none) j lt = absurd (omega (arith, lt, none))
  start_below low (inr (k, within, le, is)) j lt =
      omega (arith, (are k within).below j (omega (arith, lt, is)), le, from)

  start_within : (low : ℕ) → IsStart starts page low → low ≤ length items
  start_within low (inl none) = omega (arith, none)
  start_within low (inr (k, within, le, is)) = omega (arith, (are k within).within, is)

  end_above : (high : ℕ) → IsEnd items starts page high → (j : ℕ) → high ≤ j → j < length items
      → item ≤ get_or items j 0
  end_above high (inl all) j le lt = absurd (omega (arith, le, lt, all))
  end_above high (inr (within, is)) j le lt =
      omega (arith, (are (page + 1) within).above j (omega (arith, le, is)) lt, to)

  end_within : (high : ℕ) → IsEnd items starts page high → high ≤ length items
  end_within high (inl all) = omega (arith, all)
  end_within high (inr (within, is)) = omega (arith, (are (page + 1) within).within, is)

  pub page_window : (low high : ℕ) → IsStart starts page low → IsEnd items starts page high
      → IsWindow items item low high
  page_window low high start end = record {
    in_order = in_order (cases_lt high low);
    within = end_within high end;
    below = start_below low start;
    above = end_above high end;
  }
    where
      in_order : (high < low) ⊎ (low ≤ high) → low ≤ high
      in_order (inr le) = le
      in_order (inl lt) =
          let there : high < length items = omega (arith, lt, start_within low start) in
          absurd (omega (arith, start_below low start high lt, end_above high end high (omega arith) there))
