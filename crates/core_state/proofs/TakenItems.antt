-- A list that takes items: two lists of rising items, read side by side.
use Rattle.std.proofs.Common.{◌≡◌, ◌≢◌, ◌⊎◌, ℕ, ◌-◌, ◌<◌, Bool, true, false, List, [], ◌∷◌, length, inl, inr}
use Rattle.std.proofs.Common.{refl, sym, ap, subst, ◌∙◌, arith, Ok, Err}
use Rattle.std.specs.Prelude.{◌↔◌}
use Rattle.std.specs.List.{AllByRecursion}
use Rattle.std.proofs.lemmas.Bool.{cases_eq}
use Rattle.std.proofs.lemmas.List.{length-append}
use Rattle.page_types.specs.Numbers.{item_limit}
use Rattle.page_types.specs.Keys.{Rising}
use Rattle.page_types.specs.Items.{varbyte, item_list_from, AreItemsFrom, items_of, IsItemList}
use Rattle.page_types.specs.ItemReading.{item_at}
use Rattle.page_types.proofs.ItemReading.{item_again}
use Rattle.page_types.proofs.Varbytes.{some_bytes}
use Rattle.core_state.specs.Log.{In}
use Rattle.core_state.specs.Changes.{ItemUpTo}
use Rattle.core_state.specs.TreeRules.{ItemsAdded}
use Rattle.core_state.specs.Inner.TreeItems.{IsFirstItem, TakesItems, Takes}

-- items that come after one are above it
pub above_last : (last : ℕ) (items : List ℕ) → AreItemsFrom last items → (i : ℕ) → In i items → last < i
above_last last [] h i w = absurd w
above_last last (x ∷ xs) h i (inl e) = omega (arith, h.0, e)
above_last last (x ∷ xs) h i (inr w) = omega (arith, h.0, above_last x xs h.2 i w)

items_rise : (last : ℕ) (items : List ℕ) → AreItemsFrom last items → Rising (λ (i j : ℕ). i < j) items
items_rise last [] h = tt
items_rise last (x ∷ xs) h = (all_above x xs (above_last x xs h.2), items_rise x xs h.2)
  where
    all_above : (x : ℕ) (xs : List ℕ) → ((i : ℕ) → In i xs → x < i) → AllByRecursion (λ (i : ℕ). x < i) xs
    all_above x [] f = tt
    all_above x (y ∷ ys) f = (f y (inl refl), all_above x ys (λ i w. f i (inr w)))

-- an item is among others, or is not
is_among : (i : ℕ) (items : List ℕ) → In i items ⊎ (In i items → ⊥)
is_among i [] = inr (λ w. w)
is_among i (x ∷ xs) = elim (cases_eq i x) [
  | inl e ↦ inl (inl e)
  | inr off ↦ elim (is_among i xs) [
    | inl w ↦ inl (inr w)
    | inr none ↦ inr (λ w. elim w [ inl e ↦ off e | inr v ↦ none v ])
  ]
]

-- ---- item by item

module _ (high : ℕ) (met : Bool) (i : ℕ) (old new : List ℕ) where
  -- a member of a longer list that is another is one of the shorter
  other : (xs : List ℕ) (j : ℕ) → In j (i ∷ xs) → i ≢ j → In j xs
  other xs j (inl e) off = absurd (off (sym e))
  other xs j (inr w) off = w

  apart : (xs : List ℕ) → AreItemsFrom i xs → (j : ℕ) → In j xs → i ≢ j
  apart xs h j w e = omega (arith, above_last i xs h j w, e)

  -- both begin with the item
  pub same_shorter : AreItemsFrom i old → AreItemsFrom i new → TakesItems high met (i ∷ old) (i ∷ new)
      → TakesItems high met old new
  same_shorter rose risen t = record {
    kept = λ j w. other new j (t.kept j (inr w)) (apart old rose j w);
    more = elim t.more [
      | inl e ↦ inl e
      | inr w ↦ inr (w.0, other new w.0 w.1 (λ e. w.2 (inl (sym e))), λ v. w.2 (inr v))
    ];
    within = λ j w none. t.within j (inr w)
        (λ v. elim v [ inl e ↦ apart new risen j w (sym e) | inr u ↦ none u ]);
  }

  pub same_longer : TakesItems high met old new → AreItemsFrom i new → TakesItems high met (i ∷ old) (i ∷ new)
  same_longer t risen = record {
    kept = λ j w. elim w [ inl e ↦ inl e | inr v ↦ inr (t.kept j v) ];
    more = elim t.more [
      | inl e ↦ inl e
      | inr w ↦ inr (w.0, inr w.1, λ v. elim v [ inl e ↦ apart new risen w.0 w.1 (sym e) | inr u ↦ w.2 u ])
    ];
    within = λ j w none. elim w [ inl e ↦ absurd (none (inl e)) | inr v ↦ t.within j v (λ u. none (inr u)) ];
  }

  -- the item is below all old ones
  pub new_shorter : ((j : ℕ) → In j old → i < j) → TakesItems high met old (i ∷ new)
      → ItemUpTo i high × TakesItems high true old new
  new_shorter rose t = (
    t.within i (inl refl) (λ w. omega (arith, rose i w)),
    record {
      kept = λ j w. other new j (t.kept j w) (λ e. omega (arith, rose j w, e));
      more = inl refl;
      within = λ j w. t.within j (inr w);
    },
  )

  pub new_longer : ((j : ℕ) → In j old → i < j) → ItemUpTo i high → TakesItems high true old new
      → TakesItems high met old (i ∷ new)
  new_longer rose up t = record {
    kept = λ j w. inr (t.kept j w);
    more = inr (i, inl refl, λ w. omega (arith, rose i w));
    within = λ j w none. elim w [
      | inl e ↦ subst (λ (k : ℕ). ItemUpTo k high) (sym e) up
      | inr v ↦ t.within j v none
    ];
  }

  -- an old item below it is missing
  pub old_missing : (first : ℕ) → In first old → first < i → AreItemsFrom i new → TakesItems high met old (i ∷ new)
      → ⊥
  old_missing first w lt risen t = elim (t.kept first w) [
    | inl e ↦ omega (arith, e, lt)
    | inr v ↦ omega (arith, above_last i new risen first v, lt)
  ]

-- at the end of the new list
pub end_told : (high : ℕ) (old : List ℕ) → old ≡ [] → TakesItems high true old []
end_told high old e = record {
  kept = λ j w. subst (In j) e w;
  more = inl refl;
  within = λ j w. absurd w;
}

pub end_back : (high : ℕ) (met : Bool) (old : List ℕ) → TakesItems high met old [] → (met ≡ true) × (old ≡ [])
end_back high met old t = (
  elim t.more [ inl e ↦ e | inr w ↦ absurd w.1 ],
  none old (λ j w. t.kept j w),
)
  where
    none : (xs : List ℕ) → ((j : ℕ) → In j xs → ⊥) → xs ≡ []
    none [] f = refl
    none (x ∷ xs) f = absurd (f x (inl refl))

-- ---- what is read of a list

-- what is left of a list after an item is the list of these
pub record IsLeft (last : ℕ) (bytes items : List ℕ) : Type 0 where
  pub rise : AreItemsFrom last items
  pub are : bytes ≡ item_list_from last items

pub all_left : (bytes : List ℕ) → IsItemList bytes → IsLeft 0 bytes (items_of bytes)
all_left bytes h = record { rise = h.items; are = h.encoding }

-- the next item is the first of them
pub record IsFirst (last : ℕ) (items : List ℕ) (item : ℕ) (rest : List ℕ) : Type 0 where
  pub behind : List ℕ
  pub items_are : items ≡ item ∷ behind
  pub above : last < item
  pub left : IsLeft item rest behind

none_read : (last : ℕ) (x : ℕ × List ℕ) → item_at last [] ≡ Ok x → ⊥
unfolding item_at
none_read last x e = absurd cc

pub first_read : (last : ℕ) (bytes items : List ℕ) (item : ℕ) (rest : List ℕ) → IsLeft last bytes items
    → item_at last bytes ≡ Ok (item, rest) → IsFirst last items item rest
first_read last bytes [] item rest l e =
    absurd (none_read last (item, rest) (ap (item_at last) (sym l.are) ∙ e))
first_read last bytes (i ∷ is) item rest l e =
    let again = item_again last i (item_list_from i is) l.rise.0 l.rise.1 in
    let both : Ok (i, item_list_from i is) ≡ Ok (item, rest) = sym again ∙ ap (item_at last) (sym l.are) ∙ e in
    let pair : (i, item_list_from i is) ≡ (item, rest) = cc in
    let same : i ≡ item = ap (λ (x : ℕ × List ℕ). x.0) pair in
    let tails : item_list_from i is ≡ rest = ap (λ (x : ℕ × List ℕ). x.1) pair in
    record {
      behind = is;
      items_are = ap (λ (k : ℕ). k ∷ is) same;
      above = subst (λ (k : ℕ). last < k) same l.rise.0;
      left = record {
        rise = subst (λ (k : ℕ). AreItemsFrom k is) same l.rise.2;
        are = sym tails ∙ ap (λ (k : ℕ). item_list_from k is) same;
      };
    }

-- where none is read there is none
pub none_left : (last left : ℕ) (bytes items : List ℕ) → IsLeft last bytes items → item_at last bytes ≡ Err left
    → items ≡ []
none_left last left bytes [] l e = refl
none_left last left bytes (i ∷ is) l e =
    let again = item_again last i (item_list_from i is) l.rise.0 l.rise.1 in
    let both : item_at last bytes ≡ Ok (i, item_list_from i is) = ap (item_at last) l.are ∙ again in
    absurd (cc (both, e))

pub no_bytes : (last : ℕ) (bytes items : List ℕ) → IsLeft last bytes items → items ≡ [] → bytes ≡ []
no_bytes last bytes items l e = l.are ∙ ap (item_list_from last) e

pub no_items : (last : ℕ) (bytes items : List ℕ) → IsLeft last bytes items → bytes ≡ [] → items ≡ []
no_items last bytes [] l e = refl
no_items last bytes (i ∷ is) l e = absurd (omega (
  arith,
  ap length (sym e ∙ l.are),
  length-append (varbyte (i - last)) (item_list_from i is),
  some_bytes (i - last),
))

-- the first of the old items that are left, where there is one
first_old : (last : ℕ) (was olds : List ℕ) (first : ℕ) (left : List ℕ) → IsLeft last was olds
    → IsFirstItem last was first left → IsFirst last olds first left ⊎ ((olds ≡ []) × (first ≡ item_limit))
first_old last was olds _ _ l (IsFirstItem.found first left e) = inl (first_read last was olds first left l e)
first_old last was olds _ _ l (IsFirstItem.none at left e) = inr (none_left last at was olds l e, refl)

-- ---- the walk over both lists

-- what both lists have left says whether one takes the other's
pub record TakesSoFar (high : ℕ) (old new was : List ℕ) (last : ℕ) (rest : List ℕ) (item : ℕ)
    (more : Bool) : Type 0 where
  pub olds : List ℕ
  pub news : List ℕ
  pub old_left : IsLeft last was olds
  pub new_left : IsLeft item rest news
  pub same : Takes high old new ↔ TakesItems high more olds news

pub takes_begin : (high : ℕ) (old new : List ℕ) → IsItemList old → IsItemList new
    → TakesSoFar high old new old 0 new 0 false
takes_begin high old new h k = record {
  olds = items_of old;
  news = items_of new;
  old_left = all_left old h;
  new_left = all_left new k;
  same = (λ t. t, λ t. t);
}

pub takes_none : (high : ℕ) (old new was : List ℕ) (last : ℕ) (rest : List ℕ) (item : ℕ) (more : Bool)
    → TakesSoFar high old new was last rest item more → (left : ℕ) → item_at item rest ≡ Err left
    → Takes high old new → (more ≡ true) × (was ≡ [])
takes_none high old new was last rest item more t left e w =
    let none : t.news ≡ [] = none_left item left rest t.news t.new_left e in
    let b = end_back high more t.olds (subst (TakesItems high more t.olds) none (t.same.0 w)) in
    (b.0, no_bytes last was t.olds t.old_left b.1)

pub none_takes : (high : ℕ) (old new was : List ℕ) (last : ℕ) (rest : List ℕ) (item : ℕ) (more : Bool)
    → TakesSoFar high old new was last rest item more → (left : ℕ) → item_at item rest ≡ Err left → more ≡ true
    → was ≡ [] → Takes high old new
none_takes high old new was last rest item more t left e met empty =
    let none : t.news ≡ [] = none_left item left rest t.news t.new_left e in
    let here : TakesItems high true t.olds [] = end_told high t.olds (no_items last was t.olds t.old_left empty) in
    t.same.1 (subst (λ (b : Bool). TakesItems high b t.olds t.news) (sym met)
    (subst (TakesItems high true t.olds) (sym none) here))

-- where a new item is read
module _ (high : ℕ) (old new was : List ℕ) (last : ℕ) (rest : List ℕ) (item : ℕ) (more : Bool)
    (t : TakesSoFar high old new was last rest item more) (next : ℕ) (behind : List ℕ)
    (e : item_at item rest ≡ Ok (next, behind)) (first : ℕ) (left : List ℕ) (f : IsFirstItem last was first left) where
  read : IsFirst item t.news next behind
  read = first_read item rest t.news next behind t.new_left e

  now : Takes high old new → TakesItems high more t.olds (next ∷ read.behind)
  unfolding read
  now w = subst (TakesItems high more t.olds) read.items_are (t.same.0 w)

  then : TakesItems high more t.olds (next ∷ read.behind) → Takes high old new
  unfolding read
  then w = t.same.1 (subst (TakesItems high more t.olds) (sym read.items_are) w)

  small : next < item_limit
  unfolding read
  small = (subst (AreItemsFrom item) read.items_are t.new_left.rise).1

  old_first : IsFirst last t.olds first left ⊎ ((t.olds ≡ []) × (first ≡ item_limit))
  old_first = first_old last was t.olds first left t.old_left f

  -- an old one below it is missing
  pub takes_missing : first < next → Takes high old new → ⊥
  takes_missing lt w = elim old_first [
    | inl o ↦
        old_missing high more next t.olds read.behind first (subst (In first) (sym o.items_are) (inl refl)) lt
        read.left.rise (now w)
    | inr none ↦ omega (arith, none.1, lt, small)
  ]

  -- an old one is the same
  pub takes_met : first ≡ next → TakesSoFar high old new left first behind next more
  takes_met same = elim old_first [
    | inl o ↦
        let rise : AreItemsFrom next o.behind = subst (λ (k : ℕ). AreItemsFrom k o.behind) same o.left.rise in
        let olds : t.olds ≡ next ∷ o.behind = o.items_are ∙ ap (λ (k : ℕ). k ∷ o.behind) same in
        record {
          olds = o.behind;
          news = read.behind;
          old_left = o.left;
          new_left = read.left;
          same = (
            λ w. same_shorter high more next o.behind read.behind rise read.left.rise
                (subst (λ (xs : List ℕ). TakesItems high more xs (next ∷ read.behind)) olds (now w)),
            λ w. then (subst (λ (xs : List ℕ). TakesItems high more xs (next ∷ read.behind)) (sym olds)
                (same_longer high more next o.behind read.behind w read.left.rise)),
          );
        }
    | inr none ↦ absurd (omega (arith, none.1, same, small))
  ]

  -- those that are left are above it
  above : next < first → (j : ℕ) → In j t.olds → next < j
  above lt j w = elim old_first [
    | inl o ↦ elim (subst (In j) o.items_are w) [
      | inl same ↦ omega (arith, lt, same)
      | inr v ↦ omega (arith, lt, above_last first o.behind o.left.rise j v)
    ]
    | inr none ↦ absurd (subst (In j) none.0 w)
  ]

  pub takes_beyond : next < first → Takes high old new → ItemUpTo next high
  takes_beyond lt w = (new_shorter high more next t.olds read.behind (above lt) (now w)).0

  pub takes_more : next < first → ItemUpTo next high → TakesSoFar high old new was last behind next true
  takes_more lt up = record {
    olds = t.olds;
    news = read.behind;
    old_left = t.old_left;
    new_left = read.left;
    same = (
      λ w. (new_shorter high more next t.olds read.behind (above lt) (now w)).1,
      λ w. then (new_longer high more next t.olds read.behind (above lt) up w),
    );
  }

-- ---- and what is asked of items that are added

pub added_by : (high : ℕ) (old new : List ℕ) → IsItemList new → Takes high old new
    → (items : List ℕ) × ItemsAdded old new items × ((i : ℕ) → In i items → ItemUpTo i high)
added_by high old new h t =
    let beside = not_among (items_of old) (items_of new) in (
      beside.0,
      record {
        rises = items_rise 0 (items_of new) h.items;
        just = λ i. (
          λ w. elim (is_among i (items_of old)) [ inl v ↦ inl v | inr none ↦ inr ((beside.1 i).1 (w, none)) ],
          λ w. elim w [ inl v ↦ t.kept i v | inr v ↦ ((beside.1 i).0 v).0 ],
        );
        adds = elim t.more [
          | inl e ↦ absurd (cc (e))
          | inr w ↦ (w.0, (beside.1 w.0).1 (w.1, w.2), w.2)
        ];
      },
      λ i w. let v = (beside.1 i).0 w in t.within i v.0 v.1,
    )
  where
    -- those of some items that are not among others
    not_among : (old new : List ℕ) → (items : List ℕ) × ((i : ℕ) → In i items ↔ (In i new × (In i old → ⊥)))
    not_among old [] = ([], λ i. (λ w. absurd w, λ w. w.0))
    not_among old (x ∷ xs) =
        let rest = not_among old xs in
        elim (is_among x old) [
          | inl there ↦ (
            rest.0,
            λ i. (
              λ w. let v = (rest.1 i).0 w in (inr v.0, v.1),
              λ w. elim w.0 [
                | inl e ↦ absurd (w.1 (subst (λ (k : ℕ). In k old) (sym e) there))
                | inr v ↦ (rest.1 i).1 (v, w.1)
              ],
            ),
          )
          | inr none ↦ (
            x ∷ rest.0,
            λ i. (
              λ w. elim w [
                | inl e ↦ (inl e, subst (λ (k : ℕ). In k old → ⊥) (sym e) none)
                | inr v ↦ let u = (rest.1 i).0 v in (inr u.0, u.1)
              ],
              λ w. elim w.0 [ inl e ↦ inl e | inr v ↦ inr ((rest.1 i).1 (v, w.1)) ],
            ),
          )
        ]

pub by_added : (high : ℕ) (old new items : List ℕ) → ItemsAdded old new items
    → ((i : ℕ) → In i items → ItemUpTo i high) → Takes high old new
by_added high old new items a up = record {
  kept = λ i w. (a.just i).1 (inl w);
  more = inr (a.adds.0, (a.just a.adds.0).1 (inr a.adds.1), a.adds.2);
  within = λ i w none. elim ((a.just i).0 w) [ inl v ↦ absurd (none v) | inr v ↦ up i v ];
}
