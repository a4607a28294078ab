-- Items of a list and others, each once, written one after the other.
use Rattle.std.proofs.Common.{◌≡◌, ◌≢◌, ◌⊎◌, ◌↔◌, ℕ, zero, suc, ◌+◌, ◌-◌, ◌<◌, ◌≤◌, List, [], ◌∷◌, ◌++◌, length, take}
use Rattle.std.proofs.Common.{drop, get_or, max, refl, sym, ap, subst, ◌∙◌, append_assoc, arith, inl, inr}
use Rattle.std.specs.List.{AllByRecursion, Contains}
use Rattle.std.proofs.lemmas.List.{append-nil, length-append, drop_more, take_more, take_all, take-take, take_at}
use Rattle.std.proofs.lemmas.List.Elements.{Contains-append_left, Contains-append_right, Contains-append_cases}
use Rattle.std.proofs.lemmas.List.Elements.{Contains-push, Contains-push_cases}
use Rattle.page_types.specs.Numbers.{item_limit}
use Rattle.page_types.specs.Items.{varbyte, item_list_from, item_list, AreItemsFrom, AreItems, items_of, IsItemList}
use Rattle.page_types.specs.ItemReading.{last_or}
use Rattle.page_types.proofs.ItemReading.{is_list}
use Rattle.posting_code.specs.Uniting.{IsUnited}
use Rattle.posting_code.specs.Inner.Places.{items_left, IsListAfter, Passes}
use Rattle.posting_code.proofs.Places.{whole_place, AreItemsFrom-front, AreItemsFrom-join, item_list_from-append}
use Rattle.posting_code.proofs.Places.{run_place}

pub last_or-append : (last : ℕ) (front back : List ℕ) → last_or last (front ++ back) ≡ last_or (last_or last front) back
last_or-append last [] back = refl
last_or-append last (i ∷ front) back = last_or-append i front back

pub AreItemsFrom-lower : (low last : ℕ) (is : List ℕ) → low ≤ last → AreItemsFrom last is → AreItemsFrom low is
AreItemsFrom-lower low last [] le h = tt
AreItemsFrom-lower low last (i ∷ is) le h = (omega (arith, h.0), h.1, h.2)

last_below : (last bound : ℕ) (front : List ℕ) → last < bound → AllByRecursion (λ i. i < bound) front
    → last_or last front < bound
last_below last bound [] lt h = lt
last_below last bound (i ∷ front) lt h = last_below i bound front h.0 h.1

last_rises : (last : ℕ) (front : List ℕ) → AreItemsFrom last front → last ≤ last_or last front
last_rises last [] h = omega arith
last_rises last (i ∷ front) h = omega (arith, h.0, last_rises i front h.2)

-- the later of both ends is the end of the items that were passed
pub later_end : (before last last' m : ℕ) (front : List ℕ) → before ≤ last → AreItemsFrom last front
    → last' ≡ last_or before front → m ≡ max last last' → m ≡ last_or last front
later_end before last last' m [] low h e is = omega (arith, e, is, low)
later_end before last last' m (i ∷ front) low h e is = omega (arith, e, is, h.0, last_rises i front h.2)

-- whoever has the members of both has one item more where both get it
pub one_more : (w l o t : List ℕ) (x : ℕ) → ((i : ℕ) → Contains (w ++ l) i ↔ (Contains o i ⊎ Contains t i)) → (i : ℕ)
    → Contains ((w ++ x ∷ []) ++ l) i ↔ (Contains o i ⊎ Contains (t ++ x ∷ []) i)
one_more w l o t x h i = (λ c. to (Contains-append_cases (w ++ x ∷ []) l i c), λ c. from c)
  where
    old : Contains (w ++ l) i → Contains o i ⊎ Contains (t ++ x ∷ []) i
    old c = elim ((h i).0 c) [ inl p ↦ inl p | inr p ↦ inr (Contains-append_left t (x ∷ []) i p) ]

    to : Contains (w ++ x ∷ []) i ⊎ Contains l i → Contains o i ⊎ Contains (t ++ x ∷ []) i
    to (inl c) = elim (Contains-push_cases w x i c) [
      | inl p ↦ old (Contains-append_left w l i p)
      | inr e ↦ inr (subst (Contains (t ++ x ∷ [])) e (Contains-push t x))
    ]
    to (inr c) = old (Contains-append_right w l i c)

    back : Contains w i ⊎ Contains l i → Contains ((w ++ x ∷ []) ++ l) i
    back (inl c) = Contains-append_left (w ++ x ∷ []) l i (Contains-append_left w (x ∷ []) i c)
    back (inr c) = Contains-append_right (w ++ x ∷ []) l i c

    from : Contains o i ⊎ Contains (t ++ x ∷ []) i → Contains ((w ++ x ∷ []) ++ l) i
    from (inl c) = back (Contains-append_cases w l i ((h i).1 (inl c)))
    from (inr c) = elim (Contains-push_cases t x i c) [
      | inl p ↦ back (Contains-append_cases w l i ((h i).1 (inr p)))
      | inr e ↦ subst (Contains ((w ++ x ∷ []) ++ l)) e (Contains-append_left (w ++ x ∷ []) l x (Contains-push w x))
    ]

-- an item that was there is absent member more
pub none_more : (l o t : List ℕ) (x : ℕ) → ((i : ℕ) → Contains l i ↔ (Contains o i ⊎ Contains t i)) → Contains l x
    → (i : ℕ) → Contains l i ↔ (Contains o i ⊎ Contains (t ++ x ∷ []) i)
none_more l o t x h there i =
    (λ c. elim ((h i).0 c) [ inl p ↦ inl p | inr p ↦ inr (Contains-append_left t (x ∷ []) i p) ], λ c. from c)
  where
    from : Contains o i ⊎ Contains (t ++ x ∷ []) i → Contains l i
    from (inl c) = (h i).1 (inl c)
    from (inr c) = elim (Contains-push_cases t x i c) [ inl p ↦ (h i).1 (inr p) | inr e ↦ subst (Contains l) e there ]

-- the items up to a place and of the first k others are written
pub record IsMerging (start list items out : List ℕ) (k before last : ℕ) (rest : List ℕ) : Type 0 where
  pub written : List ℕ
  pub out_is : out ≡ start ++ item_list written
  pub rises : AreItems written
  pub last_is : last ≡ last_or 0 written
  pub low : before ≤ last
  pub stands : IsListAfter before rest
  pub left_above : AreItemsFrom last (items_left before rest)
  pub new_above : AreItemsFrom last (drop k items)
  pub has : (i : ℕ) → Contains (written ++ items_left before rest) i
      ↔ (Contains (items_of list) i ⊎ Contains (take k items) i)

same_at : (xs : List ℕ) (k c d : ℕ) → k < length xs → get_or xs k c ≡ get_or xs k d
same_at [] k c d lt = absurd (omega arith)
same_at (x ∷ xs) zero c d lt = refl
same_at (x ∷ xs) (suc k) c d lt = same_at xs k c d (omega arith)

none : List ℕ
none = []

no_item : (i : ℕ) → Contains none i → ⊥
unfolding none
no_item i c = absurd (omega (arith, c.1))

pub merging_starts : (start list items : List ℕ) → IsItemList list → AreItems items
    → IsMerging start list items start 0 0 0 list
unfolding items_of none
merging_starts start list items h k = record {
  written = [];
  out_is = sym (append-nil start);
  rises = tt;
  last_is = refl;
  low = omega arith;
  stands = whole_place list h;
  left_above = h.items;
  new_above = k;
  has = λ i. (λ c. inl c, λ c. elim c [ inl p ↦ p | inr p ↦ absurd (no_item i p) ]);
}

-- what was passed comes after the last item that is written
pub run_above : (start list items out : List ℕ) (k before last x before' : ℕ) (rest rest' : List ℕ)
    → IsMerging start list items out k before last rest → (p : Passes x before rest before' rest')
    → AreItemsFrom last p.front
run_above start list items out k before last x before' rest rest' g p =
    (AreItemsFrom-front last p.front (items_left before' rest') (subst (AreItemsFrom last) p.all g.left_above)).0

-- what was passed is written
pub run_written : (start list items out out' : List ℕ) (k before last x before' m : ℕ) (rest rest' : List ℕ)
    → IsMerging start list items out k before last rest → k < length items → x ≡ get_or items k 0
    → (p : Passes x before rest before' rest') → out' ≡ out ++ item_list_from last p.front → m ≡ last_or last p.front
    → before' ≤ m → IsMerging start list items out' k before' m rest'
run_written start list items out out' k before last x before' m rest rest' g lt is p e at low =
    let here : drop k items ≡ x ∷ drop (k + 1) items =
    drop_more items k 0 lt ∙ ap (λ y. y ∷ drop (k + 1) items) (sym is) in
    let new = subst (AreItemsFrom last) here g.new_above in
    let parts =
    AreItemsFrom-front last p.front (items_left before' rest') (subst (AreItemsFrom last) p.all g.left_above) in
    let below : m < x = omega (arith, at, last_below last x p.front new.0 p.below) in
    let same : (g.written ++ p.front) ++ items_left before' rest' ≡ g.written ++ items_left before rest =
    append_assoc g.written p.front (items_left before' rest') ∙ ap (λ (l : List ℕ). g.written ++ l) (sym p.all) in
    record {
      written = g.written ++ p.front;
      out_is = e ∙ ap (λ (l : List ℕ). l ++ item_list_from last p.front) g.out_is
          ∙ append_assoc start (item_list g.written) (item_list_from last p.front)
          ∙ ap (λ n. start ++ (item_list g.written ++ item_list_from n p.front)) g.last_is
          ∙ ap (λ (l : List ℕ). start ++ l) (sym (item_list_from-append 0 g.written p.front));
      rises = AreItemsFrom-join 0 g.written p.front g.rises (subst (λ n. AreItemsFrom n p.front) g.last_is parts.0);
      last_is = at ∙ ap (λ n. last_or n p.front) g.last_is ∙ sym (last_or-append 0 g.written p.front);
      low = low;
      stands = p.stands;
      left_above = subst (λ n. AreItemsFrom n (items_left before' rest')) (sym at) parts.1;
      new_above = subst (AreItemsFrom m) (sym here) (below, new.1, new.2);
      has = λ i. subst (λ (l : List ℕ). Contains l i ↔ (Contains (items_of list) i ⊎ Contains (take k items) i))
          (sym same) (g.has i);
    }

pub run_merged : (start list items out out' : List ℕ) (k before last x before' m : ℕ) (rest rest' : List ℕ)
    → IsMerging start list items out k before last rest → k < length items → x ≡ get_or items k 0
    → Passes x before rest before' rest'
    → out' ≡ out ++ item_list_from last (items_left before (take (length rest - length rest') rest))
    → m ≡ max last before' → IsMerging start list items out' k before' m rest'
run_merged start list items out out' k before last x before' m rest rest' g lt is p e most =
    let r = run_place x before rest before' rest' g.stands p in
    let at = later_end before last before' m p.front g.low
    (run_above start list items out k before last x before' rest rest' g p) p.ends most in
    run_written start list items out out' k before last x before' m rest rest' g lt is p
    (e ∙ ap (λ (l : List ℕ). out ++ item_list_from last l) r.left) at (omega (arith, most))

-- the next item lies above the last that is written
pub next_above : (start list items out : List ℕ) (k before last x : ℕ) (rest : List ℕ)
    → IsMerging start list items out k before last rest → k < length items → x ≡ get_or items k 0
    → (last < x) × (x < item_limit)
next_above start list items out k before last x rest g lt is =
    let here : drop k items ≡ x ∷ drop (k + 1) items =
    drop_more items k 0 lt ∙ ap (λ y. y ∷ drop (k + 1) items) (sym is) in
    let new = subst (AreItemsFrom last) here g.new_above in
    (new.0, new.1)

above_only : (x : ℕ) (is : List ℕ) (last : ℕ) → AllByRecursion (λ i. x ≤ i) is → AreItemsFrom last is
    → (Contains is x → ⊥) → AreItemsFrom x is
above_only x [] last h k absent = tt
above_only x (i ∷ is) last h k absent =
    let other : x ≢ i = λ e. absent (0, omega arith, sym e) in
    (omega (arith, h.0, other), k.1, k.2)

-- a new item is written
pub item_written : (start list items out out' : List ℕ) (k before last x : ℕ) (rest : List ℕ)
    → IsMerging start list items out k before last rest → k < length items → x ≡ get_or items k 0
    → AllByRecursion (λ i. x ≤ i) (items_left before rest) → (Contains (items_left before rest) x → ⊥)
    → out' ≡ out ++ varbyte (x - last) → IsMerging start list items out' (k + 1) before x rest
item_written start list items out out' k before last x rest g lt is above absent e =
    let here : drop k items ≡ x ∷ drop (k + 1) items =
    drop_more items k 0 lt ∙ ap (λ y. y ∷ drop (k + 1) items) (sym is) in
    let new = subst (AreItemsFrom last) here g.new_above in
    let more : take (k + 1) items ≡ take k items ++ x ∷ [] =
    take_more items k x lt ∙ ap (λ y. take k items ++ y ∷ []) (same_at items k x 0 lt ∙ sym is) in
    let one : item_list_from last (x ∷ []) ≡ varbyte (x - last) = append-nil (varbyte (x - last)) in
    record {
      written = g.written ++ x ∷ [];
      out_is = e ∙ ap (λ (l : List ℕ). l ++ varbyte (x - last)) g.out_is
          ∙ append_assoc start (item_list g.written) (varbyte (x - last))
          ∙ ap (λ (l : List ℕ). start ++ (item_list g.written ++ l)) (sym one)
          ∙ ap (λ n. start ++ (item_list g.written ++ item_list_from n (x ∷ []))) g.last_is
          ∙ ap (λ (l : List ℕ). start ++ l) (sym (item_list_from-append 0 g.written (x ∷ [])));
      rises = AreItemsFrom-join 0 g.written (x ∷ []) g.rises
          (subst (λ n. AreItemsFrom n (x ∷ [])) g.last_is (new.0, new.1, tt));
      last_is = sym (last_or-append 0 g.written (x ∷ []));
      low = omega (arith, g.low, new.0);
      stands = g.stands;
      left_above = above_only x (items_left before rest) last above g.left_above absent;
      new_above = new.2;
      has = λ i. subst (λ (l : List ℕ). Contains ((g.written ++ x ∷ []) ++ items_left before rest) i
          ↔ (Contains (items_of list) i ⊎ Contains l i)) (sym more)
          (one_more g.written (items_left before rest) (items_of list) (take k items) x g.has i);
    }

-- an item that is in the list is none
pub item_left : (start list items out : List ℕ) (k before last x : ℕ) (rest : List ℕ)
    → IsMerging start list items out k before last rest → k < length items → x ≡ get_or items k 0
    → Contains (items_left before rest) x → IsMerging start list items out (k + 1) before last rest
item_left start list items out k before last x rest g lt is there =
    let here : drop k items ≡ x ∷ drop (k + 1) items =
    drop_more items k 0 lt ∙ ap (λ y. y ∷ drop (k + 1) items) (sym is) in
    let new = subst (AreItemsFrom last) here g.new_above in
    let more : take (k + 1) items ≡ take k items ++ x ∷ [] =
    take_more items k x lt ∙ ap (λ y. take k items ++ y ∷ []) (same_at items k x 0 lt ∙ sym is) in
    record {
      written = g.written;
      out_is = g.out_is;
      rises = g.rises;
      last_is = g.last_is;
      low = g.low;
      stands = g.stands;
      left_above = g.left_above;
      new_above = AreItemsFrom-lower last x (drop (k + 1) items) (omega (arith, new.0)) new.2;
      has = λ i. subst (λ (l : List ℕ). Contains (g.written ++ items_left before rest) i
          ↔ (Contains (items_of list) i ⊎ Contains l i)) (sym more)
          (none_more (g.written ++ items_left before rest) (items_of list) (take k items) x g.has
          (Contains-append_right g.written (items_left before rest) x there) i);
    }

-- with what is left, the list of the list's items and of the first k others
pub merged_so_far : (start list items out out' : List ℕ) (k before last : ℕ) (rest : List ℕ)
    → IsMerging start list items out k before last rest
    → out' ≡ out ++ item_list_from last (items_left before rest)
    → (bytes : List ℕ) × (out' ≡ start ++ bytes) × IsUnited list (take k items) bytes
merged_so_far start list items out out' k before last rest g e =
    let rises : AreItems (g.written ++ items_left before rest) = AreItemsFrom-join 0 g.written (items_left before rest)
    g.rises (subst (λ n. AreItemsFrom n (items_left before rest)) g.last_is g.left_above) in
    let whole =
    is_list (item_list (g.written ++ items_left before rest)) (g.written ++ items_left before rest) rises refl in (
      item_list (g.written ++ items_left before rest),
      e ∙ ap (λ (l : List ℕ). l ++ item_list_from last (items_left before rest)) g.out_is
          ∙ append_assoc start (item_list g.written) (item_list_from last (items_left before rest))
          ∙ ap (λ n. start ++ (item_list g.written ++ item_list_from n (items_left before rest))) g.last_is
          ∙ ap (λ (l : List ℕ). start ++ l) (sym (item_list_from-append 0 g.written (items_left before rest))),
      record {
        is_list = whole.0;
        has = λ i. subst (λ (l : List ℕ). Contains l i ↔ (Contains (items_of list) i ⊎ Contains (take k items) i))
            (sym whole.1) (g.has i);
      },
    )

-- what is left is written too
pub merging_ends : (start list items out out' : List ℕ) (k before last : ℕ) (rest : List ℕ)
    → IsMerging start list items out k before last rest → length items ≤ k
    → out' ≡ out ++ item_list_from last (items_left before rest)
    → (bytes : List ℕ) × (out' ≡ start ++ bytes) × IsUnited list items bytes
merging_ends start list items out out' k before last rest g le e =
    let all : take k items ≡ items = take_all k items le in
    let r = merged_so_far start list items out out' k before last rest g e in
    (r.0, r.1, subst (λ (l : List ℕ). IsUnited list l r.0) all r.2)

-- ---- whether all are in the list

pub record IsLacking (list items : List ℕ) (k last : ℕ) (rest : List ℕ) : Type 0 where
  pub passed : List ℕ
  pub low : ℕ
  pub all : items_of list ≡ passed ++ items_left last rest
  pub before : AllByRecursion (λ i. i ≤ low) passed
  pub new_above : AreItemsFrom low (drop k items)
  pub stands : IsListAfter last rest
  pub found : (i : ℕ) → Contains (take k items) i → Contains (items_of list) i

pub lacking_starts : (list items : List ℕ) → IsItemList list → AreItems items → IsLacking list items 0 0 list
unfolding items_of none
lacking_starts list items h k = record {
  passed = [];
  low = 0;
  all = refl;
  before = tt;
  new_above = k;
  stands = whole_place list h;
  found = λ i c. absurd (no_item i c);
}

all_at_most : (x : ℕ) (a b : List ℕ) (low : ℕ) → low < x → AllByRecursion (λ i. i ≤ low) a
    → AllByRecursion (λ i. i < x) b → AllByRecursion (λ i. i < x) (a ++ b)
all_at_most x [] b low lt h k = k
all_at_most x (i ∷ a) b low lt h k = (omega (arith, h.0), all_at_most x a b low lt h.1 k)

weaker : (x : ℕ) (is : List ℕ) → AllByRecursion (λ i. i < x) is → AllByRecursion (λ i. i ≤ x) is
weaker x [] h = tt
weaker x (i ∷ is) h = (omega (arith, h.0), weaker x is h.1)

not_below : (x : ℕ) (is : List ℕ) → AllByRecursion (λ i. i < x) is → Contains is x → ⊥
not_below x [] h c = absurd (omega (arith, c.1))
not_below x (i ∷ is) h (zero, lt, e) = absurd (omega (arith, h.0, e))
not_below x (i ∷ is) h (suc k, lt, e) = not_below x is h.1 (k, omega arith, e)

lacking_next : (list items : List ℕ) (k last x : ℕ) (rest : List ℕ) → (l : IsLacking list items k last rest)
    → k < length items → x ≡ get_or items k 0 → (l.low < x) × AreItemsFrom x (drop (k + 1) items)
lacking_next list items k last x rest l lt is =
    let here : drop k items ≡ x ∷ drop (k + 1) items =
    drop_more items k 0 lt ∙ ap (λ y. y ∷ drop (k + 1) items) (sym is) in
    let new = subst (AreItemsFrom l.low) here l.new_above in
    (new.0, new.2)

pub lacking_goes_on : (list items : List ℕ) (k last x last' : ℕ) (rest rest' : List ℕ)
    → IsLacking list items k last rest → k < length items → x ≡ get_or items k 0
    → Passes x last rest last' rest' → Contains (items_left last' rest') x → IsLacking list items (k + 1) last' rest'
lacking_goes_on list items k last x last' rest rest' g lt is p there =
    let n = lacking_next list items k last x rest g lt is in
    let more : take (k + 1) items ≡ take k items ++ x ∷ [] =
    take_more items k x lt ∙ ap (λ y. take k items ++ y ∷ []) (same_at items k x 0 lt ∙ sym is) in
    let all : items_of list ≡ (g.passed ++ p.front) ++ items_left last' rest' = g.all
    ∙ ap (λ (l : List ℕ). g.passed ++ l) p.all ∙ sym (append_assoc g.passed p.front (items_left last' rest')) in
    let here : Contains (items_of list) x = subst (λ (l : List ℕ). Contains l x) (sym all)
    (Contains-append_right (g.passed ++ p.front) (items_left last' rest') x there) in
    record {
      passed = g.passed ++ p.front;
      low = x;
      all = all;
      before = weaker x (g.passed ++ p.front) (all_at_most x g.passed p.front g.low n.0 g.before p.below);
      new_above = n.1;
      stands = p.stands;
      found = λ i c. elim (Contains-push_cases (take k items) x i (subst (λ (l : List ℕ). Contains l i) more c))
          [ inl q ↦ g.found i q | inr e ↦ subst (Contains (items_of list)) e here ];
    }

pub lacking_one : (list items : List ℕ) (k last x last' : ℕ) (rest rest' : List ℕ) → IsLacking list items k last rest
    → k < length items → x ≡ get_or items k 0
    → Passes x last rest last' rest' → (Contains (items_left last' rest') x → ⊥)
    → (i : ℕ) × Contains items i × (Contains (items_of list) i → ⊥)
lacking_one list items k last x last' rest rest' g lt is p absent =
    let n = lacking_next list items k last x rest g lt is in
    let all : items_of list ≡ (g.passed ++ p.front) ++ items_left last' rest' = g.all
    ∙ ap (λ (l : List ℕ). g.passed ++ l) p.all ∙ sym (append_assoc g.passed p.front (items_left last' rest')) in (
      x,
      (k, lt, same_at items k x 0 lt ∙ sym is),
      λ c. elim (Contains-append_cases (g.passed ++ p.front) (items_left last' rest') x
          (subst (λ (l : List ℕ). Contains l x) all c)) [
            | inl q ↦ not_below x (g.passed ++ p.front) (all_at_most x g.passed p.front g.low n.0 g.before p.below) q
            | inr q ↦ absent q
          ],
    )

pub lacking_none : (list items : List ℕ) (k last : ℕ) (rest : List ℕ) → IsLacking list items k last rest
    → length items ≤ k → ((i : ℕ) × Contains items i × (Contains (items_of list) i → ⊥)) → ⊥
lacking_none list items k last rest g le (i, c, absent) =
    absent (g.found i (subst (λ (l : List ℕ). Contains l i) (sym (take_all k items le)) c))

-- where not all is written, what was there stays
pub merging_cut : (start list items out out' : List ℕ) (k before last : ℕ) (rest : List ℕ)
    → IsMerging start list items out k before last rest → take (length out) out' ≡ out
    → take (length start) out' ≡ start
merging_cut start list items out out' k before last rest g e =
    let size : length start ≤ length out =
    omega (arith, ap length g.out_is, length-append start (item_list g.written)) in
    sym (take-take (length start) (length out) out' size) ∙ ap (take (length start)) e
    ∙ ap (take (length start)) g.out_is ∙ take_at start (item_list g.written) (length start) refl
