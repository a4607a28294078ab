-- The way from one place in a list to the next ones.
use Rattle.std.proofs.Common.{◌≡◌, ℕ, ◌-◌, ◌<◌, ◌≤◌, List, [], ◌∷◌, ◌++◌, length, take, get_or, zero, suc, Ok, Err}
use Rattle.std.proofs.Common.{refl, sym, ap, subst, ◌∙◌, append_assoc, arith}
use Rattle.std.specs.List.{AllByRecursion, Contains}
use Rattle.std.proofs.lemmas.List.{length-append, take_at}
use Rattle.page_types.specs.Numbers.{item_limit}
use Rattle.page_types.specs.Items.{varbyte, item_list_from, AreItemsFrom, items_of, IsItemList}
use Rattle.page_types.specs.ItemReading.{item_at, last_or}
use Rattle.page_types.proofs.ItemLists.{sums-item_list_from}
use Rattle.posting_code.specs.Inner.Places.{items_left, IsListAfter, Passes}
use Rattle.posting_code.proofs.Lists.{step, ended}

pub whole_place : (list : List ℕ) → IsItemList list → IsListAfter 0 list
unfolding items_of
whole_place list h = record { items = h.items; list = h.encoding }

-- a list of items after a place
pub place_of : (last : ℕ) (is rest : List ℕ) → AreItemsFrom last is → rest ≡ item_list_from last is
    → IsListAfter last rest × (items_left last rest ≡ is)
place_of last is rest h e =
    let same : items_left last rest ≡ is = ap (items_left last) e ∙ sums-item_list_from last is h in
    (record { items = subst (AreItemsFrom last) (sym same) h; list = e ∙ ap (item_list_from last) (sym same) }, same)

-- the next item
pub record IsNextPlace (last : ℕ) (rest : List ℕ) (item : ℕ) (after : List ℕ) : Type 0 where
  pub left : items_left last rest ≡ item ∷ items_left item after
  pub stands : IsListAfter item after
  pub rises : last < item

pub next_place : (last : ℕ) (rest : List ℕ) (item : ℕ) (after : List ℕ) → IsListAfter last rest
    → item_at last rest ≡ Ok (item, after) → IsNextPlace last rest item after
next_place last rest item after h r =
    let s = step last rest (length (items_left last rest)) (last_or last (items_left last rest)) item after
    (record { items = h.items; list = h.list; counted = refl; ends = refl }) r in
    let first : AreItemsFrom last (item ∷ items_left item after) = subst (AreItemsFrom last) s.left h.items in
    record { left = s.left; stands = record { items = s.stands.items; list = s.stands.list }; rises = first.0 }

pub no_place : (last : ℕ) (rest : List ℕ) (left : ℕ) → IsListAfter last rest → item_at last rest ≡ Err left
    → items_left last rest ≡ []
no_place last rest left h r =
    ended last rest (length (items_left last rest)) (last_or last (items_left last rest)) left
    (record { items = h.items; list = h.list; counted = refl; ends = refl }) r

pub last_of-more : (last : ℕ) (front : List ℕ) (item : ℕ) → last_or last (front ++ item ∷ []) ≡ item
last_of-more last [] item = refl
last_of-more last (g ∷ front) item = last_of-more g front item

-- ---- on the way below a bound

pub record IsPassing (bound last : ℕ) (rest : List ℕ) (last' : ℕ) (rest' : List ℕ) : Type 0 where
  pub front : List ℕ
  pub all : items_left last rest ≡ front ++ items_left last' rest'
  pub ends : last' ≡ last_or last front
  pub below : AllByRecursion (λ i. i < bound) front
  pub stands : IsListAfter last' rest'

pub passing_starts : (bound last : ℕ) (rest : List ℕ) → IsListAfter last rest → IsPassing bound last rest last rest
passing_starts bound last rest h = record { front = []; all = refl; ends = refl; below = tt; stands = h }

all_more : (bound : ℕ) (front : List ℕ) (item : ℕ) → AllByRecursion (λ i. i < bound) front → item < bound
    → AllByRecursion (λ i. i < bound) (front ++ item ∷ [])
all_more bound [] item h lt = (lt, tt)
all_more bound (g ∷ front) item h lt = (h.0, all_more bound front item h.1 lt)

pub passing_goes_on : (bound last : ℕ) (rest : List ℕ) (here : ℕ) (there : List ℕ) (item : ℕ) (after : List ℕ)
    → IsPassing bound last rest here there → item_at here there ≡ Ok (item, after) → item < bound
    → IsPassing bound last rest item after
passing_goes_on bound last rest here there item after p r lt =
    let n = next_place here there item after p.stands r in
    record {
      front = p.front ++ item ∷ [];
      all = p.all ∙ ap (λ (l : List ℕ). p.front ++ l) n.left
          ∙ sym (append_assoc p.front (item ∷ []) (items_left item after));
      ends = sym (last_of-more last p.front item);
      below = all_more bound p.front item p.below lt;
      stands = n.stands;
    }

-- all items after one that is not below a bound
pub all_above : (bound last : ℕ) (is : List ℕ) → AreItemsFrom last is → bound ≤ last
    → AllByRecursion (λ i. bound ≤ i) is
all_above bound last [] h le = tt
all_above bound last (i ∷ is) h le = (omega (arith, h.0), all_above bound i is h.2 (omega (arith, h.0)))

pub passes_at : (bound last : ℕ) (rest : List ℕ) (here : ℕ) (there : List ℕ) (item : ℕ) (after : List ℕ)
    → IsPassing bound last rest here there → item_at here there ≡ Ok (item, after) → bound ≤ item
    → Passes bound last rest here there
passes_at bound last rest here there item after p r le =
    let n = next_place here there item after p.stands r in
    record {
      front = p.front;
      all = p.all;
      ends = p.ends;
      below = p.below;
      above = subst (AllByRecursion (λ i. bound ≤ i)) (sym n.left)
          (le, all_above bound item (items_left item after) n.stands.items le);
      stands = p.stands;
    }

pub passes_all : (bound last : ℕ) (rest : List ℕ) (here : ℕ) (there : List ℕ) (left : ℕ)
    → IsPassing bound last rest here there → item_at here there ≡ Err left → Passes bound last rest here there
passes_all bound last rest here there left p r =
    let none = no_place here there left p.stands r in
    record {
      front = p.front;
      all = p.all;
      ends = p.ends;
      below = p.below;
      above = subst (AllByRecursion (λ i. bound ≤ i)) (sym none) tt;
      stands = p.stands;
    }

-- ---- the bytes that were passed

pub AreItemsFrom-front : (last : ℕ) (front back : List ℕ) → AreItemsFrom last (front ++ back)
    → AreItemsFrom last front × AreItemsFrom (last_or last front) back
AreItemsFrom-front last [] back h = (tt, h)
AreItemsFrom-front last (i ∷ front) back h =
    let rest = AreItemsFrom-front i front back h.2 in ((h.0, h.1, rest.0), rest.1)

pub AreItemsFrom-join : (last : ℕ) (front back : List ℕ) → AreItemsFrom last front
    → AreItemsFrom (last_or last front) back → AreItemsFrom last (front ++ back)
AreItemsFrom-join last [] back h k = k
AreItemsFrom-join last (i ∷ front) back h k = (h.0, h.1, AreItemsFrom-join i front back h.2 k)

pub item_list_from-append : (last : ℕ) (front back : List ℕ)
    → item_list_from last (front ++ back) ≡ item_list_from last front ++ item_list_from (last_or last front) back
item_list_from-append last [] back = refl
item_list_from-append last (i ∷ front) back =
    ap (λ (l : List ℕ). varbyte (i - last) ++ l) (item_list_from-append i front back)
    ∙ sym (append_assoc (varbyte (i - last)) (item_list_from i front) (item_list_from (last_or i front) back))

pub record IsRun (last : ℕ) (rest : List ℕ) (front : List ℕ) (rest' : List ℕ) : Type 0 where
  pub items : AreItemsFrom last front
  pub parts : rest ≡ item_list_from last front ++ rest'
  pub run : take (length rest - length rest') rest ≡ item_list_from last front

pub run_of : (bound last : ℕ) (rest : List ℕ) (last' : ℕ) (rest' : List ℕ) → IsListAfter last rest
    → (p : Passes bound last rest last' rest') → IsRun last rest p.front rest'
run_of bound last rest last' rest' h p =
    let is = AreItemsFrom-front last p.front (items_left last' rest') (subst (AreItemsFrom last) p.all h.items) in
    let back : item_list_from (last_or last p.front) (items_left last' rest') ≡ rest' =
    ap (λ n. item_list_from n (items_left last' rest')) (sym p.ends) ∙ sym p.stands.list in
    let parts : rest ≡ item_list_from last p.front ++ rest' =
    h.list ∙ ap (item_list_from last) p.all ∙ item_list_from-append last p.front (items_left last' rest')
    ∙ ap (λ (l : List ℕ). item_list_from last p.front ++ l) back in
    let size : length rest - length rest' ≡ length (item_list_from last p.front) =
    omega (arith, ap length parts, length-append (item_list_from last p.front) rest') in
    record {
      items = is.0;
      parts = parts;
      run = ap (λ n. take n rest) size ∙ ap (take (length (item_list_from last p.front))) parts
          ∙ take_at (item_list_from last p.front) rest' (length (item_list_from last p.front)) refl;
    }

-- ---- an item at a place

pub stands_first : (x last : ℕ) (rest : List ℕ) (here : ℕ) (after : List ℕ) → IsListAfter last rest
    → item_at last rest ≡ Ok (here, after) → here ≡ x → Contains (items_left last rest) x
stands_first x last rest here after h r e =
    let n = next_place last rest here after h r in
    subst (λ (l : List ℕ). Contains l x) (sym n.left) (0, omega arith, e)

later_is : (x here : ℕ) (is : List ℕ) → x ≤ here → AreItemsFrom here is → (k : ℕ) → k < length is → x < get_or is k x
later_is x here [] le h k lt = absurd (omega arith)
later_is x here (i ∷ is) le h zero lt = omega (arith, h.0)
later_is x here (i ∷ is) le h (suc k) lt = later_is x i is (omega (arith, h.0)) h.2 k (omega arith)

first_stands : (x here : ℕ) (is : List ℕ) → x ≤ here → AreItemsFrom here is → Contains (here ∷ is) x → here ≡ x
first_stands x here is le h (zero, lt, e) = e
first_stands x here is le h (suc k, lt, e) = absurd (omega (arith, later_is x here is le h k (omega arith), e))

pub stands_only : (x last : ℕ) (rest : List ℕ) (here : ℕ) (after : List ℕ) → IsListAfter last rest
    → AllByRecursion (λ i. x ≤ i) (items_left last rest) → item_at last rest ≡ Ok (here, after)
    → Contains (items_left last rest) x → here ≡ x
stands_only x last rest here after h above r c =
    let n = next_place last rest here after h r in
    let least = subst (AllByRecursion (λ i. x ≤ i)) n.left above in
    first_stands x here (items_left here after) least.0 n.stands.items (subst (λ (l : List ℕ). Contains l x) n.left c)

pub none_stands : (x last : ℕ) (rest : List ℕ) (left : ℕ) → IsListAfter last rest → item_at last rest ≡ Err left
    → Contains (items_left last rest) x → ⊥
none_stands x last rest left h r c =
    let e = subst (λ (l : List ℕ). Contains l x) (no_place last rest left h r) c in
    absurd (omega (arith, e.1))

-- the bytes that were passed, as a list of their own
pub record IsRunPlace (last : ℕ) (run front : List ℕ) : Type 0 where
  pub stands : IsListAfter last run
  pub left : items_left last run ≡ front

pub run_place : (bound last : ℕ) (rest : List ℕ) (last' : ℕ) (rest' : List ℕ) → IsListAfter last rest
    → (p : Passes bound last rest last' rest') → IsRunPlace last (take (length rest - length rest') rest) p.front
run_place bound last rest last' rest' h p =
    let r = run_of bound last rest last' rest' h p in
    let q = place_of last p.front (take (length rest - length rest') rest) r.items r.run in
    record { stands = q.0; left = q.1 }

pub less_left : (bound last : ℕ) (rest : List ℕ) (last' : ℕ) (rest' : List ℕ) → IsListAfter last rest
    → Passes bound last rest last' rest' → length rest' ≤ length rest
less_left bound last rest last' rest' h p =
    let r = run_of bound last rest last' rest' h p in
    omega (arith, ap length r.parts, length-append (item_list_from last p.front) rest')

pub next_small : (last : ℕ) (rest : List ℕ) (item : ℕ) (after : List ℕ) → IsListAfter last rest
    → item_at last rest ≡ Ok (item, after) → item < item_limit
next_small last rest item after h r =
    let n = next_place last rest item after h r in
    let first : AreItemsFrom last (item ∷ items_left item after) = subst (AreItemsFrom last) n.left h.items in
    first.1
