-- How many items a list takes, by the bytes of the list with each of them.
use Rattle.std.proofs.Common.{◌≡◌, ℕ, ◌+◌, ◌-◌, ◌*◌, ◌<◌, ◌≤◌, List, [], ◌∷◌, ◌++◌, length, take, get_or, max, refl}
use Rattle.std.proofs.Common.{sym, ap, subst, ◌∙◌, arith, inl, inr}
use Rattle.std.specs.List.{AllByRecursion, Contains}
use Rattle.std.proofs.lemmas.List.{length-append}
use Rattle.page_types.specs.Numbers.{item_limit}
use Rattle.page_types.specs.Items.{varbyte, item_list_from, AreItemsFrom, AreItems, items_of, IsItemList}
use Rattle.posting_code.specs.Uniting.{IsUnited, TakesFirst}
use Rattle.posting_code.specs.Inner.Places.{items_left, Passes, TakesItem}
use Rattle.posting_code.proofs.Sizing.{most_bytes, length-from, fewer_shorter}
use Rattle.posting_code.proofs.Uniting.{IsMerging, merging_starts, run_merged, item_written, item_left}
use Rattle.posting_code.proofs.Uniting.{merged_so_far}

-- no list is longer than five bytes for each number that an item may be
pub list_small : (last : ℕ) (is : List ℕ) → AreItemsFrom last is
    → length (item_list_from last is) ≤ 5 * (item_limit - last)
list_small last [] h = omega arith
list_small last (i ∷ is) h = omega (
  arith,
  h.0,
  h.1,
  length-from last i is,
  most_bytes (i - last) (omega (arith, h.1)),
  list_small i is h.2,
)

-- with fewer others the list is no longer
pub united_no_longer : (list xs ys a b : List ℕ) → ((i : ℕ) → Contains xs i → Contains ys i) → IsUnited list xs a
    → IsUnited list ys b → length a ≤ length b
united_no_longer list xs ys a b sub u w =
    let fewer = fewer_shorter 0 (items_of a) (items_of b) u.is_list.items w.is_list.items (λ i c. more i c) in
    omega (arith, fewer, ap length u.is_list.encoding, ap length w.is_list.encoding)
  where
    more : (i : ℕ) → Contains (items_of a) i → Contains (items_of b) i
    more i c = elim ((u.has i).0 c) [ inl p ↦ (w.has i).1 (inl p) | inr p ↦ (w.has i).1 (inr (sub i p)) ]

-- the list's items up to a place, and of the first k others those that are not in it, are counted
pub record IsCounted (list items : List ℕ) (k before last size : ℕ) (rest : List ℕ) : Type 0 where
  pub out : List ℕ
  pub merging : IsMerging [] list items out k before last rest
  pub size_is : size ≡ length out

pub counted_starts : (list items : List ℕ) → IsItemList list → AreItems items → IsCounted list items 0 0 0 0 list
counted_starts list items h k = record { out = []; merging = merging_starts [] list items h k; size_is = refl }

-- what was passed is counted
pub run_counted : (list items : List ℕ) (k before last size x before' m n : ℕ) (rest rest' : List ℕ)
    → IsCounted list items k before last size rest → k < length items → x ≡ get_or items k 0
    → Passes x before rest before' rest'
    → n ≡ length (item_list_from last (items_left before (take (length rest - length rest') rest)))
    → m ≡ max last before' → IsCounted list items k before' m (size + n) rest'
run_counted list items k before last size x before' m n rest rest' g lt is p e most =
    let run : List ℕ = item_list_from last (items_left before (take (length rest - length rest') rest)) in
    record {
      out = g.out ++ run;
      merging = run_merged [] list items g.out (g.out ++ run) k before last x before' m rest rest' g.merging lt is p
          refl most;
      size_is = omega (arith, g.size_is, e, length-append g.out run);
    }

-- one more is counted, where it is not in the list
pub item_counted : (list items : List ℕ) (k before last size x last' size' : ℕ) (rest : List ℕ)
    → IsCounted list items k before last size rest → k < length items → x ≡ get_or items k 0
    → AllByRecursion (λ i. x ≤ i) (items_left before rest)
    → TakesItem (items_left before rest) x last size last' size'
    → IsCounted list items (k + 1) before last' size' rest
item_counted list items k before last size x last' size' rest g lt is above (TakesItem.there here e f) =
    let m = item_left [] list items g.out k before last x rest g.merging lt is here in
    record {
      out = g.out;
      merging = subst (λ n. IsMerging [] list items g.out (k + 1) before n rest) (sym e) m;
      size_is = f ∙ g.size_is;
    }
item_counted list items k before last size x last' size' rest g lt is above (TakesItem.new absent e f) =
    let out : List ℕ = g.out ++ varbyte (x - last) in
    let m = item_written [] list items g.out (g.out ++ varbyte (x - last)) k before last x rest g.merging lt is above
    absent refl in
    record {
      out = g.out ++ varbyte (x - last);
      merging = subst (λ n. IsMerging [] list items (g.out ++ varbyte (x - last)) (k + 1) before n rest) (sym e) m;
      size_is = omega (arith, f, g.size_is, length-append g.out (varbyte (x - last)));
    }

-- the list with the first k others has the bytes that are counted and those of what is left
pub counted_size : (list items bytes : List ℕ) (k before last size : ℕ) (rest : List ℕ)
    → IsCounted list items k before last size rest → IsUnited list (take k items) bytes
    → length bytes ≡ size + length (item_list_from last (items_left before rest))
counted_size list items bytes k before last size rest g u =
    let r = merged_so_far [] list items g.out (g.out ++ item_list_from last (items_left before rest)) k before last rest
    g.merging refl in
    let less = united_no_longer list (take k items) (take k items) bytes r.0 (λ i c. c) u r.2 in
    let more = united_no_longer list (take k items) (take k items) r.0 bytes (λ i c. c) r.2 u in
    omega (
      arith,
      less,
      more,
      g.size_is,
      ap length r.1,
      length-append g.out (item_list_from last (items_left before rest)),
    )

-- what is counted, and what is left, are no long lists
pub counted_small : (list items : List ℕ) (k before last size : ℕ) (rest : List ℕ)
    → IsCounted list items k before last size rest → size ≤ 5 * item_limit
counted_small list items k before last size rest g =
    omega (arith, g.size_is, ap length g.merging.out_is, list_small 0 g.merging.written g.merging.rises)

pub left_small : (list items : List ℕ) (k before last size : ℕ) (rest : List ℕ)
    → IsCounted list items k before last size rest
    → length (item_list_from last (items_left before rest)) ≤ 5 * item_limit
left_small list items k before last size rest g =
    let small = list_small last (items_left before rest) g.merging.left_above in omega (arith, small)

-- the first k items are taken
pub record IsTaking (list items : List ℕ) (most k before last size : ℕ) (rest : List ℕ) : Type 0 where
  pub counted : IsCounted list items k before last size rest
  pub fits : (bytes : List ℕ) → 0 < k → IsUnited list (take k items) bytes → length bytes ≤ most

pub taking_starts : (list items : List ℕ) (most : ℕ) → IsItemList list → AreItems items
    → IsTaking list items most 0 0 0 0 list
taking_starts list items most h k =
    record { counted = counted_starts list items h k; fits = λ bytes some. absurd (omega (arith, some)) }

-- one more is taken
pub taking_goes_on : (list items : List ℕ) (most k before last size : ℕ) (rest : List ℕ)
    → IsCounted list items k before last size rest
    → size + length (item_list_from last (items_left before rest)) ≤ most
    → IsTaking list items most k before last size rest
taking_goes_on list items most k before last size rest g le = record {
  counted = g;
  fits = λ bytes some u. omega (arith, counted_size list items bytes k before last size rest g u, le);
}

-- one more would be too many
pub taking_stops : (list items : List ℕ) (most k before last size before' last' size' : ℕ) (rest rest' : List ℕ)
    → IsTaking list items most k before last size rest → k < length items
    → IsCounted list items (k + 1) before' last' size' rest'
    → most < size' + length (item_list_from last' (items_left before' rest'))
    → TakesFirst list items most k
taking_stops list items most k before last size before' last' size' rest rest' t lt g more = record {
  among = omega (arith, lt);
  fits = t.fits;
  no_more = λ bytes within u. omega
      (arith, counted_size list items bytes (k + 1) before' last' size' rest' g u, more);
}
