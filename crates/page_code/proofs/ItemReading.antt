-- An item list in front of other bytes: what is read was encoded, and what is encoded is read.
use Rattle.std.proofs.Common.{◌≡◌, ℕ, ◌-◌, ◌≤◌, ◌<◌, Bool, true, false, cond, ltb, List, [], ◌++◌, length, take, Result}
use Rattle.std.proofs.Common.{Ok, Err, refl, sym, ap, subst, ◌∙◌, arith}
use Rattle.std.proofs.lemmas.Bool.{le-ltb, lt-ltb, ltb-false}
use Rattle.std.proofs.lemmas.List.{length-append, take_at}
use Rattle.page_types.specs.Fields.{◌>>=◌}
use Rattle.page_types.specs.Items.{item_list, items_of, IsItemList}
use Rattle.page_types.specs.ItemReading.{items_within}
use Rattle.page_types.proofs.FieldReading.{IsBytes, bind_ok, Takes}
use Rattle.page_types.proofs.ItemReading.{items_take, items_again, whole_again, whole_take, is_list}
use Rattle.page_code.specs.Items.{items_at, list_at}
use Rattle.page_code.specs.Bodies.{front_of}

-- what is read where there are enough
abbrev if_enough : Bool → List ℕ → Result (List ℕ) ℕ
if_enough few rest = cond few (Err 0) (Ok rest)

enough : (few : Bool) (x y : List ℕ) → if_enough few x ≡ Ok y → (few ≡ false) × (x ≡ y)
enough true x y e = absurd cc
enough false x y e = (refl, cc)

-- a list of so many items in front of the rest
pub record TakesList (k : ℕ) (bytes list rest : List ℕ) : Type 0 where
  pub takes : Takes bytes list rest
  pub fits : IsItemList list
  pub count : length (items_of list) ≡ k

pub front_takes : (k : ℕ) (bytes rest : List ℕ) → IsBytes bytes → items_at k bytes ≡ Ok rest
    → TakesList k bytes (front_of bytes rest) rest
unfolding items_at
front_takes k bytes rest fits e =
    let a = bind_ok (items_within k 0 bytes) (λ x. if_enough (ltb (length x.0) k) x.1) rest e in
    let r = enough (ltb (length a.0.0) k) a.0.1 rest a.2 in
    let some : k ≤ length a.0.0 = ltb-false (length a.0.0) k r.0 in
    let t = items_take k 0 bytes a.0.0 a.0.1 fits a.1 in
    let takes : Takes bytes (item_list a.0.0) rest =
    subst (λ (l : List ℕ). Takes bytes (item_list a.0.0) l) r.1 t.takes in
    let size : length bytes - length rest ≡ length (item_list a.0.0) =
    omega (arith, ap length takes.parts, length-append (item_list a.0.0) rest) in
    let front : front_of bytes rest ≡ item_list a.0.0 =
    ap (λ n. take n bytes) size ∙ ap (take (length (item_list a.0.0))) takes.parts
    ∙ take_at (item_list a.0.0) rest (length (item_list a.0.0)) refl in
    let list = is_list (front_of bytes rest) a.0.0 t.items front in
    record {
      takes = subst (λ (l : List ℕ). Takes bytes l rest) (sym front) takes;
      fits = list.0;
      count = ap length list.1 ∙ omega (arith, some, t.count);
    }

pub front_again : (list rest : List ℕ) → IsItemList list
    → (items_at (length (items_of list)) (list ++ rest) ≡ Ok rest) × (front_of (list ++ rest) rest ≡ list)
unfolding items_at
front_again list rest h =
    let n : ℕ = length (items_of list) in
    let size : length (list ++ rest) - length rest ≡ length list = omega (arith, length-append list rest) in
    let read = items_again 0 (items_of list) rest h.items in
    let here : items_within (length (items_of list)) 0 (list ++ rest) ≡ Ok (items_of list, rest) =
    ap (λ (l : List ℕ). items_within (length (items_of list)) 0 (l ++ rest)) h.encoding ∙ read in
    let all : ltb (length (items_of list)) (length (items_of list)) ≡ false =
    le-ltb (length (items_of list)) (length (items_of list)) (omega arith) in (
      ap (λ (r : Result (List ℕ × List ℕ) ℕ). r >>= λ x. if_enough (ltb (length x.0) (length (items_of list))) x.1)
          here ∙ ap (λ b. if_enough b rest) all,
      ap (λ n. take n (list ++ rest)) size ∙ take_at list rest (length list) refl,
    )

pub list_takes : (bytes rest : List ℕ) → IsBytes bytes → list_at bytes ≡ Ok rest → IsItemList bytes
unfolding list_at
list_takes bytes rest fits e =
    let a = bind_ok (items_within (length bytes) 0 bytes) (λ x. Ok x.1) rest e in
    (whole_take bytes a.0.0 a.0.1 fits a.1).0

pub list_again : (bytes : List ℕ) → IsItemList bytes → list_at bytes ≡ Ok []
unfolding list_at
list_again bytes h = ap (λ (r : Result (List ℕ × List ℕ) ℕ). r >>= λ x. Ok x.1) (whole_again bytes h)

-- ---- by what a walk answers

few_of : (n : ℕ) (bytes is rest : List ℕ) → items_within n 0 bytes ≡ Ok (is, rest) → length is < n
    → items_at n bytes ≡ Err 0
unfolding items_at
few_of n bytes is rest r lt = ap (λ (r : Result (List ℕ × List ℕ) ℕ). r >>= λ x. if_enough (ltb (length x.0) n) x.1) r
    ∙ ap (λ b. if_enough b rest) (lt-ltb (length is) n lt)

all_of : (n : ℕ) (bytes is rest : List ℕ) → items_within n 0 bytes ≡ Ok (is, rest) → n ≤ length is
    → items_at n bytes ≡ Ok rest
unfolding items_at
all_of n bytes is rest r le = ap (λ (r : Result (List ℕ × List ℕ) ℕ). r >>= λ x. if_enough (ltb (length x.0) n) x.1) r
    ∙ ap (λ b. if_enough b rest) (le-ltb (length is) n le)

none_of : (n : ℕ) (bytes : List ℕ) (left : ℕ) → items_within n 0 bytes ≡ Err left → items_at n bytes ≡ Err left
unfolding items_at
none_of n bytes left r = ap (λ (r : Result (List ℕ × List ℕ) ℕ). r >>= λ x. if_enough (ltb (length x.0) n) x.1) r

-- where the number that was asked for is n
pub few_read : (k n : ℕ) (bytes is rest : List ℕ) → n ≡ k → items_within n 0 bytes ≡ Ok (is, rest) → length is < n
    → items_at k bytes ≡ Err 0
few_read k n bytes is rest same r lt = ap (λ m. items_at m bytes) (sym same) ∙ few_of n bytes is rest r lt

pub enough_read : (k n : ℕ) (bytes is rest : List ℕ) → n ≡ k → items_within n 0 bytes ≡ Ok (is, rest) → n ≤ length is
    → items_at k bytes ≡ Ok rest
enough_read k n bytes is rest same r le = ap (λ m. items_at m bytes) (sym same) ∙ all_of n bytes is rest r le

pub not_read : (k n : ℕ) (bytes : List ℕ) (left : ℕ) → n ≡ k → items_within n 0 bytes ≡ Err left
    → items_at k bytes ≡ Err left
not_read k n bytes left same r = ap (λ m. items_at m bytes) (sym same) ∙ none_of n bytes left r

pub list_read : (bytes is rest : List ℕ) → items_within (length bytes) 0 bytes ≡ Ok (is, rest) → list_at bytes ≡ Ok rest
unfolding list_at
list_read bytes is rest r = ap (λ (r : Result (List ℕ × List ℕ) ℕ). r >>= λ x. Ok x.1) r

pub list_not_read : (bytes : List ℕ) (left : ℕ) → items_within (length bytes) 0 bytes ≡ Err left
    → list_at bytes ≡ Err left
unfolding list_at
list_not_read bytes left r = ap (λ (r : Result (List ℕ × List ℕ) ℕ). r >>= λ x. Ok x.1) r
