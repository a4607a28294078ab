-- An item list is read as the items that it was written for, and what is read was written so.
use Rattle.std.proofs.Common.{◌≡◌, ℕ, zero, suc, ◌+◌, ◌-◌, ◌<◌, ◌≤◌, Bool, true, false, ◌&&◌, cond, ltb, eqb, List, []}
use Rattle.std.proofs.Common.{◌∷◌, ◌++◌, length, Option, Some, None, Result, Ok, Err, refl, sym, ap, subst, ◌∙◌}
use Rattle.std.proofs.Common.{append_assoc, arith}
use Rattle.std.proofs.lemmas.Bool.{lt-ltb, ltb-true, eqb-true}
use Rattle.std.proofs.lemmas.List.{length-append, append-nil, nil_from_length}
use Rattle.page_types.specs.Numbers.{item_limit}
use Rattle.page_types.specs.Fields.{◌>>=◌}
use Rattle.page_types.specs.Items.{varbyte, item_list_from, item_list, AreItemsFrom, AreItems, items_of, IsItemList}
use Rattle.page_types.specs.ItemReading.{number_within, item_with, item_at, in_front, items_within, items_read, last_or}
use Rattle.page_types.specs.Laws.{ReadingTellsItems}
use Rattle.page_types.proofs.FieldReading.{IsBytes, bind_ok, Takes, Takes-then}
use Rattle.page_types.proofs.ItemLists.{items_of-item_list}
use Rattle.page_types.proofs.Varbytes.{was_written, is_read, some_bytes, number_shorter}

-- the number of an item that was read
record IsNext (last : ℕ) (r : Option (Option ℕ × List ℕ)) (item : ℕ) (rest : List ℕ) : Type 0 where
  pub number : ℕ
  pub read : r ≡ Some (Some number, rest)
  pub above : 0 < number
  pub bound : item < item_limit
  pub sum : item ≡ last + number

tests_pass : (a b : Bool) (x : ℕ × List ℕ) (y : ℕ × List ℕ) (left : ℕ) → cond (a && b) (Ok x) (Err left) ≡ Ok y
    → (a ≡ true) × (b ≡ true) × (x ≡ y)
tests_pass true true x y left e = (refl, refl, cc)
tests_pass true false x y left e = absurd cc
tests_pass false b x y left e = absurd cc

next_of : (last left : ℕ) (r : Option (Option ℕ × List ℕ)) (item : ℕ) (rest : List ℕ)
    → item_with last left r ≡ Ok (item, rest) → IsNext last r item rest
next_of last left None item rest e = absurd cc
next_of last left (Some (None, t)) item rest e = absurd cc
next_of last left (Some (Some n, t)) item rest e =
    let tests = tests_pass (ltb 0 n) (ltb (last + n) item_limit) (last + n, t) (item, rest) left e in
    let pair = tests.2 in
    let items : last + n ≡ item = ap (λ (x : ℕ × List ℕ). x.0) pair in
    let tails : t ≡ rest = ap (λ (x : ℕ × List ℕ). x.1) pair in
    let small : last + n < item_limit = ltb-true (last + n) item_limit tests.1 in
    record {
      number = n;
      read = ap (λ (s : List ℕ). Some (Some n, s)) tails;
      above = ltb-true 0 n tests.0;
      bound = subst (λ k. k < item_limit) items small;
      sum = sym items;
    }

-- an item that was read was written as a difference
pub record IsItemRead (last : ℕ) (bytes : List ℕ) (item : ℕ) (rest : List ℕ) : Type 0 where
  pub above : last < item
  pub bound : item < item_limit
  pub takes : Takes bytes (varbyte (item - last)) rest

pub item_read : (last : ℕ) (bytes : List ℕ) (item : ℕ) (rest : List ℕ) → IsBytes bytes
    → item_at last bytes ≡ Ok (item, rest) → IsItemRead last bytes item rest
unfolding item_at varbyte
item_read last bytes item rest fits e =
    let n = next_of last (length bytes) (number_within 5 bytes) item rest e in
    let w = was_written 5 bytes n.number rest fits n.read in
    let gap : n.number ≡ item - last = let sum = n.sum in omega arith in
    record {
      above = let sum = n.sum in let some = n.above in omega arith;
      bound = n.bound;
      takes = record { parts = sym w.encoding ∙ ap (λ k. varbyte k ++ rest) gap; rest_fits = w.rest_fits };
    }

-- what was written as a difference is read as the item
pub item_again : (last item : ℕ) (rest : List ℕ) → last < item → item < item_limit
    → item_at last (varbyte (item - last) ++ rest) ≡ Ok (item, rest)
unfolding item_at varbyte
item_again last item rest lt bound =
    let sum : last + (item - last) ≡ item = omega arith in
    let above : ltb 0 (item - last) ≡ true = lt-ltb 0 (item - last) (omega arith) in
    let below : ltb (last + (item - last)) item_limit ≡ true = lt-ltb (last + (item - last)) item_limit (omega arith) in
    let P : Bool → Bool → Result (ℕ × List ℕ) ℕ =
    λ a b. cond (a && b) (Ok (last + (item - last), rest)) (Err (length (varbyte (item - last) ++ rest))) in
    ap (item_with last (length (varbyte (item - last) ++ rest))) (is_read 4 (item - last) rest (omega arith))
    ∙ ap (λ a. P a (ltb (last + (item - last)) item_limit)) above ∙ ap (P true) below ∙ ap (λ k. Ok (k, rest)) sum

-- an item leaves fewer bytes
pub item_shorter : (last : ℕ) (bytes : List ℕ) (item : ℕ) (rest : List ℕ) → item_at last bytes ≡ Ok (item, rest)
    → length rest < length bytes
unfolding item_at
item_shorter last bytes item rest e =
    let n = next_of last (length bytes) (number_within 5 bytes) item rest e in
    number_shorter 5 bytes (Some n.number) rest n.read

-- ---- items one after the other

within_some : (most last : ℕ) (bytes : List ℕ) (x : ℕ × List ℕ) → item_at last bytes ≡ Ok x
    → items_within (suc most) last bytes ≡ in_front x.0 (items_within most x.0 x.1)
unfolding item_at
within_some most last [] x e = absurd cc
within_some most last (b ∷ bs) x e =
    ap (λ (r : Result (ℕ × List ℕ) ℕ). r >>= λ y. in_front y.0 (items_within most y.0 y.1)) e

front_ok : (item : ℕ) (r : Result (List ℕ × List ℕ) ℕ) (is rest : List ℕ) → in_front item r ≡ Ok (is, rest)
    → (js : List ℕ) × (r ≡ Ok (js, rest)) × (is ≡ item ∷ js)
front_ok item (Ok x) is rest e =
    let firsts : (item ∷ x.0, x.1) ≡ (is, rest) = cc in
    let tails : x.1 ≡ rest = ap (λ (p : List ℕ × List ℕ). p.1) firsts in
    (x.0, ap (λ (t : List ℕ). Ok (x.0, t)) tails, sym (ap (λ (p : List ℕ × List ℕ). p.0) firsts))
front_ok item (Err left) is rest e = absurd cc

-- items that were read: their list, then the rest, of which nothing is left where fewer than so many were read
pub record TakesItems (most last : ℕ) (bytes is rest : List ℕ) : Type 0 where
  pub items : AreItemsFrom last is
  pub takes : Takes bytes (item_list_from last is) rest
  pub count : length is ≤ most
  pub all : length is < most → rest ≡ []

done : List ℕ × List ℕ → Result (List ℕ × List ℕ) ℕ
done x = Ok x

pair_is : (a b c d : List ℕ) → done (a, b) ≡ done (c, d) → (a ≡ c) × (b ≡ d)
unfolding done
pair_is a b c d e =
    let p : (a, b) ≡ (c, d) = cc in (ap (λ (p : List ℕ × List ℕ). p.0) p, ap (λ (p : List ℕ × List ℕ). p.1) p)

pub items_take : (most last : ℕ) (bytes is rest : List ℕ) → IsBytes bytes → items_within most last bytes ≡ Ok (is, rest)
    → TakesItems most last bytes is rest
unfolding done
items_take zero last bytes is rest fits e =
    let p = pair_is [] bytes is rest e in
    let here : TakesItems zero last bytes [] bytes = record {
      items = tt;
      takes = record { parts = refl; rest_fits = fits };
      count = omega arith;
      all = λ lt. absurd (omega arith);
    } in
    subst (λ (l : List ℕ). TakesItems zero last bytes l rest) p.0
    (subst (λ (l : List ℕ). TakesItems zero last bytes [] l) p.1 here)
items_take (suc most) last [] is rest fits e =
    let p = pair_is [] [] is rest e in
    let here : TakesItems (suc most) last [] [] [] = record {
      items = tt;
      takes = record { parts = refl; rest_fits = fits };
      count = omega arith;
      all = λ lt. refl;
    } in
    subst (λ (l : List ℕ). TakesItems (suc most) last [] l rest) p.0
    (subst (λ (l : List ℕ). TakesItems (suc most) last [] [] l) p.1 here)
items_take (suc most) last (b ∷ bs) is rest fits e =
    let a = bind_ok (item_at last (b ∷ bs)) (λ x. in_front x.0 (items_within most x.0 x.1)) (is, rest) e in
    let f = front_ok a.0.0 (items_within most a.0.0 a.0.1) is rest a.2 in
    let t = item_read last (b ∷ bs) a.0.0 a.0.1 fits a.1 in
    let more = items_take most a.0.0 a.0.1 f.0 rest t.takes.rest_fits f.1 in
    let here : TakesItems (suc most) last (b ∷ bs) (a.0.0 ∷ f.0) rest = record {
      items = (t.above, t.bound, more.items);
      takes = Takes-then (b ∷ bs) (varbyte (a.0.0 - last)) a.0.1 (item_list_from a.0.0 f.0) rest t.takes more.takes;
      count = omega (arith, more.count);
      all = λ lt. more.all (omega arith);
    } in
    subst (λ (l : List ℕ). TakesItems (suc most) last (b ∷ bs) l rest) (sym f.2) here

-- a list of just so many items, with others after it
pub items_again : (last : ℕ) (is rest : List ℕ) → AreItemsFrom last is
    → items_within (length is) last (item_list_from last is ++ rest) ≡ Ok (is, rest)
items_again last [] rest h = refl
items_again last (i ∷ is) rest h =
    ap (items_within (suc (length is)) last) (append_assoc (varbyte (i - last)) (item_list_from i is) rest)
    ∙ within_some (length is) last (varbyte (i - last) ++ (item_list_from i is ++ rest))
    (i, item_list_from i is ++ rest) (item_again last i (item_list_from i is ++ rest) h.0 h.1)
    ∙ ap (in_front i) (items_again i is rest h.2)

-- all of a list, of which more were wanted
pub list_again : (most last : ℕ) (is : List ℕ) → AreItemsFrom last is → length is ≤ most
    → items_within most last (item_list_from last is) ≡ Ok (is, [])
list_again zero last [] h le = refl
list_again (suc most) last [] h le = refl
list_again zero last (i ∷ is) h le = absurd (omega arith)
list_again (suc most) last (i ∷ is) h le =
    within_some most last (varbyte (i - last) ++ item_list_from i is) (i, item_list_from i is)
    (item_again last i (item_list_from i is) h.0 h.1)
    ∙ ap (in_front i) (list_again most i is h.2 (omega arith))

pub length-item_list_from : (last : ℕ) (is : List ℕ) → length is ≤ length (item_list_from last is)
length-item_list_from last [] = omega arith
length-item_list_from last (i ∷ is) = omega
    (arith, length-append (varbyte (i - last)) (item_list_from i is), some_bytes (i - last), length-item_list_from i is)

-- bytes that are the list of such items
pub is_list : (bytes items : List ℕ) → AreItems items → bytes ≡ item_list items
    → IsItemList bytes × (items_of bytes ≡ items)
is_list bytes items h e =
    let same : items_of bytes ≡ items = ap items_of e ∙ items_of-item_list items h in
    (record { items = subst AreItems (sym same) h; encoding = e ∙ ap item_list (sym same) }, same)

all_taken : (bytes is rest : List ℕ) → TakesItems (length bytes) 0 bytes is rest → rest ≡ []
all_taken bytes is [] t = refl
all_taken bytes is (b ∷ bs) t =
    let size : length bytes ≡ length (item_list_from 0 is) + suc (length bs) =
    ap length t.takes.parts ∙ length-append (item_list_from 0 is) (b ∷ bs) in
    t.all (omega (arith, size, length-item_list_from 0 is))

-- bytes that are read to their end are the list of these items
pub whole_take : (bytes is rest : List ℕ) → IsBytes bytes → items_within (length bytes) 0 bytes ≡ Ok (is, rest)
    → IsItemList bytes × (items_of bytes ≡ is)
whole_take bytes is rest fits e =
    let t = items_take (length bytes) 0 bytes is rest fits e in
    is_list bytes is t.items
    (t.takes.parts ∙ ap (λ (l : List ℕ). item_list is ++ l) (all_taken bytes is rest t) ∙ append-nil (item_list is))

-- bytes that are read as items are their list
pub found : (bytes is : List ℕ) → IsBytes bytes → items_read bytes ≡ Ok is → IsItemList bytes × (items_of bytes ≡ is)
unfolding items_read
found bytes is fits e =
    let a = bind_ok (items_within (length bytes) 0 bytes) (λ x. Ok x.0) is e in
    let l = whole_take bytes a.0.0 a.0.1 fits a.1 in
    (l.0, l.1 ∙ cc (a.2))

-- a list is read, to its end
pub whole_again : (bytes : List ℕ) → IsItemList bytes → items_within (length bytes) 0 bytes ≡ Ok (items_of bytes, [])
whole_again bytes h =
    ap (λ (l : List ℕ). items_within (length l) 0 l) h.encoding
    ∙ list_again (length (item_list (items_of bytes))) 0 (items_of bytes) h.items
    (length-item_list_from 0 (items_of bytes))

pub only : (bytes : List ℕ) → IsItemList bytes → items_read bytes ≡ Ok (items_of bytes)
unfolding items_read
only bytes h = ap (λ (r : Result (List ℕ × List ℕ) ℕ). r >>= λ x. Ok x.0) (whole_again bytes h)

clash : {A : Type 0} (r : Result A ℕ) (left : ℕ) (x : A) → r ≡ Err left → r ≡ Ok x → ⊥
clash (Ok y) left x p q = absurd cc
clash (Err l) left x p q = absurd cc

-- bytes that are no list are refused
pub refused : (bytes : List ℕ) (left : ℕ) → items_read bytes ≡ Err left → IsItemList bytes → ⊥
refused bytes left e h = clash (items_read bytes) left (items_of bytes) e (only bytes h)

pub not_whole : (bytes : List ℕ) (left : ℕ) → items_within (length bytes) 0 bytes ≡ Err left
    → items_read bytes ≡ Err left
unfolding items_read
not_whole bytes left e = ap (λ (r : Result (List ℕ × List ℕ) ℕ). r >>= λ x. Ok x.0) e

pub reading_tells : ReadingTellsItems
reading_tells bytes is fits = (λ e. found bytes is fits e, λ h. only bytes h.0 ∙ ap (λ (l : List ℕ). Ok l) h.1)

-- ---- a walk on its way

-- what was read in front of a result
abbrev pub in_front_all : List ℕ → Result (List ℕ × List ℕ) ℕ → Result (List ℕ × List ℕ) ℕ
in_front_all [] r = r
in_front_all (i ∷ is) r = in_front i (in_front_all is r)

pub record IsReading (most : ℕ) (bytes rest : List ℕ) (last count : ℕ) : Type 0 where
  pub given : List ℕ
  pub same : in_front_all given (items_within (most - count) last rest) ≡ items_within most 0 bytes
  pub counted : count ≡ length given
  pub ends : last ≡ last_or 0 given
  pub within : length rest ≤ length bytes
  pub few : count ≤ most

pub reading_starts : (most : ℕ) (bytes : List ℕ) → IsReading most bytes bytes 0 0
reading_starts most bytes = record {
  given = [];
  same = ap (λ n. items_within n 0 bytes) (omega arith);
  counted = refl;
  ends = refl;
  within = omega arith;
  few = omega arith;
}

front_more : (given : List ℕ) (item : ℕ) (r : Result (List ℕ × List ℕ) ℕ)
    → in_front_all (given ++ item ∷ []) r ≡ in_front_all given (in_front item r)
front_more [] item r = refl
front_more (g ∷ given) item r = ap (in_front g) (front_more given item r)

pub last_of-more : (last : ℕ) (given : List ℕ) (item : ℕ) → last_or last (given ++ item ∷ []) ≡ item
last_of-more last [] item = refl
last_of-more last (g ∷ given) item = last_of-more g given item

pub reading_goes_on : (most : ℕ) (bytes rest : List ℕ) (last count item : ℕ) (after : List ℕ)
    → IsReading most bytes rest last count → count < most → item_at last rest ≡ Ok (item, after)
    → IsReading most bytes after item (count + 1)
reading_goes_on most bytes rest last count item after k lt r =
    let left : most - count ≡ suc (most - (count + 1)) = omega arith in
    let one : items_within (most - count) last rest ≡ in_front item (items_within (most - (count + 1)) item after) =
    ap (λ n. items_within n last rest) left ∙ within_some (most - (count + 1)) last rest (item, after) r in
    record {
      given = k.given ++ item ∷ [];
      same = front_more k.given item (items_within (most - (count + 1)) item after)
          ∙ ap (in_front_all k.given) (sym one) ∙ k.same;
      counted = omega (arith, k.counted, length-append k.given (item ∷ []));
      ends = sym (last_of-more 0 k.given item);
      within = omega (arith, k.within, item_shorter last rest item after r);
      few = omega arith;
    }

front_all_ok : (given is rest : List ℕ) → in_front_all given (Ok (is, rest)) ≡ Ok (given ++ is, rest)
front_all_ok [] is rest = refl
front_all_ok (g ∷ given) is rest = ap (in_front g) (front_all_ok given is rest)

front_all_err : (given : List ℕ) (left : ℕ) → in_front_all given (Err left) ≡ Err left
front_all_err [] left = refl
front_all_err (g ∷ given) left = ap (in_front g) (front_all_err given left)

nothing_more : (left last : ℕ) (rest : List ℕ) → (0 < left → rest ≡ []) → items_within left last rest ≡ Ok ([], rest)
nothing_more zero last rest none = refl
nothing_more (suc left) last rest none =
    ap (items_within (suc left) last) (none (omega arith)) ∙ ap (λ (l : List ℕ). Ok ([], l)) (sym (none (omega arith)))

pub record HasRead (most : ℕ) (bytes rest : List ℕ) (last count : ℕ) : Type 0 where
  pub given : List ℕ
  pub same : items_within most 0 bytes ≡ Ok (given, rest)
  pub counted : count ≡ length given
  pub ends : last ≡ last_or 0 given

pub reading_ends : (most : ℕ) (bytes rest : List ℕ) (last count : ℕ) → IsReading most bytes rest last count
    → (count < most → rest ≡ []) → HasRead most bytes rest last count
reading_ends most bytes rest last count k none =
    record {
      given = k.given;
      same = sym k.same ∙ ap (in_front_all k.given) (nothing_more (most - count) last rest (λ lt. none (omega arith)))
          ∙ front_all_ok k.given [] rest ∙ ap (λ (l : List ℕ). Ok (l, rest)) (append-nil k.given);
      counted = k.counted;
      ends = k.ends;
    }

within_fails : (n last left : ℕ) (rest : List ℕ) → 0 < n → 0 < length rest → item_at last rest ≡ Err left
    → items_within n last rest ≡ Err left
within_fails zero last left rest some more r = absurd (omega arith)
within_fails (suc n) last left [] some more r = absurd (omega arith)
within_fails (suc n) last left (b ∷ bs) some more r =
    ap (λ (q : Result (ℕ × List ℕ) ℕ). q >>= λ y. in_front y.0 (items_within n y.0 y.1)) r

pub reading_fails : (most : ℕ) (bytes rest : List ℕ) (last count left : ℕ) → IsReading most bytes rest last count
    → count < most → 0 < length rest → item_at last rest ≡ Err left → items_within most 0 bytes ≡ Err left
reading_fails most bytes rest last count left k lt some r =
    sym k.same ∙ ap (in_front_all k.given) (within_fails (most - count) last left rest (omega arith) some r)
    ∙ front_all_err k.given left

-- what a test for no bytes says
pub some_left : (xs : List ℕ) (b : Bool) → b ≡ false → b ≡ eqb (length xs) 0 → 0 < length xs
some_left [] b p q = absurd (cc (p, q))
some_left (x ∷ xs) b p q = omega arith

pub none_left : (xs : List ℕ) (b : Bool) → b ≡ true → b ≡ eqb (length xs) 0 → xs ≡ []
none_left xs b p q = nil_from_length xs (eqb-true _ _ (sym q ∙ p))
