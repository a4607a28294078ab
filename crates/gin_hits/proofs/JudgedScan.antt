-- What a scan keeps once it has judged all items is what the walk keeps.
use Rattle.std.proofs.Common.{◌≡◌, ◌⊎◌, ◌↔◌, ℕ, zero, suc, ◌<◌, Bool, true, false, ◌&&◌, ◌||◌, not, IsTrue, nat_eq}
use Rattle.std.proofs.Common.{List, [], ◌∷◌}
use Rattle.std.proofs.Common.{length, map, Option, Some, refl, sym, ap, subst, inl, inr, arith, slice_get, All}
use Rattle.std.proofs.Common.{AllPairs}
use Rattle.std.proofs.lemmas.List.{length-map}
use Rattle.std.specs.List.{list_any}
use Rattle.std.proofs.lemmas.List.Kept.{AllPairs-cons}
use Rattle.std.proofs.lemmas.Option.{slice_get_within}
use Rattle.core_state.specs.Readings.{Read}
use Rattle.core_state.specs.Log.{In}
use Rattle.gin_opclass.specs.Class.{Asked, Meaning, JudgeIsSound}
use Rattle.core_moments.specs.Walk.{Walk}
use Rattle.core_moments.specs.Judging.{met, pending_has, main_read, main_has, is_exception, fits_asked, IsKept}
use Rattle.core_moments.proofs.Words.{and_true}
use Rattle.core_moments.proofs.Walks.{any_true, any_in}
use Rattle.gin_hits.specs.Rows.{lists_of}
use Rattle.gin_hits.specs.Entries.{listed as items_of, entries_with, entries_read, HaveTrees}
use Rattle.gin_hits.specs.Sides.{Side, pending_side, main_side, TellOf, TellOfWalk, InLists, MayBeKept, WasRead}
use Rattle.gin_hits.specs.Sides.{AreKeptOf}
use Rattle.gin_hits.specs.Sides.{AreKept}
use Rattle.gin_hits.specs.declared.hits.Hits.{Hits}
use Rattle.gin_hits.proofs.NotedEntries.{read_noted, main_noted, joined_in, in_joined, passed}
use Rattle.gin_hits.proofs.Verdicts.{exception_met, some_has, kept_from, kept_to, kept_sure}

or_either : (a b : Bool) → (a || b) ≡ true → (a ≡ true) ⊎ (b ≡ true)
or_either true b e = inl refl
or_either false b e = inr e

pub in_all : {A : Type 0} (P : A → Type 0) (xs : List A) → ((x : A) → In x xs → P x) → All P xs
in_all P [] f i d l = absurd (omega (arith, l))
in_all P (x ∷ xs) f zero d l = f x (inl refl)
in_all P (x ∷ xs) f (suc i) d l = in_all P xs (λ y m. f y (inr m)) i d (omega (arith, l))

pub all_at : {A : Type 0} (P : A → Type 0) (xs : List A) → All P xs → (x : A) → In x xs → P x
all_at P [] h x i = absurd i
all_at P (y ∷ ys) h x (inl e) = subst P (sym e) (h zero y (omega arith))
all_at P (y ∷ ys) h x (inr i) = all_at P ys (λ k d l. h (suc k) d (omega (arith, l))) x i

-- the number of an element
pub number_of : {A : Type 0} (x : A) (xs : List A) → In x xs → (k : ℕ) × (slice_get xs k ≡ Some x)
number_of x [] i = absurd i
number_of x (y ∷ ys) (inl e) = (zero, ap Some (sym e))
number_of x (y ∷ ys) (inr i) = let f = number_of x ys i in (suc f.0, f.1)

pub element_in : {A : Type 0} (x : A) (xs : List A) (k : ℕ) → slice_get xs k ≡ Some x → In x xs
element_in x [] k e = absurd (let z : ⊥ = cc in z)
element_in x (y ∷ ys) zero e = inl (let z : y ≡ x = cc in sym z)
element_in x (y ∷ ys) (suc k) e = inr (element_in x ys k e)

-- there is an element with each number below the length
pub element_at : {A : Type 0} (xs : List A) (k : ℕ) → k < length xs → (x : A) × (slice_get xs k ≡ Some x)
element_at [] k l = absurd (omega (arith, l))
element_at (x ∷ xs) zero l = (x, refl)
element_at (x ∷ xs) (suc k) l = element_at xs k (omega (arith, l))

-- a key that fits is one of a row that was met
has_is_met : (w : Walk) (i : ℕ) (a : Asked) → pending_has w i a ≡ true → met w i ≡ true
has_is_met w i a e =
    let x = any_in (λ x. list_any (λ row. nat_eq row.item i && list_any (fits_asked a) row.keys)
    (Rattle.page_types.specs.Views.kept_rows_of x.content)) w.pending e in
    let r = any_in (λ row. nat_eq row.item i && list_any (fits_asked a) row.keys)
    (Rattle.page_types.specs.Views.kept_rows_of x.0.content) x.2 in
    any_true (λ y. list_any (λ row. nat_eq row.item i) (Rattle.page_types.specs.Views.kept_rows_of y.content)) x.0
    w.pending x.1 (any_true (λ row. nat_eq row.item i) r.0 (Rattle.page_types.specs.Views.kept_rows_of x.0.content)
    r.1 (and_true (nat_eq r.0.item i) (list_any (fits_asked a) r.0.keys) r.2).0)

-- an item that has a key in the main part was read there
has_is_read : (Is : ℕ → List Read → Type 0) (w : Walk) (i : ℕ) → HaveTrees Is w.keys → (a : Asked)
    → main_has w i a ≡ true → main_read w i ≡ true
has_is_read Is w i trees a e =
    let es = entries_read w.keys in
    let f = joined_in items_of i (entries_with (fits_asked a) es) ((main_noted Is w i trees a).1 e) in
    (read_noted Is w i trees).0
    (in_joined items_of i f.0 es (passed (fits_asked a) f.0 es f.1).0 f.2)

module _ {Q : Type 0} (M : Meaning Q) (q : Q) (w : Walk) (pending main : Hits) (first : Option ℕ)
    (told : TellOfWalk (M.asked q) w pending main first)
    (Is : ℕ → List Read → Type 0) (trees : HaveTrees Is w.keys) where
  lists_count : (h : Hits) → length (lists_of h) ≡ length h.by_key.items
  lists_count h = length-map h.by_key.items _

  -- the key that a list of the side is of
  key_of : (side : Side) (h : Hits) → TellOf (M.asked q) side h → (i : ℕ) → InLists i h
      → (a : Asked) × IsTrue (side.has i a)
  key_of side h t i m =
      let k = number_of m.0 (lists_of h) m.1 in
      let a = element_at (M.asked q) k.0
      (omega (arith, slice_get_within (lists_of h) k.0 m.0 k.1, lists_count h, t.count)) in
      (a.0, ((t.by_key k.0 a.0 m.0 a.1 k.1).just i).0 m.2)

  -- the list of a key that is asked
  list_of : (side : Side) (h : Hits) → TellOf (M.asked q) side h → (i : ℕ) (a : Asked) → In a (M.asked q)
      → IsTrue (side.has i a) → InLists i h
  list_of side h t i a m e =
      let k = number_of a (M.asked q) m in
      let l = element_at (lists_of h) k.0
      (omega (arith, slice_get_within (M.asked q) k.0 a k.1, lists_count h, t.count)) in
      (l.0, element_in l.0 (lists_of h) k.0 l.1, ((t.by_key k.0 a l.0 k.1 l.1).just i).1 e)

  -- each item that may be kept was read
  pub may_was_read : (all : Bool) (i : ℕ) → MayBeKept all pending main i → WasRead w i
  may_was_read true i (inl m) = inl ((told.pending_told.any i).0 m)
  may_was_read true i (inr m) = inr ((told.main_told.any i).0 m)
  may_was_read false i (inl m) =
      let f = key_of (pending_side w) pending told.pending_told i m in inl (has_is_met w i f.0 f.1)
  may_was_read false i (inr m) =
      let f = key_of (main_side w) main told.main_told i m in inr (has_is_read Is w i trees f.0 f.1)

  -- each that is kept may be
  pub kept_may : JudgeIsSound M → (all : Bool) → M.all q ≡ all → (i : ℕ) → IsKept M q w i → MayBeKept all pending main i
  kept_may S true e i (IsKept.by_pending m j) = inl ((told.pending_told.any i).1 m)
  kept_may S true e i (IsKept.by_main m j) =
      elim (or_either (is_exception w i) (not (met w i) && main_read w i) m) [
        | inl f ↦ inl ((told.pending_told.any i).1 (exception_met i w.pending f))
        | inr f ↦ inr ((told.main_told.any i).1 (and_true (not (met w i)) (main_read w i) f).1)
      ]
  kept_may S false e i (IsKept.by_pending m j) =
      let f = some_has M S q (pending_has w i) e j in
      inl (list_of (pending_side w) pending told.pending_told i f.0 f.1 f.2)
  kept_may S false e i (IsKept.by_main m j) =
      let f = some_has M S q (main_has w i) e j in
      inr (list_of (main_side w) main told.main_told i f.0 f.1 f.2)

  kept_rise : (is : List ℕ) (kept : List (ℕ × Bool)) → AllPairs (λ (i j : ℕ). i < j) is → AreKeptOf M q w is kept
      → AllPairs (λ (a b : ℕ × Bool). a.0 < b.0) kept
  kept_rise [] kept rise e =
      subst (AllPairs (λ (a b : ℕ × Bool). a.0 < b.0)) (sym e) (λ i j d lt within. absurd (omega (arith, lt, within)))
  kept_rise (i ∷ is) kept rise (inl f) =
      subst (AllPairs (λ (a b : ℕ × Bool). a.0 < b.0)) (sym f.1.2)
      (AllPairs-cons (λ (a b : ℕ × Bool). a.0 < b.0) (i, f.1.0) f.1.1
      (in_all (λ (b : ℕ × Bool). i < b.0) f.1.1 (λ b m. all_at (λ (j : ℕ). i < j) is
      (λ k d l. rise zero (suc k) d (omega arith) (omega (arith, l))) b.0
      (kept_from M q w is f.1.1 f.1.4 b.0 (in_map b f.1.1 m)).0))
      (kept_rise is f.1.1 (λ k l d lt within. rise (suc k) (suc l) d (omega (arith, lt)) (omega (arith, within)))
      f.1.4))
    where
      in_map : (b : ℕ × Bool) (ks : List (ℕ × Bool)) → In b ks → In b.0 (map (λ (k : ℕ × Bool). k.0) ks)
      in_map b [] m = absurd m
      in_map b (k ∷ ks) (inl e) = inl (ap (λ (z : ℕ × Bool). z.0) e)
      in_map b (k ∷ ks) (inr m) = inr (in_map b ks m)
  kept_rise (i ∷ is) kept rise (inr f) =
      kept_rise is kept (λ k l d lt within. rise (suc k) (suc l) d (omega (arith, lt)) (omega (arith, within))) f.1

  -- what is kept of all items that may be is what the walk keeps
  pub are_kept : JudgeIsSound M → (all : Bool) → M.all q ≡ all → (items : List ℕ) (kept : List (ℕ × Bool))
      → AllPairs (λ (i j : ℕ). i < j) items → ((i : ℕ) → In i items ↔ MayBeKept all pending main i)
      → AreKeptOf M q w items kept → AreKept M q w kept
  are_kept S all e items kept rise just of' = record {
    rising = kept_rise items kept rise of';
    just = λ i. (
      (λ m. (kept_from M q w items kept of' i m).1),
      (λ k. kept_to M q w items kept of' i ((just i).1 (kept_may S all e i k)) k),
    );
    sure = λ k m. kept_sure M q w items kept of' k m;
  }
