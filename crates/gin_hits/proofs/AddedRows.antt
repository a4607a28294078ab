-- What a row adds to the items that are noted.
use Rattle.std.proofs.Common.{◌≡◌, ℕ, ◌+◌, ◌<◌, ◌≤◌, Bool, true, false, cond, List, [], ◌∷◌, ◌++◌, length}
use Rattle.std.proofs.Common.{map, take, set, get_or}
use Rattle.std.proofs.Common.{Some, None, refl, sym, ap, ap₂, subst, ◌∙◌, arith, slice_get}
use Rattle.std.proofs.lemmas.List.{append_assoc, take_more, get_or_default}
use Rattle.std.specs.Prelude.{Vec, Option, IfNone}
use Rattle.std.specs.List.{list_any}
use Rattle.std.specs.declared.alloc.Global.{Global}
use Rattle.std.proofs.lemmas.Option.{get_or_from_slice_get, slice_get_within}
use Rattle.page_types.specs.declared.page.Row.{Row}
use Rattle.gin_opclass.specs.Class.{Asked}
use Rattle.core_moments.specs.Judging.{fits_asked}
use Rattle.gin_hits.specs.Rows.{asked_for, asked_by, has_fitting, items_of, items_with, lists_of, AreNoted}
use Rattle.gin_hits.specs.declared.hits.Hits.{Hits}
use Rattle.gin_hits.proofs.AddedLists as all
use Rattle.gin_hits.proofs.Noted.{items_more, with_more}

-- what a row adds for a key that is asked
abbrev pub adds_for : Row → Asked → List ℕ
adds_for row a = items_with a (row ∷ [])

-- the lists of these keys with the item of a row more, each where one of its keys fits
abbrev pub added : List Asked → Row → List (List ℕ) → List (List ℕ)
added as' row ls = all.added (adds_for row) as' ls

one_with : (a : Asked) (row : Row) (b : Bool) → has_fitting a row ≡ b
    → items_with a (row ∷ []) ≡ cond b (row.item ∷ []) []
one_with a row true e = ap (λ (c : Bool). items_of (cond c (row ∷ []) [])) e
one_with a row false e = ap (λ (c : Bool). items_of (cond c (row ∷ []) [])) e

-- ── in vectors ──

module _ (asked : List (Vec ℕ Global × Bool)) (row : Row) (old : List (List ℕ)) (now : Hits) (k : ℕ)
    (a : Vec ℕ Global × Bool) (lt : k < length asked) (key : a ≡ get_or asked k a)
    (lists : length now.by_key.items ≡ length asked)
    (was : lists_of now ≡ added (take k (map asked_by asked)) row old) where
  pub step_fitting : (v w : Vec ℕ Global) (new : Hits) → v ≡ get_or now.by_key.items k v
      → w.items ≡ v.items ++ row.item ∷ [] → has_fitting (asked_by a) row ≡ true
      → new.by_key.items ≡ set now.by_key.items k w → lists_of new ≡ added (take (k + 1) (map asked_by asked)) row old
  step_fitting v w new e items fits same =
      all.step_some (adds_for row) asked old now k a lt key lists was (row.item ∷ []) v w new e items
      (one_with (asked_by a) row true fits) same

  pub step_other : has_fitting (asked_by a) row ≡ false
      → lists_of now ≡ added (take (k + 1) (map asked_by asked)) row old
  step_other off = all.step_none (adds_for row) asked old now k a lt key lists was (one_with (asked_by a) row false off)

  -- the test of the key
  pub fits_told : (r : Bool) (b : Vec ℕ Global × Bool) (bytes : List ℕ) → b ≡ get_or asked k b → bytes ≡ a.0.items
      → r ≡ list_any (fits_asked (asked_for bytes b.1)) row.keys → has_fitting (asked_by a) row ≡ r
  fits_told r b bytes other same told =
      let one : b ≡ a = other ∙ get_or_default asked k b a lt ∙ sym key in
      sym (told ∙ ap₂ (λ (x : List ℕ) (y : Bool). list_any (fits_asked (asked_for x y)) row.keys) same
      (ap (λ (z : Vec ℕ Global × Bool). z.1) one))

-- ── all keys ──

rows_added : (as' : List Asked) (rows : List Row) (row : Row)
    → added as' row (map (λ (a : Asked). items_with a rows) as')
    ≡ map (λ (a : Asked). items_with a (rows ++ row ∷ [])) as'
rows_added as' rows row =
    all.all_added (adds_for row) (λ (a : Asked). items_with a rows) as' ∙ same as'
  where
    same : (bs : List Asked) → map (λ (a : Asked). items_with a rows ++ adds_for row a) bs
        ≡ map (λ (a : Asked). items_with a (rows ++ row ∷ [])) bs
    same [] = refl
    same (b ∷ bs) = ap₂ (λ (x : List ℕ) (xs : List (List ℕ)). x ∷ xs) (sym (with_more b rows (row ∷ []))) (same bs)

-- a row more is noted
pub noted_row : (asked : List Asked) (rows : List Row) (row : Row) (old new : Hits)
    → new.any.items ≡ old.any.items ++ row.item ∷ [] → lists_of new ≡ added asked row (lists_of old)
    → AreNoted asked rows old → AreNoted asked (rows ++ row ∷ []) new
noted_row asked rows row old new any lists noted = record {
  any = any ∙ ap (λ (is : List ℕ). is ++ row.item ∷ []) noted.any ∙ sym (items_more rows (row ∷ []));
  by_key = lists ∙ ap (added asked row) noted.by_key ∙ rows_added asked rows row;
}

-- so of the first so many rows
pub noted_next : (asked : List Asked) (before rows : List Row) (row : Row) (k : ℕ) (new : Hits)
    → slice_get rows k ≡ Some row → AreNoted asked ((before ++ take k rows) ++ row ∷ []) new
    → AreNoted asked (before ++ take (k + 1) rows) new
noted_next asked before rows row k new e noted =
    subst (λ (rs : List Row). AreNoted asked rs new)
    (append_assoc before (take k rows) (row ∷ [])
    ∙ ap (λ (rs : List Row). before ++ rs) (
    ap (λ (r : Row). take k rows ++ r ∷ []) (sym (get_or_from_slice_get rows k row row e))
    ∙ sym (take_more rows k row (slice_get_within rows k row e))
    ))
    noted

-- there is a row with each number below the count
pub some_row : {A : Type 0} (o : Option A) (n k : ℕ) → ((x : A) → o ≡ Some x → ⊥) → IfNone o (n ≤ k) → k < n → ⊥
some_row None n k off none lt = omega (arith, none, lt)
some_row (Some x) n k off none lt = off x refl
