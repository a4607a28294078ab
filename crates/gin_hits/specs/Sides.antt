-- The two sides of the index, and what items are judged by each.
use Rattle.std.specs.Prelude.{◌≡◌, ◌≢◌, ◌⊎◌, ◌↔◌, ℕ, ◌<◌, ◌≤◌, Bool, true, false, IsTrue, Option, Some, List, [], ◌∷◌}
use Rattle.std.specs.Prelude.{length, map}
use Rattle.std.specs.List.{slice_get, All, AllPairs}
use Rattle.ts_base.specs.declared.Tri.{Tri}
use Rattle.ts_base.specs.declared.Tri.TheVariants.{False, True}
use Rattle.core_state.specs.Log.{In}
use Rattle.gin_opclass.specs.Class.{Asked, Meaning}
use Rattle.core_moments.specs.Walk.{Walk}
use Rattle.core_moments.specs.Judging.{met, pending_has, main_read, main_has, values, IsKept, HasYes}
use Rattle.gin_hits.specs.Rows.{lists_of, first_read}
use Rattle.gin_hits.specs.declared.hits.Hits.{Hits}
use Rattle.gin_hits.specs.declared.judged.Verdict.{Verdict}

-- what a walk has read on one side of the index: whether an item was met there, and under which of the
-- keys that are asked
pub record Side : Type 0 where
  pub met : ℕ → Bool
  pub has : ℕ → Asked → Bool

abbrev pub pending_side : Walk → Side
pending_side w = record { met = met w; has = pending_has w }

abbrev pub main_side : Walk → Side
main_side w = record { met = main_read w; has = main_has w }

-- the item was read in the walk, on one side or the other
abbrev pub WasRead : Walk → ℕ → Type 0
WasRead w i = IsTrue (met w i) ⊎ IsTrue (main_read w i)

-- one of the lists has the item
abbrev pub InLists : ℕ → Hits → Type 0
InLists i h = (items : List ℕ) × In items (lists_of h) × In i items

-- an item that may be kept: where the whole index was read one that was read, else one with a key that
-- fits
abbrev pub MayBeKept : Bool → Hits → Hits → ℕ → Type 0
MayBeKept true pending main i = In i pending.any.items ⊎ In i main.any.items
MayBeKept false pending main i = InLists i pending ⊎ InLists i main

-- a list in order, with just the items that pass the test
pub record IsListOf (test : ℕ → Bool) (items : List ℕ) : Type 0 where
  pub in_order : AllPairs (λ (i j : ℕ). i ≤ j) items
  pub just : (i : ℕ) → In i items ↔ IsTrue (test i)

-- the list of each key is in order
abbrev pub AreInOrder : Hits → Type 0
AreInOrder h = All (λ (items : List ℕ). AllPairs (λ (i j : ℕ). i ≤ j) items) (lists_of h)

-- the same items, list by list
pub record HaveSame (old new : Hits) : Type 0 where
  pub any : (i : ℕ) → In i new.any.items ↔ In i old.any.items
  pub by_key : (k : ℕ) (xs ys : List ℕ) → slice_get (lists_of old) k ≡ Some xs
      → slice_get (lists_of new) k ≡ Some ys → (i : ℕ) → In i ys ↔ In i xs

-- the lists have just what was read on the side, those of keys in order
pub record TellOf (asked : List Asked) (side : Side) (h : Hits) : Type 0 where
  pub count : length h.by_key.items ≡ length asked
  pub any : (i : ℕ) → In i h.any.items ↔ IsTrue (side.met i)
  pub by_key : (k : ℕ) (a : Asked) (items : List ℕ) → slice_get asked k ≡ Some a
      → slice_get (lists_of h) k ≡ Some items → IsListOf (λ (i : ℕ). side.has i a) items

-- the lists tell of a walk, and so does the item of the first row
pub record TellOfWalk (asked : List Asked) (w : Walk) (pending main : Hits) (first : Option ℕ) : Type 0 where
  pub pending_told : TellOf asked (pending_side w) pending
  pub main_told : TellOf asked (main_side w) main
  pub first_told : first ≡ first_read w.pending

module _ {Q : Type 0} (M : Meaning Q) (q : Q) where
  -- the verdict by one side, where an absent key counts as this for a yes
  pub record IsVerdictBy (side : Side) (i : ℕ) (absent : Tri) (v : Verdict) : Type 0 where
    pub kept : IsTrue v.kept ↔ (M.judged q (values (side.has i) False (M.asked q)) ≢ False)
    pub yes : IsTrue v.yes ↔ (M.judged q (values (side.has i) absent (M.asked q)) ≡ True)

  -- the verdict by one side alone: of what is left out it doesn't say whether there is a yes
  pub record IsVerdictAlone (side : Side) (i : ℕ) (absent : Tri) (v : Verdict) : Type 0 where
    pub kept : IsTrue v.kept ↔ (M.judged q (values (side.has i) False (M.asked q)) ≢ False)
    pub yes : IsTrue v.kept → IsTrue v.yes ↔ (M.judged q (values (side.has i) absent (M.asked q)) ≡ True)

  -- the verdict on an item that was read in a walk
  pub record IsVerdict (w : Walk) (i : ℕ) (v : Verdict) : Type 0 where
    pub kept : IsTrue v.kept ↔ IsKept M q w i
    pub yes : IsTrue v.kept → IsTrue v.yes ↔ HasYes M q w i

  -- of these items, which were read in a walk, those that are kept, in their order, each with whether it
  -- satisfies the query for sure
  abbrev pub AreKeptOf : Walk → List ℕ → List (ℕ × Bool) → Type 0
  AreKeptOf w [] kept = kept ≡ []
  AreKeptOf w (i ∷ is) kept =
      (IsKept M q w i × ((sure : Bool) × (rest : List (ℕ × Bool)) × (kept ≡ (i, sure) ∷ rest)
      × (IsTrue sure ↔ HasYes M q w i) × AreKeptOf w is rest))
      ⊎ (¬ IsKept M q w i × AreKeptOf w is kept)

  -- these are the items that are kept, rising, each with whether it satisfies the query for sure
  pub record AreKept (w : Walk) (kept : List (ℕ × Bool)) : Type 0 where
    pub rising : AllPairs (λ (a b : ℕ × Bool). a.0 < b.0) kept
    pub just : (i : ℕ) → In i (map (λ (k : ℕ × Bool). k.0) kept) ↔ IsKept M q w i
    pub sure : (k : ℕ × Bool) → In k kept → IsTrue k.1 ↔ HasYes M q w k.0
