-- What a walk knows of an item, and how the item is judged. All of it computes, since a walk is
-- finite.
use Rattle.std.specs.Prelude.{◌≡◌, ◌≢◌, ℕ, Bool, true, false, cond, not, ◌&&◌, ◌||◌, nat_eq, IsTrue, List, [], ◌∷◌, map}
use Rattle.std.specs.List.{list_any}
use Rattle.ts_base.specs.Keys.{Key}
use Rattle.ts_base.specs.declared.Tri.{Tri}
use Rattle.ts_base.specs.declared.Tri.TheVariants.{False, Maybe, True}
use Rattle.page_types.specs.declared.page.Row.{Row}
use Rattle.page_types.specs.declared.page.Entry.{Entry}
use Rattle.page_types.specs.declared.page.Postings.{Postings}
use Rattle.page_types.specs.declared.page.Postings.TheVariants.{Inline, Root}
use Rattle.page_types.specs.Items.{items_of}
use Rattle.page_types.specs.Views.{entries_of, kept_rows_of, posting_items_in}
use Rattle.core_state.specs.Readings.{Read}
use Rattle.gin_opclass.specs.Class.{Asked, Meaning}
use Rattle.core_moments.specs.Walk.{Sought, Walk, fits, sought_of}

abbrev pub fits_asked : Asked → Key → Bool
fits_asked a k = fits (sought_of a) k

abbrev pub on_rows : (Row → Bool) → Walk → Bool
on_rows test w = list_any (λ x. list_any test (kept_rows_of x.content)) w.pending

-- a row with the item was read on a pending page; and with a key that fits
abbrev pub met : Walk → ℕ → Bool
met w i = on_rows (λ row. nat_eq row.item i) w

abbrev pub pending_has : Walk → ℕ → Asked → Bool
pending_has w i a = on_rows (λ row. nat_eq row.item i && list_any (fits_asked a) row.keys) w

-- the item of the first row on the first pending page
abbrev pub starts_row : ℕ → List Row → Bool
starts_row i [] = false
starts_row i (row ∷ rows) = nat_eq row.item i

abbrev pub starts_page : ℕ → List Read → Bool
starts_page i [] = false
starts_page i (x ∷ xs) = starts_row i (kept_rows_of x.content)

abbrev pub is_exception : Walk → ℕ → Bool
is_exception w i = starts_page i w.pending

-- the item was read under one entry, inline or in its posting tree
abbrev pub under_entry : (Key → Bool) → ℕ → Key → Bool → Postings → List (List Read)
    → (List (List Read) → Bool) → Bool
under_entry test i k true (Inline bytes) ts rest =
    (test k && list_any (nat_eq i) (items_of bytes)) || rest ts
under_entry test i k true (Root r) [] rest = false
under_entry test i k true (Root r) (t ∷ ts') rest =
    (test k && list_any (λ x. list_any (nat_eq i) (posting_items_in x.content.body)) t) || rest ts'
under_entry test i k false p ts rest = rest ts

-- the item was read in the leaf under a key that is sought and passes the test
abbrev pub under : Sought → (Key → Bool) → ℕ → List Entry → List (List Read) → Bool
under s test i [] ts = false
under s test i (e ∷ es) ts = under_entry test i e.key (fits s e.key) e.postings ts (under s test i es)

abbrev pub in_leaves : (Key → Bool) → Walk → ℕ → Bool
in_leaves test w i =
    list_any (λ k. list_any (λ l. under k.sought test i (entries_of l.leaf.content) l.trees) k.leaves)
    w.keys

abbrev pub main_read : Walk → ℕ → Bool
main_read w i = in_leaves (λ k. true) w i

abbrev pub main_has : Walk → ℕ → Asked → Bool
main_has w i a = in_leaves (fits_asked a) w i

-- True for a key that is there, else what an absent key counts as
abbrev pub values : (Asked → Bool) → Tri → List Asked → List Tri
values has absent asked = map (λ a. cond (has a) True absent) asked

-- judged in the main part: the exception, and what was not met but read there
abbrev pub in_main : Walk → ℕ → Bool
in_main w i = is_exception w i || (not (met w i) && main_read w i)

module _ {Q : Type 0} (M : Meaning Q) (q : Q) (w : Walk) (i : ℕ) where
  -- some judging in order to leave it out did not answer False
  pub data IsKept : Type 0 where
    by_pending : IsTrue (met w i) → M.judged q (values (pending_has w i) False (M.asked q)) ≢ False → IsKept
    by_main : IsTrue (in_main w i) → M.judged q (values (main_has w i) False (M.asked q)) ≢ False → IsKept

  -- a yes without its vector
  pub data HasYes : Type 0 where
    by_pending : IsTrue (met w i)
        → M.judged q (values (pending_has w i) (cond (is_exception w i) Maybe False) (M.asked q))
        ≡ True → HasYes
    by_main : IsTrue (in_main w i)
        → M.judged q (values (main_has w i) Maybe (M.asked q)) ≡ True → HasYes
