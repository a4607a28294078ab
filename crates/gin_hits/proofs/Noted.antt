-- What is noted of rows says what a walk knows of their items.
use Rattle.std.proofs.Common.{◌≡◌, ◌↔◌, ℕ, Bool, true, false, cond, ◌&&◌, nat_eq, List, [], ◌∷◌, ◌++◌, refl, sym, ap}
use Rattle.std.proofs.Common.{ap₂, subst}
use Rattle.std.proofs.Common.{◌∙◌, inl, inr}
use Rattle.std.specs.List.{list_any, filter}
use Rattle.std.proofs.lemmas.List.{map-append, append-nil}
use Rattle.std.proofs.lemmas.Grind.{flat_map-append}
use Rattle.std.proofs.lemmas.List.Elements.{filter-append}
use Rattle.page_types.specs.declared.page.Row.{Row}
use Rattle.page_types.specs.Views.{kept_rows_of}
use Rattle.core_state.specs.Log.{In}
use Rattle.core_state.specs.Readings.{Read}
use Rattle.core_state.proofs.PageLists.{in_front, in_back, in_either}
use Rattle.gin_opclass.specs.Class.{Asked}
use Rattle.core_moments.specs.Walk.{Walk}
use Rattle.core_moments.specs.Judging.{fits_asked, met, pending_has}
use Rattle.core_moments.proofs.Walks.{any_true, any_in}
use Rattle.core_moments.proofs.Words.{and_true, number_itself, same_number}
use Rattle.gin_hits.specs.Rows.{has_fitting, items_of, items_with, rows_read}

-- ── the rows of one page more ──

pub rows_more : (xs : List Read) (x : Read) → rows_read (xs ++ x ∷ []) ≡ rows_read xs ++ kept_rows_of x.content
rows_more xs x =
    flat_map-append (λ (y : Read). kept_rows_of y.content) xs (x ∷ [])
    ∙ ap (λ (zs : List Row). rows_read xs ++ zs) (append-nil (kept_rows_of x.content))

pub items_more : (rows more : List Row) → items_of (rows ++ more) ≡ items_of rows ++ items_of more
items_more rows more = map-append (λ (r : Row). r.item) rows more

pub with_more : (a : Asked) (rows more : List Row)
    → items_with a (rows ++ more) ≡ items_with a rows ++ items_with a more
with_more a rows more =
    ap items_of (filter-append (has_fitting a) rows more)
    ∙ items_more (filter (has_fitting a) rows) (filter (has_fitting a) more)

-- ── items and rows ──

pub item_in : (row : Row) (rows : List Row) → In row rows → In row.item (items_of rows)
item_in row [] i = absurd i
item_in row (r ∷ rs) (inl e) = inl (ap (λ (z : Row). z.item) e)
item_in row (r ∷ rs) (inr i) = inr (item_in row rs i)

pub row_of_item : (i : ℕ) (rows : List Row) → In i (items_of rows) → (row : Row) × In row rows × (row.item ≡ i)
row_of_item i [] m = absurd m
row_of_item i (r ∷ rs) (inl e) = (r, inl refl, sym e)
row_of_item i (r ∷ rs) (inr m) = let f = row_of_item i rs m in (f.0, inr f.1, f.2)

module _ (p : Row → Bool) where
  filter_at : (r : Row) (rs : List Row) (b : Bool) → p r ≡ b
      → filter p (r ∷ rs) ≡ cond b (r ∷ filter p rs) (filter p rs)
  filter_at r rs b e = ap (λ (c : Bool). cond c (r ∷ filter p rs) (filter p rs)) e

  pub filtered_in : (row : Row) (rows : List Row) → In row rows → p row ≡ true → In row (filter p rows)
  filtered_in row [] i e = absurd i
  filtered_in row (r ∷ rs) i e = by (p r) refl i (λ m. filtered_in row rs m e)
    where
      by : (b : Bool) → p r ≡ b → In row (r ∷ rs) → (In row rs → In row (filter p rs)) → In row (filter p (r ∷ rs))
      by true f (inl g) more = subst (In row) (sym (filter_at r rs true f)) (inl g)
      by true f (inr m) more = subst (In row) (sym (filter_at r rs true f)) (inr (more m))
      by false f (inl g) more = absurd (let z : ⊥ = cc in z)
      by false f (inr m) more = subst (In row) (sym (filter_at r rs false f)) (more m)

  pub in_filtered : (row : Row) (rows : List Row) → In row (filter p rows) → In row rows × (p row ≡ true)
  in_filtered row [] i = absurd i
  in_filtered row (r ∷ rs) i = by (p r) refl (λ m. let f = in_filtered row rs m in (inr f.0, f.1))
    where
      by : (b : Bool) → p r ≡ b → (In row (filter p rs) → In row (r ∷ rs) × (p row ≡ true))
          → In row (r ∷ rs) × (p row ≡ true)
      by true f behind = elim (subst (In row) (filter_at r rs true f) i) [
        | inl g ↦ (inl g, ap p g ∙ f)
        | inr m ↦ behind m
      ]
      by false f behind = behind (subst (In row) (filter_at r rs false f) i)

-- ── what a walk knows ──

-- a row is on one of the pages
pub row_on : (row : Row) (xs : List Read) → In row (rows_read xs)
    → (x : Read) × In x xs × In row (kept_rows_of x.content)
row_on row [] i = absurd i
row_on row (x ∷ xs) i = elim (in_either row (kept_rows_of x.content) (rows_read xs) i) [
  | inl m ↦ (x, inl refl, m)
  | inr m ↦ let f = row_on row xs m in (f.0, inr f.1, f.2)
]

pub on_row : (row : Row) (x : Read) (xs : List Read) → In x xs → In row (kept_rows_of x.content)
    → In row (rows_read xs)
on_row row x [] i m = absurd i
on_row row x (y ∷ ys) (inl e) m = in_front row (kept_rows_of y.content) (rows_read ys)
    (subst (λ (z : Read). In row (kept_rows_of z.content)) e m)
on_row row x (y ∷ ys) (inr i) m = in_back row (kept_rows_of y.content) (rows_read ys) (on_row row x ys i m)

-- a test of rows holds of one on the pages
module _ (test : Row → Bool) (xs : List Read) where
  pub test_on : (row : Row) → In row (rows_read xs) → test row ≡ true
      → list_any (λ (x : Read). list_any test (kept_rows_of x.content)) xs ≡ true
  test_on row i e =
      let f = row_on row xs i in
      any_true (λ (x : Read). list_any test (kept_rows_of x.content)) f.0 xs f.1
      (any_true test row (kept_rows_of f.0.content) f.2 e)

  pub on_test : list_any (λ (x : Read). list_any test (kept_rows_of x.content)) xs ≡ true
      → (row : Row) × In row (rows_read xs) × (test row ≡ true)
  on_test e =
      let x = any_in (λ (x : Read). list_any test (kept_rows_of x.content)) xs e in
      let r = any_in test (kept_rows_of x.0.content) x.2 in
      (r.0, on_row r.0 x.0 xs x.1 r.1, r.2)

-- an item was met exactly where it is noted
pub met_noted : (w : Walk) (i : ℕ) → In i (items_of (rows_read w.pending)) ↔ (met w i ≡ true)
met_noted w i = (
  (λ m. let f = row_of_item i (rows_read w.pending) m in
      test_on (λ (row : Row). nat_eq row.item i) w.pending f.0 f.1
      (subst (λ (j : ℕ). nat_eq j i ≡ true) (sym f.2) (number_itself i))),
  (λ e. let f = on_test (λ (row : Row). nat_eq row.item i) w.pending e in
      subst (λ (j : ℕ). In j (items_of (rows_read w.pending))) (same_number f.0.item i f.2)
      (item_in f.0 (rows_read w.pending) f.1)),
)

-- so for a key that is asked
pub has_noted : (w : Walk) (i : ℕ) (a : Asked)
    → In i (items_with a (rows_read w.pending)) ↔ (pending_has w i a ≡ true)
has_noted w i a = (
  (λ m. let f = row_of_item i (filter (has_fitting a) (rows_read w.pending)) m in
      let g = in_filtered (has_fitting a) f.0 (rows_read w.pending) f.1 in
      test_on (λ (row : Row). nat_eq row.item i && list_any (fits_asked a) row.keys) w.pending f.0 g.0
      (ap₂ (λ (b c : Bool). b && c) (subst (λ (j : ℕ). nat_eq j i ≡ true) (sym f.2) (number_itself i)) g.1)),
  (λ e. let f = on_test (λ (row : Row). nat_eq row.item i && list_any (fits_asked a) row.keys) w.pending e in
      let both = and_true (nat_eq f.0.item i) (list_any (fits_asked a) f.0.keys) f.2 in
      subst (λ (j : ℕ). In j (items_with a (rows_read w.pending))) (same_number f.0.item i both.0)
      (item_in f.0 (filter (has_fitting a) (rows_read w.pending))
      (filtered_in (has_fitting a) f.0 (rows_read w.pending) f.1 both.1))),
)
