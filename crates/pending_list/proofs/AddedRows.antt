-- A pending page with one row more.
use Rattle.std.proofs.Common.{◌≡◌, ◌≢◌, ℕ, ◌+◌, ◌<◌, ◌≤◌, ◌*◌, List, [], ◌∷◌, ◌++◌, length, take, refl, sym, ap, subst}
use Rattle.std.proofs.Common.{◌∙◌, arith}
use Rattle.std.specs.List.{AllByRecursion, flat_map}
use Rattle.std.proofs.lemmas.List.{length-append, take_all}
use Rattle.std.proofs.lemmas.List.Concat.{flat_map-append}
use Rattle.page_types.specs.Numbers.{most_body, item_limit}
use Rattle.page_types.specs.Pages.{IsPage, IsBody, IsRow}
use Rattle.page_types.specs.Encoding.{row_bytes, body_bytes}
use Rattle.page_types.specs.Views.{rows_in}
use Rattle.page_types.specs.declared.page.Page.{Page}
use Rattle.page_types.specs.declared.page.Row.{Row}
use Rattle.page_types.specs.declared.page.Body.{Body}
use Rattle.page_types.specs.declared.page.Body.TheVariants as body
use Rattle.page_types.proofs.BodySizes.{length-row_bytes}
use Rattle.pending_list.specs.Packing.{AreKeys, row_of, row_length}
use Rattle.pending_list.specs.Adding.{IsPendingPage, with_row, HasNoRoom}
use Rattle.pending_list.proofs.PackedRows.{IsFitting, row_front, row_is, one_row}
use Rattle.pending_list.proofs.RowLists.{all_both}

-- the bytes of these rows
abbrev row_fields : List Row → List ℕ
row_fields rows = flat_map row_bytes rows

one_more : (rows : List Row) (r : Row)
    → length (row_fields (rows ++ r ∷ [])) ≡ length (row_fields rows) + row_length r.keys
one_more rows r =
    ap length (flat_map-append row_bytes rows (r ∷ [])) ∙ length-append (row_fields rows) (row_fields (r ∷ []))
    ∙ ap (λ (n : ℕ). length (row_fields rows) + n) (one_row r)

-- the body with a row more
pub added_length : (p : Page) (item : ℕ) (keys : List (List ℕ)) → IsPendingPage p
    → length (body_bytes (with_row p item keys)) ≡ length (body_bytes p.body) + row_length keys
added_length p item keys is =
    one_more (rows_in p.body) (row_of item keys)
    ∙ ap (λ (b : Body). length (row_fields (rows_in b)) + row_length keys) is.1
    ∙ ap (λ (b : Body). length (body_bytes b) + row_length keys) (sym is.1)

-- where not all keys fit there is no room
pub no_room : (p : Page) (item : ℕ) (keys : List (List ℕ)) (count : ℕ) → IsPendingPage p
    → IsFitting (length (body_bytes p.body)) keys count → count < length keys → HasNoRoom p item keys
no_room p item keys count is fit lt =
    omega (arith, fit.most lt, row_front keys (count + 1), added_length p item keys is)

-- where all fit there is
pub has_room : (p : Page) (item : ℕ) (keys : List (List ℕ)) (count : ℕ) → IsPendingPage p → AreKeys keys
    → IsFitting (length (body_bytes p.body)) keys count → length keys ≤ count
    → length (body_bytes (with_row p item keys)) ≤ most_body
has_room p item keys count is are fit le =
    let some : count ≢ 0 = λ e. are.some (nothing keys (omega (arith, le, e))) in
    let all : row_length (take count keys) ≡ row_length keys = ap row_length (take_all count keys le) in
    omega (arith, fit.fits some, all, added_length p item keys is)
  where
    nothing : (keys : List (List ℕ)) → length keys ≡ 0 → keys ≡ []
    nothing [] e = refl
    nothing (k ∷ ks) e = absurd (omega (arith, e))

-- so many rows have as many bytes at least
rows_length : (rows : List Row) → 6 * length rows ≤ length (row_fields rows)
rows_length [] = omega arith
rows_length (r ∷ rows) =
    omega (arith, length-append (row_bytes r) (row_fields rows), length-row_bytes r, rows_length rows)

-- the page with a row more has an encoding
pub added_page : (p : Page) (item : ℕ) (keys : List (List ℕ)) → IsPendingPage p → item < item_limit → AreKeys keys
    → length (body_bytes (with_row p item keys)) ≤ most_body → IsPage p
    → IsPage (record p { body = with_row p item keys })
added_page p item keys is lt are fits page =
    let on : IsBody p.right p.stamp (body.Pending is.0) = subst (IsBody p.right p.stamp) is.1 page.body in
    let rows : AllByRecursion IsRow (rows_in p.body) =
    subst (λ (b : Body). AllByRecursion IsRow (rows_in b)) (sym is.1) on in
    let short : row_length keys ≤ most_body = omega (arith, fits, added_length p item keys is) in
    record {
      right = page.right;
      stamp = page.stamp;
      body = all_both IsRow (rows_in p.body) (row_of item keys ∷ []) rows
          (row_is item keys lt are.some are.each are.rising short, tt);
      count = omega (
        arith,
        fits,
        rows_length (rows_in p.body ++ row_of item keys ∷ []),
      );
      fits = fits;
    }
