-- How long rows are, and pages that are packed one after the other.
use Rattle.std.proofs.Common.{◌≡◌, ◌≢◌, ℕ, zero, suc, ◌+◌, ◌-◌, ◌<◌, ◌≤◌, List, [], ◌∷◌, ◌++◌, length, map, take, drop}
use Rattle.std.proofs.Common.{Bool, false, eqb, get_or, refl, sym, ap, subst, ◌∙◌, append_assoc, arith}
use Rattle.std.specs.List.{AllByRecursion, flat_map}
use Rattle.std.proofs.lemmas.Bool.{false≢true}
use Rattle.std.proofs.lemmas.List.{length-append, length-map, length-take-le, take_more, take_all, drop_more}
use Rattle.std.proofs.lemmas.List.{take-append-drop}
use Rattle.std.proofs.lemmas.List.Concat.{flat_map-append}
use Rattle.page_types.specs.Numbers.{most_body, item_limit}
use Rattle.page_types.specs.Keys.{IsKey, KeyLess, Rising}
use Rattle.page_types.specs.Pages.{IsPage, IsRow}
use Rattle.page_types.specs.Encoding.{key_field, row_bytes}
use Rattle.page_types.specs.declared.page.Page.{Page}
use Rattle.page_types.specs.declared.page.Row.{Row}
use Rattle.page_types.proofs.BodySizes.{length-key_field, length-row_bytes, keys_size}
use Rattle.pending_list.specs.Packing.{AreKeys, row_of, row_length, page_of_row, ArePacked}
use Rattle.pending_list.proofs.RowLists.{all_front, all_back, rising_front, rising_back}

-- the bytes of these keys' fields
abbrev pub fields : List (List ℕ) → List ℕ
fields keys = flat_map key_field keys

pub fields_both : (keys more : List (List ℕ))
    → length (fields (keys ++ more)) ≡ length (fields keys) + length (fields more)
fields_both keys more =
    ap length (flat_map-append key_field keys more) ∙ length-append (fields keys) (fields more)

pub fields_one : (key : List ℕ) → length (fields (key ∷ [])) ≡ 2 + length key
fields_one key = omega (arith, length-append (key_field key) [], length-key_field key)

-- a row with one key more
pub row_more : (keys : List (List ℕ)) (k : ℕ) → k < length keys
    → row_length (take (k + 1) keys) ≡ row_length (take k keys) + (2 + length (get_or keys k []))
row_more keys k lt =
    omega (
      arith,
      ap (λ (ks : List (List ℕ)). length (fields ks)) (take_more keys k [] lt),
      fields_both (take k keys) (get_or keys k [] ∷ []),
      fields_one (get_or keys k []),
    )

-- a row with some of the keys is not longer than one with all
pub row_front : (keys : List (List ℕ)) (k : ℕ) → row_length (take k keys) ≤ row_length keys
row_front keys k =
    omega (
      arith,
      ap (λ (ks : List (List ℕ)). length (fields ks)) (take-append-drop k keys),
      fields_both (take k keys) (drop k keys),
    )

not_none : {A : Type 0} (xs : List A) → length xs ≢ 0 → xs ≢ []
not_none xs some e = some (ap length e)

-- a page in front of those that have the keys after its own
packed_more : (item : ℕ) (keys : List (List ℕ)) (k : ℕ) (pages : List Page) → k ≢ 0 → k < length keys
    → row_length (take k keys) ≤ most_body → most_body < row_length (take (k + 1) keys)
    → ArePacked item (drop k keys) pages → ArePacked item keys (page_of_row item (take k keys) ∷ pages)
packed_more item keys k pages some lt fits over packed =
    let key : List ℕ = get_or keys k [] in
    let here : drop k keys ≡ key ∷ drop (k + 1) keys = drop_more keys k [] lt in
    let all : take k keys ++ key ∷ drop (k + 1) keys ≡ keys =
    ap (λ (ks : List (List ℕ)). take k keys ++ ks) (sym here) ∙ take-append-drop k keys in
    let front : take k keys ≢ [] =
    not_none (take k keys) (λ e. some (omega (arith, e, length-take-le k keys (omega (arith, lt))))) in
    let longer : most_body < row_length (take k keys ++ key ∷ []) =
    subst (λ (ks : List (List ℕ)). most_body < row_length ks) (take_more keys k [] lt) over in
    subst (λ ks. ArePacked item ks (page_of_row item (take k keys) ∷ pages)) all
    (ArePacked.more (take k keys) key (drop (k + 1) keys) pages front fits longer
    (subst (λ ks. ArePacked item ks pages) here packed))

-- How many of these keys fit in a row after so many bytes: all that are taken do where some are,
-- and with one more they don't.
pub record IsFitting (used : ℕ) (keys : List (List ℕ)) (count : ℕ) : Type 0 where
  pub within : count ≤ length keys
  pub fits : count ≢ 0 → used + row_length (take count keys) ≤ most_body
  pub most : count < length keys → most_body < used + row_length (take (count + 1) keys)

-- it is so of the keys that others stand for
pub is_fitting : {A : Type 0} (f : A → List ℕ) (used : ℕ) (keys : List A) (count : ℕ) → count ≤ length keys
    → (count ≢ 0 → used + row_length (take count (map f keys)) ≤ most_body)
    → (count < length keys → most_body < used + row_length (take (count + 1) (map f keys)))
    → IsFitting used (map f keys) count
is_fitting f used keys count within fits most =
    let size : length (map f keys) ≡ length keys = length-map keys f in
    record { within = omega (arith, within, size); fits = fits; most = λ lt. most (omega (arith, lt, size)) }

-- the bytes of a row with one key more, after so many
pub size_more : (keys : List (List ℕ)) (used size k n : ℕ) (key : List ℕ) → k < length keys → get_or keys k [] ≡ key
    → length key ≡ n → size ≡ used + row_length (take k keys) → size + (2 + n) ≡ used + row_length (take (k + 1) keys)
size_more keys used size k n key lt is len e = omega (arith, row_more keys k lt, ap length is, len, e)

-- one key more in the buffer
pub piece_more : (keys old new : List (List ℕ)) (i : ℕ) (key piece : List ℕ) → i < length keys → old ≡ take i keys
    → get_or keys i [] ≡ key → piece ≡ key → new ≡ old ++ piece ∷ [] → new ≡ take (i + 1) keys
piece_more keys old new i key piece lt e is same pushed =
    pushed ∙ ap (λ (ks : List (List ℕ)). ks ++ piece ∷ []) e
    ∙ ap (λ (x : List ℕ). take i keys ++ x ∷ []) (same ∙ sym is) ∙ sym (take_more keys i [] lt)

-- a first key has room on a page of its own
first_fits : (keys : List (List ℕ)) → AllByRecursion IsKey keys → row_length (take 1 keys) ≤ most_body
first_fits [] each = omega arith
first_fits (key ∷ keys) each = omega (arith, fields_one key, key_length key each.0)
  where
    key_length : (key : List ℕ) → IsKey key → length key ≤ 2047
    key_length [] is = absurd is
    key_length (zero ∷ text) is = omega (arith, is.most)
    key_length (suc zero ∷ rest) is = omega (arith, ap length is)
    key_length (suc (suc b) ∷ rest) is = absurd is

-- the pages so far have the keys before the rest
pub record IsPacking (item : ℕ) (keys : List (List ℕ)) (pages : List Page) (rest : List (List ℕ)) : Type 0 where
  pub packs : rest ≢ [] → (tail : List Page) → ArePacked item rest tail → ArePacked item keys (pages ++ tail)
  pub ends : rest ≡ [] → ArePacked item keys pages
  pub each : AllByRecursion IsKey rest

pub packing_starts : (item : ℕ) (keys : List (List ℕ)) (pages : List Page) → AreKeys keys → pages ≡ []
    → IsPacking item keys pages keys
packing_starts item keys pages are none = record {
  packs = λ some tail p. subst (λ (ps : List Page). ArePacked item keys (ps ++ tail)) (sym none) p;
  ends = λ e. absurd (are.some e);
  each = are.each;
}

-- keys are left, where they are not empty
pub some_left : {A : Type 0} (f : A → List ℕ) (xs : List A) (none : Bool) → none ≡ eqb (length xs) 0 → none ≡ false
    → map f xs ≢ []
some_left f [] none is not = λ e. false≢true (sym not ∙ is)
some_left f (x ∷ xs) none is not = λ e. absurd cc

some_length : {A : Type 0} (xs : List A) → xs ≢ [] → 0 < length xs
some_length [] some = absurd (some refl)
some_length (x ∷ xs) some = omega arith

-- where keys are left, some fit
pub count_some : (rest : List (List ℕ)) (count : ℕ) → AllByRecursion IsKey rest → rest ≢ [] → IsFitting 0 rest count
    → count ≢ 0
count_some [] count each some fit e = some refl
count_some (key ∷ rest) count each some fit e =
    let over = fit.most (omega (arith, e)) in
    let one : row_length (take (count + 1) (key ∷ rest)) ≡ row_length (take 1 (key ∷ rest)) =
    ap (λ (n : ℕ). row_length (take (n + 1) (key ∷ rest))) e in
    omega (arith, over, one, first_fits (key ∷ rest) each)

pub packing_goes_on : (item : ℕ) (keys : List (List ℕ)) (pages pages' : List Page) (rest rest' : List (List ℕ))
    (count : ℕ) → IsPacking item keys pages rest → rest ≢ [] → IsFitting 0 rest count
    → pages' ≡ pages ++ page_of_row item (take count rest) ∷ [] → rest' ≡ drop count rest
    → length rest' ≡ length rest - count → IsPacking item keys pages' rest'
packing_goes_on item keys pages pages' rest rest' count p here fit pages_are rest_is size =
    let some = count_some rest count p.each here fit in
    let whole : take count rest ++ drop count rest ≡ rest = take-append-drop count rest in
    let page : Page = page_of_row item (take count rest) in
    record {
      packs = λ more tail packed.
          let lt : count < length rest = omega (arith, some_length rest' more, size) in
          let now : ArePacked item rest (page ∷ tail) =
          packed_more item rest count tail some lt (omega (arith, fit.fits some)) (omega (arith, fit.most lt))
          (subst (λ ks. ArePacked item ks tail) rest_is packed) in
          subst (ArePacked item keys) (sym (append_assoc pages (page ∷ []) tail)
          ∙ ap (λ (ps : List Page). ps ++ tail) (sym pages_are)) (p.packs here (page ∷ tail) now);
      ends = λ none.
          let all : take count rest ≡ rest = take_all count rest (omega (arith, size, ap length none)) in
          let fits : row_length rest ≤ most_body =
          subst (λ (ks : List (List ℕ)). row_length ks ≤ most_body) all (omega (arith, fit.fits some)) in
          subst (ArePacked item keys) (ap (λ (ks : List (List ℕ)). pages ++ page_of_row item ks ∷ []) (sym all)
          ∙ sym pages_are) (p.packs here (page_of_row item rest ∷ []) (ArePacked.last rest fits));
      each = subst (AllByRecursion IsKey) (sym rest_is)
          (all_back IsKey (take count rest) (drop count rest) (subst (AllByRecursion IsKey) (sym whole) p.each));
    }

-- ---- the pages have an encoding

pub row_is : (item : ℕ) (keys : List (List ℕ)) → item < item_limit → keys ≢ [] → AllByRecursion IsKey keys
    → Rising KeyLess keys → row_length keys ≤ most_body → IsRow (row_of item keys)
row_is item keys lt some each rising fits = record {
  item = lt;
  some = some;
  count = omega (arith, fits, keys_size keys);
  keys = each;
  rising = rising;
}

pub one_row : (r : Row) → length (flat_map row_bytes (r ∷ [])) ≡ row_length r.keys
one_row r = omega (arith, length-append (row_bytes r) [], length-row_bytes r)

page_is : (item : ℕ) (keys : List (List ℕ)) → item < item_limit → keys ≢ [] → AllByRecursion IsKey keys
    → Rising KeyLess keys → row_length keys ≤ most_body → IsPage (page_of_row item keys)
page_is item keys lt some each rising fits = record {
  right = omega arith;
  stamp = omega arith;
  body = (row_is item keys lt some each rising fits, tt);
  count = omega arith;
  fits = omega (arith, one_row (row_of item keys), fits);
}

pub packed_pages : (item : ℕ) (keys : List (List ℕ)) (pages : List Page) → ArePacked item keys pages
    → item < item_limit → keys ≢ [] → AllByRecursion IsKey keys → Rising KeyLess keys → AllByRecursion IsPage pages
packed_pages item _ _ (ArePacked.last keys fits) lt some each rising =
    (page_is item keys lt some each rising fits, tt)
packed_pages item _ _ (ArePacked.more front key back pages here fits over rest) lt some each rising = (
  page_is item front lt here (all_front IsKey front (key ∷ back) each)
      (rising_front KeyLess front (key ∷ back) rising) fits,
  packed_pages item (key ∷ back) pages rest lt (λ e. absurd cc) (all_back IsKey front (key ∷ back) each)
      (rising_back KeyLess front (key ∷ back) rising),
)
