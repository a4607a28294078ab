-- The place that is found is where a split divides a page.
use Rattle.std.proofs.Common.{◌≡◌, ◌⊎◌, ℕ, suc, ◌+◌, ◌*◌, ◌<◌, ◌≤◌, length, refl, sym, ap, subst, ◌∙◌, inl, inr}
use Rattle.std.proofs.Common.{leb, add-one, arith}
use Rattle.std.specs.Prelude.{◌↔◌, IsTrue}
use Rattle.std.proofs.lemmas.Bool.{cases_lt, false≢true}
use Rattle.std.proofs.lemmas.Bool.Decides.{leb_tells}
use Rattle.page_types.specs.Numbers.{most_body}
use Rattle.page_types.specs.Encoding.{body_bytes, count_of}
use Rattle.page_types.specs.Pages.{IsPage}
use Rattle.page_types.specs.declared.page.Page.{Page}
use Rattle.page_types.specs.declared.page.Body.{Body}
use Rattle.core_state.specs.TreeRules.{Halves, KeepsHalf, FitsPage, listed_bytes}
use Rattle.posting_code.specs.Cutting.{IsHalf, IsMost, IsEven, IsCut}
use Rattle.posting_code.specs.declared.dividing.Keep.TheVariants.{Most}
use Rattle.entry_tree.specs.Finding.{IsEntryBody}
use Rattle.entry_tree.specs.Splitting.{body_cutting}
use Rattle.entry_tree.specs.Inner.Parts.{left_of, right_of, bytes_before, IsCutPlace, IsFirstHalf, IsLastFitting}
use Rattle.entry_tree.proofs.SplitParts.{halves_at, halves_only, ArePartsAt, count_left, none_before, all_listed}
use Rattle.entry_tree.proofs.SplitParts.{left_listed, right_small, first_fits}

-- ---- the rule

-- so many members are in a first part
count_at : (whole left right : Body) → IsEntryBody whole → (o : ArePartsAt whole left right)
    → count_of left ≡ suc o.at
count_at whole left right is o =
    let place = o.place in
    ap count_of o.left_is ∙ count_left whole o.at is (omega (arith, place))

half_at : (whole : Body) (k : ℕ) → IsEntryBody whole → IsFirstHalf whole k
    → IsHalf (body_cutting whole) (left_of whole k) (right_of whole k)
half_at whole k is h = record {
  divides = halves_at whole k is h.place;
  keeps = h.keeps;
  least = λ l r d keeps. least l r d keeps;
}
  where
    least : (l r : Body) → Halves whole l r → KeepsHalf whole l → count_of (left_of whole k) ≤ count_of l
    least l r d keeps =
        let o = halves_only whole l r is d in
        let place = h.place in
        let first = h.first o.at o.place (subst (KeepsHalf whole) o.left_is keeps) in
        omega (arith, count_at whole l r is o, count_left whole k is (omega (arith, place)), first)

most_at : (whole : Body) (k : ℕ) → IsEntryBody whole → IsLastFitting whole k
    → IsMost (body_cutting whole) (left_of whole k) (right_of whole k)
most_at whole k is h = record {
  divides = halves_at whole k is h.place;
  fits = h.fits;
  most = λ l r d fits. most l r d fits;
}
  where
    most : (l r : Body) → Halves whole l r → FitsPage l → count_of l ≤ count_of (left_of whole k)
    most l r d fits =
        let o = halves_only whole l r is d in
        let place = h.place in
        let last = h.last o.at o.place (subst FitsPage o.left_is fits) in
        omega (arith, count_at whole l r is o, count_left whole k is (omega (arith, place)), last)

pub even_half : (whole : Body) (k : ℕ) → IsEntryBody whole → IsFirstHalf whole k → FitsPage (left_of whole k)
    → FitsPage whole → IsEven (body_cutting whole) (left_of whole k) (right_of whole k)
even_half whole k is h fits all =
    IsEven.half (half_at whole k is h) fits (omega (arith, right_small whole k is, all))

pub even_none : (whole : Body) (m : ℕ) → IsEntryBody whole
    → ((j : ℕ) → IsCutPlace whole j → KeepsHalf whole (left_of whole j) → ⊥)
    → IsLastFitting whole m → IsEven (body_cutting whole) (left_of whole m) (right_of whole m)
even_none whole m is none h = IsEven.longest (λ l r half fits_l fits_r. no l r half) (most_at whole m is h)
  where
    no : (l r : Body) → IsHalf (body_cutting whole) l r → ⊥
    no l r half =
        let o = halves_only whole l r is half.divides in
        none o.at o.place (subst (KeepsHalf whole) o.left_is half.keeps)

pub even_longest : (whole : Body) (k m : ℕ) → IsEntryBody whole → IsFirstHalf whole k
    → (FitsPage (left_of whole k) → ⊥) → IsLastFitting whole m
    → IsEven (body_cutting whole) (left_of whole m) (right_of whole m)
even_longest whole k m is first large h =
    IsEven.longest (λ l r half fits_l fits_r. no l r half fits_l) (most_at whole m is h)
  where
    no : (l r : Body) → IsHalf (body_cutting whole) l r → FitsPage l → ⊥
    no l r half fits =
        let o = halves_only whole l r is half.divides in
        let place = first.place in
        let most = half.least (left_of whole k) (right_of whole k) (halves_at whole k is first.place) first.keeps in
        let least = first.first o.at o.place (subst (KeepsHalf whole) o.left_is half.keeps) in
        let same : o.at ≡ k = omega (
          arith,
          most,
          least,
          count_at whole l r is o,
          count_left whole k is (omega (arith, place)),
        ) in
        large (subst FitsPage (o.left_is ∙ ap (left_of whole) same) fits)

pub cut_most : (whole : Body) (k : ℕ) → IsEntryBody whole → IsLastFitting whole k
    → KeepsHalf whole (left_of whole k) → IsCut (body_cutting whole) (left_of whole k) (right_of whole k) Most
cut_most whole k is h keeps = IsCut.most (most_at whole k is h) keeps

pub cut_even : (whole : Body) (k m : ℕ) → IsEntryBody whole → IsLastFitting whole k
    → (KeepsHalf whole (left_of whole k) → ⊥) → IsEven (body_cutting whole) (left_of whole m) (right_of whole m)
    → IsCut (body_cutting whole) (left_of whole m) (right_of whole m) Most
cut_even whole k m is h less even = IsCut.no_most (λ l r most keeps. no l r most keeps) even
  where
    no : (l r : Body) → IsMost (body_cutting whole) l r → KeepsHalf whole l → ⊥
    no l r most keeps =
        let o = halves_only whole l r is most.divides in
        let place = h.place in
        let here = most.most (left_of whole k) (right_of whole k) (halves_at whole k is h.place) h.fits in
        let last = h.last o.at o.place (subst FitsPage o.left_is most.fits) in
        let same : o.at ≡ k = omega (
          arith,
          here,
          last,
          count_at whole l r is o,
          count_left whole k is (omega (arith, place)),
        ) in
        less (subst (KeepsHalf whole) (o.left_is ∙ ap (left_of whole) same) keeps)

-- ---- the searches

-- the bytes before a place are counted, and no place before it has half of all
pub record IsBelowHalf (whole : Body) (k size : ℕ) : Type 0 where
  pub size_is : size ≡ length (bytes_before whole k)
  pub none : (j : ℕ) → j < k → KeepsHalf whole (left_of whole j) → ⊥

pub below_starts : (whole : Body) → IsEntryBody whole → IsBelowHalf whole 0 0
below_starts whole is = record {
  size_is = sym (none_before whole is);
  none = λ j lt. absurd (omega (arith, lt));
}

before_or_at : (j k : ℕ) → j < k + 1 → (j < k) ⊎ (j ≡ k)
before_or_at j k lt = grind arith

pub below_goes_on : (whole : Body) (k size more all : ℕ) → IsEntryBody whole → IsBelowHalf whole k size
    → length (bytes_before whole (suc k)) ≡ length (bytes_before whole k) + more
    → all ≡ length (listed_bytes whole) → 2 * (size + more) < all → IsBelowHalf whole (k + 1) (size + more)
below_goes_on whole k size more all is b e total less = record {
  size_is = omega (arith, b.size_is, e, ap (λ (n : ℕ). length (bytes_before whole n)) (add-one k));
  none = λ j lt keeps. elim (before_or_at j k lt) [
    | inl before ↦ b.none j before keeps
    | inr same ↦ absurd (omega (
      arith,
      subst (λ (n : ℕ). KeepsHalf whole (left_of whole n)) same keeps,
      left_listed whole k is,
      b.size_is,
      e,
      total,
      less,
    ))
  ];
}

-- whether a first part has half of the bytes, by their numbers
pub half_told : (whole : Body) (k n part all : ℕ) → IsEntryBody whole → n ≡ count_of whole
    → all ≡ length (bytes_before whole n) → part ≡ length (bytes_before whole (k + 1))
    → IsTrue (leb all (2 * part)) ↔ KeepsHalf whole (left_of whole k)
half_told whole k n part all is size total part_is =
    let whole_is : all ≡ length (listed_bytes whole) = total ∙ all_listed whole n is size in
    let left_is : length (listed_bytes (left_of whole k)) ≡ part =
    left_listed whole k is ∙ ap (λ (m : ℕ). length (bytes_before whole m)) (sym (add-one k)) ∙ sym part_is in
    elim (leb_tells all (2 * part)) [
      | inl le ↦ (λ t. omega (arith, le.1, whole_is, left_is), λ keeps. le.0)
      | inr gt ↦ (
        λ t. absurd (false≢true (sym gt.0 ∙ t)),
        λ keeps. absurd (omega (arith, keeps, gt.1, whole_is, left_is)),
      )
    ]

pub half_found : (whole : Body) (k size more all : ℕ) → IsEntryBody whole → IsBelowHalf whole k size
    → IsCutPlace whole k
    → length (bytes_before whole (suc k)) ≡ length (bytes_before whole k) + more
    → all ≡ length (listed_bytes whole) → all ≤ 2 * (size + more) → IsFirstHalf whole k
half_found whole k size more all is b place e total enough = record {
  place = place;
  keeps = omega (arith, left_listed whole k is, b.size_is, e, total, enough);
  first = λ j at keeps. first j keeps (cases_lt j k);
}
  where
    first : (j : ℕ) → KeepsHalf whole (left_of whole j) → (j < k) ⊎ (k ≤ j) → k ≤ j
    first j keeps (inl lt) = absurd (b.none j lt keeps)
    first j keeps (inr le) = le

-- the bytes before a place are counted, and the last place before it that fits is found
pub record IsTrying (whole : Body) (k size found : ℕ) : Type 0 where
  pub size_is : size ≡ length (bytes_before whole k)
  pub before : (found ≡ 0) ⊎ (found < k)
  pub fits : FitsPage (left_of whole found)
  pub last : (j : ℕ) → j < k → FitsPage (left_of whole j) → j ≤ found

pub trying_starts : (p : Page) → IsPage p → IsEntryBody p.body → 2 ≤ count_of p.body → IsTrying p.body 0 0 0
trying_starts p page is two = record {
  size_is = sym (none_before p.body is);
  before = inl refl;
  fits = first_fits p page is (omega (arith, two));
  last = λ j lt. absurd (omega (arith, lt));
}

pub trying_keeps : (whole : Body) (k size found more high : ℕ) → IsTrying whole k size found
    → length (bytes_before whole (suc k)) ≡ length (bytes_before whole k) + more
    → length (body_bytes (left_of whole k)) ≡ high + length (bytes_before whole (suc k))
    → size + more + high ≤ most_body → IsTrying whole (k + 1) (size + more) k
trying_keeps whole k size found more high t e body_is fits = record {
  size_is = omega (arith, t.size_is, e, ap (λ (n : ℕ). length (bytes_before whole n)) (add-one k));
  before = inr (omega arith);
  fits = omega (arith, t.size_is, e, body_is, fits);
  last = λ j lt at. omega (arith, lt);
}

pub trying_goes_on : (whole : Body) (k size found more high : ℕ) → IsTrying whole k size found
    → length (bytes_before whole (suc k)) ≡ length (bytes_before whole k) + more
    → length (body_bytes (left_of whole k)) ≡ high + length (bytes_before whole (suc k))
    → most_body < size + more + high → IsTrying whole (k + 1) (size + more) found
trying_goes_on whole k size found more high t e body_is large = record {
  size_is = omega (arith, t.size_is, e, ap (λ (n : ℕ). length (bytes_before whole n)) (add-one k));
  before = elim t.before [ inl none ↦ inl none | inr lt ↦ inr (omega (arith, lt)) ];
  fits = t.fits;
  last = λ j lt fits. elim (before_or_at j k lt) [
    | inl before ↦ t.last j before fits
    | inr same ↦ absurd (omega (
      arith,
      subst (λ (n : ℕ). FitsPage (left_of whole n)) same fits,
      t.size_is,
      e,
      body_is,
      large,
    ))
  ];
}

pub trying_ends : (whole : Body) (k size found : ℕ) → IsTrying whole k size found → 2 ≤ count_of whole
    → suc k ≡ count_of whole → IsLastFitting whole found
trying_ends whole k size found t two e = record {
  place = elim t.before [ inl none ↦ omega (arith, none, two) | inr lt ↦ omega (arith, lt, e) ];
  fits = t.fits;
  last = λ j place fits. t.last j (omega (arith, place, e)) fits;
}
