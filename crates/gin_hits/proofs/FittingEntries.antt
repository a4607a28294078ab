-- The entries of a leaf that fit a key that is asked are those from the first to the last one.
use Rattle.std.proofs.Common.{◌≡◌, ℕ, zero, suc, ◌+◌, ◌<◌, ◌≤◌, Bool, true, false, cond, List, [], ◌∷◌, length}
use Rattle.std.proofs.Common.{get_or}
use Rattle.std.proofs.Common.{◌-◌, ◌++◌, take, drop}
use Rattle.std.proofs.Common.{refl, sym, ap, subst, ◌∙◌, ◌⊎◌, inl, inr, arith, slice_get, slice_range}
use Rattle.std.specs.Prelude.{Some, option_map}
use Rattle.std.specs.List.{filter, AllByRecursion}
use Rattle.std.proofs.lemmas.List.{length-map}
use Rattle.std.proofs.lemmas.Option.{get_or_from_slice_get, slice_get_within, slice_get-map, same_Some}
use Rattle.page_types.specs.Keys.{KeyLess, Rising}
use Rattle.page_types.specs.declared.page.Entry.{Entry}
use Rattle.core_moments.specs.Walk.{begins}
use Rattle.core_moments.specs.Judging.{fits_asked}
use Rattle.core_moments.proofs.Words.{and_true, begins_both, begins_between}
use Rattle.gin_hits.specs.Rows.{asked_for}
use Rattle.gin_hits.specs.Entries.{entries_with}
use Rattle.gin_hits.specs.Inner.Searching.{IsBetween, keys_of}
use Rattle.gin_hits.proofs.Searching.{rising_at, not_before, not_greater, begins_fits, false_of}

-- ── a range of a list ──

module _ {A : Type 0} (test : A → Bool) where
  filter_in : (x : A) (xs : List A) → test x ≡ true → filter test (x ∷ xs) ≡ x ∷ filter test xs
  filter_in x xs e = ap (λ (b : Bool). cond b (x ∷ filter test xs) (filter test xs)) e

  filter_out : (x : A) (xs : List A) → test x ≡ false → filter test (x ∷ xs) ≡ filter test xs
  filter_out x xs e = ap (λ (b : Bool). cond b (x ∷ filter test xs) (filter test xs)) e

  -- where the elements from one place on, so many, pass a test, and no others
  part_filtered : (xs : List A) (from n : ℕ) → from + n ≤ length xs
      → ((j : ℕ) (x : A) → slice_get xs j ≡ Some x → j < from → test x ≡ false)
      → ((j : ℕ) (x : A) → slice_get xs j ≡ Some x → from ≤ j → j < from + n → test x ≡ true)
      → ((j : ℕ) (x : A) → slice_get xs j ≡ Some x → from + n ≤ j → test x ≡ false)
      → take n (drop from xs) ≡ filter test xs
  part_filtered [] zero zero within before here after = refl
  part_filtered [] zero (suc n) within before here after = absurd (omega (arith, within))
  part_filtered [] (suc from) n within before here after = absurd (omega (arith, within))
  part_filtered (x ∷ xs) zero zero within before here after =
      part_filtered xs zero zero (omega arith) (λ j y e lt. absurd (omega (arith, lt)))
      (λ j y e from lt. absurd (omega (arith, lt)))
      (λ j y e from. after (suc j) y e (omega arith))
      ∙ sym (filter_out x xs (after zero x refl (omega arith)))
  part_filtered (x ∷ xs) zero (suc n) within before here after =
      ap (λ (ys : List A). x ∷ ys) (part_filtered xs zero n (omega (arith, within))
      (λ j y e lt. absurd (omega (arith, lt)))
      (λ j y e from lt. here (suc j) y e (omega arith) (omega (arith, lt)))
      (λ j y e from. after (suc j) y e (omega (arith, from))))
      ∙ sym (filter_in x xs (here zero x refl (omega arith) (omega arith)))
  part_filtered (x ∷ xs) (suc from) n within before here after =
      part_filtered xs from n (omega (arith, within))
      (λ j y e lt. before (suc j) y e (omega (arith, lt)))
      (λ j y e least lt. here (suc j) y e (omega (arith, least)) (omega (arith, lt)))
      (λ j y e least. after (suc j) y e (omega (arith, least)))
      ∙ sym (filter_out x xs (before zero x refl (omega arith)))

  -- so from one place to another
  pub range_filtered : (xs : List A) (from end : ℕ) → from ≤ end → end ≤ length xs
      → ((j : ℕ) (x : A) → slice_get xs j ≡ Some x → j < from → test x ≡ false)
      → ((j : ℕ) (x : A) → slice_get xs j ≡ Some x → from ≤ j → j < end → test x ≡ true)
      → ((j : ℕ) (x : A) → slice_get xs j ≡ Some x → end ≤ j → test x ≡ false)
      → slice_range xs from end ≡ filter test xs
  range_filtered xs from end le within before here after =
      part_filtered xs from (end - from) (omega (arith, le, within)) before
      (λ j x e least lt. here j x e least (omega (arith, le, lt)))
      (λ j x e least. after j x e (omega (arith, le, least)))

-- one element more
part_more : {A : Type 0} (xs : List A) (from n k : ℕ) (x : A) → k ≡ from + n → slice_get xs k ≡ Some x
    → take (suc n) (drop from xs) ≡ take n (drop from xs) ++ x ∷ []
part_more [] from n k x at e = absurd (let z : ⊥ = cc in z)
part_more (y ∷ ys) zero zero zero x at e = ap (λ (z : _). z ∷ []) (same_Some y x e)
part_more (y ∷ ys) zero zero (suc k) x at e = absurd (omega (arith, at))
part_more (y ∷ ys) zero (suc n) zero x at e = absurd (omega (arith, at))
part_more (y ∷ ys) zero (suc n) (suc k) x at e =
    ap (λ (zs : List _). y ∷ zs) (part_more ys zero n k x (omega (arith, at)) e)
part_more (y ∷ ys) (suc from) n zero x at e = absurd (omega (arith, at))
part_more (y ∷ ys) (suc from) n (suc k) x at e = part_more ys from n k x (omega (arith, at)) e

pub range_more : {A : Type 0} (xs : List A) (from k : ℕ) (x : A) → from ≤ k → slice_get xs k ≡ Some x
    → slice_range xs from (k + 1) ≡ slice_range xs from k ++ x ∷ []
range_more xs from k x le e =
    ap (λ (n : ℕ). take n (drop from xs)) (let z : k + 1 - from ≡ suc (k - from) = omega (arith, le) in z)
    ∙ part_more xs from (k - from) k x (omega (arith, le)) e

-- nothing is between a place and itself
pub range_none : {A : Type 0} (xs : List A) (k : ℕ) → slice_range xs k k ≡ []
range_none xs k = ap (λ (n : ℕ). take n (drop k xs)) (let z : k - k ≡ 0 = omega arith in z)

-- what holds of each in a range
part_all : {A : Type 0} (P : A → Type 0) (xs : List A) (from n k : ℕ) (x : A)
    → AllByRecursion P (take n (drop from xs)) → from ≤ k → k < from + n → slice_get xs k ≡ Some x → P x
part_all P [] from n k x all le lt e = absurd (let z : ⊥ = cc in z)
part_all P (y ∷ ys) zero zero k x all le lt e = absurd (omega (arith, lt))
part_all P (y ∷ ys) zero (suc n) zero x all le lt e = subst P (same_Some y x e) all.0
part_all P (y ∷ ys) zero (suc n) (suc k) x all le lt e =
    part_all P ys zero n k x all.1 (omega arith) (omega (arith, lt)) e
part_all P (y ∷ ys) (suc from) n zero x all le lt e = absurd (omega (arith, le))
part_all P (y ∷ ys) (suc from) n (suc k) x all le lt e =
    part_all P ys from n k x all (omega (arith, le)) (omega (arith, lt)) e

pub range_all : {A : Type 0} (P : A → Type 0) (xs : List A) (from end k : ℕ) (x : A)
    → AllByRecursion P (slice_range xs from end) → from ≤ k → k < end → slice_get xs k ≡ Some x → P x
range_all P xs from end k x all le lt e = part_all P xs from (end - from) k x all le (omega (arith, le, lt)) e

-- and of each
pub each_has : {A : Type 0} (P : A → Type 0) (xs : List A) (k : ℕ) (x : A) → AllByRecursion P xs
    → slice_get xs k ≡ Some x → P x
each_has P [] k x all e = absurd (let z : ⊥ = cc in z)
each_has P (y ∷ ys) zero x all e = subst P (same_Some y x e) all.0
each_has P (y ∷ ys) (suc k) x all e = each_has P ys k x all.1 e

all_push : {A : Type 0} (P : A → Type 0) (xs : List A) (x : A) → AllByRecursion P xs → P x
    → AllByRecursion P (xs ++ x ∷ [])
all_push P [] x all one = (one, tt)
all_push P (y ∷ ys) x all one = (all.0, all_push P ys x all.1 one)

pub range_next : {A : Type 0} (P : A → Type 0) (xs : List A) (from k : ℕ) (x : A) → from ≤ k
    → slice_get xs k ≡ Some x → AllByRecursion P (slice_range xs from k) → P x
    → AllByRecursion P (slice_range xs from (k + 1))
range_next P xs from k x le e all one =
    subst (AllByRecursion P) (sym (range_more xs from k x le e)) (all_push P (slice_range xs from k) x all one)

-- ── keys ──

key_at : (es : List Entry) (j : ℕ) (e : Entry) → slice_get es j ≡ Some e → get_or (keys_of es) j [] ≡ e.key
key_at es j e there =
    get_or_from_slice_get (keys_of es) j e.key []
    (slice_get-map (λ (d : Entry). d.key) es j ∙ ap (option_map (λ (d : Entry). d.key)) there)

-- the keys of a leaf rise
all_keys : (k : List ℕ) (es : List Entry) → AllByRecursion (λ (e : Entry). KeyLess k e.key) es
    → AllByRecursion (KeyLess k) (keys_of es)
all_keys k [] h = tt
all_keys k (e ∷ es) h = (h.0, all_keys k es h.1)

pub keys_rise : (es : List Entry) → Rising (λ (d e : Entry). KeyLess d.key e.key) es → Rising KeyLess (keys_of es)
keys_rise [] h = tt
keys_rise (e ∷ es) h = (all_keys e.key es h.0, keys_rise es h.1)

-- a key that is below another, by its entry
pub below_at : (es : List Entry) (key : List ℕ) (j : ℕ)
    → ((e : Entry) × (slice_get es j ≡ Some e) × KeyLess e.key key) → KeyLess (get_or (keys_of es) j []) key
below_at es key j e = subst (λ (k : List ℕ). KeyLess k key) (sym (key_at es j e.0 e.1)) e.2

entry_at : (xs : List Entry) (k : ℕ) → k < length xs → (x : Entry) × (slice_get xs k ≡ Some x)
entry_at [] k l = absurd (omega (arith, l))
entry_at (x ∷ xs) zero l = (x, refl)
entry_at (x ∷ xs) (suc k) l = entry_at xs k (omega (arith, l))

-- and the other way round
pub at_below : (es : List Entry) (key : List ℕ) (j : ℕ) → j < length es → KeyLess (get_or (keys_of es) j []) key
    → (e : Entry) × (slice_get es j ≡ Some e) × KeyLess e.key key
at_below es key j lt l =
    let e = entry_at es j lt in (e.0, e.1, subst (λ (k : List ℕ). KeyLess k key) (key_at es j e.0 e.1) l)

keys_count : (es : List Entry) → length (keys_of es) ≡ length es
keys_count es = length-map es (λ (d : Entry). d.key)

module _ (key : List ℕ) (es : List Entry) (p : ℕ) (prefix : Bool) (rises : Rising KeyLess (keys_of es))
    (w : IsBetween key (keys_of es) p p) where
  abbrev test : Entry → Bool
  test e = fits_asked (asked_for key prefix) e.key

  -- none fits before the place of the key
  none_before : (j : ℕ) (e : Entry) → slice_get es j ≡ Some e → j < p → test e ≡ false
  none_before j e there lt = false_of (test e) (λ f.
      not_before key (keys_of es) p rises w j lt
      (subst (λ (k : List ℕ). begins key k ≡ true) (sym (key_at es j e there)) (begins_fits key e.key prefix f)))

  between : (m j : ℕ) → p ≤ m → m < j → j < length (keys_of es)
      → (b : Bool) → fits_asked (asked_for key b) (get_or (keys_of es) j []) ≡ true
      → fits_asked (asked_for key b) (get_or (keys_of es) m []) ≡ true
  between m j le lt within true e =
      begins_between key (get_or (keys_of es) m []) (get_or (keys_of es) j []) e
      (not_greater key (get_or (keys_of es) m []) (w.above m le (omega (arith, lt, within))))
      (rising_at (keys_of es) rises m j lt within)
  between m j le lt within false e =
      let both = and_true (begins key (get_or (keys_of es) j [])) (begins (get_or (keys_of es) j []) key) e in
      let same = begins_both key (get_or (keys_of es) j []) both.0 both.1 in
      absurd (w.above m le (omega (arith, lt, within))
      (subst (KeyLess (get_or (keys_of es) m [])) (sym same) (rising_at (keys_of es) rises m j lt within)))

  -- none fits after one that doesn't
  none_after : (m : ℕ) → p ≤ m → ((e : Entry) → slice_get es m ≡ Some e → test e ≡ true → ⊥)
      → (j : ℕ) (e : Entry) → slice_get es j ≡ Some e → m ≤ j → test e ≡ false
  none_after m le off j e there least = false_of (test e) (λ f. by (three j m least) f)
    where
      three : (j m : ℕ) → m ≤ j → (m ≡ j) ⊎ (m < j)
      three j m l = grind arith

      within : j < length (keys_of es)
      within = omega (arith, keys_count es, slice_get_within es j e there)

      by : (m ≡ j) ⊎ (m < j) → test e ≡ true → ⊥
      by (inl same) f = off e (subst (λ (i : ℕ). slice_get es i ≡ Some e) (sym same) there) f
      by (inr lt) f =
          let d = entry_at es m (omega (arith, lt, slice_get_within es j e there)) in
          let first = subst (λ (k : List ℕ). fits_asked (asked_for key prefix) k ≡ true)
          (sym (key_at es j e there)) f in
          off d.0 d.1 (subst (λ (k : List ℕ). fits_asked (asked_for key prefix) k ≡ true) (key_at es m d.0 d.1)
          (between m j le lt within prefix first))

  -- so those are all from the place of the key to one that doesn't
  pub all_fitting : (end : ℕ) → p ≤ end → end ≤ length es
      → ((j : ℕ) (e : Entry) → slice_get es j ≡ Some e → p ≤ j → j < end → test e ≡ true)
      → ((e : Entry) → slice_get es end ≡ Some e → test e ≡ true → ⊥)
      → slice_range es p end ≡ entries_with (fits_asked (asked_for key prefix)) es
  all_fitting end le within here off =
      range_filtered test es p end le within none_before here (none_after end le off)
