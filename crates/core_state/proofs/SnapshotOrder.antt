-- The documents of a snapshot rise by their serials, so that a serial is one document's; and names that
-- were put in order rise where no two have one serial.
use Rattle.std.proofs.Common.{◌≡◌, ◌≢◌, ◌<◌, ◌≤◌, ℕ, suc, List, [], ◌∷◌, ◌++◌, take, drop, get_or}
use Rattle.std.proofs.Common.{refl, sym, ap, subst, ◌∙◌, inl, inr, arith}
use Rattle.std.specs.Prelude.{⊤}
use Rattle.std.specs.List.{AllPairs, filter}
use Rattle.std.specs.List.Sorted.{IsNonDecreasingBy, IsPermutation}
use Rattle.std.proofs.lemmas.Grind.{flat_map-append}
use Rattle.std.proofs.lemmas.List.{take-append-drop}
use Rattle.std.proofs.lemmas.List.Sorted.{sum_by-IsPermutation}
use Rattle.page_types.specs.declared.page.Name.{Name}
use Rattle.core_state.specs.Log.{Log, In}
use Rattle.core_state.specs.History.{Document, Commit, History, IsHistory, inserts, deletes, stays, docs}
use Rattle.core_state.specs.Legal.{IsLegal}
use Rattle.core_state.specs.States.{names}
use Rattle.core_state.proofs.PageLists.{in_front}
use Rattle.core_state.proofs.RunningOnes.{same_or_other, on_same, on_other}
use Rattle.core_state.proofs.ApartLists.{in_map, pairs_none, pairs_head, pairs_tail, pairs_more}
use Rattle.core_state.proofs.NamesInOrder.{Rise, one, count, one_more, in_at, sorted_rise}
use Rattle.core_state.proofs.LawfulHistories.{ByDocument, ByName, inserts_apart, docs_apart}

-- each is below all that come after it, by a number
abbrev pub RiseBy : {A : Type 0} → (A → ℕ) → List A → Type 0
RiseBy {A} f [] = ⊤
RiseBy {A} f (x ∷ xs) = ((y : A) → In y xs → f x < f y) × RiseBy f xs

abbrev pub serial_of : Document → ℕ
serial_of d = d.name.serial

-- ── elements of which no two have one number ──

module _ {A : Type 0} (f : A → ℕ) where
  abbrev pub Differ : A → A → Type 0
  Differ a b = f a ≢ f b

  -- two with one number are one
  pub one_of : (xs : List A) → AllPairs Differ xs → (x y : A) → In x xs → In y xs → f x ≡ f y → x ≡ y
  one_of [] apart x y i j same = absurd i
  one_of (z ∷ zs) apart x y (inl e) (inl g) same = e ∙ sym g
  one_of (z ∷ zs) apart x y (inl e) (inr j) same = absurd (pairs_head Differ z zs apart y j (ap f (sym e) ∙ same))
  one_of (z ∷ zs) apart x y (inr i) (inl g) same = absurd (pairs_head Differ z zs apart x i (ap f (sym g) ∙ sym same))
  one_of (z ∷ zs) apart x y (inr i) (inr j) same = one_of zs (pairs_tail Differ z zs apart) x y i j same

  -- they rise where they don't fall
  pub apart_rise : (xs : List A) → IsNonDecreasingBy f xs → AllPairs Differ xs → RiseBy f xs
  apart_rise [] order apart = tt
  apart_rise (x ∷ xs) order apart = (
    λ y i.
        let r = in_at xs y i in
        let le : f x ≤ f (get_or xs r.0 y) = order 0 (suc r.0) y (omega arith) (omega (arith, r.1)) in
        let off : f x ≢ f y = pairs_head Differ x xs apart y i in
        omega (arith, le, ap f r.2, off),
    apart_rise xs (λ i j d le l. order (suc i) (suc j) d (omega (arith, le)) (omega (arith, l)))
        (pairs_tail Differ x xs apart),
  )

-- each two at the front of a list are apart where all are
pub pairs_front : {A : Type 0} (Apart : A → A → Type 0) (xs ys : List A) → AllPairs Apart (xs ++ ys) → AllPairs Apart xs
pairs_front Apart [] ys apart = pairs_none Apart
pairs_front Apart (x ∷ xs) ys apart =
    pairs_more Apart x xs (λ y i. pairs_head Apart x (xs ++ ys) apart y (in_front y xs ys i))
    (pairs_front Apart xs ys (pairs_tail Apart x (xs ++ ys) apart))

-- ── names in another order ──

none_of : (s : ℕ) (xs : List Name) → ((y : Name) → In y xs → y.serial ≢ s) → count s xs ≡ 0
none_of s [] off = refl
none_of s (x ∷ xs) off =
    let first : one s x ≡ 0 = on_other x.serial s 1 0 (off x (inl refl)) in
    omega (arith, one_more s x xs, first, none_of s xs (λ y i. off y (inr i)))

some_of : (y : Name) (xs : List Name) → In y xs → 0 < count y.serial xs
some_of y [] i = absurd i
some_of y (x ∷ xs) (inl e) =
    let first : one y.serial x ≡ 1 = on_same x.serial y.serial 1 0 (ap (λ (n : Name). n.serial) (sym e)) in
    omega (arith, one_more y.serial x xs, first)
some_of y (x ∷ xs) (inr i) = omega (arith, one_more y.serial x xs, some_of y xs i)

apart_few : (xs : List Name) → AllPairs ByName xs → (s : ℕ) → count s xs ≤ 1
apart_few [] apart s = omega arith
apart_few (x ∷ xs) apart s = elim (same_or_other x.serial s) [
  | inl e ↦
      let first : one s x ≡ 1 = on_same x.serial s 1 0 e in
      let rest = none_of s xs (λ y i f. pairs_head ByName x xs apart y i (e ∙ sym f)) in
      omega (arith, one_more s x xs, first, rest)
  | inr off ↦
      let first : one s x ≡ 0 = on_other x.serial s 1 0 off in
      omega (arith, one_more s x xs, first, apart_few xs (pairs_tail ByName x xs apart) s)
]

few_apart : (xs : List Name) → ((s : ℕ) → count s xs ≤ 1) → AllPairs ByName xs
few_apart [] few = pairs_none ByName
few_apart (x ∷ xs) few =
    pairs_more ByName x xs
    (λ y i same.
    let first : one y.serial x ≡ 1 = on_same x.serial y.serial 1 0 same in
    omega (arith, few y.serial, one_more y.serial x xs, first, some_of y xs i))
    (few_apart xs (λ s. omega (arith, few s, one_more s x xs)))

-- no two have one serial in any order
pub apart_permuted : (xs ys : List Name) → IsPermutation xs ys → AllPairs ByName xs → AllPairs ByName ys
apart_permuted xs ys same apart = few_apart ys (λ s.
    let e : count s ys ≡ count s xs = sum_by-IsPermutation (one s) xs ys same in
    omega (arith, e, apart_few xs apart s))

-- names that were put in order
pub names_rise : (xs ys : List Name) → AllPairs ByName xs → IsPermutation xs ys
    → IsNonDecreasingBy (λ (n : Name). n.serial) ys → RiseBy (λ (n : Name). n.serial) ys
names_rise xs ys apart same order =
    apart_rise (λ (n : Name). n.serial) ys order (apart_permuted xs ys same apart)

-- ── the documents of a snapshot ──

-- documents by serial
apart_by_serial : (ds : List Document) → Rise (names ds) → AllPairs ByDocument ds → RiseBy serial_of ds
apart_by_serial [] rise apart = tt
apart_by_serial (d ∷ ds) rise apart = (
  λ e i.
      let le : d.name.serial ≤ e.name.serial = rise.0 e.name (in_map (λ (a : Document). a.name) e ds i) in
      let off : d.name.serial ≢ e.name.serial = pairs_head ByDocument d ds apart e i in
      omega (arith, le, off),
  apart_by_serial ds rise.1 (pairs_tail ByDocument d ds apart),
)

module _ (R : Log) (H : History) (n : ℕ) (legal : IsLegal R) (history : IsHistory R H) where
  first_inserts : inserts H ≡ inserts (take n H) ++ inserts (drop n H)
  first_inserts =
      ap inserts (sym (take-append-drop n H)) ∙ flat_map-append (λ (c : Commit). c.inserted) (take n H) (drop n H)

  -- no two have one serial
  pub there_apart : AllPairs ByDocument (docs (take n H))
  there_apart =
      docs_apart (take n H)
      (pairs_front ByDocument (inserts (take n H)) (inserts (drop n H))
      (subst (AllPairs ByDocument) first_inserts (inserts_apart R H legal history)))

  -- they are in the order of their serials
  pub docs_rise : RiseBy serial_of (docs (take n H))
  docs_rise =
      let kept = filter (λ (d : Document). stays d (deletes (take n H))) (inserts (take n H)) in
      apart_by_serial (docs (take n H)) (sorted_rise kept) there_apart

  -- two with one serial are one
  pub one_there : (d e : Document) → In d (docs (take n H)) → In e (docs (take n H)) → d.name.serial ≡ e.name.serial
      → d ≡ e
  one_there = one_of serial_of (docs (take n H)) there_apart
