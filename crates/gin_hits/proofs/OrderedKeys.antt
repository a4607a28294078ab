-- The numbers of the keys that are asked, sorted and each key once, name these keys in their order.
use Rattle.std.proofs.Common.{◌≡◌, ◌⊎◌, ℕ, ◌<◌, Bool, true, false, List, [], ◌∷◌, length, map, refl, sym}
use Rattle.std.proofs.Common.{ap₂, subst, ◌∙◌, inl, inr, arith, nat_cmp, Ordering, Less, Equal, Greater, AllPairs}
use Rattle.std.specs.Prelude.{Vec, Contains}
use Rattle.std.specs.declared.alloc.Global.{Global}
use Rattle.std.specs.Ordering.{bool_cmp, ordering_then, is_eq, is_lt, eq_by_cmp}
use Rattle.std.specs.Cmp.{IsTotalOrder, IsStrictWeakOrder, bool_cmp_total}
use Rattle.std.specs.Cmp.Lexicographic.{slice_cmp}
use Rattle.std.specs.FinMap.{slice_cmp-IsAntisymmetric, nat_cmp-IsAntisymmetric}
use Rattle.std.specs.List.{All, dedup}
use Rattle.std.specs.List.Sorted.{IsPermutation, IsSorted, IsStrictlySortedBy}
use Rattle.std.proofs.lemmas.Cmp.{then_total, on_total, nat_list_cmp_total, eq_by_cmp_equiv}
use Rattle.std.proofs.lemmas.List.{get_or_default, length-map}
use Rattle.std.proofs.lemmas.List.Elements.{All-map, All-weaker, All-from_recursion}
use Rattle.std.proofs.lemmas.List.Filters.{All-dedup}
use Rattle.std.proofs.lemmas.List.Kept.{AllPairs-cons, Any-dedup, IsStrictlySortedBy-dedup}
use Rattle.std.proofs.lemmas.List.Sorted.{ranks_by, All-permutation, Contains-permutation}
use Rattle.core_state.specs.Log.{In}
use Rattle.core_moments.proofs.Words.{contained, contains}
use Rattle.gin_opclass.specs.Class.{Asked}
use Rattle.gin_hits.specs.Rows.{asked_by, asked_for}
use Rattle.gin_hits.specs.Ordered.{AskedLess, AreOrdered, asked_at}
use Rattle.gin_hits.specs.Inner.Keys.{asked_cmp, number_cmp}
use Rattle.gin_hits.proofs.MappedLists.{in_map, of_map}

-- ── two keys ──

then_equal : (r s : Ordering) → ordering_then r s ≡ Equal → (r ≡ Equal) × (s ≡ Equal)
then_equal Less s e = cc
then_equal Equal s e = (refl, e)
then_equal Greater s e = cc

then_less : (r s : Ordering) → ordering_then r s ≡ Less → (r ≡ Less) ⊎ ((r ≡ Equal) × (s ≡ Less))
then_less Less s e = inl refl
then_less Equal s e = inr (refl, e)
then_less Greater s e = cc

same_flags : (p q : Bool) → bool_cmp p q ≡ Equal → p ≡ q
same_flags true true e = refl
same_flags true false e = cc
same_flags false true e = cc
same_flags false false e = refl

flags_less : (p q : Bool) → bool_cmp p q ≡ Less → (p ≡ false) × (q ≡ true)
flags_less true true e = cc
flags_less true false e = cc
flags_less false true e = (refl, refl)
flags_less false false e = cc

same_key : (a b : List ℕ) → slice_cmp nat_cmp a b ≡ Equal → a ≡ b
same_key a b e = slice_cmp-IsAntisymmetric nat_cmp-IsAntisymmetric a b e

same_asked : (a b : Asked) → asked_cmp a b ≡ Equal → a ≡ b
same_asked a b e =
    let both = then_equal (slice_cmp nat_cmp a.key b.key) (bool_cmp a.prefix b.prefix) e in
    ap₂ asked_for (same_key a.key b.key both.0) (same_flags a.prefix b.prefix both.1)

asked_less : (a b : Asked) → asked_cmp a b ≡ Less → AskedLess a b
asked_less a b e = elim (then_less (slice_cmp nat_cmp a.key b.key) (bool_cmp a.prefix b.prefix) e) [
  | inl less ↦ inl less
  | inr twin ↦
      let flags = flags_less a.prefix b.prefix twin.1 in
      inr (same_key a.key b.key twin.0, flags.0, flags.1)
]

asked_total : IsTotalOrder asked_cmp
asked_total =
    then_total (on_total (λ (a : Asked). a.key) nat_list_cmp_total) (on_total (λ (a : Asked). a.prefix) bool_cmp_total)

equal_of : (o : Ordering) → is_eq o ≡ true → o ≡ Equal
equal_of Less e = cc
equal_of Equal e = refl
equal_of Greater e = cc

-- ── their numbers ──

module _ (keys : List (Vec ℕ Global × Bool)) where
  pub number_order : IsStrictWeakOrder (λ (i j : ℕ). is_lt (number_cmp keys i j))
  number_order = ranks_by asked_total (asked_at keys)

  numbers_total : IsTotalOrder (number_cmp keys)
  numbers_total = on_total (asked_at keys) asked_total

  strictly : (order : List ℕ) → IsStrictlySortedBy (number_cmp keys) order
      → AllPairs AskedLess (map (asked_at keys) order)
  unfolding IsStrictlySortedBy
  strictly [] h = λ i j d lt within. absurd (omega (arith, lt, within))
  strictly (k ∷ ks) h =
      AllPairs-cons AskedLess (asked_at keys k) (map (asked_at keys) ks)
      (All-map (AskedLess (asked_at keys k)) (asked_at keys) ks
      (All-weaker (λ (j : ℕ). number_cmp keys k j ≡ Less) (λ (j : ℕ). AskedLess (asked_at keys k) (asked_at keys j))
      (λ j less. asked_less (asked_at keys k) (asked_at keys j) less) ks
      (All-from_recursion (λ (j : ℕ). number_cmp keys k j ≡ Less) ks h.0)))
      (strictly ks h.1)

  asked_in : (j : ℕ) → j < length keys → In (asked_at keys j) (map asked_by keys)
  asked_in j lt =
      let within : j < length (map asked_by keys) = omega (arith, lt, length-map keys asked_by) in
      contained (asked_at keys j) (map asked_by keys)
      (j, within, get_or_default (map asked_by keys) j (asked_at keys j) (asked_for [] false) within)

  -- all numbers, then sorted, then each key once
  pub each_number : (order sorted once : List ℕ) → All (λ (k : ℕ). k < length keys) order
      → IsPermutation order sorted → once ≡ dedup (eq_by_cmp (number_cmp keys)) sorted
      → All (λ (k : ℕ). k < length keys) once
  each_number order sorted once each moved is =
      subst (All (λ (k : ℕ). k < length keys)) (sym is)
      (All-dedup (eq_by_cmp (number_cmp keys)) (λ (k : ℕ). k < length keys) sorted
      (All-permutation (λ (k : ℕ). k < length keys) order sorted moved each))

  module _ (order sorted once : List ℕ) (each : All (λ (k : ℕ). k < length keys) order)
      (all : (j : ℕ) → j < length keys → Contains order j) (moved : IsPermutation order sorted)
      (up : IsSorted (number_cmp keys) sorted) (is : once ≡ dedup (eq_by_cmp (number_cmp keys)) sorted) where
    named : (a : Asked) → In a (map (asked_at keys) once) → In a (map asked_by keys)
    named a m =
        let k = of_map (asked_at keys) a once m in
        let at = contains k.0 once k.1 in
        subst (λ (b : Asked). In b (map asked_by keys)) (sym k.2)
        (asked_in k.0 (subst (λ (n : ℕ). n < length keys) at.2
        (each_number order sorted once each moved is at.0 k.0 at.1)))

    names : (a : Asked) → In a (map asked_by keys) → In a (map (asked_at keys) once)
    names a m =
        let j = contains a (map asked_by keys) m in
        let within : j.0 < length keys = omega (arith, j.1, length-map keys asked_by) in
        let kept = Any-dedup (eq_by_cmp_equiv numbers_total) sorted j.0
        (Contains-permutation order sorted j.0 moved (all j.0 within)) in
        let y = kept.1 in
        let same = same_asked (asked_at keys j.0) (asked_at keys y) (equal_of (number_cmp keys j.0 y) kept.4) in
        let there : In y once =
        subst (In y) (sym is) (contained y (dedup (eq_by_cmp (number_cmp keys)) sorted) (kept.0, kept.2, kept.3)) in
        subst (λ (b : Asked). In b (map (asked_at keys) once))
        (sym same ∙ get_or_default (map asked_by keys) j.0 (asked_for [] false) a j.1 ∙ j.2)
        (in_map (asked_at keys) y once there)

    pub ordered : AreOrdered (map asked_by keys) (map (asked_at keys) once)
    ordered = record {
      rising = strictly once (subst (IsStrictlySortedBy (number_cmp keys)) (sym is)
          (IsStrictlySortedBy-dedup numbers_total (λ x y. refl) sorted up));
      just = λ a. (named a, names a);
    }
