-- Names that are put in another order.
use Rattle.std.proofs.Common.{◌≡◌, ℕ, zero, suc, ◌<◌, List, [], ◌∷◌, length, get_or, sym, subst, inl, inr, arith}
use Rattle.std.proofs.Common.{AllPairs, append-nil}
use Rattle.std.specs.List.{Contains}
use Rattle.std.specs.List.Sorted.{IsPermutation}
use Rattle.std.proofs.lemmas.List.Sorted.{IsPermutation-sym, Contains-permutation}
use Rattle.ts_base.specs.Vectors.{Vector}
use Rattle.page_types.specs.declared.page.Name.{Name}
use Rattle.core_state.specs.Log.{Log, In}
use Rattle.core_state.specs.History.{History}
use Rattle.core_state.specs.Legal.{Pin}
use Rattle.core_state.proofs.LawfulHistories.{ByName}
use Rattle.core_state.proofs.SnapshotOrder.{apart_permuted}
use Rattle.gin_scan.specs.Taking.{AreTaken}

-- ── the same elements ──

pub in_place : {A : Type 0} (x : A) (xs : List A) → In x xs → Contains xs x
in_place x [] i = absurd i
in_place x (y ∷ ys) (inl e) = (zero, omega arith, sym e)
in_place x (y ∷ ys) (inr i) = let f = in_place x ys i in (suc f.0, omega (arith, f.1), f.2)

place_in : {A : Type 0} (x : A) (xs : List A) → Contains xs x → In x xs
place_in x [] c = absurd (omega (arith, c.1))
place_in x (y ∷ ys) c = by (place_in x ys) c.0 c.1 c.2
  where
    by : (Contains ys x → In x ys) → (k : ℕ) → k < length (y ∷ ys) → get_or (y ∷ ys) k x ≡ x → In x (y ∷ ys)
    by more zero l e = inl (sym e)
    by more (suc k) l e = inr (more (k, omega (arith, l), e))

pub in_other : {A : Type 0} (xs ys : List A) (x : A) → IsPermutation xs ys → In x xs → In x ys
in_other xs ys x p i = place_in x ys (Contains-permutation xs ys x p (in_place x xs i))

-- ── what is taken ──

-- Where no vector waits the order of the names doesn't matter.
pub order_taken : (P : Vector → Type 0) (R : Log) (pin : Pin) (H : History) (items : List ℕ) (ns ms : List Name)
    → IsPermutation ns ms → AreTaken P R pin H items ns [] → AreTaken P R pin H items ms []
order_taken P R pin H items ns ms p t = record {
  found = λ n i. t.found n (in_other ms ns n (IsPermutation-sym ns ms p) i);
  waits = t.waits;
  all = λ d a y. subst (In d.name) (sym (append-nil ms))
      (in_other ns ms d.name p (subst (In d.name) (append-nil ns) (t.all d a y)));
  once = subst (AllPairs ByName) (sym (append-nil ms))
      (apart_permuted ns ms p (subst (AllPairs ByName) (append-nil ns) t.once));
}
