use Rattle.std.proofs.Common.{ℕ, List, subst, sym}
use Rattle.std.proofs.lemmas.List.Filters.{dedup_is}
use Rattle.std.proofs.lemmas.List.Kept.{Contains-dedup_nat, Contains-from_dedup}
use Rattle.std.proofs.lemmas.List.Sorted.{Contains-permutation, IsPermutation-sym}
use Rattle.std.proofs.lemmas.Map.Keys.{IsStrictlyIncreasing-dedup}
use Rattle.std.specs.List.{Contains}
use Rattle.core_state.proofs.NamesInOrder.{in_at}
use Rattle.gin_cleanup.proofs.FirstKeys.{at_in}
use Rattle.gin_cleanup.proofs.gathered.in_order.Goals as goal

pub returns-clause-rising : goal.returns-clause-rising
returns-clause-rising c =
    let is = dedup_is _ _ _ c.dedup.ensures.filtered in
    rw is (IsStrictlyIncreasing-dedup _ c.sort_unstable.ensures.sorted)

pub returns-clause-same : goal.returns-clause-same
returns-clause-same c =
    let is = dedup_is _ _ _ c.dedup.ensures.filtered in
    let was = c.args.items.items in
    let now = c.dedup.new.self.items in
    let moved = c.sort_unstable.ensures.permutation in
    λ i. (
      λ h. let kept = subst (λ (xs : List ℕ). Contains xs i) is (in_at now i h) in
          let r = Contains-permutation _ was i (IsPermutation-sym _ _ moved) (Contains-from_dedup _ _ i kept) in
          at_in was i r.0 r.1 r.2,
      λ h. let r = subst (λ (xs : List ℕ). Contains xs i) (sym is)
          (Contains-dedup_nat _ i (Contains-permutation was _ i moved (in_at was i h))) in
          at_in now i r.0 r.1 r.2,
    )
