use Rattle.std.proofs.Common.{◌≡◌, ℕ, ◌<◌, ◌∷◌, [], ◌++◌, List, length, sym, subst, arith, rules, below_more}
use Rattle.std.specs.Prelude.{Contains}
use Rattle.std.specs.List.{All}
use Rattle.std.specs.Ordering.{is_lt, eq_by_cmp}
use Rattle.std.proofs.lemmas.Fn.{always_returns_same, dedup_same}
use Rattle.std.proofs.lemmas.Grind.{common_steps}
use Rattle.std.proofs.lemmas.List.Elements.{All-push, Contains-append_left, Contains-push}
use Rattle.gin_hits.specs.Inner.Keys.{number_cmp}
use Rattle.gin_hits.proofs.OrderedKeys.{number_order, each_number, ordered}
use Rattle.gin_hits.proofs.order.in_order.Goals as goal

pub loop-k-preserved : goal.loop-k-preserved
loop-k-preserved c =
    let keys = c.args.keys.now in
    let order = c.loop-k.order.items in
    let k = c.loop-k.k in
    let was = c.loop-k.invariant in
    let new : c.push.new.self.items ≡ order ++ k ∷ [] = grind (arith, common_steps) in
    record {
      each = subst (All (λ (j : ℕ). j < length keys)) (sym new)
          (All-push (λ (j : ℕ). j < length keys) order k was.each (omega arith));
      all = λ j lt. subst (λ (xs : List ℕ). Contains xs j) (sym new)
          (below_more (λ (i : ℕ). Contains (order ++ k ∷ []) i) k
          (λ i l. Contains-append_left order (k ∷ []) i (was.all i l)) (Contains-push order k) j lt);
    }

pub returns-clause-each : goal.returns-clause-each
returns-clause-each c =
    let keys = c.args.keys.now in
    let sorted = c.sort_unstable_by.new.self.items in
    let was = c.loop-k.invariant in
    each_number keys c.loop-k.order.items sorted c.dedup_by.new.self.items was.each
    c.sort_unstable_by.ensures.permutation
    (dedup_same _ (eq_by_cmp (number_cmp keys)) _ (λ x y b f' x' y' k. search rules) sorted c.dedup_by.new.self.items
    c.dedup_by.ensures.filtered)

pub returns-clause-ordered : goal.returns-clause-ordered
returns-clause-ordered c =
    let keys = c.args.keys.now in
    let sorted = c.sort_unstable_by.new.self.items in
    let was = c.loop-k.invariant in
    ordered keys c.loop-k.order.items sorted c.dedup_by.new.self.items was.each
    (λ j lt. was.all j (omega (arith, lt, c.loop-k-test.false)))
    c.sort_unstable_by.ensures.permutation
    (c.sort_unstable_by.ensures.sorted (λ (i j : ℕ). is_lt (number_cmp keys i j)) (number_order keys)
    (always_returns_same _ (λ a r. is_lt r ≡ is_lt (number_cmp keys a.0.now a.1.0.now)) _ (λ a r f' k. search rules)))
    (dedup_same _ (eq_by_cmp (number_cmp keys)) _ (λ x y b f' x' y' k. search rules) sorted c.dedup_by.new.self.items
    c.dedup_by.ensures.filtered)
