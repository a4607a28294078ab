-- A list for each key.
use Rattle.std.proofs.Common.{◌≡◌, ◌∙◌, ℕ, List, [], replicate, ap, arith}
use Rattle.gin_hits.proofs.ItemLists.{one_empty}
use Rattle.gin_hits.proofs.hits.Hits.new.Goals as goal

pub loop-preserved : goal.loop-preserved
loop-preserved c =
    one_empty c.loop.by_key.items c.push.new.self.items c.new.result c.loop.counter c.in_ok-push.ensures.items
    c.new.ensures.items c.loop.invariant

pub returns : goal.returns
returns c =
    let all : c.loop.counter ≡ c.args.count = omega (arith, c.loop-test.false, c.loop.auto.counter-end) in record {
      any = c.new-2.ensures.items;
      by_key = c.loop.invariant ∙ ap (λ (n : ℕ). replicate {A = List ℕ} n []) all;
    }
