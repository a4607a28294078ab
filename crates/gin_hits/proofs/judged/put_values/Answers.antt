use Rattle.std.proofs.Common.{◌∙◌, ◌≤◌, ◌<◌, ◌↔◌, ℕ, IsTrue, List, length, sym, subst, arith, AllPairs}
use Rattle.std.proofs.lemmas.List.{length-set}
use Rattle.core_state.specs.Log.{In}
use Rattle.gin_hits.specs.Rows.{lists_of}
use Rattle.gin_hits.proofs.ToldHits.{all_get}
use Rattle.gin_hits.proofs.ToldValues.{list_here, value_step}
use Rattle.gin_hits.proofs.judged.put_values.Goals as goal

pub value_of-value-requires : goal.value_of-value-requires
value_of-value-requires c =
    let h = c.args.hits.now in
    let v = c.index.result.now in
    let k = c.loop-k.k in
    let lt : k < length h.by_key.items
    = omega (arith, c.loop-k-test.true, c.len-k-end.ensures, c.requires.lists, c.args.values.now.ok.0) in
    subst (AllPairs (λ (i j : ℕ). i ≤ j)) (sym c.deref.ensures.value)
    (all_get (λ (items : List ℕ). AllPairs (λ (i j : ℕ). i ≤ j) items) (lists_of h) k v.items c.requires.in_order
    (list_here h k v lt c.index.ensures))

pub loop-k-preserved : goal.loop-k-preserved
loop-k-preserved c =
    let h = c.args.hits.now in
    let v = c.index.result.now in
    let k = c.loop-k.k in
    let ts = c.loop-k.values.items in
    let was = c.loop-k.invariant in
    let short : k < length ts
    = omega (arith, c.loop-k-test.true, c.len-k-end.ensures, was.count, c.args.values.now.ok.0) in
    let lt : k < length h.by_key.items = omega (arith, short, was.count, c.requires.lists) in
    let at = list_here h k v lt c.index.ensures in
    let e = c.value_of-value.ensures in record {
      count = length-set ts k _ ∙ was.count;
      are = value_step h c.args.item c.args.absent ts k v.items e.0 c.value_of-value.result.0 e.2 short was.are at
          (subst (λ (is : List ℕ). IsTrue e.0 ↔ In c.args.item is) c.deref.ensures.value e.1);
    }
