use Rattle.std.proofs.Common.{List, inl, inr, sym, ap, subst, ◌∙◌, arith}
use Rattle.std.specs.Prelude.{Contains}
use Rattle.ts_base.specs.Vectors.{Position}
use Rattle.ts_match.specs.Laws.Elements.{Contains-cases, Contains-none}
use Rattle.ts_match.proofs.Order.{greater_is}
use Rattle.ts_match.proofs.Walks.{into_positions}
use Rattle.ts_match.proofs.encoded.last_in.Goals as goal

pub loop-position-init : goal.loop-position-init
loop-position-init c = record {
  each = λ p h. inr (subst (λ (ps : List Position). Contains ps p)
      (sym (c.into_iter-position-iterator.ensures.into_iter_gives ∙ c.places-position-items.ensures)) h);
  small = omega arith;
}

pub loop-position-preserved : goal.loop-position-preserved
loop-position-preserved c =
    let g = greater_is c.loop-position.last c.at.result c.max-last.result c.max-last.ensures in record {
      each = λ p h. elim (c.loop-position.invariant.each p h) [
        | inl q ↦ inl (let l = g.left in omega arith)
        | inr q ↦ elim (Contains-cases c.in-Some.position p c.next.new.self
            (subst (λ (ps : List Position). Contains ps p) c.in-Some.ensures.steps q)) [
              | inl e ↦ inl
                  (let r = g.right in
                  let a = ap (λ (x : Position). x.at) e in let b = c.at.ensures.value in omega arith)
              | inr k ↦ inr k
            ]
      ];
      small = (let a = c.loop-position.invariant.small in let b = c.at.ensures.valid.1 in
          let d = c.at.ensures.value in elim g.one [ inl x ↦ omega arith | inr x ↦ omega arith ]);
    }

pub returns-clause-each : goal.returns-clause-each
returns-clause-each c = λ i e p l m h. elim (c.loop-position.invariant.each p
    (into_positions c.args.vector.now c.args.found.first c.args.found.end i e p c.requires l m h)) [
      | inl q ↦ q
      | inr q ↦ absurd (Contains-none p (subst (λ (ps : List Position). Contains ps p) c.in-None.ensures.steps.0 q))
    ]
