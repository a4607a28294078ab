use Rattle.std.proofs.Common.{◌≡◌, ◌<◌, List, length, get_or, inl, inr, sym, subst, arith}
use Rattle.std.specs.Prelude.{Contains}
use Rattle.std.proofs.lemmas.Bool.{cases_lt}
use Rattle.ts_base.specs.Vectors.{Position}
use Rattle.ts_match.proofs.Order.{greater_is}
use Rattle.ts_match.proofs.Lookups.{nothing}
use Rattle.ts_match.proofs.Searches.{Rising}
use Rattle.ts_match.proofs.layout.last_in.Goals as goal

pub last_position-requires : goal.last_position-requires
last_position-requires c =
    let l : c.loop-k.k < length c.args.vector.now = omega (arith, c.requires.within) in
    let r : Rising (get_or c.args.vector.now c.loop-k.k nothing).positions =
    (c.requires.normal.entries c.loop-k.k nothing l).rising in
    rw (← c.positions.ensures nothing) at r

pub loop-k-preserved : goal.loop-k-preserved
loop-k-preserved c =
    let g = greater_is c.loop-k.last c.last_position.result c.max-last.result c.max-last.ensures in record {
      each = λ i e p l m h. elim (cases_lt i c.loop-k.k) [
        | inl q ↦ let a = c.loop-k.invariant.each i e p l q h in let b = g.left in omega arith
        | inr q ↦
            let same : i ≡ c.loop-k.k = omega arith in
            let here = subst (λ j. Contains (get_or c.args.vector.now j e).positions p) same h in
            let there = subst (λ (ps : List Position). Contains ps p) (sym (c.positions.ensures e)) here in
            let a = c.last_position.ensures.each p there in let b = g.right in omega arith
      ];
      small = (let a = c.loop-k.invariant.small in
          let b = c.last_position.ensures.small in elim g.one [ inl x ↦ omega arith | inr x ↦ omega arith ]);
    }

pub returns-clause-each : goal.returns-clause-each
returns-clause-each c = λ i e p l m h. c.loop-k.invariant.each i e p l (omega arith) h
