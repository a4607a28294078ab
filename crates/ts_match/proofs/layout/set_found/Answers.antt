use Rattle.std.proofs.Common.{◌≡◌, ◌<◌, ◌||◌, List, length, get_or, refl, sym, ap, subst, ◌∙◌, arith}
use Rattle.std.specs.Prelude.{Contains}
use Rattle.std.specs.List.{list_any, slice_range}
use Rattle.ts_base.specs.Vectors.{Position}
use Rattle.ts_match.specs.Inner.BitSets.{bit_value}
use Rattle.ts_match.proofs.Lookups.{nothing}
use Rattle.ts_match.proofs.Laid.{sets, sets_some, any_one, or_assoc, none_between, slice_more}
use Rattle.ts_match.proofs.layout.set_found.Goals as goal

pub set_positions-requires-clause-within : goal.set_positions-requires-clause-within
set_positions-requires-clause-within c = λ q h.
    c.requires.ready.within c.loop-i.i nothing q (let x = c.loop-i.auto.i in x) c.loop-i-test.true
    (subst (λ (ps : List Position). Contains ps q) (c.positions.ensures nothing) h)

pub loop-i-init : goal.loop-i-init
loop-i-init c = record {
  value = λ j. none_between (bit_value c.args.count c.args.bits.now j)
      (sets_some c.args.how.by j c.args.how.weights) c.args.vector.now c.args.found.first;
  len = refl;
}

pub loop-i-preserved : goal.loop-i-preserved
loop-i-preserved c =
    let v = c.args.vector.now in
    let i = c.loop-i.i in
    let first = c.args.found.first in
    let by = c.args.how.by in
    let w = c.args.how.weights in
    let l : c.loop-i.i < length c.args.vector.now = (let x = c.requires.ready.end in omega arith) in record {
      value = λ j.
          let old = bit_value c.args.count c.args.bits.now j in
          let so_far = list_any (sets_some by j w) (slice_range v first i) in
          c.set_positions.ensures.value j
          ∙ ap (λ b. b || list_any (sets by j w) c.positions.result.now) (c.loop-i.invariant.value j)
          ∙ or_assoc old so_far (list_any (sets by j w) c.positions.result.now)
          ∙ ap (λ (ps : List Position). old || (so_far || list_any (sets by j w) ps)) (c.positions.ensures nothing)
          ∙ ap (λ b. old || b) (sym (any_one (sets_some by j w) (slice_range v first i) (get_or v i nothing)))
          ∙ ap (λ es. old || list_any (sets_some by j w) es)
          (sym (slice_more v first i nothing (let x = c.loop-i.auto.i in x) l));
      len = c.set_positions.ensures.len ∙ c.loop-i.invariant.len;
    }

pub returns-clause-value : goal.returns-clause-value
returns-clause-value c = λ j.
    let end : c.loop-i.i ≡ c.args.found.end =
    (let m = c.loop-i.auto.i-end c.requires.order in let t = c.loop-i-test.false in omega arith) in
    c.loop-i.invariant.value j ∙ ap (λ e. bit_value c.args.count c.args.bits.now j || list_any
    (sets_some c.args.how.by j c.args.how.weights) (slice_range c.args.vector.now c.args.found.first e)) end
