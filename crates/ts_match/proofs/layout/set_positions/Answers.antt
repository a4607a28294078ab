use Rattle.std.proofs.Common.{◌≡◌, ◌||◌, length, take, refl, sym, subst, ap, ◌∙◌, arith}
use Rattle.std.specs.Prelude.{Contains}
use Rattle.std.specs.List.{list_any}
use Rattle.ts_base.specs.Vectors.{Position}
use Rattle.std.proofs.Math.Seq.{take-length}
use Rattle.std.proofs.lemmas.List.Folds.{list_any_more}
use Rattle.std.proofs.lemmas.List.Elements.{Contains-get_or}
use Rattle.ts_match.specs.Inner.BitSets.{bit_value}
use Rattle.ts_match.proofs.Laid.{sets, or_assoc, or_none}
use Rattle.ts_match.proofs.layout.set_positions.Goals as goal

pub set_position-requires-clause-within : goal.set_position-requires-clause-within
set_position-requires-clause-within c =
    c.requires.within c.position-item.result
    (subst (λ (p : Position). Contains c.args.positions.now p) (sym c.position-item.is) (Contains-get_or
    c.args.positions.now c.loop-position.position-index c.position-item.result c.loop-position-test.true))

pub loop-position-init : goal.loop-position-init
loop-position-init c = record { value = λ j. sym (or_none (bit_value c.args.count c.args.bits.now j)); len = refl }

pub loop-position-preserved : goal.loop-position-preserved
loop-position-preserved c =
    let i = c.loop-position.position-index in
    let ps = c.args.positions.now in record {
      value = λ j.
          let old = bit_value c.args.count c.args.bits.now j in
          let p = sets c.args.by j c.args.weights in
          let x = c.position-item.result in
          c.set_position.ensures.value j ∙ ap (λ b. b || p x) (c.loop-position.invariant.value j)
          ∙ or_assoc old (list_any p (take i ps)) (p x)
          ∙ ap (λ y. old || (list_any p (take i ps) || p y)) c.position-item.is
          ∙ ap (λ b. old || b) (sym (list_any_more p ps i x c.loop-position-test.true));
      len = c.set_position.ensures.len ∙ c.loop-position.invariant.len;
    }

pub returns-clause-value : goal.returns-clause-value
returns-clause-value c = λ j.
    let ps = c.args.positions.now in
    let all : c.loop-position.position-index ≡ length c.args.positions.now = omega arith in
    c.loop-position.invariant.value j
    ∙ ap (λ l. bit_value c.args.count c.args.bits.now j || list_any (sets c.args.by j c.args.weights) l)
    (ap (λ n. take n ps) all ∙ take-length ps)
