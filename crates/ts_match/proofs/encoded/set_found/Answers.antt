use Rattle.std.proofs.Common.{◌||◌, List, refl, sym, ap, subst, ◌∙◌}
use Rattle.std.specs.Prelude.{Contains}
use Rattle.std.specs.List.{list_any, slice_range}
use Rattle.ts_base.specs.Vectors.{Position, Entry}
use Rattle.ts_match.specs.Inner.BitSets.{bit_value}
use Rattle.ts_match.proofs.Lists.{any_flat}
use Rattle.ts_match.proofs.Laid.{sets, or_assoc, or_none}
use Rattle.ts_match.proofs.Walks.{from_positions, first_in, others_in}
use Rattle.ts_match.proofs.encoded.set_found.Goals as goal

pub loop-position-init : goal.loop-position-init
loop-position-init c = record {
  value = λ j. ap (λ (ps : List Position). bit_value c.args.count c.args.bits.now j || list_any (sets c.args.how.by j
      c.args.how.weights) ps) (c.into_iter-position-iterator.ensures.into_iter_gives ∙ c.places-position-items.ensures);
  inside = λ p h. subst (λ (ps : List Position). Contains ps p)
      (c.into_iter-position-iterator.ensures.into_iter_gives ∙ c.places-position-items.ensures) h;
  len = refl;
}

pub set_position-requires-clause-within : goal.set_position-requires-clause-within
set_position-requires-clause-within c =
    let there = c.loop-position.invariant.inside c.in-Some.position
    (first_in c.loop-position.position-iterator c.next.new.self c.in-Some.position c.in-Some.ensures.steps) in
    let f =
    from_positions c.args.vector.now c.args.found.first c.args.found.end c.in-Some.position c.requires.end there in
    c.requires.within f.index f.entry c.in-Some.position f.from f.below f.there

pub loop-position-preserved : goal.loop-position-preserved
loop-position-preserved c = record {
  value = λ j.
      let test = sets c.args.how.by j c.args.how.weights in
      ap (λ b. b || list_any test c.next.new.self) (c.set_position.ensures.value j)
      ∙ or_assoc (bit_value c.args.count c.loop-position.bits j) (test c.in-Some.position)
      (list_any test c.next.new.self)
      ∙ ap (λ (ps : List Position). bit_value c.args.count c.loop-position.bits j || list_any test ps)
      (sym c.in-Some.ensures.steps)
      ∙ c.loop-position.invariant.value j;
  inside = λ p h. c.loop-position.invariant.inside p
      (others_in c.loop-position.position-iterator c.next.new.self c.in-Some.position p c.in-Some.ensures.steps h);
  len = c.set_position.ensures.len ∙ c.loop-position.invariant.len;
}

pub returns-clause-value : goal.returns-clause-value
returns-clause-value c = λ j.
    let test = sets c.args.how.by j c.args.how.weights in
    let old = bit_value c.args.count c.args.bits.now j in
    sym (or_none (bit_value c.args.count c.loop-position.bits j))
    ∙ ap (λ (ps : List Position). bit_value c.args.count c.loop-position.bits j || list_any test ps)
    (sym c.in-None.ensures.steps.0)
    ∙ c.loop-position.invariant.value j
    ∙ ap (λ b. old || b)
    (any_flat test (λ (e : Entry). e.positions) (slice_range c.args.vector.now c.args.found.first c.args.found.end))
