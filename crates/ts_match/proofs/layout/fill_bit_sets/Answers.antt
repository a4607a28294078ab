use Rattle.std.proofs.Common.{◌≡◌, ℕ, ◌+◌, ◌*◌, ◌≤◌, ◌<◌, List, [], ◌∷◌, length, reverse, refl, sym, ap, subst, ◌∙◌}
use Rattle.std.proofs.Common.{arith}
use Rattle.std.specs.Prelude.{pos, All}
use Rattle.std.proofs.Math.ListN.{drop_of_length-le}
use Rattle.ts_match.specs.declared.bit_sets.BitSet.{BitSet}
use Rattle.ts_match.specs.declared.bit_sets.TheConstants.{WORD}
use Rattle.ts_match.specs.Meaning.{at, width}
use Rattle.ts_match.specs.Inner.BitSets.{truths_at, beginning}
use Rattle.ts_query.specs.declared.query.Node.TheVariants.{Leaf}
use Rattle.ts_match.specs.declared.work.Place.TheVariants.{Outside}
use Rattle.ts_match.specs.declared.work.Step.{Step}
use Rattle.ts_match.specs.Inner.Heights.{HaveRoom}
use Rattle.ts_match.specs.Inner.Phrases.{leaf_value, place_from, IsLaidOut}
use Rattle.ts_match.proofs.Tables.{run, run_more, phrase_at}
use Rattle.ts_match.proofs.Laid.{one_bit_set, bits_of, bits_place}
use Rattle.ts_match.proofs.Heights.{room_here, room_more}
use Rattle.ts_match.proofs.Spares.{same_trans}
use Rattle.ts_match.proofs.layout.fill_bit_sets.Goals as goal

abbrev first : Step
first = record { node = Leaf 0; place = Outside 0 0 }

pub loop-step-init : goal.loop-step-init
loop-step-init c =
    let p = c.args.phrase.now in record {
      run = λ j. ap (λ (z : List BitSet). run (leaf_value p.vector.now p.operands.now (beginning c.args.reach j))
          p.steps.now (truths_at c.args.count j (reverse z))) c.free_all.ensures.free;
      kept = c.free_all.ensures.same;
      room = subst (λ h. HaveRoom (length c.args.bit_sets.now.stack.items + length c.args.bit_sets.now.spare.items)
          p.steps.now h) (sym (ap length c.free_all.ensures.free)) c.requires.room;
      same = refl;
    }

pub work_on-requires-clause-wide : goal.work_on-requires-clause-wide
work_on-requires-clause-wide c = c.loop-step.invariant.kept.wide c.args.count c.requires.wide

pub work_on-requires-clause-room : goal.work_on-requires-clause-room
work_on-requires-clause-room c =
    room_here (length c.loop-step.bit_sets.stack.items + length c.loop-step.bit_sets.spare.items)
    _ c.args.phrase.now.steps.now c.loop-step.step-index first
    (length c.loop-step.bit_sets.stack.items) c.loop-step.invariant.kept.count
    c.loop-step-test.true c.loop-step.invariant.room

pub loop-step-preserved : goal.loop-step-preserved
loop-step-preserved c =
    let p = c.args.phrase.now in record {
      run = λ j.
          run_more (leaf_value p.vector.now p.operands.now (beginning c.args.reach j)) p.steps.now
          c.loop-step.step-index _ _ _ _ c.loop-step-test.true (c.loop-step.invariant.run j)
          (c.work_on.ensures.truths j);
      kept = same_trans _ _ _ _ _ _ c.loop-step.invariant.kept c.work_on.ensures.same;
      room = room_more _ p.steps.now c.loop-step.step-index _ _ _ c.loop-step-test.true c.loop-step.invariant.room
          c.work_on.ensures.height;
      same = refl;
    }

pub returns-clause-bits : goal.returns-clause-bits
returns-clause-bits c = λ t q.
    let p = c.args.phrase.now in
    let w : c.args.reach ≡ width t = c.requires.width t q in
    let done = drop_of_length-le p.steps.now
    (let l : length c.args.phrase.now.steps.now ≤ c.loop-step.step-index = omega arith in l) in
    let all = λ (j : ℕ).
    let g = leaf_value p.vector.now p.operands.now (beginning c.args.reach j) in
    ap (λ l. run g l (truths_at c.args.count j (reverse c.loop-step.bit_sets.stack.items))) (sym done)
    ∙ c.loop-step.invariant.run j
    ∙ phrase_at p.vector.now p.operands.now (beginning c.args.reach j) p.steps.now t q
    ∙ ap (λ i. at p.vector.now t i ∷ [])
    (ap (λ r. place_from t (beginning r j)) w ∙ bits_place (width t) j (let f = c.requires.far in omega arith)) in
    let o = one_bit_set c.args.count (λ j. at p.vector.now t (pos j)) c.loop-step.bit_sets.stack.items all in
    let placed = subst (λ r. All (IsLaidOut p.vector.now p.operands.now p.found.now r c.args.count) p.steps.now) w
    c.requires.placed in
    let enough : width t < WORD * c.args.count = (let e = c.requires.enough in omega arith) in (
      o.bits,
      o.alone,
      bits_of p.vector.now p.operands.now p.found.now p.steps.now t c.args.count q placed enough o.bits o.value,
    )
