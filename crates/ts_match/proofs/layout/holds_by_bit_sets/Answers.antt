use Rattle.std.proofs.Common.{ℕ, ◌+◌, ◌*◌, ◌/◌, ◌<◌, refl, sym, subst, ◌∙◌, arith}
use Rattle.std.specs.Prelude.{IsTrue}
use Rattle.ts_match.specs.declared.bit_sets.BitSet.{BitSet}
use Rattle.ts_match.specs.declared.bit_sets.TheConstants.{WORD}
use Rattle.ts_match.specs.Inner.BitSets.{bit_value, IsWide}
use Rattle.ts_match.proofs.Laid.{last_one, somewhere_by}
use Rattle.ts_match.proofs.Heights.{have_room}
use Rattle.ts_match.proofs.Spares.{same_refl, wide_enough, wide_alone, one_is_last}
use Rattle.ts_match.proofs.layout.holds_by_bit_sets.Goals as goal

pub fill_bit_sets-requires-clause-placed : goal.fill_bit_sets-requires-clause-placed
fill_bit_sets-requires-clause-placed c = λ k d l.
    let reach = c.reach_of-reach.result in
    let count = (c.last_place.result + reach) / WORD + 1 in
    let enough : c.last_place.result + c.reach_of-reach.result
    < WORD * ((c.last_place.result + c.reach_of-reach.result) / WORD + 1) = omega arith in record {
      operand = (c.requires.prepared.steps k d l).operand;
      near = c.reach_of-reach.ensures.near k d l;
      found = c.requires.prepared.found k d l;
      places = c.last_place.ensures.each reach count enough k d l;
    }

pub fill_bit_sets-requires-clause-wide : goal.fill_bit_sets-requires-clause-wide
fill_bit_sets-requires-clause-wide c =
    wide_enough c.last_place.result c.reach_of-reach.result c.requires.bit_sets.reach _ _ c.last_place.ensures.small
    c.if-reach-gt-WIDEST.false
    (c.reach_of-reach.ensures.least c.requires.bit_sets.reach c.requires.bit_sets.near) c.requires.bit_sets.wide

pub fill_bit_sets-requires-clause-room : goal.fill_bit_sets-requires-clause-room
fill_bit_sets-requires-clause-room c = have_room _ c.args.phrase.now.operands.now c.args.phrase.now.steps.now
    c.requires.phrase.0 c.requires.phrase.1 c.requires.bit_sets.height

pub unreachable-requires : goal.unreachable-requires
unreachable-requires c =
    let o = c.fill_bit_sets.ensures.bits c.requires.phrase.0 c.requires.phrase.1 in
    one_is_last c.deref.result.now o.0 (c.deref.ensures.value ∙ o.1) c.in_default.ensures.value

pub is_somewhere-requires : goal.is_somewhere-requires
is_somewhere-requires c =
    let count = (c.last_place.result + c.reach_of-reach.result) / WORD + 1 in
    let o = c.fill_bit_sets.ensures.bits c.requires.phrase.0 c.requires.phrase.1 in
    let e = last_one _ o.0 c.in-Some.bits.now (c.deref.ensures.value ∙ o.1) c.in-Some.ensures.value in
    let w = wide_enough c.last_place.result c.reach_of-reach.result c.requires.bit_sets.reach _ _
    c.last_place.ensures.small c.if-reach-gt-WIDEST.false
    (c.reach_of-reach.ensures.least c.requires.bit_sets.reach c.requires.bit_sets.near) c.requires.bit_sets.wide in
    subst (λ (r : BitSet). IsWide count r) (sym e)
    (wide_alone count _ o.0 o.1 (c.fill_bit_sets.ensures.same.wide count w).stack)

pub returns-clause-meaning : goal.returns-clause-meaning
returns-clause-meaning c = λ t p.
    let count = (c.last_place.result + c.reach_of-reach.result) / WORD + 1 in
    let o = c.fill_bit_sets.ensures.bits t p in
    let e = last_one _ o.0 c.in-Some.bits.now (c.deref.ensures.value ∙ o.1) c.in-Some.ensures.value in
    let s = somewhere_by c.args.phrase.now.vector.now t count o.0 o.2 in
    let i = subst (λ (r : BitSet). (IsTrue c.is_somewhere.result → (j : ℕ) × IsTrue (bit_value count r j))
    × (((j : ℕ) × IsTrue (bit_value count r j)) → IsTrue c.is_somewhere.result)) e c.is_somewhere.ensures in
    (λ h. s.0 (i.0 h), λ h. i.1 (s.1 h))

pub returns-clause-none : goal.returns-clause-none
returns-clause-none c = λ t p.
    let w = c.reach_of-reach.ensures.width t p in
    (λ e. absurd (let x : ⊥ = cc in x), λ l. absurd (omega arith))

pub returns-then-reach-gt-WIDEST-clause-none : goal.returns-then-reach-gt-WIDEST-clause-none
returns-then-reach-gt-WIDEST-clause-none c = λ t p.
    let w = c.reach_of-reach.ensures.width t p in
    (λ e. omega arith, λ l. refl)

pub returns-then-reach-gt-WIDEST-clause-same : goal.returns-then-reach-gt-WIDEST-clause-same
returns-then-reach-gt-WIDEST-clause-same c = same_refl _ _
