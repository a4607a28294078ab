use Rattle.std.proofs.Common.{length, sym, ap, ◌∙◌, arith}
use Rattle.std.proofs.lemmas.Bool.{eqb-false}
use Rattle.ts_vector.proofs.Told.{next_place, two_long, number_some, others_are, told_first}
use Rattle.ts_vector.proofs.encoded.PositionsIterator.next.Goals as goal

pub first_number-number-requires : goal.first_number-number-requires
first_number-number-requires c =
    let rest = c.self.inside.rest.now in
    two_long rest
    (next_place rest c.self.invariant (λ e. eqb-false (length rest) 0 (sym c.if-is_empty.ensures) (ap length e)))

pub position-requires : goal.position-requires
position-requires c =
    let rest = c.self.inside.rest.now in
    let is =
    next_place rest c.self.invariant (λ e. eqb-false (length rest) 0 (sym c.if-is_empty.ensures) (ap length e)) in
    let number = c.first_number-number in
    number_some rest is number.result.0 number.result.1.now number.ensures.value number.ensures.fits

pub invariant_of-self : goal.invariant_of-self
invariant_of-self c =
    let rest = c.self.inside.rest.now in
    let is =
    next_place rest c.self.invariant (λ e. eqb-false (length rest) 0 (sym c.if-is_empty.ensures) (ap length e)) in
    let number = c.first_number-number in
    others_are rest is number.result.0 number.result.1.now number.ensures.value number.ensures.fits

pub returns-clause-steps : goal.returns-clause-steps
returns-clause-steps c =
    let rest = c.self.inside.rest.now in
    let is =
    next_place rest c.self.invariant (λ e. eqb-false (length rest) 0 (sym c.if-is_empty.ensures) (ap length e)) in
    let number = c.first_number-number in
    sym c.self.view_is ∙ told_first rest is number.result.0 number.result.1.now number.ensures.value number.ensures.fits
    c.position.result c.position.ensures.value c.position.ensures.valid

pub returns-clause-goes : goal.returns-clause-goes
returns-clause-goes c =
    let rest = c.self.inside.rest.now in
    let is =
    next_place rest c.self.invariant (λ e. eqb-false (length rest) 0 (sym c.if-is_empty.ensures) (ap length e)) in
    let number = c.first_number-number in
    let left = sym c.self.view_is ∙ told_first rest is number.result.0 number.result.1.now number.ensures.value
    number.ensures.fits c.position.result c.position.ensures.value c.position.ensures.valid in
    record { on = λ f. (tt, tt, omega (arith, ap length left)); keeps = tt; rests = λ f. tt }
