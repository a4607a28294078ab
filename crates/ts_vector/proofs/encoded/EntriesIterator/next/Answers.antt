use Rattle.std.proofs.Common.{◌∷◌, length, sym, ap, subst, ◌∙◌, arith, ◌-◌}
use Rattle.ts_vector.specs.Inner.Told.{AreEntries, entries_told}
use Rattle.ts_vector.proofs.Told.{next_entry}
use Rattle.ts_vector.proofs.encoded.EntriesIterator.next.Goals as goal

pub first_entry-entry-requires : goal.first_entry-entry-requires
first_entry-entry-requires c =
    let is = next_entry c.self.inside.count c.self.inside.rest.now c.self.invariant (omega arith) in
    (is.entry, _, is.first)

pub invariant_of-self : goal.invariant_of-self
invariant_of-self c =
    let n = c.self.inside.count in
    let is = next_entry n c.self.inside.rest.now c.self.invariant (omega arith) in
    let made = c.first_entry-entry.ensures is.entry _ is.first in
    let rest = c.first_entry-entry.result.1.now in
    subst (λ r. AreEntries (n - 1) r (entries_told (n - 1) r)) (sym made.1) (is.more (n - 1) (omega arith)).0

pub returns-clause-steps : goal.returns-clause-steps
returns-clause-steps c =
    let n = c.self.inside.count in
    let is = next_entry n c.self.inside.rest.now c.self.invariant (omega arith) in
    let made = c.first_entry-entry.ensures is.entry _ is.first in
    sym c.self.view_is ∙ is.all
    ∙ (λ i. sym made.0 i ∷ (sym (is.more (n - 1) (omega arith)).1 ∙ ap (entries_told (n - 1)) (sym made.1)) i)

pub returns-clause-goes : goal.returns-clause-goes
returns-clause-goes c =
    let n = c.self.inside.count in
    let is = next_entry n c.self.inside.rest.now c.self.invariant (omega arith) in
    let made = c.first_entry-entry.ensures is.entry _ is.first in
    let left = sym c.self.view_is ∙ is.all
    ∙ (λ i. is.entry ∷ (sym (is.more (n - 1) (omega arith)).1 ∙ ap (entries_told (n - 1)) (sym made.1)) i) in
    record { on = λ f. (tt, tt, omega (arith, ap length left)); keeps = tt; rests = λ f. tt }
