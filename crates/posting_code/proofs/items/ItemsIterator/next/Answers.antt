use Rattle.std.proofs.Common.{length, sym, ap, ◌∙◌, arith}
use Rattle.posting_code.proofs.Lists.{step, ended}
use Rattle.posting_code.proofs.items.ItemsIterator.next.Goals as goal

pub overflow_sub-self : goal.overflow_sub-self
overflow_sub-self c = (step c.self.inside.previous c.self.inside.rest.now c.self.inside.count c.self.inside.last
    c.in-Ok.item c.in-Ok.after.now c.self.invariant c.in-Ok.ensures.next).some

pub invariant_of-self : goal.invariant_of-self
invariant_of-self c = (step c.self.inside.previous c.self.inside.rest.now c.self.inside.count c.self.inside.last
    c.in-Ok.item c.in-Ok.after.now c.self.invariant c.in-Ok.ensures.next).stands

pub returns-in-Ok-clause-steps : goal.returns-in-Ok-clause-steps
returns-in-Ok-clause-steps c = sym c.self.view_is ∙ (step c.self.inside.previous c.self.inside.rest.now
    c.self.inside.count c.self.inside.last c.in-Ok.item c.in-Ok.after.now c.self.invariant c.in-Ok.ensures.next).left

pub returns-in-Ok-clause-goes : goal.returns-in-Ok-clause-goes
returns-in-Ok-clause-goes c =
    let left = sym c.self.view_is ∙ (step c.self.inside.previous c.self.inside.rest.now c.self.inside.count
    c.self.inside.last c.in-Ok.item c.in-Ok.after.now c.self.invariant c.in-Ok.ensures.next).left in
    record { on = λ f. (tt, tt, omega (arith, ap length left)); keeps = tt; rests = λ f. tt }

pub returns-in-Err-clause-steps : goal.returns-in-Err-clause-steps
returns-in-Err-clause-steps c =
    let none = sym c.self.view_is ∙ ended c.self.inside.previous c.self.inside.rest.now c.self.inside.count
    c.self.inside.last c.in-Err.field-0 c.self.invariant c.in-Err.ensures.next in
    (none, none)
