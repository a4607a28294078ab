use Rattle.std.proofs.Common.{arith, sym, subst, ◌∙◌}
use Rattle.std.specs.Iterator.{YieldsFirst}
use Rattle.shell_script.specs.Inner.Parts.{types_in}
use Rattle.shell_script.proofs.TypeLists.{some_type, next_type, yields_type}
use Rattle.shell_script.proofs.mappings.TypesIterator.next.Goals as goal

pub invariant_of-self : goal.invariant_of-self
invariant_of-self c =
    let text = c.self.inside.text.now in
    let k = some_type text c.self.invariant (grind arith) in
    (next_type text c.cut_at_comma.result.0.now c.cut_at_comma.result.1.now k.0 c.self.invariant
    c.cut_at_comma.ensures.front c.cut_at_comma.ensures.behind (k.1 ∙ sym c.cut_at_comma.ensures.front)).1

pub returns-clause-steps : goal.returns-clause-steps
returns-clause-steps c =
    let text = c.self.inside.text.now in
    subst (λ v. YieldsFirst (λ s. s) v c.from_name.result (types_in c.cut_at_comma.result.1.now)) c.self.view_is
    (yields_type text c.cut_at_comma.result.0.now c.cut_at_comma.result.1.now c.from_name.result c.self.invariant
    (grind arith) c.cut_at_comma.ensures.front c.cut_at_comma.ensures.behind c.from_name.ensures)
