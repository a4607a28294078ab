use Rattle.std.proofs.Common.{refl, ◌∙◌}
use Rattle.latch_table.proofs.Passing.{opened_pass}
use Rattle.latch_table.proofs.laying.open_first.Goals as goal

pub returns-clause-pass : goal.returns-clause-pass
returns-clause-pass g c =
    let k = c.requires.first in
    let t = c.look.ensures.opened k.0 k.1 in
    opened_pass g.J.Journaled _ _ (k.0).value k.0 (c.look.ensures.same ∙ c.requires.table) refl t.0 t.1

pub returns-clause-opened : goal.returns-clause-opened
returns-clause-opened g c key is = (c.look.ensures.opened key is).0
