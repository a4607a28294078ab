use Rattle.std.proofs.Common.{List, ℕ, eqb, length, ◌∙◌, ap}
use Rattle.gin_vacuum.proofs.Remains.{empty_by}
use Rattle.gin_vacuum.proofs.sweeping.is_empty.Goals as goal

pub returns-in-PostLeaf : goal.returns-in-PostLeaf
returns-in-PostLeaf c =
    empty_by c.args.page.now c.in-PostLeaf.high c.in-PostLeaf.items c.in-PostLeaf.is c.requires.page c.is_empty.result
    (c.is_empty.ensures ∙ ap (λ (xs : List ℕ). eqb (length xs) 0) c.as_slice.ensures)
