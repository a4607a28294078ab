use Rattle.std.proofs.Common.{refl}
use Rattle.ts_match.proofs.Passes.{stepped}
use Rattle.ts_match.proofs.pass.step.Goals as goal

pub returns-clause-at : goal.returns-clause-at
returns-clause-at c =
    λ v a. stepped v _ _ a c.requires refl refl c.next_lexeme-walk.ensures.some c.next_lexeme-walk.ensures.none
