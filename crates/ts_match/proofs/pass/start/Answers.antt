use Rattle.std.proofs.Common.{refl}
use Rattle.ts_match.proofs.Passes.{started}
use Rattle.ts_match.proofs.pass.start.Goals as goal

pub returns-clause-at : goal.returns-clause-at
returns-clause-at c = started c.args.vector.now _ _ c.entries-rest.ensures.value c.count.ensures.count refl
    c.next_lexeme.ensures.some c.next_lexeme.ensures.none
