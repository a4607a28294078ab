-- The next part is at its beginning.
use Rattle.std.proofs.Common.{sym, subst}
use Rattle.index_cases.specs.Turns.{IsAt}
use Rattle.index_cases.specs.declared.upkeep.Stage.{Stage}
use Rattle.index_cases.proofs.upkeep.Upkeep.begin_next.Goals as goal

pub returns-clause-keeps : goal.returns-clause-keeps
returns-clause-keeps g c =
    let dead = c.args.self.now.dead in
    record {
      silent = c.requires.keeps.silent;
      may = c.in_ok-stage.ensures.may;
      at = subst (λ (s : Stage). IsAt g.D.Disk c.begun.new.frames c.begun.new.pass dead s)
          (sym c.replace.ensures.after) (c.in_ok-stage.ensures.at dead);
    }
