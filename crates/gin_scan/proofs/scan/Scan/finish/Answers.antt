-- The judge of text queries is sound.
use Rattle.ts_match.specs.Laws.Soundness.{is_sound}
use Rattle.gin_scan.proofs.scan.Scan.finish.Goals as goal

pub returns-clause-found : goal.returns-clause-found
returns-clause-found g c =
    c.finish.ensures.found c.args.self.query.now is_sound c.requires.query.asks c.requires.walk
