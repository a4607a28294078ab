use Rattle.std.proofs.Common.{refl}
use Rattle.ts_query.specs.declared.reader.State.TheVariants.{Between}
use Rattle.ts_query.proofs.Ending.{between_whole}
use Rattle.ts_query.proofs.Standing.{lexer_in}
use Rattle.ts_query.proofs.reader.Reader.close_up.Goals as goal

pub returns-in-Some : goal.returns-in-Some
returns-in-Some c s h = between_whole c.args.self s _ h (lexer_in c.args.self Between c.requires)
    (let f = c.in_ok-entries.ensures s.spot h.tracks.shows in rw c.in-Some.is at f) refl refl
