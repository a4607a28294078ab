use Rattle.std.proofs.Common.{rules, refl}
use Rattle.ts_base.specs.Bytes.{IsWhite}
use Rattle.ts_query.specs.declared.reader.State.TheVariants.{Between}
use Rattle.ts_query.proofs.Steps.{white_step}
use Rattle.ts_query.proofs.Standing.{lexer_in, silent_moved}
use Rattle.ts_query.proofs.reader.Reader.between.Goals as goal

pub returns-then-is_white : goal.returns-then-is_white
returns-then-is_white c s h =
    let w : IsWhite c.args.c = search rules in
    silent_moved c.args.self.now c.args.self.now s c.args.at _ _ _ h (lexer_in c.args.self.now Between c.requires)
    (lexer_in c.args.self.now Between c.requires) refl refl refl (λ f. f) (white_step c.args.at c.args.c w)
