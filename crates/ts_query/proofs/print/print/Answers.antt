use Rattle.std.proofs.Common.{ap, ◌∙◌}
use Rattle.ts_query.specs.Inner.Pieces.{pieces_at, text_of}
use Rattle.ts_query.proofs.Texts.{writes_all}
use Rattle.ts_query.proofs.print.print.Goals as goal

pub parts_back-requires : goal.parts_back-requires
parts_back-requires c = (c.requires.0, c.requires.1)

pub returns : goal.returns
returns c t e f =
    c.in_ok-text.ensures ∙ ap (λ l. text_of l c.args.operands.now)
    (c.as_slice.ensures.value ∙ c.reverse.ensures.items ∙ c.in_ok-parts.ensures t e)
    ∙ ap (λ os. text_of (pieces_at t 0) os) f ∙ writes_all t
