use Rattle.std.proofs.Common.{inl, inr, refl, ◌∷◌, ap, sym, ◌∙◌, arith}
use Rattle.std.specs.Str.Lines.{lines}
use Rattle.shell_script.proofs.TextLines.{first_line, only_line}
use Rattle.shell_script.proofs.lines.next_line.Goals as goal

pub returns-in-Some-clause-some : goal.returns-in-Some-clause-some
returns-in-Some-clause-some c =
    first_line c.args.text.now c.in-Some.line.now c.in-Some.rest.now c.in-Some.ensures.some.0 c.in-Some.ensures.some.1
    ∙ ap (λ z. z ∷ lines c.in-Some.rest.now) (sym c.without_return.ensures)

pub returns-in-None-clause-some : goal.returns-in-None-clause-some
returns-in-None-clause-some c = only_line c.args.text.now c.in-None.ensures.none (grind arith)

pub returns-in-Some-clause-cut : goal.returns-in-Some-clause-cut
returns-in-Some-clause-cut c =
    inl (c.in-Some.line.now, c.in-Some.ensures.some.0, c.in-Some.ensures.some.1, c.without_return.ensures)

pub returns-in-None-clause-cut : goal.returns-in-None-clause-cut
returns-in-None-clause-cut c = inr (refl, refl)
