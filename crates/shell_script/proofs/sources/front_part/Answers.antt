use Rattle.shell_script.specs.Grammar.{strip_tokens, source_tokens}
use Rattle.shell_script.specs.StatementView.{vector_source}
use Rattle.shell_script.proofs.Exprs.{part_behind}
use Rattle.shell_script.proofs.Spelling.{front_both}
use Rattle.shell_script.proofs.sources.front_part.Goals as goal

pub returns-in-Some-clause-some : goal.returns-in-Some-clause-some
returns-in-Some-clause-some c =
    let strip = c.front_strip-stripped in
    let found = rw c.in-Some.is at c.in_ok-source.ensures.some in (
      found.0,
      front_both c.args.text.now strip.result.1.now c.in-Some.rest.now (strip_tokens strip.result.0)
          (source_tokens (vector_source c.in-Some.source)) strip.ensures.front found.1,
    )

pub returns-in-None-clause-none : goal.returns-in-None-clause-none
returns-in-None-clause-none c = λ p ts is k.
    let strip = c.front_strip-stripped in
    let no = rw c.in-None.is at c.in_ok-source.ensures.none in
    no p.source ts is (part_behind c.args.text.now strip.result.1.now strip.result.0 strip.ensures.front
    strip.ensures.first p ts is k)
