use Rattle.shell_script.proofs.Exprs.{strip_stands, no_strip_stands}
use Rattle.shell_script.proofs.sources.front_strip.Goals as goal

pub returns-in-Some-clause-first : goal.returns-in-Some-clause-first
returns-in-Some-clause-first c = strip_stands c.args.text.now c.in-Some.rest.now c.in-Some.ensures.some

pub returns-in-None-clause-first : goal.returns-in-None-clause-first
returns-in-None-clause-first c = no_strip_stands c.args.text.now c.in-None.ensures.none
