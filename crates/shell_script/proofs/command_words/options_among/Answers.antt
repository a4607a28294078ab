use Rattle.std.proofs.Common.{arith}
use Rattle.shell_script.proofs.WordCuts.{next_none, no_cut_sets}
use Rattle.shell_script.proofs.command_words.options_among.Goals as goal

pub loop-at-preserved : goal.loop-at-preserved
loop-at-preserved c =
    next_none c.args.words.now c.loop-at.at c.split_at.result.0.now c.split_at.result.1.now c.loop-at.invariant
    c.split_at.ensures.front c.split_at.ensures.back c.in_default.ensures.none c.in_default-options_by.ensures.none

pub returns-clause-none : goal.returns-clause-none
returns-clause-none c =
    no_cut_sets c.args.words.now c.loop-at.at (omega (arith, c.loop-at-test.false)) c.loop-at.invariant
