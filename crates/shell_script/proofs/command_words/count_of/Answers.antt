use Rattle.shell_script.proofs.WordCuts.{no_count}
use Rattle.shell_script.proofs.command_words.count_of.Goals as goal

pub returns-in-Some-clause-none : goal.returns-in-Some-clause-none
returns-in-Some-clause-none c = no_count c.args.name.now c.args.fewest c.args.most c.args.word.now c.in-Some.digits.now
    c.count_in.result c.in-Some.ensures.some c.count_in.ensures.none
