use Rattle.shell_script.proofs.WordCuts.{one_sets_none}
use Rattle.shell_script.proofs.command_words.option_in.Goals as goal

pub returns-in-len1-clause-none : goal.returns-in-len1-clause-none
returns-in-len1-clause-none c = one_sets_none c.args.name.now c.args.fewest c.args.most c.args.usual c.args.words.now
    c.one-item.result c.as_str.result.now c.count_of.result c.in-len1.len_at_least c.in-len1.len_below c.one-item.is
    c.as_str.ensures.value c.count_of.ensures.none
