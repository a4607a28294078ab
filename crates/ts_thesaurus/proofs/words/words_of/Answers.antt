use Rattle.ts_thesaurus.proofs.Cuts.{cut_over}
use Rattle.ts_thesaurus.proofs.words.words_of.Goals as goal

pub returns : goal.returns
returns c = cut_over c.args.text.now c.loop-word.words.items c.loop-word.rest.now c.loop-word.invariant.1
    c.in_default.ensures.none
