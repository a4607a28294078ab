use Rattle.std.proofs.Common.{take}
use Rattle.ts_thesaurus.proofs.Cuts.{texts}
use Rattle.ts_thesaurus.specs.Inner.Reading.{AreSampled}
use Rattle.ts_thesaurus.proofs.line_words.sample_words.Given as goal

abbrev pub invariant-loop-word : goal.invariant-loop-word
invariant-loop-word g l =
    AreSampled (g.D.Dictionary.answer l.sub) (texts (take l.word-index l.words)) l.samples.items l.known
