use Rattle.std.proofs.Common.{◌≡◌, take, Some}
use Rattle.ts_thesaurus.specs.Lines.{indexed_words}
use Rattle.ts_thesaurus.proofs.Cuts.{texts}
use Rattle.ts_thesaurus.proofs.line_words.indexed_words.Given as goal

abbrev pub invariant-loop-word : goal.invariant-loop-word
invariant-loop-word g l =
    indexed_words (g.D.Dictionary.answer l.sub) (texts (take l.word-index l.words)) ≡ Some l.all.items
