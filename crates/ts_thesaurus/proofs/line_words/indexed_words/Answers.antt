use Rattle.std.proofs.Common.{sym, ◌∙◌, ap, Some}
use Rattle.std.specs.Prelude.{option_map}
use Rattle.ts_thesaurus.proofs.Samples.{indexed_more, indexed_none}
use Rattle.ts_thesaurus.proofs.line_words.indexed_words.Goals as goal

pub returns-in_default : goal.returns-in_default
returns-in_default g c =
    indexed_none (g.D.Dictionary.answer c.args.sub.now) c.args.words.now c.loop-word.word-index
    _ c.loop-word.all.items c.loop-word-test.true c.loop-word.invariant
    (sym c.in_ok-found.ensures ∙ ap (option_map (λ v. v.items)) c.in_default.is)

pub loop-word-preserved : goal.loop-word-preserved
loop-word-preserved g c =
    indexed_more (g.D.Dictionary.answer c.args.sub.now) c.args.words.now c.loop-word.word-index
    _ c.loop-word.all.items c.in-Some.found.items c.loop-word-test.true c.loop-word.invariant
    (sym c.in_ok-found.ensures ∙ ap (option_map (λ v. v.items)) c.in-Some.is)
    ∙ ap (λ z. Some z) (sym c.in_ok-append.ensures.items)
