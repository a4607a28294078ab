use Rattle.std.proofs.Common.{[], get_or, Some, None, subst}
use Rattle.std.proofs.lemmas.Result.{err_from_is_err_and}
use Rattle.ts_thesaurus.specs.Inner.Reading.{StandsFor}
use Rattle.ts_thesaurus.proofs.Samples.{sampled_more, sampled_unknown, sampled_fault}
use Rattle.ts_thesaurus.proofs.line_words.sample_words.Goals as goal
use Rattle.ts_thesaurus.proofs.line_words.sample_words.Goals.{in-Some+in_ok-keep-in-Some, in-None}

pub returns-in_err-sample-clause-fault : goal.returns-in_err-sample-clause-fault
returns-in_err-sample-clause-fault g c =
    let p = err_from_is_err_and c.from_residual.result c.from_residual.ensures.1 in
    rw (p.1, p.2)
    (sampled_fault (g.D.Dictionary.answer c.args.sub.now) c.args.words.now c.loop-word.word-index (record {
      ref_ptr = (0, 0);
      now = [];
    }) c.loop-word-test.true c.in_err-sample.field-0.0 c.in_err-sample.ensures.fault)

pub loop-word-preserved : goal.loop-word-preserved
loop-word-preserved g c =
    let answer = g.D.Dictionary.answer c.args.sub.now in
    let word = (get_or c.args.words.now c.loop-word.word-index (record { ref_ptr = (0, 0); now = [] })).now in
    elim c.match-branch-2.branch [
      | in-Some+in_ok-keep-in-Some w ↦
          let stands : StandsFor answer word (Some w.in-Some.sample) =
          subst (StandsFor answer word) w.in-Some.is c.in_ok-sample.ensures.value in
          rw (w.samples-is, w.in_ok-keep-in-Some.ensures, w.known-is)
          (sampled_more answer c.args.words.now c.loop-word.word-index (record {
            ref_ptr = (0, 0);
            now = [];
          }) c.loop-word-test.true c.loop-word.samples.items w.in-Some.sample c.loop-word.known c.loop-word.invariant
          stands)
      | in-None w ↦
          let stands : StandsFor answer word None =
          subst (StandsFor answer word) w.in-None.is c.in_ok-sample.ensures.value in
          rw (w.samples-is, w.known-is)
          (sampled_unknown answer c.args.words.now c.loop-word.word-index (record {
            ref_ptr = (0, 0);
            now = [];
          }) c.loop-word-test.true c.loop-word.samples.items c.loop-word.known c.loop-word.invariant stands)
    ]
