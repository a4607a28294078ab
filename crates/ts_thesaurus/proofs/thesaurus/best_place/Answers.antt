use Rattle.std.proofs.Common.{◌<◌, ◌≤◌, length, map, refl, sym, ◌∙◌, subst, true≢false}
use Rattle.std.proofs.lemmas.Option.{slice_get_read}
use Rattle.ts_base.specs.Dictionary.{answer_value}
use Rattle.ts_thesaurus.specs.Rules.{FitsFirst}
use Rattle.ts_thesaurus.specs.Views.{sample_value}
use Rattle.ts_thesaurus.specs.Inner.Best.{Suits, size}
use Rattle.ts_thesaurus.proofs.Best.{best_new, best_unfit, best_short}
use Rattle.ts_thesaurus.proofs.thesaurus.best_place.Goals as goal
use Rattle.ts_thesaurus.proofs.thesaurus.best_place.Goals.{then-longest-samples+then-fits_first, else-longest-samples}
use Rattle.ts_thesaurus.proofs.thesaurus.best_place.Goals.{
  else-longest-samples-via-then-longest-samples+else-fits_first,
}
use Rattle.ts_thesaurus.proofs.thesaurus.best_place.Goals.{else-longest-samples-via-else-longest-samples}

pub loop-i-preserved : goal.loop-i-preserved
loop-i-preserved c =
    let rules = c.args.rules.now in
    let answers = map answer_value c.args.answers.now in
    let rule = c.index-rules-i.result in
    let at = slice_get_read rules (length rules) c.loop-i.i rule refl c.loop-i-test.true c.index-rules-i.is in
    let value = c.as_slice-samples.ensures.value in
    elim c.if-longest-samples.branch [
      | then-longest-samples+then-fits_first w ↦
          let suits : Suits answers rule =
          subst (λ z. FitsFirst (map sample_value z) answers) value (w.fits_first.ensures.0 w.if-fits_first.true) in
          let le : c.loop-i.longest ≤ size rule =
          subst (λ z. c.loop-i.longest ≤ length z) value w.if-longest-samples.true in
          rw (w.best-is, w.longest-is, value)
          (best_new rules answers c.loop-i.i rule at c.loop-i.best c.loop-i.longest c.loop-i.invariant suits le)
      | else-longest-samples w ↦
          rw (w.best-is, w.longest-is)
          (elim w.else-longest-samples.branch [
            | else-longest-samples-via-then-longest-samples+else-fits_first v ↦
                let unfit : ¬ Suits answers rule = λ s. true≢false (sym (v.fits_first.ensures.1
                (subst (λ z. FitsFirst (map sample_value z) answers) (sym value) s)) ∙ v.if-fits_first.false) in
                best_unfit rules answers c.loop-i.i rule at c.loop-i.best c.loop-i.longest c.loop-i.invariant unfit
            | else-longest-samples-via-else-longest-samples v ↦
                let short : size rule < c.loop-i.longest =
                subst (λ z. length z < c.loop-i.longest) value v.if-longest-samples.false in
                best_short rules answers c.loop-i.i rule at c.loop-i.best c.loop-i.longest c.loop-i.invariant short
          ])
    ]
