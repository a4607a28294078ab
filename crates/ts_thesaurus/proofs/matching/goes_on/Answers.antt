use Rattle.std.proofs.Common.{length, map, refl, sym, ◌∙◌, subst, arith, true≢false}
use Rattle.std.proofs.lemmas.Option.{slice_get_read}
use Rattle.ts_base.specs.Dictionary.{answer_value}
use Rattle.ts_thesaurus.specs.Rules.{FitsAll, Continues}
use Rattle.ts_thesaurus.specs.Views.{sample_value}
use Rattle.ts_thesaurus.proofs.Best.{viewed, none_on, goes_on, none_goes}
use Rattle.ts_thesaurus.proofs.matching.goes_on.Goals as goal

pub returns-then-fits_all : goal.returns-then-fits_all
returns-then-fits_all c =
    let rules = c.args.rules.now in
    let answers = map answer_value c.args.answers.now in
    let rule = c.rule-item.result in
    let at =
    slice_get_read rules (length rules) c.loop-rule.rule-index rule refl c.loop-rule-test.true c.rule-item.is in
    let fits : FitsAll (map sample_value rule.samples.items) answers = subst
    (λ z. FitsAll (map sample_value z) answers) c.deref.ensures.value (c.fits_all.ensures.0 c.if-fits_all.true) in
    let here : Continues (viewed rules) answers = goes_on rules answers c.loop-rule.rule-index rule at fits in
    ((λ _. here), (λ _. refl))

pub loop-rule-preserved : goal.loop-rule-preserved
loop-rule-preserved c =
    let rules = c.args.rules.now in
    let answers = map answer_value c.args.answers.now in
    let rule = c.rule-item.result in
    let at =
    slice_get_read rules (length rules) c.loop-rule.rule-index rule refl c.loop-rule-test.true c.rule-item.is in
    let unfit : ¬ FitsAll (map sample_value rule.samples.items) answers =
    λ f. true≢false (sym (c.fits_all.ensures.1
    (subst (λ z. FitsAll (map sample_value z) answers) (sym c.deref.ensures.value) f)) ∙ c.if-fits_all.false) in
    none_on rules answers c.loop-rule.rule-index rule at c.loop-rule.invariant unfit

pub returns : goal.returns
returns c =
    let rules = c.args.rules.now in
    let answers = map answer_value c.args.answers.now in
    let none : ¬ Continues (viewed rules) answers =
    none_goes rules answers (λ k other h e. c.loop-rule.invariant k other (omega arith) e) in (
      (λ t. absurd (true≢false (sym t))),
      (λ goes. absurd (none goes)),
    )
