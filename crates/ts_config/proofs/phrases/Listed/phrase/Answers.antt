use Rattle.std.proofs.Common.{inl, inr, refl, ap, subst, map, arith}
use Rattle.ts_base.specs.Dictionary.{answer_value, word_lexemes}
use Rattle.ts_thesaurus.specs.Rules.{IsBest, NoneFits}
use Rattle.ts_config.proofs.Replacing.{phrase_found, phrase_none, phrase_empty}
use Rattle.ts_config.proofs.phrases.Listed.phrase.Goals as goal

pub returns-in_default : goal.returns-in_default
returns-in_default c =
    let rules = c.args.self.now.thesaurus.now in
    let none = subst (NoneFits rules) (ap (map answer_value) c.deref.ensures.value) c.in_default.ensures.none in
    inr (phrase_none _ _ _ _ _ _ _ _ c.in_ok-answers.ensures none, refl, refl)

pub returns-then-replaced-eq0 : goal.returns-then-replaced-eq0
returns-then-replaced-eq0 c =
    let rules = c.args.self.now.thesaurus.now in
    let n = c.in-Some.replaced.tokens in
    let words = c.in-Some.replaced.words.now in
    let best = subst (λ answers. IsBest rules answers (record { tokens = n; words = words }))
    (ap (map answer_value) c.deref.ensures.value) c.in-Some.ensures.best in
    inr (
      phrase_empty _ _ _ _ _ _ _ _ c.in_ok-answers.ensures n words best
          (λ l. omega (arith, l, c.if-replaced-eq0.true)),
      refl,
      refl,
    )

pub returns : goal.returns
returns c =
    let rules = c.args.self.now.thesaurus.now in
    let n = c.in-Some.replaced.tokens in
    let words = c.in-Some.replaced.words.now in
    let best = subst (λ answers. IsBest rules answers (record { tokens = n; words = words }))
    (ap (map answer_value) c.deref.ensures.value) c.in-Some.ensures.best in
    inl (
      words,
      phrase_found _ _ _ _ _ _ _ _ c.in_ok-answers.ensures n words c.pass_over.new.left best
          (omega (arith, c.if-replaced-eq0.false)) c.requires.listed c.pass_over.ensures,
      ap word_lexemes c.in_ok-copied.ensures,
    )
