use Rattle.std.proofs.Common.{◌≡◌, true, false, sym, ap, ◌∙◌}
use Rattle.ts_base.specs.Words.{lower}
use Rattle.ts_synonym.specs.Synonyms.{cased as cased_of}
use Rattle.ts_synonym.specs.Synonyms.{given_for}
use Rattle.ts_synonym.proofs.Kept.{looked_up}
use Rattle.ts_synonym.proofs.Lexemes.{named_valid}
use Rattle.ts_synonym.proofs.synonym.Synonym.find.Goals as goal

pub returns-then-self-clause-value : goal.returns-then-self-clause-value
returns-then-self-clause-value c =
    let cased : c.args.self.now.sensitive ≡ true = ap (λ k. k.sensitive) (sym c.self.view_is) ∙ c.if-self.true in
    c.get.ensures.value
    ∙ looked_up c.args.word.now c.self.inside.pairs.entries
    ∙ ap (λ k. given_for k c.args.word.now) c.self.view_is
    ∙ ap (λ b. given_for c.args.self.now (cased_of b c.args.word.now)) (sym cased)

pub returns-clause-value : goal.returns-clause-value
returns-clause-value c =
    let cased : c.args.self.now.sensitive ≡ false = ap (λ k. k.sensitive) (sym c.self.view_is) ∙ c.if-self.false in
    let text : c.as_str.result.now ≡ lower c.args.word.now = c.as_str.ensures.value ∙ c.in_ok-word.ensures in
    c.get-2.ensures.value
    ∙ looked_up c.as_str.result.now c.self.inside.pairs.entries
    ∙ ap (λ k. given_for k c.as_str.result.now) c.self.view_is
    ∙ ap (given_for c.args.self.now) text
    ∙ ap (λ b. given_for c.args.self.now (cased_of b c.args.word.now)) (sym cased)

pub returns-then-self-clause-named : goal.returns-then-self-clause-named
returns-then-self-clause-named c = named_valid c.self.inside.sensitive c.self.inside.pairs.entries c.args.self.now
    c.args.word.now c.self.view_is c.self.invariant

pub returns-in_err-word-clause-named : goal.returns-in_err-word-clause-named
returns-in_err-word-clause-named c = named_valid c.self.inside.sensitive c.self.inside.pairs.entries c.args.self.now
    c.args.word.now c.self.view_is c.self.invariant

pub returns-clause-named : goal.returns-clause-named
returns-clause-named c = named_valid c.self.inside.sensitive c.self.inside.pairs.entries c.args.self.now c.args.word.now
    c.self.view_is c.self.invariant
