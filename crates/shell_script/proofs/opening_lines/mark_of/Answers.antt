use Rattle.std.proofs.Common.{[], ◌∷◌, refl}
use Rattle.std.proofs.lemmas.Bool.{false≢true}
use Rattle.shell_script.specs.Tokens.{word}
use Rattle.shell_script.proofs.Spelling.{front_whole}
use Rattle.shell_script.proofs.FirstLines.{no_mark, no_mark_word}
use Rattle.shell_script.proofs.opening_lines.mark_of.Goals as goal

pub returns-in_default-clause-none : goal.returns-in_default-clause-none
returns-in_default-clause-none c = no_mark_word c.args.text.now c.args.mark.now
    (λ b. false≢true (c.if-is_all_blank.ensures.1 b)) c.in_default.ensures.none

pub returns-then-not-is_all_blank-clause-none : goal.returns-then-not-is_all_blank-clause-none
returns-then-not-is_all_blank-clause-none c =
    no_mark c.args.text.now c.in-Some.rest.now c.args.mark.now c.in-Some.ensures.some
    (λ b. false≢true (c.if-is_all_blank.ensures.1 b)) (λ b. false≢true (c.if-not-is_all_blank.ensures.1 b))

pub returns-clause-some : goal.returns-clause-some
returns-clause-some c = front_whole c.args.text.now
    (word c.args.mark.now ∷ []) c.in-Some.rest.now c.in-Some.ensures.some (c.if-not-is_all_blank.ensures.0 refl)
