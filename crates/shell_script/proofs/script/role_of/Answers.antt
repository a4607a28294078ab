use Rattle.std.proofs.Common.{◌||◌, List, ℕ, codes, sym, ◌∙◌, ap}
use Rattle.std.specs.Prelude.{bytes_eq}
use Rattle.shell_script.specs.StepsOf.{role_outside}
use Rattle.shell_script.proofs.Front.{no_first_word}
use Rattle.shell_script.proofs.Openings.{first_is, no_first}
use Rattle.shell_script.proofs.script.role_of.Goals as goal

pub returns-in-Some : goal.returns-in-Some
returns-in-Some c =
    rw c.if-within.false (c.role_by.ensures ∙ ap (λ (w : List ℕ). role_outside (bytes_eq w (codes "parallel"))
    (bytes_eq w (codes "dictionary") || bytes_eq w (codes "configuration")))
    (sym (first_is c.args.line.now c.in-Some.first.now _ c.in-Some.ensures.some)))

pub returns-in-None : goal.returns-in-None
returns-in-None c =
    rw c.if-within.false (ap (λ (w : List ℕ). role_outside (bytes_eq w (codes "parallel"))
    (bytes_eq w (codes "dictionary") || bytes_eq w (codes "configuration")))
    (sym (no_first c.args.line.now (no_first_word c.args.line.now c.in-None.ensures.none))))
