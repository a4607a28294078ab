use Rattle.std.proofs.Common.{◌∷◌, [], refl}
use Rattle.std.specs.String.{string_bytes}
use Rattle.std.proofs.lemmas.Bool.{false≢true}
use Rattle.shell_script.specs.Tokens.{quote}
use Rattle.shell_script.proofs.Spelling.{front_whole, front_fault}
use Rattle.shell_script.proofs.sources.quote_of.Goals as goal
use Rattle.shell_script.proofs.sources.quote_of.Goals.{in_default-via-in-Some+else-is_all_blank}
use Rattle.shell_script.proofs.sources.quote_of.Goals.{in_default-via-in_default}

pub returns-in-Some-clause-some : goal.returns-in-Some-clause-some
returns-in-Some-clause-some c =
    let found = rw c.in-Some.is at c.in_ok-rest.ensures.some in
    front_whole c.args.text.now (quote (string_bytes c.in-Some.found) ∷ []) c.in-Some.rest.now found
    (c.if-is_all_blank.ensures.0 refl)

pub returns-in_default-clause-none : goal.returns-in_default-clause-none
returns-in_default-clause-none c = λ t k.
    elim c.in_default.branch [
      | in_default-via-in-Some+else-is_all_blank w ↦
          let found = rw w.in-Some.is at c.in_ok-rest.ensures.some in
          front_fault c.args.text.now (quote (string_bytes w.in-Some.found)) w.in-Some.rest.now found
          (λ blank. false≢true (w.if-is_all_blank.ensures.1 blank)) (quote t) k
      | in_default-via-in_default w ↦
          let no = rw w.in_default.is at c.in_ok-rest.ensures.none in
          no t [] k
    ]
