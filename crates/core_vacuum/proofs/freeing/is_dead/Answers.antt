use Rattle.std.proofs.Common.{◌≡◌, sym, ◌∙◌, arith}
use Rattle.std.proofs.lemmas.Bool.Decides.{nat_tests}
use Rattle.page_types.specs.Parts.{head_shown}
use Rattle.core_state.specs.Changes.{IsDeadHead}
use Rattle.core_state.specs.States.{fate_of}
use Rattle.core_state.specs.declared.answers.Fate.TheVariants.{Aborted, Committed}
use Rattle.core_vacuum.proofs.FreedSlots.{dead_by}
use Rattle.core_vacuum.proofs.freeing.is_dead.Goals as goal

pub returns-in-Committed : goal.returns-in-Committed
returns-in-Committed c =
    let head = head_shown c.args.head in
    let fates = fate_of c.args.state.now.value in
    let by : fates head.deleted_by ≡ Committed c.in-Committed.number = sym c.fate-2.ensures ∙ c.in-Committed.is in
    let off : fates head.inserted_by ≡ Aborted → ⊥ = λ e. c.in_default.not-Aborted (c.fate.ensures ∙ e) in (
      λ e. IsDeadHead.delete_counted c.in-Committed.number by (grind (arith, nat_tests, e)),
      λ w. let le = dead_by fates c.args.floor c.in-Committed.number head off by w in grind (arith, nat_tests, le),
    )
