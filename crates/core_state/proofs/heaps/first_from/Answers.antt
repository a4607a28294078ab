use Rattle.std.proofs.Common.{◌≤◌, ℕ, List, subst, sym}
use Rattle.std.specs.Prelude.{Ok, Err}
use Rattle.std.proofs.lemmas.List.Sorted.{searched}
use Rattle.core_state.specs.Log.{In}
use Rattle.core_state.specs.PageChoice.{IsLeastIfAny}
use Rattle.core_state.proofs.RisingPages.{rising_at}
use Rattle.core_state.proofs.RisingSearch.{least_here, least_at}
use Rattle.core_state.proofs.heaps.first_from.Goals as goal

pub returns-in-Ok : goal.returns-in-Ok
returns-in-Ok c =
    let qs : List ℕ = c.args.pages.now in
    let found = searched qs c.args.page (Ok c.in-Ok.field-0) c.in-Ok.ensures.position (rising_at qs c.requires) in
    least_here qs c.in-Ok.field-0 c.args.page found.0 found.1

pub returns-in-Err : goal.returns-in-Err
returns-in-Err c =
    let qs : List ℕ = c.args.pages.now in
    let found = searched qs c.args.page (Err c.in-Err.place) c.in-Err.ensures.position (rising_at qs c.requires) in
    subst (IsLeastIfAny (λ (p : ℕ). (c.args.page ≤ p) × In p qs)) (sym c.page_at.ensures)
    (least_at qs c.in-Err.place c.args.page c.requires found.1 found.2)
