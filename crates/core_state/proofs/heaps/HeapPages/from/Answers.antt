use Rattle.std.proofs.Common.{◌≤◌, ℕ, List, ap, subst, ◌∙◌}
use Rattle.core_state.specs.Log.{In}
use Rattle.core_state.specs.PageChoice.{IsLeastIfAny}
use Rattle.core_state.specs.Inner.Rising.{RisingPages}
use Rattle.core_state.proofs.heaps.HeapPages.from.Goals as goal

pub returns : goal.returns
returns c =
    subst (λ (qs : List ℕ). IsLeastIfAny (λ (p : ℕ). (c.args.page ≤ p) × In p qs) c.first_from.result)
    (c.deref.ensures.value ∙ ap (λ (h : RisingPages). h.pages) c.self.view_is) c.first_from.ensures
