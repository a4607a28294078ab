use Rattle.std.proofs.Common.{◌<◌, ℕ, List, length, subst, ◌∙◌, ap, get_or}
use Rattle.std.specs.Prelude.{◌↔◌, IsTrue, nat_eq}
use Rattle.std.specs.List.{Contains}
use Rattle.posting_code.specs.Inner.Windows.{IsWindow}
use Rattle.posting_code.proofs.Windows.{is_found}
use Rattle.posting_code.proofs.removing.ItemSet.has.Goals as goal

pub returns-in-Some : goal.returns-in-Some
returns-in-Some c =
    let items = c.self.inside.inner.items in
    let item = c.args.item in
    let place = c.below-place.result in
    let found = c.in-Some.found.now in
    let at = c.in-Some.ensures.lookup in
    subst (λ l. IsTrue (nat_eq found item) ↔ Contains l item) c.self.view_is
    (is_found items item place
    (subst (λ l. IsWindow l item place place) c.deref.ensures.value c.below-place.ensures) found c.self.invariant.0
    (subst (λ (l : List ℕ). place < length l) c.deref-4.ensures.value at.3.0)
    (at.3.1 0 ∙ ap (λ (l : List ℕ). get_or l place 0) c.deref-4.ensures.value))
