use Rattle.std.proofs.Common.{◌≡◌, ◌≤◌, ℕ, Bool, false, List, [], ◌∷◌, length, Some, refl, sym, subst, arith}
use Rattle.std.proofs.lemmas.Bool.Decides.{Decides-eqb, Decides-like}
use Rattle.std.proofs.lemmas.List.Elements.{contains_decides, Decides-contains}
use Rattle.std.specs.Bool.{Decides}
use Rattle.std.specs.List.{Contains}
use Rattle.std.specs.Prelude.{◌==◌, slice_get}
use Rattle.page_types.specs.Parts.{row_shown}
use Rattle.page_types.specs.declared.page.Row.{Row}
use Rattle.core_state.specs.Log.{In}
use Rattle.core_state.proofs.NamesInOrder.{in_at}
use Rattle.gin_cleanup.specs.Inner.Noting.{GoesOnWith}
use Rattle.gin_cleanup.proofs.FirstKeys.{at_in}
use Rattle.gin_cleanup.proofs.Tests.{not_both}
use Rattle.gin_cleanup.proofs.listed.goes_on.Goals as goal

first : (rows : List Row) (w : Row) (is : List ℕ) (b : Bool) → slice_get rows 0 ≡ Some w
    → Decides b (Contains is w.item) → Decides b (GoesOnWith rows is)
first [] w is b at d = absurd (cc (at))
first (v ∷ rows) w is b at d =
    let same : v ≡ w = cc (at) in
    subst (λ (x : Row). Decides b (In x.item is)) (sym same)
    (Decides-like b (λ h. at_in is w.item h.0 h.1 h.2) (λ i. in_at is w.item i) d)

nothing : (rows : List Row) (is : List ℕ) → length rows ≤ 0 → GoesOnWith rows is → ⊥
nothing [] is few goes = goes
nothing (w ∷ rows) is few goes = omega (arith, few)

pub returns-in-None : goal.returns-in-None
returns-in-None c = (
  λ e. absurd (not_both false e refl),
  λ goes. absurd (nothing c.args.rows.now c.args.before.now c.in-None.ensures.none goes),
)

pub returns-in-Some : goal.returns-in-Some
returns-in-Some c =
    let row = row_shown c.in-Some.row in
    first c.args.rows.now row c.args.before.now c.contains.result c.in-Some.ensures.some
    (Decides-contains c.args.before.now row.item c.contains.result
    (contains_decides (λ (x y : ℕ). x == y) Decides-eqb c.args.before.now row.item c.contains.result
    c.contains.ensures.cases))
