use Rattle.std.proofs.Common.{◌≡◌, ◌≤◌, ◌⊎◌, ◌∷◌, [], ◌++◌, ap, sym, subst, ◌∙◌, append_assoc}
use Rattle.std.specs.Prelude.{All, Any}
use Rattle.ts_vector.proofs.Greatest.{step_entry}
use Rattle.ts_vector.proofs.changes.greatest.Goals as goal

pub loop-entry-preserved : goal.loop-entry-preserved
loop-entry-preserved c =
    let is = c.loop-entry.invariant in
    let entry = c.in-Some.entry in
    let h = c.greatest_from-greatest.result in
    let e = c.positions.ensures in (
      step_entry c.loop-entry.yielded entry c.loop-entry.greatest h is.0 c.greatest_from-greatest.ensures.lower
          (subst (All (λ p. p.at ≤ h)) e c.greatest_from-greatest.ensures.bound)
          (subst (λ ps. (h ≡ c.loop-entry.greatest) ⊎ Any (λ p. p.at ≡ h) ps) e c.greatest_from-greatest.ensures.met),
      c.greatest_from-greatest.ensures.upper,
      append_assoc c.loop-entry.yielded (entry ∷ []) c.next.new.self
          ∙ ap (λ t. c.loop-entry.yielded ++ t) (sym c.in-Some.ensures.steps) ∙ is.2,
    )
