use Rattle.std.proofs.Common.{sym, ◌∙◌}
use Rattle.ts_match.proofs.Spares.{same_refl}
use Rattle.ts_match.proofs.matching.phrase_value.Goals as goal

pub returns-then-not-find_leaves-clause-meaning : goal.returns-then-not-find_leaves-clause-meaning
returns-then-not-find_leaves-clause-meaning c = λ t p. (
  λ h. absurd (let x : ⊥ = cc in x),
  λ h. absurd (c.find_leaves.ensures.lacking c.if-not-find_leaves.true c.is_stripped.ensures.normal t p h.1),
)

pub returns-in-Some-clause-meaning : goal.returns-in-Some-clause-meaning
returns-in-Some-clause-meaning c = λ t p.
    let m = c.in-Some.ensures.meaning t p in
    (λ h. (sym c.is_stripped.ensures.stripped ∙ c.if-is_stripped.false, m.0 h), λ h. m.1 h.1)

pub returns-in-None-clause-meaning : goal.returns-in-None-clause-meaning
returns-in-None-clause-meaning c = λ t p.
    let m = c.phrase_holds.ensures.meaning t p in
    (λ h. (sym c.is_stripped.ensures.stripped ∙ c.if-is_stripped.false, m.0 h), λ h. m.1 h.1)

pub returns-then-is_stripped-clause-bit_sets : goal.returns-then-is_stripped-clause-bit_sets
returns-then-is_stripped-clause-bit_sets c = same_refl _ _

pub returns-then-not-find_leaves-clause-bit_sets : goal.returns-then-not-find_leaves-clause-bit_sets
returns-then-not-find_leaves-clause-bit_sets c = same_refl _ _
