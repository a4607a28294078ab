-- The moments past a pin, with lists of the trees' pages at its length.
use Rattle.std.proofs.Common.{◌≡◌, ◌⊎◌, ◌≤◌, ℕ, suc, [], ◌∷◌, length, refl, sym, subst, subst₂, inl, inr, arith}
use Rattle.core_state.specs.Log.{Log, Pages, Shows}
use Rattle.core_state.specs.Legal.{Pin, KeepsEach}
use Rattle.core_state.specs.Inner.Ghosts.{Ghost}
use Rattle.core_state.proofs.Law.Steps.{StepHolds}
use Rattle.core_state.proofs.Law.Runs.{step_over}
use Rattle.core_state.proofs.Moments.Timeline.{Moments, one_moment, one_pages, one_ghosts, one_more, more_pages}
use Rattle.core_state.proofs.Moments.Timeline.{more_ghosts}
use Rattle.core_state.proofs.Law.Lists.{Listed, HasLists, list_run}

-- the moments past a pin's length, at which there are lists
pub record ListedMoments (pin : Pin) (R : Log) (P : Pages) : Type 0 where
  pub ghost : Ghost
  pub moments : Moments pin R P ghost
  pub listed : Listed (moments.pages pin.length) (moments.ghosts pin.length)

none_more : (m : ℕ) → m ≤ 0 → m ≡ 0
none_more m z = omega (arith, z)

at_length : (n m : ℕ) → n ≤ suc m → (n ≡ suc m) ⊎ (n ≤ m)
at_length n m l = grind (arith, l)

module _ (step : StepHolds) (pin : Pin) where
  begins : (R : Log) → KeepsEach pin R → pin.length ≡ length R → (P : Pages) → Shows R P → ListedMoments pin R P
  begins R k e P shown =
      let i = subst (λ m. HasLists pin.commits m R P) (sym e) (list_run step pin R k P shown) in
      record {
        ghost = i.0;
        moments = one_moment pin R P i.0 (sym e) shown i.1;
        listed = subst₂ Listed (sym (one_pages pin R P i.0 (sym e) shown i.1 pin.length))
            (sym (one_ghosts pin R P i.0 (sym e) shown i.1 pin.length)) i.2;
      }

  pub listed_moments : (R : Log) → KeepsEach pin R → pin.length ≤ length R → (P : Pages) → Shows R P
      → ListedMoments pin R P
  listed_moments [] k l P shown = begins [] k (none_more pin.length l) P shown
  listed_moments (r ∷ R) k l Q shown = elim (at_length pin.length (length R) l) [
    | inl e ↦ begins (r ∷ R) k e Q shown
    | inr low ↦
        let v = k.2 low in
        let before = listed_moments R k.0 low v.2.before v.2.shown in
        let inv = subst₂ (λ (S : Pages) (g : Ghost). Rattle.core_state.proofs.Law.Invariant.Inv pin.commits
        pin.length R S g) before.moments.last_pages before.moments.last_ghosts
        (subst (λ (S : Log). Rattle.core_state.proofs.Law.Invariant.Inv pin.commits pin.length S
        (before.moments.pages (length R)) (before.moments.ghosts (length R)))
        (Rattle.core_state.proofs.Moments.Timeline.cut_all R (length R) refl)
        (before.moments.timeline.inv (length R) low (omega arith))) in
        let a = step_over step pin.commits pin.length R r v.0 pin.length v.2 v.1
        (inl (omega arith)) low v.2.before Q before.ghost v.2.shown shown inv in
        record {
          ghost = a.ghost;
          moments = one_more pin R v.2.before Q r before.ghost before.moments shown a;
          listed = subst₂ Listed (sym
              (more_pages pin R v.2.before Q r before.ghost before.moments shown a pin.length low))
              (sym (more_ghosts pin R v.2.before Q r before.ghost before.moments shown a pin.length low))
              before.listed;
        }
  ]
