-- The three runs of the step: over a legal log; under a kept pin, up to its length; and past it.
use Rattle.std.proofs.Common.{◌≡◌, ◌⊎◌, ◌≤◌, ℕ, suc, [], ◌∷◌, length, refl, sym, subst, subst₂, inl, inr, arith}
use Rattle.page_types.specs.declared.record.Record.{Record}
use Rattle.core_state.specs.Log.{Log, Pages, Shows, commits}
use Rattle.core_state.specs.Legal.{RuleHolds, Valid, RecordsAreValid, Pin, KeepsEach}
use Rattle.core_state.specs.Inner.Ghosts.{Ghost, no_ghost, forgotten}
use Rattle.core_state.proofs.Law.Invariant.{Inv}
use Rattle.core_state.proofs.Law.Steps.{After, StepHolds}
use Rattle.core_state.proofs.Showing.{shown_one}
use Rattle.core_state.proofs.SteadyEnds.{commits_more}
use Rattle.core_state.proofs.Law.Start.{start}
use Rattle.core_state.proofs.Law.Forget.{forget, weaken}

-- ghosts with the invariant
abbrev pub Holds : ℕ → ℕ → Log → Pages → Type 0
Holds n L R P = (g : Ghost) × Inv n L R P g

-- what is after a valid record, from what is before it
module _ (step : StepHolds) (n L : ℕ) (R : Log) (r : Record) (floor since : ℕ) (v : Valid R r floor since)
    (floor_is : floor ≤ n) (since_is : (since ≤ L) ⊎ (L ≡ length R)) (within : L ≤ length R) where
  row_between : (P Q : Pages) → Shows R P → Shows (r ∷ R) Q → RuleHolds R P Q r floor since
  row_between P Q shown shown_after =
      subst₂ (λ (S T : Pages). RuleHolds R S T r floor since) (shown_one R v.before P v.shown shown)
      (shown_one (r ∷ R) v.after Q v.shown_after shown_after)
      v.rule

  pub step_over : (P Q : Pages) (g : Ghost) → Shows R P → Shows (r ∷ R) Q → Inv n L R P g → After n L R P Q r g
  step_over P Q g shown shown_after inv = step n L R P Q r floor since g (record {
    inv = inv;
    shown = shown;
    shown_after = shown_after;
    number = v.number;
    started = v.started;
    floor_is = floor_is;
    since_is = since_is;
    within = within;
  }) (row_between P Q shown shown_after)

  pub goes_on : ((P : Pages) → Shows R P → Holds n L R P) → (Q : Pages) → Shows (r ∷ R) Q → Holds n L (r ∷ R) Q
  goes_on all Q shown =
      let i = all v.before v.shown in
      let a = step_over v.before Q i.0 v.shown shown i.1 in
      (a.ghost, a.inv)

forgets : (n L : ℕ) (R : Log) (P : Pages) → Holds n L R P → Holds n (length R) R P
forgets n L R P h = (forgotten h.0, forget n L R P h.0 h.1)

weakens : (n m L : ℕ) (R : Log) (P : Pages) → n ≤ m → Holds n L R P → Holds m L R P
weakens n m L R P l h = (h.0, weaken n m l R P L h.0 h.1)

none_shown : (n : ℕ) (P : Pages) → Shows [] P → Holds n 0 [] P
none_shown n P shown = (no_ghost, start n 0 P shown)

module _ (step : StepHolds) where
  -- of a log of valid records, with all its commits as floor, and nothing that was deleted kept
  pub plain_run : (R : Log) → RecordsAreValid R → (P : Pages) → Shows R P → Holds (commits R) (length R) R P
  plain_run [] v P shown = none_shown 0 P shown
  plain_run (r ∷ R) v Q shown =
      weakens (commits R) (commits (r ∷ R)) (length (r ∷ R)) (r ∷ R) Q (commits_more r.kind (commits R))
      (forgets (commits R) (length R) (r ∷ R) Q
      (goes_on step (commits R) (length R) R r (commits R) (suc (length R)) v.1 (omega arith) (inr refl)
      (omega arith) (plain_run R v.0) Q shown))

  -- under a pin, with its commits as floor, and nothing that was deleted kept
  pub pin_run : (pin : Pin) (R : Log) → KeepsEach pin R → (P : Pages) → Shows R P → Holds pin.commits (length R) R P
  pin_run pin [] k P shown = none_shown pin.commits P shown
  pin_run pin (r ∷ R) k Q shown =
      let v = k.1 in
      forgets pin.commits (length R) (r ∷ R) Q
      (goes_on step pin.commits (length R) R r v.0 (suc (length R)) v.2 v.1 (inr refl) (omega arith)
      (pin_run pin R k.0) Q shown)

none_left : (m : ℕ) → m ≤ 0 → m ≡ 0
none_left m z = omega (arith, z)

at_length : (n m : ℕ) → n ≤ suc m → (n ≡ suc m) ⊎ (n ≤ m)
at_length n m l = grind (arith, l)

-- the records after the pin's length, with the ghosts at each moment
pub data Trace (pin : Pin) : Log → Pages → Ghost → Type 0 where
  here : (R : Log) (P : Pages) (g : Ghost) → length R ≡ pin.length → Shows R P → Inv pin.commits pin.length R P g
      → Trace pin R P g
  next : (R : Log) (P Q : Pages) (r : Record) (g : Ghost) → Trace pin R P g → Shows (r ∷ R) Q
      → (a : After pin.commits pin.length R P Q r g)
      → Trace pin (r ∷ R) Q a.ghost

abbrev pub Traced : Pin → Log → Pages → Type 0
Traced pin R P = (g : Ghost) × Inv pin.commits pin.length R P g × Trace pin R P g

module _ (step : StepHolds) (pin : Pin) where
  begins : (R : Log) → KeepsEach pin R → pin.length ≡ length R → (P : Pages) → Shows R P → Traced pin R P
  begins R k e P shown =
      let i = subst (λ m. Holds pin.commits m R P) (sym e) (pin_run step pin R k P shown) in
      (i.0, i.1, Trace.here R P i.0 (sym e) shown i.1)

  -- past the pin's length, and what was deleted since is kept
  pub past_run : (R : Log) → KeepsEach pin R → pin.length ≤ length R → (P : Pages) → Shows R P → Traced pin R P
  past_run [] k l P shown = begins [] k (none_left pin.length l) P shown
  past_run (r ∷ R) k l Q shown = elim (at_length pin.length (length R) l) [
    | inl e ↦ begins (r ∷ R) k e Q shown
    | inr low ↦
        let v = k.2 low in
        let i = past_run R k.0 low v.2.before v.2.shown in
        let a = step_over step pin.commits pin.length R r v.0 pin.length v.2 v.1
        (inl (omega arith)) low v.2.before Q i.0 v.2.shown shown i.1 in
        (a.ghost, a.inv, Trace.next R v.2.before Q r i.0 i.2 shown a)
  ]
