-- A document that is committed and not dead has its slot and is whole.
use Rattle.std.proofs.Common.{◌≡◌, ◌≤◌, ℕ, suc, [], ◌∷◌, length, sym, ap, subst, ◌∙◌, inl, inr, arith}
use Rattle.ts_base.specs.Vectors.{Vector}
use Rattle.page_types.specs.declared.record.Record.{Record}
use Rattle.page_types.specs.declared.record.Kind.TheVariants as kind
use Rattle.core_state.specs.Log.{Log, Pages, In, Shows, commits, fate}
use Rattle.core_state.specs.Documents.{Doc, HasVector, IsDead, placed}
use Rattle.core_state.specs.TransactionRules.{IsCommit}
use Rattle.core_state.specs.Legal.{Valid, RecordsAreValid, Pin, KeepsEach}
use Rattle.core_state.specs.Inner.Ghosts.{Ghost}
use Rattle.core_state.specs.Inner.Ghosts.Place.{overflow_of}
use Rattle.core_state.specs.declared.answers.Fate.TheVariants.{Running, Committed}
use Rattle.core_state.proofs.Showing.{shown_one}
use Rattle.core_state.proofs.RulesByKind.{kind_rule}
use Rattle.core_state.proofs.FateSteps.{dead_stays, dead_more, commits_back, placed_back}
use Rattle.core_state.proofs.HeadsFollow.{places_doc}
use Rattle.core_state.proofs.ChainFrames.{whole_or_removed}
use Rattle.core_state.proofs.SteadyPages.{touches, elsewhere}
use Rattle.core_state.proofs.SteadyEnds.{fates_step, heads_step, commits_more}
use Rattle.core_state.proofs.Law.ChainsStay.{overflows}
use Rattle.core_state.proofs.Law.Invariant.{Inv}
use Rattle.core_state.proofs.Law.Steps.{StepHolds}
use Rattle.core_state.proofs.Law.Runs.{plain_run, pin_run}

-- n: the floor by which a document is dead
abbrev pub AreWhole : ℕ → Log → Pages → Type 0
AreWhole n R P = (x k : ℕ) (d : Doc) → fate R x ≡ Committed k → In d (placed R x) → (IsDead R n d → ⊥) → (v : Vector)
    × HasVector P d v

module _ (n L : ℕ) (R : Log) (r : Record) (floor since : ℕ) (u : Valid R r floor since) (g : Ghost)
    (v : Inv n L R u.before g) (low : floor ≤ n) (W : AreWhole n R u.before) where
  -- a whole document that isn't dead stays whole
  still : (d : Doc) → (IsDead R n d → ⊥) → (w : Vector) × HasVector u.before d w → (w : Vector) × HasVector u.after d w
  still d alive w = elim (whole_or_removed R u.before u.after r floor since u.rule (touches R r floor since u)
      (elsewhere R r floor since u) (heads_step R r floor since u) (λ i q. g.place q ≡ overflow_of i)
      (overflows n L R u.before g v) d w.1.0 w.0 w.1.1 w.1.2) [
        | inl now ↦ (w.0, now)
        | inr x ↦ absurd (alive (dead_more R floor n d low x.gone.dead))
      ]

  pub whole_step : AreWhole n (r ∷ R) u.after
  whole_step x k d e p alive =
      let F = fates_step R r floor since v.heads.xids u in
      let before : IsDead R n d → ⊥ = λ z. alive (dead_stays R r v.heads.xids F n d z) in
      elim (commits_back R r v.heads.xids F x k e) [
        | inl old ↦ elim (placed_back r R x d p) [
          | inl there ↦ still d before (W x k d old there before)
          | inr new ↦
              let place = places_doc R u.before u.after r floor since u.rule d.item d.serial new.0 in
              let clash : Running ≡ Committed k = sym place.runs ∙ ap (fate R) new.1 ∙ old in
              absurd (cc)
        ]
        | inr now ↦ elim (placed_back r R x d p) [
          | inr new ↦ let clash : kind.Commit k ≡ kind.PlaceHead d.item d.serial = sym now.0 ∙ new.0 in absurd (cc)
          | inl there ↦
              let row : IsCommit R u.before u.after r = kind_rule R u.before u.after r floor since (kind.Commit k) now.0
              u.rule in
              let is = row.rest d (subst (λ (z : ℕ). In d (placed R z)) (sym now.1) there) in
              still d before (is.vector, is.whole)
        ]
      ]

none_whole : (n : ℕ) (P : Pages) → AreWhole n [] P
none_whole n P x k d e p alive = absurd p

whole_more : (n m : ℕ) (R : Log) (P : Pages) → n ≤ m → AreWhole n R P → AreWhole m R P
whole_more n m R P le W x k d e p alive = W x k d e p (λ z. alive (dead_more R n m d le z))

module _ (step : StepHolds) where
  -- in every legal log, by all of its commits
  pub committed_whole : (R : Log) → RecordsAreValid R → (P : Pages) → Shows R P → AreWhole (commits R) R P
  committed_whole [] v P shown = none_whole 0 P
  committed_whole (r ∷ R) v P shown =
      let u = v.1 in
      let h = plain_run step R v.0 u.before u.shown in
      whole_more (commits R) (commits (r ∷ R)) (r ∷ R) P (commits_more r.kind (commits R))
      (subst (AreWhole (commits R) (r ∷ R)) (shown_one (r ∷ R) u.after P u.shown_after shown)
      (whole_step (commits R) (length R) R r (commits R) (suc (length R)) u h.0 h.1 (omega arith)
      (committed_whole R v.0 u.before u.shown)))

  -- and by those of each pin that it keeps
  pub whole_under : (pin : Pin) (R : Log) → KeepsEach pin R → (P : Pages) → Shows R P → AreWhole pin.commits R P
  whole_under pin [] k P shown = none_whole pin.commits P
  whole_under pin (r ∷ R) k P shown =
      let f = k.1 in
      let u : Valid R r f.0 (suc (length R)) = f.2 in
      let h = pin_run step pin R k.0 u.before u.shown in
      subst (AreWhole pin.commits (r ∷ R)) (shown_one (r ∷ R) u.after P u.shown_after shown)
      (whole_step pin.commits (length R) R r f.0 (suc (length R)) u h.0 h.1 f.1 (whole_under pin R k.0 u.before
      u.shown))
