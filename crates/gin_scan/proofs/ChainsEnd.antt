-- No page more may be read of a chain: pages go further, or what comes after it is read.
use Rattle.std.proofs.Common.{◌≡◌, ℕ, ◌+◌, ◌-◌, ◌^◌, ◌<◌, refl, sym, ap, subst, ◌∙◌, inr, arith}
use Rattle.std.specs.Prelude.{Some}
use Rattle.disk_trait.specs.declared.device.Disk.{Ghosts as Disk}
use Rattle.wal.specs.Waiting.{down_of}
use Rattle.gin_opclass.specs.Class.{Meaning}
use Rattle.buffer_frames.specs.Frames.{FramesValue}
use Rattle.buffer_frames.specs.declared.frame_error.FrameError.{FrameError}
use Rattle.buffer_frames.specs.declared.frame_error.FrameError.TheVariants.{Down}
use Rattle.buffer_frames.specs.declared.pass.Pass.{Pass}
use Rattle.gin_scan.specs.Calls.{LieStill, ReadsOn}
use Rattle.gin_scan.specs.Causes.{CannotFollow, CannotStep, HasRows}
use Rattle.gin_scan.specs.Scanning.{IsScan}
use Rattle.gin_scan.specs.Inner.Steps.{MayStep, HasStepped, IsFurthest}
use Rattle.gin_scan.specs.Inner.Ways.{EndsAs, stage_with}
use Rattle.gin_scan.specs.declared.scan_core.ScanCore.{ScanCore}
use Rattle.gin_scan.specs.declared.stage.Stage.{Stage}
use Rattle.gin_scan.specs.declared.stage.Stage.TheVariants as stage
use Rattle.gin_scan.proofs.Counted.{further_counted}
use Rattle.gin_scan.proofs.ListCauses.{step_cause}
use Rattle.gin_scan.proofs.ListSteps.{further_step, further_lower, few_sought}
use Rattle.gin_scan.proofs.PostingCalls.{tree_left, tree_goes_further, tree_down_cause}
use Rattle.gin_scan.proofs.Reached.{further_reached}
use Rattle.gin_scan.proofs.StepsTaken.{stepped_by}
use Rattle.gin_scan.proofs.TreeCalls.{tree_begins, given_up, goes_further, walk_down_cause}

-- the log can't be asked
pub further_cause : {D : Type 0} (f : FramesValue D) (s : ScanCore) (z : Stage) (e : FrameError) (fault : ℕ)
    → EndsAs s z → e ≡ Down fault → down_of f.journal.wal ≡ Some fault → CannotStep f s s.stage e
further_cause f s z e fault (EndsAs.list page some at after) is down =
    step_cause f s (stage.Pending page 0) e at
    (subst (CannotFollow f HasRows page) (sym is) (down, λ n. absurd (some n)))
further_cause f s z e fault (EndsAs.walk key less at after) is down =
    walk_down_cause f s key e fault at less is down
further_cause f s z e fault (EndsAs.tree key at page next read some stage_is after) is down =
    tree_down_cause f s key at page 0 next read e fault stage_is some is down

module _ {D Q : Type 0} (device : Disk D) (M : Meaning Q) (q : Q) (f f' : FramesValue D) (pass pass' : Pass)
    (s s' : ScanCore) (may : MayStep device M q f pass s) (reads : ReadsOn device f pass f' pass')
    (holds : pass'.holds ≡ pass.holds) (still : LieStill f f') where
  -- pages of the list go further
  list_further : (page more : ℕ) → s.stage ≡ stage.Pending page 0
      → s' ≡ record s { stage = stage.Pending page more; extent = s.extent + more } → 0 < more
      → s.extent + more < 2 ^ 32 → HasStepped device M q f pass s f' pass' s'
  list_further page more at same some small =
      let is = may.scanning.is_scan in
      let n = s.extent + more in
      let sum : more ≡ n - s.extent = omega arith in
      stepped_by device M q f f' pass pass' s s' may reads
      (subst IsScan (sym same)
      (record { ordered = is.ordered; pending = is.pending; main = is.main; within = tt }))
      (ap (λ (z : ScanCore). z.keys) same) (ap (λ (z : ScanCore). z.snapshot) same)
      (further_lower s s' page more at (ap (λ (z : ScanCore). z.stage) same) (ap (λ (z : ScanCore). z.extent) same) some
      (subst (λ (m : ℕ). m < 2 ^ 32) (sym (ap (λ (z : ScanCore). z.extent) same)) small))
      (λ R pin known pinned o. further_step device M q f pass s s' may.scanning.is_pass is may.asks R pin known o page
      more at same)
      (further_reached M q f f' still s s' page more at same)
      (further_counted s s' page n pass.holds pass'.holds at (omega (arith, some))
      (same ∙ ap (λ (m : ℕ). record s { stage = stage.Pending page m; extent = n }) sum) holds)

  -- pages go further
  pub chain_further : (z : Stage) (n : ℕ) → EndsAs s z → s.extent < n → n < 2 ^ 32
      → s' ≡ record s { stage = stage_with s.stage (n - s.extent); extent = n }
      → HasStepped device M q f pass s f' pass' s'
  chain_further z n ends less small same =
      let more = n - s.extent in
      let sum : n ≡ s.extent + more = omega (arith, less) in
      let some : 0 < more = omega (arith, less) in
      let under : s.extent + more < 2 ^ 32 = omega (arith, less, small) in
      let now = same ∙ ap (λ (m : ℕ). record s { stage = stage_with s.stage more; extent = m }) sum in
      elim ends [
        | EndsAs.list page off at after ↦
            list_further page more at
            (now ∙ ap (λ (y : Stage). record s { stage = stage_with y more; extent = s.extent + more }) at) some under
        | EndsAs.walk key there at after ↦
            goes_further device M q f f' pass pass' s s' may reads holds still key there more at now some under
        | EndsAs.tree key at page next read off stage_is after ↦
            tree_goes_further device M q f f' pass pass' s s' may reads holds still key at page 0 next read stage_is
            more
            refl (now ∙ ap (λ (y : Stage). record s { stage = stage_with y more; extent = s.extent + more }) stage_is)
            some under
      ]

  -- the chain is given up
  pub chain_ended : (z : Stage) → EndsAs s z → IsFurthest f s 0 → s.extent < 2 ^ 32 → s' ≡ record s { stage = z }
      → HasStepped device M q f pass s f' pass' s'
  chain_ended z ends further small same = elim ends [
    | EndsAs.list page off at after ↦
        tree_begins device M q f f' pass pass' s s' may reads holds still page 0 at (inr further)
        (same ∙ ap (λ (y : Stage). record s { stage = y }) after) small
        (few_sought s (omega (arith, s.order.ok)))
    | EndsAs.walk key there at after ↦
        given_up device M q f f' pass pass' s s' may reads holds still key there at further
        (same ∙ ap (λ (y : Stage). record s { stage = y }) after) small
    | EndsAs.tree key at page next read off stage_is after ↦
        tree_left device M q f f' pass pass' s s' may reads holds still key at page 0 next read stage_is z same after
        (inr further) small
  ]
