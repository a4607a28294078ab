-- Steps through posting trees that read no page: the next tree begins, or the next leaf comes, or pages go further.
use Rattle.std.proofs.Common.{◌≡◌, ◌≢◌, ◌⊎◌, ℕ, suc, Some, slice_get, ◌+◌, ◌^◌, ◌<◌, length}
use Rattle.std.proofs.Common.{sym, ap, subst, inl, inr}
use Rattle.disk_trait.specs.declared.device.Disk.{Ghosts as Disk}
use Rattle.wal.specs.Waiting.{down_of}
use Rattle.gin_opclass.specs.Class.{Meaning}
use Rattle.core_moments.specs.Walk.{Sought}
use Rattle.core_moments.specs.OpenLaws.{IsPostingPage}
use Rattle.buffer_frames.specs.Frames.{FramesValue}
use Rattle.buffer_frames.specs.declared.frame_error.FrameError.{FrameError}
use Rattle.buffer_frames.specs.declared.frame_error.FrameError.TheVariants.{Down}
use Rattle.buffer_frames.specs.declared.pass.Pass.{Pass}
use Rattle.gin_hits.proofs.JudgedScan.{element_at}
use Rattle.gin_scan.specs.Calls.{LieStill, ReadsOn}
use Rattle.gin_scan.specs.Causes.{CannotRead, CannotStep}
use Rattle.gin_scan.specs.Scanning.{IsScan, IsWithin, sought_in}
use Rattle.gin_scan.specs.Inner.Steps.{MayStep, HasStepped, IsFurthest}
use Rattle.gin_scan.specs.Inner.Ways.{GoesToTree}
use Rattle.gin_scan.specs.declared.scan_core.ScanCore.{ScanCore}
use Rattle.gin_scan.specs.declared.stage.Stage.{Stage}
use Rattle.gin_scan.specs.declared.stage.Stage.TheVariants as stage
use Rattle.gin_scan.proofs.StepsTaken.{stepped_by}
use Rattle.gin_scan.proofs.PostingCauses.{tree_ends, posting_cause}
use Rattle.gin_scan.proofs.PostingCounted.{over_counted, posting_further_counted}
use Rattle.gin_scan.proofs.PostingReached.{over_reached, posting_further_reached}
use Rattle.gin_scan.proofs.PostingSteps.{over_step, posting_further, over_lower, posting_further_lower}
use Rattle.gin_scan.proofs.TreeSteps.{tree_within}

-- the walk and the posting tree that the stage names are there
pub posting_there : (s : ScanCore) (key at page left next read : ℕ) → IsScan s
    → s.stage ≡ stage.Posting key at page left next read → (key < length (sought_in s)) × (at < length s.roots.items)
posting_there s key at page left next read is stage_is = subst (IsWithin s) stage_is is.within

module _ {D Q : Type 0} (device : Disk D) (M : Meaning Q) (q : Q) (f f' : FramesValue D) (pass pass' : Pass)
    (s s' : ScanCore) (may : MayStep device M q f pass s) (reads : ReadsOn device f pass f' pass')
    (holds : pass'.holds ≡ pass.holds) (still : LieStill f f') (key at page left next read : ℕ)
    (stage_is : s.stage ≡ stage.Posting key at page left next read) where
  there : (key < length (sought_in s)) × (at < length s.roots.items)
  there = posting_there s key at page left next read may.scanning.is_scan stage_is

  w : (u : Sought) × (slice_get (sought_in s) key ≡ Some u)
  w = element_at (sought_in s) key there.0

  same_scan : (z : Stage) (n : ℕ) → s' ≡ record s { stage = z; extent = n }
      → IsWithin (record s { stage = z; extent = n }) z → IsScan s'
  same_scan z n same within =
      subst IsScan (sym same) (record {
        ordered = may.scanning.is_scan.ordered;
        pending = may.scanning.is_scan.pending;
        main = may.scanning.is_scan.main;
        within = within;
      })

  -- a tree is over, or is given up, which it never is in a legal log
  pub tree_left : (z : Stage) → s' ≡ record s { stage = z } → GoesToTree s key (suc at) next read z
      → (page ≡ 0) ⊎ IsFurthest f s left → s.extent < 2 ^ 32 → HasStepped device M q f pass s f' pass' s'
  tree_left z same goes why small =
      stepped_by device M q f f' pass pass' s s' may reads
      (same_scan z s.extent same (tree_within (record s { stage = z }) key (suc at) next read z there.0 goes))
      (ap (λ (y : ScanCore). y.keys) same) (ap (λ (y : ScanCore). y.snapshot) same)
      (over_lower s s' key at page left next read z stage_is same goes there.1 small)
      (λ R pin known pinned o. elim why [
        | inl none ↦ over_step device M q f s s' R pin known o key at page left next read w.0 w.1 stage_is none
            there.1 z
            same goes
        | inr further ↦ absurd (tree_ends device M q f pass s may key at page left next read w.0 w.1 stage_is R pin
            known
            o further)
      ])
      (λ r. over_reached M q f f' still s s' key at page left next read w.0 w.1 stage_is r there.1 z same goes)
      (over_counted s s' key at page left next read pass.holds pass'.holds z stage_is same goes there.1 holds)

  -- pages go further
  pub tree_goes_further : (more : ℕ) → left ≡ 0
      → s' ≡ record s { stage = stage.Posting key at page more next read; extent = s.extent + more } → 0 < more
      → s.extent + more < 2 ^ 32 → HasStepped device M q f pass s f' pass' s'
  tree_goes_further more none same some small =
      let is = subst (λ (n : ℕ). s.stage ≡ stage.Posting key at page n next read) none stage_is in
      stepped_by device M q f f' pass pass' s s' may reads
      (same_scan (stage.Posting key at page more next read) (s.extent + more) same there)
      (ap (λ (z : ScanCore). z.keys) same) (ap (λ (z : ScanCore). z.snapshot) same)
      (posting_further_lower s s' key at page more next read is same some small)
      (λ R pin known pinned o. posting_further device M q f s s' R pin known o key at page left next read w.0 w.1
      stage_is
      more none same)
      (λ r. posting_further_reached M q f f' still s s' key at page left next read w.0 w.1 stage_is r more none same)
      (posting_further_counted s s' key at page more next read pass.holds pass'.holds is same holds)

-- why the next step in a tree is not taken: the log can't be asked
pub tree_down_cause : {D : Type 0} (f : FramesValue D) (s : ScanCore) (key at page left next read : ℕ)
    (e : FrameError) (fault : ℕ) → s.stage ≡ stage.Posting key at page left next read → page ≢ 0 → e ≡ Down fault
    → down_of f.journal.wal ≡ Some fault → CannotStep f s s.stage e
tree_down_cause f s key at page left next read e fault is some same down =
    posting_cause f s key at page left next read e is some (subst (CannotRead f IsPostingPage page) (sym same) down)
