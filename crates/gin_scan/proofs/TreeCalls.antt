-- Steps through the tree that read no page: the next walk begins, or pages go further.
use Rattle.std.proofs.Common.{◌≡◌, ◌⊎◌, ℕ, zero, suc, Some, slice_get, ◌+◌, ◌^◌, ◌<◌, ◌≤◌, length}
use Rattle.std.proofs.Common.{refl, sym, ap, subst}
use Rattle.std.proofs.Common.{◌∙◌, inl, inr, arith}
use Rattle.disk_trait.specs.declared.device.Disk.{Ghosts as Disk}
use Rattle.gin_opclass.specs.Class.{Meaning}
use Rattle.core_moments.specs.Walk.{Sought}
use Rattle.wal.specs.Waiting.{down_of}
use Rattle.buffer_frames.specs.Frames.{FramesValue}
use Rattle.buffer_frames.specs.declared.frame_error.FrameError.{FrameError}
use Rattle.buffer_frames.specs.declared.frame_error.FrameError.TheVariants.{Down}
use Rattle.buffer_frames.specs.declared.pass.Pass.{Pass}
use Rattle.gin_hits.proofs.JudgedScan.{element_at}
use Rattle.gin_scan.specs.Calls.{LieStill, ReadsOn}
use Rattle.core_moments.specs.OpenLaws.{IsLeaf}
use Rattle.gin_scan.specs.Causes.{HasWay, CannotRead, CannotStep}
use Rattle.gin_scan.specs.Scanning.{IsScan, IsWithin, sought_in}
use Rattle.gin_scan.specs.Inner.Steps.{MayStep, HasStepped, IsFurthest}
use Rattle.gin_scan.specs.Inner.Ways.{IsOnWalk, stage_with}
use Rattle.gin_scan.specs.declared.scan_core.ScanCore.{ScanCore}
use Rattle.gin_scan.specs.declared.stage.Stage.{Stage}
use Rattle.gin_scan.specs.declared.stage.Stage.TheVariants as stage
use Rattle.gin_scan.proofs.ListCauses.{tree_any}
use Rattle.gin_scan.proofs.StepsTaken.{stepped_by}
use Rattle.gin_scan.proofs.TreeCauses.{way_ends, leaves_end, way_cause, leaf_cause}
use Rattle.gin_scan.proofs.TreeCounted.{tree_counted, next_counted, way_further_counted, leaves_further_counted}
use Rattle.gin_scan.proofs.TreeReached.{tree_reached, next_after_way, next_after_leaves}
use Rattle.gin_scan.proofs.TreeReached.{way_further_reached, leaves_further_reached}
use Rattle.gin_scan.proofs.TreeSteps.{next_step, way_further, leaves_further, tree_lower, next_lower}
use Rattle.gin_scan.proofs.TreeSteps.{way_further_lower}

-- a number is below another, or the same, where it isn't above
pub below_or : (n key left extent : ℕ) → key ≤ n → left ≡ extent
    → (key < n) ⊎ ((key ≡ n) × (left ≡ extent))
below_or n key left extent le same = elim (either key n le) [ inl less ↦ inl less | inr e ↦ inr (e, same) ]
  where
    either : (a b : ℕ) → a ≤ b → (a < b) ⊎ (a ≡ b)
    either zero zero le = inr refl
    either zero (suc b) le = inl (omega arith)
    either (suc a) zero le = absurd (omega (arith, le))
    either (suc a) (suc b) le = elim (either a b (omega (arith, le))) [
      | inl less ↦ inl (omega (arith, less))
      | inr e ↦ inr (ap suc e)
    ]

-- after all walks, as many pages are left as there are
pub all_left : (s : ScanCore) (page left : ℕ) → s.stage ≡ stage.Down (length (sought_in s)) page left
    → IsWithin s s.stage → left ≡ s.extent
all_left s page left at within = elim (subst (IsWithin s) at within) [
  | inl less ↦ absurd (omega (arith, less))
  | inr all ↦ all.1
]

module _ {D Q : Type 0} (device : Disk D) (M : Meaning Q) (q : Q) (f f' : FramesValue D) (pass pass' : Pass)
    (s s' : ScanCore) (may : MayStep device M q f pass s) (reads : ReadsOn device f pass f' pass')
    (holds : pass'.holds ≡ pass.holds) (still : LieStill f f') where
  -- a scan for the same keys
  same_scan : (z : Stage) (n : ℕ) → s' ≡ record s { stage = z; extent = n }
      → IsWithin (record s { stage = z; extent = n }) z
      → IsScan s'
  same_scan z n same within =
      subst IsScan (sym same) (record {
        ordered = may.scanning.is_scan.ordered;
        pending = may.scanning.is_scan.pending;
        main = may.scanning.is_scan.main;
        within = within;
      })

  -- the list was read, and the first walk begins
  pub tree_begins : (page left : ℕ) → s.stage ≡ stage.Pending page left → (page ≡ 0) ⊎ IsFurthest f s left
      → s' ≡ record s { stage = stage.Down 0 1 s.extent } → s.extent < 2 ^ 32 → length (sought_in s) < 2 ^ 63
      → HasStepped device M q f pass s f' pass' s'
  tree_begins page left at either same small few =
      stepped_by device M q f f' pass pass' s s' may reads
      (same_scan (stage.Down 0 1 s.extent) s.extent same
      (below_or (length (sought_in s)) 0 s.extent s.extent (omega arith) refl))
      (ap (λ (z : ScanCore). z.keys) same) (ap (λ (z : ScanCore). z.snapshot) same)
      (tree_lower s s' page left at same small few)
      (λ R pin known pinned o. tree_any device M q f pass s s' may page left at either same R pin known o)
      (tree_reached M q f f' still s s' page left may.scanning.is_scan may.asks at same)
      (tree_counted s s' page left pass.holds pass'.holds at same holds)

  module _ (key : ℕ) (less : key < length (sought_in s)) where
    next_within : s' ≡ record s { stage = stage.Down (suc key) 1 s.extent } → IsScan s'
    next_within same =
        same_scan (stage.Down (suc key) 1 s.extent) s.extent same
        (below_or (length (sought_in s)) (suc key) s.extent s.extent (omega (arith, less)) refl)

    w : (u : Sought) × (slice_get (sought_in s) key ≡ Some u)
    w = element_at (sought_in s) key less

    -- a walk is given up, which it never is in a legal log
    pub way_given_up : (page left : ℕ) → s.stage ≡ stage.Down key page left → IsFurthest f s left
        → s' ≡ record s { stage = stage.Down (suc key) 1 s.extent } → s.extent < 2 ^ 32
        → HasStepped device M q f pass s f' pass' s'
    way_given_up page left at further same small =
        stepped_by device M q f f' pass pass' s s' may reads (next_within same)
        (ap (λ (z : ScanCore). z.keys) same) (ap (λ (z : ScanCore). z.snapshot) same)
        (next_lower s s' (stage.Down key page left) key page left less at refl refl same small)
        (λ R pin known pinned o. absurd
        (way_ends device M q f pass s may key page left w.0 w.1 at further R pin known o))
        (next_after_way M q f f' still s s' key page left w.0 w.1 at same)
        (next_counted s s' (stage.Down key page left) key left pass.holds pass'.holds at (λ before b. b) same holds)

    pub leaves_given_up : (page left : ℕ) → s.stage ≡ stage.Leaf key page left → IsFurthest f s left
        → s' ≡ record s { stage = stage.Down (suc key) 1 s.extent } → s.extent < 2 ^ 32
        → HasStepped device M q f pass s f' pass' s'
    leaves_given_up page left at further same small =
        stepped_by device M q f f' pass pass' s s' may reads (next_within same)
        (ap (λ (z : ScanCore). z.keys) same) (ap (λ (z : ScanCore). z.snapshot) same)
        (next_lower s s' (stage.Leaf key page left) key page left less at refl refl same small)
        (λ R pin known pinned o.
        absurd (leaves_end device M q f pass s may key page left w.0 w.1 at further R pin known o))
        (next_after_leaves M q f f' still s s' key page left w.0 w.1 at same)
        (next_counted s s' (stage.Leaf key page left) key left pass.holds pass'.holds at (λ before b. b) same holds)

    -- a walk has ended
    pub walk_ended : (left : ℕ) → s.stage ≡ stage.Leaf key 0 left
        → s' ≡ record s { stage = stage.Down (suc key) 1 s.extent } → s.extent < 2 ^ 32
        → HasStepped device M q f pass s f' pass' s'
    walk_ended left at same small =
        stepped_by device M q f f' pass pass' s s' may reads (next_within same)
        (ap (λ (z : ScanCore). z.keys) same) (ap (λ (z : ScanCore). z.snapshot) same)
        (next_lower s s' (stage.Leaf key 0 left) key 0 left less at refl refl same small)
        (λ R pin known pinned o.
        next_step device M q f s s' may.scanning.is_scan may.asks R pin known o key left w.0 w.1
        at same)
        (next_after_leaves M q f f' still s s' key 0 left w.0 w.1 at same)
        (next_counted s s' (stage.Leaf key 0 left) key left pass.holds pass'.holds at (λ before b. b) same holds)

    -- pages go further
    pub way_goes_further : (page more : ℕ) → s.stage ≡ stage.Down key page 0
        → s' ≡ record s { stage = stage.Down key page more; extent = s.extent + more } → 0 < more
        → s.extent + more < 2 ^ 32 → HasStepped device M q f pass s f' pass' s'
    way_goes_further page more at same some small =
        stepped_by device M q f f' pass pass' s s' may reads
        (same_scan (stage.Down key page more) (s.extent + more) same (inl less))
        (ap (λ (z : ScanCore). z.keys) same) (ap (λ (z : ScanCore). z.snapshot) same)
        (way_further_lower s s' (stage.Down key page 0) (stage.Down key page more) key more at refl refl same refl refl
        some small)
        (λ R pin known pinned o. way_further device M q f s s' may.scanning.is_scan may.asks R pin known o key page more
        at same)
        (way_further_reached M q f f' still s s' key page more at same)
        (way_further_counted s s' key page more pass.holds pass'.holds at same holds)

    pub leaves_go_further : (page more : ℕ) → s.stage ≡ stage.Leaf key page 0
        → s' ≡ record s { stage = stage.Leaf key page more; extent = s.extent + more } → 0 < more
        → s.extent + more < 2 ^ 32 → HasStepped device M q f pass s f' pass' s'
    leaves_go_further page more at same some small =
        stepped_by device M q f f' pass pass' s s' may reads
        (same_scan (stage.Leaf key page more) (s.extent + more) same less)
        (ap (λ (z : ScanCore). z.keys) same) (ap (λ (z : ScanCore). z.snapshot) same)
        (way_further_lower s s' (stage.Leaf key page 0) (stage.Leaf key page more) key more at refl refl same refl refl
        some small)
        (λ R pin known pinned o. leaves_further device M q f s s' may.scanning.is_scan may.asks R pin known o key page
        more at same)
        (leaves_further_reached M q f f' still s s' key page more at same)
        (leaves_further_counted s s' key page more pass.holds pass'.holds at same holds)

    -- of either kind of walk
    pub given_up : IsOnWalk key 0 s.stage → IsFurthest f s 0
        → s' ≡ record s { stage = stage.Down (suc key) 1 s.extent } → s.extent < 2 ^ 32
        → HasStepped device M q f pass s f' pass' s'
    given_up (page, inl at) further same small = way_given_up page 0 at further same small
    given_up (page, inr at) further same small = leaves_given_up page 0 at.1 further same small

    pub goes_further : (more : ℕ) → IsOnWalk key 0 s.stage
        → s' ≡ record s { stage = stage_with s.stage more; extent = s.extent + more } → 0 < more
        → s.extent + more < 2 ^ 32 → HasStepped device M q f pass s f' pass' s'
    goes_further more (page, inl at) same some small =
        way_goes_further page more at
        (same ∙ ap (λ (z : Stage). record s { stage = stage_with z more; extent = s.extent + more }) at) some small
    goes_further more (page, inr at) same some small =
        leaves_go_further page more at.1
        (same ∙ ap (λ (z : Stage). record s { stage = stage_with z more; extent = s.extent + more }) at.1) some small

-- why the next step of a walk is not taken: the log can't be asked
pub walk_down_cause : {D : Type 0} (f : FramesValue D) (s : ScanCore) (key : ℕ) (e : FrameError) (fault : ℕ)
    → IsOnWalk key 0 s.stage → key < length (sought_in s) → e ≡ Down fault → down_of f.journal.wal ≡ Some fault
    → CannotStep f s s.stage e
walk_down_cause f s key e fault (page, inl at) less is down =
    let w = element_at (sought_in s) key less in
    way_cause f s key page 0 w.0 e at w.1 (subst (CannotRead f (HasWay w.0) page) (sym is) down)
walk_down_cause f s key e fault (page, inr at) less is down =
    leaf_cause f s key page 0 e at.1 at.0 (subst (CannotRead f IsLeaf page) (sym is) down)
