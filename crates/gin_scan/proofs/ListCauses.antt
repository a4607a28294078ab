-- Why a step along the pending list is refused, and when it is the last one.
use Rattle.std.proofs.Common.{◌≡◌, ◌≢◌, ◌⊎◌, ℕ, ◌<◌, ◌∷◌, length, refl, sym, subst, ◌∙◌, inl, inr, arith}
use Rattle.disk_trait.specs.declared.device.Disk.{Ghosts as Disk}
use Rattle.page_types.specs.declared.page.Page.{Page}
use Rattle.page_types.specs.declared.page.Body.{Body}
use Rattle.page_types.specs.declared.page.Body.TheVariants as body
use Rattle.page_types.specs.declared.page.Gone.TheVariants as gone
use Rattle.core_state.specs.Log.{Log, Shows}
use Rattle.core_state.specs.Legal.{Pin}
use Rattle.core_state.proofs.LawsHold.{pages}
use Rattle.core_state.proofs.Moments.Timeline.{cut_all}
use Rattle.core_state.proofs.RunningOnes.{same_or_other}
use Rattle.gin_opclass.specs.Class.{Meaning}
use Rattle.buffer_frames.specs.Frames.{FramesValue}
use Rattle.buffer_frames.specs.declared.frame_error.FrameError.{FrameError}
use Rattle.buffer_frames.specs.declared.pass.Pass.{Pass}
use Rattle.buffer_frames.proofs.FirstLogs.{shown_by}
use Rattle.gin_scan.specs.Causes.{HasMeta, HasRows, CannotRead, CannotStep, IsLawfulRefusal}
use Rattle.gin_scan.specs.Reading.{ReadsList}
use Rattle.gin_scan.specs.Scanning.{HasRead, IsScanOf}
use Rattle.gin_scan.specs.Inner.Steps.{MayStep, IsFurthest}
use Rattle.gin_scan.specs.declared.scan_core.ScanCore.{ScanCore}
use Rattle.gin_scan.specs.declared.stage.Stage.{Stage}
use Rattle.gin_scan.specs.declared.stage.Stage.TheVariants as stage
use Rattle.gin_scan.proofs.BegunScans.{below_extent}
use Rattle.gin_scan.proofs.Growing.{reads_since}
use Rattle.gin_scan.proofs.ListSteps.{log_some}
use Rattle.core_moments.specs.OpenLaws.{OpenList}
use Rattle.core_moments.proofs.OpenRows.{lists_open}
use Rattle.core_moments.proofs.ReadLists.{last_reads}
use Rattle.gin_scan.proofs.Refused.{never_bad}
use Rattle.gin_scan.proofs.StepsTaken.{Known}
use Rattle.gin_scan.proofs.TreeSteps.{tree_step}

-- a metapage and a page with rows aren't free
pub meta_used : (b : Body) (c : Page) → c.body ≡ b → HasMeta c → b ≢ body.Free
meta_used b c e is free =
    let z : body.Free ≡ body.Meta is.0 is.1 is.2 = sym free ∙ sym e ∙ is.3 in let y : ⊥ = cc in y

pub rows_used : (b : Body) (c : Page) → c.body ≡ b → HasRows c → b ≢ body.Free
rows_used b c e (rows, inl is) free =
    let z : body.Free ≡ body.Pending rows = sym free ∙ sym e ∙ is in let y : ⊥ = cc in y
rows_used b c e (rows, inr is) free =
    let z : body.Free ≡ body.Deleted (gone.Pending rows) = sym free ∙ sym e ∙ is in let y : ⊥ = cc in y

module _ {D Q : Type 0} (device : Disk D) (M : Meaning Q) (q : Q) (f : FramesValue D) (pass : Pass) (s : ScanCore)
    (may : MayStep device M q f pass s) where
  -- page 0 of a legal log is a metapage
  pub meta_lawful : (e : FrameError) → CannotRead f HasMeta 0 e → IsLawfulRefusal device f e
  meta_lawful e cannot =
      never_bad device M q f pass s HasMeta 0 e may.scanning may.walk meta_used
      (λ R pin P known shown o.
      let line = (pages R P known.legal shown).list in
      let m = line.meta (log_some device f pass R pin may.scanning.is_pass known) in
      (m.0, m.1, length line.pages, m.2)) cannot

  module _ (page left : ℕ) (at : s.stage ≡ stage.Pending page left) (some : page ≢ 0) where
    list_of : (R : Log) (pin : Pin) (o : IsScanOf M q R pin s) → ReadsList R o.from (M.asked q) s page left
    list_of R pin o = subst (HasRead M q R pin o.from s) at o.read

    open_list : (R : Log) (pin : Pin) → Known device f R pin → (o : IsScanOf M q R pin s)
        → OpenList R (list_of R pin o).meta (list_of R pin o).pending page
    open_list R pin known o =
        let r = list_of R pin o in
        lists_open R pin r.meta r.pending page known.legal known.keeps r.meta_page r.leads
        (reads_since R pin.length o.from (r.meta ∷ r.pending) o.since r.reads)

    -- the page that is next on the list has rows
    pub page_lawful : (e : FrameError) → CannotRead f HasRows page e → IsLawfulRefusal device f e
    page_lawful e cannot =
        never_bad device M q f pass s HasRows page e may.scanning may.walk rows_used
        (λ R pin P known shown o.
        let r = list_of R pin o in
        (open_list R pin known o).next_is some (length R) P
        (last_reads R r.meta.length r.pending r.reads.1 r.reads.3).1 (omega arith)
        (subst (λ (S : Log). Shows S P) (sym (cut_all R (length R) refl)) shown)) cannot

    -- so many pages are not read before its end
    pub never_furthest : IsFurthest f s left → (R : Log) (pin : Pin) → Known device f R pin → IsScanOf M q R pin s → ⊥
    never_furthest further R pin known o =
        let r = list_of R pin o in
        let P = shown_by R known.legal.valid in
        let few : length r.pending < further.extent =
        (open_list R pin known o).fewer some P.0 further.extent P.1
        (λ p used. below_extent device f R further.extent known.stands known.legal further.is_extent P.0 p P.1 used) in
        omega (arith, few, further.none_left, further.no_further, r.left_is)

-- the cause of a step, by what is read next
pub step_cause : {D : Type 0} (f : FramesValue D) (s : ScanCore) (z : Stage) (e : FrameError) → s.stage ≡ z
    → CannotStep f s z e → CannotStep f s s.stage e
step_cause f s z e at c = subst (λ (y : Stage). CannotStep f s y e) (sym at) c

-- the first walk through the tree begins where the list was read to its end
pub tree_any : {D Q : Type 0} (device : Disk D) (M : Meaning Q) (q : Q) (f : FramesValue D) (pass : Pass)
    (s s' : ScanCore) → MayStep device M q f pass s → (page left : ℕ)
    → s.stage ≡ stage.Pending page left
    → (page ≡ 0) ⊎ IsFurthest f s left → s' ≡ record s { stage = stage.Down 0 1 s.extent } → (R : Log) (pin : Pin)
    → Known device f R pin → IsScanOf M q R pin s → IsScanOf M q R pin s'
tree_any device M q f pass s s' may page left at either same R pin known o = elim either [
  | inl e ↦ ended e
  | inr further ↦ elim (same_or_other page 0) [
    | inl e ↦ ended e
    | inr off ↦ absurd (never_furthest device M q f pass s may page left at off further R pin known o)
  ]
]
  where
    ended : page ≡ 0 → IsScanOf M q R pin s'
    ended e =
        tree_step device M q f s s' may.scanning.is_scan may.asks R pin known o left
        (subst (λ (p : ℕ). s.stage ≡ stage.Pending p left) e at) same
