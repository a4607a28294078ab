-- A part of a long vector is read, its document is taken, or the heads are ended.
use Rattle.std.proofs.Common.{◌≡◌, ◌≢◌, ℕ, zero, suc, ◌+◌, ◌-◌, ◌*◌, ◌^◌, ◌<◌, ◌≤◌, Bool, true, false, [], ◌++◌, length}
use Rattle.std.proofs.Common.{refl, sym, ap, subst}
use Rattle.std.proofs.Common.{◌∙◌, arith}
use Rattle.disk_trait.specs.declared.device.Disk.{Ghosts as Disk}
use Rattle.page_types.specs.Pages.{IsPage}
use Rattle.page_types.specs.Views.{part_of}
use Rattle.page_types.specs.declared.page.Page.{Page}
use Rattle.core_state.specs.Log.{Log}
use Rattle.core_state.specs.Legal.{Pin}
use Rattle.gin_opclass.specs.Class.{Meaning}
use Rattle.core_moments.specs.Walk.{rightward}
use Rattle.buffer_frames.specs.Frames.{FramesValue, Lies}
use Rattle.buffer_frames.specs.declared.frame_error.FrameError.{FrameError}
use Rattle.buffer_frames.specs.declared.pass.Pass.{Pass}
use Rattle.gin_scan.specs.Calls.{ReadsOn}
use Rattle.gin_scan.specs.Counting.{CountsOn}
use Rattle.gin_scan.specs.Causes.{CannotRead, HasPart, IsLawfulRefusal}
use Rattle.gin_scan.specs.Held.{ArePages}
use Rattle.gin_scan.specs.Reaching.{IsReached}
use Rattle.gin_scan.specs.Taking.{AreTaken, first_items}
use Rattle.gin_scan.specs.Scanning.{IsScan, IsWithin, HasTaken, HasRead, IsScanOf, stages_left, steps_of, steps_left}
use Rattle.gin_scan.specs.Scanning.{sought_in}
use Rattle.gin_scan.specs.Inner.Parts.{IsReadUp, BeginsLong, AddedIf, AddsIfTold}
use Rattle.gin_scan.specs.Inner.Steps.{MayStep, HasStepped}
use Rattle.gin_scan.specs.declared.scan_core.ScanCore.{ScanCore}
use Rattle.gin_scan.specs.declared.stage.Stage.{Stage}
use Rattle.gin_scan.specs.declared.stage.Stage.TheVariants as stage
use Rattle.gin_scan.proofs.BegunScans.{step_passed}
use Rattle.gin_scan.proofs.Counted.{match_counted, ended_counted}
use Rattle.gin_scan.proofs.LongBegun.{IsBefore, begun_long, long_scan, long_keys, long_snapshot, lower_next}
use Rattle.gin_scan.proofs.LongBegun.{lower_first}
use Rattle.gin_scan.proofs.PartsTaken.{part_read, matched, next_part}
use Rattle.gin_scan.proofs.ReadCalls.{still_reads}
use Rattle.gin_scan.proofs.Reached.{reached_still, met_as, long_as, parts_more, begun_reached}
use Rattle.gin_scan.proofs.Refused.{never_bad, part_used}
use Rattle.gin_scan.proofs.StepsTaken.{stepped_by}

stays_below : (left : ℕ) → left ≢ 0 → left - 1 < left
stays_below zero off = absurd (off refl)
stays_below (suc n) off = omega arith

module _ {Q D : Type 0} (device : Disk D) (M : Meaning Q) (q : Q) (f : FramesValue D) (pass : Pass) (s : ScanCore)
    (may : MayStep device M q f pass s) where
  module _ (at page left : ℕ) (is : s.stage ≡ stage.Parts at page left) where
    within : at < length s.long.items
    within = subst (IsWithin s) is may.scanning.is_scan.within

    pub parts_lawful : page ≢ 0 → (e : FrameError) → CannotRead f HasPart page e → IsLawfulRefusal device f e
    parts_lawful some e cannot =
        never_bad device M q f pass s HasPart page e may.scanning may.walk part_used
        (λ R pin P known shown o. next_part M q device f R pin known s at page left is within some o P shown) cannot

    old_left : steps_left s ≡ 1 * 2 ^ 200 + ((length s.long.items - at) * 2 ^ 33 + left)
    old_left = ap (λ (z : Stage). stages_left z * 2 ^ 200 + steps_of s z) is

    -- a part is read
    pub part_stepped : (f' : FramesValue D) (pass' : Pass) (s' : ScanCore) (c : Page) → page ≢ 0 → left ≢ 0
        → IsPage c → Lies f page c → s'.bytes.items ≡ s.bytes.items ++ part_of c → s'.pages_read ≤ suc s.pages_read
        → s' ≡ record s {
          bytes = s'.bytes;
          stage = stage.Parts at (rightward c) (left - 1);
          pages_read = s'.pages_read;
        } → HasPart c → ReadsOn device f pass f' pass' → CountsOn s pass.holds s' pass'.holds
        → HasStepped device M q f pass s f' pass' s'
    part_stepped f' pass' s' c some more page_is lies bytes one same has reads counted =
        let was = may.scanning.is_scan in
        let new : steps_left s' ≡ 1 * 2 ^ 200 + ((length s.long.items - at) * 2 ^ 33 + (left - 1)) =
        ap steps_left same in
        stepped_by device M q f f' pass pass' s s' may reads
        (subst IsScan (sym same)
        (record { ordered = was.ordered; pending = was.pending; main = was.main; within = within }))
        (ap (λ (z : ScanCore). z.keys) same) (ap (λ (z : ScanCore). z.snapshot) same)
        (subst (λ (n : ℕ). n < steps_left s) (sym new)
        (subst (λ (n : ℕ). 1 * 2 ^ 200 + ((length s.long.items - at) * 2 ^ 33 + (left - 1)) < n) (sym old_left)
        (step_passed 1 ((length s.long.items - at) * 2 ^ 33 + left) ((length s.long.items - at) * 2 ^ 33 + (left - 1))
        (2 ^ 200) (omega (arith, stays_below left more)))))
        (λ R pin known p o. part_read M q device f R pin known s s' at page left c is some more page_is lies bytes
        one within same o)
        (λ z.
        let r = subst (IsReached M q f s) is z in
        let last : ScanCore = record s {
          bytes = s'.bytes;
          stage = stage.Parts at (rightward c) (left - 1);
          pages_read = s'.pages_read;
        } in
        subst (λ (x : ScanCore). IsReached M q f' x x.stage) (sym same)
        (reached_still f f' reads.lying M q last (stage.Parts at (rightward c) (left - 1)) (
          met_as M q f s last refl refl r.0,
          long_as M q f s last refl refl r.1,
          (λ l e. parts_more f l.first page c (r.2 l e) some page_is lies has),
        ))) counted

    -- all were read, and its document is taken or not
    pub match_stepped : (s1 s' : ScanCore) (next : ℕ) → next ≡ suc at
        → IsReadUp s at page left → AddsIfTold (M.satisfies q) s at s1 → BeginsLong s1 next s'
        → HasStepped device M q f pass s f pass s'
    match_stepped s1 s' next after up t begins =
        let added : s1 ≡ record s { names = s1.names } = names_were t.answer t.added in
        let scan1 : IsScan s1 = subst IsScan (sym added) (record {
          ordered = may.scanning.is_scan.ordered;
          pending = may.scanning.is_scan.pending;
          main = may.scanning.is_scan.main;
          within = may.scanning.is_scan.within;
        }) in
        let long : s1.long ≡ s.long = ap (λ (z : ScanCore). z.long) added in
        let low : steps_left s' < 1 * 2 ^ 200 + ((length s1.long.items - at) * 2 ^ 33 + left) =
        lower_next s1 s' at next left page (omega (arith, after)) begins in
        stepped_by device M q f f pass pass s s' may (still_reads device f pass may.scanning.is_pass may.scanning.held)
        (long_scan s1 s' next scan1 begins)
        (long_keys s1 s' next begins ∙ ap (λ (z : ScanCore). z.keys) added)
        (long_snapshot s1 s' next begins ∙ ap (λ (z : ScanCore). z.snapshot) added)
        (subst (λ (n : ℕ). steps_left s' < n) (sym old_left)
        (subst (λ ls. steps_left s' < 1 * 2 ^ 200 + ((length ls.items - at) * 2 ^ 33 + left)) long low))
        (λ R pin known p o. begun_long M q R pin s1 s' next
        (matched M q device f R pin known s s1 at page left next t up o after is) begins)
        (λ z.
        let r = subst (IsReached M q f s) is z in
        begun_reached M q f s1 s' next
        (met_as M q f s s1 (ap (λ (x : ScanCore). x.kept.items) added) (ap sought_in added) r.0)
        (long_as M q f s s1 (ap (λ (x : ScanCore). x.kept.items) added) (ap (λ (x : ScanCore). x.long.items) added)
        r.1) begins)
        (match_counted (M.satisfies q) s s1 s' at next page left pass.holds is after within t begins)
      where
        names_were : (b : Bool) → AddedIf s t.waits b s1 → s1 ≡ record s { names = s1.names }
        names_were true x = x.1
        names_were false x = x ∙ ap (λ (z : ScanCore). record s { names = z.names }) (sym x)

  -- all heads were read
  pub heads_ended : (at : ℕ) (s' : ScanCore) → s.stage ≡ stage.Heads at → length s.kept.items ≤ at
      → BeginsLong s 0 s' → HasStepped device M q f pass s f pass s'
  heads_ended at s' is past begins =
      let old : steps_left s ≡ 2 * 2 ^ 200 + (length s.kept.items - at) =
      ap (λ (z : Stage). stages_left z * 2 ^ 200 + steps_of s z) is in
      stepped_by device M q f f pass pass s s' may (still_reads device f pass may.scanning.is_pass may.scanning.held)
      (long_scan s s' 0 may.scanning.is_scan begins) (long_keys s s' 0 begins) (long_snapshot s s' 0 begins)
      (subst (λ (n : ℕ). steps_left s' < n) (sym old)
      (lower_first s s' (length s.kept.items - at) begins))
      (λ R pin known p o. begun_long M q R pin s s' 0 (before R pin o) begins)
      (λ z. let r = subst (IsReached M q f s) is z in begun_reached M q f s s' 0 r.0 r.1 begins)
      (ended_counted s s' at pass.holds is (subst (IsWithin s) is may.scanning.is_scan.within) begins)
    where
      before : (R : Log) (pin : Pin) → IsScanOf M q R pin s → IsBefore M q R pin s 0
      before R pin o =
          let had = subst (HasRead M q R pin o.from s) is o.read in
          let in_it : at ≤ length s.kept.items = subst (IsWithin s) is may.scanning.is_scan.within in
          let same : at ≡ length s.kept.items = omega (arith, past, in_it) in
          record {
            from = o.from;
            since = o.since;
            within = o.within;
            below = o.below;
            judged = had.0;
            taken = subst (λ (n : ℕ). HasTaken M q R pin s n 0) same had.1;
            heads_read = omega (arith, had.2, same);
            pages = subst (λ (n : ℕ). ArePages R o.from had.0.walk (first_items n s.kept.items) [] s.pages_read) same
                had.3;
            had = record {
              names = s.names.items;
              taken = λ H h. subst (λ (n : ℕ). AreTaken (M.satisfies q) R pin H (first_items n s.kept.items)
                  s.names.items s.long.items) same (had.1 H h);
            };
          }
