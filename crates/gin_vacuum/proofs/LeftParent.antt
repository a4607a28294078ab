-- A sweep after the parent of an empty leaf was held: the leaf is deleted, stays as the last child, or was not deleted.
use Rattle.std.proofs.Common.{◌≡◌, ◌≢◌, ◌<◌, ◌+◌, ◌*◌, ◌-◌, ◌^◌, ℕ, List, [], ◌∷◌, length, refl, sym, ap}
use Rattle.std.proofs.Common.{subst, ◌∙◌}
use Rattle.std.proofs.Common.{inl, arith, Ok, Err}
use Rattle.std.specs.Prelude.{Option, Some, IfSome}
use Rattle.disk_trait.specs.declared.device.Disk.{Ghosts as Disk}
use Rattle.page_types.specs.Items.{items_of}
use Rattle.page_types.specs.Pages.{IsPage, IsHighItem}
use Rattle.page_types.specs.Records.{kind_number}
use Rattle.page_types.specs.Views.{posting_items_in}
use Rattle.page_types.specs.declared.page.Page.{Page}
use Rattle.page_types.specs.declared.page.Body.{Body}
use Rattle.page_types.specs.declared.page.Body.TheVariants as body
use Rattle.page_types.specs.declared.record.Kind.{Kind}
use Rattle.core_state.specs.Log.{Log, Pages, In, Shows}
use Rattle.core_state.specs.Legal.{IsLegal}
use Rattle.core_state.specs.Allowed.{Sheet}
use Rattle.core_state.specs.Steps.{sheet}
use Rattle.core_state.proofs.LawsHold.{pages}
use Rattle.core_vacuum.specs.Entries.{EntriesHold}
use Rattle.core_vacuum.specs.Keeping.{VacuumHolds}
use Rattle.core_vacuum.specs.Leaves.{LeavesHold}
use Rattle.posting_tree.specs.Unlinking.{IsUnlinked}
use Rattle.buffer_frames.specs.Frames.{FramesValue, Behind}
use Rattle.buffer_frames.specs.Passes.{IsPassOf, IsHolding, Seen}
use Rattle.buffer_frames.specs.declared.pass.Pass.{Pass}
use Rattle.gin_place.specs.Causes.{Finds, NoBadPage}
use Rattle.gin_place.specs.Faults.{MetNoFault, FaultBy}
use Rattle.gin_place.specs.Holding.{ReadsOn}
use Rattle.gin_place.specs.Placing.{HasRight}
use Rattle.gin_place.specs.Stepping.{reads_left, most_reads}
use Rattle.gin_place.specs.declared.error.PlaceError.{PlaceError}
use Rattle.gin_place.specs.declared.error.PlaceError.TheVariants.{StoreFull, LogFull, DiskFault, Down, BadPage}
use Rattle.gin_place.specs.declared.error.PlaceError.TheVariants.{OutOfMemory}
use Rattle.gin_place.proofs.Carrying.{right_on}
use Rattle.gin_place.proofs.Causing.{finds_as, finds_now, none_before}
use Rattle.gin_vacuum.specs.Sweeping.{IsAt, IsSweeping, HasHigh}
use Rattle.gin_vacuum.specs.Stepping.{HasSwept, IsCause, IsBad, IsSweepKind, steps_left, below_left}
use Rattle.gin_vacuum.specs.Stepping.{above_left}
use Rattle.gin_vacuum.specs.Inner.Deleting.{IsBadAround, IsWithout, LogsDelete, deleted_leaf}
use Rattle.gin_vacuum.specs.Inner.Sweeping.{GoesPast, HasNextTree}
use Rattle.gin_vacuum.specs.declared.deleting.Empty.{Empty}
use Rattle.gin_vacuum.specs.declared.sweeping.Sweeping.{Sweeping}
use Rattle.gin_vacuum.specs.declared.sweeping.Stage.{Stage}
use Rattle.gin_vacuum.specs.declared.sweeping.Stage.TheVariants as stage
use Rattle.gin_vacuum.proofs.Deleted.{deleted_on}
use Rattle.gin_vacuum.proofs.Downs.{seen_as}
use Rattle.gin_vacuum.proofs.InTurn.{reads_then}
use Rattle.gin_vacuum.proofs.Logs.{reads_vacuum}
use Rattle.gin_vacuum.proofs.Passing.{past_at, post_clean}
use Rattle.gin_vacuum.proofs.PostsNext.{past_most}
use Rattle.gin_vacuum.proofs.SweepCauses.{cause_as}
use Rattle.gin_vacuum.proofs.Swept.{dead_on, at_on, sweeping_on}

high_next : (old new : Sweeping) → HasNextTree old new → HasHigh new.stage
high_next old _ (HasNextTree.tree root get) = tt
high_next old _ (HasNextTree.leaf all on) = tt
high_next old _ (HasNextTree.done all end) = tt

high_past : (root before link : ℕ) (old new : Sweeping) → GoesPast root before link old new → HasHigh new.stage
high_past root before link old _ (GoesPast.leaf on) = tt
high_past root before link old _ (GoesPast.tree new end next) = high_next old new next

-- fewer steps are left
pub past_lower : (root before link page : ℕ) (e : Empty) (left : Option ℕ) (old new : Sweeping)
    → old.stage ≡ stage.Parent e page left → 0 < reads_left left → GoesPast root before link old new
    → steps_left new < steps_left old
past_lower root before link page e left old new is some goes =
    let most = past_most root before link old new goes in
    let steps : steps_left old
    ≡ ((reads_left old.left * 2 ^ 16 + (length old.roots.items - old.next)) * most_reads + reads_left old.left_below)
    * most_reads + reads_left left =
    ap (λ (t : Stage). ((reads_left old.left * 2 ^ 16 + (length old.roots.items - old.next)) * most_reads
    + below_left old t) * most_reads + above_left t) is in
    omega (arith, most, some, steps)

-- the parent that is left without the leaf
pub is_without : (page : ℕ) (was now without : Page) (o : Option Page) → o ≡ Some without
    → IfSome o (λ p. IsUnlinked page was.body p.body) → IfSome o (λ p. p ≡ record was { body = p.body })
    → IfSome o (λ p. IsPage was → IsPage p) → IsPage was → was ≡ now → IsWithout page now without
is_without page was now without o is unlinked same fits page_was value =
    subst (λ (x : Page). IsWithout page x without) value (record {
      unlinked = subst (λ (x : Option Page). IfSome x (λ p. IsUnlinked page was.body p.body)) is unlinked;
      same = subst (λ (x : Option Page). IfSome x (λ p. p ≡ record was { body = p.body })) is same;
      fits = subst (λ (x : Option Page). IfSome x (λ p. IsPage was → IsPage p)) is fits page_was;
    })

-- no item is in a list of no bytes
none_listed : (i : ℕ) (b : Body) (high : ℕ) → b ≡ body.PostLeaf high [] → In i (posting_items_in b) → ⊥
unfolding items_of
none_listed i b high is on = subst (λ (c : Body). In i (posting_items_in c)) is on

-- the empty leaf has a right link
link_some : (page high : ℕ) (c : Page) → c.body ≡ body.PostLeaf high [] → IsPage (deleted_leaf high c) → 0 < high
    → c.right ≢ 0
link_some page high c is fits some none =
    let g : IsHighItem c.right high = (fits.body).0 in
    let z = g.none none in omega (arith, z, some)

module _ {D : Type 0} (device : Disk D) (f : FramesValue D) (p : Pass) (of : IsPassOf f p)
    (right : HasRight p) (parent : Sheet) (hold : IsHolding device f p (parent ∷ [])) (dead : List ℕ) (old : Sweeping)
    (sw : IsSweeping device f p dead old) (e : Empty) (page : ℕ) (left : Option ℕ)
    (is : old.stage ≡ stage.Parent e page left) (h : FramesValue D) (r : Pass) (still : r.held ≡ 0) where
  at : Seen device f p (λ S P. IsAt P dead old (stage.Parent e page left))
  at = subst (λ (t : Stage). Seen device f p (λ S P. IsAt P dead old t)) is sw.at

  -- ── refusals ──

  bad_around : (g : FramesValue D) (n : ℕ) → IsBadAround device e g n → IsBad device old g n
  bad_around g n (IsBadAround.leaf same cannot never) = IsBad.empty_leaf e page left is same cannot never
  bad_around g n (IsBadAround.before same cannot never) = IsBad.leaf_before e page left is same cannot never

  never_around : (g : FramesValue D) (n : ℕ) → IsBadAround device e g n → Behind device g (λ (R : Log). ⊥)
  never_around g n (IsBadAround.leaf same cannot never) = never
  never_around g n (IsBadAround.before same cannot never) = never

  lawful : (err : PlaceError) → Finds device f p (IsCause device (IsBadAround device e) h err) → NoBadPage device f err
  lawful StoreFull m = tt
  lawful LogFull m = tt
  lawful DiskFault m = tt
  lawful (Down n) m = tt
  lawful OutOfMemory m = tt
  lawful (BadPage n) m = none_before device f m.0 p m.1 m.2 m.3 (λ few. never_around m.0 n m.4)

  pub not_deleted : {T : Type 0} (err : PlaceError) → ReadsOn device f p h r
      → Finds device f p (IsCause device (IsBadAround device e) h err) → FaultBy device f h err
      → HasSwept {T = T} device f p h r dead old old (Err err)
  not_deleted err reads cause fault = record {
    sweeping = sweeping_on device f h p r right of reads.works dead (parent ∷ []) hold old sw;
    none_held = still;
    works = ([], omega arith, tt, reads_vacuum device f h p r reads.works);
    refused = reads_vacuum device f h p r reads.works;
    unmoved = refl;
    cause = finds_as device f p (IsCause device (IsBadAround device e) h err) (IsCause device (IsBad device old) h err)
        (λ g q why. cause_as device (IsBadAround device e) (IsBad device old) h err g q (bad_around g) why) cause;
    lawful = lawful err cause;
    fine = tt;
    fault = fault;
  }

  pub no_memory : {T : Type 0} → ReadsOn device f p h r → FaultBy device f h OutOfMemory
      → HasSwept {T = T} device f p h r dead old old (Err OutOfMemory)
  no_memory reads fault =
      not_deleted OutOfMemory reads
      (finds_now device f p (IsCause device (IsBadAround device e) h OutOfMemory) of tt) fault

  -- ── the leaf stays: it is the last child ──

  module _ (leaves : LeavesHold) (entries : EntriesHold) (new : Sweeping) where
    past_last : GoesPast e.root e.page e.link old new → (S : Log) (P : Pages) → S ≢ [] → IsLegal S → Shows S P
        → IsAt P dead old (stage.Parent e page left) → IsAt P dead new new.stage
    past_last goes S P some legal shown x =
        let told = pages S P legal shown in
        let lead = leaves S P some legal shown in
        let stand = entries S P some legal shown in
        past_at S P told some lead stand dead e.root e.before e.page e.link old new x.0 x.1 (x.3).link x.5
        (post_clean S P told some lead stand dead old.roots.items old.next old.link old.left e.root x.0 e.before e.page
        x.1 x.2 (λ i in_dead on. none_listed i (P e.page).body e.high (x.3).content on))
        goes

    pub stays_last : {T : Type 0} (x : T) → ReadsOn device f p h r → MetNoFault device f h
        → GoesPast e.root e.page e.link old new → HasSwept {T = T} device f p h r dead old new (Ok x)
    stays_last x reads fine goes = record {
      sweeping = record {
        leave = dead_on device f h p r right of reads.works dead (parent ∷ []) hold sw.leave;
        at = at_on device f h p r right of reads.works dead (parent ∷ []) hold new new.stage
            (seen_as device f p of (λ S P. IsAt P dead old (stage.Parent e page left))
            (λ S P. IsAt P dead new new.stage)
            (past_last goes) at);
        high = high_past e.root e.page e.link old new goes;
      };
      none_held = still;
      works = ([], omega arith, tt, reads_vacuum device f h p r reads.works);
      refused = tt;
      unmoved = tt;
      cause = tt;
      lawful = tt;
      fine = fine;
      fault = tt;
    }

  -- ── the leaf is deleted ──

  module _ (vacuum : VacuumHolds) (without : Page) (w : IsWithout e.page parent.content without)
      (logs : LogsDelete device f p e parent without h r) (some : 0 < e.high) where
    works : ReadsOn device f p logs.frames_held logs.pass_held
    works = logs.reads

    then : IsSweeping device h r dead (record old { stage = stage.Posts e.root e.before e.link })
    then =
        deleted_on device vacuum logs.frames_held h logs.pass_held r e parent logs.around logs.is_around without w
        logs.step logs.is_step (works.works).is_pass
        (right_on device f logs.frames_held p logs.pass_held [] right works.works) logs.logged dead old page left
        (at_on device f logs.frames_held p logs.pass_held right of works.works dead (parent ∷ []) hold old
        (stage.Parent e page left) at)
        (dead_on device f logs.frames_held p logs.pass_held right of works.works dead (parent ∷ []) hold sw.leave)

    linked : e.link ≢ 0
    linked none =
        let leaf = (logs.around).leaf in
        let x = logs.is_step in
        let fits : IsPage (deleted_leaf e.high leaf.content) =
        x.fits (sheet leaf.page (deleted_leaf e.high leaf.content))
        (subst (In (sheet leaf.page (deleted_leaf e.high leaf.content))) (sym x.after_is) (inl refl)) in
        link_some leaf.page e.high leaf.content ((logs.is_around).leaf).0 fits some (((logs.is_around).leaf).1 ∙ none)

    gone_past : (new : Sweeping) → GoesPast e.root e.before e.link old new → IsSweeping device h r dead new
    gone_past _ (GoesPast.leaf on) = then
    gone_past new (GoesPast.tree t end next) = absurd (linked end)

    pub is_deleted : {T : Type 0} (x : T) (new : Sweeping) → MetNoFault device f h
        → GoesPast e.root e.before e.link old new → HasSwept {T = T} device f p h r dead old new (Ok x)
    is_deleted x new fine goes = record {
      sweeping = gone_past new goes;
      none_held = still;
      works = (
        kind_number (logs.step).kind ∷ [],
        omega arith,
        (subst (λ (k : Kind). IsSweepKind (kind_number k)) (sym (logs.is_step).kind_is) (omega arith, omega arith), tt),
        reads_then device f logs.frames_held h p logs.pass_held r (kind_number (logs.step).kind ∷ [])
            works.works (logs.logged).works,
      );
      refused = tt;
      unmoved = tt;
      cause = tt;
      lawful = tt;
      fine = fine;
      fault = tt;
    }
