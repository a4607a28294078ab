-- What a scan of the index is in the store's terms.
use Rattle.std.proofs.Common.{◌≡◌, ◌≢◌, ℕ, [], inl, inr, refl, sym, subst, ◌∙◌, take, arith}
use Rattle.std.specs.Prelude.{Option, Some, None, IfSome, Result, Ok, Err}
use Rattle.disk_trait.specs.declared.device.Disk.{Ghosts as Disk}
use Rattle.page_types.specs.declared.page.Page.{Page}
use Rattle.core_state.specs.Log.{Log}
use Rattle.core_state.specs.Documents.{page_of}
use Rattle.core_state.specs.Legal.{Pin}
use Rattle.buffer_frames.specs.Frames.{FramesValue, Behind}
use Rattle.buffer_frames.specs.LogCauses.{IsCalm, HoldHasCause}
use Rattle.buffer_frames.specs.Passes.{IsPassOf, pin_in}
use Rattle.buffer_frames.specs.declared.pass.Pass.{Pass}
use Rattle.buffer_frames.specs.declared.pass.Pinned.{Pinned}
use Rattle.buffer_frames.specs.declared.frame_error.FrameError.{FrameError}
use Rattle.buffer_frames.specs.declared.frame_error.FrameError.TheVariants as frames
use Rattle.ts_query.specs.Queries.{Query}
use Rattle.ts_match.specs.Meaning.{Holds}
use Rattle.ts_match.specs.Judging.{judged}
use Rattle.ts_match.specs.Class.{asked_of, reads_all}
use Rattle.gin_opclass.specs.Class.{Meaning, meaning}
use Rattle.core_moments.specs.OpenLaws.{IsLeaf, IsPostingPage}
use Rattle.gin_scan.specs.Calls as scans
use Rattle.gin_scan.specs.Calls.{AddsNothing, AddsOnce}
use Rattle.gin_scan.specs.Causes as causes
use Rattle.gin_scan.specs.Causes.{CannotUse, CannotStep, HasMeta, HasRows, HasWay, HasSlots, HasPart}
use Rattle.gin_scan.specs.Finding as finding
use Rattle.gin_scan.specs.Reaching.{IsReached}
use Rattle.gin_scan.specs.Scanning.{AsksFor, IsScan, IsScanning, Scanning}
use Rattle.gin_scan.specs.TextScans.{IsFor}
use Rattle.gin_scan.specs.declared.scan.Scan.{Scan}
use Rattle.gin_scan.specs.declared.found.Found.{Found}
use Rattle.gin_scan.specs.declared.scan_core.ScanCore.{ScanCore}
use Rattle.gin_scan.specs.declared.stage.Stage.{Stage}
use Rattle.gin_scan.specs.declared.stage.Stage.TheVariants as stage
use Rattle.gin_scan.proofs.Reached.{bad_reached}
use Rattle.engine.specs.Answers.{MeetsNoBadPage}
use Rattle.engine.specs.Causes.{IsNone, IsBadRead}
use Rattle.engine.specs.Db.{DbValue, IsUp}
use Rattle.engine.specs.Finding.{IsFound, docs}
use Rattle.engine.specs.Going.{Goes, stays, nothing, LogsNothing, MetNoFault, FaultIsTold}
use Rattle.engine.specs.Coming.{ComesToBadPage}
use Rattle.engine.specs.Inner.Finds.{ReadsOn, EndsReading, FindsAll, CannotFind, CannotList}
use Rattle.engine.specs.Inner.Parts.{KeepsWork}
use Rattle.engine.specs.Inner.Refusals.{frame_refusal}
use Rattle.engine.specs.declared.error.DbError.{DbError}
use Rattle.engine.specs.declared.error.DbError.TheVariants as store
use Rattle.engine.proofs.Growing.{stays_for}
use Rattle.engine.proofs.Logs.{stands_then}
use Rattle.engine.proofs.Paths.{goes_on, calm_fault, fault_stays, none_in_turn, told_in_turn, time_of}
use Rattle.engine.proofs.Paths.{hold_no_fault, hold_told}
use Rattle.engine.proofs.ReadSteps.{reads_still, reads_in_turn}

-- a snapshot in use
pub pin_taken : (o : Option Pinned) (n : ℕ) → o ≢ None → IfSome o (λ p. p.commits ≡ n)
    → (pin : Pin) × (pin_in o ≡ Some pin) × (n ≡ pin.commits)
pin_taken None n some at = absurd (some refl)
pin_taken (Some p) n some at = (record { commits = p.commits; length = p.length }, refl, sym at)

-- ── calls that log nothing ──

-- the store of these frames, with this setting
abbrev pub store_of : {D : Type 0} → ℕ → FramesValue D → DbValue D
store_of n f = record { frames = f; pending = n }

module _ {D : Type 0} (device : Disk D) where
  nothing_by : (n : ℕ) (f g : FramesValue D) → AddsOnce device f g
      → LogsNothing device (store_of n f) (store_of n g)
  nothing_by n f g o = record {
    added = o.added;
    state = o.state;
    runs_on = o.runs_on;
    begins = o.begins;
    goes_on = record { time = o.time; faults = o.faults; writes = o.writes };
    pins = o.pins;
    pending = refl;
  }

  goes_at : (n : ℕ) (f g : FramesValue D) → AddsNothing device f g → Goes device (store_of n f) (store_of n g) []
  goes_at n f g AddsNothing.stays = stays
  goes_at n f g (AddsNothing.then {mid} p o) = nothing (goes_at n f mid p) (nothing_by n mid g o)

  pub goes_by : (a b : DbValue D) → b.pending ≡ a.pending → AddsNothing device a.frames b.frames → Goes device a b []
  goes_by a b keeps adds =
      subst (λ (n : ℕ). Goes device a (store_of n b.frames) []) (sym keeps) (goes_at a.pending a.frames b.frames adds)

  works_on : (p q : Pass) → scans.KeepsWork p q → q.pin ≡ p.pin → KeepsWork p q
  works_on p q k pin = record { pin = pin; room = k.room; xid = k.xid; shown = k.rises.shown }

  pub reads_by : (a b : DbValue D) → b.pending ≡ a.pending → (p q : Pass) → scans.ReadsOn device a.frames p b.frames q
      → ReadsOn device a p b q
  reads_by a b keeps p q r = record {
    is_pass = r.is_pass;
    held = r.held;
    lying = r.lying;
    goes = goes_by a b keeps r.adds;
    keeps = works_on p q r.keeps r.pin;
  }

  -- a scan begins in a snapshot that is in use
  pub begun_by : (a b : DbValue D) → b.pending ≡ a.pending → (p q : Pass) → IsPassOf b.frames q → q.held ≡ 0
      → AddsNothing device a.frames b.frames → scans.LieStill a.frames b.frames → scans.KeepsWork p q
      → q.pin ≡ p.pin → ReadsOn device a p b q
  begun_by a b same p q of none adds lying keeps pin = record {
    is_pass = of;
    held = none;
    lying = lying;
    goes = goes_by a b same adds;
    keeps = works_on p q keeps pin;
  }

  -- what was read ends
  pub ends_now : (a b : DbValue D) (p q : Pass) → ReadsOn device a p b q → EndsReading device a p b q
  ends_now a b p q r = record {
    is_pass = r.is_pass;
    held = r.held;
    goes = r.goes;
    room = r.keeps.room;
    xid = r.keeps.xid;
    shown = r.keeps.shown;
  }

  -- and so does the scan
  pub ends_by : (s : ScanCore) (a b c : DbValue D) → c.pending ≡ b.pending → (p q r : Pass) → ReadsOn device a p b q
      → scans.EndsReading device s b.frames q c.frames r → EndsReading device a p c r
  ends_by s a b c keeps p q r reads ends = record {
    is_pass = ends.is_pass;
    held = ends.held;
    goes = goes_on device reads.goes (goes_by b c keeps ends.adds);
    room = ends.keeps.room ∙ reads.keeps.room;
    xid = ends.keeps.xid ∙ reads.keeps.xid;
    shown = omega (arith, reads.keeps.shown, ends.keeps.rises.shown);
  }

  -- a scan that begins, is stepped and ends
  pub scan_ends : (s : ScanCore) (a m b b' c : DbValue D) → c.pending ≡ b'.pending → (p q r u : Pass)
      → ReadsOn device a p m q
      → ReadsOn device m q b r → b' ≡ b → scans.EndsReading device s b'.frames r c.frames u
      → EndsReading device a p c u
  scan_ends s a m b b' c keeps p q r u begun stepped same ends =
      ends_by s a b' c keeps p r u
      (subst (λ (z : DbValue D). ReadsOn device a p z r) (sym same) (reads_in_turn device a m b p q r begun stepped))
      ends

  -- ── refusals ──

  none_as : (s : DbValue D) (Is : Page → Type 0) (p : ℕ) → CannotUse s.frames Is p → IsNone s Is p
  none_as s Is p (CannotUse.past high) = IsNone.past high
  none_as s Is p (CannotUse.bytes bytes) = IsNone.bytes bytes
  none_as s Is p (CannotUse.other c is lies off) = IsNone.other c is lies off

  read_bad : (s : DbValue D) (Is : Page → Type 0) (p : ℕ) (w : FrameError) → IsUp s
      → (IsNone s Is p → IsBadRead s p) → causes.CannotRead s.frames Is p w → CannotFind device s (frame_refusal w)
  read_bad s Is p frames.DiskFault up bad c = tt
  read_bad s Is p (frames.Down f) up bad c = let z : None ≡ Some f = sym up ∙ c in absurd (let n : ⊥ = cc in n)
  read_bad s Is p (frames.BadPage q) up bad c =
      (s, stays, (up, subst (IsBadRead s) (sym c.0) (bad (none_as s Is p c.1))))
  read_bad s Is p frames.OutOfMemory up bad c = tt

  -- why a step is refused
  pub step_cause : (s : DbValue D) (core : ScanCore) (at : Stage) (w : FrameError) → IsUp s
      → CannotStep s.frames core at w → CannotFind device s (frame_refusal w)
  step_cause s core stage.Meta w up c = read_bad s HasMeta 0 w up (IsBadRead.meta refl) c
  step_cause s core (stage.Pending page left) w up c = read_bad s HasRows page w up IsBadRead.rows c.0
  step_cause s core (stage.Down key page left) w up (inl e) =
      subst (λ (x : FrameError). CannotFind device s (frame_refusal x)) (sym e) tt
  step_cause s core (stage.Down key page left) w up (inr c) =
      read_bad s (HasWay c.0) page w up (IsBadRead.way c.0) c.2
  step_cause s core (stage.Leaf key page left) w up (inl e) =
      subst (λ (x : FrameError). CannotFind device s (frame_refusal x)) (sym e) tt
  step_cause s core (stage.Leaf key page left) w up (inr c) =
      read_bad s IsLeaf page w up IsBadRead.leaf c.1
  step_cause s core (stage.Posting key at page left next read) w up (inl e) =
      subst (λ (x : FrameError). CannotFind device s (frame_refusal x)) (sym e) tt
  step_cause s core (stage.Posting key at page left next read) w up (inr c) =
      read_bad s IsPostingPage page w up IsBadRead.posting c.1
  step_cause s core (stage.Heads at) w up (inl e) =
      subst (λ (x : FrameError). CannotFind device s (frame_refusal x)) (sym e) tt
  step_cause s core (stage.Heads at) w up (inr c) = read_bad s HasSlots (page_of c.0) w up IsBadRead.heap c.3
  step_cause s core (stage.Parts at page left) w up c = read_bad s HasPart page w up IsBadRead.part c.0
  step_cause s core stage.Done w up c = absurd c

  -- how a step comes to a bad page
  comes_at : (q : Query) (s : DbValue D) (core : ScanCore) (w : FrameError) → IsScan core
      → AsksFor (meaning asked_of reads_all Holds judged) q core
      → IsReached (meaning asked_of reads_all Holds judged) q s.frames core core.stage
      → CannotStep s.frames core core.stage w → ComesToBadPage device s q (frame_refusal w)
  comes_at q s core frames.DiskFault scan asks reached c = tt
  comes_at q s core (frames.Down f) scan asks reached c = tt
  comes_at q s core (frames.BadPage p) scan asks reached c = (
    s,
    stays,
    bad_reached (meaning asked_of reads_all Holds judged) q s.frames core core.stage p scan asks scan.within reached c,
  )
  comes_at q s core frames.OutOfMemory scan asks reached c = tt

  -- where a later store comes to one so does an earlier
  pub comes_later : (q : Query) (a s : DbValue D) (e : DbError) → Goes device a s [] → ComesToBadPage device s q e
      → ComesToBadPage device a q e
  comes_later q a s (store.BadPage p) path c = (c.0, goes_on device path c.1, c.2)
  comes_later q a s store.DiskFault path c = tt
  comes_later q a s store.OutOfMemory path c = tt
  comes_later q a s store.NoDocument path c = tt
  comes_later q a s (store.Conflict x) path c = tt
  comes_later q a s store.StoreFull path c = tt
  comes_later q a s store.LogFull path c = tt
  comes_later q a s store.XidsSpent path c = tt
  comes_later q a s (store.Down f) path c = tt

  -- the refusal of a later store is one of an earlier
  pub find_later : (a s : DbValue D) (e : DbError) → Goes device a s [] → CannotFind device s e
      → CannotFind device a e
  find_later a s store.DiskFault path c = tt
  find_later a s (store.BadPage p) path c = (c.0, goes_on device path c.1, c.2)
  find_later a s store.OutOfMemory path c = tt
  find_later a s store.NoDocument path c = absurd c
  find_later a s (store.Conflict x) path c = absurd c
  find_later a s store.StoreFull path c = absurd c
  find_later a s store.LogFull path c = absurd c
  find_later a s store.XidsSpent path c = absurd c
  find_later a s (store.Down f) path c = absurd c

  -- a step of a lawful store meets no bad page
  pub step_meets : (a s : DbValue D) (w : FrameError) → Goes device a s [] → MetNoFault device a s
      → causes.IsLawfulRefusal device s.frames w → MeetsNoBadPage device a (frame_refusal w)
  step_meets a s frames.DiskFault path met c = tt
  step_meets a s (frames.Down f) path met c = tt
  step_meets a s frames.OutOfMemory path met c = tt
  step_meets a s (frames.BadPage p) path met c = λ tells found H f up.
      c tells (met.down ∙ up) f.log (stands_then device path f.log f.stands) f.begins.log_of.legal

  -- where a lawful store would meet a bad page so it would before
  pub meets_later : (a s : DbValue D) (e : DbError) → Goes device a s [] → MetNoFault device a s
      → MeetsNoBadPage device s e → MeetsNoBadPage device a e
  meets_later a s (store.BadPage p) path met c = λ tells found H f up.
      c tells found H (stays_for device tells path tt found H f) (met.down ∙ up)
  meets_later a s store.DiskFault path met c = tt
  meets_later a s store.OutOfMemory path met c = tt
  meets_later a s store.NoDocument path met c = tt
  meets_later a s (store.Conflict x) path met c = tt
  meets_later a s store.StoreFull path met c = tt
  meets_later a s store.LogFull path met c = tt
  meets_later a s store.XidsSpent path met c = tt
  meets_later a s (store.Down f) path met c = tt

  -- a scan that doesn't begin
  pub begin_cause : (s : DbValue D) (w : FrameError) → IsUp s → causes.CannotBegin s.frames w
      → CannotFind device s (frame_refusal w)
  begin_cause s frames.DiskFault up c = absurd c
  begin_cause s (frames.Down f) up c = let z : None ≡ Some f = sym up ∙ c in absurd (let n : ⊥ = cc in n)
  begin_cause s (frames.BadPage p) up c = absurd c
  begin_cause s frames.OutOfMemory up c = tt

  pub begin_comes : (q : Query) (s : DbValue D) (w : FrameError) → causes.CannotBegin s.frames w
      → ComesToBadPage device s q (frame_refusal w)
  begin_comes q s frames.DiskFault c = tt
  begin_comes q s (frames.Down f) c = tt
  begin_comes q s (frames.BadPage p) c = absurd c
  begin_comes q s frames.OutOfMemory c = tt

  pub begin_meets : (s : DbValue D) (w : FrameError) → causes.CannotBegin s.frames w
      → MeetsNoBadPage device s (frame_refusal w)
  begin_meets s frames.DiskFault c = tt
  begin_meets s (frames.Down f) c = tt
  begin_meets s (frames.BadPage p) c = absurd c
  begin_meets s frames.OutOfMemory c = tt

  pub begin_told : (T : Type 0) (s b : DbValue D) (w : FrameError)
      → IsCalm device s.frames.journal b.frames.journal → causes.CannotBegin s.frames w
      → (let answer : Result T DbError = Err (frame_refusal w) in FaultIsTold device s b answer)
  begin_told T s b frames.DiskFault calm c = absurd c
  begin_told T s b (frames.Down f) calm c = calm_fault device s b calm
  begin_told T s b (frames.BadPage p) calm c = absurd c
  begin_told T s b frames.OutOfMemory calm c = calm_fault device s b calm

  -- no commit is listed
  pub list_meets : (s : DbValue D) (e : DbError) → CannotList e → MeetsNoBadPage device s e
  list_meets s store.DiskFault c = tt
  list_meets s (store.BadPage p) c = absurd c
  list_meets s store.OutOfMemory c = tt
  list_meets s store.NoDocument c = tt
  list_meets s (store.Conflict x) c = tt
  list_meets s store.StoreFull c = tt
  list_meets s store.LogFull c = tt
  list_meets s store.XidsSpent c = tt
  list_meets s (store.Down f) c = tt

  -- ── what is found ──

  -- the names are those of the history of each lawful store
  pub finds_by : {Q : Type 0} (M : Meaning Q) (q : Q) (a s : DbValue D) (n : ℕ) (o : Option Pinned) (pin : Pin)
      (r : Found) → Goes device a s [] → IsUp s → pin_in o ≡ Some pin → n ≡ pin.commits
      → Behind device s.frames (λ (R : Log). (p : Pin) → pin_in o ≡ Some p
      → finding.HasFound M q R p r)
      → FindsAll device a n (M.satisfies q) r.names.items
  finds_by M q a s n o pin r path up is all behind tells found H f =
      let h = behind tells up f.log (stands_then device path f.log f.stands) f.begins.log_of.legal
      pin is in
      subst (λ (k : ℕ). IsFound (M.satisfies q) (docs (take k H)) r.names.items) (sym all)
      (h.names H f.begins.log_of.history)

-- ── step by step ──

module _ {D : Type 0} (device : Disk D) (q : Query) (old : DbValue D) (pass : Pass) where
  -- a scan for the query has gone on from an old store to one that is as it was but for what was read
  pub record ScansOn (s : DbValue D) (pass' : Pass) (scan : Scan) : Type 0 where
    pub scanning : IsScanning s.frames pass' scan.core
    pub query : IsFor q scan
    pub walk : Scanning device (meaning asked_of reads_all Holds judged) q s.frames pass' scan.core
    pub reached : IsReached (meaning asked_of reads_all Holds judged) q s.frames scan.core scan.core.stage
    pub reads : ReadsOn device old pass s pass'
    pub met : MetNoFault device old s

  pub scans_first : (scan : Scan) → IsScanning old.frames pass scan.core → IsFor q scan
      → Scanning device (meaning asked_of reads_all Holds judged) q old.frames pass scan.core
      → IsReached (meaning asked_of reads_all Holds judged) q old.frames scan.core scan.core.stage
      → ScansOn old pass scan
  scans_first scan scanning query walk reached = record {
    scanning = scanning;
    query = query;
    walk = walk;
    reached = reached;
    reads = reads_still device old pass scanning.is_pass scanning.held;
    met = fault_stays device old;
  }

  -- for its own query
  pub asks_own : (s : DbValue D) (pass' : Pass) (scan : Scan) → ScansOn s pass' scan → IsFor scan.query.now scan
  asks_own s pass' scan on = subst (λ (x : Query). IsFor x scan) (sym on.query.query) on.query

  pub walks_own : (s : DbValue D) (pass' : Pass) (scan : Scan) → ScansOn s pass' scan
      → Scanning device (meaning asked_of reads_all Holds judged) scan.query.now s.frames pass' scan.core
  walks_own s pass' scan on =
      subst (λ (x : Query). Scanning device (meaning asked_of reads_all Holds judged) x s.frames pass' scan.core)
      (sym on.query.query) on.walk

  -- one step more
  pub scans_more : {T : Type 0} (s t : DbValue D) → t.pending ≡ s.pending → (p r : Pass) (scan scan' : Scan)
      (answer : Result T FrameError) (x : T) → ScansOn s p scan → answer ≡ Ok x
      → scan'.query.now ≡ scan.query.now → IsScanning t.frames r scan'.core → IsFor scan'.query.now scan'
      → Scanning device (meaning asked_of reads_all Holds judged) scan'.query.now t.frames r scan'.core
      → scans.ReadsOn device s.frames p t.frames r → HoldHasCause device s.frames.journal t.frames.journal answer
      → (IsReached (meaning asked_of reads_all Holds judged) scan.query.now s.frames scan.core scan.core.stage
      → IsReached (meaning asked_of reads_all Holds judged) scan'.query.now t.frames scan'.core scan'.core.stage)
      → ScansOn t r scan'
  scans_more s t keeps p r scan scan' answer x on ok same scanning query walk reads cause reached =
      let own : scan'.query.now ≡ q = same ∙ on.query.query in
      record {
        scanning = scanning;
        query = subst (λ (y : Query). IsFor y scan') own query;
        walk =
            subst (λ (y : Query). Scanning device (meaning asked_of reads_all Holds judged) y t.frames r scan'.core) own
            walk;
        reached = subst (λ (y : Query). IsReached (meaning asked_of reads_all Holds judged) y t.frames scan'.core
            scan'.core.stage) own
            (reached (subst (λ (y : Query). IsReached (meaning asked_of reads_all Holds judged) y s.frames scan.core
            scan.core.stage) (sym on.query.query) on.reached));
        reads = reads_in_turn device old s t pass p r on.reads (reads_by device s t keeps p r reads);
        met = none_in_turn device on.met
            (hold_no_fault device s t answer (λ is. let z : ⊥ = cc in z) cause);
      }

  -- what was read before a step that was refused
  pub read_then : (s t : DbValue D) → t.pending ≡ s.pending → (p r : Pass) (scan : Scan) → ScansOn s p scan
      → scans.ReadsOn device s.frames p t.frames r → ReadsOn device old pass t r
  read_then s t keeps p r scan on reads =
      reads_in_turn device old s t pass p r on.reads (reads_by device s t keeps p r reads)

  pub told_then : {T : Type 0} (U : Type 0) (s t : DbValue D) (p : Pass) (scan : Scan) (answer : Result T FrameError)
      (w : FrameError) → ScansOn s p scan → answer ≡ Err w
      → HoldHasCause device s.frames.journal t.frames.journal answer
      → (let out : Result U DbError = Err (frame_refusal w) in FaultIsTold device old t out)
  told_then U s t p scan answer w on is cause =
      let out : Result U DbError = Err (frame_refusal w) in
      told_in_turn device old s t out (time_of device on.reads.goes) on.met (hold_told device U s t answer w is cause)

  pub cause_then : (s : DbValue D) (p : Pass) (scan : Scan) (at : Stage) (w : FrameError) → IsUp old → ScansOn s p scan
      → CannotStep s.frames scan.core at w → CannotFind device old (frame_refusal w)
  cause_then s p scan at w up on why =
      find_later device old s (frame_refusal w) on.reads.goes
      (step_cause device s scan.core at w (on.met.down ∙ up) why)

  pub comes_then : (s : DbValue D) (p : Pass) (scan : Scan) (w : FrameError) → ScansOn s p scan
      → CannotStep s.frames scan.core scan.core.stage w → ComesToBadPage device old q (frame_refusal w)
  comes_then s p scan w on why =
      comes_later device q old s (frame_refusal w) on.reads.goes
      (comes_at device q s scan.core w on.scanning.is_scan on.query.asks on.reached why)

  pub meets_then : (s : DbValue D) (p : Pass) (scan : Scan) (w : FrameError) → ScansOn s p scan
      → causes.IsLawfulRefusal device s.frames w → MeetsNoBadPage device old (frame_refusal w)
  meets_then s p scan w on lawful = step_meets device old s w on.reads.goes on.met lawful
