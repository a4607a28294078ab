-- Why a step through the tree is refused, and that no walk is given up.
use Rattle.std.proofs.Common.{◌≡◌, ◌≢◌, ◌⊎◌, ℕ, ◌<◌, ◌≤◌, List, [], ◌∷◌, ◌++◌, length, Some, refl, sym, ap, subst}
use Rattle.std.proofs.Common.{◌∙◌, inl, inr, arith, slice_get, append-nil}
use Rattle.std.specs.List.{flat_map}
use Rattle.disk_trait.specs.declared.device.Disk.{Ghosts as Disk}
use Rattle.page_types.specs.declared.page.Page.{Page}
use Rattle.page_types.specs.declared.page.Body.{Body}
use Rattle.page_types.specs.declared.page.Body.TheVariants as body
use Rattle.core_state.specs.Log.{Log, Pages, In, Shows, cut}
use Rattle.core_state.specs.Legal.{Pin}
use Rattle.core_state.specs.Readings.{AreReads}
use Rattle.core_state.proofs.Moments.Timeline.{cut_all}
use Rattle.core_state.proofs.PageLists.{in_back}
use Rattle.gin_opclass.specs.Class.{Meaning}
use Rattle.core_moments.specs.Walk.{Walk, KeyWalk, Sought, IsKeyWalk, toward, first_key, reads_of}
use Rattle.core_moments.specs.Law.{path_of}
use Rattle.buffer_frames.specs.Frames.{FramesValue}
use Rattle.buffer_frames.specs.declared.frame_error.FrameError.{FrameError}
use Rattle.buffer_frames.specs.declared.frame_error.FrameError.TheVariants.{BadPage, OutOfMemory}
use Rattle.buffer_frames.specs.declared.pass.Pass.{Pass}
use Rattle.buffer_frames.proofs.FirstLogs.{shown_by}
use Rattle.gin_scan.specs.Causes.{HasWay, CannotRead, CannotStep, IsLawfulRefusal}
use Rattle.gin_scan.specs.Ways.{IsGoingDown, IsGoingAlong}
use Rattle.core_moments.specs.OpenWalk.{ReadsTree, IsOnWay, IsAmongLeaves, WayLeads}
use Rattle.gin_scan.specs.Reading.{ReadsKeysBy, WereReadOn}
use Rattle.gin_scan.specs.Scanning.{HasRead, IsScanOf, sought_in}
use Rattle.gin_scan.specs.Inner.Steps.{MayStep, IsFurthest}
use Rattle.gin_scan.specs.declared.scan_core.ScanCore.{ScanCore}
use Rattle.gin_scan.specs.declared.stage.Stage.{Stage}
use Rattle.gin_scan.specs.declared.stage.Stage.TheVariants as stage
use Rattle.gin_scan.proofs.BegunScans.{below_extent}
use Rattle.gin_scan.proofs.Growing.{reads_since}
use Rattle.gin_scan.proofs.ListSteps.{log_some}
use Rattle.core_moments.specs.OpenLaws.{IsLeaf, IsOfTree, OpenWay}
use Rattle.core_moments.proofs.OpenWays.{ways_open}
use Rattle.core_moments.proofs.ReadLists.{last_reads, way_reads}
use Rattle.gin_scan.proofs.Refused.{never_bad}
use Rattle.gin_scan.proofs.StepsTaken.{Known}
use Rattle.gin_scan.proofs.WaySteps.{lead_some}
use Rattle.gin_scan.proofs.WaysRead.{one_down, one_along}

-- a page of the tree isn't free
pub leaf_used : (b : Body) (c : Page) → c.body ≡ b → IsLeaf c → b ≢ body.Free
leaf_used b c e (high, es, is) free =
    let z : body.Free ≡ body.EntryLeaf high es = sym free ∙ sym e ∙ is in let y : ⊥ = cc in y

pub way_used : (w : Sought) (b : Body) (c : Page) → c.body ≡ b → HasWay w c → b ≢ body.Free
way_used w b c e (inr leaf) free = leaf_used b c e leaf free
way_used w b c e (inl some) free =
    some (ap (λ (z : Body). toward (first_key w) (record { stamp = c.stamp; right = c.right; body = z })) (e ∙ free))

-- the page that is next on a way is some page
pub way_some : (k : KeyWalk) (p : ℕ) → IsOnWay k p → p ≢ 0
way_some k p on =
    lead_some (toward (first_key k.sought)) 1 k.down p (λ e. let z : ⊥ = cc in z) on.down

-- the walk that is open comes last
last_in : (over : List KeyWalk) (k : KeyWalk) → In k (over ++ k ∷ [])
last_in over k = in_back k over (k ∷ []) (inl refl)

module _ {D : Type 0} (device : Disk D) (f : FramesValue D) (R : Log) (pin : Pin) (known : Known device f R pin)
    (some : R ≢ []) (P : Pages) (shown : Shows R P) where
  tree_way : (w : Sought) (p : ℕ) → IsOfTree (P p) → HasWay w (P p)
  tree_way w p (inl leaf) = inr leaf
  tree_way w p (inr inner) = inl (inner.2 (first_key w))

  module _ (from : ℕ) (since : pin.length ≤ from) (walk : Walk) (reads : AreReads R from (reads_of walk)) (k : KeyWalk)
      (on : In k walk.keys) (q : ℕ) (leads : WayLeads ReadsTree k q) where
    path : AreReads R pin.length (path_of k)
    path = way_reads R pin.length walk k on (reads_since R pin.length from (reads_of walk) since reads)

    way : OpenWay R pin.length ReadsTree k q
    way = ways_open ReadsTree R pin k q known.legal known.keeps leads path

    all_shown : Shows (cut (length R) R) P
    all_shown = subst (λ (S : Log). Shows S P) (sym (cut_all R (length R) refl)) shown

    one_record : 1 ≤ length R
    one_record = by R some
      where
        by : (S : Log) → S ≢ [] → 1 ≤ length S
        by [] off = absurd (off refl)
        by (r ∷ S) off = omega arith

    -- the page that is next leads on, or is a leaf
    pub next_way : q ≢ 0 → HasWay k.sought (P q)
    next_way off =
        tree_way k.sought q (way.next_is off (length R) P
        (last_reads R pin.length (path_of k) known.keeps.within path).1 one_record (omega arith) all_shown)

    pub next_is_leaf : IsAmongLeaves ReadsTree k q → q ≢ 0 → IsLeaf (P q)
    next_is_leaf among off =
        way.next_leaf among off (length R) P (last_reads R pin.length (path_of k) known.keeps.within path).1 one_record
        (omega arith) all_shown

    -- fewer were read than there are pages
    pub few : (n : ℕ) → ((p : ℕ) → (P p).body ≢ body.Free → p < n) → length (path_of k) < n
    few n below = way.fewer some P n shown below

module _ {D Q : Type 0} (device : Disk D) (M : Meaning Q) (q : Q) (f : FramesValue D) (pass : Pass) (s : ScanCore)
    (may : MayStep device M q f pass s) (key page left : ℕ) (w : Sought)
    (here : slice_get (sought_in s) key ≡ Some w) where
  abbrev Reads : (R : Log) (pin : Pin) → IsScanOf M q R pin s → (Sought → List KeyWalk → Type 0) → Type 0
  Reads R pin o Open =
      ReadsKeysBy (WereReadOn R o.from) IsKeyWalk (M.asked q) (sought_in s) s key left Open

  -- the walk is one of those that were read
  among_walks : (R : Log) (pin : Pin) (o : IsScanOf M q R pin s) (Open : Sought → List KeyWalk → Type 0)
      (r : Reads R pin o Open) (k : KeyWalk) → r.keys.last ≡ k ∷ [] → In k r.walk.keys
  among_walks R pin o Open r k last =
      subst (In k) (sym (r.keys.walks ∙ ap (λ (ks : List KeyWalk). r.keys.over ++ ks) last)) (last_in r.keys.over k)

  not_all : (R : Log) (pin : Pin) (o : IsScanOf M q R pin s) (Open : Sought → List KeyWalk → Type 0)
      (r : Reads R pin o Open) (k : KeyWalk) → r.keys.last ≡ k ∷ [] → WayLeads ReadsTree k page → Known device f R pin
      → IsFurthest f s left → ⊥
  not_all R pin o Open r k last leads known further =
      let P = shown_by R known.legal.valid in
      let less = few device f R pin known
      (log_some device f pass R pin may.scanning.is_pass known) P.0 P.1 o.from o.since
      r.walk r.so_far.reads.reads k (among_walks R pin o Open r k last) page leads further.extent
      (λ p used. below_extent device f R further.extent known.stands known.legal further.is_extent P.0 p P.1 used) in
      let path : length (flat_map path_of r.keys.last) ≡ length (path_of k) =
      ap (λ (ks : List KeyWalk). length (flat_map path_of ks)) last ∙ ap length (append-nil (path_of k)) in
      omega (arith, less, further.none_left, further.no_further, r.left_is, path)

  module _ (at : s.stage ≡ stage.Down key page left) where
    way_of : (R : Log) (pin : Pin) (o : IsScanOf M q R pin s) → Reads R pin o (IsGoingDown page)
    way_of R pin o = subst (HasRead M q R pin o.from s) at o.read

    -- the page that is next on the way leads on, or is a leaf
    pub way_lawful : (e : FrameError) → CannotRead f (HasWay w) page e → IsLawfulRefusal device f e
    way_lawful e cannot =
        never_bad device M q f pass s (HasWay w) page e may.scanning may.walk (way_used w)
        (λ R pin P known shown o.
        let r = way_of R pin o in
        let k = one_down page w r.keys.last (r.keys.begun w here) in
        subst (λ (u : Sought). HasWay u (P page)) k.2
        (next_way device f R pin known (log_some device f pass R pin may.scanning.is_pass known) P shown o.from o.since
        r.walk r.so_far.reads.reads k.0 (among_walks R pin o (IsGoingDown page) r k.0 k.1) page (WayLeads.down k.3)
        (way_some k.0 page k.3))) cannot

    -- so many pages are not read before its end
    pub way_ends : IsFurthest f s left → (R : Log) (pin : Pin) → Known device f R pin → IsScanOf M q R pin s → ⊥
    way_ends further R pin known o =
        let r = way_of R pin o in
        let k = one_down page w r.keys.last (r.keys.begun w here) in
        not_all R pin o (IsGoingDown page) r k.0 k.1 (WayLeads.down k.3) known further

  module _ (at : s.stage ≡ stage.Leaf key page left) where
    leaves_of : (R : Log) (pin : Pin) (o : IsScanOf M q R pin s) → Reads R pin o (IsGoingAlong ReadsTree page)
    leaves_of R pin o = subst (HasRead M q R pin o.from s) at o.read

    -- the page that is next after the key's leaf is a leaf
    pub leaf_lawful : page ≢ 0 → (e : FrameError) → CannotRead f IsLeaf page e → IsLawfulRefusal device f e
    leaf_lawful off e cannot =
        never_bad device M q f pass s IsLeaf page e may.scanning may.walk leaf_used
        (λ R pin P known shown o.
        let r = leaves_of R pin o in
        let k = one_along ReadsTree page w r.keys.last (r.keys.begun w here) in
        next_is_leaf device f R pin known
        (log_some device f pass R pin may.scanning.is_pass known) P shown o.from o.since
        r.walk r.so_far.reads.reads k.0 (among_walks R pin o (IsGoingAlong ReadsTree page) r k.0 k.1) page
        (WayLeads.along k.3) k.3 off) cannot

    pub leaves_end : IsFurthest f s left → (R : Log) (pin : Pin) → Known device f R pin → IsScanOf M q R pin s → ⊥
    leaves_end further R pin known o =
        let r = leaves_of R pin o in
        let k = one_along ReadsTree page w r.keys.last (r.keys.begun w here) in
        not_all R pin o (IsGoingAlong ReadsTree page) r k.0 k.1 (WayLeads.along k.3) known further

-- ── the causes ──

pub way_cause : {D : Type 0} (f : FramesValue D) (s : ScanCore) (key page left : ℕ) (w : Sought) (e : FrameError)
    → s.stage ≡ stage.Down key page left → slice_get (sought_in s) key ≡ Some w → CannotRead f (HasWay w) page e
    → CannotStep f s s.stage e
way_cause f s key page left w e at here why =
    subst (λ (z : Stage). CannotStep f s z e) (sym at) (inr (w, here, why))

pub leaf_cause : {D : Type 0} (f : FramesValue D) (s : ScanCore) (key page left : ℕ) (e : FrameError)
    → s.stage ≡ stage.Leaf key page left → page ≢ 0 → CannotRead f IsLeaf page e → CannotStep f s s.stage e
leaf_cause f s key page left e at some why = subst (λ (z : Stage). CannotStep f s z e) (sym at) (inr (some, why))

-- what is bad of a page for each walk with this number is so for this one
pub bad_for : (sought : List Sought) (key : ℕ) (Is : Sought → Page → Type 0) (e : FrameError) (p : ℕ) (c : Page)
    (w : Sought) → slice_get sought key ≡ Some w
    → (e ≡ OutOfMemory) ⊎ ((e ≡ BadPage p) × ((u : Sought) → slice_get sought key ≡ Some u → Is u c → ⊥))
    → (e ≡ OutOfMemory) ⊎ ((e ≡ BadPage p) × (Is w c → ⊥))
bad_for sought key Is e p c w here (inl none) = inl none
bad_for sought key Is e p c w here (inr bad) = inr (bad.0, bad.1 w here)
