-- A page was read, and what was found of it is read next.
use Rattle.std.proofs.Common.{◌≡◌, ◌≢◌, ◌++◌, ℕ, suc, ◌-◌, ◌^◌, ◌<◌, ◌≤◌, List, length, Some, slice_get}
use Rattle.std.proofs.Common.{refl, sym, ap, subst, ◌∙◌, inr, arith}
use Rattle.std.specs.Prelude.{Result, Ok, Err, IfOk, OnOk}
use Rattle.disk_trait.specs.declared.device.Disk.{Ghosts as Disk}
use Rattle.page_types.specs.Pages.{IsPage}
use Rattle.page_types.specs.Views.{first_of, part_of}
use Rattle.page_types.specs.declared.page.Page.{Page}
use Rattle.gin_opclass.specs.Class.{Meaning, JudgeIsSound}
use Rattle.buffer_frames.specs.Frames.{FramesValue, Lies}
use Rattle.buffer_frames.specs.Passes.{holds_after}
use Rattle.buffer_frames.specs.declared.frame_error.FrameError.{FrameError}
use Rattle.buffer_frames.specs.declared.pass.Pass.{Pass}
use Rattle.core_moments.specs.Walk.{Sought, first_key, toward, rightward, along, beyond}
use Rattle.gin_scan.specs.Causes.{HasMeta, HasPart}
use Rattle.gin_scan.specs.Counting.{IsBounded, CountsOn, most_on_ways}
use Rattle.gin_scan.specs.Scanning.{IsWithin, sought_in}
use Rattle.gin_scan.specs.Inner.Holds.{HasReadOne}
use Rattle.gin_scan.specs.Inner.Notes.{NotesRows, PassesLeaf, NotesWay, NotesTree}
use Rattle.gin_scan.specs.Inner.Ways.{GoesToTree}
use Rattle.gin_scan.specs.Inner.Steps.{MayStep, HasStepped}
use Rattle.gin_scan.specs.declared.scan_core.ScanCore.{ScanCore}
use Rattle.gin_scan.specs.declared.stage.Stage.{Stage}
use Rattle.gin_scan.specs.declared.stage.Stage.TheVariants as stage
use Rattle.gin_scan.proofs.Counted.{counts_by, one_read, one_page, meta_counted, list_counted, heads_counted}
use Rattle.gin_scan.proofs.Counted.{part_counted}
use Rattle.gin_scan.proofs.HeadsCalls.{HasReadPage, heads_stepped}
use Rattle.gin_scan.proofs.ListSteps.{meta_step, meta_lower, lists_asked, page_step, page_lower}
use Rattle.gin_scan.proofs.PartsCalls.{part_stepped}
use Rattle.gin_scan.proofs.PostingCounted.{posting_counted}
use Rattle.gin_scan.proofs.PostingReached.{posting_reached}
use Rattle.gin_scan.proofs.PostingSteps.{posting_step, posting_lower}
use Rattle.gin_scan.proofs.Reached.{meta_reached, page_reached}
use Rattle.gin_scan.proofs.StepsOf.{StepsTo}
use Rattle.gin_scan.proofs.StepsTaken.{scan_as, stepped_by}
use Rattle.gin_scan.proofs.TreeCounted.{goes_counted, roots_grow, trees_counted}
use Rattle.gin_scan.proofs.TreeReached.{way_reached, leaf_reached}
use Rattle.gin_scan.proofs.TreeSteps.{way_step, goes_within, goes_lower, leaf_step, tree_within, trees_lower}

module _ {D Q : Type 0} (device : Disk D) (M : Meaning Q) (q : Q) (f : FramesValue D) (pass : Pass) (s : ScanCore)
    (may : MayStep device M q f pass s) (f' : FramesValue D) (pass' : Pass) (one : HasReadOne device f pass f' pass')
    (c : Page) (is_page : IsPage c) where
  -- as many pages more were held as were read
  counts_one : (new : ScanCore) → new.pages_read ≡ holds_after s.pages_read
      → ((before : ℕ) → IsBounded before s pass.holds s.stage → IsBounded before new pass'.holds new.stage)
      → CountsOn s pass.holds new pass'.holds
  counts_one new read bounded =
      counts_by s new pass.holds pass'.holds
      (one_read s.pages_read new.pages_read pass.holds pass'.holds read one.holds) bounded

  one_held : pass'.holds ≤ suc pass.holds
  one_held = omega (arith, one.holds)

  -- the metapage
  pub meta_turned : (s' : ScanCore) (next : Result Stage FrameError) → Lies f 0 c → s.stage ≡ stage.Meta
      → IfOk next (λ (z : Stage). HasMeta c × (z ≡ stage.Pending (first_of c) s.extent))
      → IfOk next (StepsTo device M q f pass s f' pass' s' s)
  meta_turned s' (Err e) lies at told = tt
  meta_turned s' (Ok z) lies at told = λ is.
      let new : ScanCore = record s {
        stage = stage.Pending (first_of c) s.extent;
        pages_read = holds_after s.pages_read;
      } in
      let same : s' ≡ new = is ∙ ap (λ (y : Stage). record s { stage = y; pages_read = holds_after s.pages_read })
      told.1
      in
      let read = one_page s.pages_read new.pages_read refl in
      let ok = may.scanning.is_scan in
      subst (HasStepped device M q f pass s f' pass') (sym same)
      (stepped_by device M q f f' pass pass' s new may one.reads
      (record { ordered = ok.ordered; pending = ok.pending; main = ok.main; within = tt }) refl refl
      (meta_lower s new (first_of c) at refl refl)
      (λ R pin known pinned o. meta_step device M q f pass s new may.scanning.is_pass ok may.asks R pin known o c
      is_page
      lies at read refl)
      (meta_reached M q f f' one.reads.lying s new c (first_of c) is_page lies told.0 at refl
      (lists_asked M q s ok may.asks) read refl refl)
      (counts_one new refl (meta_counted s new (first_of c) pass.holds pass'.holds at refl one_held)))

  -- a page of the list
  pub list_turned : (n s' : ScanCore) (next : Result Stage FrameError) (page left : ℕ) → Lies f page c
      → s.stage ≡ stage.Pending page left → page ≢ 0 → left ≢ 0 → IfOk next (NotesRows s c (left - 1) n)
      → IfOk next (StepsTo device M q f pass s f' pass' s' n)
  list_turned n s' (Err e) page left lies at some more w = tt
  list_turned n s' (Ok z) page left lies at some more w = λ is.
      let new : ScanCore = record n {
        stage = stage.Pending (rightward c) (left - 1);
        pages_read = holds_after n.pages_read;
      } in
      let same : s' ≡ new = is ∙ ap (λ (y : Stage). record n { stage = y; pages_read = holds_after n.pages_read })
      w.next in
      let rest = ap (λ (y : ScanCore). record y {
        stage = stage.Pending (rightward c) (left - 1);
        pages_read = holds_after n.pages_read;
      }) w.rest in
      let read : new.pages_read ≡ holds_after s.pages_read =
      ap (λ (y : ScanCore). holds_after y.pages_read) w.rest in
      let few = one_page s.pages_read new.pages_read read in
      let ok = may.scanning.is_scan in
      subst (HasStepped device M q f pass s f' pass') (sym same)
      (stepped_by device M q f f' pass pass' s new may one.reads
      (scan_as s new ok (ap (λ (y : ScanCore). y.keys) w.rest) (ap (λ (y : ScanCore). y.order) w.rest) w.lists
      (ap (λ (y : ScanCore). length y.main.by_key.items) w.rest) tt)
      (ap (λ (y : ScanCore). y.keys) w.rest) (ap (λ (y : ScanCore). y.snapshot) w.rest)
      (page_lower s new page (rightward c) left at refl more (ap (λ (y : ScanCore). y.extent) w.rest))
      (λ R pin known pinned o. page_step device M q f pass s new may.scanning.is_pass ok may.asks R pin known o page
      left
      c is_page lies at some more w.noted w.first few rest)
      (page_reached M q f f' one.reads.lying s new c page left (rightward c) is_page lies w.has at some more refl
      may.asks
      w.noted w.first few rest refl)
      (counts_one new read
      (list_counted s new page (rightward c) left pass.holds pass'.holds at (ap (λ (y : ScanCore). y.extent) w.rest)
      more
      one_held)))

  module _ (key page left : ℕ) (lies : Lies f page c) (w : Sought) (here : slice_get (sought_in s) key ≡ Some w)
      (less : key < length (sought_in s)) (some : left ≢ 0) (small : s.extent < 2 ^ 32) where
    -- a page on the way of a key
    pub way_turned : (n s' : ScanCore) (next : Result Stage FrameError) → s.stage ≡ stage.Down key page left
        → IfOk next (NotesWay s key (left - 1) c n) → IfOk next (StepsTo device M q f pass s f' pass' s' n)
    way_turned n s' (Err e) at told = tt
    way_turned n s' (Ok z) at told = λ is.
        let new : ScanCore = record n { stage = z; pages_read = holds_after n.pages_read } in
        let rest' = told.main.rest in
        let rest = ap (λ (y : ScanCore). record y { stage = z; pages_read = holds_after n.pages_read }) rest' in
        let read : new.pages_read ≡ holds_after s.pages_read = ap (λ (y : ScanCore). holds_after y.pages_read) rest' in
        let few = one_page s.pages_read new.pages_read read in
        let extent = ap (λ (y : ScanCore). y.extent) rest in
        let sought = ap sought_in rest in
        let kept = ap (λ (y : ScanCore). y.extent) rest' in
        let next = told.next w here in
        let ok = may.scanning.is_scan in
        subst (HasStepped device M q f pass s f' pass') (sym is)
        (stepped_by device M q f f' pass pass' s new may one.reads
        (scan_as s new ok (ap (λ (y : ScanCore). y.keys) rest) (ap (λ (y : ScanCore). y.order) rest)
        (ap (λ (y : ScanCore). length y.pending.by_key.items) rest) told.main.lists
        (goes_within s new n key (left - 1) w c z sought refl refl less next.1))
        (ap (λ (y : ScanCore). y.keys) rest) (ap (λ (y : ScanCore). y.snapshot) rest)
        (goes_lower s new n key page left w c at some sought extent refl kept small
        (omega (arith, n.roots.ok.0, n.roots.ok.1, n.roots.small)) next.1)
        (λ R pin known pinned o. way_step device M q f s new ok may.asks R pin known o key page left w here c is_page
        lies
        some few rest n refl refl kept at next.1)
        (way_reached M q f f' one.reads.lying s new key page left w here c is_page lies some few rest may.asks n refl
        refl
        kept at next.0 next.1)
        (counts_one new read (goes_counted s new n key page left pass.holds pass'.holds w c z here at extent refl
        kept some
        one_held next.1)))

    -- a leaf
    pub leaf_turned : (n s' : ScanCore) (next : Result Stage FrameError) → s.stage ≡ stage.Leaf key page left → page ≢ 0
        → IfOk next (PassesLeaf s key c (s.extent - (left - 1)) n)
        → IfOk next (StepsTo device M q f pass s f' pass' s' n)
    leaf_turned n s' (Err e) at there told = tt
    leaf_turned n s' (Ok z) at there told = λ is.
        let new : ScanCore = record n { stage = z; pages_read = holds_after n.pages_read } in
        let rest' = told.main.rest in
        let rest = ap (λ (y : ScanCore). record y { stage = z; pages_read = holds_after n.pages_read }) rest' in
        let read : new.pages_read ≡ holds_after s.pages_read = ap (λ (y : ScanCore). holds_after y.pages_read) rest' in
        let few = one_page s.pages_read new.pages_read read in
        let extent = ap (λ (y : ScanCore). y.extent) rest in
        let sought = ap sought_in rest in
        let kept = ap (λ (y : ScanCore). y.extent) rest' in
        let goes_to = told.next w here in
        let ok = may.scanning.is_scan in
        subst (HasStepped device M q f pass s f' pass') (sym is)
        (stepped_by device M q f f' pass pass' s new may one.reads
        (scan_as s new ok (ap (λ (y : ScanCore). y.keys) rest) (ap (λ (y : ScanCore). y.order) rest)
        (ap (λ (y : ScanCore). length y.pending.by_key.items) rest) told.main.lists
        (tree_within new key (length s.roots.items) (beyond w c) (s.extent - (left - 1)) z
        (subst (λ (ws : List Sought). key < length ws) (sym sought) less) goes_to))
        (ap (λ (y : ScanCore). y.keys) rest) (ap (λ (y : ScanCore). y.snapshot) rest)
        (trees_lower s new (stage.Leaf key page left) key (length s.roots.items) (beyond w c) left at refl refl goes_to
        sought extent some small (omega (arith, n.roots.ok.0, n.roots.ok.1, n.roots.small)))
        (λ R pin known pinned o. leaf_step device M q f s new ok may.asks R pin known o key page left w here c is_page
        lies some few rest n refl refl kept at there told.noted goes_to)
        (leaf_reached M q f f' one.reads.lying s new key page left w here c is_page lies some few rest may.asks n
        refl refl
        kept at there told.leaf told.noted goes_to)
        (counts_one new read (trees_counted s new key left (beyond w c) pass.holds pass'.holds (stage.Leaf key page
        left) z
        at (λ before b. b) extent some one_held (roots_grow s n key w c here told.noted) goes_to)))

  -- a part of a long vector
  pub part_turned : (n s' : ScanCore) (next : Result Stage FrameError) (at page left : ℕ) → Lies f page c
      → s.stage ≡ stage.Parts at page left → page ≢ 0 → left ≢ 0 → n ≡ record s { bytes = n.bytes }
      → IfOk next (λ (z : Stage). HasPart c × (z ≡ stage.Parts at (rightward c) (left - 1))
      × (n.bytes.items ≡ s.bytes.items ++ part_of c)) → IfOk next (StepsTo device M q f pass s f' pass' s' n)
  part_turned n s' (Err e) at page left lies is some more rest told = tt
  part_turned n s' (Ok z) at page left lies is some more rest told = λ turned.
      let new : ScanCore = record s {
        bytes = n.bytes;
        stage = stage.Parts at (rightward c) (left - 1);
        pages_read = holds_after s.pages_read;
      } in
      let same : s' ≡ new =
      turned ∙ ap (λ (y : Stage). record n { stage = y; pages_read = holds_after n.pages_read }) told.1
      ∙ ap (λ (y : ScanCore). record y {
        stage = stage.Parts at (rightward c) (left - 1);
        pages_read = holds_after y.pages_read;
      }) rest in
      subst (HasStepped device M q f pass s f' pass') (sym same)
      (part_stepped device M q f pass s may at page left is f' pass' new c some more is_page lies told.2
      (one_page s.pages_read new.pages_read refl) refl told.0 one.reads
      (counts_one new refl
      (part_counted s new at page (rightward c) left pass.holds pass'.holds is refl refl refl more one_held)))

  -- a page of a posting tree
  pub tree_turned : (n s' : ScanCore) (next' : Result Stage FrameError) (key at page left next read : ℕ) → Lies f page c
      → s.stage ≡ stage.Posting key at page left next read → page ≢ 0 → left ≢ 0
      → (w : Sought) → slice_get (sought_in s) key ≡ Some w
      → (key < length (sought_in s)) × (at < length s.roots.items)
      → IfOk next' (NotesTree s key at (left - 1) next read c n)
      → IfOk next' (StepsTo device M q f pass s f' pass' s' n)
  tree_turned n s' (Err e) key at page left next read lies stage_is some more w here there told = tt
  tree_turned n s' (Ok z) key at page left next read lies stage_is some more w here there told = λ is.
      let to = told.next in
      let new : ScanCore = record n { stage = z; pages_read = holds_after n.pages_read } in
      let rest : new ≡ record s { main = n.main; stage = z; pages_read = holds_after s.pages_read } =
      ap (λ (y : ScanCore). record y { stage = z; pages_read = holds_after y.pages_read }) told.rest in
      let count : new.pages_read ≡ holds_after s.pages_read =
      ap (λ (y : ScanCore). holds_after y.pages_read) told.rest in
      let few = one_page s.pages_read new.pages_read count in
      let extent = ap (λ (y : ScanCore). y.extent) rest in
      let sought = ap sought_in rest in
      let roots = ap (λ (y : ScanCore). length y.roots.items) rest in
      let ok = may.scanning.is_scan in
      subst (HasStepped device M q f pass s f' pass') (sym is)
      (stepped_by device M q f f' pass pass' s new may one.reads
      (scan_as s new ok (ap (λ (y : ScanCore). y.keys) rest) (ap (λ (y : ScanCore). y.order) rest)
      (ap (λ (y : ScanCore). length y.pending.by_key.items) rest) told.lists
      (subst (IsWithin new) (sym to) (
        subst (λ (ws : List Sought). key < length ws) (sym sought) there.0,
        subst (λ (m : ℕ). at < m) (sym roots) there.1,
      )))
      (ap (λ (y : ScanCore). y.keys) rest) (ap (λ (y : ScanCore). y.snapshot) rest)
      (posting_lower s new key at page (along c) left next read stage_is to sought extent roots more)
      (λ R pin known pinned o. posting_step device M q f s new R pin known o key at page left next read w here
      stage_is c
      is_page lies may.asks more some few z n.main (holds_after s.pages_read) rest n refl told.noted to)
      (λ r. posting_reached M q f f' one.reads.lying s new key at page left next read w here stage_is r c is_page lies
      told.has may.asks more some few z n.main (holds_after s.pages_read) rest n refl told.noted to)
      (counts_one new count
      (λ before had. subst (IsBounded before new pass'.holds) (sym to)
      (posting_counted s new key at page (along c) left next read pass.holds pass'.holds stage_is extent more one_held
      before had))))

  -- the heads on a heap page
  pub heads_turned : (n s' : ScanCore) (next : Result Stage FrameError) (sound : JudgeIsSound M) (g : FramesValue D)
      (at end number : ℕ) (stage_is : s.stage ≡ stage.Heads at)
      → OnOk next (HasReadPage device M sound q f pass s may at stage_is g n end number c)
      → IfOk next (λ (z : Stage). z ≡ stage.Heads end) → IfOk next (StepsTo device M q f pass s f' pass' s' n)
  heads_turned n s' (Err e) sound g at end number stage_is r told = tt
  heads_turned n s' (Ok z) sound g at end number stage_is r told = λ is.
      let new : ScanCore = record n { stage = stage.Heads end; pages_read = holds_after n.pages_read } in
      let same : s' ≡ new = is ∙ ap (λ (y : Stage). record n { stage = y; pages_read = holds_after n.pages_read })
      told in
      let count : new.pages_read ≡ holds_after s.pages_read =
      ap (λ (y : ScanCore). holds_after y.pages_read) r.rest in
      subst (HasStepped device M q f pass s f' pass') (sym same)
      (heads_stepped device M sound q f pass s may at stage_is g f' pass' n new end number new.pages_read c r one.reads
      (one_page s.pages_read new.pages_read count) refl
      (counts_one new count
      (heads_counted s new at end pass.holds pass'.holds stage_is (ap (λ (y : ScanCore). y.extent) r.rest)
      (ap most_on_ways r.rest) r.ordered one_held)))

-- a leaf on the way of a key
pub way_of_leaf : (s : ScanCore) (key left read : ℕ) (c : Page) (n : ScanCore) (next : Result Stage FrameError)
    → read ≡ s.extent - left → ((w : Sought) → slice_get (sought_in s) key ≡ Some w → toward (first_key w) c ≡ 0)
    → IfOk next (PassesLeaf s key c read n) → IfOk next (NotesWay s key left c n)
way_of_leaf s key left read c n (Err e) count ended told = tt
way_of_leaf s key left read c n (Ok z) count ended told = record {
  next = λ w here. (
    inr told.leaf,
    inr (
      ended w here,
      told.noted,
      subst (λ (m : ℕ). GoesToTree n key (length s.roots.items) (beyond w c) m z) count (told.next w here),
    ),
  );
  main = told.main;
}
