-- Steps through posting trees, of each log.
use Rattle.std.proofs.Common.{◌≡◌, ◌≢◌, ℕ, suc, ◌+◌, ◌-◌, ◌*◌, ◌^◌, ◌<◌, ◌≤◌, List, [], ◌∷◌, ◌++◌, length, Some}
use Rattle.std.proofs.Common.{refl, sym, ap, subst, subst₂, ◌∙◌, inl, inr, arith, slice_get, append-nil}
use Rattle.disk_trait.specs.declared.device.Disk.{Ghosts as Disk}
use Rattle.page_types.specs.Pages.{IsPage}
use Rattle.page_types.specs.declared.page.Page.{Page}
use Rattle.core_state.specs.Log.{Log}
use Rattle.core_state.specs.Legal.{Pin}
use Rattle.core_state.specs.Readings.{AreReads}
use Rattle.gin_opclass.specs.Class.{Asked, Meaning}
use Rattle.core_moments.specs.Walk.{Walk, KeyWalk, Sought, IsKeyWalk, along, reads_of, leaf_reads}
use Rattle.core_moments.specs.OpenWalk.{ReadsTree}
use Rattle.buffer_frames.specs.Frames.{FramesValue, Lies}
use Rattle.gin_hits.specs.Entries.{AreNotedUnder, posting_entry}
use Rattle.gin_hits.specs.declared.hits.Hits.{Hits}
use Rattle.gin_scan.specs.Ways.{IsGoingInTrees}
use Rattle.gin_scan.specs.Reading.{ReadsKeysBy, WereReadOn}
use Rattle.gin_scan.specs.Scanning.{AsksFor, HasRead, IsScanOf, sought_in, steps_left, steps_on_way}
use Rattle.gin_scan.specs.Scanning.{trees_in, trees_from}
use Rattle.gin_scan.specs.Inner.Ways.{NotesPosting, GoesToTree}
use Rattle.gin_scan.specs.declared.scan_core.ScanCore.{ScanCore}
use Rattle.gin_scan.specs.declared.stage.Stage.{Stage}
use Rattle.gin_scan.specs.declared.stage.Stage.TheVariants as stage
use Rattle.gin_scan.proofs.AtTrees.{at_drop, first_from, goes_on, staged, tree_ended, tree_further, tree_read}
use Rattle.gin_scan.proofs.Growing.{reads_more}
use Rattle.gin_scan.proofs.ListRead.{now}
use Rattle.gin_scan.proofs.ListSteps.{was_shown, steps_at}
use Rattle.gin_scan.proofs.StepsTaken.{Known}
use Rattle.gin_scan.proofs.TreeSteps.{one_less}
use Rattle.gin_scan.proofs.WayTrees.{with_trees, begun_reads, more_reads, tree_over}
use Rattle.gin_scan.proofs.WaysRead.{with_last, walk_reads}

module _ {D Q : Type 0} (device : Disk D) (M : Meaning Q) (q : Q) (f : FramesValue D) (s s' : ScanCore) (R : Log)
    (pin : Pin) (known : Known device f R pin) (o : IsScanOf M q R pin s) (key at page left next read : ℕ) (w : Sought)
    (here : slice_get (sought_in s) key ≡ Some w) (stage_is : s.stage ≡ stage.Posting key at page left next read) where
  abbrev were : Walk → Type 0
  were = WereReadOn R o.from

  -- what was read by now
  abbrev Reads : ScanCore → ℕ → (Sought → List KeyWalk → Type 0) → Type 0
  Reads z n Open = ReadsKeysBy were IsKeyWalk (M.asked q) (sought_in z) z key n Open

  abbrev InTrees : ScanCore → ℕ → ℕ → Type 0
  InTrees z p n = Reads z (z.extent - read) (IsGoingInTrees ReadsTree p n z.extent (trees_from at z) next)

  read_is : (read ≤ s.extent) × InTrees s page left
  read_is = subst (HasRead M q R pin o.from s) stage_is o.read

  scan_then : s.extent ≤ s'.extent → HasRead M q R pin o.from s' s'.stage → IsScanOf M q R pin s'
  scan_then far has = record {
    from = o.from;
    since = o.since;
    within = o.within;
    below = λ P p shown used. omega (arith, o.below P p shown used, far);
    read = has;
  }

  walk_more : (walk : Walk) → were walk → (over : List KeyWalk) (k k' : KeyWalk) (c : Page) → IsPage c → Lies f page c
      → walk.keys ≡ over ++ k ∷ []
      → k'.down ++ leaf_reads k'.leaves ≡ (k.down ++ leaf_reads k.leaves) ++ now R page c ∷ []
      → were (with_last walk over k')
  walk_more walk r over k k' c is lies e adds = record {
    reads = subst (AreReads R o.from) (sym (walk_reads walk over k k' (now R page c ∷ []) e adds))
        (reads_more R o.from (reads_of walk) (now R page c) r.reads o.within refl
        (was_shown device f R pin known page c is lies));
    list = r.list;
  }

  same_walk : (walk : Walk) → were walk → (over : List KeyWalk) (k k' : KeyWalk) → walk.keys ≡ over ++ k ∷ []
      → k'.down ++ leaf_reads k'.leaves ≡ (k.down ++ leaf_reads k.leaves) ++ [] → were (with_last walk over k')
  same_walk walk r over k k' e adds = record {
    reads = subst (AreReads R o.from)
        (sym (walk_reads walk over k k' [] e adds ∙ append-nil (reads_of walk))) r.reads;
    list = r.list;
  }

  -- a page of a tree is read
  pub posting_step : (c : Page) → IsPage c → Lies f page c → AsksFor M q s → left ≢ 0 → page ≢ 0
      → s'.pages_read ≤ suc s.pages_read → (z : Stage) (main : Hits) (count : ℕ)
      → s' ≡ record s { main = main; stage = z; pages_read = count } → (mid : ScanCore) → main ≡ mid.main
      → NotesPosting s at c mid → z ≡ stage.Posting key at (along c) (left - 1) next read → IsScanOf M q R pin s'
  posting_step c is lies asks more some one z main count rest mid mains notes to =
      let x = now R page c in
      let new : ScanCore = record s { main = main; stage = z; pages_read = count } in
      let r : InTrees s page (suc (left - 1)) = subst (InTrees s page) (one_less left more) read_is.1 in
      subst (IsScanOf M q R pin) (sym rest) (record {
        from = o.from;
        since = o.since;
        within = o.within;
        below = o.below;
        read = subst (HasRead M q R pin o.from new) (sym to) (
          read_is.0,
          tree_read were IsKeyWalk ReadsTree (M.asked q) (sought_in s) s new key (s.extent - read) w here refl page
              (left - 1) (trees_from at s) next x refl some
              (subst (λ (n : ScanCore). n.pages_read ≤ suc s.pages_read) rest one) r
              (λ t rs e es noted. subst₂ (λ (asked : List Asked) (m : Hits). AreNotedUnder asked es s.main
              → AreNotedUnder asked (es ++ posting_entry t.key x ∷ []) m) asks.asked (sym mains)
              (notes t es (at_drop (trees_in s) at t rs e)) noted)
              (λ over k before leaf ts t e leaves.
              walk_more r.walk r.so_far.reads over k (with_trees k before leaf (ts ++ (t ++ x ∷ []) ∷ [])) c is lies e
              (more_reads k before leaf ts t x leaves)),
        );
      })

  -- a tree is over
  pub over_step : page ≡ 0 → at < length s.roots.items → (z : Stage) → s' ≡ record s { stage = z }
      → GoesToTree s key (suc at) next read z → IsScanOf M q R pin s'
  over_step over less z same goes =
      let first = first_from s at less in
      let new : ScanCore = record s { stage = z } in
      let r : Reads s (s.extent - read)
      (Rattle.gin_scan.proofs.AtTrees.IsGoingToTrees ReadsTree (trees_from (suc at) s) next) =
      tree_ended were IsKeyWalk ReadsTree (M.asked q) (sought_in s) s key (s.extent - read) page left s.extent w here
      (trees_from at s) (trees_from (suc at) s) next first.0 first.1
      (λ root t leads. tree_over root page t leads over) read_is.1 in
      let r' = staged were IsKeyWalk ReadsTree (M.asked q) (sought_in s) s z key (s.extent - read)
      (Rattle.gin_scan.proofs.AtTrees.IsGoingToTrees ReadsTree (trees_from (suc at) s) next) r in
      subst (IsScanOf M q R pin) (sym same) (record {
        from = o.from;
        since = o.since;
        within = o.within;
        below = o.below;
        read = goes_on were IsKeyWalk ReadsTree (M.asked q) (sought_in s) new key (s.extent - read) (suc at) next read w
            here z (HasRead M q R pin o.from new) (λ a. a) (λ t a. a) read_is.0 refl (trees_from (suc at) s) refl r'
            (λ over' k before leaf ts e leaves. same_walk r'.walk r'.so_far.reads over' k
            (with_trees k before leaf (ts ++ [] ∷ [])) e (begun_reads k before leaf ts leaves)) goes;
      })

  -- pages go further
  pub posting_further : (more : ℕ) → left ≡ 0
      → s' ≡ record s { stage = stage.Posting key at page more next read; extent = s.extent + more }
      → IsScanOf M q R pin s'
  posting_further more none same =
      let z = stage.Posting key at page more next read in
      let new : ScanCore = record s { stage = z; extent = s.extent + more } in
      let r : InTrees s page 0 = subst (InTrees s page) none read_is.1 in
      subst (IsScanOf M q R pin) (sym same) (record {
        from = o.from;
        since = o.since;
        within = o.within;
        below = λ P p shown used. omega (arith, o.below P p shown used);
        read = (
          omega (arith, read_is.0),
          subst (λ (n : ℕ). Reads new n (IsGoingInTrees ReadsTree page more (s.extent + more) (trees_from at s) next))
              (let sum : s.extent - read + more ≡ s.extent + more - read = omega (arith, read_is.0) in sum)
              (tree_further were IsKeyWalk ReadsTree (M.asked q) (sought_in s) s z key
              (s.extent - read) more page w here
              (trees_from at s) next r),
        );
      })

-- ── the bound on steps ──

pub posting_lower : (s new : ScanCore) (key at page p left next read : ℕ)
    → s.stage ≡ stage.Posting key at page left next read → new.stage ≡ stage.Posting key at p (left - 1) next read
    → sought_in new ≡ sought_in s → new.extent ≡ s.extent → length new.roots.items ≡ length s.roots.items → left ≢ 0
    → steps_left new < steps_left s
posting_lower s new key at page p left next read is to sought extent roots more =
    let walks : length (sought_in new) - key ≡ length (sought_in s) - key =
    ap (λ (ss : List Sought). length ss - key) sought in
    let pages : 2 ^ 32 - new.extent ≡ 2 ^ 32 - s.extent = ap (λ (n : ℕ). 2 ^ 32 - n) extent in
    let reads : new.extent - read ≡ s.extent - read = ap (λ (n : ℕ). n - read) extent in
    let trees : length new.roots.items - at ≡ length s.roots.items - at = ap (λ (n : ℕ). n - at) roots in
    omega (
      arith,
      steps_at s (stage.Posting key at page left next read) is,
      steps_at new (stage.Posting key at p (left - 1) next read) to,
      walks,
      pages,
      reads,
      trees,
      one_less left more,
    )

-- the next tree, or the next leaf
pub over_lower : (s s' : ScanCore) (key at page left next read : ℕ) (z : Stage)
    → s.stage ≡ stage.Posting key at page left next read → s' ≡ record s { stage = z }
    → GoesToTree s key (suc at) next read z → at < length s.roots.items → s.extent < 2 ^ 32
    → steps_left s' < steps_left s
over_lower s s' key at page left next read z is same (inl g) less small =
    let b : steps_left s' ≡ 3 * 2 ^ 200 + (steps_on_way s key (s.extent - read) * 2 ^ 100
    + ((length s.roots.items - suc at) * 2 ^ 34 + s.extent)) =
    ap steps_left (same ∙ ap (λ (y : Stage). record s { stage = y }) g.2) in
    omega (arith, steps_at s (stage.Posting key at page left next read) is, b, less, small)
over_lower s s' key at page left next read z is same (inr g) less small =
    let b : steps_left s' ≡ 3 * 2 ^ 200 + steps_on_way s key (s.extent - read) * 2 ^ 100 =
    ap steps_left (same ∙ ap (λ (y : Stage). record s { stage = y }) g.1) in
    omega (arith, steps_at s (stage.Posting key at page left next read) is, b, less, small)

pub posting_further_lower : (s s' : ScanCore) (key at page more next read : ℕ)
    → s.stage ≡ stage.Posting key at page 0 next read
    → s' ≡ record s { stage = stage.Posting key at page more next read; extent = s.extent + more } → 0 < more
    → s.extent + more < 2 ^ 32 → steps_left s' < steps_left s
posting_further_lower s s' key at page more next read is same some small =
    let b : steps_left s' ≡ 3 * 2 ^ 200 + (((length (sought_in s) - key) * 2 ^ 34
    + ((s.extent + more - read) + 2 * (2 ^ 32 - (s.extent + more)))) * 2 ^ 100
    + ((length s.roots.items - at) * 2 ^ 34 + more)) = ap steps_left same in
    omega (arith, steps_at s (stage.Posting key at page 0 next read) is, b, some, small)
