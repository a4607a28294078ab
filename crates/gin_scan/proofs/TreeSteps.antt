-- Steps through the tree, of each log.
use Rattle.std.proofs.Common.{◌≡◌, ◌≢◌, ℕ, zero, suc, ◌+◌, ◌-◌, ◌*◌, ◌^◌, ◌<◌, ◌≤◌, List, [], ◌∷◌, ◌++◌, length, Some}
use Rattle.std.proofs.Common.{refl, sym, ap, ap₂, subst, subst₂, ◌∙◌, inl, inr, arith, slice_get, drop, append-nil}
use Rattle.std.specs.Prelude.{Vec}
use Rattle.std.specs.declared.alloc.Global.{Global}
use Rattle.std.proofs.Math.Seq.{drop-append_seam}
use Rattle.std.proofs.lemmas.List.{length-map}
use Rattle.std.proofs.lemmas.Option.{slice_get_within}
use Rattle.disk_trait.specs.declared.device.Disk.{Ghosts as Disk}
use Rattle.page_types.specs.Pages.{IsPage}
use Rattle.page_types.specs.Views.{entries_of}
use Rattle.page_types.specs.declared.page.Page.{Page}
use Rattle.page_types.specs.declared.page.Entry.{Entry}
use Rattle.core_state.specs.Log.{Log}
use Rattle.core_state.specs.Legal.{Pin}
use Rattle.core_state.specs.Readings.{Read, AreReads}
use Rattle.gin_opclass.specs.Class.{Asked, Meaning, JudgeIsSound}
use Rattle.core_moments.specs.Walk.{Walk, KeyWalk, Sought, IsKeyWalk, toward, beyond, first_key, fits, reads_of}
use Rattle.core_moments.specs.Walk.{leaf_reads}
use Rattle.core_moments.specs.OpenLaws.{IsLeaf}
use Rattle.core_moments.specs.OpenWalk.{NamedTree, ReadsTree, trees_on}
use Rattle.buffer_frames.specs.Frames.{FramesValue, Lies}
use Rattle.gin_hits.specs.Rows.{lists_of}
use Rattle.gin_hits.specs.Entries.{AreNotedUnder, entries_with}
use Rattle.gin_hits.specs.Trees.{named_by, trees_of}
use Rattle.gin_hits.specs.declared.hits.Hits.{Hits}
use Rattle.gin_hits.specs.declared.entries.TreeRoot.{TreeRoot}
use Rattle.gin_hits.proofs.ToldHits.{lists_length}
use Rattle.gin_scan.specs.Causes.{HasWay}
use Rattle.gin_scan.specs.Ways.{IsGoingDown, IsGoingAlong, IsGoingInTrees}
use Rattle.gin_scan.specs.Reading.{ReadsList, ReadsKeysBy, WereReadOn}
use Rattle.gin_scan.specs.Scanning.{AsksFor, IsScan, IsWithin, HasRead, IsScanOf, sought_in, stages_left}
use Rattle.gin_scan.specs.Scanning.{steps_of}
use Rattle.gin_scan.specs.Scanning.{steps_left, trees_in, trees_from}
use Rattle.gin_scan.specs.Inner.Ways.{NotesLeaf, NamesTrees, GoesOn, GoesToTree}
use Rattle.gin_scan.specs.declared.scan_core.ScanCore.{ScanCore}
use Rattle.gin_scan.specs.declared.stage.Stage.{Stage}
use Rattle.gin_scan.specs.declared.stage.Stage.TheVariants as stage
use Rattle.gin_scan.proofs.AtTrees.{IsGoingToTrees, goes_on}
use Rattle.gin_scan.proofs.Growing.{reads_more}
use Rattle.gin_scan.proofs.JudgedList.{JudgesAll, judged_all}
use Rattle.gin_scan.proofs.ListRead.{now}
use Rattle.gin_scan.proofs.ListSteps.{was_shown, keys_asked, steps_at}
use Rattle.gin_scan.proofs.StepsTaken.{Known}
use Rattle.gin_scan.proofs.TreeRead.{first_reads, next_reads}
use Rattle.gin_scan.proofs.TreeRead.{tree_begun, next_begun, keys_further, way_read, end_read, leaf_more}
use Rattle.gin_scan.proofs.WaySteps.{more_down, at_leaf, more_leaves, down_reads, leaf_read, leaves_read, ends}
use Rattle.gin_scan.proofs.WayTrees.{with_trees, begun_reads}
use Rattle.gin_scan.proofs.WaysRead.{one_along, with_last, walk_reads}

-- a number that isn't 0 is one more than another
pub one_less : (n : ℕ) → n ≢ 0 → n ≡ suc (n - 1)
one_less zero off = absurd (off refl)
one_less (suc n) off = omega arith

pub main_asked : {Q : Type 0} (M : Meaning Q) (q : Q) (s : ScanCore) → IsScan s → AsksFor M q s
    → length (lists_of s.main) ≡ length (M.asked q)
main_asked M q s is asks = lists_length s.main ∙ is.main ∙ keys_asked M q s asks

-- a page of the tree leads on, or is a leaf
pub has_way : (w : Sought) (c : Page) → HasWay w c → toward (first_key w) c ≡ 0 → IsLeaf c
has_way w c (inl some) none = absurd (some none)
has_way w c (inr leaf) none = leaf

-- the posting trees that a leaf names come after those before
pub named_from : (old new : ScanCore) (w : Sought) (c : Page) → NamesTrees w c (trees_in old) (trees_in new)
    → trees_on w (entries_of c) ≡ trees_from (length old.roots.items) new
named_from old new w c names =
    sym (drop-append_seam (trees_in old) (trees_on w (entries_of c)))
    ∙ ap₂ (λ (n : ℕ) (ts : List NamedTree). drop n ts) (length-map old.roots.items named_by) (sym names)

-- what comes then is read off the trees that were noted
pub goes_as : (s s' : ScanCore) (key at next read : ℕ) (z : Stage) → s'.roots ≡ s.roots → s'.extent ≡ s.extent
    → GoesToTree s key at next read z → GoesToTree s' key at next read z
goes_as s s' key at next read z roots extent (inl g) = inl (
  g.0,
  ap (λ (ts : Vec TreeRoot Global). slice_get (trees_of ts.items) at) roots ∙ g.1,
  g.2 ∙ ap (λ (n : ℕ). stage.Posting key at g.0.root n next read) (sym extent),
)
goes_as s s' key at next read z roots extent (inr g) = inr (
  subst (λ (ts : Vec TreeRoot Global). length ts.items ≤ at) (sym roots) g.0,
  g.1 ∙ ap (λ (n : ℕ). stage.Leaf key next (n - read)) (sym extent),
)

module _ {D Q : Type 0} (device : Disk D) (M : Meaning Q) (q : Q) (f : FramesValue D) (s s' : ScanCore)
    (is : IsScan s) (asks : AsksFor M q s) (R : Log) (pin : Pin) (known : Known device f R pin)
    (o : IsScanOf M q R pin s) where
  -- what was read by now
  abbrev Reads : ScanCore → ℕ → ℕ → (Sought → List KeyWalk → Type 0) → Type 0
  Reads z key left Open =
      ReadsKeysBy (WereReadOn R o.from) IsKeyWalk (M.asked q) (sought_in z) z key left Open

  scan_then : s'.extent ≡ s.extent → HasRead M q R pin o.from s' s'.stage → IsScanOf M q R pin s'
  scan_then same read = record {
    from = o.from;
    since = o.since;
    within = o.within;
    below = λ P p shown used. subst (λ (n : ℕ). p < n) (sym same) (o.below P p shown used);
    read = read;
  }

  down_of : (key page left : ℕ) → s.stage ≡ stage.Down key page left → Reads s key left (IsGoingDown page)
  down_of key page left at = subst (HasRead M q R pin o.from s) at o.read

  along_of : (key page left : ℕ) → s.stage ≡ stage.Leaf key page left → Reads s key left (IsGoingAlong ReadsTree page)
  along_of key page left at = subst (HasRead M q R pin o.from s) at o.read

  -- the list was read to its end, and the first walk begins
  pub tree_step : (left : ℕ) → s.stage ≡ stage.Pending 0 left → s' ≡ record s { stage = stage.Down 0 1 s.extent }
      → IsScanOf M q R pin s'
  tree_step left at same =
      let r : ReadsList R o.from (M.asked q) s 0 left = subst (HasRead M q R pin o.from s) at o.read in
      scan_then (ap (λ (z : ScanCore). z.extent) same)
      (subst (λ (z : ScanCore). HasRead M q R pin o.from z z.stage) (sym same)
      (tree_begun (WereReadOn R o.from) IsKeyWalk (M.asked q) (sought_in s) s (AreReads R o.from) 0 left
      (stage.Down 0 1 s.extent) r (main_asked M q s is asks) (record {
        reads = subst (AreReads R o.from) (sym (first_reads r.meta r.pending (sought_in s))) r.reads;
        list = r.leads;
      })))

  -- a walk has ended, and the next one begins
  pub next_step : (key left : ℕ) (w : Sought) → slice_get (sought_in s) key ≡ Some w
      → s.stage ≡ stage.Leaf key 0 left → s' ≡ record s { stage = stage.Down (suc key) 1 s.extent }
      → IsScanOf M q R pin s'
  next_step key left w here at same =
      let r = along_of key 0 left at in
      let k = one_along ReadsTree 0 w r.keys.last (r.keys.begun w here) in
      scan_then (ap (λ (z : ScanCore). z.extent) same)
      (subst (λ (z : ScanCore). HasRead M q R pin o.from z z.stage) (sym same)
      (next_begun (WereReadOn R o.from) IsKeyWalk (M.asked q) (sought_in s) s key left (IsGoingAlong ReadsTree 0) w
      (stage.Down (suc key) 1 s.extent) r k.0 here k.1 k.2 (ends k.0 k.3) (record {
        reads = subst (AreReads R o.from) (sym (next_reads r.walk (sought_in s) key)) r.so_far.reads.reads;
        list = r.so_far.reads.list;
      })))

  -- pages go further
  further_then : s'.extent ≡ s.extent + (s'.extent - s.extent) → HasRead M q R pin o.from s' s'.stage
      → IsScanOf M q R pin s'
  further_then far read = record {
    from = o.from;
    since = o.since;
    within = o.within;
    below = λ P p shown used. omega (arith, o.below P p shown used, far);
    read = read;
  }

  pub way_further : (key page more : ℕ) → s.stage ≡ stage.Down key page 0
      → s' ≡ record s { stage = stage.Down key page more; extent = s.extent + more } → IsScanOf M q R pin s'
  way_further key page more at same =
      further_then (omega (arith, ap (λ (z : ScanCore). z.extent) same))
      (subst (λ (z : ScanCore). HasRead M q R pin o.from z z.stage) (sym same)
      (keys_further (WereReadOn R o.from) IsKeyWalk (M.asked q) (sought_in s) s key more (IsGoingDown page)
      (stage.Down key page more) (down_of key page 0 at)))

  pub leaves_further : (key page more : ℕ) → s.stage ≡ stage.Leaf key page 0
      → s' ≡ record s { stage = stage.Leaf key page more; extent = s.extent + more } → IsScanOf M q R pin s'
  leaves_further key page more at same =
      further_then (omega (arith, ap (λ (z : ScanCore). z.extent) same))
      (subst (λ (z : ScanCore). HasRead M q R pin o.from z z.stage) (sym same)
      (keys_further (WereReadOn R o.from) IsKeyWalk (M.asked q) (sought_in s) s key more (IsGoingAlong ReadsTree page)
      (stage.Leaf key page more) (along_of key page 0 at)))

  -- all walks have ended, and what was read was judged
  pub judge_step : JudgeIsSound M → (page left : ℕ) → s.stage ≡ stage.Down (length (sought_in s)) page left
      → JudgesAll M q s s' → IsScanOf M q R pin s'
  judge_step S page left at j =
      scan_then (ap (λ (z : ScanCore). z.extent) j.rest)
      (judged_all M q S R pin s s' o.from page left o.since is asks (down_of (length (sought_in s)) page left at) j)

  -- ── a page more ──

  module _ (key page left : ℕ) (w : Sought) (here : slice_get (sought_in s) key ≡ Some w) (c : Page)
      (is_page : IsPage c) (lies : Lies f page c) (more : left ≢ 0) (one : s'.pages_read ≤ suc s.pages_read)
      (rest : s' ≡ record s { main = s'.main; stage = s'.stage; pages_read = s'.pages_read; roots = s'.roots }) where
    abbrev x : Read
    x = now R page c

    abbrev were : Walk → Type 0
    were = WereReadOn R o.from

    walk_more : (walk : Walk) → were walk → (over : List KeyWalk) (k k' : KeyWalk) → walk.keys ≡ over ++ k ∷ []
        → k'.down ++ leaf_reads k'.leaves ≡ (k.down ++ leaf_reads k.leaves) ++ x ∷ [] → were (with_last walk over k')
    walk_more walk r over k k' e adds = record {
      reads = subst (AreReads R o.from) (sym (walk_reads walk over k k' (x ∷ []) e adds))
          (reads_more R o.from (reads_of walk) x r.reads o.within refl
          (was_shown device f R pin known page c is_page lies));
      list = r.list;
    }

    same_sought : sought_in s' ≡ sought_in s
    same_sought = ap sought_in rest

    read_then : (n : ℕ) (Open : Sought → List KeyWalk → Type 0)
        → ReadsKeysBy were IsKeyWalk (M.asked q) (sought_in s) s' key n Open
        → ReadsKeysBy were IsKeyWalk (M.asked q) (sought_in s') s' key n Open
    read_then n Open r =
        subst (λ (ss : List Sought). ReadsKeysBy were IsKeyWalk (M.asked q) ss s' key n Open) (sym same_sought) r

    -- a posting tree that begins adds no page
    same_walk : (walk : Walk) → were walk → (over : List KeyWalk) (k k' : KeyWalk) → walk.keys ≡ over ++ k ∷ []
        → k'.down ++ leaf_reads k'.leaves ≡ (k.down ++ leaf_reads k.leaves) ++ [] → were (with_last walk over k')
    same_walk walk r over k k' e adds = record {
      reads = subst (AreReads R o.from)
          (sym (walk_reads walk over k k' [] e adds ∙ append-nil (reads_of walk))) r.reads;
      list = r.list;
    }

    -- after a leaf its posting trees come, and then the leaf that is next
    after_leaf : (mid : ScanCore) → s'.roots ≡ mid.roots → NotesLeaf s key c mid
        → GoesToTree mid key (length s.roots.items) (beyond w c) (s.extent - (left - 1)) s'.stage
        → mid.extent ≡ s.extent
        → ReadsKeysBy were IsKeyWalk (M.asked q) (sought_in s) s' key (left - 1)
        (IsGoingToTrees ReadsTree (trees_on w (entries_of c)) (beyond w c)) → IsScanOf M q R pin s'
    after_leaf mid roots notes goes extent r =
        let same : s'.extent ≡ s.extent = ap (λ (z : ScanCore). z.extent) rest in
        let few : left - 1 ≤ s'.extent = omega (arith, r.left_is) in
        scan_then same
        (goes_on were IsKeyWalk ReadsTree (M.asked q) (sought_in s) s' key (left - 1) (length s.roots.items)
        (beyond w c)
        (s.extent - (left - 1)) w here s'.stage (HasRead M q R pin o.from s')
        (λ a. read_then (s'.extent - (s.extent - (left - 1))) (IsGoingAlong ReadsTree (beyond w c)) a)
        (λ t a. (
          a.0,
          read_then (s'.extent - (s.extent - (left - 1)))
              (IsGoingInTrees ReadsTree t.root s'.extent s'.extent (trees_from (length s.roots.items) s')
              (beyond w c)) a.1,
        ))
        (omega (arith, same)) (omega (arith, same, few)) (trees_on w (entries_of c))
        (named_from s mid w c (notes w here).1
        ∙ ap (λ (ts : Vec TreeRoot Global). drop (length s.roots.items) (trees_of ts.items)) (sym roots)) r
        (λ over k before leaf ts e is. same_walk r.walk r.so_far.reads over k
        (with_trees k before leaf (ts ++ [] ∷ [])) e (begun_reads k before leaf ts is))
        (goes_as mid s' key (length s.roots.items) (beyond w c) (s.extent - (left - 1)) s'.stage roots
        (same ∙ sym extent) goes))

    noted_as : (mid : ScanCore) → s'.main ≡ mid.main → NotesLeaf s key c mid → (es : List Entry)
        → AreNotedUnder (M.asked q) es s.main
        → AreNotedUnder (M.asked q) (es ++ entries_with (fits w) (entries_of c)) s'.main
    noted_as mid mains notes =
        subst₂ (λ (asked : List Asked) (m : Hits). (es : List Entry) → AreNotedUnder asked es s.main
        → AreNotedUnder asked (es ++ entries_with (fits w) (entries_of c)) m) asks.asked (sym mains) (notes w here).0

    -- on the way of a key
    pub way_step : (mid : ScanCore) → s'.main ≡ mid.main → s'.roots ≡ mid.roots → mid.extent ≡ s.extent
        → s.stage ≡ stage.Down key page left → GoesOn s key (left - 1) w c mid s'.stage → IsScanOf M q R pin s'
    way_step mid mains roots extent at goes = elim goes [
      | inl g ↦
          let n = toward (first_key w) c in
          scan_then (ap (λ (z : ScanCore). z.extent) rest) (subst (HasRead M q R pin o.from s') (sym g.0)
          (read_then (left - 1) (IsGoingDown n)
          (way_read were IsKeyWalk (M.asked q) (sought_in s) s s' key (left - 1) w here x one rest page refl r g.1
          (mains ∙ ap (λ (z : ScanCore). z.main) g.2)
          (λ over k e same on. walk_more r.walk r.so_far.reads over k (more_down k x n) e (down_reads k x n on.none)))))
      | inr g ↦
          after_leaf mid roots g.1 g.2 extent
          (end_read were IsKeyWalk (M.asked q) (sought_in s) s s' key (left - 1) w here x one rest ReadsTree
          (noted_as mid mains g.1) page refl r g.0
          (λ over k e same on. walk_more r.walk r.so_far.reads over k (at_leaf k x) e (leaf_read k x on.none)))
    ]
      where
        r : Reads s key (suc (left - 1)) (IsGoingDown page)
        r = subst (λ (n : ℕ). Reads s key n (IsGoingDown page)) (one_less left more) (down_of key page left at)

    -- a leaf after that of the key
    pub leaf_step : (mid : ScanCore) → s'.main ≡ mid.main → s'.roots ≡ mid.roots → mid.extent ≡ s.extent
        → s.stage ≡ stage.Leaf key page left → page ≢ 0 → NotesLeaf s key c mid
        → GoesToTree mid key (length s.roots.items) (beyond w c) (s.extent - (left - 1)) s'.stage
        → IsScanOf M q R pin s'
    leaf_step mid mains roots extent at some notes goes =
        let r = subst (λ (n : ℕ). Reads s key n (IsGoingAlong ReadsTree page)) (one_less left more)
        (along_of key page left at) in
        after_leaf mid roots notes goes extent
        (leaf_more were IsKeyWalk (M.asked q) (sought_in s) s s' key (left - 1) w here x one rest ReadsTree
        (noted_as mid mains notes) page refl some r
        (λ over k e same among. walk_more r.walk r.so_far.reads over k (more_leaves k x) e (leaves_read k x)))

-- ── the bound on steps ──

-- a walk's steps, where those after it come too
left_over : (n key : ℕ) → key < n → n - key ≡ suc (n - suc key)
left_over n key less = omega (arith, less)

pub tree_lower : (s s' : ScanCore) (page left : ℕ) → s.stage ≡ stage.Pending page left
    → s' ≡ record s { stage = stage.Down 0 1 s.extent } → s.extent < 2 ^ 32 → length (sought_in s) < 2 ^ 63
    → steps_left s' < steps_left s
tree_lower s s' page left at same within few =
    let a = steps_at s (stage.Pending page left) at in
    let b : steps_left s' ≡ 3 * 2 ^ 200
    + ((length (sought_in s) - 0) * 2 ^ 34 + (s.extent + 2 * (2 ^ 32 - s.extent))) * 2 ^ 100 = ap steps_left same in
    omega (arith, a, b, within, few)

-- the steps of a walk from such a stage on
abbrev pub steps_by : ℕ → ℕ → ℕ → ℕ → ℕ
steps_by walks extent key left = (walks - key) * 2 ^ 34 + (left + 2 * (2 ^ 32 - extent))

pub next_lower : (s s' : ScanCore) (z : Stage) (key page left : ℕ) → key < length (sought_in s)
    → s.stage ≡ z → steps_of s z ≡ steps_by (length (sought_in s)) s.extent key left * 2 ^ 100
    → stages_left z ≡ 3 → s' ≡ record s { stage = stage.Down (suc key) 1 s.extent } → s.extent < 2 ^ 32
    → steps_left s' < steps_left s
next_lower s s' z key page left less at steps stages same within =
    let a = steps_at s z at in
    let b : steps_left s' ≡ 3 * 2 ^ 200
    + ((length (sought_in s) - suc key) * 2 ^ 34 + (s.extent + 2 * (2 ^ 32 - s.extent))) * 2 ^ 100 =
    ap steps_left same in
    omega (arith, a, b, steps, stages, within, left_over (length (sought_in s)) key less)

pub way_further_lower : (s s' : ScanCore) (z z' : Stage) (key more : ℕ) → s.stage ≡ z
    → steps_of s z ≡ steps_by (length (sought_in s)) s.extent key 0 * 2 ^ 100 → stages_left z ≡ 3
    → s' ≡ record s { stage = z'; extent = s.extent + more }
    → steps_of (record s { stage = z'; extent = s.extent + more }) z'
    ≡ steps_by (length (sought_in s)) (s.extent + more) key more * 2 ^ 100 → stages_left z' ≡ 3
    → 0 < more → s.extent + more < 2 ^ 32 → steps_left s' < steps_left s
way_further_lower s s' z z' key more at steps stages same steps' stages' some within =
    let a = steps_at s z at in
    let b : steps_left s' ≡ stages_left z' * 2 ^ 200 + steps_of (record s { stage = z'; extent = s.extent + more }) z' =
    ap steps_left same in
    omega (arith, a, b, steps, stages, steps', stages', some, within)

-- a page more of a walk was read; at most so many pages of it are left then, and steps within its trees
pub way_lower : (s new : ScanCore) (z z' : Stage) (key left left' trees : ℕ) → s.stage ≡ z → new.stage ≡ z'
    → steps_of s z ≡ steps_by (length (sought_in s)) s.extent key left * 2 ^ 100 → stages_left z ≡ 3
    → steps_of new z' ≡ steps_by (length (sought_in new)) new.extent key left' * 2 ^ 100 + trees → trees < 2 ^ 99
    → stages_left z' ≡ 3 → sought_in new ≡ sought_in s → new.extent ≡ s.extent → left ≢ 0 → left' ≤ left - 1
    → steps_left new < steps_left s
way_lower s new z z' key left left' trees at to steps stages steps' few stages' sought extent more le =
    let walks : length (sought_in new) - key ≡ length (sought_in s) - key =
    ap (λ (ss : List Sought). length ss - key) sought in
    let pages : 2 ^ 32 - new.extent ≡ 2 ^ 32 - s.extent = ap (λ (n : ℕ). 2 ^ 32 - n) extent in
    omega (
      arith,
      steps_at s z at,
      steps_at new z' to,
      steps,
      stages,
      steps',
      few,
      stages',
      walks,
      pages,
      one_less left more,
      le,
    )

-- the leaf's trees come then, or the next leaf
pub trees_lower : (s new : ScanCore) (z : Stage) (key at next left : ℕ) → s.stage ≡ z
    → steps_of s z ≡ steps_by (length (sought_in s)) s.extent key left * 2 ^ 100 → stages_left z ≡ 3
    → GoesToTree new key at next (s.extent - (left - 1)) new.stage → sought_in new ≡ sought_in s
    → new.extent ≡ s.extent → left ≢ 0 → s.extent < 2 ^ 32 → length new.roots.items < 2 ^ 64
    → steps_left new < steps_left s
trees_lower s new z key at next left is steps stages (inl g) sought extent more small few =
    way_lower s new z (stage.Posting key at g.0.root new.extent next (s.extent - (left - 1))) key left
    (new.extent - (s.extent - (left - 1))) ((length new.roots.items - at) * 2 ^ 34 + new.extent) is g.2 steps
    stages refl
    (omega (arith, few, small, extent)) refl sought extent more (omega (arith, extent))
trees_lower s new z key at next left is steps stages (inr g) sought extent more small few =
    way_lower s new z (stage.Leaf key next (new.extent - (s.extent - (left - 1)))) key left
    (new.extent - (s.extent - (left - 1))) 0 is g.1 steps stages
    (omega arith)
    (omega arith) refl sought extent more (omega (arith, extent))

pub goes_lower : (s new mid : ScanCore) (key page left : ℕ) (w : Sought) (c : Page) → s.stage ≡ stage.Down key page left
    → left ≢ 0 → sought_in new ≡ sought_in s → new.extent ≡ s.extent → new.roots ≡ mid.roots → mid.extent ≡ s.extent
    → s.extent < 2 ^ 32 → length new.roots.items < 2 ^ 64 → GoesOn s key (left - 1) w c mid new.stage
    → steps_left new < steps_left s
goes_lower s new mid key page left w c at more sought extent roots same small few (inl g) =
    way_lower s new (stage.Down key page left) (stage.Down key (toward (first_key w) c) (left - 1)) key left
    (left - 1) 0
    at g.0 refl refl (omega arith) (omega arith) refl sought extent more (omega arith)
goes_lower s new mid key page left w c at more sought extent roots same small few (inr g) =
    trees_lower s new (stage.Down key page left) key (length s.roots.items) (beyond w c) left at refl refl
    (goes_as mid new key (length s.roots.items) (beyond w c) (s.extent - (left - 1)) new.stage roots
    (extent ∙ sym same) g.2) sought extent more small few

-- and the stage names a walk
pub tree_within : (new : ScanCore) (key at next read : ℕ) (z : Stage) → key < length (sought_in new)
    → GoesToTree new key at next read z → IsWithin new z
tree_within new key at next read z less (inl g) =
    subst (IsWithin new) (sym g.2)
    (less, omega (arith, slice_get_within (trees_in new) at g.0 g.1, length-map new.roots.items named_by))
tree_within new key at next read z less (inr g) = subst (IsWithin new) (sym g.1) less

pub goes_within : (s new mid : ScanCore) (key left : ℕ) (w : Sought) (c : Page) (z : Stage)
    → sought_in new ≡ sought_in s → new.roots ≡ mid.roots → new.extent ≡ mid.extent → key < length (sought_in s)
    → GoesOn s key left w c mid z → IsWithin new z
goes_within s new mid key left w c z sought roots extent less (inl g) =
    subst (IsWithin new) (sym g.0) (inl (subst (λ (ss : List Sought). key < length ss) (sym sought) less))
goes_within s new mid key left w c z sought roots extent less (inr g) =
    tree_within new key (length s.roots.items) (beyond w c) (s.extent - left) z
    (subst (λ (ss : List Sought). key < length ss) (sym sought) less)
    (goes_as mid new key (length s.roots.items) (beyond w c) (s.extent - left) z roots extent g.2)

pub judged_lower : (s s' : ScanCore) (page left : ℕ) → s.stage ≡ stage.Down (length (sought_in s)) page left
    → s'.stage ≡ stage.Heads 0 → length s'.kept.items < 2 ^ 64 → steps_left s' < steps_left s
judged_lower s s' page left at to short =
    omega (arith, steps_at s (stage.Down (length (sought_in s)) page left) at, steps_at s' (stage.Heads 0) to, short)
