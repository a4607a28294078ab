-- How the pages of posting trees are reached that a scan reads.
use Rattle.std.proofs.Common.{◌≡◌, ◌≢◌, ℕ, suc, ◌+◌, ◌-◌, ◌<◌, ◌≤◌, List, [], ◌∷◌, ◌++◌, length, Some}
use Rattle.std.proofs.Common.{refl, sym, subst, subst₂, arith, slice_get}
use Rattle.page_types.specs.Pages.{IsPage}
use Rattle.page_types.specs.declared.page.Page.{Page}
use Rattle.core_state.specs.Readings.{Read}
use Rattle.gin_opclass.specs.Class.{Asked, Meaning}
use Rattle.core_moments.specs.Walk.{Sought, along}
use Rattle.core_moments.specs.OpenLaws.{IsPostingPage}
use Rattle.core_moments.specs.OpenWalk.{ReadsInTree}
use Rattle.buffer_frames.specs.Frames.{FramesValue, Lies}
use Rattle.gin_hits.specs.Entries.{AreNotedUnder, posting_entry}
use Rattle.gin_hits.specs.declared.hits.Hits.{Hits}
use Rattle.gin_scan.specs.Calls.{LieStill}
use Rattle.gin_scan.specs.Ways.{IsGoingInTrees}
use Rattle.gin_scan.specs.Reaching.{WalkLies, LeadsSomewhere, IsOnTree, IsReached}
use Rattle.gin_scan.specs.Scanning.{AsksFor, sought_in, trees_in, trees_from}
use Rattle.gin_scan.specs.Inner.Ways.{NotesPosting, GoesToTree}
use Rattle.gin_scan.specs.declared.scan_core.ScanCore.{ScanCore}
use Rattle.gin_scan.specs.declared.stage.Stage.{Stage}
use Rattle.gin_scan.specs.declared.stage.Stage.TheVariants as stage
use Rattle.gin_scan.proofs.AtTrees.{IsGoingToTrees, at_drop, first_from, goes_on, staged, tree_ended, tree_further}
use Rattle.gin_scan.proofs.AtTrees.{tree_read}
use Rattle.gin_scan.proofs.Reached.{reached_still}
use Rattle.gin_scan.proofs.TreeReached.{last_lies, begun_lies, page_lies}
use Rattle.gin_scan.proofs.TreeSteps.{one_less}
use Rattle.gin_scan.proofs.WayTrees.{with_trees, tree_left}

module _ {D Q : Type 0} (M : Meaning Q) (q : Q) (f f' : FramesValue D) (still : LieStill f f') (s s' : ScanCore)
    (key at page left next read : ℕ) (w : Sought) (here : slice_get (sought_in s) key ≡ Some w)
    (stage_is : s.stage ≡ stage.Posting key at page left next read) (reached : IsReached M q f s s.stage) where
  abbrev InTrees : ScanCore → ℕ → ℕ → Type 0
  InTrees z p n =
      IsOnTree M q f z key (z.extent - read) (IsGoingInTrees ReadsInTree p n z.extent (trees_from at z) next)

  read_is : (read ≤ s.extent) × InTrees s page left
  read_is = subst (IsReached M q f s) stage_is reached

  -- a page of a tree is read
  pub posting_reached : (c : Page) → IsPage c → Lies f page c → IsPostingPage c → AsksFor M q s → left ≢ 0 → page ≢ 0
      → s'.pages_read ≤ suc s.pages_read → (z : Stage) (main : Hits) (count : ℕ)
      → s' ≡ record s { main = main; stage = z; pages_read = count } → (mid : ScanCore) → main ≡ mid.main
      → NotesPosting s at c mid → z ≡ stage.Posting key at (along c) (left - 1) next read
      → IsReached M q f' s' s'.stage
  posting_reached c is lies has asks more some one z main count rest mid mains notes to =
      let x : Read = record { length = 0; page = page; content = c } in
      let new : ScanCore = record s { main = main; stage = z; pages_read = count } in
      let r : InTrees s page (suc (left - 1)) = subst (InTrees s page) (one_less left more) read_is.1 in
      subst (λ (n : ScanCore). IsReached M q f' n n.stage) (sym rest)
      (reached_still f f' still M q new z (subst (IsReached M q f new) (sym to) (
        read_is.0,
        tree_read (WalkLies f) LeadsSomewhere ReadsInTree (M.asked q) (sought_in s) s new key (s.extent - read) w here
            refl page (left - 1) (trees_from at s) next x refl some
            (subst (λ (n : ScanCore). n.pages_read ≤ suc s.pages_read) rest one) r
            (λ t rs e es noted. subst₂ (λ (asked : List Asked) (m : Hits). AreNotedUnder asked es s.main
            → AreNotedUnder asked (es ++ posting_entry t.key x ∷ []) m) asks.asked (sym mains)
            (notes t es (at_drop (trees_in s) at t rs e)) noted)
            (λ over k before leaf ts t e leaves.
            last_lies f r.walk over k (with_trees k before leaf (ts ++ (t ++ x ∷ []) ∷ [])) e
            (page_lies f k before leaf ts t x is lies has leaves) r.so_far.reads),
      )))

  -- a tree is over, or is given up
  pub over_reached : at < length s.roots.items → (z : Stage) → s' ≡ record s { stage = z }
      → GoesToTree s key (suc at) next read z → IsReached M q f' s' s'.stage
  over_reached less z same goes =
      let first = first_from s at less in
      let new : ScanCore = record s { stage = z } in
      let Open = IsGoingToTrees ReadsInTree (trees_from (suc at) s) next in
      let r = tree_ended (WalkLies f) LeadsSomewhere ReadsInTree (M.asked q) (sought_in s) s key (s.extent - read) page
      left s.extent w here (trees_from at s) (trees_from (suc at) s) next first.0 first.1
      (λ root t leads. tree_left root page t leads) read_is.1 in
      let r' = staged (WalkLies f) LeadsSomewhere ReadsInTree (M.asked q) (sought_in s) s z key (s.extent - read) Open r
      in
      subst (λ (n : ScanCore). IsReached M q f' n n.stage) (sym same)
      (reached_still f f' still M q new z
      (goes_on (WalkLies f) LeadsSomewhere ReadsInTree (M.asked q) (sought_in s) new key (s.extent - read) (suc at) next
      read w here z (IsReached M q f new) (λ a. a) (λ t a. a) read_is.0 refl (trees_from (suc at) s) refl r'
      (λ over k before leaf ts e leaves. last_lies f r'.walk over k (with_trees k before leaf (ts ++ [] ∷ [])) e
      (begun_lies f k before leaf ts leaves) r'.so_far.reads) goes))

  -- pages go further
  pub posting_further_reached : (more : ℕ) → left ≡ 0
      → s' ≡ record s { stage = stage.Posting key at page more next read; extent = s.extent + more }
      → IsReached M q f' s' s'.stage
  posting_further_reached more none same =
      let z = stage.Posting key at page more next read in
      let new : ScanCore = record s { stage = z; extent = s.extent + more } in
      let r : InTrees s page 0 = subst (InTrees s page) none read_is.1 in
      subst (λ (n : ScanCore). IsReached M q f' n n.stage) (sym same)
      (reached_still f f' still M q new z (
        omega (arith, read_is.0),
        subst (λ (n : ℕ). IsOnTree M q f new key n
            (IsGoingInTrees ReadsInTree page more (s.extent + more) (trees_from at s) next))
            (let sum : s.extent - read + more ≡ s.extent + more - read = omega (arith, read_is.0) in sum)
            (tree_further (WalkLies f) LeadsSomewhere ReadsInTree (M.asked q) (sought_in s) s z key
            (s.extent - read) more
            page w here (trees_from at s) next r),
      ))
