-- Why a step through a posting tree is refused, and that no tree is given up.
use Rattle.std.proofs.Common.{◌≡◌, ◌≢◌, ℕ, ◌+◌, ◌-◌, ◌≤◌, List, [], ◌∷◌, ◌++◌, length, Some, refl, sym, ap, subst}
use Rattle.std.proofs.Common.{◌∙◌, inl, inr, arith, slice_get}
use Rattle.disk_trait.specs.declared.device.Disk.{Ghosts as Disk}
use Rattle.page_types.specs.Views.{entries_of}
use Rattle.page_types.specs.declared.page.Page.{Page}
use Rattle.page_types.specs.declared.page.Entry.{Entry}
use Rattle.page_types.specs.declared.page.Postings.TheVariants.{Root}
use Rattle.page_types.specs.declared.page.Body.{Body}
use Rattle.page_types.specs.declared.page.Body.TheVariants as body
use Rattle.page_types.specs.declared.page.Gone.TheVariants as gone
use Rattle.core_state.specs.Log.{Log, Pages, In, Shows, cut}
use Rattle.core_state.specs.Legal.{Pin}
use Rattle.core_state.specs.Readings.{AreReads}
use Rattle.core_state.proofs.Moments.Timeline.{cut_all}
use Rattle.core_state.proofs.PageLists.{in_back}
use Rattle.gin_opclass.specs.Class.{Meaning}
use Rattle.core_moments.specs.Walk.{KeyWalk, Sought, IsKeyWalk, reads_of}
use Rattle.core_moments.specs.OpenLaws.{IsPostingPage, OpenTree}
use Rattle.core_moments.specs.OpenWalk.{NamedTree, ReadsTree, IsInTrees}
use Rattle.core_moments.proofs.NamedTrees.{named_by, tree_was_read}
use Rattle.core_moments.proofs.OpenTrees.{trees_open}
use Rattle.core_moments.proofs.ReadLists.{last_reads}
use Rattle.buffer_frames.specs.Frames.{FramesValue}
use Rattle.buffer_frames.specs.declared.frame_error.FrameError.{FrameError}
use Rattle.buffer_frames.specs.declared.pass.Pass.{Pass}
use Rattle.buffer_frames.proofs.FirstLogs.{shown_by}
use Rattle.gin_scan.specs.Causes.{CannotRead, CannotStep, IsLawfulRefusal}
use Rattle.gin_scan.specs.Ways.{IsGoingInTrees}
use Rattle.gin_scan.specs.Reading.{ReadsKeysBy, WereReadOn}
use Rattle.gin_scan.specs.Scanning.{HasRead, IsScanOf, sought_in, trees_from}
use Rattle.gin_scan.specs.Inner.Steps.{MayStep, IsFurthest}
use Rattle.gin_scan.specs.declared.scan_core.ScanCore.{ScanCore}
use Rattle.gin_scan.specs.declared.stage.Stage.{Stage}
use Rattle.gin_scan.specs.declared.stage.Stage.TheVariants as stage
use Rattle.gin_scan.proofs.BegunScans.{below_extent}
use Rattle.gin_scan.proofs.Growing.{reads_since}
use Rattle.gin_scan.proofs.Refused.{never_bad}
use Rattle.gin_scan.proofs.StepsTaken.{Known}
use Rattle.gin_scan.proofs.WaysRead.{one_in_trees}

-- a page of a posting tree isn't free
pub posting_used : (b : Body) (c : Page) → c.body ≡ b → IsPostingPage c → b ≢ body.Free
posting_used b c e (inl (high, items, inl is)) free =
    let z : body.Free ≡ body.PostLeaf high items = sym free ∙ sym e ∙ is in let y : ⊥ = cc in y
posting_used b c e (inl (high, items, inr is)) free =
    let z : body.Free ≡ body.Deleted (gone.PostLeaf high items) = sym free ∙ sym e ∙ is in let y : ⊥ = cc in y
posting_used b c e (inr is) free =
    let z : body.Free ≡ body.PostInner is.0 = sym free ∙ sym e ∙ is.1 in let y : ⊥ = cc in y

module _ {D Q : Type 0} (device : Disk D) (M : Meaning Q) (q : Q) (f : FramesValue D) (pass : Pass) (s : ScanCore)
    (may : MayStep device M q f pass s) (key at page left next read : ℕ) (w : Sought)
    (here : slice_get (sought_in s) key ≡ Some w) (stage_is : s.stage ≡ stage.Posting key at page left next read) where
  module _ (R : Log) (pin : Pin) (known : Known device f R pin) (o : IsScanOf M q R pin s) where
    abbrev Open : Sought → List KeyWalk → Type 0
    Open = IsGoingInTrees ReadsTree page left s.extent (trees_from at s) next

    here_read : (read ≤ s.extent)
        × ReadsKeysBy (WereReadOn R o.from) IsKeyWalk (M.asked q) (sought_in s) s key (s.extent - read) Open
    here_read = subst (HasRead M q R pin o.from s) stage_is o.read

    r : ReadsKeysBy (WereReadOn R o.from) IsKeyWalk (M.asked q) (sought_in s) s key (s.extent - read) Open
    r = here_read.1

    last : (k : KeyWalk) × (r.keys.last ≡ k ∷ []) × (k.sought ≡ w) × (rest : List NamedTree)
        × (t : IsInTrees ReadsTree k page rest next) × (trees_from at s ≡ t.tree ∷ rest)
        × (left + length t.last ≡ s.extent)
    last = one_in_trees ReadsTree page left s.extent (trees_from at s) next w r.keys.last (r.keys.begun w here)

    abbrev t : IsInTrees ReadsTree last.0 page last.3 next
    t = last.4

    among : In last.0 r.walk.keys
    among =
        subst (In last.0) (sym (r.keys.walks ∙ ap (λ (ks : List KeyWalk). r.keys.over ++ ks) last.1))
        (in_back last.0 r.keys.over (last.0 ∷ []) (inl refl))

    -- its reads, and the entry that names it
    reads : AreReads R pin.length (t.leaf ∷ t.last)
    reads =
        tree_was_read R pin.length r.walk last.0 t.before t.leaf t.trees t.last among t.leaves
        (reads_since R pin.length o.from (reads_of r.walk) o.since r.so_far.reads.reads)

    entry : (e : Entry) × In e (entries_of t.leaf.content) × (e.postings ≡ Root t.tree.root)
    entry =
        named_by last.0.sought (entries_of t.leaf.content) t.tree
        (subst (In t.tree) (sym t.named) (in_back t.tree t.done (t.tree ∷ last.3) (inl refl)))

    opened : OpenTree R t.leaf t.last page
    opened = trees_open R pin t.leaf entry.0 t.tree.root t.last page known.legal known.keeps entry.1 entry.2
        t.leads reads

    all_shown : (P : Pages) → Shows R P → Shows (cut (length R) R) P
    all_shown P shown = subst (λ (S : Log). Shows S P) (sym (cut_all R (length R) refl)) shown

    -- the page that is next is one of the tree
    pub next_posting : page ≢ 0 → (P : Pages) → Shows R P → IsPostingPage (P page)
    next_posting off P shown =
        opened.next_is off (length R) P (last_reads R t.leaf.length t.last reads.1 reads.3).1 (omega arith)
        (all_shown P shown)

    -- so many pages are not read before its end
    pub tree_ends : IsFurthest f s left → ⊥
    tree_ends further =
        let P = shown_by R known.legal.valid in
        let less = opened.fewer P.0 further.extent P.1
        (λ p used. below_extent device f R further.extent known.stands known.legal further.is_extent P.0 p P.1 used) in
        let sum = last.6 in
        omega (arith, less, further.none_left, further.no_further, sum)

  pub posting_lawful : page ≢ 0 → (e : FrameError) → CannotRead f IsPostingPage page e → IsLawfulRefusal device f e
  posting_lawful off e cannot =
      never_bad device M q f pass s IsPostingPage page e may.scanning may.walk posting_used
      (λ R pin P known shown o. next_posting R pin known o off P shown) cannot

-- the cause
pub posting_cause : {D : Type 0} (f : FramesValue D) (s : ScanCore) (key at page left next read : ℕ) (e : FrameError)
    → s.stage ≡ stage.Posting key at page left next read → page ≢ 0 → CannotRead f IsPostingPage page e
    → CannotStep f s s.stage e
posting_cause f s key at page left next read e is some why =
    subst (λ (z : Stage). CannotStep f s z e) (sym is) (inr (some, why))
