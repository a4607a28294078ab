-- A scan whose walks have all ended judges what it has read.
use Rattle.std.proofs.Common.{◌≡◌, ℕ, ◌≤◌, Bool, List, [], ◌++◌, length}
use Rattle.std.proofs.Common.{◌∷◌, sym, ap, subst, ◌∙◌, inl, inr, arith, All}
use Rattle.page_types.specs.Views.{first_of, entries_of}
use Rattle.page_types.specs.declared.page.Name.{Name}
use Rattle.core_state.specs.Log.{Log, In}
use Rattle.core_state.specs.Readings.{Read}
use Rattle.core_state.specs.History.{History}
use Rattle.core_state.specs.Legal.{Pin}
use Rattle.gin_opclass.specs.Class.{Asked, Meaning, JudgeIsSound}
use Rattle.core_moments.specs.Walk.{Walk, KeyWalk, LeafRead, Sought, IsKeyWalk, AreKeyWalks}
use Rattle.core_moments.specs.Walk.{AreLeaves, beyond, reads_of}
use Rattle.core_moments.specs.OpenWalk.{AreOfTrees, ReadsTree, trees_on}
use Rattle.core_moments.proofs.NamedTrees.{trees_named}
use Rattle.core_moments.specs.Law.{IsWalkFrom}
use Rattle.gin_hits.specs.Entries.{HaveTrees}
use Rattle.gin_hits.specs.Judged.{AreJudged}
use Rattle.gin_hits.specs.Sides.{AreInOrder, HaveSame, TellOfWalk, WasRead, AreKeptOf, AreKept}
use Rattle.gin_hits.specs.Ordered.{AreOrdered}
use Rattle.gin_hits.proofs.JudgedScan.{in_all, may_was_read, are_kept}
use Rattle.gin_hits.proofs.ToldHits.{pending_told, main_told}
use Rattle.gin_scan.specs.Ways.{IsGoingDown}
use Rattle.gin_scan.specs.Reading.{ReadsWalkBy, ReadsKeysBy, WereReadOn}
use Rattle.gin_scan.specs.Taking.{AreTaken}
use Rattle.gin_scan.specs.Scanning.{AsksFor, IsScan, HasRead, HasJudged, HasTaken, order_in, sought_in}
use Rattle.gin_scan.specs.declared.scan_core.ScanCore.{ScanCore}
use Rattle.gin_scan.specs.declared.stage.LongVector.{LongVector}
use Rattle.gin_scan.specs.declared.stage.Stage.TheVariants as stage
use Rattle.gin_scan.proofs.EndedWalks.{order_sought, all_ended}
use Rattle.gin_scan.proofs.Growing.{reads_since, follows}
use Rattle.gin_scan.proofs.HeldPages.{walk_pages}

-- ── what was done ──

-- All items that were met were judged: both sides are in order, and of the items that may be kept those that
-- the walk keeps were added.
pub record JudgesAll {Q : Type 0} (M : Meaning Q) (q : Q) (s s' : ScanCore) : Type 0 where
  pub pending_order : AreInOrder s'.pending
  pub pending_same : HaveSame s.pending s'.pending
  pub pending_count : length s'.pending.by_key.items ≡ length s.pending.by_key.items
  pub main_order : AreInOrder s'.main
  pub main_same : HaveSame s.main s'.main
  pub main_count : length s'.main.by_key.items ≡ length s.main.by_key.items
  pub judged : AreJudged M q s.keys.all s'.pending s'.main s.first_item s.kept.items s'.kept.items
  pub rest : s' ≡ record s { pending = s'.pending; main = s'.main; kept = s'.kept; stage = stage.Heads 0 }

-- of no item nothing is taken
none_taken : (P : Rattle.ts_base.specs.Vectors.Vector → Type 0) (R : Log) (pin : Pin) (H : History) (names : List Name)
    (waiting : List LongVector) → names ≡ [] → waiting ≡ [] → AreTaken P R pin H [] names waiting
none_taken P R pin H names waiting e f =
    subst (λ (ns : List Name). AreTaken P R pin H [] ns waiting) (sym e)
    (subst (AreTaken P R pin H [] []) (sym f) (record {
      found = λ n m. absurd m;
      waits = λ l m. absurd m;
      all = λ d among s. absurd among.item;
      once = λ i j d lt within. absurd (omega (arith, lt, within));
    }))

module _ {Q : Type 0} (M : Meaning Q) (q : Q) (S : JudgeIsSound M) (s s' : ScanCore)
    (WereRead : Walk → Type 0) (asks : AsksFor M q s) (w : Walk)
    (Is : ℕ → List Read → Type 0) (trees : HaveTrees Is w.keys) (r : ReadsWalkBy WereRead (M.asked q) s w)
    (j : JudgesAll M q s s') where
  told : TellOfWalk (M.asked q) w s'.pending s'.main s.first_item
  told = record {
    pending_told = pending_told (M.asked q) w s.pending s'.pending r.noted j.pending_same j.pending_order
        j.pending_count;
    main_told = main_told (M.asked q) w s.main s'.main Is trees r.noted_tree j.main_same j.main_order j.main_count;
    first_told = r.first;
  }

  all_read : All (WasRead w) j.judged.items
  all_read = in_all (WasRead w) j.judged.items (λ i m.
      may_was_read M q w s'.pending s'.main s.first_item told Is trees s.keys.all i ((j.judged.just i).0 m))

  -- what is kept then is what the walk keeps
  pub kept_all : AreKept M q w s'.kept.items
  kept_all =
      let k = j.judged.kept w told all_read in
      are_kept M q w s'.pending s'.main s.first_item told Is trees S s.keys.all (sym asks.all)
      j.judged.items s'.kept.items j.judged.rising j.judged.just
      (subst (AreKeptOf M q w j.judged.items)
      (sym (k.1 ∙ ap (λ (ks : List (ℕ × Bool)). ks ++ k.0) r.unjudged.kept)) k.2)

-- all walks have ended
abbrev pub ReadsAll : {Q : Type 0} → Meaning Q → Q → Log → ℕ → ℕ → ℕ → ScanCore → Type 0
ReadsAll M q R from page left s =
    ReadsKeysBy (WereReadOn R from) IsKeyWalk (M.asked q) (sought_in s) s (length (sought_in s)) left
    (IsGoingDown page)

-- then each posting tree was read
leaf_trees : (s : Sought) (p : ℕ) (ls : List LeafRead) → AreLeaves s p ls → (l : LeafRead) → In l ls
    → AreOfTrees ReadsTree (trees_on s (entries_of l.leaf.content)) l.trees
leaf_trees s p [] a l i = absurd i
leaf_trees s p (m ∷ ls) a l (inl e) =
    subst (λ (z : LeafRead). AreOfTrees ReadsTree (trees_on s (entries_of z.leaf.content)) z.trees) (sym e)
    (trees_named s (entries_of m.leaf.content) m.trees a.2)
leaf_trees s p (m ∷ ls) a l (inr i) = leaf_trees s (beyond s m.leaf.content) ls a.3 l i

whole_trees : (ss : List Sought) (ks : List KeyWalk) → AreKeyWalks ss ks → HaveTrees ReadsTree ks
whole_trees [] [] a k l i j = absurd i
whole_trees [] (h ∷ ks) a k l i j = absurd a
whole_trees (s ∷ ss) [] a k l i j = absurd a
whole_trees (s ∷ ss) (h ∷ ks) a k l (inl e) j =
    leaf_trees k.sought k.leaf k.leaves (subst IsKeyWalk (sym e) a.1).leaves_ok l j
whole_trees (s ∷ ss) (h ∷ ks) a k l (inr i) j = whole_trees ss ks a.2 k l i j

-- then what was read is a walk for the query
pub whole_walk : {Q : Type 0} (M : Meaning Q) (q : Q) (R : Log) (pin : Pin) (from left page : ℕ) (s : ScanCore)
    → pin.length ≤ from → IsScan s → AsksFor M q s
    → (r : ReadsAll M q R from page left s)
    → IsWalkFrom M q R pin r.walk
whole_walk M q R pin from left page s since is asks r = record {
  sought = sought_in s;
  are_sought = order_sought M q (order_in s)
      (subst (λ (as' : List Asked). AreOrdered as' (order_in s)) asks.asked is.ordered) s.keys.all asks.all;
  is_walk = record {
    meta_page = r.so_far.meta_page;
    pending_ok = follows (first_of r.walk.meta.content) r.walk.pending r.so_far.reads.list;
    keys_ok = all_ended (sought_in s) (IsGoingDown page) r.walk.keys r.keys;
  };
  reads = reads_since R pin.length from (reads_of r.walk) since r.so_far.reads.reads;
}

module _ {Q : Type 0} (M : Meaning Q) (q : Q) (S : JudgeIsSound M) (R : Log) (pin : Pin) (s s' : ScanCore)
    (from page left : ℕ) (since : pin.length ≤ from) (is : IsScan s) (asks : AsksFor M q s)
    (r : ReadsAll M q R from page left s)
    (j : JudgesAll M q s s') where
  judged : HasJudged M q R pin from s'
  judged = record {
    walk = r.walk;
    is_walk = whole_walk M q R pin from left page s since is asks r;
    reads = r.so_far.reads.reads;
    kept = kept_all M q S s s' (WereReadOn R from) asks r.walk ReadsTree
        (whole_trees (sought_in s) r.walk.keys (all_ended (sought_in s)
        (IsGoingDown page) r.walk.keys r.keys)) r.so_far j;
  }

  taken : HasTaken M q R pin s' 0 0
  taken H h =
      none_taken (M.satisfies q) R pin H s'.names.items s'.long.items
      (ap (λ (z : ScanCore). z.names.items) j.rest ∙ r.so_far.unjudged.names)
      (ap (λ (z : ScanCore). z.long.items) j.rest ∙ r.so_far.unjudged.long)

  few : s'.pages_read ≤ length (reads_of r.walk)
  few = omega (arith, ap (λ (z : ScanCore). z.pages_read) j.rest, r.so_far.pages_read)

  pub judged_all : HasRead M q R pin from s' s'.stage
  unfolding judged
  judged_all =
      subst (HasRead M q R pin from s') (sym (ap (λ (z : ScanCore). z.stage) j.rest)) (
        judged,
        taken,
        omega (arith, ap (λ (z : ScanCore). z.heads_read) j.rest, r.so_far.unjudged.heads_read),
        walk_pages R from r.walk s'.pages_read few,
        (λ i k m e. absurd m),
      )
