-- How the pages of the tree are reached that a scan reads.
use Rattle.std.proofs.Common.{◌≡◌, ◌≢◌, ℕ, suc, ◌+◌, ◌-◌, ◌≤◌, List, [], ◌∷◌, ◌++◌, length, map, drop, Option, None}
use Rattle.std.proofs.Common.{Some}
use Rattle.std.proofs.Common.{refl, sym, ap, subst, subst₂, ◌∙◌, inl, inr, arith, slice_get, append_assoc, append-nil}
use Rattle.std.specs.Prelude.{Vec}
use Rattle.std.specs.declared.alloc.Global.{Global}
use Rattle.std.specs.List.{flat_map}
use Rattle.std.proofs.lemmas.Grind.{flat_map-append}
use Rattle.page_types.specs.Pages.{IsPage}
use Rattle.page_types.specs.Views.{entries_of}
use Rattle.page_types.specs.declared.page.Page.{Page}
use Rattle.page_types.specs.declared.page.Entry.{Entry}
use Rattle.core_state.specs.Log.{In}
use Rattle.core_state.specs.Readings.{Read}
use Rattle.core_state.proofs.PageLists.{in_front, in_back, in_either}
use Rattle.gin_opclass.specs.Class.{Asked, Meaning, JudgeIsSound}
use Rattle.core_moments.specs.Walk.{Walk, KeyWalk, LeafRead, Sought, toward, beyond, first_key, fits, tree_reads}
use Rattle.core_moments.specs.OpenLaws.{IsLeaf, IsPostingPage}
use Rattle.core_moments.specs.OpenWalk.{AreOfTrees, ReadsInTree, LeavesLead, WayLeads, trees_on}
use Rattle.buffer_frames.specs.Frames.{FramesValue, Lies}
use Rattle.gin_hits.specs.Entries.{AreNotedUnder, entries_with}
use Rattle.gin_hits.specs.Trees.{trees_of}
use Rattle.gin_hits.specs.declared.hits.Hits.{Hits}
use Rattle.gin_hits.specs.declared.entries.TreeRoot.{TreeRoot}
use Rattle.gin_scan.specs.Calls.{LieStill}
use Rattle.gin_scan.specs.Causes.{HasWay}
use Rattle.gin_scan.specs.Reading.{ReadsListBy, ReadsKeysBy}
use Rattle.gin_scan.specs.Reaching.{AreLying, ListLies, WayLies, WaysLie, WalkLies, WalkLeads, LeadsSomewhere, IsOnTree}
use Rattle.gin_scan.specs.Reaching.{IsReached, posting_reads}
use Rattle.gin_scan.specs.Scanning.{AsksFor, IsScan, sought_in, trees_from}
use Rattle.gin_scan.specs.Ways.{AreEach, AreWalks, IsGoingDown, IsGoingAlong, IsGoingInTrees}
use Rattle.gin_scan.specs.Inner.Ways.{NotesLeaf, GoesOn, GoesToTree}
use Rattle.gin_scan.specs.declared.scan_core.ScanCore.{ScanCore}
use Rattle.gin_scan.specs.declared.stage.Stage.TheVariants as stage
use Rattle.gin_scan.proofs.AtTrees.{IsGoingToTrees, goes_on}
use Rattle.gin_scan.proofs.BegunWalks.{fresh_for}
use Rattle.gin_scan.proofs.EndedWalks.{past_end}
use Rattle.gin_scan.proofs.JudgedList.{JudgesAll, kept_all}
use Rattle.gin_scan.proofs.Reached.{lying_more, tree_still}
use Rattle.gin_scan.proofs.TreeRead.{tree_begun, next_begun, keys_further, way_read, end_read}
use Rattle.gin_scan.proofs.TreeRead.{leaf_more}
use Rattle.gin_scan.proofs.TreeSteps.{one_less, main_asked, has_way, named_from, goes_as}
use Rattle.gin_scan.proofs.WaySteps.{more_down, at_leaf, more_leaves, leaf_alone}
use Rattle.gin_scan.proofs.WayTrees.{with_trees, same_leaves, last_tree, trees_then}
use Rattle.gin_scan.proofs.WaysRead.{one_down, one_along, with_last}

-- ── walks that lead somewhere ──

each_leads : (ss : List Sought) (ks : List KeyWalk) → AreEach LeadsSomewhere ss ks → (k : KeyWalk) → In k ks
    → In k.sought ss × LeadsSomewhere k
each_leads [] [] e k i = absurd i
each_leads [] (j ∷ ks) e k i = absurd e
each_leads (s ∷ ss) [] e k i = absurd e
each_leads (s ∷ ss) (j ∷ ks) e k (inl same) =
    subst (λ (z : KeyWalk). In z.sought (s ∷ ss) × LeadsSomewhere z) (sym same) (inl e.0, e.1)
each_leads (s ∷ ss) (j ∷ ks) e k (inr i) = let r = each_leads ss ks e.2 k i in (inr r.0, r.1)

-- where all have ended each leads somewhere
all_lead : (sought : List Sought) (Open : Sought → List KeyWalk → Type 0) (ks : List KeyWalk)
    → AreWalks LeadsSomewhere sought (length sought) Open ks → (k : KeyWalk) → In k ks
    → In k.sought sought × LeadsSomewhere k
all_lead sought Open ks a k i =
    elim (in_either k a.over a.last (subst (In k) a.walks i)) [
      | inl j ↦
          let r = each_leads a.done a.over a.are_over k j in
          (subst (In k.sought) a.parts (in_front k.sought a.done a.rest r.0), r.1)
      | inr j ↦ absurd (subst (In k) (a.ended (past_end sought)) j)
    ]

module _ {D : Type 0} (f : FramesValue D) where
  fresh_lies : (o : Option Sought) → WaysLie f (fresh_for o)
  fresh_lies None k i = absurd i
  fresh_lies (Some s) k (inl e) = subst (WayLies f) (sym e) (record { down = tt; leaves = tt; postings = tt })
  fresh_lies (Some s) k (inr i) = absurd i

  both_lie : (ks js : List KeyWalk) → WaysLie f ks → WaysLie f js → WaysLie f (ks ++ js)
  both_lie ks js a b k i = elim (in_either k ks js i) [ inl j ↦ a k j | inr j ↦ b k j ]

  one_lies : (k : KeyWalk) → WayLies f k → WaysLie f (k ∷ [])
  one_lies k l j (inl e) = subst (WayLies f) (sym e) l
  one_lies k l j (inr i) = absurd i

  -- a page more of the walk that is open
  pub last_lies : (w : Walk) (over : List KeyWalk) (k k' : KeyWalk) → w.keys ≡ over ++ k ∷ [] → (WayLies f k
      → WayLies f k')
      → WalkLies f w → WalkLies f (with_last w over k')
  last_lies w over k k' e more l =
      let all : WaysLie f (over ++ k ∷ []) = subst (WaysLie f) e l.ways in record {
        list = l.list;
        leads = l.leads;
        ways = both_lie over (k' ∷ []) (λ j i. all j (in_front j over (k ∷ []) i))
            (one_lies k' (more (all k (in_back k over (k ∷ []) (inl refl)))));
      }

  module _ (w : Sought) (x : Read) (is : IsPage x.content) (lies : Lies f x.page x.content) where
    down_lies : (k : KeyWalk) (n : ℕ) → k.sought ≡ w → HasWay w x.content → WayLies f k → WayLies f (more_down k x n)
    down_lies k n same has l = record {
      down = lying_more f (HasWay k.sought) k.down x l.down is lies
          (subst (λ (u : Sought). HasWay u x.content) (sym same) has);
      leaves = tt;
      postings = tt;
    }

    leaf_lies : (k : KeyWalk) → IsLeaf x.content → WayLies f k → WayLies f (at_leaf k x)
    leaf_lies k has l = record { down = l.down; leaves = ((is, lies, has), tt); postings = tt }

    leaves_lie : (k : KeyWalk) → IsLeaf x.content → WayLies f k → WayLies f (more_leaves k x)
    leaves_lie k has l = record {
      down = l.down;
      leaves = subst (AreLying f IsLeaf) (sym (join k.leaves))
          (lying_more f IsLeaf (map (λ (y : LeafRead). y.leaf) k.leaves) x l.leaves is lies has);
      postings = subst (AreLying f IsPostingPage)
          (sym (flat_map-append (λ (y : LeafRead). tree_reads y.trees) k.leaves (leaf_alone x ∷ [])
          ∙ append-nil (posting_reads k))) l.postings;
    }
      where
        join : (ls : List LeafRead) → map (λ (y : LeafRead). y.leaf) (ls ++ leaf_alone x ∷ [])
            ≡ map (λ (y : LeafRead). y.leaf) ls ++ x ∷ []
        join [] = refl
        join (y ∷ ys) = ap (λ (rs : List Read). y.leaf ∷ rs) (join ys)

  -- ── posting trees ──

  tree_join : (ls : List LeafRead) (leaf : Read) (ts : List (List Read))
      → flat_map (λ (y : LeafRead). tree_reads y.trees) (ls ++ record { leaf = leaf; trees = ts } ∷ [])
      ≡ flat_map (λ (y : LeafRead). tree_reads y.trees) ls ++ tree_reads ts
  tree_join ls leaf ts =
      flat_map-append (λ (y : LeafRead). tree_reads y.trees) ls (record { leaf = leaf; trees = ts } ∷ [])
      ∙ ap (λ (rs : List Read). flat_map (λ (y : LeafRead). tree_reads y.trees) ls ++ rs) (append-nil (tree_reads ts))

  -- with pages more of the last tree
  trees_lie : (k : KeyWalk) (before : List LeafRead) (leaf : Read) (ts us : List (List Read)) (xs : List Read)
      → k.leaves ≡ before ++ record { leaf = leaf; trees = ts } ∷ [] → tree_reads us ≡ tree_reads ts ++ xs
      → (AreLying f IsPostingPage (posting_reads k) → AreLying f IsPostingPage (posting_reads k ++ xs))
      → WayLies f k → WayLies f (with_trees k before leaf us)
  trees_lie k before leaf ts us xs e adds more l = record {
    down = l.down;
    leaves = subst (AreLying f IsLeaf)
        (ap (λ (ls : List LeafRead). map (λ (y : LeafRead). y.leaf) ls) e
        ∙ sym (same_leaves before leaf ts us)) l.leaves;
    postings = subst (AreLying f IsPostingPage)
        (ap (λ (ls : List LeafRead). flat_map (λ (y : LeafRead). tree_reads y.trees) ls ++ xs) e
        ∙ ap (λ (rs : List Read). rs ++ xs) (tree_join before leaf ts)
        ∙ append_assoc (flat_map (λ (y : LeafRead). tree_reads y.trees) before) (tree_reads ts) xs
        ∙ ap (λ (rs : List Read). flat_map (λ (y : LeafRead). tree_reads y.trees) before ++ rs) (sym adds)
        ∙ sym (tree_join before leaf us)) (more l.postings);
  }

  pub begun_lies : (k : KeyWalk) (before : List LeafRead) (leaf : Read) (ts : List (List Read))
      → k.leaves ≡ before ++ record { leaf = leaf; trees = ts } ∷ [] → WayLies f k
      → WayLies f (with_trees k before leaf (ts ++ [] ∷ []))
  begun_lies k before leaf ts e =
      trees_lie k before leaf ts (ts ++ [] ∷ []) [] e (last_tree ts [])
      (λ l. subst (AreLying f IsPostingPage) (sym (append-nil (posting_reads k))) l)

  pub page_lies : (k : KeyWalk) (before : List LeafRead) (leaf : Read) (ts : List (List Read)) (t : List Read)
      (x : Read) → IsPage x.content → Lies f x.page x.content → IsPostingPage x.content
      → k.leaves ≡ before ++ record { leaf = leaf; trees = ts ++ t ∷ [] } ∷ [] → WayLies f k
      → WayLies f (with_trees k before leaf (ts ++ (t ++ x ∷ []) ∷ []))
  page_lies k before leaf ts t x is lies has e =
      trees_lie k before leaf (ts ++ t ∷ []) (ts ++ (t ++ x ∷ []) ∷ []) (x ∷ []) e (trees_then ts t (x ∷ []))
      (λ l. lying_more f IsPostingPage (posting_reads k) x l is lies has)

-- ── steps ──

module _ {D Q : Type 0} (M : Meaning Q) (q : Q) (f f' : FramesValue D) (still : LieStill f f') (s s' : ScanCore) where
  abbrev Tree : FramesValue D → ScanCore → ℕ → ℕ → (Sought → List KeyWalk → Type 0) → Type 0
  Tree g z key left Open = IsOnTree M q g z key left Open

  -- the list was read, and the first walk begins
  pub tree_reached : (page left : ℕ) → IsScan s → AsksFor M q s → s.stage ≡ stage.Pending page left
      → s' ≡ record s { stage = stage.Down 0 1 s.extent } → IsReached M q f s s.stage → IsReached M q f' s' s'.stage
  tree_reached page left is asks at same z =
      let r : ReadsListBy (ListLies f) (M.asked q) s page left = subst (IsReached M q f s) at z in
      subst (λ (x : ScanCore). IsReached M q f' x x.stage) (sym same)
      (tree_still f f' still (M.asked q) (sought_in s) (record s { stage = stage.Down 0 1 s.extent }) 0 s.extent
      (IsGoingDown 1)
      (tree_begun (WalkLies f) LeadsSomewhere (M.asked q) (sought_in s) s (ListLies f) page left
      (stage.Down 0 1 s.extent) r (main_asked M q s is asks) (record {
        list = r.reads;
        leads = (page, r.leads);
        ways = fresh_lies f (slice_get (sought_in s) 0);
      })))

  -- a walk is over, or is given up, and the next one begins
  next_from : (key left : ℕ) (Open : Sought → List KeyWalk → Type 0) (w : Sought)
      → slice_get (sought_in s) key ≡ Some w → s' ≡ record s { stage = stage.Down (suc key) 1 s.extent }
      → (r : Tree f s key left Open) (k : KeyWalk) → r.keys.last ≡ k ∷ [] → k.sought ≡ w → LeadsSomewhere k
      → IsReached M q f' s' s'.stage
  next_from key left Open w here same r k last for leads =
      subst (λ (x : ScanCore). IsReached M q f' x x.stage) (sym same)
      (tree_still f f' still (M.asked q) (sought_in s) (record s { stage = stage.Down (suc key) 1 s.extent }) (suc key)
      s.extent (IsGoingDown 1)
      (next_begun (WalkLies f) LeadsSomewhere (M.asked q) (sought_in s) s key left Open w
      (stage.Down (suc key) 1 s.extent) r k here last for leads (record {
        list = r.so_far.reads.list;
        leads = r.so_far.reads.leads;
        ways = both_lie f r.walk.keys (fresh_for (slice_get (sought_in s) (suc key))) r.so_far.reads.ways
            (fresh_lies f (slice_get (sought_in s) (suc key)));
      })))

  pub next_after_way : (key page left : ℕ) (w : Sought) → slice_get (sought_in s) key ≡ Some w
      → s.stage ≡ stage.Down key page left → s' ≡ record s { stage = stage.Down (suc key) 1 s.extent }
      → IsReached M q f s s.stage → IsReached M q f' s' s'.stage
  next_after_way key page left w here at same z =
      let r : Tree f s key left (IsGoingDown page) = subst (IsReached M q f s) at z in
      let k = one_down page w r.keys.last (r.keys.begun w here) in
      next_from key left (IsGoingDown page) w here same r k.0 k.1 k.2 (page, WayLeads.down k.3)

  pub next_after_leaves : (key page left : ℕ) (w : Sought) → slice_get (sought_in s) key ≡ Some w
      → s.stage ≡ stage.Leaf key page left → s' ≡ record s { stage = stage.Down (suc key) 1 s.extent }
      → IsReached M q f s s.stage → IsReached M q f' s' s'.stage
  next_after_leaves key page left w here at same z =
      let r : Tree f s key left (IsGoingAlong ReadsInTree page) = subst (IsReached M q f s) at z in
      let k = one_along ReadsInTree page w r.keys.last (r.keys.begun w here) in
      next_from key left (IsGoingAlong ReadsInTree page) w here same r k.0 k.1 k.2 (page, WayLeads.along k.3)

  -- pages go further
  pub way_further_reached : (key page more : ℕ) → s.stage ≡ stage.Down key page 0
      → s' ≡ record s { stage = stage.Down key page more; extent = s.extent + more }
      → IsReached M q f s s.stage → IsReached M q f' s' s'.stage
  way_further_reached key page more at same z =
      let r : Tree f s key 0 (IsGoingDown page) = subst (IsReached M q f s) at z in
      subst (λ (x : ScanCore). IsReached M q f' x x.stage) (sym same)
      (tree_still f f' still (M.asked q) (sought_in s)
      (record s { stage = stage.Down key page more; extent = s.extent + more }) key more (IsGoingDown page)
      (keys_further (WalkLies f) LeadsSomewhere (M.asked q) (sought_in s) s key more (IsGoingDown page)
      (stage.Down key page more) r))

  pub leaves_further_reached : (key page more : ℕ) → s.stage ≡ stage.Leaf key page 0
      → s' ≡ record s { stage = stage.Leaf key page more; extent = s.extent + more }
      → IsReached M q f s s.stage → IsReached M q f' s' s'.stage
  leaves_further_reached key page more at same z =
      let r : Tree f s key 0 (IsGoingAlong ReadsInTree page) = subst (IsReached M q f s) at z in
      subst (λ (x : ScanCore). IsReached M q f' x x.stage) (sym same)
      (tree_still f f' still (M.asked q) (sought_in s)
      (record s { stage = stage.Leaf key page more; extent = s.extent + more }) key more (IsGoingAlong ReadsInTree page)
      (keys_further (WalkLies f) LeadsSomewhere (M.asked q) (sought_in s) s key more (IsGoingAlong ReadsInTree page)
      (stage.Leaf key page more) r))

  -- ── a page more ──

  module _ (key page left : ℕ) (w : Sought) (here : slice_get (sought_in s) key ≡ Some w) (c : Page)
      (is_page : IsPage c) (lies : Lies f page c) (more : left ≢ 0) (one : s'.pages_read ≤ suc s.pages_read)
      (rest : s' ≡ record s { main = s'.main; stage = s'.stage; pages_read = s'.pages_read; roots = s'.roots })
      (asks : AsksFor M q s)
      (mid : ScanCore) (mains : s'.main ≡ mid.main) (roots : s'.roots ≡ mid.roots) (extent : mid.extent ≡ s.extent)
    where
      abbrev x : Read
      x = record { length = 0; page = page; content = c }

      read_then : (n : ℕ) (Open : Sought → List KeyWalk → Type 0)
          → ReadsKeysBy (WalkLies f) LeadsSomewhere (M.asked q) (sought_in s) s' key n Open
          → Tree f' s' key n Open
      read_then n Open r =
          subst (λ (ss : List Sought). ReadsKeysBy (WalkLies f') LeadsSomewhere (M.asked q) ss s' key n Open)
          (sym (ap sought_in rest)) (tree_still f f' still (M.asked q) (sought_in s) s' key n Open r)

      noted_as : NotesLeaf s key c mid → (es : List Entry) → AreNotedUnder (M.asked q) es s.main
          → AreNotedUnder (M.asked q) (es ++ entries_with (fits w) (entries_of c)) s'.main
      noted_as notes =
          subst₂ (λ (asked : List Asked) (m : Hits). (es : List Entry) → AreNotedUnder asked es s.main
          → AreNotedUnder asked (es ++ entries_with (fits w) (entries_of c)) m) asks.asked (sym mains) (notes w here).0

      -- after a leaf its posting trees come, and then the leaf that is next
      after_leaf : NotesLeaf s key c mid
          → GoesToTree mid key (length s.roots.items) (beyond w c) (s.extent - (left - 1)) s'.stage
          → ReadsKeysBy (WalkLies f) LeadsSomewhere (M.asked q) (sought_in s) s' key (left - 1)
          (IsGoingToTrees ReadsInTree (trees_on w (entries_of c)) (beyond w c)) → IsReached M q f' s' s'.stage
      after_leaf notes goes r =
          let same : s'.extent ≡ s.extent = ap (λ (z : ScanCore). z.extent) rest in
          let few : left - 1 ≤ s'.extent = omega (arith, r.left_is) in
          goes_on (WalkLies f) LeadsSomewhere ReadsInTree (M.asked q) (sought_in s) s' key (left - 1)
          (length s.roots.items) (beyond w c) (s.extent - (left - 1)) w here s'.stage (IsReached M q f' s')
          (λ a. read_then (s'.extent - (s.extent - (left - 1))) (IsGoingAlong ReadsInTree (beyond w c)) a)
          (λ t a. (
            a.0,
            read_then (s'.extent - (s.extent - (left - 1)))
                (IsGoingInTrees ReadsInTree t.root s'.extent s'.extent (trees_from (length s.roots.items) s')
                (beyond w c)) a.1,
          ))
          (omega (arith, same)) (omega (arith, same, few)) (trees_on w (entries_of c))
          (named_from s mid w c (notes w here).1
          ∙ ap (λ (ts : Vec TreeRoot Global). drop (length s.roots.items) (trees_of ts.items)) (sym roots)) r
          (λ over k before leaf ts e is. last_lies f r.walk over k (with_trees k before leaf (ts ++ [] ∷ [])) e
          (begun_lies f k before leaf ts is) r.so_far.reads)
          (goes_as mid s' key (length s.roots.items) (beyond w c) (s.extent - (left - 1)) s'.stage roots
          (same ∙ sym extent) goes)

      pub way_reached : s.stage ≡ stage.Down key page left → HasWay w c → GoesOn s key (left - 1) w c mid s'.stage
          → IsReached M q f s s.stage → IsReached M q f' s' s'.stage
      way_reached at has goes z = elim goes [
        | inl g ↦
            let n = toward (first_key w) c in
            subst (IsReached M q f' s') (sym g.0) (read_then (left - 1) (IsGoingDown n)
            (way_read (WalkLies f) LeadsSomewhere (M.asked q) (sought_in s) s s' key
            (left - 1) w here x one rest page refl
            r g.1 (mains ∙ ap (λ (y : ScanCore). y.main) g.2)
            (λ over k e same on. last_lies f r.walk over k (more_down k x n) e
            (down_lies f w x is_page lies k n same has)
            r.so_far.reads)))
        | inr g ↦
            after_leaf g.1 g.2
            (end_read (WalkLies f) LeadsSomewhere (M.asked q) (sought_in s) s s' key (left - 1) w here x one rest
            ReadsInTree (noted_as g.1) page refl r g.0
            (λ over k e same on. last_lies f r.walk over k (at_leaf k x) e
            (leaf_lies f w x is_page lies k (has_way w c has g.0)) r.so_far.reads))
      ]
        where
          r : Tree f s key (suc (left - 1)) (IsGoingDown page)
          r = subst (λ (n : ℕ). Tree f s key n (IsGoingDown page)) (one_less left more) (subst (IsReached M q f s) at z)

      pub leaf_reached : s.stage ≡ stage.Leaf key page left → page ≢ 0 → IsLeaf c → NotesLeaf s key c mid
          → GoesToTree mid key (length s.roots.items) (beyond w c) (s.extent - (left - 1)) s'.stage
          → IsReached M q f s s.stage → IsReached M q f' s' s'.stage
      leaf_reached at some leaf notes goes z =
          let r = subst (λ (n : ℕ). Tree f s key n (IsGoingAlong ReadsInTree page)) (one_less left more)
          (subst (IsReached M q f s) at z) in
          after_leaf notes goes
          (leaf_more (WalkLies f) LeadsSomewhere (M.asked q) (sought_in s) s s' key (left - 1) w here x one rest
          ReadsInTree (noted_as notes) page refl some r
          (λ over k e same among. last_lies f r.walk over k (more_leaves k x) e
          (leaves_lie f w x is_page lies k leaf) r.so_far.reads))

-- ── judged ──

-- of each leaf of a walk that leads somewhere the trees were read somewhere
leaf_trees : (s : Sought) (p q : ℕ) (ls : List LeafRead) → LeavesLead ReadsInTree s p ls q → (l : LeafRead) → In l ls
    → AreOfTrees ReadsInTree (trees_on s (entries_of l.leaf.content)) l.trees
leaf_trees s p q [] d l i = absurd i
leaf_trees s p q (m ∷ ls) d l (inl e) =
    subst (λ (z : LeafRead). AreOfTrees ReadsInTree (trees_on s (entries_of z.leaf.content)) z.trees) (sym e) d.2
leaf_trees s p q (m ∷ ls) d l (inr i) = leaf_trees s (beyond s m.leaf.content) q ls d.3 l i

lead_trees : (k : KeyWalk) → LeadsSomewhere k → (l : LeafRead) → In l k.leaves
    → AreOfTrees ReadsInTree (trees_on k.sought (entries_of l.leaf.content)) l.trees
lead_trees k (p, WayLeads.down on) l i = absurd (subst (In l) on.none i)
lead_trees k (p, WayLeads.along among) l i = leaf_trees k.sought k.leaf p k.leaves among.leaves l i

pub judged_reached : {D Q : Type 0} (M : Meaning Q) (S : JudgeIsSound M) (q : Q) (f : FramesValue D) (s s' : ScanCore)
    (left : ℕ) (Open : Sought → List KeyWalk → Type 0) → AsksFor M q s
    → IsOnTree M q f s (length (sought_in s)) left Open → JudgesAll M q s s' → IsReached M q f s' (stage.Heads 0)
judged_reached M S q f s s' left Open asks r j = (
  record {
    walk = r.walk;
    page = r.so_far.reads.leads.0;
    leads = subst (λ (z : ScanCore). WalkLeads f (sought_in z) r.walk r.so_far.reads.leads.0) (sym j.rest) (record {
      list = record {
        meta_page = r.so_far.meta_page;
        leads = r.so_far.reads.leads.1;
        lie = r.so_far.reads.list;
      };
      ways = r.so_far.reads.ways;
      each = all_lead (sought_in s) Open r.walk.keys r.keys;
    });
    kept = kept_all M q S s s' (WalkLies f) asks r.walk ReadsInTree
        (λ k l i j'. lead_trees k (all_lead (sought_in s) Open r.walk.keys r.keys k i).1 l j') r.so_far j;
  },
  (λ l i. absurd (subst (In l) (ap (λ (z : ScanCore). z.long.items) j.rest ∙ r.so_far.unjudged.long) i)),
)
