-- A step through the tree: what was read, and what is noted, grows by one page, or the next walk begins.
use Rattle.std.proofs.Common.{◌≡◌, ◌≢◌, ℕ, suc, ◌+◌, ◌≤◌, List, [], ◌∷◌, ◌++◌, length, map, Option, None}
use Rattle.std.proofs.Common.{Some}
use Rattle.std.proofs.Common.{refl, sym, ap, subst, ◌∙◌, arith, slice_get, length-append, append-nil}
use Rattle.std.specs.List.{flat_map}
use Rattle.page_types.specs.Views.{entries_of}
use Rattle.page_types.specs.declared.page.Entry.{Entry}
use Rattle.core_state.specs.Readings.{Read}
use Rattle.gin_opclass.specs.Class.{Asked}
use Rattle.core_moments.specs.Walk.{Walk, KeyWalk, LeafRead, Sought, toward, beyond, first_key, fits, reads_of}
use Rattle.core_moments.specs.Walk.{leaf_reads}
use Rattle.core_moments.specs.Law.{path_of}
use Rattle.gin_hits.specs.Rows.{lists_of}
use Rattle.gin_hits.specs.Entries.{entries_with, entries_read, AreNotedUnder}
use Rattle.gin_hits.specs.declared.hits.Hits.{Hits}
use Rattle.gin_scan.specs.Ways.{IsGoingDown, IsGoingAlong}
use Rattle.core_moments.specs.OpenWalk.{IsOnWay, IsAmongLeaves, trees_on}
use Rattle.gin_scan.specs.Reading.{IsUnjudged, ReadsListBy, ReadsKeysBy}
use Rattle.gin_scan.specs.declared.scan_core.ScanCore.{ScanCore}
use Rattle.gin_scan.specs.declared.stage.Stage.{Stage}
use Rattle.gin_scan.proofs.BegunWalks.{fresh_for, first_walk, first_last, next_walk, next_last}
use Rattle.gin_scan.proofs.BegunWalks.{fresh_reads, fresh_entries}
use Rattle.gin_scan.proofs.ListRead.{lists_none}
use Rattle.gin_scan.proofs.AtTrees.{IsGoingToTrees}
use Rattle.gin_scan.proofs.WaySteps.{IsAtTrees}
use Rattle.gin_scan.proofs.WaySteps.{more_down, at_leaf, more_leaves, leaf_alone, goes_down, comes_to_leaf, goes_along}
use Rattle.gin_scan.proofs.WaySteps.{down_reads, leaf_read, leaves_read, entries_down, entries_at_leaf, entries_along}
use Rattle.gin_scan.proofs.WaysRead.{one_down, one_along, with_last, next_read}

-- ── the walks that are open ──

-- what was read of the list, and the first walk
abbrev pub first_on : Read → List Read → List Sought → Walk
first_on meta pending sought =
    record { meta = meta; pending = pending; keys = fresh_for (slice_get sought 0) }

-- what was read, and the walk after this one
abbrev pub next_on : Walk → List Sought → ℕ → Walk
next_on w sought key =
    record { meta = w.meta; pending = w.pending; keys = w.keys ++ fresh_for (slice_get sought (suc key)) }

pub first_reads : (meta : Read) (pending : List Read) (sought : List Sought)
    → reads_of (first_on meta pending sought) ≡ meta ∷ pending
first_reads meta pending sought =
    ap (λ (rs : List Read). meta ∷ (pending ++ rs)) (fresh_reads [] (slice_get sought 0))
    ∙ ap (λ (rs : List Read). meta ∷ rs) (append-nil pending)

pub next_reads : (w : Walk) (sought : List Sought) (key : ℕ) → reads_of (next_on w sought key) ≡ reads_of w
next_reads w sought key =
    ap (λ (rs : List Read). w.meta ∷ (w.pending ++ rs)) (fresh_reads w.keys (slice_get sought (suc key)))

no_path : (o : Option Sought) → length (flat_map path_of (fresh_for o)) ≡ 0
no_path None = refl
no_path (Some s) = refl

module _ (WereRead : Walk → Type 0) (IsOver : KeyWalk → Type 0) (asked : List Asked) (sought : List Sought)
    (s : ScanCore) where
  -- the list is read, and the first walk begins
  pub tree_begun : (WereList : List Read → Type 0) (page left : ℕ) (z : Stage)
      (r : ReadsListBy WereList asked s page left)
      → length (lists_of s.main) ≡ length asked → WereRead (first_on r.meta r.pending sought)
      → ReadsKeysBy WereRead IsOver asked sought (record s { stage = z }) 0 s.extent (IsGoingDown 1)
  tree_begun WereList page left z r count were =
      let none : entries_read (fresh_for (slice_get sought 0)) ≡ [] = fresh_entries [] (slice_get sought 0) in record {
        walk = first_on r.meta r.pending sought;
        so_far = record {
          meta_page = r.meta_page;
          reads = were;
          noted = r.noted;
          first = r.first;
          noted_tree = subst (λ (es : List Entry). AreNotedUnder asked es s.main) (sym none)
              (record { any = r.main.any; by_key = lists_none (lists_of s.main) asked r.main.by_key count });
          unjudged = record {
            kept = r.unjudged.kept;
            long = r.unjudged.long;
            names = r.unjudged.names;
            heads_read = r.unjudged.heads_read;
          };
          pages_read = omega (arith, r.pages_read, ap length (first_reads r.meta r.pending sought));
        };
        keys = first_walk IsOver sought;
        left_is = omega (
          arith,
          ap (λ (ks : List KeyWalk). length (flat_map path_of ks)) (first_last IsOver sought)
              ∙ no_path (slice_get sought 0),
        );
      }

  -- a walk is over, and the next one begins
  pub next_begun : (key left : ℕ) (Open : Sought → List KeyWalk → Type 0) (w : Sought) (z : Stage)
      (r : ReadsKeysBy WereRead IsOver asked sought s key left Open) (k : KeyWalk) → slice_get sought key ≡ Some w
      → r.keys.last ≡ k ∷ [] → k.sought ≡ w → IsOver k → WereRead (next_on r.walk sought key)
      → ReadsKeysBy WereRead IsOver asked sought (record s { stage = z }) (suc key) s.extent (IsGoingDown 1)
  next_begun key left Open w z r k here last same over were =
      let more : entries_read (next_on r.walk sought key).keys ≡ entries_read r.walk.keys =
      fresh_entries r.walk.keys (slice_get sought (suc key)) in record {
        walk = next_on r.walk sought key;
        so_far = record {
          meta_page = r.so_far.meta_page;
          reads = were;
          noted = r.so_far.noted;
          first = r.so_far.first;
          noted_tree = subst (λ (es : List Entry). AreNotedUnder asked es s.main) (sym more) r.so_far.noted_tree;
          unjudged = record {
            kept = r.so_far.unjudged.kept;
            long = r.so_far.unjudged.long;
            names = r.so_far.unjudged.names;
            heads_read = r.so_far.unjudged.heads_read;
          };
          pages_read = omega (arith, r.so_far.pages_read, ap length (next_reads r.walk sought key));
        };
        keys = next_walk IsOver sought key w Open r.walk.keys r.keys k here last same over;
        left_is = omega (
          arith,
          ap (λ (ks : List KeyWalk). length (flat_map path_of ks))
              (next_last IsOver sought key w Open r.walk.keys r.keys k here last same over)
              ∙ no_path (slice_get sought (suc key)),
        );
      }

  -- pages go further
  pub keys_further : (key more : ℕ) (Open : Sought → List KeyWalk → Type 0) (z : Stage)
      → ReadsKeysBy WereRead IsOver asked sought s key 0 Open
      → ReadsKeysBy WereRead IsOver asked sought (record s { stage = z; extent = s.extent + more }) key more Open
  keys_further key more Open z r = record {
    walk = r.walk;
    so_far = record {
      meta_page = r.so_far.meta_page;
      reads = r.so_far.reads;
      noted = r.so_far.noted;
      first = r.so_far.first;
      noted_tree = r.so_far.noted_tree;
      unjudged = record {
        kept = r.so_far.unjudged.kept;
        long = r.so_far.unjudged.long;
        names = r.so_far.unjudged.names;
        heads_read = r.so_far.unjudged.heads_read;
      };
      pages_read = r.so_far.pages_read;
    };
    keys = r.keys;
    left_is = omega (arith, r.left_is);
  }

-- ── a page more ──

down_path : (k : KeyWalk) (x : Read) (next : ℕ) → k.leaves ≡ []
    → length (path_of (more_down k x next)) ≡ suc (length (path_of k))
down_path k x next none =
    let old : length (path_of k) ≡ length k.down =
    ap (λ (ls : List LeafRead). length (k.down ++ map (λ (l : LeafRead). l.leaf) ls)) none
    ∙ ap length (append-nil k.down) in
    let new : length (path_of (more_down k x next)) ≡ length (k.down ++ x ∷ []) =
    ap length (append-nil (k.down ++ x ∷ [])) in
    omega (arith, old, new, length-append k.down (x ∷ []))

leaf_path : (k : KeyWalk) (x : Read) → k.leaves ≡ [] → length (path_of (at_leaf k x)) ≡ suc (length (path_of k))
leaf_path k x none =
    let old : length (path_of k) ≡ length k.down =
    ap (λ (ls : List LeafRead). length (k.down ++ map (λ (l : LeafRead). l.leaf) ls)) none
    ∙ ap length (append-nil k.down) in
    omega (arith, old, length-append k.down (x ∷ []))

leaves_join : (ls : List LeafRead) (x : Read)
    → length (map (λ (l : LeafRead). l.leaf) (ls ++ leaf_alone x ∷ []))
    ≡ suc (length (map (λ (l : LeafRead). l.leaf) ls))
leaves_join [] x = refl
leaves_join (l ∷ ls) x = ap suc (leaves_join ls x)

leaves_path : (k : KeyWalk) (x : Read) → length (path_of (more_leaves k x)) ≡ suc (length (path_of k))
leaves_path k x =
    omega (
      arith,
      length-append k.down (map (λ (l : LeafRead). l.leaf) (k.leaves ++ leaf_alone x ∷ [])),
      length-append k.down (map (λ (l : LeafRead). l.leaf) k.leaves),
      leaves_join k.leaves x,
    )

module _ (WereRead : Walk → Type 0) (IsOver : KeyWalk → Type 0) (asked : List Asked) (sought : List Sought)
    (s s' : ScanCore) (key left : ℕ) (w : Sought) (here : slice_get sought key ≡ Some w) (x : Read)
    (one : s'.pages_read ≤ suc s.pages_read)
    (rest : s' ≡ record s { main = s'.main; stage = s'.stage; pages_read = s'.pages_read; roots = s'.roots }) where
  unjudged_still : IsUnjudged s → IsUnjudged s'
  unjudged_still u =
      subst IsUnjudged (sym rest)
      (record { kept = u.kept; long = u.long; names = u.names; heads_read = u.heads_read })

  page_more : (Open Open' : Sought → List KeyWalk → Type 0)
      (r : ReadsKeysBy WereRead IsOver asked sought s key (suc left) Open) (k k' : KeyWalk) → r.keys.last ≡ k ∷ []
      → Open' w (k' ∷ [])
      → k'.down ++ leaf_reads k'.leaves ≡ (k.down ++ leaf_reads k.leaves) ++ x ∷ []
      → length (path_of k') ≡ suc (length (path_of k)) → WereRead (with_last r.walk r.keys.over k')
      → AreNotedUnder asked (entries_read (r.keys.over ++ k' ∷ [])) s'.main
      → ReadsKeysBy WereRead IsOver asked sought s' key left Open'
  page_more Open Open' r k k' last on more path were noted =
      next_read WereRead IsOver asked sought s s' key (suc left) left w here Open Open' r k k' (x ∷ []) last on more
      (omega (arith, path)) were
      (ap (λ (z : ScanCore). z.pending) rest) (ap (λ (z : ScanCore). z.first_item) rest)
      (ap (λ (z : ScanCore). z.extent) rest) (unjudged_still r.so_far.unjudged) noted (omega (arith, one))

  -- what of the tree has been read so far
  keys_are : (Open : Sought → List KeyWalk → Type 0)
      (r : ReadsKeysBy WereRead IsOver asked sought s key (suc left) Open) (k : KeyWalk) → r.keys.last ≡ k ∷ []
      → r.walk.keys ≡ r.keys.over ++ k ∷ []
  keys_are Open r k last = r.keys.walks ∙ ap (λ (ks : List KeyWalk). r.keys.over ++ ks) last

  -- a page on the way of a key
  pub way_read : (page : ℕ) → x.page ≡ page
      → (r : ReadsKeysBy WereRead IsOver asked sought s key (suc left) (IsGoingDown page))
      → toward (first_key w) x.content ≢ 0 → s'.main ≡ s.main
      → ((over : List KeyWalk) (k : KeyWalk) → r.walk.keys ≡ over ++ k ∷ [] → k.sought ≡ w → IsOnWay k page
      → WereRead (with_last r.walk over (more_down k x (toward (first_key w) x.content))))
      → ReadsKeysBy WereRead IsOver asked sought s' key left (IsGoingDown (toward (first_key w) x.content))
  way_read page at r some same were =
      let o = one_down page w r.keys.last (r.keys.begun w here) in
      let k = o.0 in
      let n = toward (first_key w) x.content in
      let e = keys_are (IsGoingDown page) r k o.1 in
      let adds = ap entries_read e ∙ sym (entries_down r.keys.over k x n o.3.none) in
      page_more (IsGoingDown page) (IsGoingDown n) r k (more_down k x n) o.1
      (IsGoingDown.on_way (more_down k x n) o.2 (subst (λ (u : Sought).
      IsOnWay (more_down k x (toward (first_key u) x.content)) (toward (first_key u) x.content)) o.2
      (goes_down k page x o.3 at
      (λ z. some (ap (λ (u : Sought). toward (first_key u) x.content) (sym o.2) ∙ z)))))
      (down_reads k x n o.3.none) (down_path k x n o.3.none) (were r.keys.over k e o.2 o.3)
      (subst (λ (m : Hits). AreNotedUnder asked (entries_read (r.keys.over ++ more_down k x n ∷ [])) m) (sym same)
      (subst (λ (es : List Entry). AreNotedUnder asked es s.main) adds r.so_far.noted_tree))

  module _ (Is : ℕ → List Read → Type 0) (noted : (es : List Entry) → AreNotedUnder asked es s.main
      → AreNotedUnder asked (es ++ entries_with (fits w) (entries_of x.content)) s'.main) where
    -- the leaf of the key
    pub end_read : (page : ℕ) → x.page ≡ page
        → (r : ReadsKeysBy WereRead IsOver asked sought s key (suc left) (IsGoingDown page))
        → toward (first_key w) x.content ≡ 0
        → ((over : List KeyWalk) (k : KeyWalk) → r.walk.keys ≡ over ++ k ∷ [] → k.sought ≡ w → IsOnWay k page
        → WereRead (with_last r.walk over (at_leaf k x)))
        → ReadsKeysBy WereRead IsOver asked sought s' key left
        (IsGoingToTrees Is (trees_on w (entries_of x.content)) (beyond w x.content))
    end_read page at r end were =
        let o = one_down page w r.keys.last (r.keys.begun w here) in
        let k = o.0 in
        let n = beyond w x.content in
        let e = keys_are (IsGoingDown page) r k o.1 in
        let adds : entries_read (r.keys.over ++ at_leaf k x ∷ [])
        ≡ entries_read r.walk.keys ++ entries_with (fits w) (entries_of x.content) =
        entries_at_leaf r.keys.over k x o.3.none
        ∙ ap (λ (u : Sought). entries_read (r.keys.over ++ k ∷ []) ++ entries_with (fits u) (entries_of x.content)) o.2
        ∙ ap (λ (ks : List KeyWalk). entries_read ks ++ entries_with (fits w) (entries_of x.content)) (sym e) in
        page_more (IsGoingDown page) (IsGoingToTrees Is (trees_on w (entries_of x.content)) n) r k (at_leaf k x) o.1
        (IsGoingToTrees.at_trees (at_leaf k x) o.2
        (subst (λ (u : Sought). IsAtTrees Is (at_leaf k x) (trees_on u (entries_of x.content)) (beyond u x.content)) o.2
        (comes_to_leaf Is k page x o.3 at (ap (λ (u : Sought). toward (first_key u) x.content) o.2 ∙ end))))
        (leaf_read k x o.3.none) (leaf_path k x o.3.none) (were r.keys.over k e o.2 o.3)
        (subst (λ (es : List Entry). AreNotedUnder asked es s'.main) (sym adds)
        (noted (entries_read r.walk.keys) r.so_far.noted_tree))

    -- a leaf after it
    pub leaf_more : (page : ℕ) → x.page ≡ page → page ≢ 0
        → (r : ReadsKeysBy WereRead IsOver asked sought s key (suc left) (IsGoingAlong Is page))
        → ((over : List KeyWalk) (k : KeyWalk) → r.walk.keys ≡ over ++ k ∷ [] → k.sought ≡ w → IsAmongLeaves Is k page
        → WereRead (with_last r.walk over (more_leaves k x)))
        → ReadsKeysBy WereRead IsOver asked sought s' key left
        (IsGoingToTrees Is (trees_on w (entries_of x.content)) (beyond w x.content))
    leaf_more page at some r were =
        let o = one_along Is page w r.keys.last (r.keys.begun w here) in
        let k = o.0 in
        let n = beyond w x.content in
        let e = keys_are (IsGoingAlong Is page) r k o.1 in
        let adds : entries_read (r.keys.over ++ more_leaves k x ∷ [])
        ≡ entries_read r.walk.keys ++ entries_with (fits w) (entries_of x.content) =
        entries_along r.keys.over k x
        ∙ ap (λ (u : Sought). entries_read (r.keys.over ++ k ∷ []) ++ entries_with (fits u) (entries_of x.content)) o.2
        ∙ ap (λ (ks : List KeyWalk). entries_read ks ++ entries_with (fits w) (entries_of x.content)) (sym e) in
        page_more (IsGoingAlong Is page) (IsGoingToTrees Is (trees_on w (entries_of x.content)) n) r k (more_leaves k x)
        o.1
        (IsGoingToTrees.at_trees (more_leaves k x) o.2
        (subst (λ (u : Sought). IsAtTrees Is (more_leaves k x) (trees_on u (entries_of x.content)) (beyond u x.content))
        o.2 (goes_along Is k page x o.3 some at)))
        (leaves_read k x) (leaves_path k x) (were r.keys.over k e o.2 o.3)
        (subst (λ (es : List Entry). AreNotedUnder asked es s'.main) (sym adds)
        (noted (entries_read r.walk.keys) r.so_far.noted_tree))
