-- Walks through the tree go on through the posting trees of a leaf.
use Rattle.std.proofs.Common.{◌≡◌, ◌≢◌, ℕ, zero, suc, ◌+◌, ◌-◌, ◌<◌, ◌≤◌, List, [], ◌∷◌, ◌++◌, length, drop, Some}
use Rattle.std.proofs.Common.{refl, sym, ap, subst, ◌∙◌, inl, inr, arith, slice_get, length-append}
use Rattle.std.proofs.lemmas.List.{length-map}
use Rattle.std.proofs.lemmas.Option.{same_Some}
use Rattle.page_types.specs.declared.page.Entry.{Entry}
use Rattle.core_state.specs.Readings.{Read}
use Rattle.gin_opclass.specs.Class.{Asked}
use Rattle.core_moments.specs.Walk.{Walk, KeyWalk, LeafRead, Sought, along}
use Rattle.core_moments.specs.OpenWalk.{NamedTree, LeadOn}
use Rattle.gin_hits.specs.Entries.{entries_read, posting_entry, AreNotedUnder}
use Rattle.gin_hits.specs.Trees.{named_by}
use Rattle.gin_hits.proofs.JudgedScan.{element_at}
use Rattle.gin_scan.specs.Reading.{IsUnjudged, ReadsKeysBy}
use Rattle.gin_scan.specs.Scanning.{trees_in, trees_from}
use Rattle.gin_scan.specs.Ways.{IsGoingAlong, IsGoingInTrees}
use Rattle.gin_scan.specs.Inner.Ways.{GoesToTree}
use Rattle.gin_scan.specs.declared.scan_core.ScanCore.{ScanCore}
use Rattle.gin_scan.specs.declared.stage.Stage.{Stage}
use Rattle.gin_scan.specs.declared.stage.Stage.TheVariants as stage
use Rattle.gin_scan.proofs.WaySteps.{IsAtTrees}
use Rattle.gin_scan.proofs.WayTrees.{with_trees, all_trees, begins_tree, more_in_tree, ends_tree}
use Rattle.gin_scan.proofs.WayTrees.{begun_reads, more_reads, same_path, begun_entries, more_entries}
use Rattle.gin_scan.proofs.WaysRead.{one_in_trees, with_last, next_read}

-- the open walk has read leaves, and posting trees of the last one: these are left, and then this leaf
pub data IsGoingToTrees (Is : ℕ → List Read → Type 0) (rest : List NamedTree) (next : ℕ) (s : Sought)
    : List KeyWalk → Type 0 where
  at_trees : (w : KeyWalk) → w.sought ≡ s → IsAtTrees Is w rest next → IsGoingToTrees Is rest next s (w ∷ [])

one_at_trees : (Is : ℕ → List Read → Type 0) (rest : List NamedTree) (next : ℕ) (w : Sought) (ks : List KeyWalk)
    → IsGoingToTrees Is rest next w ks
    → (k : KeyWalk) × (ks ≡ k ∷ []) × (k.sought ≡ w) × IsAtTrees Is k rest next
one_at_trees Is rest next w ks (IsGoingToTrees.at_trees k e a) = (k, refl, e, a)

-- ── the trees that a scan has noted ──

drop_at : {A : Type 0} (xs : List A) (n : ℕ) (x : A) → slice_get xs n ≡ Some x → drop n xs ≡ x ∷ drop (suc n) xs
drop_at [] n x e = absurd (let z : ⊥ = cc in z)
drop_at (y ∷ ys) zero x e = ap (λ (z : _). z ∷ ys) (same_Some y x e)
drop_at (y ∷ ys) (suc n) x e = drop_at ys n x e

-- the first tree from a number on
pub first_from : (s : ScanCore) (at : ℕ) → at < length s.roots.items
    → (t : NamedTree) × (trees_from at s ≡ t ∷ trees_from (suc at) s)
first_from s at less =
    let e = element_at (trees_in s) at (omega (arith, less, length-map s.roots.items named_by)) in
    (e.0, drop_at (trees_in s) at e.0 e.1)

-- the first of those from a number on has this number
pub at_drop : {A : Type 0} (xs : List A) (n : ℕ) (x : A) (ys : List A) → drop n xs ≡ x ∷ ys → slice_get xs n ≡ Some x
at_drop [] zero x ys e = absurd (let z : ⊥ = cc in z)
at_drop [] (suc n) x ys e = absurd (let z : ⊥ = cc in z)
at_drop (y ∷ zs) zero x ys e = ap Some (let z : y ≡ x = cc in z)
at_drop (y ∷ zs) (suc n) x ys e = at_drop zs n x ys e

drop_past : {A : Type 0} (xs : List A) (n : ℕ) → length xs ≤ n → drop n xs ≡ []
drop_past [] zero le = refl
drop_past [] (suc n) le = refl
drop_past (y ∷ ys) zero le = absurd (omega (arith, le))
drop_past (y ∷ ys) (suc n) le = drop_past ys n (omega (arith, le))

module _ (WereRead : Walk → Type 0) (IsOver : KeyWalk → Type 0) (Is : ℕ → List Read → Type 0) (asked : List Asked)
    (sought : List Sought) where
  -- the walk is open in another way
  reopened : (s : ScanCore) (key left : ℕ) (w : Sought) → slice_get sought key ≡ Some w
      → (Open Open' : Sought → List KeyWalk → Type 0) → ((ks : List KeyWalk) → Open w ks → Open' w ks)
      → ReadsKeysBy WereRead IsOver asked sought s key left Open
      → ReadsKeysBy WereRead IsOver asked sought s key left Open'
  reopened s key left w here Open Open' to r = record {
    walk = r.walk;
    so_far = r.so_far;
    keys = record {
      done = r.keys.done;
      rest = r.keys.rest;
      parts = r.keys.parts;
      count = r.keys.count;
      over = r.keys.over;
      are_over = r.keys.are_over;
      last = r.keys.last;
      walks = r.keys.walks;
      begun = λ t e. subst (λ (u : Sought). Open' u r.keys.last) (same_Some w t (sym here ∙ e))
          (to r.keys.last (r.keys.begun w here));
      ended = r.keys.ended;
    };
    left_is = r.left_is;
  }

  -- the scan is at another stage, and its pages go further
  pub restaged : (s : ScanCore) (z : Stage) (key left more : ℕ) (Open : Sought → List KeyWalk → Type 0)
      → ReadsKeysBy WereRead IsOver asked sought s key left Open
      → ReadsKeysBy WereRead IsOver asked sought (record s { stage = z; extent = s.extent + more }) key (left + more)
      Open
  restaged s z key left more Open r = record {
    walk = r.walk;
    so_far = record {
      meta_page = r.so_far.meta_page;
      reads = r.so_far.reads;
      noted = r.so_far.noted;
      first = r.so_far.first;
      noted_tree = r.so_far.noted_tree;
      unjudged = record {
        kept = r.so_far.unjudged.kept;
        long = r.so_far.unjudged.long;
        names = r.so_far.unjudged.names;
        heads_read = r.so_far.unjudged.heads_read;
      };
      pages_read = r.so_far.pages_read;
    };
    keys = r.keys;
    left_is = omega (arith, r.left_is);
  }

  -- the scan is at another stage
  pub staged : (s : ScanCore) (z : Stage) (key left : ℕ) (Open : Sought → List KeyWalk → Type 0)
      → ReadsKeysBy WereRead IsOver asked sought s key left Open
      → ReadsKeysBy WereRead IsOver asked sought (record s { stage = z }) key left Open
  staged s z key left Open r = record {
    walk = r.walk;
    so_far = record {
      meta_page = r.so_far.meta_page;
      reads = r.so_far.reads;
      noted = r.so_far.noted;
      first = r.so_far.first;
      noted_tree = r.so_far.noted_tree;
      unjudged = record {
        kept = r.so_far.unjudged.kept;
        long = r.so_far.unjudged.long;
        names = r.so_far.unjudged.names;
        heads_read = r.so_far.unjudged.heads_read;
      };
      pages_read = r.so_far.pages_read;
    };
    keys = r.keys;
    left_is = r.left_is;
  }

  -- the page count of a tree goes further with the extent
  pub tree_further : (s : ScanCore) (z : Stage) (key left more page : ℕ) (w : Sought) → slice_get sought key ≡ Some w
      → (trees : List NamedTree) (next : ℕ)
      → ReadsKeysBy WereRead IsOver asked sought s key left (IsGoingInTrees Is page 0 s.extent trees next)
      → ReadsKeysBy WereRead IsOver asked sought (record s { stage = z; extent = s.extent + more }) key (left + more)
      (IsGoingInTrees Is page more (s.extent + more) trees next)
  tree_further s z key left more page w here trees next r =
      restaged s z key left more (IsGoingInTrees Is page more (s.extent + more) trees next)
      (reopened s key left w here (IsGoingInTrees Is page 0 s.extent trees next)
      (IsGoingInTrees Is page more (s.extent + more) trees next)
      (λ ks o. let k = one_in_trees Is page 0 s.extent trees next w ks o in
      subst (IsGoingInTrees Is page more (s.extent + more) trees next w) (sym k.1)
      (IsGoingInTrees.in_trees k.0 k.2 k.3 k.4 k.5 (let sum = k.6 in omega (arith, sum)))) r)

  -- a tree is over
  pub tree_ended : (s : ScanCore) (key left page l extent : ℕ) (w : Sought) → slice_get sought key ≡ Some w
      → (trees rest : List NamedTree) (next : ℕ) (first : NamedTree) → trees ≡ first ∷ rest
      → ((r : ℕ) (t : List Read) → LeadOn along r t page → Is r t)
      → ReadsKeysBy WereRead IsOver asked sought s key left (IsGoingInTrees Is page l extent trees next)
      → ReadsKeysBy WereRead IsOver asked sought s key left (IsGoingToTrees Is rest next)
  tree_ended s key left page l extent w here trees rest next first e over r =
      reopened s key left w here (IsGoingInTrees Is page l extent trees next) (IsGoingToTrees Is rest next)
      (λ ks o. let k = one_in_trees Is page l extent trees next w ks o in
      subst (IsGoingToTrees Is rest next w) (sym k.1)
      (IsGoingToTrees.at_trees k.0 k.2
      (subst (λ (ts : List NamedTree). IsAtTrees Is k.0 ts next) (tails k.4.tree first k.3 rest (sym k.5 ∙ e))
      (ends_tree Is k.0 next page k.3 k.4 (over k.4.tree.root k.4.last k.4.leads))))) r
    where
      tails : (a b : NamedTree) (as' bs : List NamedTree) → a ∷ as' ≡ b ∷ bs → as' ≡ bs
      tails a b as' bs h = cc

  -- after all trees of a leaf the next leaf is read
  goes_to_leaf : (s : ScanCore) (key left : ℕ) (w : Sought) → slice_get sought key ≡ Some w → (next : ℕ)
      → ReadsKeysBy WereRead IsOver asked sought s key left (IsGoingToTrees Is [] next)
      → ReadsKeysBy WereRead IsOver asked sought s key left (IsGoingAlong Is next)
  goes_to_leaf s key left w here next r =
      reopened s key left w here (IsGoingToTrees Is [] next) (IsGoingAlong Is next)
      (λ ks o. let k = one_at_trees Is [] next w ks o in
      subst (IsGoingAlong Is next w) (sym k.1)
      (IsGoingAlong.among_leaves k.0 k.2 (all_trees Is k.0 next k.3))) r

  module _ (s s' : ScanCore) (key left : ℕ) (w : Sought) (here : slice_get sought key ≡ Some w)
      (rest : s' ≡ record s { main = s'.main; stage = s'.stage; pages_read = s'.pages_read }) where
    unjudged_still : IsUnjudged s → IsUnjudged s'
    unjudged_still u =
        subst IsUnjudged (sym rest)
        (record { kept = u.kept; long = u.long; names = u.names; heads_read = u.heads_read })

    keys_are : (Open : Sought → List KeyWalk → Type 0)
        (r : ReadsKeysBy WereRead IsOver asked sought s key left Open) (k : KeyWalk) → r.keys.last ≡ k ∷ []
        → r.walk.keys ≡ r.keys.over ++ k ∷ []
    keys_are Open r k last = r.keys.walks ∙ ap (λ (ks : List KeyWalk). r.keys.over ++ ks) last

    -- the next tree begins
    goes_to_tree : (t : NamedTree) (more : List NamedTree) (next : ℕ) → s'.main ≡ s.main
        → s'.pages_read ≡ s.pages_read
        → (r : ReadsKeysBy WereRead IsOver asked sought s key left (IsGoingToTrees Is (t ∷ more) next))
        → ((over : List KeyWalk) (k : KeyWalk) (before : List LeafRead) (leaf : Read) (ts : List (List Read))
        → r.walk.keys ≡ over ++ k ∷ [] → k.leaves ≡ before ++ record { leaf = leaf; trees = ts } ∷ []
        → WereRead (with_last r.walk over (with_trees k before leaf (ts ++ [] ∷ []))))
        → ReadsKeysBy WereRead IsOver asked sought s' key left
        (IsGoingInTrees Is t.root s.extent s.extent (t ∷ more) next)
    goes_to_tree t more next mains same r were =
        let Open = IsGoingToTrees Is (t ∷ more) next in
        let o = one_at_trees Is (t ∷ more) next w r.keys.last (r.keys.begun w here) in
        let k = o.0 in
        let a = o.3 in
        let k' = with_trees k a.before a.leaf (a.trees ++ [] ∷ []) in
        let e = keys_are Open r k o.1 in
        let path = same_path k a.before a.leaf a.trees (a.trees ++ [] ∷ []) a.leaves in
        let adds = ap entries_read e ∙ sym (begun_entries Is r.keys.over k next more t a) in
        next_read WereRead IsOver asked sought s s' key left left w here Open
        (IsGoingInTrees Is t.root s.extent s.extent (t ∷ more) next) r k k' [] o.1
        (IsGoingInTrees.in_trees k' o.2 more (begins_tree Is k next t more a) refl (omega arith))
        (begun_reads k a.before a.leaf a.trees a.leaves)
        (ap (λ (n : ℕ). left + n) (ap length path)) (were r.keys.over k a.before a.leaf a.trees e a.leaves)
        (ap (λ (z : ScanCore). z.pending) rest) (ap (λ (z : ScanCore). z.first_item) rest)
        (ap (λ (z : ScanCore). z.extent) rest) (unjudged_still r.so_far.unjudged)
        (subst (AreNotedUnder asked (entries_read (r.keys.over ++ k' ∷ []))) (sym mains)
        (subst (λ (es : List Entry). AreNotedUnder asked es s.main) adds r.so_far.noted_tree))
        (omega (arith, same))

    -- a page of a tree is read
    pub tree_read : (page l : ℕ) (trees : List NamedTree) (next : ℕ) (x : Read) → x.page ≡ page → page ≢ 0
        → s'.pages_read ≤ suc s.pages_read
        → (r : ReadsKeysBy WereRead IsOver asked sought s key left (IsGoingInTrees Is page (suc l) s.extent trees next))
        → ((t : NamedTree) (rest : List NamedTree) → trees ≡ t ∷ rest → (es : List Entry)
        → AreNotedUnder asked es s.main → AreNotedUnder asked (es ++ posting_entry t.key x ∷ []) s'.main)
        → ((over : List KeyWalk) (k : KeyWalk) (before : List LeafRead) (leaf : Read) (ts : List (List Read))
        (t : List Read) → r.walk.keys ≡ over ++ k ∷ []
        → k.leaves ≡ before ++ record { leaf = leaf; trees = ts ++ t ∷ [] } ∷ []
        → WereRead (with_last r.walk over (with_trees k before leaf (ts ++ (t ++ x ∷ []) ∷ []))))
        → ReadsKeysBy WereRead IsOver asked sought s' key left
        (IsGoingInTrees Is (along x.content) l s.extent trees next)
    tree_read page l trees next x at some one r noted were =
        let Open = IsGoingInTrees Is page (suc l) s.extent trees next in
        let o = one_in_trees Is page (suc l) s.extent trees next w r.keys.last (r.keys.begun w here) in
        let k = o.0 in
        let t = o.4 in
        let us = t.trees ++ (t.last ++ x ∷ []) ∷ [] in
        let k' = with_trees k t.before t.leaf us in
        let e = keys_are Open r k o.1 in
        let path = same_path k t.before t.leaf (t.trees ++ t.last ∷ []) us t.leaves in
        let adds : entries_read (r.keys.over ++ k' ∷ []) ≡ entries_read r.walk.keys ++ posting_entry t.tree.key x ∷ [] =
        more_entries Is r.keys.over k next o.3 page t x
        ∙ ap (λ (ks : List KeyWalk). entries_read ks ++ posting_entry t.tree.key x ∷ []) (sym e) in
        next_read WereRead IsOver asked sought s s' key left left w here Open
        (IsGoingInTrees Is (along x.content) l s.extent trees next) r k k' (x ∷ []) o.1
        (IsGoingInTrees.in_trees k' o.2 o.3 (more_in_tree Is k next page o.3 x t some at) o.5
        (let sum = o.6 in let more = length-append t.last (x ∷ []) in omega (arith, sum, more)))
        (more_reads k t.before t.leaf t.trees t.last x t.leaves)
        (ap (λ (n : ℕ). left + n) (ap length path)) (were r.keys.over k t.before t.leaf t.trees t.last e t.leaves)
        (ap (λ (z : ScanCore). z.pending) rest) (ap (λ (z : ScanCore). z.first_item) rest)
        (ap (λ (z : ScanCore). z.extent) rest) (unjudged_still r.so_far.unjudged)
        (subst (λ (es : List Entry). AreNotedUnder asked es s'.main) (sym adds)
        (noted t.tree o.3 o.5 (entries_read r.walk.keys) r.so_far.noted_tree))
        (omega (arith, one))

  -- what comes after a leaf or a tree
  module _ (s : ScanCore) (key left at next read : ℕ) (w : Sought) (here : slice_get sought key ≡ Some w)
      (z : Stage) (P : Stage → Type 0)
      (leaf : ReadsKeysBy WereRead IsOver asked sought s key (s.extent - read) (IsGoingAlong Is next)
      → P (stage.Leaf key next (s.extent - read)))
      (tree : (t : NamedTree) → (read ≤ s.extent) × ReadsKeysBy WereRead IsOver asked sought s key (s.extent - read)
      (IsGoingInTrees Is t.root s.extent s.extent (trees_from at s) next)
      → P (stage.Posting key at t.root s.extent next read))
      (within : read ≤ s.extent) (left_is : left ≡ s.extent - read) where
    pub goes_on : (rest : List NamedTree) → rest ≡ trees_from at s
        → (r : ReadsKeysBy WereRead IsOver asked sought s key left (IsGoingToTrees Is rest next))
        → ((over : List KeyWalk) (k : KeyWalk) (before : List LeafRead) (leaf : Read) (ts : List (List Read))
        → r.walk.keys ≡ over ++ k ∷ [] → k.leaves ≡ before ++ record { leaf = leaf; trees = ts } ∷ []
        → WereRead (with_last r.walk over (with_trees k before leaf (ts ++ [] ∷ []))))
        → GoesToTree s key at next read z → P z
    goes_on rest same r were (inl g) = subst P (sym g.2)
        (tree g.0 (
          within,
          subst (λ (n : ℕ). ReadsKeysBy WereRead IsOver asked sought s key n
              (IsGoingInTrees Is g.0.root s.extent s.extent (trees_from at s) next)) left_is
              (by rest (same ∙ drop_at (trees_in s) at g.0 g.1) r were),
        ))
      where
        by : (rs : List NamedTree) → rs ≡ g.0 ∷ drop (suc at) (trees_in s)
            → (q : ReadsKeysBy WereRead IsOver asked sought s key left (IsGoingToTrees Is rs next))
            → ((over : List KeyWalk) (k : KeyWalk) (before : List LeafRead) (leaf : Read) (ts : List (List Read))
            → q.walk.keys ≡ over ++ k ∷ [] → k.leaves ≡ before ++ record { leaf = leaf; trees = ts } ∷ []
            → WereRead (with_last q.walk over (with_trees k before leaf (ts ++ [] ∷ []))))
            → ReadsKeysBy WereRead IsOver asked sought s key left
            (IsGoingInTrees Is g.0.root s.extent s.extent (trees_from at s) next)
        by [] e q w' = absurd (let y : ⊥ = cc in y)
        by (t ∷ ts) e q w' =
            subst (λ (u : NamedTree). ReadsKeysBy WereRead IsOver asked sought s key left
            (IsGoingInTrees Is u.root s.extent s.extent (trees_from at s) next)) (let y : t ≡ g.0 = cc in y)
            (subst (λ (us : List NamedTree). ReadsKeysBy WereRead IsOver asked sought s key left
            (IsGoingInTrees Is t.root s.extent s.extent us next)) (e ∙ sym (drop_at (trees_in s) at g.0 g.1))
            (goes_to_tree s s key left w here refl t ts next refl refl q w'))
    goes_on rest same r were (inr g) = subst P (sym g.1)
        (leaf (subst (λ (n : ℕ). ReadsKeysBy WereRead IsOver asked sought s key n (IsGoingAlong Is next)) left_is
        (goes_to_leaf s key left w here next
        (subst (λ (rs : List NamedTree). ReadsKeysBy WereRead IsOver asked sought s key left
        (IsGoingToTrees Is rs next))
        (same ∙ drop_past (trees_in s) at
        (omega (arith, g.0, length-map s.roots.items named_by))) r))))
