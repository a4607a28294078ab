-- A walk goes on through the posting trees of its last leaf.
use Rattle.std.proofs.Common.{◌≡◌, ◌≢◌, ℕ, List, [], ◌∷◌, ◌++◌, map}
use Rattle.std.proofs.Common.{refl, sym, ap, subst, ◌∙◌, append_assoc, append-nil}
use Rattle.std.proofs.lemmas.Grind.{flat_map-append}
use Rattle.page_types.specs.Views.{entries_of}
use Rattle.page_types.specs.declared.page.Page.{Page}
use Rattle.page_types.specs.declared.page.Entry.{Entry}
use Rattle.core_state.specs.Readings.{Read}
use Rattle.core_moments.specs.Walk.{KeyWalk, LeafRead, Sought, Follows, toward, along, first_key, fits}
use Rattle.core_moments.specs.Walk.{leaf_reads, tree_reads}
use Rattle.core_moments.specs.Law.{path_of}
use Rattle.core_moments.specs.OpenWalk.{NamedTree, AreOfTrees, ReadsTree, ReadsInTree, LeavesLead, HasComeDown}
use Rattle.core_moments.specs.OpenWalk.{IsAmongLeaves, IsInTrees, LeadOn, trees_on}
use Rattle.core_moments.proofs.OpenTrees.{lead_then}
use Rattle.gin_hits.specs.Entries.{entries_with, entries_in_trees, entries_under, entries_on, entries_read}
use Rattle.gin_hits.specs.Entries.{posting_entry}
use Rattle.gin_scan.proofs.WaySteps.{IsAtTrees, entries_join, leaves_more, none_in_trees}

-- ── the walk ──

-- the walk whose last leaf has these reads of its trees
abbrev pub with_trees : KeyWalk → List LeafRead → Read → List (List Read) → KeyWalk
with_trees k before leaf ts = record {
  sought = k.sought;
  down = k.down;
  leaf = k.leaf;
  leaves = before ++ record { leaf = leaf; trees = ts } ∷ [];
}

first_leaf : (l m : LeafRead) (ls ms : List LeafRead) → l ∷ ls ≡ m ∷ ms → l.leaf ≡ m.leaf
first_leaf l m ls ms e = ap (λ (z : LeafRead). z.leaf) (same l m ls ms e)
  where
    same : (a b : LeafRead) (cs ds : List LeafRead) → a ∷ cs ≡ b ∷ ds → a ≡ b
    same a b cs ds h = cc

pub come_down : (k : KeyWalk) (before : List LeafRead) (leaf : Read) (ts us : List (List Read)) → HasComeDown k
    → k.leaves ≡ before ++ record { leaf = leaf; trees = ts } ∷ [] → HasComeDown (with_trees k before leaf us)
come_down k [] leaf ts us c e =
    let l = c.at_leaf in record {
      down = c.down;
      at_leaf = (
        record { leaf = leaf; trees = us },
        [],
        refl,
        subst (λ (x : Read). toward (first_key k.sought) x.content ≡ 0)
            (first_leaf l.0 (record { leaf = leaf; trees = ts }) l.1 [] (sym l.2 ∙ e)) l.3,
      );
    }
come_down k (b ∷ bs) leaf ts us c e =
    let l = c.at_leaf in record {
      down = c.down;
      at_leaf = (
        b,
        bs ++ record { leaf = leaf; trees = us } ∷ [],
        refl,
        subst (λ (x : Read). toward (first_key k.sought) x.content ≡ 0)
            (first_leaf l.0 b l.1 (bs ++ record { leaf = leaf; trees = ts } ∷ []) (sym l.2 ∙ e)) l.3,
      );
    }

module _ (Is : ℕ → List Read → Type 0) (k : KeyWalk) (next : ℕ) where
  -- where no tree is left, the next leaf is read
  pub all_trees : IsAtTrees Is k [] next → IsAmongLeaves Is k next
  all_trees a = record {
    come_down = a.come_down;
    leaves = subst (λ (ls : List LeafRead). LeavesLead Is k.sought k.leaf ls next) (sym a.leaves)
        (subst (LeavesLead Is k.sought k.leaf (a.before ++ record { leaf = a.leaf; trees = a.trees } ∷ []))
        (sym a.beyond_is)
        (leaves_more Is k.sought k.leaf a.before a.leaf.page (record { leaf = a.leaf; trees = a.trees }) a.lead a.some
        refl (subst (λ (ts : List NamedTree). AreOfTrees Is ts a.trees) (sym (a.named ∙ append-nil a.done))
        a.are_done)));
  }

  -- else the next tree
  abbrev pub begins_tree : (t : NamedTree) (rest : List NamedTree) (a : IsAtTrees Is k (t ∷ rest) next)
      → IsInTrees Is (with_trees k a.before a.leaf (a.trees ++ [] ∷ [])) t.root rest next
  begins_tree t rest a = record {
    come_down = come_down k a.before a.leaf a.trees (a.trees ++ [] ∷ []) a.come_down a.leaves;
    before = a.before;
    leaf = a.leaf;
    trees = a.trees;
    last = [];
    leaves = refl;
    lead = a.lead;
    some = a.some;
    done = a.done;
    tree = t;
    named = a.named;
    are_done = a.are_done;
    leads = refl;
    beyond_is = a.beyond_is;
  }

  -- a page more of a tree
  abbrev pub more_in_tree : (p : ℕ) (rest : List NamedTree) (x : Read) (t : IsInTrees Is k p rest next) → p ≢ 0
      → x.page ≡ p
      → IsInTrees Is (with_trees k t.before t.leaf (t.trees ++ (t.last ++ x ∷ []) ∷ [])) (along x.content) rest next
  more_in_tree p rest x t some at = record {
    come_down = come_down k t.before t.leaf (t.trees ++ t.last ∷ []) (t.trees ++ (t.last ++ x ∷ []) ∷ []) t.come_down
        t.leaves;
    before = t.before;
    leaf = t.leaf;
    trees = t.trees;
    last = t.last ++ x ∷ [];
    leaves = refl;
    lead = t.lead;
    some = t.some;
    done = t.done;
    tree = t.tree;
    named = t.named;
    are_done = t.are_done;
    leads = lead_then along t.tree.root p t.last x t.leads some at;
    beyond_is = t.beyond_is;
  }

  more_done : (rs : List NamedTree) (ts : List (List Read)) (r : NamedTree) (t : List Read) → AreOfTrees Is rs ts
      → Is r.root t → AreOfTrees Is (rs ++ r ∷ []) (ts ++ t ∷ [])
  more_done [] [] r t a is = (is, tt)
  more_done [] (u ∷ us) r t a is = absurd a
  more_done (q ∷ qs) [] r t a is = absurd a
  more_done (q ∷ qs) (u ∷ us) r t a is = (a.0, more_done qs us r t a.1 is)

  -- a tree is over
  pub ends_tree : (p : ℕ) (rest : List NamedTree) (t : IsInTrees Is k p rest next) → Is t.tree.root t.last
      → IsAtTrees Is k rest next
  ends_tree p rest t is = record {
    come_down = t.come_down;
    before = t.before;
    leaf = t.leaf;
    trees = t.trees ++ t.last ∷ [];
    leaves = t.leaves;
    lead = t.lead;
    some = t.some;
    done = t.done ++ t.tree ∷ [];
    named = t.named ∙ sym (append_assoc t.done (t.tree ∷ []) rest);
    are_done = more_done t.done t.trees t.tree t.last t.are_done is;
    beyond_is = t.beyond_is;
  }

lead_all : (along' : Page → ℕ) (p : ℕ) (xs : List Read) → LeadOn along' p xs 0 → Follows along' p xs
lead_all n p [] d = d
lead_all n p (x ∷ xs) d = (d.0, d.1, lead_all n (n x.content) xs d.2)

-- at 0 all of it was read
pub tree_over : (r p : ℕ) (t : List Read) → LeadOn along r t p → p ≡ 0 → ReadsTree r t
tree_over r p t d e = lead_all along r t (subst (LeadOn along r t) e d)

pub tree_left : (r p : ℕ) (t : List Read) → LeadOn along r t p → ReadsInTree r t
tree_left r p t d = (p, d)

-- ── what was read ──

last_leaf : (ls : List LeafRead) (leaf : Read) (ts : List (List Read))
    → leaf_reads (ls ++ record { leaf = leaf; trees = ts } ∷ []) ≡ leaf_reads ls ++ leaf ∷ tree_reads ts
last_leaf [] leaf ts = ap (λ (rs : List Read). leaf ∷ rs) (append-nil (tree_reads ts))
last_leaf (l ∷ ls) leaf ts =
    ap (λ (rs : List Read). l.leaf ∷ (tree_reads l.trees ++ rs)) (last_leaf ls leaf ts)
    ∙ ap (λ (rs : List Read). l.leaf ∷ rs) (sym (append_assoc (tree_reads l.trees) (leaf_reads ls)
    (leaf ∷ tree_reads ts)))

pub last_tree : (ts : List (List Read)) (t : List Read) → tree_reads (ts ++ t ∷ []) ≡ tree_reads ts ++ t
last_tree [] t = append-nil t
last_tree (u ∷ us) t =
    ap (λ (rs : List Read). u ++ rs) (last_tree us t) ∙ sym (append_assoc u (tree_reads us) t)

-- pages more of the last tree
pub trees_then : (ts : List (List Read)) (t xs : List Read)
    → tree_reads (ts ++ (t ++ xs) ∷ []) ≡ tree_reads (ts ++ t ∷ []) ++ xs
trees_then ts t xs =
    last_tree ts (t ++ xs) ∙ sym (append_assoc (tree_reads ts) t xs)
    ∙ ap (λ (rs : List Read). rs ++ xs) (sym (last_tree ts t))

leaf_then : (ls : List LeafRead) (leaf : Read) (ts us : List (List Read)) (xs : List Read)
    → tree_reads us ≡ tree_reads ts ++ xs
    → leaf_reads (ls ++ record { leaf = leaf; trees = us } ∷ [])
    ≡ leaf_reads (ls ++ record { leaf = leaf; trees = ts } ∷ []) ++ xs
leaf_then ls leaf ts us xs e =
    last_leaf ls leaf us
    ∙ ap (λ (rs : List Read). leaf_reads ls ++ leaf ∷ rs) e
    ∙ sym (append_assoc (leaf_reads ls) (leaf ∷ tree_reads ts) xs)
    ∙ ap (λ (rs : List Read). rs ++ xs) (sym (last_leaf ls leaf ts))

reads_then : (k : KeyWalk) (before : List LeafRead) (leaf : Read) (ts us : List (List Read)) (xs : List Read)
    → k.leaves ≡ before ++ record { leaf = leaf; trees = ts } ∷ [] → tree_reads us ≡ tree_reads ts ++ xs
    → (with_trees k before leaf us).down ++ leaf_reads (with_trees k before leaf us).leaves
    ≡ (k.down ++ leaf_reads k.leaves) ++ xs
reads_then k before leaf ts us xs e more =
    ap (λ (rs : List Read). k.down ++ rs) (leaf_then before leaf ts us xs more
    ∙ ap (λ (ls : List LeafRead). leaf_reads ls ++ xs) (sym e))
    ∙ sym (append_assoc k.down (leaf_reads k.leaves) xs)

-- a tree that begins adds none
pub begun_reads : (k : KeyWalk) (before : List LeafRead) (leaf : Read) (ts : List (List Read))
    → k.leaves ≡ before ++ record { leaf = leaf; trees = ts } ∷ []
    → (with_trees k before leaf (ts ++ [] ∷ [])).down ++ leaf_reads (with_trees k before leaf (ts ++ [] ∷ [])).leaves
    ≡ (k.down ++ leaf_reads k.leaves) ++ []
begun_reads k before leaf ts e = reads_then k before leaf ts (ts ++ [] ∷ []) [] e (last_tree ts [])

pub more_reads : (k : KeyWalk) (before : List LeafRead) (leaf : Read) (ts : List (List Read)) (t : List Read) (x : Read)
    → k.leaves ≡ before ++ record { leaf = leaf; trees = ts ++ t ∷ [] } ∷ []
    → (with_trees k before leaf (ts ++ (t ++ x ∷ []) ∷ [])).down
    ++ leaf_reads (with_trees k before leaf (ts ++ (t ++ x ∷ []) ∷ [])).leaves
    ≡ (k.down ++ leaf_reads k.leaves) ++ x ∷ []
more_reads k before leaf ts t x e =
    reads_then k before leaf (ts ++ t ∷ []) (ts ++ (t ++ x ∷ []) ∷ []) (x ∷ []) e (trees_then ts t (x ∷ []))

-- the leaves are the same
pub same_leaves : (ls : List LeafRead) (leaf : Read) (ts us : List (List Read))
    → map (λ (l : LeafRead). l.leaf) (ls ++ record { leaf = leaf; trees = us } ∷ [])
    ≡ map (λ (l : LeafRead). l.leaf) (ls ++ record { leaf = leaf; trees = ts } ∷ [])
same_leaves [] leaf ts us = refl
same_leaves (l ∷ ls) leaf ts us = ap (λ (rs : List Read). l.leaf ∷ rs) (same_leaves ls leaf ts us)

pub same_path : (k : KeyWalk) (before : List LeafRead) (leaf : Read) (ts us : List (List Read))
    → k.leaves ≡ before ++ record { leaf = leaf; trees = ts } ∷ []
    → path_of (with_trees k before leaf us) ≡ path_of k
same_path k before leaf ts us e =
    ap (λ (rs : List Read). k.down ++ rs) (same_leaves before leaf ts us
    ∙ ap (λ (ls : List LeafRead). map (λ (l : LeafRead). l.leaf) ls) (sym e))

-- ── entries that were read ──

-- of trees that are still to be read there are none
trees_before : (Is : ℕ → List Read → Type 0) (done rest : List NamedTree) (ts : List (List Read))
    → AreOfTrees Is done ts → entries_in_trees (done ++ rest) ts ≡ entries_in_trees done ts
trees_before Is [] rest [] a = none_in_trees rest
trees_before Is [] rest (t ∷ ts) a = absurd a
trees_before Is (r ∷ rs) rest [] a = absurd a
trees_before Is (r ∷ rs) rest (t ∷ ts) a =
    ap (λ (es : List Entry). map (posting_entry r.key) t ++ es) (trees_before Is rs rest ts a.1)

-- the last tree comes after the others
trees_with : (Is : ℕ → List Read → Type 0) (done rest : List NamedTree) (r : NamedTree) (ts : List (List Read))
    (t : List Read) → AreOfTrees Is done ts
    → entries_in_trees (done ++ r ∷ rest) (ts ++ t ∷ []) ≡ entries_in_trees done ts ++ map (posting_entry r.key) t
trees_with Is [] rest r [] t a =
    ap (λ (es : List Entry). map (posting_entry r.key) t ++ es) (none_in_trees rest)
    ∙ append-nil (map (posting_entry r.key) t)
trees_with Is [] rest r (u ∷ us) t a = absurd a
trees_with Is (q ∷ qs) rest r [] t a = absurd a
trees_with Is (q ∷ qs) rest r (u ∷ us) t a =
    ap (λ (es : List Entry). map (posting_entry q.key) u ++ es) (trees_with Is qs rest r us t a.1)
    ∙ sym (append_assoc (map (posting_entry q.key) u) (entries_in_trees qs us) (map (posting_entry r.key) t))

map_more : (f : Read → Entry) (xs : List Read) (x : Read) → map f (xs ++ x ∷ []) ≡ map f xs ++ f x ∷ []
map_more f [] x = refl
map_more f (y ∷ ys) x = ap (λ (es : List Entry). f y ∷ es) (map_more f ys x)

-- what the last leaf has more, all have
leaf_more : (s : Sought) (ls : List LeafRead) (leaf : Read) (ts us : List (List Read)) (more : List Entry)
    → entries_in_trees (trees_on s (entries_of leaf.content)) us
    ≡ entries_in_trees (trees_on s (entries_of leaf.content)) ts ++ more
    → entries_on s (ls ++ record { leaf = leaf; trees = us } ∷ [])
    ≡ entries_on s (ls ++ record { leaf = leaf; trees = ts } ∷ []) ++ more
leaf_more s ls leaf ts us more e =
    flat_map-append (entries_under s) ls (record { leaf = leaf; trees = us } ∷ [])
    ∙ ap (λ (es : List Entry). entries_on s ls ++ es) (append-nil (entries_under s (record { leaf = leaf; trees = us }))
    ∙ ap (λ (es : List Entry). entries_with (fits s) (entries_of leaf.content) ++ es) e
    ∙ sym (append_assoc (entries_with (fits s) (entries_of leaf.content))
    (entries_in_trees (trees_on s (entries_of leaf.content)) ts) more)
    ∙ ap (λ (es : List Entry). es ++ more) (sym (append-nil (entries_under s (record { leaf = leaf; trees = ts })))))
    ∙ sym (append_assoc (entries_on s ls) (entries_under s (record { leaf = leaf; trees = ts }) ++ []) more)
    ∙ ap (λ (es : List Entry). es ++ more)
    (sym (flat_map-append (entries_under s) ls (record { leaf = leaf; trees = ts } ∷ [])))

entries_then : (ks : List KeyWalk) (k : KeyWalk) (before : List LeafRead) (leaf : Read) (ts us : List (List Read))
    (more : List Entry) → k.leaves ≡ before ++ record { leaf = leaf; trees = ts } ∷ []
    → entries_in_trees (trees_on k.sought (entries_of leaf.content)) us
    ≡ entries_in_trees (trees_on k.sought (entries_of leaf.content)) ts ++ more
    → entries_read (ks ++ with_trees k before leaf us ∷ []) ≡ entries_read (ks ++ k ∷ []) ++ more
entries_then ks k before leaf ts us more e adds =
    entries_join ks (with_trees k before leaf us)
    ∙ ap (λ (es : List Entry). entries_read ks ++ es) (leaf_more k.sought before leaf ts us more adds
    ∙ ap (λ (ls : List LeafRead). entries_on k.sought ls ++ more) (sym e))
    ∙ sym (append_assoc (entries_read ks) (entries_on k.sought k.leaves) more)
    ∙ ap (λ (es : List Entry). es ++ more) (sym (entries_join ks k))

module _ (Is : ℕ → List Read → Type 0) (ks : List KeyWalk) (k : KeyWalk) (next : ℕ) (rest : List NamedTree) where
  pub begun_entries : (r : NamedTree) (a : IsAtTrees Is k (r ∷ rest) next)
      → entries_read (ks ++ with_trees k a.before a.leaf (a.trees ++ [] ∷ []) ∷ []) ≡ entries_read (ks ++ k ∷ [])
  begun_entries r a =
      let es = entries_of a.leaf.content in
      entries_then ks k a.before a.leaf a.trees (a.trees ++ [] ∷ []) [] a.leaves
      (ap (λ (ts : List NamedTree). entries_in_trees ts (a.trees ++ [] ∷ [])) a.named
      ∙ trees_with Is a.done rest r a.trees [] a.are_done
      ∙ ap (λ (ds : List Entry). ds ++ []) (sym (trees_before Is a.done (r ∷ rest) a.trees a.are_done)
      ∙ ap (λ (ts : List NamedTree). entries_in_trees ts a.trees) (sym a.named)))
      ∙ append-nil (entries_read (ks ++ k ∷ []))

  pub more_entries : (p : ℕ) (t : IsInTrees Is k p rest next) (x : Read)
      → entries_read (ks ++ with_trees k t.before t.leaf (t.trees ++ (t.last ++ x ∷ []) ∷ []) ∷ [])
      ≡ entries_read (ks ++ k ∷ []) ++ posting_entry t.tree.key x ∷ []
  more_entries p t x =
      entries_then ks k t.before t.leaf (t.trees ++ t.last ∷ []) (t.trees ++ (t.last ++ x ∷ []) ∷ [])
      (posting_entry t.tree.key x ∷ []) t.leaves
      (ap (λ (ts : List NamedTree). entries_in_trees ts (t.trees ++ (t.last ++ x ∷ []) ∷ [])) t.named
      ∙ trees_with Is t.done rest t.tree t.trees (t.last ++ x ∷ []) t.are_done
      ∙ ap (λ (ds : List Entry). entries_in_trees t.done t.trees ++ ds) (map_more (posting_entry t.tree.key) t.last x)
      ∙ sym (append_assoc (entries_in_trees t.done t.trees) (map (posting_entry t.tree.key) t.last)
      (posting_entry t.tree.key x ∷ []))
      ∙ ap (λ (ds : List Entry). ds ++ posting_entry t.tree.key x ∷ [])
      (sym (trees_with Is t.done rest t.tree t.trees t.last t.are_done)
      ∙ ap (λ (ts : List NamedTree). entries_in_trees ts (t.trees ++ t.last ∷ [])) (sym t.named)))
