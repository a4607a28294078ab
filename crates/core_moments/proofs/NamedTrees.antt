-- The trees of a leaf are those that its entries name which fit, and their reads are those of a walk.
use Rattle.std.proofs.Common.{◌≡◌, ℕ, Bool, true, false, List, [], ◌∷◌, ◌++◌, refl, sym, ap, subst, inl, inr}
use Rattle.std.proofs.Common.{◌∙◌, append_assoc}
use Rattle.page_types.specs.declared.page.Entry.{Entry}
use Rattle.page_types.specs.declared.page.Postings.{Postings}
use Rattle.page_types.specs.declared.page.Postings.TheVariants.{Inline, Root}
use Rattle.core_state.specs.Log.{Log, In}
use Rattle.core_state.specs.Readings.{Read, AreReads}
use Rattle.core_moments.specs.Walk.{Walk, KeyWalk, LeafRead, Sought, AreTrees, Branch, fits, reads_of, key_reads}
use Rattle.core_moments.specs.Walk.{leaf_reads, tree_reads}
use Rattle.core_moments.specs.OpenWalk.{NamedTree, AreOfTrees, ReadsTree, tree_of, trees_on}
use Rattle.core_moments.proofs.OpenLists.{first_reads}
use Rattle.core_moments.proofs.ReadLists.{reads_since, reads_after}

-- ── entries ──

-- they were all read where each was
pub trees_read : (s : Sought) (es : List Entry) (ts : List (List Read)) → AreOfTrees ReadsTree (trees_on s es) ts
    → AreTrees s es ts
trees_read s [] [] a = refl
trees_read s [] (t ∷ ts) a = absurd a
trees_read s (e ∷ es) ts a = by (fits s e.key) e.postings ts a (λ us b. trees_read s es us b)
  where
    by : (b : Bool) (p : Postings) (us : List (List Read))
        → AreOfTrees ReadsTree (tree_of b e.key p (trees_on s es)) us
        → ((vs : List (List Read)) → AreOfTrees ReadsTree (trees_on s es) vs → AreTrees s es vs)
        → Branch b p (AreTrees s es) us
    by true (Root r) [] a more = absurd a
    by true (Root r) (u ∷ us) a more = (u, us, refl, a.0, more us a.1)
    by true (Inline bytes) us a more = more us a
    by false p us a more = more us a

-- and back
pub trees_named : (s : Sought) (es : List Entry) (ts : List (List Read)) → AreTrees s es ts
    → AreOfTrees ReadsTree (trees_on s es) ts
trees_named s [] ts a = subst (AreOfTrees ReadsTree []) (sym a) tt
trees_named s (e ∷ es) ts a = by (fits s e.key) e.postings ts a (λ us b. trees_named s es us b)
  where
    by : (b : Bool) (p : Postings) (us : List (List Read)) → Branch b p (AreTrees s es) us
        → ((vs : List (List Read)) → AreTrees s es vs → AreOfTrees ReadsTree (trees_on s es) vs)
        → AreOfTrees ReadsTree (tree_of b e.key p (trees_on s es)) us
    by true (Root r) us a more =
        subst (AreOfTrees ReadsTree (record { key = e.key; root = r } ∷ trees_on s es)) (sym a.2) (a.3, more a.1 a.4)
    by true (Inline bytes) us a more = more us a
    by false p us a more = more us a

-- the entry that names a tree
pub named_by : (s : Sought) (es : List Entry) (t : NamedTree) → In t (trees_on s es)
    → (e : Entry) × In e es × (e.postings ≡ Root t.root)
named_by s [] t i = absurd i
named_by s (e ∷ es) t i = by (fits s e.key) e.postings refl i (λ j. named_by s es t j)
  where
    later : ((d : Entry) × In d es × (d.postings ≡ Root t.root))
        → (d : Entry) × In d (e ∷ es) × (d.postings ≡ Root t.root)
    later d = (d.0, inr d.1, d.2)

    by : (b : Bool) (p : Postings) → e.postings ≡ p → In t (tree_of b e.key p (trees_on s es))
        → (In t (trees_on s es) → (d : Entry) × In d es × (d.postings ≡ Root t.root))
        → (d : Entry) × In d (e ∷ es) × (d.postings ≡ Root t.root)
    by true (Root r) f (inl g) more =
        (e, inl refl, subst (λ (n : ℕ). e.postings ≡ Root n) (sym (ap (λ (z : NamedTree). z.root) g)) f)
    by true (Root r) f (inr j) more = later (more j)
    by true (Inline bytes) f i more = later (more i)
    by false p f i more = later (more i)

-- ── reads ──

-- the last leaf of a walk, and the last tree that was read after it
leaf_tree : (R : Log) (from : ℕ) (ls : List LeafRead) (leaf : Read) (ts : List (List Read)) (t rest : List Read)
    → AreReads R from (leaf_reads (ls ++ record { leaf = leaf; trees = ts ++ t ∷ [] } ∷ []) ++ rest)
    → AreReads R from (leaf ∷ t)
leaf_tree R from [] leaf ts t rest r = (
  r.0,
  r.1,
  r.2,
  last_tree ts r.3,
)
  where
    last_tree : (us : List (List Read)) → AreReads R leaf.length ((tree_reads (us ++ t ∷ []) ++ []) ++ rest)
        → AreReads R leaf.length t
    last_tree [] s =
        first_reads R leaf.length t []
        (first_reads R leaf.length (t ++ []) [] (first_reads R leaf.length ((t ++ []) ++ []) rest s))
    last_tree (u ∷ us) s =
        last_tree us (reads_after R leaf.length u ((tree_reads (us ++ t ∷ []) ++ []) ++ rest)
        (subst (AreReads R leaf.length)
        (ap (λ (xs : List Read). xs ++ rest) (append_assoc u (tree_reads (us ++ t ∷ [])) [])
        ∙ append_assoc u (tree_reads (us ++ t ∷ []) ++ []) rest) s))
leaf_tree R from (l ∷ ls) leaf ts t rest r =
    reads_since R from l.leaf.length (leaf ∷ t) r.0
    (leaf_tree R l.leaf.length ls leaf ts t rest
    (reads_after R l.leaf.length (tree_reads l.trees)
    (leaf_reads (ls ++ record { leaf = leaf; trees = ts ++ t ∷ [] } ∷ []) ++ rest)
    (subst (AreReads R l.leaf.length)
    (append_assoc (tree_reads l.trees) (leaf_reads (ls ++ record { leaf = leaf; trees = ts ++ t ∷ [] } ∷ [])) rest)
    r.3)))

key_tree : (R : Log) (from : ℕ) (ks : List KeyWalk) (k : KeyWalk) (ls : List LeafRead) (leaf : Read)
    (ts : List (List Read)) (t : List Read) → AreReads R from (key_reads ks) → In k ks
    → k.leaves ≡ ls ++ record { leaf = leaf; trees = ts ++ t ∷ [] } ∷ [] → AreReads R from (leaf ∷ t)
key_tree R from [] k ls leaf ts t r i e = absurd i
key_tree R from (j ∷ ks) k ls leaf ts t r (inl same) e =
    leaf_tree R from ls leaf ts t (key_reads ks)
    (subst (λ (ms : List LeafRead). AreReads R from (leaf_reads ms ++ key_reads ks))
    (ap (λ (z : KeyWalk). z.leaves) (sym same) ∙ e)
    (reads_after R from j.down (leaf_reads j.leaves ++ key_reads ks) r))
key_tree R from (j ∷ ks) k ls leaf ts t r (inr i) e =
    key_tree R from ks k ls leaf ts t
    (reads_after R from (leaf_reads j.leaves) (key_reads ks)
    (reads_after R from j.down (leaf_reads j.leaves ++ key_reads ks) r)) i e

pub tree_was_read : (R : Log) (from : ℕ) (x : Walk) (k : KeyWalk) (ls : List LeafRead) (leaf : Read)
    (ts : List (List Read)) (t : List Read) → In k x.keys
    → k.leaves ≡ ls ++ record { leaf = leaf; trees = ts ++ t ∷ [] } ∷ [] → AreReads R from (reads_of x)
    → AreReads R from (leaf ∷ t)
tree_was_read R from x k ls leaf ts t i e r =
    reads_since R from x.meta.length (leaf ∷ t) r.0
    (key_tree R x.meta.length x.keys k ls leaf ts t (reads_after R x.meta.length x.pending (key_reads x.keys) r.3) i e)
