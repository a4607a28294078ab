-- A walk through the tree goes on by a page.
use Rattle.std.proofs.Common.{◌≡◌, ◌≢◌, ℕ, List, [], ◌∷◌, ◌++◌}
use Rattle.std.proofs.Common.{refl, sym, ap, subst, ◌∙◌, append_assoc, append-nil}
use Rattle.std.proofs.lemmas.Grind.{flat_map-append}
use Rattle.page_types.specs.Views.{entries_of}
use Rattle.page_types.specs.declared.page.Page.{Page}
use Rattle.page_types.specs.declared.page.Entry.{Entry}
use Rattle.core_state.specs.Readings.{Read}
use Rattle.core_moments.specs.Walk.{Sought, KeyWalk, LeafRead, IsKeyWalk, AreLeaves, LeadTo}
use Rattle.core_moments.specs.Walk.{toward, beyond, first_key, fits, leaf_reads, key_reads, tree_reads}
use Rattle.core_moments.specs.OpenWalk.{NamedTree, AreOfTrees, ReadsTree, LeavesLead, IsOnWay, HasComeDown}
use Rattle.core_moments.specs.OpenWalk.{IsAmongLeaves, trees_on}
use Rattle.core_moments.proofs.NamedTrees.{trees_read}
use Rattle.gin_hits.specs.Entries.{entries_with, entries_in_trees, entries_under, entries_on, entries_read}

-- ── chains ──

lead_more : (next : Page → ℕ) (p : ℕ) (xs : List Read) (q : ℕ) (x : Read) → LeadTo next p xs q → x.page ≡ q
    → next x.content ≢ 0 → LeadTo next p (xs ++ x ∷ []) (next x.content)
lead_more next p [] q x d at some = (at ∙ sym d, some, refl)
lead_more next p (y ∷ ys) q x d at some = (d.0, d.1, lead_more next (next y.content) ys q x d.2 at some)

-- the page that is next is some page
pub lead_some : (next : Page → ℕ) (p : ℕ) (xs : List Read) (q : ℕ) → p ≢ 0 → LeadTo next p xs q → q ≢ 0
lead_some next p [] q some d = λ e. some (d ∙ e)
lead_some next p (y ∷ ys) q some d = lead_some next (next y.content) ys q d.1 d.2

pub leaves_more : (Is : ℕ → List Read → Type 0) (s : Sought) (p : ℕ) (ls : List LeafRead) (q : ℕ) (l : LeafRead)
    → LeavesLead Is s p ls q → q ≢ 0 → l.leaf.page ≡ q → AreOfTrees Is (trees_on s (entries_of l.leaf.content)) l.trees
    → LeavesLead Is s p (ls ++ l ∷ []) (beyond s l.leaf.content)
leaves_more Is s p [] q l d some at trees = ((λ e. some (sym d ∙ e)), at ∙ sym d, trees, refl)
leaves_more Is s p (m ∷ ls) q l d some at trees =
    (d.0, d.1, d.2, leaves_more Is s (beyond s m.leaf.content) ls q l d.3 some at trees)

leaves_end : (s : Sought) (p : ℕ) (ls : List LeafRead) → LeavesLead ReadsTree s p ls 0 → AreLeaves s p ls
leaves_end s p [] d = d
leaves_end s p (l ∷ ls) d = (
  d.0,
  d.1,
  trees_read s (entries_of l.leaf.content) l.trees d.2,
  leaves_end s (beyond s l.leaf.content) ls d.3,
)

-- ── one walk ──

abbrev pub leaf_alone : Read → LeafRead
leaf_alone x = record { leaf = x; trees = [] }

abbrev pub more_down : KeyWalk → Read → ℕ → KeyWalk
more_down k x next = record { sought = k.sought; down = k.down ++ x ∷ []; leaf = next; leaves = [] }

abbrev pub at_leaf : KeyWalk → Read → KeyWalk
at_leaf k x = record { sought = k.sought; down = k.down; leaf = x.page; leaves = leaf_alone x ∷ [] }

abbrev pub more_leaves : KeyWalk → Read → KeyWalk
more_leaves k x = record { sought = k.sought; down = k.down; leaf = k.leaf; leaves = k.leaves ++ leaf_alone x ∷ [] }

pub goes_down : (k : KeyWalk) (p : ℕ) (x : Read) → IsOnWay k p → x.page ≡ p
    → toward (first_key k.sought) x.content ≢ 0
    → IsOnWay (more_down k x (toward (first_key k.sought) x.content)) (toward (first_key k.sought) x.content)
goes_down k p x on at some = record {
  down = lead_more (toward (first_key k.sought)) 1 k.down p x on.down at some;
  none = refl;
}

-- a walk that has read leaves, and posting trees of the last one: these trees are left
pub record IsAtTrees (Is : ℕ → List Read → Type 0) (w : KeyWalk) (rest : List NamedTree) (next : ℕ) : Type 0 where
  pub come_down : HasComeDown w
  pub before : List LeafRead
  pub leaf : Read
  pub trees : List (List Read)
  pub leaves : w.leaves ≡ before ++ record { leaf = leaf; trees = trees } ∷ []
  pub lead : LeavesLead Is w.sought w.leaf before leaf.page
  pub some : leaf.page ≢ 0
  pub done : List NamedTree
  pub named : trees_on w.sought (entries_of leaf.content) ≡ done ++ rest
  pub are_done : AreOfTrees Is done trees
  pub beyond_is : next ≡ beyond w.sought leaf.content

pub comes_to_leaf : (Is : ℕ → List Read → Type 0) (k : KeyWalk) (p : ℕ) (x : Read) → IsOnWay k p → x.page ≡ p
    → toward (first_key k.sought) x.content ≡ 0
    → IsAtTrees Is (at_leaf k x) (trees_on k.sought (entries_of x.content)) (beyond k.sought x.content)
comes_to_leaf Is k p x on at end = record {
  come_down = record {
    down = subst (LeadTo (toward (first_key k.sought)) 1 k.down) (sym at) on.down;
    at_leaf = (leaf_alone x, [], refl, end);
  };
  before = [];
  leaf = x;
  trees = [];
  leaves = refl;
  lead = refl;
  some = λ e. lead_some (toward (first_key k.sought)) 1 k.down p (λ z. let y : ⊥ = cc in y) on.down (sym at ∙ e);
  done = [];
  named = refl;
  are_done = tt;
  beyond_is = refl;
}

pub goes_along : (Is : ℕ → List Read → Type 0) (k : KeyWalk) (p : ℕ) (x : Read) → IsAmongLeaves Is k p → p ≢ 0
    → x.page ≡ p
    → IsAtTrees Is (more_leaves k x) (trees_on k.sought (entries_of x.content)) (beyond k.sought x.content)
goes_along Is k p x among some at = record {
  come_down = record {
    down = among.come_down.down;
    at_leaf =
        let l = among.come_down.at_leaf in
        (l.0, l.1 ++ leaf_alone x ∷ [], ap (λ (ls : List LeafRead). ls ++ leaf_alone x ∷ []) l.2, l.3);
  };
  before = k.leaves;
  leaf = x;
  trees = [];
  leaves = refl;
  lead = subst (LeavesLead Is k.sought k.leaf k.leaves) (sym at) among.leaves;
  some = λ e. some (sym at ∙ e);
  done = [];
  named = refl;
  are_done = tt;
  beyond_is = refl;
}

pub ends : (k : KeyWalk) → IsAmongLeaves ReadsTree k 0 → IsKeyWalk k
ends k among = record {
  down_ok = among.come_down.down;
  is_leaf = among.come_down.at_leaf;
  leaves_ok = leaves_end k.sought k.leaf k.leaves among.leaves;
}

-- ── what was read ──

leaf_reads_more : (ls : List LeafRead) (x : Read) → leaf_reads (ls ++ leaf_alone x ∷ []) ≡ leaf_reads ls ++ x ∷ []
leaf_reads_more [] x = refl
leaf_reads_more (l ∷ ls) x =
    ap (λ (rs : List Read). l.leaf ∷ (tree_reads l.trees ++ rs)) (leaf_reads_more ls x)
    ∙ ap (λ (rs : List Read). l.leaf ∷ rs) (sym (append_assoc (tree_reads l.trees) (leaf_reads ls) (x ∷ [])))

key_reads_join : (ks js : List KeyWalk) → key_reads (ks ++ js) ≡ key_reads ks ++ key_reads js
key_reads_join [] js = refl
key_reads_join (k ∷ ks) js =
    ap (λ (rs : List Read). k.down ++ (leaf_reads k.leaves ++ rs)) (key_reads_join ks js)
    ∙ ap (λ (rs : List Read). k.down ++ rs) (sym (append_assoc (leaf_reads k.leaves) (key_reads ks) (key_reads js)))
    ∙ sym (append_assoc k.down (leaf_reads k.leaves ++ key_reads ks) (key_reads js))

-- pages more of the last walk are pages more of all
pub reads_more : (ks : List KeyWalk) (k k' : KeyWalk) (xs : List Read)
    → k'.down ++ leaf_reads k'.leaves ≡ (k.down ++ leaf_reads k.leaves) ++ xs
    → key_reads (ks ++ k' ∷ []) ≡ key_reads (ks ++ k ∷ []) ++ xs
reads_more ks k k' xs e =
    key_reads_join ks (k' ∷ [])
    ∙ ap (λ (rs : List Read). key_reads ks ++ rs) (one k' ∙ e ∙ ap (λ (rs : List Read). rs ++ xs) (sym (one k)))
    ∙ sym (append_assoc (key_reads ks) (key_reads (k ∷ [])) xs)
    ∙ ap (λ (rs : List Read). rs ++ xs) (sym (key_reads_join ks (k ∷ [])))
  where
    one : (j : KeyWalk) → key_reads (j ∷ []) ≡ j.down ++ leaf_reads j.leaves
    one j = ap (λ (rs : List Read). j.down ++ rs) (append-nil (leaf_reads j.leaves))

pub down_reads : (k : KeyWalk) (x : Read) (next : ℕ) → k.leaves ≡ []
    → (more_down k x next).down ++ leaf_reads (more_down k x next).leaves ≡ (k.down ++ leaf_reads k.leaves) ++ x ∷ []
down_reads k x next none =
    append-nil (k.down ++ x ∷ [])
    ∙ ap (λ (rs : List Read). rs ++ x ∷ []) (sym (append-nil k.down)
    ∙ ap (λ (ls : List LeafRead). k.down ++ leaf_reads ls) (sym none))

pub leaf_read : (k : KeyWalk) (x : Read) → k.leaves ≡ []
    → (at_leaf k x).down ++ leaf_reads (at_leaf k x).leaves ≡ (k.down ++ leaf_reads k.leaves) ++ x ∷ []
leaf_read k x none =
    ap (λ (rs : List Read). rs ++ x ∷ []) (sym (append-nil k.down)
    ∙ ap (λ (ls : List LeafRead). k.down ++ leaf_reads ls) (sym none))

pub leaves_read : (k : KeyWalk) (x : Read)
    → (more_leaves k x).down ++ leaf_reads (more_leaves k x).leaves ≡ (k.down ++ leaf_reads k.leaves) ++ x ∷ []
leaves_read k x =
    ap (λ (rs : List Read). k.down ++ rs) (leaf_reads_more k.leaves x)
    ∙ sym (append_assoc k.down (leaf_reads k.leaves) (x ∷ []))

-- ── entries that were read ──

pub entries_join : (ks : List KeyWalk) (k : KeyWalk)
    → entries_read (ks ++ k ∷ []) ≡ entries_read ks ++ entries_on k.sought k.leaves
entries_join ks k =
    flat_map-append (λ (j : KeyWalk). entries_on j.sought j.leaves) ks (k ∷ [])
    ∙ ap (λ (es : List Entry). entries_read ks ++ es) (append-nil (entries_on k.sought k.leaves))

-- no tree was read yet
pub none_in_trees : (ts : List NamedTree) → entries_in_trees ts [] ≡ []
none_in_trees [] = refl
none_in_trees (t ∷ ts) = refl

leaf_join : (s : Sought) (ls : List LeafRead) (x : Read)
    → entries_on s (ls ++ leaf_alone x ∷ []) ≡ entries_on s ls ++ entries_with (fits s) (entries_of x.content)
leaf_join s ls x =
    flat_map-append (entries_under s) ls (leaf_alone x ∷ [])
    ∙ ap (λ (es : List Entry). entries_on s ls ++ es) (append-nil (entries_under s (leaf_alone x)) ∙ alone)
  where
    alone : entries_under s (leaf_alone x) ≡ entries_with (fits s) (entries_of x.content)
    alone =
        ap (λ (es : List Entry). entries_with (fits s) (entries_of x.content) ++ es)
        (none_in_trees (trees_on s (entries_of x.content)))
        ∙ append-nil (entries_with (fits s) (entries_of x.content))

-- a page on the way adds none
pub entries_down : (ks : List KeyWalk) (k : KeyWalk) (x : Read) (next : ℕ) → k.leaves ≡ []
    → entries_read (ks ++ more_down k x next ∷ []) ≡ entries_read (ks ++ k ∷ [])
entries_down ks k x next none =
    entries_join ks (more_down k x next)
    ∙ ap (λ (ls : List LeafRead). entries_read ks ++ entries_on k.sought ls) (sym none) ∙ sym (entries_join ks k)

-- a leaf adds those that fit
pub entries_at_leaf : (ks : List KeyWalk) (k : KeyWalk) (x : Read) → k.leaves ≡ []
    → entries_read (ks ++ at_leaf k x ∷ [])
    ≡ entries_read (ks ++ k ∷ []) ++ entries_with (fits k.sought) (entries_of x.content)
entries_at_leaf ks k x none =
    entries_join ks (at_leaf k x)
    ∙ ap (λ (es : List Entry). entries_read ks ++ es) (leaf_join k.sought [] x)
    ∙ ap (λ (es : List Entry). es ++ entries_with (fits k.sought) (entries_of x.content))
    (sym (append-nil (entries_read ks))
    ∙ ap (λ (ls : List LeafRead). entries_read ks ++ entries_on k.sought ls) (sym none)
    ∙ sym (entries_join ks k))

pub entries_along : (ks : List KeyWalk) (k : KeyWalk) (x : Read)
    → entries_read (ks ++ more_leaves k x ∷ [])
    ≡ entries_read (ks ++ k ∷ []) ++ entries_with (fits k.sought) (entries_of x.content)
entries_along ks k x =
    entries_join ks (more_leaves k x)
    ∙ ap (λ (es : List Entry). entries_read ks ++ es) (leaf_join k.sought k.leaves x)
    ∙ sym (append_assoc (entries_read ks) (entries_on k.sought k.leaves)
    (entries_with (fits k.sought) (entries_of x.content)))
    ∙ ap (λ (es : List Entry). es ++ entries_with (fits k.sought) (entries_of x.content)) (sym (entries_join ks k))
