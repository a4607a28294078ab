-- A walk that is open at its end: pages of it are still to be read.
use Rattle.std.specs.Prelude.{◌≡◌, ◌≢◌, ℕ, Bool, true, ⊤, List, [], ◌∷◌, ◌++◌}
use Rattle.ts_base.specs.Keys.{Key}
use Rattle.page_types.specs.Views.{entries_of}
use Rattle.page_types.specs.declared.page.Page.{Page}
use Rattle.page_types.specs.declared.page.Entry.{Entry}
use Rattle.page_types.specs.declared.page.Postings.{Postings}
use Rattle.page_types.specs.declared.page.Postings.TheVariants.{Root}
use Rattle.core_state.specs.Readings.{Read}
use Rattle.core_moments.specs.Walk.{Sought, KeyWalk, LeafRead, Follows, LeadTo, toward, beyond, first_key, fits}
use Rattle.core_moments.specs.Walk.{along as along_tree}

-- the reads begin at page p and follow next, and q is the page that is next: 0, or one to be read
abbrev pub LeadOn : (Page → ℕ) → ℕ → List Read → ℕ → Type 0
LeadOn next p [] q = p ≡ q
LeadOn next p (x ∷ xs) q = (p ≢ 0) × (x.page ≡ p) × LeadOn next (next x.content) xs q

-- ── posting trees ──

-- a posting tree that an entry names: the entry's key, and the root
pub record NamedTree : Type 0 where
  pub key : Key
  pub root : ℕ

abbrev pub tree_of : Bool → Key → Postings → List NamedTree → List NamedTree
tree_of true k (Root r) rest = record { key = k; root = r } ∷ rest
tree_of _ k p rest = rest

-- those that the entries name which fit, in their order
abbrev pub trees_on : Sought → List Entry → List NamedTree
trees_on s [] = []
trees_on s (e ∷ es) = tree_of (fits s e.key) e.key e.postings (trees_on s es)

-- reads of each of these trees, which are so from its root on
abbrev pub AreOfTrees : (ℕ → List Read → Type 0) → List NamedTree → List (List Read) → Type 0
AreOfTrees Is [] [] = ⊤
AreOfTrees Is [] (t ∷ ts) = ⊥
AreOfTrees Is (r ∷ rs) [] = ⊥
AreOfTrees Is (r ∷ rs) (t ∷ ts) = Is r.root t × AreOfTrees Is rs ts

-- reads of a tree from this root on: all of it, or up to some page
abbrev pub ReadsTree : ℕ → List Read → Type 0
ReadsTree r t = Follows along_tree r t

abbrev pub ReadsInTree : ℕ → List Read → Type 0
ReadsInTree r t = (q : ℕ) × LeadOn along_tree r t q

-- ── leaves, of whose trees the reads are so ──

-- the reads are leaves from page p on, as far as more keys may fit, and q is the page that is next: 0, or one to be
-- read
abbrev pub LeavesLead : (ℕ → List Read → Type 0) → Sought → ℕ → List LeafRead → ℕ → Type 0
LeavesLead Is s p [] q = p ≡ q
LeavesLead Is s p (l ∷ ls) q =
    (p ≢ 0) × (l.leaf.page ≡ p) × AreOfTrees Is (trees_on s (entries_of l.leaf.content)) l.trees
    × LeavesLead Is s (beyond s l.leaf.content) ls q

-- its reads lead from page 1 towards the leaf of its key, and this page is next
pub record IsOnWay (w : KeyWalk) (p : ℕ) : Type 0 where
  pub down : LeadTo (toward (first_key w.sought)) 1 w.down p
  pub none : w.leaves ≡ []

-- it has come to that leaf
pub record HasComeDown (w : KeyWalk) : Type 0 where
  pub down : LeadTo (toward (first_key w.sought)) 1 w.down w.leaf
  pub at_leaf : (l : LeafRead) × (ls : List LeafRead) × (w.leaves ≡ l ∷ ls)
      × (toward (first_key w.sought) l.leaf.content ≡ 0)

-- and has read of the leaves from there on the ones before this page; 0: all of them
pub record IsAmongLeaves (Is : ℕ → List Read → Type 0) (w : KeyWalk) (p : ℕ) : Type 0 where
  pub come_down : HasComeDown w
  pub leaves : LeavesLead Is w.sought w.leaf w.leaves p

-- Or it has read leaves, posting trees of the last one, and in the next tree pages up to this one (0: all of them). The
-- trees after it are still to be read, and then the leaf that is next.
pub record IsInTrees (Is : ℕ → List Read → Type 0) (w : KeyWalk) (p : ℕ) (rest : List NamedTree) (next : ℕ) : Type 0
  where
    pub come_down : HasComeDown w
    pub before : List LeafRead
    pub leaf : Read
    pub trees : List (List Read)
    pub last : List Read
    pub leaves : w.leaves ≡ before ++ record { leaf = leaf; trees = trees ++ last ∷ [] } ∷ []
    pub lead : LeavesLead Is w.sought w.leaf before leaf.page
    pub some : leaf.page ≢ 0
    pub done : List NamedTree
    pub tree : NamedTree
    pub named : trees_on w.sought (entries_of leaf.content) ≡ done ++ tree ∷ rest
    pub are_done : AreOfTrees Is done trees
    pub leads : LeadOn along_tree tree.root last p
    pub beyond_is : next ≡ beyond w.sought leaf.content

-- it leads to this page, on its way to the leaf of its key or among the leaves from there on; 0: it has ended
pub data WayLeads (Is : ℕ → List Read → Type 0) (w : KeyWalk) (p : ℕ) : Type 0 where
  down : IsOnWay w p → WayLeads Is w p
  along : IsAmongLeaves Is w p → WayLeads Is w p

-- the length of the log when the last page was read, t where none was
abbrev pub last_length : ℕ → List Read → ℕ
last_length t [] = t
last_length t (x ∷ xs) = last_length x.length xs
