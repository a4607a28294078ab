-- The walk of a scan: each page is one that a page before it names, as that one was read.
use Rattle.std.specs.Prelude.{◌≡◌, ◌≢◌, ℕ, Bool, true, false, cond, ◌&&◌, ◌||◌, nat_eq, List, [], ◌∷◌, ◌++◌, ⊤}
use Rattle.std.proofs.Common.{is_le}
use Rattle.ts_base.specs.Keys.{Key, key_order}
use Rattle.page_types.specs.declared.page.Page.{Page}
use Rattle.page_types.specs.declared.page.Entry.{Entry}
use Rattle.page_types.specs.declared.page.Postings.{Postings}
use Rattle.page_types.specs.declared.page.Postings.TheVariants.{Root}
use Rattle.page_types.specs.declared.page.EntryChild.{EntryChild}
use Rattle.page_types.specs.declared.page.PostChild.{PostChild}
use Rattle.page_types.specs.declared.page.Body.{Body}
use Rattle.page_types.specs.declared.page.Body.TheVariants.{EntryLeaf, EntryInner, PostLeaf, PostInner, Deleted}
use Rattle.page_types.specs.Views.{entries_of, first_of}
use Rattle.core_state.specs.Readings.{Read}
use Rattle.gin_opclass.specs.Class.{Asked}

-- the reads begin at page p and follow next, up to 0
abbrev pub Follows : (Page → ℕ) → ℕ → List Read → Type 0
Follows next p [] = p ≡ 0
Follows next p (x ∷ xs) = (p ≢ 0) × (x.page ≡ p) × Follows next (next x.content) xs

-- the reads begin at page p and follow next, and q is the page to be read then
abbrev pub LeadTo : (Page → ℕ) → ℕ → List Read → ℕ → Type 0
LeadTo next p [] q = p ≡ q
LeadTo next p (x ∷ xs) q = (x.page ≡ p) × (next x.content ≢ 0) × LeadTo next (next x.content) xs q

abbrev pub is_empty : Key → Bool
is_empty [] = true
is_empty (b ∷ bs) = false

-- k may be where this is the bound; no bytes: no bound
abbrev pub up_to : Key → Key → Bool
up_to k bound = is_empty bound || is_le (key_order k bound)

abbrev pub begins : Key → Key → Bool
begins [] k = true
begins (a ∷ as') [] = false
begins (a ∷ as') (b ∷ bs) = nat_eq a b && begins as' bs

-- the child for the key, or the right link where the key is past all bounds
abbrev pub child_for : ℕ → Key → List EntryChild → ℕ
child_for right k [] = right
child_for right k (c ∷ cs) = cond (up_to k c.bound) c.page (child_for right k cs)

-- towards the key's leaf; 0 at that leaf
abbrev pub toward : Key → Page → ℕ
toward k p = by p.body
  where
    by : Body → ℕ
    by (EntryInner cs) = child_for p.right k cs
    by (EntryLeaf high es) = cond (up_to k high) 0 p.right
    by _ = 0

-- to a posting tree's leftmost leaf, and on along the leaves
abbrev pub along : Page → ℕ
along p = by p.body
  where
    leftmost : List PostChild → ℕ
    leftmost [] = 0
    leftmost (c ∷ cs) = c.page

    by : Body → ℕ
    by (PostInner cs) = leftmost cs
    by (PostLeaf high items) = p.right
    by (Deleted g) = p.right
    by _ = 0

abbrev pub rightward : Page → ℕ
rightward p = p.right

pub data Sought : Type 0 where
  one : Key → Sought
  prefix : Key → Sought
  whole : Sought

abbrev pub first_key : Sought → Key
first_key (one k) = k
first_key (prefix k) = k
first_key whole = []

abbrev pub fits : Sought → Key → Bool
fits (one k) x = begins k x && begins x k
fits (prefix k) x = begins k x
fits whole x = true

-- the next leaf, where more keys may fit
abbrev pub beyond : Sought → Page → ℕ
beyond s p = by s p.body
  where
    by : Sought → Body → ℕ
    by (prefix k) (EntryLeaf high es) = cond (is_empty high || begins k high) p.right 0
    by whole (EntryLeaf high es) = p.right
    by _ _ = 0

-- a leaf, and the posting trees of those of its entries that fit, as they were read
pub record LeafRead : Type 0 where
  pub leaf : Read
  pub trees : List (List Read)

-- an entry that fits and has a tree has its reads in turn
abbrev pub Branch : Bool → Postings → (List (List Read) → Type 0) → List (List Read) → Type 0
Branch true (Root r) rest ts =
    (t : List Read) × (ts' : List (List Read)) × (ts ≡ t ∷ ts') × Follows along r t × rest ts'
Branch _ _ rest ts = rest ts

abbrev pub AreTrees : Sought → List Entry → List (List Read) → Type 0
AreTrees s [] ts = ts ≡ []
AreTrees s (e ∷ es) ts = Branch (fits s e.key) e.postings (AreTrees s es) ts

abbrev pub AreLeaves : Sought → ℕ → List LeafRead → Type 0
AreLeaves s p [] = p ≡ 0
AreLeaves s p (l ∷ ls) =
    (p ≢ 0) × (l.leaf.page ≡ p) × AreTrees s (entries_of l.leaf.content) l.trees
    × AreLeaves s (beyond s l.leaf.content) ls

pub record KeyWalk : Type 0 where
  pub sought : Sought
  pub down : List Read
  pub leaf : ℕ
  pub leaves : List LeafRead

pub record IsKeyWalk (w : KeyWalk) : Type 0 where
  pub down_ok : LeadTo (toward (first_key w.sought)) 1 w.down w.leaf
  pub is_leaf : (l : LeafRead) × (ls : List LeafRead) × (w.leaves ≡ l ∷ ls)
      × (toward (first_key w.sought) l.leaf.content ≡ 0)
  pub leaves_ok : AreLeaves w.sought w.leaf w.leaves

abbrev pub sought_of : Asked → Sought
sought_of a = cond a.prefix (prefix a.key) (one a.key)

abbrev pub AreKeyWalks : List Sought → List KeyWalk → Type 0
AreKeyWalks [] [] = ⊤
AreKeyWalks [] (w ∷ ws) = ⊥
AreKeyWalks (s ∷ ss) [] = ⊥
AreKeyWalks (s ∷ ss) (w ∷ ws) = (w.sought ≡ s) × IsKeyWalk w × AreKeyWalks ss ws

pub record Walk : Type 0 where
  pub meta : Read
  pub pending : List Read
  pub keys : List KeyWalk

abbrev pub tree_reads : List (List Read) → List Read
tree_reads [] = []
tree_reads (t ∷ ts) = t ++ tree_reads ts

abbrev pub leaf_reads : List LeafRead → List Read
leaf_reads [] = []
leaf_reads (l ∷ ls) = l.leaf ∷ (tree_reads l.trees ++ leaf_reads ls)

abbrev pub key_reads : List KeyWalk → List Read
key_reads [] = []
key_reads (w ∷ ws) = w.down ++ (leaf_reads w.leaves ++ key_reads ws)

abbrev pub reads_of : Walk → List Read
reads_of w = w.meta ∷ (w.pending ++ key_reads w.keys)

-- a walk for these keys, or for all: metapage, pending pages, then key by key
pub record IsWalk (sought : List Sought) (w : Walk) : Type 0 where
  pub meta_page : w.meta.page ≡ 0
  pub pending_ok : Follows rightward (first_of w.meta.content) w.pending
  pub keys_ok : AreKeyWalks sought w.keys
