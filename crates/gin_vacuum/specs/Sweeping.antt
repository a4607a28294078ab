-- How far dead items have left the trees, as a pass has seen it.
use Rattle.std.specs.Prelude.{◌≡◌, ◌≢◌, ℕ, suc, ◌+◌, ◌<◌, ◌≤◌, List, [], take, Option, Some, None, ⊤}
use Rattle.std.specs.List.{slice_get}
use Rattle.disk_trait.specs.declared.device.Disk.{Ghosts as Disk}
use Rattle.ts_base.specs.Keys.{Key}
use Rattle.page_types.specs.Items.{items_of}
use Rattle.page_types.specs.Numbers.{item_limit}
use Rattle.page_types.specs.Views.{entries_of}
use Rattle.page_types.specs.declared.page.Entry.{Entry}
use Rattle.page_types.specs.declared.page.Postings.TheVariants.{Inline, Root}
use Rattle.page_types.specs.declared.page.Body.TheVariants as body
use Rattle.core_state.specs.Log.{Pages, In}
use Rattle.core_state.specs.Index.{Main, IsNamed}
use Rattle.core_state.specs.TreeRules.{Toward, TowardItem}
use Rattle.core_state.specs.PagesTold.{IsEntryLeaf, UpEntryLeaf, IsPostLeaf, OnPostLeaf, UpPostLeaf}
use Rattle.core_maintenance.specs.Leading.{IsHigh, IsHighPost}
use Rattle.core_vacuum.specs.Leaving.{IsSwept}
use Rattle.core_vacuum.specs.Leaves.{IsFirst}
use Rattle.buffer_frames.specs.Frames.{FramesValue}
use Rattle.buffer_frames.specs.Passes.{Seen}
use Rattle.buffer_frames.specs.declared.pass.Pass.{Pass}
use Rattle.gin_vacuum.specs.Vacuum.{AreDead}
use Rattle.gin_vacuum.specs.declared.deleting.Empty.{Empty}
use Rattle.gin_vacuum.specs.declared.sweeping.Sweeping.{Sweeping}
use Rattle.gin_vacuum.specs.declared.sweeping.Stage.{Stage}
use Rattle.gin_vacuum.specs.declared.sweeping.Stage.TheVariants as stage

-- a dead item is under the key; or on a leaf of the tree with this root
abbrev pub IsDirty : Pages → List ℕ → Key → Type 0
IsDirty P dead k = (i : ℕ) × In i dead × Main P k i

abbrev pub IsDirtyItem : Pages → List ℕ → ℕ → ℕ → Type 0
IsDirtyItem P dead root i = In i dead × ((q : ℕ) × IsPostLeaf P root q × OnPostLeaf P q i)

-- no dead item is on a leaf of the tree
abbrev pub IsCleanTree : Pages → List ℕ → ℕ → Type 0
IsCleanTree P dead root = (i : ℕ) → IsDirtyItem P dead root i → ⊥

-- The page is the first leaf, or that to which a leaf leads up to whose high key (item) nothing is dirty; 0
-- is that which follows the last one. `Up q k` says that k may be on leaf q, by its high key.
pub data Passed {K : Type 0} (P : Pages) (IsLeaf : ℕ → Type 0) (Up : ℕ → K → Type 0) (Dirty : K → Type 0)
    (page : ℕ) : Type 0 where
  first : ((q : ℕ) → IsLeaf q → (P q).right ≡ page → ⊥) → Passed P IsLeaf Up Dirty page
  after : (q : ℕ) → IsLeaf q → (P q).right ≡ page → ((k : K) → Up q k → Dirty k → ⊥) → Passed P IsLeaf Up Dirty page

-- so it is of a leaf of the entry tree
abbrev pub IsPassed : Pages → List ℕ → ℕ → Type 0
IsPassed P dead page = Passed P (IsEntryLeaf P) (UpEntryLeaf P) (IsDirty P dead) page

-- ── how many pages more are read ──

-- from this leaf on right links lead over so many leaves; that of the last is 0
pub data LeadsOver (P : Pages) (IsLeaf : ℕ → Type 0) : ℕ → ℕ → Type 0 where
  end : LeadsOver P IsLeaf 0 0
  next : {page n : ℕ} → IsLeaf page → LeadsOver P IsLeaf (P page).right n → LeadsOver P IsLeaf page (suc n)

-- the leaves from this one on are no more than may be read
abbrev pub AreLeft : Pages → (ℕ → Type 0) → ℕ → Option ℕ → Type 0
AreLeft P IsLeaf page None = ⊥
AreLeft P IsLeaf page (Some n) = (m : ℕ) × LeadsOver P IsLeaf page m × (m ≤ n)

-- Nor are those of the tree with the pages on the way from this one down to the first leaf.
pub record AreLeftBelow (P : Pages) (IsLeaf : ℕ → Type 0) (IsHighAt : ℕ → ℕ → Type 0) (page n : ℕ) : Type 0 where
  pub high : ℕ
  pub is_high : IsHighAt high page
  pub first : ℕ
  pub is_leaf : IsLeaf first
  pub is_first : IsFirst P IsLeaf first
  pub leaves : ℕ
  pub lead : LeadsOver P IsLeaf first leaves
  pub enough : high + leaves < n

-- before the first page, which is the root, none is said
abbrev pub AreLeftDown : Pages → (ℕ → Type 0) → (ℕ → ℕ → Type 0) → ℕ → ℕ → Option ℕ → Type 0
AreLeftDown P IsLeaf IsHighAt root page None = page ≡ root
AreLeftDown P IsLeaf IsHighAt root page (Some n) = AreLeftBelow P IsLeaf IsHighAt page n

-- the way down from this page has fewer steps than may be read; before its first page likewise
abbrev pub IsHighLeft : Pages → ℕ → ℕ → Option ℕ → Type 0
IsHighLeft P root page None = page ≡ root
IsHighLeft P root page (Some n) = (h : ℕ) × IsHighPost P h page × (h < n)

-- ── the leaf at work ──

-- The leaf of the entry tree at work: the leaves before it are clean, and so are its lists. The trees that its
-- entries name have these roots, of which so many, the first, are clean; and its right link is this, from which the
-- leaves to come are no more than may be read.
pub record IsLeafAt (P : Pages) (dead roots : List ℕ) (next link : ℕ) (more : Option ℕ) (leaf : ℕ) : Type 0 where
  pub is_leaf : IsEntryLeaf P leaf
  pub passed : IsPassed P dead leaf
  pub link_is : (P leaf).right ≡ link
  pub lists : (e : Entry) (list : List ℕ) (i : ℕ) → In e (entries_of (P leaf)) → e.postings ≡ Inline list
      → In i dead → In i (items_of list) → ⊥
  pub named : (root : ℕ) → In root roots → (k : Key) × IsNamed P k root
  pub all : (e : Entry) (root : ℕ) → In e (entries_of (P leaf)) → e.postings ≡ Root root → In root roots
  pub trees : (root : ℕ) → In root (take next roots) → IsCleanTree P dead root
  pub last : link ≡ 0 → (k : Key) → UpEntryLeaf P leaf k
  pub left : AreLeft P (IsEntryLeaf P) link more

-- The tree at work is the last of the first so many, and those before it are clean.
pub record IsTreeAt (P : Pages) (dead roots : List ℕ) (next link : ℕ) (left : Option ℕ) (root : ℕ) : Type 0 where
  pub leaf : ℕ
  pub before : ℕ
  pub next_is : next ≡ before + 1
  pub at : IsLeafAt P dead roots before link left leaf
  pub root_is : slice_get roots before ≡ Some root

-- a leaf of the tree, and the one before it, 0 where it is the first
pub data IsAfter (P : Pages) (dead : List ℕ) (root : ℕ) : ℕ → ℕ → Type 0 where
  first : {page : ℕ} → ((q : ℕ) → IsPostLeaf P root q → (P q).right ≡ page → ⊥) → IsAfter P dead root 0 page
  after : {before page : ℕ} → before ≢ 0 → IsPostLeaf P root before → (P before).right ≡ page
      → ((i : ℕ) → UpPostLeaf P before i → IsDirtyItem P dead root i → ⊥) → IsAfter P dead root before page

-- the leaf is empty, and has this high item and this right link
pub record IsEmptyLeaf (P : Pages) (e : Empty) : Type 0 where
  pub content : (P e.page).body ≡ body.PostLeaf e.high []
  pub high : e.high ≢ 0
  pub item : e.high < item_limit
  pub link : (P e.page).right ≡ e.link
  pub link_is : e.link ≢ 0

-- what is said of the page that is read next
abbrev pub IsAt : Pages → List ℕ → Sweeping → Stage → Type 0
IsAt P dead s (stage.Down page) = Toward P [] 1 page × AreLeftDown P (IsEntryLeaf P) (IsHigh P) 1 page s.left
IsAt P dead s (stage.Leaf page) = IsEntryLeaf P page × IsPassed P dead page × AreLeft P (IsEntryLeaf P) page s.left
IsAt P dead s (stage.TreeDown root page) =
    IsTreeAt P dead s.roots.items s.next s.link s.left root × TowardItem P 0 root page
    × AreLeftDown P (IsPostLeaf P root) (IsHighPost P) root page s.left_below
IsAt P dead s (stage.Posts root before page) =
    IsTreeAt P dead s.roots.items s.next s.link s.left root × IsPostLeaf P root page × IsAfter P dead root before page
    × AreLeft P (IsPostLeaf P root) page s.left_below
IsAt P dead s (stage.Parent empty page left) =
    IsTreeAt P dead s.roots.items s.next s.link s.left empty.root × IsPostLeaf P empty.root empty.page
    × IsAfter P dead empty.root empty.before empty.page × IsEmptyLeaf P empty
    × TowardItem P empty.high empty.root page × AreLeft P (IsPostLeaf P empty.root) empty.link s.left_below
    × IsHighLeft P empty.root page left × TowardItem P empty.high page empty.page × (page ≢ empty.page)
IsAt P dead s stage.Done = (i : ℕ) → In i dead → IsSwept P i

-- the high item of an empty leaf is one that items have
abbrev pub HasHigh : Stage → Type 0
HasHigh (stage.Parent empty page left) = (0 < empty.high) × (empty.high < item_limit)
HasHigh _ = ⊤

-- The dead items may leave, and so far they have.
pub record IsSweeping {D : Type 0} (device : Disk D) (f : FramesValue D) (pass : Pass) (dead : List ℕ) (s : Sweeping)
    : Type 0 where
  pub leave : AreDead device f pass dead
  pub at : Seen device f pass (λ S P. IsAt P dead s s.stage)
  pub high : HasHigh s.stage
