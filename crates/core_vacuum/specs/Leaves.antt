-- Which leaf of a tree has a key, or an item, and which is the first.
use Rattle.std.specs.Prelude.{◌≡◌, ◌≢◌, ◌⊎◌, ℕ, List, []}
use Rattle.ts_base.specs.Keys.{Key}
use Rattle.page_types.specs.declared.page.Body.TheVariants as body
use Rattle.core_state.specs.Log.{Log, Pages, Shows}
use Rattle.core_state.specs.Index.{IsNamed}
use Rattle.core_state.specs.TreeRules.{Toward, TowardItem, IsLeftLeaf}
use Rattle.core_state.specs.PagesTold.{IsEntryLeaf, OnEntryLeaf, UpEntryLeaf, IsPostLeaf, OnPostLeaf, UpPostLeaf}
use Rattle.core_state.specs.Legal.{IsLegal}

-- no leaf's right link leads to the page
abbrev pub IsFirst : Pages → (ℕ → Type 0) → ℕ → Type 0
IsFirst P IsLeaf p = (q : ℕ) → IsLeaf q → (P q).right ≡ p → ⊥

-- The leaves of a tree, where `On p k` says that k is on leaf p, and `Up p k` that k may, by the leaf's
-- high key. Page 0 is none. No two have one k. What is up to the high key of the first is on the first;
-- what is up to that of the leaf to which another leads is on that leaf, or up to the other's; and all is
-- up to that of the last.
pub record LeavesCover {K : Type 0} (P : Pages) (IsLeaf : ℕ → Type 0)
    (On Up : ℕ → K → Type 0) : Type 0 where
  pub not_zero : IsLeaf 0 → ⊥
  pub one : (x y : ℕ) (k : K) → IsLeaf x → IsLeaf y → On x k → On y k → x ≡ y
  pub first : (p x : ℕ) (k : K) → IsLeaf p → IsFirst P IsLeaf p → IsLeaf x → On x k → Up p k → x ≡ p
  pub next : (p x : ℕ) (k : K) → IsLeaf p → (P p).right ≢ 0 → IsLeaf x → On x k → Up (P p).right k
      → Up p k ⊎ (x ≡ (P p).right)
  pub last : (p : ℕ) (k : K) → IsLeaf p → (P p).right ≡ 0 → Up p k

-- So are the leaves of the entry tree, and those of each posting tree. The way of the key without bytes
-- leads to the first leaf of the entry tree, and that of the item 0 to the first of a posting tree. A
-- leaf that leads to one of a tree is one of the tree.
pub record LeavesStand (P : Pages) : Type 0 where
  pub entries : LeavesCover P (IsEntryLeaf P) (OnEntryLeaf P) (UpEntryLeaf P)
  pub postings : (k : Key) (root : ℕ) → IsNamed P k root
      → LeavesCover P (IsPostLeaf P root) (OnPostLeaf P) (UpPostLeaf P)
  pub first : (p : ℕ) → Toward P [] 1 p → IsEntryLeaf P p → IsFirst P (IsEntryLeaf P) p
  pub first_post : (k : Key) (root p high : ℕ) (items : List ℕ) → IsNamed P k root
      → TowardItem P 0 root p → (P p).body ≡ body.PostLeaf high items
      → IsPostLeaf P root p × IsFirst P (IsPostLeaf P root) p
  pub left : (k : Key) (root p q : ℕ) → IsNamed P k root → IsPostLeaf P root p → IsLeftLeaf P q p
      → IsPostLeaf P root q

-- so they do in every legal log that isn't empty
abbrev pub LeavesHold : Type 0
LeavesHold = (R : Log) (P : Pages) → R ≢ [] → IsLegal R → Shows R P → LeavesStand P
