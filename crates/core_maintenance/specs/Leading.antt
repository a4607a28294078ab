-- Where the ways down the trees of the index lead: to a leaf within its bounds, and in how many steps.
use Rattle.std.specs.Prelude.{◌≡◌, ◌≢◌, ℕ, suc, ◌<◌, ◌≤◌, List, []}
use Rattle.ts_base.specs.Keys.{Key}
use Rattle.page_types.specs.Numbers.{item_limit}
use Rattle.page_types.specs.declared.page.Entry.{Entry}
use Rattle.page_types.specs.declared.page.EntryChild.{EntryChild}
use Rattle.page_types.specs.declared.page.PostChild.{PostChild}
use Rattle.page_types.specs.declared.page.Body.TheVariants as body
use Rattle.core_state.specs.Log.{Log, Pages, In, Shows}
use Rattle.core_state.specs.Index.{IsNamed}
use Rattle.core_state.specs.Changes.{UpTo, ItemUpTo}
use Rattle.core_state.specs.TreeRules.{Toward, TowardItem}
use Rattle.core_state.specs.Legal.{IsLegal}

-- each way from page p down to a leaf of the entry tree has h steps
pub data IsHigh (P : Pages) : ℕ → ℕ → Type 0 where
  leaf : {p : ℕ} (high : Key) (es : List Entry) → (P p).body ≡ body.EntryLeaf high es
      → IsHigh P 0 p
  inner : {h p : ℕ} (cs : List EntryChild) → (P p).body ≡ body.EntryInner cs
      → ((c : EntryChild) → In c cs → IsHigh P h c.page) → IsHigh P (suc h) p

-- likewise of a posting tree
pub data IsHighPost (P : Pages) : ℕ → ℕ → Type 0 where
  leaf : {p : ℕ} (high : ℕ) (items : List ℕ) → (P p).body ≡ body.PostLeaf high items
      → IsHighPost P 0 p
  inner : {h p : ℕ} (cs : List PostChild) → (P p).body ≡ body.PostInner cs
      → ((c : PostChild) → In c cs → IsHighPost P h c.page) → IsHighPost P (suc h) p

-- the number is less than each that all used pages are below
abbrev pub IsWithin : Pages → ℕ → Type 0
IsWithin P h = (n : ℕ) → ((p : ℕ) → (P p).body ≢ body.Free → p < n) → h < n

-- The trees have their heights, which are less than the number of pages. On the way of a key a leaf may
-- have it by its high key, and an inner page has a child that may, by its bound; so it is of an item
-- from the root that an entry names. A greater item up to the high item of an item's leaf has the same way.
pub record WaysLead (P : Pages) : Type 0 where
  pub height : (h : ℕ) × IsHigh P h 1 × IsWithin P h
  pub leaf : (k : Key) (p : ℕ) (high : Key) (es : List Entry) → Toward P k 1 p
      → (P p).body ≡ body.EntryLeaf high es → UpTo k high
  pub child : (k : Key) (p : ℕ) (cs : List EntryChild) → Toward P k 1 p
      → (P p).body ≡ body.EntryInner cs → (c : EntryChild) × In c cs × UpTo k c.bound
  pub post_height : (k : Key) (root : ℕ) → IsNamed P k root
      → (h : ℕ) × IsHighPost P h root × IsWithin P h
  pub post_leaf : (k : Key) (root i p high : ℕ) (items : List ℕ) → IsNamed P k root
      → TowardItem P i root p → (P p).body ≡ body.PostLeaf high items → ItemUpTo i high
  pub post_child : (k : Key) (root i p : ℕ) (cs : List PostChild) → IsNamed P k root
      → i < item_limit → TowardItem P i root p → (P p).body ≡ body.PostInner cs
      → (c : PostChild) × In c cs × (i ≤ c.bound)
  pub post_near : (k : Key) (root i j p high : ℕ) (items : List ℕ) → IsNamed P k root → i ≤ j
      → j < item_limit → TowardItem P i root p → (P p).body ≡ body.PostLeaf high items → ItemUpTo j high
      → TowardItem P j root p

-- so they do in every legal log that isn't empty
abbrev pub WaysHold : Type 0
WaysHold = (R : Log) (P : Pages) → R ≢ [] → IsLegal R → Shows R P → WaysLead P
