-- Where each page is, and what a log's pages don't say of its trees.
use Rattle.std.specs.Prelude.{ℕ, List, []}
use Rattle.ts_base.specs.Keys.{Key}
use Rattle.core_state.specs.Trees.Nodes as nodes
use Rattle.core_state.specs.Trees.Ext.{Ext}
use Rattle.core_state.specs.Trees.Ext.Ext.{least}

-- where a page may be; L is the length since which deleted pages are kept
pub data Place : Type 0 where
  unused : Place
  meta : Place
  heap : Place
  line : Place
  -- deleted, and free to be taken
  past : Place
  -- a page of the pending list that was deleted since L
  shifted : Place
  -- a leaf of this posting tree that was deleted since L
  left : ℕ → Place
  -- the height above the leaves
  entry : ℕ → Place
  -- the root and the height
  post : ℕ → ℕ → Place
  -- on a chain of the item
  overflow_of : ℕ → Place
  private_of : ℕ → Place

-- the place of each page, the bounds of the pages of trees, the key of each posting tree by its
-- root, and the pages of the pending list
pub record Ghost : Type 0 where
  pub place : ℕ → Place
  pub low_key : ℕ → Ext Key
  pub high_key : ℕ → Ext Key
  pub low_item : ℕ → Ext ℕ
  pub high_item : ℕ → Ext ℕ
  pub key_of : ℕ → Key
  pub line : List ℕ

-- the place in the entry tree, whose root is page 1
abbrev pub entry_place : Place → nodes.TreePlace
entry_place (entry h) = nodes.TreePlace.tree 1 h
entry_place _ = nodes.TreePlace.none

-- the place in a posting tree
abbrev pub post_place : Place → nodes.TreePlace
post_place (post r h) = nodes.TreePlace.tree r h
post_place (left r) = nodes.TreePlace.left r
post_place _ = nodes.TreePlace.none

abbrev pub entry_ghost : Ghost → nodes.TreeGhost (Ext Key)
entry_ghost g =
    record { place = λ p. entry_place (g.place p); low = g.low_key; high = g.high_key }

abbrev pub post_ghost : Ghost → nodes.TreeGhost (Ext ℕ)
post_ghost g =
    record { place = λ p. post_place (g.place p); low = g.low_item; high = g.high_item }

-- what was deleted is free to be taken
abbrev pub forgotten_place : Place → Place
forgotten_place shifted = past
forgotten_place (left r) = past
forgotten_place x = x

abbrev pub forgotten : Ghost → Ghost
forgotten g = record g { place = λ p. forgotten_place (g.place p) }

-- no page is used
abbrev pub no_ghost : Ghost
no_ghost =
    record {
      place = λ p. unused;
      low_key = λ p. least;
      high_key = λ p. least;
      low_item = λ p. least;
      high_item = λ p. least;
      key_of = λ p. [];
      line = [];
    }
