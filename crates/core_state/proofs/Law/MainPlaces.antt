-- Where a pair of the main part is, and what says it of the pages.
use Rattle.std.specs.Prelude.{◌≡◌, ℕ, List}
use Rattle.ts_base.specs.Keys.{Key}
use Rattle.page_types.specs.Items.{items_of}
use Rattle.page_types.specs.Views.{entries_of, posting_items_in}
use Rattle.page_types.specs.declared.page.Entry.{Entry}
use Rattle.page_types.specs.declared.page.Postings.TheVariants.{Inline}
use Rattle.core_state.specs.Log.{Pages, In}
use Rattle.core_state.specs.Trees.Ext.Ext.{least, greatest}
use Rattle.core_state.specs.Trees.Nodes.{Sane}
use Rattle.core_state.specs.Trees.TreeNodes.{post_nodes}
use Rattle.core_state.specs.Inner.Ghosts.{Ghost, post_ghost}
use Rattle.core_state.specs.Inner.Ghosts.Place.{post}
use Rattle.core_state.specs.Inner.Kinds.{KindsFit}
use Rattle.core_state.specs.Inner.Owners.{TreesNamed}
use Rattle.core_state.proofs.Trees.Orders.{items}
use Rattle.core_state.proofs.Law.Rooted.{AreRooted}

-- a pair is in an entry's list, or on a leaf of a posting tree of its key
pub data MainAt (P : Pages) (g : Ghost) (k : Key) (i : ℕ) : Type 0 where
  listed : (q : ℕ) (e : Entry) (bytes : List ℕ) → In e (entries_of (P q)) → e.key ≡ k
      → e.postings ≡ Inline bytes → In i (items_of bytes) → MainAt P g k i
  posted : (q r : ℕ) → g.place q ≡ post r 0 → g.key_of r ≡ k
      → In i (posting_items_in (P q).body) → MainAt P g k i

-- the part of the invariant that speaks of posting trees
pub record PostsHold (L : ℕ) (P : Pages) (g : Ghost) : Type 0 where
  pub kinds : KindsFit L P g
  pub posts : Sane items greatest (post_nodes P) (post_ghost g)
  pub rooted : AreRooted least greatest (post_nodes P) (post_ghost g)
  pub named : TreesNamed P g
