-- What holds of a log, its pages and its ghosts after each record, where a document is dead by the
-- floor n, and pages that were deleted since the length L are kept.
use Rattle.std.specs.Prelude.{ℕ}
use Rattle.core_state.specs.Log.{Log, Pages}
use Rattle.core_state.specs.Trees.Nodes.{Sane}
use Rattle.core_state.specs.Trees.Ext.Ext.{least, greatest}
use Rattle.core_state.specs.Trees.TreeNodes.{entry_nodes, post_nodes}
use Rattle.core_state.proofs.Law.Rooted.{AreRooted}
use Rattle.core_state.specs.Inner.Ghosts.{Ghost, entry_ghost, post_ghost}
use Rattle.core_state.specs.Inner.Kinds.{KindsFit, PagesStart, IsLined, AreChained}
use Rattle.core_state.specs.Inner.HeadsKept.{HeadsKept}
use Rattle.core_state.specs.Inner.Effects.{AreIndexed}
use Rattle.core_state.specs.Inner.Owners.{RowsOwned, ItemsOwned, TreesNamed}
use Rattle.core_state.proofs.Trees.Orders.{keys, items}
use Rattle.core_state.specs.Inner.Grouping.{RowsGrouped}

pub record Inv (n L : ℕ) (R : Log) (P : Pages) (g : Ghost) : Type 0 where
  pub kinds : KindsFit L P g
  pub starts : PagesStart R P g
  pub lined : IsLined R P g
  pub entries : Sane keys greatest (entry_nodes P) (entry_ghost g)
  pub posts : Sane items greatest (post_nodes P) (post_ghost g)
  pub named : TreesNamed P g
  pub entries_rooted : AreRooted least greatest (entry_nodes P) (entry_ghost g)
  pub posts_rooted : AreRooted least greatest (post_nodes P) (post_ghost g)
  pub chained : AreChained P g
  pub heads : HeadsKept n R P
  pub rows_owned : RowsOwned n R P g
  pub items_owned : ItemsOwned P g
  pub grouped : RowsGrouped P g.line
  pub indexed : AreIndexed n R P
