-- What is noted of the pages of posting trees that have no items.
use Rattle.std.proofs.Common.{[], sym, ap, subst}
use Rattle.page_types.specs.Items.{AreItems, IsItemList, item_list}
use Rattle.core_state.proofs.Law.TreeViews.{no_items}

-- no bytes are a list
pub no_list : IsItemList []
no_list = record {
  items = subst AreItems (sym no_items) tt;
  encoding = ap item_list (sym no_items);
}
