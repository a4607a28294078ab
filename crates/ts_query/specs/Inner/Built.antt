-- The two lists of a query, made item by item.
use Rattle.std.specs.Prelude.{◌≡◌, List, [], ◌∷◌}
use Rattle.ts_query.specs.Queries.{Operand, Tree}
use Rattle.ts_query.specs.Postfix.{Item, operand_item, not_item, joint_item, nodes_from, items_of}
use Rattle.ts_query.specs.Building.{items_among, trees_from, AreSound}
use Rattle.ts_query.specs.declared.query.Builder.{Builder}

-- the operands of a postfix list, in their order
abbrev pub operands_from : List Item → List Operand
operands_from [] = []
operands_from (operand_item o ∷ is) = o ∷ operands_from is
operands_from (not_item ∷ is) = operands_from is
operands_from (joint_item j ∷ is) = operands_from is

-- the lists are those of these items
pub record IsBuilt (b : Builder) (items : List Item) : Type 0 where
  pub has_operands : b.operands.items ≡ operands_from items
  pub has_nodes : b.nodes.items ≡ nodes_from 0 items

-- the trees that the lists stand for
abbrev pub trees_in : Builder → List Tree
trees_in b = trees_from (items_of b.operands.items b.nodes.items)

-- the lists are those of these trees
pub record IsWritten (b : Builder) (trees : List Tree) : Type 0 where
  pub built : IsBuilt b (items_among trees)
  pub sound : AreSound trees
