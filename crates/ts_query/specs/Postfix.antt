-- A query and its postfix list: each gives the other.
use Rattle.std.specs.Prelude.{◌≡◌, ◌⊎◌, ℕ, suc, List, [], ◌∷◌, ◌++◌, Bool, Some, None}
use Rattle.std.proofs.Common.{refl, sym, ap, ◌∙◌, append_assoc, inl, inr}
use Rattle.std.specs.Coded.{Coded, code_by, coded_ℕ, coded_bool, coded_list, coded×, coded⊎}
use Rattle.ts_query.specs.declared.query.Node.{Node}
use Rattle.ts_query.specs.declared.query.Node.TheVariants.{Leaf, Not, And, Or, Phrase}
use Rattle.ts_query.specs.Queries.{Operand, Joint, or_joint, and_joint, phrase_joint, Tree, leaf, negated, joined}
use Rattle.ts_query.specs.Queries.{Query, operands_of, IsSound}

-- an item of a postfix list
pub data Item : Type 0 where
  operand_item : Operand → Item
  not_item : Item
  joint_item : Joint → Item

-- each operator is after its operands
abbrev pub postfix : Tree → List Item
postfix (leaf o) = operand_item o ∷ []
postfix (negated x) = postfix x ++ not_item ∷ []
postfix (joined j x y) = postfix x ++ postfix y ++ joint_item j ∷ []

abbrev pub postfix_of : Query → List Item
postfix_of None = []
postfix_of (Some t) = postfix t

-- the trees that are on a stack after the items, the top first; an item that finds too few takes none
abbrev pub run : List Item → List Tree → List Tree
run [] st = st
run (operand_item o ∷ is) st = run is (leaf o ∷ st)
run (not_item ∷ is) [] = run is []
run (not_item ∷ is) (x ∷ st) = run is (negated x ∷ st)
run (joint_item j ∷ is) [] = run is []
run (joint_item j ∷ is) (y ∷ []) = run is (y ∷ [])
run (joint_item j ∷ is) (y ∷ x ∷ st) = run is (joined j x y ∷ st)

abbrev pub top : List Tree → Query
top [] = None
top (x ∷ st) = Some x

-- the query that a postfix list stands for
abbrev pub query_from : List Item → Query
query_from is = top (run is [])

pub run-postfix : (t : Tree) (is : List Item) (st : List Tree) → run (postfix t ++ is) st ≡ run is (t ∷ st)
run-postfix (leaf o) is st = refl
run-postfix (negated x) is st =
    ap (λ l. run l st) (append_assoc (postfix x) (not_item ∷ []) is) ∙ run-postfix x (not_item ∷ is) st
run-postfix (joined j x y) is st =
    ap (λ l. run l st) (append_assoc (postfix x ++ postfix y) (joint_item j ∷ []) is
    ∙ append_assoc (postfix x) (postfix y) (joint_item j ∷ is))
    ∙ run-postfix x (postfix y ++ joint_item j ∷ is) st ∙ run-postfix y (joint_item j ∷ is) (x ∷ st)

append_none : (l : List Item) → l ++ [] ≡ l
append_none [] = refl
append_none (n ∷ l) = ap (λ k. n ∷ k) (append_none l)

pub query_from-postfix_of : (q : Query) → query_from (postfix_of q) ≡ q
query_from-postfix_of None = refl
query_from-postfix_of (Some t) = ap (λ l. top (run l [])) (sym (append_none (postfix t))) ∙ ap top (run-postfix t [] [])

-- how a query is stored where contracts keep it: as its postfix list
abbrev pub operand_code : Coded Operand
operand_code =
    code_by (List ℕ × (Bool × (Bool × (Bool × (Bool × Bool)))))
    (coded× (coded_list coded_ℕ)
    (coded× coded_bool (coded× coded_bool (coded× coded_bool (coded× coded_bool coded_bool)))))
    (λ o. (o.lexeme, (o.weights.a, (o.weights.b, (o.weights.c, (o.weights.d, o.prefix))))))
    (λ p. record {
      lexeme = p.0;
      weights = record { a = p.1.0; b = p.1.1.0; c = p.1.1.1.0; d = p.1.1.1.1.0 };
      prefix = p.1.1.1.1.1;
    })
    (λ _. refl)

abbrev pub item_parts : Item → Operand ⊎ List ℕ
item_parts (operand_item o) = inl o
item_parts not_item = inr []
item_parts (joint_item or_joint) = inr (0 ∷ [])
item_parts (joint_item and_joint) = inr (0 ∷ 0 ∷ [])
item_parts (joint_item (phrase_joint n)) = inr (n ∷ 0 ∷ 0 ∷ [])

abbrev pub item_of_parts : Operand ⊎ List ℕ → Item
item_of_parts (inl o) = operand_item o
item_of_parts (inr []) = not_item
item_of_parts (inr (a ∷ [])) = joint_item or_joint
item_of_parts (inr (a ∷ b ∷ [])) = joint_item and_joint
item_of_parts (inr (n ∷ a ∷ b ∷ l)) = joint_item (phrase_joint n)

pub item_of_parts-item_parts : (i : Item) → item_of_parts (item_parts i) ≡ i
item_of_parts-item_parts (operand_item o) = refl
item_of_parts-item_parts not_item = refl
item_of_parts-item_parts (joint_item or_joint) = refl
item_of_parts-item_parts (joint_item and_joint) = refl
item_of_parts-item_parts (joint_item (phrase_joint n)) = refl

abbrev pub item_code : Coded Item
item_code = code_by (Operand ⊎ List ℕ)
    (coded⊎ operand_code (coded_list coded_ℕ)) item_parts item_of_parts item_of_parts-item_parts

abbrev pub query_code : Coded Query
query_code = code_by (List Item) (coded_list item_code) postfix_of query_from query_from-postfix_of

-- ── in memory ──
abbrev pub joint_node : Joint → Node
joint_node or_joint = Or
joint_node and_joint = And
joint_node (phrase_joint n) = Phrase n

-- the nodes of a postfix list, its operands numbered in their order from k on
abbrev pub nodes_from : ℕ → List Item → List Node
nodes_from k [] = []
nodes_from k (operand_item o ∷ is) = Leaf k ∷ nodes_from (suc k) is
nodes_from k (not_item ∷ is) = Not ∷ nodes_from k is
nodes_from k (joint_item j ∷ is) = joint_node j ∷ nodes_from k is

-- the nodes of a query in postfix order
abbrev pub nodes_for : Query → List Node
nodes_for q = nodes_from 0 (postfix_of q)

-- the postfix list of nodes and the operands that they number, in their order
abbrev pub items_of : List Operand → List Node → List Item
items_of os [] = []
items_of [] (Leaf k ∷ ns) = items_of [] ns
items_of (o ∷ os) (Leaf k ∷ ns) = operand_item o ∷ items_of os ns
items_of os (Not ∷ ns) = not_item ∷ items_of os ns
items_of os (And ∷ ns) = joint_item and_joint ∷ items_of os ns
items_of os (Or ∷ ns) = joint_item or_joint ∷ items_of os ns
items_of os (Phrase n ∷ ns) = joint_item (phrase_joint n) ∷ items_of os ns

abbrev pub query_of : List Operand → List Node → Query
query_of os ns = query_from (items_of os ns)

-- the two lists of a query in memory
pub record IsStored (query : Query) (operands : List Operand) (nodes : List Node) : Type 0 where
  pub has_operands : operands ≡ operands_of query
  pub has_nodes : nodes ≡ nodes_for query
  pub sound : IsSound query
