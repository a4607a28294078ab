-- A query that is written node by node, each node after its operands: the trees that are so far, the last first.
use Rattle.std.specs.Prelude.{◌≡◌, ℕ, suc, ◌+◌, ◌<◌, ◌≤◌, List, [], ◌∷◌, ◌++◌, All}
use Rattle.std.proofs.Common.{refl, ap, ◌∙◌, append_assoc}
use Rattle.std.specs.Coded.{Coded, code_by, coded_list}
use Rattle.ts_query.specs.declared.TheConstants.{NODE_LIMIT}
use Rattle.ts_query.specs.declared.error.QueryError.{QueryError}
use Rattle.ts_query.specs.declared.error.QueryError.TheVariants.{Syntax, DistanceTooLarge, TooManyNodes, LexemeTooLong}
use Rattle.ts_query.specs.declared.error.QueryError.TheVariants.{OutOfMemory}
use Rattle.ts_query.specs.Queries.{Operand, Joint, Tree, negated, joined, operands_in, nodes_in, HasNear, HasLexeme}
use Rattle.ts_query.specs.Postfix.{Item, item_code, postfix, run, run-postfix}

-- the last tree is negated
abbrev pub with_not : List Tree → List Tree
with_not [] = []
with_not (x ∷ ts) = negated x ∷ ts

-- the last two trees are joined
abbrev pub with_joint : Joint → List Tree → List Tree
with_joint j [] = []
with_joint j (y ∷ []) = y ∷ []
with_joint j (y ∷ x ∷ ts) = joined j x y ∷ ts

abbrev pub nodes_among : List Tree → ℕ
nodes_among [] = 0
nodes_among (x ∷ ts) = nodes_among ts + nodes_in x

-- the operands, in the order in which they were written
abbrev pub operands_among : List Tree → List Operand
operands_among [] = []
operands_among (x ∷ ts) = operands_among ts ++ operands_in x

abbrev pub HasNearAmong : List Tree → Type 0
HasNearAmong [] = Unit {0}
HasNearAmong (x ∷ ts) = HasNear x × HasNearAmong ts

-- the limits of a query, of all trees together
pub record AreSound (trees : List Tree) : Type 0 where
  pub lexemes : All HasLexeme (operands_among trees)
  pub phrases : HasNearAmong trees
  pub nodes : nodes_among trees < NODE_LIMIT

-- The only cause for which a node is refused, running out of memory aside, is that with it there would be too many.
abbrev pub IsOnlyFull : List Tree → QueryError → Type 0
IsOnlyFull trees TooManyNodes = NODE_LIMIT ≤ nodes_among trees + 1
IsOnlyFull trees OutOfMemory = Unit {0}
IsOnlyFull trees (Syntax at) = ⊥
IsOnlyFull trees (DistanceTooLarge at) = ⊥
IsOnlyFull trees (LexemeTooLong at) = ⊥

-- ── how trees are stored where contracts keep them: as one postfix list ──
abbrev pub items_among : List Tree → List Item
items_among [] = []
items_among (x ∷ ts) = items_among ts ++ postfix x

abbrev pub trees_from : List Item → List Tree
trees_from is = run is []

pub run-items_among : (ts : List Tree) (is : List Item) (st : List Tree)
    → run (items_among ts ++ is) st ≡ run is (ts ++ st)
run-items_among [] is st = refl
run-items_among (x ∷ ts) is st =
    ap (λ l. run l st) (append_assoc (items_among ts) (postfix x) is)
    ∙ run-items_among ts (postfix x ++ is) st ∙ run-postfix x is (ts ++ st)

no_items_more : (l : List Item) → l ≡ l ++ []
no_items_more [] = refl
no_items_more (i ∷ l) = ap (λ k. i ∷ k) (no_items_more l)

no_trees_more : (l : List Tree) → l ++ [] ≡ l
no_trees_more [] = refl
no_trees_more (x ∷ l) = ap (λ k. x ∷ k) (no_trees_more l)

pub trees_from-items_among : (ts : List Tree) → trees_from (items_among ts) ≡ ts
trees_from-items_among ts =
    ap (λ l. run l []) (no_items_more (items_among ts)) ∙ run-items_among ts [] [] ∙ no_trees_more ts

abbrev pub trees_code : Coded (List Tree)
trees_code = code_by (List Item) (coded_list item_code) items_among trees_from trees_from-items_among
