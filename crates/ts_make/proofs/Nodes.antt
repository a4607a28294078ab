-- A query's nodes, one by one.
use Rattle.std.proofs.Common.{◌≡◌, ◌≢◌, ℕ, suc, List, [], ◌∷◌, ◌++◌, refl, sym, subst, ap, ◌∙◌, append_assoc, Some}
use Rattle.std.proofs.Common.{None}
use Rattle.ts_query.specs.declared.query.Node.{Node}
use Rattle.ts_query.specs.declared.query.Node.TheVariants.{Leaf, Not}
use Rattle.ts_query.specs.declared.query.Operand.{Operand}
use Rattle.ts_query.specs.Queries.{Joint, or_joint, and_joint, phrase_joint, Tree, leaf, negated, joined, Query}
use Rattle.ts_query.specs.Postfix.{Item, operand_item, not_item, joint_item, postfix, postfix_of, run, run-postfix}
use Rattle.ts_query.specs.Postfix.{joint_node, nodes_from}

abbrev pub node_at : ℕ → Item → Node
node_at k (operand_item o) = Leaf k
node_at k not_item = Not
node_at k (joint_item j) = joint_node j

abbrev pub next_after : ℕ → Item → ℕ
next_after k (operand_item o) = suc k
next_after k not_item = k
next_after k (joint_item j) = k

pub record FirstItem (k : ℕ) (n : Node) (rest : List Node) (back : List Item) : Type 0 where
  pub item : Item
  pub others : List Item
  pub is : back ≡ item ∷ others
  pub node : n ≡ node_at k item
  pub nodes : rest ≡ nodes_from (next_after k item) others

heads : (a b : Node) (r s : List Node) → a ∷ r ≡ b ∷ s → (a ≡ b) × (r ≡ s)
heads a b r s e = (cc, cc)

pub first_item : (k : ℕ) (n : Node) (rest : List Node) (back : List Item)
    → n ∷ rest ≡ nodes_from k back → FirstItem k n rest back
first_item k n rest [] e = absurd (let no : ⊥ = cc in no)
first_item k n rest (operand_item o ∷ is) e = let f =
    heads n (Leaf k) rest (nodes_from (suc k) is) e in
    record { item = operand_item o; others = is; is = refl; node = f.0; nodes = f.1 }
first_item k n rest (not_item ∷ is) e = let f = heads n Not rest (nodes_from k is) e in
    record { item = not_item; others = is; is = refl; node = f.0; nodes = f.1 }
first_item k n rest (joint_item j ∷ is) e = let f =
    heads n (joint_node j) rest (nodes_from k is) e in
    record { item = joint_item j; others = is; is = refl; node = f.0; nodes = f.1 }

joint_not_leaf : (j : Joint) (n : ℕ) → ¬ (joint_node j ≡ Leaf n)
joint_not_leaf or_joint n e = cc
joint_not_leaf and_joint n e = cc
joint_not_leaf (phrase_joint d) n e = cc

joint_not_not : (j : Joint) → ¬ (joint_node j ≡ Not)
joint_not_not or_joint e = cc
joint_not_not and_joint e = cc
joint_not_not (phrase_joint d) e = cc

joint_same : (i j : Joint) → joint_node i ≡ joint_node j → i ≡ j
joint_same or_joint or_joint e = refl
joint_same and_joint and_joint e = refl
joint_same (phrase_joint a) (phrase_joint b) e = let f : a ≡ b = cc in ap phrase_joint f
joint_same or_joint and_joint e = absurd (let n : ⊥ = cc in n)
joint_same or_joint (phrase_joint b) e = absurd (let n : ⊥ = cc in n)
joint_same and_joint or_joint e = absurd (let n : ⊥ = cc in n)
joint_same and_joint (phrase_joint b) e = absurd (let n : ⊥ = cc in n)
joint_same (phrase_joint a) or_joint e = absurd (let n : ⊥ = cc in n)
joint_same (phrase_joint a) and_joint e = absurd (let n : ⊥ = cc in n)

pub leaf_item : (k m : ℕ) (i : Item) → Leaf m ≡ node_at k i → (o : Operand) × (i ≡ operand_item o)
leaf_item k m (operand_item o) e = (o, refl)
leaf_item k m not_item e = absurd (let no : ⊥ = cc in no)
leaf_item k m (joint_item j) e = absurd (joint_not_leaf j m (sym e))

pub not_item_is : (k : ℕ) (i : Item) → Not ≡ node_at k i → i ≡ not_item
not_item_is k (operand_item o) e = absurd (let no : ⊥ = cc in no)
not_item_is k not_item e = refl
not_item_is k (joint_item j) e = absurd (joint_not_not j (sym e))

pub joint_item_is : (j : Joint) (k : ℕ) (i : Item) → joint_node j ≡ node_at k i → i ≡ joint_item j
joint_item_is j k (operand_item o) e = absurd (joint_not_leaf j k e)
joint_item_is j k not_item e = absurd (joint_not_not j e)
joint_item_is j k (joint_item i) e = ap joint_item (sym (joint_same j i e))

-- the items find operands enough on a stack of n trees
abbrev pub IsEnough : List Item → ℕ → Type 0
IsEnough [] n = Unit {0}
IsEnough (operand_item o ∷ is) n = IsEnough is (suc n)
IsEnough (not_item ∷ is) n = (m : ℕ) × (n ≡ suc m) × IsEnough is (suc m)
IsEnough (joint_item j ∷ is) n = (m : ℕ) × (n ≡ suc (suc m)) × IsEnough is (suc m)

enough_postfix : (t : Tree) (is : List Item) (n : ℕ) → IsEnough is (suc n)
    → IsEnough (postfix t ++ is) n
enough_postfix (leaf o) is n h = h
enough_postfix (negated x) is n h =
    subst (λ l. IsEnough l n) (sym (append_assoc (postfix x) (not_item ∷ []) is))
    (enough_postfix x (not_item ∷ is) n (n, refl, h))
enough_postfix (joined j x y) is n h =
    subst (λ l. IsEnough l n)
    (sym (append_assoc (postfix x ++ postfix y) (joint_item j ∷ []) is
    ∙ append_assoc (postfix x) (postfix y) (joint_item j ∷ is)))
    (enough_postfix x (postfix y ++ joint_item j ∷ is) n
    (enough_postfix y (joint_item j ∷ is) (suc n) (n, refl, h)))

no_items : (is : List Item) → is ≡ is ++ []
no_items [] = refl
no_items (i ∷ is) = ap (λ k. i ∷ k) (no_items is)

pub enough_query : (q : Query) → IsEnough (postfix_of q) 0
enough_query None = tt
enough_query (Some t) =
    subst (λ l. IsEnough l 0) (sym (no_items (postfix t))) (enough_postfix t [] 0 tt)

abbrev pub query_trees : Query → List Tree
query_trees None = []
query_trees (Some t) = t ∷ []

pub run_query : (q : Query) → run (postfix_of q) [] ≡ query_trees q
run_query None = refl
run_query (Some t) = ap (λ l. run l []) (no_items (postfix t)) ∙ run-postfix t [] []

-- a query of which items are left is not the empty one
pub some_query : (q : Query) (back others : List Item) (i : Item) → (q ≡ None → back ≡ [])
    → back ≡ i ∷ others → q ≢ None
some_query q back others i n e f = let g = sym (n f) ∙ e in let no : ⊥ = cc in no

pub nothing_left : (k : ℕ) (back : List Item) → [] ≡ nodes_from k back → back ≡ []
nothing_left k [] e = refl
nothing_left k (operand_item o ∷ is) e = absurd (let no : ⊥ = cc in no)
nothing_left k (not_item ∷ is) e = absurd (let no : ⊥ = cc in no)
nothing_left k (joint_item j ∷ is) e = absurd (let no : ⊥ = cc in no)
