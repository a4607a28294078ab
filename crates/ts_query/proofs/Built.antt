-- The two lists of a query, item by item.
use Rattle.std.proofs.Common.{◌≡◌, ℕ, suc, ◌+◌, ◌<◌, ◌≤◌, List, [], ◌∷◌, ◌++◌, length, get_or, drop, Bool, refl, sym}
use Rattle.std.proofs.Common.{subst, ap, ◌∙◌, append_assoc, Some, None, arith}
use Rattle.std.proofs.lemmas.List.{length-append}
use Rattle.std.proofs.Math.Seq.{get_or-append_seam, drop-cons}
use Rattle.ts_base.specs.declared.Weights.{Weights}
use Rattle.ts_query.specs.Queries.{Operand, Joint, or_joint, and_joint, phrase_joint, Tree, leaf, negated, joined}
use Rattle.ts_query.specs.Queries.{Query, operands_in, operands_of, nodes_in, nodes_of, IsSound}
use Rattle.ts_query.specs.Postfix.{Item, operand_item, not_item, joint_item, postfix, postfix_of, query_from}
use Rattle.ts_query.specs.Postfix.{query_from-postfix_of, joint_node, nodes_from, nodes_for, items_of, query_of}
use Rattle.ts_query.specs.Postfix.{IsStored}
use Rattle.ts_query.specs.Inner.Built.{operands_from, IsBuilt}
use Rattle.ts_query.specs.declared.query.Node.{Node}
use Rattle.ts_query.specs.declared.query.Node.TheVariants.{Leaf, Not}
use Rattle.ts_query.specs.declared.query.Builder.{Builder}

pub operands_from-append : (is js : List Item) → operands_from (is ++ js) ≡ operands_from is ++ operands_from js
operands_from-append [] js = refl
operands_from-append (operand_item o ∷ is) js = ap (λ l. o ∷ l) (operands_from-append is js)
operands_from-append (not_item ∷ is) js = operands_from-append is js
operands_from-append (joint_item j ∷ is) js = operands_from-append is js

next_number : (k n : ℕ) → suc k + n ≡ k + suc n
next_number k n = omega arith

nodes_from-append : (k : ℕ) (is js : List Item)
    → nodes_from k (is ++ js) ≡ nodes_from k is ++ nodes_from (k + length (operands_from is)) js
nodes_from-append k [] js = let e : k ≡ k + 0 = omega arith in ap (λ n. nodes_from n js) e
nodes_from-append k (operand_item o ∷ is) js =
    ap (λ l. Leaf k ∷ l) (nodes_from-append (suc k) is js
    ∙ ap (λ n. nodes_from (suc k) is ++ nodes_from n js) (next_number k (length (operands_from is))))
nodes_from-append k (not_item ∷ is) js = ap (λ l. Not ∷ l) (nodes_from-append k is js)
nodes_from-append k (joint_item j ∷ is) js = ap (λ l. joint_node j ∷ l) (nodes_from-append k is js)

zero_more : (n : ℕ) → 0 + n ≡ n
zero_more n = omega arith

pub push_nodes : (is : List Item) (i : Item)
    → nodes_from 0 (is ++ i ∷ []) ≡ nodes_from 0 is ++ nodes_from (length (operands_from is)) (i ∷ [])
push_nodes is i = nodes_from-append 0 is (i ∷ [])
    ∙ ap (λ n. nodes_from 0 is ++ nodes_from n (i ∷ [])) (zero_more (length (operands_from is)))

no_operand : (l : List Operand) → l ≡ l ++ []
no_operand [] = refl
no_operand (o ∷ l) = ap (λ k. o ∷ k) (no_operand l)

pub built_leaf : (b b2 : Builder) (is : List Item) (o : Operand) (n : ℕ) → IsBuilt b is → n ≡ length b.operands.items
    → b2.nodes.items ≡ b.nodes.items ++ Leaf n ∷ [] → b2.operands.items ≡ b.operands.items ++ o ∷ []
    → IsBuilt b2 (is ++ operand_item o ∷ [])
built_leaf b b2 is o n h e f g = record {
  has_operands = g ∙ ap (λ l. l ++ o ∷ []) h.has_operands ∙ sym (operands_from-append is (operand_item o ∷ []));
  has_nodes = f ∙ ap (λ l. l ++ Leaf n ∷ []) h.has_nodes
      ∙ ap (λ k. nodes_from 0 is ++ Leaf k ∷ []) (e ∙ ap length h.has_operands) ∙ sym (push_nodes is (operand_item o));
}

pub built_not : (b b2 : Builder) (is : List Item) → IsBuilt b is → b2.nodes.items ≡ b.nodes.items ++ Not ∷ []
    → b2.operands.items ≡ b.operands.items → IsBuilt b2 (is ++ not_item ∷ [])
built_not b b2 is h f g = record {
  has_operands = g ∙ h.has_operands ∙ no_operand (operands_from is) ∙ sym (operands_from-append is (not_item ∷ []));
  has_nodes = f ∙ ap (λ l. l ++ Not ∷ []) h.has_nodes ∙ sym (push_nodes is not_item);
}

pub built_joint : (b b2 : Builder) (is : List Item) (j : Joint) (n : Node) → IsBuilt b is
    → n ≡ joint_node j → b2.nodes.items ≡ b.nodes.items ++ n ∷ [] → b2.operands.items ≡ b.operands.items
    → IsBuilt b2 (is ++ joint_item j ∷ [])
built_joint b b2 is j n h e f g = record {
  has_operands = g ∙ h.has_operands ∙ no_operand (operands_from is) ∙ sym (operands_from-append is (joint_item j ∷ []));
  has_nodes = f ∙ ap (λ l. l ++ n ∷ []) h.has_nodes ∙ ap (λ x. nodes_from 0 is ++ x ∷ []) e
      ∙ sym (push_nodes is (joint_item j));
}

-- ── the query of the two lists ──
joint_items : (j : Joint) (os : List Operand) (ns : List Node) (is : List Item) → items_of os ns ≡ is
    → items_of os (joint_node j ∷ ns) ≡ joint_item j ∷ is
joint_items or_joint os ns is e = ap (λ l. joint_item or_joint ∷ l) e
joint_items and_joint os ns is e = ap (λ l. joint_item and_joint ∷ l) e
joint_items (phrase_joint n) os ns is e = ap (λ l. joint_item (phrase_joint n) ∷ l) e

not_items : (os : List Operand) (ns : List Node) (is : List Item) → items_of os ns ≡ is
    → items_of os (Not ∷ ns) ≡ not_item ∷ is
not_items os ns is e = ap (λ l. not_item ∷ l) e

pub items_of-nodes_from : (k : ℕ) (is : List Item) → items_of (operands_from is) (nodes_from k is) ≡ is
items_of-nodes_from k [] = refl
items_of-nodes_from k (operand_item o ∷ is) = ap (λ l. operand_item o ∷ l) (items_of-nodes_from (suc k) is)
items_of-nodes_from k (not_item ∷ is) = not_items (operands_from is) (nodes_from k is) is (items_of-nodes_from k is)
items_of-nodes_from k (joint_item j ∷ is) =
    joint_items j (operands_from is) (nodes_from k is) is (items_of-nodes_from k is)

three_parts : (a b c : List Item)
    → operands_from (a ++ b ++ c) ≡ (operands_from a ++ operands_from b) ++ operands_from c
three_parts a b c = operands_from-append (a ++ b) c ∙ ap (λ l. l ++ operands_from c) (operands_from-append a b)

pub operands_from-postfix : (t : Tree) → operands_from (postfix t) ≡ operands_in t
operands_from-postfix (leaf o) = refl
operands_from-postfix (negated x) = operands_from-append (postfix x) (not_item ∷ [])
    ∙ sym (no_operand (operands_from (postfix x))) ∙ operands_from-postfix x
operands_from-postfix (joined j x y) =
    three_parts (postfix x) (postfix y) (joint_item j ∷ [])
    ∙ sym (no_operand (operands_from (postfix x) ++ operands_from (postfix y)))
    ∙ ap (λ l. l ++ operands_from (postfix y)) (operands_from-postfix x)
    ∙ ap (λ l. operands_in x ++ l) (operands_from-postfix y)

pub operands_from-postfix_of : (q : Query) → operands_from (postfix_of q) ≡ operands_of q
operands_from-postfix_of None = refl
operands_from-postfix_of (Some t) = operands_from-postfix t

pub length-postfix : (t : Tree) → length (postfix t) ≡ nodes_in t
length-postfix (leaf o) = refl
length-postfix (negated x) = let e = length-postfix x in omega (arith, length-append (postfix x) (not_item ∷ []))
length-postfix (joined j x y) =
    let e = length-postfix x in let f = length-postfix y in
    omega (arith, length-append (postfix x ++ postfix y) (joint_item j ∷ []), length-append (postfix x) (postfix y))

pub length-postfix_of : (q : Query) → length (postfix_of q) ≡ nodes_of q
length-postfix_of None = refl
length-postfix_of (Some t) = length-postfix t

pub query_built : (b : Builder) (q : Query) → IsBuilt b (postfix_of q) → query_of b.operands.items b.nodes.items ≡ q
query_built b q h =
    ap (λ l. query_of l b.nodes.items) h.has_operands ∙ ap (λ l. query_of (operands_from (postfix_of q)) l) h.has_nodes
    ∙ ap (λ l. query_from l) (items_of-nodes_from 0 (postfix_of q)) ∙ query_from-postfix_of q

pub stored_built : (b : Builder) (q : Query) → IsBuilt b (postfix_of q) → IsSound q
    → IsStored (query_of b.operands.items b.nodes.items) b.operands.items b.nodes.items
stored_built b q h s = subst (λ p. IsStored p b.operands.items b.nodes.items) (sym (query_built b q h))
    (record { has_operands = h.has_operands ∙ operands_from-postfix_of q; has_nodes = h.has_nodes; sound = s })

-- ── a query's nodes, one by one ──
-- the next of the items, and what is left after it
record Next (i : Item) (next : ℕ) (rest : List Node) (back : List Item) : Type 0 where
  others : List Item
  is : back ≡ i ∷ others
  nodes : rest ≡ nodes_from next others

joint_not_leaf : (j : Joint) (n : ℕ) → ¬ (joint_node j ≡ Leaf n)
joint_not_leaf or_joint n e = cc
joint_not_leaf and_joint n e = cc
joint_not_leaf (phrase_joint d) n e = cc

joint_not_not : (j : Joint) → ¬ (joint_node j ≡ Not)
joint_not_not or_joint e = cc
joint_not_not and_joint e = cc
joint_not_not (phrase_joint d) e = cc

joint_same : (i j : Joint) → joint_node i ≡ joint_node j → i ≡ j
joint_same or_joint or_joint e = refl
joint_same and_joint and_joint e = refl
joint_same (phrase_joint a) (phrase_joint b) e = let f : a ≡ b = cc in ap phrase_joint f
joint_same or_joint and_joint e = absurd (let n : ⊥ = cc in n)
joint_same or_joint (phrase_joint b) e = absurd (let n : ⊥ = cc in n)
joint_same and_joint or_joint e = absurd (let n : ⊥ = cc in n)
joint_same and_joint (phrase_joint b) e = absurd (let n : ⊥ = cc in n)
joint_same (phrase_joint a) or_joint e = absurd (let n : ⊥ = cc in n)
joint_same (phrase_joint a) and_joint e = absurd (let n : ⊥ = cc in n)

heads : (a b : Node) (r s : List Node) → a ∷ r ≡ b ∷ s → (a ≡ b) × (r ≡ s)
heads a b r s e = (cc, cc)

record NextLeaf (k n : ℕ) (rest : List Node) (back : List Item) : Type 0 where
  operand : Operand
  number : n ≡ k
  next : Next (operand_item operand) (suc k) rest back

leaf_next : (k n : ℕ) (rest : List Node) (back : List Item) → Leaf n ∷ rest ≡ nodes_from k back → NextLeaf k n rest back
leaf_next k n rest [] e = absurd (let no : ⊥ = cc in no)
leaf_next k n rest (operand_item o ∷ is) e = let f = heads (Leaf n) (Leaf k) rest (nodes_from (suc k) is) e in
    record { operand = o; number = (let g = f.0 in cc); next = record { others = is; is = refl; nodes = f.1 } }
leaf_next k n rest (not_item ∷ is) e = absurd (let no : ⊥ = cc in no)
leaf_next k n rest (joint_item j ∷ is) e =
    absurd (joint_not_leaf j n (sym (heads (Leaf n) (joint_node j) rest (nodes_from k is) e).0))

not_next : (k : ℕ) (rest : List Node) (back : List Item) → Not ∷ rest ≡ nodes_from k back → Next not_item k rest back
not_next k rest [] e = absurd (let no : ⊥ = cc in no)
not_next k rest (operand_item o ∷ is) e = absurd (let no : ⊥ = cc in no)
not_next k rest (not_item ∷ is) e =
    record { others = is; is = refl; nodes = (heads Not Not rest (nodes_from k is) e).1 }
not_next k rest (joint_item j ∷ is) e =
    absurd (joint_not_not j (sym (heads Not (joint_node j) rest (nodes_from k is) e).0))

joint_next : (j : Joint) (k : ℕ) (rest : List Node) (back : List Item) → joint_node j ∷ rest ≡ nodes_from k back
    → Next (joint_item j) k rest back
joint_next j k rest [] e = absurd (let no : ⊥ = cc in no)
joint_next j k rest (operand_item o ∷ is) e =
    absurd (joint_not_leaf j k (heads (joint_node j) (Leaf k) rest (nodes_from (suc k) is) e).0)
joint_next j k rest (not_item ∷ is) e = absurd (joint_not_not j (heads (joint_node j) Not rest (nodes_from k is) e).0)
joint_next j k rest (joint_item i ∷ is) e =
    let f = heads (joint_node j) (joint_node i) rest (nodes_from k is) e in
    record { others = is; is = ap (λ x. joint_item x ∷ is) (sym (joint_same j i f.0)); nodes = f.1 }

whole_next : (q : Query) (front back : List Item) (i : Item) (others : List Item) → postfix_of q ≡ front ++ back
    → back ≡ i ∷ others → postfix_of q ≡ (front ++ i ∷ []) ++ others
whole_next q front back i others e f = e ∙ ap (λ l. front ++ l) f ∙ sym (append_assoc front (i ∷ []) others)

one_more : (n : ℕ) → n + 1 ≡ suc n
one_more n = omega arith

-- some items of q were copied, the others are left
pub record Copied (q : Query) (b0 b : Builder) (next : ℕ) (left : List Node) : Type 0 where
  pub front : List Item
  pub back : List Item
  pub whole : postfix_of q ≡ front ++ back
  pub nodes : left ≡ nodes_from next back
  pub count : next ≡ length (operands_from front)
  pub built : (is : List Item) → IsBuilt b0 is → IsBuilt b (is ++ front)

no_items : (is : List Item) → is ≡ is ++ []
no_items [] = refl
no_items (i ∷ is) = ap (λ k. i ∷ k) (no_items is)

pub copied_none : (q : Query) (b : Builder) (left : List Node) → left ≡ nodes_for q → Copied q b b 0 left
copied_none q b left e = record {
  front = [];
  back = postfix_of q;
  whole = refl;
  nodes = e;
  count = refl;
  built = λ is h. subst (λ l. IsBuilt b l) (no_items is) h;
}

built_more : (b0 b b2 : Builder) (front : List Item) (i : Item) → ((is : List Item) → IsBuilt b0 is
    → IsBuilt b (is ++ front)) → ((is : List Item) → IsBuilt b is → IsBuilt b2 (is ++ i ∷ []))
    → (is : List Item) → IsBuilt b0 is → IsBuilt b2 (is ++ (front ++ i ∷ []))
built_more b0 b b2 front i f g is h =
    subst (λ l. IsBuilt b2 l) (append_assoc is front (i ∷ [])) (g (is ++ front) (f is h))

same_count : (front : List Item) (i : Item) (n : ℕ) → n ≡ length (operands_from front) → operands_from (i ∷ []) ≡ []
    → n ≡ length (operands_from (front ++ i ∷ []))
same_count front i n e f = e ∙ ap length (no_operand (operands_from front) ∙ ap (λ l. operands_from front ++ l) (sym f)
    ∙ sym (operands_from-append front (i ∷ [])))

more_count : (front : List Item) (o : Operand) (n : ℕ) → n ≡ length (operands_from front)
    → n + 1 ≡ length (operands_from (front ++ operand_item o ∷ []))
more_count front o n e =
    let f = ap length (operands_from-append front (operand_item o ∷ [])) in
    omega (arith, length-append (operands_from front) (o ∷ []))

copied_next : (q : Query) (b0 b b2 : Builder) (next : ℕ) (left rest : List Node) (i : Item)
    (c : Copied q b0 b next left) → Next i next rest c.back → operands_from (i ∷ []) ≡ []
    → ((is : List Item) → IsBuilt b is → IsBuilt b2 (is ++ i ∷ [])) → Copied q b0 b2 next rest
copied_next q b0 b b2 next left rest i c n e f = record {
  front = c.front ++ i ∷ [];
  back = n.others;
  whole = whole_next q c.front c.back i n.others c.whole n.is;
  nodes = n.nodes;
  count = same_count c.front i next c.count e;
  built = built_more b0 b b2 c.front i c.built f;
}

pub copied_not : (q : Query) (b0 b b2 : Builder) (next : ℕ) (left rest : List Node) → Copied q b0 b next left → left
    ≡ Not ∷ rest → ((is : List Item) → IsBuilt b is → IsBuilt b2 (is ++ not_item ∷ [])) → Copied q b0 b2 next rest
copied_not q b0 b b2 next left rest c e f =
    copied_next q b0 b b2 next left rest not_item c (not_next next rest c.back (sym e ∙ c.nodes)) refl f

pub copied_joint : (j : Joint) (q : Query) (b0 b b2 : Builder) (next : ℕ) (left rest : List Node)
    → Copied q b0 b next left → left ≡ joint_node j ∷ rest
    → ((is : List Item) → IsBuilt b is → IsBuilt b2 (is ++ joint_item j ∷ [])) → Copied q b0 b2 next rest
copied_joint j q b0 b b2 next left rest c e f =
    copied_next q b0 b b2 next left rest (joint_item j) c (joint_next j next rest c.back (sym e ∙ c.nodes)) refl f

-- the operand with the next number
pub record Leafed (q : Query) (next : ℕ) : Type 0 where
  pub operand : Operand
  pub before : List Operand
  pub behind : List Operand
  pub all : operands_of q ≡ before ++ operand ∷ behind
  pub count : next ≡ length before

pub leafed : (q : Query) (b0 b : Builder) (next n : ℕ) (left rest : List Node) → Copied q b0 b next left
    → left ≡ Leaf n ∷ rest → Leafed q next
leafed q b0 b next n left rest c e =
    let f = leaf_next next n rest c.back (sym e ∙ c.nodes) in
    record {
      operand = f.operand;
      before = operands_from c.front;
      behind = operands_from f.next.others;
      all = sym (operands_from-postfix_of q) ∙ ap (λ l. operands_from l) (c.whole ∙ ap (λ l. c.front ++ l) f.next.is)
          ∙ operands_from-append c.front (operand_item f.operand ∷ f.next.others);
      count = c.count;
    }

pub copied_leaf : (q : Query) (b0 b b2 : Builder) (next n : ℕ) (left rest : List Node) (c : Copied q b0 b next left)
    (e : left ≡ Leaf n ∷ rest) (o : Operand) → o ≡ (leafed q b0 b next n left rest c e).operand
    → ((is : List Item) → IsBuilt b is → IsBuilt b2 (is ++ operand_item o ∷ [])) → Copied q b0 b2 (next + 1) rest
unfolding leafed leaf_next
copied_leaf q b0 b b2 next n left rest c e o s g =
    let f = leaf_next next n rest c.back (sym e ∙ c.nodes) in
    record {
      front = c.front ++ operand_item f.operand ∷ [];
      back = f.next.others;
      whole = whole_next q c.front c.back (operand_item f.operand) f.next.others c.whole f.next.is;
      nodes = f.next.nodes ∙ ap (λ m. nodes_from m f.next.others) (sym (one_more next));
      count = more_count c.front f.operand next c.count;
      built = built_more b0 b b2 c.front (operand_item f.operand) c.built
          (λ is h. subst (λ x. IsBuilt b2 (is ++ operand_item x ∷ [])) s (g is h));
    }

nothing_left : (k : ℕ) (back : List Item) → [] ≡ nodes_from k back → back ≡ []
nothing_left k [] e = refl
nothing_left k (operand_item o ∷ is) e = absurd (let no : ⊥ = cc in no)
nothing_left k (not_item ∷ is) e = absurd (let no : ⊥ = cc in no)
nothing_left k (joint_item j ∷ is) e = absurd (let no : ⊥ = cc in no)

pub copied_all : (q : Query) (b0 b : Builder) (next : ℕ) (left : List Node) → Copied q b0 b next left → left ≡ []
    → (is : List Item) → IsBuilt b0 is → IsBuilt b (is ++ postfix_of q)
copied_all q b0 b next left c e is h =
    let f = nothing_left next c.back (sym e ∙ c.nodes) in
    let g : postfix_of q ≡ c.front = c.whole ∙ ap (λ l. c.front ++ l) f ∙ sym (no_items c.front) in
    subst (λ l. IsBuilt b (is ++ l)) (sym g) (c.built is h)

pub operands_fewer : (is : List Item) → length (operands_from is) ≤ length is
operands_fewer [] = omega arith
operands_fewer (operand_item o ∷ is) = let h = operands_fewer is in omega arith
operands_fewer (not_item ∷ is) = let h = operands_fewer is in omega arith
operands_fewer (joint_item j ∷ is) = let h = operands_fewer is in omega arith

pub copied_few : (q : Query) (b0 b : Builder) (next : ℕ) (left : List Node) (is : List Item) → Copied q b0 b next left
    → IsBuilt b0 is → length (operands_from is) < 32768 → nodes_of q < 32768 → length b.operands.items < 65536
copied_few q b0 b next left is c h few s =
    let e = (c.built is h).has_operands in
    let f = ap length (e ∙ operands_from-append is c.front) in
    let g = length-append (operands_from is) (operands_from c.front) in
    let k = operands_fewer c.front in
    let m = ap length c.whole in
    let p = length-append c.front c.back in
    let z = length-postfix_of q in
    omega arith

pub leafed_there : (q : Query) (next : ℕ) → Leafed q next → next < length (operands_of q)
leafed_there q next f =
    let e = ap length f.all in let g = length-append f.before (f.operand ∷ f.behind) in let c = f.count in omega arith

pub leafed_is : (q : Query) (next : ℕ) (d : Operand) (f : Leafed q next) → get_or (operands_of q) next d ≡ f.operand
leafed_is q next d f = ap (λ l. get_or l next d) f.all ∙ ap (λ n. get_or (f.before ++ f.operand ∷ f.behind) n d) f.count
    ∙ get_or-append_seam f.before f.operand f.behind d

pub next_node : (l : List Node) (i : ℕ) (n : Node) → i < length l → get_or l i (Leaf 0) ≡ n
    → drop i l ≡ n ∷ drop (i + 1) l
next_node l i n h e =
    drop-cons l i (Leaf 0) h ∙ ap (λ x. x ∷ drop (suc i) l) e ∙ ap (λ k. n ∷ drop k l) (sym (one_more i))

pub same_operand : (a b : Operand) → (a.lexeme ≡ b.lexeme) × ((a.weights ≡ b.weights) × (a.prefix ≡ b.prefix)) → a ≡ b
same_operand a b e =
    let make : List ℕ → Weights → Bool → Operand = λ l w p. record { lexeme = l; weights = w; prefix = p } in
    ap (λ l. make l a.weights a.prefix) e.0 ∙ ap (λ w. make b.lexeme w a.prefix) e.1.0
    ∙ ap (λ p. make b.lexeme b.weights p) e.1.1

pub copied_to : (q : Query) (b0 b b2 : Builder) (next next2 : ℕ) (left : List Node) → b2 ≡ b → next2 ≡ next
    → Copied q b0 b next left → Copied q b0 b2 next2 left
copied_to q b0 b b2 next next2 left e f c =
    subst (λ x. Copied q b0 x next2 left) (sym e) (subst (λ n. Copied q b0 b n left) (sym f) c)

pub few_operands : (q : Query) → nodes_of q < 32768 → length (operands_of q) < 32768
few_operands q h =
    let e = ap length (operands_from-postfix_of q) in
    let f = operands_fewer (postfix_of q) in
    let g = length-postfix_of q in
    omega arith

pub copied_below : (q : Query) (b0 b : Builder) (next : ℕ) (left : List Node) → Copied q b0 b next left
    → nodes_of q < 32768 → next < 32768
copied_below q b0 b next left c s =
    let k = operands_fewer c.front in
    let m = ap length c.whole in
    let p = length-append c.front c.back in
    let z = length-postfix_of q in
    let e = c.count in
    omega arith
