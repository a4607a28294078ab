-- How a query is laid out, node by node.
use Rattle.std.proofs.Common.{◌≡◌, ℕ, suc, ◌+◌, ◌^◌, ◌≤◌, ◌<◌, List, [], ◌∷◌, ◌++◌, length, take, drop, get_or, reverse}
use Rattle.std.proofs.Common.{Some, None, refl, sym, ap, subst, ◌∙◌, arith, append_assoc, add-one, length-append}
use Rattle.std.proofs.Common.{drop-cons}
use Rattle.std.specs.Prelude.{All}
use Rattle.std.proofs.lemmas.List.{append-nil, reverse-append, length-reverse, length-take}
use Rattle.std.proofs.Math.Seq.{take-suc}
use Rattle.std.proofs.lemmas.List.Elements.{All-nil, All-cons, All-append}
use Rattle.ts_query.specs.declared.query.Node.{Node}
use Rattle.ts_query.specs.declared.query.Node.TheVariants.{Leaf, Not, And, Or, Phrase}
use Rattle.ts_query.specs.Queries.{Tree, leaf, negated, joined, Joint, or_joint, and_joint, phrase_joint, Query}
use Rattle.ts_query.specs.Queries.{operands_in, operands_of, nodes_in, nodes_of, HasNear, HasNearPhrases, IsNear}
use Rattle.ts_query.specs.Queries.{IsSound}
use Rattle.ts_query.specs.Postfix.{joint_node, Item, not_item, joint_item, postfix, nodes_from, nodes_for}
use Rattle.ts_match.specs.declared.work.Place.{Place}
use Rattle.ts_match.specs.declared.work.Place.TheVariants.{Outside, Within}
use Rattle.ts_match.specs.declared.work.Step.{Step}
use Rattle.ts_match.specs.Meaning.{width}
use Rattle.ts_match.specs.Inner.Stacks.{top_or, below}
use Rattle.ts_match.specs.declared.work.Due.{Due}
use Rattle.ts_match.specs.declared.work.Due.TheVariants.{At, LeftOfAnd, LeftOfOr}
use Rattle.ts_match.specs.Plan.{count_in, under_not, left_place, right_place, steps, plan_of}
use Rattle.ts_match.specs.Inner.Plan.{left_widths, left_widths_of, left_width, measured, distance, left_due, due_place}
use Rattle.ts_match.specs.Inner.Plan.{spread_on, offset_of}

-- the nodes of a tree, its operands numbered from k on
abbrev pub tree_nodes : ℕ → Tree → List Node
tree_nodes k (leaf o) = Leaf k ∷ []
tree_nodes k (negated x) = tree_nodes k x ++ Not ∷ []
tree_nodes k (joined j x y) = tree_nodes k x ++ tree_nodes (k + count_in x) y ++ joint_node j ∷ []

nodes_from-postfix : (k : ℕ) (t : Tree) (is : List Item)
    → nodes_from k (postfix t ++ is) ≡ tree_nodes k t ++ nodes_from (k + count_in t) is
nodes_from-postfix k (leaf o) is = ap (λ m. Leaf k ∷ nodes_from m is) (sym (add-one k))
nodes_from-postfix k (negated x) is =
    ap (nodes_from k) (append_assoc (postfix x) (not_item ∷ []) is) ∙ nodes_from-postfix k x (not_item ∷ is)
    ∙ sym (append_assoc (tree_nodes k x) (Not ∷ []) (nodes_from (k + count_in x) is))
nodes_from-postfix k (joined j x y) is =
    let m = k + count_in x in
    let e : m + count_in y ≡ k + count_in (joined j x y) =
    omega (arith, length-append (operands_in x) (operands_in y)) in
    ap (nodes_from k) (append_assoc (postfix x ++ postfix y) (joint_item j ∷ []) is
    ∙ append_assoc (postfix x) (postfix y) (joint_item j ∷ is))
    ∙ nodes_from-postfix k x (postfix y ++ joint_item j ∷ is)
    ∙ ap (λ l. tree_nodes k x ++ l) (nodes_from-postfix m y (joint_item j ∷ is))
    ∙ sym (append_assoc (tree_nodes k x) (tree_nodes m y) (joint_node j ∷ nodes_from (m + count_in y) is))
    ∙ ap (λ n. (tree_nodes k x ++ tree_nodes m y) ++ joint_node j ∷ nodes_from n is) e
    ∙ sym (append_assoc (tree_nodes k x ++ tree_nodes m y) (joint_node j ∷ [])
    (nodes_from (k + count_in (joined j x y)) is))

pub nodes_for_tree : (t : Tree) → nodes_for (Some t) ≡ tree_nodes 0 t
nodes_for_tree t =
    ap (nodes_from 0) (sym (append-nil (postfix t))) ∙ nodes_from-postfix 0 t [] ∙ append-nil (tree_nodes 0 t)

pub length-tree_nodes : (k : ℕ) (t : Tree) → length (tree_nodes k t) ≡ nodes_in t
length-tree_nodes k (leaf o) = refl
length-tree_nodes k (negated x) = let h = length-tree_nodes k x in simp length-append (omega arith)
length-tree_nodes k (joined j x y) =
    let h = length-tree_nodes k x in let g = length-tree_nodes (k + count_in x) y in simp length-append (omega arith)

pub length-nodes_for : (q : Query) → length (nodes_for q) ≡ nodes_of q
length-nodes_for None = refl
length-nodes_for (Some t) = ap length (nodes_for_tree t) ∙ length-tree_nodes 0 t

abbrev pub IsNearNode : Node → Type 0
IsNearNode n = distance n ≤ 16384

near_joint : (j : Joint) → IsNear j → IsNearNode (joint_node j)
near_joint or_joint h = omega arith
near_joint and_joint h = omega arith
near_joint (phrase_joint n) h = h

near_tree : (k : ℕ) (t : Tree) → HasNear t → All IsNearNode (tree_nodes k t)
near_tree k (leaf o) h = All-cons IsNearNode (Leaf k) [] (omega arith) (All-nil IsNearNode)
near_tree k (negated x) h = All-append IsNearNode (tree_nodes k x) (Not ∷ []) (near_tree k x h)
    (All-cons IsNearNode Not [] (omega arith) (All-nil IsNearNode))
near_tree k (joined j x y) h =
    All-append IsNearNode (tree_nodes k x ++ tree_nodes (k + count_in x) y) (joint_node j ∷ [])
    (All-append IsNearNode (tree_nodes k x) (tree_nodes (k + count_in x) y) (near_tree k x h.1)
    (near_tree (k + count_in x) y h.2))
    (All-cons IsNearNode (joint_node j) [] (near_joint j h.0) (All-nil IsNearNode))

pub near_nodes : (q : Query) → HasNearPhrases q → All IsNearNode (nodes_for q)
near_nodes None h = All-nil IsNearNode
near_nodes (Some t) h = subst (λ ns. All IsNearNode ns) (sym (nodes_for_tree t)) (near_tree 0 t h)

-- the widths that the nodes give, one after another
abbrev pub measure_all : List Node → List ℕ → List ℕ
measure_all [] st = []
measure_all (n ∷ ns) st = left_width n st ∷ measure_all ns (measured n st)

measure_joint : (j : Joint) (ns : List Node) (x y : Tree) (st : List ℕ)
    → measure_all (joint_node j ∷ ns) (width y ∷ width x ∷ st) ≡ width x ∷ measure_all ns (width (joined j x y) ∷ st)
measure_joint or_joint ns x y st = refl
measure_joint and_joint ns x y st = refl
measure_joint (phrase_joint n) ns x y st = refl

measure_tree : (k : ℕ) (t : Tree) (ns : List Node) (st : List ℕ)
    → measure_all (tree_nodes k t ++ ns) st ≡ left_widths t ++ measure_all ns (width t ∷ st)
measure_tree k (leaf o) ns st = refl
measure_tree k (negated x) ns st =
    ap (λ l. measure_all l st) (append_assoc (tree_nodes k x) (Not ∷ []) ns) ∙ measure_tree k x (Not ∷ ns) st
    ∙ sym (append_assoc (left_widths x) (0 ∷ []) (measure_all ns (width x ∷ st)))
measure_tree k (joined j x y) ns st =
    let m = k + count_in x in
    ap (λ l. measure_all l st) (append_assoc (tree_nodes k x ++ tree_nodes m y) (joint_node j ∷ []) ns
    ∙ append_assoc (tree_nodes k x) (tree_nodes m y) (joint_node j ∷ ns))
    ∙ measure_tree k x (tree_nodes m y ++ joint_node j ∷ ns) st
    ∙ ap (λ l. left_widths x ++ l) (measure_tree m y (joint_node j ∷ ns) (width x ∷ st))
    ∙ ap (λ l. left_widths x ++ (left_widths y ++ l)) (measure_joint j ns x y st)
    ∙ sym (append_assoc (left_widths x) (left_widths y) (width x ∷ measure_all ns (width (joined j x y) ∷ st)))
    ∙ sym (append_assoc (left_widths x ++ left_widths y) (width x ∷ []) (measure_all ns (width (joined j x y) ∷ st)))

pub measure_query : (q : Query) → measure_all (nodes_for q) [] ≡ left_widths_of q
measure_query None = refl
measure_query (Some t) =
    ap (λ l. measure_all l []) (nodes_for_tree t ∙ sym (append-nil (tree_nodes 0 t))) ∙ measure_tree 0 t [] []
    ∙ append-nil (left_widths t)

length-left_widths : (t : Tree) → length (left_widths t) ≡ nodes_in t
length-left_widths (leaf o) = refl
length-left_widths (negated x) = let h = length-left_widths x in simp length-append (omega arith)
length-left_widths (joined j x y) =
    let h = length-left_widths x in let g = length-left_widths y in simp length-append (omega arith)

pub length-left_widths_of : (q : Query) → length (left_widths_of q) ≡ nodes_of q
length-left_widths_of None = refl
length-left_widths_of (Some t) = length-left_widths t

-- From the last node back: the steps, the last one first. The step after a node has as its index how many nodes there
-- are up to it.
abbrev pub lay_all : Due → List Node → List ℕ → List Due → List Step
lay_all r [] ws due = []
lay_all r (n ∷ ns) [] due = []
lay_all r (n ∷ ns) (w ∷ ws) due =
    record { node = n; place = due_place (suc (length ns)) (top_or r due) }
    ∷ lay_all r ns ws (spread_on n w (due_place (suc (length ns)) (top_or r due)) (below due))

spread_joint : (j : Joint) (w : ℕ) (p : Place) (due : List Due)
    → spread_on (joint_node j) w p due ≡ At (right_place j w p) ∷ left_due j p ∷ due
spread_joint or_joint w p due = refl
spread_joint and_joint w p due = refl
spread_joint (phrase_joint n) w p due = refl

due_left : (j : Joint) (m : ℕ) (p : Place) → due_place m (left_due j p) ≡ left_place j m p
due_left or_joint m (Outside on_true on_false) = refl
due_left and_joint m (Outside on_true on_false) = refl
due_left (phrase_joint n) m (Outside on_true on_false) = refl
due_left or_joint m (Within o b) = refl
due_left and_joint m (Within o b) = refl
due_left (phrase_joint n) m (Within o b) = refl

back_one : {X : Type 0} (xs : List X) (x : X) (ys : List X) → reverse (xs ++ x ∷ []) ++ ys ≡ x ∷ (reverse xs ++ ys)
back_one xs x ys = ap (λ l. l ++ ys) (reverse-append xs (x ∷ []))

back_two : {X : Type 0} (xs ys : List X) (z : X) (us : List X)
    → reverse (xs ++ ys ++ z ∷ []) ++ us ≡ z ∷ (reverse ys ++ (reverse xs ++ us))
back_two xs ys z us =
    back_one (xs ++ ys) z us ∙ ap (λ l. z ∷ (l ++ us)) (reverse-append xs ys)
    ∙ ap (λ l. z ∷ l) (append_assoc (reverse ys) (reverse xs) us)

count_back : (k : ℕ) (t : Tree) (ns : List Node) → length (reverse (tree_nodes k t) ++ ns) ≡ nodes_in t + length ns
count_back k t ns = length-append (reverse (tree_nodes k t)) ns
    ∙ ap (λ n. n + length ns) (length-reverse (tree_nodes k t) ∙ length-tree_nodes k t)

lay_tree : (r : Due) (k m : ℕ) (t : Tree) (d : Due) (p : Place) (ns : List Node) (ws : List ℕ) (due : List Due)
    → length ns ≡ m → due_place (m + nodes_in t) d ≡ p
    → lay_all r (reverse (tree_nodes k t) ++ ns) (reverse (left_widths t) ++ ws) (d ∷ due)
    ≡ reverse (steps k m p t) ++ lay_all r ns ws due
lay_tree r k m (leaf o) d p ns ws due l e =
    let i : suc (length ns) ≡ m + 1 = omega arith in
    ap (λ q. record { node = Leaf k; place = q } ∷ lay_all r ns ws due) (ap (λ j. due_place j d) i ∙ e)
lay_tree r k m (negated x) d p ns ws due l e =
    let N = reverse (tree_nodes k x) ++ ns in
    let W = reverse (left_widths x) ++ ws in
    let i : suc (length (reverse (tree_nodes k x) ++ ns)) ≡ m + suc (nodes_in x) = omega (arith, count_back k x ns) in
    ap (λ l. lay_all r l (reverse (left_widths x ++ 0 ∷ []) ++ ws) (d ∷ due)) (back_one (tree_nodes k x) Not ns)
    ∙ ap (λ l. lay_all r (Not ∷ N) l (d ∷ due)) (back_one (left_widths x) 0 ws)
    ∙ ap (λ q. record { node = Not; place = q } ∷ lay_all r N W (At (under_not q) ∷ due))
    (ap (λ j. due_place j d) i ∙ e)
    ∙ ap (λ l. record { node = Not; place = p } ∷ l)
    (lay_tree r k m x (At (under_not p)) (under_not p) ns ws due l refl)
    ∙ sym (back_one (steps k m (under_not p) x) (record { node = Not; place = p }) (lay_all r ns ws due))
lay_tree r k m (joined j x y) d p ns ws due l e =
    let n = k + count_in x in
    let h = m + nodes_in x in
    let q : Step = record { node = joint_node j; place = p } in
    let sx = steps k m (left_place j (m + nodes_in x) p) x in
    let sy = steps n (m + nodes_in x) (right_place j (width x) p) y in
    let M = reverse (tree_nodes k x) ++ ns in
    let V = reverse (left_widths x) ++ ws in
    let N = reverse (tree_nodes n y) ++ M in
    let W = reverse (left_widths y) ++ V in
    let cx = count_back k x ns in
    let cy = count_back n y M in
    let i : suc (length (reverse (tree_nodes n y) ++ M)) ≡ m + suc (nodes_in x + nodes_in y) = omega (arith, cx, cy) in
    let f : length (reverse (tree_nodes k x) ++ ns) ≡ m + nodes_in x = omega (arith, cx) in
    ap (λ l. lay_all r l (reverse (left_widths x ++ left_widths y ++ width x ∷ []) ++ ws) (d ∷ due))
    (back_two (tree_nodes k x) (tree_nodes n y) (joint_node j) ns)
    ∙ ap (λ l. lay_all r (joint_node j ∷ N) l (d ∷ due)) (back_two (left_widths x) (left_widths y) (width x) ws)
    ∙ ap (λ z. record { node = joint_node j; place = z } ∷ lay_all r N W (spread_on (joint_node j) (width x) z due))
    (ap (λ j. due_place j d) i ∙ e)
    ∙ ap (λ z. q ∷ lay_all r N W z) (spread_joint j (width x) p due)
    ∙ ap (λ l. q ∷ l)
    (lay_tree r n h y (At (right_place j (width x) p)) (right_place j (width x) p) M V (left_due j p ∷ due) f refl)
    ∙ ap (λ l. q ∷ (reverse sy ++ l))
    (lay_tree r k m x (left_due j p) (left_place j (m + nodes_in x) p) ns ws due l (due_left j (m + nodes_in x) p))
    ∙ sym (back_two sx sy q (lay_all r ns ws due))

-- what is known of the root
abbrev pub root_due : ℕ → Due
root_due n = At (Outside n (n + 1))

lay_root : (n : ℕ) (q : Query) → n ≡ nodes_of q
    → lay_all (root_due n) (reverse (nodes_for q)) (reverse (left_widths_of q)) (root_due n ∷ []) ≡ reverse (plan_of q)
lay_root n None e = refl
lay_root n (Some t) e =
    let r = root_due n in
    ap (λ l. lay_all r (reverse l) (reverse (left_widths t)) (r ∷ [])) (nodes_for_tree t)
    ∙ ap (λ l. lay_all r l (reverse (left_widths t)) (r ∷ [])) (sym (append-nil (reverse (tree_nodes 0 t))))
    ∙ ap (λ l. lay_all r (reverse (tree_nodes 0 t) ++ []) l (r ∷ [])) (sym (append-nil (reverse (left_widths t))))
    ∙ lay_tree r 0 0 t r (Outside n (n + 1)) [] [] [] refl refl ∙ append-nil (reverse (steps 0 0 (Outside n (n + 1)) t))
    ∙ ap (λ c. reverse (steps 0 0 (Outside c (c + 1)) t)) e

pub lay_query : (q : Query) (ns : List Node) → ns ≡ nodes_for q → lay_all (root_due (length ns)) (reverse
    (nodes_for q)) (reverse (left_widths_of q)) (root_due (length ns) ∷ []) ≡ reverse (plan_of q)
lay_query q ns e = lay_root (length ns) q (ap length e ∙ length-nodes_for q)

-- how far what is due is from its phrase's beginning
abbrev pub due_offset : Due → ℕ
due_offset d = offset_of (due_place 0 d)

pub due_offset_same : (m : ℕ) (d : Due) → offset_of (due_place m d) ≡ due_offset d
due_offset_same m (At p) = refl
due_offset_same m (LeftOfAnd on_false) = refl
due_offset_same m (LeftOfOr on_true) = refl

-- nothing on the stack is farther than m from its phrase's beginning
abbrev pub WithinReach : ℕ → List Due → Type 0
WithinReach m [] = Unit {0}
WithinReach m (d ∷ ds) = (due_offset d ≤ m) × WithinReach m ds

reach_more : (m n : ℕ) (ds : List Due) → m ≤ n → WithinReach m ds → WithinReach n ds
reach_more m n [] h r = tt
reach_more m n (d ∷ ds) h r = (let q = r.0 in omega arith, reach_more m n ds h r.1)

pub reach_top : (m n : ℕ) (ds : List Due) → WithinReach m ds → due_offset (top_or (root_due n) ds) ≤ m
reach_top m n [] r = omega arith
reach_top m n (d ∷ ds) r = r.0

pub reach_below : (m : ℕ) (ds : List Due) → WithinReach m ds → WithinReach m (below ds)
reach_below m [] r = tt
reach_below m (d ∷ ds) r = r.1

under_not_near : (p : Place) → offset_of (under_not p) ≤ offset_of p
under_not_near (Outside on_true on_false) = omega arith
under_not_near (Within o b) = omega arith

left_near : (j : Joint) (p : Place) → due_offset (left_due j p) ≤ offset_of p
left_near or_joint (Outside on_true on_false) = omega arith
left_near and_joint (Outside on_true on_false) = omega arith
left_near (phrase_joint n) (Outside on_true on_false) = omega arith
left_near or_joint (Within o b) = omega arith
left_near and_joint (Within o b) = omega arith
left_near (phrase_joint n) (Within o b) = omega arith

right_near : (j : Joint) (w : ℕ) (p : Place)
    → offset_of (right_place j w p) ≤ offset_of p + (w + distance (joint_node j))
right_near or_joint w (Outside on_true on_false) = omega arith
right_near and_joint w (Outside on_true on_false) = omega arith
right_near (phrase_joint n) w (Outside on_true on_false) = omega arith
right_near or_joint w (Within o b) = omega arith
right_near and_joint w (Within o b) = omega arith
right_near (phrase_joint n) w (Within o b) = omega arith

-- by how much a node may raise an offset
abbrev pub STRIDE : ℕ
STRIDE = 2 ^ 33

reach_two : (j : Joint) (w m : ℕ) (p : Place) (due : List Due) → offset_of p ≤ m → WithinReach m due → w < 2 ^ 32
    → distance (joint_node j) < 2 ^ 16
    → WithinReach (m + STRIDE) (At (right_place j w p) ∷ left_due j p ∷ due)
reach_two j w m p due h r lw ln = (
  let q = right_near j w p in omega arith,
  (let q = left_near j p in omega arith, reach_more m (m + STRIDE) due (omega arith) r),
)

pub reach_spread : (n : Node) (w m : ℕ) (p : Place) (due : List Due) → offset_of p ≤ m → WithinReach m due → w < 2 ^ 32
    → distance n < 2 ^ 16 → WithinReach (m + STRIDE) (spread_on n w p due)
reach_spread (Leaf k) w m p due h r lw ln = reach_more m (m + STRIDE) due (omega arith) r
reach_spread Not w m p due h r lw ln =
    (let q = under_not_near p in omega arith, reach_more m (m + STRIDE) due (omega arith) r)
reach_spread And w m p due h r lw ln = reach_two and_joint w m p due h r lw ln
reach_spread Or w m p due h r lw ln = reach_two or_joint w m p due h r lw ln
reach_spread (Phrase n) w m p due h r lw ln = reach_two (phrase_joint n) w m p due h r lw ln

-- facts on the nodes of a query
pub node_near : (q : Query) (ns : List Node) (i : ℕ) (d : Node) → ns ≡ nodes_for q → IsSound q → i < length ns
    → distance (get_or ns i d) ≤ 16384
node_near q ns i d e s l =
    let a : All IsNearNode ns = subst (λ (m : List Node). All IsNearNode m) (sym e) (near_nodes q s.phrases) in a i d l

pub few_nodes : (q : Query) (ns : List Node) → ns ≡ nodes_for q → IsSound q → length ns < 32768
few_nodes q ns e s = let a = ap length e ∙ length-nodes_for q in let n = s.nodes in omega arith

-- one node more
pub measure_more : (ns : List Node) (i : ℕ) (d : Node) (ws st : List ℕ) (l : ℕ) (st' : List ℕ) → i < length ns
    → l ≡ left_width (get_or ns i d) st → st' ≡ measured (get_or ns i d) st
    → (ws ++ l ∷ []) ++ measure_all (drop (i + 1) ns) st' ≡ ws ++ measure_all (drop i ns) st
measure_more ns i d ws st l st' h p q =
    append_assoc ws (l ∷ []) (measure_all (drop (i + 1) ns) st')
    ∙ ap (λ k. ws ++ (k ∷ measure_all (drop (i + 1) ns) st')) p
    ∙ ap (λ s. ws ++ (left_width (get_or ns i d) st ∷ measure_all (drop (i + 1) ns) s)) q
    ∙ ap (λ m. ws ++ (left_width (get_or ns i d) st ∷ measure_all (drop m ns) (measured (get_or ns i d) st)))
    (add-one i)
    ∙ ap (λ k. ws ++ measure_all k st) (sym (drop-cons ns i d h))

last_of : {X : Type 0} (xs : List X) (i : ℕ) (d : X) → i < length xs
    → reverse (take (suc i) xs) ≡ get_or xs i d ∷ reverse (take i xs)
last_of xs i d h = ap reverse (take-suc xs i d h) ∙ reverse-append (take i xs) (get_or xs i d ∷ [])

pub lay_more : (r : Due) (ns : List Node) (ws : List ℕ) (i : ℕ) (d : Node) (out : List Step) (due due' : List Due)
    (p : Place) → i < length ns → i < length ws
    → p ≡ due_place (i + 1) (top_or r due) → due' ≡ spread_on (get_or ns i d) (get_or ws i 0) p (below due)
    → (out ++ record { node = get_or ns i d; place = p } ∷ []) ++ lay_all r (reverse (take i ns))
    (reverse (take i ws)) due' ≡ out ++ lay_all r (reverse (take (suc i) ns)) (reverse (take (suc i) ws)) due
lay_more r ns ws i d out due due' p ln lw ep ed =
    let n = get_or ns i d in
    let w = get_or ws i 0 in
    let N = reverse (take i ns) in
    let W = reverse (take i ws) in
    let count : length (reverse (take i ns)) ≡ i = length-reverse (take i ns) ∙ simp length-take (omega arith) in
    let behind : i + 1 ≡ suc (length (reverse (take i ns))) = omega arith in
    append_assoc out (record { node = n; place = p } ∷ []) (lay_all r N W due')
    ∙ ap (λ d. out ++ (record { node = n; place = p } ∷ lay_all r N W d)) ed
    ∙ ap (λ q. out ++ (record { node = n; place = q } ∷ lay_all r N W (spread_on n w q (below due))))
    (ep ∙ ap (λ m. due_place m (top_or r due)) behind)
    ∙ ap (λ l. out ++ lay_all r l (w ∷ W) due) (sym (last_of ns i d ln))
    ∙ ap (λ l. out ++ lay_all r (reverse (take (suc i) ns)) l due) (sym (last_of ws i 0 lw))

-- a tree has a step for each node, and no more operands than nodes
pub length-steps : (k m : ℕ) (p : Place) (t : Tree) → length (steps k m p t) ≡ nodes_in t
length-steps k m p (leaf o) = refl
length-steps k m p (negated x) = let a = length-steps k m (under_not p) x in simp length-append (omega arith)
length-steps k m p (joined j x y) =
    let a = length-steps k m (left_place j (m + nodes_in x) p) x in
    let b = length-steps (k + count_in x) (m + nodes_in x) (right_place j (width x) p) y in
    simp length-append (omega arith)

count_nodes : (t : Tree) → count_in t ≤ nodes_in t
count_nodes (leaf o) = omega arith
count_nodes (negated x) = let a = count_nodes x in omega arith
count_nodes (joined j x y) = let a = count_nodes x in let b = count_nodes y in simp length-append (omega arith)

pub length-plan_of : (q : Query) → length (plan_of q) ≡ nodes_of q
length-plan_of None = refl
length-plan_of (Some t) = length-steps 0 0 (Outside (nodes_in t) (nodes_in t + 1)) t

pub count_plan : (q : Query) → length (operands_of q) ≤ length (plan_of q)
count_plan None = omega arith
count_plan (Some t) = let a = count_nodes t in let b = length-plan_of (Some t) in omega arith
