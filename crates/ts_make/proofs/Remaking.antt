-- A query whose operands are made, node by node.
use Rattle.std.proofs.Common.{◌≡◌, ◌≢◌, ℕ, suc, ◌+◌, ◌<◌, ◌≤◌, List, [], ◌∷◌, ◌++◌, length, get_or, refl, sym, subst}
use Rattle.std.proofs.Common.{ap, ◌∙◌, append_assoc, Some, None, arith}
use Rattle.std.proofs.lemmas.List.{length-append}
use Rattle.std.proofs.Math.Seq.{get_or-append_seam}
use Rattle.ts_query.specs.declared.query.Node.{Node}
use Rattle.ts_query.specs.declared.query.Node.TheVariants.{Leaf, Not}
use Rattle.ts_query.specs.declared.query.Operand.{Operand}
use Rattle.ts_query.specs.Queries.{Joint, Tree, leaf, negated, joined, Query, operands_of, nodes_of}
use Rattle.ts_query.specs.Postfix.{Item, operand_item, not_item, joint_item, postfix_of, run, joint_node, nodes_from}
use Rattle.ts_query.specs.Postfix.{nodes_for}
use Rattle.ts_query.specs.Inner.Built.{operands_from}
use Rattle.ts_query.proofs.Built.{operands_from-postfix_of, few_operands}
use Rattle.ts_query.specs.declared.error.QueryError.{QueryError}
use Rattle.ts_query.specs.declared.error.QueryError.TheVariants.{Syntax, DistanceTooLarge, TooManyNodes, LexemeTooLong}
use Rattle.ts_query.specs.declared.error.QueryError.TheVariants.{OutOfMemory}
use Rattle.ts_config.specs.Mappings.{Mapping}
use Rattle.ts_config.specs.Known.{Known}
use Rattle.ts_make.specs.Groups.{Group}
use Rattle.ts_make.specs.Trees.{phrase_of}
use Rattle.ts_make.specs.Limits.{IsOnlyPast}
use Rattle.ts_make.specs.Removal.{Sketch, not_sketch, joint_sketch, sketch_nodes, query_left}
use Rattle.ts_make.specs.Made.{HasGroups, sketched, IsSketched, operand_sketched, not_sketched, joint_sketched}
use Rattle.ts_make.specs.Made.{IsMadeOf, IsTooManyOf, RemakingFails}
use Rattle.ts_make.specs.Making.{nodes_sketched, IsMaking, OperandFails}
use Rattle.ts_make.specs.Inner.Making.{AreSketched}
use Rattle.ts_make.specs.declared.maker.QueryMaker.{QueryMaker}
use Rattle.ts_make.proofs.Made.{sketch_one}
use Rattle.ts_make.proofs.Nodes.{next_after, first_item, leaf_item, not_item_is, joint_item_is, IsEnough, enough_query}
use Rattle.ts_make.proofs.Nodes.{query_trees, run_query, some_query, nothing_left}

module _ (known : Known) (mapping : Mapping) where
  -- the nodes that are left of a query, and what was made of those before them
  pub record Remaking (q : Query) (maker : QueryMaker) (next : ℕ) (left : List Node) : Type 0 where
    pub back : List Item
    pub before : List Operand
    pub trees : List Tree
    pub sketches : List Sketch
    pub nodes : left ≡ nodes_from next back
    pub operands : operands_of q ≡ before ++ operands_from back
    pub count : next ≡ length before
    pub runs : run back trees ≡ query_trees q
    pub enough : IsEnough back (length trees)
    pub making : IsMaking maker sketches
    pub are : AreSketched known mapping trees sketches
    pub none : q ≡ None → back ≡ []

  pub remaking_start : (q : Query) (maker : QueryMaker) (left : List Node) → left ≡ nodes_for q
      → IsMaking maker [] → Remaking q maker 0 left
  remaking_start q maker left e m = record {
    back = postfix_of q;
    before = [];
    trees = [];
    sketches = [];
    nodes = e;
    operands = sym (operands_from-postfix_of q);
    count = refl;
    runs = run_query q;
    enough = enough_query q;
    making = m;
    are = tt;
    none = λ f. ap postfix_of f;
  }

  -- there are fewer operands than a query may have nodes
  pub next_below : (q : Query) (maker : QueryMaker) (next : ℕ) (left : List Node)
      → Remaking q maker next left → nodes_of q < 32768 → next < 32768
  next_below q maker next left r s =
      let a = ap length r.operands in
      let b = length-append r.before (operands_from r.back) in
      let c = r.count in
      let d = few_operands q s in
      omega arith

  -- the same of other names for the maker and the number
  pub remaking_to : (q : Query) (maker maker2 : QueryMaker) (next next2 : ℕ) (left : List Node)
      → maker2 ≡ maker → next2 ≡ next → Remaking q maker next left → Remaking q maker2 next2 left
  remaking_to q maker maker2 next next2 left e f r =
      subst (λ x. Remaking q x next2 left) (sym e) (subst (λ n. Remaking q maker n left) (sym f) r)

  -- ── an operand ──
  pub record NextOperand (q : Query) (maker : QueryMaker) (next : ℕ)
      (rest : List Node) : Type 0 where
    pub operand : Operand
    pub others : List Item
    pub before : List Operand
    pub trees : List Tree
    pub sketches : List Sketch
    pub nodes : rest ≡ nodes_from (suc next) others
    pub operands : operands_of q ≡ before ++ operand ∷ operands_from others
    pub count : next ≡ length before
    pub runs : run others (leaf operand ∷ trees) ≡ query_trees q
    pub enough : IsEnough others (suc (length trees))
    pub making : IsMaking maker sketches
    pub are : AreSketched known mapping trees sketches
    pub some : q ≢ None

  pub next_operand : (q : Query) (maker : QueryMaker) (next m : ℕ) (left rest : List Node)
      → Remaking q maker next left → left ≡ Leaf m ∷ rest → NextOperand q maker next rest
  next_operand q maker next m left rest r e =
      let f = first_item next (Leaf m) rest r.back (sym e ∙ r.nodes) in
      let g = leaf_item next m f.item f.node in
      let is : r.back ≡ operand_item g.0 ∷ f.others = f.is ∙ ap (λ i. i ∷ f.others) g.1 in
      record {
        operand = g.0;
        others = f.others;
        before = r.before;
        trees = r.trees;
        sketches = r.sketches;
        nodes = f.nodes ∙ ap (λ i. nodes_from (next_after next i) f.others) g.1;
        operands = r.operands ∙ ap (λ l. r.before ++ operands_from l) is;
        count = r.count;
        runs = sym (ap (λ l. run l r.trees) is) ∙ r.runs;
        enough = subst (λ l. IsEnough l (length r.trees)) is r.enough;
        making = r.making;
        are = r.are;
        some = some_query q r.back f.others f.item r.none f.is;
      }

  pub operand_there : (q : Query) (maker : QueryMaker) (next : ℕ) (rest : List Node)
      → NextOperand q maker next rest → next < length (operands_of q)
  operand_there q maker next rest n =
      let e = ap length n.operands in
      let f = length-append n.before (n.operand ∷ operands_from n.others) in let c = n.count in
      omega arith

  pub operand_is : (q : Query) (maker : QueryMaker) (next : ℕ) (rest : List Node)
      (n : NextOperand q maker next rest) (d : Operand) → get_or (operands_of q) next d ≡ n.operand
  operand_is q maker next rest n d =
      ap (λ l. get_or l next d) n.operands
      ∙ ap (λ k. get_or (n.before ++ n.operand ∷ operands_from n.others) k d) n.count
      ∙ get_or-append_seam n.before n.operand (operands_from n.others) d

  pub operand_made : (q : Query) (maker maker2 : QueryMaker) (next : ℕ) (rest : List Node)
      (n : NextOperand q maker next rest) (groups : List Group)
      → HasGroups known mapping n.operand.lexeme groups
      → ((ds : List Sketch) → IsMaking maker ds
      → IsMaking maker2 (sketched (phrase_of n.operand.weights n.operand.prefix groups) ∷ ds))
      → Remaking q maker2 (next + 1) rest
  operand_made q maker maker2 next rest n groups h m =
      let one : suc next ≡ next + 1 = omega arith in
      record {
        back = n.others;
        before = n.before ++ n.operand ∷ [];
        trees = leaf n.operand ∷ n.trees;
        sketches = sketched (phrase_of n.operand.weights n.operand.prefix groups) ∷ n.sketches;
        nodes = n.nodes ∙ ap (λ k. nodes_from k n.others) one;
        operands =
            n.operands ∙ sym (append_assoc n.before (n.operand ∷ []) (operands_from n.others));
        count = (let c = n.count in omega (arith, length-append n.before (n.operand ∷ [])));
        runs = n.runs;
        enough = n.enough;
        making = m n.sketches n.making;
        are = (operand_sketched n.operand groups h, n.are);
        none = λ f. absurd (n.some f);
      }

  -- a maker that has made an operand of this text
  abbrev pub HasMade : QueryMaker → QueryMaker → List ℕ → Operand → Type 0
  HasMade maker maker2 text o = (groups : List Group) × HasGroups known mapping text groups
      × ((ds : List Sketch) → IsMaking maker ds
      → IsMaking maker2 (sketched (phrase_of o.weights o.prefix groups) ∷ ds))

  pub operand_made_by : (q : Query) (maker maker2 : QueryMaker) (next : ℕ) (rest : List Node)
      (n : NextOperand q maker next rest) (o : Operand) (text : List ℕ) → text ≡ o.lexeme
      → o ≡ n.operand
      → HasMade maker maker2 text o → Remaking q maker2 (next + 1) rest
  operand_made_by q maker maker2 next rest n o text e f h =
      let g : HasMade maker maker2 o.lexeme o = subst (λ t. HasMade maker maker2 t o) e h in
      let k : HasMade maker maker2 n.operand.lexeme n.operand =
      subst (λ p. HasMade maker maker2 p.lexeme p) f g in
      operand_made q maker maker2 next rest n k.0 k.1 k.2

  -- ── `!` ──
  pub record NextNot (q : Query) (maker : QueryMaker) (next : ℕ) (rest : List Node) : Type 0 where
    pub tree : Tree
    pub trees : List Tree
    pub sketch : Sketch
    pub sketches : List Sketch
    pub others : List Item
    pub before : List Operand
    pub nodes : rest ≡ nodes_from next others
    pub operands : operands_of q ≡ before ++ operands_from others
    pub count : next ≡ length before
    pub runs : run others (negated tree ∷ trees) ≡ query_trees q
    pub enough : IsEnough others (suc (length trees))
    pub making : IsMaking maker (sketch ∷ sketches)
    pub is : IsSketched known mapping tree sketch
    pub are : AreSketched known mapping trees sketches
    pub some : q ≢ None

  not_stack : (q : Query) (maker : QueryMaker) (next : ℕ) (rest : List Node) (others : List Item)
      (before : List Operand) (ts : List Tree) (ds : List Sketch) → rest ≡ nodes_from next others
      → operands_of q ≡ before ++ operands_from others → next ≡ length before
      → run (not_item ∷ others) ts ≡ query_trees q → IsEnough (not_item ∷ others) (length ts)
      → IsMaking maker ds → AreSketched known mapping ts ds → q ≢ None
      → NextNot q maker next rest
  not_stack q maker next rest others before [] ds a b c r e m h s =
      absurd (let f = e.1 in let no : ⊥ = omega arith in no)
  not_stack q maker next rest others before (t ∷ ts) [] a b c r e m h s = absurd h
  not_stack q maker next rest others before (t ∷ ts) (d ∷ ds) a b c r e m h s = record {
    tree = t;
    trees = ts;
    sketch = d;
    sketches = ds;
    others = others;
    before = before;
    nodes = a;
    operands = b;
    count = c;
    runs = r;
    enough = (let f : suc e.0 ≡ suc (length ts) = sym e.1 in subst (λ k. IsEnough others k) f e.2);
    making = m;
    is = h.0;
    are = h.1;
    some = s;
  }

  pub next_not : (q : Query) (maker : QueryMaker) (next : ℕ) (left rest : List Node)
      → Remaking q maker next left → left ≡ Not ∷ rest → NextNot q maker next rest
  next_not q maker next left rest r e =
      let f = first_item next Not rest r.back (sym e ∙ r.nodes) in
      let g = not_item_is next f.item f.node in
      let is : r.back ≡ not_item ∷ f.others = f.is ∙ ap (λ i. i ∷ f.others) g in
      not_stack q maker next rest f.others r.before r.trees r.sketches
      (f.nodes ∙ ap (λ i. nodes_from (next_after next i) f.others) g)
      (r.operands ∙ ap (λ l. r.before ++ operands_from l) is) r.count
      (sym (ap (λ l. run l r.trees) is) ∙ r.runs)
      (subst (λ l. IsEnough l (length r.trees)) is r.enough) r.making r.are
      (some_query q r.back f.others f.item r.none f.is)

  pub not_made : (q : Query) (maker maker2 : QueryMaker) (next : ℕ) (rest : List Node)
      (n : NextNot q maker next rest)
      → ((d : Sketch) (ds : List Sketch) → IsMaking maker (d ∷ ds)
      → IsMaking maker2 (not_sketch d ∷ ds)) → Remaking q maker2 next rest
  not_made q maker maker2 next rest n m = record {
    back = n.others;
    before = n.before;
    trees = negated n.tree ∷ n.trees;
    sketches = not_sketch n.sketch ∷ n.sketches;
    nodes = n.nodes;
    operands = n.operands;
    count = n.count;
    runs = n.runs;
    enough = n.enough;
    making = m n.sketch n.sketches n.making;
    are = (not_sketched n.tree n.sketch n.is, n.are);
    none = λ f. absurd (n.some f);
  }

  -- ── operators ──
  pub record NextJoint (j : Joint) (q : Query) (maker : QueryMaker) (next : ℕ)
      (rest : List Node) : Type 0 where
    pub first : Tree
    pub second : Tree
    pub trees : List Tree
    pub first_sketch : Sketch
    pub second_sketch : Sketch
    pub sketches : List Sketch
    pub others : List Item
    pub before : List Operand
    pub nodes : rest ≡ nodes_from next others
    pub operands : operands_of q ≡ before ++ operands_from others
    pub count : next ≡ length before
    pub runs : run others (joined j first second ∷ trees) ≡ query_trees q
    pub enough : IsEnough others (suc (length trees))
    pub making : IsMaking maker (second_sketch ∷ first_sketch ∷ sketches)
    pub first_is : IsSketched known mapping first first_sketch
    pub second_is : IsSketched known mapping second second_sketch
    pub are : AreSketched known mapping trees sketches
    pub some : q ≢ None

  joint_stack : (j : Joint) (q : Query) (maker : QueryMaker) (next : ℕ) (rest : List Node)
      (others : List Item) (before : List Operand) (ts : List Tree) (ds : List Sketch)
      → rest ≡ nodes_from next others
      → operands_of q ≡ before ++ operands_from others → next ≡ length before
      → run (joint_item j ∷ others) ts ≡ query_trees q
      → IsEnough (joint_item j ∷ others) (length ts) → IsMaking maker ds
      → AreSketched known mapping ts ds → q ≢ None
      → NextJoint j q maker next rest
  joint_stack j q maker next rest others before [] ds a b c r e m h s =
      absurd (let f = e.1 in let no : ⊥ = omega arith in no)
  joint_stack j q maker next rest others before (t ∷ []) ds a b c r e m h s =
      absurd (let f = e.1 in let no : ⊥ = omega arith in no)
  joint_stack j q maker next rest others before (t ∷ u ∷ ts) [] a b c r e m h s = absurd h
  joint_stack j q maker next rest others before (t ∷ u ∷ ts) (d ∷ []) a b c r e m h s = absurd h.1
  joint_stack j q maker next rest others before (t ∷ u ∷ ts) (d ∷ f ∷ ds) a b c r e m h s = record {
    first = u;
    second = t;
    trees = ts;
    first_sketch = f;
    second_sketch = d;
    sketches = ds;
    others = others;
    before = before;
    nodes = a;
    operands = b;
    count = c;
    runs = r;
    enough =
        (let k = e.1 in let l : suc e.0
        ≡ suc (length ts) = omega arith in subst (λ n. IsEnough others n) l e.2);
    making = m;
    first_is = h.1.0;
    second_is = h.0;
    are = h.1.1;
    some = s;
  }

  pub next_joint : (j : Joint) (q : Query) (maker : QueryMaker) (next : ℕ) (left rest : List Node)
      → Remaking q maker next left → left ≡ joint_node j ∷ rest → NextJoint j q maker next rest
  next_joint j q maker next left rest r e =
      let f = first_item next (joint_node j) rest r.back (sym e ∙ r.nodes) in
      let g = joint_item_is j next f.item f.node in
      let is : r.back ≡ joint_item j ∷ f.others = f.is ∙ ap (λ i. i ∷ f.others) g in
      joint_stack j q maker next rest f.others r.before r.trees r.sketches
      (f.nodes ∙ ap (λ i. nodes_from (next_after next i) f.others) g)
      (r.operands ∙ ap (λ l. r.before ++ operands_from l) is) r.count
      (sym (ap (λ l. run l r.trees) is) ∙ r.runs)
      (subst (λ l. IsEnough l (length r.trees)) is r.enough) r.making r.are
      (some_query q r.back f.others f.item r.none f.is)

  pub joint_made : (j : Joint) (q : Query) (maker maker2 : QueryMaker) (next : ℕ) (rest : List Node)
      (n : NextJoint j q maker next rest)
      → ((d e : Sketch) (ds : List Sketch) → IsMaking maker (e ∷ d ∷ ds)
      → IsMaking maker2 (joint_sketch j d e ∷ ds)) → Remaking q maker2 next rest
  joint_made j q maker maker2 next rest n m = record {
    back = n.others;
    before = n.before;
    trees = joined j n.first n.second ∷ n.trees;
    sketches = joint_sketch j n.first_sketch n.second_sketch ∷ n.sketches;
    nodes = n.nodes;
    operands = n.operands;
    count = n.count;
    runs = n.runs;
    enough = n.enough;
    making = m n.first_sketch n.second_sketch n.sketches n.making;
    are = (
      joint_sketched j n.first n.second n.first_sketch n.second_sketch n.first_is n.second_is,
      n.are,
    );
    none = λ f. absurd (n.some f);
  }

  -- ── the end ──
  pub record Remade (q : Query) (maker : QueryMaker) : Type 0 where
    pub sketches : List Sketch
    pub few : length sketches ≤ 1
    pub making : IsMaking maker sketches
    pub value : IsMadeOf known mapping q (query_left sketches)

  pub remade_of : (q : Query) (maker : QueryMaker) (ds : List Sketch) → IsMaking maker ds
      → AreSketched known mapping (query_trees q) ds → Remade q maker
  remade_of None maker [] m a = record { sketches = []; few = omega arith; making = m; value = refl }
  remade_of None maker (d ∷ ds) m a = absurd a
  remade_of (Some t) maker [] m a = absurd a
  remade_of (Some t) maker (d ∷ []) m a =
      record {
        sketches = d ∷ [];
        few = omega arith;
        making = m;
        value = (d, a.0, (let f = m.few in let g : sketch_nodes d < 32768 = omega arith in g), refl);
      }
  remade_of (Some t) maker (d ∷ e ∷ ds) m a = absurd a.1

  pub remade : (q : Query) (maker : QueryMaker) (next : ℕ) (left : List Node)
      → Remaking q maker next left → left ≡ [] → Remade q maker
  remade q maker next left r e =
      let f = nothing_left next r.back (sym e ∙ r.nodes) in
      remade_of q maker r.sketches r.making
      (subst (λ l. AreSketched known mapping l r.sketches)
      (sym (ap (λ l. run l r.trees) f) ∙ r.runs) r.are)

  -- ── refusals ──
  pub sketches_one : (ts : List Tree) (ds es : List Sketch) → AreSketched known mapping ts ds
      → AreSketched known mapping ts es → ds ≡ es
  sketches_one [] [] [] a b = refl
  sketches_one [] [] (e ∷ es) a b = absurd b
  sketches_one [] (d ∷ ds) es a b = absurd a
  sketches_one (t ∷ ts) [] es a b = absurd a
  sketches_one (t ∷ ts) (d ∷ ds) [] a b = absurd b
  sketches_one (t ∷ ts) (d ∷ ds) (e ∷ es) a b =
      ap (λ x. x ∷ ds) (sketch_one known mapping t d e a.0 b.0)
      ∙ ap (λ l. e ∷ l) (sketches_one ts ds es a.1 b.1)

  -- sketches of these trees, with no more nodes than n
  pub record Within (ts : List Tree) (n : ℕ) : Type 0 where
    pub sketches : List Sketch
    pub are : AreSketched known mapping ts sketches
    pub most : nodes_sketched sketches ≤ n

  pub under_top : (t : Tree) (ts : List Tree) (n : ℕ) (ds : List Sketch)
      → AreSketched known mapping (t ∷ ts) ds → nodes_sketched ds ≤ n → Within ts n
  under_top t ts n [] a m = absurd a
  under_top t ts n (d ∷ ds) a m = record { sketches = ds; are = a.1; most = omega arith }

  not_of : (x : Tree) (d : Sketch) → IsSketched known mapping (negated x) d
      → (e : Sketch) × IsSketched known mapping x e × (d ≡ not_sketch e)
  not_of x d (not_sketched x2 e a) = (e, a, refl)

  pub under_not : (x : Tree) (ts : List Tree) (n : ℕ) (ds : List Sketch)
      → AreSketched known mapping (negated x ∷ ts) ds → nodes_sketched ds ≤ n → Within (x ∷ ts) n
  under_not x ts n [] a m = absurd a
  under_not x ts n (d ∷ ds) a m =
      let e = not_of x d a.0 in
      let f = ap sketch_nodes e.2 in
      record { sketches = e.0 ∷ ds; are = (e.1, a.1); most = omega arith }

  joint_of : (j : Joint) (x y : Tree) (d : Sketch) → IsSketched known mapping (joined j x y) d
      → (e : Sketch) × (f : Sketch) × IsSketched known mapping x e × IsSketched known mapping y f
      × (d ≡ joint_sketch j e f)
  joint_of j x y d (joint_sketched j2 x2 y2 e f a b) = (e, f, a, b, refl)

  pub under_joint : (j : Joint) (x y : Tree) (ts : List Tree) (n : ℕ) (ds : List Sketch)
      → AreSketched known mapping (joined j x y ∷ ts) ds → nodes_sketched ds ≤ n
      → Within (y ∷ x ∷ ts) n
  under_joint j x y ts n [] a m = absurd a
  under_joint j x y ts n (d ∷ ds) a m =
      let e = joint_of j x y d a.0 in
      let f = ap sketch_nodes e.4 in
      record { sketches = e.1 ∷ e.0 ∷ ds; are = (e.3, (e.2, a.1)); most = omega arith }

  -- sketches of what a run leads to give sketches of what it begins with
  under_run : (is : List Item) (ts : List Tree) (n : ℕ) → Within (run is ts) n → Within ts n
  under_run [] ts n w = w
  under_run (operand_item o ∷ is) ts n w = let v = under_run is (leaf o ∷ ts) n w in
      under_top (leaf o) ts n v.sketches v.are v.most
  under_run (not_item ∷ is) [] n w = under_run is [] n w
  under_run (not_item ∷ is) (x ∷ ts) n w = let v = under_run is (negated x ∷ ts) n w in
      under_not x ts n v.sketches v.are v.most
  under_run (joint_item j ∷ is) [] n w = under_run is [] n w
  under_run (joint_item j ∷ is) (y ∷ []) n w = under_run is (y ∷ []) n w
  under_run (joint_item j ∷ is) (y ∷ x ∷ ts) n w = let v = under_run is (joined j x y ∷ ts) n w in
      under_joint j x y ts n v.sketches v.are v.most

  pub many_of : (q : Query) (is : List Item) (ts : List Tree) → q ≢ None → run is ts ≡ query_trees q
      → ((es : List Sketch) → AreSketched known mapping ts es → 32768 ≤ nodes_sketched es)
      → IsTooManyOf known mapping q
  many_of None is ts s r b = absurd (s refl)
  many_of (Some t) is ts s r b = λ d a.
      let w : Within (run is ts) (sketch_nodes d) =
      subst (λ l. Within l (sketch_nodes d)) (sym r)
      (record { sketches = d ∷ []; are = (a, tt); most = omega arith }) in
      let v = under_run is ts (sketch_nodes d) w in
      let m = b v.sketches v.are in
      let n = v.most in
      omega arith

  refused_of : (q : Query) (is : List Item) (ts : List Tree) (ds : List Sketch) (e : QueryError)
      → q ≢ None → run is ts ≡ query_trees q → AreSketched known mapping ts ds
      → ((es : List Sketch) → AreSketched known mapping ts es → IsOnlyPast (nodes_sketched es) e)
      → RemakingFails known mapping q e
  refused_of q is ts ds TooManyNodes s r a b = many_of q is ts s r b
  refused_of q is ts ds OutOfMemory s r a b = tt
  refused_of q is ts ds (Syntax at) s r a b = b ds a
  refused_of q is ts ds (DistanceTooLarge at) s r a b = b ds a
  refused_of q is ts ds (LexemeTooLong at) s r a b = b ds a

  pub not_refused : (q : Query) (maker : QueryMaker) (next : ℕ) (rest : List Node)
      (n : NextNot q maker next rest) (e : QueryError)
      → ((d : Sketch) (ds : List Sketch) → IsMaking maker (d ∷ ds)
      → IsOnlyPast (nodes_sketched (not_sketch d ∷ ds)) e) → RemakingFails known mapping q e
  not_refused q maker next rest n e b =
      let are : AreSketched known mapping (negated n.tree ∷ n.trees) (not_sketch n.sketch ∷ n.sketches) =
      (not_sketched n.tree n.sketch n.is, n.are) in
      refused_of q n.others (negated n.tree ∷ n.trees)
      (not_sketch n.sketch ∷ n.sketches) e n.some n.runs are
      (λ es a. subst (λ l. IsOnlyPast (nodes_sketched l) e)
      (sketches_one (negated n.tree ∷ n.trees) (not_sketch n.sketch ∷ n.sketches) es are a)
      (b n.sketch n.sketches n.making))

  pub joint_refused : (j : Joint) (q : Query) (maker : QueryMaker) (next : ℕ) (rest : List Node)
      (n : NextJoint j q maker next rest) (e : QueryError)
      → ((d f : Sketch) (ds : List Sketch) → IsMaking maker (f ∷ d ∷ ds)
      → IsOnlyPast (nodes_sketched (joint_sketch j d f ∷ ds)) e) → RemakingFails known mapping q e
  joint_refused j q maker next rest n e b =
      let ds = joint_sketch j n.first_sketch n.second_sketch ∷ n.sketches in
      let are : AreSketched known mapping (joined j n.first n.second ∷ n.trees) ds = (
        joint_sketched j n.first n.second n.first_sketch n.second_sketch n.first_is n.second_is,
        n.are,
      ) in
      refused_of q n.others (joined j n.first n.second ∷ n.trees) ds e n.some n.runs are
      (λ es a. subst (λ l. IsOnlyPast (nodes_sketched l) e)
      (sketches_one (joined j n.first n.second ∷ n.trees) ds es are a)
      (b n.first_sketch n.second_sketch n.sketches n.making))

  pub operand_refused : (q : Query) (maker : QueryMaker) (next : ℕ) (rest : List Node)
      (n : NextOperand q maker next rest) (e : QueryError)
      → OperandFails known mapping n.operand.lexeme n.operand.weights n.operand.prefix maker e
      → RemakingFails known mapping q e
  operand_refused q maker next rest n TooManyNodes (groups, h, b) =
      let d = sketched (phrase_of n.operand.weights n.operand.prefix groups) in
      let are : AreSketched known mapping (leaf n.operand ∷ n.trees) (d ∷ n.sketches) =
      (operand_sketched n.operand groups h, n.are) in
      many_of q n.others (leaf n.operand ∷ n.trees) n.some n.runs
      (λ es a. subst (λ l. 32768 ≤ nodes_sketched l)
      (sketches_one (leaf n.operand ∷ n.trees) (d ∷ n.sketches) es are a) (b n.sketches n.making))
  operand_refused q maker next rest n OutOfMemory f = tt
  operand_refused q maker next rest n (Syntax at) f = f
  operand_refused q maker next rest n (DistanceTooLarge at) f = f
  operand_refused q maker next rest n (LexemeTooLong at) f = f

  pub operand_refused_by : (q : Query) (maker : QueryMaker) (next : ℕ) (rest : List Node)
      (n : NextOperand q maker next rest) (e : QueryError) (o : Operand) (text : List ℕ)
      → text ≡ o.lexeme → o ≡ n.operand
      → OperandFails known mapping text o.weights o.prefix maker e → RemakingFails known mapping q e
  operand_refused_by q maker next rest n e o text i f h =
      let g : OperandFails known mapping o.lexeme o.weights o.prefix maker e =
      subst (λ t. OperandFails known mapping t o.weights o.prefix maker e) i h in
      operand_refused q maker next rest n e
      (subst (λ p. OperandFails known mapping p.lexeme p.weights p.prefix maker e) f g)
