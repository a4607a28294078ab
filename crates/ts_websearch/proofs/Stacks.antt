-- The trees of a web text's rows, as they are made.
use Rattle.std.proofs.Common.{◌≡◌, ◌≢◌, ℕ, ◌≤◌, List, [], ◌∷◌, ◌++◌, map, refl, sym, subst, ap, ◌∙◌, true, false, Some}
use Rattle.std.proofs.Common.{None, arith}
use Rattle.std.specs.Prelude.{fold, option_to_list, is_some}
use Rattle.std.specs.List.{flat_map}
use Rattle.std.proofs.lemmas.List.{map-append}
use Rattle.std.proofs.lemmas.List.Sums.{fold-append, fold_push}
use Rattle.std.proofs.lemmas.Grind.{flat_map-append}
use Rattle.ts_query.specs.Queries.{Joint, or_joint, and_joint, Tree, joined, Query}
use Rattle.ts_config.specs.Mappings.{Mapping}
use Rattle.ts_config.specs.Known.{Known}
use Rattle.ts_make.specs.Removal.{Sketch, joint_sketch}
use Rattle.ts_make.specs.Made.{IsSketched, joint_sketched, IsTooManyOf}
use Rattle.ts_make.specs.Making.{with_left, nodes_sketched}
use Rattle.ts_make.specs.Inner.Making.{AreSketched}
use Rattle.ts_make.proofs.Nodes.{query_trees}
use Rattle.ts_make.proofs.Remaking.{Within, under_top, under_joint, many_of}
use Rattle.ts_websearch.specs.Items.{WebItem}
use Rattle.ts_websearch.specs.Made.{item_tree, all_by, row_query, web_query}
use Rattle.ts_websearch.specs.Inner.Stacks.{stack_trees}

-- one tree more, joined to a query from the right
abbrev pub onto_query : Joint → Query → Tree → Tree
onto_query j None t = t
onto_query j (Some x) t = joined j x t

all_more : (j : Joint) (xs : List Tree) (t : Tree)
    → all_by j (xs ++ t ∷ []) ≡ Some (onto_query j (all_by j xs) t)
all_more j [] t = refl
all_more j (x ∷ xs) t = ap Some (fold_push (joined j) x xs t)

-- ── an item more in the row ──
pub row_more : (row : List WebItem) (i : WebItem)
    → row_query (row ++ i ∷ []) ≡ Some (onto_query and_joint (row_query row) (item_tree i))
row_more row i = ap (all_by and_joint) (map-append item_tree row (i ∷ [])) ∙ all_more and_joint
    (map item_tree row) (item_tree i)

-- ── a row more ──
abbrev pub with_row : Query → Query → Query
with_row q None = q
with_row q (Some t) = Some (onto_query or_joint q t)

abbrev rows_trees : List (List WebItem) → List Tree
rows_trees rows = flat_map (λ r. option_to_list (row_query r)) rows

nothing_more : (l : List Tree) → l ++ [] ≡ l
nothing_more [] = refl
nothing_more (x ∷ l) = ap (λ k. x ∷ k) (nothing_more l)

more_trees : (xs : List Tree) (q : Query)
    → all_by or_joint (xs ++ option_to_list q) ≡ with_row (all_by or_joint xs) q
more_trees xs None = ap (all_by or_joint) (nothing_more xs)
more_trees xs (Some t) = all_more or_joint xs t

pub web_more : (ended : List (List WebItem)) (row : List WebItem)
    → web_query (ended ++ row ∷ []) ≡ with_row (web_query ended) (row_query row)
web_more ended row =
    ap (all_by or_joint)
    (flat_map-append (λ r. option_to_list (row_query r)) ended (row ∷ [])
    ∙ ap (λ l. rows_trees ended ++ l) (nothing_more (option_to_list (row_query row))))
    ∙ more_trees (rows_trees ended) (row_query row)

module _ (known : Known) (mapping : Mapping) where
  -- ── sketches of what was made ──
  pub added_alone : (q : Query) (t : Tree) (ts : List Tree) (d : Sketch) (ds : List Sketch)
      → is_some q ≡ false → IsSketched known mapping t d
      → AreSketched known mapping (with_left q ts) ds
      → AreSketched known mapping (onto_query and_joint q t ∷ ts) (d ∷ ds)
  added_alone None t ts d ds e h a = (h, a)
  added_alone (Some x) t ts d ds e h a = absurd (let no : ⊥ = cc in no)

  -- two sketches on top
  pub record TopTwo (j : Joint) (q : Query) (t : Tree) (ts : List Tree) (d : Sketch)
      (ds : List Sketch) : Type 0 where
    pub first : Sketch
    pub others : List Sketch
    pub split : ds ≡ first ∷ others
    pub are : AreSketched known mapping (onto_query j q t ∷ ts) (joint_sketch j first d ∷ others)

  pub added_behind : (j : Joint) (q : Query) (t : Tree) (ts : List Tree) (d : Sketch)
      (ds : List Sketch) → is_some q ≡ true → IsSketched known mapping t d
      → AreSketched known mapping (with_left q ts) ds → TopTwo j q t ts d ds
  added_behind j None t ts d ds e h a = absurd (let no : ⊥ = cc in no)
  added_behind j (Some x) t ts d [] e h a = absurd a
  added_behind j (Some x) t ts d (f ∷ ds) e h a =
      record { first = f; others = ds; split = refl; are = (joint_sketched j x t f d a.0 h, a.1) }

  -- ── what any query that goes on so has ──
  under_fold : (j : Joint) (x : Tree) (ys ts : List Tree) (n : ℕ)
      → Within known mapping (fold (joined j) x ys ∷ ts) n → Within known mapping (x ∷ ts) n
  under_fold j x [] ts n w = w
  under_fold j x (y ∷ ys) ts n w =
      let v = under_fold j (joined j x y) ys ts n w in
      let u = under_joint known mapping j x y ts n v.sketches v.are v.most in
      under_top known mapping y (x ∷ ts) n u.sketches u.are u.most

  -- the operator between what was joined and y
  under_all : (xs : List Tree) (y : Tree) (zs : List Tree) (n : ℕ)
      → Within known mapping (query_trees (all_by or_joint (xs ++ y ∷ zs))) n
      → Within known mapping (onto_query or_joint (all_by or_joint xs) y ∷ []) n
  under_all [] y zs n w = under_fold or_joint y zs [] n w
  under_all (x ∷ xs) y zs n w =
      under_fold or_joint (joined or_joint (fold (joined or_joint) x xs) y) zs [] n
      (subst (λ t. Within known mapping (t ∷ []) n) (fold-append (joined or_joint) x xs (y ∷ zs)) w)

  apart : (j : Joint) (q : Query) (y : Tree) (n : ℕ)
      → Within known mapping (onto_query j q y ∷ []) n → Within known mapping (y ∷ with_left q []) n
  apart j None y n w = w
  apart j (Some x) y n w = under_joint known mapping j x y [] n w.sketches w.are w.most

  -- a row that isn't empty has a tree
  abbrev pub row_tree : WebItem → List WebItem → Tree
  row_tree i is = fold (joined and_joint) (item_tree i) (map item_tree is)

  web_split : (ended : List (List WebItem)) (i : WebItem) (is : List WebItem) (others : List (List WebItem))
      → web_query (ended ++ (i ∷ is) ∷ others)
      ≡ all_by or_joint (rows_trees ended ++ row_tree i is ∷ rows_trees others)
  web_split ended i is others =
      ap (all_by or_joint)
      (flat_map-append (λ r. option_to_list (row_query r)) ended ((i ∷ is) ∷ others))

  some_tree : (xs : List Tree) (y : Tree) (zs : List Tree) → all_by or_joint (xs ++ y ∷ zs) ≢ None
  some_tree [] y zs e = let no : ⊥ = cc in no
  some_tree (x ∷ xs) y zs e = let no : ⊥ = cc in no

  pub web_some : (ended : List (List WebItem)) (i : WebItem) (is : List WebItem) (others : List (List WebItem))
      → web_query (ended ++ (i ∷ is) ∷ others) ≢ None
  web_some ended i is others e =
      some_tree (rows_trees ended) (row_tree i is) (rows_trees others)
      (sym (web_split ended i is others) ∙ e)

  -- a row that has ended, with the operator before it
  pub under_ended : (ended : List (List WebItem)) (i : WebItem) (is : List WebItem)
      (others : List (List WebItem)) (n : ℕ)
      → Within known mapping (query_trees (web_query (ended ++ (i ∷ is) ∷ others))) n
      → Within known mapping (onto_query or_joint (web_query ended) (row_tree i is) ∷ []) n
  under_ended ended i is others n w =
      under_all (rows_trees ended) (row_tree i is) (rows_trees others) n
      (subst (λ q. Within known mapping (query_trees q) n) (web_split ended i is others) w)

  -- the beginning of a row
  pub under_row : (ended : List (List WebItem)) (i : WebItem) (is more : List WebItem)
      (others : List (List WebItem)) (n : ℕ)
      → Within known mapping (query_trees (web_query (ended ++ (i ∷ (is ++ more)) ∷ others))) n
      → Within known mapping (stack_trees ended (i ∷ is)) n
  under_row ended i is more others n w =
      let v = apart or_joint (web_query ended) (row_tree i (is ++ more)) n
      (under_ended ended i (is ++ more) others n w) in
      let e : row_tree i (is ++ more) ≡ fold (joined and_joint) (row_tree i is)
      (map item_tree more) =
      ap (fold (joined and_joint) (item_tree i)) (map-append item_tree is more) ∙ fold-append
      (joined and_joint) (item_tree i) (map item_tree is) (map item_tree more) in
      under_fold and_joint (row_tree i is) (map item_tree more) (with_left (web_query ended) []) n
      (subst (λ t. Within known mapping (t ∷ with_left (web_query ended) []) n) e v)

  pub many_by : (q : Query) → q ≢ None
      → ((n : ℕ) → Within known mapping (query_trees q) n → 32768 ≤ n) → IsTooManyOf known mapping q
  many_by q s b = many_of known mapping q [] (query_trees q) s refl
      (λ es a. b (nodes_sketched es) (record { sketches = es; are = a; most = omega arith }))
