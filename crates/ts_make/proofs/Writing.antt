-- Placed lexemes that are joined in turn are joined by groups.
use Rattle.std.proofs.Common.{◌≡◌, ℕ, ◌+◌, ◌-◌, ◌<◌, ◌≤◌, List, [], ◌∷◌, ◌++◌, map, length, refl, sym, subst, ap, ◌∙◌}
use Rattle.std.proofs.Common.{Bool, true, false, Option, Some, None, All, AllPairs, arith}
use Rattle.std.specs.Prelude.{◌==◌}
use Rattle.std.specs.List.{flat_map}
use Rattle.std.proofs.lemmas.List.Elements.{All-head, All-tail}
use Rattle.ts_base.specs.declared.Weights.{Weights}
use Rattle.ts_config.specs.declared.placed.Placed.{Placed}
use Rattle.ts_query.specs.declared.error.QueryError.{QueryError}
use Rattle.ts_query.specs.declared.error.QueryError.TheVariants.{Syntax, DistanceTooLarge, TooManyNodes, LexemeTooLong}
use Rattle.ts_query.specs.declared.error.QueryError.TheVariants.{OutOfMemory}
use Rattle.ts_query.specs.Queries.{Joint, and_joint, Tree, joined}
use Rattle.ts_query.specs.Building.{with_joint, nodes_among}
use Rattle.ts_make.specs.Groups.{Group, members, IsTogether, AreGroups}
use Rattle.ts_make.specs.Trees.{leaf_for, and_on, group_tree, phrase_on}
use Rattle.ts_make.specs.Limits.{IsOnlyPast}
use Rattle.ts_make.specs.Inner.Writing.{way_joint, closed, closed_last, group_last, with_next, with_placed, joined_from}
use Rattle.ts_make.specs.Inner.Writing.{IsDeepAt, IsDeep}
use Rattle.ts_make.specs.Inner.Joins.{groups_by}
use Rattle.ts_make.specs.Making.{with_left}
use Rattle.ts_make.specs.declared.joining.Way.{Way}
use Rattle.ts_make.specs.declared.joining.Way.TheVariants.{Phrase, Conjunction}
use Rattle.ts_make.specs.declared.joining.Last.{Last}
use Rattle.ts_make.proofs.Grouping.{equal_test, other_test, pairs_tail, pairs_head, IsUnder}

-- ── limits ──
pub past_more : (m n : ℕ) (e : QueryError) → m ≤ n → IsOnlyPast m e → IsOnlyPast n e
past_more m n (Syntax at) h f = f
past_more m n (DistanceTooLarge at) h f = f
past_more m n (LexemeTooLong at) h f = f
past_more m n TooManyNodes h f = omega arith
past_more m n OutOfMemory h f = tt

-- ── nodes ──
joint_no_fewer : (j : Joint) (ts : List Tree) → nodes_among ts ≤ nodes_among (with_joint j ts)
joint_no_fewer j [] = omega arith
joint_no_fewer j (y ∷ []) = omega arith
joint_no_fewer j (y ∷ x ∷ ts) = omega arith

closed_no_fewer : (way : Way) (d : Option ℕ) (ts : List Tree)
    → nodes_among ts ≤ nodes_among (closed way d ts)
closed_no_fewer way None ts = omega arith
closed_no_fewer way (Some n) ts = joint_no_fewer (way_joint way n) ts

last_no_fewer : (way : Way) (last : Option Last) (ts : List Tree)
    → nodes_among ts ≤ nodes_among (closed_last way last ts)
last_no_fewer way None ts = omega arith
last_no_fewer way (Some last) ts = closed_no_fewer way last.distance ts

-- ── depth ──
pub joint_length : (j : Joint) (ts : List Tree) → 2 ≤ length ts
    → length (with_joint j ts) + 1 ≡ length ts
joint_length j [] h = absurd (let no : ⊥ = omega arith in no)
joint_length j (y ∷ []) h = absurd (let no : ⊥ = omega arith in no)
joint_length j (y ∷ x ∷ ts) h = omega arith

pub closed_deep : (way : Way) (d : Option ℕ) (ts : List Tree) → IsDeepAt d ts
    → 1 ≤ length (closed way d ts)
closed_deep way None ts h = h
closed_deep way (Some n) ts h = let e = joint_length (way_joint way n) ts h in omega arith

deep_one : (d : Option ℕ) (ts : List Tree) → IsDeepAt d ts → 1 ≤ length ts
deep_one None ts h = h
deep_one (Some n) ts h = omega arith

same_deep : (d : Option ℕ) (x : Tree) (ts : List Tree) → IsDeepAt d ts
    → IsDeepAt d (with_joint and_joint (x ∷ ts))
same_deep d x [] h = absurd (let g = deep_one d [] h in let no : ⊥ = omega arith in no)
same_deep None x (y ∷ ts) h = omega arith
same_deep (Some n) x (y ∷ ts) h = omega arith

next_deep : (b : Bool) (way : Way) (last : Last) (p : Placed) (x : Tree) (ts : List Tree)
    → IsDeepAt last.distance ts
    → IsDeep (with_next b way last p x ts).last (with_next b way last p x ts).trees
next_deep true way last p x ts h = same_deep last.distance x ts h
next_deep false way last p x ts h = let g = closed_deep way last.distance ts h in omega arith

module _ (way : Way) (weights : Weights) (prefix : Bool) where
  pub placed_deep : (last : Option Last) (p : Placed) (ts : List Tree) → IsDeep last ts
      → IsDeep (with_placed way weights prefix last p ts).last
      (with_placed way weights prefix last p ts).trees
  placed_deep None p ts h = omega arith
  placed_deep (Some last) p ts h =
      next_deep (p.position == last.position) way last p (leaf_for weights prefix p) ts h

  next_no_fewer : (b : Bool) (last : Last) (p : Placed) (ts : List Tree)
      → nodes_among ts ≤ nodes_among (with_next b way last p (leaf_for weights prefix p) ts).trees
  next_no_fewer true last p ts = let e =
      joint_no_fewer and_joint (leaf_for weights prefix p ∷ ts) in omega arith
  next_no_fewer false last p ts = let e = closed_no_fewer way last.distance ts in omega arith

  placed_no_fewer : (last : Option Last) (p : Placed) (ts : List Tree)
      → nodes_among ts ≤ nodes_among (with_placed way weights prefix last p ts).trees
  placed_no_fewer None p ts = omega arith
  placed_no_fewer (Some last) p ts = next_no_fewer (p.position == last.position) last p ts

  pub joined_no_fewer : (last : Option Last) (ps : List Placed) (ts : List Tree)
      → nodes_among ts ≤ nodes_among (joined_from way weights prefix last ps ts)
  joined_no_fewer last [] ts = last_no_fewer way last ts
  joined_no_fewer last (p ∷ ps) ts =
      let s = with_placed way weights prefix last p ts in
      let e = placed_no_fewer last p ts in
      let f = joined_no_fewer s.last ps s.trees in
      omega arith

  -- ── groups ──
  -- further lexemes of the last group
  same_group : (n : ℕ) (d : Option ℕ) (y : Tree) (os more : List Placed) (ts : List Tree)
      → All (λ q. q.position ≡ n) os
      → joined_from way weights prefix (group_last n d) (os ++ more) (y ∷ ts)
      ≡ joined_from way weights prefix (group_last n d) more
      (and_on y (map (leaf_for weights prefix) os) ∷ ts)
  same_group n d y [] more ts a = refl
  same_group n d y (o ∷ os) more ts a =
      let last : Last = record { position = n; distance = d } in
      let e = equal_test o.position n (All-head (λ q. q.position ≡ n) o os a) in
      ap (λ b. joined_from way weights prefix
      (with_next b way last o (leaf_for weights prefix o) (y ∷ ts)).last (os ++ more)
      (with_next b way last o (leaf_for weights prefix o) (y ∷ ts)).trees) e
      ∙ same_group n d (joined and_joint y (leaf_for weights prefix o)) os more ts
      (All-tail (λ q. q.position ≡ n) o os a)

  -- x, whose last group is at the position n, and further groups
  abbrev on_groups : ℕ → Tree → List Group → Tree
  on_groups n x [] = x
  on_groups n x (g ∷ gs) =
      on_groups g.position (joined (way_joint way (g.position - n)) x (group_tree weights prefix g))
      gs

  -- a first lexeme of a group after the last one
  new_group : (n m : ℕ) (d : Option ℕ) (p : Placed) (ps : List Placed) (x : Tree)
      (trees ts : List Tree) → p.position ≡ m → n < m → closed way d trees ≡ x ∷ ts
      → joined_from way weights prefix (group_last n d) (p ∷ ps) trees
      ≡ joined_from way weights prefix (group_last m (Some (m - n))) ps
      (leaf_for weights prefix p ∷ x ∷ ts)
  new_group n m d p ps x trees ts e h f =
      let last : Last = record { position = n; distance = d } in
      let g = other_test p.position n (λ i. let no : ⊥ = omega arith in no) in
      ap (λ b. joined_from way weights prefix
      (with_next b way last p (leaf_for weights prefix p) trees).last ps
      (with_next b way last p (leaf_for weights prefix p) trees).trees) g
      ∙ ap (λ k. joined_from way weights prefix (group_last k (Some (k - n))) ps
      (leaf_for weights prefix p ∷ closed way d trees)) e
      ∙ ap (λ l. joined_from way weights prefix (group_last m (Some (m - n))) ps
      (leaf_for weights prefix p ∷ l)) f

  more_groups : (n : ℕ) (d : Option ℕ) (x : Tree) (gs : List Group) (trees ts : List Tree)
      → closed way d trees ≡ x ∷ ts
      → All IsTogether gs → All (λ g. n < g.position) gs
      → AllPairs (λ g h. g.position < h.position) gs
      → joined_from way weights prefix (group_last n d) (flat_map members gs) trees
      ≡ on_groups n x gs ∷ ts
  more_groups n d x [] trees ts e t a r = e
  more_groups n d x (g ∷ gs) trees ts e t a r =
      let m = All-head IsTogether g gs t in
      let first : g.first.position ≡ g.position =
      All-head (λ q. q.position ≡ g.position) g.first g.others m in
      let under : n < g.position = All-head (λ h. n < h.position) g gs a in
      new_group n g.position d g.first (g.others ++ flat_map members gs) x trees ts first under e
      ∙ same_group g.position (Some (g.position - n)) (leaf_for weights prefix g.first) g.others
      (flat_map members gs) (x ∷ ts)
      (All-tail (λ q. q.position ≡ g.position) g.first g.others m)
      ∙ more_groups g.position (Some (g.position - n))
      (joined (way_joint way (g.position - n)) x (group_tree weights prefix g)) gs
      (group_tree weights prefix g ∷ x ∷ ts) ts refl
      (All-tail IsTogether g gs t) (pairs_head IsUnder g gs r) (pairs_tail IsUnder g gs r)

  first_group : (n : ℕ) (p : Placed) (ps : List Placed) (ts : List Tree) → p.position ≡ n
      → joined_from way weights prefix None (p ∷ ps) ts
      ≡ joined_from way weights prefix (group_last n None) ps (leaf_for weights prefix p ∷ ts)
  first_group n p ps ts e =
      ap (λ k. joined_from way weights prefix (group_last k None) ps
      (leaf_for weights prefix p ∷ ts)) e

  all_groups : (g : Group) (gs : List Group) (ts : List Tree) → All IsTogether (g ∷ gs)
      → AllPairs (λ g h. g.position < h.position) (g ∷ gs)
      → joined_from way weights prefix None (flat_map members (g ∷ gs)) ts
      ≡ on_groups g.position (group_tree weights prefix g) gs ∷ ts
  all_groups g gs ts t r =
      let m = All-head IsTogether g gs t in
      first_group g.position g.first (g.others ++ flat_map members gs) ts
      (All-head (λ q. q.position ≡ g.position) g.first g.others m)
      ∙ same_group g.position None (leaf_for weights prefix g.first) g.others
      (flat_map members gs) ts (All-tail (λ q. q.position ≡ g.position) g.first g.others m)
      ∙ more_groups g.position None (group_tree weights prefix g) gs
      (group_tree weights prefix g ∷ ts) ts refl
      (All-tail IsTogether g gs t) (pairs_head IsUnder g gs r) (pairs_tail IsUnder g gs r)

-- ── the two ways ──
phrase_groups : (weights : Weights) (prefix : Bool) (n : ℕ) (x : Tree) (gs : List Group)
    → on_groups Phrase weights prefix n x gs ≡ phrase_on weights prefix n x gs
phrase_groups weights prefix n x [] = refl
phrase_groups weights prefix n x (g ∷ gs) =
    phrase_groups weights prefix g.position
    (joined (way_joint Phrase (g.position - n)) x (group_tree weights prefix g)) gs

pair_groups : (weights : Weights) (prefix : Bool) (n : ℕ) (x : Tree) (gs : List Group)
    → on_groups Conjunction weights prefix n x gs ≡ and_on x (map (group_tree weights prefix) gs)
pair_groups weights prefix n x [] = refl
pair_groups weights prefix n x (g ∷ gs) =
    pair_groups weights prefix g.position (joined and_joint x (group_tree weights prefix g)) gs

whole_groups : (way : Way) (weights : Weights) (prefix : Bool) (gs : List Group) (ts : List Tree)
    → All IsTogether gs → AllPairs (λ g h. g.position < h.position) gs
    → joined_from way weights prefix None (flat_map members gs) ts
    ≡ with_left (groups_by way weights prefix gs) ts
whole_groups Phrase weights prefix [] ts t r = refl
whole_groups Conjunction weights prefix [] ts t r = refl
whole_groups Phrase weights prefix (g ∷ gs) ts t r =
    all_groups Phrase weights prefix g gs ts t r
    ∙ ap (λ x. x ∷ ts) (phrase_groups weights prefix g.position (group_tree weights prefix g) gs)
whole_groups Conjunction weights prefix (g ∷ gs) ts t r =
    all_groups Conjunction weights prefix g gs ts t r
    ∙ ap (λ x. x ∷ ts) (pair_groups weights prefix g.position (group_tree weights prefix g) gs)

pub written_groups : (way : Way) (weights : Weights) (prefix : Bool) (placed : List Placed)
    (gs : List Group) (ts : List Tree) → AreGroups placed gs
    → joined_from way weights prefix None placed ts ≡ with_left (groups_by way weights prefix gs) ts
written_groups way weights prefix placed gs ts a =
    ap (λ l. joined_from way weights prefix None l ts) a.whole
    ∙ whole_groups way weights prefix gs ts a.together a.rising

-- a lexeme that is refused is refused with all that follow
pub refused_on : (way : Way) (weights : Weights) (prefix : Bool) (last : Option Last) (p : Placed)
    (ps : List Placed) (ts : List Tree) (e : QueryError)
    → IsOnlyPast (nodes_among (with_placed way weights prefix last p ts).trees) e
    → IsOnlyPast (nodes_among (joined_from way weights prefix last (p ∷ ps) ts)) e
refused_on way weights prefix last p ps ts e h =
    let s = with_placed way weights prefix last p ts in
    past_more (nodes_among s.trees)
    (nodes_among (joined_from way weights prefix s.last ps s.trees)) e
    (joined_no_fewer way weights prefix s.last ps s.trees) h

-- the same where the lexemes are a list whose first is refused
pub refused_run : (way : Way) (weights : Weights) (prefix : Bool) (last : Option Last) (p : Placed)
    (ps qs : List Placed) (ts trees : List Tree) (e : QueryError) → qs ≡ p ∷ ps
    → joined_from way weights prefix last qs ts ≡ trees
    → IsOnlyPast (nodes_among (with_placed way weights prefix last p ts).trees) e
    → IsOnlyPast (nodes_among trees) e
refused_run way weights prefix last p ps qs ts trees e h f g =
    subst (λ l. IsOnlyPast (nodes_among l) e)
    (ap (λ l. joined_from way weights prefix last l ts) (sym h) ∙ f)
    (refused_on way weights prefix last p ps ts e g)
