-- A query's plan, run over a stack of answers, gives what is judged.
use Rattle.std.proofs.Common.{◌≡◌, ℕ, zero, suc, ◌+◌, ◌<◌, Bool, true, false, List, [], ◌∷◌, ◌++◌, length, drop, get_or}
use Rattle.std.proofs.Common.{Some, None, refl, sym, ap, ◌∙◌, arith, append_assoc, add-one, drop-cons}
use Rattle.std.specs.Prelude.{slice_get}
use Rattle.std.proofs.lemmas.List.{append-nil}
use Rattle.std.proofs.lemmas.Option.{get_or_from_slice_get}
use Rattle.ts_base.specs.declared.Tri.{Tri}
use Rattle.ts_base.specs.declared.Tri.TheVariants.{False}
use Rattle.ts_query.specs.declared.query.Node.TheVariants.{Leaf, Not, And, Or, Phrase}
use Rattle.ts_query.specs.declared.query.Operand.{Operand}
use Rattle.ts_query.specs.Queries.{Tree, leaf, negated, joined, or_joint, and_joint, phrase_joint, Query, operands_in}
use Rattle.ts_query.specs.Queries.{operands_of, nodes_in}
use Rattle.ts_match.specs.declared.work.Place.TheVariants.{Outside, Within}
use Rattle.ts_match.specs.declared.work.Step.{Step}
use Rattle.ts_match.specs.Meaning.{width}
use Rattle.ts_match.specs.Judging.{least, greatest, at_most_maybe, given, right_values, judged_in, judged_of, judged}
use Rattle.ts_match.specs.Plan.{count_in, steps, plan_of}
use Rattle.ts_match.specs.Inner.Phrases.{HasNumbers, no_operand}
use Rattle.ts_match.specs.Inner.Stacks.{top_or}
use Rattle.ts_match.specs.Inner.Weighing.{given_at, weighed}
use Rattle.ts_match.proofs.PlanSteps.{numbered}

-- the answers that the steps leave on the stack
abbrev pub weigh_all : List Operand → List Tri → List Step → List Tri → List Tri
weigh_all os values [] st = st
weigh_all os values (s ∷ ss) st = weigh_all os values ss (weighed s.place s.node (given_at os values s.node) st)

drop_none : {X : Type 0} (k : ℕ) → ◌≡◌ {A = List X} (drop k []) []
drop_none zero = refl
drop_none (suc k) = refl

drop_drop : {X : Type 0} (n m : ℕ) (xs : List X) → drop n (drop m xs) ≡ drop (m + n) xs
drop_drop n zero xs = ap (λ k. drop k xs) (let e : n ≡ 0 + n = omega arith in e)
drop_drop n (suc m) [] = drop_none n ∙ sym (drop_none (suc m + n))
drop_drop n (suc m) (x ∷ xs) =
    drop_drop n m xs ∙ ap (λ k. drop k (x ∷ xs)) (let e : suc (m + n) ≡ suc m + n = omega arith in e)

module _ (os : List Operand) (values : List Tri) where
  leaf_given : (k : ℕ) (o : Operand) → slice_get os k ≡ Some o → given_at os values (Leaf k) ≡ given o (drop k values)
  leaf_given k o h = ap (λ x. given x (drop k values)) (get_or_from_slice_get os k o no_operand h)

  right_is : (k : ℕ) (x : Tree) → drop (k + count_in x) values ≡ right_values x (drop k values)
  right_is k x = sym (drop_drop (count_in x) k values)

  weigh_within : (k i e : ℕ) (b : Bool) (t : Tree) (ss : List Step) (st : List Tri) → HasNumbers os k t → weigh_all os
      values (steps k i (Within e b) t ++ ss) st ≡ weigh_all os values ss (judged_in t (drop k values) ∷ st)
  weigh_within k i e b (leaf o) ss st h = ap (λ x. weigh_all os values ss (at_most_maybe x ∷ st)) (leaf_given k o h)
  weigh_within k i e b (negated x) ss st h =
      let q : Step = record { node = Not; place = Within e b } in
      ap (λ l. weigh_all os values l st) (append_assoc (steps k i (Within e false) x) (q ∷ []) ss)
      ∙ weigh_within k i e false x (q ∷ ss) st h
  weigh_within k i e b (joined or_joint x y) ss st h =
      let q : Step = record { node = Or; place = Within e b } in
      let m = k + count_in x in
      let sx = steps k i (Within e false) x in
      let sy = steps m (i + nodes_in x) (Within e false) y in
      ap (λ l. weigh_all os values l st) (append_assoc (sx ++ sy) (q ∷ []) ss ∙ append_assoc sx sy (q ∷ ss))
      ∙ weigh_within k i e false x (sy ++ q ∷ ss) st h.0
      ∙ weigh_within m (i + nodes_in x) e false y (q ∷ ss) (judged_in x (drop k values) ∷ st) h.1
      ∙ ap (λ l. weigh_all os values ss (greatest (judged_in x (drop k values)) (judged_in y l) ∷ st)) (right_is k x)
  weigh_within k i e b (joined and_joint x y) ss st h =
      let q : Step = record { node = And; place = Within e b } in
      let m = k + count_in x in
      let sx = steps k i (Within e b) x in
      let sy = steps m (i + nodes_in x) (Within e b) y in
      ap (λ l. weigh_all os values l st) (append_assoc (sx ++ sy) (q ∷ []) ss ∙ append_assoc sx sy (q ∷ ss))
      ∙ weigh_within k i e b x (sy ++ q ∷ ss) st h.0
      ∙ weigh_within m (i + nodes_in x) e b y (q ∷ ss) (judged_in x (drop k values) ∷ st) h.1
      ∙ ap (λ l. weigh_all os values ss (least (judged_in x (drop k values)) (judged_in y l) ∷ st)) (right_is k x)
  weigh_within k i e b (joined (phrase_joint n) x y) ss st h =
      let q : Step = record { node = Phrase n; place = Within e b } in
      let m = k + count_in x in
      let f = e + (width x + n) in
      let sx = steps k i (Within e b) x in
      let sy = steps m (i + nodes_in x) (Within f b) y in
      ap (λ l. weigh_all os values l st) (append_assoc (sx ++ sy) (q ∷ []) ss ∙ append_assoc sx sy (q ∷ ss))
      ∙ weigh_within k i e b x (sy ++ q ∷ ss) st h.0
      ∙ weigh_within m (i + nodes_in x) f b y (q ∷ ss) (judged_in x (drop k values) ∷ st) h.1
      ∙ ap (λ l. weigh_all os values ss (least (judged_in x (drop k values)) (judged_in y l) ∷ st)) (right_is k x)

  weigh_tree : (k i on_true on_false : ℕ) (t : Tree) (ss : List Step) (st : List Tri)
      → HasNumbers os k t → weigh_all os values (steps k i (Outside on_true on_false) t ++ ss) st
      ≡ weigh_all os values ss (judged_of t (drop k values) ∷ st)
  weigh_tree k i on_true on_false (leaf o) ss st h = ap (λ x. weigh_all os values ss (x ∷ st)) (leaf_given k o h)
  weigh_tree k i on_true on_false (negated x) ss st h =
      let q : Step = record { node = Not; place = Outside on_true on_false } in
      ap (λ l. weigh_all os values l st) (append_assoc (steps k i (Outside on_false on_true) x) (q ∷ []) ss)
      ∙ weigh_tree k i on_false on_true x (q ∷ ss) st h
  weigh_tree k i on_true on_false (joined or_joint x y) ss st h =
      let q : Step = record { node = Or; place = Outside on_true on_false } in
      let m = k + count_in x in
      let sx = steps k i (Outside on_true (i + nodes_in x)) x in
      let sy = steps m (i + nodes_in x) (Outside on_true on_false) y in
      ap (λ l. weigh_all os values l st) (append_assoc (sx ++ sy) (q ∷ []) ss ∙ append_assoc sx sy (q ∷ ss))
      ∙ weigh_tree k i on_true (i + nodes_in x) x (sy ++ q ∷ ss) st h.0
      ∙ weigh_tree m (i + nodes_in x) on_true on_false y (q ∷ ss) (judged_of x (drop k values) ∷ st) h.1
      ∙ ap (λ l. weigh_all os values ss (greatest (judged_of x (drop k values)) (judged_of y l) ∷ st)) (right_is k x)
  weigh_tree k i on_true on_false (joined and_joint x y) ss st h =
      let q : Step = record { node = And; place = Outside on_true on_false } in
      let m = k + count_in x in
      let sx = steps k i (Outside (i + nodes_in x) on_false) x in
      let sy = steps m (i + nodes_in x) (Outside on_true on_false) y in
      ap (λ l. weigh_all os values l st) (append_assoc (sx ++ sy) (q ∷ []) ss ∙ append_assoc sx sy (q ∷ ss))
      ∙ weigh_tree k i (i + nodes_in x) on_false x (sy ++ q ∷ ss) st h.0
      ∙ weigh_tree m (i + nodes_in x) on_true on_false y (q ∷ ss) (judged_of x (drop k values) ∷ st) h.1
      ∙ ap (λ l. weigh_all os values ss (least (judged_of x (drop k values)) (judged_of y l) ∷ st)) (right_is k x)
  weigh_tree k i on_true on_false (joined (phrase_joint n) x y) ss st h =
      let q : Step = record { node = Phrase n; place = Outside on_true on_false } in
      let m = k + count_in x in
      let f = width x + n in
      let sx = steps k i (Within 0 true) x in
      let sy = steps m (i + nodes_in x) (Within f true) y in
      ap (λ l. weigh_all os values l st) (append_assoc (sx ++ sy) (q ∷ []) ss ∙ append_assoc sx sy (q ∷ ss))
      ∙ weigh_within k i 0 true x (sy ++ q ∷ ss) st h.0
      ∙ weigh_within m (i + nodes_in x) f true y (q ∷ ss) (judged_in x (drop k values) ∷ st) h.1
      ∙ ap (λ l. weigh_all os values ss (least (judged_in x (drop k values)) (judged_in y l) ∷ st)) (right_is k x)

pub weigh_query : (q : Query) (values : List Tri)
    → top_or False (weigh_all (operands_of q) values (plan_of q) []) ≡ judged q values
weigh_query None values = refl
weigh_query (Some t) values =
    ap (λ l. top_or False (weigh_all (operands_in t) values l [])) (sym (append-nil (plan_of (Some t))))
    ∙ ap (top_or False) (weigh_tree (operands_in t) values 0 0 (nodes_in t) (nodes_in t + 1) t [] [] (numbered t))

-- one step more
pub weigh_more : (os : List Operand) (values : List Tri) (ss : List Step) (i : ℕ) (d : Step) (st st' all : List Tri)
    → i < length ss → weigh_all os values (drop i ss) st ≡ all
    → st' ≡ weighed (get_or ss i d).place (get_or ss i d).node (given_at os values (get_or ss i d).node) st
    → weigh_all os values (drop (i + 1) ss) st' ≡ all
weigh_more os values ss i d st st' all h r e =
    let s = get_or ss i d in
    ap (weigh_all os values (drop (i + 1) ss)) e
    ∙ ap (λ k. weigh_all os values (drop k ss) (weighed s.place s.node (given_at os values s.node) st)) (add-one i)
    ∙ ap (λ l. weigh_all os values l st) (sym (drop-cons ss i d h)) ∙ r
