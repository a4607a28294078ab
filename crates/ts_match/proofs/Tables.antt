-- A phrase's steps, run over a stack, give whether it holds at a place.
use Rattle.std.proofs.Common.{◌≡◌, ℕ, ◌+◌, ◌-◌, ◌≤◌, ◌<◌, Bool, true, false, ◌&&◌, ◌||◌, eqb, List, [], ◌∷◌, ◌++◌}
use Rattle.std.proofs.Common.{length, drop, get_or, Some, inl, inr, refl, sym, ap, subst, ◌∙◌, arith, append_assoc}
use Rattle.std.proofs.Common.{zero-add, add-one, drop-cons}
use Rattle.std.specs.Prelude.{pos, negsuc, ◌+ℤ◌, ◌-ℤ◌, slice_get}
use Rattle.std.specs.List.{list_any}
use Rattle.std.proofs.lemmas.Int.{ints}
use Rattle.std.proofs.lemmas.Bool.{cases_lt, eq-eqb, ne_eqb, eqb-true, cases_Bool}
use Rattle.std.proofs.lemmas.Option.{get_or_from_slice_get}
use Rattle.ts_base.specs.Vectors.{Vector}
use Rattle.ts_query.specs.declared.query.Node.TheVariants.{Leaf, Not, And, Or, Phrase}
use Rattle.ts_query.specs.declared.query.Operand.{Operand}
use Rattle.ts_query.specs.Queries.{Tree, leaf, negated, joined, or_joint, and_joint, phrase_joint, nodes_in}
use Rattle.ts_match.specs.declared.ranges.TheConstants.{FARTHEST}
use Rattle.ts_match.specs.declared.work.Place.TheVariants.{Outside, Within}
use Rattle.ts_match.specs.declared.work.Step.{Step}
use Rattle.ts_match.specs.Meaning.{width, at, places, is_place}
use Rattle.ts_match.specs.Inner.Ranges.{stands_at}
use Rattle.ts_match.specs.Plan.{count_in, steps}
use Rattle.ts_match.specs.Inner.Phrases.{HasNumbers, IsPhraseOf, place_from, no_operand, leaf_value, truth_step}
use Rattle.ts_match.proofs.Places.{there, truth, at_start, agree}

-- the truths that the steps leave on the stack
abbrev pub run : (Step → Bool) → List Step → List Bool → List Bool
run g [] st = st
run g (s ∷ ss) st = run g ss (truth_step s.node (g s) st)

module _ (v : Vector) (os : List Operand) (from : ℕ) where
  abbrev pub here : Operand → ℕ → Bool
  here o e = stands_at o v (from + e)

  leaf_is : (k e : ℕ) (b : Bool) (o : Operand) → slice_get os k ≡ Some o
      → leaf_value v os from (record { node = Leaf k; place = Within e b }) ≡ here o e
  leaf_is k e b o h = ap (λ x. stands_at x v (from + e)) (get_or_from_slice_get os k o no_operand h)

  run_within : (k i e : ℕ) (b : Bool) (t : Tree) (ss : List Step) (st : List Bool) → HasNumbers os k t → run (leaf_value
      v os from) (steps k i (Within e b) t ++ ss) st ≡ run (leaf_value v os from) ss (truth here t e ∷ st)
  run_within k i e b (leaf o) ss st h = ap (λ x. run (leaf_value v os from) ss (x ∷ st)) (leaf_is k e b o h)
  run_within k i e b (negated x) ss st h =
      ap (λ l. run (leaf_value v os from) l st)
      (append_assoc (steps k i (Within e false) x) (record { node = Not; place = Within e b } ∷ []) ss)
      ∙ run_within k i e false x (record { node = Not; place = Within e b } ∷ ss) st h
  run_within k i e b (joined or_joint x y) ss st h =
      let q : Step = record { node = Or; place = Within e b } in
      let m = k + count_in x in
      ap (λ l. run (leaf_value v os from) l st)
      (append_assoc (steps k i (Within e false) x ++ steps m (i + nodes_in x) (Within e false) y) (q ∷ []) ss
      ∙ append_assoc (steps k i (Within e false) x) (steps m (i + nodes_in x) (Within e false) y) (q ∷ ss))
      ∙ run_within k i e false x (steps m (i + nodes_in x) (Within e false) y ++ q ∷ ss) st h.0
      ∙ run_within m (i + nodes_in x) e false y (q ∷ ss) (truth here x e ∷ st) h.1
  run_within k i e b (joined and_joint x y) ss st h =
      let q : Step = record { node = And; place = Within e b } in
      let m = k + count_in x in
      ap (λ l. run (leaf_value v os from) l st)
      (append_assoc (steps k i (Within e b) x ++ steps m (i + nodes_in x) (Within e b) y) (q ∷ []) ss
      ∙ append_assoc (steps k i (Within e b) x) (steps m (i + nodes_in x) (Within e b) y) (q ∷ ss))
      ∙ run_within k i e b x (steps m (i + nodes_in x) (Within e b) y ++ q ∷ ss) st h.0
      ∙ run_within m (i + nodes_in x) e b y (q ∷ ss) (truth here x e ∷ st) h.1
  run_within k i e b (joined (phrase_joint n) x y) ss st h =
      let q : Step = record { node = Phrase n; place = Within e b } in
      let m = k + count_in x in
      let r = e + (width x + n) in
      ap (λ l. run (leaf_value v os from) l st)
      (append_assoc (steps k i (Within e b) x ++ steps m (i + nodes_in x) (Within r b) y) (q ∷ []) ss
      ∙ append_assoc (steps k i (Within e b) x) (steps m (i + nodes_in x) (Within r b) y) (q ∷ ss))
      ∙ run_within k i e b x (steps m (i + nodes_in x) (Within r b) y ++ q ∷ ss) st h.0
      ∙ run_within m (i + nodes_in x) r b y (q ∷ ss) (truth here x e ∷ st) h.1

  run_phrase : (k i on_true on_false n : ℕ) (x y : Tree) → HasNumbers os k (joined (phrase_joint n) x y)
      → run (leaf_value v os from) (steps k i (Outside on_true on_false) (joined (phrase_joint n) x y)) []
      ≡ truth here (joined (phrase_joint n) x y) 0 ∷ []
  run_phrase k i on_true on_false n x y h =
      let q : Step = record { node = Phrase n; place = Outside on_true on_false } in
      let m = k + count_in x in
      let r = width x + n in
      ap (λ l. run (leaf_value v os from) l [])
      (append_assoc (steps k i (Within 0 true) x) (steps m (i + nodes_in x) (Within r true) y) (q ∷ []))
      ∙ run_within k i 0 true x (steps m (i + nodes_in x) (Within r true) y ++ q ∷ []) [] h.0
      ∙ run_within m (i + nodes_in x) r true y (q ∷ []) (truth here x 0 ∷ []) h.1
      ∙ ap (λ i. (truth here x 0 && truth here y i) ∷ []) (sym (zero-add r))

-- counted as natural numbers
eqb_from : (a b c d : ℕ) → (a ≡ b → c ≡ d) → (c ≡ d → a ≡ b) → eqb a b ≡ eqb c d
eqb_from a b c d f g = elim (cases_Bool (eqb a b)) [
  | inl t ↦ t ∙ sym (eq-eqb c d (f (eqb-true a b t)))
  | inr n ↦ n ∙ sym (ne_eqb c d (λ e. let t = eq-eqb a b (g e) in let x : ⊥ = cc in x))
]

near_place : (ps : List ℕ) (sum : ℕ) → FARTHEST ≤ sum
    → is_place ps (pos (sum - FARTHEST)) ≡ list_any (λ p. eqb (p + FARTHEST) sum) ps
near_place [] sum h = refl
near_place (p ∷ ps) sum h = rw (eqb_from p (sum - FARTHEST) (p + FARTHEST) sum (λ e. omega arith) (λ e. omega arith))
    (ap (λ b. eqb (p + FARTHEST) sum || b) (near_place ps sum h))

far_place : (ps : List ℕ) (sum : ℕ) → sum < FARTHEST → false ≡ list_any (λ p. eqb (p + FARTHEST) sum) ps
far_place [] sum h = refl
far_place (p ∷ ps) sum h = rw (ne_eqb (p + FARTHEST) sum (λ e. omega arith)) (far_place ps sum h)

pub counted : (v : Vector) (from : ℕ) (o : Operand) (e : ℕ)
    → there v (pos from -ℤ pos FARTHEST) o e ≡ stands_at o v (from + e)
counted v from o e = elim (cases_lt (from + e) FARTHEST) [
  | inl h ↦
      let i : (pos from -ℤ pos FARTHEST) +ℤ pos e ≡ negsuc (FARTHEST - (from + e) - 1) = omega (arith, ints) in
      ap (is_place (places o v)) i ∙ far_place (places o v) (from + e) h
  | inr h ↦
      let i : (pos from -ℤ pos FARTHEST) +ℤ pos e ≡ pos (from + e - FARTHEST) = omega (arith, ints) in
      ap (is_place (places o v)) i ∙ near_place (places o v) (from + e) h
]

back_again : (from w : ℕ) → ((pos from -ℤ pos FARTHEST) +ℤ pos w) -ℤ pos w ≡ pos from -ℤ pos FARTHEST
back_again from w = omega (arith, ints)

pub table_at : (v : Vector) (from : ℕ) (t : Tree)
    → at v t (place_from t from) ≡ truth (λ o e. stands_at o v (from + e)) t 0
table_at v from t =
    at_start v t (place_from t from)
    ∙ ap (λ i. truth (there v i) t 0) (back_again from (width t))
    ∙ agree (there v (pos from -ℤ pos FARTHEST)) (λ o e. stands_at o v (from + e)) t 0 (λ k c. counted v from k.0 k.1)

pub phrase_at : (v : Vector) (os : List Operand) (from : ℕ) (ss : List Step) (t : Tree) → IsPhraseOf os ss t
    → run (leaf_value v os from) ss [] ≡ at v t (place_from t from) ∷ []
phrase_at v os from ss t p =
    let u : Tree = joined (phrase_joint p.distance) p.left p.right in
    let laid : ss ≡ steps p.first p.start (Outside p.on_true p.on_false) u =
    p.laid ∙ ap (steps p.first p.start (Outside p.on_true p.on_false)) p.phrase in
    let numbered : HasNumbers os p.first u = subst (λ x. HasNumbers os p.first x) p.phrase p.numbered in
    ap (λ l. run (leaf_value v os from) l []) laid
    ∙ run_phrase v os from p.first p.start p.on_true p.on_false p.distance p.left p.right numbered
    ∙ ap (λ b. b ∷ []) (sym (table_at v from u)) ∙ ap (λ x. at v x (place_from x from) ∷ []) (sym p.phrase)

-- one step more
pub run_more : (g : Step → Bool) (ss : List Step) (i : ℕ) (d : Step) (st st' all : List Bool) → i < length ss
    → run g (drop i ss) st ≡ all → st' ≡ truth_step (get_or ss i d).node (g (get_or ss i d)) st
    → run g (drop (i + 1) ss) st' ≡ all
run_more g ss i d st st' all h r e = ap (run g (drop (i + 1) ss)) e
    ∙ ap (λ k. run g (drop k ss) (truth_step (get_or ss i d).node (g (get_or ss i d)) st)) (add-one i)
    ∙ ap (λ l. run g l st) (sym (drop-cons ss i d h)) ∙ r
