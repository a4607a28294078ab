-- A walk over a plan: from each operand outside phrases, and from each phrase, to the step that its truth asks for.
use Rattle.std.proofs.Common.{◌≡◌, ℕ, suc, ◌+◌, ◌-◌, ◌≤◌, ◌<◌, Bool, true, false, List, [], ◌∷◌, ◌++◌, length, take}
use Rattle.std.proofs.Common.{drop, get_or, Some, None, ◌⊎◌, inl, inr, refl, sym, ap, subst, ◌∙◌, arith, append_assoc}
use Rattle.std.proofs.Common.{length-append}
use Rattle.std.specs.Prelude.{IsTrue, All, ◌↔◌, if◌then◌else◌, slice_get}
use Rattle.std.specs.List.{slice_range}
use Rattle.std.proofs.lemmas.Bool.{cases_order}
use Rattle.std.proofs.lemmas.List.{append-nil, get_or_append_left}
use Rattle.std.proofs.lemmas.List.Elements.{All-nil, All-cons, All-append}
use Rattle.std.proofs.lemmas.Option.{get_or_from_slice_get}
use Rattle.ts_base.specs.Vectors.{Vector}
use Rattle.ts_query.specs.declared.query.Node.{Node}
use Rattle.ts_query.specs.declared.query.Node.TheVariants.{Leaf, Not, And, Or, Phrase}
use Rattle.ts_query.specs.declared.query.Operand.{Operand}
use Rattle.ts_query.specs.Queries.{Tree, leaf, negated, joined, or_joint, and_joint, phrase_joint, Query, operands_in}
use Rattle.ts_query.specs.Queries.{operands_of, nodes_in}
use Rattle.ts_match.specs.declared.work.Place.{Place}
use Rattle.ts_match.specs.declared.work.Place.TheVariants.{Outside, Within}
use Rattle.ts_match.specs.declared.work.Step.{Step}
use Rattle.ts_match.specs.Meaning.{width, is_met, is_stripped, HoldsSomewhere, HoldsOf, Holds}
use Rattle.ts_match.specs.Plan.{count_in, steps, plan_of}
use Rattle.ts_match.specs.Inner.Plan.{next_of}
use Rattle.ts_match.specs.Inner.Phrases.{HasNumbers, IsPhraseOf, StandsWithin, StandsOutside, IsUnitNode, operand_at}
use Rattle.ts_match.specs.Inner.Phrases.{no_operand}
use Rattle.ts_match.proofs.Plans.{length-steps, length-plan_of}
use Rattle.ts_match.proofs.PlanSteps.{numbered}

-- all steps of a part of a phrase are within it
within_steps : (k m e : ℕ) (b : Bool) (t : Tree) → All (λ s. StandsWithin s.place) (steps k m (Within e b) t)
within_steps k m e b (leaf o) = All-cons (λ (s : Step). StandsWithin s.place)
    (record { node = Leaf k; place = Within e b }) [] tt (All-nil (λ s. StandsWithin s.place))
within_steps k m e b (negated x) =
    let q : Step = record { node = Not; place = Within e b } in
    All-append (λ (s : Step). StandsWithin s.place) (steps k m (Within e false) x) (q ∷ []) (within_steps k m e false x)
    (All-cons (λ (s : Step). StandsWithin s.place) q [] tt (All-nil (λ s. StandsWithin s.place)))
within_steps k m e b (joined or_joint x y) =
    let q : Step = record { node = Or; place = Within e b } in
    let sx = steps k m (Within e false) x in
    let sy = steps (k + count_in x) (m + nodes_in x) (Within e false) y in
    All-append (λ (s : Step). StandsWithin s.place) (sx ++ sy) (q ∷ [])
    (All-append (λ (s : Step). StandsWithin s.place) sx sy (within_steps k m e false x)
    (within_steps (k + count_in x) (m + nodes_in x) e false y))
    (All-cons (λ (s : Step). StandsWithin s.place) q [] tt (All-nil (λ s. StandsWithin s.place)))
within_steps k m e b (joined and_joint x y) =
    let q : Step = record { node = And; place = Within e b } in
    let sx = steps k m (Within e b) x in
    let sy = steps (k + count_in x) (m + nodes_in x) (Within e b) y in
    All-append (λ (s : Step). StandsWithin s.place) (sx ++ sy) (q ∷ [])
    (All-append (λ (s : Step). StandsWithin s.place) sx sy (within_steps k m e b x)
    (within_steps (k + count_in x) (m + nodes_in x) e b y))
    (All-cons (λ (s : Step). StandsWithin s.place) q [] tt (All-nil (λ s. StandsWithin s.place)))
within_steps k m e b (joined (phrase_joint n) x y) =
    let q : Step = record { node = Phrase n; place = Within e b } in
    let f = e + (width x + n) in
    let sx = steps k m (Within e b) x in
    let sy = steps (k + count_in x) (m + nodes_in x) (Within f b) y in
    All-append (λ (s : Step). StandsWithin s.place) (sx ++ sy) (q ∷ [])
    (All-append (λ (s : Step). StandsWithin s.place) sx sy (within_steps k m e b x)
    (within_steps (k + count_in x) (m + nodes_in x) f b y))
    (All-cons (λ (s : Step). StandsWithin s.place) q [] tt (All-nil (λ s. StandsWithin s.place)))

-- An operand outside phrases, or a phrase: its steps begin at `from`, and the one at `end` has the node.
pub record IsUnit (os : List Operand) (ss : List Step) (from on_true on_false : ℕ) (tree : Tree) : Type 0 where
  pub end : ℕ
  pub node : Node
  pub ordered : from ≤ end
  pub within : end < length ss
  pub inner : (i : ℕ) (d : Step) → from ≤ i → i < end → StandsWithin (get_or ss i d).place
  pub last : (d : Step) → get_or ss end d ≡ record { node = node; place = Outside on_true on_false }
  pub kind : ((k : ℕ) × (o : Operand) × (node ≡ Leaf k) × (tree ≡ leaf o) × (slice_get os k ≡ Some o))
      ⊎ ((n : ℕ) × (node ≡ Phrase n) × IsPhraseOf os (slice_range ss from (end + 1)) tree)

-- From a step to an end: to that of P, or to that of its negation. What is next after a unit goes by its truth.
pub data Way (v : Vector) (os : List Operand) (ss : List Step) (P : Type 0) : ℕ → Type 0 where
  holds : (a : ℕ) → a ≡ length ss → P → Way v os ss P a
  fails : (a : ℕ) → a ≡ length ss + 1 → ¬ P → Way v os ss P a
  unit : (a on_true on_false : ℕ) (u : Tree) → IsUnit os ss a on_true on_false u → a < on_true → a < on_false
      → (HoldsOf u v → Way v os ss P on_true) → (¬ HoldsOf u v → Way v os ss P on_false) → Way v os ss P a

-- the steps of a part of a list
get_mid : (pre mid post : List Step) (i : ℕ) (d : Step) → i < length mid
    → get_or (pre ++ (mid ++ post)) (length pre + i) d ≡ get_or mid i d
get_mid [] mid post i d h =
    ap (λ k. get_or (mid ++ post) k d) (let e : 0 + i ≡ i = omega arith in e) ∙ get_or_append_left mid post d i h
get_mid (x ∷ pre) mid post i d h = ap (λ k. get_or (x ∷ (pre ++ (mid ++ post))) k d)
    (let e : suc (length pre) + i ≡ suc (length pre + i) = omega arith in e) ∙ get_mid pre mid post i d h

take_all : (mid post : List Step) → take (length mid) (mid ++ post) ≡ mid
take_all [] post = refl
take_all (x ∷ mid) post = ap (λ l. x ∷ l) (take_all mid post)

drop_all : (pre rest : List Step) → drop (length pre) (pre ++ rest) ≡ rest
drop_all [] rest = refl
drop_all (x ∷ pre) rest = drop_all pre rest

slice_mid : (pre mid post : List Step) (a b : ℕ) → a ≡ length pre → b ≡ length pre + length mid
    → slice_range (pre ++ (mid ++ post)) a b ≡ mid
slice_mid pre mid post a b e f =
    let n : b - a ≡ length mid = omega arith in
    ap (λ k. take k (drop a (pre ++ (mid ++ post)))) n ∙ ap (λ k. take (length mid) (drop k (pre ++ (mid ++ post)))) e
    ∙ ap (take (length mid)) (drop_all pre (mid ++ post)) ∙ take_all mid post

-- where steps are in a plan
pub record Stands (ss part : List Step) (m : ℕ) : Type 0 where
  pub before : List Step
  pub behind : List Step
  pub is : ss ≡ before ++ (part ++ behind)
  pub count : length before ≡ m

stands_left : (ss xs ys : List Step) (q : Step) (m : ℕ) → Stands ss (xs ++ ys ++ q ∷ []) m → Stands ss xs m
stands_left ss xs ys q m s = record {
  before = s.before;
  behind = ys ++ (q ∷ s.behind);
  is = s.is ∙ ap (λ l. s.before ++ l) (append_assoc (xs ++ ys) (q ∷ []) s.behind ∙ append_assoc xs ys (q ∷ s.behind));
  count = s.count;
}

stands_right : (ss xs ys : List Step) (q : Step) (m n : ℕ) → length xs ≡ n → Stands ss (xs ++ ys ++ q ∷ []) m
    → Stands ss ys (m + n)
stands_right ss xs ys q m n e s = record {
  before = s.before ++ xs;
  behind = q ∷ s.behind;
  is = s.is ∙ ap (λ l. s.before ++ l) (append_assoc (xs ++ ys) (q ∷ []) s.behind ∙ append_assoc xs ys (q ∷ s.behind))
      ∙ sym (append_assoc s.before xs (ys ++ (q ∷ s.behind)));
  count = simp length-append (let c = s.count in omega arith);
}

stands_front : (ss xs : List Step) (q : Step) (m : ℕ) → Stands ss (xs ++ q ∷ []) m → Stands ss xs m
stands_front ss xs q m s = record {
  before = s.before;
  behind = q ∷ s.behind;
  is = s.is ∙ ap (λ l. s.before ++ l) (append_assoc xs (q ∷ []) s.behind);
  count = s.count;
}

stands_at : (ss part : List Step) (m i : ℕ) (d : Step) → Stands ss part m → i < length part
    → get_or ss (m + i) d ≡ get_or part i d
stands_at ss part m i d s h =
    ap (λ l. get_or l (m + i) d) s.is ∙ ap (λ k. get_or (s.before ++ (part ++ s.behind)) (k + i) d) (sym s.count)
    ∙ get_mid s.before part s.behind i d h

stands_length : (ss part : List Step) (m : ℕ) → Stands ss part m → m + length part ≤ length ss
stands_length ss part m s =
    let a = ap length s.is in
    let b = length-append s.before (part ++ s.behind) in
    let e = length-append part s.behind in
    let c = s.count in
    omega arith

last_of : (xs : List Step) (q d : Step) → get_or (xs ++ q ∷ []) (length xs) d ≡ q
last_of [] q d = refl
last_of (x ∷ xs) q d = last_of xs q d

-- one step
leaf_unit : (os : List Operand) (ss : List Step) (k m on_true on_false : ℕ) (o : Operand) → Stands ss (steps k m
    (Outside on_true on_false) (leaf o)) m → HasNumbers os k (leaf o) → IsUnit os ss m on_true on_false (leaf o)
leaf_unit os ss k m on_true on_false o s h = record {
  end = m;
  node = Leaf k;
  ordered = omega arith;
  within = (let l = stands_length ss (steps k m (Outside on_true on_false) (leaf o)) m s in omega arith);
  inner = λ i d l r. absurd (omega arith);
  last = λ d. ap (λ i. get_or ss i d) (let e : m ≡ m + 0 = omega arith in e)
      ∙ stands_at ss (steps k m (Outside on_true on_false) (leaf o)) m 0 d s (omega arith);
  kind = inl (k, o, refl, refl, h);
}

phrase_unit : (os : List Operand) (ss : List Step) (k m on_true on_false n : ℕ) (x y : Tree) → Stands ss (steps k m
    (Outside on_true on_false) (joined (phrase_joint n) x y)) m → HasNumbers os k (joined (phrase_joint n) x y)
    → IsUnit os ss m on_true on_false (joined (phrase_joint n) x y)
phrase_unit os ss k m on_true on_false n x y s h =
    let f = width x + n in
    let sx = steps k m (Within 0 true) x in
    let sy = steps (k + count_in x) (m + nodes_in x) (Within f true) y in
    let q : Step = record { node = Phrase n; place = Outside on_true on_false } in
    let lx = length-steps k m (Within 0 true) x in
    let ly = length-steps (k + count_in x) (m + nodes_in x) (Within f true) y in
    let la : length (sx ++ sy) ≡ nodes_in x + nodes_in y =
    length-append sx sy ∙ ap (λ i. i + length sy) lx ∙ ap (λ i. nodes_in x + i) ly in
    let ls : length (sx ++ sy ++ q ∷ []) ≡ nodes_in x + nodes_in y + 1 =
    length-append (sx ++ sy) (q ∷ []) ∙ ap (λ i. i + 1) la in
    let all = All-append (λ (s : Step). StandsWithin s.place) sx sy (within_steps k m 0 true x)
    (within_steps (k + count_in x) (m + nodes_in x) f true y) in
    let end = m + (nodes_in x + nodes_in y) in record {
      end = end;
      node = Phrase n;
      ordered = omega arith;
      within = (let l = stands_length ss (sx ++ sy ++ q ∷ []) m s in omega arith);
      inner = λ i d l r.
          let a : m + (i - m) ≡ i = omega arith in
          let b : i - m < length (sx ++ sy) = omega arith in
          let e = ap (λ j. get_or ss j d) (sym a)
          ∙ stands_at ss (sx ++ sy) m (i - m) d (stands_front ss (sx ++ sy) q m s) b in
          subst (λ (w : Step). StandsWithin w.place) (sym e) (all (i - m) d b);
      last = λ d.
          ap (λ i. get_or ss (m + i) d) (sym la)
          ∙ stands_at ss (sx ++ sy ++ q ∷ []) m (length (sx ++ sy)) d s (omega arith) ∙ last_of (sx ++ sy) q d;
      kind = inr (
        n,
        refl,
        record {
          first = k;
          start = m;
          on_true = on_true;
          on_false = on_false;
          distance = n;
          left = x;
          right = y;
          phrase = refl;
          laid = ap (λ l. slice_range l m (end + 1)) s.is ∙ slice_mid s.before (sx ++ sy ++ q ∷ []) s.behind m (end + 1)
              (sym s.count) (let c = s.count in omega arith);
          numbered = h;
        },
      );
    }

module _ (v : Vector) (os : List Operand) (ss : List Step) (P : Type 0) where
  way : (k m on_true on_false : ℕ) (t : Tree) → Stands ss (steps k m (Outside on_true on_false) t) m → HasNumbers os k t
      → m + nodes_in t ≤ on_true → m + nodes_in t ≤ on_false
      → (HoldsOf t v → Way v os ss P on_true) → (¬ HoldsOf t v → Way v os ss P on_false) → Way v os ss P m
  way k m on_true on_false (leaf o) s h ly ln y n =
      unit m on_true on_false (leaf o) (leaf_unit os ss k m on_true on_false o s h) (omega arith) (omega arith) y n
  way k m on_true on_false (negated x) s h ly ln y n =
      way k m on_false on_true x (stands_front ss (steps k m (Outside on_false on_true) x) (record {
        node = Not;
        place = Outside on_true on_false;
      }) m s) h (omega arith) (omega arith) (λ a. n (λ f. f a)) y
  way k m on_true on_false (joined or_joint a b) s h ly ln y n =
      let q : Step = record { node = Or; place = Outside on_true on_false } in
      let c = m + nodes_in a in
      let sa = steps k m (Outside on_true (m + nodes_in a)) a in
      let sb = steps (k + count_in a) (m + nodes_in a) (Outside on_true on_false) b in
      way k m on_true c a (stands_left ss sa sb q m s) h.0 (omega arith) (omega arith) (λ p. y (inl p))
      (λ na. way (k + count_in a) c on_true on_false b (stands_right ss sa sb q m (nodes_in a)
      (length-steps k m (Outside on_true (m + nodes_in a)) a) s) h.1 (omega arith) (omega arith)
      (λ p. y (inr p)) (λ nb. n (λ f. elim f [ inl p ↦ na p | inr p ↦ nb p ])))
  way k m on_true on_false (joined and_joint a b) s h ly ln y n =
      let q : Step = record { node = And; place = Outside on_true on_false } in
      let c = m + nodes_in a in
      let sa = steps k m (Outside (m + nodes_in a) on_false) a in
      let sb = steps (k + count_in a) (m + nodes_in a) (Outside on_true on_false) b in
      way k m c on_false a (stands_left ss sa sb q m s) h.0 (omega arith) (omega arith)
      (λ p. way (k + count_in a) c on_true on_false b (stands_right ss sa sb q m (nodes_in a)
      (length-steps k m (Outside (m + nodes_in a) on_false) a) s) h.1 (omega arith) (omega arith)
      (λ r. y (p, r)) (λ nb. n (λ f. nb f.1)))
      (λ na. n (λ f. na f.0))
  way k m on_true on_false (joined (phrase_joint n) a b) s h ly ln y f =
      unit m on_true on_false (joined (phrase_joint n) a b) (phrase_unit os ss k m on_true on_false n a b s h)
      (omega arith) (omega arith) y f

-- a query that has steps has a way through them
pub way_of : (v : Vector) (q : Query) → 0 < length (plan_of q) → Way v (operands_of q) (plan_of q) (Holds q v) 0
way_of v None l = absurd (omega arith)
way_of v (Some t) l =
    let n = nodes_in t in
    let e = length-plan_of (Some t) in
    let s : Stands (plan_of (Some t)) (plan_of (Some t)) 0 =
    record { before = []; behind = []; is = sym (append-nil (plan_of (Some t))); count = refl } in
    way v (operands_in t) (plan_of (Some t)) (HoldsOf t v) 0 0 n (n + 1) t s (numbered t) (omega arith) (omega arith)
    (λ h. holds n (sym e) h) (λ h. fails (n + 1) (ap (λ i. i + 1) (sym e)) h)

-- the unit that begins at a step
pub record Next (v : Vector) (os : List Operand) (ss : List Step) (P : Type 0) (a : ℕ) : Type 0 where
  pub on_true : ℕ
  pub on_false : ℕ
  pub tree : Tree
  pub is : IsUnit os ss a on_true on_false tree
  pub below_yes : a < on_true
  pub below_no : a < on_false
  pub where_true : HoldsOf tree v → Way v os ss P on_true
  pub where_false : ¬ HoldsOf tree v → Way v os ss P on_false

module _ (v : Vector) (os : List Operand) (ss : List Step) (P : Type 0) where
  pub next_unit : (a : ℕ) → Way v os ss P a → a < length ss → Next v os ss P a
  next_unit _ (holds a e p) l = absurd (omega arith)
  next_unit _ (fails a e p) l = absurd (omega arith)
  next_unit _ (unit a on_true on_false u i ly ln y n) l = record {
    on_true = on_true;
    on_false = on_false;
    tree = u;
    is = i;
    below_yes = ly;
    below_no = ln;
    where_true = y;
    where_false = n;
  }

  pub at_end : (a : ℕ) → Way v os ss P a → length ss ≤ a → (a ≡ length ss) ↔ P
  at_end _ (holds a e p) l = (λ h. p, λ h. e)
  at_end _ (fails a e p) l = (λ h. absurd (omega arith), λ h. absurd (p h))
  at_end _ (unit a on_true on_false u i ly ln y n) l = absurd (let w = i.within in let o = i.ordered in omega arith)

  within_outside : (p : Place) → StandsWithin p → StandsOutside p → ⊥
  within_outside (Outside on_true on_false) w o = w
  within_outside (Within e b) w o = o

  -- the first step outside phrases is the unit's last
  pub same_end : (a on_true on_false : ℕ) (u : Tree) (i : IsUnit os ss a on_true on_false u) (e : ℕ) → a ≤ e
      → e ≤ length ss → ((k : ℕ) (d : Step) → a ≤ k → k < e → StandsWithin (get_or ss k d).place)
      → ((d : Step) → e < length ss → StandsOutside (get_or ss e d).place) → e ≡ i.end
  same_end a on_true on_false u i e l m inner last =
      let d : Step = record { node = i.node; place = Outside on_true on_false } in
      elim (cases_order e i.end) [
        | inl q ↦ q
        | inr (inl q) ↦ absurd
            (within_outside (get_or ss e d).place (i.inner e d l q) (last d (let w = i.within in omega arith)))
        | inr (inr q) ↦ absurd (subst (λ (s : Step). StandsWithin s.place) (i.last d) (inner i.end d i.ordered q))
      ]

  -- what is found out of a unit is its truth
  pub unit_truth : (a on_true on_false : ℕ) (u : Tree) (i : IsUnit os ss a on_true on_false u) (r : Bool)
      → ((k : ℕ) → i.node ≡ Leaf k → r ≡ is_met (operand_at os k) v)
      → ((n : ℕ) (t : Tree) → i.node ≡ Phrase n → IsPhraseOf os (slice_range ss a (i.end + 1)) t → IsTrue r
      ↔ ((is_stripped v ≡ false) × HoldsSomewhere v t)) → IsTrue r ↔ HoldsOf u v
  unit_truth a on_true on_false u i r f g = elim i.kind [
    | inl w ↦
        let e = f w.0 w.2 ∙ ap (λ o. is_met o v) (get_or_from_slice_get os w.0 w.1 no_operand w.4) in
        subst (λ x. IsTrue r ↔ HoldsOf x v) (sym w.3) (λ h. sym e ∙ h, λ h. e ∙ h)
    | inr w ↦
        let p = w.2 in
        let t = g w.0 (joined (phrase_joint p.distance) p.left p.right) w.1
        (subst (λ x. IsPhraseOf os (slice_range ss a (i.end + 1)) x) p.phrase p) in
        subst (λ x. IsTrue r ↔ HoldsOf x v) (sym p.phrase) t
  ]

-- the next step by a truth
pub next_is : (p : Place) (on_true on_false : ℕ) (r : Bool) → p ≡ Outside on_true on_false
    → next_of p r ≡ (if r then on_true else on_false)
next_is p on_true on_false r e = ap (λ x. next_of x r) e

-- the unit that begins at a, where e is the first step outside phrases from there on
module _ (v : Vector) (os : List Operand) (ss : List Step) (P : Type 0) (a e : ℕ) (w : Way v os ss P a)
    (l : a < length ss) (le : a ≤ e) (lw : e ≤ length ss)
    (inner : (k : ℕ) (d : Step) → a ≤ k → k < e → StandsWithin (get_or ss k d).place)
    (last : (d : Step) → e < length ss → StandsOutside (get_or ss e d).place) where
  unit_here : Next v os ss P a
  unit_here = next_unit v os ss P a w l

  end_is : e ≡ unit_here.is.end
  end_is = same_end v os ss P a unit_here.on_true unit_here.on_false unit_here.tree unit_here.is e le lw inner last

  pub unit_within : e < length ss
  unit_within = let i = unit_here.is.within in let q = end_is in omega arith

  unit_step : (d : Step)
      → get_or ss e d ≡ record { node = unit_here.is.node; place = Outside unit_here.on_true unit_here.on_false }
  unit_step d = ap (λ i. get_or ss i d) end_is ∙ unit_here.is.last d

  kind_of : (n : Node) → ((k : ℕ) × (n ≡ Leaf k)) ⊎ ((m : ℕ) × (n ≡ Phrase m)) → IsUnitNode n
  kind_of n (inl x) = subst (λ (y : Node). IsUnitNode y) (sym x.1) tt
  kind_of n (inr x) = subst (λ (y : Node). IsUnitNode y) (sym x.1) tt

  pub unit_kind : (d : Step) → IsUnitNode (get_or ss e d).node
  unit_kind d = subst (λ (s : Step). IsUnitNode s.node) (sym (unit_step d))
      (kind_of unit_here.is.node (elim unit_here.is.kind [ inl x ↦ inl (x.0, x.2) | inr x ↦ inr (x.0, x.1) ]))

  by_truth : (r : Bool) → IsTrue r ↔ HoldsOf unit_here.tree v → Way v os ss P (if r then unit_here.on_true
      else unit_here.on_false) × (a < (if r then unit_here.on_true else unit_here.on_false))
  by_truth true u = (unit_here.where_true (u.0 refl), unit_here.below_yes)
  by_truth false u = (unit_here.where_false (λ h. (let x = u.1 h in let z : ⊥ = cc in z)), unit_here.below_no)

  pub unit_next : (d : Step) (r : Bool) → ((k : ℕ) → (get_or ss e d).node ≡ Leaf k → r ≡ is_met (operand_at os k) v)
      → ((m : ℕ) (t : Tree) → (get_or ss e d).node ≡ Phrase m → IsPhraseOf os (slice_range ss a (e + 1)) t → IsTrue r
      ↔ ((is_stripped v ≡ false) × HoldsSomewhere v t))
      → Way v os ss P (next_of (get_or ss e d).place r) × (a < next_of (get_or ss e d).place r)
  unit_next d r f g =
      let n = ap (λ (s : Step). s.node) (unit_step d) in
      let p = ap (λ (s : Step). s.place) (unit_step d) in
      let q = ap (λ i. slice_range ss a (i + 1)) end_is in
      let u =
      unit_truth v os ss P a unit_here.on_true unit_here.on_false unit_here.tree unit_here.is r (λ k h. f k (n ∙ h))
      (λ m t h i. g m t (n ∙ h) (subst (λ (x : List Step). IsPhraseOf os x t) (sym q) i)) in
      subst (λ i. Way v os ss P i × (a < i))
      (sym (next_is (get_or ss e d).place unit_here.on_true unit_here.on_false r p)) (by_truth r u)

  pub unit_phrase : (d : Step) (m : ℕ) → (get_or ss e d).node ≡ Phrase m
      → (t : Tree) × IsPhraseOf os (slice_range ss a (e + 1)) t
  unit_phrase d m h = elim unit_here.is.kind [
    | inl w ↦ absurd (let x : Leaf w.0 ≡ Phrase m = sym w.2 ∙ sym (ap (λ (s : Step). s.node) (unit_step d)) ∙ h in
        let z : ⊥ = cc in z)
    | inr w ↦ (unit_here.tree, subst (λ i. IsPhraseOf os (slice_range ss a (i + 1)) unit_here.tree) (sym end_is) w.2)
  ]
