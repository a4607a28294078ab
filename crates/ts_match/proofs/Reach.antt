-- How far a phrase reaches is its width.
use Rattle.std.proofs.Common.{◌≡◌, ℕ, ◌+◌, ◌≤◌, Bool, true, false, List, [], ◌∷◌, ◌++◌, ◌⊎◌, inl, inr, refl, sym, ap}
use Rattle.std.proofs.Common.{subst, ◌∙◌, arith}
use Rattle.std.specs.Prelude.{All, Contains, max}
use Rattle.std.proofs.lemmas.Bool.{cases_lt}
use Rattle.std.proofs.lemmas.List.Elements.{All-nil, All-cons, All-append, All-weaker, All-contains}
use Rattle.std.proofs.lemmas.List.Elements.{Contains-append_left, Contains-append_right}
use Rattle.ts_query.specs.declared.query.Node.{Node}
use Rattle.ts_query.specs.declared.query.Node.TheVariants.{Leaf, Not, And, Or, Phrase}
use Rattle.ts_query.specs.declared.query.Operand.{Operand}
use Rattle.ts_query.specs.Queries.{Tree, leaf, negated, joined, or_joint, and_joint, phrase_joint, nodes_in}
use Rattle.ts_match.specs.declared.work.Place.{Place}
use Rattle.ts_match.specs.declared.work.Place.TheVariants.{Outside, Within}
use Rattle.ts_match.specs.declared.work.Step.{Step}
use Rattle.ts_match.specs.Meaning.{width}
use Rattle.ts_match.specs.Plan.{count_in, steps}
use Rattle.ts_match.specs.Inner.Plan.{offset_of}
use Rattle.ts_match.specs.Inner.Phrases.{IsPhraseOf}
use Rattle.ts_match.specs.Laws.Elements.{Contains-here}

abbrev pub UpTo : ℕ → Step → Type 0
UpTo w s = offset_of s.place ≤ w

one_up : (w : ℕ) (m : Node) (p : Place) → offset_of p ≤ w → All (UpTo w) (record { node = m; place = p } ∷ [])
one_up w m p h = All-cons (UpTo w) (record { node = m; place = p }) [] h (All-nil (UpTo w))

more_up : (v w : ℕ) (ss : List Step) → v ≤ w → All (UpTo v) ss → All (UpTo w) ss
more_up v w ss h a = All-weaker (UpTo v) (UpTo w) (λ s q. (let r : offset_of s.place ≤ v = q in omega arith)) ss a

both_up : (w : ℕ) (xs ys : List Step) (m : Node) (p : Place) → All (UpTo w) xs → All (UpTo w) ys → offset_of p ≤ w
    → All (UpTo w) (xs ++ ys ++ record { node = m; place = p } ∷ [])
both_up w xs ys m p a b h = All-append (UpTo w) (xs ++ ys) (record { node = m; place = p } ∷ [])
    (All-append (UpTo w) xs ys a b) (one_up w m p h)

within_up : (k i e : ℕ) (b : Bool) (t : Tree) → All (UpTo (e + width t)) (steps k i (Within e b) t)
within_up k i e b (leaf o) = one_up (e + 0) (Leaf k) (Within e b) (omega arith)
within_up k i e b (negated x) = All-append (UpTo (e + width x)) (steps k i (Within e false) x) (record {
  node = Not;
  place = Within e b;
} ∷ []) (within_up k i e false x) (one_up (e + width x) Not (Within e b) (omega arith))
within_up k i e b (joined or_joint x y) =
    let w = e + max (width x) (width y) in
    both_up w (steps k i (Within e false) x) (steps (k + count_in x) (i + nodes_in x) (Within e false) y) Or
    (Within e b)
    (more_up (e + width x) w _ (omega arith) (within_up k i e false x))
    (more_up (e + width y) w _ (omega arith) (within_up (k + count_in x) (i + nodes_in x) e false y)) (omega arith)
within_up k i e b (joined and_joint x y) =
    let w = e + max (width x) (width y) in
    both_up w (steps k i (Within e b) x) (steps (k + count_in x) (i + nodes_in x) (Within e b) y) And (Within e b)
    (more_up (e + width x) w _ (omega arith) (within_up k i e b x))
    (more_up (e + width y) w _ (omega arith) (within_up (k + count_in x) (i + nodes_in x) e b y)) (omega arith)
within_up k i e b (joined (phrase_joint n) x y) =
    let w = e + (width x + width y + n) in
    let f = e + (width x + n) in
    both_up w (steps k i (Within e b) x) (steps (k + count_in x) (i + nodes_in x) (Within f b) y) (Phrase n)
    (Within e b)
    (more_up (e + width x) w _ (omega arith) (within_up k i e b x))
    (more_up (f + width y) w _ (omega arith) (within_up (k + count_in x) (i + nodes_in x) f b y)) (omega arith)

-- a step that is as far back as the whole is wide
record Farthest (ss : List Step) (w : ℕ) : Type 0 where
  step : Step
  there : Contains ss step
  is : offset_of step.place ≡ w

far_left : (xs ys : List Step) (v w : ℕ) → v ≡ w → Farthest xs v → Farthest (xs ++ ys) w
far_left xs ys v w e f = record { step = f.step; there = Contains-append_left xs ys f.step f.there; is = f.is ∙ e }

far_right : (xs ys : List Step) (v w : ℕ) → v ≡ w → Farthest ys v → Farthest (xs ++ ys) w
far_right xs ys v w e f = record { step = f.step; there = Contains-append_right xs ys f.step f.there; is = f.is ∙ e }

far_within : (k i e : ℕ) (b : Bool) (t : Tree) → Farthest (steps k i (Within e b) t) (e + width t)
far_within k i e b (leaf o) = record {
  step = record { node = Leaf k; place = Within e b };
  there = Contains-here (record { node = Leaf k; place = Within e b }) [];
  is = (let z : e ≡ e + 0 = omega arith in z);
}
far_within k i e b (negated x) = far_left (steps k i (Within e false) x)
    (record { node = Not; place = Within e b } ∷ []) (e + width x) (e + width x) refl (far_within k i e false x)
far_within k i e b (joined or_joint x y) =
    let w = e + max (width x) (width y) in
    let sx = steps k i (Within e false) x in
    let sy = steps (k + count_in x) (i + nodes_in x) (Within e false) y in
    far_left (sx ++ sy) (record { node = Or; place = Within e b } ∷ []) w w refl (elim (cases_lt (width x) (width y)) [
      | inl h ↦ far_right sx sy (e + width y) w (omega arith) (far_within (k + count_in x) (i + nodes_in x) e false y)
      | inr h ↦ far_left sx sy (e + width x) w (omega arith) (far_within k i e false x)
    ])
far_within k i e b (joined and_joint x y) =
    let w = e + max (width x) (width y) in
    let sx = steps k i (Within e b) x in
    let sy = steps (k + count_in x) (i + nodes_in x) (Within e b) y in
    far_left (sx ++ sy) (record { node = And; place = Within e b } ∷ []) w w refl (elim (cases_lt (width x) (width y)) [
      | inl h ↦ far_right sx sy (e + width y) w (omega arith) (far_within (k + count_in x) (i + nodes_in x) e b y)
      | inr h ↦ far_left sx sy (e + width x) w (omega arith) (far_within k i e b x)
    ])
far_within k i e b (joined (phrase_joint n) x y) =
    let w = e + (width x + width y + n) in
    let f = e + (width x + n) in
    let sx = steps k i (Within e b) x in
    let sy = steps (k + count_in x) (i + nodes_in x) (Within f b) y in
    far_left (sx ++ sy) (record { node = Phrase n; place = Within e b } ∷ []) w w refl
    (far_right sx sy (f + width y) w (omega arith) (far_within (k + count_in x) (i + nodes_in x) f b y))

module _ (os : List Operand) (ss : List Step) (t : Tree) (p : IsPhraseOf os ss t) where
  laid : ss ≡ steps p.first p.start (Outside p.on_true p.on_false) (joined (phrase_joint p.distance) p.left p.right)
  laid = p.laid ∙ ap (steps p.first p.start (Outside p.on_true p.on_false)) p.phrase

  pub phrase_up : All (UpTo (width t)) ss
  phrase_up =
      let x = p.left in
      let y = p.right in
      let n = p.distance in
      let f = width x + n in
      let w = width x + width y + n in
      let sx = steps p.first p.start (Within 0 true) x in
      let sy = steps (p.first + count_in x) (p.start + nodes_in x) (Within f true) y in
      subst (λ (l : List Step). All (UpTo (width t)) l) (sym laid)
      (subst (λ z. All (UpTo (width z))
      (steps p.first p.start (Outside p.on_true p.on_false) (joined (phrase_joint n) x y))) (sym p.phrase)
      (both_up w sx sy (Phrase n) (Outside p.on_true p.on_false)
      (more_up (0 + width x) w sx (omega arith) (within_up p.first p.start 0 true x))
      (more_up (f + width y) w sy (omega arith) (within_up (p.first + count_in x) (p.start + nodes_in x) f true y))
      (omega arith)))

  farthest : Farthest ss (width t)
  farthest =
      let x = p.left in
      let y = p.right in
      let n = p.distance in
      let f = width x + n in
      let w = width x + width y + n in
      let sx = steps p.first p.start (Within 0 true) x in
      let sy = steps (p.first + count_in x) (p.start + nodes_in x) (Within f true) y in
      subst (λ (l : List Step). Farthest l (width t)) (sym laid)
      (subst (λ z. Farthest (steps p.first p.start (Outside p.on_true p.on_false) (joined (phrase_joint n) x y))
      (width z)) (sym p.phrase)
      (far_left (sx ++ sy) (record { node = Phrase n; place = Outside p.on_true p.on_false } ∷ []) w w refl
      (far_right sx sy (f + width y) w (omega arith)
      (far_within (p.first + count_in x) (p.start + nodes_in x) f true y))))

  -- what is at least each offset, and 0 or one of them, is the width
  pub reach_is : (r : ℕ) → All (UpTo r) ss → (r ≡ 0) ⊎ ((s : Step) × Contains ss s × (offset_of s.place ≡ r))
      → r ≡ width t
  reach_is r a (inl z) =
      let f : offset_of farthest.step.place ≤ r = All-contains (UpTo r) ss farthest.step a farthest.there in
      let g = farthest.is in
      omega arith
  reach_is r a (inr s) =
      let f : offset_of farthest.step.place ≤ r = All-contains (UpTo r) ss farthest.step a farthest.there in
      let g = farthest.is in
      let h : offset_of s.0.place ≤ width t = All-contains (UpTo (width t)) ss s.0 phrase_up s.1 in
      let e = s.2 in
      omega arith
