-- The law of the judge.
use Rattle.std.proofs.Common.{◌≡◌, Bool, true, false, ◌&&◌, ◌||◌, List, [], ◌∷◌, ◌++◌, length, drop, None, Some, ◌⊎◌}
use Rattle.std.proofs.Common.{inl, inr, refl, sym, ap, ◌∙◌}
use Rattle.std.specs.Prelude.{ℤ, pos, negsuc, ◌+ℤ◌, ◌-ℤ◌, IsTrue, max}
use Rattle.std.specs.List.{list_any}
use Rattle.std.proofs.lemmas.Bool.{or_cases}
use Rattle.ts_base.specs.declared.Tri.{Tri}
use Rattle.ts_base.specs.declared.Tri.TheVariants.{False, Maybe, True}
use Rattle.ts_base.specs.Vectors.{Position, Vector}
use Rattle.ts_query.specs.declared.query.Operand.{Operand}
use Rattle.ts_query.specs.Queries.{Tree, leaf, negated, joined, or_joint, and_joint, phrase_joint, operands_in}
use Rattle.ts_match.specs.Meaning.{names, asks_any, asks_for, is_met, places, is_place, width, at, HoldsOf}
use Rattle.ts_match.specs.Judging.{least, greatest, opposite, at_most_maybe, given, right_values, judged_in, judged_of}
use Rattle.ts_match.specs.Judging.{has_lexeme, JudgesWell}
use Rattle.ts_match.specs.Laws.Elements.{or_right}
use Rattle.gin_opclass.specs.Class.{SoundValue, SoundValues}

least_false : (s t : Tri) → least s t ≡ False → (s ≡ False) ⊎ (t ≡ False)
least_false False t e = inl refl
least_false s False e = inr refl
least_false s t e = absurd (let x : ⊥ = cc in x)

least_true : (s t : Tri) → least s t ≡ True → (s ≡ True) × (t ≡ True)
least_true True t e = (refl, e)
least_true Maybe True e = absurd (let x : ⊥ = cc in x)
least_true s t e = absurd (let x : ⊥ = cc in x)

opposite_true : (s : Tri) → opposite s ≡ True → s ≡ False
opposite_true False e = refl
opposite_true Maybe e = absurd (let x : ⊥ = cc in x)
opposite_true True e = absurd (let x : ⊥ = cc in x)

opposite_false : (s : Tri) → opposite s ≡ False → s ≡ True
opposite_false False e = absurd (let x : ⊥ = cc in x)
opposite_false Maybe e = absurd (let x : ⊥ = cc in x)
opposite_false True e = refl

-- the opposite of the greatest is the least of the opposites
mirrored : (s t : Tri) → opposite (greatest s t) ≡ least (opposite s) (opposite t)
mirrored Maybe True = refl
mirrored Maybe Maybe = refl
mirrored Maybe False = refl
mirrored s t = refl

greatest_true : (s t : Tri) → greatest s t ≡ True → (s ≡ True) ⊎ (t ≡ True)
greatest_true s t e = elim (least_false (opposite s) (opposite t) (sym (mirrored s t) ∙ ap opposite e)) [
  | inl a ↦ inl (opposite_false s a)
  | inr b ↦ inr (opposite_false t b)
]

greatest_false : (s t : Tri) → greatest s t ≡ False → (s ≡ False) × (t ≡ False)
greatest_false s t e =
    let p = least_true (opposite s) (opposite t) (sym (mirrored s t) ∙ ap opposite e) in
    (opposite_true s p.0, opposite_true t p.1)

maybe_false : (s : Tri) → at_most_maybe s ≡ False → s ≡ False
maybe_false False e = refl
maybe_false Maybe e = absurd (let x : ⊥ = cc in x)
maybe_false True e = absurd (let x : ⊥ = cc in x)

maybe_true : (s : Tri) → at_most_maybe s ≡ True → ⊥
maybe_true False e = cc
maybe_true Maybe e = cc
maybe_true True e = cc

and_no : (b : Bool) → (b && false) ≡ false
and_no true = refl
and_no false = refl

or_parts : (a b : Bool) → (a || b) ≡ false → (a ≡ false) × (b ≡ false)
or_parts true b e = absurd (let x : ⊥ = cc in x)
or_parts false b e = (refl, e)

-- no lexeme of the vector passes, so nothing comes of it
no_places : (o : Operand) (v : Vector) → has_lexeme o v ≡ false → places o v ≡ []
no_places o [] h = refl
no_places o (e ∷ es) h = let p = or_parts (names o e.lexeme) (has_lexeme o es) h in rw p.0 (no_places o es p.1)

not_met : (o : Operand) (v : Vector) → has_lexeme o v ≡ false → is_met o v ≡ false
not_met o [] h = refl
not_met o (e ∷ es) h = let p = or_parts (names o e.lexeme) (has_lexeme o es) h in rw p.0 (not_met o es p.1)

or_left : (a b : Bool) → a ≡ true → (a || b) ≡ true
or_left a b e = rw e refl

met : (o : Operand) (v : Vector) → asks_any o.weights ≡ true → has_lexeme o v ≡ true → is_met o v ≡ true
met o [] a h = absurd (let x : ⊥ = cc in x)
met o (e ∷ es) a h = elim (or_cases (names o e.lexeme) (has_lexeme o es) h) [
  | inl p ↦ rw (a, p) refl
  | inr q ↦ or_right
      (names o e.lexeme && (asks_any o.weights || list_any (λ (p : Position). asks_for o.weights p.weight) e.positions))
      (is_met o es) (met o es a q)
]

false_from : (b : Bool) → (b ≡ true → ⊥) → b ≡ false
false_from true n = absurd (n refl)
false_from false n = refl

nowhere : (i : ℤ) → is_place [] i ≡ false
nowhere (pos n) = refl
nowhere (negsuc n) = refl

given_false : (o : Operand) (t : Tri) (ts : List Tri) (b : Bool) → asks_any o.weights ≡ b → given o (t ∷ ts) ≡ False
    → t ≡ False
given_false o t ts true a e = (rw a at e)
given_false o t ts false a e = maybe_false t (rw a at e)

given_true : (o : Operand) (t : Tri) (ts : List Tri) (b : Bool) → asks_any o.weights ≡ b → given o (t ∷ ts) ≡ True
    → (t ≡ True) × (asks_any o.weights ≡ true)
given_true o t ts true a e = ((rw a at e), a)
given_true o t ts false a e = absurd (maybe_true t (rw a at e))

-- the vector has a lexeme that the operand names
abbrev pub NamesSome : Vector → Operand → Type 0
NamesSome v o = has_lexeme o v ≡ true

-- the values begin with a sound one for each operand
abbrev BeginsSound : Vector → List Operand → List Tri → Type 0
BeginsSound v [] ts = Unit {0}
BeginsSound v (o ∷ os) [] = ⊥
BeginsSound v (o ∷ os) (t ∷ ts) = SoundValue (NamesSome v o) t × BeginsSound v os ts

module _ (v : Vector) where
  begins : (os : List Operand) (ts : List Tri) → SoundValues (NamesSome v) os ts → BeginsSound v os ts
  begins [] [] h = tt
  begins [] (t ∷ ts) h = tt
  begins (o ∷ os) [] h = h
  begins (o ∷ os) (t ∷ ts) h = (h.0, begins os ts h.1)

  sound_left : (os ps : List Operand) (ts : List Tri) → BeginsSound v (os ++ ps) ts → BeginsSound v os ts
  sound_left [] ps ts h = tt
  sound_left (o ∷ os) ps [] h = h
  sound_left (o ∷ os) ps (t ∷ ts) h = (h.0, sound_left os ps ts h.1)

  sound_right : (os ps : List Operand) (ts : List Tri) → BeginsSound v (os ++ ps) ts
      → BeginsSound v ps (drop (length os) ts)
  sound_right [] ps ts h = h
  sound_right (o ∷ os) ps [] h = absurd h
  sound_right (o ∷ os) ps (t ∷ ts) h = sound_right os ps ts h.1

  says_false : (o : Operand) (t : Tri) → SoundValue (NamesSome v o) t → t ≡ False → has_lexeme o v ≡ false
  says_false o False s e = false_from (has_lexeme o v) s
  says_false o Maybe s e = absurd (let x : ⊥ = cc in x)
  says_false o True s e = absurd (let x : ⊥ = cc in x)

  says_true : (o : Operand) (t : Tri) → SoundValue (NamesSome v o) t → t ≡ True → has_lexeme o v ≡ true
  says_true o False s e = absurd (let x : ⊥ = cc in x)
  says_true o Maybe s e = absurd (let x : ⊥ = cc in x)
  says_true o True s e = s

  leaf_false : (o : Operand) (ts : List Tri) → BeginsSound v (o ∷ []) ts → given o ts ≡ False → has_lexeme o v ≡ false
  leaf_false o [] s e = absurd s
  leaf_false o (t ∷ ts) s e = says_false o t s.0 (given_false o t ts (asks_any o.weights) refl e)

  leaf_true : (o : Operand) (ts : List Tri) → BeginsSound v (o ∷ []) ts → given o ts ≡ True → is_met o v ≡ true
  leaf_true o [] s e = absurd s
  leaf_true o (t ∷ ts) s e =
      let g = given_true o t ts (asks_any o.weights) refl e in met o v g.1 (says_true o t s.0 g.0)

  and_left : (a b : Bool) → a ≡ false → (a && b) ≡ false
  and_left a b e = rw e refl

  and_right : (a b : Bool) → b ≡ false → (a && b) ≡ false
  and_right a b e = rw e (and_no a)

  or_both : (a b : Bool) → a ≡ false → b ≡ false → (a || b) ≡ false
  or_both a b e f = rw (e, f) refl

  -- within a phrase False says that it holds nowhere
  in_false : (t : Tree) (ts : List Tri) (i : ℤ) → BeginsSound v (operands_in t) ts → judged_in t ts ≡ False
      → at v t i ≡ false
  in_false (leaf o) ts i s e =
      ap (λ l. is_place l i) (no_places o v (leaf_false o ts s (maybe_false (given o ts) e))) ∙ nowhere i
  in_false (negated x) ts i s e = absurd (let z : ⊥ = cc in z)
  in_false (joined or_joint x y) ts i s e =
      let p = greatest_false (judged_in x ts) (judged_in y (right_values x ts)) e in
      or_both _ _
      (in_false x ts ((i -ℤ pos (max (width x) (width y))) +ℤ pos (width x))
      (sound_left (operands_in x) (operands_in y) ts s) p.0)
      (in_false y (right_values x ts) ((i -ℤ pos (max (width x) (width y))) +ℤ pos (width y))
      (sound_right (operands_in x) (operands_in y) ts s) p.1)
  in_false (joined and_joint x y) ts i s e = elim (least_false (judged_in x ts) (judged_in y (right_values x ts)) e) [
    | inl a ↦ and_left _ _
        (in_false x ts ((i -ℤ pos (max (width x) (width y))) +ℤ pos (width x))
        (sound_left (operands_in x) (operands_in y) ts s) a)
    | inr b ↦ and_right _ _
        (in_false y (right_values x ts) ((i -ℤ pos (max (width x) (width y))) +ℤ pos (width y))
        (sound_right (operands_in x) (operands_in y) ts s) b)
  ]
  in_false (joined (phrase_joint n) x y) ts i s e =
      elim (least_false (judged_in x ts) (judged_in y (right_values x ts)) e) [
        | inl a ↦ and_left _ _
            (in_false x ts ((i -ℤ pos n) -ℤ pos (width y)) (sound_left (operands_in x) (operands_in y) ts s) a)
        | inr b ↦ and_right _ _ (in_false y (right_values x ts) i (sound_right (operands_in x) (operands_in y) ts s) b)
      ]

  -- within a phrase True never comes
  in_true : (t : Tree) (ts : List Tri) → judged_in t ts ≡ True → ⊥
  in_true (leaf o) ts e = maybe_true (given o ts) e
  in_true (negated x) ts e = cc
  in_true (joined or_joint x y) ts e = elim (greatest_true (judged_in x ts) (judged_in y (right_values x ts)) e) [
    | inl a ↦ in_true x ts a
    | inr b ↦ in_true y (right_values x ts) b
  ]
  in_true (joined and_joint x y) ts e = in_true x ts (least_true (judged_in x ts) (judged_in y (right_values x ts)) e).0
  in_true (joined (phrase_joint n) x y) ts e =
      in_true x ts (least_true (judged_in x ts) (judged_in y (right_values x ts)) e).0

  record Says (t : Tree) (answer : Tri) : Type 0 where
    yes : answer ≡ True → HoldsOf t v
    never : answer ≡ False → ¬ HoldsOf t v

  not_true : (b : Bool) → b ≡ false → ¬ IsTrue b
  not_true b e h = cc

  says : (t : Tree) (ts : List Tri) → BeginsSound v (operands_in t) ts → Says t (judged_of t ts)
  says (leaf o) ts s = record {
    yes = leaf_true o ts s;
    never = λ e. not_true (is_met o v) (not_met o v (leaf_false o ts s e));
  }
  says (negated x) ts s = let a = says x ts s in record {
    yes = λ e. a.never (opposite_true (judged_of x ts) e);
    never = λ e h. h (a.yes (opposite_false (judged_of x ts) e));
  }
  says (joined or_joint x y) ts s =
      let a = says x ts (sound_left (operands_in x) (operands_in y) ts s) in
      let b = says y (right_values x ts) (sound_right (operands_in x) (operands_in y) ts s) in record {
        yes = λ e. elim (greatest_true (judged_of x ts) (judged_of y (right_values x ts)) e) [
          | inl p ↦ inl (a.yes p)
          | inr p ↦ inr (b.yes p)
        ];
        never = λ e h. let p = greatest_false (judged_of x ts) (judged_of y (right_values x ts)) e in
            elim h [ inl k ↦ a.never p.0 k | inr k ↦ b.never p.1 k ];
      }
  says (joined and_joint x y) ts s =
      let a = says x ts (sound_left (operands_in x) (operands_in y) ts s) in
      let b = says y (right_values x ts) (sound_right (operands_in x) (operands_in y) ts s) in record {
        yes = λ e. let p = least_true (judged_of x ts) (judged_of y (right_values x ts)) e in (a.yes p.0, b.yes p.1);
        never = λ e h. elim (least_false (judged_of x ts) (judged_of y (right_values x ts)) e) [
          | inl p ↦ a.never p h.0
          | inr p ↦ b.never p h.1
        ];
      }
  says (joined (phrase_joint n) x y) ts s = record {
    yes = λ e. absurd (in_true (joined (phrase_joint n) x y) ts e);
    never = λ e h. not_true (at v (joined (phrase_joint n) x y) h.1.0)
        (in_false (joined (phrase_joint n) x y) ts h.1.0 s e) h.1.1;
  }

pub judges : JudgesWell
judges None v ts s = record { yes = λ e. absurd (let x : ⊥ = cc in x); never = λ e h. h }
judges (Some t) v ts s = let a = says v t ts (begins v (operands_in t) ts s) in record { yes = a.yes; never = a.never }
