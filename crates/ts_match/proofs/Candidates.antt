-- Finitely many places decide.
use Rattle.std.proofs.Common.{◌≡◌, ℕ, ◌+◌, ◌≤◌, ◌<◌, Bool, true, false, eqb, List, [], ◌∷◌, map, ◌⊎◌, inl, inr, refl}
use Rattle.std.proofs.Common.{sym, ap, subst, ◌∙◌, arith}
use Rattle.std.specs.Prelude.{ℤ, pos, negsuc, ◌+ℤ◌, ◌-ℤ◌, IsTrue, Contains, All, filter}
use Rattle.std.specs.List.{flat_map}
use Rattle.std.proofs.lemmas.Int.{ints}
use Rattle.std.proofs.lemmas.List.Elements.{Contains-append_cases, All-contains, All-map, All-filter}
use Rattle.std.proofs.lemmas.Bool.{eqb-true, and_parts}
use Rattle.ts_base.specs.Vectors.{Position, Entry, Vector}
use Rattle.ts_query.specs.declared.query.Operand.{Operand}
use Rattle.ts_query.specs.Queries.{Tree, leaf, negated, joined, or_joint, and_joint, phrase_joint}
use Rattle.ts_match.specs.Meaning.{names, fits, places, is_place, width, at}
use Rattle.ts_match.specs.Candidates.{offsets, place_by, candidates, HasNoZero, CandidatesSuffice, needed, NeededHave}
use Rattle.ts_match.proofs.Lists.{Contains-flat_map, All-flat_map}
use Rattle.ts_match.specs.Laws.Elements.{Contains-here, Contains-there, Contains-none, Contains-one, Contains-cases}
use Rattle.ts_match.specs.Laws.Elements.{Contains-map, passes_in}
use Rattle.ts_match.proofs.Places.{there, truth, at_start, agree, offsets_within}

-- an operand that is true at its offset, or all are false
pub record Hit (f : Operand → ℕ → Bool) (os : List (Operand × ℕ)) : Type 0 where
  pub operand : Operand × ℕ
  pub among : Contains os operand
  pub hit : f operand.0 operand.1 ≡ true

abbrev pub AllFalse : (Operand → ℕ → Bool) → List (Operand × ℕ) → Type 0
AllFalse f os = (k : Operand × ℕ) → Contains os k → f k.0 k.1 ≡ false

hits_at : (f : Operand → ℕ → Bool) (o : Operand × ℕ) (os : List (Operand × ℕ)) (b : Bool) → f o.0 o.1 ≡ b
    → Hit f os ⊎ AllFalse f os → Hit f (o ∷ os) ⊎ AllFalse f (o ∷ os)
hits_at f o os true e r = inl (record { operand = o; among = Contains-here o os; hit = e })
hits_at f o os false e (inl h) =
    inl (record { operand = h.operand; among = Contains-there o h.operand os h.among; hit = h.hit })
hits_at f o os false e (inr h) =
    inr (λ k c. elim (Contains-cases o k os c) [ inl p ↦ ap (λ (x : Operand × ℕ). f x.0 x.1) p ∙ e | inr d ↦ h k d ])

pub hits : (f : Operand → ℕ → Bool) (os : List (Operand × ℕ)) → Hit f os ⊎ AllFalse f os
hits f [] = inr (λ k c. absurd (Contains-none k c))
hits f (o ∷ os) = hits_at f o os (f o.0 o.1) refl (hits f os)

-- a place at which something is a position is a natural number
pub record Natural (ps : List ℕ) (i : ℤ) : Type 0 where
  pub number : ℕ
  pub is : i ≡ pos number
  pub among : Contains ps number

pub natural : (ps : List ℕ) (i : ℤ) → is_place ps i ≡ true → Natural ps i
natural ps (pos n) h =
    let r = passes_in (λ p. eqb p n) ps h in
    record { number = n; is = refl; among = subst (λ k. Contains ps k) (eqb-true r.element n r.passes) r.there }
natural ps (negsuc n) h = absurd (let x : ⊥ = cc in x)

-- positions of operands are above 0
pub places_above : (o : Operand) (v : Vector) → HasNoZero v → All (λ n. 0 < n) (places o v)
places_above o v h =
    All-map (λ n. 0 < n) (λ (p : Position). p.at) (filter (λ p. fits o.weights p.weight)
    (flat_map (λ (e : Entry). e.positions) (filter (λ e. names o e.lexeme) v)))
    (All-filter (λ (p : Position). fits o.weights p.weight) (λ p. 0 < p.at)
    (flat_map (λ (e : Entry). e.positions) (filter (λ e. names o e.lexeme) v))
    (All-flat_map (λ (p : Position). 0 < p.at) (λ (e : Entry). e.positions) (filter (λ e. names o e.lexeme) v)
    (All-filter (λ (e : Entry). names o e.lexeme) (λ e. All (λ p. 0 < p.at) e.positions) v h)))

below_one : (ps : List ℕ) (i : ℤ) (w d : ℕ) → i ≡ (pos 0 -ℤ pos w) +ℤ pos d → d ≤ w → All (λ n. 0 < n) ps → (b : Bool)
    → is_place ps i ≡ b → b ≡ false
below_one ps i w d e h a true t =
    let n = natural ps i t in
    let p : 0 < n.number = All-contains (λ n. 0 < n) ps n.number a n.among in
    let q : pos n.number ≡ (pos 0 -ℤ pos w) +ℤ pos d = sym n.is ∙ e in
    absurd (omega (arith, ints, q))
below_one ps i w d e h a false t = refl

nowhere_at : (v : Vector) (t : Tree) → HasNoZero v → AllFalse (there v (pos 0 -ℤ pos (width t))) (offsets t 0)
nowhere_at v t h k c =
    let i = (pos 0 -ℤ pos (width t)) +ℤ pos k.1 in
    let w : k.1 ≤ width t = let p = offsets_within t 0 k c in omega arith in
    below_one (places k.0 v) i (width t) k.1 refl w (places_above k.0 v h) (is_place (places k.0 v) i) refl

abbrev pub FoundAmong : Vector → Tree → Type 0
FoundAmong v t = (i : ℤ) × Contains (candidates v t) i × IsTrue (at v t i)

place_is : (i : ℤ) (w d p : ℕ) → (i -ℤ pos w) +ℤ pos d ≡ pos p → i ≡ (pos p -ℤ pos d) +ℤ pos w
place_is i w d p e = omega (arith, ints, e)

found_by : (v : Vector) (t : Tree) (i : ℤ) → IsTrue (at v t i) → HasNoZero v → Hit (there v
    (i -ℤ pos (width t))) (offsets t 0) ⊎ AllFalse (there v (i -ℤ pos (width t))) (offsets t 0) → FoundAmong v t
found_by v t i h z (inl k) =
    let n = natural (places k.operand.0 v) ((i -ℤ pos (width t)) +ℤ pos k.operand.1) k.hit in
    let e : i ≡ place_by t k.operand.1 n.number = place_is i (width t) k.operand.1 n.number n.is in
    let c = Contains-flat_map (λ (o : Operand × ℕ). map (place_by t o.1) (places o.0 v)) (offsets t 0) k.operand
    (place_by t k.operand.1 n.number) k.among
    (Contains-map (place_by t k.operand.1) (places k.operand.0 v) n.number n.among) in (
      i,
      subst (λ x. Contains (candidates v t) x) (sym e) (Contains-there (pos 0) (place_by t k.operand.1 n.number) _ c),
      h,
    )
found_by v t i h z (inr f) =
    let none = nowhere_at v t z in
    let same =
    agree (there v (i -ℤ pos (width t))) (there v (pos 0 -ℤ pos (width t))) t 0 (λ k c. f k c ∙ sym (none k c)) in
    (pos 0, Contains-here (pos 0) _, subst (λ b. IsTrue b) (at_start v t i ∙ same ∙ sym (at_start v t (pos 0))) h)

pub suffice : CandidatesSuffice
suffice v t z = (λ s. found_by v t s.0 s.1 z (hits (there v (s.0 -ℤ pos (width t))) (offsets t 0)), λ f. (f.0, f.2))

-- where the table is true, so is each operand that it needs
pub needed_true : (f : Operand → ℕ → Bool) (t : Tree) (e : ℕ) → truth f t e ≡ true → (k : Operand × ℕ)
    → Contains (needed t e) k → f k.0 k.1 ≡ true
needed_true f (leaf o) e h k c = ap (λ (x : Operand × ℕ). f x.0 x.1) (Contains-one (o, e) k c) ∙ h
needed_true f (negated x) e h k c = absurd (Contains-none k c)
needed_true f (joined or_joint x y) e h k c = absurd (Contains-none k c)
needed_true f (joined and_joint x y) e h k c =
    let b = and_parts (truth f x e) (truth f y e) h in
    elim (Contains-append_cases (needed x e) (needed y e) k c)
    [ inl a ↦ needed_true f x e b.0 k a | inr a ↦ needed_true f y e b.1 k a ]
needed_true f (joined (phrase_joint n) x y) e h k c =
    let r = e + (width x + n) in
    let b = and_parts (truth f x e) (truth f y r) h in
    elim (Contains-append_cases (needed x e) (needed y r) k c)
    [ inl a ↦ needed_true f x e b.0 k a | inr a ↦ needed_true f y r b.1 k a ]

pub have : NeededHave
have v t i h o d c = needed_true (there v (i -ℤ pos (width t))) t 0 (sym (at_start v t i) ∙ h) (o, d) c
