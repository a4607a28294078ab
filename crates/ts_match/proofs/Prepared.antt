-- What is at hand when a phrase is matched.
use Rattle.std.proofs.Common.{◌≡◌, ◌≢◌, ℕ, ◌<◌, ◌≤◌, Bool, true, false, not, eqb, List, set, length, get_or}
use Rattle.std.proofs.Common.{get_or-set_same, get_or-set_other, inl, inr, refl, subst, sym, ap, ◌∙◌, arith}
use Rattle.std.specs.Prelude.{All, Contains, slice_get}
use Rattle.std.proofs.lemmas.Bool.{cases_Bool, eqb-true, eq-eqb}
use Rattle.std.proofs.lemmas.List.Elements.{Contains-get_or}
use Rattle.std.proofs.lemmas.Option.{get_or_from_slice_get}
use Rattle.ts_base.specs.Vectors.{Vector, IsNormal}
use Rattle.ts_query.specs.declared.query.Node.{Node}
use Rattle.ts_query.specs.declared.query.Node.TheVariants.{Leaf, Not, And, Or, Phrase}
use Rattle.ts_query.specs.declared.query.Operand.{Operand}
use Rattle.ts_match.specs.declared.ranges.EntryRange.{EntryRange}
use Rattle.ts_query.specs.Queries.{Tree}
use Rattle.ts_match.specs.declared.work.Place.{Place}
use Rattle.ts_match.specs.declared.work.Place.TheVariants.{Outside, Within}
use Rattle.ts_match.specs.Inner.Plan.{needs}
use Rattle.ts_match.specs.declared.work.Step.{Step}
use Rattle.ts_match.specs.Meaning.{places, HoldsSomewhere}
use Rattle.ts_match.specs.Inner.Ranges.{NamesRange}
use Rattle.ts_match.specs.Inner.Phrases.{RangeFor, HasOperand, IsStep, IsPhraseOf, operand_at, no_operand}
use Rattle.ts_match.proofs.Lookups.{stands_in}
use Rattle.ts_match.proofs.Hits.{leaf_step, number_is, with_needed}

pub leaf_found : (v : Vector) (os : List Operand) (fs : List EntryRange) (n : Node) (k : ℕ) → n ≡ Leaf k
    → RangeFor v os fs n → (o : Operand) (f : EntryRange) → NamesRange v (get_or os k o) (get_or fs k f)
leaf_found v os fs n k e h = subst (λ (x : Node). RangeFor v os fs x) e h

pub not-false : (b : Bool) → not b ≡ false → b ≡ true
not-false true e = refl
not-false false e = absurd (let x : ⊥ = cc in x)

pub needs_within : (p : Place) → needs p ≡ true → (e : ℕ) × (p ≡ Within e true)
needs_within (Outside on_true on_false) h = absurd (let x : ⊥ = cc in x)
needs_within (Within e true) h = (e, refl)
needs_within (Within e false) h = absurd (let x : ⊥ = cc in x)

pub same_step : (s : Step) (n : Node) (p : Place) → s.node ≡ n → s.place ≡ p → s ≡ record { node = n; place = p }
same_step s n p e f = ap (λ x. record { node = x; place = s.place }) e ∙ ap (λ x. record { node = n; place = x }) f

pub leaf_operand : (m : ℕ) (n : Node) (k : ℕ) → n ≡ Leaf k → HasOperand m n → k < m
leaf_operand m n k e h = subst (λ (x : Node). HasOperand m x) e h

pub found_here : (v : Vector) (os : List Operand) (fs : List EntryRange) (n : Node) (k : ℕ) (r : EntryRange)
    → n ≡ Leaf k → k < length fs → ((o : Operand) → NamesRange v (get_or os k o) r) → RangeFor v os (set fs k r) n
found_here v os fs n k r e l h = subst (λ (x : Node). RangeFor v os (set fs k r) x) (sym e)
    (λ o f. subst (λ (x : EntryRange). NamesRange v (get_or os k o) x) (sym (get_or-set_same fs k r f l)) (h o))

kept_leaf : (v : Vector) (os : List Operand) (fs : List EntryRange) (k : ℕ) (r : EntryRange)
    → k < length fs → ((o : Operand) → NamesRange v (get_or os k o) r) → (j : ℕ)
    → ((o : Operand) (f : EntryRange) → NamesRange v (get_or os j o) (get_or fs j f))
    → (o : Operand) (f : EntryRange) → NamesRange v (get_or os j o) (get_or (set fs k r) j f)
kept_leaf v os fs k r l h j g o f = elim (cases_Bool (eqb j k)) [
  | inl t ↦
      let e = eqb-true j k t in
      let a : NamesRange v (get_or os j o) r = subst (λ i. NamesRange v (get_or os i o) r) (sym e) (h o) in
      subst (λ (x : EntryRange). NamesRange v (get_or os j o) x)
      (sym (ap (λ i. get_or (set fs k r) i f) e ∙ get_or-set_same fs k r f l)) a
  | inr t ↦
      let n : j ≢ k = λ e. (let q = eq-eqb j k e in let x : ⊥ = cc in x) in
      rw get_or-set_other (g o f)
]

pub found_kept : (v : Vector) (os : List Operand) (fs : List EntryRange) (k : ℕ) (r : EntryRange) → k < length fs
    → ((o : Operand) → NamesRange v (get_or os k o) r) → (n : Node) → RangeFor v os fs n → RangeFor v os (set fs k r) n
found_kept v os fs k r l h (Leaf j) g = kept_leaf v os fs k r l h j g
found_kept v os fs k r l h Not g = tt
found_kept v os fs k r l h And g = tt
found_kept v os fs k r l h Or g = tt
found_kept v os fs k r l h (Phrase n) g = tt

-- what names no lexeme has no place
pub no_place : (v : Vector) (o : Operand) (f : EntryRange) → NamesRange v o f → f.end ≤ f.first → (p : ℕ)
    → Contains (places o v) p → ⊥
no_place v o f i h p c = let s = stands_in v o f p i c in let a = s.from in let b = s.below in omega arith

-- a phrase does not hold where an operand that it needs has no place
pub lacks : (v : Vector) (os : List Operand) (ss : List Step) → All (IsStep (length os)) ss
    → (i : ℕ) (s : Step) (k e : ℕ) → i < length ss → s ≡ get_or ss i s → s ≡ leaf_step k e true
    → ((p : ℕ) → Contains (places (operand_at os k) v) p → ⊥) → IsNormal v → (t : Tree) → IsPhraseOf os ss t
    → HoldsSomewhere v t → ⊥
lacks v os ss a i s k e l is leaf none n t p h =
    let there : Contains ss s = subst (λ (x : Step). Contains ss x) (sym is) (Contains-get_or ss i s l) in
    let w = with_needed v os ss n a t s p (record { number = k; offset = e; there = there; is_leaf = leaf }) h in
    let same : k ≡ w.number = number_is k e w.number w.offset true w.needed (sym leaf ∙ w.is_leaf) in
    let o : operand_at os k ≡ w.operand =
    get_or_from_slice_get os k w.operand no_operand (ap (slice_get os) same ∙ w.is_operand) in
    none w.p (subst (λ x. Contains (places x v) w.p) (sym o) w.stands)
