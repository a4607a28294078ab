-- What the bit sets of a phrase say.
use Rattle.std.proofs.Common.{◌≡◌, ℕ, suc, ◌+◌, ◌-◌, ◌*◌, ◌≤◌, ◌<◌, Bool, true, false, ◌&&◌, ◌||◌, eqb, List, [], ◌∷◌}
use Rattle.std.proofs.Common.{◌++◌, length, get_or, take, drop, reverse, Some, ◌⊎◌, inl, inr, refl, sym, ap, subst, ◌∙◌}
use Rattle.std.proofs.Common.{arith, length-append}
use Rattle.std.specs.Prelude.{ℤ, pos, negsuc, ◌+ℤ◌, ◌-ℤ◌, IsTrue, All, AllPairs, Contains, ◌↔◌, slice_get}
use Rattle.std.specs.List.{list_any, slice_range}
use Rattle.std.proofs.lemmas.Int.{ints}
use Rattle.std.proofs.lemmas.Bool.{cases_lt, cases_Bool, eq-eqb, ne_eqb, eqb-true}
use Rattle.std.proofs.lemmas.List.{reverse-append, reverse-reverse, get_or_append_left, get_or_push, length-reverse}
use Rattle.std.proofs.lemmas.List.{get_or-drop, length-drop, get_or_default}
use Rattle.std.proofs.Math.Seq.{take-suc}
use Rattle.std.proofs.lemmas.List.Folds.{list_any-append}
use Rattle.std.proofs.lemmas.List.Elements.{All-contains, All-push}
use Rattle.std.proofs.lemmas.Option.{get_or_from_slice_get}
use Rattle.ts_base.specs.declared.Weights.{Weights}
use Rattle.ts_base.specs.Vectors.{Position, Entry, Vector}
use Rattle.ts_query.specs.declared.query.Operand.{Operand}
use Rattle.ts_query.specs.Queries.{Tree, joined, phrase_joint}
use Rattle.ts_match.specs.declared.ranges.EntryRange.{EntryRange}
use Rattle.ts_match.specs.declared.ranges.TheConstants.{FARTHEST}
use Rattle.ts_match.specs.declared.bit_sets.BitSet.{BitSet}
use Rattle.ts_match.specs.declared.bit_sets.TheConstants.{WORD}
use Rattle.ts_match.specs.declared.work.Place.TheVariants.{Outside}
use Rattle.ts_match.specs.declared.work.Step.{Step}
use Rattle.ts_match.specs.Meaning.{fits, places, is_place, width, at, HoldsSomewhere}
use Rattle.ts_match.specs.Candidates.{offsets}
use Rattle.ts_match.specs.Plan.{steps}
use Rattle.ts_match.specs.Inner.Ranges.{NamesRange, stands_at}
use Rattle.ts_match.specs.Inner.BitSets.{bit_value, truths_at, beginning, IsWide}
use Rattle.ts_match.specs.Inner.Phrases.{IsLaidOut, IsPhraseOf, SaysWhere, no_operand, HasNumbers}
use Rattle.ts_match.specs.Laws.Elements.{passes_in}
use Rattle.ts_match.proofs.Lists.{any_agree}
use Rattle.ts_match.proofs.Searches.{here}
use Rattle.ts_match.proofs.Lookups.{meets_at, stands_by, stands_before, stands_in, nothing}
use Rattle.ts_match.proofs.Places.{there, at_start, agree, offsets_within}
use Rattle.ts_match.proofs.Hits.{leaf_step, leaves_phrase}
use Rattle.ts_match.proofs.Words.{beyond_words}

-- the last position is the greatest
pub last_most : (ps : List Position) (x p : Position) → AllPairs (λ p q. p.at < q.at) ps → 0 < length ps
    → x ≡ get_or ps (length ps - 1) x → Contains ps p → p.at ≤ x.at
last_most ps x p r l e c =
    let k = c.0 in
    let b : k < length ps = c.1 in
    let here = ap (λ (q : Position). q.at) (sym c.2) in
    let there = ap (λ (q : Position). q.at) (e ∙ get_or_default ps (length ps - 1) x p (omega arith)) in
    elim (cases_lt k (length ps - 1)) [
      | inl h ↦ let a = r k (length ps - 1) p h (omega arith) in omega arith
      | inr h ↦
          let same : k ≡ length ps - 1 = omega arith in
          let a = ap (λ i. (get_or ps i p).at) same in omega arith
    ]

pub slice_more : {X : Type 0} (xs : List X) (a i : ℕ) (d : X) → a ≤ i → i < length xs
    → slice_range xs a (i + 1) ≡ slice_range xs a i ++ get_or xs i d ∷ []
slice_more xs a i d h l =
    let e : i + 1 - a ≡ suc (i - a) = omega arith in
    let f : a + (i - a) ≡ i = omega arith in
    ap (λ k. take k (drop a xs)) e ∙ take-suc (drop a xs) (i - a) d (let n = length-drop a xs in omega arith)
    ∙ ap (λ x. take (i - a) (drop a xs) ++ x ∷ []) (get_or-drop a xs (i - a) d ∙ ap (λ k. get_or xs k d) f)

-- a position is at a place of a bit set, where places are moved by `by`
abbrev pub sets : ℕ → ℕ → Weights → Position → Bool
sets by j w p = eqb j (p.at + by) && fits w p.weight

abbrev pub sets_some : ℕ → ℕ → Weights → Entry → Bool
sets_some by j w e = list_any (sets by j w) e.positions

eqb_from : (a b c d : ℕ) → (a ≡ b → c ≡ d) → (c ≡ d → a ≡ b) → eqb a b ≡ eqb c d
eqb_from a b c d f g = elim (cases_Bool (eqb a b)) [
  | inl t ↦ t ∙ sym (eq-eqb c d (f (eqb-true a b t)))
  | inr n ↦ n ∙ sym (ne_eqb c d (λ e. let t = eq-eqb a b (g e) in let x : ⊥ = cc in x))
]

any_false : {X : Type 0} (p : X → Bool) (xs : List X) → ((x : X) → p x ≡ false) → list_any p xs ≡ false
any_false p [] h = refl
any_false p (x ∷ xs) h = rw (h x, any_false p xs h) refl

false_and : (a b : Bool) → a ≡ false → (a && b) ≡ false
false_and a b e = rw e refl

-- the bit set of a leaf, by what was found for it
laid_by : (v : Vector) (o : Operand) (f : EntryRange) (reach offset j : ℕ) → NamesRange v o f → reach ≤ FARTHEST
    → offset ≤ reach → (reach - offset ≤ j) ⊎ (j < reach - offset)
    → list_any (sets_some (reach - offset) j o.weights) (slice_range v f.first f.end)
    ≡ stands_at o v (beginning reach j + offset)
laid_by v o f reach offset j i far near (inl h) =
    let sum = beginning reach j + offset in
    let l : FARTHEST ≤ (j + FARTHEST) - reach + offset = omega arith in
    let e : (j + FARTHEST) - reach + offset - FARTHEST ≡ j - (reach - offset) = omega arith in
    any_agree (sets_some (reach - offset) j o.weights) (meets_at o (sum - FARTHEST)) (slice_range v f.first f.end)
    (λ (x : Entry). any_agree (sets (reach - offset) j o.weights) (here (sum - FARTHEST) o.weights) x.positions
    (λ (p : Position). ap (λ b. b && fits o.weights p.weight)
    (eqb_from j (p.at + (reach - offset)) p.at (sum - FARTHEST) (λ q. omega arith) (λ q. omega arith))))
    ∙ sym (stands_by v o f sum i l)
laid_by v o f reach offset j i far near (inr h) =
    any_false (sets_some (reach - offset) j o.weights) (slice_range v f.first f.end)
    (λ (x : Entry). any_false (sets (reach - offset) j o.weights) x.positions
    (λ (p : Position). false_and (eqb j (p.at + (reach - offset))) (fits o.weights p.weight)
    (ne_eqb j (p.at + (reach - offset)) (λ q. omega arith))))
    ∙ sym (stands_before v o (beginning reach j + offset) (omega arith))

pub laid : (v : Vector) (o : Operand) (f : EntryRange) (reach offset j : ℕ) → NamesRange v o f → reach ≤ FARTHEST
    → offset ≤ reach
    → list_any (sets_some (reach - offset) j o.weights) (slice_range v f.first f.end)
    ≡ stands_at o v (beginning reach j + offset)
laid v o f reach offset j i far near =
    laid_by v o f reach offset j i far near (elim (cases_lt j (reach - offset)) [ inl h ↦ inr h | inr h ↦ inl h ])

-- one position more, one lexeme more
pub or_assoc : (a b c : Bool) → ((a || b) || c) ≡ (a || (b || c))
or_assoc true b c = refl
or_assoc false b c = refl

pub or_swap : (a b : Bool) → (a || b) ≡ (b || a)
or_swap true true = refl
or_swap true false = refl
or_swap false true = refl
or_swap false false = refl

pub or_none : (a : Bool) → (a || false) ≡ a
or_none true = refl
or_none false = refl

pub any_one : {X : Type 0} (p : X → Bool) (xs : List X) (x : X) → list_any p (xs ++ x ∷ []) ≡ (list_any p xs || p x)
any_one p xs x = list_any-append p xs (x ∷ []) ∙ ap (λ b. list_any p xs || b) (or_none (p x))

-- between a place and itself there is nothing
pub none_between : {X : Type 0} (b : Bool) (p : X → Bool) (xs : List X) (a : ℕ)
    → b ≡ (b || list_any p (slice_range xs a a))
none_between b p xs a =
    let e : a - a ≡ 0 = omega arith in
    sym (ap (λ k. b || list_any p (take k (drop a xs))) e ∙ or_none b)

-- the bit set that is alone on a stack
pub record OneRow (count : ℕ) (f : ℕ → Bool) (bit_sets : List BitSet) : Type 0 where
  pub bits : BitSet
  pub alone : bit_sets ≡ bits ∷ []
  pub value : (j : ℕ) → bit_value count bits j ≡ f j

length-map : (count j : ℕ) (bit_sets : List BitSet) → length (truths_at count j bit_sets) ≡ length bit_sets
length-map count j [] = refl
length-map count j (r ∷ bit_sets) = ap suc (length-map count j bit_sets)

pub one_bit_set : (count : ℕ) (f : ℕ → Bool) (bit_sets : List BitSet)
    → ((j : ℕ) → truths_at count j (reverse bit_sets) ≡ f j ∷ []) → OneRow count f bit_sets
one_bit_set count f [] h = absurd (let e = ap length (h 0) in omega arith)
one_bit_set count f (r ∷ []) h = record { bits = r; alone = refl; value = λ j. (let e = h j in cc) }
one_bit_set count f (r ∷ s ∷ bit_sets) h =
    absurd (let e = ap length (h 0) in let a = length-map count 0 (reverse (r ∷ s ∷ bit_sets)) in
    let b = length-reverse (r ∷ s ∷ bit_sets) in omega arith)

pub truths_push : (count j : ℕ) (bit_sets : List BitSet) (bits : BitSet) → truths_at count j (reverse
    (bit_sets ++ bits ∷ [])) ≡ bit_value count bits j ∷ truths_at count j (reverse bit_sets)
truths_push count j bit_sets bits = ap (truths_at count j) (reverse-append bit_sets (bits ∷ []))

pub pushed : {X : Type 0} (old new : List X) (x : X) → reverse new ≡ x ∷ reverse old → new ≡ old ++ x ∷ []
pushed old new x e =
    sym (reverse-reverse new) ∙ ap reverse (e ∙ sym (reverse-append old (x ∷ []))) ∙ reverse-reverse (old ++ x ∷ [])

pub truths_pop : (count j : ℕ) (old new : List BitSet) (bits : BitSet) → old ≡ new ++ bits ∷ []
    → truths_at count j (reverse old) ≡ bit_value count bits j ∷ truths_at count j (reverse new)
truths_pop count j old new bits e = ap (λ l. truths_at count j (reverse l)) e ∙ truths_push count j new bits

-- where a phrase begins at a place of its bit set
pub bits_place : (w j : ℕ) → w ≤ FARTHEST → (pos (beginning w j) -ℤ pos FARTHEST) +ℤ pos w ≡ pos j
bits_place w j h = omega (arith, ints)

-- beyond the places of a bit set, and below 0, no operand is
none_place : (ps : List ℕ) (m : ℕ) → ((p : ℕ) → Contains ps p → p < m) → (b : Bool) → list_any (λ p. eqb p m) ps ≡ b
    → b ≡ false
none_place ps m h true e = let r = passes_in (λ p. eqb p m) ps e in
    let q = eqb-true r.element m r.passes in absurd (let l = h r.element r.there in omega arith)
none_place ps m h false e = refl

before_all : (ps : List ℕ) (n w e : ℕ) → e ≤ w → is_place ps ((negsuc n -ℤ pos w) +ℤ pos e) ≡ false
before_all ps n w e h =
    let i : (negsuc n -ℤ pos w) +ℤ pos e ≡ negsuc (n + w - e) = omega (arith, ints) in
    ap (is_place ps) i

behind_all : (ps : List ℕ) (c w e : ℕ) → e ≤ w → w ≤ c → ((p : ℕ) → Contains ps p → p + w < c)
    → is_place ps ((pos c -ℤ pos w) +ℤ pos e) ≡ false
behind_all ps c w e h g f =
    let i : (pos c -ℤ pos w) +ℤ pos e ≡ pos (c + e - w) = omega (arith, ints) in
    ap (is_place ps) i
    ∙ none_place ps (c + e - w) (λ p a. let l = f p a in omega arith) (list_any (λ p. eqb p (c + e - w)) ps) refl

module _ (v : Vector) (os : List Operand) (fs : List EntryRange) (ss : List Step) (t : Tree) (count : ℕ)
    (p : IsPhraseOf os ss t)
    (a : All (IsLaidOut v os fs (width t) count) ss) (enough : width t < WORD * count) where
  -- all places of an operand of the phrase
  operand_places : (k : Operand × ℕ) → Contains (offsets t 0) k → (q : ℕ) → Contains (places k.0 v) q
      → q + width t < WORD * count
  operand_places k c q h =
      let u : Tree = joined (phrase_joint p.distance) p.left p.right in
      let laid : ss ≡ steps p.first p.start (Outside p.on_true p.on_false) u =
      p.laid ∙ ap (steps p.first p.start (Outside p.on_true p.on_false)) p.phrase in
      let numbered : HasNumbers os p.first u = subst (λ x. HasNumbers os p.first x) p.phrase p.numbered in
      let l = leaves_phrase os p.first p.start p.on_true p.on_false p.distance p.left p.right numbered k
      (subst (λ (x : Tree). Contains (offsets x 0) k) p.phrase c) in
      let s = leaf_step l.number k.1 l.flag in
      let there : Contains ss (leaf_step l.number k.1 l.flag) =
      subst (λ (x : List Step). Contains x (leaf_step l.number k.1 l.flag)) (sym laid) l.there in
      let i = All-contains (IsLaidOut v os fs (width t) count) ss s a there in
      let f : EntryRange = record { first = 0; end = 0 } in
      let o = get_or_from_slice_get os l.number k.0 no_operand l.is_operand in
      let named = subst (λ x. NamesRange v x (get_or fs l.number f)) o (i.found no_operand f) in
      let w = stands_in v k.0 (get_or fs l.number f) q named h in
      let b = i.places f w.index nothing w.position w.from w.below w.there in
      let z = w.is in omega arith

  pub beyond : (n : ℕ) → at v t (pos (WORD * count)) ≡ at v t (negsuc n)
  beyond n =
      at_start v t (pos (WORD * count))
      ∙ agree (there v (pos (WORD * count) -ℤ pos (width t))) (there v (negsuc n -ℤ pos (width t))) t 0 (λ k c.
      let e : k.1 ≤ width t = let o = offsets_within t 0 k c in omega arith in
      behind_all (places k.0 v) (WORD * count) (width t) k.1 e (omega arith) (operand_places k c)
      ∙ sym (before_all (places k.0 v) n (width t) k.1 e))
      ∙ sym (at_start v t (negsuc n))

  pub bits_of : (bits : BitSet) → ((j : ℕ) → bit_value count bits j ≡ at v t (pos j)) → SaysWhere v t count bits
  bits_of bits h = record {
    here = h;
    elsewhere = λ n. sym (beyond_words count bits.words.items bits.rest (WORD * count) (omega arith)) ∙ h (WORD * count)
        ∙ beyond n;
  }

-- a bit set says whether its tree holds somewhere
at_place : (v : Vector) (t : Tree) (count : ℕ) (bits : BitSet) → SaysWhere v t count bits → (i : ℤ) → IsTrue (at v t i)
    → (j : ℕ) × IsTrue (bit_value count bits j)
at_place v t count bits r (pos j) e = (j, r.here j ∙ e)
at_place v t count bits r (negsuc n) e =
    (WORD * count, beyond_words count bits.words.items bits.rest (WORD * count) (omega arith) ∙ r.elsewhere n ∙ e)

pub somewhere_by : (v : Vector) (t : Tree) (count : ℕ) (bits : BitSet) → SaysWhere v t count bits
    → ((j : ℕ) × IsTrue (bit_value count bits j)) ↔ HoldsSomewhere v t
somewhere_by v t count bits r = (λ h. (pos h.0, sym (r.here h.0) ∙ h.1), λ h. at_place v t count bits r h.0 h.1)

-- the bit sets that are left when one is taken off
pub pop_wide : (count : ℕ) (old new : List BitSet) (bits : BitSet) → old ≡ new ++ bits ∷ [] → All (IsWide count) old
    → All (IsWide count) new × IsWide count bits
pop_wide count old new bits e a =
    let b = subst (λ (l : List BitSet). All (IsWide count) l) e a in (
      λ k d h. subst (λ (r : BitSet). IsWide count r) (get_or_append_left new (bits ∷ []) d k h)
          (b k d (let n = length-append new (bits ∷ []) in omega arith)),
      subst (λ (r : BitSet). IsWide count r) (get_or_push new bits bits (length new) refl)
          (b (length new) bits (let n = length-append new (bits ∷ []) in omega arith)),
    )

pub push_wide : (count : ℕ) (old new : List BitSet) (bits : BitSet) → reverse new ≡ bits ∷ reverse old
    → All (IsWide count) old → IsWide count bits → All (IsWide count) new
push_wide count old new bits e a w = subst (λ (l : List BitSet). All (IsWide count) l) (sym (pushed old new bits e))
    (All-push (IsWide count) old bits a w)

-- the last of one bit set
pub last_one : (bit_sets : List BitSet) (bits x : BitSet) → bit_sets ≡ bits ∷ []
    → Some x ≡ slice_get bit_sets (length bit_sets - 1) → x ≡ bits
last_one bit_sets bits x e h = let k : Some x ≡ slice_get (bits ∷ []) (length (bits ∷ []) - 1) =
    subst (λ (l : List BitSet). Some x ≡ slice_get l (length l - 1)) e h in cc
