-- What an operand finds in an encoded vector, walked from its beginning.
use Rattle.std.proofs.Common.{◌≡◌, ℕ, zero, suc, ◌+◌, ◌-◌, ◌<◌, ◌≤◌, Bool, true, false, ◌&&◌, ◌||◌, eqb, nat_eq, List}
use Rattle.std.proofs.Common.{[], ◌∷◌, ◌++◌, length, get_or, take, drop, inl, inr, refl, sym, ap, subst, ◌∙◌, arith}
use Rattle.std.specs.Prelude.{Contains}
use Rattle.std.specs.List.{list_any, list_all, flat_map, starts_with, slice_range}
use Rattle.std.specs.Cmp.Lexicographic.{pointwise, bytes_decides}
use Rattle.std.proofs.lemmas.Bool.{cases_lt, ne_eqb}
use Rattle.std.proofs.Math.Seq.{take-length}
use Rattle.ts_base.specs.Lexemes.{IsBefore}
use Rattle.ts_base.specs.Vectors.{Position, Entry, Vector, IsNormal}
use Rattle.ts_query.specs.declared.query.Operand.{Operand}
use Rattle.ts_match.specs.Meaning.{names}
use Rattle.ts_match.specs.Inner.Ranges.{NamesRange}
use Rattle.ts_match.specs.Laws.Elements.{Contains-here, Contains-there}
use Rattle.ts_match.proofs.Lists.{Contains-flat_map, from_flat_map, from_part, in_part, passing_part}
use Rattle.ts_match.proofs.Order.{not_before_itself, before_trans, prefix_first, between_prefix}
use Rattle.ts_match.proofs.Lookups.{false_from}

-- the first that is left of a list
pub record DropHead {X : Type 0} (xs : List X) (k : ℕ) (x : X) (rest : List X) : Type 0 where
  pub within : k < length xs
  pub is : (d : X) → get_or xs k d ≡ x
  pub others : drop (suc k) xs ≡ rest

pub drop_head : {X : Type 0} (xs : List X) (k : ℕ) (x : X) (rest : List X) → drop k xs ≡ x ∷ rest → DropHead xs k x rest
drop_head [] zero x rest e = absurd (let z : ⊥ = cc in z)
drop_head [] (suc k) x rest e = absurd (let z : ⊥ = cc in z)
drop_head (y ∷ ys) zero x rest e = record { within = omega arith; is = λ d. cc; others = cc }
drop_head (y ∷ ys) (suc k) x rest e = let h = drop_head ys k x rest e in
    record { within = (let w = h.within in omega arith); is = h.is; others = h.others }

pub to_prefix : (o : Operand) (l : List ℕ) → o.prefix ≡ true → names o l ≡ starts_with nat_eq l o.lexeme
to_prefix o l e = rw e refl

pub to_word : (o : Operand) (l : List ℕ) → o.prefix ≡ false → names o l ≡ pointwise nat_eq l o.lexeme
to_word o l e = rw e refl

-- what is named is not before the operand's lexeme, and nothing after what is neither is named
named_cases : (o : Operand) (l : List ℕ) (b : Bool) → o.prefix ≡ b → names o l ≡ true → IsBefore l o.lexeme → ⊥
named_cases o l true e n h = prefix_first o.lexeme l (sym (to_prefix o l e) ∙ n) h
named_cases o l false e n h =
    let same : l ≡ o.lexeme = (bytes_decides l o.lexeme).0 (sym (to_word o l e) ∙ n) in
    not_before_itself o.lexeme (subst (λ (x : List ℕ). IsBefore x o.lexeme) same h)

pub named_not_before : (o : Operand) (l : List ℕ) → names o l ≡ true → IsBefore l o.lexeme → ⊥
named_not_before o l n h = named_cases o l o.prefix refl n h

pub before_unnamed : (o : Operand) (l : List ℕ) → IsBefore l o.lexeme → names o l ≡ false
before_unnamed o l h = false_from (names o l) (λ n. named_not_before o l n h)

behind_cases : (o : Operand) (l k : List ℕ) (b : Bool) → o.prefix ≡ b → (IsBefore l o.lexeme → ⊥) → names o l ≡ false
    → IsBefore l k → names o k ≡ true → ⊥
behind_cases o l k true e n f h t =
    let s = between_prefix o.lexeme l k n h (sym (to_prefix o k e) ∙ t) in
    let z = sym f ∙ to_prefix o l e ∙ s in
    (let x : ⊥ = cc in x)
behind_cases o l k false e n f h t =
    let same : k ≡ o.lexeme = (bytes_decides k o.lexeme).0 (sym (to_word o k e) ∙ t) in
    n (subst (λ (x : List ℕ). IsBefore l x) same h)

pub behind_unnamed : (o : Operand) (l k : List ℕ) → (IsBefore l o.lexeme → ⊥) → names o l ≡ false → IsBefore l k
    → names o k ≡ false
behind_unnamed o l k n f h = false_from (names o k) (λ t. behind_cases o l k o.prefix refl n f h t)

-- the walk up to `end`: those below `first` are before what is named, the others are named
pub record Walked (v : Vector) (o : Operand) (first end : ℕ) (left : Vector) : Type 0 where
  pub tail : left ≡ drop end v
  pub order : first ≤ end
  pub within : end ≤ length v
  pub below : (k : ℕ) (d : Entry) → k < first → IsBefore (get_or v k d).lexeme o.lexeme
  pub named : (k : ℕ) (d : Entry) → first ≤ k → k < end → names o (get_or v k d).lexeme ≡ true

pub walk_from : (v : Vector) (o : Operand) (left : Vector) → left ≡ v → Walked v o 0 0 left
walk_from v o left e = record {
  tail = e;
  order = omega arith;
  within = omega arith;
  below = λ k d l. absurd (omega arith);
  named = λ k d l m. absurd (omega arith);
}

module _ (v : Vector) (o : Operand) (first end : ℕ) (left : Vector) (x : Entry) (rest : Vector) (normal : IsNormal v)
    (w : Walked v o first end left) (e : left ≡ x ∷ rest) where
  head : DropHead v end x rest
  head = drop_head v end x rest (sym w.tail ∙ e)

  more : rest ≡ drop (end + 1) v
  more = let i : end + 1 ≡ suc end = omega arith in sym (ap (λ n. drop n v) i ∙ head.others)

  all_before : IsBefore x.lexeme o.lexeme → (k : ℕ) (d : Entry) → k < end → IsBefore (get_or v k d).lexeme o.lexeme
  all_before h k d l = elim (cases_lt k first) [
    | inl q ↦ w.below k d q
    | inr q ↦ absurd (
        let n = w.named k d q l in
        let r : IsBefore (get_or v k d).lexeme (get_or v end d).lexeme = normal.rising k end d l head.within in
        let s = subst (λ (y : Entry). IsBefore (get_or v k d).lexeme y.lexeme) (head.is d) r in
        named_not_before o (get_or v k d).lexeme n (before_trans (get_or v k d).lexeme x.lexeme o.lexeme s h))
  ]

  pub walk_before : IsBefore x.lexeme o.lexeme → Walked v o (end + 1) (end + 1) rest
  walk_before h = record {
    tail = more;
    order = omega arith;
    within = (let i = head.within in omega arith);
    below = λ k d l. elim (cases_lt k end) [
      | inl q ↦ all_before h k d q
      | inr q ↦
          let same : k ≡ end = omega arith in
          subst (λ (y : Entry). IsBefore y.lexeme o.lexeme) (sym (ap (λ i. get_or v i d) same ∙ head.is d)) h
    ];
    named = λ k d l m. absurd (omega arith);
  }

  pub walk_named : names o x.lexeme ≡ true → Walked v o first (end + 1) rest
  walk_named n = record {
    tail = more;
    order = (let i = w.order in omega arith);
    within = (let i = head.within in omega arith);
    below = w.below;
    named = λ k d l m. elim (cases_lt k end) [
      | inl q ↦ w.named k d l q
      | inr q ↦
          let same : k ≡ end = omega arith in
          subst (λ (y : Entry). names o y.lexeme ≡ true) (sym (ap (λ i. get_or v i d) same ∙ head.is d)) n
    ];
  }

  pub walk_behind : (IsBefore x.lexeme o.lexeme → ⊥) → names o x.lexeme ≡ false → (k : ℕ) (d : Entry) → end ≤ k
      → k < length v → names o (get_or v k d).lexeme ≡ false
  walk_behind n f k d l m = elim (cases_lt end k) [
    | inl q ↦
        let r : IsBefore (get_or v end d).lexeme (get_or v k d).lexeme = normal.rising end k d q m in
        behind_unnamed o x.lexeme (get_or v k d).lexeme n f
        (subst (λ (y : Entry). IsBefore y.lexeme (get_or v k d).lexeme) (head.is d) r)
    | inr q ↦
        let same : k ≡ end = omega arith in
        subst (λ (y : Entry). names o y.lexeme ≡ false) (sym (ap (λ i. get_or v i d) same ∙ head.is d)) f
  ]

pub walked_range : (v : Vector) (o : Operand) (first end : ℕ) (left : Vector) → Walked v o first end left
    → ((k : ℕ) (d : Entry) → end ≤ k → k < length v → names o (get_or v k d).lexeme ≡ false)
    → NamesRange v o (record { first = first; end = end })
walked_range v o first end left w b =
    let e : first + (end - first) ≡ end = (let i = w.order in omega arith) in record {
      ordered = w.order;
      within = w.within;
      named = passing_part (λ (x : Entry). names o x.lexeme) v first (end - first) (let i = w.within in omega arith)
          (λ k d l. before_unnamed o (get_or v k d).lexeme (w.below k d l)) (λ k d l m. w.named k d l (omega arith))
          (λ k d l m. b k d (omega arith) m);
    }

pub drop_none : {X : Type 0} (xs : List X) (k : ℕ) → drop k xs ≡ [] → length xs ≤ k
drop_none [] k e = omega arith
drop_none (x ∷ xs) zero e = absurd (let z : ⊥ = cc in z)
drop_none (x ∷ xs) (suc k) e = let i = drop_none xs k e in omega arith

pub walked_all : (v : Vector) (o : Operand) (first end count : ℕ) (left : Vector) → Walked v o first end left
    → left ≡ [] → count ≡ length v → NamesRange v o (record { first = first; end = count })
walked_all v o first end count left w e c =
    let all = drop_none v end (sym w.tail ∙ e) in
    let same : end ≡ count = (let i = w.within in omega arith) in
    subst (λ (n : ℕ). NamesRange v o (record { first = first; end = n })) same
    (walked_range v o first end left w (λ k d l m. absurd (omega arith)))

-- an index below those of a walk can be counted
pub walk_short : (v : Vector) (o : Operand) (first end count : ℕ) (left : Vector) (x : Entry) (rest : Vector)
    → Walked v o first end left → left ≡ x ∷ rest → count ≡ length v → end < count
walk_short v o first end count left x rest w e c =
    let h = drop_head v end x rest (sym w.tail ∙ e) in let i = h.within in omega arith

-- the positions of the entries from a on and below b
abbrev pub positions_in : Vector → ℕ → ℕ → List Position
positions_in v a b = flat_map (λ (e : Entry). e.positions) (slice_range v a b)

pub into_positions : (v : Vector) (a b i : ℕ) (d : Entry) (p : Position) → b ≤ length v → a ≤ i → i < b
    → Contains (get_or v i d).positions p → Contains (positions_in v a b) p
into_positions v a b i d p w l m h =
    Contains-flat_map (λ (e : Entry). e.positions) (slice_range v a b) (get_or v i d) p (in_part v a b i d w l m) h

-- where a position comes from
pub record ComesFrom (v : Vector) (a b : ℕ) (p : Position) : Type 0 where
  pub index : ℕ
  pub from : a ≤ index
  pub below : index < b
  pub entry : Entry
  pub there : Contains (get_or v index entry).positions p

pub from_positions : (v : Vector) (a b : ℕ) (p : Position) → b ≤ length v → Contains (positions_in v a b) p
    → ComesFrom v a b p
from_positions v a b p w h =
    let r = from_flat_map (λ (e : Entry). e.positions) (slice_range v a b) p h in
    let s = from_part v a b r.element w r.there in record {
      index = s.index;
      from = s.from;
      below = s.below;
      entry = r.element;
      there = subst (λ (e : Entry). Contains e.positions p) (sym s.is) r.in_it;
    }

-- one element more of a list that is walked
pub any_next : {X : Type 0} (test : X → Bool) (xs ys : List X) (x : X) → xs ≡ x ∷ ys → test x ≡ false
    → list_any test ys ≡ list_any test xs
any_next test xs ys x e f = sym (ap (list_any test) e ∙ ap (λ b. b || list_any test ys) f)

pub any_found : {X : Type 0} (test : X → Bool) (xs ys : List X) (x : X) → xs ≡ x ∷ ys → test x ≡ true
    → list_any test xs ≡ true
any_found test xs ys x e t = ap (list_any test) e ∙ ap (λ b. b || list_any test ys) t

pub first_in : {X : Type 0} (xs ys : List X) (x : X) → xs ≡ x ∷ ys → Contains xs x
first_in xs ys x e = subst (λ zs. Contains zs x) (sym e) (Contains-here x ys)

pub others_in : {X : Type 0} (xs ys : List X) (x y : X) → xs ≡ x ∷ ys → Contains ys y → Contains xs y
others_in xs ys x y e h = subst (λ zs. Contains zs y) (sym e) (Contains-there x y ys h)

-- whether no entry has a position
abbrev pub bare : Entry → Bool
bare e = eqb (length e.positions) 0

bare_first : (ps others : List Position) → ps ++ others ≡ [] → (eqb (length ps) 0 ≡ true) × (others ≡ [])
bare_first [] others h = (refl, h)
bare_first (p ∷ ps) others h = absurd (let x : ⊥ = cc in x)

pub all_bare : (v : Vector) → flat_map (λ (e : Entry). e.positions) v ≡ [] → list_all bare v ≡ true
all_bare [] h = refl
all_bare (e ∷ v) h =
    let b = bare_first e.positions (flat_map (λ (e : Entry). e.positions) v) h in rw b.0 (all_bare v b.1)

some_first : (ps others : List Position) (x : Position) (rest : List Position) (b : Bool) → ps ++ others ≡ x ∷ rest
    → (others ≡ x ∷ rest → b ≡ false) → (eqb (length ps) 0 && b) ≡ false
some_first [] others x rest b h k = k h
some_first (p ∷ ps) others x rest b h k = ap (λ c. c && b) (ne_eqb (length (p ∷ ps)) 0 (λ e. omega arith))

pub not_bare : (v : Vector) (x : Position) (rest : List Position) → flat_map (λ (e : Entry). e.positions) v ≡ x ∷ rest
    → list_all bare v ≡ false
not_bare [] x rest h = absurd (let z : ⊥ = cc in z)
not_bare (e ∷ v) x rest h = some_first e.positions (flat_map (λ (e : Entry). e.positions) v) x rest (list_all bare v) h
    (λ k. not_bare v x rest k)

-- those of all entries
pub all_positions : (v : Vector) (n : ℕ) → n ≡ length v → positions_in v 0 n ≡ flat_map (λ (e : Entry). e.positions) v
all_positions v n e =
    let k : n - 0 ≡ length v = omega arith in
    ap (λ m. flat_map (λ (x : Entry). x.positions) (take m v)) k
    ∙ ap (flat_map (λ (x : Entry). x.positions)) (take-length v)
