-- What an operand finds in a vector.
use Rattle.std.proofs.Common.{◌≡◌, ◌≢◌, ℕ, suc, ◌+◌, ◌-◌, ◌<◌, ◌≤◌, Bool, true, false, ◌&&◌, ◌||◌, eqb, nat_eq, nat_lt}
use Rattle.std.proofs.Common.{List, [], ◌∷◌, length, get_or, filter, inl, inr, refl, sym, ap, subst, ◌∙◌, arith}
use Rattle.std.specs.Prelude.{Contains}
use Rattle.std.proofs.lemmas.List.{get_or_default}
use Rattle.std.specs.List.{list_any, flat_map, starts_with, slice_range}
use Rattle.std.specs.Cmp.Lexicographic.{pointwise, bytes_decides}
use Rattle.std.proofs.lemmas.Bool.{eqb-true, eq-eqb, ne_eqb, cases_Bool, cases_lt, lt-ltb, le-ltb}
use Rattle.ts_base.specs.Lexemes.{IsBefore}
use Rattle.ts_base.specs.Vectors.{Position, Entry, Vector}
use Rattle.ts_query.specs.declared.query.Operand.{Operand}
use Rattle.ts_match.specs.declared.ranges.EntryRange.{EntryRange}
use Rattle.ts_match.specs.declared.ranges.TheConstants.{FARTHEST}
use Rattle.ts_match.specs.Meaning.{names, asks_any, asks_for, fits, is_met, places}
use Rattle.ts_match.specs.Inner.Ranges.{NamesRange, stands_at}
use Rattle.ts_match.proofs.Lists.{any_agree, any_flat, any_filter, any_map, passing_part, part_length, from_filter}
use Rattle.ts_match.proofs.Lists.{from_flat_map, from_part}
use Rattle.ts_match.specs.Laws.Elements.{from_map}
use Rattle.ts_match.proofs.Order.{not_before_itself, prefix_first}
use Rattle.ts_match.proofs.Searches.{here}

pub false_from : (b : Bool) → (b ≡ true → ⊥) → b ≡ false
false_from true n = absurd (n refl)
false_from false n = refl

module _ (v : Vector) (o : Operand) (first end : ℕ) (from : first ≤ end) (within : end ≤ length v)
    (below : (k : ℕ) (d : Entry) → k < first → IsBefore (get_or v k d).lexeme o.lexeme) where
  of_prefix : (l : List ℕ) → o.prefix ≡ true → names o l ≡ starts_with nat_eq l o.lexeme
  of_prefix l e = rw e refl

  of_word : (l : List ℕ) → o.prefix ≡ false → names o l ≡ pointwise nat_eq l o.lexeme
  of_word l e = rw e refl

  parts : ((k : ℕ) (d : Entry) → k < first → names o (get_or v k d).lexeme ≡ false)
      → ((k : ℕ) (d : Entry) → first ≤ k → k < end → names o (get_or v k d).lexeme ≡ true)
      → ((k : ℕ) (d : Entry) → end ≤ k → k < length v → names o (get_or v k d).lexeme ≡ false)
      → NamesRange v o (record { first = first; end = end })
  parts a b c =
      let e : first + (end - first) ≡ end = omega arith in record {
        ordered = from;
        within = within;
        named = passing_part (λ (x : Entry). names o x.lexeme) v first (end - first) (omega arith) a
            (λ k d l m. b k d l (omega arith)) (λ k d l m. c k d (omega arith) m);
      }

  pub found_prefix : o.prefix ≡ true
      → ((k : ℕ) (d : Entry) → first ≤ k → k < end → starts_with nat_eq (get_or v k d).lexeme o.lexeme ≡ true)
      → ((k : ℕ) (d : Entry) → end ≤ k → k < length v → starts_with nat_eq (get_or v k d).lexeme o.lexeme ≡ false)
      → NamesRange v o (record { first = first; end = end })
  found_prefix e b c = parts
      (λ k d l. of_prefix (get_or v k d).lexeme e ∙ false_from (starts_with nat_eq (get_or v k d).lexeme o.lexeme)
      (λ t. prefix_first o.lexeme (get_or v k d).lexeme t (below k d l)))
      (λ k d l m. of_prefix (get_or v k d).lexeme e ∙ b k d l m)
      (λ k d l m. of_prefix (get_or v k d).lexeme e ∙ c k d l m)

  pub found_word : o.prefix ≡ false → ((k : ℕ) (d : Entry) → first ≤ k → k < end → (get_or v k d).lexeme ≡ o.lexeme)
      → ((k : ℕ) (d : Entry) → end ≤ k → k < length v → (get_or v k d).lexeme ≢ o.lexeme)
      → NamesRange v o (record { first = first; end = end })
  found_word e b c = parts
      (λ k d l. of_word (get_or v k d).lexeme e ∙ false_from (pointwise nat_eq (get_or v k d).lexeme o.lexeme) (λ t.
      not_before_itself o.lexeme (subst (λ (x : List ℕ). IsBefore x o.lexeme)
      ((bytes_decides (get_or v k d).lexeme o.lexeme).0 t) (below k d l))))
      (λ k d l m. of_word (get_or v k d).lexeme e ∙ (bytes_decides (get_or v k d).lexeme o.lexeme).1 (b k d l m))
      (λ k d l m. of_word (get_or v k d).lexeme e ∙ false_from (pointwise nat_eq (get_or v k d).lexeme o.lexeme)
      (λ t. c k d l m ((bytes_decides (get_or v k d).lexeme o.lexeme).0 t)))

-- the lexeme has a fitting position where `sum` says
abbrev pub meets_at : Operand → ℕ → Entry → Bool
meets_at o at e = list_any (here at o.weights) e.positions

swap_and : (a b : Bool) → (a && b) ≡ (b && a)
swap_and true true = refl
swap_and true false = refl
swap_and false true = refl
swap_and false false = refl

eqb_from : (a b c d : ℕ) → (a ≡ b → c ≡ d) → (c ≡ d → a ≡ b) → eqb a b ≡ eqb c d
eqb_from a b c d f g = elim (cases_Bool (eqb a b)) [
  | inl t ↦ t ∙ sym (eq-eqb c d (f (eqb-true a b t)))
  | inr n ↦ n ∙ sym (ne_eqb c d (λ e. let t = eq-eqb a b (g e) in let x : ⊥ = cc in x))
]

here_is : (o : Operand) (sum : ℕ) → FARTHEST ≤ sum → (p : Position)
    → (fits o.weights p.weight && eqb (p.at + FARTHEST) sum) ≡ here (sum - FARTHEST) o.weights p
here_is o sum h p =
    swap_and (fits o.weights p.weight) (eqb (p.at + FARTHEST) sum)
    ∙ ap (λ b. b && fits o.weights p.weight)
    (eqb_from (p.at + FARTHEST) sum p.at (sum - FARTHEST) (λ e. omega arith) (λ e. omega arith))

-- by the lexemes that are found
pub stands_by : (v : Vector) (o : Operand) (f : EntryRange) (sum : ℕ) → NamesRange v o f → FARTHEST ≤ sum
    → stands_at o v sum ≡ list_any (meets_at o (sum - FARTHEST)) (slice_range v f.first f.end)
stands_by v o f sum i h =
    any_map (λ p. eqb (p + FARTHEST) sum) (λ (p : Position). p.at) (filter (λ p. fits o.weights p.weight)
    (flat_map (λ (e : Entry). e.positions) (filter (λ e. names o e.lexeme) v)))
    ∙ any_filter (λ (p : Position). fits o.weights p.weight) (λ p. eqb (p.at + FARTHEST) sum)
    (flat_map (λ (e : Entry). e.positions) (filter (λ e. names o e.lexeme) v))
    ∙ any_agree (λ (p : Position). fits o.weights p.weight && eqb (p.at + FARTHEST) sum) (here (sum - FARTHEST)
    o.weights) (flat_map (λ (e : Entry). e.positions) (filter (λ e. names o e.lexeme) v)) (here_is o sum h)
    ∙ any_flat (here (sum - FARTHEST) o.weights) (λ (e : Entry). e.positions) (filter (λ e. names o e.lexeme) v)
    ∙ ap (λ es. list_any (meets_at o (sum - FARTHEST)) es) i.named

below_all : (ps : List ℕ) (sum : ℕ) → sum < FARTHEST → list_any (λ p. eqb (p + FARTHEST) sum) ps ≡ false
below_all [] sum h = refl
below_all (p ∷ ps) sum h = rw (ne_eqb (p + FARTHEST) sum (λ e. omega arith)) (below_all ps sum h)

pub stands_before : (v : Vector) (o : Operand) (sum : ℕ) → sum < FARTHEST → stands_at o v sum ≡ false
stands_before v o sum h = below_all (places o v) sum h

-- one of its positions has a weight that is asked for, if one is
abbrev pub weighs : Operand → Entry → Bool
weighs o e = asks_any o.weights || list_any (λ p. asks_for o.weights p.weight) e.positions

pub met_by : (v : Vector) (o : Operand) (f : EntryRange) → NamesRange v o f
    → is_met o v ≡ list_any (weighs o) (slice_range v f.first f.end)
met_by v o f i =
    sym (any_filter (λ (e : Entry). names o e.lexeme) (weighs o) v) ∙ ap (λ es. list_any (weighs o) es) i.named

all_pass : (o : Operand) (es : List Entry) → asks_any o.weights ≡ true → list_any (weighs o) es ≡ nat_lt 0 (length es)
all_pass o [] a = refl
all_pass o (e ∷ es) a = rw a (sym (lt-ltb 0 (suc (length es)) (omega arith)))

lt_from : (a b c d : ℕ) → (a < b → c < d) → (c < d → a < b) → nat_lt a b ≡ nat_lt c d
lt_from a b c d f g = elim (cases_lt a b) [
  | inl h ↦ lt-ltb a b h ∙ sym (lt-ltb c d (f h))
  | inr h ↦ elim (cases_lt c d)
      [ inl k ↦ (let n = g k in absurd (omega arith)) | inr k ↦ le-ltb a b h ∙ sym (le-ltb c d k) ]
]

pub met_any : (v : Vector) (o : Operand) (f : EntryRange) → NamesRange v o f → asks_any o.weights ≡ true
    → nat_lt f.first f.end ≡ is_met o v
met_any v o f i a = sym
    (met_by v o f i ∙ all_pass o (slice_range v f.first f.end) a ∙ ap (nat_lt 0) (part_length v f.first f.end i.within)
    ∙ lt_from 0 (f.end - f.first) f.first f.end (λ h. omega arith) (λ h. omega arith))

pub met_weighed : (v : Vector) (o : Operand) (f : EntryRange) → NamesRange v o f → asks_any o.weights ≡ false
    → is_met o v ≡ list_any (λ (e : Entry). list_any (λ (p : Position). asks_for o.weights p.weight) e.positions)
    (slice_range v f.first f.end)
met_weighed v o f i a =
    met_by v o f i ∙ any_agree (weighs o) (λ (e : Entry). list_any
    (λ (p : Position). asks_for o.weights p.weight) e.positions) (slice_range v f.first f.end)
    (λ e. ap (λ b. b || list_any (λ (p : Position). asks_for o.weights p.weight) e.positions) a)

pub nothing : Entry
nothing = record { lexeme = []; positions = [] }

-- where a place of an operand comes from
pub record StandsIn (v : Vector) (f : EntryRange) (p : ℕ) : Type 0 where
  pub index : ℕ
  pub from : f.first ≤ index
  pub below : index < f.end
  pub position : Position
  pub there : Contains (get_or v index nothing).positions position
  pub is : position.at ≡ p

pub stands_in : (v : Vector) (o : Operand) (f : EntryRange) (p : ℕ) → NamesRange v o f → Contains (places o v) p
    → StandsIn v f p
stands_in v o f p i h =
    let m = from_map (λ (x : Position). x.at) (filter (λ x. fits o.weights x.weight)
    (flat_map (λ (e : Entry). e.positions) (filter (λ e. names o e.lexeme) v))) p h in
    let q = from_filter (λ (x : Position). fits o.weights x.weight)
    (flat_map (λ (e : Entry). e.positions) (filter (λ e. names o e.lexeme) v)) m.element m.there in
    let r = from_flat_map (λ (e : Entry). e.positions) (filter (λ e. names o e.lexeme) v) m.element q in
    let s = from_part v f.first f.end r.element i.within (subst (λ es. Contains es r.element) i.named r.there) in
    record {
      index = s.index;
      from = s.from;
      below = s.below;
      position = m.element;
      there =
          let l : s.index < length v = let a = s.below in let b = i.within in omega arith in
          subst (λ (e : Entry). Contains e.positions m.element)
          (sym s.is ∙ get_or_default v s.index r.element nothing l) r.in_it;
      is = m.is;
    }
