-- A walk over the entries of a vector, and the places of operands to which it comes.
use Rattle.std.proofs.Common.{◌≡◌, ◌≢◌, ℕ, suc, ◌+◌, ◌-◌, ◌<◌, ◌≤◌, true, false, eqb, Option, None, Some, List, [], ◌∷◌}
use Rattle.std.proofs.Common.{length, get_or, set, get_or-set_same, get_or-set_other, drop, ◌⊎◌, inl, inr, refl, sym}
use Rattle.std.proofs.Common.{ap, subst, ◌∙◌, arith}
use Rattle.std.specs.Prelude.{IfSome}
use Rattle.std.specs.Ordering.{nat_cmp}
use Rattle.std.specs.Cmp.Lexicographic.{slice_cmp}
use Rattle.std.specs.declared.cmp.Ordering.{Ordering}
use Rattle.std.specs.declared.cmp.Ordering.TheVariants.{Less, Equal, Greater}
use Rattle.std.proofs.lemmas.Bool.{cases_lt, cases_Bool, eqb-true, eq-eqb}
use Rattle.std.proofs.lemmas.List.{length-set}
use Rattle.ts_base.specs.Lexemes.{IsBefore}
use Rattle.ts_base.specs.Vectors.{Entry, Vector, IsNormal}
use Rattle.ts_query.specs.declared.query.Operand.{Operand}
use Rattle.ts_match.specs.declared.pass.Bounds.{Bounds}
use Rattle.ts_match.specs.declared.pass.Side.{Side}
use Rattle.ts_match.specs.declared.pass.Side.TheVariants.{First, End}
use Rattle.ts_match.specs.declared.pass.Walk.{Walk}
use Rattle.ts_match.specs.Meaning.{names}
use Rattle.ts_match.specs.Inner.Ranges.{NamesRange}
use Rattle.ts_match.specs.Inner.Pass.{IsShort, AreShort, Splits, IsAt, IsBounds, AreBounds}
use Rattle.ts_match.proofs.Lists.{passing_part}
use Rattle.ts_match.proofs.Lookups.{nothing, false_from}
use Rattle.ts_match.proofs.Order.{before_trans}
use Rattle.ts_match.proofs.Walks.{drop_head, drop_none, before_unnamed, behind_unnamed}

less_or : (r : Ordering) → (r ≡ Less) ⊎ (r ≡ Less → ⊥)
less_or Less = inl refl
less_or Equal = inr (λ e. cc)
less_or Greater = inr (λ e. cc)

named_closed : (o : Operand) (a b : List ℕ) → IsBefore a b → names o b ≡ true → IsShort o End a
named_closed o a b h n = elim (less_or (slice_cmp nat_cmp a o.lexeme)) [
  | inl e ↦ inl e
  | inr f ↦ elim (cases_Bool (names o a)) [
    | inl t ↦ inr t
    | inr u ↦ absurd (let z = sym (behind_unnamed o a b f u h) ∙ n in let x : ⊥ = cc in x)
  ]
]

-- what is before something short is short
pub short_closed : (o : Operand) (s : Side) (a b : List ℕ) → IsBefore a b → IsShort o s b → IsShort o s a
short_closed o First a b h k = before_trans a b o.lexeme h k
short_closed o End a b h k = elim k [ inl e ↦ inl (before_trans a b o.lexeme h e) | inr n ↦ named_closed o a b h n ]

-- all up to a short one are short
pub short_up_to : (v : Vector) (o : Operand) (s : Side) (i : ℕ) (l : List ℕ) → IsNormal v → i < length v
    → ((d : Entry) → (get_or v i d).lexeme ≡ l) → IsShort o s l → AreShort v o s (i + 1)
short_up_to v o s i l normal w is h = λ k d m. elim (cases_lt k i) [
  | inl q ↦
      let r : IsBefore (get_or v k d).lexeme (get_or v i d).lexeme = normal.rising k i d q w in
      short_closed o s (get_or v k d).lexeme l (subst (λ (x : List ℕ). IsBefore (get_or v k d).lexeme x) (is d) r) h
  | inr q ↦
      let same : k ≡ i = omega arith in
      subst (λ (x : List ℕ). IsShort o s x) (sym (ap (λ j. (get_or v j d).lexeme) same ∙ is d)) h
]

-- none from one that is not short on is short
pub not_short_from : (v : Vector) (o : Operand) (s : Side) (i : ℕ) → IsNormal v
    → ((d : Entry) → IsShort o s (get_or v i d).lexeme → ⊥) → (k : ℕ) (d : Entry) → i ≤ k → k < length v
    → IsShort o s (get_or v k d).lexeme → ⊥
not_short_from v o s i normal n k d l m h = elim (cases_lt i k) [
  | inl q ↦
      let r : IsBefore (get_or v i d).lexeme (get_or v k d).lexeme = normal.rising i k d q m in
      n d (short_closed o s (get_or v i d).lexeme (get_or v k d).lexeme r h)
  | inr q ↦
      let same : k ≡ i = omega arith in
      n d (subst (λ j. IsShort o s (get_or v j d).lexeme) same h)
]

-- what is named lies between the two places
pub named_between : (v : Vector) (o : Operand) (i j : ℕ) → Splits v o First i → Splits v o End j
    → NamesRange v o (record { first = i; end = j })
named_between v o i j a b =
    let order : i ≤ j = elim (cases_lt j i) [
      | inl q ↦ absurd (b.above j nothing (omega arith) (let w = a.within in omega arith) (inl (a.below j nothing q)))
      | inr q ↦ q
    ] in
    let e : i + (j - i) ≡ j = omega arith in record {
      ordered = order;
      within = b.within;
      named = passing_part (λ (x : Entry). names o x.lexeme) v i (j - i) (let w = b.within in omega arith)
          (λ k d l. before_unnamed o (get_or v k d).lexeme (a.below k d l))
          (λ k d l m. elim (b.below k d (omega arith)) [
            | inl h ↦ absurd (a.above k d l (let w = b.within in omega arith) h)
            | inr n ↦ n
          ])
          (λ k d l m. false_from (names o (get_or v k d).lexeme) (λ t. b.above k d (omega arith) m (inr t)));
    }

some_or : {X : Type 0} (a : Option X) → (a ≡ None) ⊎ ((x : X) × (a ≡ Some x))
some_or None = inl refl
some_or (Some x) = inr (x, refl)

-- the entry that was reached
pub record Reached (v : Vector) (w : Walk) : Type 0 where
  pub entry : Entry
  pub left : 0 < w.left
  pub is : (d : Entry) → get_or v (length v - w.left) d ≡ entry
  pub others : drop (suc (length v - w.left)) v ≡ w.rest
  pub is_lexeme : (l : _) → w.ahead ≡ Some l → l.now ≡ entry.lexeme

pub reached : (v : Vector) (w : Walk) (l : _) → IsAt v w → w.ahead ≡ Some l → Reached v w
reached v w l a e =
    let f = a.ahead l e in
    let h = drop_head v (length v - w.left) f.0 w.rest f.1 in record {
      entry = f.0;
      left = (let i = h.within in omega arith);
      is = h.is;
      others = h.others;
      is_lexeme = λ m g. (let x = sym e ∙ g in subst (λ a. IfSome a (λ y. y.now ≡ (f.0).lexeme)) g
          (subst (λ a. IfSome a (λ y. y.now ≡ (f.0).lexeme)) (sym e) f.2));
    }

pub reached_some : (v : Vector) (w : Walk) → IsAt v w → 0 < w.left → Reached v w
reached_some v w a h = elim (some_or w.ahead) [
  | inl n ↦ absurd (let z = a.at_end n in omega arith)
  | inr s ↦ reached v w s.0 a s.1
]

pub started : (v : Vector) (w : Walk) (rest : Vector) → rest ≡ v → w.left ≡ length v → w.behind ≡ None
    → IfSome w.ahead (λ l. (e : Entry) × (rest ≡ e ∷ w.rest) × (l.now ≡ e.lexeme)) → (w.ahead ≡ None → rest ≡ [])
    → IsAt v w
started v w rest is left behind some none =
    let zero : length v - w.left ≡ 0 = omega arith in record {
      within = omega arith;
      ahead = λ l e.
          let f = subst (λ a. IfSome a (λ m. (e : Entry) × (rest ≡ e ∷ w.rest) × (m.now ≡ e.lexeme))) e some in
          (f.0, ap (λ n. drop n v) zero ∙ sym is ∙ f.1, f.2);
      at_end = λ e. left ∙ ap length (sym is ∙ none e);
      behind = λ l e. absurd (let q = sym behind ∙ e in let z : ⊥ = cc in z);
      fresh = λ e. left;
    }

pub stepped : (v : Vector) (w x : Walk) → IsAt v w → 0 < w.left → x.left ≡ w.left - 1 → x.behind ≡ w.ahead
    → IfSome x.ahead (λ l. (e : Entry) × (w.rest ≡ e ∷ x.rest) × (l.now ≡ e.lexeme)) → (x.ahead ≡ None → w.rest ≡ [])
    → IsAt v x
stepped v w x a pos left behind some none =
    let r = reached_some v w a pos in
    let within = a.within in
    let next : length v - x.left ≡ suc (length v - w.left) = omega arith in
    let last : (length v - x.left) - 1 ≡ length v - w.left = omega arith in record {
      within = omega arith;
      ahead = λ l e.
          let f = subst (λ a. IfSome a (λ m. (e : Entry) × (w.rest ≡ e ∷ x.rest) × (m.now ≡ e.lexeme))) e some in
          (f.0, ap (λ n. drop n v) next ∙ r.others ∙ f.1, f.2);
      at_end = λ e. (let h = drop_none v (suc (length v - w.left)) (r.others ∙ none e) in omega arith);
      behind = λ l e. (
        omega arith,
        λ d. ap (λ n. (get_or v n d).lexeme) last ∙ ap (λ (y : Entry). y.lexeme) (r.is d)
            ∙ sym (r.is_lexeme l (sym behind ∙ e)),
      );
      fresh = λ e. absurd (let z = a.at_end (sym behind ∙ e) in omega arith);
    }

-- one operand's bounds anew
pub set_bounds : (v : Vector) (os : List Operand) (bs : List Bounds) (k : ℕ) (x : Bounds) → k < length bs
    → AreBounds v os bs → ((o : Operand) → k < length os → IsBounds v (get_or os k o) x) → AreBounds v os (set bs k x)
set_bounds v os bs k x w all new = λ j o b l m. elim (cases_Bool (eqb j k)) [
  | inl t ↦
      let e = eqb-true j k t in
      let a : IsBounds v (get_or os j o) x = subst (λ i. IsBounds v (get_or os i o) x) (sym e) (new o (omega arith)) in
      subst (λ (y : Bounds). IsBounds v (get_or os j o) y)
      (sym (ap (λ i. get_or (set bs k x) i b) e ∙ get_or-set_same bs k x b w)) a
  | inr t ↦
      let n : j ≢ k = λ e. (let q = eq-eqb j k e in let z : ⊥ = cc in z) in
      let s : j < length bs = subst (λ i. j < i) (length-set bs k x) m in
      rw get_or-set_other (all j o b l s)
]

some_is : (a b : ℕ) → Some a ≡ Some b → a ≡ b
some_is a b e = cc

pub first_bound : (v : Vector) (o : Operand) (b : Bounds) (i : ℕ) → IsBounds v o b → Splits v o First i
    → IsBounds v o (record { first = Some i; end = b.end })
first_bound v o b i old new =
    record { first = λ j e. subst (λ n. Splits v o First n) (some_is i j e) new; end = old.end }

pub end_bound : (v : Vector) (o : Operand) (b : Bounds) (i : ℕ) → IsBounds v o b → Splits v o End i
    → IsBounds v o (record { first = b.first; end = Some i })
end_bound v o b i old new = record { first = old.first; end = λ j e. subst (λ n. Splits v o End n) (some_is i j e) new }

pub unknown_bounds : (v : Vector) (o : Operand) → IsBounds v o (record { first = None; end = None })
unknown_bounds v o = record { first = λ j e. absurd (let z : ⊥ = cc in z); end = λ j e. absurd (let z : ⊥ = cc in z) }

pub before_is_short : (o : Operand) (s : Side) (l : List ℕ) → IsBefore l o.lexeme → IsShort o s l
before_is_short o First l h = h
before_is_short o End l h = inl h

pub not_first : (o : Operand) (s : Side) (l : List ℕ) → s ≡ First → (IsBefore l o.lexeme → ⊥) → IsShort o s l → ⊥
not_first o s l e n h = n (subst (λ x. IsShort o x l) e h)

pub named_at_end : (o : Operand) (s : Side) (l : List ℕ) → s ≡ End → names o l ≡ true → IsShort o s l
named_at_end o s l e n = subst (λ x. IsShort o x l) (sym e) (inr n)

pub not_end : (o : Operand) (s : Side) (l : List ℕ) → s ≡ End → (IsBefore l o.lexeme → ⊥) → names o l ≡ false
    → IsShort o s l → ⊥
not_end o s l e n f h =
    elim (subst (λ x. IsShort o x l) e h) [ inl q ↦ n q | inr q ↦ (let z = sym f ∙ q in let x : ⊥ = cc in x) ]

-- one entry more was passed
pub passed_short : (v : Vector) (o : Operand) (s : Side) (w : Walk) (left : ℕ) → IsNormal v → IsAt v w
    → (e : Entry) × ((d : Entry) → get_or v (length v - w.left) d ≡ e) × (0 < w.left) × IsShort o s e.lexeme
    → left ≡ w.left - 1 → AreShort v o s (length v - left)
passed_short v o s w left n a y e =
    let i : (length v - w.left) + 1 ≡ length v - left = (let t = a.within in let p = y.2 in omega arith) in
    subst (λ k. AreShort v o s k) i
    (short_up_to v o s (length v - w.left) (y.0).lexeme n (let t = a.within in let p = y.2 in omega arith)
    (λ d. ap (λ (x : Entry). x.lexeme) (y.1 d)) y.3)

-- the walk has come to the first entry that is not short
pub splits_at : (v : Vector) (o : Operand) (s : Side) (w : Walk) → IsNormal v → IsAt v w
    → AreShort v o s (length v - w.left)
    → (0 < w.left → (d : Entry) → IsShort o s (get_or v (length v - w.left) d).lexeme → ⊥)
    → Splits v o s (length v - w.left)
splits_at v o s w n a short first = record {
  within = omega arith;
  below = short;
  above = λ k d l m h. not_short_from v o s (length v - w.left) n (first (omega arith)) k d l m h;
}
