-- Searches by halving for the lexemes that an operand names.
use Rattle.std.proofs.Common.{◌≡◌, ◌≢◌, ℕ, ◌+◌, ◌<◌, ◌≤◌, Bool, true, false, List, length, get_or, inl, inr, refl}
use Rattle.std.proofs.Common.{subst, arith}
use Rattle.std.specs.Prelude.{AllPairs, nat_eq}
use Rattle.std.specs.List.{starts_with}
use Rattle.std.specs.Ordering.{nat_cmp}
use Rattle.std.specs.Cmp.Lexicographic.{slice_cmp}
use Rattle.std.specs.declared.cmp.Ordering.TheVariants.{Less}
use Rattle.std.proofs.lemmas.Bool.{cases_lt, both_ways}
use Rattle.ts_base.specs.Lexemes.{IsBefore}
use Rattle.ts_base.specs.Vectors.{Entry, Vector}
use Rattle.ts_match.proofs.Order.{before_trans, between_prefix}

abbrev pub Sorted : Vector → Type 0
Sorted v = AllPairs (λ a b. IsBefore a.lexeme b.lexeme) v

-- the first lexeme that is not before x is sought: those below `low` are before it, those from `high` on are not
pub record Halved (v : Vector) (x : List ℕ) (low high : ℕ) : Type 0 where
  pub ordered : low ≤ high
  pub within : high ≤ length v
  pub below : (k : ℕ) (d : Entry) → k < low → IsBefore (get_or v k d).lexeme x
  pub above : (k : ℕ) (d : Entry) → high ≤ k → k < length v → slice_cmp nat_cmp (get_or v k d).lexeme x ≢ Less

-- the end of those that begin with p is sought, from `first` on
pub record Begun (v : Vector) (p : List ℕ) (first low high : ℕ) : Type 0 where
  pub from : first ≤ low
  pub ordered : low ≤ high
  pub within : high ≤ length v
  pub begin : (k : ℕ) (d : Entry) → first ≤ k → k < low → starts_with nat_eq (get_or v k d).lexeme p ≡ true
  pub behind : (k : ℕ) (d : Entry) → high ≤ k → k < length v → starts_with nat_eq (get_or v k d).lexeme p ≡ false

false_from : (b : Bool) → (b ≡ true → ⊥) → b ≡ false
false_from true n = absurd (n refl)
false_from false n = refl

module _ (v : Vector) (sorted : Sorted v) (x : List ℕ) where
  pub halved_right : (low high m : ℕ) → Halved v x low high → m < high
      → ((d : Entry) → IsBefore (get_or v m d).lexeme x) → Halved v x (m + 1) high
  halved_right low high m h lm b = record {
    ordered = omega arith;
    within = h.within;
    below = λ k d l. elim (cases_lt k m) [
      | inl q ↦ before_trans (get_or v k d).lexeme (get_or v m d).lexeme x
          (sorted k m d q (let n = h.within in omega arith)) (b d)
      | inr q ↦ subst (λ (j : ℕ). IsBefore (get_or v j d).lexeme x) (let e : m ≡ k = omega arith in e) (b d)
    ];
    above = h.above;
  }

  pub halved_left : (low high m : ℕ) → Halved v x low high → low ≤ m → m < high
      → ((d : Entry) → slice_cmp nat_cmp (get_or v m d).lexeme x ≢ Less) → Halved v x low m
  halved_left low high m h ml lm b = record {
    ordered = ml;
    within = let n = h.within in omega arith;
    below = h.below;
    above = λ k d l lk e. elim (cases_lt m k) [
      | inl q ↦ b d (before_trans (get_or v m d).lexeme (get_or v k d).lexeme x (sorted m k d q lk) e)
      | inr q ↦ b d
          (subst (λ (j : ℕ). slice_cmp nat_cmp (get_or v j d).lexeme x ≡ Less) (let s : k ≡ m = omega arith in s) e)
    ];
  }

  pub begun_right : (first low high m : ℕ) → Begun v x first low high
      → ((k : ℕ) (d : Entry) → first ≤ k → k < length v → slice_cmp nat_cmp (get_or v k d).lexeme x ≢ Less)
      → low ≤ m → m < high → ((d : Entry) → starts_with nat_eq (get_or v m d).lexeme x ≡ true)
      → Begun v x first (m + 1) high
  begun_right first low high m h above ml lm b = record {
    from = let n = h.from in omega arith;
    ordered = omega arith;
    within = h.within;
    begin = λ k d f l. elim (cases_lt k m) [
      | inl q ↦ between_prefix x (get_or v k d).lexeme (get_or v m d).lexeme
          (above k d f (let n = h.within in omega arith)) (sorted k m d q (let n = h.within in omega arith)) (b d)
      | inr q ↦ subst (λ (j : ℕ). starts_with nat_eq (get_or v j d).lexeme x ≡ true) (let e : m ≡ k = omega arith in e)
          (b d)
    ];
    behind = h.behind;
  }

  pub begun_left : (first low high m : ℕ) → Begun v x first low high
      → ((k : ℕ) (d : Entry) → first ≤ k → k < length v → slice_cmp nat_cmp (get_or v k d).lexeme x ≢ Less)
      → low ≤ m → m < high → ((d : Entry) → starts_with nat_eq (get_or v m d).lexeme x ≡ false) → Begun v x first low m
  begun_left first low high m h above ml lm b = record {
    from = h.from;
    ordered = ml;
    within = let n = h.within in omega arith;
    begin = h.begin;
    behind = λ k d l lk. elim (cases_lt m k) [
      | inl q ↦ false_from _ (λ t. both_ways (starts_with nat_eq (get_or v m d).lexeme x) (b d)
          (between_prefix x (get_or v m d).lexeme (get_or v k d).lexeme
          (above m d (let n = h.from in omega arith) (let n = h.within in omega arith)) (sorted m k d q lk) t))
      | inr q ↦ subst (λ (j : ℕ). starts_with nat_eq (get_or v j d).lexeme x ≡ false) (let e : m ≡ k = omega arith in e)
          (b d)
    ];
  }
