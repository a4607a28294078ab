-- Searches by halving, in positions and in lexemes.
use Rattle.std.proofs.Common.{◌≡◌, ◌≢◌, ℕ, ◌+◌, ◌<◌, ◌≤◌, Bool, false, ◌&&◌, eqb, List, length, get_or, inl, inr, refl}
use Rattle.std.proofs.Common.{sym, ap, ◌∙◌, arith}
use Rattle.std.specs.Prelude.{AllPairs}
use Rattle.std.specs.List.{list_any}
use Rattle.std.proofs.lemmas.Bool.{ne_eqb, eq-eqb, cases_lt}
use Rattle.std.proofs.lemmas.List.{get_or_read}
use Rattle.std.proofs.lemmas.List.Elements.{All-from_get_or}
use Rattle.std.proofs.lemmas.List.Folds.{list_any_none}
use Rattle.ts_base.specs.declared.Weights.{Weights}
use Rattle.ts_base.specs.Vectors.{Position}
use Rattle.ts_match.specs.Meaning.{fits}
use Rattle.ts_match.proofs.Lists.{only_at}

-- what is known of positions while a number is sought: those below `low` are below it, those from `high` on above it
pub record Between (low high at : ℕ) (positions : List Position) : Type 0 where
  pub ordered : low ≤ high
  pub within : high ≤ length positions
  pub below : (k : ℕ) (d : Position) → k < low → (get_or positions k d).at < at
  pub above : (k : ℕ) (d : Position) → high ≤ k → k < length positions → at < (get_or positions k d).at

abbrev pub here : ℕ → Weights → Position → Bool
here at w p = eqb p.at at && fits w p.weight

abbrev pub Rising : List Position → Type 0
Rising positions = AllPairs (λ p q. p.at < q.at) positions

module _ (positions : List Position) (rising : Rising positions) (at : ℕ) (w : Weights) where
  apart : (m k : ℕ) (x d : Position) → m < length positions → k < length positions → k ≢ m
      → (get_or positions m d).at ≡ at → here at w (get_or positions k d) ≡ false
  apart m k x d lm lk ne e = rw (ne_eqb (get_or positions k d).at at (λ q. elim (cases_lt k m) [
    | inl h ↦ let r = rising k m d h lm in omega arith
    | inr h ↦ let r = rising m k d (omega arith) lk in omega arith
  ])) refl

  pub found_here : (m : ℕ) (x : Position) → m < length positions → x ≡ get_or positions m x → x.at ≡ at
      → list_any (here at w) positions ≡ fits w x.weight
  found_here m x lm is e =
      only_at (here at w) positions m x lm
      (λ k lk ne. apart m k x x lm lk ne (ap (λ (p : Position). p.at) (sym is) ∙ e))
      ∙ ap (here at w) (sym is) ∙ rw (eq-eqb x.at at e) refl

  pub not_here : (low high : ℕ) (d : Position) → Between low high at positions → high ≤ low
      → list_any (here at w) positions ≡ false
  not_here low high d b met =
      list_any_none (here at w) positions (All-from_get_or (λ p. here at w p ≡ false) positions d (λ k lk.
      rw (ne_eqb (get_or positions k d).at at (λ q. elim (cases_lt k low) [
        | inl h ↦ let r = b.below k d h in omega arith
        | inr h ↦ let r = b.above k d (omega arith) lk in omega arith
      ])) refl))

  pub go_right : (low high m : ℕ) (x : Position) → Between low high at positions → m < high → x ≡ get_or positions m x
      → x.at < at → Between (m + 1) high at positions
  go_right low high m x b lm is lt = record {
    ordered = omega arith;
    within = b.within;
    below = λ k d h. let e = ap (λ (p : Position). p.at) (get_or_read positions m x
        (let l : m < length positions = let n = b.within in omega arith in l) is d) in elim (cases_lt k m) [
          | inl q ↦ let r = rising k m d q (let n = b.within in omega arith) in omega arith
          | inr q ↦ let same : k ≡ m = omega arith in let f = ap (λ j. (get_or positions j d).at) same in omega arith
        ];
    above = b.above;
  }

  pub go_left : (low high m : ℕ) (x : Position) → Between low high at positions → low ≤ m → m < high
      → x ≡ get_or positions m x → at < x.at → Between low m at positions
  go_left low high m x b ml lm is lt = record {
    ordered = ml;
    within = let n = b.within in omega arith;
    below = b.below;
    above = λ k d h lk. let e = ap (λ (p : Position). p.at) (get_or_read positions m x
        (let l : m < length positions = let n = b.within in omega arith in l) is d) in elim (cases_lt m k) [
          | inl q ↦ let r = rising m k d q lk in omega arith
          | inr q ↦ let same : k ≡ m = omega arith in let f = ap (λ j. (get_or positions j d).at) same in omega arith
        ];
  }
