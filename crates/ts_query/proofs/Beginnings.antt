-- Which tokens a byte can begin.
use Rattle.std.proofs.Common.{◌≡◌, ◌≢◌, ℕ, List, ◌∷◌, ◌⊎◌, refl, arith, inr}
use Rattle.ts_query.specs.Queries.{Joint}
use Rattle.ts_query.specs.Tokens.{QueryToken, closing, sign, bang, opening, Lex, space, not_sign, open_sign, close_sign}
use Rattle.ts_query.specs.Tokens.{and_sign, or_sign, phrase_sign, quoted, plain, escape, IsDelimiter}
use Rattle.ts_base.specs.Bytes.{IsWhite}
use Rattle.ts_query.specs.Inner.Frames.{Spot, IsDue}
use Rattle.ts_query.specs.Inner.Parsing.{Never}
use Rattle.ts_query.proofs.Climbs.{Begin, word_begins, bang_begins, open_begins}
use Rattle.ts_query.proofs.Stacks.{sign_never, close_due}
use Rattle.ts_query.proofs.Standing.{Starts}

-- an operator, or a closing bracket
pub data BehindOperand : QueryToken → Type 0 where
  sign_behind : (s : ℕ) (j : Joint) → BehindOperand (sign s j)
  close_behind : BehindOperand closing

pub behind_never : (s : Spot) (k : QueryToken) → IsDue s → BehindOperand k → Never s k
behind_never s k d (sign_behind a j) = sign_never s a j d
behind_never s k d close_behind = close_due s d

-- one of `&`, `)`, `|`, `<` and `:`
abbrev pub IsBehind : ℕ → Type 0
IsBehind c = (c ≡ 38) ⊎ ((c ≡ 41) ⊎ ((c ≡ 124) ⊎ ((c ≡ 60) ⊎ (c ≡ 58))))

-- such a byte between tokens begins no operand
pub behind_starts : (n c : ℕ) (u : List ℕ) (ks : List QueryToken) → IsBehind c → Lex n (c ∷ u) ks
    → Starts BehindOperand ks
behind_starts n c u ks k (space _ _ _ _ h w) = absurd (let no : ⊥ = grind arith in no)
behind_starts n c u ks k (not_sign _ _ _ w) = absurd (let no : ⊥ = grind arith in no)
behind_starts n c u ks k (open_sign _ _ _ w) = absurd (let no : ⊥ = grind arith in no)
behind_starts n c u ks k (close_sign _ _ rest w) = record { k = closing; rest = rest; is = refl; kind = close_behind }
behind_starts n c u ks k (and_sign _ _ rest w) = record { k = _; rest = rest; is = refl; kind = sign_behind _ _ }
behind_starts n c u ks k (or_sign _ _ rest w) = record { k = _; rest = rest; is = refl; kind = sign_behind _ _ }
behind_starts n c u ks k (phrase_sign _ _ _ _ rest d w) =
    record { k = _; rest = rest; is = refl; kind = sign_behind _ _ }
behind_starts n c u ks k (quoted _ _ _ _ _ _ _ q ne b w) = absurd (let no : ⊥ = grind arith in no)
behind_starts n c u ks k (plain _ _ _ _ _ _ _ _ p m q b w) =
    absurd (let d : ¬ IsDelimiter c = λ x. p.no_end (inr x) in let no : ⊥ = grind arith in no)
behind_starts n c u ks k (escape _ _ _ _ _ _ _ _ q b w) = absurd (let no : ⊥ = grind arith in no)

-- neither white space nor one of `&`, `)`, `|` and `<`
pub record IsOther (c : ℕ) : Type 0 where
  pub no_white : ¬ IsWhite c
  pub no_and : c ≢ 38
  pub no_close : c ≢ 41
  pub no_or : c ≢ 124
  pub no_less : c ≢ 60

-- such a byte between tokens begins an operand, a bracket or `!`
pub other_starts : (n c : ℕ) (u : List ℕ) (ks : List QueryToken) → IsOther c → Lex n (c ∷ u) ks → Starts Begin ks
other_starts n c u ks k (space _ _ _ _ h w) = absurd (k.no_white h)
other_starts n c u ks k (not_sign _ _ rest w) = record { k = bang; rest = rest; is = refl; kind = bang_begins }
other_starts n c u ks k (open_sign _ _ rest w) = record { k = opening; rest = rest; is = refl; kind = open_begins }
other_starts n c u ks k (close_sign _ _ rest w) = absurd (k.no_close refl)
other_starts n c u ks k (and_sign _ _ rest w) = absurd (k.no_and refl)
other_starts n c u ks k (or_sign _ _ rest w) = absurd (k.no_or refl)
other_starts n c u ks k (phrase_sign _ _ _ _ rest d w) = absurd (k.no_less refl)
other_starts n c u ks k (quoted _ _ _ _ _ o rest q ne b w) =
    record { k = _; rest = rest; is = refl; kind = word_begins _ o }
other_starts n c u ks k (plain _ _ _ _ _ _ o rest p m q b w) =
    record { k = _; rest = rest; is = refl; kind = word_begins _ o }
other_starts n c u ks k (escape _ _ _ _ _ _ o rest q b w) =
    record { k = _; rest = rest; is = refl; kind = word_begins _ o }
