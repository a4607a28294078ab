-- A text's tokens start and end between characters.
use Rattle.std.proofs.Common.{◌≡◌, ℕ, ◌+◌, ◌<◌, ◌≤◌, List, [], ◌∷◌, ◌++◌, length, get_or, false, IsUtf8, IsCharBoundary}
use Rattle.std.proofs.Common.{refl, sym, ap, ◌∙◌, subst, append-nil, append_assoc, length-append, arith, inl, inr, ◌⊎◌}
use Rattle.std.proofs.Common.{All, Some}
use Rattle.std.specs.List.{join_with_byte}
use Rattle.std.proofs.lemmas.List.{get_or_at, get_or_append_left}
use Rattle.std.proofs.lemmas.List.Elements.{All-cons, All-nil, All-append}
use Rattle.std.proofs.lemmas.Str.{IsCharBoundary-start, IsCharBoundary-end, IsCharBoundary-before_ascii}
use Rattle.std.proofs.lemmas.Str.{IsCharBoundary-after_ascii}
use Rattle.std.proofs.lemmas.Option.{same_Some, none-some}
use Rattle.std.proofs.lemmas.Bool.{cases_lt, false≢true}
use Rattle.ts_parser.specs.declared.kinds.TokenType.{TokenType}
use Rattle.ts_parser.specs.declared.kinds.TokenType.TheVariants.{Blank}
use Rattle.ts_parser.specs.declared.iter.Token.{Token}
use Rattle.ts_parser.specs.Letters.{IsWordByte, StartsWithout, is_word_byte}
use Rattle.ts_parser.specs.Numbers.{last_byte, EndsNumber}
use Rattle.ts_parser.specs.TokenList.{token, AreChainParts, last_part, more_parts, StartsForm, Front, number, chain}
use Rattle.ts_parser.specs.TokenList.{run, blank, AreTokens, none, then}
use Rattle.ts_parser.specs.Between.{IsBetween, TokensBetween}
use Rattle.ts_parser.proofs.ByteTests.{tells_word_byte}
use Rattle.ts_parser.proofs.Blanks.{last_push, NoStart, next_none, move_start}
use Rattle.ts_parser.proofs.Chains.{run_in}

-- no letter or digit is cut from another one
abbrev pub Apart : List ℕ → List ℕ → Type 0
Apart before rest = (c : ℕ) → last_byte before ≡ Some c → IsWordByte c → StartsWithout IsWordByte rest

apart_end : (before rest : List ℕ) → StartsWithout IsWordByte rest → Apart before rest
apart_end before rest h c e w = h

-- ── places ──
last_at : (c : ℕ) (b : List ℕ) → last_byte (c ∷ b) ≡ Some (get_or (c ∷ b) (length b) 0)
last_at c [] = refl
last_at c (d ∷ b) = last_at d b

low_byte : (c : ℕ) → (IsWordByte c → ⊥) → c < 128
low_byte c h = low_by (cases_lt c 128)
  where
    low_by : (c < 128) ⊎ (128 ≤ c) → c < 128
    low_by (inl l) = l
    low_by (inr l) = absurd (h (inl (inr l)))

-- after a byte that is no letter or digit
behind_low : (c : ℕ) (b rest : List ℕ) → IsUtf8 ((c ∷ b) ++ rest) → (IsWordByte (get_or (c ∷ b) (length b) 0) → ⊥)
    → IsCharBoundary ((c ∷ b) ++ rest) (length b + 1)
behind_low c b rest u h =
    let l = length-append (c ∷ b) rest in
    let g = get_or_append_left (c ∷ b) rest 0 (length b) (omega arith) in
    let k = low_byte (get_or (c ∷ b) (length b) 0) h in
    IsCharBoundary-after_ascii ((c ∷ b) ++ rest) (length b) u (omega (arith, l)) (omega (arith, g, k))

place_high : (before : List ℕ) (d : ℕ) (rest : List ℕ) → IsUtf8 (before ++ d ∷ rest) → Apart before (d ∷ rest)
    → IsWordByte d → IsCharBoundary (before ++ d ∷ rest) (length before)
place_high [] d rest u a w = IsCharBoundary-start (d ∷ rest) u
place_high (c ∷ b) d rest u a w =
    let P : ℕ → Type 0 = λ n. IsCharBoundary ((c ∷ b) ++ d ∷ rest) n in
    subst P (let e : length b + 1 ≡ length (c ∷ b) = omega arith in e)
    (behind_low c b (d ∷ rest) u (λ v. a (get_or (c ∷ b) (length b) 0) (last_at c b) v w))

place_at : (before rest : List ℕ) → IsUtf8 (before ++ rest) → Apart before rest
    → IsCharBoundary (before ++ rest) (length before)
place_at before [] u a =
    let P : ℕ → Type 0 = λ n. IsCharBoundary (before ++ []) n in
    subst P (ap length (append-nil before)) (IsCharBoundary-end (before ++ []))
place_at before (d ∷ rest) u a = place_by (cases_lt d 128)
  where
    place_by : (d < 128) ⊎ (128 ≤ d) → IsCharBoundary (before ++ d ∷ rest) (length before)
    place_by (inl l) =
        let n = length-append before (d ∷ rest) in
        let g = get_or_at before d rest 0 (length before) refl in
        IsCharBoundary-before_ascii (before ++ d ∷ rest) (length before) (omega (arith, n)) (omega (arith, g, l))
    place_by (inr l) = place_high before d rest u a (inl (inr l))

-- a place of a text
place : (text before rest : List ℕ) (n : ℕ) → IsUtf8 text → text ≡ before ++ rest → n ≡ length before
    → Apart before rest → IsCharBoundary text n
place text before rest n u e l a =
    let P : List ℕ → Type 0 = λ z. IsUtf8 z in
    let Q : List ℕ → Type 0 = λ z. IsCharBoundary z n in
    let R : ℕ → Type 0 = λ m. IsCharBoundary (before ++ rest) m in
    subst Q (sym e) (subst R (sym l) (place_at before rest (subst P e u) a))

-- a token between two places
between : (text before v r : List ℕ) (k : TokenType) (s n : ℕ) → IsUtf8 text → text ≡ before ++ (v ++ r)
    → s ≡ length before → n ≡ length v → Apart before (v ++ r) → Apart (before ++ v) r → IsBetween text (token k s n)
between text before v r k s n u e l m a b =
    let j = length-append before v in (
      place text before (v ++ r) s u e l a,
      place text (before ++ v) r (s + n) u (e ∙ sym (append_assoc before v r)) (omega (arith, l, m, j)) b,
    )

-- ── parts ──
no_word_hyphen : IsWordByte 45 → ⊥
no_word_hyphen h = absurd (false≢true (sym ((let e : is_word_byte 45 ≡ false = refl in e)) ∙ (tells_word_byte 45).1 h))

behind_hyphen : (before rest : List ℕ) → Apart (before ++ 45 ∷ []) rest
behind_hyphen before rest c e w =
    absurd (no_word_hyphen (let k : 45 ≡ c = same_Some 45 c (sym (last_push before 45) ∙ e) in rw (← k) at w))

parts_between : (text b r : List ℕ) (s : ℕ) (us : List (List ℕ)) (ts : List Token) → IsUtf8 text
    → text ≡ b ++ (join_with_byte 45 us ++ r) → s ≡ length b → Apart b (join_with_byte 45 us ++ r)
    → StartsWithout IsWordByte r → AreChainParts s us ts
    → All (IsBetween text) ts
parts_between text b r s _ _ u e l a h (last_part _ v k p) =
    All-cons (IsBetween text) (token k s (length v)) []
    (between text b v r k s (length v) u e l refl a (apart_end (b ++ v) r h)) (All-nil (IsBetween text))
parts_between text b r s _ _ u e l a h (more_parts _ v w us k ts p q) =
    let j : List ℕ = join_with_byte 45 (w ∷ us) in
    let z : List ℕ = 45 ∷ (j ++ r) in
    let f : (v ++ 45 ∷ j) ++ r ≡ v ++ z = append_assoc v (45 ∷ j) r in
    let e1 : text ≡ b ++ (v ++ z) = e ∙ ap (λ x. b ++ x) f in
    let a1 : Apart b (v ++ z) = (let P : List ℕ → Type 0 = λ x. Apart b x in subst P f a) in
    let a2 : Apart (b ++ v) z = apart_end (b ++ v) z no_word_hyphen in
    let e2 : text ≡ (b ++ v) ++ z = e1 ∙ sym (append_assoc b v z) in
    let m = length-append b v in
    let l2 : s + length v ≡ length (b ++ v) = omega (arith, l, m) in
    let n = length-append (b ++ v) (45 ∷ []) in
    let l3 : s + length v + 1 ≡ length ((b ++ v) ++ 45 ∷ []) = omega (arith, l2, n) in
    let e3 : text ≡ ((b ++ v) ++ 45 ∷ []) ++ (j ++ r) = e2 ∙ sym (append_assoc (b ++ v) (45 ∷ []) (j ++ r)) in
    let a3 : Apart ((b ++ v) ++ 45 ∷ []) (j ++ r) = behind_hyphen (b ++ v) (j ++ r) in
    All-cons (IsBetween text) (token k s (length v)) (token Blank (s + length v) 1 ∷ ts)
    (between text b v z k s (length v) u e1 l refl a1 a2)
    (All-cons (IsBetween text) (token Blank (s + length v) 1) ts
    (between text (b ++ v) (45 ∷ []) (j ++ r) Blank (s + length v) 1 u e2 l2 refl a2 a3)
    (parts_between text ((b ++ v) ++ 45 ∷ []) r (s + length v + 1) (w ∷ us) ts u e3 l3 a3 h q))

-- ── fronts ──
ends_apart : (r : List ℕ) → EndsNumber r → StartsWithout IsWordByte r
ends_apart [] h = tt
ends_apart (c ∷ r) h = h.0

run_starts : (before : List ℕ) (c : ℕ) (r : List ℕ) → IsWordByte c → StartsForm before (c ∷ r)
run_starts before c r w = let k = run_in (c ∷ r) ((tells_word_byte c).1 w) in inr (k.run, k.rest, k.is, k.holds)

-- a blank ends with a byte that is no letter or digit
blank_last : (before v r : List ℕ) → NoStart before v r → 0 < length v → (c : ℕ) → last_byte (before ++ v) ≡ Some c
    → IsWordByte c → ⊥
blank_last before [] r n s c e w = absurd (omega (arith, s))
blank_last before (d ∷ []) r n s c e w =
    let k : d ≡ c = same_Some d c (sym (last_push before d) ∙ e) in
    n 0 s (move_start before (before ++ []) (d ∷ r) (sym (append-nil before)) (run_starts before d r (rw (← k) at w)))
blank_last before (d ∷ f ∷ v) r n s c e w =
    blank_last (before ++ d ∷ []) (f ∷ v) r (next_none before d (f ∷ v) r n) (omega arith) c
    (ap last_byte (append_assoc before (d ∷ []) (f ∷ v)) ∙ e) w

record Cut (text before v r : List ℕ) (ts : List Token) : Type 0 where
  each : All (IsBetween text) ts
  behind : Apart (before ++ v) r

one_cut : (text before v r : List ℕ) (k : TokenType) → IsUtf8 text → text ≡ before ++ (v ++ r) → Apart before (v ++ r)
    → Apart (before ++ v) r → Cut text before v r (token k (length before) (length v) ∷ [])
one_cut text before v r k u e a b = record {
  each = All-cons (IsBetween text) (token k (length before) (length v)) []
      (between text before v r k (length before) (length v) u e refl refl a b) (All-nil (IsBetween text));
  behind = b;
}

chain_cut : (text before v r : List ℕ) (us : List (List ℕ)) (k : TokenType) (ts : List Token) → IsUtf8 text
    → text ≡ before ++ (v ++ r) → Apart before (v ++ r) → v ≡ join_with_byte 45 us → StartsWithout IsWordByte r
    → AreChainParts (length before) us ts
    → Cut text before v r (token k (length before) (length v) ∷ ts)
chain_cut text before v r us k ts u e a q h p =
    let b = apart_end (before ++ v) r h in
    let P : List ℕ → Type 0 = λ x. Apart before (x ++ r) in
    record {
      each = All-cons (IsBetween text) (token k (length before) (length v)) ts
          (between text before v r k (length before) (length v) u e refl refl a b)
          (parts_between text before r (length before) us ts u (e ∙ ap (λ x. before ++ (x ++ r)) q) refl
          (subst P q a) h p);
      behind = b;
    }

front_cut : (text before v r : List ℕ) (ts : List Token) → IsUtf8 text → text ≡ before ++ (v ++ r)
    → Apart before (v ++ r) → Front before v r ts → Cut text before v r ts
front_cut text before v r _ u e a (number k _ _ n l) =
    one_cut text before v r k u e a (apart_end (before ++ v) r (ends_apart r n.ends))
front_cut text before v r _ u e a (chain us _ _ k ts q h n w p) = chain_cut text before v r us k ts u e a q h.ends.0 p
front_cut text before v r _ u e a (run _ _ k h n d w) =
    one_cut text before v r k u e a (apart_end (before ++ v) r h.ends)
front_cut text before v r _ u e a (blank _ _ s n d) =
    one_cut text before v r Blank u e a (λ c q w. absurd (blank_last before v r n s c q w))

all_between : (text before rest : List ℕ) (ts : List Token) → IsUtf8 text → text ≡ before ++ rest → Apart before rest
    → AreTokens before rest ts → All (IsBetween text) ts
all_between text before _ _ u e a (none _) = All-nil (IsBetween text)
all_between text before _ _ u e a (then _ v r ts us f k) =
    let c = front_cut text before v r ts u e a f in
    All-append (IsBetween text) ts us c.each
    (all_between text (before ++ v) r us u (e ∙ sym (append_assoc before v r)) c.behind k)

pub tokens_between_lem : TokensBetween
tokens_between_lem text ts u h = all_between text [] text ts u refl (λ c e w. absurd (none-some c e)) h
