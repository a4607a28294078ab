-- A text has exactly one token list.
use Rattle.std.proofs.Common.{◌≡◌, ℕ, zero, suc, ◌+◌, ◌-◌, ◌<◌, ◌≤◌, List, [], ◌∷◌, ◌++◌, length, take, refl, sym, ap}
use Rattle.std.proofs.Common.{◌∙◌, subst, append-nil, append_assoc, length-append, arith, Some}
use Rattle.std.proofs.lemmas.List.{take_at}
use Rattle.ts_parser.specs.declared.iter.Token.{Token}
use Rattle.ts_parser.specs.declared.forms.Form.{Form}
use Rattle.ts_parser.specs.Numbers.{last_byte}
use Rattle.ts_parser.specs.TokenList.{Front, AreTokens, none, then, IsTokenList}
use Rattle.ts_parser.specs.TokensOf.{form_at, token_of, parts_of, tokens_from, tokens_of, OneTokenList}
use Rattle.ts_parser.proofs.Blanks.{last_push}
use Rattle.ts_parser.proofs.Fronts.{FrontIs, front_complete, front_sound}

-- the tokens after `before`
abbrev pub tokens_behind : List ℕ → List ℕ → List Token
tokens_behind before u = tokens_from 0 (length before) (last_byte before) u

-- within a token the next one is that after it
skipped : (before w r : List ℕ) (n : ℕ) → n ≡ length before
    → tokens_from (length w) n (last_byte before) (w ++ r) ≡ tokens_behind (before ++ w) r
skipped before [] r n e =
    ap (λ m. tokens_from 0 m (last_byte before) r) e ∙ ap (λ z. tokens_behind z r) (sym (append-nil before))
skipped before (c ∷ w) r n e =
    let l = length-append before (c ∷ []) in
    ap (λ b. tokens_from (length w) (n + 1) b (w ++ r)) (sym (last_push before c))
    ∙ skipped (before ++ c ∷ []) w r (n + 1) (omega (arith, e, l))
    ∙ ap (λ z. tokens_behind z r) (append_assoc before (c ∷ []) w)

-- the tokens of the form at the front, and those after it
step : (before v r : List ℕ) (f : Form) → 0 < length v → f ≡ form_at (last_byte before) (v ++ r) → f.length ≡ length v
    → tokens_behind before (v ++ r)
    ≡ (token_of f (length before) ∷ parts_of f.kind (length before) v) ++ tokens_behind (before ++ v) r
step before [] r f s e l = absurd (omega (arith, s))
step before (c ∷ v) r f s e l =
    let n : ℕ = length before in
    let one = ap (λ (g : Form). token_of g n ∷ (parts_of g.kind n (take g.length (c ∷ (v ++ r)))
    ++ tokens_from (g.length - 1) (n + 1) (Some c) (v ++ r))) (sym e) in
    let two = ap (λ m. token_of f n
    ∷ (parts_of f.kind n (take m (c ∷ (v ++ r))) ++ tokens_from (m - 1) (n + 1) (Some c) (v ++ r))) l in
    let three =
    ap (λ z. token_of f n ∷ (parts_of f.kind n z ++ tokens_from (length (c ∷ v) - 1) (n + 1) (Some c) (v ++ r)))
    (take_at (c ∷ v) r (length (c ∷ v)) refl) in
    let k = length-append before (c ∷ []) in
    let m : length (c ∷ v) - 1 ≡ length v = omega arith in
    let rest : tokens_from (length (c ∷ v) - 1) (n + 1) (Some c) (v ++ r) ≡ tokens_behind (before ++ c ∷ v) r =
    ap (λ i. tokens_from i (n + 1) (Some c) (v ++ r)) m ∙ ap (λ b. tokens_from (length v) (n + 1) b (v ++ r))
    (sym (last_push before c)) ∙ skipped (before ++ c ∷ []) v r (n + 1) (omega (arith, k))
    ∙ ap (λ z. tokens_behind z r) (append_assoc before (c ∷ []) v) in
    one ∙ two ∙ three ∙ ap (λ ts. token_of f n ∷ (parts_of f.kind n (c ∷ v) ++ ts)) rest

-- what a front of the rules gives, before the tokens after it
front_step : (before v r : List ℕ) (ts : List Token) → FrontIs before v r ts
    → tokens_behind before (v ++ r) ≡ ts ++ tokens_behind (before ++ v) r
front_step before v r ts k =
    step before v r (form_at (last_byte before) (v ++ r)) k.some refl k.size
    ∙ ap (λ l. l ++ tokens_behind (before ++ v) r) (sym k.tokens)

pub law_complete : (before u : List ℕ) (ts : List Token) → AreTokens before u ts → ts ≡ tokens_behind before u
law_complete before _ _ (none _) = refl
law_complete before _ _ (then _ u r ts us f k) =
    ap (λ l. ts ++ l) (law_complete (before ++ u) r us k)
    ∙ sym (front_step before u r ts (front_complete before u r ts f))

put_front : (before u v r : List ℕ) (ts : List Token) → u ≡ v ++ r → Front before v r ts
    → AreTokens (before ++ v) r (tokens_behind (before ++ v) r) → AreTokens before u (tokens_behind before u)
put_front before u v r ts e f k =
    let P : List ℕ → Type 0 = λ z. AreTokens before z (tokens_behind before z) in
    let Q : List Token → Type 0 = λ l. AreTokens before (v ++ r) l in
    subst P (sym e) (subst Q (sym (front_step before v r ts (front_complete before v r ts f)))
    (then before v r ts (tokens_behind (before ++ v) r) f k))

shorter : (n : ℕ) (u v r : List ℕ) → u ≡ v ++ r → 0 < length v → length u ≤ suc n → length r ≤ n
shorter n u v r e s l = let k = length-append v r in let j = ap length e in omega (arith, k, j)

pub law_sound : (n : ℕ) (before u : List ℕ) → length u ≤ n → AreTokens before u (tokens_behind before u)
law_sound n before [] h = none before
law_sound zero before (c ∷ u) h = absurd (omega (arith, h))
law_sound (suc n) before (c ∷ u) h =
    let k = front_sound before c u in
    let s = (front_complete before k.front k.rest k.tokens k.holds).some in
    put_front before (c ∷ u) k.front k.rest k.tokens k.is k.holds
    (law_sound n (before ++ k.front) k.rest (shorter n (c ∷ u) k.front k.rest k.is s h))

to_list : (text : List ℕ) (ts : List Token) → ts ≡ tokens_of text → IsTokenList text ts
to_list text ts e = let P : List Token → Type 0 = λ l. IsTokenList text l in
    subst P (sym e) (law_sound (length text) [] text (omega arith))

pub one_token_list_lem : OneTokenList
one_token_list_lem text ts = (law_complete [] text ts, to_list text ts)
