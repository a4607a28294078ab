-- One token after another.
use Rattle.std.proofs.Common.{◌≡◌, ℕ, zero, suc, ◌+◌, ◌-◌, ◌<◌, ◌≤◌, List, [], ◌∷◌, ◌++◌, length, take, drop, Bool}
use Rattle.std.proofs.Common.{true, false, if◌then◌else◌, refl, sym, ap, ◌∙◌, get_or, length-take, arith, add-one, Some}
use Rattle.std.proofs.Common.{drop-drop}
use Rattle.std.proofs.Math.Seq.{drop-cons}
use Rattle.std.proofs.lemmas.List.{drop_all, drop-take, take-append-drop}
use Rattle.std.proofs.lemmas.Option.{slice_get-get_or}
use Rattle.std.proofs.lemmas.Bool.{ne_eqb}
use Rattle.std.specs.Char.{is_ascii_digit}
use Rattle.ts_parser.specs.declared.kinds.TokenType.{TokenType}
use Rattle.ts_parser.specs.declared.iter.Token.{Token}
use Rattle.ts_parser.specs.declared.forms.Form.{Form}
use Rattle.ts_parser.specs.Kinds.{has_parts}
use Rattle.ts_parser.specs.TokensOf.{form_at, token_of, parts_from, parts_of, tokens_from, tokens_at, byte_before}
use Rattle.ts_parser.specs.WordForms.{part_form}
use Rattle.ts_parser.specs.NumberForms.{groups_len}
use Rattle.ts_parser.proofs.Rows.{row_within}
use Rattle.ts_parser.proofs.Parts.{parts_skip}

cons_at : {A : Type 0} (l : List A) (j : ℕ) (d : A) → j < length l → drop j l ≡ get_or l j d ∷ drop (j + 1) l
cons_at l j d h = rw (add-one, drop-cons l j d h)

before_next : (text : List ℕ) (n : ℕ) → n < length text → byte_before text (n + 1) ≡ Some (get_or text n 0)
before_next text n h =
    rw ((let e : n + 1 - 1 ≡ n = omega arith in e), slice_get-get_or text n 0 h, ne_eqb (n + 1) 0 (λ e. omega arith))

-- within a token the next one is that after it
skipped : (text : List ℕ) (k n : ℕ) → n + k ≤ length text
    → tokens_from k n (byte_before text n) (drop n text) ≡ tokens_at text (n + k)
skipped text zero n h = ap (λ m. tokens_at text m) (let e : n ≡ n + 0 = omega arith in e)
skipped text (suc k) n h =
    let within : n < length text = omega (arith, h) in
    let e : drop n text ≡ get_or text n 0 ∷ drop (n + 1) text = cons_at text n 0 within in
    let b : Some (get_or text n 0) ≡ byte_before text (n + 1) = sym (before_next text n within) in
    ap (λ l. tokens_from (suc k) n (byte_before text n) l) e
    ∙ ap (λ o. tokens_from k (n + 1) o (drop (n + 1) text)) b
    ∙ skipped text k (n + 1) (omega (arith, h))
    ∙ ap (λ m. tokens_at text m) (omega arith)

-- the token at a place with its parts, and those after it
next_token : (text : List ℕ) (n : ℕ) (f : Form) → n < length text → f ≡ form_at (byte_before text n) (drop n text)
    → 1 ≤ f.length → n + f.length ≤ length text
    → tokens_at text n
    ≡ token_of f n ∷ (parts_of f.kind n (take f.length (drop n text)) ++ tokens_at text (n + f.length))
next_token text n f within is some fits =
    let e : drop n text ≡ get_or text n 0 ∷ drop (n + 1) text = cons_at text n 0 within in
    let b : Some (get_or text n 0) ≡ byte_before text (n + 1) = sym (before_next text n within) in
    let g : f ≡ form_at (byte_before text n) (get_or text n 0 ∷ drop (n + 1) text) =
    is ∙ ap (λ l. form_at (byte_before text n) l) e in
    ap (λ l. tokens_from 0 n (byte_before text n) l) e
    ∙ ap (λ (x : Form). token_of x n ∷ (parts_of x.kind n (take x.length (get_or text n 0 ∷ drop (n + 1) text))
    ++ tokens_from (x.length - 1) (n + 1) (Some (get_or text n 0)) (drop (n + 1) text))) (sym g)
    ∙ ap (λ l. token_of f n ∷ (parts_of f.kind n (take f.length l)
    ++ tokens_from (f.length - 1) (n + 1) (Some (get_or text n 0)) (drop (n + 1) text))) (sym e)
    ∙ ap (λ o. token_of f n ∷ (parts_of f.kind n (take f.length (drop n text))
    ++ tokens_from (f.length - 1) (n + 1) o (drop (n + 1) text))) b
    ∙ ap (λ ts. token_of f n ∷ (parts_of f.kind n (take f.length (drop n text)) ++ ts)) (skipped text (f.length - 1)
    (n + 1) (omega (arith, fits, some)) ∙ ap (λ m. tokens_at text m) (omega (arith, some)))

-- ── what is left ──
-- the parts from `part` to `at`, and the tokens from `at` on
abbrev pub left : List ℕ → ℕ → ℕ → List Token
left text part at = parts_from 0 part (drop part (take at text)) ++ tokens_at text at

no_part : (text : List ℕ) (at : ℕ) → parts_from 0 at (drop at (take at text)) ≡ []
no_part text at =
    ap (λ z. parts_from 0 at z) (drop_all at (take at text) (let l = length-take at text in omega (arith, l)))

left_by : (text : List ℕ) (at : ℕ) (f : Form) (b : Bool) → has_parts f.kind ≡ b
    → parts_of f.kind at (take f.length (drop at text)) ++ tokens_at text (at + f.length)
    ≡ left text (if has_parts f.kind then at else at + f.length) (at + f.length)
left_by text at f true e =
    rw e (ap (λ z. parts_from 0 at z ++ tokens_at text (at + f.length)) (sym (drop-take at f.length text)))
left_by text at f false e = rw e (ap (λ ts. ts ++ tokens_at text (at + f.length)) (sym (no_part text (at + f.length))))

-- a step at a token
pub next_form : (text : List ℕ) (part at : ℕ) (f : Form) → part ≤ at → at ≤ part → at < length text
    → f ≡ form_at (byte_before text at) (drop at text) → 1 ≤ f.length → at + f.length ≤ length text
    → left text part at ≡ token_of f at ∷ left text (if has_parts f.kind then at else at + f.length) (at + f.length)
next_form text part at f low high within is some fits =
    ap (λ n. left text n at) (let e : part ≡ at = omega (arith, low, high) in e)
    ∙ ap (λ ts. ts ++ tokens_at text at) (no_part text at)
    ∙ next_token text at f within is some fits
    ∙ ap (λ ts. token_of f at ∷ ts) (left_by text at f (has_parts f.kind) refl)

parts_step_by : (n : ℕ) (w : List ℕ) (f : Form) → f ≡ part_form w → 1 ≤ f.length → f.length ≤ length w
    → parts_from 0 n w ≡ token_of f n ∷ parts_from 0 (n + f.length) (drop f.length w)
parts_step_by n [] f is some fits = absurd (omega (arith, some, fits))
parts_step_by n (c ∷ w) f is some fits =
    let k : List ℕ = take (f.length - 1) w in
    let l : length k ≡ f.length - 1 = (let t = length-take (f.length - 1) w in omega (arith, t, fits, some)) in
    let s : k ++ drop (f.length - 1) w ≡ w = take-append-drop (f.length - 1) w in
    let d : drop (f.length - 1) w ≡ drop f.length (c ∷ w) =
    ap (λ m. drop m (c ∷ w)) (let e : suc (f.length - 1) ≡ f.length = omega (arith, some) in e) in
    ap (λ (x : Form). token_of x n ∷ parts_from (x.length - 1) (n + 1) w) (sym is)
    ∙ ap (λ ts. token_of f n ∷ ts)
    (ap (λ m. parts_from m (n + 1) w) (sym l) ∙ ap (λ z. parts_from (length k) (n + 1) z) (sym s)
    ∙ parts_skip k (drop (f.length - 1) w) (n + 1)
    ∙ ap (λ m. parts_from 0 m (drop (f.length - 1) w)) (omega (arith, l, some))
    ∙ ap (λ z. parts_from 0 (n + f.length) z) d)

-- a step at a part
pub next_part : (text : List ℕ) (part at : ℕ) (f : Form) → f ≡ part_form (drop part (take at text))
    → 1 ≤ f.length → f.length ≤ length (drop part (take at text))
    → left text part at ≡ token_of f part ∷ left text (part + f.length) at
next_part text part at f is some fits =
    ap (λ ts. ts ++ tokens_at text at)
    (parts_step_by part (drop part (take at text)) f is some fits
    ∙ ap (λ z. token_of f part ∷ parts_from 0 (part + f.length) z) (drop-drop f.length part (take at text)))

-- the groups of digits after a token
pub groups_left : (text : List ℕ) (at size groups : ℕ) → groups ≡ groups_len (drop at text) → at + size < at + groups
    → groups_len (drop (at + size) text) + (at + size) ≡ at + groups
groups_left text at size groups is h =
    let w = row_within is_ascii_digit is_ascii_digit 46 (drop at text) size (omega (arith, h, is)) in
    let d : groups_len (drop size (drop at text)) ≡ groups_len (drop (at + size) text) =
    ap groups_len (drop-drop size at text) in
    omega (arith, w, d, is)

-- a part starts no later than its token ends
pub start_fits : (start end : ℕ) (k : TokenType) (n : ℕ) → n ≡ (if has_parts k then start else end) → start ≤ end
    → n ≤ end
start_fits start end k n e h = start_by (has_parts k) refl
  where
    start_by : (b : Bool) → has_parts k ≡ b → n ≤ end
    start_by true f = let m : n ≡ start = rw f at e in omega (arith, m, h)
    start_by false f = let m : n ≡ end = rw f at e in omega (arith, m)
