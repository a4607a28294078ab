-- Lexemes as they are written, in memory.
use Rattle.std.proofs.Common.{◌≡◌, ℕ, zero, suc, ◌+◌, ◌<◌, ◌≤◌, inl, inr, List, [], ◌∷◌, ◌++◌, length, get_or, drop}
use Rattle.std.proofs.Common.{refl, sym, ap, subst, ◌∙◌, arith, add-one, drop-cons}
use Rattle.ts_base.specs.Vectors.{Entry}
use Rattle.ts_vector.specs.Text.{Written, written, entries, FirstLong}
use Rattle.ts_vector.specs.Inner.WrittenLexemes.{written_lexemes}

pub drafts_push : (ss : List ℕ) (es : List Entry) (s : ℕ) (e : Entry) → length ss ≡ length es
    → written_lexemes (ss ++ s ∷ []) (es ++ e ∷ []) ≡ written_lexemes ss es ++ written s e.lexeme e.positions ∷ []
drafts_push [] [] s e same = refl
drafts_push [] (x ∷ es) s e same = absurd (omega arith)
drafts_push (t ∷ ss) [] s e same = absurd (omega arith)
drafts_push (t ∷ ss) (x ∷ es) s e same =
    ap (λ v. written t x.lexeme x.positions ∷ v) (drafts_push ss es s e (omega arith))

pub drafts_long : (ss : List ℕ) (es : List Entry) → length ss ≡ length es → length (written_lexemes ss es) ≡ length ss
drafts_long [] es same = refl
drafts_long (s ∷ ss) [] same = absurd (omega arith)
drafts_long (s ∷ ss) (e ∷ es) same = omega (arith, drafts_long ss es (omega arith))

pub drafts_entries : (ss : List ℕ) (es : List Entry) → length ss ≡ length es → es ≡ entries (written_lexemes ss es)
drafts_entries [] [] same = refl
drafts_entries [] (e ∷ es) same = absurd (omega arith)
drafts_entries (s ∷ ss) [] same = absurd (omega arith)
drafts_entries (s ∷ ss) (e ∷ es) same = ap (λ v. e ∷ v) (drafts_entries ss es (omega arith))

pub draft_at : (ss : List ℕ) (es : List Entry) (k : ℕ) (s : ℕ) (e : Entry) (d : Written) → length ss ≡ length es
    → k < length ss
    → get_or (written_lexemes ss es) k d ≡ written (get_or ss k s) (get_or es k e).lexeme (get_or es k e).positions
draft_at [] es k s e d same lt = absurd (omega arith)
draft_at (t ∷ ss) [] k s e d same lt = absurd (omega arith)
draft_at (t ∷ ss) (x ∷ es) zero s e d same lt = refl
draft_at (t ∷ ss) (x ∷ es) (suc k) s e d same lt = draft_at ss es k s e d (omega arith) (omega arith)

-- what is seen of the lexeme at k
pub draft_in : (ss : List ℕ) (es : List Entry) (v : List Written) → written_lexemes ss es ≡ v → length ss ≡ length es
    → (k s : ℕ) (e : Entry) (d : Written) → k < length ss
    → (k < length v) × (get_or v k d ≡ written (get_or ss k s) (get_or es k e).lexeme (get_or es k e).positions)
draft_in ss es v view same k s e d lt = (
  omega (arith, ap length view, drafts_long ss es same),
  ap (λ w. get_or w k d) (sym view) ∙ draft_at ss es k s e d same lt,
)

-- the first lexeme that is too long
pub long_step : (words : List Written) (k : ℕ) (d : Written) → k < length words
    → length (get_or words k d).lexeme ≤ 2046
    → ((n : ℕ) → FirstLong (drop k words) n → FirstLong words n) → (n : ℕ) → FirstLong (drop (k + 1) words) n
    → FirstLong words n
long_step words k d lt short f n h =
    let e : drop k words ≡ get_or words k d ∷ drop (k + 1) words = rw (add-one, drop-cons words k d) in
    f n (subst (λ l. FirstLong l n) (sym e) (inr (short, h)))

pub long_here : (words : List Written) (k : ℕ) (d : Written) → k < length words
    → 2046 < length (get_or words k d).lexeme
    → ((n : ℕ) → FirstLong (drop k words) n → FirstLong words n) → FirstLong words (get_or words k d).start
long_here words k d lt long f =
    let e : drop k words ≡ get_or words k d ∷ drop (k + 1) words = rw (add-one, drop-cons words k d) in
    f (get_or words k d).start (subst (λ l. FirstLong l (get_or words k d).start) (sym e) (inl (long, refl)))
