-- The first token past a limit, where one token more comes.
use Rattle.std.proofs.Common.{◌≡◌, ℕ, List, [], ◌∷◌, ◌++◌, Bool, true, false, cond, refl, sym, ap, ◌∙◌, Option, Some}
use Rattle.std.proofs.Common.{None}
use Rattle.ts_query.specs.Tokens.{QueryToken, word, bang, opening, closing, sign}
use Rattle.ts_query.specs.Limits.{is_far, is_long, or_else, first_far, first_long}

or_else_cond : (b : Bool) (s : ℕ) (o p : Option ℕ) → cond b (Some s) (or_else o p) ≡ or_else (cond b (Some s) o) p
or_else_cond true s o p = refl
or_else_cond false s o p = refl

pub or_else-None : (o : Option ℕ) → or_else o None ≡ o
or_else-None None = refl
or_else-None (Some s) = refl

pub first_far-append : (ts us : List QueryToken) → first_far (ts ++ us) ≡ or_else (first_far ts) (first_far us)
first_far-append [] us = refl
first_far-append (word s o ∷ ts) us = first_far-append ts us
first_far-append (bang ∷ ts) us = first_far-append ts us
first_far-append (opening ∷ ts) us = first_far-append ts us
first_far-append (closing ∷ ts) us = first_far-append ts us
first_far-append (sign s j ∷ ts) us = ap (λ x. cond (is_far j) (Some s) x) (first_far-append ts us)
    ∙ or_else_cond (is_far j) s (first_far ts) (first_far us)

pub first_long-append : (ts us : List QueryToken) → first_long (ts ++ us) ≡ or_else (first_long ts) (first_long us)
first_long-append [] us = refl
first_long-append (word s o ∷ ts) us = ap (λ x. cond (is_long o) (Some s) x) (first_long-append ts us)
    ∙ or_else_cond (is_long o) s (first_long ts) (first_long us)
first_long-append (bang ∷ ts) us = first_long-append ts us
first_long-append (opening ∷ ts) us = first_long-append ts us
first_long-append (closing ∷ ts) us = first_long-append ts us
first_long-append (sign s j ∷ ts) us = first_long-append ts us

-- a token that is past no limit changes nothing
pub first_far_same : (ts : List QueryToken) (k : QueryToken) (far : Option ℕ) → first_far (k ∷ []) ≡ None
    → far ≡ first_far ts → far ≡ first_far (ts ++ k ∷ [])
first_far_same ts k far e f = f ∙ sym (or_else-None (first_far ts)) ∙ ap (λ x. or_else (first_far ts) x) (sym e)
    ∙ sym (first_far-append ts (k ∷ []))

pub first_long_same : (ts : List QueryToken) (k : QueryToken) (long : Option ℕ) → first_long (k ∷ []) ≡ None
    → long ≡ first_long ts → long ≡ first_long (ts ++ k ∷ [])
first_long_same ts k long e f = f ∙ sym (or_else-None (first_long ts)) ∙ ap (λ x. or_else (first_long ts) x) (sym e)
    ∙ sym (first_long-append ts (k ∷ []))

pub first_far_more : (ts : List QueryToken) (k : QueryToken) (far new : Option ℕ)
    → new ≡ or_else far (first_far (k ∷ [])) → far ≡ first_far ts → new ≡ first_far (ts ++ k ∷ [])
first_far_more ts k far new e f = e ∙ ap (λ x. or_else x (first_far (k ∷ []))) f ∙ sym (first_far-append ts (k ∷ []))

pub first_long_more : (ts : List QueryToken) (k : QueryToken) (long new : Option ℕ)
    → new ≡ or_else long (first_long (k ∷ [])) → long ≡ first_long ts → new ≡ first_long (ts ++ k ∷ [])
first_long_more ts k long new e f =
    e ∙ ap (λ x. or_else x (first_long (k ∷ []))) f ∙ sym (first_long-append ts (k ∷ []))
