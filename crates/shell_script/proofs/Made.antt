-- From the tokens of a text to what a vector or a query is made of.
use Rattle.std.proofs.Common.{◌≡◌, ℕ, ◌==◌, if◌then◌else◌, List, [], ◌∷◌, ◌++◌, length, codes, append_assoc, refl, sym}
use Rattle.std.proofs.Common.{◌∙◌, ap, subst}
use Rattle.std.specs.Prelude.{Option, Some, None, ◌≢◌}
use Rattle.ts_base.specs.declared.Weight.{Weight}
use Rattle.shell_script.specs.Tokens.{ScriptToken, word, quote, IsSpelled}
use Rattle.shell_script.specs.OpeningLines.{IsName}
use Rattle.shell_script.specs.Grammar.{VectorSource, vector_text, vector_by, QuerySource, query_text, query_by}
use Rattle.shell_script.specs.Grammar.{weight_letter, weight_tokens, source_tokens, maker_word, query_tokens, IsSource}
use Rattle.shell_script.specs.Grammar.{IsQuery}
use Rattle.shell_script.specs.declared.sources.Maker.{Maker}
use Rattle.shell_script.specs.declared.sources.Maker.TheVariants.{To, Plain, Phrase, Web}
use Rattle.shell_script.specs.Inner.Fronts.{Fronts}
use Rattle.shell_script.proofs.Exprs.{letters_same}
use Rattle.shell_script.proofs.FirstTokens.{words_same}
use Rattle.shell_script.proofs.FirstLines.{named_behind}
use Rattle.shell_script.proofs.Spelling.{behind_one, front_both, front_rest}

-- ── the weight at the front ──
pub weight_stands : (text letter rest : List ℕ) (v : Weight) → Fronts text (word letter ∷ []) rest
    → weight_letter v ∷ [] ≡ letter → (w : Option Weight) (t : List ℕ) (ts : List ScriptToken)
    → IsSpelled text (weight_tokens w ++ (quote t ∷ ts)) → w ≡ Some v
weight_stands text letter rest v f is None t ts k =
    let o : quote t ≡ word letter = (behind_one text (word letter) rest (quote t) ts f k).0 in
    cc
weight_stands text letter rest v f is (Some w) t ts k =
    let o : weight_letter w ∷ [] ≡ letter =
    (named_behind text letter rest (weight_letter w ∷ []) (quote t ∷ ts) f k).0 in
    let e : weight_letter w ∷ [] ≡ weight_letter v ∷ [] = o ∙ sym is in
    let l : weight_letter w ≡ weight_letter v = cc in
    ap Some (letters_same w v l)

pub no_weight : (text letter rest : List ℕ) → Fronts text (word letter ∷ []) rest
    → ((v : Weight) → weight_letter v ∷ [] ≢ letter) → (w : Option Weight) (t : List ℕ) (ts : List ScriptToken)
    → IsSpelled text (weight_tokens w ++ (quote t ∷ ts)) → w ≡ None
no_weight text letter rest f bad None t ts k = refl
no_weight text letter rest f bad (Some w) t ts k =
    absurd (bad w (named_behind text letter rest (weight_letter w ∷ []) (quote t ∷ ts) f k).0)

pub no_weight_word : (text : List ℕ) → ((w : List ℕ) (ts : List ScriptToken) → IsSpelled text (word w ∷ ts) → ⊥)
    → (w : Option Weight) (t : List ℕ) (ts : List ScriptToken) → IsSpelled text (weight_tokens w ++ (quote t ∷ ts))
    → w ≡ None
no_weight_word text bad None t ts k = refl
no_weight_word text bad (Some w) t ts k = absurd (bad (weight_letter w ∷ []) (quote t ∷ ts) k)

-- ── vectors ──
pub made_front : (text config rest more last t : List ℕ) (w : Option Weight)
    → Fronts text (word config ∷ []) rest → Fronts rest (weight_tokens w) more → Fronts more (quote t ∷ []) last
    → Fronts text (source_tokens (vector_by config w t)) last
made_front text config rest more last t w f g h =
    front_both text rest last (word config ∷ []) (weight_tokens w ++ quote t ∷ []) f
    (front_both rest more last (weight_tokens w) (quote t ∷ []) g h)

pub text_front : (text rest last t : List ℕ) → Fronts text (word (codes "vector") ∷ []) rest
    → Fronts rest (quote t ∷ []) last → Fronts text (source_tokens (vector_text t)) last
text_front text rest last t f h = front_both text rest last (word (codes "vector") ∷ []) (quote t ∷ []) f h

-- after the word of vectors is no quoted text
pub no_text : (text rest : List ℕ) → Fronts text (word (codes "vector") ∷ []) rest
    → ((t : List ℕ) (ts : List ScriptToken) → IsSpelled rest (quote t ∷ ts) → ⊥)
    → (s : VectorSource) (ts : List ScriptToken) → IsSource s → IsSpelled text (source_tokens s ++ ts) → ⊥
no_text text rest f bad (vector_text t) ts is k =
    bad t ts (front_rest text (word (codes "vector") ∷ []) rest (quote t ∷ ts) f k)
no_text text rest f bad (vector_by config w t) ts is k =
    is.free.0 (named_behind text (codes "vector") rest config ((weight_tokens w ++ quote t ∷ []) ++ ts) f k).0

-- neither that word nor a name
pub no_source : (text : List ℕ) → ((ts : List ScriptToken) → IsSpelled text (word (codes "vector") ∷ ts) → ⊥)
    → ((n : List ℕ) (ts : List ScriptToken) → IsName n → IsSpelled text (word n ∷ ts) → ⊥)
    → (s : VectorSource) (ts : List ScriptToken) → IsSource s → IsSpelled text (source_tokens s ++ ts) → ⊥
no_source text vectors names (vector_text t) ts is k = vectors (quote t ∷ ts) k
no_source text vectors names (vector_by config w t) ts is k =
    names config ((weight_tokens w ++ quote t ∷ []) ++ ts) is k

-- after a name, and a weight if there is one, is no quoted text
pub no_made : (text config rest more : List ℕ) (v : Option Weight)
    → ((ts : List ScriptToken) → IsSpelled text (word (codes "vector") ∷ ts) → ⊥) → Fronts text (word config ∷ []) rest
    → Fronts rest (weight_tokens v) more → ((w : Option Weight) (t : List ℕ) (ts : List ScriptToken)
    → IsSpelled rest (weight_tokens w ++ (quote t ∷ ts)) → w ≡ v)
    → ((t : List ℕ) (ts : List ScriptToken) → IsSpelled more (quote t ∷ ts) → ⊥)
    → (s : VectorSource) (ts : List ScriptToken) → IsSource s → IsSpelled text (source_tokens s ++ ts) → ⊥
no_made text config rest more v vectors f g first bad (vector_text t) ts is k = vectors (quote t ∷ ts) k
no_made text config rest more v vectors f g first bad (vector_by d w t) ts is k =
    let o = named_behind text config rest d ((weight_tokens w ++ quote t ∷ []) ++ ts) f k in
    let here : IsSpelled rest (weight_tokens w ++ (quote t ∷ ts)) =
    subst (IsSpelled rest) (append_assoc (weight_tokens w) (quote t ∷ []) ts) o.1 in
    bad t ts (front_rest rest (weight_tokens v) more (quote t ∷ ts) g
    (subst (λ z. IsSpelled rest (weight_tokens z ++ (quote t ∷ ts))) (first w t ts here) here))

-- ── queries ──
abbrev maker_at : ℕ → Maker
maker_at n = if n == 2 then To else (if n == 5 then Plain else (if n == 6 then Phrase else Web))

maker_is : (m : Maker) → maker_at (length (maker_word m)) ≡ m
maker_is To = refl
maker_is Plain = refl
maker_is Phrase = refl
maker_is Web = refl

pub makers_same : (m n : Maker) → maker_word m ≡ maker_word n → m ≡ n
makers_same m n e = sym (maker_is m) ∙ ap (λ (w : List ℕ). maker_at (length w)) e ∙ maker_is n

-- a query's tokens say the query
pub queries_same : (p q : QuerySource) → query_tokens p ≡ query_tokens q → p ≡ q
queries_same (query_text t) (query_text u) e = let f : t ≡ u = cc in ap query_text f
queries_same (query_text t) (query_by m c u) e = cc
queries_same (query_by m c t) (query_text u) e = cc
queries_same (query_by m c t) (query_by n d u) e =
    let o = words_same (maker_word m) (maker_word n) (word c ∷ quote t ∷ []) (word d ∷ quote u ∷ []) e in
    let p = words_same c d (quote t ∷ []) (quote u ∷ []) o.1 in
    let f : quote t ∷ [] ≡ quote u ∷ [] = p.1 in
    let g : t ≡ u = cc in
    ap (λ z. query_by z c t) (makers_same m n o.0) ∙ ap (λ z. query_by n z t) p.0 ∙ ap (query_by n d) g

-- no query where neither a quoted text nor a word is
pub no_query_word : (text : List ℕ) → ((w : List ℕ) (ts : List ScriptToken) → IsSpelled text (word w ∷ ts) → ⊥)
    → ((t : List ℕ) → IsSpelled text (quote t ∷ []) → ⊥) → (q : QuerySource) → IsQuery q
    → IsSpelled text (query_tokens q) → ⊥
no_query_word text words texts (query_text t) is k = texts t k
no_query_word text words texts (query_by m c t) is k = words (maker_word m) (word c ∷ quote t ∷ []) k

-- nor after another word
pub no_maker : (text w rest : List ℕ) → Fronts text (word w ∷ []) rest → ((m : Maker) → maker_word m ≢ w)
    → (q : QuerySource) → IsQuery q → IsSpelled text (query_tokens q) → ⊥
no_maker text w rest f bad (query_text t) is k =
    let o : quote t ≡ word w = (behind_one text (word w) rest (quote t) [] f k).0 in
    cc
no_maker text w rest f bad (query_by m c t) is k =
    bad m (named_behind text w rest (maker_word m) (word c ∷ quote t ∷ []) f k).0

-- nor where something else than a name and a quoted text is after its word
pub no_made_query : (text w rest : List ℕ) → Fronts text (word w ∷ []) rest → ((c t : List ℕ) → IsName c
    → IsSpelled rest (word c ∷ quote t ∷ []) → ⊥) → (q : QuerySource) → IsQuery q → IsSpelled text (query_tokens q) → ⊥
no_made_query text w rest f bad (query_text t) is k =
    let o : quote t ≡ word w = (behind_one text (word w) rest (quote t) [] f k).0 in
    cc
no_made_query text w rest f bad (query_by m c t) is k =
    bad c t is (named_behind text w rest (maker_word m) (word c ∷ quote t ∷ []) f k).1

pub query_made : (text w rest config more t : List ℕ) (m : Maker) → Fronts text (word w ∷ []) rest
    → maker_word m ≡ w → Fronts rest (word config ∷ []) more → IsSpelled more (quote t ∷ [])
    → IsSpelled text (query_tokens (query_by m config t))
query_made text w rest config more t m f is g k =
    subst (λ z. IsSpelled text (word z ∷ word config ∷ quote t ∷ [])) (sym is)
    (f.goes_on (word config ∷ quote t ∷ []) (g.goes_on (quote t ∷ []) k))
