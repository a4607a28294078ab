-- From the tokens of a text to parts and expressions.
use Rattle.std.proofs.Common.{◌≡◌, ℕ, Bool, true, false, ◌==◌, if◌then◌else◌, List, [], ◌∷◌, ◌++◌, get_or, codes}
use Rattle.std.proofs.Common.{append_assoc, append-nil, refl, sym, ◌∙◌, ap, subst}
use Rattle.std.specs.Prelude.{is_some, MatchOption, IsSomeAnd, Option, Some, None, Result, Ok, Err, IfOk, IfSome}
use Rattle.std.specs.Prelude.{IfNone}
use Rattle.std.specs.List.{All, flat_map}
use Rattle.std.proofs.lemmas.List.{flat_map_more}
use Rattle.std.proofs.lemmas.List.Elements.{All-head, All-tail}
use Rattle.ts_base.specs.declared.Weight.{Weight}
use Rattle.ts_base.specs.declared.Weight.TheVariants.{A, B, C, D}
use Rattle.ts_base.specs.Bytes.{IsBlank}
use Rattle.shell_script.specs.Grammar.{VectorSource, vector_text, vector_by, Part, Expr, strip_tokens, weight_letter}
use Rattle.shell_script.specs.Grammar.{weight_tokens, source_tokens, part_tokens, joined_tokens, expr_tokens, IsSource}
use Rattle.shell_script.specs.Grammar.{IsExpr}
use Rattle.shell_script.specs.Tokens.{ScriptToken, word, quote, IsSpelled}
use Rattle.shell_script.specs.Inner.Fronts.{Fronts}
use Rattle.shell_script.proofs.Spelling.{behind_one, front_both, front_rest}
use Rattle.shell_script.proofs.FirstTokens.{heads_differ, words_same}

-- what follows from what a clause says of an answer that may be missing
pub if_found : {A E : Type 0} (r : Result (Option A) E) (P Q : A → Type 0) → ((x : A) → P x → Q x)
    → IfOk r (λ found. IfSome found P) → IfOk r (λ found. IfSome found Q)
if_found (Err e) P Q f h = tt
if_found (Ok None) P Q f h = tt
if_found (Ok (Some x)) P Q f h = f x h

pub if_missed : {A E : Type 0} (r : Result (Option A) E) (P Q : Type 0) → (P → Q) → IfOk r (λ found. IfNone found P)
    → IfOk r (λ found. IfNone found Q)
if_missed (Err e) P Q f h = tt
if_missed (Ok None) P Q f h = f h
if_missed (Ok (Some x)) P Q f h = tt

pub missed : {A : Type 0} (r : Option A) (P : Type 0) → P → IfNone r P
missed None P h = h
missed (Some x) P h = tt

-- what a `map` makes of an answer
pub mapped_some : {A B : Type 0} (o : Option A) (r : Option B) (F : A → B → Type 0) (P : A → Type 0) (Q : B → Type 0)
    → MatchOption o (r ≡ None) (λ x. IsSomeAnd r (F x)) → ((x : A) (y : B) → F x y → P x → Q y) → IfSome o P
    → IfSome r Q
mapped_some o None F P Q e f h = tt
mapped_some None (Some y) F P Q e f h = cc
mapped_some (Some x) (Some y) F P Q e f h = f x y e h

pub mapped_none : {A B : Type 0} (o : Option A) (r : Option B) (P Q : Type 0) → is_some r ≡ is_some o → (P → Q)
    → IfNone o P → IfNone r Q
mapped_none o (Some y) P Q e f h = tt
mapped_none None None P Q e f h = f h
mapped_none (Some x) None P Q e f h = cc

pub none_then : {A : Type 0} (o : Option A) (P Q : Type 0) → (P → Q) → IfNone o P → IfNone o Q
none_then None P Q f h = f h
none_then (Some x) P Q f h = tt

quotes_same : (t u : List ℕ) (xs ys : List ScriptToken) → quote t ∷ xs ≡ quote u ∷ ys → (t ≡ u) × (xs ≡ ys)
quotes_same t u xs ys e = (cc, cc)

-- the weight of a letter
abbrev weight_at : ℕ → Weight
weight_at c = if c == 65 then A else (if c == 66 then B else (if c == 67 then C else D))

weight_is : (w : Weight) → weight_at (weight_letter w) ≡ w
weight_is A = refl
weight_is B = refl
weight_is C = refl
weight_is D = refl

pub letters_same : (v w : Weight) → weight_letter v ≡ weight_letter w → v ≡ w
letters_same v w e = sym (weight_is v) ∙ ap weight_at e ∙ weight_is w

-- the weight before a quoted text, and what is after it
weights_same : (v w : Option Weight) (t u : List ℕ) (xs ys : List ScriptToken)
    → weight_tokens v ++ (quote t ∷ xs) ≡ weight_tokens w ++ (quote u ∷ ys) → (v ≡ w) × (quote t ∷ xs ≡ quote u ∷ ys)
weights_same None None t u xs ys e = (refl, e)
weights_same None (Some w) t u xs ys e = cc
weights_same (Some v) None t u xs ys e = cc
weights_same (Some v) (Some w) t u xs ys e =
    let o = words_same (weight_letter v ∷ []) (weight_letter w ∷ []) (quote t ∷ xs) (quote u ∷ ys) e in
    let l : weight_letter v ≡ weight_letter w = ap (λ (z : List ℕ). get_or z 0 0) o.0 in
    (ap Some (letters_same v w l), o.1)

-- the word that a part begins with, but for its mark, and what is after it
abbrev source_word : VectorSource → List ℕ
source_word (vector_text t) = codes "vector"
source_word (vector_by config w t) = config

abbrev source_rest : VectorSource → List ScriptToken
source_rest (vector_text t) = quote t ∷ []
source_rest (vector_by config w t) = weight_tokens w ++ quote t ∷ []

pub source_cut : (s : VectorSource) (ts : List ScriptToken)
    → source_tokens s ++ ts ≡ word (source_word s) ∷ (source_rest s ++ ts)
source_cut (vector_text t) ts = refl
source_cut (vector_by config w t) ts = refl

pub no_strip : (s : VectorSource) → IsSource s → codes "strip" ≡ source_word s → ⊥
no_strip (vector_text t) is e = heads_differ (codes "strip") (codes "vector") refl e
no_strip (vector_by config w t) is e = is.free.1 (sym e)

-- the mark says whether the part is stripped
strips_same : (a b : Bool) (s t : VectorSource) (xs ys : List ScriptToken) → IsSource s → IsSource t
    → strip_tokens a ++ (source_tokens s ++ xs) ≡ strip_tokens b ++ (source_tokens t ++ ys)
    → (a ≡ b) × (source_tokens s ++ xs ≡ source_tokens t ++ ys)
strips_same true true s t xs ys h k e =
    (refl, (words_same (codes "strip") (codes "strip") (source_tokens s ++ xs) (source_tokens t ++ ys) e).1)
strips_same false false s t xs ys h k e = (refl, e)
strips_same true false s t xs ys h k e = absurd (no_strip t k
    (words_same (codes "strip") (source_word t) (source_tokens s ++ xs) (source_rest t ++ ys) (e ∙ source_cut t ys)).0)
strips_same false true s t xs ys h k e = absurd (no_strip s h (words_same (codes "strip") (source_word s)
    (source_tokens t ++ ys) (source_rest s ++ xs) (sym e ∙ source_cut s xs)).0)

-- what a vector is made of is known by its tokens
sources_same : (s t : VectorSource) (xs ys : List ScriptToken) → IsSource s → IsSource t
    → source_tokens s ++ xs ≡ source_tokens t ++ ys → (s ≡ t) × (xs ≡ ys)
sources_same (vector_text t) (vector_text u) xs ys h k e =
    let o = words_same (codes "vector") (codes "vector") (quote t ∷ xs) (quote u ∷ ys) e in
    let both = quotes_same t u xs ys o.1 in
    (ap vector_text both.0, both.1)
sources_same (vector_text t) (vector_by config w u) xs ys h k e =
    absurd (k.free.0
    (sym (words_same (codes "vector") config (quote t ∷ xs) ((weight_tokens w ++ quote u ∷ []) ++ ys) e).0))
sources_same (vector_by config w t) (vector_text u) xs ys h k e =
    absurd (h.free.0 (words_same config (codes "vector") ((weight_tokens w ++ quote t ∷ []) ++ xs) (quote u ∷ ys) e).0)
sources_same (vector_by c v t) (vector_by d w u) xs ys h k e =
    let o = words_same c d ((weight_tokens v ++ quote t ∷ []) ++ xs) ((weight_tokens w ++ quote u ∷ []) ++ ys) e in
    let f : weight_tokens v ++ (quote t ∷ xs) ≡ weight_tokens w ++ (quote u ∷ ys) = sym
    (append_assoc (weight_tokens v) (quote t ∷ []) xs) ∙ o.1 ∙ append_assoc (weight_tokens w) (quote u ∷ []) ys in
    let weights = weights_same v w t u xs ys f in
    let both = quotes_same t u xs ys weights.1 in
    (ap (λ z. vector_by z v t) o.0 ∙ ap (λ z. vector_by d z t) weights.0 ∙ ap (vector_by d w) both.0, both.1)

part_with : (p : Part) (ts : List ScriptToken)
    → part_tokens p ++ ts ≡ strip_tokens p.stripped ++ (source_tokens p.source ++ ts)
part_with p ts = append_assoc (strip_tokens p.stripped) (source_tokens p.source) ts

same_part : (p q : Part) → p.stripped ≡ q.stripped → p.source ≡ q.source → p ≡ q
same_part p q e f =
    ap (λ b. record { stripped = b; source = p.source }) e ∙ ap (λ t. record { stripped = q.stripped; source = t }) f

-- a part's tokens say the part, and what is after them
parts_same : (p q : Part) (xs ys : List ScriptToken) → IsSource p.source → IsSource q.source
    → part_tokens p ++ xs ≡ part_tokens q ++ ys → (p ≡ q) × (xs ≡ ys)
parts_same p q xs ys h k e =
    let both =
    strips_same p.stripped q.stripped p.source q.source xs ys h k (sym (part_with p xs) ∙ e ∙ part_with q ys) in
    let more = sources_same p.source q.source xs ys h k both.1 in
    (same_part p q both.0 more.0, more.1)

abbrev pub IsPartNamed : Part → Type 0
IsPartNamed p = IsSource p.source

abbrev ArePartsNamed : List Part → Type 0
ArePartsNamed ps = All (λ (p : Part). IsSource p.source) ps

-- what is after some of the joined parts is joined parts
pub joined_behind : (ps qs : List Part) (ts : List ScriptToken) → ArePartsNamed ps
    → ArePartsNamed qs → flat_map joined_tokens ps ≡ flat_map joined_tokens qs ++ ts
    → (rs : List Part) × (ps ≡ qs ++ rs) × (ts ≡ flat_map joined_tokens rs) × ArePartsNamed rs
joined_behind ps [] ts h k e = (ps, refl, sym e, h)
joined_behind [] (q ∷ qs) ts h k e = cc
joined_behind (p ∷ ps) (q ∷ qs) ts h k e =
    let f : part_tokens p ++ flat_map joined_tokens ps ≡ (part_tokens q ++ flat_map joined_tokens qs) ++ ts = cc in
    let both =
    parts_same p q (flat_map joined_tokens ps) (flat_map joined_tokens qs ++ ts) (All-head IsPartNamed p ps h)
    (All-head IsPartNamed q qs k) (f ∙ append_assoc (part_tokens q) (flat_map joined_tokens qs) ts) in
    let more = joined_behind ps qs ts (All-tail IsPartNamed p ps h) (All-tail IsPartNamed q qs k) both.1 in
    (more.0, cc, more.2, more.3)

pub expr_behind : (d e : Expr) (ts : List ScriptToken) → IsExpr d → IsExpr e → expr_tokens e ≡ expr_tokens d ++ ts
    → (rs : List Part) × (e.first ≡ d.first) × (e.others ≡ d.others ++ rs) × (ts ≡ flat_map joined_tokens rs)
    × ArePartsNamed rs
expr_behind d e ts h k same =
    let both = parts_same e.first d.first (flat_map joined_tokens e.others) (flat_map joined_tokens d.others ++ ts) k.0
    h.0 (same ∙ append_assoc (part_tokens d.first) (flat_map joined_tokens d.others) ts) in
    let more = joined_behind e.others d.others ts k.1 h.1 both.1 in
    (more.0, both.0, more.1, more.2, more.3)

pub exprs_same : (d e : Expr) → IsExpr d → IsExpr e → expr_tokens d ≡ expr_tokens e → d ≡ e
exprs_same d e h k same =
    let behind = expr_behind e d [] k h (same ∙ sym (append-nil (expr_tokens e))) in
    let others : d.others ≡ e.others = behind.2 ∙ no_more behind.0 behind.3 ∙ append-nil e.others in
    ap (λ p. record { first = p; others = d.others }) behind.1
    ∙ ap (λ ps. record { first = e.first; others = ps }) others
  where
    no_more : (rs : List Part) → [] ≡ flat_map joined_tokens rs → e.others ++ rs ≡ e.others ++ []
    no_more [] f = refl
    no_more (r ∷ rs) f = cc

-- what is after a part's mark
pub part_behind : (text rest : List ℕ) (b : Bool) → Fronts text (strip_tokens b) rest
    → ((c : Bool) (s : VectorSource) (ts : List ScriptToken) → IsSource s
    → IsSpelled text (strip_tokens c ++ (source_tokens s ++ ts)) → c ≡ b) → (p : Part) (ts : List ScriptToken)
    → IsSource p.source → IsSpelled text (part_tokens p ++ ts) → IsSpelled rest (source_tokens p.source ++ ts)
part_behind text rest b front first p ts is k =
    let behind : List ScriptToken = source_tokens p.source ++ ts in
    let here : IsSpelled text (strip_tokens p.stripped ++ behind) = subst (IsSpelled text) (part_with p ts) k in
    front_rest text (strip_tokens b) rest behind front
    (subst (λ c. IsSpelled text (strip_tokens c ++ behind)) (first p.stripped p.source ts is here) here)

-- the mark is there, or isn't
pub strip_stands : (text rest : List ℕ) → Fronts text (word (codes "strip") ∷ []) rest → (b : Bool) (s : VectorSource)
    (ts : List ScriptToken) → IsSource s → IsSpelled text (strip_tokens b ++ (source_tokens s ++ ts)) → b ≡ true
strip_stands text rest f true s ts is k = refl
strip_stands text rest f false s ts is k =
    let o : word (source_word s) ≡ word (codes "strip") = (behind_one text (word (codes "strip")) rest
    (word (source_word s)) (source_rest s ++ ts) f (subst (IsSpelled text) (source_cut s ts) k)).0 in
    absurd (no_strip s is (words_of (source_word s) (codes "strip") o))
  where
    words_of : (v w : List ℕ) → word v ≡ word w → w ≡ v
    words_of v w e = cc

pub no_strip_stands : (text : List ℕ) → ((ts : List ScriptToken) → IsSpelled text (word (codes "strip") ∷ ts) → ⊥)
    → (b : Bool) (s : VectorSource) (ts : List ScriptToken) → IsSource s
    → IsSpelled text (strip_tokens b ++ (source_tokens s ++ ts)) → b ≡ false
no_strip_stands text bad true s ts is k = absurd (bad (source_tokens s ++ ts) k)
no_strip_stands text bad false s ts is k = refl

-- one more part
pub expr_more : (text rest more : List ℕ) (first p : Part) (ps : List Part)
    → Fronts text (part_tokens first ++ flat_map joined_tokens ps) rest → Fronts rest (joined_tokens p) more
    → Fronts text (part_tokens first ++ flat_map joined_tokens (ps ++ p ∷ [])) more
expr_more text rest more first p ps h k =
    let e : (part_tokens first ++ flat_map joined_tokens ps) ++ joined_tokens p ≡ part_tokens first
    ++ flat_map joined_tokens (ps ++ p ∷ []) = flat_map_more joined_tokens (part_tokens first) ps p in
    subst (λ f. Fronts text f more) e
    (front_both text rest more (part_tokens first ++ flat_map joined_tokens ps) (joined_tokens p) h k)

-- no expression where something else is after its parts
pub expr_fault : (text rest : List ℕ) (d : Expr) → IsExpr d → Fronts text (expr_tokens d) rest → (All IsBlank rest → ⊥)
    → ((p : Part) (ts : List ScriptToken) → IsSource p.source → IsSpelled rest (joined_tokens p ++ ts) → ⊥) → (e : Expr)
    → IsExpr e → IsSpelled text (expr_tokens e) → ⊥
expr_fault text rest d is h some bad e named k =
    let o = h.came_so (expr_tokens e) k in
    let behind = expr_behind d e o.0 is named o.1 in
    by behind.0 behind.4 (subst (IsSpelled rest) behind.3 o.2)
  where
    by : (rs : List Part) → ArePartsNamed rs → IsSpelled rest (flat_map joined_tokens rs) → ⊥
    by [] n m = some m
    by (r ∷ rs) n m = bad r (flat_map joined_tokens rs) (All-head IsPartNamed r rs n) m
