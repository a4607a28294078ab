-- What the first line of a definition says, by its first word.
use Rattle.std.proofs.Common.{◌≡◌, List, ℕ, [], ◌∷◌, Bool, true, false, codes, refl, sym, ◌∙◌, subst}
use Rattle.std.specs.Prelude.{not}
use Rattle.std.specs.Str.{IsUtf8}
use Rattle.std.specs.List.{All}
use Rattle.ts_base.specs.Bytes.{IsBlank}
use Rattle.shell_script.specs.Tokens.{ScriptToken, word, IsSpelled}
use Rattle.shell_script.specs.OpeningLines.{IsName, Kind, simple_kind, porter_kind, synonym_kind, thesaurus_kind}
use Rattle.shell_script.specs.OpeningLines.{IsNamedKind, OpeningLine, dictionary_opening, configuration_opening}
use Rattle.shell_script.specs.OpeningLines.{mark_tokens, kind_tokens, opening_tokens, IsOpeningLine}
use Rattle.shell_script.specs.Inner.Fronts.{Fronts}
use Rattle.shell_script.proofs.FirstTokens.{bytes_differ, heads_differ}
use Rattle.shell_script.proofs.Spelling.{behind_one}

-- the word in front, and what is after it
pub named_behind : (text w rest n : List ℕ) (ts : List ScriptToken) → Fronts text (word w ∷ []) rest
    → IsSpelled text (word n ∷ ts) → (n ≡ w) × IsSpelled rest ts
named_behind text w rest n ts h k =
    let o = behind_one text (word w) rest (word n) ts h k in
    (same o.0, o.1)
  where
    same : word n ≡ word w → n ≡ w
    same e = cc

-- a mark that isn't there, and another text
pub no_mark : (text rest mark : List ℕ) → Fronts text (word mark ∷ []) rest → (All IsBlank text → ⊥)
    → (All IsBlank rest → ⊥) → (m : Bool) → IsSpelled text (mark_tokens m mark) → ⊥
no_mark text rest mark f some more true k = more (behind_one text (word mark) rest (word mark) [] f k).1
no_mark text rest mark f some more false k = some k

pub no_mark_word : (text mark : List ℕ) → (All IsBlank text → ⊥) → ((ts : List ScriptToken)
    → IsSpelled text (word mark ∷ ts) → ⊥) → (m : Bool) → IsSpelled text (mark_tokens m mark) → ⊥
no_mark_word text mark some bad true k = bad [] k
no_mark_word text mark some bad false k = some k

-- each kind begins with a word
pub kind_first : (k : Kind) → (w : List ℕ) × (ts : List ScriptToken) × (kind_tokens k ≡ word w ∷ ts)
kind_first (simple_kind accept) = (codes "simple", mark_tokens (not accept) (codes "pass"), refl)
kind_first porter_kind = (codes "porter", [], refl)
kind_first (synonym_kind cases) = (codes "synonym", mark_tokens cases (codes "casesensitive"), refl)
kind_first (thesaurus_kind sub) = (codes "thesaurus", word sub ∷ [], refl)

pub no_kind_word : (text : List ℕ) → ((w : List ℕ) (ts : List ScriptToken) → IsSpelled text (word w ∷ ts) → ⊥)
    → (k : Kind) → IsNamedKind k → IsSpelled text (kind_tokens k) → ⊥
no_kind_word text bad k is s = let f = kind_first k in bad f.0 f.1 (subst (IsSpelled text) f.2 s)

-- no kind is there
pub kind_outside : (text first rest : List ℕ) → Fronts text (word first ∷ []) rest
    → (first ≡ codes "simple" → (m : Bool) → IsSpelled rest (mark_tokens m (codes "pass")) → ⊥)
    → (first ≡ codes "synonym" → (m : Bool) → IsSpelled rest (mark_tokens m (codes "casesensitive")) → ⊥)
    → (first ≡ codes "thesaurus" → (n : List ℕ) → IsName n → IsSpelled rest (word n ∷ []) → ⊥) → (first ≡ codes "porter"
    → All IsBlank rest → ⊥) → (k : Kind) → IsNamedKind k → IsSpelled text (kind_tokens k) → ⊥
kind_outside text first rest f a b c d (simple_kind accept) is s =
    let o = named_behind text first rest (codes "simple") (mark_tokens (not accept) (codes "pass")) f s in
    a (sym o.0) (not accept) o.1
kind_outside text first rest f a b c d porter_kind is s =
    let o = named_behind text first rest (codes "porter") [] f s in
    d (sym o.0) o.1
kind_outside text first rest f a b c d (synonym_kind cases) is s =
    let o = named_behind text first rest (codes "synonym") (mark_tokens cases (codes "casesensitive")) f s in
    b (sym o.0) cases o.1
kind_outside text first rest f a b c d (thesaurus_kind sub) is s =
    let o = named_behind text first rest (codes "thesaurus") (word sub ∷ []) f s in
    c (sym o.0) sub is o.1

-- the word in front is a kind's
pub kind_is : (text first rest w : List ℕ) (ts : List ScriptToken) → Fronts text (word first ∷ []) rest → first ≡ w
    → IsSpelled rest ts → IsSpelled text (word w ∷ ts)
kind_is text first rest w ts f is s = subst (λ v. IsSpelled text (word v ∷ ts)) is (f.goes_on ts s)

-- of the four words that kinds begin with, another one
pub simple_or_synonym : codes "simple" ≡ codes "synonym" → ⊥
simple_or_synonym e = bytes_differ 1 (codes "simple") (codes "synonym") refl e

pub opening_first : (h : OpeningLine) → (w : List ℕ) × (ts : List ScriptToken) × (opening_tokens h ≡ word w ∷ ts)
opening_first (dictionary_opening n k) = (codes "dictionary", word n ∷ kind_tokens k, refl)
opening_first (configuration_opening n) = (codes "configuration", word n ∷ [], refl)

-- no head is there
pub dictionary_outside : (text first rest : List ℕ) → Fronts text (word first ∷ []) rest → first ≡ codes "dictionary"
    → ((n : List ℕ) (k : Kind) → IsName n → IsNamedKind k → IsSpelled rest (word n ∷ kind_tokens k) → ⊥)
    → (h : OpeningLine) → IsOpeningLine text h → ⊥
dictionary_outside text first rest f is bad (dictionary_opening n k) h = bad n k h.named.0 h.named.1
    (named_behind text first rest (codes "dictionary") (word n ∷ kind_tokens k) f h.spelled).1
dictionary_outside text first rest f is bad (configuration_opening n) h = heads_differ (codes "configuration")
    (codes "dictionary") refl ((named_behind text first rest (codes "configuration") (word n ∷ []) f h.spelled).0 ∙ is)

pub configuration_outside : (text first rest : List ℕ) → Fronts text (word first ∷ []) rest
    → first ≡ codes "configuration" → ((n : List ℕ) → IsName n → IsSpelled rest (word n ∷ []) → ⊥) → (h : OpeningLine)
    → IsOpeningLine text h → ⊥
configuration_outside text first rest f is bad (dictionary_opening n k) h =
    heads_differ (codes "dictionary") (codes "configuration") refl
    ((named_behind text first rest (codes "dictionary") (word n ∷ kind_tokens k) f h.spelled).0 ∙ is)
configuration_outside text first rest f is bad (configuration_opening n) h =
    bad n h.named (named_behind text first rest (codes "configuration") (word n ∷ []) f h.spelled).1

pub no_opening_line : (text first rest : List ℕ) → Fronts text (word first ∷ []) rest → (first ≡ codes "dictionary" → ⊥)
    → (first ≡ codes "configuration" → ⊥) → (h : OpeningLine) → IsOpeningLine text h → ⊥
no_opening_line text first rest f a b (dictionary_opening n k) h =
    a (sym (named_behind text first rest (codes "dictionary") (word n ∷ kind_tokens k) f h.spelled).0)
no_opening_line text first rest f a b (configuration_opening n) h =
    b (sym (named_behind text first rest (codes "configuration") (word n ∷ []) f h.spelled).0)

pub dictionary_is : (text first rest name : List ℕ) (k : Kind) → IsUtf8 text → Fronts text (word first ∷ []) rest
    → first ≡ codes "dictionary" → IsName name → IsNamedKind k → IsSpelled rest (word name ∷ kind_tokens k)
    → IsOpeningLine text (dictionary_opening name k)
dictionary_is text first rest name k u f is n m s = record {
  utf8 = u;
  named = (n, m);
  spelled =
      subst (λ w. IsSpelled text (word w ∷ word name ∷ kind_tokens k)) is (f.goes_on (word name ∷ kind_tokens k) s);
}

pub configuration_is : (text first rest name : List ℕ) → IsUtf8 text → Fronts text (word first ∷ []) rest
    → first ≡ codes "configuration" → IsName name → IsSpelled rest (word name ∷ [])
    → IsOpeningLine text (configuration_opening name)
configuration_is text first rest name u f is n s = record {
  utf8 = u;
  named = n;
  spelled = subst (λ w. IsSpelled text (word w ∷ word name ∷ [])) is (f.goes_on (word name ∷ []) s);
}
