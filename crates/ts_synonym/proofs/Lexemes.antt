-- What is kept for words are lexemes.
use Rattle.std.proofs.Common.{◌≡◌, List, [], ◌∷◌, ℕ, Bool, true, false, cond, map, subst, Some}
use Rattle.std.specs.Prelude.{All, bytes_eq, String, string_bytes}
use Rattle.std.specs.Map.{lookup}
use Rattle.std.specs.declared.alloc.Global.{Global}
use Rattle.indexmap.specs.IndexMap.{insert_entry}
use Rattle.std.proofs.lemmas.List.Elements.{All-nil, All-cons, All-head, All-tail}
use Rattle.ts_base.specs.declared.Found.{Found}
use Rattle.ts_base.specs.Dictionary.{IsWordAnswer}
use Rattle.ts_base.specs.Lexemes.{IsLexeme}
use Rattle.ts_synonym.specs.Synonyms.{cased, given_answer, synonym_answer, Synonyms}
use Rattle.ts_synonym.specs.Views.{pair}
use Rattle.ts_synonym.proofs.Kept.{looked_up}

-- what stands for the word is a lexeme
abbrev pub HasLexeme : String Global × Found → Type 0
HasLexeme e = IsLexeme e.1.lexeme

-- it stays so with one entry more
pub entry_kept : (eq : String Global → String Global → Bool) (es : List (String Global × Found)) (k : String Global)
    (v : Found) → All HasLexeme es → IsLexeme v.lexeme
    → All HasLexeme (insert_entry eq es k v)
entry_kept eq [] k v h l = All-cons HasLexeme (k, v) [] l (All-nil HasLexeme)
entry_kept eq (e ∷ es) k v h l = by (eq k e.0) (entry_kept eq es k v (All-tail HasLexeme e es h) l)
  where
    by : (b : Bool) → All HasLexeme (insert_entry eq es k v)
        → All HasLexeme (cond b ((e.0, v) ∷ es) (e ∷ insert_entry eq es k v))
    by true later = All-cons HasLexeme (e.0, v) es l (All-tail HasLexeme e es h)
    by false later = All-cons HasLexeme e (insert_entry eq es k v) (All-head HasLexeme e es h) later

-- one lexeme is an answer
one_answer : (found : Found) → IsLexeme found.lexeme → IsWordAnswer (given_answer (Some found))
one_answer found h =
    ((λ e. cc), All-cons (λ (f : Found). IsLexeme f.lexeme) found [] h (All-nil (λ (f : Found). IsLexeme f.lexeme)))

looked_up_valid : (test : String Global → Bool) (es : List (String Global × Found)) → All HasLexeme es
    → IsWordAnswer (given_answer (lookup test es))
looked_up_valid test [] h = tt
looked_up_valid test (e ∷ es) h = by (test e.0) (looked_up_valid test es (All-tail HasLexeme e es h))
  where
    by : (b : Bool) → IsWordAnswer (given_answer (lookup test es))
        → IsWordAnswer (given_answer (cond b (Some e.1) (lookup test es)))
    by true later = one_answer e.1 (All-head HasLexeme e es h)
    by false later = later

-- where each entry has a lexeme, each answer is one
pub named_valid : (sensitive : Bool) (es : List (String Global × Found)) (kept : Synonyms) (word : List ℕ)
    → (let inside : Synonyms = record { sensitive = sensitive; pairs = map pair es } in inside ≡ kept)
    → All HasLexeme es → IsWordAnswer (synonym_answer kept word)
named_valid sensitive es kept word e h =
    let asked = cased sensitive word in
    let found = subst (λ o. IsWordAnswer (given_answer o)) (looked_up asked es)
    (looked_up_valid (λ k. bytes_eq asked (string_bytes k)) es h) in
    subst (λ k. IsWordAnswer (synonym_answer k word)) e found
