-- A line of a configuration has one meaning.
use Rattle.std.proofs.Common.{◌≡◌, ℕ, List, [], ◌∷◌, map, refl, sym, ◌∙◌, ap}
use Rattle.ts_parser.specs.declared.kinds.TokenType.{TokenType}
use Rattle.shell_script.specs.Tokens.{word}
use Rattle.shell_script.specs.OpeningLines.{IsMapping}
use Rattle.shell_script.specs.Inner.Parts.{types_in}
use Rattle.shell_script.proofs.FirstTokens.{words_same}
use Rattle.shell_script.proofs.Spelling.{one_spelling}
use Rattle.shell_script.proofs.TypeLists.{types_text, types_read}

words_tell : (ns ms : List (List ℕ)) → map word ns ≡ map word ms → ns ≡ ms
words_tell [] [] e = refl
words_tell [] (m ∷ ms) e = cc
words_tell (n ∷ ns) [] e = cc
words_tell (n ∷ ns) (m ∷ ms) e =
    let o = words_same n m (map word ns) (map word ms) e in
    ap (λ x. x ∷ ns) o.0 ∙ ap (λ xs. m ∷ xs) (words_tell ns ms o.1)

types_tell : (ks js : List TokenType) → types_text ks ≡ types_text js → ks ≡ js
types_tell ks js e = sym (types_read ks) ∙ ap types_in e ∙ types_read js

pub one_mapping : (line : List ℕ) (ks js : List TokenType) (ns ms : List (List ℕ)) → IsMapping line ks ns
    → IsMapping line js ms → (ks ≡ js) × (ns ≡ ms)
one_mapping line ks js ns ms h k =
    let o = words_same (types_text ks) (types_text js) (map word ns) (map word ms) (one_spelling line
    (word (types_text ks) ∷ map word ns) (word (types_text js) ∷ map word ms) h.spelled k.spelled) in
    (types_tell ks js o.0, words_tell ns ms o.1)
