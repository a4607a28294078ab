-- The first token of a statement, and the first word of a line that says it.
use Rattle.std.proofs.Common.{◌≡◌, ℕ, zero, suc, ◌+◌, ◌<◌, ◌≤◌, false, List, [], ◌∷◌, ◌++◌, length, length-append}
use Rattle.std.proofs.Common.{get_or, codes, arith, refl, sym, ◌∙◌, ap, subst}
use Rattle.std.specs.Prelude.{nat_eq}
use Rattle.std.specs.List.{All}
use Rattle.std.specs.Str.{IsUtf8, IsAscii, IsCharBoundary}
use Rattle.std.proofs.Math.Seq.{drop-append_seam}
use Rattle.std.proofs.lemmas.Bool.{eqb-false}
use Rattle.std.proofs.lemmas.List.{append_assoc}
use Rattle.std.proofs.lemmas.List.Elements.{All-head, All-tail, All-nil, All-cons}
use Rattle.std.proofs.lemmas.Str.{IsUtf8-append, IsUtf8-from_ascii, IsUtf8-drop}
use Rattle.ts_base.specs.Bytes.{IsBlank}
use Rattle.ts_base.specs.Words.{EndsWord, BeginsWithWord}
use Rattle.ts_base.proofs.ByteKinds.{blank_ascii}
use Rattle.shell_script.specs.Tokens.{ScriptToken, word, quote, IsSpelled}
use Rattle.shell_script.specs.Lines.{HasNo}
use Rattle.shell_script.specs.Grammar.{Statement, insert, update, delete, search, clean_up, show, ask, parse}
use Rattle.shell_script.specs.Grammar.{vacuum, list_commits, define, invalid, IsSession, HasSession, IsWrittenAs}
use Rattle.shell_script.specs.Grammar.{IsStatement, label}
use Rattle.shell_script.specs.Grammar.{expr_tokens, query_tokens, body_tokens, statement_tokens}
use Rattle.shell_script.specs.Inner.Said.{IsSaidBehind}
use Rattle.shell_script.specs.Inner.Fronts.{IsNoQuote}
use Rattle.shell_script.proofs.Front.{one_first_word}
use Rattle.shell_script.proofs.Spelling.{spelled_word}

-- words with another byte at a place differ
pub bytes_differ : (i : ℕ) (v w : List ℕ) → nat_eq (get_or v i 0) (get_or w i 0) ≡ false → v ≡ w → ⊥
bytes_differ i v w f e = eqb-false (get_or v i 0) (get_or w i 0) f (ap (λ (x : List ℕ). get_or x i 0) e)

pub heads_differ : (v w : List ℕ) → nat_eq (get_or v 0 0) (get_or w 0 0) ≡ false → v ≡ w → ⊥
heads_differ v w f e = bytes_differ 0 v w f e

blanks_ascii : (bs : List ℕ) → All IsBlank bs → IsAscii bs
blanks_ascii [] h i = omega arith
blanks_ascii (b ∷ bs) h zero = blank_ascii b (All-head IsBlank b bs h)
blanks_ascii (b ∷ bs) h (suc i) = blanks_ascii bs (All-tail IsBlank b bs h) i

-- ASCII, and no quote among it
record AreLetters (w : List ℕ) : Type 0 where
  free : HasNo 39 w
  ascii : IsAscii w

none : AreLetters []
none = record { free = All-nil IsNoQuote; ascii = λ i. omega arith }

more : (b : ℕ) (w : List ℕ) → 40 ≤ b → b < 128 → AreLetters w → AreLetters (b ∷ w)
more b w low high h = record {
  free = All-cons IsNoQuote b w (λ e. omega arith) h.free;
  ascii = by;
}
  where
    by : IsAscii (b ∷ w)
    by zero = high
    by (suc i) = h.ascii i

label_letters : (s : ℕ) → IsSession s → AreLetters (label s)
label_letters s h =
    more 64 ((48 + s) ∷ []) (omega arith) (omega arith) (more (48 + s) [] (omega arith) (omega (arith, h.1)) none)

show_letters : AreLetters (codes "show")
show_letters = more 115 (codes "how") (omega arith) (omega arith) (more 104 (codes "ow") (omega arith) (omega arith)
    (more 111 (codes "w") (omega arith) (omega arith) (more 119 [] (omega arith) (omega arith) none)))

ask_letters : AreLetters (codes "ask")
ask_letters = more 97 (codes "sk") (omega arith) (omega arith)
    (more 115 (codes "k") (omega arith) (omega arith) (more 107 [] (omega arith) (omega arith) none))

parse_letters : AreLetters (codes "parse")
parse_letters = more 112 (codes "arse") (omega arith) (omega arith)
    (more 97 (codes "rse") (omega arith) (omega arith) (more 114 (codes "se") (omega arith) (omega arith)
    (more 115 (codes "e") (omega arith) (omega arith) (more 101 [] (omega arith) (omega arith) none))))

commits_letters : AreLetters (codes "commits")
commits_letters =
    more 99 (codes "ommits") (omega arith) (omega arith)
    (more 111 (codes "mmits") (omega arith) (omega arith) (more 109 (codes "mits") (omega arith) (omega arith)
    (more 109 (codes "its") (omega arith) (omega arith) (more 105 (codes "ts") (omega arith) (omega arith)
    (more 116 (codes "s") (omega arith) (omega arith) (more 115 [] (omega arith) (omega arith) none))))))

-- a statement's first token is a word
record FirstToken (s : ℕ) (statement : Statement) : Type 0 where
  first : List ℕ
  others : List ScriptToken
  tokens : statement_tokens s statement ≡ word first ∷ others
  some : 0 < length first
  letters : AreLetters first

by_label : (s : ℕ) (statement : Statement) → IsSession s → FirstToken s statement
by_label zero statement h = absurd (omega (arith, h.0))
by_label (suc n) statement h = record {
  first = label (suc n);
  others = body_tokens statement;
  tokens = refl;
  some = omega arith;
  letters = label_letters (suc n) h;
}

first_token : (s : ℕ) (statement : Statement) → HasSession s statement → FirstToken s statement
first_token s (insert e) h = by_label s (insert e) h
first_token s (update d e) h = by_label s (update d e) h
first_token s (delete d) h = by_label s (delete d) h
first_token s (search t) h = by_label s (search t) h
first_token s clean_up h = by_label s clean_up h
first_token s vacuum h = by_label s vacuum h
first_token s (show e) h = subst (λ n. FirstToken n (show e)) (sym h)
    (record { first = codes "show"; others = expr_tokens e; tokens = refl; some = omega arith; letters = show_letters })
first_token s (ask t) h = subst (λ n. FirstToken n (ask t)) (sym h)
    (record { first = codes "ask"; others = query_tokens t; tokens = refl; some = omega arith; letters = ask_letters })
first_token s (parse t) h = subst (λ n. FirstToken n (parse t)) (sym h) (record {
  first = codes "parse";
  others = quote t ∷ [];
  tokens = refl;
  some = omega arith;
  letters = parse_letters;
})
first_token s list_commits h = subst (λ n. FirstToken n list_commits) (sym h)
    (record { first = codes "commits"; others = []; tokens = refl; some = omega arith; letters = commits_letters })
first_token s (define head body) h = absurd h
first_token s invalid h = absurd h

pub words_same : (v w : List ℕ) (xs ys : List ScriptToken) → word v ∷ xs ≡ word w ∷ ys → (v ≡ w) × (xs ≡ ys)
words_same v w xs ys e = (cc, cc)

-- a character begins after a word
seam : (front rest : List ℕ) → EndsWord rest → IsCharBoundary (front ++ rest) (length front)
seam front [] h = (omega (arith, length-append front []), λ lt. absurd (omega (arith, lt, length-append front [])))
seam front (b ∷ rest) h =
    (omega (arith, length-append front (b ∷ rest)), λ lt wide. absurd (by h (subst (λ n. 128 ≤ n) at wide)))
  where
    get_seam : (xs : List ℕ) → get_or (xs ++ b ∷ rest) (length xs) 0 ≡ b
    get_seam [] = refl
    get_seam (x ∷ xs) = get_seam xs

    at : get_or (front ++ b ∷ rest) (length front) 0 ≡ b
    at = get_seam front

    by : IsBlank b → 128 ≤ b → ⊥
    by k l = omega (arith, blank_ascii b k)

rest_utf8 : (line first rest : List ℕ) → BeginsWithWord line first rest → IsUtf8 line → IsUtf8 rest
rest_utf8 line first rest b u =
    let front : List ℕ = b.gap ++ first in
    let whole : line ≡ front ++ rest = b.text ∙ sym (append_assoc b.gap first rest) in
    subst IsUtf8 (drop-append_seam front rest)
    (IsUtf8-drop (front ++ rest) (length front) (subst IsUtf8 whole u) (seam front rest b.ends))

line_utf8 : (line first rest : List ℕ) → BeginsWithWord line first rest → AreLetters first → IsUtf8 rest → IsUtf8 line
line_utf8 line first rest b letters u = subst IsUtf8 (sym b.text)
    (IsUtf8-append b.gap (first ++ rest) (IsUtf8-from_ascii b.gap (blanks_ascii b.gap b.blank))
    (IsUtf8-append first rest (IsUtf8-from_ascii first letters.ascii) u))

-- what a line says is what is said after its first word
pub said_line : (line first rest : List ℕ) (s : ℕ) (statement : Statement) → BeginsWithWord line first rest
    → IsSaidBehind first rest s statement → IsWrittenAs line s statement
said_line line first rest s statement b k =
    let f : FirstToken s statement = first_token s statement k.session in
    let letters : AreLetters first =
    subst AreLetters (words_same f.first first f.others k.others (sym f.tokens ∙ k.tokens)).0 f.letters in
    record {
      session = k.session;
      named = k.named;
      utf8 = line_utf8 line first rest b letters k.utf8;
      spelled = subst (IsSpelled line) (sym k.tokens)
          (b.gap, rest, b.blank, (b.is_word, letters.free), b.text, b.ends, k.spelled);
    }

pub said_behind : (line first rest : List ℕ) (s : ℕ) (statement : Statement) → BeginsWithWord line first rest
    → IsWrittenAs line s statement → IsSaidBehind first rest s statement
said_behind line first rest s statement b k =
    let f : FirstToken s statement = first_token s statement k.session in
    let found : (r : List ℕ) × BeginsWithWord line f.first r × IsSpelled r f.others =
    spelled_word line f.first f.others (subst (IsSpelled line) f.tokens k.spelled) in
    let same : (f.first ≡ first) × (found.0 ≡ rest) = one_first_word line f.first first found.0 rest found.1 b in
    record {
      session = k.session;
      named = k.named;
      utf8 = rest_utf8 line first rest b k.utf8;
      others = f.others;
      tokens = f.tokens ∙ ap (λ w. word w ∷ f.others) same.0;
      spelled = subst (λ r. IsSpelled r f.others) same.1 found.2;
    }

-- a line without a word is no statement
pub no_word_says : (line : List ℕ) → ((first rest : List ℕ) → BeginsWithWord line first rest → ⊥)
    → (s : ℕ) (statement : Statement) → IsWrittenAs line s statement → ⊥
no_word_says line wordless s statement k =
    let f : FirstToken s statement = first_token s statement k.session in
    let found : (r : List ℕ) × BeginsWithWord line f.first r × IsSpelled r f.others =
    spelled_word line f.first f.others (subst (IsSpelled line) f.tokens k.spelled) in
    wordless f.first found.0 found.1

-- what the program's answer for a line says
pub says_nothing : (line : List ℕ) (s : ℕ) (a : Statement) → s ≡ 0 → a ≡ invalid
    → ((t : ℕ) (b : Statement) → IsWrittenAs line t b → ⊥) → IsStatement line s a
says_nothing line s a e f none = subst (IsStatement line s) (sym f) (e, none)

pub says_statement : (line : List ℕ) (s : ℕ) (a : Statement) → IsWrittenAs line s a → IsStatement line s a
says_statement line s (insert e) k = k
says_statement line s (update d e) k = k
says_statement line s (delete d) k = k
says_statement line s (search t) k = k
says_statement line s clean_up k = k
says_statement line s vacuum k = k
says_statement line s (show e) k = k
says_statement line s (ask t) k = k
says_statement line s (parse t) k = k
says_statement line s list_commits k = k
says_statement line s (define head body) k = k
says_statement line s invalid k = absurd k.session
