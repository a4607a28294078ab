-- A step has one meaning.
use Rattle.std.proofs.Common.{◌≡◌, ◌⊎◌, inl, inr, ℕ, ◌+◌, List, [], ◌∷◌, get_or, Bool, true, false, codes, arith, refl}
use Rattle.std.proofs.Common.{sym, ◌∙◌, ap}
use Rattle.std.specs.Prelude.{not}
use Rattle.shell_script.specs.Tokens.{ScriptToken, word, quote}
use Rattle.shell_script.specs.Grammar.{Statement, insert, update, delete, clean_up, show, ask, parse, list_commits}
use Rattle.shell_script.specs.Grammar.{define, invalid, IsSession, IsWrittenAs, IsStatement, HasSession, IsNamed, label}
use Rattle.shell_script.specs.Grammar.{expr_tokens, query_tokens, body_tokens, statement_tokens}
use Rattle.shell_script.specs.Grammar.{vacuum, search as finding}
use Rattle.shell_script.specs.Lines.{Line}
use Rattle.shell_script.specs.OpeningLines.{Kind, simple_kind, porter_kind, synonym_kind, thesaurus_kind, OpeningLine}
use Rattle.shell_script.specs.OpeningLines.{dictionary_opening, configuration_opening, mark_tokens, kind_tokens}
use Rattle.shell_script.specs.OpeningLines.{opening_tokens, IsOpeningLine}
use Rattle.shell_script.specs.Steps.{Step, single, definition, stray}
use Rattle.shell_script.specs.Says.{counted_lines, IsDefinition, Says}
use Rattle.shell_script.specs.Inner.Said.{IsOfSession, IsPlain}
use Rattle.shell_script.proofs.FirstTokens.{heads_differ, words_same}
use Rattle.shell_script.proofs.Saying.{one_of_session, one_plain, label_or_show, label_or_ask, label_or_parse}
use Rattle.shell_script.proofs.Saying.{label_or_commits, labelled_tokens, plain_tokens}
use Rattle.shell_script.proofs.Spelling.{one_spelling}

labels_same : (s t : ℕ) → label s ≡ label t → s ≡ t
labels_same s t e = let numbers : 48 + s ≡ 48 + t = cc in omega arith

-- a statement is after a label, or alone
abbrev Stands : ℕ → Statement → Type 0
Stands s a = (IsOfSession a × IsSession s × (statement_tokens s a ≡ word (label s) ∷ body_tokens a))
    ⊎ (IsPlain a × (s ≡ 0) × (statement_tokens s a ≡ body_tokens a))

stands : (s : ℕ) (a : Statement) → HasSession s a → IsNamed a → Stands s a
stands s (insert e) h n = inl (n, h, labelled_tokens s (insert e) h)
stands s (update d e) h n = inl (n, h, labelled_tokens s (update d e) h)
stands s (delete d) h n = inl (n, h, labelled_tokens s (delete d) h)
stands s (finding q) h n = inl (n, h, labelled_tokens s (finding q) h)
stands s clean_up h n = inl (tt, h, labelled_tokens s clean_up h)
stands s vacuum h n = inl (tt, h, labelled_tokens s vacuum h)
stands s (show e) h n = inr (n, h, plain_tokens s (show e) h)
stands s (ask q) h n = inr (n, h, plain_tokens s (ask q) h)
stands s (parse t) h n = inr (tt, h, plain_tokens s (parse t) h)
stands s list_commits h n = inr (tt, h, plain_tokens s list_commits h)
stands s (define head body) h n = absurd h
stands s invalid h n = absurd h

-- a label begins no plain statement
label_or_plain : (s : ℕ) (ts : List ScriptToken) (b : Statement) → IsPlain b → word (label s) ∷ ts ≡ body_tokens b → ⊥
label_or_plain s ts (show e) h same = label_or_show s (words_same (label s) (codes "show") ts (expr_tokens e) same).0
label_or_plain s ts (ask x) h same = label_or_ask s (words_same (label s) (codes "ask") ts (query_tokens x) same).0
label_or_plain s ts (parse x) h same = label_or_parse s (words_same (label s) (codes "parse") ts (quote x ∷ []) same).0
label_or_plain s ts list_commits h same = label_or_commits s (words_same (label s) (codes "commits") ts [] same).0
label_or_plain s ts (insert e) h same = h
label_or_plain s ts (update d e) h same = h
label_or_plain s ts (delete d) h same = h
label_or_plain s ts (finding x) h same = h
label_or_plain s ts clean_up h same = h
label_or_plain s ts vacuum h same = h
label_or_plain s ts (define head body) h same = h
label_or_plain s ts invalid h same = h

one_said : (s t : ℕ) (a b : Statement) → Stands s a → Stands t b → statement_tokens s a ≡ statement_tokens t b
    → (s ≡ t) × (a ≡ b)
one_said s t a b (inl h) (inl k) same =
    let o = words_same (label s) (label t) (body_tokens a) (body_tokens b) (sym h.2 ∙ same ∙ k.2) in
    (labels_same s t o.0, one_of_session a b h.0 k.0 o.1)
one_said s t a b (inr h) (inr k) same = (h.1 ∙ sym k.1, one_plain a b h.0 k.0 (sym h.2 ∙ same ∙ k.2))
one_said s t a b (inl h) (inr k) same = absurd (label_or_plain s (body_tokens a) b k.0 (sym h.2 ∙ same ∙ k.2))
one_said s t a b (inr h) (inl k) same = absurd (label_or_plain t (body_tokens b) a h.0 (sym k.2 ∙ sym same ∙ h.2))

one_written : (line : List ℕ) (s t : ℕ) (a b : Statement) → IsWrittenAs line s a → IsWrittenAs line t b
    → (s ≡ t) × (a ≡ b)
one_written line s t a b h k = one_said s t a b (stands s a h.session h.named) (stands t b k.session k.named)
    (one_spelling line (statement_tokens s a) (statement_tokens t b) h.spelled k.spelled)

-- a line that says nothing, or a statement
says : (line : List ℕ) (s : ℕ) (a : Statement) → IsStatement line s a
    → IsWrittenAs line s a ⊎ ((s ≡ 0) × (a ≡ invalid) × ((t : ℕ) (b : Statement) → IsWrittenAs line t b → ⊥))
says line s (insert e) h = inl h
says line s (update d e) h = inl h
says line s (delete d) h = inl h
says line s (finding t) h = inl h
says line s clean_up h = inl h
says line s vacuum h = inl h
says line s (show e) h = inl h
says line s (ask t) h = inl h
says line s (parse t) h = inl h
says line s list_commits h = inl h
says line s (define head body) h = inl h
says line s invalid h = inr (h.0, refl, h.1)

one_statement : (line : List ℕ) (s t : ℕ) (a b : Statement) → IsStatement line s a → IsStatement line t b
    → (s ≡ t) × (a ≡ b)
one_statement line s t a b h k = by (says line s a h) (says line t b k)
  where
    by : IsWrittenAs line s a ⊎ ((s ≡ 0) × (a ≡ invalid) × ((n : ℕ) (e : Statement) → IsWrittenAs line n e → ⊥))
        → IsWrittenAs line t b ⊎ ((t ≡ 0) × (b ≡ invalid) × ((n : ℕ) (e : Statement) → IsWrittenAs line n e → ⊥))
        → (s ≡ t) × (a ≡ b)
    by (inl x) (inl y) = one_written line s t a b x y
    by (inl x) (inr y) = absurd (y.2 s a x)
    by (inr x) (inl y) = absurd (x.2 t b y)
    by (inr x) (inr y) = (x.0 ∙ sym y.0, x.1 ∙ sym y.1)

-- ── definitions ──
marks_tell : (a b : Bool) (mark : List ℕ) → mark_tokens a mark ≡ mark_tokens b mark → a ≡ b
marks_tell true true mark same = refl
marks_tell false false mark same = refl
marks_tell true false mark same = cc
marks_tell false true mark same = cc

not_tells : (a b : Bool) → not a ≡ not b → a ≡ b
not_tells true true e = refl
not_tells false false e = refl
not_tells true false e = sym e
not_tells false true e = sym e

-- the word that a kind begins with, and what is after it
abbrev kind_word : Kind → List ℕ
kind_word (simple_kind accept) = codes "simple"
kind_word porter_kind = codes "porter"
kind_word (synonym_kind cases) = codes "synonym"
kind_word (thesaurus_kind sub) = codes "thesaurus"

abbrev kind_rest : Kind → List ScriptToken
kind_rest (simple_kind accept) = mark_tokens (not accept) (codes "pass")
kind_rest porter_kind = []
kind_rest (synonym_kind cases) = mark_tokens cases (codes "casesensitive")
kind_rest (thesaurus_kind sub) = word sub ∷ []

kind_cut : (k : Kind) → kind_tokens k ≡ word (kind_word k) ∷ kind_rest k
kind_cut (simple_kind accept) = refl
kind_cut porter_kind = refl
kind_cut (synonym_kind cases) = refl
kind_cut (thesaurus_kind sub) = refl

-- the second byte says them
abbrev second : Kind → ℕ
second k = get_or (kind_word k) 1 0

kinds_tell : (j k : Kind) → second j ≡ second k → kind_rest j ≡ kind_rest k → j ≡ k
kinds_tell (simple_kind a) (simple_kind b) e f =
    ap simple_kind (not_tells a b (marks_tell (not a) (not b) (codes "pass") f))
kinds_tell porter_kind porter_kind e f = refl
kinds_tell (synonym_kind a) (synonym_kind b) e f = ap synonym_kind (marks_tell a b (codes "casesensitive") f)
kinds_tell (thesaurus_kind m) (thesaurus_kind n) e f = ap thesaurus_kind (words_same m n [] [] f).0
kinds_tell (simple_kind a) porter_kind e f = absurd (omega (arith, e))
kinds_tell (simple_kind a) (synonym_kind b) e f = absurd (omega (arith, e))
kinds_tell (simple_kind a) (thesaurus_kind n) e f = absurd (omega (arith, e))
kinds_tell porter_kind (simple_kind b) e f = absurd (omega (arith, e))
kinds_tell porter_kind (synonym_kind b) e f = absurd (omega (arith, e))
kinds_tell porter_kind (thesaurus_kind n) e f = absurd (omega (arith, e))
kinds_tell (synonym_kind a) (simple_kind b) e f = absurd (omega (arith, e))
kinds_tell (synonym_kind a) porter_kind e f = absurd (omega (arith, e))
kinds_tell (synonym_kind a) (thesaurus_kind n) e f = absurd (omega (arith, e))
kinds_tell (thesaurus_kind m) (simple_kind b) e f = absurd (omega (arith, e))
kinds_tell (thesaurus_kind m) porter_kind e f = absurd (omega (arith, e))
kinds_tell (thesaurus_kind m) (synonym_kind b) e f = absurd (omega (arith, e))

one_kind : (j k : Kind) → kind_tokens j ≡ kind_tokens k → j ≡ k
one_kind j k same =
    let o = words_same (kind_word j) (kind_word k) (kind_rest j) (kind_rest k) (sym (kind_cut j) ∙ same ∙ kind_cut k) in
    kinds_tell j k (ap (λ (w : List ℕ). get_or w 1 0) o.0) o.1

tokens_tell : (h k : OpeningLine) → opening_tokens h ≡ opening_tokens k → h ≡ k
tokens_tell (dictionary_opening n i) (dictionary_opening m j) same =
    let o =
    words_same (codes "dictionary") (codes "dictionary") (word n ∷ kind_tokens i) (word m ∷ kind_tokens j) same in
    let p = words_same n m (kind_tokens i) (kind_tokens j) o.1 in
    ap (λ x. dictionary_opening x i) p.0 ∙ ap (dictionary_opening m) (one_kind i j p.1)
tokens_tell (configuration_opening n) (configuration_opening m) same =
    let o = words_same (codes "configuration") (codes "configuration") (word n ∷ []) (word m ∷ []) same in
    ap configuration_opening (words_same n m [] [] o.1).0
tokens_tell (dictionary_opening n i) (configuration_opening m) same =
    absurd (heads_differ (codes "dictionary") (codes "configuration") refl
    (words_same (codes "dictionary") (codes "configuration") (word n ∷ kind_tokens i) (word m ∷ []) same).0)
tokens_tell (configuration_opening n) (dictionary_opening m j) same =
    absurd (heads_differ (codes "configuration") (codes "dictionary") refl
    (words_same (codes "configuration") (codes "dictionary") (word n ∷ []) (word m ∷ kind_tokens j) same).0)

pub one_opening_line : (line : List ℕ) (h k : OpeningLine) → IsOpeningLine line h → IsOpeningLine line k → h ≡ k
one_opening_line line h k p q =
    tokens_tell h k (one_spelling line (opening_tokens h) (opening_tokens k) p.spelled q.spelled)

-- a definition says its first line and its body, or nothing
abbrev Defines : Line → List Line → Statement → Type 0
Defines l body a = ((h : OpeningLine) × IsOpeningLine l.bytes h × (a ≡ define h (counted_lines body)))
    ⊎ ((a ≡ invalid) × ((h : OpeningLine) → IsOpeningLine l.bytes h → ⊥))

defined : (l : Line) (body : List Line) (a : Statement) → IsDefinition l body a → Defines l body a
defined l body (define h ls) d = inl (h, d.0, ap (define h) d.1)
defined l body invalid d = inr (refl, d)
defined l body (insert e) d = absurd d
defined l body (update c e) d = absurd d
defined l body (delete c) d = absurd d
defined l body (finding t) d = absurd d
defined l body clean_up d = absurd d
defined l body vacuum d = absurd d
defined l body list_commits d = absurd d
defined l body (show e) d = absurd d
defined l body (ask t) d = absurd d
defined l body (parse t) d = absurd d

one_definition : (l : Line) (body : List Line) (a b : Statement) → Defines l body a → Defines l body b → a ≡ b
one_definition l body a b (inl x) (inl y) =
    x.2 ∙ ap (λ h. define h (counted_lines body)) (one_opening_line l.bytes x.0 y.0 x.1 y.1) ∙ sym y.2
one_definition l body a b (inl x) (inr y) = absurd (y.1 x.0 x.1)
one_definition l body a b (inr x) (inl y) = absurd (x.1 y.0 y.1)
one_definition l body a b (inr x) (inr y) = x.0 ∙ sym y.0

pub one_meaning : (step : Step) (s t : ℕ) (a b : Statement) → Says step s a → Says step t b → (s ≡ t) × (a ≡ b)
one_meaning (single l) s t a b h k = one_statement l.bytes s t a b h k
one_meaning (definition l body) s t a b h k =
    (h.0 ∙ sym k.0, one_definition l body a b (defined l body a h.1) (defined l body b k.1))
one_meaning (stray l) s t a b h k = (h.0 ∙ sym k.0, h.1 ∙ sym k.1)
