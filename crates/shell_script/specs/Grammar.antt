-- The grammar of a script's lines.
use Rattle.std.specs.Prelude.{◌≡◌, ℕ, zero, suc, ◌+◌, ◌≤◌, Bool, true, false}
use Rattle.std.specs.Prelude.{List, [], ◌∷◌, ◌++◌, codes, Option, Some, None}
use Rattle.std.specs.List.{All, flat_map}
use Rattle.std.specs.Str.{IsUtf8}
use Rattle.ts_base.specs.declared.Weight.{Weight}
use Rattle.ts_base.specs.declared.Weight.TheVariants.{A, B, C, D}
use Rattle.shell_script.specs.Tokens.{ScriptToken, word, quote, IsSpelled}
use Rattle.shell_script.specs.Lines.{Line}
use Rattle.shell_script.specs.OpeningLines.{OpeningLine, IsName}
use Rattle.shell_script.specs.Docs.{Doc, IsDoc}
use Rattle.shell_script.specs.declared.sources.Maker.{Maker}
use Rattle.shell_script.specs.declared.sources.Maker.TheVariants.{To, Plain, Phrase, Web}

abbrev pub IsSession : ℕ → Type 0
IsSession s = (1 ≤ s) × (s ≤ 8)

-- the label of a session
abbrev pub label : ℕ → List ℕ
label s = 64 ∷ (48 + s) ∷ []

-- What a vector is made of: its own text; or a text, by the configuration of a name, and then all
-- its positions may get a weight.
pub data VectorSource : Type 0 where
  vector_text : List ℕ → VectorSource
  vector_by : List ℕ → Option Weight → List ℕ → VectorSource

-- what a query is made of: its own text; or a text, in one of four ways, by the configuration of a
-- name
pub data QuerySource : Type 0 where
  query_text : List ℕ → QuerySource
  query_by : Maker → List ℕ → List ℕ → QuerySource

-- a part of an expression: a vector, which may be stripped
pub record Part : Type 0 where
  pub stripped : Bool
  pub source : VectorSource

-- an expression: its parts are joined from the left
pub record Expr : Type 0 where
  pub first : Part
  pub others : List Part

abbrev pub strip_tokens : Bool → List ScriptToken
strip_tokens true = word (codes "strip") ∷ []
strip_tokens false = []

abbrev pub weight_letter : Weight → ℕ
weight_letter A = 65
weight_letter B = 66
weight_letter C = 67
weight_letter D = 68

abbrev pub weight_tokens : Option Weight → List ScriptToken
weight_tokens None = []
weight_tokens (Some w) = word (weight_letter w ∷ []) ∷ []

abbrev pub source_tokens : VectorSource → List ScriptToken
source_tokens (vector_text text) = word (codes "vector") ∷ quote text ∷ []
source_tokens (vector_by config weight text) =
    word config ∷ (weight_tokens weight ++ quote text ∷ [])

abbrev pub part_tokens : Part → List ScriptToken
part_tokens p = strip_tokens p.stripped ++ source_tokens p.source

-- each part but the first is after `||`
abbrev pub joined_tokens : Part → List ScriptToken
joined_tokens p = word (codes "||") ∷ part_tokens p

abbrev pub expr_tokens : Expr → List ScriptToken
expr_tokens e = part_tokens e.first ++ flat_map joined_tokens e.others

abbrev pub maker_word : Maker → List ℕ
maker_word To = codes "to"
maker_word Plain = codes "plain"
maker_word Phrase = codes "phrase"
maker_word Web = codes "web"

abbrev pub query_tokens : QuerySource → List ScriptToken
query_tokens (query_text text) = quote text ∷ []
query_tokens (query_by maker config text) = word (maker_word maker) ∷ word config ∷ quote text ∷ []

-- the configuration that a vector or a query is made by is named by a NAME
abbrev pub IsSource : VectorSource → Type 0
IsSource (vector_text text) = Unit {0}
IsSource (vector_by config weight text) = IsName config

abbrev pub IsExpr : Expr → Type 0
IsExpr e = IsSource e.first.source × All (λ (p : Part). IsSource p.source) e.others

abbrev pub IsQuery : QuerySource → Type 0
IsQuery (query_text text) = Unit {0}
IsQuery (query_by maker config text) = IsName config

-- What a line or a definition says. A definition has its first line and the lines of its body that
-- count. Later kinds of statement are more cases.
pub data Statement : Type 0 where
  insert : Expr → Statement
  update : Doc → Expr → Statement
  delete : Doc → Statement
  search : QuerySource → Statement
  clean_up : Statement
  vacuum : Statement
  show : Expr → Statement
  ask : QuerySource → Statement
  parse : List ℕ → Statement
  list_commits : Statement
  define : OpeningLine → List Line → Statement
  invalid : Statement

-- the tokens of a statement of one line, but for a session's label
abbrev pub body_tokens : Statement → List ScriptToken
body_tokens (insert e) = word (codes "insert") ∷ expr_tokens e
body_tokens (update d e) = word (codes "update") ∷ word d.text ∷ expr_tokens e
body_tokens (delete d) = word (codes "delete") ∷ word d.text ∷ []
body_tokens (search q) = word (codes "search") ∷ query_tokens q
body_tokens clean_up = word (codes "cleanup") ∷ []
body_tokens vacuum = word (codes "vacuum") ∷ []
body_tokens (show e) = word (codes "show") ∷ expr_tokens e
body_tokens (ask q) = word (codes "ask") ∷ query_tokens q
body_tokens (parse text) = word (codes "parse") ∷ quote text ∷ []
body_tokens list_commits = word (codes "commits") ∷ []
body_tokens (define head body) = []
body_tokens invalid = []

-- the label of a session, where there is one
abbrev pub label_tokens : ℕ → List ScriptToken
label_tokens zero = []
label_tokens (suc n) = word (label (suc n)) ∷ []

abbrev pub statement_tokens : ℕ → Statement → List ScriptToken
statement_tokens s statement = label_tokens s ++ body_tokens statement

-- a statement of the store has a session, and another of one line has none
abbrev pub HasSession : ℕ → Statement → Type 0
HasSession s (insert e) = IsSession s
HasSession s (update d e) = IsSession s
HasSession s (delete d) = IsSession s
HasSession s (search q) = IsSession s
HasSession s clean_up = IsSession s
HasSession s vacuum = IsSession s
HasSession s (show e) = s ≡ 0
HasSession s (ask q) = s ≡ 0
HasSession s (parse text) = s ≡ 0
HasSession s list_commits = s ≡ 0
HasSession s (define head body) = ⊥
HasSession s invalid = ⊥

-- what a statement is made of is named by a NAME, and a document by a DOC
abbrev pub IsNamed : Statement → Type 0
IsNamed (insert e) = IsExpr e
IsNamed (update d e) = IsDoc d × IsExpr e
IsNamed (delete d) = IsDoc d
IsNamed (search q) = IsQuery q
IsNamed (show e) = IsExpr e
IsNamed (ask q) = IsQuery q
IsNamed statement = Unit {0}

-- a text whose tokens are those of a statement
pub record IsWrittenAs (line : List ℕ) (s : ℕ) (statement : Statement) : Type 0 where
  pub session : HasSession s statement
  pub named : IsNamed statement
  pub utf8 : IsUtf8 line
  pub spelled : IsSpelled line (statement_tokens s statement)

-- empty, or a comment
abbrev pub IsSkipped : List ℕ → Type 0
IsSkipped [] = Unit {0}
IsSkipped (b ∷ bytes) = b ≡ 35

-- a line's session (0 where it has none) and its statement
abbrev pub IsStatement : List ℕ → ℕ → Statement → Type 0
IsStatement line s invalid =
    (s ≡ 0) × ((t : ℕ) (statement : Statement) → IsWrittenAs line t statement → ⊥)
IsStatement line s statement = IsWrittenAs line s statement
