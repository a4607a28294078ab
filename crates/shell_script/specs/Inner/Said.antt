-- The statement of a line, by its first word.
use Rattle.std.specs.Prelude.{◌≡◌, ℕ, List, ◌∷◌}
use Rattle.std.specs.Str.{IsUtf8}
use Rattle.shell_script.specs.Tokens.{ScriptToken, word, IsSpelled}
use Rattle.shell_script.specs.Docs.{IsDoc}
use Rattle.shell_script.specs.Grammar.{Statement, insert, update, delete, search, clean_up, show, ask, parse}
use Rattle.shell_script.specs.Grammar.{vacuum, list_commits}
use Rattle.shell_script.specs.Grammar.{IsExpr, IsQuery, IsNamed, HasSession, body_tokens, statement_tokens}

-- the statements that a session's label comes before, in which a name is a NAME or a DOC
abbrev pub IsOfSession : Statement → Type 0
IsOfSession (insert e) = IsExpr e
IsOfSession (update d e) = IsDoc d × IsExpr e
IsOfSession (delete d) = IsDoc d
IsOfSession (search q) = IsQuery q
IsOfSession clean_up = Unit {0}
IsOfSession vacuum = Unit {0}
IsOfSession statement = ⊥

-- the statements that are alone, likewise
abbrev pub IsPlain : Statement → Type 0
IsPlain (show e) = IsExpr e
IsPlain (ask q) = IsQuery q
IsPlain (parse text) = Unit {0}
IsPlain list_commits = Unit {0}
IsPlain statement = ⊥

-- the body of such a statement is this word and the tokens of what is after it
abbrev pub IsStatementBody : (Statement → Type 0) → List ℕ → List ℕ → Statement → Type 0
IsStatementBody P first rest statement =
    P statement
    × ((others : List ScriptToken) × (body_tokens statement ≡ word first ∷ others)
    × IsSpelled rest others)

-- the statement of a line that begins with this word, and has this after it
pub record IsSaidBehind (first rest : List ℕ) (s : ℕ) (statement : Statement) : Type 0 where
  pub session : HasSession s statement
  pub named : IsNamed statement
  pub utf8 : IsUtf8 rest
  pub others : List ScriptToken
  pub tokens : statement_tokens s statement ≡ word first ∷ others
  pub spelled : IsSpelled rest others
