-- The program's values without where they lie in memory.
use Rattle.std.specs.Prelude.{map}
use Rattle.std.specs.String.{string_bytes}
use Rattle.shell_script.specs.Docs as docs
use Rattle.shell_script.specs.Grammar as grammar
use Rattle.shell_script.specs.declared.sources.VectorSource.{VectorSource}
use Rattle.shell_script.specs.declared.sources.VectorSource.TheVariants as vectors
use Rattle.shell_script.specs.declared.sources.QuerySource.{QuerySource}
use Rattle.shell_script.specs.declared.sources.QuerySource.TheVariants as queries
use Rattle.shell_script.specs.declared.sources.Part.{Part}
use Rattle.shell_script.specs.declared.sources.Expr.{Expr}
use Rattle.shell_script.specs.declared.docs.Doc.{Doc}
use Rattle.shell_script.specs.declared.statement.Statement.{Statement}
use Rattle.shell_script.specs.declared.statement.Statement.TheVariants.{Insert, Update, Delete, Search, Cleanup}
use Rattle.shell_script.specs.declared.statement.Statement.TheVariants.{Vacuum, Show, Ask, Parse, Commits, Invalid}

abbrev pub vector_source : VectorSource → grammar.VectorSource
vector_source (vectors.Text text) = grammar.vector_text (string_bytes text)
vector_source (vectors.Made config weight text) =
    grammar.vector_by config.now weight (string_bytes text)

abbrev pub query_source : QuerySource → grammar.QuerySource
query_source (queries.Text text) = grammar.query_text (string_bytes text)
query_source (queries.Made maker config text) =
    grammar.query_by maker config.now (string_bytes text)

abbrev pub part : Part → grammar.Part
part p = record { stripped = p.stripped; source = vector_source p.source }

abbrev pub expr : Expr → grammar.Expr
expr e = record { first = part e.first; others = map part e.others.items }

abbrev pub doc : Doc → docs.Doc
doc d = record { text = d.text.now; name = d.name }

abbrev pub statement : Statement → grammar.Statement
statement (Insert e) = grammar.insert (expr e)
statement (Update d e) = grammar.update (doc d) (expr e)
statement (Delete d) = grammar.delete (doc d)
statement (Search q) = grammar.search (query_source q)
statement Cleanup = grammar.clean_up
statement Vacuum = grammar.vacuum
statement (Show e) = grammar.show (expr e)
statement (Ask q) = grammar.ask (query_source q)
statement (Parse text) = grammar.parse (string_bytes text)
statement Commits = grammar.list_commits
statement Invalid = grammar.invalid
