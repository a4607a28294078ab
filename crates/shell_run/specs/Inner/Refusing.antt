-- The refusals that faults of texts are printed as, and the replies of the store.
use Rattle.std.specs.Prelude.{◌≡◌, ◌⊎◌, ℕ, Result, Ok, Err, Vec, map}
use Rattle.std.specs.declared.alloc.Global.{Global}
use Rattle.ts_vector.specs.declared.error.VectorError.{VectorError}
use Rattle.ts_vector.specs.declared.error.VectorError.TheVariants as vectors
use Rattle.ts_query.specs.declared.error.QueryError.{QueryError}
use Rattle.ts_query.specs.declared.error.QueryError.TheVariants as queries
use Rattle.ts_base.specs.declared.line_error.LineError.{LineError}
use Rattle.ts_base.specs.declared.line_error.LineError.TheVariants as lines
use Rattle.shell_script.specs.Replies as replies
use Rattle.engine.specs.declared.commit_names.CommitNames.{CommitNames}
use Rattle.engine.specs.declared.error.DbError.{DbError}
use Rattle.engine.specs.Finding.{Name}
use Rattle.shell_script.specs.declared.replies.Refusal.{Refusal}
use Rattle.shell_script.specs.declared.replies.Refusal.TheVariants.{Text, Memory}
use Rattle.shell_script.specs.declared.replies.TextFault.TheVariants.{BadVector, BadQuery, LongLexeme, LargeVector}
use Rattle.shell_script.specs.declared.replies.TextFault.TheVariants.{LargeQuery}
pub use Rattle.shell_run.specs.Refusing.{refusal_for}

abbrev pub vector_refusal : VectorError → Refusal
vector_refusal (vectors.Syntax at) = Text (BadVector at)
vector_refusal (vectors.LexemeTooLong at) = Text (LongLexeme at)
vector_refusal (vectors.VectorTooLarge bytes) = Text (LargeVector bytes)
vector_refusal (vectors.BadBytes at) = Text (BadVector at)
vector_refusal vectors.OutOfMemory = Memory

abbrev pub query_refusal : QueryError → Refusal
query_refusal (queries.Syntax at) = Text (BadQuery at)
query_refusal (queries.DistanceTooLarge at) = Text (BadQuery at)
query_refusal (queries.TooManyNodes) = Text LargeQuery
query_refusal (queries.LexemeTooLong at) = Text (LongLexeme at)
query_refusal queries.OutOfMemory = Memory

-- the refusal that a fault of a dictionary's line of this number is printed as
abbrev pub line_refusal : LineError → ℕ → replies.Refusal
line_refusal lines.Bad number = replies.no_statement number
line_refusal lines.StopInSample number = replies.no_statement number
line_refusal lines.UnknownInSample number = replies.no_statement number
line_refusal lines.Memory number = replies.memory

-- the replies to an insertion or an update, to a deletion, to a cleanup or a vacuum, and to a search
abbrev pub stored_reply : Result Name DbError → replies.Reply
stored_reply (Ok n) = replies.stored n
stored_reply (Err e) = replies.refused (refusal_for e)

abbrev pub removed_reply : {T : Type 0} → Result T DbError → replies.Reply
removed_reply (Ok done) = replies.removed
removed_reply (Err e) = replies.refused (refusal_for e)

abbrev pub cleaned_reply : {T : Type 0} → Result T DbError → replies.Reply
cleaned_reply (Ok done) = replies.maintained
cleaned_reply (Err e) = replies.refused (refusal_for e)

abbrev pub found_reply : Result (Vec Name Global) DbError → replies.Reply
found_reply (Ok names) = replies.lists names.items
found_reply (Err e) = replies.refused (refusal_for e)

-- the line of a commit's names
abbrev pub names_line : CommitNames → replies.CommitLine
names_line n = record { deleted = n.deleted.items; inserted = n.inserted.items }

-- the reply to a list of commits, for which memory may run out
abbrev pub IsListReply : Result (Vec CommitNames Global) DbError → replies.Reply → Type 0
IsListReply (Ok commits) r =
    (r ≡ replies.shows_commits (map names_line commits.items)) ⊎ (r ≡ replies.refused replies.memory)
IsListReply (Err e) r = r ≡ replies.refused (refusal_for e)
