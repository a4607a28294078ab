-- Replies without where they lie in memory.
use Rattle.std.specs.Prelude.{map}
use Rattle.std.specs.String.{string_bytes}
use Rattle.ts_parser.specs.TokensOf.{tokens_of}
use Rattle.shell_script.specs.Replies as replies
use Rattle.shell_script.specs.declared.replies.TextFault.{TextFault}
use Rattle.shell_script.specs.declared.replies.TextFault.TheVariants.{BadVector, BadQuery, LongLexeme}
use Rattle.shell_script.specs.declared.replies.TextFault.TheVariants.{LargeVector, LargeQuery}
use Rattle.shell_script.specs.declared.replies.Refusal.{Refusal}
use Rattle.shell_script.specs.declared.replies.Refusal.TheVariants.{NoStatement, NoConfiguration, NoDictionary}
use Rattle.shell_script.specs.declared.replies.Refusal.TheVariants.{Text, NoDocument, Conflict, StoreFull, LogFull}
use Rattle.shell_script.specs.declared.replies.Refusal.TheVariants.{TransactionsSpent, Down, Device, BadPage, Memory}
use Rattle.shell_script.specs.declared.replies.CommitLine.{CommitLine}
use Rattle.shell_script.specs.declared.replies.Reply.{Reply}
use Rattle.shell_script.specs.declared.replies.Reply.TheVariants.{Stored, Removed, Maintained, Lists, Vector}
use Rattle.shell_script.specs.declared.replies.Reply.TheVariants.{Query, Tokens, Commits, Done, Refused}

abbrev pub text_fault : TextFault → replies.TextFault
text_fault (BadVector at) = replies.bad_vector at
text_fault (BadQuery at) = replies.bad_query at
text_fault (LongLexeme at) = replies.long_lexeme at
text_fault (LargeVector bytes) = replies.large_vector bytes
text_fault LargeQuery = replies.large_query

abbrev pub refusal : Refusal → replies.Refusal
refusal (NoStatement number) = replies.no_statement number
refusal NoConfiguration = replies.no_configuration
refusal NoDictionary = replies.no_dictionary
refusal (Text fault) = replies.text_refused (text_fault fault)
refusal NoDocument = replies.no_document
refusal (Conflict xid) = replies.conflict xid
refusal StoreFull = replies.store_full
refusal LogFull = replies.log_full
refusal TransactionsSpent = replies.transactions_spent
refusal (Down count) = replies.down count
refusal Device = replies.device
refusal (BadPage page) = replies.bad_page page
refusal Memory = replies.memory

abbrev pub commit_line : CommitLine → replies.CommitLine
commit_line c = record { deleted = c.deleted.items; inserted = c.inserted.items }

abbrev pub reply : Reply → replies.Reply
reply (Stored n) = replies.stored n
reply Removed = replies.removed
reply Maintained = replies.maintained
reply (Lists names) = replies.lists names.items
reply (Vector text) = replies.shows_vector (string_bytes text)
reply (Query text) = replies.shows_query (string_bytes text)
reply (Tokens text) = replies.shows_tokens (tokens_of (string_bytes text))
reply (Commits commits) = replies.shows_commits (map commit_line commits.items)
reply Done = replies.done
reply (Refused why) = replies.refused (refusal why)
