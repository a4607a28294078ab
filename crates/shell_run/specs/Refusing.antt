-- The refusals that the errors of a store are printed as.
use Rattle.shell_script.specs.Replies.{Refusal, no_document, conflict, store_full, log_full, transactions_spent, down}
use Rattle.shell_script.specs.Replies.{device, bad_page, memory}
use Rattle.engine.specs.declared.error.DbError.{DbError}
use Rattle.engine.specs.declared.error.DbError.TheVariants.{NoDocument, Conflict, StoreFull, LogFull, XidsSpent, Down}
use Rattle.engine.specs.declared.error.DbError.TheVariants.{DiskFault, BadPage, OutOfMemory}

abbrev pub refusal_for : DbError → Refusal
refusal_for NoDocument = no_document
refusal_for (Conflict xid) = conflict xid
refusal_for StoreFull = store_full
refusal_for LogFull = log_full
refusal_for XidsSpent = transactions_spent
refusal_for (Down fault) = down fault
refusal_for DiskFault = device
refusal_for (BadPage page) = bad_page page
refusal_for OutOfMemory = memory
