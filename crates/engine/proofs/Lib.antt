pub mod Logs
pub mod Growing
pub mod Works
mod Due
pub mod Doing
pub mod Causing
pub mod Ending
pub mod Listing
pub mod Statements
pub mod Storing
pub mod LawfulWork
pub mod Openings
pub mod Searching
pub mod PinsRisen
pub mod Paths
pub mod Carrying
pub mod Choosing
pub mod Asking
pub mod ReadSteps
pub mod SnapshotReads
pub mod IndexReads
pub mod SnapshotNames
pub mod Plain
pub mod Starting
pub mod Entering
pub mod HeadChanges
pub mod StepSeen
pub mod Marking
pub mod LawfulMarks
pub mod Logging
pub mod Standings
pub mod Placing
pub mod Parts
pub mod PartPuts
pub mod NewPuts
pub mod Puts
pub mod Running
pub mod Lawful
pub mod LawfulBefore
pub mod HeapPagesKept
pub mod Putting
pub mod RowsKept
pub mod RowPages
pub mod AddedRows
pub mod Linking
pub mod LinkAnswers
pub mod ListEnds
pub mod DocumentKeys
pub mod Indexes
pub mod RowPuts
mod PendingMoved
pub mod Cleanups
mod AtWork
mod Sweeping
mod Tidying
mod Since
mod DeadLogs
mod Stopped
mod DeadKept
mod Vacuumed
mod Maintained
mod VacuumSteps
