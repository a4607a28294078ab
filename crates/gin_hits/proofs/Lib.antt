pub mod Noted
mod Searching
mod Verdicts
pub mod ToldHits
pub mod JudgedScan
mod ItemLists
mod NearItems
mod Marked
mod AddedRows
mod OrderedKeys
mod PutInOrder
mod ToldValues
mod JoinedLists
mod KeptItems
mod FittingEntries
mod NotedEntries
mod FoundToward
mod AddedLists
mod AddedEntries
mod TreesNamed
pub mod MappedLists
