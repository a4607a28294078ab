-- Public is what the proofs of other crates may cite.
pub mod Out
pub mod Kept
pub mod Logging
pub mod OutStays
mod Turns
mod Ways
mod WorkedVacuum
mod FreedSlots
mod Covers
pub mod FirstLeaves
pub mod OneEntry
mod DeadHeads
pub mod HeapPages
mod LostChildren
mod LeftPages
mod AmongLists
mod GoneItems
mod DroppedPages
