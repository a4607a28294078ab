-- Public is what the proofs of other crates may cite.
pub mod Right
pub mod Ways
pub mod Found
pub mod FreshRows
pub mod Moves
pub mod Serving
mod AddedPairs
pub mod Pairs
pub mod Shifts
pub mod Lists
mod Heights
pub mod WaysLead
mod FreshSteps
mod WorkedMoves
pub mod TreeSteps
pub mod NamesStay
pub mod TreePages
mod WorkedTreeSteps
