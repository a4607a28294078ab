mod Growing
mod Pieces
mod Moments
mod Replaying
mod Calls
pub mod Runs
