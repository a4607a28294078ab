-- Words that only private functions and proofs use.
pub mod Asked
pub mod Deleting
pub mod Finding
pub mod Unlinked
pub mod Freeing
pub mod Logging
pub mod Reading
pub mod Sweeping
pub mod HoldingNext
