-- Words that only private functions and proofs use.
pub mod Deleting
pub mod Freeing
pub mod Removing
pub mod Dropping
