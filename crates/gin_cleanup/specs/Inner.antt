-- Words that only private functions and proofs use.
pub mod Shifting
pub mod Between
pub mod Noting
pub mod Stepping
