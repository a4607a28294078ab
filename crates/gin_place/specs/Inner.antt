-- Words that only private functions and proofs use.
pub mod Refusals
pub mod Asked
pub mod Reading
pub mod ReadingItems
pub mod Making
pub mod Logging
pub mod Dividing
pub mod Stepping
