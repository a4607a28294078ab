-- Words that only private functions and proofs use.
pub mod Faults
pub mod Reads
pub mod Known
pub mod Refusals
pub mod Making
pub mod LogFiles
