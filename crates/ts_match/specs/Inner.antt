-- Definitions that only private functions and proofs reach.
pub mod Stacks
pub mod Plan
pub mod Ranges
pub mod Pass
pub mod Seen
pub mod BitSets
pub mod Heights
pub mod Phrases
pub mod Setting
pub mod Weighing
