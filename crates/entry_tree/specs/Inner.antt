-- How far a search on a page has come, what it has found, and the parts of a page.
pub mod Searching
pub mod Spots
pub mod Parts
