-- How a search among children ends.
pub mod Searching
