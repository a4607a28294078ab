-- How the lists of a page lie in memory: what no caller sees.
pub mod Cuts
pub mod Joins
