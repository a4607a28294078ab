mod Places
mod Crash
mod Lengths
mod Born
mod Begun
mod Lists
mod Unique
mod Walking
mod Whole
pub mod Keeping
pub mod Paging
