-- Places in a list, how an iterator over one is, and where an item is sought.
pub mod Places
pub mod States
pub mod Searching
pub mod Windows
