pub mod CommitBytes
pub mod Beginnings
