pub mod Reading
pub mod Best
pub mod Tree
pub mod Walks
pub mod States
pub mod Index
