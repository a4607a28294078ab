pub mod Members
pub mod Lists
pub mod Words
pub mod Lowered
pub mod Answers
