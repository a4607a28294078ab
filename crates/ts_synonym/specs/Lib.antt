pub mod Synonyms
pub mod Views
