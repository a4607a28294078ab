pub mod Rules
pub mod Mappings
pub mod Known
pub mod Answers
pub mod Phrases
pub mod Parts
pub mod Placing
pub mod Inner
