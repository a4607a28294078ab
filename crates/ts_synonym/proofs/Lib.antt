pub mod Said
pub mod Kept
pub mod Readings
pub mod Reading
pub mod Lexemes
