pub mod Frames
pub mod Parsing
pub mod Lexer
pub mod Reader
pub mod Built
pub mod Pieces
