pub mod Packing
pub mod Adding
pub mod Logging
