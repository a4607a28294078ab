pub mod Inner
pub mod Fields
pub mod Reading
pub mod Decoding
pub mod Laws
