pub mod Inner
pub mod Fields
pub mod Items
pub mod Forms
pub mod Bodies
pub mod Reading
pub mod Decoding
pub mod Laws
