pub mod Groups
pub mod Trees
pub mod Removal
pub mod Limits
pub mod Made
pub mod Making
pub mod Laws
pub mod Inner
