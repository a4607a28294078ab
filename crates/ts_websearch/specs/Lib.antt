pub mod Items
pub mod Rows
pub mod Made
pub mod Laws
pub mod Inner
