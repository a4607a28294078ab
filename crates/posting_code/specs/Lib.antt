pub mod Inner
pub mod Faults
pub mod Uniting
pub mod Cutting
pub mod Dividing
