pub mod Rules
pub mod Lines
pub mod Faults
pub mod Views
pub mod Walked
pub mod Laws
pub mod Inner
