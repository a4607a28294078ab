pub mod Slots
pub mod Adding
pub mod Hands
pub mod Lent
