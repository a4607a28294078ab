pub mod Begun
pub mod Steps
pub mod Looks
pub mod Holds
pub mod Notes
pub mod Heads
pub mod Parts
pub mod Ways
